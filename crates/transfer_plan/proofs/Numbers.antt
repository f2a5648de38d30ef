-- The regions of a tree's plan are all different, so each is numbered by its place.
use Rattle.std.proofs.Common.{◌≡◌, ℕ, zero, suc, ◌+◌, ◌<◌, ◌≤◌, inl, inr, List, [], ◌∷◌, ◌++◌, length, map, Bool, true, false, ◌||◌, refl, sym, ap, ◌∙◌, arith, cond, eqb, eq-eqb, ne_eqb, if◌then◌else◌, true≢false, get_or}
use Rattle.std.specs.Prelude.{reverse}
use Rattle.std.specs.List.{flat_map, position_or_len}
use Rattle.std.proofs.lemmas.Bool.{cases_Bool}
use Rattle.std.proofs.lemmas.List.Sums.{position_or_len_is}
use Rattle.std.proofs.lemmas.List.Concat.{flat_map-cons}
use mathlib.Core.List.{reverse-cons}
use mathlib.Core.Logic.{dite}
use native.Mathlib.Decide.{ℕ_discrete}
use Rattle.join_graph.specs.declared.tree.Link.{Link}
use Rattle.join_graph.specs.JoinList.{Extends, HasParents}
use Rattle.rpt_base.specs.Lists.{has}
use Rattle.rpt_base.proofs.MemberFacts.{has-kept}
use Rattle.transfer_core.specs.Counts.{only, times, total}
use Rattle.transfer_core.proofs.Sums.{only_no, only_yes, total-append}
use Rattle.transfer_plan.specs.declared.region.Region.{Region}
use Rattle.transfer_plan.specs.declared.region.Region.TheVariants as region
use Rattle.transfer_plan.specs.TransferPlan.{backward_regions, children, forward_regions, has_keys, is_same, members, regions}

-- ---- regions that are the same
pub same_refl : (x : Region) → is_same x x ≡ true
same_refl (region.Forward r) = eq-eqb r r refl
same_refl (region.ForwardKeys r) = eq-eqb r r refl
same_refl (region.Backward r) = eq-eqb r r refl
same_refl (region.BackwardKeys r) = eq-eqb r r refl

-- how often a region stands in a list
abbrev pub often : Region → List Region → ℕ
often x [] = 0
often x (y ∷ ys) = cond (is_same x y) 1 0 + often x ys

often-append : (x : Region) (xs ys : List Region) → often x (xs ++ ys) ≡ often x xs + often x ys
often-append x [] ys = omega arith
often-append x (z ∷ xs) ys = omega (arith, often-append x xs ys)

often-flat : (x : Region) (G : ℕ → List Region) (rs : List ℕ) → often x (flat_map G rs) ≡ total (λ r. often x (G r)) rs
often-flat x G [] = refl
often-flat x G (r ∷ rs) = ap (often x) (flat_map-cons G r rs) ∙ often-append x (G r) (flat_map G rs) ∙ ap (λ (k : ℕ). often x (G r) + k) (often-flat x G rs)

-- ---- sums over relations
total-reverse : (g : ℕ → ℕ) (rs : List ℕ) → total g (reverse rs) ≡ total g rs
total-reverse g [] = refl
total-reverse g (r ∷ rs) = ap (total g) (reverse-cons r rs) ∙ total-append g (reverse rs) (r ∷ []) ∙ omega (arith, total-reverse g rs)

total_le : (g h : ℕ → ℕ) → ((r : ℕ) → g r ≤ h r) → (rs : List ℕ) → total g rs ≤ total h rs
total_le g h le [] = omega arith
total_le g h le (r ∷ rs) = omega (arith, le r, total_le g h le rs)

total_only : (o : ℕ) (rs : List ℕ) → total (λ r. only r o) rs ≡ times o rs
total_only o [] = refl
total_only o (r ∷ rs) = ap (λ (n : ℕ). only r o + n) (total_only o rs)

total_none : (g : ℕ → ℕ) → ((r : ℕ) → g r ≡ 0) → (rs : List ℕ) → total g rs ≡ 0
total_none g z [] = refl
total_none g z (r ∷ rs) = omega (arith, z r, total_none g z rs)

-- ---- the tree's relations are all different
child : Link → ℕ
child l = l.child

pub has_here : (x y : ℕ) (ys : List ℕ) → x ≡ y → has x (y ∷ ys) ≡ true
has_here x y ys e = ap (λ b. b || has x ys) (eq-eqb x y e)

children_once : (n : ℕ) (listed : List ℕ) (links : List Link) → Extends n listed links → (o : ℕ) → (times o (map (λ l. l.child) links) ≤ 1) × (has o listed ≡ true → times o (map (λ l. l.child) links) ≡ 0)
children_once n listed [] h o = (omega arith, λ _. refl)
children_once n listed (l ∷ ls) h o = let t = children_once n (l.child ∷ listed) ls h.3 o in dite (ℕ_discrete l.child o)
    (λ e. (omega (arith, only_yes o l.child e, t.1 (has_here o l.child listed (sym e))), λ k. absurd (true≢false (sym k ∙ ap (λ (x : ℕ). has x listed) (sym e) ∙ h.1))))
    (λ ne. (omega (arith, only_no o l.child ne, t.0), λ k. omega (arith, only_no o l.child ne, t.1 (has-kept o l.child listed k))))

module _ (n root : ℕ) (links : List Link) (parents : HasParents n root links) where
  pub members_once : (o : ℕ) → times o (members root links) ≤ 1
  members_once o = let t = children_once n (root ∷ []) links parents.extends o in dite (ℕ_discrete root o)
      (λ e. omega (arith, only_yes o root e, t.1 (has_here o root [] (sym e))))
      (λ ne. omega (arith, only_no o root ne, t.0))

  -- a relation is a child once
  pub child_once : (o : ℕ) → times o (map (λ l. l.child) links) ≤ 1
  child_once o = (children_once n (root ∷ []) links parents.extends o).0

-- ---- each child has one parent
abbrev one_if : Bool → ℕ
one_if b = cond b 1 0

child_step : (c : ℕ) (l : Link) (ls : List Link) (r : ℕ) → times c (children (l ∷ ls) r) ≡ cond (eqb l.parent r) (only l.child c) 0 + times c (children ls r)
child_step c l ls r = by (eqb l.parent r) refl
  where
    by : (b : Bool) → eqb l.parent r ≡ b → times c (children (l ∷ ls) r) ≡ cond b (only l.child c) 0 + times c (children ls r)
    by true e = rw e refl
    by false e = rw e omega arith

parent_sum : (c : ℕ) (l : Link) (ls : List Link) (rs : List ℕ) → total (λ r. times c (children (l ∷ ls) r)) rs ≤ cond (eqb l.child c) (times l.parent rs) 0 + total (λ r. times c (children ls r)) rs
parent_sum c l ls [] = omega arith
parent_sum c l ls (r ∷ rs) = omega (arith, child_step c l ls r, parent_sum c l ls rs, part (eqb l.child c) refl)
  where
    part : (b : Bool) → eqb l.child c ≡ b → cond (eqb l.parent r) (only l.child c) 0 + cond b (times l.parent rs) 0 ≤ cond b (times l.parent (r ∷ rs)) 0
    part true e = dite (ℕ_discrete l.parent r)
        (λ p. omega (arith, ap (λ b. cond b (only l.child c) 0) (eq-eqb l.parent r p), ap one_if e, only_yes l.parent r (sym p)))
        (λ ne. omega (arith, ap (λ b. cond b (only l.child c) 0) (ne_eqb l.parent r ne)))
    part false e = dite (ℕ_discrete l.parent r)
        (λ p. omega (arith, ap (λ b. cond b (only l.child c) 0) (eq-eqb l.parent r p), ap one_if e))
        (λ ne. omega (arith, ap (λ b. cond b (only l.child c) 0) (ne_eqb l.parent r ne)))

kids_once : (c : ℕ) (rs : List ℕ) → ((o : ℕ) → times o rs ≤ 1) → (links : List Link) → total (λ r. times c (children links r)) rs ≤ times c (map (λ l. l.child) links)
kids_once c rs once [] = omega (arith, total_none (λ r. 0) (λ r. refl) rs)
kids_once c rs once (l ∷ ls) = omega (arith, parent_sum c l ls rs, kids_once c rs once ls, le (eqb l.child c))
  where
    le : (b : Bool) → cond b (times l.parent rs) 0 ≤ cond b 1 0
    le true = once l.parent
    le false = omega arith

-- ---- how often a pipe writes a region
swap : (o r : ℕ) → cond (eqb o r) 1 0 ≡ only r o
swap o r = dite (ℕ_discrete o r)
    (λ e. ap one_if (eq-eqb o r e) ∙ sym (only_yes o r (sym e)))
    (λ ne. ap one_if (ne_eqb o r ne) ∙ sym (only_no o r (λ e. ne (sym e))))

module _ (root : ℕ) (links : List Link) (keyed : Bool) where
  abbrev F : ℕ → List Region
  F = forward_regions root links keyed

  abbrev B : ℕ → List Region
  B = backward_regions root links keyed

  keys_if : (x : Region) (r : ℕ) (b : Bool) → often x (if b then region.ForwardKeys r ∷ [] else []) ≤ cond (is_same x (region.ForwardKeys r)) 1 0
  keys_if x r true = omega arith
  keys_if x r false = omega arith

  forward_often : (x : Region) (r : ℕ) → often x (F r) ≤ cond (is_same x (region.Forward r)) 1 0 + cond (is_same x (region.ForwardKeys r)) 1 0
  forward_often x r = omega (arith, keys_if x r (has_keys root links keyed r))

  kids_none : (x : Region) (cs : List ℕ) → ((c : ℕ) → is_same x (region.BackwardKeys c) ≡ false) → often x (map region.BackwardKeys cs) ≡ 0
  kids_none x [] h = refl
  kids_none x (c ∷ cs) h = omega (arith, ap one_if (h c), kids_none x cs h)

  kids_often : (o : ℕ) (cs : List ℕ) → often (region.BackwardKeys o) (map region.BackwardKeys cs) ≡ times o cs
  kids_often o [] = refl
  kids_often o (c ∷ cs) = omega (arith, swap o c, kids_often o cs)

  kids_if : (x : Region) (cs : List ℕ) (b : Bool) → often x (if b then map region.BackwardKeys cs else []) ≤ often x (map region.BackwardKeys cs)
  kids_if x cs true = omega arith
  kids_if x cs false = omega arith

  backward_often : (x : Region) (r : ℕ) → often x (B r) ≤ cond (is_same x (region.Backward r)) 1 0 + often x (map region.BackwardKeys (children links r))
  backward_often x r = omega (arith, kids_if x (children links r) keyed)

  -- over all pipes
  abbrev M : List ℕ
  M = members root links

  often_all : (x : Region) → often x (regions root links keyed) ≡ total (λ r. often x (F r)) M + total (λ r. often x (B r)) M
  often_all x = often-append x (flat_map F (reverse M)) (flat_map B M) ∙ omega (arith, often-flat x F (reverse M), often-flat x B M, total-reverse (λ r. often x (F r)) M)

  module _ (n : ℕ) (parents : HasParents n root links) where
    once_rows : (x : Region) (o : ℕ) → ((r : ℕ) → often x (F r) ≤ only r o) → ((r : ℕ) → often x (B r) ≡ 0) → often x (regions root links keyed) ≤ 1
    once_rows x o f b = omega (arith, often_all x, total_le (λ r. often x (F r)) (λ r. only r o) f M, total_only o M, members_once n root links parents o, total_none (λ r. often x (B r)) b M)

    -- each region stands once
    pub region_once : (x : Region) → often x (regions root links keyed) ≤ 1
    region_once (region.Forward o) = once_rows (region.Forward o) o (λ r. omega (arith, forward_often (region.Forward o) r, swap o r)) (λ r. omega (arith, backward_often (region.Forward o) r, kids_none (region.Forward o) (children links r) (λ c. refl)))
    region_once (region.ForwardKeys o) = once_rows (region.ForwardKeys o) o (λ r. omega (arith, forward_often (region.ForwardKeys o) r, swap o r)) (λ r. omega (arith, backward_often (region.ForwardKeys o) r, kids_none (region.ForwardKeys o) (children links r) (λ c. refl)))
    region_once (region.Backward o) = omega (
      arith,
      often_all (region.Backward o),
      total_none (λ r. often (region.Backward o) (F r)) (λ r. omega (arith, forward_often (region.Backward o) r)) M,
      total_le (λ r. often (region.Backward o) (B r)) (λ r. only r o) (λ r. omega (arith, backward_often (region.Backward o) r, kids_none (region.Backward o) (children links r) (λ c. refl), swap o r)) M,
      total_only o M,
      members_once n root links parents o,
    )
    region_once (region.BackwardKeys o) = omega (
      arith,
      often_all (region.BackwardKeys o),
      total_none (λ r. often (region.BackwardKeys o) (F r)) (λ r. omega (arith, forward_often (region.BackwardKeys o) r)) M,
      total_le (λ r. often (region.BackwardKeys o) (B r)) (λ r. times o (children links r)) (λ r. omega (arith, backward_often (region.BackwardKeys o) r, kids_often o (children links r))) M,
      kids_once o M (members_once n root links parents) links,
      child_once n root links parents o,
    )

-- ---- so a region's number is its place
often_one : (x : Region) (W : List Region) (k : ℕ) (d : Region) → k < length W → is_same x (get_or W k d) ≡ true → 1 ≤ often x W
often_one x [] k d l e = absurd (omega arith)
often_one x (y ∷ ys) zero d l e = omega (arith, ap one_if e)
often_one x (y ∷ ys) (suc k) d l e = omega (arith, often_one x ys k d (omega arith) e)

often_two : (x : Region) (W : List Region) (k m : ℕ) (d : Region) → k < m → m < length W → is_same x (get_or W k d) ≡ true → is_same x (get_or W m d) ≡ true → 2 ≤ often x W
often_two x [] k m d l h e f = absurd (omega arith)
often_two x (y ∷ ys) zero zero d l h e f = absurd (omega arith)
often_two x (y ∷ ys) zero (suc m) d l h e f = omega (arith, ap one_if e, often_one x ys m d (omega arith) f)
often_two x (y ∷ ys) (suc k) zero d l h e f = absurd (omega arith)
often_two x (y ∷ ys) (suc k) (suc m) d l h e f = omega (arith, often_two x ys k m d (omega arith) (omega arith) e f)

pub place_is : (W : List Region) → ((x : Region) → often x W ≤ 1) → (k : ℕ) (d : Region) → k < length W → position_or_len (is_same (get_or W k d)) W ≡ k
place_is W once k d l = position_or_len_is (is_same (get_or W k d)) W k d (omega arith)
    (λ m less. elim (cases_Bool (is_same (get_or W k d) (get_or W m d))) [
      | inl same ↦ absurd (omega (arith, once (get_or W k d), often_two (get_or W k d) W m k d less l same (same_refl (get_or W k d))))
      | inr other ↦ other
    ])
    (λ _. same_refl (get_or W k d))
