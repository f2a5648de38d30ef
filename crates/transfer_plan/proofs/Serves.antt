-- The regions and the placements of a tree's ports are there, and fit its pipes.
use Rattle.std.proofs.Common.{◌≡◌, ◌⊎◌, inl, inr, ⊎_elim, ℕ, zero, suc, ◌+◌, ◌<◌, List, [], ◌∷◌, ◌++◌, length, map, get_or, All, Bool, true, false, ◌||◌, not, refl, sym, ap, ◌∙◌, subst, arith, cond, eqb, eq-eqb, if◌then◌else◌, true≢false, take, append_assoc}
use Rattle.std.specs.Prelude.{reverse}
use Rattle.std.specs.List.{flat_map, list_any, position_or_len}
use Rattle.std.proofs.lemmas.Bool.{eqb-true, or_right, or_left}
use Rattle.std.proofs.lemmas.List.{map-append, reverse-reverse, take_more}
use Rattle.std.proofs.lemmas.List.Concat.{flat_map-cons}
use Rattle.std.proofs.lemmas.List.Folds.{list_any-append}
use Rattle.std.proofs.lemmas.List.Elements.{All-from_get_or}
use Rattle.join_graph.specs.declared.tree.Link.{Link}
use Rattle.join_graph.specs.JoinList.{Extends, HasParents}
use Rattle.rpt_base.specs.Lists.{has}
use Rattle.transfer_core.specs.declared.plan.Pipe.{Pipe}
use Rattle.transfer_core.specs.Plans.{no_pipe}
use Rattle.transfer_plan.specs.declared.region.Region.{Region}
use Rattle.transfer_plan.specs.declared.region.Region.TheVariants as region
use Rattle.transfer_plan.specs.TransferPlan.{backward_pipe, backward_regions, children, forward_pipe, forward_regions, has_keys, is_same, link_of, members, no_link, pipes, regions}
use Rattle.transfer_plan.proofs.Earlier.{Among, has_at, has_cases, has_reverse, not_listed}
use Rattle.transfer_plan.proofs.Numbers.{has_here}
use Rattle.rpt_base.proofs.MemberFacts.{has-kept}

-- a list that grows by what the next member gives
pub map_more : {A : Type 0} (f : ℕ → A) (xs : List ℕ) (i : ℕ) (before old now : List A) (x : A) → i < length xs → now ≡ old ++ x ∷ [] → old ≡ before ++ map f (take i xs) → x ≡ f (get_or xs i 0) → now ≡ before ++ map f (take (i + 1) xs)
map_more f xs i before old now x less grown was is =
    grown ∙ ap (λ l. l ++ x ∷ []) was ∙ append_assoc before (map f (take i xs)) (x ∷ []) ∙ ap (λ y. before ++ (map f (take i xs) ++ y ∷ [])) is
    ∙ ap (λ l. before ++ l) (sym (ap (map f) (take_more xs i 0 less) ∙ map-append f (take i xs) (get_or xs i 0 ∷ [])))

-- ---- a region that is listed stands at its number
pub same_is : (x y : Region) → is_same x y ≡ true → x ≡ y
same_is (region.Forward r) (region.Forward o) e = ap region.Forward (eqb-true r o e)
same_is (region.ForwardKeys r) (region.ForwardKeys o) e = ap region.ForwardKeys (eqb-true r o e)
same_is (region.Backward r) (region.Backward o) e = ap region.Backward (eqb-true r o e)
same_is (region.BackwardKeys r) (region.BackwardKeys o) e = ap region.BackwardKeys (eqb-true r o e)
same_is x y e = absurd (true≢false (sym e))

pub at_number : (g : Region → ℕ) (x : Region) (W : List Region) → list_any (is_same x) W ≡ true → (position_or_len (is_same x) W < length W) × (get_or (map g W) (position_or_len (is_same x) W) 0 ≡ g x)
at_number g x [] h = absurd (true≢false (sym h))
at_number g x (y ∷ ys) h = by (is_same x y) refl h (at_number g x ys)
  where
    by : (b : Bool) → is_same x y ≡ b → (b || list_any (is_same x) ys) ≡ true → (list_any (is_same x) ys ≡ true → (position_or_len (is_same x) ys < length ys) × (get_or (map g ys) (position_or_len (is_same x) ys) 0 ≡ g x))
        → (cond (not b) (1 + position_or_len (is_same x) ys) 0 < length (y ∷ ys)) × (get_or (map g (y ∷ ys)) (cond (not b) (1 + position_or_len (is_same x) ys) 0) 0 ≡ g x)
    by true e h rest = (omega arith, ap g (sym (same_is x y e)))
    by false e h rest = let t = rest h in let on : 1 + position_or_len (is_same x) ys ≡ suc (position_or_len (is_same x) ys) = omega arith in
        (omega (arith, t.0), ap (λ (k : ℕ). get_or (map g (y ∷ ys)) k 0) on ∙ t.1)

any_flat : (x : Region) (G : ℕ → List Region) (o : ℕ) (rs : List ℕ) → has o rs ≡ true → list_any (is_same x) (G o) ≡ true → list_any (is_same x) (flat_map G rs) ≡ true
any_flat x G o [] h w = absurd (true≢false (sym h))
any_flat x G o (r ∷ rs) h w = ap (list_any (is_same x)) (flat_map-cons G r rs) ∙ list_any-append (is_same x) (G r) (flat_map G rs)
    ∙ has_cases o r rs ((list_any (is_same x) (G r) || list_any (is_same x) (flat_map G rs)) ≡ true) h
    (λ e. or_left (list_any (is_same x) (G r)) _ (ap (λ (z : ℕ). list_any (is_same x) (G z)) (sym e) ∙ w))
    (λ k. or_right (list_any (is_same x) (G r)) _ (any_flat x G o rs k w))

any_key : (c : ℕ) (cs : List ℕ) → has c cs ≡ true → list_any (is_same (region.BackwardKeys c)) (map region.BackwardKeys cs) ≡ true
any_key c [] h = absurd (true≢false (sym h))
any_key c (o ∷ cs) h = has_cases c o cs (list_any (is_same (region.BackwardKeys c)) (map region.BackwardKeys (o ∷ cs)) ≡ true) h
    (λ e. or_left (eqb c o) _ (eq-eqb c o e))
    (λ k. or_right (eqb c o) _ (any_key c cs k))

module _ (root : ℕ) (links : List Link) (keyed : Bool) where
  abbrev F : ℕ → List Region
  F = forward_regions root links keyed

  abbrev B : ℕ → List Region
  B = backward_regions root links keyed

  abbrev M : List ℕ
  M = members root links

  upward : (x : Region) (r : ℕ) → has r M ≡ true → list_any (is_same x) (F r) ≡ true → list_any (is_same x) (regions root links keyed) ≡ true
  upward x r h w = list_any-append (is_same x) (flat_map F (reverse M)) (flat_map B M)
      ∙ or_left (list_any (is_same x) (flat_map F (reverse M))) _ (any_flat x F r (reverse M) (has_reverse r M h) w)

  downward : (x : Region) (r : ℕ) → has r M ≡ true → list_any (is_same x) (B r) ≡ true → list_any (is_same x) (regions root links keyed) ≡ true
  downward x r h w = list_any-append (is_same x) (flat_map F (reverse M)) (flat_map B M)
      ∙ or_right (list_any (is_same x) (flat_map F (reverse M))) _ (any_flat x B r M h w)

  -- the regions of a tree's list are among all
  pub forward_in : (r : ℕ) → has r M ≡ true → list_any (is_same (region.Forward r)) (regions root links keyed) ≡ true
  forward_in r h = upward (region.Forward r) r h (or_left (eqb r r) _ (eq-eqb r r refl))

  pub forward_keys_in : (r : ℕ) → has r M ≡ true → has_keys root links keyed r ≡ true → list_any (is_same (region.ForwardKeys r)) (regions root links keyed) ≡ true
  forward_keys_in r h on = upward (region.ForwardKeys r) r h (go (has_keys root links keyed r) on)
    where
      go : (b : Bool) → b ≡ true → list_any (is_same (region.ForwardKeys r)) (if b then region.ForwardKeys r ∷ [] else []) ≡ true
      go true e = or_left (eqb r r) false (eq-eqb r r refl)
      go false e = absurd (true≢false (sym e))

  pub backward_in : (r : ℕ) → has r M ≡ true → list_any (is_same (region.Backward r)) (regions root links keyed) ≡ true
  backward_in r h = downward (region.Backward r) r h (or_left (eqb r r) _ (eq-eqb r r refl))

  pub backward_keys_in : (r c : ℕ) → has r M ≡ true → keyed ≡ true → has c (children links r) ≡ true → list_any (is_same (region.BackwardKeys c)) (regions root links keyed) ≡ true
  backward_keys_in r c h on k = downward (region.BackwardKeys c) r h (go keyed on)
    where
      go : (b : Bool) → b ≡ true → list_any (is_same (region.BackwardKeys c)) (if b then map region.BackwardKeys (children links r) else []) ≡ true
      go true e = any_key c (children links r) k
      go false e = absurd (true≢false (sym e))

-- ---- what holds of each pipe
pub each_map : {A : Type 0} (f : ℕ → A) (Q : A → Type 0) (d : A) (rs : List ℕ) → ((r : ℕ) → has r rs ≡ true → Q (f r)) → (p : ℕ) → p < length (map f rs) → Q (get_or (map f rs) p d)
each_map f Q d [] h p l = absurd (omega arith)
each_map f Q d (r ∷ rs) h zero l = h r (has_here r r rs refl)
each_map f Q d (r ∷ rs) h (suc p) l = each_map f Q d rs (λ o k. h o (has-kept o r rs k)) p (omega arith)

pub each_append : {A : Type 0} (Q : A → Type 0) (d : A) (xs ys : List A) → ((p : ℕ) → p < length xs → Q (get_or xs p d)) → ((p : ℕ) → p < length ys → Q (get_or ys p d)) → (p : ℕ) → p < length (xs ++ ys) → Q (get_or (xs ++ ys) p d)
each_append Q d [] ys f g p l = g p l
each_append Q d (x ∷ xs) ys f g zero l = f zero (omega arith)
each_append Q d (x ∷ xs) ys f g (suc p) l = each_append Q d xs ys (λ k m. f (suc k) (omega arith)) g p (omega arith)

pub each_flat : {A : Type 0} (Q : A → Type 0) (d : A) (G : ℕ → List A) (rs : List ℕ) → ((r : ℕ) → has r rs ≡ true → (p : ℕ) → p < length (G r) → Q (get_or (G r) p d)) → (p : ℕ) → p < length (flat_map G rs) → Q (get_or (flat_map G rs) p d)
each_flat Q d G [] h p l = absurd (omega arith)
each_flat {A = A} Q d G (r ∷ rs) h p l = subst (λ (ys : List A). (k : ℕ) → k < length ys → Q (get_or ys k d)) (sym (flat_map-cons G r rs))
    (each_append Q d (G r) (flat_map G rs) (h r (has_here r r rs refl)) (each_flat Q d G rs (λ o k. h o (has-kept o r rs k)))) p l

pub each_pipe : (root : ℕ) (links : List Link) (keyed : Bool) (items : List ℕ) (Q : Pipe → Type 0) → ((r : ℕ) → has r (members root links) ≡ true → Q (forward_pipe root links keyed items r)) → ((r : ℕ) → has r (members root links) ≡ true → Q (backward_pipe root links keyed items r))
    → (p : ℕ) → p < length (pipes root links keyed items) → Q (get_or (pipes root links keyed items) p no_pipe)
each_pipe root links keyed items Q f b = let M : List ℕ = members root links in
    each_append Q no_pipe (map (forward_pipe root links keyed items) (reverse M)) (map (backward_pipe root links keyed items) M)
    (each_map (forward_pipe root links keyed items) Q no_pipe (reverse M) (λ r h. f r (ap (has r) (sym (reverse-reverse M)) ∙ has_reverse r (reverse M) h)))
    (each_map (backward_pipe root links keyed items) Q no_pipe M b)

-- ---- links
-- a link stands where its child's link is looked for
pub link_at : (n : ℕ) (listed : List ℕ) (ls : List Link) → Extends n listed ls → (l : Link) → Among l ls → (link_of ls l.child < length ls) × (get_or ls (link_of ls l.child) no_link ≡ l)
unfolding Among
link_at n listed [] h l a = absurd a
link_at n listed (m ∷ ls) h l a = by (eqb m.child l.child) refl a (link_at n (m.child ∷ listed) ls h.3 l)
  where
    by : (b : Bool) → eqb m.child l.child ≡ b → (m ≡ l) ⊎ Among l ls → (Among l ls → (link_of ls l.child < length ls) × (get_or ls (link_of ls l.child) no_link ≡ l))
        → (cond (not b) (1 + link_of ls l.child) 0 < length (m ∷ ls)) × (get_or (m ∷ ls) (cond (not b) (1 + link_of ls l.child) 0) no_link ≡ l)
    by true e a rest = (omega arith, ⊎_elim (λ s. s) (λ k. absurd (true≢false (sym (has_here l.child m.child listed (sym (eqb-true m.child l.child e))) ∙ not_listed n (m.child ∷ listed) ls h.3 l k))) a)
    by false e a rest =
        let t = rest (⊎_elim (λ s. absurd (true≢false (sym (eq-eqb m.child l.child (ap (λ (x : Link). x.child) s)) ∙ e))) (λ k. k) a) in
        let on : 1 + link_of ls l.child ≡ suc (link_of ls l.child) = omega arith in
        (omega (arith, t.0), ap (λ (k : ℕ). get_or (m ∷ ls) k no_link) on ∙ t.1)

-- each child has a link
pub link_with : (c : ℕ) (ls : List Link) → has c (map (λ l. l.child) ls) ≡ true → (l : Link) × Among l ls × (l.child ≡ c)
unfolding Among
link_with c [] h = absurd (true≢false (sym h))
link_with c (m ∷ ls) h = has_cases c m.child (map (λ l. l.child) ls) ((l : Link) × Among l (m ∷ ls) × (l.child ≡ c)) h
    (λ e. (m, inl refl, sym e))
    (λ k. let t = link_with c ls k in (t.0, inr t.1, t.2))

-- a child of r has a link from it
pub child_link : (r c : ℕ) (ls : List Link) → has c (children ls r) ≡ true → (l : Link) × Among l ls × (l.parent ≡ r) × (l.child ≡ c)
unfolding Among
child_link r c [] h = absurd (true≢false (sym h))
child_link r c (m ∷ ls) h = by (eqb m.parent r) refl h (child_link r c ls)
  where
    by : (b : Bool) → eqb m.parent r ≡ b → has c (children (m ∷ ls) r) ≡ true → (has c (children ls r) ≡ true → (l : Link) × Among l ls × (l.parent ≡ r) × (l.child ≡ c)) → (l : Link) × Among l (m ∷ ls) × (l.parent ≡ r) × (l.child ≡ c)
    by true e h rest = let k = rw e at h in has_cases c m.child (children ls r) ((l : Link) × Among l (m ∷ ls) × (l.parent ≡ r) × (l.child ≡ c)) k
        (λ s. (m, inl refl, eqb-true m.parent r e, sym s))
        (λ more. let t = rest more in (t.0, inr t.1, t.2, t.3))
    by false e h rest = let k = rw e at h in let t = rest k in (t.0, inr t.1, t.2, t.3)

-- who is listed and isn't the root is a child
pub member_child : (r root : ℕ) (cs : List ℕ) → has r (root ∷ cs) ≡ true → not (eqb r root) ≡ true → has r cs ≡ true
member_child r root cs h other = has_cases r root cs (has r cs ≡ true) h (λ e. absurd (true≢false (sym other ∙ ap not (eq-eqb r root e)))) (λ k. k)

child_within : (n : ℕ) (listed : List ℕ) (ls : List Link) → Extends n listed ls → (c : ℕ) → has c (map (λ l. l.child) ls) ≡ true → c < n
child_within n listed [] h c k = absurd (true≢false (sym k))
child_within n listed (m ∷ ls) h c k = has_cases c m.child (map (λ l. l.child) ls) (c < n) k
    (λ e. omega (arith, e, h.0))
    (λ more. child_within n (m.child ∷ listed) ls h.3 c more)

-- the relations of a tree's list are among the n
pub member_within : (n root : ℕ) (links : List Link) → HasParents n root links → (r : ℕ) → has r (members root links) ≡ true → r < n
member_within n root links parents r h = has_cases r root (map (λ l. l.child) links) (r < n) h
    (λ e. omega (arith, e, parents.first))
    (λ k. child_within n (root ∷ []) links parents.extends r k)

pub members_within : (n root : ℕ) (links : List Link) → HasParents n root links → All (λ r. r < n) (members root links)
members_within n root links parents = All-from_get_or (λ r. r < n) (members root links) 0 (λ k l. member_within n root links parents (get_or (members root links) k 0) (has_at (members root links) k l))

pub reversed_within : (n root : ℕ) (links : List Link) → HasParents n root links → All (λ r. r < n) (reverse (members root links))
reversed_within n root links parents = let R : List ℕ = reverse (members root links) in
    All-from_get_or (λ r. r < n) R 0 (λ k l. member_within n root links parents (get_or R k 0) (ap (has (get_or R k 0)) (sym (reverse-reverse (members root links))) ∙ has_reverse (get_or R k 0) R (has_at R k l)))
