-- What a pipe of a tree's plan reads is written by pipes before it.
use Rattle.std.proofs.Common.{◌≡◌, ◌⊎◌, inl, inr, ⊎_elim, ℕ, zero, suc, ◌+◌, ◌-◌, ◌<◌, List, [], ◌∷◌, ◌++◌, length, map, get_or, take, Bool, true, false, ◌||◌, not, refl, sym, ap, ◌∙◌, subst, arith, eqb, eq-eqb, if◌then◌else◌, true≢false, append_assoc, length-append}
use Rattle.std.specs.Prelude.{reverse}
use Rattle.std.specs.List.{list_all, list_any}
use Rattle.std.proofs.lemmas.Bool.{and_parts, eqb-true, and_from, or_right, or_left}
use Rattle.std.proofs.lemmas.List.{get_or-map, length-map, length-reverse, take-append-le, take-map, get_or-append-add, get_or_append_left}
use Rattle.std.proofs.lemmas.List.Folds.{list_all-map, list_any-append}
use Rattle.std.proofs.Math.Seq.{get_or-append_seam, take-append-add, take-append_seam}
use mathlib.Core.List.{reverse-cons}
use mathlib.Core.Logic.{dite}
use native.Mathlib.Decide.{dec_le}
use Rattle.join_graph.specs.declared.tree.Link.{Link}
use Rattle.join_graph.specs.JoinList.{Extends, HasParents}
use Rattle.rpt_base.specs.Lists.{has}
use Rattle.transfer_core.specs.declared.plan.Pipe.{Pipe}
use Rattle.transfer_core.specs.declared.plan.Port.{Port}
use Rattle.transfer_core.specs.Plans.{are_written, is_written, no_pipe}
use Rattle.transfer_plan.specs.declared.region.Region.TheVariants as region
use Rattle.transfer_plan.specs.TransferPlan.{backward_pipe, child_of, children, forward_pipe, has_keys, members, no_link, number_of, parent_of, pipes, port}
use Rattle.transfer_plan.proofs.Numbers.{has_here}
use Rattle.rpt_base.proofs.MemberFacts.{has-kept, has-append}

-- one of some links
unfoldable pub Among : Link → List Link → Type 0
Among l [] = ⊥
Among l (x ∷ xs) = (x ≡ l) ⊎ Among l xs

pub has_cases : (x y : ℕ) (ys : List ℕ) (P : Type 0) → has x (y ∷ ys) ≡ true → (x ≡ y → P) → (has x ys ≡ true → P) → P
has_cases x y ys P h here there = by (eqb x y) refl h
  where
    by : (b : Bool) → eqb x y ≡ b → (b || has x ys) ≡ true → P
    by true e h = here (eqb-true x y e)
    by false e h = there h

has_left : (x : ℕ) (xs ys : List ℕ) → has x xs ≡ true → has x (xs ++ ys) ≡ true
has_left x xs ys h = has-append x xs ys ∙ or_left (has x xs) (has x ys) h

has_right : (x : ℕ) (xs ys : List ℕ) → has x ys ≡ true → has x (xs ++ ys) ≡ true
has_right x xs ys h = has-append x xs ys ∙ or_right (has x xs) (has x ys) h

pub has_reverse : (x : ℕ) (xs : List ℕ) → has x xs ≡ true → has x (reverse xs) ≡ true
has_reverse x [] h = h
has_reverse x (y ∷ ys) h = ap (has x) (reverse-cons y ys) ∙ has_cases x y ys (has x (reverse ys ++ y ∷ []) ≡ true) h
    (λ e. has_right x (reverse ys) (y ∷ []) (has_here x y [] e))
    (λ k. has_left x (reverse ys) (y ∷ []) (has_reverse x ys k))

pub has_at : (xs : List ℕ) (k : ℕ) → k < length xs → has (get_or xs k 0) xs ≡ true
has_at [] k l = absurd (omega arith)
has_at (x ∷ xs) zero l = has_here x x xs refl
has_at (x ∷ xs) (suc k) l = has-kept (get_or xs k 0) x xs (has_at xs k (omega arith))

pub among_child : (l : Link) (ls : List Link) → Among l ls → has l.child (map (λ m. m.child) ls) ≡ true
unfolding Among
among_child l [] h = absurd h
among_child l (m ∷ ls) h = ⊎_elim (λ e. has_here l.child m.child (map (λ m. m.child) ls) (ap (λ (x : Link). x.child) (sym e))) (λ k. has-kept l.child m.child (map (λ m. m.child) ls) (among_child l ls k)) h

-- a test that each child of r passes
pub all_children : (f : ℕ → Bool) (r : ℕ) (ls : List Link) → ((l : Link) → Among l ls → l.parent ≡ r → f l.child ≡ true) → list_all f (children ls r) ≡ true
unfolding Among
all_children f r [] h = refl
all_children f r (l ∷ ls) h = by (eqb l.parent r) refl (all_children f r ls (λ m a. h m (inr a))) (h l (inl refl))
  where
    by : (b : Bool) → eqb l.parent r ≡ b → list_all f (children ls r) ≡ true → (l.parent ≡ r → f l.child ≡ true) → list_all f (children (l ∷ ls) r) ≡ true
    by true e more here = rw e (and_from (f l.child) (list_all f (children ls r)) (here (eqb-true l.parent r e)) more)
    by false e more here = rw e more

pub is_child : (l : Link) (ls : List Link) → Among l ls → has l.child (children ls l.parent) ≡ true
unfolding Among
is_child l [] h = absurd h
is_child l (m ∷ ls) h = by (eqb m.parent l.parent) refl (⊎_elim (λ e. inl e) (λ k. inr (is_child l ls k)) h)
  where
    by : (b : Bool) → eqb m.parent l.parent ≡ b → (m ≡ l) ⊎ (has l.child (children ls l.parent) ≡ true) → has l.child (children (m ∷ ls) l.parent) ≡ true
    by true e (inl same) = rw e (has_here l.child m.child (children ls l.parent) (ap (λ (x : Link). x.child) (sym same)))
    by true e (inr k) = rw e (has-kept l.child m.child (children ls l.parent) k)
    by false e (inl same) = absurd (true≢false (sym (eq-eqb m.parent l.parent (ap (λ (x : Link). x.parent) same)) ∙ e))
    by false e (inr k) = rw e k

-- ---- a relation's children come after it in the list, and its parent before it
module _ (links : List Link) where
  abbrev Below : List ℕ → Type 0
  Below [] = Unit {0}
  Below (r ∷ rest) = ((l : Link) → Among l links → l.parent ≡ r → has l.child rest ≡ true) × Below rest

  below : (n : ℕ) (listed : List ℕ) (ls : List Link) → Extends n listed ls → ((l : Link) → Among l links → (has l.parent listed ≡ true) ⊎ Among l ls) → Below (map (λ l. l.child) ls)
  unfolding Among
  below n listed [] h left = tt
  below n listed (m ∷ ls) h left = (
    (λ l a e. ⊎_elim
        (λ old. absurd (true≢false (sym old ∙ ap (λ (x : ℕ). has x listed) e ∙ h.1)))
        (λ new. ⊎_elim
        (λ same. absurd (true≢false (sym h.2 ∙ ap (λ (x : ℕ). has x listed) (ap (λ (x : Link). x.parent) same ∙ e) ∙ h.1)))
        (λ later. among_child l ls later) new) (left l a)),
    below n (m.child ∷ listed) ls h.3 (λ l a. ⊎_elim
        (λ old. inl (has-kept l.parent m.child listed old))
        (λ new. ⊎_elim
        (λ same. inl (has-kept l.parent m.child listed (ap (λ (x : Link). has x.parent listed) (sym same) ∙ h.2)))
        (λ later. inr later) new) (left l a)),
  )

  -- in the reversed list the children stand before
  abbrev Before : List ℕ → ℕ → Type 0
  Before rs p = (l : Link) → Among l links → l.parent ≡ get_or rs p 0 → has l.child (take p rs) ≡ true

  snoc : (R : List ℕ) (r : ℕ) → ((p : ℕ) → p < length R → Before R p) → ((l : Link) → Among l links → l.parent ≡ r → has l.child R ≡ true) → (p : ℕ) → p < length R + 1 → Before (R ++ r ∷ []) p
  snoc R r old new p less l a e = dite (dec_le (length R) p)
      (λ past. let same : p ≡ length R = omega arith in
      ap (λ (k : ℕ). has l.child (take k (R ++ r ∷ []))) same ∙ ap (has l.child) (take-append_seam R (r ∷ []))
      ∙ new l a (e ∙ ap (λ (k : ℕ). get_or (R ++ r ∷ []) k 0) same ∙ get_or-append_seam R r [] 0))
      (λ in_front. let inside : p < length R = omega arith in
      ap (has l.child) (take-append-le p R (r ∷ []) (omega arith)) ∙ old p inside l a (e ∙ get_or_append_left R (r ∷ []) 0 p inside))

  before : (rs : List ℕ) → Below rs → (p : ℕ) → p < length (reverse rs) → Before (reverse rs) p
  before [] b p less = absurd (omega (arith, less, length-reverse {A = ℕ} []))
  before (r ∷ rest) b p less = subst (λ (X : List ℕ). Before X p) (sym (reverse-cons r rest))
      (snoc (reverse rest) r (before rest b.1) (λ l a e. has_reverse l.child rest (b.0 l a e)) p (omega (arith, less, length-reverse (r ∷ rest), length-reverse rest)))

-- the parent of each link is listed before its child
parent_before : (n : ℕ) (listed pre : List ℕ) (ls : List Link) → Extends n listed ls → ((x : ℕ) → has x listed ≡ true → has x pre ≡ true) → (k : ℕ) → k < length ls
    → has (get_or ls k no_link).parent (pre ++ take k (map (λ l. l.child) ls)) ≡ true
parent_before n listed pre [] h sub k less = absurd (omega arith)
parent_before n listed pre (l ∷ ls) h sub zero less = has_left l.parent pre [] (sub l.parent h.2)
parent_before n listed pre (l ∷ ls) h sub (suc k) less =
    ap (has (get_or ls k no_link).parent) (sym (append_assoc pre (l.child ∷ []) (take k (map (λ l. l.child) ls))))
    ∙ parent_before n (l.child ∷ listed) (pre ++ l.child ∷ []) ls h.3
    (λ x m. has_cases x l.child listed (has x (pre ++ l.child ∷ []) ≡ true) m (λ e. has_right x pre (l.child ∷ []) (has_here x l.child [] e)) (λ old. has_left x pre (l.child ∷ []) (sub x old))) k (omega arith)

-- so it is one of the list
pub parent_listed : (n : ℕ) (listed pre : List ℕ) (ls : List Link) → Extends n listed ls → ((x : ℕ) → has x listed ≡ true → has x pre ≡ true) → (l : Link) → Among l ls → has l.parent (pre ++ map (λ m. m.child) ls) ≡ true
unfolding Among
parent_listed n listed pre [] h sub l a = absurd a
parent_listed n listed pre (m ∷ ls) h sub l a = ⊎_elim
    (λ same. has_left l.parent pre (map (λ m. m.child) (m ∷ ls)) (sub l.parent (ap (λ (x : Link). has x.parent listed) (sym same) ∙ h.2)))
    (λ later. ap (has l.parent) (sym (append_assoc pre (m.child ∷ []) (map (λ m. m.child) ls)))
    ∙ parent_listed n (m.child ∷ listed) (pre ++ m.child ∷ []) ls h.3
    (λ x k. has_cases x m.child listed (has x (pre ++ m.child ∷ []) ≡ true) k (λ e. has_right x pre (m.child ∷ []) (has_here x m.child [] e)) (λ old. has_left x pre (m.child ∷ []) (sub x old))) l later) a

-- no link leads to a relation that is listed before
pub not_listed : (n : ℕ) (listed : List ℕ) (ls : List Link) → Extends n listed ls → (l : Link) → Among l ls → has l.child listed ≡ false
unfolding Among
not_listed n listed [] h l a = absurd a
not_listed n listed (m ∷ ls) h l a = ⊎_elim (λ e. ap (λ (x : Link). has x.child listed) (sym e) ∙ h.1)
    (λ k. by (has l.child listed) refl (not_listed n (m.child ∷ listed) ls h.3 l k)) a
  where
    by : (b : Bool) → has l.child listed ≡ b → has l.child (m.child ∷ listed) ≡ false → has l.child listed ≡ false
    by true e f = absurd (true≢false (sym (has-kept l.child m.child listed e) ∙ f))
    by false e f = e

pub among_at : (ls : List Link) (k : ℕ) → k < length ls → Among (get_or ls k no_link) ls
unfolding Among
among_at [] k l = absurd (omega arith)
among_at (x ∷ xs) zero l = inl refl
among_at (x ∷ xs) (suc k) l = inr (among_at xs k (omega arith))

-- a region that the pipe of one of these relations writes
hit : (f : ℕ → Pipe) (x : ℕ) (rs : List ℕ) (o : ℕ) → has o rs ≡ true → list_any (λ (a : Port). eqb a.region x) (f o).writes ≡ true → is_written (map f rs) x ≡ true
hit f x [] o h w = cc h
hit f x (r ∷ rs) o h w = has_cases o r rs (is_written (map f (r ∷ rs)) x ≡ true) h
    (λ e. or_left (list_any (λ (a : Port). eqb a.region x) (f r).writes) (is_written (map f rs) x) (ap (λ (z : ℕ). list_any (λ (a : Port). eqb a.region x) (f z).writes) (sym e) ∙ w))
    (λ k. or_right (list_any (λ (a : Port). eqb a.region x) (f r).writes) (is_written (map f rs) x) (hit f x rs o k w))

module _ (n root : ℕ) (links : List Link) (keyed : Bool) (items : List ℕ) (parents : HasParents n root links) where
  abbrev f : ℕ → Pipe
  f = forward_pipe root links keyed items

  abbrev b : ℕ → Pipe
  b = backward_pipe root links keyed items

  abbrev M : List ℕ
  M = members root links

  row_written : (r : ℕ) → list_any (λ (a : Port). eqb a.region (number_of root links keyed (region.Forward r))) (f r).writes ≡ true
  row_written r = or_left _ _ (eq-eqb (number_of root links keyed (region.Forward r)) (number_of root links keyed (region.Forward r)) refl)

  keys_written : (r : ℕ) → has_keys root links keyed r ≡ true → list_any (λ (a : Port). eqb a.region (number_of root links keyed (region.ForwardKeys r))) (f r).writes ≡ true
  keys_written r on = or_right _ _ (go (has_keys root links keyed r) on)
    where
      go : (c : Bool) → c ≡ true → list_any (λ (a : Port). eqb a.region (number_of root links keyed (region.ForwardKeys r))) (if c then port root links keyed (region.ForwardKeys r) (child_of root links keyed items r) ∷ [] else []) ≡ true
      go true e = or_left _ _ (eq-eqb (number_of root links keyed (region.ForwardKeys r)) (number_of root links keyed (region.ForwardKeys r)) refl)
      go false e = absurd (true≢false (sym e))

  kids_written : (c : ℕ) (cs : List ℕ) → has c cs ≡ true → list_any (λ (a : Port). eqb a.region (number_of root links keyed (region.BackwardKeys c))) (map (λ o. port root links keyed (region.BackwardKeys o) (parent_of root links keyed items o)) cs) ≡ true
  kids_written c [] h = cc h
  kids_written c (o ∷ cs) h = has_cases c o cs _ h
      (λ e. or_left _ _ (eq-eqb (number_of root links keyed (region.BackwardKeys o)) (number_of root links keyed (region.BackwardKeys c)) (ap (λ (z : ℕ). number_of root links keyed (region.BackwardKeys z)) (sym e))))
      (λ k. or_right _ _ (kids_written c cs k))

  down_written : (r c : ℕ) → keyed ≡ true → has c (children links r) ≡ true → list_any (λ (a : Port). eqb a.region (number_of root links keyed (region.BackwardKeys c))) (b r).writes ≡ true
  down_written r c on h = or_right _ _ (go keyed on)
    where
      go : (k : Bool) → k ≡ true → list_any (λ (a : Port). eqb a.region (number_of root links keyed (region.BackwardKeys c))) (if k then map (λ o. port root links keyed (region.BackwardKeys o) (parent_of root links keyed items o)) (children links r) else []) ≡ true
      go true e = kids_written c (children links r) h
      go false e = absurd (true≢false (sym e))

  pub not_root : (l : Link) → Among l links → keyed ≡ true → has_keys root links keyed l.child ≡ true
  not_root l a on = and_from keyed (not (eqb l.child root)) on (ap not (by (eqb l.child root) refl (not_listed n (root ∷ []) links parents.extends l a)))
    where
      by : (c : Bool) → eqb l.child root ≡ c → has l.child (root ∷ []) ≡ false → eqb l.child root ≡ false
      by true e h = absurd (true≢false (sym (or_left (eqb l.child root) false e) ∙ h))
      by false e h = e

  tree_below : Below links M
  tree_below = (
    (λ l a e. among_child l links a),
    below links n (root ∷ []) links parents.extends (λ l a. inr a),
  )

  forward_reads : (p : ℕ) → p < length (reverse M) → list_all (λ (a : Port). is_written (map f (take p (reverse M))) a.region) (f (get_or (reverse M) p 0)).reads ≡ true
  forward_reads p less = go keyed refl
    where
      go : (k : Bool) → keyed ≡ k → list_all (λ (a : Port). is_written (map f (take p (reverse M))) a.region) (if k then map (λ c. port root links keyed (region.ForwardKeys c) (parent_of root links keyed items c)) (children links (get_or (reverse M) p 0)) else []) ≡ true
      go true on = list_all-map (λ (a : Port). is_written (map f (take p (reverse M))) a.region) (λ c. port root links keyed (region.ForwardKeys c) (parent_of root links keyed items c)) (children links (get_or (reverse M) p 0))
          ∙ all_children (λ c. is_written (map f (take p (reverse M))) (number_of root links keyed (region.ForwardKeys c))) (get_or (reverse M) p 0) links
          (λ l a e. hit f _ (take p (reverse M)) l.child (before links M tree_below p less l a e) (keys_written l.child (not_root l a on)))
      go false off = refl

  done : ℕ → List Pipe
  done i = map f (reverse M) ++ map b (take i M)

  parent_written : (i : ℕ) → i < length M → has_keys root links keyed (get_or M i 0) ≡ true → is_written (map b (take i M)) (number_of root links keyed (region.BackwardKeys (get_or M i 0))) ≡ true
  parent_written zero less on = absurd (true≢false (sym (and_parts keyed (not (eqb root root)) on).1 ∙ ap not (eq-eqb root root refl)))
  parent_written (suc k) less on =
      let l : Link = get_or links k no_link in
      let inside : k < length links = omega (arith, less, length-map links (λ (m : Link). m.child)) in
      let is : get_or (map (λ m. m.child) links) k 0 ≡ l.child = get_or-map (λ (m : Link). m.child) links k no_link 0 inside in
      ap (λ (r : ℕ). is_written (map b (take (suc k) M)) (number_of root links keyed (region.BackwardKeys r))) is
      ∙ hit b _ (take (suc k) M) l.parent (parent_before n (root ∷ []) (root ∷ []) links parents.extends (λ x h. h) k inside) (down_written l.parent l.child (and_parts keyed _ on).0 (is_child l links (among_at links k inside)))

  backward_reads : (i : ℕ) → i < length M → list_all (λ (a : Port). is_written (done i) a.region) (b (get_or M i 0)).reads ≡ true
  unfolding done
  backward_reads i less =
      let r : ℕ = get_or M i 0 in
      and_from _ _
      (list_any-append _ (map f (reverse M)) (map b (take i M)) ∙ or_left _ _ (hit f _ (reverse M) r (has_reverse r M (has_at M i less)) (row_written r)))
      (go (has_keys root links keyed (get_or M i 0)) refl)
    where
      go : (k : Bool) → has_keys root links keyed (get_or M i 0) ≡ k → list_all (λ (a : Port). is_written (map f (reverse M) ++ map b (take i M)) a.region) (if k then port root links keyed (region.BackwardKeys (get_or M i 0)) (child_of root links keyed items (get_or M i 0)) ∷ [] else []) ≡ true
      go true on = and_from _ true (list_any-append _ (map f (reverse M)) (map b (take i M)) ∙ or_right _ _ (parent_written i less on)) refl
      go false off = refl

  -- what each pipe reads is written by pipes before it
  pub reads_earlier : (p : ℕ) → p < length (pipes root links keyed items) → are_written (pipes root links keyed items) p ≡ true
  unfolding done
  reads_earlier p less =
      let X : List Pipe = map f (reverse M) in let Y : List Pipe = map b M in
      dite (dec_le (length X) p)
      (λ past. let i : ℕ = p - length X in let at : p ≡ length X + i = omega arith in
      let inside : i < length M = omega (arith, less, length-append X Y, length-map M b) in
      ap (are_written (X ++ Y)) at
      ∙ (λ k. list_all (λ (a : Port). is_written (take-append-add X Y i k) a.region) (get_or-append-add X Y i no_pipe k).reads)
      ∙ (λ k. list_all (λ (a : Port). is_written (X ++ take-map b i M k) a.region) (get_or-map b M i 0 no_pipe inside k).reads)
      ∙ backward_reads i inside)
      (λ front. let inside : p < length X = omega arith in
      let there : p < length (reverse M) = omega (arith, inside, length-map (reverse M) f) in
      (λ k. list_all (λ (a : Port). is_written (take-append-le p X Y (omega arith) k) a.region) (get_or_append_left X Y no_pipe p inside k).reads)
      ∙ (λ k. list_all (λ (a : Port). is_written (take-map f p (reverse M) k) a.region) (get_or-map f (reverse M) p 0 no_pipe there k).reads)
      ∙ forward_reads p there)
