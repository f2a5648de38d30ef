-- The greedy list for all relations, and for a set and then all, has the greatest weight.
use Rattle.std.proofs.Common.{◌≡◌, ℕ, ◌+◌, ◌<◌, ◌≤◌, Bool, true, List, [], ◌∷◌, ◌++◌, refl, sym, ap, ◌∙◌, subst, inl, inr, eqb, arith}
use Rattle.std.proofs.lemmas.Bool.{eqb-true, or_cases, lt-ltb}
use Rattle.join_graph.specs.declared.tree.Link.{Link}
use Rattle.join_graph.specs.JoinList.{listed_by, Extends, HasParents, BeginsWith, everyone}
use Rattle.rpt_base.specs.Lists.{has}
use Rattle.join_graph.specs.Weights.{total, IsBest}
use Rattle.largest_root.specs.Greedy.{NotBefore, Greedy, IsGreedyList}
use Rattle.rpt_base.proofs.MemberFacts.{has-head}
use Rattle.largest_root.proofs.ExchangeFacts.{Steep, Grows, steepest, steepest_from}
use Rattle.join_graph.proofs.ListFacts.{total-append, append-nil, listed_by-append, listed_by-kept, extends-front, extends-back, extends-join, extends-below, only-root, everyone-below}
use Rattle.rpt_base.proofs.BoolFacts.{same_truth}

grows_from_extends : (n : ℕ) (listed : List ℕ) (ls : List Link) → Extends n listed ls → Grows (everyone n) listed ls
grows_from_extends n listed [] h = tt
grows_from_extends n listed (l ∷ ls) h = (lt-ltb l.child n h.0, h.1, h.2, grows_from_extends n (l.child ∷ listed) ls h.3)

-- the links up to where the set is listed have their children in it
grows_within : (n : ℕ) (set : ℕ → Bool) (listed : List ℕ) (ls : List Link) → Extends n listed ls
    → ((r : ℕ) → has r (listed_by listed ls) ≡ true → set r ≡ true) → Grows set listed ls
grows_within n set listed [] h within = tt
grows_within n set listed (l ∷ ls) h within =
    (within l.child (listed_by-kept l.child (l.child ∷ listed) ls (has-head l.child listed)), h.1, h.2, grows_within n set (l.child ∷ listed) ls h.3 within)

module _ (w : ℕ → ℕ → ℕ) (size : ℕ → ℕ) where
  weight-NotBefore : (i j c p : ℕ) → NotBefore w size i j c p → w i j ≤ w c p
  weight-NotBefore i j c p h = elim h [ inl less ↦ omega arith | inr tie ↦ omega (arith, tie.0) ]

  steep_from_greedy : (set : ℕ → Bool) (listed : List ℕ) (ls : List Link) → Greedy w size set listed ls → Steep w set listed ls
  steep_from_greedy set listed [] g = g
  steep_from_greedy set listed (l ∷ ls) g =
      (g.1, λ i j a b c. weight-NotBefore i j l.child l.parent (g.3 i j a b c), steep_from_greedy set (l.child ∷ listed) ls g.4)

  pub extends_from_greedy : (n : ℕ) (set : ℕ → Bool) (listed : List ℕ) (ls : List Link) → ((r : ℕ) → set r ≡ true → r < n)
      → Greedy w size set listed ls → Extends n listed ls
  extends_from_greedy n set listed [] below g = tt
  extends_from_greedy n set listed (l ∷ ls) below g = (below l.child g.0, g.1, g.2, extends_from_greedy n set (l.child ∷ listed) ls below g.4)

  -- the greedy links list the set, and what was listed before
  greedy-lists : (set : ℕ → Bool) (listed : List ℕ) (ls : List Link) → Greedy w size set listed ls → (r : ℕ) → set r ≡ true
      → has r (listed_by listed ls) ≡ true
  greedy-lists set listed [] g r h = g r h
  greedy-lists set listed (l ∷ ls) g r h = greedy-lists set (l.child ∷ listed) ls g.4 r h

  pub greedy-within : (set : ℕ → Bool) (listed : List ℕ) (ls : List Link) → Greedy w size set listed ls
      → ((r : ℕ) → has r listed ≡ true → set r ≡ true) → (r : ℕ) → has r (listed_by listed ls) ≡ true → set r ≡ true
  greedy-within set listed [] g within r h = within r h
  greedy-within set listed (l ∷ ls) g within r h =
      greedy-within set (l.child ∷ listed) ls g.4 (λ i k. elim (or_cases (eqb i l.child) (has i listed) k) [ inl e ↦ ap set (eqb-true i l.child e) ∙ g.0 | inr o ↦ within i o ]) r h

module _ (w : ℕ → ℕ → ℕ) (size : ℕ → ℕ) (n root : ℕ) (gs : List Link) where
  -- the greedy list for the chain of all relations is a list with parents
  pub greedy_parents : IsGreedyList w size (everyone n) [] root gs → HasParents n root gs
  greedy_parents (largest, (front, back, joined, greedy, done)) =
      let e : gs ≡ front = joined ∙ ap (λ ys. front ++ ys) done ∙ append-nil front in
      subst (λ z. HasParents n root z) (sym e) (record {
        first = everyone-below n root largest.0;
        extends = extends_from_greedy w size n (everyone n) (root ∷ []) front (everyone-below n) greedy;
        all = λ r h. greedy-lists w size (everyone n) (root ∷ []) front greedy r (lt-ltb r n h);
      })

  -- it has the greatest weight among lists with parents
  pub greatest : (same_ways : (i j : ℕ) → w i j ≡ w j i) (W : ℕ) (top : (i j : ℕ) → w i j ≤ W) → IsGreedyList w size (everyone n) [] root gs
      → (r : ℕ) (links : List Link) → HasParents n r links → total w links ≤ total w gs
  greatest same_ways W top (largest, (front, back, joined, greedy, done)) r links h =
      let e : gs ≡ front = joined ∙ ap (λ ys. front ++ ys) done ∙ append-nil front in
      subst (λ z. total w links ≤ total w z) (sym e)
      (steepest w same_ways W top (everyone n) root front r links
      (steep_from_greedy w size (everyone n) (root ∷ []) front greedy) (lt-ltb r n h.first) (grows_from_extends n (r ∷ []) links h.extends))

  pub greedy_best : (same_ways : (i j : ℕ) → w i j ≡ w j i) (W : ℕ) (top : (i j : ℕ) → w i j ≤ W)
      → IsGreedyList w size (everyone n) [] root gs → IsBest n w (total w gs)
  greedy_best same_ways W top g = record {
    root = root;
    links = gs;
    parents = greedy_parents g;
    has_it = refl;
    greatest = λ r ls h. greatest same_ways W top g r ls h;
  }

  module _ (set : ℕ → Bool) (below : (r : ℕ) → set r ≡ true → r < n) where
    -- the greedy list for a set and then all begins with the set
    pub greedy_begins : IsGreedyList w size set (everyone n ∷ []) root gs → BeginsWith set root gs
    greedy_begins (largest, (front, rest, joined, greedy, more)) = record {
      front = front;
      back = rest;
      joined = joined;
      same = λ r. same_truth (has r (listed_by (root ∷ []) front)) (set r)
          (greedy-within w size set (root ∷ []) front greedy (only-root (λ z. set z ≡ true) root largest.0) r)
          (greedy-lists w size set (root ∷ []) front greedy r);
    }

    pub greedy_parents_from : IsGreedyList w size set (everyone n ∷ []) root gs → HasParents n root gs
    greedy_parents_from (largest, (front, rest, joined, greedy, (front', back', joined', greedy', done))) =
        let e : rest ≡ front' = joined' ∙ ap (λ ys. front' ++ ys) done ∙ append-nil front' in
        let whole : gs ≡ front ++ front' = joined ∙ ap (λ ys. front ++ ys) e in
        subst (λ z. HasParents n root z) (sym whole) (record {
          first = below root largest.0;
          extends = extends-join n (root ∷ []) front front'
              (extends_from_greedy w size n set (root ∷ []) front below greedy)
              (extends_from_greedy w size n (everyone n) (listed_by (root ∷ []) front) front' (everyone-below n) greedy');
          all = λ r h. subst (λ z. has r z ≡ true) (sym (listed_by-append (root ∷ []) front front'))
              (greedy-lists w size (everyone n) (listed_by (root ∷ []) front) front' greedy' r (lt-ltb r n h));
        })

    -- it has the greatest weight among lists with parents that begin with the set
    pub greatest_from : (same_ways : (i j : ℕ) → w i j ≡ w j i) (W : ℕ) (top : (i j : ℕ) → w i j ≤ W)
        → IsGreedyList w size set (everyone n ∷ []) root gs → (r : ℕ) (links : List Link) → HasParents n r links → BeginsWith set r links
        → total w links ≤ total w gs
    greatest_from same_ways W top (largest, (front, rest, joined, greedy, (front', back', joined', greedy', done))) r links h b =
        let e : rest ≡ front' = joined' ∙ ap (λ ys. front' ++ ys) done ∙ append-nil front' in
        let whole : gs ≡ front ++ front' = joined ∙ ap (λ ys. front ++ ys) e in
        let extends : Extends n (r ∷ []) (b.front ++ b.back) = subst (λ z. Extends n (r ∷ []) z) b.joined h.extends in
        let extends_front : Extends n (r ∷ []) b.front = extends-front n (r ∷ []) b.front b.back extends in
        let extends_back : Extends n (listed_by (r ∷ []) b.front) b.back = extends-back n (r ∷ []) b.front b.back extends in
        let within : (i : ℕ) → has i (listed_by (r ∷ []) b.front) ≡ true → set i ≡ true = λ i k. sym (b.same i) ∙ k in
        let root_in : set r ≡ true = within r (listed_by-kept r (r ∷ []) b.front (has-head r [])) in
        let one : total w b.front ≤ total w front =
        steepest w same_ways W top set root front r b.front
        (steep_from_greedy w size set (root ∷ []) front greedy) root_in (grows_within n set (r ∷ []) b.front extends_front within) in
        let two : total w b.back ≤ total w front' =
        steepest_from w same_ways W top (everyone n) (listed_by (root ∷ []) front) (listed_by (r ∷ []) b.front) b.back front'
        (steep_from_greedy w size (everyone n) (listed_by (root ∷ []) front) front' greedy')
        (grows_from_extends n (listed_by (r ∷ []) b.front) b.back extends_back)
        (λ i k. b.same i ∙ greedy-within w size set (root ∷ []) front greedy (only-root (λ z. set z ≡ true) root largest.0) i k)
        (λ i k out. lt-ltb i n (extends-below n (r ∷ []) b.front extends_front (only-root (λ z. z < n) r h.first) i k)) in
        let left : total w links ≡ total w b.front + total w b.back = ap (total w) b.joined ∙ total-append w b.front b.back in
        let right : total w gs ≡ total w front + total w front' = ap (total w) whole ∙ total-append w front front' in
        omega arith
