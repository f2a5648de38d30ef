-- The steps of the growth over one set.
use Rattle.std.proofs.Common.{◌≡◌, ℕ, ◌<◌, Bool, true, false, List, [], ◌∷◌, ◌++◌, length, slice_index, sym, ap, ◌∙◌, subst}
use Rattle.join_graph.specs.declared.tree.Link.{Link}
use Rattle.join_graph.specs.JoinList.{listed_by}
use Rattle.rpt_base.specs.Lists.{has}
use Rattle.largest_root.specs.Greedy.{NotBefore, Greedy}
use Rattle.join_graph.proofs.ListFacts.{listed_by-append, only-more}
use Rattle.join_graph.proofs.Unlisted.{unlisted, unlisted-less}
use Rattle.join_graph.specs.Weights.{weight_of}
use Rattle.largest_root.specs.Steps.{IsBestOf, IsUsedUp}

-- the links so far are greedy, one after the other
abbrev pub GreedySteps : (ℕ → ℕ → ℕ) → (ℕ → ℕ) → (ℕ → Bool) → List ℕ → List Link → Type 0
GreedySteps w size set listed [] = Unit {0}
GreedySteps w size set listed (l ∷ ls) = (set l.child ≡ true) × (has l.child listed ≡ false) × (has l.parent listed ≡ true) × ((i j : ℕ) → set i ≡ true → has i listed ≡ false → has j listed ≡ true → NotBefore w size i j l.child l.parent) × GreedySteps w size set (l.child ∷ listed) ls

module _ (w : ℕ → ℕ → ℕ) (size : ℕ → ℕ) (set : ℕ → Bool) where
  pub steps-done : (listed : List ℕ) (ls : List Link) → GreedySteps w size set listed ls
      → ((r : ℕ) → set r ≡ true → has r (listed_by listed ls) ≡ true) → Greedy w size set listed ls
  steps-done listed [] g h = h
  steps-done listed (l ∷ ls) g h = (g.0, g.1, g.2, g.3, steps-done (l.child ∷ listed) ls g.4 h)

  pub steps-push : (listed : List ℕ) (ls : List Link) (l : Link) → GreedySteps w size set listed ls → set l.child ≡ true
      → has l.child (listed_by listed ls) ≡ false → has l.parent (listed_by listed ls) ≡ true
      → ((i j : ℕ) → set i ≡ true → has i (listed_by listed ls) ≡ false → has j (listed_by listed ls) ≡ true → NotBefore w size i j l.child l.parent)
      → GreedySteps w size set listed (ls ++ l ∷ [])
  steps-push listed [] l g a b c d = (a, b, c, d, tt)
  steps-push listed (x ∷ ls) l g a b c d = (g.0, g.1, g.2, g.3, steps-push (x.child ∷ listed) ls l g.4 a b c d)

-- one more link leaves fewer relations
pub unlisted-falls : (n root : ℕ) (ls : List Link) (l : Link) → l.child < n → has l.child (listed_by (root ∷ []) ls) ≡ false
    → length (unlisted n (listed_by (root ∷ []) (ls ++ l ∷ []))) < length (unlisted n (listed_by (root ∷ []) ls))
unlisted-falls n root ls l below fresh =
    subst (λ z. length (unlisted n z) < length (unlisted n (listed_by (root ∷ []) ls))) (sym (listed_by-append (root ∷ []) ls (l ∷ [])))
    (unlisted-less n l.child (listed_by (root ∷ []) ls) below fresh)

steps-below : (w : ℕ → ℕ → ℕ) (size : ℕ → ℕ) (set : ℕ → Bool) (n : ℕ) (listed : List ℕ) (ls : List Link) → GreedySteps w size set listed ls
    → ((r : ℕ) → set r ≡ true → r < n) → ((r : ℕ) → has r listed ≡ true → r < n) → (r : ℕ) → has r (listed_by listed ls) ≡ true → r < n
steps-below w size set n listed [] g within known = known
steps-below w size set n listed (l ∷ ls) g within known = steps-below w size set n (l.child ∷ listed) ls g.4 within (only-more (λ z. z < n) l.child listed (within l.child g.0) known)

module _ (vs : List (List ℕ)) (sizes : List ℕ) (set : ℕ → Bool) (root : ℕ) (start links more : List Link) (joined : links ≡ start ++ more) (steps : GreedySteps (weight_of vs) (slice_index sizes) set (listed_by (root ∷ []) start) more) (within : (r : ℕ) → set r ≡ true → r < length vs) where
  listed-now : listed_by (root ∷ []) links ≡ listed_by (listed_by (root ∷ []) start) more
  listed-now = ap (listed_by (root ∷ [])) joined ∙ listed_by-append (root ∷ []) start more

  pub steps-more : ((r : ℕ) → has r (listed_by (root ∷ []) start) ≡ true → r < length vs) → (l : Link)
      → IsBestOf vs sizes set (listed_by (root ∷ []) links) (length vs) l
      → GreedySteps (weight_of vs) (slice_index sizes) set (listed_by (root ∷ []) start) (more ++ l ∷ [])
  steps-more known l best =
      let b : IsBestOf vs sizes set (listed_by (listed_by (root ∷ []) start) more) (length vs) l = subst (λ z. IsBestOf vs sizes set z (length vs) l) listed-now best in
      steps-push (weight_of vs) (slice_index sizes) set (listed_by (root ∷ []) start) more l steps b.open_pair.in_set b.open_pair.fresh b.open_pair.shown
      (λ i j s out shown. b.best i j (within i s) s out (steps-below (weight_of vs) (slice_index sizes) set (length vs) (listed_by (root ∷ []) start) more steps within known j shown) shown)

  pub steps-end : IsUsedUp set (listed_by (root ∷ []) links) (length vs)
      → Greedy (weight_of vs) (slice_index sizes) set (listed_by (root ∷ []) start) more
  steps-end used =
      steps-done (weight_of vs) (slice_index sizes) set (listed_by (root ∷ []) start) more steps
      (λ r s. subst (λ z. has r z ≡ true) listed-now (used r (within r s) s))
