-- One set, or a set and then all.
use Rattle.std.proofs.Common.{◌≡◌, ℕ, ◌<◌, ◌≤◌, Bool, true, List, [], ◌∷◌, ◌++◌, length, slice_index, slice_index_or, refl, sym, ap, ◌∙◌, subst, lt-ltb, arith}
use Rattle.join_graph.specs.declared.tree.Link.{Link}
use Rattle.join_graph.specs.declared.tree.Tree.{Tree}
use Rattle.rpt_base.specs.declared.sets.RelSet.{RelSet}
use Rattle.join_graph.specs.JoinList.{listed_by, set_of, IsAll, IsSetOf}
use Rattle.rpt_base.specs.Lists.{has}
use Rattle.join_graph.specs.Weights.{weight_of}
use Rattle.largest_root.specs.Greedy.{Greedy, IsLargest, IsGreedyList, IsChain, IsGrown}
use Rattle.largest_root.proofs.GreatestFacts.{greedy-within}
use Rattle.join_graph.proofs.ListFacts.{append-nil, only-root, everyone-below}

module _ (w : ℕ → ℕ → ℕ) (size : ℕ → ℕ) (set : ℕ → Bool) (root : ℕ) (start links : List Link) (none : start ≡ []) (largest : IsLargest size set root) (grown : (more : List Link) × (links ≡ start ++ more) × Greedy w size set (listed_by (root ∷ []) start) more) where
  is_front : links ≡ grown.0
  is_front = grown.1 ∙ ap (λ z. z ++ grown.0) none

  greedy : Greedy w size set (root ∷ []) grown.0
  greedy = subst (λ z. Greedy w size set (listed_by (root ∷ []) z) grown.0) none grown.2

  pub first-known : (n : ℕ) → ((r : ℕ) → set r ≡ true → r < n) → (r : ℕ) → has r (listed_by (root ∷ []) links) ≡ true → r < n
  first-known n within r h =
      within r (greedy-within w size set (root ∷ []) grown.0 greedy (only-root (λ z. set z ≡ true) root largest.0) r (subst (λ z. has r (listed_by (root ∷ []) z) ≡ true) is_front h))

  pub two-sets : (all : ℕ → Bool) (whole : List Link)
      → ((more : List Link) × (whole ≡ links ++ more) × Greedy w size all (listed_by (root ∷ []) links) more)
      → IsGreedyList w size set (all ∷ []) root whole
  two-sets all whole (back, e', g') = (
    largest,
    (
      grown.0,
      back,
      e' ∙ ap (λ z. z ++ back) is_front,
      greedy,
      (back, [], sym (append-nil back), subst (λ z. Greedy w size all (listed_by (root ∷ []) z) back) is_front g', refl),
    ),
  )

pub all-some : (n : ℕ) (all : RelSet) → 1 ≤ n → IsAll n all → IsSetOf n all
all-some n all h k = record { within = λ r i. everyone-below n r (sym (k r) ∙ i); some = (0, k 0 ∙ lt-ltb 0 n (omega arith)) }

pub chain-one : (n : ℕ) (chain : List RelSet) (d : RelSet) → 1 ≤ n → IsChain n chain → length chain ≡ 1
    → IsSetOf n (slice_index_or chain 0 d)
chain-one n [] d h k e = absurd k
chain-one n (all ∷ []) d h k e = all-some n all h k
chain-one n (set ∷ all ∷ []) d h k e = absurd (omega arith)
chain-one n (x ∷ y ∷ z ∷ rest) d h k e = absurd k

pub grown-one : (vs : List (List ℕ)) (sizes : List ℕ) (chain : List RelSet) (d : RelSet) (t : Tree) → IsChain (length vs) chain
    → length chain ≡ 1 → IsGreedyList (weight_of vs) (slice_index sizes) (set_of (slice_index_or chain 0 d)) [] t.root t.links
    → IsGrown vs sizes chain t
grown-one vs sizes [] d t k e g = absurd k
grown-one vs sizes (all ∷ []) d t k e g = g
grown-one vs sizes (set ∷ all ∷ []) d t k e g = absurd (omega arith)
grown-one vs sizes (x ∷ y ∷ z ∷ rest) d t k e g = absurd k

pub grown-two : (vs : List (List ℕ)) (sizes : List ℕ) (chain : List RelSet) (d : RelSet) (t : Tree) → IsChain (length vs) chain
    → (length chain ≡ 1 → ⊥)
    → IsGreedyList (weight_of vs) (slice_index sizes) (set_of (slice_index_or chain 0 d)) (set_of (slice_index_or chain 1 d) ∷ []) t.root t.links
    → IsGrown vs sizes chain t
grown-two vs sizes [] d t k e g = absurd k
grown-two vs sizes (all ∷ []) d t k e g = absurd (e (omega arith))
grown-two vs sizes (set ∷ all ∷ []) d t k e g = g
grown-two vs sizes (x ∷ y ∷ z ∷ rest) d t k e g = absurd k
