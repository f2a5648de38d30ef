-- There is one greedy list for a chain, and so one tree.
use Rattle.std.proofs.Common.{◌≡◌, ℕ, ◌<◌, ◌≤◌, Bool, ◌⊎◌, List, [], ◌∷◌, ◌++◌, length, map, slice_index, refl, sym, ap, ◌∙◌, subst, inl, inr, arith}
use Rattle.std.proofs.lemmas.Bool.{both_ways}
use Rattle.rpt_base.specs.declared.sets.RelSet.{RelSet}
use Rattle.join_graph.specs.declared.tree.Tree.{Tree}
use Rattle.join_graph.specs.Weights.{weight_of}
use Rattle.join_graph.specs.declared.tree.Link.{Link}
use Rattle.join_graph.specs.JoinList.{set_of, everyone, listed_by}
use Rattle.rpt_base.specs.Lists.{has}
use Rattle.largest_root.specs.Greedy.{NotBefore, Greedy, GreedyChain, IsGreedyList, IsGrown, IsLargest, IsLargestRoot}

module _ (w : ℕ → ℕ → ℕ) (size : ℕ → ℕ) where
  one-pair : (i j c p : ℕ) → NotBefore w size i j c p → NotBefore w size c p i j → (i ≡ c) × (j ≡ p)
  one-pair i j c p (inl x) (inl y) = absurd (omega arith)
  one-pair i j c p (inl x) (inr (e, h)) = absurd (omega arith)
  one-pair i j c p (inr (e, h)) (inl y) = absurd (omega arith)
  one-pair i j c p (inr (e, inl x)) (inr (f, inl y)) = absurd (omega arith)
  one-pair i j c p (inr (e, inl x)) (inr (f, inr (g, h))) = absurd (omega arith)
  one-pair i j c p (inr (e, inr (g, h))) (inr (f, inl y)) = absurd (omega arith)
  one-pair i j c p (inr (e, inr (g, inl x))) (inr (f, inr (k, inl y))) = absurd (omega arith)
  one-pair i j c p (inr (e, inr (g, inl x))) (inr (f, inr (k, inr (m, n)))) = absurd (omega arith)
  one-pair i j c p (inr (e, inr (g, inr (x, y)))) (inr (f, inr (k, inl z))) = absurd (omega arith)
  one-pair i j c p (inr (e, inr (g, inr (x, y)))) (inr (f, inr (k, inr (m, n)))) = (omega arith, omega arith)

  one-link : (a b : Link) → a.child ≡ b.child → a.parent ≡ b.parent → a ≡ b
  one-link a b e f = λ k. record { child = e k; parent = f k }

  pub one-greedy : (set : ℕ → Bool) (listed : List ℕ) (ls ms : List Link) → Greedy w size set listed ls → Greedy w size set listed ms
      → ls ≡ ms
  one-greedy set listed [] [] g h = refl
  one-greedy set listed [] (m ∷ ms) g h = absurd (both_ways (has m.child listed) h.1 (g m.child h.0))
  one-greedy set listed (l ∷ ls) [] g h = absurd (both_ways (has l.child listed) g.1 (h l.child g.0))
  one-greedy set listed (l ∷ ls) (m ∷ ms) g h =
      let pair : (l.child ≡ m.child) × (l.parent ≡ m.parent) =
      one-pair l.child l.parent m.child m.parent (h.3 l.child l.parent g.0 g.1 g.2) (g.3 m.child m.parent h.0 h.1 h.2) in
      let link : l ≡ m = one-link l m pair.0 pair.1 in
      let rest : ls ≡ ms = one-greedy set (l.child ∷ listed) ls ms g.4 (subst (λ z. Greedy w size set (z ∷ listed) ms) (sym pair.0) h.4) in
      cc

  one-chain : (sets : List (ℕ → Bool)) (listed : List ℕ) (ls ms : List Link) → GreedyChain w size sets listed ls
      → GreedyChain w size sets listed ms → ls ≡ ms
  one-chain [] listed ls ms g h = g ∙ sym h
  one-chain (set ∷ sets) listed ls ms (front, back, e, g, rest) (front', back', e', h, rest') =
      let same : front ≡ front' = one-greedy set listed front front' g h in
      let after : back ≡ back' = one-chain sets (listed_by listed front) back back' rest (subst (λ z. GreedyChain w size sets (listed_by listed z) back') (sym same) rest') in
      e ∙ ap (λ z. z ++ back) same ∙ ap (λ z. front' ++ z) after ∙ sym e'

  one-largest : (set : ℕ → Bool) (a b : ℕ) → IsLargest size set a → IsLargest size set b → a ≡ b
  one-largest set a b (inside, most) (inside', most') = go (most b inside') (most' a inside)
    where
      go : (size b < size a) ⊎ ((size b ≡ size a) × (a ≤ b)) → (size a < size b) ⊎ ((size a ≡ size b) × (b ≤ a)) → a ≡ b
      go (inl x) (inl y) = absurd (omega arith)
      go (inl x) (inr (e, l)) = absurd (omega arith)
      go (inr (e, l)) (inl y) = absurd (omega arith)
      go (inr (e, l)) (inr (f, m)) = omega arith

  pub one-list : (set : ℕ → Bool) (sets : List (ℕ → Bool)) (a b : ℕ) (ls ms : List Link) → IsGreedyList w size set sets a ls
      → IsGreedyList w size set sets b ms → (a ≡ b) × (ls ≡ ms)
  one-list set sets a b ls ms (largest, chain) (largest', chain') =
      let same : a ≡ b = one-largest set a b largest largest' in
      (same, one-chain (set ∷ sets) (a ∷ []) ls ms chain (subst (λ z. GreedyChain w size (set ∷ sets) (z ∷ []) ms) (sym same) chain'))

-- there is one tree that `join_tree` may give
pub one-tree : (vs : List (List ℕ)) (sizes : List ℕ) (s t : Tree) → IsLargestRoot vs sizes s → IsLargestRoot vs sizes t → s ≡ t
one-tree vs sizes s t h k =
    let same : (s.root ≡ t.root) × (s.links ≡ t.links) =
    one-list (weight_of vs) (slice_index sizes) (everyone (length vs)) [] s.root t.root s.links t.links h.greedy k.greedy in
    λ i. record { root = same.0 i; links = same.1 i }

-- there is one tree that `grow` may give
pub one-grown : (vs : List (List ℕ)) (sizes : List ℕ) (chain : List RelSet) (s t : Tree) → IsGrown vs sizes chain s
    → IsGrown vs sizes chain t → s ≡ t
one-grown vs sizes [] s t h k = absurd h
one-grown vs sizes (set ∷ sets) s t h k =
    let same : (s.root ≡ t.root) × (s.links ≡ t.links) =
    one-list (weight_of vs) (slice_index sizes) (set_of set) (map set_of sets) s.root t.root s.links t.links h k in
    λ i. record { root = same.0 i; links = same.1 i }
