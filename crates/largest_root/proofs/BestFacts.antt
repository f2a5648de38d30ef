-- The steps of the search for the best open pair.
use Rattle.std.proofs.Common.{◌≡◌, ℕ, ◌+◌, ◌<◌, Bool, true, false, ◌⊎◌, List, length, slice_index, sym, subst, inl, inr, arith}
use Rattle.std.proofs.lemmas.Bool.{cases_order}
use Rattle.join_graph.specs.declared.tree.Link.{Link}
use Rattle.rpt_base.specs.Lists.{has}
use Rattle.join_graph.specs.Weights.{weight_of}
use Rattle.largest_root.specs.Greedy.{NotBefore}
use Rattle.largest_root.specs.Steps.{IsBestParent, IsLinkFor, IsOpen, IsBestLink, IsBestOf}
use Rattle.largest_root.proofs.ListedFacts.{NotBefore-trans, from_parent}

next : (P : ℕ → Type 0) (i : ℕ) → ((k : ℕ) → k < i → P k) → P i → (k : ℕ) → k < i + 1 → P k
next P i h p k l = elim (cases_order k i) [ inl e ↦ subst P (sym e) p | inr (inl less) ↦ h k less | inr (inr more) ↦ absurd (omega arith) ]

module _ (vs : List (List ℕ)) (sizes : List ℕ) (set : ℕ → Bool) (listed : List ℕ) (i : ℕ) where
  best-more : (l : Link) → IsBestLink vs sizes set listed i l
      → ((j : ℕ) → set i ≡ true → has i listed ≡ false → j < length vs → has j listed ≡ true → IsLinkFor vs sizes i j l)
      → IsBestLink vs sizes set listed (i + 1) l
  best-more l h k = λ z j below s out inside shown.
      next (λ q. set q ≡ true → has q listed ≡ false → IsLinkFor vs sizes q j l) i (λ q b s' o'. h q j b s' o' inside shown) (λ s' o'. k j s' o' inside shown) z below s out

  pub best-next : (a b r : Link) → IsBestOf vs sizes set listed i a → IsOpen set listed (length vs) b → b.child ≡ i
      → IsBestParent vs listed i (length vs) b.parent → (r ≡ a) ⊎ (r ≡ b) → IsLinkFor vs sizes a.child a.parent r
      → IsLinkFor vs sizes b.child b.parent r → IsBestOf vs sizes set listed (i + 1) r
  best-next a b r h pair e best one of_a of_b = record {
    below = elim one [ inl x ↦ subst (λ z. z.child < i + 1) (sym x) (omega (arith, h.below)) | inr y ↦ subst (λ z. z.child < i + 1) (sym y) (omega (arith, e)) ];
    open_pair = elim one [ inl x ↦ subst (λ z. IsOpen set listed (length vs) z) (sym x) h.open_pair | inr y ↦ subst (λ z. IsOpen set listed (length vs) z) (sym y) pair ];
    best = best-more r
        (λ z j below s out inside shown. NotBefore-trans (weight_of vs) (slice_index sizes) z j a.child a.parent r.child r.parent (h.best z j below s out inside shown) of_a)
        (λ j s out inside shown. NotBefore-trans (weight_of vs) (slice_index sizes) i j i b.parent r.child r.parent
        (from_parent (weight_of vs) (slice_index sizes) i j b.parent (best j inside shown))
        (subst (λ c. NotBefore (weight_of vs) (slice_index sizes) c b.parent r.child r.parent) e of_b));
  }
