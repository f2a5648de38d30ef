-- The best of those that have a property, where any two can be compared.
use Rattle.std.proofs.Common.{◌<◌, ◌≤◌, ◌⊎◌, ℕ, zero, suc, inl, inr, subst, arith}
use Rattle.std.proofs.lemmas.Bool.{cases_lt}

module _ {X : Type 0} (NoBetter : X → X → Type 0) (chain : (x y z : X) → NoBetter x y → NoBetter y z → NoBetter x z)
    (either : (x y : X) → NoBetter x y ⊎ NoBetter y x) where
  -- none has the property, or one that has it is the best of those that do
  abbrev pub HasBest : (X → Type 0) → Type 0
  HasBest Has = ((x : X) → Has x → ⊥) ⊎ ((x : X) × Has x × ((y : X) → Has y → NoBetter y x))

  module _ (One Two Both : X → Type 0) (split : (x : X) → Both x → One x ⊎ Two x) (one : (x : X) → One x → Both x) (two : (x : X) → Two x → Both x) where
    -- of those that have one property or another
    best-of_two : HasBest One → HasBest Two → HasBest Both
    best-of_two (inl n) (inl m) = inl (λ x b. elim (split x b) [ inl a ↦ n x a | inr a ↦ m x a ])
    best-of_two (inl n) (inr (x, h, most)) = inr (x, two x h, λ y b. elim (split y b) [ inl a ↦ absurd (n y a) | inr a ↦ most y a ])
    best-of_two (inr (x, h, most)) (inl m) = inr (x, one x h, λ y b. elim (split y b) [ inl a ↦ most y a | inr a ↦ absurd (m y a) ])
    best-of_two (inr (x, h, most)) (inr (z, g, more)) =
        elim (either x z) [
          | inl l ↦ inr (z, two z g, λ y b. elim (split y b) [ inl a ↦ chain y x z (most y a) l | inr a ↦ more y a ])
          | inr l ↦ inr (x, one x h, λ y b. elim (split y b) [ inl a ↦ most y a | inr a ↦ chain y z x (more y a) l ])
        ]

  -- of those that have one of n properties
  pub best-below : (n : ℕ) (Has : ℕ → X → Type 0) → ((k : ℕ) → k < n → HasBest (Has k)) → HasBest (λ x. (k : ℕ) × (k < n) × Has k x)
  best-below zero Has each = inl (λ x h. absurd (omega (arith, h.1)))
  best-below (suc n) Has each =
      best-of_two (λ x. (k : ℕ) × (k < n) × Has k x) (Has n) (λ x. (k : ℕ) × (k < suc n) × Has k x)
      (λ x h. split x h) (λ x h. (h.0, omega (arith, h.1), h.2)) (λ x h. (n, omega arith, h)) (best-below n Has (λ k lt. each k (omega arith))) (each n (omega arith))
    where
      split : (x : X) → ((k : ℕ) × (k < suc n) × Has k x) → ((k : ℕ) × (k < n) × Has k x) ⊎ Has n x
      split x (k, lt, h) = by (cases_lt k n)
        where
          by : (k < n) ⊎ (n ≤ k) → ((k : ℕ) × (k < n) × Has k x) ⊎ Has n x
          by (inl l) = inl (k, l, h)
          by (inr l) = inr (let P : ℕ → Type 0 = λ m. Has m x in subst P (omega arith) h)
