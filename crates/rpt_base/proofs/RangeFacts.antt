-- Ranges of numbers.
use Rattle.std.proofs.Common.{◌≡◌, ◌∙◌, ap, refl, arith, ℕ, zero, suc, ◌+◌, ◌<◌, [], ◌∷◌, ◌++◌, map, add-one, add-zero}
use Rattle.std.specs.List.{range_with_len}

-- the last number of a range
pub range-last : (a n : ℕ) → range_with_len a (suc n) ≡ range_with_len a n ++ (a + n) ∷ []
range-last a zero = rw add-zero refl
range-last a (suc n) =
    let e : (a + 1) + n ≡ a + suc n = omega arith in
    ap (λ xs. a ∷ xs) (range-last (a + 1) n ∙ ap (λ k. range_with_len (a + 1) n ++ k ∷ []) e)

pub range-more : (n : ℕ) → range_with_len 0 (n + 1) ≡ range_with_len 0 n ++ n ∷ []
range-more n =
    let e : 0 + n ≡ n = omega arith in
    rw add-one (range-last 0 n ∙ ap (λ k. range_with_len 0 n ++ k ∷ []) e)

-- two functions that agree on the numbers of a range
pub map-range : {X : Type 0} (f g : ℕ → X) (a n : ℕ) → ((k : ℕ) → k < a + n → f k ≡ g k) → map f (range_with_len a n) ≡ map g (range_with_len a n)
map-range f g a zero h = refl
map-range f g a (suc n) h = rw (h a (omega arith), map-range f g (a + 1) n (λ k lt. h k (omega arith))) refl
