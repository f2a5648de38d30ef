-- Rows whose bit is set, and filters of them.
use Rattle.std.proofs.Common.{◌≡◌, ◌∙◌, ap, refl, arith, ℕ, zero, suc, ◌+◌, ◌<◌, ◌≤◌, Bool, true, false, List, [], ◌∷◌, length, get_or, map}
use Rattle.std.specs.Prelude.{◌==◌, ◌&&◌, filter}
use Rattle.std.specs.List.{All, range_with_len}
use Rattle.std.proofs.lemmas.Bool.{eqb-true}
use Rattle.std.proofs.lemmas.List.{length-map, get_or-map}
use Rattle.std.proofs.lemmas.List.Elements.{All-filter, All-from_get_or}
use Rattle.std.proofs.lemmas.List.FromFn.{get_or-range_with_len, length-range_with_len}
use Rattle.column_table.specs.Bits.{set_rows}

-- a list without elements
pub empty-is : {X : Type 0} (xs : List X) → (length xs == 0) ≡ true → xs ≡ []
empty-is [] e = refl
empty-is (x ∷ xs) e = let none : suc (length xs) ≡ 0 = eqb-true (suc (length xs)) 0 e in absurd (omega arith)

-- two tests that agree on the numbers of a range
filter-range : (p q : ℕ → Bool) (a n : ℕ) → ((k : ℕ) → a ≤ k → k < a + n → p k ≡ q k) → filter p (range_with_len a n) ≡ filter q (range_with_len a n)
filter-range p q a zero same = refl
filter-range p q a (suc n) same =
    let rest : filter p (range_with_len (a + 1) n) ≡ filter q (range_with_len (a + 1) n) = filter-range p q (a + 1) n (λ k from to. same k (omega arith) (omega arith)) in
    let here : p a ≡ q a = same a (omega arith) (omega arith) in
    rw (here, rest) refl

-- the rows whose bit says that they pass a test
pub set_rows-map : {X : Type 0} (test : X → Bool) (rows : List X) (d : X) → set_rows (map test rows) ≡ filter (λ k. test (get_or rows k d)) (range_with_len 0 (length rows))
set_rows-map test rows d =
    ap (λ n. filter (λ k. get_or (map test rows) k false) (range_with_len 0 n)) (length-map rows test)
    ∙ filter-range (λ k. get_or (map test rows) k false) (λ k. test (get_or rows k d)) 0 (length rows) (λ k from to. get_or-map test rows k d false (omega arith))

-- each is below the number of rows
pub set_rows-below : (bits : List Bool) → All (λ row. row < length bits) (set_rows bits)
set_rows-below bits =
    All-filter (λ k. get_or bits k false) (λ row. row < length bits) (range_with_len 0 (length bits))
    (All-from_get_or (λ row. row < length bits) (range_with_len 0 (length bits)) 0
    (λ i lt. let within : i < length bits = omega (arith, length-range_with_len 0 (length bits)) in rw (get_or-range_with_len 0 (length bits) i 0 within) (omega arith)))
