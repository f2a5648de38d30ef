-- The number of bits that are set.
use Rattle.std.proofs.Common.{◌≡◌, ◌∙◌, sym, refl, ap, ℕ, zero, suc, ◌+◌, ◌-◌, ◌*◌, ◌/◌, ◌%◌, ◌^◌, ◌<◌, ◌≤◌, inl, inr, Bool, false, List, [], ◌∷◌, ◌++◌, length, get_or, map, arith, add-one, append_assoc}
use Rattle.std.specs.Prelude.{◌==◌, cond}
use Rattle.std.specs.Int.{bit_at}
use Rattle.std.specs.Int.RustNames.{count_ones}
use Rattle.std.specs.List.{count_by, range_with_len}
use Rattle.std.proofs.lemmas.Bool.{cases_eq}
use Rattle.std.proofs.lemmas.List.{append-nil}
use Rattle.std.proofs.lemmas.List.FromFn.{length-map-range_with_len, map-range_with_len_more}
use Rattle.std.proofs.lemmas.List.Sums.{count_by-le-length, sum_by-append, sum_by-cons}
use Rattle.std.proofs.lemmas.Nat.{ones_le_self}
use Rattle.std.proofs.lemmas.Nat.Bits.{bit_at-suc, bit_at_lowest}
use Rattle.std.proofs.Math.Pow.{shr_lt}
use Rattle.std.specs.Int.Count.{ones_step}
use Rattle.column_table.specs.Bits.{AreBits, bits_of, is_set_in}
use Rattle.column_table.proofs.BitFacts.{bits-length}

-- a range in two parts
map-range-append : (f : ℕ → Bool) (a n m : ℕ) → map f (range_with_len a (n + m)) ≡ map f (range_with_len a n) ++ map f (range_with_len (a + n) m)
map-range-append f a n zero = ap (λ k. map f (range_with_len a k)) (omega arith) ∙ sym (append-nil (map f (range_with_len a n)))
map-range-append f a n (suc m) =
    let whole : n + suc m ≡ n + m + 1 = omega arith in
    let part : suc m ≡ m + 1 = omega arith in
    ap (λ k. map f (range_with_len a k)) whole
    ∙ map-range_with_len_more f a (n + m) (a + (n + m)) refl
    ∙ ap (λ xs. xs ++ f (a + (n + m)) ∷ []) (map-range-append f a n m)
    ∙ append_assoc (map f (range_with_len a n)) (map f (range_with_len (a + n) m)) (f (a + (n + m)) ∷ [])
    ∙ ap (λ xs. map f (range_with_len a n) ++ xs) (sym (map-range_with_len_more f (a + n) m (a + (n + m)) (omega arith)) ∙ ap (λ k. map f (range_with_len (a + n) k)) (sym part))

-- the bits of a number of k bits
count-bits : (f : ℕ → Bool) (k a n : ℕ) → n < 2 ^ k → ((i : ℕ) → i < k → f (a + i) ≡ (bit_at n i == 1)) → count_by (λ b. b) (map f (range_with_len a k)) ≡ count_ones n
count-bits f zero a n lt h = omega (arith, ones_le_self n)
count-bits f (suc k) a n lt h =
    let at : a ≡ a + 0 = omega arith in
    let first : f a ≡ (n % 2 == 1) = ap f at ∙ h 0 (omega arith) ∙ ap (λ d. d == 1) (bit_at_lowest n) in
    let digit : cond (n % 2 == 1) 1 0 ≡ n % 2 = elim (cases_eq (n % 2) 1) [
      | inl one ↦ rw one refl
      | inr other ↦ let zero_digit : n % 2 ≡ 0 = omega arith in rw zero_digit refl
    ] in
    let low : cond (f a) 1 0 ≡ n % 2 = rw first digit in
    let rest : count_by (λ b. b) (map f (range_with_len (a + 1) k)) ≡ count_ones (n / 2) =
    count-bits f k (a + 1) (n / 2) (shr_lt k 1 (rw add-one lt))
    (λ i ilt. let next : a + 1 + i ≡ a + suc i = omega arith in rw (next, ← bit_at-suc n i) (h (suc i) (omega arith))) in
    sum_by-cons (λ b. cond b 1 0) (f a) (map f (range_with_len (a + 1) k)) ∙ rw (low, rest) (sym (ones_step n))

-- the bits of one word more
count-word : (words : List ℕ) (i k from : ℕ) → k ≡ 64 → from ≡ 64 * i → get_or words i 0 < 2 ^ k
    → count_by (λ b. b) (bits_of words (from + k)) ≡ count_by (λ b. b) (bits_of words from) + count_ones (get_or words i 0)
count-word words i k from wide start lt =
    ap (count_by (λ b. b)) (map-range-append (is_set_in words) 0 from k)
    ∙ sum_by-append (λ b. cond b 1 0) (bits_of words from) (map (is_set_in words) (range_with_len (0 + from) k))
    ∙ ap (λ n. count_by (λ b. b) (bits_of words from) + n)
    (count-bits (is_set_in words) k (0 + from) (get_or words i 0) lt
    (λ j jlt.
    let word : (0 + from + j) / 64 ≡ i = omega arith in
    let place : (0 + from + j) % 64 ≡ j = omega arith in
    rw (word, place) refl))

count-none : (f : ℕ → Bool) (a m : ℕ) → ((k : ℕ) → a ≤ k → f k ≡ false) → count_by (λ b. b) (map f (range_with_len a m)) ≡ 0
count-none f a zero h = refl
count-none f a (suc m) h =
    sum_by-cons (λ b. cond b 1 0) (f a) (map f (range_with_len (a + 1) m)) ∙ rw (h a (omega arith), count-none f (a + 1) m (λ k le. h k (omega arith))) refl

-- ---- what the code counts

pub count-more : (words : List ℕ) (i count more : ℕ) → count ≡ count_by (λ b. b) (bits_of words (64 * i)) → get_or words i 0 < 2 ^ 64 → more ≡ count_ones (get_or words i 0)
    → count + more ≡ count_by (λ b. b) (bits_of words (64 * (i + 1)))
count-more words i count more e lt is =
    let next : 64 * i + 64 ≡ 64 * (i + 1) = omega arith in
    rw (e, is) (sym (count-word words i 64 (64 * i) refl refl lt) ∙ ap (λ n. count_by (λ b. b) (bits_of words n)) next)

pub count-all : (words : List ℕ) (rows : ℕ) (bits : List Bool) (i count : ℕ) → bits_of words rows ≡ bits → AreBits words rows → length words ≤ i → count ≡ count_by (λ b. b) (bits_of words (64 * i))
    → count ≡ count_by (λ b. b) bits
count-all words rows bits i count e are all is =
    let past : rows + (64 * i - rows) ≡ 64 * i = omega (arith, are.enough) in
    is
    ∙ ap (λ n. count_by (λ b. b) (bits_of words n)) (sym past)
    ∙ ap (count_by (λ b. b)) (map-range-append (is_set_in words) 0 rows (64 * i - rows))
    ∙ sum_by-append (λ b. cond b 1 0) (bits_of words rows) (map (is_set_in words) (range_with_len (0 + rows) (64 * i - rows)))
    ∙ ap (λ n. count_by (λ b. b) (bits_of words rows) + n) (count-none (is_set_in words) (0 + rows) (64 * i - rows) (λ k le. are.rest k (omega arith)))
    ∙ omega arith
    ∙ ap (count_by (λ b. b)) e

-- the counts fit
pub count-more-fits : (words : List ℕ) (rows i count : ℕ) → AreBits words rows → i < length words → count ≡ count_by (λ b. b) (bits_of words (64 * (i + 1))) → count < 2 ^ 64
count-more-fits words rows i count are lt e =
    let few : count_by (λ b. b) (bits_of words (64 * (i + 1))) ≤ 64 * (i + 1) =
    omega (arith, count_by-le-length (λ b. b) (bits_of words (64 * (i + 1))), length-map-range_with_len (is_set_in words) 0 (64 * (i + 1))) in
    omega (arith, are.few, are.no_more)

pub count-all-fits : (words : List ℕ) (rows : ℕ) (bits : List Bool) (count : ℕ) → bits_of words rows ≡ bits → AreBits words rows → count ≡ count_by (λ b. b) bits → count < 2 ^ 32
count-all-fits words rows bits count e are is =
    let few : count_by (λ b. b) bits ≤ length bits = count_by-le-length (λ b. b) bits in
    omega (arith, are.few, bits-length words rows bits e)
