-- Bits of rows.
use Rattle.std.proofs.Common.{◌≡◌, ◌∙◌, sym, refl, ap, ℕ, zero, suc, ◌+◌, ◌-◌, ◌*◌, ◌/◌, ◌%◌, ◌^◌, ◌<◌, ◌≤◌, ◌≢◌, div-le_self, inl, inr, Bool, true, false, List, [], ◌∷◌, ◌++◌, length, get_or, map, set, arith, w64}
use Rattle.std.specs.Prelude.{◌==◌, cond, min, filter, replicate}
use Rattle.std.specs.Int.{bit_at, trailing_zeros}
use Rattle.std.specs.Int.RustNames.{bit_and, bit_or}
use Rattle.std.specs.List.{range_with_len}
use Rattle.std.proofs.lemmas.Bool.{cases_eq, cases_lt, eq-eqb, false≢true}
use Rattle.std.proofs.lemmas.List.{get_or_default, get_or-set_same, get_or-set_other, length-set, length-replicate, append-nil, map-id}
use Rattle.std.proofs.lemmas.List.FromFn.{length-map-range_with_len, get_or-map-range_with_len, fill_by_all, filter_of_map_range_with_len_more}
use Rattle.std.proofs.lemmas.Nat.Bits.{bit_at-zero, bit_at_set_same, bit_at_set_other, shr_and_one, bit_at-trailing_zeros, bit_at_above}
use Rattle.std.proofs.lemmas.Nat.{shr-shr}
use Rattle.std.proofs.Math.Nat.{pos_of_ne-zero}
use Rattle.rpt_base.proofs.ListFacts.{at-replicate}
use Rattle.column_table.specs.Bits.{AreBits, is_set_in, bits_of}

-- there is a bit for each row
pub bits-length : (words : List ℕ) (rows : ℕ) (bits : List Bool) → bits_of words rows ≡ bits → length bits ≡ rows
bits-length words rows bits e = ap length (sym e) ∙ length-map-range_with_len (is_set_in words) 0 rows

pub bit-of : (words : List ℕ) (rows : ℕ) (bits : List Bool) (row : ℕ) → bits_of words rows ≡ bits → row < length bits → get_or bits row false ≡ is_set_in words row
bit-of words rows bits row e lt =
    rw (← e) (get_or-map-range_with_len (is_set_in words) 0 rows row row false (omega (arith, bits-length words rows bits e)) (omega arith))

no-bit : (n row : ℕ) → is_set_in (replicate n 0) row ≡ false
no-bit n row = rw (at-replicate {X = ℕ} n (row / 64) 0, bit_at-zero (row % 64)) refl

all-false : (f : ℕ → Bool) (a n : ℕ) → ((k : ℕ) → f k ≡ false) → map f (range_with_len a n) ≡ replicate n false
all-false f a zero h = refl
all-false f a (suc n) h = rw (h a, all-false f (a + 1) n h) refl

pub no-bits : (words : List ℕ) (n rows : ℕ) → words ≡ replicate n 0 → bits_of words rows ≡ replicate rows false
no-bits words n rows e = rw e (all-false (is_set_in (replicate n 0)) 0 rows (no-bit n))

-- one bit more
module _ (words : List ℕ) (row w : ℕ) (within : row / 64 < length words) (is : w ≡ bit_or (get_or words (row / 64) 0) (1 * 2 ^ (row % 64) % 2 ^ 64)) where
  set-same : is_set_in (set words (row / 64) w) row ≡ true
  set-same =
      let here : get_or (set words (row / 64) w) (row / 64) 0 ≡ w = get_or-set_same words (row / 64) w 0 within in
      rw (here, is) (eq-eqb _ 1 (bit_at_set_same w64 (get_or words (row / 64) 0) (row % 64) (omega arith)))

  set-other : (k : ℕ) → (k ≡ row → ⊥) → is_set_in (set words (row / 64) w) k ≡ is_set_in words k
  set-other k ne = elim (cases_eq (k / 64) (row / 64)) [
    | inl e ↦
        let other : k % 64 ≢ row % 64 = (λ same. ne (omega arith)) in
        let here : get_or (set words (row / 64) w) (row / 64) 0 ≡ w = get_or-set_same words (row / 64) w 0 within in
        rw (e, here, is) (ap (λ b. b == 1) (bit_at_set_other w64 (get_or words (row / 64) 0) (row % 64) (omega arith) (k % 64) other))
    | inr e ↦ ap (λ n. bit_at n (k % 64) == 1) (get_or-set_other words (row / 64) (k / 64) w 0 e)
  ]

pub bits-set : (words : List ℕ) (rows : ℕ) (bits : List Bool) (row old : ℕ) → bits_of words rows ≡ bits → row < length bits → rows ≤ 64 * length words → old ≡ get_or words (row / 64) old
    → bits_of (set words (row / 64) (bit_or old (1 * 2 ^ (row % 64) % 2 ^ 64))) rows ≡ set bits row true
bits-set words rows bits row old e lt long read =
    let count : length bits ≡ rows = bits-length words rows bits e in
    let within : row / 64 < length words = omega arith in
    let word : old ≡ get_or words (row / 64) 0 = read ∙ get_or_default words (row / 64) old 0 within in
    let w : ℕ = bit_or old (1 * 2 ^ (row % 64) % 2 ^ 64) in
    let is : w ≡ bit_or (get_or words (row / 64) 0) (1 * 2 ^ (row % 64) % 2 ^ 64) = ap (λ n. bit_or n (1 * 2 ^ (row % 64) % 2 ^ 64)) word in
    sym (fill_by_all (is_set_in (set words (row / 64) w)) (set bits row true) rows false (length-set bits row true ∙ count)
    (λ k kt. elim (cases_eq k row) [
      | inl same ↦ rw same (get_or-set_same bits row true false lt ∙ sym (set-same words row w within is))
      | inr other ↦ get_or-set_other bits row k true false other ∙ bit-of words rows bits k e (omega arith) ∙ sym (set-other words row w within is k other)
    ]))

-- the words stay as many, and no bit past the rows is set
pub are-set : (words : List ℕ) (rows : ℕ) (bits : List Bool) (row old : ℕ) → bits_of words rows ≡ bits → row < length bits → AreBits words rows → old ≡ get_or words (row / 64) old
    → AreBits (set words (row / 64) (bit_or old (1 * 2 ^ (row % 64) % 2 ^ 64))) rows
are-set words rows bits row old e lt are read =
    let count : length bits ≡ rows = bits-length words rows bits e in
    let within : row / 64 < length words = omega (arith, are.enough) in
    let word : old ≡ get_or words (row / 64) 0 = read ∙ get_or_default words (row / 64) old 0 within in
    let w : ℕ = bit_or old (1 * 2 ^ (row % 64) % 2 ^ 64) in
    let is : w ≡ bit_or (get_or words (row / 64) 0) (1 * 2 ^ (row % 64) % 2 ^ 64) = ap (λ n. bit_or n (1 * 2 ^ (row % 64) % 2 ^ 64)) word in
    record {
      few = are.few;
      enough = omega (arith, are.enough, length-set words (row / 64) w);
      no_more = omega (arith, are.no_more, length-set words (row / 64) w);
      rest = λ k past. set-other words row w within is k (λ same. omega arith) ∙ are.rest k past;
    }

pub are-none : (words : List ℕ) (rows : ℕ) → rows < 4294967296 → words ≡ replicate (rows / 64 + min 1 (rows % 64)) 0 → AreBits words rows
are-none words rows few e =
    let long : length words ≡ rows / 64 + min 1 (rows % 64) = ap length e ∙ length-replicate {A = ℕ} (rows / 64 + min 1 (rows % 64)) 0 in
    record {
      few = few;
      enough = omega (arith, long);
      no_more = omega (arith, long);
      rest = λ k past. rw e (no-bit (rows / 64 + min 1 (rows % 64)) k);
    }

-- the test that the code makes
pub bit-read : (words : List ℕ) (rows : ℕ) (bits : List Bool) (row w : ℕ) → bits_of words rows ≡ bits → row < length bits → w ≡ get_or words (row / 64) 0
    → (bit_and (w / 2 ^ (row % 64)) 1 == 1) ≡ get_or bits row false
bit-read words rows bits row w e lt word = rw (bit-of words rows bits row e lt, shr_and_one, word) refl

-- ---- the next bit that is set

-- a bit of a row's word, counted from the row on
bit-past : (words : List ℕ) (row i : ℕ) → row % 64 + i < 64 → is_set_in words (row + i) ≡ (bit_at (get_or words (row / 64) 0 / 2 ^ (row % 64)) i == 1)
bit-past words row i lt =
    let word : (row + i) / 64 ≡ row / 64 = omega arith in
    let place : (row + i) % 64 ≡ row % 64 + i = omega arith in
    rw (word, place) (ap (λ n. n % 2 == 1) (sym (shr-shr (get_or words (row / 64) 0) (row % 64) i)))

-- no bit is set from one row on, up to another
pub record NoneSet (words : List ℕ) (from row : ℕ) : Type 0 where
  pub le : from ≤ row
  pub unset : (k : ℕ) → from ≤ k → k < row → is_set_in words k ≡ false

-- nor in the rest of a word of which nothing is left
pub none-in_word : (words : List ℕ) (from row : ℕ) → NoneSet words from row → get_or words (row / 64) 0 / 2 ^ (row % 64) ≡ 0 → NoneSet words from (row + (64 - row % 64))
none-in_word words from row h zero_left = record {
  le = omega (arith, h.le);
  unset = λ k a b. elim (cases_lt k row) [
    | inl before ↦ h.unset k a before
    | inr after ↦
        let at : row + (k - row) ≡ k = omega arith in
        let bit : is_set_in words (row + (k - row)) ≡ false = bit-past words row (k - row) (omega arith) ∙ rw (zero_left, bit_at-zero (k - row)) refl in
        rw at at bit
  ];
}

-- the lowest bit of what is left of a word
pub record IsNextSet (words : List ℕ) (from row : ℕ) : Type 0 where
  pub none : NoneSet words from row
  pub here : is_set_in words row ≡ true

pub next-in_word : (words : List ℕ) (from row : ℕ) → NoneSet words from row → get_or words (row / 64) 0 < 2 ^ 64 → 0 < get_or words (row / 64) 0 / 2 ^ (row % 64)
    → IsNextSet words from (row + trailing_zeros w64 (get_or words (row / 64) 0 / 2 ^ (row % 64)))
next-in_word words from row h fits some =
    let word : ℕ = get_or words (row / 64) 0 in
    let left : ℕ = word / 2 ^ (row % 64) in
    let zeros : ℕ = trailing_zeros w64 left in
    let lowest = bit_at-trailing_zeros w64 left some (omega (arith, div-le_self word (2 ^ (row % 64)))) in
    let same : bit_at left zeros ≡ bit_at word (row % 64 + zeros) = ap (λ n. n % 2) (shr-shr word (row % 64) zeros) in
    let within : row % 64 + zeros < 64 = elim (cases_lt (row % 64 + zeros) 64) [
      | inl lt ↦ lt
      | inr ge ↦ absurd (omega (arith, same, lowest.1, bit_at_above word 64 (row % 64 + zeros) fits ge))
    ] in
    record {
      none = record {
        le = omega (arith, h.le);
        unset = λ k a b. elim (cases_lt k row) [
          | inl before ↦ h.unset k a before
          | inr after ↦
              let at : row + (k - row) ≡ k = omega arith in
              let bit : is_set_in words (row + (k - row)) ≡ false = bit-past words row (k - row) (omega arith) ∙ rw (lowest.2 (k - row) (omega arith)) refl in
              rw at at bit
        ];
      };
      here = bit-past words row zeros within ∙ rw lowest.1 refl;
    }

-- the next row of the set
pub record IsNextRow (bits : List Bool) (from row : ℕ) : Type 0 where
  pub bounds : (from ≤ row) × (row ≤ length bits)
  pub passed : (k : ℕ) → from ≤ k → k < row → get_or bits k false ≡ false
  pub found : row < length bits → get_or bits row false ≡ true

pub next-none : (words : List ℕ) (rows : ℕ) (bits : List Bool) (from row : ℕ) → bits_of words rows ≡ bits → from ≤ length bits → NoneSet words from row → rows ≤ row → IsNextRow bits from rows
next-none words rows bits from row e start h past =
    let count : length bits ≡ rows = bits-length words rows bits e in
    record {
      bounds = (omega arith, omega arith);
      passed = λ k a b. bit-of words rows bits k e (omega arith) ∙ h.unset k a (omega arith);
      found = λ lt. absurd (omega arith);
    }

pub next-some : (words : List ℕ) (rows : ℕ) (bits : List Bool) (from row : ℕ) → bits_of words rows ≡ bits → AreBits words rows → IsNextSet words from row → (row < rows) × IsNextRow bits from row
next-some words rows bits from row e are h =
    let count : length bits ≡ rows = bits-length words rows bits e in
    let within : row < rows = elim (cases_lt row rows) [ inl lt ↦ lt | inr ge ↦ absurd (false≢true (sym (are.rest row ge) ∙ h.here)) ] in (
      within,
      record {
        bounds = (h.none.le, omega arith);
        passed = λ k a b. bit-of words rows bits k e (omega arith) ∙ h.none.unset k a b;
        found = λ lt. bit-of words rows bits row e lt ∙ h.here;
      },
    )

pub next-here : (words : List ℕ) (rows : ℕ) (bits : List Bool) (from row w : ℕ) → bits_of words rows ≡ bits → AreBits words rows → NoneSet words from row
    → w ≡ get_or words (row / 64) 0 → w < 2 ^ 64 → (w / 2 ^ (row % 64) ≡ 0 → ⊥)
    → (row + trailing_zeros w64 (w / 2 ^ (row % 64)) < rows) × IsNextRow bits from (row + trailing_zeros w64 (w / 2 ^ (row % 64)))
next-here words rows bits from row w e are h read fits some =
    let next = next-in_word words from row h (rw read at fits) (rw read at (pos_of_ne-zero some)) in
    rw read (next-some words rows bits from _ e are next)

-- ---- the rows of the set

-- the rows among one more
listed-more : (p : ℕ → Bool) (n : ℕ) → filter p (range_with_len 0 (n + 1)) ≡ filter p (range_with_len 0 n) ++ cond (p n) (n ∷ []) []
listed-more p n = simp map-id at (filter_of_map_range_with_len_more p (λ (k : ℕ). k) 0 n n (omega arith))

-- none is among those from one on, up to another
listed-gap : (p : ℕ → Bool) (n m : ℕ) → ((k : ℕ) → n ≤ k → k < n + m → p k ≡ false) → filter p (range_with_len 0 (n + m)) ≡ filter p (range_with_len 0 n)
listed-gap p n zero h = ap (λ k. filter p (range_with_len 0 k)) (omega arith)
listed-gap p n (suc m) h =
    let next : n + suc m ≡ n + m + 1 = omega arith in
    let unset : p (n + m) ≡ false = h (n + m) (omega arith) (omega arith) in
    rw (next, listed-more p (n + m), unset, append-nil) (listed-gap p n m (λ k a b. h k a (omega arith)))

-- these are the rows of the set before this one, which is the next, or the number of all
pub record ListedTo (bits : List Bool) (rows : List ℕ) (row : ℕ) : Type 0 where
  pub rows_are : rows ≡ filter (λ k. get_or bits k false) (range_with_len 0 row)
  pub within : row ≤ length bits
  pub found : row < length bits → get_or bits row false ≡ true

-- the next row is looked for from here on
listed-to : (bits : List Bool) (rows : List ℕ) (from row : ℕ) → rows ≡ filter (λ k. get_or bits k false) (range_with_len 0 from) → IsNextRow bits from row → ListedTo bits rows row
listed-to bits rows from row are next =
    let at : from + (row - from) ≡ row = omega (arith, next.bounds.0) in
    record {
      rows_are = are ∙ sym (listed-gap (λ k. get_or bits k false) from (row - from) (λ k a b. next.passed k a (omega arith))) ∙ ap (λ k. filter (λ k. get_or bits k false) (range_with_len 0 k)) at;
      within = next.bounds.1;
      found = next.found;
    }

pub listed-first : (bits : List Bool) (rows : List ℕ) (row : ℕ) → rows ≡ [] → IsNextRow bits 0 row → ListedTo bits rows row
listed-first bits rows row none next = listed-to bits rows 0 row none next

pub listed-next : (bits : List Bool) (rows : List ℕ) (row next : ℕ) → ListedTo bits rows row → row < length bits → IsNextRow bits (row + 1) next → ListedTo bits (rows ++ row ∷ []) next
listed-next bits rows row next h lt is =
    let more : rows ++ row ∷ [] ≡ filter (λ k. get_or bits k false) (range_with_len 0 (row + 1)) =
    rw (listed-more (λ k. get_or bits k false) row, h.found lt) (ap (λ rs. rs ++ row ∷ []) h.rows_are) in
    listed-to bits (rows ++ row ∷ []) (row + 1) next more is

pub listed-all : (bits : List Bool) (rows : List ℕ) (row : ℕ) → ListedTo bits rows row → length bits ≤ row → rows ≡ filter (λ k. get_or bits k false) (range_with_len 0 (length bits))
listed-all bits rows row h all = h.rows_are ∙ ap (λ k. filter (λ k. get_or bits k false) (range_with_len 0 k)) (omega (arith, h.within))
