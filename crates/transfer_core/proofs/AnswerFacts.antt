-- What a sealed region answers.
use Rattle.std.proofs.Common.{◌≡◌, ◌↔◌, ℕ, zero, suc, ◌/◌, ◌%◌, ◌^◌, ◌<◌, ◌==◌, Bool, true, cond, ◌&&◌, inl, inr, sym, ap, ◌∙◌, subst, arith}
use Rattle.std.specs.Prelude.{bit_and}
use Rattle.std.specs.Int.{bit_at}
use Rattle.std.proofs.lemmas.Bool.{cases_eq, cond_both, cond-true, and_parts, and_from, eqb-true, eq-eqb}
use Rattle.std.proofs.lemmas.Nat.Bits.{bit_at-zero, bit_at_or, bit_at_and, bit_at-lt, bit_at-pow_same, bit_at-pow_other, and_pow, same_from_bits}
use Rattle.std.proofs.Common.{length}
use Rattle.key_codes.specs.Placement.{Kind, place_of_number}
use Rattle.key_codes.specs.Placement.Kind.{Exact}
use Rattle.key_codes.specs.declared.places.Place.{Place}
use Rattle.transfer_core.specs.declared.plan.Pipe.{Pipe}
use Rattle.transfer_core.specs.declared.plan.Port.{Port}
use Rattle.transfer_core.specs.Answers.{PutsNumber, number_at}
use Rattle.transfer_core.specs.Job.{no_port, port_at}
use Rattle.transfer_core.specs.Sealed.{answers, or_below, passes, put_of, sealed}
use Rattle.transfer_core.specs.Plans.{IsValid, Shape, no_pipe, pipe_at, place_at, places_at, words_of}
use Rattle.transfer_core.proofs.Lists.{at_place}
use Rattle.transfer_core.proofs.Regions.{or_same, sealed_is}

abbrev word_of : (ℕ → Bool) → (ℕ → ℕ) → (ℕ → ℕ) → ℕ → ℕ → ℕ
word_of passes word mask items w = or_below (λ i. cond (passes i && (word i == w)) (mask i) 0) items

abbrev yes_at : (ℕ → ℕ) → ℕ → ℕ → Bool
yes_at words word mask = bit_and (words word) mask == mask

abbrev exact_word : ℕ → ℕ
exact_word n = n / 64

abbrev exact_mask : ℕ → ℕ
exact_mask n = 2 ^ (n % 64)

or-bit : (f : ℕ → ℕ) (n b : ℕ) → bit_at (or_below f n) b ≡ 1 → (i : ℕ) × (i < n) × (bit_at (f i) b ≡ 1)
or-bit f zero b e = absurd (omega (arith, bit_at-zero b, e))
or-bit f (suc n) b e =
    elim (cases_eq (bit_at (f n) b) 1) [
      | inl d ↦ (n, omega arith, d)
      | inr ne ↦
          let l = bit_at-lt (f n) b in
          let o = bit_at_or (or_below f n) (f n) b in
          let w = or-bit f n b (omega arith) in (w.0, omega arith, w.2)
    ]

bit-or : (f : ℕ → ℕ) (n b i : ℕ) → i < n → bit_at (f i) b ≡ 1 → bit_at (or_below f n) b ≡ 1
bit-or f zero b i h e = absurd (omega arith)
bit-or f (suc n) b i h e =
    let o = bit_at_or (or_below f n) (f n) b in
    let l = bit_at-lt (or_below f n) b in
    let m = bit_at-lt (f n) b in
    elim (cases_eq i n) [
      | inl d ↦ let e' : bit_at (f n) b ≡ 1 = subst (λ x. bit_at (f x) b ≡ 1) d e in omega arith
      | inr ne ↦ let ih = bit-or f n b i (omega arith) e in omega arith
    ]

bit-test : (n k : ℕ) → bit_and n (2 ^ k) == 2 ^ k ≡ true → bit_at n k ≡ 1
bit-test n k t =
    let e = eqb-true (bit_and n (2 ^ k)) (2 ^ k) t in
    let m = bit_at_and n (2 ^ k) k in
    let o = bit_at-pow_same k in
    let d = ap (λ x. bit_at x k) e in
    let l = bit_at-lt n k in
    omega arith

test-bit : (n k : ℕ) → bit_at n k ≡ 1 → bit_and n (2 ^ k) == 2 ^ k ≡ true
test-bit n k e = eq-eqb (bit_and n (2 ^ k)) (2 ^ k) (and_pow n k ∙ rw e (omega arith))

-- an exact region answers yes exactly for the numbers of the items that pass
exact_yes : (passes : ℕ → Bool) (number : ℕ → ℕ) (items n : ℕ) → (yes_at (word_of passes (λ i. exact_word (number i)) (λ i. exact_mask (number i)) items) (exact_word n) (exact_mask n) ≡ true) ↔ ((i : ℕ) × (i < items) × (passes i ≡ true) × (number i ≡ n))
exact_yes passes number items n =
    let f : ℕ → ℕ = λ i. cond (passes i && (number i / 64 == n / 64)) (2 ^ (number i % 64)) 0 in (
      (λ t.
          let w = or-bit f items (n % 64) (bit-test (or_below f items) (n % 64) t) in
          let v : (passes w.0 ≡ true) × (number w.0 ≡ n) = cond_both (passes w.0 && (number w.0 / 64 == n / 64)) (2 ^ (number w.0 % 64)) 0 (λ x. bit_at x (n % 64) ≡ 1 → (passes w.0 ≡ true) × (number w.0 ≡ n))
          (λ both e. let p = and_parts (passes w.0) (number w.0 / 64 == n / 64) both in
          let d = eqb-true (number w.0 / 64) (n / 64) p.1 in
          let m : number w.0 % 64 ≡ n % 64 = elim (cases_eq (n % 64) (number w.0 % 64)) [ inl s ↦ sym s | inr ne ↦ absurd (omega (arith, bit_at-pow_other (number w.0 % 64) (n % 64) ne, e)) ] in
          (p.0, omega arith))
          (λ none e. absurd (omega (arith, bit_at-zero (n % 64), e))) w.2 in
          (w.0, w.1, v.0, v.1)),
      (λ w.
          let same : f w.0 ≡ 2 ^ (number w.0 % 64) = cond-true (passes w.0 && (number w.0 / 64 == n / 64)) (2 ^ (number w.0 % 64)) 0 (and_from (passes w.0) (number w.0 / 64 == n / 64) w.2 (eq-eqb (number w.0 / 64) (n / 64) (ap (λ x. x / 64) w.3))) in
          test-bit (or_below f items) (n % 64) (bit-or f items (n % 64) w.0 w.1
          (ap (λ x. bit_at x (n % 64)) same ∙ ap (λ x. bit_at (2 ^ (x % 64)) (n % 64)) w.3 ∙ bit_at-pow_same (n % 64)))),
    )

-- a region of any placement answers yes for the place of each item that passes
inserted_yes : (passes : ℕ → Bool) (word mask : ℕ → ℕ) (items i w m : ℕ) → i < items → passes i ≡ true → word i ≡ w → mask i ≡ m → yes_at (word_of passes word mask items) w m ≡ true
inserted_yes passes word mask items i w m h t d e =
    let f : ℕ → ℕ = λ i. cond (passes i && (word i == w)) (mask i) 0 in
    let same : f i ≡ m = cond-true (passes i && (word i == w)) (mask i) 0 (and_from (passes i) (word i == w) t (eq-eqb (word i) w d)) ∙ e in
    eq-eqb (bit_and (or_below f items) m) m (same_from_bits (bit_and (or_below f items) m) m (λ b.
    let a = bit_at_and (or_below f items) m b in
    let l = bit_at-lt m b in
    elim (cases_eq (bit_at m b) 1) [
      | inl one ↦ let o = bit-or f items b i h (ap (λ x. bit_at x b) same ∙ one) in omega arith
      | inr ne ↦ omega arith
    ]))

module _ (s : Shape) (V : IsValid s) (p q : ℕ) (pipe : p < length s.pipes) (there : q < length (pipe_at s.pipes p).writes) (b : Port) (i : ℕ) where
  abbrev x : Pipe
  x = pipe_at s.pipes p

  abbrev a : Port
  a = port_at (pipe_at s.pipes p).writes q

  abbrev passing : ℕ → Bool
  passing j = passes s (sealed s) j (pipe_at s.pipes p).reads

  abbrev m : ℕ
  m = number_at s b i

  is_sealed : (w : ℕ) → sealed s a.region w ≡ or_below (put_of s (sealed s) x.reads a w) x.items
  is_sealed w = sealed_is s V p x (at_place s.pipes p no_pipe pipe) q a (at_place x.writes q no_port there) w

  exact_place : (c : Port) (j : ℕ) → (places_at s c.places).kind ≡ Exact → place_at s c j ≡ place_of_number Exact (number_at s c j) (words_of s c.region)
  exact_place c j e = ap (λ (k : Kind). place_of_number k (number_at s c j) (words_of s c.region)) e

  -- an exact region answers yes exactly for the numbers that are put into it
  pub answers_exactly : b.region ≡ a.region → (places_at s a.places).kind ≡ Exact → (places_at s b.places).kind ≡ Exact → (answers s (sealed s) i b ≡ true) ↔ PutsNumber s p q (number_at s b i)
  answers_exactly same e f =
      let y = exact_yes passing (number_at s a) x.items m in
      let words : sealed s b.region (m / 64) ≡ word_of passing (λ j. exact_word (number_at s a j)) (λ j. exact_mask (number_at s a j)) x.items (m / 64)
      = ap (λ (r : ℕ). sealed s r (m / 64)) same ∙ is_sealed (m / 64) ∙ or_same (put_of s (sealed s) x.reads a (m / 64)) (λ j. cond (passing j && (number_at s a j / 64 == m / 64)) (2 ^ (number_at s a j % 64)) 0) x.items (λ j. ap (λ (z : Place). cond (passing j && (z.word == m / 64)) z.mask 0) (exact_place a j e)) in
      let is = ap (λ (z : Place). bit_and (sealed s b.region z.word) z.mask == z.mask) (exact_place b i f) ∙ ap (λ (n : ℕ). bit_and n (2 ^ (m % 64)) == 2 ^ (m % 64)) words in
      ((λ t. y.0 (sym is ∙ t)), (λ w. is ∙ y.1 w))

  -- a region of any kind answers yes for the numbers that are put into it
  pub answers_put : b.region ≡ a.region → (places_at s a.places).kind ≡ (places_at s b.places).kind → PutsNumber s p q (number_at s b i) → answers s (sealed s) i b ≡ true
  answers_put same kinds (j, less, pass, number) =
      let one : place_at s a j ≡ place_at s b i = λ k. place_of_number (kinds k) (number k) (words_of s (sym same k)) in
      let z : Place = place_at s b i in
      ap (λ (n : ℕ). bit_and n z.mask == z.mask) (ap (λ (r : ℕ). sealed s r z.word) same ∙ is_sealed z.word)
      ∙ inserted_yes passing (λ j. (place_at s a j).word) (λ j. (place_at s a j).mask) x.items j z.word z.mask less pass (ap (λ (y : Place). y.word) one) (ap (λ (y : Place). y.mask) one)
