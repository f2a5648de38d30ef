-- The pieces of a text, and orders of relations.
use Rattle.std.proofs.Common.{◌≡◌, ◌∙◌, ◌⊎◌, inl, inr, ap, sym, subst, refl, ℕ, ◌+◌, ◌<◌, ◌≤◌, suc, Bool, true, false, not, ◌&&◌, List, [], ◌∷◌, ◌++◌, length, map, take, drop, get_or, nat_lt, append_assoc, arith}
use Rattle.std.specs.Prelude.{Option, None, Some, position, if◌then◌else◌}
use Rattle.std.specs.List.{position_or_len}
use Rattle.std.proofs.lemmas.Bool.{cases_order, ltb-false}
use Rattle.std.proofs.lemmas.List.Sums.{prefix_len-le-length}
use Rattle.rpt_cli.specs.Orders.{is_comma, onto, pieces_of}

-- a text without a comma is one piece
pub pieces-last : (text : List ℕ) → position_or_len is_comma text ≡ length text → pieces_of text ≡ text ∷ []
unfolding pieces_of
pieces-last [] none = refl
pieces-last (c ∷ text) none = by (is_comma c) refl none (λ all. pieces-last text all)
  where
    by : (b : Bool) → is_comma c ≡ b → position_or_len is_comma (c ∷ text) ≡ suc (length text) → (position_or_len is_comma text ≡ length text → pieces_of text ≡ text ∷ []) → (if is_comma c then [] ∷ pieces_of text else onto c (pieces_of text)) ≡ (c ∷ text) ∷ []
    by true e n rest = absurd (let zero : position_or_len is_comma (c ∷ text) ≡ 0 = rw e refl in omega arith)
    by false e n rest =
        let more : position_or_len is_comma (c ∷ text) ≡ 1 + position_or_len is_comma text = rw e refl in
        rw (e, rest (omega arith)) refl

-- a text with a comma begins with what stands before it
pub pieces-cut : (text : List ℕ) (i : ℕ) → position_or_len is_comma text ≡ i → i < length text → pieces_of text ≡ take i text ∷ pieces_of (drop (i + 1) text)
unfolding pieces_of
pieces-cut [] i at lt = absurd (omega arith)
pieces-cut (c ∷ text) i at lt = by (is_comma c) refl (λ within. pieces-cut text (position_or_len is_comma text) refl within)
  where
    Cut : ℕ → Type 0
    Cut n = pieces_of text ≡ take n text ∷ pieces_of (drop (n + 1) text)

    by : (b : Bool) → is_comma c ≡ b → (position_or_len is_comma text < length text → Cut (position_or_len is_comma text))
        → (if is_comma c then [] ∷ pieces_of text else onto c (pieces_of text)) ≡ take i (c ∷ text) ∷ pieces_of (drop (i + 1) (c ∷ text))
    by true e more =
        let zero : position_or_len is_comma (c ∷ text) ≡ 0 = rw e refl in
        let is : 0 ≡ i = sym zero ∙ at in
        subst (λ (n : ℕ). (if is_comma c then [] ∷ pieces_of text else onto c (pieces_of text)) ≡ take n (c ∷ text) ∷ pieces_of (drop (n + 1) (c ∷ text))) is (rw e refl)
    by false e more =
        let one : position_or_len is_comma (c ∷ text) ≡ 1 + position_or_len is_comma text = rw e refl in
        let rest = more (omega arith) in
        let is : suc (position_or_len is_comma text) ≡ i = omega arith in
        let behind : suc (position_or_len is_comma text + 1) ≡ suc (position_or_len is_comma text) + 1 = omega arith in
        subst (λ (n : ℕ). (if is_comma c then [] ∷ pieces_of text else onto c (pieces_of text)) ≡ take n (c ∷ text) ∷ pieces_of (drop (n + 1) (c ∷ text))) is
        (rw (e, rest) (ap (λ (n : ℕ). take (suc (position_or_len is_comma text)) (c ∷ text) ∷ pieces_of (drop n (c ∷ text))) behind))

-- a test that fails at the first places, and at one more
pub none-more : (p : List ℕ → Bool) (names : List (List ℕ)) (i : ℕ) → ((k : ℕ) → k < i → p (get_or names k []) ≡ false) → p (get_or names i []) ≡ false
    → (k : ℕ) → k < i + 1 → p (get_or names k []) ≡ false
none-more p names i before here k lt = by (cases_order k i)
  where
    by : (k ≡ i) ⊎ ((k < i) ⊎ (i < k)) → p (get_or names k []) ≡ false
    by (inl same) = ap (λ n. p (get_or names n [])) same ∙ here
    by (inr (inl less)) = before k less
    by (inr (inr more)) = absurd (omega arith)

-- the place of the first comma, and that there is none
place-some : (b : Bool) (n i : ℕ) → (if b then Some n else None) ≡ Some i → (b ≡ true) × (n ≡ i)
place-some true n i e = (refl, (let same : n ≡ i = cc in same))
place-some false n i e = absurd (let no : None ≡ Some i = e in cc)

place-none : (b : Bool) (n : ℕ) → (if b then Some n else None) ≡ None → b ≡ false
place-none true n e = absurd (let no : Some n ≡ None = e in cc)
place-none false n e = refl

-- the relations of the pieces, one piece more
pub named-more : (f : List ℕ → ℕ) (text rest : List ℕ) (order after : List ℕ) (found : Option ℕ) (i : ℕ) → map f (pieces_of text) ≡ order ++ map f (pieces_of rest)
    → found ≡ position is_comma rest → found ≡ Some i → after ≡ order ++ f (take i rest) ∷ [] → map f (pieces_of text) ≡ after ++ map f (pieces_of (drop (i + 1) rest))
named-more f text rest order after found i before is some pushed =
    let at = place-some (nat_lt (position_or_len is_comma rest) (length rest)) (position_or_len is_comma rest) i (sym is ∙ some) in
    let within : i < length rest = grind arith in
    before ∙ ap (λ (ps : List (List ℕ)). order ++ map f ps) (pieces-cut rest i at.1 within)
    ∙ sym (append_assoc order (f (take i rest) ∷ []) (map f (pieces_of (drop (i + 1) rest)))) ∙ ap (λ (o : List ℕ). o ++ map f (pieces_of (drop (i + 1) rest))) (sym pushed)

-- and the last piece
pub named-last : (f : List ℕ → ℕ) (text rest : List ℕ) (order after : List ℕ) (found : Option ℕ) → map f (pieces_of text) ≡ order ++ map f (pieces_of rest)
    → found ≡ position is_comma rest → found ≡ None → after ≡ order ++ f rest ∷ [] → after ≡ map f (pieces_of text)
named-last f text rest order after found before is none pushed =
    let at = place-none (nat_lt (position_or_len is_comma rest) (length rest)) (position_or_len is_comma rest) (sym is ∙ none) in
    let all : position_or_len is_comma rest ≡ length rest = omega (arith, ltb-false (position_or_len is_comma rest) (length rest) at, prefix_len-le-length (λ c. not (is_comma c)) rest) in
    pushed ∙ sym (before ∙ ap (λ (ps : List (List ℕ)). order ++ map f ps) (pieces-last rest all))
