-- Texts between quotes.
use Rattle.std.proofs.Common.{◌≡◌, ap, subst, refl, ℕ, suc, ◌≤◌, ◌+◌, List, [], ◌∷◌, ◌++◌, length, drop, Bool, true, false, cond, arith, inl, inr, ◌∙◌, sym}
use Rattle.std.specs.Prelude.{◌==◌, not, Option, Some, None}
use Rattle.std.specs.List.{list_all}
use Rattle.std.proofs.lemmas.Bool.{cases_Bool, eqb-true, false≢true, and_parts, not-true}
use Rattle.std.proofs.lemmas.Option.{none-some, some_pair_parts}
use Rattle.sql_lex.specs.Tokens.{starts, doubled_quotes}
use Rattle.sql_lex.specs.Lexing.{before, grown_text, text_of, closes}
use Rattle.sql_lex.proofs.BytesRuns.{run_all, run_split}

-- what was grown
pub grown_parts : (front : List ℕ) (more : ℕ) (o : Option (List ℕ × ℕ)) (text : List ℕ) (n : ℕ) → grown_text front more o ≡ Some (text, n)
    → (t : List ℕ) × (k : ℕ) × (o ≡ Some (t, k)) × (front ++ t ≡ text) × (more + k ≡ n)
grown_parts front more None text n h = absurd (none-some (text, n) h)
grown_parts front more (Some (t, k)) text n h = let same = some_pair_parts (front ++ t) text (more + k) n h in (t, k, refl, same.0, same.1)

-- a text between quotes, the first of them read, and the rest behind them
abbrev pub Closes : List ℕ → List ℕ → List ℕ → Type 0
Closes bytes text rest = (bytes ≡ doubled_quotes text ++ 39 ∷ rest) × (starts (λ b. b == 39) rest ≡ false)

-- a text that ends behind a quote
closed-is : (bytes text : List ℕ) (n : ℕ) → starts (λ b. b == 39) bytes ≡ false → ◌≡◌ {A = Option (List ℕ × ℕ)} (Some ([], 0)) (Some (text, n)) → Closes (39 ∷ bytes) text (drop n bytes)
closed-is bytes text n e h =
    let same = some_pair_parts {A = List ℕ} [] text 0 n h in
    let P : List ℕ → ℕ → Type 0 = λ t k. Closes (39 ∷ bytes) t (drop k bytes) in
    let Q : List ℕ → Type 0 = λ t. P t n in
    let R : ℕ → Type 0 = λ k. P [] k in
    subst Q same.0 (subst R same.1 (refl, e))

-- the same text and size by another name
put : (whole bytes t text : List ℕ) (k n : ℕ) → t ≡ text → k ≡ n → Closes whole t (drop k bytes) → Closes whole text (drop n bytes)
put whole bytes t text k n e f h =
    let P : List ℕ → Type 0 = λ u. Closes whole u (drop n bytes) in
    let Q : ℕ → Type 0 = λ m. Closes whole t (drop m bytes) in
    subst P e (subst Q f h)

-- a doubled quote more
more_doubled : (b : ℕ) (bytes t : List ℕ) (k : ℕ) → b ≡ 39 → Closes bytes t (drop k bytes) → Closes (39 ∷ b ∷ bytes) (39 ∷ t) (drop (1 + k) (b ∷ bytes))
more_doubled b bytes t k is h = let size : 1 + k ≡ suc k = omega arith in rw (size, is) (ap (λ (r : List ℕ). 39 ∷ 39 ∷ r) h.0, h.1)

-- a quote more
more_quote : (b : ℕ) (bytes t : List ℕ) (k : ℕ) → b ≡ 39 → Closes (39 ∷ bytes) t (drop k bytes) → Closes (b ∷ bytes) t (drop (1 + k) (b ∷ bytes))
more_quote b bytes t k is h = let size : 1 + k ≡ suc k = omega arith in rw (size, is) h

-- another byte more
more_byte : (b : ℕ) (bytes t : List ℕ) (k : ℕ) → (b == 39) ≡ false → Closes bytes t (drop k bytes) → Closes (b ∷ bytes) (b ∷ t) (drop (1 + k) (b ∷ bytes))
more_byte b bytes t k e h = let size : 1 + k ≡ suc k = omega arith in rw (size, e) (ap (λ (r : List ℕ). b ∷ r) h.0, h.1)

-- a text that is read stands there, behind a first quote where one was read last
pub text-is : (quoted : Bool) (bytes text : List ℕ) (n : ℕ) → text_of quoted bytes ≡ Some (text, n) → Closes (cond quoted (39 ∷ bytes) bytes) text (drop n bytes)
text-is true [] text n h = closed-is [] text n refl h
text-is false [] text n h = absurd (none-some (text, n) h)
text-is true (b ∷ bytes) text n h =
    elim (cases_Bool (b == 39)) [
      | inl e ↦ (let p = grown_parts (39 ∷ []) 1 (text_of false bytes) text n (rw e at h) in
          put (39 ∷ b ∷ bytes) (b ∷ bytes) (39 ∷ p.0) text (1 + p.1) n p.3 p.4 (more_doubled b bytes p.0 p.1 (eqb-true b 39 e) (text-is false bytes p.0 p.1 p.2)))
      | inr e ↦ closed-is (b ∷ bytes) text n e (rw e at h)
    ]
text-is false (b ∷ bytes) text n h =
    elim (cases_Bool (b == 39)) [
      | inl e ↦ (let p = grown_parts [] 1 (text_of true bytes) text n (rw e at h) in
          put (b ∷ bytes) (b ∷ bytes) p.0 text (1 + p.1) n p.3 p.4 (more_quote b bytes p.0 p.1 (eqb-true b 39 e) (text-is true bytes p.0 p.1 p.2)))
      | inr e ↦ (let p = grown_parts (b ∷ []) 1 (text_of false bytes) text n (rw e at h) in
          put (b ∷ bytes) (b ∷ bytes) (b ∷ p.0) text (1 + p.1) n p.3 p.4 (more_byte b bytes p.0 p.1 e (text-is false bytes p.0 p.1 p.2)))
    ]

-- a text takes no more bytes than there are
pub text_of-within : (quoted : Bool) (bytes text : List ℕ) (n : ℕ) → text_of quoted bytes ≡ Some (text, n) → n ≤ length bytes
text_of-within true [] text n h = let same = some_pair_parts {A = List ℕ} [] text 0 n h in omega (arith, same.1)
text_of-within false [] text n h = absurd (none-some (text, n) h)
text_of-within true (b ∷ bytes) text n h =
    elim (cases_Bool (b == 39)) [
      | inl e ↦ (let p = grown_parts (39 ∷ []) 1 (text_of false bytes) text n (rw e at h) in
          let fits = text_of-within false bytes p.0 p.1 p.2 in omega (arith, p.4))
      | inr e ↦ (let same = some_pair_parts {A = List ℕ} [] text 0 n (rw e at h) in omega (arith, same.1))
    ]
text_of-within false (b ∷ bytes) text n h =
    elim (cases_Bool (b == 39)) [
      | inl e ↦ (let p = grown_parts [] 1 (text_of true bytes) text n (rw e at h) in
          let fits = text_of-within true bytes p.0 p.1 p.2 in omega (arith, p.4))
      | inr e ↦ (let p = grown_parts (b ∷ []) 1 (text_of false bytes) text n (rw e at h) in
          let fits = text_of-within false bytes p.0 p.1 p.2 in omega (arith, p.4))
    ]

-- a text ends at a quote with no other behind it
closed-at : (rest : List ℕ) → starts (λ b. b == 39) rest ≡ false → text_of true rest ≡ Some ([], 0)
closed-at [] e = refl
closed-at (b ∷ rest) e = rw e refl

-- a text that stands there is read
pub text-at : (text rest : List ℕ) → starts (λ b. b == 39) rest ≡ false → text_of false (doubled_quotes text ++ 39 ∷ rest) ≡ Some (text, length (doubled_quotes text) + 1)
text-at [] rest e = rw (closed-at rest e) refl
text-at (b ∷ text) rest e =
    elim (cases_Bool (b == 39)) [
      | inl q ↦ (let is : b ≡ 39 = eqb-true b 39 q in
          let size : 1 + (1 + (length (doubled_quotes text) + 1)) ≡ suc (suc (length (doubled_quotes text))) + 1 = omega arith in
          rw (is, text-at text rest e, size) refl)
      | inr q ↦ (let size : 1 + (length (doubled_quotes text) + 1) ≡ suc (length (doubled_quotes text)) + 1 = omega arith in
          rw (q, q, text-at text rest e, size) refl)
    ]

-- bytes without a quote are written as they are
doubled-plain : (bytes : List ℕ) → list_all (λ b. not (b == 39)) bytes ≡ true → doubled_quotes bytes ≡ bytes
doubled-plain [] all = refl
doubled-plain (b ∷ bytes) all =
    let both = and_parts (not (b == 39)) (list_all (λ b. not (b == 39)) bytes) all in
    let plain : (b == 39) ≡ false = not-true (b == 39) both.0 in
    rw (plain, doubled-plain bytes both.1) refl

-- a text that has no doubled quotes
pub text-plain : (bytes plain behind : List ℕ) → plain ≡ before 39 bytes → behind ≡ drop (length plain) bytes → closes behind ≡ true → text_of false bytes ≡ Some (plain, length plain + 1)
text-plain bytes plain [] is left closed = absurd (false≢true closed)
text-plain bytes plain (b ∷ rest) is left closed =
    let both = and_parts (b == 39) (not (starts (λ b. b == 39) rest)) closed in
    let first : b ≡ 39 = eqb-true b 39 both.0 in
    let end : starts (λ b. b == 39) rest ≡ false = not-true (starts (λ b. b == 39) rest) both.1 in
    let P : List ℕ → Type 0 = λ p. list_all (λ b. not (b == 39)) p ≡ true in
    let plain_is : doubled_quotes plain ≡ plain = doubled-plain plain (subst P (sym is) (run_all (λ b. not (b == 39)) bytes)) in
    let Q : List ℕ → Type 0 = λ p. bytes ≡ p ++ drop (length p) bytes in
    let split : bytes ≡ plain ++ drop (length plain) bytes = subst Q (sym is) (run_split (λ b. not (b == 39)) bytes) in
    let whole : bytes ≡ plain ++ 39 ∷ rest = split ∙ ap (λ (r : List ℕ). plain ++ r) (sym left ∙ ap (λ (x : ℕ). x ∷ rest) first) in
    let R : List ℕ → Type 0 = λ p. text_of false (p ++ 39 ∷ rest) ≡ Some (plain, length p + 1) in
    ap (text_of false) whole ∙ subst R plain_is (text-at plain rest end)

-- the same for the code that takes such a text
pub ruleset text_plain = (text-plain)
