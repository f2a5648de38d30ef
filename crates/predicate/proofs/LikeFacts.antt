-- Patterns, one character at a time.
use Rattle.std.proofs.Common.{◌≡◌, ◌≢◌, ◌∙◌, ◌⊎◌, inl, inr, ℕ, ◌&&◌, ◌||◌, Bool, true, false, List, [], ◌∷◌, refl, sym}
use Rattle.std.proofs.lemmas.Bool.{eq-eqb, false≢true, ne_eqb}
use Rattle.rpt_base.proofs.BoolFacts.{same_truth}
use Rattle.predicate.specs.Like.{some_tail, first_and_rest, stands_for, is_like}

module _ (passes : List ℕ → Bool) where
  -- the text itself is one of those that are left
  pub some_tail-here : (text : List ℕ) → passes text ≡ true → some_tail passes text ≡ true
  some_tail-here [] h = h
  some_tail-here (c ∷ text) h = rw h refl

  -- what is left of a rest is left of the text
  pub some_tail-later : (c : ℕ) (text : List ℕ) → some_tail passes text ≡ true → some_tail passes (c ∷ text) ≡ true
  some_tail-later c text h = by (passes (c ∷ text))
    where
      by : (b : Bool) → (b || some_tail passes text) ≡ true
      by true = refl
      by false = h

  -- what is left is the text itself or left of its rest
  pub some_tail-or : (P : Type 0) (c : ℕ) (text : List ℕ) → (passes (c ∷ text) ≡ true → P) → (some_tail passes text ≡ true → P)
      → some_tail passes (c ∷ text) ≡ true → P
  some_tail-or P c text here later h = by (passes (c ∷ text)) refl h
    where
      by : (b : Bool) → passes (c ∷ text) ≡ b → (b || some_tail passes text) ≡ true → P
      by true e g = here e
      by false e g = later g

  -- what is left of what is left is left
  some_tail-twice : (text : List ℕ) → some_tail (some_tail passes) text ≡ true → some_tail passes text ≡ true
  some_tail-twice [] h = h
  some_tail-twice (c ∷ text) h =
      let step : (some_tail (some_tail passes) text ≡ true → some_tail passes (c ∷ text) ≡ true) = λ g. some_tail-later c text (some_tail-twice text g) in
      by (some_tail passes (c ∷ text)) step h
    where
      by : (b : Bool) → (some_tail (some_tail passes) text ≡ true → b ≡ true) → (b || some_tail (some_tail passes) text) ≡ true → b ≡ true
      by true step g = refl
      by false step g = step g

-- the first character of a pattern, where it isn't `%`
plain : (p : ℕ) (pattern text : List ℕ) → p ≢ 37 → is_like (p ∷ pattern) text ≡ first_and_rest (stands_for p) (is_like pattern) text
plain p pattern text plain_one = rw (ne_eqb p 37 plain_one) refl

plain-fits : (p : ℕ) (pattern : List ℕ) (c : ℕ) (text : List ℕ) → p ≢ 37 → stands_for p c ≡ true → is_like (p ∷ pattern) (c ∷ text) ≡ is_like pattern text
plain-fits p pattern c text plain_one fits = plain p pattern (c ∷ text) plain_one ∙ rw fits refl

plain-part : (p : ℕ) (pattern : List ℕ) (c : ℕ) (text : List ℕ) → p ≢ 37 → is_like (p ∷ pattern) (c ∷ text) ≡ true → is_like pattern text ≡ true
plain-part p pattern c text plain_one h = by (stands_for p c) (sym (plain p pattern (c ∷ text) plain_one) ∙ h)
  where
    by : (b : Bool) → (b && is_like pattern text) ≡ true → is_like pattern text ≡ true
    by true g = g
    by false g = cc

-- where the first characters fit, what is left of the pattern fits as early as it can
earlier : (p : ℕ) (pattern : List ℕ) (c : ℕ) (text : List ℕ) → p ≢ 37
    → some_tail (is_like (p ∷ pattern)) (c ∷ text) ≡ true → some_tail (is_like pattern) text ≡ true
earlier p pattern c [] plain_one =
    some_tail-or (is_like (p ∷ pattern)) (some_tail (is_like pattern) [] ≡ true) c []
    (λ h. plain-part p pattern c [] plain_one h)
    (λ h. absurd (false≢true (sym (plain p pattern [] plain_one) ∙ h)))
earlier p pattern c (d ∷ text) plain_one =
    some_tail-or (is_like (p ∷ pattern)) (some_tail (is_like pattern) (d ∷ text) ≡ true) c (d ∷ text)
    (λ h. some_tail-here (is_like pattern) (d ∷ text) (plain-part p pattern c (d ∷ text) plain_one h))
    (λ h. some_tail-later (is_like pattern) d text (earlier p pattern d text plain_one h))

-- two characters that stand for one another
stands : (p c : ℕ) → ((p ≢ 95) × (p ≡ c)) ⊎ (p ≡ 95) → stands_for p c ≡ true
stands p c e = elim e [ inl e ↦ rw (ne_eqb p 95 e.0, eq-eqb p c e.1) refl | inr e ↦ rw (eq-eqb p 95 e) refl ]

stands_not : (p c : ℕ) → p ≢ 95 → p ≢ c → stands_for p c ≡ false
stands_not p c any same = rw (ne_eqb p 95 any, ne_eqb p c same) refl

-- What is left of a pattern and a text, when the same number of characters at their beginnings fit one another.
pub record Reaches (pattern text behind rest : List ℕ) : Type 0 where
  same : is_like pattern text ≡ is_like behind rest
  early : some_tail (is_like pattern) text ≡ true → some_tail (is_like behind) rest ≡ true

pub reaches-start : (pattern text : List ℕ) → Reaches pattern text pattern text
reaches-start pattern text = record { same = refl; early = λ h. h }

module _ (pattern text left rest : List ℕ) (r : Reaches pattern text left rest) where
  -- another character fits
  pub reaches-more : (p : ℕ) (behind : List ℕ) (c : ℕ) (more : List ℕ) → left ≡ p ∷ behind → rest ≡ c ∷ more
      → p ≢ 37 → ((p ≢ 95) × (p ≡ c)) ⊎ (p ≡ 95) → Reaches pattern text behind more
  reaches-more p behind c more e f plain_one fits =
      let s = rw (e, f) at r.same in
      let g = rw (e, f) at r.early in
      record { same = s ∙ plain-fits p behind c more plain_one (stands p c fits); early = λ h. earlier p behind c more plain_one (g h) }

  -- a `%` leaves the rest to what is behind it
  pub reaches-percent : (p : ℕ) (behind : List ℕ) → left ≡ p ∷ behind → p ≡ 37
      → (is_like pattern text ≡ some_tail (is_like behind) rest) × (some_tail (is_like pattern) text ≡ some_tail (is_like behind) rest)
  reaches-percent p behind e percent =
      let s = rw (e, percent) at r.same in
      let g = rw (e, percent) at r.early in
      (s, same_truth _ _ (λ h. some_tail-twice (is_like behind) rest (g h)) (λ h. some_tail-here (is_like pattern) text (s ∙ h)))

  pub reaches-whole : left ≡ [] → rest ≡ [] → is_like pattern text ≡ true
  reaches-whole e f = rw (e, f) at r.same

  pub reaches-past : (c : ℕ) (more : List ℕ) → left ≡ [] → rest ≡ c ∷ more → is_like pattern text ≡ false
  reaches-past c more e f = rw (e, f) at r.same

  pub reaches-short : (p : ℕ) (behind : List ℕ) → left ≡ p ∷ behind → rest ≡ [] → p ≢ 37 → is_like pattern text ≡ false
  reaches-short p behind e f plain_one = let s = rw (e, f) at r.same in s ∙ plain p behind [] plain_one

  pub reaches-differs : (p : ℕ) (behind : List ℕ) (c : ℕ) (more : List ℕ) → left ≡ p ∷ behind → rest ≡ c ∷ more
      → p ≢ 37 → p ≢ 95 → p ≢ c → is_like pattern text ≡ false
  reaches-differs p behind c more e f plain_one any same =
      let s = rw (e, f) at r.same in
      s ∙ plain p behind (c ∷ more) plain_one ∙ rw (stands_not p c any same) refl
