-- What csv's machine leaves of a text when it has read a record.
use Rattle.std.proofs.Common.{◌==◌, ◌&&◌, ◌≡◌, ◌≤◌, ◌-◌, ℕ, Bool, true, false, List, [], ◌∷◌, ◌++◌, length, Option, Some, None, if◌then◌else◌, refl, subst, arith}
use Rattle.csv.specs.Machine.{Read, after_end, ends_at_end, ends_with, field_after, fields_after, in_field, is_byte, is_end, next_record, start_field, start_record, step}
use Rattle.csv.specs.declared.parser.Config.{Config}
use Rattle.csv.specs.declared.parser.State.{State}
use Rattle.csv.specs.declared.parser.Action.{Action}
use Rattle.csv.specs.declared.parser.Terminator.{Terminator}
use Rattle.csv.specs.declared.parser.Terminator.TheVariants as term
use Rattle.csv.specs.declared.parser.State.TheVariants as st
use Rattle.csv.specs.declared.parser.Action.TheVariants as act

-- where a byte ends a record, no end of the text makes another
abbrev Quiet : State × Action → Type 0
Quiet x = is_end x.1 ≡ true → ends_at_end x.0 ≡ false

quiet-if : (b : Bool) (x y : State × Action) → Quiet x → Quiet y → Quiet (if b then x else y)
quiet-if true x y p q = p
quiet-if false x y p q = q

after-quiet : (t : Terminator) (c : ℕ) → ends_at_end (after_end t c) ≡ false
after-quiet term.CRLF c = by (c == 13)
  where
    by : (b : Bool) → ends_at_end (if b then st.AfterCr else st.StartRecord) ≡ false
    by true = refl
    by false = refl
after-quiet (term.Any t) c = refl

in_field-quiet : (cfg : Config) (c : ℕ) → Quiet (in_field cfg c)
in_field-quiet cfg c = quiet-if (c == cfg.delimiter) (st.StartField, act.EndField) _ (λ e. cc)
    (quiet-if (ends_with cfg.terminator c) (after_end cfg.terminator c, act.EndRecord) (st.InField, act.Copy) (λ e. after-quiet cfg.terminator c) (λ e. cc))

start_field-quiet : (cfg : Config) (c : ℕ) → Quiet (start_field cfg c)
start_field-quiet cfg c = quiet-if (cfg.quoting && (c == cfg.quote)) (st.InQuoted, act.Skip) (in_field cfg c) (λ e. cc) (in_field-quiet cfg c)

start_record-quiet : (cfg : Config) (c : ℕ) → Quiet (start_record cfg c)
start_record-quiet cfg c = quiet-if (ends_with cfg.terminator c) (st.StartRecord, act.Skip) _ (λ e. cc)
    (quiet-if (is_byte cfg.comment c) (st.InComment, act.Skip) (start_field cfg c) (λ e. cc) (start_field-quiet cfg c))

step-quiet : (cfg : Config) (s : State) (c : ℕ) → Quiet (step cfg s c)
step-quiet cfg st.StartRecord c = start_record-quiet cfg c
step-quiet cfg st.StartField c = start_field-quiet cfg c
step-quiet cfg st.InField c = in_field-quiet cfg c
step-quiet cfg st.InQuoted c = quiet-if (cfg.quoting && (c == cfg.quote)) (st.AfterQuote, act.Skip) _ (λ e. cc)
    (quiet-if (cfg.quoting && is_byte cfg.escape c) (st.InEscape, act.Skip) (st.InQuoted, act.Copy) (λ e. cc) (λ e. cc))
step-quiet cfg st.InEscape c = λ e. cc
step-quiet cfg st.AfterQuote c = quiet-if (cfg.quoting && cfg.double_quote && (c == cfg.quote)) (st.InQuoted, act.Copy) (in_field cfg c) (λ e. cc) (in_field-quiet cfg c)
step-quiet cfg st.InComment c = quiet-if (c == 10) (st.StartRecord, act.Skip) (st.InComment, act.Skip) (λ e. cc) (λ e. cc)
step-quiet cfg st.AfterCr c = quiet-if (c == 10) (st.StartRecord, act.Skip) (start_record cfg c) (λ e. cc) (start_record-quiet cfg c)

-- what a read leaves: a quiet state, and no more than n bytes
abbrev pub Leaves : Read → ℕ → Type 0
Leaves p n = (ends_at_end p.1 ≡ false) × (length p.2 ≤ n)

pub next-leaves : (cfg : Config) (s : State) (f : List (List ℕ)) (w xs : List ℕ) (p : Read) → next_record cfg s f w xs ≡ Some p → Leaves p (length xs - 1)
unfolding next_record
next-leaves cfg s f w [] p e = by (ends_at_end s) e
  where
    by : (d : Bool) → ◌≡◌ {A = Option Read} (if d then Some (f ++ (w ∷ []), st.StartRecord, []) else None) (Some p) → Leaves p 0
    by true h = let q : (f ++ (w ∷ []), st.StartRecord, []) ≡ p = cc in subst (λ (t : Read). Leaves t 0) q (refl, omega arith)
    by false h = cc h
next-leaves cfg s f w (b ∷ xs) p e = by (is_end (step cfg s b).1) refl e (λ s2 f2 w2. next-leaves cfg s2 f2 w2 xs p)
  where
    by : (d : Bool) → is_end (step cfg s b).1 ≡ d
        → ◌≡◌ {A = Option Read} (if d then Some (fields_after (step cfg s b).1 f w, (step cfg s b).0, xs)
        else next_record cfg (step cfg s b).0 (fields_after (step cfg s b).1 f w) (field_after (step cfg s b).1 b w) xs) (Some p)
        → ((s2 : State) (f2 : List (List ℕ)) (w2 : List ℕ) → next_record cfg s2 f2 w2 xs ≡ Some p → Leaves p (length xs - 1))
        → Leaves p (length (b ∷ xs) - 1)
    by true d h more =
        let q : (fields_after (step cfg s b).1 f w, (step cfg s b).0, xs) ≡ p = cc in
        subst (λ (t : Read). Leaves t (length (b ∷ xs) - 1)) q (step-quiet cfg s b d, omega arith)
    by false d h more = let m = more _ _ _ h in (m.0, omega (arith, m.1))

-- a quiet state at no byte gives no record
pub quiet-none : (cfg : Config) (s : State) (p : Read) → ends_at_end s ≡ false → next_record cfg s [] [] [] ≡ Some p → ⊥
unfolding next_record
quiet-none cfg s p q e = let n = rw q at e in cc n
