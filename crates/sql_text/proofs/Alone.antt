-- A script, where no token may be left behind it.
use Rattle.std.proofs.Common.{◌≡◌, ℕ, List, length, refl, sym, ◌∙◌, ap, subst, Result, Ok, Err}
use Rattle.std.specs.Prelude.{IfOk, IfErr}
use Rattle.sql_lex.specs.declared.tokens.Token.{Token}
use Rattle.sql_grammar.specs.declared.errors.ParseError.{ParseError}
use Rattle.sql_grammar.specs.declared.errors.ParseError.TheVariants.{Syntax, TooDeep}
use Rattle.sql_grammar.specs.declared.tree.Script.{Script}
use Rattle.sql_grammar.specs.Formed.{IsWellFormed}
use Rattle.sql_grammar.specs.Meaning.{script_of}
use Rattle.sql_grammar.specs.Reading.{Parsed}
use Rattle.sql_grammar.specs.Sentence.{IsSentence, IsSyntaxError, IsTooDeep, IsReading, place}
use Rattle.sql_grammar.proofs.Formed.{formed}
use Rattle.sql_grammar.proofs.Whole.{sentence, too_long, only_tree, only_long}

-- the script, if no token is left
abbrev IsFound : Script → List Token → Result Script ParseError → Type 0
IsFound x rest r = IfOk r (λ all. (all ≡ x) × (length rest ≡ 0))

-- and a syntax error else
abbrev IsLong : List Token → ℕ → Result Script ParseError → Type 0
IsLong rest end r = IfErr r (λ e. (e ≡ Syntax (place rest end)) × (length rest ≡ 0 → ⊥))

pub alone_ok : {n : ℕ} {ts : List Token} {x : Script} (rest : List Token) → Parsed script_of n ts x rest → (r : Result Script ParseError) → IsFound x rest r → IfOk r (λ s. IsSentence n ts s)
alone_ok {n} {ts} rest h (Ok y) k = subst (λ (s : Script). IsSentence n ts s) (sym k.0) (sentence rest h k.1)
alone_ok rest h (Err e) k = tt

pub alone_formed : {n : ℕ} {ts : List Token} {x : Script} (rest : List Token) → Parsed script_of n ts x rest → (r : Result Script ParseError) → IsFound x rest r → IfOk r (λ s. IsWellFormed s)
alone_formed {n} {ts} rest h (Ok y) k = formed {n = n} {ts = ts} (subst (λ (s : Script). IsSentence n ts s) (sym k.0) (sentence rest h k.1))
alone_formed rest h (Err e) k = tt

pub alone_syntax : {n : ℕ} {ts : List Token} {x : Script} (rest : List Token) (end : ℕ) → Parsed script_of n ts x rest → (r : Result Script ParseError) → IsLong rest end r → (at : ℕ) → r ≡ Err (Syntax at) → IsSyntaxError n ts end at
alone_syntax rest end h (Ok y) k at same = absurd cc
alone_syntax rest end h (Err e) k at same = too_long rest end at h k.1 (let long = k.0 in cc)

pub alone_deep : {n : ℕ} {ts : List Token} (rest : List Token) (end : ℕ) (r : Result Script ParseError) → IsLong rest end r → (at : ℕ) → r ≡ Err (TooDeep at) → IsTooDeep n ts at
alone_deep rest end (Ok y) k at same = absurd cc
alone_deep rest end (Err e) k at same = absurd (let long = k.0 in cc)

pub alone_only : {n : ℕ} {ts : List Token} {x : Script} (rest : List Token) (end : ℕ) → Parsed script_of n ts x rest → (r : Result Script ParseError) → IsFound x rest r → IsLong rest end r
    → (said : Result Script ParseError) → IsReading n ts end said → r ≡ said
alone_only rest end h (Ok y) found long said is = ap (λ (s : Script). ok s) found.0 ∙ only_tree rest end h found.1 said is
  where
    ok : Script → Result Script ParseError
    ok s = Ok s
alone_only rest end h (Err e) found long said is = ap (λ (e : ParseError). err e) long.0 ∙ only_long rest end (place rest end) h long.1 refl said is
  where
    err : ParseError → Result Script ParseError
    err e = Err e
