-- All tokens have one reading.
use Rattle.std.proofs.Common.{◌≡◌, ℕ, List, [], ◌∷◌, refl, sym, ◌∙◌, arith, inl, inr, Result, Ok, Err}
use Rattle.sql_lex.specs.declared.tokens.Token.{Token}
use Rattle.sql_grammar.specs.declared.tree.Script.{Script}
use Rattle.sql_grammar.specs.declared.errors.ParseError.{ParseError}
use Rattle.sql_grammar.specs.declared.errors.ParseError.TheVariants.{Syntax, TooDeep, Memory}
use Rattle.sql_grammar.specs.Grammar.{script, line, Tree}
use Rattle.sql_grammar.specs.Meaning.{script_of}
use Rattle.sql_grammar.specs.Reading.{Reads, Parsed, Fails}
use Rattle.sql_grammar.specs.Sentence.{IsReading, place}
use Rattle.sql_grammar.proofs.Outcomes.{Outcome, read, stop, deep, script_outcome}
use Rattle.sql_grammar.proofs.Whole.{sentence, too_long, syntax_error, too_deep, only_tree, only_long, only_refused}

record OneReading (levels end : ℕ) (tokens : List Token) : Type 0 where
  pub found : Result Script ParseError
  pub is : IsReading levels tokens end found
  pub only : (other : Result Script ParseError) → IsReading levels tokens end other → found ≡ other

parsed : {n : ℕ} {ts rest : List Token} (d : Tree (line script)) → Reads n ts d rest → Parsed script_of n ts (script_of d) rest
parsed d h = record { tree = d; reads = h; value = refl }

-- a refusal is the only reading
only : (n end : ℕ) (ts : List Token) (e : ParseError) → (e ≡ Memory → ⊥) → Fails (line script) n ts end e
    → (other : Result Script ParseError) → IsReading n ts end other → Err e ≡ other
only n end ts e never h other r = elim (only_refused n ts end e h other r) [ inl memory ↦ absurd (never memory) | inr same ↦ same ]

of_outcome : {n : ℕ} {ts : List Token} (end : ℕ) → Outcome (line script) n ts → OneReading n end ts
of_outcome end (read d [] h) = record {
  found = Ok (script_of d);
  is = sentence [] (parsed d h) refl;
  only = only_tree [] end (parsed d h) refl;
}
of_outcome end (read d (t ∷ rest) h) = record {
  found = Err (Syntax t.start);
  is = too_long (t ∷ rest) end t.start (parsed d h) (λ none. omega arith) refl;
  only = only_long (t ∷ rest) end t.start (parsed d h) (λ none. omega arith) refl;
}
of_outcome {n} {ts} end (stop rest h) = record {
  found = Err (Syntax (place rest end));
  is = syntax_error end (Syntax (place rest end)) (rest, h, refl) (place rest end) refl;
  only = only n end ts (Syntax (place rest end)) (λ same. absurd cc) (rest, h, refl);
}
of_outcome {n} {ts} end (deep t rest h) = record {
  found = Err (TooDeep t.start);
  is = too_deep end (TooDeep t.start) (t, rest, h, refl) t.start refl;
  only = only n end ts (TooDeep t.start) (λ same. absurd cc) (t, rest, h, refl);
}

one_reading : (n end : ℕ) (ts : List Token) → OneReading n end ts
one_reading n end ts = of_outcome end (script_outcome n ts)

pub there : (levels end : ℕ) (tokens : List Token) → (found : Result Script ParseError) × IsReading levels tokens end found
there levels end tokens = let reading = one_reading levels end tokens in (reading.found, reading.is)

pub one : (levels end : ℕ) (tokens : List Token) (a b : Result Script ParseError) → IsReading levels tokens end a → IsReading levels tokens end b → a ≡ b
one levels end tokens a b h k = let reading = one_reading levels end tokens in sym (reading.only a h) ∙ reading.only b k
