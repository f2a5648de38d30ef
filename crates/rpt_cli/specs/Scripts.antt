-- What the bytes of a script are.
use Rattle.std.specs.Prelude.{List, ℕ, length, Result, Ok, Err}
use Rattle.rpt_base.specs.declared.limits.TheConstants.{MAX_LEVELS}
use Rattle.sql_lex.specs.declared.tokens.Token.{Token}
use Rattle.sql_lex.specs.Tokens.{IsBadAt, IsTokenList}
use Rattle.sql_grammar.specs.declared.tree.Script.{Script}
use Rattle.sql_grammar.specs.Sentence.{IsSentence, IsSyntaxError, IsTooDeep}
use Rattle.refusal_lines.specs.declared.errors.Refusal.{Refusal}
use Rattle.refusal_lines.specs.declared.errors.Refusal.TheVariants.{Lex, Syntax, TooDeep}

-- a script's bytes are this script, or are refused so
abbrev pub IsScript : List ℕ → Result Script Refusal → Type 0
IsScript bytes (Ok script) =
    (tokens : List Token) × IsTokenList bytes tokens × IsSentence MAX_LEVELS tokens script
IsScript bytes (Err (Lex offset)) = IsBadAt bytes offset
IsScript bytes (Err (Syntax offset)) =
    (tokens : List Token) × IsTokenList bytes tokens × IsSyntaxError MAX_LEVELS tokens (length bytes) offset
IsScript bytes (Err (TooDeep offset)) =
    (tokens : List Token) × IsTokenList bytes tokens × IsTooDeep MAX_LEVELS tokens offset
IsScript bytes (Err e) = ⊥
