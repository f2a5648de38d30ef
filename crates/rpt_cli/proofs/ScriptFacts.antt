-- That a script's bytes are read as one thing.
use Rattle.std.proofs.Common.{◌≡◌, ◌⊎◌, ◌∙◌, inl, inr, ap, sym, subst, List, ℕ, length}
use Rattle.std.specs.Prelude.{IfErr, IfOk, Result, Ok, Err}
use Rattle.sql_lex.specs.declared.tokens.Token.{Token}
use Rattle.sql_lex.specs.declared.errors.LexError.{LexError}
use Rattle.sql_lex.specs.declared.errors.LexError.TheVariants as lex_error
use Rattle.sql_lex.specs.Tokens.{IsBadAt, IsTokenList}
use Rattle.sql_grammar.specs.declared.tree.Script.{Script}
use Rattle.sql_grammar.specs.declared.errors.ParseError.{ParseError}
use Rattle.sql_grammar.specs.declared.errors.ParseError.TheVariants as parse_error
use Rattle.sql_grammar.specs.Sentence.{IsReading, IsSentence, IsSyntaxError, IsTooDeep}
use Rattle.refusal_lines.specs.declared.errors.Refusal.{Refusal}
use Rattle.refusal_lines.specs.declared.errors.Refusal.TheVariants.{Usage, ReadFault, TooLarge, Lex, Syntax, TooDeep, Bind, Cyclic, OrderNames, UnsafeOrder, Header, Ragged, BadField, NotUtf8, TooManyRows, RowsOverflow, WriteFault, Memory}
use Rattle.bound_query.specs.Query.{BoundQuery, Query}
use Rattle.rpt_base.specs.declared.limits.TheConstants.{MAX_SCRIPT_BYTES, MAX_LEVELS}
use Rattle.rpt_outside.specs.Seen.{seen, seen_until}
use Rattle.rpt_outside.specs.declared.traits.Files.{Ghosts as FileWords}
use Rattle.rpt_cli.specs.Command.{asks_within, bytes_course, script_course}
use Rattle.rpt_cli.specs.Course.{Gives}
use Rattle.rpt_cli.specs.Scripts.{IsScript}
use Rattle.rpt_cli.specs.Steps.{Passes, PassesUnasked, Stops, StopsUnasked}

-- a refusal of a reader as one of the program
abbrev pub refusal_of : ParseError → Refusal
refusal_of (parse_error.Syntax at) = Syntax at
refusal_of (parse_error.TooDeep at) = TooDeep at
refusal_of parse_error.Memory = Memory

-- the answer of a reader as one of the program
abbrev pub answer_of : Result Script ParseError → Result Script Refusal
answer_of (Ok script) = Ok script
answer_of (Err e) = Err (refusal_of e)

-- what answers as the reader did is memory run out or the same
as_read : (found said : Result Script ParseError) → (found ≡ Err parse_error.Memory) ⊎ (found ≡ said) → (answer_of found ≡ Err Memory) ⊎ (answer_of found ≡ answer_of said)
as_read found said (inl m) = inl (ap answer_of m)
as_read found said (inr e) = inr (ap answer_of e)

-- where the bytes have these tokens, what they are is what the tokens are
pub read-only : (bytes : List ℕ) (tokens : List Token) (found : Result Script ParseError)
    → ((others : List Token) → IsTokenList bytes others → tokens ≡ others)
    → ((offset : ℕ) → IsBadAt bytes offset → ⊥)
    → ((said : Result Script ParseError) → IsReading MAX_LEVELS tokens (length bytes) said → (found ≡ Err parse_error.Memory) ⊎ (found ≡ said))
    → (said : Result Script Refusal) → IsScript bytes said → (answer_of found ≡ Err Memory) ⊎ (answer_of found ≡ said)
read-only bytes tokens found same good only (Ok script) (others, lists, is) =
    as_read found (Ok script) (only (Ok script) (subst (λ (ts : List Token). IsSentence MAX_LEVELS ts script) (sym (same others lists)) is))
read-only bytes tokens found same good only (Err (Lex offset)) bad = absurd (good offset bad)
read-only bytes tokens found same good only (Err (Syntax at)) (others, lists, is) =
    as_read found (Err (parse_error.Syntax at)) (only (Err (parse_error.Syntax at)) (subst (λ (ts : List Token). IsSyntaxError MAX_LEVELS ts (length bytes) at) (sym (same others lists)) is))
read-only bytes tokens found same good only (Err (TooDeep at)) (others, lists, is) =
    as_read found (Err (parse_error.TooDeep at)) (only (Err (parse_error.TooDeep at)) (subst (λ (ts : List Token). IsTooDeep MAX_LEVELS ts at) (sym (same others lists)) is))
read-only bytes tokens found same good only (Err Usage) h = absurd h
read-only bytes tokens found same good only (Err (ReadFault name)) h = absurd h
read-only bytes tokens found same good only (Err (TooLarge name)) h = absurd h
read-only bytes tokens found same good only (Err (Bind kind at)) h = absurd h
read-only bytes tokens found same good only (Err (Cyclic best needed)) h = absurd h
read-only bytes tokens found same good only (Err OrderNames) h = absurd h
read-only bytes tokens found same good only (Err (UnsafeOrder prefix)) h = absurd h
read-only bytes tokens found same good only (Err (Header table column)) h = absurd h
read-only bytes tokens found same good only (Err (Ragged table row)) h = absurd h
read-only bytes tokens found same good only (Err (BadField table row column)) h = absurd h
read-only bytes tokens found same good only (Err (NotUtf8 table row column)) h = absurd h
read-only bytes tokens found same good only (Err TooManyRows) h = absurd h
read-only bytes tokens found same good only (Err (RowsOverflow prefix)) h = absurd h
read-only bytes tokens found same good only (Err WriteFault) h = absurd h
read-only bytes tokens found same good only (Err Memory) h = absurd h

-- where the bytes have no tokens, they are refused at the one place
pub bad-only : (bytes : List ℕ) (offset : ℕ) → ((tokens : List Token) → IsTokenList bytes tokens → ⊥) → ((other : ℕ) → IsBadAt bytes other → offset ≡ other)
    → (said : Result Script Refusal) → IsScript bytes said → ◌≡◌ {A = Result Script Refusal} (Err (Lex offset)) said
bad-only bytes offset none same (Ok script) (tokens, lists, is) = absurd (none tokens lists)
bad-only bytes offset none same (Err (Lex other)) bad = ap (λ (o : ℕ). Err (Lex o)) (same other bad)
bad-only bytes offset none same (Err (Syntax at)) (tokens, lists, is) = absurd (none tokens lists)
bad-only bytes offset none same (Err (TooDeep at)) (tokens, lists, is) = absurd (none tokens lists)
bad-only bytes offset none same (Err Usage) h = absurd h
bad-only bytes offset none same (Err (ReadFault name)) h = absurd h
bad-only bytes offset none same (Err (TooLarge name)) h = absurd h
bad-only bytes offset none same (Err (Bind kind at)) h = absurd h
bad-only bytes offset none same (Err (Cyclic best needed)) h = absurd h
bad-only bytes offset none same (Err OrderNames) h = absurd h
bad-only bytes offset none same (Err (UnsafeOrder prefix)) h = absurd h
bad-only bytes offset none same (Err (Header table column)) h = absurd h
bad-only bytes offset none same (Err (Ragged table row)) h = absurd h
bad-only bytes offset none same (Err (BadField table row column)) h = absurd h
bad-only bytes offset none same (Err (NotUtf8 table row column)) h = absurd h
bad-only bytes offset none same (Err TooManyRows) h = absurd h
bad-only bytes offset none same (Err (RowsOverflow prefix)) h = absurd h
bad-only bytes offset none same (Err WriteFault) h = absurd h
bad-only bytes offset none same (Err Memory) h = absurd h

-- the same of an answer that is the reader's
pub read-only-as : (bytes : List ℕ) (tokens : List Token) (found : Result Script ParseError) (seen : Result Script Refusal) → answer_of found ≡ seen
    → ((others : List Token) → IsTokenList bytes others → tokens ≡ others)
    → ((offset : ℕ) → IsBadAt bytes offset → ⊥)
    → ((said : Result Script ParseError) → IsReading MAX_LEVELS tokens (length bytes) said → (found ≡ Err parse_error.Memory) ⊎ (found ≡ said))
    → (said : Result Script Refusal) → IsScript bytes said → (seen ≡ Err Memory) ⊎ (seen ≡ said)
read-only-as bytes tokens found seen e same good only said is =
    subst (λ (r : Result Script Refusal). (r ≡ Err Memory) ⊎ (r ≡ said)) e (read-only bytes tokens found same good only said is)

-- the same of an error that is told with its place
pub bad-only-as : (bytes : List ℕ) (e : LexError) (offset : ℕ) → e ≡ lex_error.At offset → ((tokens : List Token) → IsTokenList bytes tokens → e ≡ lex_error.Memory)
    → ((other : ℕ) → IsBadAt bytes other → (e ≡ lex_error.Memory) ⊎ (e ≡ lex_error.At other))
    → (said : Result Script Refusal) → IsScript bytes said → ◌≡◌ {A = Result Script Refusal} (Err (Lex offset)) said
bad-only-as bytes e offset is none same said h = bad-only bytes offset (λ tokens lists. cc (none tokens lists)) (λ other bad. by other (same other bad)) said h
  where
    by : (other : ℕ) → (e ≡ lex_error.Memory) ⊎ (e ≡ lex_error.At other) → offset ≡ other
    by other (inl m) = cc
    by other (inr a) = let same : lex_error.At offset ≡ lex_error.At other = sym is ∙ a in cc

-- what the bytes of a script lead to, its file leads to
module _ {F : Type 0} (words : FileWords F) (old new : F) (name bytes lent : List ℕ) (same : lent ≡ bytes)
    (read : Passes words old new (asks_within MAX_SCRIPT_BYTES name) bytes) where
  file-Passes : (query : Query) → PassesUnasked (bytes_course lent) query → Passes words old new (script_course name) query
  file-Passes query passes = λ next end reply gives.
      read (λ bs. bytes_course bs next) end reply
      (subst (λ (bs : List ℕ). Gives (seen_until words new end) (bytes_course bs next) reply) same (passes (seen_until words new end) next reply gives))

  file-Stops : (e : Refusal) → StopsUnasked (bytes_course lent) e → Stops words old new (script_course name) e
  file-Stops e stops = λ next.
      read (λ bs. bytes_course bs next) (words.faults new) (Err e)
      (subst (λ (bs : List ℕ). Gives (seen words new new) (bytes_course bs next) (Err e)) same (stops (seen words new new) next))

  -- the same of what the bytes ask for, and of why they ask for nothing
  pub query-Passes : (found : Result BoundQuery Refusal) → IfOk found (λ bound. PassesUnasked (bytes_course lent) bound.query) → IfOk found (λ bound. Passes words old new (script_course name) bound.query)
  query-Passes (Ok bound) passes = file-Passes bound.query passes
  query-Passes (Err e) passes = tt

  pub query-Stops : (found : Result BoundQuery Refusal) → IfErr found (λ e. StopsUnasked (bytes_course lent) e) → IfErr found (λ e. Stops words old new (script_course name) e)
  query-Stops (Ok bound) stops = tt
  query-Stops (Err e) stops = file-Stops e stops
