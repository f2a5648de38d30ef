-- What a reader of a part does, exactly, and what may come first in a part and after it.
-- Words of this crate's own contracts.
use Rattle.std.specs.Prelude.{◌≡◌, ℕ, ◌+◌, ◌≤◌, ◌<◌, Bool, true, false, ◌||◌}
use Rattle.std.specs.Prelude.{◌&&◌, not, List, [], ◌∷◌, ◌++◌, length, ◌⊎◌}
use Rattle.std.specs.Prelude.{if◌then◌else◌, Result, Ok, Err, MatchResult, Vec}
use Rattle.std.specs.Borrow.{Bor}
use Rattle.std.specs.declared.alloc.Global.{Global}
use Rattle.sql_lex.specs.declared.tokens.Token.{Token}
use Rattle.sql_grammar.specs.declared.kinds.Kind.{Kind}
use Rattle.sql_grammar.specs.declared.kinds.Kind.TheVariants as k
use Rattle.sql_grammar.specs.declared.errors.ParseError.{ParseError}
use Rattle.sql_grammar.specs.declared.errors.ParseError.TheVariants.{Syntax, TooDeep, Memory}
use Rattle.sql_grammar.specs.Kinds.{kind_of, code, numbers, among}
use Rattle.rpt_base.specs.Lists.{has}
use Rattle.sql_grammar.specs.Grammar.{Line, script, create, column, select, items, item, source}
use Rattle.sql_grammar.specs.Grammar.{factor, colref, cond, conj, neg, prim, operand, literal}
use Rattle.sql_grammar.specs.Grammar.{names, Part, token, nothing, ◌▸◌, ◌∣◌, many, level, line}
use Rattle.sql_grammar.specs.Grammar.{Tree, text, depth, Front, front_text, front_depth}
use Rattle.sql_grammar.specs.Sentence.{place}

-- no number stands in both lists
abbrev pub apart : List ℕ → List ℕ → Bool
apart [] ys = true
apart (x ∷ xs) ys = not (has x ys) && apart xs ys

abbrev pub subset : List ℕ → List ℕ → Bool
subset [] ys = true
subset (x ∷ xs) ys = has x ys && subset xs ys

-- the list begins with a token of one of these kinds
abbrev pub Heads : List ℕ → List Token → Type 0
Heads kinds [] = ⊥
Heads kinds (t ∷ ts) = has (code (kind_of t)) kinds ≡ true

abbrev literals : List Kind
literals = k.Number ∷ k.Minus ∷ k.Text ∷ []

abbrev operands : List ℕ
operands = numbers names ++ numbers literals

-- the kinds that a line can begin with
abbrev pub first_line : Line → List ℕ
first_line script = code k.Create ∷ code k.Select ∷ []
first_line create = code k.Create ∷ []
first_line column = numbers names
first_line select = code k.Select ∷ []
first_line items = code k.Star ∷ numbers names
first_line item = numbers names
first_line source = numbers names
first_line factor = numbers names
first_line colref = numbers names
first_line cond = code k.Not ∷ code k.LeftParen ∷ operands
first_line conj = code k.Not ∷ code k.LeftParen ∷ operands
first_line neg = code k.Not ∷ code k.LeftParen ∷ operands
first_line prim = code k.LeftParen ∷ operands
first_line operand = operands
first_line literal = numbers literals

abbrev after_factor : List ℕ
after_factor = code k.As ∷ numbers names

abbrev after_cond : List ℕ
after_cond = code k.Or ∷ code k.And ∷ code k.Dot ∷ []

abbrev after_source : List ℕ
after_source = code k.Inner ∷ code k.Join ∷ (after_factor ++ after_cond)

abbrev after_select : List ℕ
after_select = code k.Comma ∷ code k.Where ∷ after_source

-- the kinds with which a longer front goes on behind a derivation of a line
abbrev pub after_line : Line → List ℕ
after_line script = code k.Semicolon ∷ after_select
after_line create = []
after_line column = []
after_line select = after_select
after_line items = code k.Comma ∷ code k.Dot ∷ after_factor
after_line item = code k.Dot ∷ after_factor
after_line source = after_source
after_line factor = after_factor
after_line colref = code k.Dot ∷ []
after_line cond = after_cond
after_line conj = code k.And ∷ code k.Dot ∷ []
after_line neg = code k.Dot ∷ []
after_line prim = code k.Dot ∷ []
after_line operand = code k.Dot ∷ []
after_line literal = []

-- whether no token may be a derivation
abbrev pub nullable : Part → Bool
nullable (token kinds) = false
nullable nothing = true
nullable (p ▸ q) = nullable p && nullable q
nullable (p ∣ q) = nullable p || nullable q
nullable (many p) = true
nullable (level kind p) = false
nullable (line l) = false

-- the kinds that a derivation can begin with
abbrev pub first : Part → List ℕ
first (token kinds) = numbers kinds
first nothing = []
first (p ▸ q) = first p ++ (if nullable p then first q else [])
first (p ∣ q) = first p ++ first q
first (many p) = first p
first (level kind p) = code kind ∷ []
first (line l) = first_line l

-- the kinds with which a longer front goes on behind a derivation
abbrev pub after : Part → List ℕ
after (token kinds) = []
after nothing = []
after (p ▸ q) = after q ++ (if nullable q then after p else [])
after (p ∣ q) =
    after p ++ after q ++ (if nullable p then first q else []) ++ (if nullable q then first p else [])
after (many p) = first p ++ after p
after (level kind p) = after p
after (line l) = after_line l

-- the part is read from the tokens, up to the rest
pub record Reads {p : Part} (levels : ℕ) (tokens : List Token) (d : Tree p) (rest : List Token)
    : Type 0 where
  pub spells : text d rest ≡ tokens
  pub within : depth d ≤ levels
  pub far : (f : Front p) (us : List Token) → front_text f us ≡ tokens → length rest ≤ length us
  pub only : (e : Tree p) (us : List Token) → text e us ≡ tokens
      → ((us ≡ rest) × (e ≡ d)) ⊎ Heads (after p) us

-- the tokens before the rest are a front, and none goes further
pub record Stops (p : Part) (levels : ℕ) (tokens rest : List Token) : Type 0 where
  pub front : (f : Front p) × (front_text f rest ≡ tokens) × (front_depth f ≤ levels)
  pub far : (f : Front p) (us : List Token) → front_text f us ≡ tokens → length rest ≤ length us
  pub only : (e : Tree p) (us : List Token) → text e us ≡ tokens → Heads (after p) us

-- the tokens before t are a front in these levels, and t opens one more
pub record Deepens (p : Part) (levels : ℕ) (tokens : List Token) (t : Token) (rest : List Token)
    : Type 0 where
  pub before : (f : Front p) × (front_text f (t ∷ rest) ≡ tokens) × (front_depth f ≤ levels)
  pub opens : (f : Front p) × (front_text f rest ≡ tokens) × (front_depth f ≡ levels + 1)
  pub least : (f : Front p) (us : List Token) → front_text f us ≡ tokens
      → length us ≤ length rest → levels < front_depth f
  pub only : (e : Tree p) (us : List Token) → text e us ≡ tokens
      → (length us ≤ length rest) ⊎ Heads (after p) us

-- the part is read, and means this
pub record Parsed {p : Part} {X : Type 0}
    (view : Tree p → X) (levels : ℕ) (tokens : List Token) (x : X) (rest : List Token) : Type 0 where
  pub tree : Tree p
  pub reads : Reads levels tokens tree rest
  pub value : view tree ≡ x

-- the part isn't read
abbrev pub Fails : Part → ℕ → List Token → ℕ → ParseError → Type 0
Fails p levels tokens end (Syntax at) =
    (rest : List Token) × Stops p levels tokens rest × (at ≡ place rest end)
Fails p levels tokens end (TooDeep at) =
    (t : Token) × (rest : List Token) × Deepens p levels tokens t rest × (at ≡ t.start)
Fails p levels tokens end Memory = Unit {0}

-- the value and the rest, or where it fails
abbrev pub Gives : {p : Part} {X R : Type 0} → (Tree p → X) → (R → X) → (R → List Token)
    → ℕ → List Token → ℕ → Result R ParseError → Type 0
Gives view value rest levels tokens end (Ok r) = Parsed view levels tokens (value r) (rest r)
Gives {p} view value rest levels tokens end (Err e) = Fails p levels tokens end e

-- what was read, and the tokens behind it
abbrev pub Found : Type 0 → Type 0
Found X = X × Bor (List Token)

-- what the part means that stands first, whatever levels may be opened, and the tokens behind it
abbrev pub IsParsed : {p : Part} {X : Type 0} → (Tree p → X) → List Token → Found X → Type 0
IsParsed view tokens found = (levels : ℕ) → Parsed view levels tokens found.0 found.1.now

-- a function that reads a part in which at most this many levels may be opened finds what the part means
abbrev pub ParsesWithin : {p : Part} {X : Type 0} → ℕ → (Tree p → X)
    → List Token → ℕ → Result (Found X) ParseError → Type 0
ParsesWithin levels view tokens end result =
    Gives view (λ found. found.0) (λ found. found.1.now) levels tokens end result

-- a function that reads a part behind those that were read before adds what it means to theirs
abbrev pub ParsesBehind : {p : Part} {X : Type 0} → ℕ → List X → (Tree p → List X)
    → List Token → ℕ → Result (Found (Vec X Global)) ParseError → Type 0
ParsesBehind levels before view tokens end result =
    Gives (λ more. before ++ view more) (λ all. all.0.items) (λ all. all.1.now) levels tokens end result

-- a function that reads a part that opens no level finds what the part means
abbrev pub Parses : {p : Part} {X : Type 0} → (Tree p → X)
    → List Token → ℕ → Result (Found X) ParseError → Type 0
Parses view tokens end result = (levels : ℕ) → ParsesWithin levels view tokens end result

-- a function that reads a part of no meaning finds the tokens behind it
abbrev pub Passes : Part → List Token → ℕ → Result (Bor (List Token)) ParseError → Type 0
Passes p tokens end result =
    (levels : ℕ) → Gives {X = Unit {0}} (λ (d : Tree p). tt) (λ _. tt) (λ rest. rest.now) levels tokens end result

-- the tokens begin with one of this kind, before the rest
pub record Starts (kind : Kind) (tokens rest : List Token) : Type 0 where
  pub token : Token
  pub splits : tokens ≡ token ∷ rest
  pub is : kind_of token ≡ kind

-- the first token, which is of this kind, and the tokens behind it
abbrev pub IsFirst : Kind → List Token → Found (Bor Token) → Type 0
IsFirst kind tokens found =
    (tokens ≡ found.0.now ∷ found.1.now) × (kind_of found.0.now ≡ kind)

-- the first token, which is of one of these kinds, and the tokens behind it
abbrev pub IsFirstAmong : List Kind → List Token → Found (Bor Token) → Type 0
IsFirstAmong kinds tokens found =
    (tokens ≡ found.0.now ∷ found.1.now) × (among kinds (kind_of found.0.now) ≡ true)

-- what was found before, and behind it what was read next, or why that wasn't
abbrev pub IsPaired : {T U : Type 0} → T → Result (Found U) ParseError
    → Result (Found (T × U)) ParseError → Type 0
IsPaired found next result = MatchResult result
    (λ both. (next ≡ Ok (both.0.1, both.1)) × (both.0.0 ≡ found))
    (λ error. next ≡ Err error)

-- the same, with what was read last in a list; or memory fails
abbrev pub IsAppended : {T : Type 0} → List T → Result (Found T) ParseError
    → Result (Found (Vec T Global)) ParseError → Type 0
IsAppended {T} found next result = MatchResult result
    (λ all. (one : T) × (next ≡ Ok (one, all.1)) × (all.0.items ≡ found ++ one ∷ []))
    (λ error. (next ≡ Err error) ⊎ (error ≡ Memory))
