-- Scripts among the lists of tokens, and the places of refusals.
use Rattle.std.specs.Prelude.{◌≡◌, ◌⊎◌, ℕ, ◌+◌, ◌≤◌, ◌<◌, List, [], ◌∷◌, Result, Ok, Err}
use Rattle.sql_lex.specs.declared.tokens.Token.{Token}
use Rattle.sql_grammar.specs.declared.errors.ParseError.{ParseError}
use Rattle.sql_grammar.specs.declared.errors.ParseError.TheVariants.{Syntax, TooDeep, Memory}
use Rattle.sql_grammar.specs.declared.tree.Script.{Script}
use Rattle.sql_grammar.specs.Grammar.{script, line, Tree, text, depth}
use Rattle.sql_grammar.specs.Grammar.{Front, front_text, front_depth}
use Rattle.sql_grammar.specs.Meaning.{script_of}

-- the offset of the first token or, where there is none, the end
abbrev pub place : List Token → ℕ → ℕ
place [] end = end
place (t ∷ ts) end = t.start

-- all the tokens are derived from the grammar's first line, in at most this many levels, with this syntax tree
pub record IsSentence (levels : ℕ) (tokens : List Token) (tree : Script) : Type 0 where
  pub derivation : Tree (line script)
  pub spells : text derivation [] ≡ tokens
  pub within : depth derivation ≤ levels
  pub means : script_of derivation ≡ tree

-- the tokens before the rest begin a sentence, in at most this many levels
abbrev pub BeginsWithin : ℕ → List Token → List Token → Type 0
BeginsWithin levels tokens rest =
    (f : Front (line script)) × (front_text f rest ≡ tokens) × (front_depth f ≤ levels)

-- no sentence goes on so: by the first token of the rest or, where there is none, by ending
abbrev pub NoneGoesOn : List Token → List Token → Type 0
NoneGoesOn tokens [] = (d : Tree (line script)) → text d [] ≡ tokens → ⊥
NoneGoesOn tokens (t ∷ rest) = (f : Front (line script)) → front_text f rest ≡ tokens → ⊥

-- the tokens before this place begin a sentence within the levels, and with the token there they begin none
pub record IsSyntaxError (levels : ℕ) (tokens : List Token) (end at : ℕ) : Type 0 where
  pub rest : List Token
  pub begins : BeginsWithin levels tokens rest
  pub ends : NoneGoesOn tokens rest
  pub place : at ≡ place rest end

-- the tokens before this place begin a sentence within the levels, and the token there opens one level more
pub record IsTooDeep (levels : ℕ) (tokens : List Token) (at : ℕ) : Type 0 where
  pub opener : Token
  pub rest : List Token
  pub begins : BeginsWithin levels tokens (opener ∷ rest)
  pub opens : (f : Front (line script)) × (front_text f rest ≡ tokens)
      × (front_depth f ≡ levels + 1)
  pub least : (f : Front (line script)) → front_text f rest ≡ tokens → levels < front_depth f
  pub place : at ≡ opener.start

-- what the tokens, of a script with this end, are: a sentence with its tree, or refused at a place
abbrev pub IsReading : ℕ → List Token → ℕ → Result Script ParseError → Type 0
IsReading levels tokens end (Ok tree) = IsSentence levels tokens tree
IsReading levels tokens end (Err (Syntax at)) = IsSyntaxError levels tokens end at
IsReading levels tokens end (Err (TooDeep at)) = IsTooDeep levels tokens at
IsReading levels tokens end (Err Memory) = ⊥

-- the tokens have a reading
abbrev pub HasReading : ℕ → List Token → ℕ → Type 0
HasReading levels tokens end = (found : Result Script ParseError) × IsReading levels tokens end found

-- and no second one
abbrev pub HasOneReading : ℕ → List Token → ℕ → Type 0
HasOneReading levels tokens end =
    (a b : Result Script ParseError) → IsReading levels tokens end a → IsReading levels tokens end b → a ≡ b

-- the reading that the tokens have is this, unless memory fails
abbrev pub IsOnlyReading : ℕ → List Token → ℕ → Result Script ParseError → Type 0
IsOnlyReading levels tokens end result =
    (said : Result Script ParseError) → IsReading levels tokens end said → (result ≡ Err Memory) ⊎ (result ≡ said)
