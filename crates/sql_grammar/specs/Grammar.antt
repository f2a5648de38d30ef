-- The grammar of scripts, what it derives, and what a script can begin with.
use Rattle.std.specs.Prelude.{◌≡◌, ℕ, ◌+◌, List, [], ◌∷◌, max, true}
use Rattle.sql_lex.specs.declared.tokens.Token.{Token}
use Rattle.sql_grammar.specs.declared.kinds.Kind.{Kind}
use Rattle.sql_grammar.specs.declared.kinds.Kind.TheVariants as k
use Rattle.sql_grammar.specs.Kinds.{kind_of, among}

-- The lines of the grammar.
pub data Line : Type 0 where
  script : Line
  create : Line
  column : Line
  select : Line
  items : Line
  item : Line
  source : Line
  factor : Line
  colref : Line
  cond : Line
  conj : Line
  neg : Line
  prim : Line
  operand : Line
  literal : Line

-- The parts that a line is made of.
pub data Part : Type 0 where
  -- a token of one of these kinds
  token : List Kind → Part
  -- no token
  nothing : Part
  -- one part, and then another
  ◌▸◌ : Part → Part → Part
  -- one of two parts
  ◌∣◌ : Part → Part → Part
  -- nothing, or the part followed by the same repetition
  many : Part → Part
  -- a token of this kind, which opens a level, and then the part, at whose end the level ends
  level : Kind → Part → Part
  -- what a line says
  line : Line → Part

infixr 20 ◌▸◌
infixr 10 ◌∣◌
-- nothing, or the part
abbrev pub opt : Part → Part
opt p = nothing ∣ p

abbrev pub word : Kind → Part
word kind = token (kind ∷ [])

-- the words of types are names too
abbrev pub names : List Kind
names = k.Name ∷ k.Int ∷ k.Integer ∷ k.Bigint ∷ k.TextType ∷ []

abbrev pub name : Part
name = token names

abbrev pub types : List Kind
types = k.Int ∷ k.Integer ∷ k.Bigint ∷ k.TextType ∷ []

abbrev pub comparisons : List Kind
comparisons = k.Eq ∷ k.Ne ∷ k.Lt ∷ k.Le ∷ k.Gt ∷ k.Ge ∷ []

-- behind a minus a number may be greater by one
abbrev pub magnitudes : List Kind
magnitudes = k.Number ∷ k.Greatest ∷ []

-- further ones, each behind a comma
abbrev pub behind_commas : Line → Part
behind_commas l = many (word k.Comma ▸ line l)

-- What each line says.
abbrev pub rule : Line → Part
rule script = many (line create) ▸ line select ▸ opt (word k.Semicolon)
rule create = word k.Create ▸ word k.Table ▸ name ▸ word k.LeftParen ▸ line column ▸ behind_commas column
    ▸ word k.RightParen ▸ word k.Semicolon
rule column = name ▸ token types
rule select = word k.Select ▸ line items ▸ word k.From ▸ line source ▸ behind_commas source
    ▸ opt (word k.Where ▸ line cond)
rule items = word k.Star ∣ line item ▸ behind_commas item
rule item = line colref ▸ opt (opt (word k.As) ▸ name)
rule source = line factor
    ▸ many (opt (word k.Inner) ▸ word k.Join ▸ line factor ▸ word k.On ▸ line cond)
rule factor = name ▸ opt (opt (word k.As) ▸ name)
rule colref = name ▸ opt (word k.Dot ▸ name)
rule cond = line conj ▸ many (word k.Or ▸ line conj)
rule conj = line neg ▸ many (word k.And ▸ line neg)
rule neg = level k.Not (line neg) ∣ line prim
rule prim = level k.LeftParen (line cond ▸ word k.RightParen)
    ∣ line operand ▸ token comparisons ▸ line operand
    ∣ line operand ▸ opt (word k.Not) ▸ word k.Between ▸ line operand ▸ word k.And ▸ line operand
    ∣ line operand ▸ opt (word k.Not) ▸ word k.In ▸ word k.LeftParen ▸ line literal ▸ behind_commas literal
    ▸ word k.RightParen
    ∣ line operand ▸ opt (word k.Not) ▸ word k.Like ▸ word k.Text
rule operand = line colref ∣ line literal
rule literal = word k.Number ∣ word k.Minus ▸ token magnitudes ∣ word k.Text

-- The derivations of a part.
pub data Tree : Part → Type 0 where
  Leaf : {kinds : List Kind} (t : Token) → among kinds (kind_of t) ≡ true → Tree (token kinds)
  None : Tree nothing
  Both : {p q : Part} → Tree p → Tree q → Tree (p ▸ q)
  Left : {p q : Part} → Tree p → Tree (p ∣ q)
  Right : {p q : Part} → Tree q → Tree (p ∣ q)
  End : {p : Part} → Tree (many p)
  More : {p : Part} → Tree p → Tree (many p) → Tree (many p)
  In : {kind : Kind} {p : Part} (t : Token) → kind_of t ≡ kind → Tree p → Tree (level kind p)
  By : {l : Line} → Tree (rule l) → Tree (line l)

-- its tokens, and behind them the rest
abbrev pub text : {p : Part} → Tree p → List Token → List Token
text (Leaf t is) rest = t ∷ rest
text None rest = rest
text (Both a b) rest = text a (text b rest)
text (Left a) rest = text a rest
text (Right b) rest = text b rest
text End rest = rest
text (More a more) rest = text a (text more rest)
text (In t is a) rest = t ∷ text a rest
text (By a) rest = text a rest

-- how many levels are open at most
abbrev pub depth : {p : Part} → Tree p → ℕ
depth (Leaf t is) = 0
depth None = 0
depth (Both a b) = max (depth a) (depth b)
depth (Left a) = depth a
depth (Right b) = depth b
depth End = 0
depth (More a more) = max (depth a) (depth more)
depth (In t is a) = depth a + 1
depth (By a) = depth a

-- The fronts of a part: no token; a token of the kind; a derivation of none or some of a sequence's first parts and then a
-- front of the next; a front of an alternative, or of what a line says.
pub data Front : Part → Type 0 where
  Empty : {p : Part} → Front p
  Whole : {kinds : List Kind} (t : Token) → among kinds (kind_of t) ≡ true → Front (token kinds)
  Early : {p q : Part} → Front p → Front (p ▸ q)
  Later : {p q : Part} → Tree p → Front q → Front (p ▸ q)
  LeftOf : {p q : Part} → Front p → Front (p ∣ q)
  RightOf : {p q : Part} → Front q → Front (p ∣ q)
  Item : {p : Part} → Front p → Front (many p)
  Beyond : {p : Part} → Tree p → Front (many p) → Front (many p)
  Inside : {kind : Kind} {p : Part} (t : Token) → kind_of t ≡ kind → Front p → Front (level kind p)
  ByLine : {l : Line} → Front (rule l) → Front (line l)

-- its tokens, and behind them the rest
abbrev pub front_text : {p : Part} → Front p → List Token → List Token
front_text Empty rest = rest
front_text (Whole t is) rest = t ∷ rest
front_text (Early f) rest = front_text f rest
front_text (Later a f) rest = text a (front_text f rest)
front_text (LeftOf f) rest = front_text f rest
front_text (RightOf f) rest = front_text f rest
front_text (Item f) rest = front_text f rest
front_text (Beyond a f) rest = text a (front_text f rest)
front_text (Inside t is f) rest = t ∷ front_text f rest
front_text (ByLine f) rest = front_text f rest

-- how many levels are open at most
abbrev pub front_depth : {p : Part} → Front p → ℕ
front_depth Empty = 0
front_depth (Whole t is) = 0
front_depth (Early f) = front_depth f
front_depth (Later a f) = max (depth a) (front_depth f)
front_depth (LeftOf f) = front_depth f
front_depth (RightOf f) = front_depth f
front_depth (Item f) = front_depth f
front_depth (Beyond a f) = max (depth a) (front_depth f)
front_depth (Inside t is f) = front_depth f + 1
front_depth (ByLine f) = front_depth f
