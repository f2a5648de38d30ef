-- What a reader of a part comes to, whatever the tokens, if memory never runs out.
use Rattle.std.proofs.Common.{◌≡◌, ℕ, suc, zero, ◌<◌, true, false, List, [], ◌∷◌, length, refl, arith, ◌⊎◌, inl, inr}
use Rattle.std.proofs.lemmas.Bool.{cases_Bool}
use Rattle.std.proofs.lemmas.Bool.Decides.{nat_tests}
use Rattle.sql_lex.specs.declared.tokens.Token.{Token}
use Rattle.sql_grammar.specs.declared.kinds.Kind.{Kind}
use Rattle.sql_grammar.specs.declared.kinds.Kind.TheVariants as k
use Rattle.sql_grammar.specs.Kinds.{kind_of, code, numbers}
use Rattle.rpt_base.specs.Lists.{has}
use Rattle.sql_grammar.specs.Grammar.{Line, rule, Part, token, word, name, ◌▸◌, ◌∣◌, many, level, line, opt, Tree, Leaf, None, Both, Left, End, In}
use Rattle.sql_grammar.specs.Grammar as g
use Rattle.sql_grammar.specs.Meaning.{tests, range, list, predicates}
use Rattle.sql_grammar.specs.Reading.{apart, subset, Heads, first, after, nullable, Reads, Stops, Deepens}
use Rattle.sql_grammar.proofs.Compose.{NoBegin, reads_token, reads_both, stops_here, stops_first, stops_second, deep_first, deep_second}
use Rattle.sql_grammar.proofs.Choices.{reads_none, reads_end, stops_item, deep_item, deep_opens}
use Rattle.sql_grammar.proofs.Same.{Same}
use Rattle.sql_grammar.proofs.Predicates.{compared, in_turn, as_written}
use Rattle.sql_grammar.proofs.Leads.{Leads, itself, at_line, at_left, at_right, at_some, at_more, at_same, at_level, shorter, none_among, other_kinds}
use Rattle.sql_grammar.proofs.Loops.{shorter_by}

-- the part is read, or stops before a rest, or opens a level too many
pub data Outcome : Part → ℕ → List Token → Type 0 where
  read : {p : Part} {n : ℕ} {ts : List Token} (d : Tree p) (rest : List Token) → Reads n ts d rest → Outcome p n ts
  stop : {p : Part} {n : ℕ} {ts : List Token} (rest : List Token) → Stops p n ts rest → Outcome p n ts
  deep : {p : Part} {n : ℕ} {ts : List Token} (t : Token) (rest : List Token) → Deepens p n ts t rest → Outcome p n ts

-- each list of fewer tokens has an outcome
abbrev Below : ℕ → Part → Type 0
Below size p = (n : ℕ) (ts : List Token) → length ts < size → Outcome p n ts

-- by the way to the part that it stands in
moved : {p q : Part} {n m : ℕ} {ts us : List Token} → Leads p n ts q m us → Outcome p n ts → Outcome q m us
moved l (read d rest h) = read (l.wrap d) rest (l.reads d rest h)
moved l (stop rest h) = stop rest (l.stops rest h)
moved l (deep t rest h) = deep t rest (l.deep t rest h)

-- the tokens begin with one of these kinds, or they don't
begins : (kinds : List ℕ) (ts : List Token) → Heads kinds ts ⊎ (Heads kinds ts → ⊥)
begins kinds [] = inr (λ h. h)
begins kinds (t ∷ ts) = elim (cases_Bool (has (code (kind_of t)) kinds)) [ inl e ↦ inl e | inr e ↦ inr (λ h. absurd cc) ]

none_here : {p : Part} {n : ℕ} {ts : List Token} → NoBegin p ts → Outcome p n ts
none_here {n = n} {ts = ts} h = stop ts (stops_here n ts h)

-- ---- parts of parts

a_token : {size : ℕ} (kinds : List Kind) → Below size (token kinds)
a_token kinds n [] less = none_here (none_among kinds (λ h. h))
a_token kinds n (t ∷ ts) less = elim (begins (numbers kinds) (t ∷ ts)) [
  | inl is ↦ read (Leaf {kinds = kinds} t is) ts (reads_token n t ts is)
  | inr none ↦ none_here (none_among kinds none)
]

a_word : {size : ℕ} (kind : Kind) → Below size (word kind)
a_word kind = a_token (kind ∷ [])

in_order : {size : ℕ} {p q : Part} → apart (after p) (first q) ≡ true → Below size p → Below size q → Below size (p ▸ q)
in_order {size} {p} {q} ok one two n ts less = from (one n ts less)
  where
    behind : (d : Tree p) (us : List Token) → Reads n ts d us → Outcome q n us → Outcome (p ▸ q) n ts
    behind d us h (read e rest i) = read (Both d e) rest (reads_both ok h i)
    behind d us h (stop rest i) = stop rest (stops_second ok h i)
    behind d us h (deep t rest i) = deep t rest (deep_second ok h i)

    from : Outcome p n ts → Outcome (p ▸ q) n ts
    from (read d us h) = behind d us h (two n us (let s = shorter h in omega arith))
    from (stop rest h) = stop rest (stops_first ok h)
    from (deep t rest h) = deep t rest (deep_first ok h)

-- the first token chooses
one_of : {size : ℕ} {p q : Part} → nullable p ≡ false → nullable q ≡ false → apart (first p) (first q) ≡ true → Below size p → Below size q → Below size (p ∣ q)
one_of {size} {p} {q} some_p some_q ok one two n ts less = elim (begins (first p) ts) [
  | inl h ↦ moved (at_left (itself (p ∣ q)) (other_kinds q (first p) h some_q ok)) (one n ts less)
  | inr none ↦ moved (at_right (itself (p ∣ q)) (record { never_empty = some_p; other = none })) (two n ts less)
]

maybe : {size : ℕ} {q : Part} → nullable q ≡ false → Below size q → Below size (opt q)
maybe {size} {q} some one n ts less = elim (begins (first q) ts) [
  | inl h ↦ moved (at_some (itself (opt q)) h) (one n ts less)
  | inr none ↦ read (Left None) ts (reads_none (record { never_empty = some; other = none }))
]

-- each member takes a token
repeated : {size : ℕ} {p : Part} → nullable p ≡ false → apart (after p) (first p) ≡ true → Below size p → Below size (many p)
repeated {size = zero} {p} some ok one n ts less = absurd (omega arith)
repeated {size = suc size} {p} some ok one n ts less = elim (begins (first p) ts) [
  | inl h ↦ from (repeated {size = size} some ok (λ m us fewer. one m us (omega arith))) h (one n ts less)
  | inr none ↦ read End ts (reads_end (record { never_empty = some; other = none }))
]
  where
    from : Below size (many p) → Heads (first p) ts → Outcome p n ts → Outcome (many p) n ts
    from more h (read d us r) = moved (at_more (itself (many p)) ok h r) (more n us (let s = shorter_by some r in omega arith))
    from more h (stop rest r) = stop rest (stops_item ok h r)
    from more h (deep t rest r) = deep t rest (deep_item ok h r)

by_line : {size : ℕ} (l : Line) → Below size (rule l) → Below size (line l)
by_line l one n ts less = moved (at_line l) (one n ts less)

as_same : {size : ℕ} {p q : Part} → Same p q → subset (after p) (after q) ≡ true → Below size p → Below size q
as_same {size} {p} {q} s ok one n ts less = moved (at_same (itself q) s ok) (one n ts less)

kind_is : (kind found : Kind) → has (code found) (code kind ∷ []) ≡ true → found ≡ kind
kind_is kind found h = grind (arith, nat_tests)

-- a level, inside of which are fewer tokens
a_level : {size : ℕ} {p : Part} (kind : Kind) → Below size p → Below (suc size) (level kind p)
a_level {size} {p} kind one n [] less = none_here (record { never_empty = refl; other = λ h. h })
a_level {size} {p} kind one n (t ∷ ts) less = elim (begins (code kind ∷ []) (t ∷ ts)) [
  | inl h ↦ inside n (kind_is kind (kind_of t) h)
  | inr none ↦ none_here (record { never_empty = refl; other = none })
]
  where
    inside : (m : ℕ) → kind_of t ≡ kind → Outcome (level kind p) m (t ∷ ts)
    inside zero is = deep t ts (deep_opens t ts is)
    inside (suc m) is = moved (at_level (itself (level kind p)) (record { token = t; splits = refl; is = is }) (omega arith)) (one m ts (omega arith))

-- ---- the lines

colref : {size : ℕ} → Below size (line g.colref)
colref = by_line g.colref (in_order refl (a_token g.names) (maybe refl (in_order refl (a_word k.Dot) (a_token g.names))))

literal : {size : ℕ} → Below size (line g.literal)
literal = by_line g.literal (one_of refl refl refl (a_word k.Number) (one_of refl refl refl (in_order refl (a_word k.Minus) (a_token g.magnitudes)) (a_word k.Text)))

operand : {size : ℕ} → Below size (line g.operand)
operand = by_line g.operand (one_of refl refl refl colref literal)

alias : {size : ℕ} → Below size (opt (opt (word k.As) ▸ name))
alias = maybe refl (in_order refl (maybe refl (a_word k.As)) (a_token g.names))

item : {size : ℕ} → Below size (line g.item)
item = by_line g.item (in_order refl colref alias)

items : {size : ℕ} → Below size (line g.items)
items = by_line g.items (one_of refl refl refl (a_word k.Star) (in_order refl item (repeated refl refl (in_order refl (a_word k.Comma) item))))

column : {size : ℕ} → Below size (line g.column)
column = by_line g.column (in_order refl (a_token g.names) (a_token g.types))

columns : {size : ℕ} → Below size (line g.column ▸ many (word k.Comma ▸ line g.column) ▸ word k.RightParen ▸ word k.Semicolon)
columns = in_order refl column (in_order refl (repeated refl refl (in_order refl (a_word k.Comma) column)) (in_order refl (a_word k.RightParen) (a_word k.Semicolon)))

create : {size : ℕ} → Below size (line g.create)
create = by_line g.create (in_order refl (a_word k.Create) (in_order refl (a_word k.Table) (in_order refl (a_token g.names) (in_order refl (a_word k.LeftParen) columns))))

-- ---- conditions

between : {size : ℕ} → Below size (word k.Between ▸ range)
between = in_order refl (a_word k.Between) (in_order refl operand (in_order refl (a_word k.And) operand))

literals : {size : ℕ} → Below size (many (word k.Comma ▸ line g.literal))
literals = repeated refl refl (in_order refl (a_word k.Comma) literal)

in_list : {size : ℕ} → Below size (word k.In ▸ list)
in_list = in_order refl (a_word k.In) (in_order refl (a_word k.LeftParen) (in_order refl literal (in_order refl literals (a_word k.RightParen))))

like : {size : ℕ} → Below size (word k.Like ▸ word k.Text)
like = in_order refl (a_word k.Like) (a_word k.Text)

in_predicates : {size : ℕ} → Below size predicates
in_predicates = in_order refl (maybe refl (a_word k.Not)) (one_of refl refl refl between (one_of refl refl refl in_list like))

compare : {size : ℕ} → Below size compared
compare = in_order refl (a_token g.comparisons) operand

in_tests : {size : ℕ} → Below size tests
in_tests = as_same as_written refl (in_order refl operand (one_of refl refl refl compare (as_same in_turn refl in_predicates)))

-- a condition, and what a NOT negates
record Conditions (size : ℕ) : Type 0 where
  pub cond : Below size (line g.cond)
  pub neg : Below size (line g.neg)

prim : {size : ℕ} → Below size (line g.cond) → Below (suc size) (line g.prim)
prim inner = by_line g.prim (one_of refl refl refl (a_level k.LeftParen (in_order refl inner (a_word k.RightParen))) in_tests)

neg : {size : ℕ} → Conditions size → Below (suc size) (line g.neg)
neg inner = by_line g.neg (one_of refl refl refl (a_level k.Not inner.neg) (prim inner.cond))

conj : {size : ℕ} → Below size (line g.neg) → Below size (line g.conj)
conj one = by_line g.conj (in_order refl one (repeated refl refl (in_order refl (a_word k.And) one)))

cond : {size : ℕ} → Below size (line g.conj) → Below size (line g.cond)
cond one = by_line g.cond (in_order refl one (repeated refl refl (in_order refl (a_word k.Or) one)))

conditions : (size : ℕ) → Conditions size
conditions zero = record { cond = λ n ts less. absurd (omega arith); neg = λ n ts less. absurd (omega arith) }
conditions (suc size) = let one = neg (conditions size) in record { cond = cond (conj one); neg = one }

condition : {size : ℕ} → Below size (line g.cond)
condition {size} = (conditions size).cond

-- ---- what is selected, and the script

factor : {size : ℕ} → Below size (line g.factor)
factor = by_line g.factor (in_order refl (a_token g.names) alias)

join : {size : ℕ} → Below size (opt (word k.Inner) ▸ word k.Join ▸ line g.factor ▸ word k.On ▸ line g.cond)
join = in_order refl (maybe refl (a_word k.Inner)) (in_order refl (a_word k.Join) (in_order refl factor (in_order refl (a_word k.On) condition)))

source : {size : ℕ} → Below size (line g.source)
source = by_line g.source (in_order refl factor (repeated refl refl join))

sources : {size : ℕ} → Below size (line g.source ▸ many (word k.Comma ▸ line g.source) ▸ opt (word k.Where ▸ line g.cond))
sources = in_order refl source (in_order refl (repeated refl refl (in_order refl (a_word k.Comma) source)) (maybe refl (in_order refl (a_word k.Where) condition)))

select : {size : ℕ} → Below size (line g.select)
select = by_line g.select (in_order refl (a_word k.Select) (in_order refl items (in_order refl (a_word k.From) sources)))

script : {size : ℕ} → Below size (line g.script)
script = by_line g.script (in_order refl (repeated refl refl create) (in_order refl select (maybe refl (a_word k.Semicolon))))

-- a script, from any tokens
pub script_outcome : (n : ℕ) (ts : List Token) → Outcome (line g.script) n ts
script_outcome n ts = script {size = suc (length ts)} n ts (omega arith)
