-- The syntax tree of a derivation, line by line.
use Rattle.std.specs.Prelude.{ℕ, Bool, true, false, List, [], ◌∷◌, ◌++◌, Option, pos, neg_ℤ}
use Rattle.std.specs.Prelude as std
use Rattle.rpt_base.specs.declared.values.ColumnType.{ColumnType}
use Rattle.rpt_base.specs.declared.values.ColumnType.TheVariants as column_type
use Rattle.rpt_base.specs.declared.values.Value.{Value}
use Rattle.rpt_base.specs.declared.values.Value.TheVariants as v
use Rattle.sql_lex.specs.declared.tokens.TokenKind.{TokenKind}
use Rattle.sql_lex.specs.declared.tokens.TokenKind.TheVariants as t
use Rattle.sql_grammar.specs.declared.kinds.Kind.{Kind}
use Rattle.sql_grammar.specs.declared.kinds.Kind.TheVariants as k
use Rattle.sql_grammar.specs.declared.tree.Alias.{Alias}
use Rattle.sql_grammar.specs.declared.tree.ColumnItem.{ColumnItem}
use Rattle.sql_grammar.specs.declared.tree.ColumnName.{ColumnName}
use Rattle.sql_grammar.specs.declared.tree.Cond.{Cond}
use Rattle.sql_grammar.specs.declared.tree.Cond.TheVariants as c
use Rattle.sql_grammar.specs.declared.tree.CreateTable.{CreateTable}
use Rattle.sql_grammar.specs.declared.tree.Expr.{Expr}
use Rattle.sql_grammar.specs.declared.tree.Expr.TheVariants as e
use Rattle.sql_grammar.specs.declared.tree.Item.{Item}
use Rattle.sql_grammar.specs.declared.tree.Items.{Items}
use Rattle.sql_grammar.specs.declared.tree.Items.TheVariants as i
use Rattle.rpt_base.specs.declared.comparisons.Comparison.{Comparison}
use Rattle.rpt_base.specs.declared.comparisons.Comparison.TheVariants as o
use Rattle.sql_grammar.specs.declared.tree.Script.{Script}
use Rattle.sql_grammar.specs.declared.tree.Select.{Select}
use Rattle.sql_grammar.specs.declared.tree.Source.{Source}
use Rattle.sql_grammar.specs.Kinds.{kind_of}
use Rattle.sql_grammar.specs.Places.{place_of_expr}
use Rattle.sql_grammar.specs.Grammar as g
use Rattle.sql_grammar.specs.Grammar.{Part, token, word, behind_commas, ◌▸◌, ◌∣◌, many, opt}
use Rattle.sql_grammar.specs.Grammar.{name, types, comparisons, magnitudes, line, Tree}
use Rattle.sql_grammar.specs.Grammar.{Leaf, None, Both, Left, Right, End, More, In, By}

-- the text of a word, a quoted name or a text
abbrev pub written_text : TokenKind → List ℕ
written_text (t.Word word) = word
written_text (t.Quoted word) = word
written_text (t.Number n) = []
written_text (t.Text text) = text
written_text (t.Mark mark) = []

-- the value of a number
abbrev pub magnitude : TokenKind → ℕ
magnitude (t.Word word) = 0
magnitude (t.Quoted word) = 0
magnitude (t.Number n) = n
magnitude (t.Text text) = 0
magnitude (t.Mark mark) = 0

-- a name, with its place
abbrev pub placed_name : Tree name → Alias
placed_name (Leaf t is) = record { at = t.start; name = written_text t.kind }

-- ---- columns and operands

abbrev pub alone : Alias → ColumnName
alone column = record { at = column.at; relation = std.None; column = column.name }

abbrev pub within : Alias → Alias → ColumnName
within relation column =
    record { at = relation.at; relation = std.Some relation.name; column = column.name }

abbrev pub colref_of : Tree (line g.colref) → ColumnName
colref_of (By (Both column (Left _))) = alone (placed_name column)
colref_of (By (Both relation (Right (Both dot column)))) = within (placed_name relation) (placed_name column)

abbrev pub negative_of : Tree (token magnitudes) → Value
negative_of (Leaf number is) = v.Int (neg_ℤ (pos (magnitude number.kind)))

abbrev pub text_of : Tree (word k.Text) → List ℕ
text_of (Leaf t is) = written_text t.kind

abbrev pub literal_of : Tree (line g.literal) → Value
literal_of (By (Left (Leaf number is))) = v.Int (pos (magnitude number.kind))
literal_of (By (Right (Left (Both minus number)))) = negative_of number
literal_of (By (Right (Right text))) = v.Text (text_of text)

abbrev pub literals_of : Tree (behind_commas g.literal) → List Value
literals_of End = []
literals_of (More (Both comma first) more) = literal_of first ∷ literals_of more

-- where a literal begins, with its minus
abbrev pub literal_place : Tree (line g.literal) → ℕ
literal_place (By (Left (Leaf number is))) = number.start
literal_place (By (Right (Left (Both (Leaf minus is) number)))) = minus.start
literal_place (By (Right (Right (Leaf text is)))) = text.start

abbrev pub operand_of : Tree (line g.operand) → Expr
operand_of (By (Left column)) = e.Column (colref_of column)
operand_of (By (Right literal)) = e.Literal (literal_place literal) (literal_of literal)

-- ---- conditions

abbrev pub op_by : Kind → Comparison
op_by k.Eq = o.Eq
op_by k.Ne = o.Ne
op_by k.Lt = o.Lt
op_by k.Le = o.Le
op_by k.Gt = o.Gt
op_by kind = o.Ge

abbrev pub op_of : Tree (token comparisons) → Comparison
op_of (Leaf t is) = op_by (kind_of t)

-- whether the part stands there
abbrev pub is_there : {p : Part} → Tree (opt p) → Bool
is_there (Left _) = false
is_there (Right _) = true

-- a condition without a word that joins or negates others
abbrev pub tests : Part
tests = line g.operand ▸ token comparisons ▸ line g.operand
    ∣ line g.operand ▸ opt (word k.Not) ▸ word k.Between ▸ line g.operand ▸ word k.And
    ▸ line g.operand
    ∣ line g.operand ▸ opt (word k.Not) ▸ word k.In ▸ word k.LeftParen ▸ line g.literal ▸ behind_commas g.literal
    ▸ word k.RightParen
    ∣ line g.operand ▸ opt (word k.Not) ▸ word k.Like ▸ word k.Text

abbrev pub compare : Expr → Comparison → Expr → Cond
compare left op right = c.Compare (place_of_expr left) op left right

abbrev pub between : Expr → Bool → Expr → Expr → Cond
between operand negated low high = c.Between (place_of_expr operand) negated operand low high

abbrev pub in_list : Expr → Bool → List Value → Cond
in_list operand negated values = c.InList (place_of_expr operand) negated operand values

abbrev pub like : Expr → Bool → List ℕ → Cond
like operand negated pattern = c.Like (place_of_expr operand) negated operand pattern

abbrev pub test_of : Tree tests → Cond
test_of (Left (Both left (Both op right))) = compare (operand_of left) (op_of op) (operand_of right)
test_of (Right (Left (Both operand (Both not (Both keyword (Both low (Both conjunction high))))))) =
    between (operand_of operand) (is_there not) (operand_of low) (operand_of high)
test_of (Right (Right (Left (Both operand (Both not (Both keyword (Both left (Both first (Both more right))))))))) =
    in_list (operand_of operand) (is_there not) (literal_of first ∷ literals_of more)
test_of (Right (Right (Right (Both operand (Both not (Both keyword pattern)))))) =
    like (operand_of operand) (is_there not) (text_of pattern)

-- how a condition goes on behind its first operand, where that isn't compared
abbrev pub range : Part
range = line g.operand ▸ word k.And ▸ line g.operand

abbrev pub range_of : Tree range → Expr × Expr
range_of (Both low (Both conjunction high)) = (operand_of low, operand_of high)

abbrev pub between_bounds : Expr → Bool → Tree range → Cond
between_bounds operand negated bounds = between operand negated (range_of bounds).0 (range_of bounds).1

abbrev pub literal_list_of : Tree (line g.literal ▸ behind_commas g.literal) → List Value
literal_list_of (Both first more) = literal_of first ∷ literals_of more

abbrev pub list : Part
list = word k.LeftParen ▸ line g.literal ▸ behind_commas g.literal ▸ word k.RightParen

abbrev pub list_of : Tree list → List Value
list_of (Both left (Both first (Both more right))) = literal_of first ∷ literals_of more

abbrev pub predicates : Part
predicates = opt (word k.Not)
    ▸ (word k.Between ▸ range ∣ word k.In ▸ list ∣ word k.Like ▸ word k.Text)

abbrev pub predicate_of : Expr → Tree predicates → Cond
predicate_of operand (Both not (Left (Both keyword bounds))) =
    between_bounds operand (is_there not) bounds
predicate_of operand (Both not (Right (Left (Both keyword values)))) =
    in_list operand (is_there not) (list_of values)
predicate_of operand (Both not (Right (Right (Both keyword pattern)))) =
    like operand (is_there not) (text_of pattern)

-- one alone is itself
abbrev pub joined_conditions : (List Cond → Cond) → Cond → List Cond → Cond
joined_conditions all first [] = first
joined_conditions all first (second ∷ more) = all (first ∷ second ∷ more)

abbrev mutual
  pub cond_of : Tree (line g.cond) → Cond
  cond_of (By (Both first more)) = joined_conditions c.Or (conj_of first) (conjs_of more)

  pub conjs_of : Tree (many (word k.Or ▸ line g.conj)) → List Cond
  conjs_of End = []
  conjs_of (More (Both keyword first) more) = conj_of first ∷ conjs_of more

  pub conj_of : Tree (line g.conj) → Cond
  conj_of (By (Both first more)) = joined_conditions c.And (neg_of first) (negs_of more)

  pub negs_of : Tree (many (word k.And ▸ line g.neg)) → List Cond
  negs_of End = []
  negs_of (More (Both keyword first) more) = neg_of first ∷ negs_of more

  pub neg_of : Tree (line g.neg) → Cond
  neg_of (By (Left (In not is inner))) = c.Not not.start (neg_of inner)
  neg_of (By (Right prim)) = prim_of prim

  pub prim_of : Tree (line g.prim) → Cond
  prim_of (By (Left (In paren is (Both inner close)))) = cond_of inner
  prim_of (By (Right test)) = test_of test

-- ---- what is selected

-- `[ [ AS ] name ]`
abbrev pub alias_of : Tree (opt (opt (word k.As) ▸ name)) → Option Alias
alias_of (Left _) = std.None
alias_of (Right (Both keyword alias)) = std.Some (placed_name alias)

abbrev pub title_of : Option Alias → Option (List ℕ)
title_of std.None = std.None
title_of (std.Some alias) = std.Some alias.name

abbrev pub titled_item : ColumnName → Option Alias → Item
titled_item column alias = record { column = column; title = title_of alias }

abbrev pub item_of : Tree (line g.item) → Item
item_of (By (Both column alias)) = titled_item (colref_of column) (alias_of alias)

abbrev pub more_items_of : Tree (behind_commas g.item) → List Item
more_items_of End = []
more_items_of (More (Both comma first) more) = item_of first ∷ more_items_of more

abbrev pub item_list_of : Tree (line g.item ▸ behind_commas g.item) → List Item
item_list_of (Both first more) = item_of first ∷ more_items_of more

abbrev pub items_of : Tree (line g.items) → Items
items_of (By (Left star)) = i.Star
items_of (By (Right items)) = i.List (item_list_of items)

-- ---- where from

abbrev pub unjoined_source : Alias → Option Alias → Source
unjoined_source table alias = record { at = table.at; table = table.name; alias = alias; on = std.None }

abbrev pub joined_source : Source → Cond → Source
joined_source source on =
    record { at = source.at; table = source.table; alias = source.alias; on = std.Some on }

abbrev pub factor_of : Tree (line g.factor) → Source
factor_of (By (Both table alias)) = unjoined_source (placed_name table) (alias_of alias)

-- `[ INNER ] JOIN factor ON cond`
abbrev pub join : Part
join = opt (word k.Inner) ▸ word k.Join ▸ line g.factor ▸ word k.On ▸ line g.cond

abbrev pub join_of : Tree join → Source
join_of (Both inner (Both keyword (Both table (Both on condition)))) =
    joined_source (factor_of table) (cond_of condition)

abbrev pub joins_of : Tree (many join) → List Source
joins_of End = []
joins_of (More first more) = join_of first ∷ joins_of more

abbrev pub source_of : Tree (line g.source) → List Source
source_of (By (Both first more)) = factor_of first ∷ joins_of more

abbrev pub more_sources_of : Tree (behind_commas g.source) → List Source
more_sources_of End = []
more_sources_of (More (Both comma first) more) = source_of first ++ more_sources_of more

abbrev pub source_list_of : Tree (line g.source ▸ behind_commas g.source) → List Source
source_list_of (Both first more) = source_of first ++ more_sources_of more

abbrev pub filter_of : Tree (opt (word k.Where ▸ line g.cond)) → Option Cond
filter_of (Left _) = std.None
filter_of (Right (Both keyword condition)) = std.Some (cond_of condition)

abbrev pub whole_select : Items → List Source → Option Cond → Select
whole_select items sources filter = record { items = items; sources = sources; filter = filter }

abbrev pub select_of : Tree (line g.select) → Select
select_of (By (Both keyword (Both items (Both from (Both first (Both more filter)))))) =
    whole_select (items_of items) (source_of first ++ more_sources_of more) (filter_of filter)

-- ---- what is declared

abbrev pub type_by : Kind → ColumnType
type_by k.TextType = column_type.Text
type_by kind = column_type.Int

abbrev pub type_of : Tree (token types) → ColumnType
type_of (Leaf t is) = type_by (kind_of t)

abbrev pub typed_column : Alias → ColumnType → ColumnItem
typed_column column kind = record { at = column.at; name = column.name; kind = kind }

abbrev pub column_of : Tree (line g.column) → ColumnItem
column_of (By (Both column kind)) = typed_column (placed_name column) (type_of kind)

abbrev pub more_columns_of : Tree (behind_commas g.column) → List ColumnItem
more_columns_of End = []
more_columns_of (More (Both comma first) more) = column_of first ∷ more_columns_of more

abbrev pub column_list_of : Tree (line g.column ▸ behind_commas g.column) → List ColumnItem
column_list_of (Both first more) = column_of first ∷ more_columns_of more

abbrev pub created_table : Alias → List ColumnItem → CreateTable
created_table table columns = record { at = table.at; name = table.name; columns = columns }

abbrev pub create_of : Tree (line g.create) → CreateTable
create_of (By (Both keyword (Both table (Both called (Both left (Both first (Both more (Both right semicolon)))))))) =
    created_table (placed_name called) (column_of first ∷ more_columns_of more)

abbrev pub creates_of : Tree (many (line g.create)) → List CreateTable
creates_of End = []
creates_of (More first more) = create_of first ∷ creates_of more

abbrev pub whole_script : List CreateTable → Select → Script
whole_script tables select = record { tables = tables; select = select }

abbrev pub script_of : Tree (line g.script) → Script
script_of (By (Both tables (Both select semicolon))) =
    whole_script (creates_of tables) (select_of select)
