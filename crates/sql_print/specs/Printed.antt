-- The printed form of a script, as the pieces that stand before more of them.
-- Words of this crate's own contracts.
use Rattle.std.specs.Prelude.{ℕ, ◌+◌, suc, Bool, true, false, List, [], ◌∷◌}
use Rattle.std.specs.Prelude.{Option, None, Some, codes, max, map, ℤ, pos, negsuc}
use Rattle.rpt_base.specs.declared.values.ColumnType.{ColumnType}
use Rattle.rpt_base.specs.declared.values.ColumnType.TheVariants as column_type
use Rattle.rpt_base.specs.declared.values.Value.{Value}
use Rattle.rpt_base.specs.declared.values.Value.TheVariants as v
use Rattle.sql_lex.specs.declared.tokens.Mark.{Mark}
use Rattle.sql_lex.specs.declared.tokens.Mark.TheVariants as m
use Rattle.sql_grammar.specs.declared.tree.Alias.{Alias}
use Rattle.sql_grammar.specs.declared.tree.ColumnItem.{ColumnItem}
use Rattle.sql_grammar.specs.declared.tree.ColumnName.{ColumnName}
use Rattle.sql_grammar.specs.declared.tree.Cond.{Cond}
use Rattle.sql_grammar.specs.declared.tree.Cond.TheOpen.{Cond-F, And, Or, Not, Compare}
use Rattle.sql_grammar.specs.declared.tree.Cond.TheOpen.{Between, InList, Like}
use Rattle.sql_grammar.specs.declared.tree.Cond.TheFolds.{fold-Cond}
use Rattle.sql_grammar.specs.declared.tree.CreateTable.{CreateTable}
use Rattle.sql_grammar.specs.declared.tree.Expr.{Expr}
use Rattle.sql_grammar.specs.declared.tree.Expr.TheVariants as e
use Rattle.sql_grammar.specs.declared.tree.Item.{Item}
use Rattle.sql_grammar.specs.declared.tree.Items.{Items}
use Rattle.sql_grammar.specs.declared.tree.Items.TheVariants as i
use Rattle.rpt_base.specs.declared.comparisons.Comparison.{Comparison}
use Rattle.rpt_base.specs.declared.comparisons.Comparison.TheVariants as o
use Rattle.sql_grammar.specs.declared.tree.Script.{Script}
use Rattle.sql_grammar.specs.declared.tree.Select.{Select}
use Rattle.sql_grammar.specs.declared.tree.Source.{Source}
use Rattle.sql_print.specs.declared.conditions.Room.{Room}
use Rattle.sql_print.specs.declared.conditions.Room.TheVariants as room
use Rattle.sql_print.specs.Pieces.{Piece, word, name, number, magnitude, text, mark, shown_text}

-- ---- columns and operands

abbrev pub relation_pieces : Option (List ℕ) → List Piece → List Piece
relation_pieces None more = more
relation_pieces (Some relation) more = name relation ∷ mark m.Dot ∷ more

abbrev pub column_pieces : ColumnName → List Piece → List Piece
column_pieces column more = relation_pieces column.relation (name column.column ∷ more)

abbrev pub int_pieces : ℤ → List Piece → List Piece
int_pieces (pos n) more = number n ∷ more
int_pieces (negsuc n) more = mark m.Minus ∷ magnitude (suc n) ∷ more

abbrev pub value_pieces : Value → List Piece → List Piece
value_pieces (v.Int z) more = int_pieces z more
value_pieces (v.Text t) more = text t ∷ more

abbrev pub expr_pieces : Expr → List Piece → List Piece
expr_pieces (e.Column column) more = column_pieces column more
expr_pieces (e.Literal at value) more = value_pieces value more

-- each with a piece in front
abbrev pub behind_each : {X : Type 0} → Piece → (X → List Piece → List Piece)
    → List X → List Piece → List Piece
behind_each separator pieces [] more = more
behind_each separator pieces (x ∷ xs) more =
    separator ∷ pieces x (behind_each separator pieces xs more)

-- with a piece between two
abbrev pub between_all : {X : Type 0} → Piece → (X → List Piece → List Piece)
    → List X → List Piece → List Piece
between_all separator pieces [] more = more
between_all separator pieces (x ∷ xs) more = pieces x (behind_each separator pieces xs more)

-- the rest of these, of which some may stand before
abbrev pub rest_of : {X : Type 0} → Bool → Piece → (X → List Piece → List Piece)
    → List X → List Piece → List Piece
rest_of true separator pieces xs more = behind_each separator pieces xs more
rest_of false separator pieces xs more = between_all separator pieces xs more

abbrev pub behind_commas : {X : Type 0} → (X → List Piece → List Piece)
    → List X → List Piece → List Piece
behind_commas = behind_each (mark m.Comma)

abbrev pub between_commas : {X : Type 0} → (X → List Piece → List Piece)
    → List X → List Piece → List Piece
between_commas = between_all (mark m.Comma)

-- ---- conditions

abbrev pub op_mark : Comparison → Mark
op_mark o.Eq = m.Eq
op_mark o.Ne = m.Ne
op_mark o.Lt = m.Lt
op_mark o.Le = m.Le
op_mark o.Gt = m.Gt
op_mark o.Ge = m.Ge

abbrev pub not_pieces : Bool → List Piece → List Piece
not_pieces true more = word (codes "NOT") ∷ more
not_pieces false more = more

abbrev pub compare_pieces : Comparison → Expr → Expr → List Piece → List Piece
compare_pieces op left right more = expr_pieces left (mark (op_mark op) ∷ expr_pieces right more)

abbrev pub between_pieces : Expr → Bool → Expr → Expr → List Piece → List Piece
between_pieces operand negated low high more =
    expr_pieces operand (not_pieces negated (word (codes "BETWEEN")
    ∷ expr_pieces low (word (codes "AND") ∷ expr_pieces high more)))

abbrev pub list_pieces : Expr → Bool → List Value → List Piece → List Piece
list_pieces operand negated values more =
    expr_pieces operand (not_pieces negated (word (codes "IN") ∷ mark m.LeftParen
    ∷ between_commas value_pieces values (mark m.RightParen ∷ more)))

abbrev pub like_pieces : Expr → Bool → List ℕ → List Piece → List Piece
like_pieces operand negated pattern more =
    expr_pieces operand (not_pieces negated (word (codes "LIKE") ∷ text pattern ∷ more))

-- in parentheses, where they are needed
abbrev pub in_parens : Bool → (List Piece → List Piece) → List Piece → List Piece
in_parens true pieces more = mark m.LeftParen ∷ pieces (mark m.RightParen ∷ more)
in_parens false pieces more = pieces more

-- OR needs them in every other condition
abbrev pub or_is_wrapped : Room → Bool
or_is_wrapped room.Whole = false
or_is_wrapped room.InOr = true
or_is_wrapped room.InAnd = true

-- and AND in an AND and behind NOT
abbrev pub and_is_wrapped : Room → Bool
and_is_wrapped room.Whole = false
and_is_wrapped room.InOr = false
and_is_wrapped room.InAnd = true

-- What a condition stands in, and then more pieces, and what these become.
abbrev pub Pieces : Type 0
Pieces = Room → List Piece → List Piece

-- one condition, with the pieces of its members in their place
abbrev pub cond_step : Cond-F Pieces → Pieces
cond_step (And members) in_room more =
    in_parens (and_is_wrapped in_room)
    (between_all (word (codes "AND")) (λ member. member room.InAnd) members) more
cond_step (Or members) in_room more =
    in_parens (or_is_wrapped in_room)
    (between_all (word (codes "OR")) (λ member. member room.InOr) members) more
cond_step (Not at inner) in_room more = word (codes "NOT") ∷ inner room.InAnd more
cond_step (Compare at op left right) in_room more = compare_pieces op left right more
cond_step (Between at negated operand low high) in_room more =
    between_pieces operand negated low high more
cond_step (InList at negated operand values) in_room more = list_pieces operand negated values more
cond_step (Like at negated operand pattern) in_room more = like_pieces operand negated pattern more

abbrev pub cond_pieces : Cond → Pieces
cond_pieces = fold-Cond Pieces cond_step

-- conditions with a piece between two
abbrev pub members_pieces : Piece → Room → List Cond → List Piece → List Piece
members_pieces separator in_room members more =
    between_all separator (λ member. cond_pieces member in_room) members more

-- the same with a word between two, in parentheses where they are needed
abbrev pub joined_pieces : Bool → List ℕ → Room → List Cond → List Piece → List Piece
joined_pieces wrapped joining in_room members =
    in_parens wrapped (members_pieces (word joining) in_room members)

abbrev pub one_more_if : Bool → ℕ → ℕ
one_more_if true n = n + 1
one_more_if false n = n

abbrev pub most : List ℕ → ℕ
most [] = 0
most (n ∷ ns) = max n (most ns)

-- one condition, with the levels of its members in their place
abbrev pub levels_step : Cond-F (Room → ℕ) → Room → ℕ
levels_step (And members) in_room =
    one_more_if (and_is_wrapped in_room) (most (map (λ member. member room.InAnd) members))
levels_step (Or members) in_room =
    one_more_if (or_is_wrapped in_room) (most (map (λ member. member room.InOr) members))
levels_step (Not at inner) in_room = inner room.InAnd + 1
levels_step (Compare at op left right) in_room = 0
levels_step (Between at negated operand low high) in_room = 0
levels_step (InList at negated operand values) in_room = 0
levels_step (Like at negated operand pattern) in_room = 0

-- how many levels a printed condition has
abbrev pub cond_levels : Cond → Room → ℕ
cond_levels = fold-Cond (Room → ℕ) levels_step

-- ---- what is selected

abbrev pub title_pieces : Option (List ℕ) → List Piece → List Piece
title_pieces None more = more
title_pieces (Some title) more = word (codes "AS") ∷ name title ∷ more

abbrev pub item_pieces : Item → List Piece → List Piece
item_pieces item more = column_pieces item.column (title_pieces item.title more)

abbrev pub items_pieces : Items → List Piece → List Piece
items_pieces i.Star more = mark m.Star ∷ more
items_pieces (i.List items) more = between_commas item_pieces items more

abbrev pub alias_pieces : Option Alias → List Piece → List Piece
alias_pieces None more = more
alias_pieces (Some alias) more = word (codes "AS") ∷ name alias.name ∷ more

abbrev pub factor_pieces : Source → List Piece → List Piece
factor_pieces source more = name source.table ∷ alias_pieces source.alias more

-- a source behind the first: behind a comma, or joined
abbrev pub next_source : Option Cond → Source → List Piece → List Piece
next_source None source more = mark m.Comma ∷ factor_pieces source more
next_source (Some on) source more =
    word (codes "JOIN") ∷ factor_pieces source (word (codes "ON") ∷ cond_pieces on room.Whole more)

abbrev pub next_sources : List Source → List Piece → List Piece
next_sources [] more = more
next_sources (source ∷ sources) more = next_source source.on source (next_sources sources more)

abbrev pub sources_pieces : List Source → List Piece → List Piece
sources_pieces [] more = more
sources_pieces (source ∷ sources) more = factor_pieces source (next_sources sources more)

abbrev pub filter_pieces : Option Cond → List Piece → List Piece
filter_pieces None more = more
filter_pieces (Some condition) more = word (codes "WHERE") ∷ cond_pieces condition room.Whole more

abbrev pub select_pieces : Select → List Piece → List Piece
select_pieces select more =
    word (codes "SELECT") ∷ items_pieces select.items (word (codes "FROM")
    ∷ sources_pieces select.sources (filter_pieces select.filter more))

-- ---- what is declared

abbrev pub type_word : ColumnType → List ℕ
type_word column_type.Int = codes "INT"
type_word column_type.Text = codes "TEXT"

abbrev pub declared_pieces : ColumnItem → List Piece → List Piece
declared_pieces column more = name column.name ∷ word (type_word column.kind) ∷ more

abbrev pub table_pieces : CreateTable → List Piece → List Piece
table_pieces table more =
    word (codes "CREATE") ∷ word (codes "TABLE") ∷ name table.name ∷ mark m.LeftParen
    ∷ between_commas declared_pieces table.columns (mark m.RightParen ∷ mark m.Semicolon ∷ more)

abbrev pub tables_pieces : List CreateTable → List Piece → List Piece
tables_pieces [] more = more
tables_pieces (table ∷ tables) more = table_pieces table (tables_pieces tables more)

abbrev pub script_pieces : Script → List Piece → List Piece
script_pieces script more = tables_pieces script.tables (select_pieces script.select more)

-- the printed text
abbrev pub printed_text : Script → List ℕ
printed_text script = shown_text (script_pieces script [])

-- ---- the levels of a printed script

abbrev pub filter_levels : Option Cond → ℕ
filter_levels None = 0
filter_levels (Some condition) = cond_levels condition room.Whole

abbrev pub sources_levels : List Source → ℕ
sources_levels [] = 0
sources_levels (source ∷ sources) = max (filter_levels source.on) (sources_levels sources)

abbrev pub script_levels : Script → ℕ
script_levels script =
    max (sources_levels script.select.sources) (filter_levels script.select.filter)
