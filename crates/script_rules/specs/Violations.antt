-- All violations that hold of a script, and the first of them.
use Rattle.std.specs.Prelude.{ℕ, ◌==◌, ◌&&◌, ◌||◌, not, nat_lt, Bool, true, false, List, [], ◌∷◌, ◌++◌, length, map}
use Rattle.std.specs.Prelude.{Option, None, Some, Result, Ok, Err, if◌then◌else◌}
use Rattle.std.specs.List.{flat_map, list_all, list_any}
use Rattle.std.specs.Option.{option_map_or, option_or}
use Rattle.std.specs.Char.{is_ascii_alphabetic, is_ascii_digit}
use Rattle.std.specs.Str.{bytes_eq}
use Rattle.rpt_base.specs.declared.limits.TheConstants.{MAX_COLUMNS, MAX_RELATIONS}
use Rattle.rpt_base.specs.Lists.{all_of}
use Rattle.rpt_base.specs.declared.values.ColumnType.{ColumnType}
use Rattle.rpt_base.specs.declared.values.ColumnType.TheVariants as type
use Rattle.rpt_base.specs.declared.values.Value.{Value}
use Rattle.column_table.specs.Table.{type_of_value}
use Rattle.sql_grammar.specs.declared.tree.Script.{Script}
use Rattle.sql_grammar.specs.declared.tree.CreateTable.{CreateTable}
use Rattle.sql_grammar.specs.declared.tree.ColumnItem.{ColumnItem}
use Rattle.sql_grammar.specs.declared.tree.ColumnName.{ColumnName}
use Rattle.sql_grammar.specs.declared.tree.Item.{Item}
use Rattle.sql_grammar.specs.declared.tree.Items.{Items}
use Rattle.sql_grammar.specs.declared.tree.Items.TheVariants as items
use Rattle.sql_grammar.specs.declared.tree.Source.{Source}
use Rattle.sql_grammar.specs.declared.tree.Expr.{Expr}
use Rattle.sql_grammar.specs.declared.tree.Expr.TheVariants as expr
use Rattle.sql_grammar.specs.declared.tree.Cond.{Cond}
use Rattle.sql_grammar.specs.declared.tree.Cond.TheOpen.{Cond-F, And, Or, Not, Compare, Between, InList, Like}
use Rattle.sql_grammar.specs.declared.tree.Cond.TheFolds.{fold-Cond}
use Rattle.column_classes.specs.declared.columns.ColumnRef.{ColumnRef}
use Rattle.script_rules.specs.declared.found.Violation.{Violation}
use Rattle.script_rules.specs.declared.kinds.BindKind.{BindKind}
use Rattle.script_rules.specs.declared.kinds.BindKind.TheVariants.{BadTableName, DuplicateTable, TooManyColumns, DuplicateColumn}
use Rattle.script_rules.specs.declared.kinds.BindKind.TheVariants.{UnknownTable, DuplicateAlias, TooManyRelations}
use Rattle.script_rules.specs.declared.kinds.BindKind.TheVariants.{UnknownColumn, Ambiguous, TypeMismatch, NotEquiJoin}
use Rattle.script_rules.specs.Scope.{Relation, resolve, name_of, name_place, scope_of, type_at}
use Rattle.script_rules.specs.Conjuncts.{columns_in, conditions_of, is_equality, of_two_relations, parts_of, place_of}

-- the order of kinds at one place
abbrev pub rank_of : BindKind → ℕ
rank_of BadTableName = 0
rank_of DuplicateTable = 1
rank_of TooManyColumns = 2
rank_of DuplicateColumn = 3
rank_of UnknownTable = 4
rank_of DuplicateAlias = 5
rank_of TooManyRelations = 6
rank_of UnknownColumn = 7
rank_of Ambiguous = 8
rank_of TypeMismatch = 9
rank_of NotEquiJoin = 10

-- by place, and at one place by kind
abbrev pub comes_before : Violation → Violation → Bool
comes_before f g = nat_lt f.at g.at || ((f.at == g.at) && nat_lt (rank_of f.kind) (rank_of g.kind))

-- of two, the one that comes first
abbrev pub earlier : Option Violation → Violation → Option Violation
earlier None f = Some f
earlier (Some g) f = if comes_before f g then Some f else Some g

-- the first of all, and of what was found before
unfoldable pub first_of : Option Violation → List Violation → Option Violation
first_of found [] = found
first_of found (f ∷ violations) = first_of (earlier found f) violations

-- of two that may be missing, the one that comes first
abbrev pub merged : Option Violation → Option Violation → Option Violation
merged found None = found
merged found (Some f) = earlier found f

-- this violation, where the test holds
unfoldable pub violation_if : Bool → ℕ → BindKind → List Violation
violation_if holds at kind = if holds then record { at = at; kind = kind } ∷ [] else []

-- the violations of each member behind those before it
unfoldable pub each_behind : {X : Type 0} → (List X → X → List Violation) → List X → List X → List Violation
each_behind violations before [] = []
each_behind violations before (x ∷ xs) = violations before x ++ each_behind violations (before ++ x ∷ []) xs

-- only ASCII letters, digits, `_` and `-`
abbrev pub is_file_name : List ℕ → Bool
is_file_name name = list_all (λ b. is_ascii_alphabetic b || (is_ascii_digit b || ((b == 95) || (b == 45)))) name

-- a table of this name is created
abbrev pub has_table : List CreateTable → List ℕ → Bool
has_table tables name = list_any (λ (t : CreateTable). bytes_eq t.name name) tables

-- a column has this name
abbrev pub has_column : List ColumnItem → List ℕ → Bool
has_column columns name = list_any (λ (c : ColumnItem). bytes_eq c.name name) columns

-- a source goes by this name
abbrev pub has_relation : List Source → List ℕ → Bool
has_relation sources name = list_any (λ (s : Source). bytes_eq (name_of s) name) sources

-- the violations of a column behind those before it
unfoldable pub column_violations : List ColumnItem → ColumnItem → List Violation
column_violations before c =
    violation_if (length before == MAX_COLUMNS) c.at TooManyColumns ++ violation_if (has_column before c.name) c.at DuplicateColumn

-- the violations of a created table behind those before it
unfoldable pub table_violations : List CreateTable → CreateTable → List Violation
table_violations before t =
    violation_if (not (is_file_name t.name)) t.at BadTableName
    ++ (violation_if (has_table before t.name) t.at DuplicateTable ++ each_behind column_violations [] t.columns)

-- the violations of a source behind those before it
unfoldable pub source_violations : List CreateTable → List Source → Source → List Violation
source_violations tables before s =
    violation_if (not (has_table tables s.table)) s.at UnknownTable
    ++ (violation_if (has_relation before (name_of s)) (name_place s) DuplicateAlias
    ++ violation_if (length before == MAX_RELATIONS) s.at TooManyRelations)

-- the violation of a reference at this place that resolves to this
abbrev pub resolved_violations : ℕ → Result ColumnRef BindKind → List Violation
resolved_violations at (Ok column) = []
resolved_violations at (Err kind) = record { at = at; kind = kind } ∷ []

-- the violation of a reference to a column
unfoldable pub reference_violations : List Relation → ColumnName → List Violation
reference_violations scope c = resolved_violations c.at (resolve scope c)

-- the violations of what is selected
unfoldable pub item_violations : List Relation → Items → List Violation
item_violations scope items.Star = []
item_violations scope (items.List list) = flat_map (λ (i : Item). reference_violations scope i.column) list

-- the violation of an operand
unfoldable pub operand_violations : List Relation → Expr → List Violation
operand_violations scope (expr.Column c) = reference_violations scope c
operand_violations scope (expr.Literal at v) = []

-- the type of the column that was resolved; none where none was
abbrev pub resolved_type : List Relation → Result ColumnRef BindKind → Option ColumnType
resolved_type scope (Ok column) = type_at scope column
resolved_type scope (Err kind) = None

-- the type of an operand; none where it is a column that doesn't resolve
unfoldable pub type_of : List Relation → Expr → Option ColumnType
type_of scope (expr.Literal at v) = Some (type_of_value v)
type_of scope (expr.Column c) = resolved_type scope (resolve scope c)

-- the types of operands in order
abbrev pub operand_types : List Relation → List Expr → List (Option ColumnType)
operand_types scope operands = map (type_of scope) operands

-- the types of values, which are known
abbrev pub value_types : List Value → List (Option ColumnType)
value_types values = map (λ v. Some (type_of_value v)) values

-- one type
abbrev pub is_same_type : ColumnType → ColumnType → Bool
is_same_type type.Int type.Int = true
is_same_type type.Text type.Text = true
is_same_type _ _ = false

-- it is known, and is this type
abbrev pub is_of_type : ColumnType → Option ColumnType → Bool
is_of_type t other = option_map_or (is_same_type t) other false

-- the types are known, and are not one type
abbrev pub differ : Option (List ColumnType) → Bool
differ None = false
differ (Some []) = false
differ (Some (t ∷ types)) = not (list_all (is_same_type t) types)

-- the violation of operands of more than one type
unfoldable pub type_violations : ℕ → List (Option ColumnType) → List Violation
type_violations at types = violation_if (differ (all_of types)) at TypeMismatch

-- the violations of operands in order
abbrev pub operands_violations : List Relation → List Expr → List Violation
operands_violations scope operands = flat_map (operand_violations scope) operands

-- the violations of a comparison
unfoldable pub compare_violations : List Relation → ℕ → Expr → Expr → List Violation
compare_violations scope at left right =
    operands_violations scope (left ∷ right ∷ []) ++ type_violations at (operand_types scope (left ∷ right ∷ []))

-- the violations of a BETWEEN
unfoldable pub between_violations : List Relation → ℕ → Expr → Expr → Expr → List Violation
between_violations scope at operand low high =
    operands_violations scope (operand ∷ low ∷ high ∷ []) ++ type_violations at (operand_types scope (operand ∷ low ∷ high ∷ []))

-- the violations of an IN
unfoldable pub list_violations : List Relation → ℕ → Expr → List Value → List Violation
list_violations scope at operand values =
    operand_violations scope operand ++ type_violations at (type_of scope operand ∷ value_types values)

-- the violations of a LIKE
unfoldable pub like_violations : List Relation → ℕ → Expr → List Violation
like_violations scope at operand = operand_violations scope operand ++ type_violations at (type_of scope operand ∷ Some type.Text ∷ [])

-- the violations inside of a condition, given those inside of its members
abbrev pub cond_violations_over : List Relation → Cond-F (List Violation) → List Violation
cond_violations_over scope (And members) = flat_map (λ violations. violations) members
cond_violations_over scope (Or members) = flat_map (λ violations. violations) members
cond_violations_over scope (Not at inner) = inner
cond_violations_over scope (Compare at op left right) = compare_violations scope at left right
cond_violations_over scope (Between at negated operand low high) = between_violations scope at operand low high
cond_violations_over scope (InList at negated operand values) = list_violations scope at operand values
cond_violations_over scope (Like at negated operand pattern) = like_violations scope at operand

-- the violations inside of a condition
unfoldable pub cond_violations : List Relation → Cond → List Violation
cond_violations scope = fold-Cond (List Violation) (cond_violations_over scope)

-- the violation of a conjunct that is otherwise in order: it names two or more relations, and is no written equality
unfoldable pub join_violations : List Relation → Cond → List Violation → List Violation
join_violations scope c [] = violation_if (of_two_relations (columns_in scope c) && not (is_equality c)) (place_of c) NotEquiJoin
join_violations scope c (f ∷ violations) = []

-- the violations of a conjunct
unfoldable pub conjunct_violations : List Relation → Cond → List Violation
conjunct_violations scope c = cond_violations scope c ++ join_violations scope c (cond_violations scope c)

-- the violations of the conjuncts of conditions
abbrev pub violations_in : List Relation → List Cond → List Violation
violations_in scope conds = flat_map (conjunct_violations scope) (flat_map parts_of conds)

-- the violations of a script's query by phase: those of the list of items, and of the conjuncts
abbrev pub query_phases : List Relation → Script → List (List Violation)
query_phases scope script = item_violations scope script.select.items ∷ violations_in scope (conditions_of script) ∷ []

-- all violations that hold of a script, by phase: those of the created tables, of the sources, and of the query
abbrev pub phases_of : Script → List (List Violation)
phases_of script =
    each_behind table_violations [] script.tables
    ∷ each_behind (source_violations script.tables) [] script.select.sources
    ∷ query_phases (scope_of script) script

-- the first violation of the first phase that has one
abbrev pub first_by_phase : List (List Violation) → Option Violation
first_by_phase [] = None
first_by_phase (violations ∷ phases) = option_or (first_of None violations) (first_by_phase phases)

-- the violation of a script, if it is refused
unfoldable pub refusal_of : Script → Option Violation
refusal_of script = first_by_phase (phases_of script)
