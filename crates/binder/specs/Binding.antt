-- What a script without refusals is bound to.
use Rattle.std.specs.Prelude.{ℕ, ◌==◌, ◌&&◌, not, Bool, true, false, List, [], ◌∷◌, ◌++◌, filter, length, map}
use Rattle.std.specs.Prelude.{Option, None, Some, if◌then◌else◌}
use Rattle.std.specs.List.{enumerate_from, flat_map, list_any, position_or_len, range_with_len}
use Rattle.std.specs.Option.{option_map_or, option_to_list}
use Rattle.std.specs.Str.{bytes_eq}
use Rattle.rpt_base.specs.declared.values.Value.{Value}
use Rattle.column_table.specs.declared.declared.ColumnDecl.{ColumnDecl}
use Rattle.column_table.specs.declared.declared.Decl.{Decl}
use Rattle.predicate.specs.declared.tree.Pred.{Pred}
use Rattle.predicate.specs.declared.tree.Pred.TheVariants as pred
use Rattle.predicate.specs.declared.tree.Operand.{Operand}
use Rattle.predicate.specs.declared.tree.Operand.TheVariants as operand
use Rattle.rpt_base.specs.declared.comparisons.Comparison.TheVariants as op
use Rattle.sql_grammar.specs.declared.tree.Script.{Script}
use Rattle.sql_grammar.specs.declared.tree.CreateTable.{CreateTable}
use Rattle.sql_grammar.specs.declared.tree.ColumnItem.{ColumnItem}
use Rattle.sql_grammar.specs.declared.tree.Item.{Item}
use Rattle.sql_grammar.specs.declared.tree.Items.{Items}
use Rattle.sql_grammar.specs.declared.tree.Items.TheVariants as items
use Rattle.sql_grammar.specs.declared.tree.Source.{Source}
use Rattle.sql_grammar.specs.declared.tree.Expr.{Expr}
use Rattle.sql_grammar.specs.declared.tree.Expr.TheVariants as expr
use Rattle.sql_grammar.specs.declared.tree.Cond.{Cond}
use Rattle.sql_grammar.specs.declared.tree.Cond.TheOpen.{Cond-F, And, Or, Not, Compare, Between, InList, Like}
use Rattle.sql_grammar.specs.declared.tree.Cond.TheFolds.{fold-Cond}
use Rattle.column_classes.specs.declared.columns.ColumnRef.{ColumnRef}
use Rattle.column_classes.specs.declared.columns.Equality.{Equality}
use Rattle.bound_query.specs.declared.output.OutColumn.{OutColumn}
use Rattle.script_rules.specs.Scope.{Relation, columns_of, resolve, name_of, scope_of}
use Rattle.script_rules.specs.Conjuncts.{columns_in, conjuncts_of, first_relation, found, is_equality, parts_of}
use Rattle.bound_query.specs.Query.{Query}

-- a declared column
abbrev pub declaration : ColumnItem → ColumnDecl
declaration c = record { name = c.name; kind = c.kind }

-- the declared table of a source
abbrev pub decl_of : List CreateTable → Source → Decl
decl_of created s = record { name = s.table; columns = map declaration (columns_of created s) }

-- one of the tables has this name
abbrev pub is_declared : List Decl → List ℕ → Bool
is_declared tables name = list_any (λ (t : Decl). bytes_eq t.name name) tables

-- the tables that were used, and a source's table where it wasn't
abbrev pub with_table : List CreateTable → List Decl → Source → List Decl
with_table created tables s = if is_declared tables s.table then tables else tables ++ decl_of created s ∷ []

-- the different tables of sources by first use, behind those that were used before
unfoldable pub tables_behind : List CreateTable → List Decl → List Source → List Decl
tables_behind created tables [] = tables
tables_behind created tables (s ∷ sources) = tables_behind created (with_table created tables s) sources

-- the different tables by first use
abbrev pub tables_of : Script → List Decl
tables_of script = tables_behind script.tables [] script.select.sources

-- the number of a source's table
abbrev pub table_number : List Decl → Source → ℕ
table_number tables s = position_or_len (λ (t : Decl). bytes_eq t.name s.table) tables

-- the conjuncts of a condition that may be missing
abbrev pub parts_given : Option Cond → List Cond
parts_given cond = flat_map parts_of (option_to_list cond)

-- the place of a column that was resolved; 0 where none was
abbrev pub resolved_place : Option ColumnRef → ℕ
resolved_place column = option_map_or (λ (c : ColumnRef). c.column) column 0

-- an operand over the columns of its relation
unfoldable pub operand_of : List Relation → Expr → Operand
operand_of scope (expr.Column c) = operand.Column (resolved_place (found (resolve scope c)))
operand_of scope (expr.Literal at v) = operand.Literal v

-- the condition, or its negation
abbrev pub negated_if : Bool → Pred → Pred
negated_if true p = pred.Not p
negated_if false p = p

-- at least the one, and at most the other
abbrev pub is_between : Operand → Operand → Operand → Pred
is_between o low high = pred.And (pred.Compare op.Ge o low ∷ pred.Compare op.Le o high ∷ [])

-- an operand is between two others, over the columns of its relation
abbrev pub between_of : List Relation → Expr → Expr → Expr → Pred
between_of scope o low high = is_between (operand_of scope o) (operand_of scope low) (operand_of scope high)

-- one of the values
abbrev pub is_in : Operand → List Value → Pred
is_in o values = pred.Or (map (λ v. pred.Compare op.Eq o (operand.Literal v)) values)

-- a condition over the columns of its relation, given its members
abbrev pub pred_over : List Relation → Cond-F Pred → Pred
pred_over scope (And members) = pred.And members
pred_over scope (Or members) = pred.Or members
pred_over scope (Not at inner) = pred.Not inner
pred_over scope (Compare at o left right) = pred.Compare o (operand_of scope left) (operand_of scope right)
pred_over scope (Between at negated o low high) = negated_if negated (between_of scope o low high)
pred_over scope (InList at negated o values) = negated_if negated (is_in (operand_of scope o) values)
pred_over scope (Like at negated o pattern) = negated_if negated (pred.Like (operand_of scope o) pattern)

-- a condition over the columns of its relation
unfoldable pub pred_of : List Relation → Cond → Pred
pred_of scope = fold-Cond Pred (pred_over scope)

-- the relation that a conjunct is of: that of its columns, or relation 0 where it names none
abbrev pub relation_of_conjunct : List Relation → Cond → ℕ
relation_of_conjunct scope c = or_first (first_relation (columns_in scope c))
  where
    or_first : Option ℕ → ℕ
    or_first None = 0
    or_first (Some r) = r

-- a conjunct is of this relation, and is no written equality
abbrev pub is_condition_of : List Relation → ℕ → Cond → Bool
is_condition_of scope r c = not (is_equality c) && (relation_of_conjunct scope c == r)

-- the conditions that a relation has of conjuncts
abbrev pub conditions_in : List Relation → ℕ → List Cond → List Pred
conditions_in scope r conjuncts = map (pred_of scope) (filter (is_condition_of scope r) conjuncts)

-- the condition of a relation: all of its conjuncts but the written equalities
unfoldable pub condition_of : List Relation → List Cond → ℕ → Pred
condition_of scope conjuncts r = pred.And (conditions_in scope r conjuncts)

-- the condition of each relation
abbrev pub conditions_of : List Relation → List Cond → List Pred
conditions_of scope conjuncts = map (condition_of scope conjuncts) (range_with_len 0 (length scope))

-- the equality of two columns
abbrev pub equality_between : List ColumnRef → List Equality
equality_between (a ∷ b ∷ []) = record { left = a; right = b } ∷ []
equality_between columns = []

-- the equality that a conjunct writes, if it is one
unfoldable pub equality_of : List Relation → Cond → List Equality
equality_of scope c = if is_equality c then equality_between (columns_in scope c) else []

-- the title of an item: the one that is given to it, or else its column's name
abbrev pub title_of : Item → List ℕ
title_of i = option_map_or (λ t. t) i.title i.column.column

-- the output column of an item: the column that it resolves to, under its title
unfoldable pub item_output : List Relation → Item → List OutColumn
item_output scope i =
    map (λ (c : ColumnRef). record { source = c; title = title_of i }) (option_to_list (found (resolve scope i.column)))

-- the output column of a column of the relation of this number
abbrev pub column_output : ℕ → ℕ × ColumnItem → OutColumn
column_output relation c = record { source = record { relation = relation; column = c.0 }; title = c.1.name }

-- the output columns of a relation with this number, under their own names
abbrev pub relation_output : ℕ × Relation → List OutColumn
relation_output r = map (column_output r.0) (enumerate_from 0 r.1.columns)

-- the output columns: those of the items, or all columns of all relations in order
abbrev pub output_of : List Relation → Items → List OutColumn
output_of scope items.Star = flat_map relation_output (enumerate_from 0 scope)
output_of scope (items.List list) = flat_map (item_output scope) list

-- what a script without refusals is bound to
unfoldable pub query_of : Script → Query
query_of script = record {
  aliases = map name_of script.select.sources;
  tables = tables_of script;
  table_of = map (table_number (tables_of script)) script.select.sources;
  conditions = map (condition_of (scope_of script) (conjuncts_of script)) (range_with_len 0 (length script.select.sources));
  equalities = flat_map (equality_of (scope_of script)) (conjuncts_of script);
  output = output_of (scope_of script) script.select.items;
}
