-- Syntax trees with their places set aside.
-- Words of this crate's own contracts.
use Rattle.std.specs.Prelude.{◌≡◌, ℕ, List, map, Option, None, Some}
use Rattle.rpt_base.specs.declared.limits.TheConstants.{MAX_LEVELS}
use Rattle.sql_lex.specs.declared.tokens.Token.{Token}
use Rattle.sql_lex.specs.Tokens.{IsTokenList}
use Rattle.sql_grammar.specs.declared.tree.Alias.{Alias}
use Rattle.sql_grammar.specs.declared.tree.ColumnItem.{ColumnItem}
use Rattle.sql_grammar.specs.declared.tree.ColumnName.{ColumnName}
use Rattle.sql_grammar.specs.declared.tree.Cond.{Cond}
use Rattle.sql_grammar.specs.declared.tree.Cond.TheVariants as c
use Rattle.sql_grammar.specs.declared.tree.Cond.TheOpen.{Cond-F, And, Or, Not, Compare}
use Rattle.sql_grammar.specs.declared.tree.Cond.TheOpen.{Between, InList, Like}
use Rattle.sql_grammar.specs.declared.tree.Cond.TheFolds.{fold-Cond}
use Rattle.sql_grammar.specs.declared.tree.CreateTable.{CreateTable}
use Rattle.sql_grammar.specs.declared.tree.Expr.{Expr}
use Rattle.sql_grammar.specs.declared.tree.Expr.TheVariants as e
use Rattle.sql_grammar.specs.declared.tree.Item.{Item}
use Rattle.sql_grammar.specs.declared.tree.Items.{Items}
use Rattle.sql_grammar.specs.declared.tree.Items.TheVariants as i
use Rattle.sql_grammar.specs.declared.tree.Script.{Script}
use Rattle.sql_grammar.specs.declared.tree.Select.{Select}
use Rattle.sql_grammar.specs.declared.tree.Source.{Source}
use Rattle.sql_grammar.specs.Sentence.{IsSentence}

abbrev pub unplaced_alias : Alias → Alias
unplaced_alias alias = record { at = 0; name = alias.name }

abbrev pub unplaced_column : ColumnName → ColumnName
unplaced_column column = record { at = 0; relation = column.relation; column = column.column }

abbrev pub unplaced_expr : Expr → Expr
unplaced_expr (e.Column column) = e.Column (unplaced_column column)
unplaced_expr (e.Literal at value) = e.Literal 0 value

-- one condition, whose members are without their places
abbrev pub unplaced_step : Cond-F Cond → Cond
unplaced_step (And members) = c.And members
unplaced_step (Or members) = c.Or members
unplaced_step (Not at inner) = c.Not 0 inner
unplaced_step (Compare at op left right) = c.Compare 0 op (unplaced_expr left) (unplaced_expr right)
unplaced_step (Between at negated operand low high) =
    c.Between 0 negated (unplaced_expr operand) (unplaced_expr low) (unplaced_expr high)
unplaced_step (InList at negated operand values) = c.InList 0 negated (unplaced_expr operand) values
unplaced_step (Like at negated operand pattern) = c.Like 0 negated (unplaced_expr operand) pattern

abbrev pub unplaced_cond : Cond → Cond
unplaced_cond = fold-Cond Cond unplaced_step

abbrev pub unplaced_filter : Option Cond → Option Cond
unplaced_filter None = None
unplaced_filter (Some condition) = Some (unplaced_cond condition)

abbrev pub unplaced_name : Option Alias → Option Alias
unplaced_name None = None
unplaced_name (Some alias) = Some (unplaced_alias alias)

abbrev pub unplaced_source : Source → Source
unplaced_source source = record {
  at = 0;
  table = source.table;
  alias = unplaced_name source.alias;
  on = unplaced_filter source.on;
}

abbrev pub unplaced_item : Item → Item
unplaced_item item = record { column = unplaced_column item.column; title = item.title }

abbrev pub unplaced_items : Items → Items
unplaced_items i.Star = i.Star
unplaced_items (i.List items) = i.List (map unplaced_item items)

abbrev pub unplaced_select : Select → Select
unplaced_select select = record {
  items = unplaced_items select.items;
  sources = map unplaced_source select.sources;
  filter = unplaced_filter select.filter;
}

abbrev pub unplaced_declared : ColumnItem → ColumnItem
unplaced_declared column = record { at = 0; name = column.name; kind = column.kind }

abbrev pub unplaced_table : CreateTable → CreateTable
unplaced_table table =
    record { at = 0; name = table.name; columns = map unplaced_declared table.columns }

abbrev pub unplaced : Script → Script
unplaced script =
    record { tables = map unplaced_table script.tables; select = unplaced_select script.select }

-- the tokens are parsed to the script, places set aside
abbrev pub IsParsedBack : Script → List Token → Type 0
IsParsedBack script tokens =
    (again : Script) × IsSentence MAX_LEVELS tokens again × (unplaced again ≡ unplaced script)

-- the text is lexed and parsed to the script, places set aside
abbrev pub IsReadBack : Script → List ℕ → Type 0
IsReadBack script bytes =
    (tokens : List Token) × IsTokenList bytes tokens × IsParsedBack script tokens
