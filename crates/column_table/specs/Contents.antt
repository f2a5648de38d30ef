-- What a column holds.
-- Words of this crate's own contracts.
use Rattle.std.specs.Prelude.{map}
use Rattle.rpt_base.specs.declared.values.ColumnType.TheVariants as kind
use Rattle.rpt_base.specs.declared.values.Value.TheVariants as value
use Rattle.column_table.specs.declared.column.Content.{Content}
use Rattle.column_table.specs.declared.column.Content.TheVariants as content
use Rattle.column_table.specs.Columns.{OneColumn}

-- the column that is kept so
abbrev pub column_of : Content → OneColumn
column_of (content.Numbers numbers) = record { kind = kind.Int; values = map value.Int numbers.items }
column_of (content.Texts texts) = record { kind = kind.Text; values = map value.Text texts }
