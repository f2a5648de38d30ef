-- Where the parts of a syntax tree stand.
use Rattle.std.specs.Prelude.{ℕ}
use Rattle.sql_grammar.specs.declared.tree.Expr.{Expr}
use Rattle.sql_grammar.specs.declared.tree.Expr.TheVariants.{Column, Literal}

-- the offset of the operand's first token
abbrev pub place_of_expr : Expr → ℕ
place_of_expr (Column column) = column.at
place_of_expr (Literal at value) = at
