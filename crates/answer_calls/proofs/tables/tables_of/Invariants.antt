use Rattle.std.proofs.Common.{◌≡◌, map, take}
use Rattle.column_table.specs.Table.{Rows, types_of}
use Rattle.column_table.specs.declared.declared.Decl.{Decl}
use Rattle.answer_calls.proofs.tables.tables_of.Given as goal

abbrev pub invariant-loop-number : goal.invariant-loop-number
invariant-loop-number l =
    map (λ (t : Rows). t.kinds) l.tables.items ≡ map (λ (d : Decl). types_of d.columns) (take l.number l.bound.query.tables)
