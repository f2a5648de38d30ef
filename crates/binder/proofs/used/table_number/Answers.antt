use Rattle.std.proofs.Common.{◌∙◌, sym, arith}
use Rattle.std.proofs.lemmas.Grind.{common_steps}
use Rattle.std.specs.Str.{bytes_eq}
use Rattle.column_table.specs.declared.declared.Decl.{Decl}
use Rattle.binder.proofs.UsedFacts.{position-none}
use Rattle.binder.proofs.used.table_number.Goals as goal

pub returns-in-None : goal.returns-in-None
returns-in-None c = position-none (λ (t : Decl). bytes_eq t.name c.args.source.now.table) c.args.tables.now (sym c.index_of.ensures.number ∙ c.in-None.is)

pub returns-in-Some : goal.returns-in-Some
returns-in-Some c = grind (arith, common_steps)
