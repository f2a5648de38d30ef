use Rattle.rpt_cli.proofs.TableFacts.{HasCome}
use Rattle.rpt_cli.proofs.tables.load_tables.Given as goal

abbrev pub invariant-tables : goal.invariant-tables
invariant-tables g l =
    HasCome g.F.Files l.folder l.fn.files l.files l.bound.query.tables l.room l.tables.items l.number
