use Rattle.std.proofs.Common.{refl}
use Rattle.sql_grammar.specs.Grammar.{None, Left, Right}
use Rattle.sql_grammar.proofs.Choices.{reads_none, reads_some}
use Rattle.sql_grammar.proofs.Leads.{found, reads_kind, begun, not_this}
use Rattle.sql_grammar.proofs.reading.passes.Goals as goal

pub returns-in-Some : goal.returns-in-Some
returns-in-Some c n = record { tree = Right (found c.in-Some.ensures.some); reads = reads_some (begun c.in-Some.ensures.some) (reads_kind c.in-Some.ensures.some); value = refl }

pub returns-in-None : goal.returns-in-None
returns-in-None c n = record { tree = Left None; reads = reads_none (not_this c.args.kind c.in-None.ensures.none); value = refl }
