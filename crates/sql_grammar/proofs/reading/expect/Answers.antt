use Rattle.std.proofs.Common.{refl}
use Rattle.sql_grammar.proofs.Leads.{found, reads_kind, not_this, refused}
use Rattle.sql_grammar.proofs.reading.expect.Goals as goal

pub returns-in-Some : goal.returns-in-Some
returns-in-Some c n = record { tree = found c.in-Some.ensures.some; reads = reads_kind c.in-Some.ensures.some; value = refl }

pub returns-in-None : goal.returns-in-None
returns-in-None c n = refused n c.args.tokens.now c.args.end _ (not_this c.args.kind c.in-None.ensures.none) c.place_of.ensures
