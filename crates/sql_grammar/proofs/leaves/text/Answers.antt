use Rattle.std.proofs.Common.{sym}
use Rattle.sql_grammar.specs.declared.kinds.Kind.TheVariants as k
use Rattle.sql_grammar.proofs.Leads.{found, reads_kind, not_this, refused}
use Rattle.sql_grammar.specs.Reading.{Starts}
use Rattle.sql_grammar.proofs.leaves.text.Goals as goal

pub returns-in_ok-text_copy-in-Some : goal.returns-in_ok-text_copy-in-Some
returns-in_ok-text_copy-in-Some c n =
    let h : Starts k.Text c.args.tokens.now c.in-Some.rest.now = record { token = c.in-Some.token.now; splits = c.in-Some.ensures.some.0; is = c.in-Some.ensures.some.1 } in
    record { tree = found h; reads = reads_kind h; value = sym c.in_ok-text_copy-in-Some.ensures }

pub returns-in-None : goal.returns-in-None
returns-in-None c n = refused n c.args.tokens.now c.args.end _ (not_this k.Text c.in-None.ensures.none) c.place_of.ensures
