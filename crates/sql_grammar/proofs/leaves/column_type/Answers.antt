use Rattle.std.proofs.Common.{sym, ap, ◌∙◌}
use Rattle.sql_grammar.specs.Grammar.{Leaf, types}
use Rattle.sql_grammar.specs.Meaning.{type_by}
use Rattle.sql_grammar.proofs.Leads.{reads_one, none_among, refused}
use Rattle.sql_grammar.proofs.leaves.column_type.Goals as goal

pub returns-in-Some : goal.returns-in-Some
returns-in-Some c n =
    let t = c.in-Some.token.now in
    let h = c.in-Some.ensures.some in
    record { tree = Leaf {kinds = types} t h.1; reads = reads_one {kinds = types} t c.in-Some.rest.now h.0 h.1; value = ap type_by (sym c.kind_of.ensures) ∙ sym c.type_of.ensures }

pub returns-in-None : goal.returns-in-None
returns-in-None c n = refused n c.args.tokens.now c.args.end _ (none_among types c.in-None.ensures.none) c.place_of.ensures
