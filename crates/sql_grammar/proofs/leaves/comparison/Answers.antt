use Rattle.std.proofs.Common.{sym, ap, ◌∙◌}
use Rattle.sql_grammar.specs.Grammar.{Leaf, comparisons}
use Rattle.sql_grammar.specs.Meaning.{op_by}
use Rattle.sql_grammar.proofs.Leads.{reads_one}
use Rattle.sql_grammar.proofs.leaves.comparison.Goals as goal

pub returns-clause-some : goal.returns-clause-some
returns-clause-some c n =
    let t = c.in_ok-token.token.now in
    let h = c.in_ok-token.ensures.some in
    record { tree = Leaf {kinds = comparisons} t h.1; reads = reads_one {kinds = comparisons} t c.in_ok-token.rest.now h.0 h.1; value = ap op_by (sym c.kind_of.ensures) ∙ sym c.op_of.ensures }
