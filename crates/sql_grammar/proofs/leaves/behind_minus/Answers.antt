use Rattle.std.proofs.Common.{sym, ap, ◌∙◌, pos, neg_ℤ}
use Rattle.rpt_base.specs.declared.values.Value.TheVariants as v
use Rattle.sql_grammar.specs.Grammar.{Leaf, magnitudes}
use Rattle.sql_grammar.proofs.KindFacts.{magnitude_fits}
use Rattle.sql_grammar.proofs.Leads.{reads_one, none_among, refused}
use Rattle.sql_grammar.proofs.leaves.behind_minus.Goals as goal

pub negative-requires : goal.negative-requires
negative-requires c = rw c.magnitude.ensures (magnitude_fits c.in-Some.token.now c.in-Some.ensures.some.1)

pub returns-in-Some : goal.returns-in-Some
returns-in-Some c n =
    let t = c.in-Some.token.now in
    let h = c.in-Some.ensures.some in
    record { tree = Leaf {kinds = magnitudes} t h.1; reads = reads_one {kinds = magnitudes} t c.in-Some.rest.now h.0 h.1; value = ap (λ m. v.Int (neg_ℤ (pos m))) (sym c.magnitude.ensures) ∙ sym c.negative.ensures }

pub returns-in-None : goal.returns-in-None
returns-in-None c n = refused n c.args.tokens.now c.args.end _ (none_among magnitudes c.in-None.ensures.none) c.place_of.ensures
