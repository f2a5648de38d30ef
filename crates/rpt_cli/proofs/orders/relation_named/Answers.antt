use Rattle.std.proofs.Common.{◌∙◌, ◌≤◌, ap, sym, [], length, arith}
use Rattle.std.proofs.lemmas.List.Sums.{position_or_len_is}
use Rattle.std.proofs.lemmas.Option.{get_or_from_slice_get, slice_get_within}
use Rattle.rpt_cli.specs.Orders.{is_name}
use Rattle.rpt_cli.proofs.OrderFacts.{none-more}
use Rattle.rpt_cli.proofs.orders.relation_named.Goals as goal

pub returns-then-is_name : goal.returns-then-is_name
returns-then-is_name c =
    let aliases = c.args.bound.now.query.aliases in
    let within = slice_get_within aliases c.loop-relation.relation c.alias.result.now c.alias.ensures in
    sym (position_or_len_is (is_name c.args.piece.now) aliases c.loop-relation.relation [] (omega (arith, within)) c.loop-relation.invariant
    (λ lt. ap (is_name c.args.piece.now) (get_or_from_slice_get aliases c.loop-relation.relation c.alias.result.now [] c.alias.ensures) ∙ sym c.is_name.ensures ∙ c.if-is_name.true))

pub loop-relation-preserved : goal.loop-relation-preserved
loop-relation-preserved c =
    let aliases = c.args.bound.now.query.aliases in
    none-more (is_name c.args.piece.now) aliases c.loop-relation.relation c.loop-relation.invariant
    (ap (is_name c.args.piece.now) (get_or_from_slice_get aliases c.loop-relation.relation c.alias.result.now [] c.alias.ensures) ∙ sym c.is_name.ensures ∙ c.if-is_name.false)

pub returns : goal.returns
returns c =
    let aliases = c.args.bound.now.query.aliases in
    let ends = c.relations-relation-end.ensures in
    let long : length aliases ≤ c.loop-relation.relation = omega (arith, c.loop-relation-test.false, ends.count, ends.named) in
    let none = position_or_len_is (is_name c.args.piece.now) aliases (length aliases) [] (omega arith) (λ k lt. c.loop-relation.invariant k (omega (arith, lt, long))) (λ lt. absurd (omega (arith, lt))) in
    c.relations.ensures.count ∙ sym c.relations.ensures.named ∙ sym none
