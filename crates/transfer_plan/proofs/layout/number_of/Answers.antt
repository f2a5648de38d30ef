use Rattle.std.proofs.Common.{arith, sym, ◌∙◌}
use Rattle.std.proofs.lemmas.List.Sums.{position_or_len_is}
use Rattle.transfer_plan.specs.declared.region.Region.TheVariants as region
use Rattle.transfer_plan.specs.TransferPlan.{is_same}
use Rattle.transfer_plan.proofs.layout.number_of.Goals as goal

pub returns-then-is_same : goal.returns-then-is_same
returns-then-is_same c = sym (position_or_len_is (is_same c.args.region) c.args.regions.now c.loop-place.place (region.Forward 0) (omega arith) c.loop-place.invariant (λ _. sym c.is_same.ensures ∙ c.if-is_same.true))

pub returns : goal.returns
returns c = sym (position_or_len_is (is_same c.args.region) c.args.regions.now _ (region.Forward 0) (omega arith) (λ k l. c.loop-place.invariant k (omega arith)) (λ l. absurd (omega arith)))
