use Rattle.std.proofs.Common.{arith, sym, eq-eqb, eqb}
use Rattle.std.proofs.lemmas.List.Sums.{position_or_len_is}
use Rattle.join_graph.specs.declared.tree.Link.{Link}
use Rattle.transfer_plan.specs.TransferPlan.{no_link}
use Rattle.transfer_plan.proofs.layout.link_of.Goals as goal

pub returns-then-link-child-clause-link : goal.returns-then-link-child-clause-link
returns-then-link-child-clause-link c = sym (position_or_len_is (λ (m : Link). eqb m.child c.args.child) c.args.links.now c.loop-place.place no_link (omega arith) c.loop-place.invariant (λ _. eq-eqb _ _ c.if-link-child.true))

pub returns-clause-link : goal.returns-clause-link
returns-clause-link c = sym (position_or_len_is (λ (m : Link). eqb m.child c.args.child) c.args.links.now _ no_link (omega arith) (λ k l. c.loop-place.invariant k (omega arith)) (λ l. absurd (omega arith)))
