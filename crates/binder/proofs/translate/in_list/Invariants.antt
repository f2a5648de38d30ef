use Rattle.std.proofs.Common.{◌≡◌, map, take}
use Rattle.predicate.specs.declared.tree.Operand.TheVariants as operand
use Rattle.rpt_base.specs.declared.comparisons.Comparison.TheVariants as op
use Rattle.predicate.specs.declared.tree.Pred.TheVariants as pred
use Rattle.binder.specs.Binding.{operand_of}
use Rattle.binder.proofs.translate.in_list.Given as goal

abbrev pub invariant-loop-value : goal.invariant-loop-value
invariant-loop-value l = l.any.items ≡ map (λ v. pred.Compare op.Eq (operand_of l.scope l.operand) (operand.Literal v)) (take l.value-index l.values)
