use Rattle.std.proofs.Common.{◌∙◌, map, sym, zero-add, arith}
use Rattle.std.proofs.lemmas.Grind.{common_steps}
use Rattle.std.proofs.lemmas.List.FromFn.{map-range_with_len_more}
use Rattle.binder.specs.Binding.{condition_of}
use Rattle.binder.proofs.translate.conditions.Goals as goal

pub loop-relation-preserved : goal.loop-relation-preserved
loop-relation-preserved c =
    let of = condition_of c.args.scope.now (map (λ d. d.now) c.args.conjuncts.now) in
    let n = c.loop-relation.relation in
    c.in_ok-found.ensures ∙ rw (c.loop-relation.invariant, c.in_ok-condition.ensures) (sym (map-range_with_len_more of 0 n n (zero-add n)))

pub returns : goal.returns
returns c = grind (arith, common_steps)
