use Rattle.std.proofs.Common.{[], ◌+◌, List, sym, subst, arith}
use Rattle.bound_query.specs.declared.output.OutColumn.{OutColumn}
use Rattle.binder.specs.Binding.{relation_output}
use Rattle.binder.proofs.GatherFacts.{IsGatheredByNumber, numbered-more, numbered-end}
use Rattle.binder.proofs.shown.add_all.Goals as goal

pub loop-relation-preserved : goal.loop-relation-preserved
loop-relation-preserved c =
    let scope = c.args.scope.now in
    let n = c.loop-relation.relation in
    let P : List OutColumn → Type 0 = λ shown. IsGatheredByNumber relation_output scope c.args.shown.now.items shown (n + 1) in
    subst P (sym c.in_ok-add_relation.ensures)
    (numbered-more relation_output scope c.args.shown.now.items c.loop-relation.shown.items n (record { name = []; columns = [] }) (omega arith) c.loop-relation.invariant)

pub returns : goal.returns
returns c = numbered-end relation_output c.args.scope.now c.args.shown.now.items c.loop-relation.shown.items c.loop-relation.relation (omega arith) c.loop-relation.invariant
