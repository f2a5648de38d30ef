use Rattle.std.proofs.Common.{◌∙◌, ◌+◌, sym, arith, subst}
use Rattle.std.specs.Prelude.{Option}
use Rattle.column_classes.specs.declared.columns.ColumnRef.{ColumnRef}
use Rattle.script_rules.proofs.ScopeFacts.{IsFound, found-start, found-none, found-some, found-some_twice, found-end-none, found-end-some}
use Rattle.script_rules.proofs.scope.Scope.resolve.Goals as goal
use Rattle.script_rules.proofs.scope.Scope.resolve.Goals.{in-Some+else-is_some, in_default}

pub loop-relation-init : goal.loop-relation-init
loop-relation-init c = found-start c.args.self.now c.args.name.now

pub returns-then-is_some : goal.returns-then-is_some
returns-then-is_some c =
    sym (found-some_twice c.args.self.now c.args.name.now c.loop-relation.found c.loop-relation.relation c.in-Some.column (omega arith) c.loop-relation.invariant
    (sym c.resolve_in.ensures ∙ c.in-Some.is)
    (sym c.is_some.ensures ∙ c.if-is_some.true))

pub loop-relation-preserved : goal.loop-relation-preserved
loop-relation-preserved c =
    let scope = c.args.self.now in
    let n = c.loop-relation.relation in
    let P : Option ColumnRef → Type 0 = λ found. IsFound scope c.args.name.now found (n + 1) in
    elim c.match-resolve_in.branch [
      | in-Some+else-is_some w ↦ subst P (sym w.found-is)
          (found-some scope c.args.name.now c.loop-relation.found n w.in-Some.column (omega arith) c.loop-relation.invariant (sym c.resolve_in.ensures ∙ w.in-Some.is) (sym w.is_some.ensures ∙ w.if-is_some.false))
      | in_default w ↦ subst P (sym w.found-is) (found-none scope c.args.name.now c.loop-relation.found n (omega arith) c.loop-relation.invariant (sym c.resolve_in.ensures ∙ w.in_default.is))
    ]

pub returns-in-Some-found : goal.returns-in-Some-found
returns-in-Some-found c =
    let P : Option ColumnRef → Type 0 = λ found. IsFound c.args.self.now c.args.name.now found c.loop-relation.relation in
    sym (found-end-some c.args.self.now c.args.name.now c.loop-relation.relation c.in-Some-found.column (omega arith) (subst P c.in-Some-found.is c.loop-relation.invariant))

pub returns-in-None : goal.returns-in-None
returns-in-None c =
    let P : Option ColumnRef → Type 0 = λ found. IsFound c.args.self.now c.args.name.now found c.loop-relation.relation in
    sym (found-end-none c.args.self.now c.args.name.now c.loop-relation.relation (omega arith) (subst P c.in-None.is c.loop-relation.invariant))
