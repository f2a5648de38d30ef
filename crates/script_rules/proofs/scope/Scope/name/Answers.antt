use Rattle.std.proofs.Common.{◌∙◌, ap, arith, length}
use Rattle.std.specs.Prelude.{slice_index_or}
use Rattle.script_rules.specs.Scope.{Relation, name_of}
use Rattle.script_rules.proofs.ScopeFacts.{scope-length, scope-relation}
use Rattle.script_rules.proofs.scope.Scope.name.Goals as goal

pub bounds-as_slice-relation : goal.bounds-as_slice-relation
bounds-as_slice-relation c =
    let same = ap length c.as_slice.ensures ∙ scope-length c.self.inside.script.now c.args.self.now c.self.view_is in
    omega (arith, c.requires, same)

pub returns : goal.returns
returns c =
    let script = c.self.inside.script.now in
    let same = scope-length script c.args.self.now c.self.view_is in
    let is = c.index-as_slice-relation.is ∙ ap (λ sources. slice_index_or sources c.args.relation c.index-as_slice-relation.result) c.as_slice.ensures in
    let there = scope-relation script c.args.self.now c.self.view_is c.args.relation c.index-as_slice-relation.result (omega (arith, c.requires, same)) in
    c.name_of.ensures ∙ ap name_of is ∙ ap (λ (r : Relation). r.name) there
