use Rattle.std.proofs.Common.{◌≤◌, ◌∙◌, ap, arith, length}
use Rattle.rpt_base.specs.declared.limits.TheConstants.{MAX_COLUMNS}
use Rattle.std.specs.Prelude.{slice_index_or}
use Rattle.script_rules.specs.Scope.{Relation, columns_of}
use Rattle.script_rules.proofs.ScopeFacts.{columns_within, scope-length, scope-relation}
use Rattle.script_rules.proofs.scope.Scope.columns.Goals as goal

pub bounds-as_slice-relation : goal.bounds-as_slice-relation
bounds-as_slice-relation c =
    let same = ap length c.as_slice.ensures ∙ scope-length c.self.inside.script.now c.args.self.now c.self.view_is in
    omega (arith, c.requires, same)

pub returns-clause-columns : goal.returns-clause-columns
returns-clause-columns c =
    let script = c.self.inside.script.now in
    let same = scope-length script c.args.self.now c.self.view_is in
    let is = c.index-as_slice-relation.is ∙ ap (λ sources. slice_index_or sources c.args.relation c.index-as_slice-relation.result) c.as_slice.ensures in
    let there = scope-relation script c.args.self.now c.self.view_is c.args.relation c.index-as_slice-relation.result (omega (arith, c.requires, same)) in
    c.columns_of.ensures ∙ ap (λ tables. columns_of tables c.index-as_slice-relation.result) c.as_slice-2.ensures ∙ ap (columns_of script.tables) is ∙ ap (λ (r : Relation). r.columns) there

pub returns-clause-few : goal.returns-clause-few
returns-clause-few c =
    let few : length (columns_of c.self.inside.script.now.tables c.index-as_slice-relation.result) ≤ MAX_COLUMNS = columns_within c.self.inside.script.now c.index-as_slice-relation.result c.self.invariant in
    let same = ap length (c.columns_of.ensures ∙ ap (λ tables. columns_of tables c.index-as_slice-relation.result) c.as_slice-2.ensures) in
    omega (arith, same, few)
