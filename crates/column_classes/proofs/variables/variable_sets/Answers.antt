use Rattle.std.proofs.Common.{◌≡◌, ◌∷◌, ℕ, List, [], arith, length-append, map, rules, subst, sym, true}
use Rattle.std.proofs.lemmas.Grind.{common_steps}
use Rattle.std.specs.Result.{is_ok}
use Rattle.column_classes.specs.Variables.{AreVariablesOf}
use Rattle.column_classes.proofs.SetFacts.{each-push}
use Rattle.column_classes.proofs.variables.variable_sets.Goals as goal

pub relations-preserved : goal.relations-preserved
relations-preserved c =
    let good : is_ok c.push.result ≡ true = search rules in
    let items = rw good at c.push.ensures.items in
    let h = c.relations.invariant in
    let P : ℕ → List ℕ → Type 0 = λ r set. AreVariablesOf (map (λ v. v.items) c.args.variables.now) r set in
    let Q : ℕ → Type 0 = λ r. P r c.in_ok-set.set.items in
    rw items (record {
      long = omega (arith, length-append c.relations.sets.items (c.in_ok-set.set ∷ []), h.long);
      sets = each-push P (λ s. s.items) c.relations.sets.items c.in_ok-set.set h.sets (subst Q (sym h.long) c.in_ok-set.ensures);
    })

pub relations-init : goal.relations-init
relations-init c = grind (arith, common_steps)
