use Rattle.std.proofs.Common.{◌≡◌, ◌∷◌, ℕ, List, [], arith, length, length-append, rules, subst, sym, true}
use Rattle.std.proofs.lemmas.Grind.{common_steps}
use Rattle.std.specs.Result.{is_ok}
use Rattle.column_classes.specs.Labels.{ArePairsBefore}
use Rattle.column_classes.proofs.SetFacts.{each-push}
use Rattle.column_classes.proofs.variables.local_pairs.Goals as goal

pub relations-preserved : goal.relations-preserved
relations-preserved c =
    let good : is_ok c.push.result ≡ true = search rules in
    let items = rw good at c.push.ensures.items in
    let h = c.relations.invariant in
    let P : ℕ → List (ℕ × ℕ) → Type 0 = λ r pairs. ArePairsBefore c.args.places.now r (length c.args.places.now) 0 pairs in
    let Q : ℕ → Type 0 = λ r. P r c.in_ok-pairs.pairs.items in
    rw items (record {
      long = omega (arith, length-append c.relations.local.items (c.in_ok-pairs.pairs ∷ []), h.long);
      pairs = each-push P (λ p. p.items) c.relations.local.items c.in_ok-pairs.pairs h.pairs (subst Q (sym h.long) c.in_ok-pairs.ensures);
    })

pub relations-init : goal.relations-init
relations-init c = grind (arith, common_steps)
