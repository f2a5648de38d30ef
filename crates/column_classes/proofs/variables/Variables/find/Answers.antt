use Rattle.std.proofs.Common.{◌∙◌, ◌<◌, List, [], arith, get_or, length, map, subst}
use Rattle.std.proofs.lemmas.Grind.{common_steps}
use Rattle.std.proofs.lemmas.List.{length-map}
use Rattle.column_classes.specs.Labels.{AreByLabel, ArePairsBefore}
use Rattle.column_classes.specs.declared.classes.Labelled.{Labelled}
use Rattle.column_classes.specs.declared.columns.ColumnRef.{ColumnRef}
use Rattle.column_classes.proofs.ClassFacts.{by-label-variables}
use Rattle.column_classes.proofs.PairFacts.{pairs-are}
use Rattle.column_classes.proofs.variables.Variables.find.Goals as goal

pub returns : goal.returns
returns c =
    let widths = c.args.widths.now in
    let equalities = c.args.equalities.now in
    let places = c.in_ok-places.places.items in
    let known = c.in_ok-places.ensures in
    let variables : List (List ColumnRef) = map (λ v. v.items) c.in_ok-variables.variables.items in
    let ByLabel : List Labelled → Type 0 = λ ps. AreByLabel ps (length ps) variables in
    let by : AreByLabel places (length places) variables = subst ByLabel c.deref.ensures.value c.in_ok-variables.ensures in
    let local = c.in_ok-local.local.items in
    let sets = c.in_ok-sets.sets.items in
    record {
      variables = by-label-variables widths equalities places known (length places) variables (omega arith) by;
      local_length = length-map local (λ p. p.items) ∙ c.in_ok-local.ensures.length;
      local = λ r lt.
          (let lt : r < length local = omega (arith, length-map local (λ p. p.items)) in
          let pairs = get_or (map (λ p. p.items) local) r [] in
          let Before : List Labelled → Type 0 = λ ps. ArePairsBefore ps r (length ps) 0 pairs in
          pairs-are widths equalities places known r (length places) pairs (omega arith) (subst Before c.deref-2.ensures.value (c.in_ok-local.ensures.pairs r lt)));
      sets_length = length-map sets (λ s. s.items) ∙ c.in_ok-sets.ensures.length;
      sets = λ r lt.
          (let lt : r < length sets = omega (arith, length-map sets (λ s. s.items)) in
          rw (← c.deref-3.ensures.value) (c.in_ok-sets.ensures.sets r lt));
    }

pub invariant_of-result : goal.invariant_of-result
invariant_of-result c = grind (arith, common_steps)

pub variable_sets-requires : goal.variable_sets-requires
variable_sets-requires c = grind (arith, common_steps)

pub local_pairs-requires-clause-places : goal.local_pairs-requires-clause-places
local_pairs-requires-clause-places c = grind (arith, common_steps)

pub variables_of-requires : goal.variables_of-requires
variables_of-requires c = grind (arith, common_steps)
