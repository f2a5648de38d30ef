use Rattle.std.proofs.Common.{◌+◌, ℕ, subst, arith}
use Rattle.std.proofs.lemmas.Grind.{common_steps}
use Rattle.column_classes.specs.Labels.{ArePairsBefore}
use Rattle.column_classes.proofs.PairFacts.{pairs-none, pairs-pass}
use Rattle.column_classes.proofs.variables.pairs_of.Goals as goal
use Rattle.column_classes.proofs.variables.pairs_of.Goals.{then-places-i+in_ok-add_pairs, else-places-i}

pub places-init : goal.places-init
places-init c = rw c.new-pairs.ensures.items (pairs-none c.args.places.now c.requires c.args.relation)

pub places-preserved : goal.places-preserved
places-preserved c =
    elim c.if-places-i.branch [
      | then-places-i+in_ok-add_pairs w ↦
          let P : ℕ → Type 0 = λ r. ArePairsBefore c.args.places.now r (c.places.i + 1) 0 w.add_pairs.new.pairs.items in
          rw w.pairs-is (subst P w.if-places-i.true w.in_ok-add_pairs.ensures)
      | else-places-i w ↦ rw w.pairs-is (pairs-pass c.args.places.now c.requires c.args.relation c.places.i c.places.pairs.items w.if-places-i.false c.places.invariant)
    ]

pub add_pairs-requires-clause-pairs : goal.add_pairs-requires-clause-pairs
add_pairs-requires-clause-pairs c = grind (arith, common_steps)
