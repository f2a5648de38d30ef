use Rattle.std.proofs.Common.{◌≤◌, Vec, Global, ℕ, List, arith, length, rules}
use Rattle.std.specs.List.Sorted.{IsStrictlyIncreasing}
use Rattle.std.proofs.lemmas.List.{length-map}
use Rattle.std.proofs.lemmas.List.Elements.{All-map}
use Rattle.rpt_base.specs.declared.limits.TheConstants.{MAX_COLUMNS}
use Rattle.graph_calls.proofs.sets.is_graph.Goals as goal

pub returns-then-are_rising : goal.returns-then-are_rising
returns-then-are_rising c = λ short. record {
  some = grind (arith, length-map c.args.sets.now (λ (s : Vec ℕ Global). s.items));
  few = omega (arith, length-map c.args.sets.now (λ (s : Vec ℕ Global). s.items), c.if-sets.false);
  rising = All-map IsStrictlyIncreasing (λ (s : Vec ℕ Global). s.items) c.args.sets.now (c.if-are_rising.ensures (search rules));
  short = All-map (λ (s : List ℕ). length s ≤ MAX_COLUMNS) (λ (s : Vec ℕ Global). s.items) c.args.sets.now (c.are_short.ensures short);
}
