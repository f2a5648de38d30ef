use Rattle.transfer_plan.proofs.PassFacts.{backward_by_filters, backward_by_numbers, forward_by_filters, forward_by_numbers, forward_misses_none, backward_misses_none, passes_all, same_at_top}
use Rattle.transfer_plan.proofs.laws.passes_by_numbers.Goals as goal

pub returns : goal.returns
returns g c = let seen = g.P.Placement.seen in record {
  root = λ t made i inside. same_at_top seen t made i inside;
  numbers = λ t made edges. record {
    forward = λ r i. forward_by_numbers seen t made edges.exact edges.each r i;
    backward = λ l is i inside. backward_by_numbers seen t made edges.exact edges.each l is i inside;
  };
  filters = λ t made edges. record {
    forward = λ r i. forward_by_filters seen t made edges.alike edges.each r i;
    backward = λ l is i inside. backward_by_filters seen t made edges.alike edges.each l is i inside;
  };
  found = λ t made edges. record {
    forward = λ r i finds. forward_misses_none seen t made edges.alike edges.each r i finds;
    backward = λ l is i inside pass finds. backward_misses_none seen t made edges.alike edges.each l is i inside pass finds;
  };
  all = λ t made none r i less inside. passes_all seen t made none r i less inside;
}
