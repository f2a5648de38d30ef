use Rattle.std.proofs.Common.{◌≡◌, true}
use Rattle.std.specs.List.{list_all, range_with_len}
use Rattle.rpt_base.specs.Lists.{has}
use Rattle.rpt_cli.proofs.orders.have_all.Given as goal

abbrev pub invariant-loop-relation : goal.invariant-loop-relation
invariant-loop-relation l = list_all (λ r. has r l.order) (range_with_len 0 l.relation) ≡ true
