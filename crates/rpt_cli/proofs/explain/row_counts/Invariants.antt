use Rattle.std.proofs.Common.{◌≡◌, length, map}
use Rattle.std.specs.List.{range_with_len}
use Rattle.bound_query.specs.Answer.{table_at}
use Rattle.rpt_cli.proofs.explain.row_counts.Given as goal

abbrev pub invariant-loop-relation : goal.invariant-loop-relation
invariant-loop-relation l = l.counts.items ≡ map (λ r. length (table_at l.bound.query l.tables r).rows) (range_with_len 0 l.relation)
