use Rattle.std.proofs.Common.{◌≡◌, [], map, take}
use Rattle.column_table.proofs.builder.TableBuilder.new.Given as goal

abbrev pub invariant-loop-kind : goal.invariant-loop-kind
invariant-loop-kind l = l.columns.items ≡ map (λ k. record { kind = k; values = [] }) (take l.kind-index l.kinds)
