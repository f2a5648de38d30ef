use Rattle.std.proofs.Common.{◌≡◌, map, take}
use Rattle.exact_filter.specs.Exact.{row_places}
use Rattle.rpt_engine.specs.Places.{places_of}
use Rattle.transfer_calls.proofs.parts.row_places.Given as goal

abbrev pub invariant-loop-count : goal.invariant-loop-count
invariant-loop-count l = map places_of l.rows.items ≡ map row_places (take l.count-index l.items)
