use Rattle.std.proofs.Common.{ℕ, ◌<◌, map}
use Rattle.std.specs.Prelude.{slice_index_or}
use Rattle.rpt_engine.specs.Places.{places_of}
use Rattle.transfer_plan.specs.TransferPlan.{ServesLink, no_edge, no_link, seen_edge}
use Rattle.transfer_calls.proofs.parts.are_edges.Given as goal

abbrev pub invariant-loop-place : goal.invariant-loop-place
invariant-loop-place l = (k : ℕ) → k < l.place
    → ServesLink l.items (slice_index_or l.links k no_link) (slice_index_or (map (seen_edge places_of) l.edges) k no_edge)
