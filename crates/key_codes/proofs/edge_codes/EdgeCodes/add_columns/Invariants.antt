use Rattle.key_codes.specs.Codes.{AreFrontCodes}
use Rattle.key_codes.proofs.edge_codes.EdgeCodes.add_columns.Given as goal

abbrev pub invariant-loop-place : goal.invariant-loop-place
invariant-loop-place l = AreFrontCodes l.self l.child l.parent l.place
