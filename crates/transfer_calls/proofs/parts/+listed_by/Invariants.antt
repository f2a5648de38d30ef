use Rattle.std.proofs.Common.{length}
use Rattle.transfer_calls.proofs.parts.+listed_by.Given as goal

abbrev pub decreases-listed_by : goal.decreases-listed_by
decreases-listed_by l = length l.links.now
