use Rattle.std.proofs.Common.{sym}
use Rattle.transfer_core.proofs.Lists.{at_index}
use Rattle.transfer_core.proofs.Regions.{sealed_is}
use Rattle.transfer_core.proofs.laws.seals_what_passes.Goals as goal

pub returns : goal.returns
returns c s V x pipe a port w = sealed_is s V pipe.0 x (at_index s.pipes pipe.0 x pipe.1 (sym pipe.2)) port.0 a (at_index x.writes port.0 a port.1 (sym port.2)) w
