use Rattle.std.proofs.Common.{refl}
use Rattle.rpt_cli.specs.Command.{most_table_bytes}
use Rattle.rpt_cli.proofs.tables.most_table_bytes.Goals as goal

pub returns : goal.returns
unfolding most_table_bytes
returns c = refl
