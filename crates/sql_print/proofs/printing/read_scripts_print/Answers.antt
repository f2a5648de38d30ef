use Rattle.sql_print.proofs.Levels.{read_levels}
use Rattle.sql_print.proofs.printing.read_scripts_print.Goals as goal

pub returns : goal.returns
returns c levels tokens script s = read_levels levels tokens script s
