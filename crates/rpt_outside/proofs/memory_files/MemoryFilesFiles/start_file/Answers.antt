use Rattle.std.proofs.Common.{arith}
use Rattle.std.proofs.lemmas.Grind.{common_steps}
use Rattle.rpt_outside.proofs.memory_files.MemoryFilesFiles.start_file.Goals as goal

pub returns-clause-later : goal.returns-clause-later
returns-clause-later c = grind (arith, common_steps)

pub returns-then-fails-clause-later : goal.returns-then-fails-clause-later
returns-then-fails-clause-later c = grind (arith, common_steps)

pub returns-then-fails-clause-failed : goal.returns-then-fails-clause-failed
returns-then-fails-clause-failed c = grind (arith, common_steps)

pub returns-then-fails-clause-none : goal.returns-then-fails-clause-none
returns-then-fails-clause-none c = grind (arith, common_steps)
