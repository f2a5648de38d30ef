use Rattle.std.proofs.Common.{arith, drop, take, length, ◌≡◌}
use Rattle.std.proofs.lemmas.Grind.{common_steps}
use Rattle.rpt_outside.proofs.Copies.{copied}
use Rattle.rpt_outside.proofs.memory_files.copy_from.Goals as goal

pub returns-clause-bytes : goal.returns-clause-bytes
returns-clause-bytes c =
    let front = c.copy_from_slice.new.self in
    let is : front ≡ take c.min-count.result (drop c.args.at c.args.bytes.now) = search (arith, common_steps) in
    let long : c.min-count.result ≡ length front = grind (arith, common_steps) in
    copied c.args.bytes.now front (drop c.min-count.result c.args.into.now) c.args.at c.min-count.result is long
