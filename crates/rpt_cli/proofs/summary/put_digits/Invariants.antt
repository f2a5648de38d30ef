use Rattle.std.proofs.Common.{◌≡◌, ◌++◌, map}
use Rattle.std.specs.List.{range_with_len}
use Rattle.rpt_cli.specs.Sample.{hex_digit}
use Rattle.rpt_cli.proofs.summary.put_digits.Given as goal

abbrev pub invariant-loop-place : goal.invariant-loop-place
invariant-loop-place l = l.text.items ≡ l.fn.text.items ++ map (hex_digit l.hash) (range_with_len 0 l.place)
