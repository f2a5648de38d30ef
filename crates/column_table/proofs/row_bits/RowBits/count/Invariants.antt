use Rattle.std.proofs.Common.{◌≡◌, ◌*◌}
use Rattle.std.specs.List.{count_by}
use Rattle.column_table.specs.Bits.{bits_of}
use Rattle.column_table.proofs.row_bits.RowBits.count.Given as goal

abbrev pub invariant-loop-word : goal.invariant-loop-word
invariant-loop-word l = l.count ≡ count_by (λ b. b) (bits_of l.word-items (64 * l.word-index))
