use Rattle.std.proofs.Common.{◌≡◌, ◌+◌, ◌≤◌, length, take}
use Rattle.filter_board.specs.Views.{shape_in}
use Rattle.transfer_pass.specs.Work.{passes_sealed}
use Rattle.transfer_pass.proofs.ChunkFacts.{tested}
use Rattle.transfer_pass.proofs.items.gather.Given as goal

abbrev pub invariant-loop-item : goal.invariant-loop-item
invariant-loop-item g l = record {
  same : l.hand ≡ l.initial.hand;
  count : l.count + l.from ≤ l.item;
  long : length l.buffer ≡ 64;
  kept : take l.count l.buffer ≡ tested (λ i. passes_sealed (shape_in g.P.Placement.seen l.board) i l.reads) l.from l.to l.item;
}
