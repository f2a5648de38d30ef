use Rattle.std.proofs.Common.{◌≡◌, true, take}
use Rattle.std.specs.List.{list_all}
use Rattle.transfer_core.specs.Sealed.{answers, sealed}
use Rattle.filter_board.specs.Views.{shape_in}
use Rattle.transfer_pass.proofs.items.passes.Given as goal

abbrev pub invariant-loop-i : goal.invariant-loop-i
invariant-loop-i g l = let s = shape_in g.P.Placement.seen l.board in record {
  same : l.hand ≡ l.initial.hand;
  yes : list_all (answers s (sealed s) l.item) (take l.i l.reads) ≡ true;
}
