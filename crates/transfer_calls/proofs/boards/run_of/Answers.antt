use Rattle.std.proofs.Common.{◌∙◌, ap, sym, arith}
use Rattle.std.proofs.lemmas.Grind.{common_steps}
use Rattle.filter_board.specs.Shares.{parts_of}
use Rattle.transfer_pass.proofs.FirstHands.{first-parts}
use Rattle.transfer_calls.proofs.boards.run_of.Goals as goal

pub run-requires-clause-parts : goal.run-requires-clause-parts
run-requires-clause-parts g c κs within =
    first-parts c.in-Ok.board.of c.args.workers c.in-Ok.hands.items c.in-Ok.ensures.hands ∙ ap parts_of (sym c.in-Ok.ensures.workers)

pub run-requires-clause-few : goal.run-requires-clause-few
run-requires-clause-few c = grind (arith, common_steps)

pub run-requires-clause-free : goal.run-requires-clause-free
run-requires-clause-free c = grind (arith, common_steps)
