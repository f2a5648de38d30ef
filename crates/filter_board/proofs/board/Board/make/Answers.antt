use Rattle.std.proofs.Common.{ℕ, List, length, get_or, arith, ap, ◌∙◌}
use Rattle.std.proofs.lemmas.Grind.{common_steps}
use Rattle.std.proofs.lemmas.List.{length-replicate}
use Rattle.transfer_core.specs.Plans.{shape_of}
use Rattle.filter_board.specs.Shares.{parts_of}
use Rattle.filter_board.proofs.BoardFacts.{right_plan}
use Rattle.filter_board.proofs.DealFacts.{zeros_at}
use Rattle.filter_board.proofs.Moves.{begins_as}
use Rattle.filter_board.proofs.board.Board.make.Goals as goal

pub of_words-requires : goal.of_words-requires
of_words-requires g c = let words = c.deref.ensures.value ∙ c.in-Ok.ensures.words in
    begins_as (shape_of g.P.Placement.seen c.args.plan) (parts_of c.args.workers) c.deref.result.now (right_plan g.P.Placement.seen g.met.P.Placement.lawful c.args.plan c.requires.valid)
    (ap (λ (l : List ℕ). length l) words ∙ length-replicate {A = ℕ} _ 0) (λ k. ap (λ (l : List ℕ). get_or l k 0) words ∙ zeros_at _ k) (omega (arith, c.requires.workers.some))

pub invariant_of-board : goal.invariant_of-board
invariant_of-board g c = grind (arith, common_steps)
