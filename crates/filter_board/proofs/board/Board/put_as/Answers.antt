use Rattle.std.proofs.Common.{rules, arith, ap}
use Rattle.atomic_table.specs.Seated.{TableId}
use Rattle.filter_board.proofs.BoardFacts.{facts}
use Rattle.filter_board.proofs.Moves.{puts_as}
use Rattle.filter_board.proofs.board.Board.put_as.Goals as goal

pub fetch_or-requires : goal.fetch_or-requires
fetch_or-requires g c = let f = facts g.P.Placement.seen g.met.P.Placement.lawful _ _ _ _ _ _ c.self.invariant c.self.view_is in
    let words = ap (λ (t : TableId). t.words) f.of_is in (
      search rules,
      omega (arith, c.requires.inside, words),
      puts_as _ _ _ _ f.right f.same f.parts _ _ _ c.args.pipe c.args.port _ _ _ c.args.items.now _ c.requires.about.0 c.requires.about.1 c.requires.run.masks c.requires.part
          (omega (arith, c.requires.inside, words, f.words)) c.requires.items c.requires.run.places,
    )
