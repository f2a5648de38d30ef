use Rattle.std.proofs.Common.{rules, arith, ap, ◌∙◌}
use Rattle.atomic_table.specs.Table.{Me}
use Rattle.transfer_core.specs.Actors.{morsels_of}
use Rattle.transfer_core.specs.Counts.{times}
use Rattle.transfer_core.proofs.Keeps.{times-morsels}
use Rattle.filter_board.specs.declared.share.Share.{Share}
use Rattle.filter_board.specs.Views.{HandView}
use Rattle.filter_board.proofs.BoardFacts.{facts}
use Rattle.filter_board.proofs.Moves.{joins_as}
use Rattle.filter_board.proofs.board.Board.join_hands.Goals as goal

pub join_seat-requires : goal.join_seat-requires
join_seat-requires g c = let f = facts g.P.Placement.seen g.met.P.Placement.lawful _ _ _ _ _ _ c.self.invariant c.self.view_is in (
  search rules,
  search rules,
  search rules,
  omega (arith, f.words, f.valid.some),
  joins_as _ _ _ _ f.right f.same f.parts _ _ _ _ (ap (λ (h : HandView). h.actor.held) c.first.view_is ∙ c.requires.free.0) (ap (λ (h : HandView). h.actor.held) c.second.view_is ∙ c.requires.free.1) c.first.invariant.part,
)

pub returns-clause-apart : goal.returns-clause-apart
returns-clause-apart g c p x l = omega (
  arith,
  c.show_as.ensures.once p x l,
  ap (λ (m : Me (Unit {0}) Share). times x (morsels_of p m.0.actor.finished)) c.join_seat.ensures.2,
  times-morsels x p c.first.inside.seat.me.0.actor.finished c.second.inside.seat.me.0.actor.finished,
  ap (λ (h : HandView). times x (morsels_of p h.actor.finished)) c.first.view_is,
  ap (λ (h : HandView). times x (morsels_of p h.actor.finished)) c.second.view_is,
)
