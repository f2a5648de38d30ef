use Rattle.std.proofs.Common.{arith, ap, length, List}
use Rattle.atomic_table.specs.Seated.{TableId}
use Rattle.transfer_core.specs.declared.plan.Pipe.{Pipe}
use Rattle.filter_board.specs.Views.{BoardView}
use Rattle.filter_board.proofs.BoardFacts.{facts}
use Rattle.filter_board.proofs.Offsets.{offset_in, start_is}
use Rattle.filter_board.proofs.board.Board.at.Goals as goal

pub overflow_add-result : goal.overflow_add-result
overflow_add-result g c = let f = facts g.P.Placement.seen g.met.P.Placement.lawful _ _ _ _ _ _ c.self.invariant c.self.view_is in
    let start = start_is c.args.self.now.plan.words c.self.inside.starts.items c.args.region c.index.result.now f.starts_are c.requires.0 c.index.ensures in
    omega (arith, start, offset_in c.args.self.now.plan.words c.args.region c.args.word c.requires.0 c.requires.1, f.words, f.addressed)

pub overflow_add-result-2 : goal.overflow_add-result-2
overflow_add-result-2 g c = let f = facts g.P.Placement.seen g.met.P.Placement.lawful _ _ _ _ _ _ c.self.invariant c.self.view_is in
    let start = start_is c.args.self.now.plan.words c.self.inside.starts.items c.args.region c.index.result.now f.starts_are c.requires.0 c.index.ensures in
    let pipes = ap (λ (l : List Pipe). length l) c.as_slice.ensures in let long = ap (λ (b : BoardView g.row.P.Denot). length b.plan.pipes) c.self.view_is in
    omega (arith, start, pipes, long, offset_in c.args.self.now.plan.words c.args.region c.args.word c.requires.0 c.requires.1, f.words, f.addressed)

pub returns-clause-at : goal.returns-clause-at
returns-clause-at g c = let f = facts g.P.Placement.seen g.met.P.Placement.lawful _ _ _ _ _ _ c.self.invariant c.self.view_is in
    let start = start_is c.args.self.now.plan.words c.self.inside.starts.items c.args.region c.index.result.now f.starts_are c.requires.0 c.index.ensures in
    omega (arith, start, ap (λ (l : List Pipe). length l) c.as_slice.ensures, ap (λ (b : BoardView g.row.P.Denot). length b.plan.pipes) c.self.view_is)

pub returns-clause-inside : goal.returns-clause-inside
returns-clause-inside g c = let f = facts g.P.Placement.seen g.met.P.Placement.lawful _ _ _ _ _ _ c.self.invariant c.self.view_is in
    let start = start_is c.args.self.now.plan.words c.self.inside.starts.items c.args.region c.index.result.now f.starts_are c.requires.0 c.index.ensures in
    let pipes = ap (λ (l : List Pipe). length l) c.as_slice.ensures in let long = ap (λ (b : BoardView g.row.P.Denot). length b.plan.pipes) c.self.view_is in
    omega (arith, start, pipes, long, offset_in c.args.self.now.plan.words c.args.region c.args.word c.requires.0 c.requires.1, f.words, ap (λ (t : TableId). t.words) f.of_is)
