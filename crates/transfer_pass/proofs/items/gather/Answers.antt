use Rattle.std.proofs.Common.{◌<◌, ◌++◌, [], ◌∷◌, ℕ, List, Bool, length, take, arith, ap, sym, ◌∙◌}
use Rattle.std.proofs.lemmas.List.{take_more_set}
use Rattle.filter_board.specs.Views.{shape_in}
use Rattle.transfer_pass.specs.Work.{passes_sealed}
use Rattle.transfer_pass.proofs.ChunkFacts.{tested_all, tested_no, tested_yes}
use Rattle.transfer_pass.proofs.items.gather.Goals as goal
use Rattle.transfer_pass.proofs.items.gather.Goals.{then-passes, else-passes}

pub passes-requires-clause-places : goal.passes-requires-clause-places
passes-requires-clause-places g c = c.requires.places c.loop-item.item c.loop-item.auto.item c.loop-item-test.true

pub loop-item-preserved : goal.loop-item-preserved
loop-item-preserved g c =
    let i = c.loop-item.invariant in let item = c.loop-item.item in let count = c.loop-item.count in let buffer = c.loop-item.buffer in
    let from = c.args.from in let to = c.args.to in let reads = c.args.reads.now in let s = shape_in g.P.Placement.seen c.args.board.now in
    let test : ℕ → Bool = λ k. passes_sealed s k reads in
    let room : count < length buffer = omega (arith, i.count, i.long, c.requires.chunk.1, c.loop-item-test.true) in
    elim c.if-passes.branch [
      | then-passes w ↦ record {
        same = c.passes.ensures.same ∙ i.same;
        count = omega (arith, w.count-is, i.count);
        long = c.if-passes.array_long;
        kept = (λ k. take (w.count-is k) (w.buffer-is k)) ∙ take_more_set buffer count item room ∙ ap (λ (l : List ℕ). l ++ item ∷ []) i.kept
            ∙ sym (tested_yes test from to item c.loop-item.auto.item c.loop-item-test.true (sym c.passes.ensures.passes ∙ w.if-passes.true));
      }
      | else-passes w ↦ record {
        same = c.passes.ensures.same ∙ i.same;
        count = omega (arith, w.count-is, i.count);
        long = c.if-passes.array_long;
        kept = (λ k. take (w.count-is k) (w.buffer-is k)) ∙ i.kept
            ∙ sym (tested_no test from to item c.loop-item.auto.item c.loop-item-test.true (sym c.passes.ensures.passes ∙ w.if-passes.false));
      }
    ]

pub returns-clause-passing : goal.returns-clause-passing
returns-clause-passing g c =
    c.loop-item.invariant.kept ∙ tested_all (λ k. passes_sealed (shape_in g.P.Placement.seen c.args.board.now) k c.args.reads.now) c.args.from c.args.to c.loop-item.item c.loop-item-test.false
