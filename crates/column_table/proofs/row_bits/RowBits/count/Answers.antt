use Rattle.std.proofs.Common.{◌+◌, ap, arith, length}
use Rattle.column_table.proofs.CountFacts.{count-all, count-all-fits, count-more, count-more-fits}
use Rattle.column_table.proofs.row_bits.RowBits.count.Goals as goal

pub overflow_add-count : goal.overflow_add-count
overflow_add-count c =
    let more = count-more c.deref-word-items.result.now c.loop-word.word-index c.loop-word.count c.from-count.result c.loop-word.invariant (c.type_inv.word-items c.loop-word.word-index).fits c.from-count.ensures in
    let fits = count-more-fits c.self.inside.words.items c.self.inside.rows c.loop-word.word-index (c.loop-word.count + c.from-count.result) c.self.invariant
    (rw c.deref-word-items.ensures.value at c.loop-word-test.true) (rw c.deref-word-items.ensures.value at more) in
    omega (arith, fits)

pub loop-word-preserved : goal.loop-word-preserved
loop-word-preserved c =
    count-more c.deref-word-items.result.now c.loop-word.word-index c.loop-word.count c.from-count.result c.loop-word.invariant (c.type_inv.word-items c.loop-word.word-index).fits c.from-count.ensures

pub overflow_cast-result : goal.overflow_cast-result
overflow_cast-result c =
    let all = count-all c.self.inside.words.items c.self.inside.rows c.args.self.now c.loop-word.word-index c.loop-word.count c.self.view_is c.self.invariant
    (omega (arith, c.loop-word-test.false, ap length c.deref-word-items.ensures.value)) (rw c.deref-word-items.ensures.value at c.loop-word.invariant) in
    omega (arith, count-all-fits c.self.inside.words.items c.self.inside.rows c.args.self.now c.loop-word.count c.self.view_is c.self.invariant all)

pub returns : goal.returns
returns c =
    count-all c.self.inside.words.items c.self.inside.rows c.args.self.now c.loop-word.word-index c.loop-word.count c.self.view_is c.self.invariant
    (omega (arith, c.loop-word-test.false, ap length c.deref-word-items.ensures.value)) (rw c.deref-word-items.ensures.value at c.loop-word.invariant)
