use Rattle.std.proofs.Common.{◌≡◌, ◌∙◌, arith}
use Rattle.column_table.proofs.BitFacts.{bits-length, next-here, next-none, none-in_word}
use Rattle.column_table.proofs.row_bits.RowBits.next_from.Goals as goal

pub word_of-word-requires : goal.word_of-word-requires
word_of-word-requires c = omega (arith, bits-length c.self.inside.words.items c.self.inside.rows c.args.self.now c.self.view_is, c.self.invariant.enough, c.rows-rows.ensures)

pub overflow_add-result : goal.overflow_add-result
overflow_add-result c =
    let count : c.rows-rows.result ≡ c.self.inside.rows = c.rows-rows.ensures ∙ bits-length c.self.inside.words.items c.self.inside.rows c.args.self.now c.self.view_is in
    let next = next-here c.self.inside.words.items c.self.inside.rows c.args.self.now c.args.from c.loop-row.row c.word_of-word.result c.self.view_is c.self.invariant c.loop-row.invariant c.word_of-word.ensures c.word_of-word.type_inv c.if-rest-ne0.true in
    omega (arith, next.0)

pub overflow_cast-result-then-rest-ne0 : goal.overflow_cast-result-then-rest-ne0
overflow_cast-result-then-rest-ne0 c =
    let count : c.rows-rows.result ≡ c.self.inside.rows = c.rows-rows.ensures ∙ bits-length c.self.inside.words.items c.self.inside.rows c.args.self.now c.self.view_is in
    let next = next-here c.self.inside.words.items c.self.inside.rows c.args.self.now c.args.from c.loop-row.row c.word_of-word.result c.self.view_is c.self.invariant c.loop-row.invariant c.word_of-word.ensures c.word_of-word.type_inv c.if-rest-ne0.true in
    omega (arith, next.0)

pub returns-then-rest-ne0-clause-bounds : goal.returns-then-rest-ne0-clause-bounds
returns-then-rest-ne0-clause-bounds c =
    let count : c.rows-rows.result ≡ c.self.inside.rows = c.rows-rows.ensures ∙ bits-length c.self.inside.words.items c.self.inside.rows c.args.self.now c.self.view_is in
    let next = next-here c.self.inside.words.items c.self.inside.rows c.args.self.now c.args.from c.loop-row.row c.word_of-word.result c.self.view_is c.self.invariant c.loop-row.invariant c.word_of-word.ensures c.word_of-word.type_inv c.if-rest-ne0.true in
    next.1.bounds

pub returns-then-rest-ne0-clause-passed : goal.returns-then-rest-ne0-clause-passed
returns-then-rest-ne0-clause-passed c =
    let count : c.rows-rows.result ≡ c.self.inside.rows = c.rows-rows.ensures ∙ bits-length c.self.inside.words.items c.self.inside.rows c.args.self.now c.self.view_is in
    let next = next-here c.self.inside.words.items c.self.inside.rows c.args.self.now c.args.from c.loop-row.row c.word_of-word.result c.self.view_is c.self.invariant c.loop-row.invariant c.word_of-word.ensures c.word_of-word.type_inv c.if-rest-ne0.true in
    next.1.passed

pub returns-then-rest-ne0-clause-found : goal.returns-then-rest-ne0-clause-found
returns-then-rest-ne0-clause-found c =
    let count : c.rows-rows.result ≡ c.self.inside.rows = c.rows-rows.ensures ∙ bits-length c.self.inside.words.items c.self.inside.rows c.args.self.now c.self.view_is in
    let next = next-here c.self.inside.words.items c.self.inside.rows c.args.self.now c.args.from c.loop-row.row c.word_of-word.result c.self.view_is c.self.invariant c.loop-row.invariant c.word_of-word.ensures c.word_of-word.type_inv c.if-rest-ne0.true in
    next.1.found

pub loop-row-preserved : goal.loop-row-preserved
loop-row-preserved c =
    let nothing = rw c.word_of-word.ensures at c.if-rest-ne0.false in
    none-in_word c.self.inside.words.items c.args.from c.loop-row.row c.loop-row.invariant nothing

pub returns-clause-passed : goal.returns-clause-passed
returns-clause-passed c =
    let count : c.rows-rows.result ≡ c.self.inside.rows = c.rows-rows.ensures ∙ bits-length c.self.inside.words.items c.self.inside.rows c.args.self.now c.self.view_is in
    let same : c.rows.result ≡ c.self.inside.rows = c.rows.ensures ∙ bits-length c.self.inside.words.items c.self.inside.rows c.args.self.now c.self.view_is in
    rw same (next-none c.self.inside.words.items c.self.inside.rows c.args.self.now c.args.from c.loop-row.row c.self.view_is c.requires c.loop-row.invariant (omega arith)).passed
