use Rattle.std.proofs.Common.{arith, rules}
use Rattle.column_table.proofs.TextFacts.{as-many, lies-at}
use Rattle.column_table.proofs.texts.TextColumn.text.Goals as goal

pub start_of-start-requires : goal.start_of-start-requires
start_of-start-requires c = omega (arith, as-many c.self.inside.bytes.items c.self.inside.ends.items c.args.self.now c.self.view_is)

pub index-requires : goal.index-requires
index-requires c = omega (arith, as-many c.self.inside.bytes.items c.self.inside.ends.items c.args.self.now c.self.view_is)

pub slice_bounds-result-count : goal.slice_bounds-result-count
slice_bounds-result-count c =
    (lies-at c.self.inside.bytes.items c.self.inside.ends.items c.args.self.now c.args.index _ _ c.self.invariant c.self.view_is c.requires c.start_of-start.ensures c.index.ensures).rises

pub slice_bounds-result-start : goal.slice_bounds-result-start
slice_bounds-result-start c =
    let at = lies-at c.self.inside.bytes.items c.self.inside.ends.items c.args.self.now c.args.index _ _ c.self.invariant c.self.view_is c.requires c.start_of-start.ensures c.index.ensures in
    search rules

pub slice_bounds-result-end : goal.slice_bounds-result-end
slice_bounds-result-end c =
    let at = lies-at c.self.inside.bytes.items c.self.inside.ends.items c.args.self.now c.args.index _ _ c.self.invariant c.self.view_is c.requires c.start_of-start.ensures c.index.ensures in
    search rules

pub returns-clause-text : goal.returns-clause-text
returns-clause-text c =
    rw c.deref.ensures.value
    (lies-at c.self.inside.bytes.items c.self.inside.ends.items c.args.self.now c.args.index _ _ c.self.invariant c.self.view_is c.requires c.start_of-start.ensures c.index.ensures).text

pub returns-clause-utf8 : goal.returns-clause-utf8
returns-clause-utf8 c =
    rw c.deref.ensures.value
    (lies-at c.self.inside.bytes.items c.self.inside.ends.items c.args.self.now c.args.index _ _ c.self.invariant c.self.view_is c.requires c.start_of-start.ensures c.index.ensures).utf8
