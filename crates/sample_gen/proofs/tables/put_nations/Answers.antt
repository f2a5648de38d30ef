use Rattle.sample_gen.specs.Tables.{nation_row}
use Rattle.sample_gen.proofs.RowFacts.{rows_text-all, rows_text-more, rows_text-none}
use Rattle.sample_gen.proofs.tables.put_nations.Goals as goal

pub loop-id-init : goal.loop-id-init
loop-id-init c = rows_text-none nation_row _

pub loop-id-preserved : goal.loop-id-preserved
loop-id-preserved c = rows_text-more nation_row _ c.loop-id.id _ _ c.loop-id.invariant c.in_ok-put_nation.ensures

pub returns : goal.returns
returns c = rows_text-all nation_row _ c.loop-id.id _ _ c.loop-id-test.false c.loop-id.auto.id-end c.loop-id.invariant
