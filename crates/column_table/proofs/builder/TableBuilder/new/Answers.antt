use Rattle.std.proofs.Common.{arith}
use Rattle.std.proofs.lemmas.Grind.{common_steps}
use Rattle.column_table.proofs.ColumnFacts.{shows-new}
use Rattle.column_table.proofs.builder.TableBuilder.new.Goals as goal

pub invariant_of-result : goal.invariant_of-result
invariant_of-result c = (shows-new _ c.args.kinds.now _ c.loop-kind.invariant c.loop-kind-test.false c.requires).are

pub returns : goal.returns
returns c = (shows-new _ c.args.kinds.now _ c.loop-kind.invariant c.loop-kind-test.false c.requires).shows

pub loop-kind-preserved : goal.loop-kind-preserved
loop-kind-preserved c = grind (arith, common_steps)
