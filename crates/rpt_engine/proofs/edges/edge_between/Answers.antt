use Rattle.std.proofs.Common.{arith}
use Rattle.std.proofs.lemmas.Grind.{common_steps}
use Rattle.rpt_engine.proofs.edges.edge_between.Goals as goal

pub returns-in_ok-hashes-in-Bloom-2 : goal.returns-in_ok-hashes-in-Bloom-2
returns-in_ok-hashes-in-Bloom-2 c = grind (arith, common_steps)

pub edge_by_hashes-requires-clause-child_few : goal.edge_by_hashes-requires-clause-child_few
edge_by_hashes-requires-clause-child_few c = grind (arith, common_steps)

pub edge_by_codes-requires-clause-parent_few : goal.edge_by_codes-requires-clause-parent_few
edge_by_codes-requires-clause-parent_few c = grind (arith, common_steps)

pub edge_by_codes-requires-clause-child_few : goal.edge_by_codes-requires-clause-child_few
edge_by_codes-requires-clause-child_few c = grind (arith, common_steps)

pub edge_by_hashes-requires-clause-parent_few : goal.edge_by_hashes-requires-clause-parent_few
edge_by_hashes-requires-clause-parent_few c = grind (arith, common_steps)

pub hashes-requires-in-Bloom : goal.hashes-requires-in-Bloom
hashes-requires-in-Bloom c = grind (arith, common_steps)
