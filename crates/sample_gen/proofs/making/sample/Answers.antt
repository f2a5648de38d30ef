use Rattle.std.proofs.Common.{arith, codes, refl}
use Rattle.std.proofs.lemmas.Grind.{common_steps}
use Rattle.sample_gen.specs.Tables.{sample_tables}
use Rattle.sample_gen.proofs.NameFacts.{ascii-is_utf8}
use Rattle.sample_gen.proofs.making.sample.Goals as goal

pub put_table-requires-clause-name : goal.put_table-requires-clause-name
put_table-requires-clause-name c = ascii-is_utf8 (codes "nations") refl

pub put_table-requires-2-clause-name : goal.put_table-requires-2-clause-name
put_table-requires-2-clause-name c = ascii-is_utf8 (codes "customers") refl

pub put_table-requires-3-clause-name : goal.put_table-requires-3-clause-name
put_table-requires-3-clause-name c = ascii-is_utf8 (codes "orders") refl

pub put_table-requires-4-clause-name : goal.put_table-requires-4-clause-name
put_table-requires-4-clause-name c = ascii-is_utf8 (codes "items") refl

pub returns-clause-tables : goal.returns-clause-tables
unfolding sample_tables
returns-clause-tables c = grind (arith, common_steps)
