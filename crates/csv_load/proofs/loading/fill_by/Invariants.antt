use Rattle.csv_load.proofs.RowFacts.{HasRows}
use Rattle.csv_load.proofs.loading.fill_by.Given as goal

abbrev pub invariant-records : goal.invariant-records
invariant-records l = HasRows l.limit l.layout.columns l.layout.header l.fn.reader l.reader l.builder l.row
