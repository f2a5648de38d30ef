use Rattle.sql_grammar.proofs.Readings.{one}
use Rattle.sql_grammar.proofs.laws.has_one_reading.Goals as goal

pub returns : goal.returns
returns c = record { one = one }
