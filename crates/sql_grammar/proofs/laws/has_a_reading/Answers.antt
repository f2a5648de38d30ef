use Rattle.sql_grammar.proofs.Readings.{there}
use Rattle.sql_grammar.proofs.laws.has_a_reading.Goals as goal

pub returns : goal.returns
returns c = record { there = there }
