use Rattle.sql_lex.proofs.TokenLaws.{listed, is_listed, refused, is_refused, never_memory}
use Rattle.sql_lex.proofs.laws.tokens_are_read.Goals as goal

pub returns-clause-listed : goal.returns-clause-listed
returns-clause-listed c = listed

pub returns-clause-is_listed : goal.returns-clause-is_listed
returns-clause-is_listed c = is_listed

pub returns-clause-refused : goal.returns-clause-refused
returns-clause-refused c = refused

pub returns-clause-is_refused : goal.returns-clause-is_refused
returns-clause-is_refused c = is_refused

pub returns-clause-never_memory : goal.returns-clause-never_memory
returns-clause-never_memory c = never_memory
