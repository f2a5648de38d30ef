use Rattle.sql_lex.proofs.Answered.{answered_tokens, answered_only, answered_bad, answered_bad_only, answered_formed}
use Rattle.sql_lex.proofs.lexing.lex.Goals as goal

pub returns-clause-tokens : goal.returns-clause-tokens
returns-clause-tokens c = answered_tokens (λ v. v.items) c.args.bytes.now c.tokens_of.result c.tokens_of.ensures

pub returns-clause-only : goal.returns-clause-only
returns-clause-only c = answered_only (λ v. v.items) c.args.bytes.now c.tokens_of.result c.tokens_of.ensures

pub returns-clause-bad : goal.returns-clause-bad
returns-clause-bad c = answered_bad (λ v. v.items) c.args.bytes.now c.tokens_of.result c.tokens_of.ensures

pub returns-clause-bad_only : goal.returns-clause-bad_only
returns-clause-bad_only c = answered_bad_only (λ v. v.items) c.args.bytes.now c.tokens_of.result c.tokens_of.ensures

pub returns-clause-well_formed : goal.returns-clause-well_formed
returns-clause-well_formed c = answered_formed (λ v. v.items) c.args.bytes.now c.tokens_of.result c.tokens_of.ensures
