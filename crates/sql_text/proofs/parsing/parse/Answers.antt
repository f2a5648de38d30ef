use Rattle.std.proofs.Common.{ap, inl, inr, Result, Err}
use Rattle.std.proofs.lemmas.Result.{err_from_is_err_and}
use Rattle.sql_grammar.specs.declared.errors.ParseError.{ParseError}
use Rattle.sql_grammar.specs.declared.tree.Script.{Script}
use Rattle.sql_text.proofs.Alone.{alone_ok, alone_formed, alone_syntax, alone_deep, alone_only}
use Rattle.sql_grammar.proofs.Whole.{only_refused}
use Rattle.sql_text.proofs.parsing.parse.Goals as goal

pub returns-in_err-script-clause-only : goal.returns-in_err-script-clause-only
returns-in_err-script-clause-only c said r =
    let p = err_from_is_err_and c.from_residual.result c.from_residual.ensures.1 in
    rw (p.1, p.2) (elim (only_refused 64 c.args.tokens.now c.args.end c.in_err-script.field-0.0 c.in_err-script.ensures said r) [
      | inl memory ↦ inl (ap (λ (e : ParseError). refusal e) memory)
      | inr same ↦ inr same
    ])
  where
    refusal : ParseError → Result Script ParseError
    refusal e = Err e

pub returns-clause-ok : goal.returns-clause-ok
returns-clause-ok c = alone_ok c.in_ok-script.rest.now c.in_ok-script.ensures c.alone.result c.alone.ensures.ok

pub returns-clause-syntax : goal.returns-clause-syntax
returns-clause-syntax c = alone_syntax c.in_ok-script.rest.now c.args.end c.in_ok-script.ensures c.alone.result c.alone.ensures.err

pub returns-clause-too_deep : goal.returns-clause-too_deep
returns-clause-too_deep c = alone_deep c.in_ok-script.rest.now c.args.end c.alone.result c.alone.ensures.err

pub returns-clause-well_formed : goal.returns-clause-well_formed
returns-clause-well_formed c = alone_formed {n = 64} {ts = c.args.tokens.now} c.in_ok-script.rest.now c.in_ok-script.ensures c.alone.result c.alone.ensures.ok

pub returns-clause-only : goal.returns-clause-only
returns-clause-only c said r = inr (alone_only c.in_ok-script.rest.now c.args.end c.in_ok-script.ensures c.alone.result c.alone.ensures.ok c.alone.ensures.err said r)
