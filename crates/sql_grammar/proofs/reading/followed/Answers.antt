use Rattle.std.proofs.Common.{refl}
use Rattle.std.proofs.lemmas.Result.{err_from_is_err_and}
use Rattle.sql_grammar.proofs.reading.followed.Goals as goal

pub returns-in_err-rest : goal.returns-in_err-rest
returns-in_err-rest g c n =
    let p = err_from_is_err_and c.from_residual.result c.from_residual.ensures.1 in
    rw (p.1, p.2) (c.in_err-rest.ensures n)

pub returns : goal.returns
returns g c n = let rest = c.in_ok-rest.ensures n in record { tree = rest.tree; reads = rest.reads; value = refl }
