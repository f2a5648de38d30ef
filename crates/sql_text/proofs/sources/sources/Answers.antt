use Rattle.std.proofs.Common.{length, arith, refl, ap}
use Rattle.std.proofs.lemmas.Result.{err_from_is_err_and}
use Rattle.sql_grammar.specs.Meaning.{source_list_of, source_of, more_sources_of}
use Rattle.sql_grammar.proofs.Leads.{shorter}
use Rattle.sql_grammar.proofs.Loops.{awaits_first, awaits_next, goes_end, goes_is}
use Rattle.sql_text.proofs.sources.sources.Goals as goal

pub loop-all-init : goal.loop-all-init
loop-all-init c = rw c.new-found.ensures.items (awaits_first source_list_of source_of more_sources_of c.args.levels c.args.tokens.now refl (λ d m. refl))

pub returns-in_err-all : goal.returns-in_err-all
returns-in_err-all c =
    let p = err_from_is_err_and c.from_residual.result c.from_residual.ensures.1 in
    rw (p.1, p.2) (c.loop-all.invariant.fails c.args.end c.in_err-all.field-0.0 c.in_err-all.ensures)

pub loop-all-smaller : goal.loop-all-smaller
loop-all-smaller c =
    let all = c.in_ok-all.ensures in
    let short = shorter all.reads in
    let longer = ap length c.in-Some.ensures.some.splits in
    omega arith

pub loop-all-preserved : goal.loop-all-preserved
loop-all-preserved c =
    let all = c.in_ok-all.ensures in
    awaits_next source_of refl (λ s d m. refl) (goes_is all.value (c.loop-all.invariant.read all.tree _ all.reads)) c.in-Some.ensures.some

pub returns-in-None : goal.returns-in-None
returns-in-None c =
    let all = c.in_ok-all.ensures in
    rw c.from_vec.ensures (goes_end refl (goes_is all.value (c.loop-all.invariant.read all.tree _ all.reads)) c.in-None.ensures.none)
