use Rattle.std.proofs.Common.{length, arith, refl, ap, [], ◌∷◌}
use Rattle.std.proofs.lemmas.Result.{err_from_is_err_and}
use Rattle.sql_grammar.specs.Meaning.{literal_list_of, literal_of, literals_of}
use Rattle.sql_grammar.proofs.Leads.{shorter, read_ok, append_err}
use Rattle.sql_grammar.proofs.Loops.{awaits_first, awaits_next, goes_end, goes_append}
use Rattle.sql_grammar.proofs.comparing.literals.Goals as goal

pub loop-all-init : goal.loop-all-init
loop-all-init c n = rw c.new-found.ensures.items (awaits_first literal_list_of (λ d. literal_of d ∷ []) literals_of n c.args.tokens.now refl (λ d m. refl))

pub returns-in_err-all : goal.returns-in_err-all
returns-in_err-all c n =
    let p = err_from_is_err_and c.from_residual.result c.from_residual.ensures.1 in
    rw (p.1, p.2) ((c.loop-all.invariant n).fails c.args.end c.in_err-all.field-0.0 (append_err literal_of (λ r. r.0) (λ r. r.1.now) _ _ c.args.end c.in_err-all.ensures (c.literal.ensures n)))

pub loop-all-smaller : goal.loop-all-smaller
loop-all-smaller c =
    let next = read_ok literal_of (λ r. r.0) (λ r. r.1.now) c.args.end c.in_ok-all.ensures.1 (c.literal.ensures 0) in
    let short = shorter next.reads in
    let longer = ap length c.in-Some.ensures.some.splits in
    omega arith

pub loop-all-preserved : goal.loop-all-preserved
loop-all-preserved c n =
    let next = read_ok literal_of (λ r. r.0) (λ r. r.1.now) c.args.end c.in_ok-all.ensures.1 (c.literal.ensures n) in
    let read = (c.loop-all.invariant n).read next.tree _ next.reads in
    awaits_next (λ d. literal_of d ∷ []) refl (λ s d m. refl) (goes_append _ next.value c.in_ok-all.ensures.2 read) c.in-Some.ensures.some

pub returns-in-None : goal.returns-in-None
returns-in-None c n =
    let next = read_ok literal_of (λ r. r.0) (λ r. r.1.now) c.args.end c.in_ok-all.ensures.1 (c.literal.ensures n) in
    let read = (c.loop-all.invariant n).read next.tree _ next.reads in
    rw c.from_vec.ensures (goes_end refl (goes_append _ next.value c.in_ok-all.ensures.2 read) c.in-None.ensures.none)
