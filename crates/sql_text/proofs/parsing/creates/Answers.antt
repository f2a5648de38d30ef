use Rattle.std.proofs.Common.{refl, ap, [], ◌∷◌}
use Rattle.std.proofs.lemmas.Result.{err_from_is_err_and}
use Rattle.sql_grammar.specs.declared.kinds.Kind.TheVariants as k
use Rattle.sql_grammar.specs.Kinds.{code}
use Rattle.sql_grammar.specs.Grammar.{line}
use Rattle.sql_grammar.specs.Grammar as g
use Rattle.sql_grammar.proofs.Loops.{grows_start, grows_more, grows_end, shorter_by}
use Rattle.sql_grammar.proofs.Leads.{fails_item, none_of, read_ok, append_err}
use Rattle.sql_grammar.specs.declared.tree.CreateTable.{CreateTable}
use Rattle.sql_grammar.specs.Meaning.{create_of, creates_of}
use Rattle.sql_text.proofs.parsing.creates.Goals as goal

pub loop-alloc-init : goal.loop-alloc-init
loop-alloc-init c n = rw c.new-found.ensures.items (grows_start creates_of n c.args.tokens.now [])

pub returns-in_err-all : goal.returns-in_err-all
returns-in_err-all c n =
    let p = err_from_is_err_and c.from_residual.result c.from_residual.ensures.1 in
    rw (p.1, p.2) (fails_item (c.loop-alloc.invariant n).leads refl (c.begins_with.ensures.0 c.loop-alloc-test.true) c.args.end c.in_err-all.field-0.0
    (append_err create_of (λ r. r.0) (λ r. r.1.now) _ _ c.args.end c.in_err-all.ensures (c.create.ensures n)))

pub loop-alloc-smaller : goal.loop-alloc-smaller
loop-alloc-smaller c =
    let next = read_ok create_of (λ r. r.0) (λ r. r.1.now) c.args.end c.in_ok-all.ensures.1 (c.create.ensures 0) in
    shorter_by refl next.reads

pub loop-alloc-preserved : goal.loop-alloc-preserved
loop-alloc-preserved c n =
    let next = read_ok create_of (λ r. r.0) (λ r. r.1.now) c.args.end c.in_ok-all.ensures.1 (c.create.ensures n) in
    rw c.in_ok-all.ensures.2
    (grows_more (c.in_ok-all.ensures.0 ∷ []) refl (c.begins_with.ensures.0 c.loop-alloc-test.true) (λ m. ap (λ (x : CreateTable). x ∷ creates_of m) next.value) (c.loop-alloc.invariant n) next.reads)

pub returns : goal.returns
returns c n = rw c.from_vec.ensures (grows_end refl (c.loop-alloc.invariant n) (none_of (line g.create) (code k.Create ∷ []) refl refl (λ h. absurd (let a = c.begins_with.ensures.1 h in let b = c.loop-alloc-test.false in cc))))
