use Rattle.std.proofs.Common.{◌≡◌, ◌+◌, ◌-◌, length, arith, refl, sym, ap, ◌∙◌, [], ◌∷◌}
use Rattle.std.proofs.lemmas.Result.{err_from_is_err_and}
use Rattle.sql_grammar.specs.declared.kinds.Kind.TheVariants as k
use Rattle.sql_grammar.specs.Kinds.{code}
use Rattle.sql_grammar.specs.Grammar.{Part, Tree, token, word, many, opt, level, line, name, names, types, comparisons, magnitudes, None, Left, Right, Both, In, By, ◌▸◌, ◌∣◌}
use Rattle.sql_grammar.specs.Grammar as g
use Rattle.sql_grammar.specs.declared.tree.Cond.{Cond}
use Rattle.sql_grammar.specs.declared.tree.Cond.TheVariants as condition
use Rattle.sql_grammar.specs.Meaning.{neg_of, prim_of, conj_of, conjs_of, negs_of, test_of, tests}
use Rattle.sql_grammar.specs.Reading.{Starts}
use Rattle.sql_grammar.proofs.Loops.{awaits_first, awaits_next, goes_append, goes_end}
use Rattle.sql_text.proofs.Members.{disjuncts, conjuncts, or_joins, and_joins}
use Rattle.sql_grammar.proofs.Leads.{behind, at_line, at_left, at_right, at_level, opens, done, hands_on, fails, fails_first, other_kind, none_of, shorter, read_ok, append_err}
use Rattle.sql_text.proofs.conditions.+cond.Goals as goal

abbrev not_neg : Part
not_neg = level k.Not (line g.neg)

abbrev in_parens : Part
in_parens = level k.LeftParen (line g.cond ▸ word k.RightParen)

pub cond-loop-all-init : goal.cond-loop-all-init
cond-loop-all-init m c = rw c.new-found.ensures.items (awaits_first disjuncts (λ d. conj_of d ∷ []) conjs_of c.args.levels c.args.tokens.now refl (λ d m. refl))

pub cond-returns-in_err-all : goal.cond-returns-in_err-all
cond-returns-in_err-all m c =
    let p = err_from_is_err_and c.from_residual.result c.from_residual.ensures.1 in
    rw (p.1, p.2) (fails (at_line g.cond) c.args.end c.in_err-all.field-0.0 (c.loop-all.invariant.fails c.args.end c.in_err-all.field-0.0
    (append_err conj_of (λ r. r.0) (λ r. r.1.now) _ _ c.args.end c.in_err-all.ensures c.conj.ensures)))

pub cond-loop-all-smaller : goal.cond-loop-all-smaller
cond-loop-all-smaller m c =
    let next = read_ok conj_of (λ r. r.0) (λ r. r.1.now) c.args.end c.in_ok-all.ensures.1 c.conj.ensures in
    let short = shorter next.reads in
    let longer = ap length c.in-Some.ensures.some.splits in
    omega arith

pub cond-loop-all-preserved : goal.cond-loop-all-preserved
cond-loop-all-preserved m c =
    let next = read_ok conj_of (λ r. r.0) (λ r. r.1.now) c.args.end c.in_ok-all.ensures.1 c.conj.ensures in
    let read = c.loop-all.invariant.read next.tree _ next.reads in
    awaits_next (λ d. conj_of d ∷ []) refl (λ s d m. refl) (goes_append _ next.value c.in_ok-all.ensures.2 read) c.in-Some.ensures.some

pub cond-returns-in-None : goal.cond-returns-in-None
cond-returns-in-None m c =
    let next = read_ok conj_of (λ r. r.0) (λ r. r.1.now) c.args.end c.in_ok-all.ensures.1 c.conj.ensures in
    let read = c.loop-all.invariant.read next.tree _ next.reads in
    let all = goes_end refl (goes_append _ next.value c.in_ok-all.ensures.2 read) c.in-None.ensures.none in
    done (at_line g.cond) all.tree all.reads (or_joins all.tree _ _ all.value c.any_of.ensures)

pub conj-loop-all-init : goal.conj-loop-all-init
conj-loop-all-init m c = rw c.new-found.ensures.items (awaits_first conjuncts (λ d. neg_of d ∷ []) negs_of c.args.levels c.args.tokens.now refl (λ d m. refl))

pub conj-returns-in_err-all : goal.conj-returns-in_err-all
conj-returns-in_err-all m c =
    let p = err_from_is_err_and c.from_residual.result c.from_residual.ensures.1 in
    rw (p.1, p.2) (fails (at_line g.conj) c.args.end c.in_err-all.field-0.0 (c.loop-all.invariant.fails c.args.end c.in_err-all.field-0.0
    (append_err neg_of (λ r. r.0) (λ r. r.1.now) _ _ c.args.end c.in_err-all.ensures c.neg.ensures)))

pub conj-loop-all-smaller : goal.conj-loop-all-smaller
conj-loop-all-smaller m c =
    let next = read_ok neg_of (λ r. r.0) (λ r. r.1.now) c.args.end c.in_ok-all.ensures.1 c.neg.ensures in
    let short = shorter next.reads in
    let longer = ap length c.in-Some.ensures.some.splits in
    omega arith

pub conj-loop-all-preserved : goal.conj-loop-all-preserved
conj-loop-all-preserved m c =
    let next = read_ok neg_of (λ r. r.0) (λ r. r.1.now) c.args.end c.in_ok-all.ensures.1 c.neg.ensures in
    let read = c.loop-all.invariant.read next.tree _ next.reads in
    awaits_next (λ d. neg_of d ∷ []) refl (λ s d m. refl) (goes_append _ next.value c.in_ok-all.ensures.2 read) c.in-Some.ensures.some

pub conj-returns-in-None : goal.conj-returns-in-None
conj-returns-in-None m c =
    let next = read_ok neg_of (λ r. r.0) (λ r. r.1.now) c.args.end c.in_ok-all.ensures.1 c.neg.ensures in
    let read = c.loop-all.invariant.read next.tree _ next.reads in
    let all = goes_end refl (goes_append _ next.value c.in_ok-all.ensures.2 read) c.in-None.ensures.none in
    done (at_line g.conj) all.tree all.reads (and_joins all.tree _ _ all.value c.all_of.ensures)

pub neg-returns-then-levels-eq0 : goal.neg-returns-then-levels-eq0
neg-returns-then-levels-eq0 m c =
    let not' : Starts k.Not c.args.tokens.now c.in-Some.rest.now = record { token = c.in-Some.token.now; splits = c.in-Some.ensures.some.0; is = c.in-Some.ensures.some.1 } in
    let l1 = at_left (at_line g.neg) (other_kind (line g.prim) not' refl refl) in
    opens l1 c.in-Some.rest.now c.args.end c.in-Some.token.now.start not' c.if-levels-eq0.true refl

pub neg-returns-in_err-inner-in-Some : goal.neg-returns-in_err-inner-in-Some
neg-returns-in_err-inner-in-Some m c =
    let p = err_from_is_err_and c.from_residual.result c.from_residual.ensures.1 in
    let not' : Starts k.Not c.args.tokens.now c.in-Some.rest.now = record { token = c.in-Some.token.now; splits = c.in-Some.ensures.some.0; is = c.in-Some.ensures.some.1 } in
    let l1 = at_left (at_line g.neg) (other_kind (line g.prim) not' refl refl) in
    let one_more : c.args.levels ≡ (c.args.levels - 1) + 1 = omega arith in
    let l2 = at_level l1 not' one_more in
    rw (p.1, p.2) (fails l2 c.args.end c.in_err-inner-in-Some.field-0.0 (c.in_err-inner-in-Some.ensures))

pub neg-returns-in_ok-inner-in-Some-2 : goal.neg-returns-in_ok-inner-in-Some-2
neg-returns-in_ok-inner-in-Some-2 m c =
    let not' : Starts k.Not c.args.tokens.now c.in-Some.rest.now = record { token = c.in-Some.token.now; splits = c.in-Some.ensures.some.0; is = c.in-Some.ensures.some.1 } in
    let l1 = at_left (at_line g.neg) (other_kind (line g.prim) not' refl refl) in
    let one_more : c.args.levels ≡ (c.args.levels - 1) + 1 = omega arith in
    let l2 = at_level l1 not' one_more in
    let inner = c.in_ok-inner-in-Some.ensures in
    done l2 inner.tree inner.reads
    (ap (λ (x : Cond). condition.Not c.in-Some.token.now.start x) (inner.value ∙ sym c.in_ok-inner-in-Some-2.ensures))

pub neg-returns-in-None : goal.neg-returns-in-None
neg-returns-in-None m c =
    hands_on prim_of neg_of (λ r. r.0) (λ r. r.0) (λ r. r.1.now) c.args.end
    (at_right (at_line g.neg) (none_of not_neg (code k.Not ∷ []) refl refl c.in-None.ensures.none)) (λ d r e. e) c.prim.result c.prim.ensures

pub prim-returns-then-levels-eq0 : goal.prim-returns-then-levels-eq0
prim-returns-then-levels-eq0 m c =
    let paren : Starts k.LeftParen c.args.tokens.now c.in-Some.rest.now = record { token = c.in-Some.token.now; splits = c.in-Some.ensures.some.0; is = c.in-Some.ensures.some.1 } in
    let l1 = at_left (at_line g.prim) (other_kind tests paren refl refl) in
    opens l1 c.in-Some.rest.now c.args.end c.in-Some.token.now.start paren c.if-levels-eq0.true refl

pub prim-returns-in_err-inner-in-Some : goal.prim-returns-in_err-inner-in-Some
prim-returns-in_err-inner-in-Some m c =
    let p = err_from_is_err_and c.from_residual.result c.from_residual.ensures.1 in
    let paren : Starts k.LeftParen c.args.tokens.now c.in-Some.rest.now = record { token = c.in-Some.token.now; splits = c.in-Some.ensures.some.0; is = c.in-Some.ensures.some.1 } in
    let l1 = at_left (at_line g.prim) (other_kind tests paren refl refl) in
    let one_more : c.args.levels ≡ (c.args.levels - 1) + 1 = omega arith in
    let l2 = at_level l1 paren one_more in
    rw (p.1, p.2) (fails_first l2 refl c.args.end c.in_err-inner-in-Some.field-0.0 (c.in_err-inner-in-Some.ensures))

pub prim-returns-in_ok-inner-in-Some : goal.prim-returns-in_ok-inner-in-Some
prim-returns-in_ok-inner-in-Some m c =
    let paren : Starts k.LeftParen c.args.tokens.now c.in-Some.rest.now = record { token = c.in-Some.token.now; splits = c.in-Some.ensures.some.0; is = c.in-Some.ensures.some.1 } in
    let l1 = at_left (at_line g.prim) (other_kind tests paren refl refl) in
    let one_more : c.args.levels ≡ (c.args.levels - 1) + 1 = omega arith in
    let inner = c.in_ok-inner-in-Some.ensures in
    hands_on {p = word k.RightParen} (λ _. c.in_ok-inner-in-Some.inner) prim_of (λ r. r.0) (λ r. r.0) (λ r. r.1.now) c.args.end
    (behind (at_level l1 paren one_more) refl inner.reads) (λ d r e. inner.value ∙ e) c.followed.result (c.followed.ensures (c.args.levels - 1))

pub prim-returns-in-None : goal.prim-returns-in-None
prim-returns-in-None m c =
    hands_on test_of prim_of (λ r. r.0) (λ r. r.0) (λ r. r.1.now) c.args.end
    (at_right (at_line g.prim) (none_of in_parens (code k.LeftParen ∷ []) refl refl c.in-None.ensures.none)) (λ d r e. e) c.test.result (c.test.ensures c.args.levels)
