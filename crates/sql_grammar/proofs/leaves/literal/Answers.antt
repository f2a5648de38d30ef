use Rattle.std.proofs.Common.{[], ◌∷◌, refl, sym, ap, ◌∙◌, pos}
use Rattle.std.proofs.lemmas.Result.{err_from_is_err_and}
use Rattle.rpt_base.specs.declared.values.Value.TheVariants as v
use Rattle.sql_grammar.specs.declared.kinds.Kind.TheVariants as k
use Rattle.sql_grammar.specs.Kinds.{code}
use Rattle.sql_grammar.specs.Grammar.{Part, token, word, magnitudes, literal, ◌▸◌, ◌∣◌}
use Rattle.sql_grammar.specs.Meaning.{literal_of, negative_of}
use Rattle.sql_grammar.specs.Reading.{Starts}
use Rattle.sql_grammar.proofs.KindFacts.{number_fits}
use Rattle.sql_grammar.proofs.Leads.{at_line, at_left, at_right, behind, done, fails, hands_on, found, reads_kind, not_this, other_kind, none_of}
use Rattle.sql_grammar.proofs.leaves.literal.Goals as goal

-- what a literal may be in place of a number
abbrev signed : Part
signed = word k.Minus ▸ token magnitudes

abbrev others : Part
others = signed ∣ word k.Text

pub positive-requires : goal.positive-requires
positive-requires c = rw c.magnitude.ensures (number_fits c.in-Some.token.now c.in-Some.ensures.some.1)

pub returns-in-Some : goal.returns-in-Some
returns-in-Some c n =
    let h : Starts k.Number c.args.tokens.now c.in-Some.rest.now = record { token = c.in-Some.token.now; splits = c.in-Some.ensures.some.0; is = c.in-Some.ensures.some.1 } in
    done (at_left (at_line literal) (other_kind others h refl refl)) (found h) (reads_kind h)
    (ap (λ m. v.Int (pos m)) (sym c.magnitude.ensures) ∙ sym c.positive.ensures)

pub returns-in_err-text-in-None : goal.returns-in_err-text-in-None
returns-in_err-text-in-None c n =
    let p = err_from_is_err_and c.from_residual.result c.from_residual.ensures.1 in
    let l = at_right (at_right (at_line literal) (not_this k.Number c.in_default.ensures.none)) (none_of signed (code k.Minus ∷ []) refl refl c.in-None.ensures.none) in
    rw (p.1, p.2) (fails l c.args.end c.in_err-text-in-None.field-0.0 (c.in_err-text-in-None.ensures n))

pub returns-in-Some-after : goal.returns-in-Some-after
returns-in-Some-after c n =
    let h = c.in-Some-after.ensures.some in
    let l = at_left (at_right (at_line literal) (not_this k.Number c.in_default.ensures.none)) (other_kind (word k.Text) h refl refl) in
    hands_on negative_of literal_of (λ r. r.0) (λ r. r.0) (λ r. r.1.now) c.args.end (behind l refl (reads_kind h)) (λ d r e. e) c.behind_minus.result (c.behind_minus.ensures n)

pub returns-in_ok-text-in-None : goal.returns-in_ok-text-in-None
returns-in_ok-text-in-None c n =
    let text = c.in_ok-text-in-None.ensures n in
    let l = at_right (at_right (at_line literal) (not_this k.Number c.in_default.ensures.none)) (none_of signed (code k.Minus ∷ []) refl refl c.in-None.ensures.none) in
    done l text.tree text.reads (ap (λ t. v.Text t) text.value)
