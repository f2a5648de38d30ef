use Rattle.std.proofs.Common.{refl, ap, ◌∙◌, [], ◌∷◌, Bool}
use Rattle.std.proofs.lemmas.Result.{err_from_is_err_and}
use Rattle.sql_grammar.specs.declared.kinds.Kind.TheVariants as k
use Rattle.sql_grammar.specs.declared.tree.Expr.{Expr}
use Rattle.sql_grammar.specs.Kinds.{code}
use Rattle.sql_grammar.specs.Grammar.{Part, word, ◌▸◌, ◌∣◌}
use Rattle.sql_grammar.specs.Meaning.{range, list, range_of, list_of, text_of, predicates, predicate_of, between, in_list, like}
use Rattle.sql_grammar.proofs.Leads.{itself, behind, at_left, at_right, hands_on, fails_first, reads_kind, other_kind, none_of}
use Rattle.sql_grammar.proofs.comparing.predicate.Goals as goal

abbrev ranged : Part
ranged = word k.Between ▸ range

abbrev listed : Part
listed = word k.In ▸ list

abbrev matched : Part
matched = word k.Like ▸ word k.Text

pub returns-in-Some : goal.returns-in-Some
returns-in-Some c n =
    let negation = c.passes-negated.ensures n in
    let between' = c.in-Some.ensures.some in
    let l1 = at_left (behind (itself predicates) refl negation.reads) (other_kind (listed ∣ matched) between' refl refl) in
    hands_on (λ bounds. between c.args.operand c.passes-negated.result.0 (range_of bounds).0 (range_of bounds).1) (predicate_of c.args.operand) (λ r. r.0) (λ r. r.0) (λ r. r.1.now) c.args.end
    (behind l1 refl (reads_kind between')) (λ d r e. ap (λ (b : Bool). between c.args.operand b (range_of d).0 (range_of d).1) negation.value ∙ e) c.between.result (c.between.ensures n)

pub returns-in-Some-after : goal.returns-in-Some-after
returns-in-Some-after c n =
    let negation = c.passes-negated.ensures n in
    let in' = c.in-Some-after.ensures.some in
    let l1 = at_right (behind (itself predicates) refl negation.reads) (none_of ranged (code k.Between ∷ []) refl refl c.in_default.ensures.none) in
    hands_on (λ values. in_list c.args.operand c.passes-negated.result.0 (list_of values)) (predicate_of c.args.operand) (λ r. r.0) (λ r. r.0) (λ r. r.1.now) c.args.end
    (behind (at_left l1 (other_kind matched in' refl refl)) refl (reads_kind in')) (λ d r e. ap (λ (b : Bool). in_list c.args.operand b (list_of d)) negation.value ∙ e) c.in_list.result (c.in_list.ensures n)

pub returns-in_err-operand : goal.returns-in_err-operand
returns-in_err-operand c n =
    let p = err_from_is_err_and c.from_residual.result c.from_residual.ensures.1 in
    let negation = c.passes-negated.ensures n in
    let l1 = at_right (behind (itself predicates) refl negation.reads) (none_of ranged (code k.Between ∷ []) refl refl c.in_default.ensures.none) in
    let l2 = at_right l1 (none_of listed (code k.In ∷ []) refl refl c.in_default-after.ensures.none) in
    rw (p.1, p.2) (fails_first l2 refl c.args.end c.in_err-operand.field-0.0 (c.in_err-operand.ensures n))

pub returns : goal.returns
returns c n =
    let negation = c.passes-negated.ensures n in
    let l1 = at_right (behind (itself predicates) refl negation.reads) (none_of ranged (code k.Between ∷ []) refl refl c.in_default.ensures.none) in
    let l2 = at_right l1 (none_of listed (code k.In ∷ []) refl refl c.in_default-after.ensures.none) in
    let like' = c.in_ok-operand.ensures n in
    hands_on (λ pattern. like c.in_ok-operand.operand c.passes-negated.result.0 (text_of pattern)) (predicate_of c.args.operand) (λ r. r.0) (λ r. r.0) (λ r. r.1.now) c.args.end
    (behind l2 refl like'.reads)
    (λ d r e. ap (λ (b : Bool). like c.args.operand b (text_of d)) negation.value ∙ ap (λ (x : Expr). like x c.passes-negated.result.0 (text_of d)) like'.value ∙ e) c.like.result (c.like.ensures n)
