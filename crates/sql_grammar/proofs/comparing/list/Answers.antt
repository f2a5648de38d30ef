use Rattle.std.proofs.Common.{◌≡◌, refl, ◌∙◌}
use Rattle.std.proofs.lemmas.Result.{err_from_is_err_and}
use Rattle.sql_grammar.specs.declared.kinds.Kind.TheVariants as k
use Rattle.sql_grammar.specs.Grammar.{Part, Tree, token, word, many, opt, level, line, name, names, types, comparisons, magnitudes, None, Left, Right, Both, In, By, ◌▸◌, ◌∣◌}
use Rattle.sql_grammar.specs.Grammar as g
use Rattle.sql_grammar.specs.Meaning.{list, list_of, literal_list_of}
use Rattle.sql_grammar.proofs.Same.{regrouped, ungroup}
use Rattle.sql_grammar.proofs.Leads.{itself, behind, at_same, hands_on, fails_first}
use Rattle.sql_grammar.proofs.comparing.list.Goals as goal

abbrev literal_list : Part
literal_list = line g.literal ▸ many (word k.Comma ▸ line g.literal)

pub returns-in_err-rest : goal.returns-in_err-rest
returns-in_err-rest c n =
    let p = err_from_is_err_and c.from_residual.result c.from_residual.ensures.1 in
    rw (p.1, p.2) (fails_first (itself list) refl c.args.end c.in_err-rest.field-0.0 (c.in_err-rest.ensures n))

pub returns-in_err-values : goal.returns-in_err-values
returns-in_err-values c n =
    let p = err_from_is_err_and c.from_residual-in_err-values.result c.from_residual-in_err-values.ensures.1 in
    let left = c.in_ok-rest.ensures n in
    let l = at_same (behind (itself list) refl left.reads) (regrouped {a = line g.literal} {b = many (word k.Comma ▸ line g.literal)} {c = word k.RightParen}) refl in
    rw (p.1, p.2) (fails_first l refl c.args.end c.in_err-values.field-0.0 (c.in_err-values.ensures n))

-- the values by their own list
values_are : (left : Tree (word k.LeftParen)) (values : Tree literal_list) (right : Tree (word k.RightParen)) → list_of (Both left (ungroup (Both values right))) ≡ literal_list_of values
values_are left (Both first more) right = refl

pub returns : goal.returns
returns c n =
    let left = c.in_ok-rest.ensures n in
    let values = c.in_ok-values.ensures n in
    let l = at_same (behind (itself list) refl left.reads) (regrouped {a = line g.literal} {b = many (word k.Comma ▸ line g.literal)} {c = word k.RightParen}) refl in
    hands_on {p = word k.RightParen} (λ _. c.in_ok-values.values) list_of (λ r. r.0) (λ r. r.0) (λ r. r.1.now) c.args.end (behind l refl values.reads)
    (λ right r e. values_are left.tree values.tree right ∙ values.value ∙ e) c.followed.result (c.followed.ensures n)
