use Rattle.std.proofs.Common.{refl, ap, List}
use Rattle.std.proofs.lemmas.Result.{err_from_is_err_and}
use Rattle.sql_grammar.specs.declared.kinds.Kind.TheVariants as k
use Rattle.sql_grammar.specs.Grammar.{Part, Tree, token, word, many, opt, level, line, name, names, types, comparisons, magnitudes, None, Left, Right, Both, In, By, ◌▸◌, ◌∣◌}
use Rattle.sql_grammar.specs.Grammar as g
use Rattle.sql_grammar.specs.declared.tree.Item.{Item}
use Rattle.sql_grammar.specs.declared.tree.Items.TheVariants as i
use Rattle.sql_grammar.proofs.Leads.{at_line, at_left, at_right, done, fails, found, reads_kind, other_kind, not_this}
use Rattle.sql_text.proofs.sources.items.Goals as goal

abbrev whole : Part
whole = line g.item ▸ many (word k.Comma ▸ line g.item)

pub returns-in_err-items-in-None : goal.returns-in_err-items-in-None
returns-in_err-items-in-None c n =
    let p = err_from_is_err_and c.from_residual.result c.from_residual.ensures.1 in
    let l = at_right (at_line g.items) (not_this k.Star c.in-None.ensures.none) in
    rw (p.1, p.2) (fails l c.args.end c.in_err-items-in-None.field-0.0 (c.in_err-items-in-None.ensures n))

pub returns-in-Some : goal.returns-in-Some
returns-in-Some c n =
    let star = c.in-Some.ensures.some in
    done (at_left (at_line g.items) (other_kind whole star refl refl)) (found star) (reads_kind star) refl

pub returns-in_ok-items-in-None : goal.returns-in_ok-items-in-None
returns-in_ok-items-in-None c n =
    let l = at_right (at_line g.items) (not_this k.Star c.in-None.ensures.none) in
    let items = c.in_ok-items-in-None.ensures n in
    done l items.tree items.reads
    (ap (λ (xs : List Item). i.List xs) items.value)
