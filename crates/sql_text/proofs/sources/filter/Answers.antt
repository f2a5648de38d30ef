use Rattle.std.proofs.Common.{refl, ap, [], ◌∷◌, Some}
use Rattle.std.proofs.lemmas.Result.{err_from_is_err_and}
use Rattle.sql_grammar.specs.declared.kinds.Kind.TheVariants as k
use Rattle.sql_grammar.specs.Kinds.{code}
use Rattle.sql_grammar.specs.Grammar.{Part, Tree, token, word, many, opt, level, line, name, names, types, comparisons, magnitudes, None, Left, Right, Both, In, By, ◌▸◌, ◌∣◌}
use Rattle.sql_grammar.specs.Grammar as g
use Rattle.sql_grammar.specs.declared.tree.Cond.{Cond}
use Rattle.sql_grammar.proofs.Choices.{reads_none}
use Rattle.sql_grammar.proofs.Leads.{itself, behind, at_some, done, fails, begun, reads_kind, none_of}
use Rattle.sql_text.proofs.sources.filter.Goals as goal

abbrev where_cond : Part
where_cond = word k.Where ▸ line g.cond

pub returns-in_err-condition-in-Some : goal.returns-in_err-condition-in-Some
returns-in_err-condition-in-Some c =
    let p = err_from_is_err_and c.from_residual.result c.from_residual.ensures.1 in
    let keyword = c.in-Some.ensures.some in
    let l = behind (at_some (itself (opt where_cond)) (begun keyword)) refl (reads_kind keyword) in
    rw (p.1, p.2) (fails l c.args.end c.in_err-condition-in-Some.field-0.0 (c.in_err-condition-in-Some.ensures))

pub returns-in_ok-condition-in-Some : goal.returns-in_ok-condition-in-Some
returns-in_ok-condition-in-Some c =
    let keyword = c.in-Some.ensures.some in
    let l = behind (at_some (itself (opt where_cond)) (begun keyword)) refl (reads_kind keyword) in
    let condition = c.in_ok-condition-in-Some.ensures in
    done l condition.tree condition.reads
    (ap (λ (x : Cond). Some x) condition.value)

pub returns-in-None : goal.returns-in-None
returns-in-None c = done (itself (opt where_cond)) (Left None) (reads_none (none_of where_cond (code k.Where ∷ []) refl refl c.in-None.ensures.none)) refl
