use Rattle.std.proofs.Common.{refl, sym, ap, ◌∙◌, [], ◌∷◌}
use Rattle.std.proofs.lemmas.Result.{err_from_is_err_and}
use Rattle.sql_grammar.specs.declared.kinds.Kind.TheVariants as k
use Rattle.sql_grammar.specs.Kinds.{code}
use Rattle.sql_grammar.specs.Grammar.{Part, word, name, None, Left, ◌▸◌, ◌∣◌}
use Rattle.sql_grammar.specs.Grammar as g
use Rattle.sql_grammar.specs.declared.tree.Alias.{Alias}
use Rattle.sql_grammar.specs.Meaning.{placed_name, alone, within}
use Rattle.sql_grammar.proofs.Choices.{reads_none}
use Rattle.sql_grammar.proofs.Leads.{at_line, at_some, behind, done, fails, fails_first, reads_kind, begun, none_of, read_ok, read_err}
use Rattle.sql_grammar.proofs.operands.colref.Goals as goal

abbrev dotted : Part
dotted = word k.Dot ▸ name

pub returns-in_err-first : goal.returns-in_err-first
returns-in_err-first c n =
    let p = err_from_is_err_and c.from_residual.result c.from_residual.ensures.1 in
    rw (p.1, p.2) (fails_first (at_line g.colref) refl c.args.end c.in_err-first.field-0.0 (c.in_err-first.ensures n))

pub returns-in_err-first-in-Some : goal.returns-in_err-first-in-Some
returns-in_err-first-in-Some c n =
    let p = err_from_is_err_and c.from_residual-in_err-first-in-Some.result c.from_residual-in_err-first-in-Some.ensures.1 in
    let first = c.in_ok-first.ensures n in
    let dot = c.in-Some.ensures.some in
    let l = behind (at_some (behind (at_line g.colref) refl first.reads) (begun dot)) refl (reads_kind dot) in
    rw (p.1, p.2) (fails l c.args.end c.in_err-first-in-Some.field-0.0 (read_err placed_name (λ r. r.0) (λ r. r.1.now) _ _ c.args.end c.in_err-first-in-Some.ensures (c.name-in-Some.ensures n)))

pub returns-in_ok-first-in-Some : goal.returns-in_ok-first-in-Some
returns-in_ok-first-in-Some c n =
    let first = c.in_ok-first.ensures n in
    let dot = c.in-Some.ensures.some in
    let column = read_ok placed_name (λ r. r.0) (λ r. r.1.now) c.args.end c.in_ok-first-in-Some.ensures.0 (c.name-in-Some.ensures n) in
    let l = behind (at_some (behind (at_line g.colref) refl first.reads) (begun dot)) refl (reads_kind dot) in
    done l column.tree column.reads
    (ap (λ (x : Alias). within x (placed_name column.tree)) (first.value ∙ sym c.in_ok-first-in-Some.ensures.1) ∙ ap (λ (x : Alias). within c.in_ok-first-in-Some.first x) column.value)

pub returns-in-None : goal.returns-in-None
returns-in-None c n =
    let first = c.in_ok-first.ensures n in
    done (behind (at_line g.colref) refl first.reads) (Left None) (reads_none (none_of dotted (code k.Dot ∷ []) refl refl c.in-None.ensures.none))
    (ap (λ (x : Alias). alone x) first.value)
