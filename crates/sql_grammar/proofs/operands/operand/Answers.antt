use Rattle.std.proofs.Common.{ℕ, refl, sym, ap, ◌∙◌}
use Rattle.std.proofs.lemmas.Result.{err_from_is_err_and}
use Rattle.sql_grammar.specs.Kinds.{numbers}
use Rattle.sql_grammar.specs.Grammar.{Part, Tree, token, word, many, opt, line, name, names, None, Left, Right, Both, ◌▸◌, ◌∣◌}
use Rattle.sql_grammar.specs.Grammar as g
use Rattle.sql_grammar.specs.declared.tree.ColumnName.{ColumnName}
use Rattle.sql_grammar.specs.declared.tree.Expr.TheVariants as e
use Rattle.rpt_base.specs.declared.values.Value.{Value}
use Rattle.sql_grammar.specs.Meaning.{literal_of}
use Rattle.sql_grammar.proofs.Placed.{literal_placed}
use Rattle.sql_grammar.proofs.Leads.{at_line, at_left, at_right, done, fails, other_kinds, none_of}
use Rattle.sql_grammar.proofs.operands.operand.Goals as goal

pub returns-in_err-column : goal.returns-in_err-column
returns-in_err-column c n =
    let p = err_from_is_err_and c.from_residual.result c.from_residual.ensures.1 in
    let l = at_left (at_line g.operand) (other_kinds (line g.literal) (numbers names) (c.begins_name.ensures.0 c.if-begins_name.true) refl refl) in
    rw (p.1, p.2) (fails l c.args.end c.in_err-column.field-0.0 (c.in_err-column.ensures n))

pub returns-then-begins_name : goal.returns-then-begins_name
returns-then-begins_name c n =
    let column = c.in_ok-column.ensures n in
    let l = at_left (at_line g.operand) (other_kinds (line g.literal) (numbers names) (c.begins_name.ensures.0 c.if-begins_name.true) refl refl) in
    done l column.tree column.reads (ap (λ (x : ColumnName). e.Column x) column.value)

pub returns-in_err-value : goal.returns-in_err-value
returns-in_err-value c n =
    let p = err_from_is_err_and c.from_residual-in_err-value.result c.from_residual-in_err-value.ensures.1 in
    let l = at_right (at_line g.operand) (none_of (line g.colref) (numbers names) refl refl (λ h. absurd (let a = c.begins_name.ensures.1 h in let b = c.if-begins_name.false in cc))) in
    rw (p.1, p.2) (fails l c.args.end c.in_err-value.field-0.0 (c.in_err-value.ensures n))

pub returns : goal.returns
returns c n =
    let value = c.in_ok-value.ensures n in
    let l = at_right (at_line g.operand) (none_of (line g.colref) (numbers names) refl refl (λ h. absurd (let a = c.begins_name.ensures.1 h in let b = c.if-begins_name.false in cc))) in
    done l value.tree value.reads
    (ap (λ (x : ℕ). e.Literal x (literal_of value.tree)) (literal_placed value.tree _ c.args.end value.reads.spells ∙ sym c.place_of-at.ensures) ∙ ap (λ (x : Value). e.Literal c.place_of-at.result x) value.value)
