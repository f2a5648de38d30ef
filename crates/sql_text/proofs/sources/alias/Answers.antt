use Rattle.std.proofs.Common.{refl, ap, [], ◌∷◌, Some}
use Rattle.std.proofs.lemmas.Result.{err_from_is_err_and}
use Rattle.sql_grammar.specs.declared.kinds.Kind.TheVariants as k
use Rattle.sql_grammar.specs.Kinds.{code, numbers}
use Rattle.sql_grammar.specs.Grammar.{Part, word, opt, name, names, None, Left, ◌▸◌}
use Rattle.sql_grammar.specs.declared.tree.Alias.{Alias}
use Rattle.sql_grammar.specs.Reading.{Heads, first}
use Rattle.sql_grammar.proofs.Sets.{Heads_subset, Heads_neither}
use Rattle.sql_grammar.proofs.Choices.{reads_none, reads_some}
use Rattle.sql_grammar.proofs.Leads.{itself, behind, at_some, done, fails, begun, reads_kind, not_this, none_of}
use Rattle.sql_text.proofs.sources.alias.Goals as goal

abbrev named_part : Part
named_part = opt (word k.As) ▸ name

abbrev aliased : Part
aliased = opt named_part

pub returns-in_err-alias : goal.returns-in_err-alias
returns-in_err-alias c n =
    let p = err_from_is_err_and c.from_residual.result c.from_residual.ensures.1 in
    let keyword = c.in-Some.ensures.some in
    let l0 = at_some (itself aliased) (Heads_subset (code k.As ∷ []) (first named_part) c.args.tokens.now refl (begun keyword)) in
    let l1 = behind l0 refl (reads_some (begun keyword) (reads_kind keyword)) in
    rw (p.1, p.2) (fails l1 c.args.end c.in_err-alias.field-0.0 (c.in_err-alias.ensures n))

pub returns-in-Some : goal.returns-in-Some
returns-in-Some c n =
    let keyword = c.in-Some.ensures.some in
    let l0 = at_some (itself aliased) (Heads_subset (code k.As ∷ []) (first named_part) c.args.tokens.now refl (begun keyword)) in
    let l1 = behind l0 refl (reads_some (begun keyword) (reads_kind keyword)) in
    let alias = c.in_ok-alias.ensures n in
    done l1 alias.tree alias.reads
    (ap (λ (x : Alias). Some x) alias.value)

pub returns-in_err-alias-2 : goal.returns-in_err-alias-2
returns-in_err-alias-2 c n =
    let p = err_from_is_err_and c.from_residual-in_err-alias-2.result c.from_residual-in_err-alias-2.ensures.1 in
    let l0 = at_some (itself aliased) (Heads_subset (numbers names) (first named_part) c.args.tokens.now refl (c.begins_name.ensures.0 c.if-begins_name.true)) in
    let l1 = behind l0 refl (reads_none (not_this k.As c.in_default.ensures.none)) in
    rw (p.1, p.2) (fails l1 c.args.end c.in_err-alias-2.field-0.0 (c.in_err-alias-2.ensures n))

pub returns-then-begins_name : goal.returns-then-begins_name
returns-then-begins_name c n =
    let l0 = at_some (itself aliased) (Heads_subset (numbers names) (first named_part) c.args.tokens.now refl (c.begins_name.ensures.0 c.if-begins_name.true)) in
    let l1 = behind l0 refl (reads_none (not_this k.As c.in_default.ensures.none)) in
    let alias = c.in_ok-alias-2.ensures n in
    done l1 alias.tree alias.reads
    (ap (λ (x : Alias). Some x) alias.value)

pub returns : goal.returns
returns c n =
    let no_name : Heads (numbers names) c.args.tokens.now → ⊥ = λ h. absurd (let a = c.begins_name.ensures.1 h in let b = c.if-begins_name.false in cc) in
    done (itself aliased) (Left None)
    (reads_none (none_of named_part (code k.As ∷ numbers names) refl refl (Heads_neither (code k.As) (numbers names) c.args.tokens.now c.in_default.ensures.none no_name))) refl
