use Rattle.std.proofs.Common.{◌≡◌, ◌∙◌, ◌++◌, Bor, List, map, ap, sym, subst, arith}
use Rattle.std.proofs.lemmas.Grind.{common_steps}
use Rattle.std.specs.Prelude.{OnOk}
use Rattle.std.specs.List.{flat_map}
use Rattle.std.proofs.lemmas.List.{map_push}
use Rattle.sql_grammar.specs.declared.tree.Cond.{Cond}
use Rattle.script_rules.specs.Conjuncts.{parts_of}
use Rattle.script_rules.proofs.CondFacts.{parts_of-And, parts_of-other}
use Rattle.binder.proofs.GatherFacts.{gathered-end}
use Rattle.binder.proofs.conjuncts.+add_parts.Goals as goal

pub add_parts-returns-in-And : goal.add_parts-returns-in-And
add_parts-returns-in-And t c =
    let Gives : List Cond → Type 0 = λ parts. OnOk c.add_all_parts.result (map (λ d. d.now) c.add_all_parts.new.found.items ≡ map (λ d. d.now) c.args.found.now.items ++ parts) in
    let e : flat_map parts_of c.as_slice.result.now ≡ parts_of c.args.cond.now = rw (c.as_slice.ensures, c.in-And.is) (sym (parts_of-And c.in-And.members)) in
    subst Gives e c.add_all_parts.ensures

pub add_parts-returns-in_ok-push-in_default : goal.add_parts-returns-in_ok-push-in_default
add_parts-returns-in_ok-push-in_default t c =
    let now : Bor Cond → Cond = λ d. d.now in
    let there = map now c.args.found.now.items in
    ap (map now) c.in_ok-push-in_default.ensures.items ∙ map_push now c.args.found.now.items c.args.cond
    ∙ ap (λ more. there ++ more) (sym (parts_of-other c.args.cond.now (λ members e. c.in_default.not-And members e)))

pub add_all_parts-returns : goal.add_all_parts-returns
add_all_parts-returns t c =
    gathered-end parts_of c.args.conds.now (map (λ d. d.now) c.args.found.now.items) (map (λ d. d.now) c.loop-cond.found.items) c.loop-cond.cond-index (omega arith) c.loop-cond.invariant

pub add_all_parts-loop-cond-preserved : goal.add_all_parts-loop-cond-preserved
add_all_parts-loop-cond-preserved t c = grind (arith, common_steps)
