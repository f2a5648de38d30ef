use Rattle.std.proofs.Common.{◌∙◌, ◌++◌, [], List, map, ap, sym, arith}
use Rattle.std.proofs.lemmas.Grind.{common_steps}
use Rattle.std.specs.List.{flat_map}
use Rattle.std.specs.Option.{option_to_list}
use Rattle.sql_grammar.specs.declared.tree.Cond.{Cond}
use Rattle.sql_grammar.specs.declared.tree.Source.{Source}
use Rattle.script_rules.specs.Conjuncts.{parts_of}
use Rattle.binder.proofs.ConjunctsFacts.{conjuncts-script}
use Rattle.binder.proofs.GatherFacts.{gathered-end}
use Rattle.binder.proofs.conjuncts.conjuncts.Goals as goal

pub returns : goal.returns
returns c =
    let parts : Source → List Cond = λ s. flat_map parts_of (option_to_list s.on) in
    let all = gathered-end parts c.as_slice-source-items.result.now [] (map (λ d. d.now) c.loop-source.found.items) c.loop-source.source-index (omega arith) c.loop-source.invariant in
    c.in_ok-add_some-2.ensures
    ∙ ap (λ front. front ++ flat_map parts_of (option_to_list c.args.script.now.select.filter)) (all ∙ ap (flat_map parts) c.as_slice-source-items.ensures)
    ∙ sym (conjuncts-script c.args.script.now)

pub loop-source-preserved : goal.loop-source-preserved
loop-source-preserved c = grind (arith, common_steps)
