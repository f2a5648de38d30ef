-- The conjuncts of a script, condition by condition.
use Rattle.std.proofs.Common.{◌≡◌, ◌∙◌, ◌++◌, ap}
use Rattle.std.specs.List.{flat_map}
use Rattle.std.specs.Option.{option_to_list}
use Rattle.std.proofs.lemmas.Grind.{flat_map-append}
use Rattle.sql_grammar.specs.declared.tree.Script.{Script}
use Rattle.sql_grammar.specs.declared.tree.Source.{Source}
use Rattle.script_rules.specs.Conjuncts.{conjuncts_of, parts_of}
use Rattle.script_rules.proofs.ConjunctFacts.{flat_map-flat_map}

-- source by source, and then those of WHERE
pub conjuncts-script : (script : Script)
    → conjuncts_of script ≡ flat_map (λ (s : Source). flat_map parts_of (option_to_list s.on)) script.select.sources ++ flat_map parts_of (option_to_list script.select.filter)
conjuncts-script script =
    let last = option_to_list script.select.filter in
    flat_map-append parts_of (flat_map (λ (s : Source). option_to_list s.on) script.select.sources) last
    ∙ ap (λ front. front ++ flat_map parts_of last) (flat_map-flat_map parts_of (λ (s : Source). option_to_list s.on) script.select.sources)
