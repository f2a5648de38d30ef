use Rattle.std.proofs.Common.{[], map}
use Rattle.std.specs.List.{flat_map}
use Rattle.std.specs.Option.{option_to_list}
use Rattle.sql_grammar.specs.declared.tree.Source.{Source}
use Rattle.script_rules.specs.Conjuncts.{parts_of}
use Rattle.binder.proofs.GatherFacts.{IsGathered}
use Rattle.binder.proofs.conjuncts.conjuncts.Given as goal

abbrev pub invariant-loop-source : goal.invariant-loop-source
invariant-loop-source l = IsGathered (λ (s : Source). flat_map parts_of (option_to_list s.on)) l.source-items [] (map (λ c. c.now) l.found.items) l.source-index
