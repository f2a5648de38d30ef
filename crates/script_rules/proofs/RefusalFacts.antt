-- The refusal of a script, phase by phase.
use Rattle.std.proofs.Common.{◌≡◌, ◌∙◌, [], ap}
use Rattle.std.specs.Prelude.{IfNone, Option, None, Some}
use Rattle.std.specs.Option.{option_or}
use Rattle.sql_grammar.specs.declared.tree.Script.{Script}
use Rattle.script_rules.specs.declared.found.Violation.{Violation}
use Rattle.script_rules.specs.Scope.{scope_of}
use Rattle.script_rules.specs.Violations.{each_behind, first_by_phase, first_of, query_phases, refusal_of, source_violations, table_violations}

module _ (script : Script) where
  -- the first refusals of the created tables and of the sources, and what comes behind them
  abbrev pub of_tables : Option Violation
  of_tables = first_of None (each_behind table_violations [] script.tables)

  abbrev pub of_sources : Option Violation
  of_sources = first_of None (each_behind (source_violations script.tables) [] script.select.sources)

  abbrev pub of_query : Option Violation
  of_query = first_by_phase (query_phases (scope_of script) script)

  pub refusal-tables : (f : Violation) → of_tables ≡ Some f → refusal_of script ≡ Some f
  unfolding refusal_of
  refusal-tables f e = ap (λ o. option_or o (option_or of_sources of_query)) e

  pub refusal-sources : (f : Violation) → of_tables ≡ None → of_sources ≡ Some f → refusal_of script ≡ Some f
  unfolding refusal_of
  refusal-sources f none e = ap (λ o. option_or o (option_or of_sources of_query)) none ∙ ap (λ o. option_or o of_query) e

  pub refusal-query : of_tables ≡ None → of_sources ≡ None → refusal_of script ≡ of_query
  unfolding refusal_of
  refusal-query none nor = ap (λ o. option_or o (option_or of_sources of_query)) none ∙ ap (λ o. option_or o of_query) nor

pub if_none : {X : Type 0} {P : Type 0} (o : Option X) → P → IfNone o P
if_none None p = p
if_none (Some x) p = tt
