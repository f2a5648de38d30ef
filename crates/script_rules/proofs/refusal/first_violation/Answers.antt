use Rattle.std.proofs.Common.{◌∙◌, [], ap, sym}
use Rattle.std.specs.Prelude.{None}
use Rattle.script_rules.specs.Violations.{each_behind, first_by_phase, first_of, query_phases, source_violations, table_violations}
use Rattle.script_rules.proofs.LimitFacts.{within_limits}
use Rattle.script_rules.proofs.RefusalFacts.{if_none, refusal-query, refusal-sources, refusal-tables}
use Rattle.script_rules.proofs.refusal.first_violation.Goals as goal

pub returns-in-Some-clause-violation : goal.returns-in-Some-clause-violation
returns-in-Some-clause-violation c =
    let tables = ap (λ tables. first_of None (each_behind table_violations [] tables)) (sym c.as_slice.ensures) ∙ sym c.in_tables.ensures in
    sym (refusal-tables c.args.script.now c.in-Some.violation (tables ∙ c.in-Some.is))

pub returns-in-Some-in_sources-clause-violation : goal.returns-in-Some-in_sources-clause-violation
returns-in-Some-in_sources-clause-violation c =
    let tables = ap (λ tables. first_of None (each_behind table_violations [] tables)) (sym c.as_slice.ensures) ∙ sym c.in_tables.ensures in
    let sources =
    ap (λ sources. first_of None (each_behind (source_violations c.args.script.now.tables) [] sources)) (sym c.as_slice-3.ensures)
    ∙ ap (λ tables. first_of None (each_behind (source_violations tables) [] c.as_slice-3.result.now)) (sym c.as_slice-2.ensures)
    ∙ sym c.in_sources.ensures
    in
    sym (refusal-sources c.args.script.now c.in-Some-in_sources.violation (tables ∙ c.in_default.is) (sources ∙ c.in-Some-in_sources.is))

pub of-requires : goal.of-requires
of-requires c =
    let tables = ap (λ tables. first_of None (each_behind table_violations [] tables)) (sym c.as_slice.ensures) ∙ sym c.in_tables.ensures in
    let sources =
    ap (λ sources. first_of None (each_behind (source_violations c.args.script.now.tables) [] sources)) (sym c.as_slice-3.ensures)
    ∙ ap (λ tables. first_of None (each_behind (source_violations tables) [] c.as_slice-3.result.now)) (sym c.as_slice-2.ensures)
    ∙ sym c.in_sources.ensures
    in
    record { limits = within_limits c.args.script.now (tables ∙ c.in_default.is) (sources ∙ c.in_default-in_sources.is) }

pub returns-clause-violation : goal.returns-clause-violation
returns-clause-violation c =
    let tables = ap (λ tables. first_of None (each_behind table_violations [] tables)) (sym c.as_slice.ensures) ∙ sym c.in_tables.ensures in
    let sources =
    ap (λ sources. first_of None (each_behind (source_violations c.args.script.now.tables) [] sources)) (sym c.as_slice-3.ensures)
    ∙ ap (λ tables. first_of None (each_behind (source_violations tables) [] c.as_slice-3.result.now)) (sym c.as_slice-2.ensures)
    ∙ sym c.in_sources.ensures
    in
    c.in_query.ensures ∙ ap (λ scope. first_by_phase (query_phases scope c.args.script.now)) c.of.ensures ∙ sym (refusal-query c.args.script.now (tables ∙ c.in_default.is) (sources ∙ c.in_default-in_sources.is))

pub returns-clause-limits : goal.returns-clause-limits
returns-clause-limits c =
    let tables = ap (λ tables. first_of None (each_behind table_violations [] tables)) (sym c.as_slice.ensures) ∙ sym c.in_tables.ensures in
    let sources =
    ap (λ sources. first_of None (each_behind (source_violations c.args.script.now.tables) [] sources)) (sym c.as_slice-3.ensures)
    ∙ ap (λ tables. first_of None (each_behind (source_violations tables) [] c.as_slice-3.result.now)) (sym c.as_slice-2.ensures)
    ∙ sym c.in_sources.ensures
    in
    if_none c.in_query.result (within_limits c.args.script.now (tables ∙ c.in_default.is) (sources ∙ c.in_default-in_sources.is))
