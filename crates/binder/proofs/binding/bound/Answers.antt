use Rattle.std.proofs.Common.{◌∙◌, map, ap, arith}
use Rattle.std.proofs.lemmas.Grind.{common_steps}
use Rattle.bound_query.specs.Query.{BoundQuery, Query}
use Rattle.binder.proofs.BindingFacts.{AreParts, parts-bound, parts-equalities, parts-known, parts-query, parts-widths, tables-few, tables-narrow}
use Rattle.binder.proofs.ClearFacts.{clear-within}
use Rattle.binder.proofs.binding.bound.Goals as goal

pub of-scope-requires : goal.of-scope-requires
of-scope-requires c = record { limits = clear-within c.args.script.now c.requires.none }

pub table_numbers-requires : goal.table_numbers-requires
table_numbers-requires c = record { few = tables-few c.args.script.now c.as_slice.result.now c.requires.none (c.as_slice.ensures ∙ c.in_ok-tables.ensures) }

pub variables-requires-clause-narrow : goal.variables-requires-clause-narrow
variables-requires-clause-narrow c = tables-narrow c.args.script.now c.as_slice-2.result.now c.requires.none (c.as_slice-2.ensures ∙ c.in_ok-tables.ensures)

pub variables-requires-clause-widths : goal.variables-requires-clause-widths
variables-requires-clause-widths c =
    let q : Query = record { aliases = c.in_ok-aliases.aliases; tables = c.in_ok-tables.tables; table_of = c.in_ok-table_of.table_of.items; conditions = c.in_ok-conditions.conditions; equalities = c.in_ok-equalities.equalities.items; output = c.in_ok-output.output } in
    let are : AreParts c.args.script.now c.of-scope.result (map (λ d. d.now) c.as_slice-conjuncts.result.now) q c.as_slice.result.now = record {
      scope_is = c.of-scope.ensures;
      conjuncts_are = ap (map (λ d. d.now)) c.as_slice-conjuncts.ensures.value ∙ c.in_ok-found.ensures;
      aliases = c.in_ok-aliases.ensures;
      tables = c.in_ok-tables.ensures;
      found_in = c.as_slice.ensures;
      table_of = c.in_ok-table_of.ensures;
      conditions = c.in_ok-conditions.ensures;
      equalities = c.in_ok-equalities.ensures;
      output = c.in_ok-output.ensures;
    } in
    let bound = parts-bound c.args.script.now c.of-scope.result (map (λ d. d.now) c.as_slice-conjuncts.result.now) q c.as_slice.result.now c.requires.sources c.requires.none are in
    parts-widths q c.as_slice-2.result.now c.as_slice-3.result.now c.as_slice-4.result.now bound c.as_slice-2.ensures c.as_slice-3.ensures.value c.as_slice-4.ensures.value

pub variables-requires-clause-equalities : goal.variables-requires-clause-equalities
variables-requires-clause-equalities c =
    let q : Query = record { aliases = c.in_ok-aliases.aliases; tables = c.in_ok-tables.tables; table_of = c.in_ok-table_of.table_of.items; conditions = c.in_ok-conditions.conditions; equalities = c.in_ok-equalities.equalities.items; output = c.in_ok-output.output } in
    let are : AreParts c.args.script.now c.of-scope.result (map (λ d. d.now) c.as_slice-conjuncts.result.now) q c.as_slice.result.now = record {
      scope_is = c.of-scope.ensures;
      conjuncts_are = ap (map (λ d. d.now)) c.as_slice-conjuncts.ensures.value ∙ c.in_ok-found.ensures;
      aliases = c.in_ok-aliases.ensures;
      tables = c.in_ok-tables.ensures;
      found_in = c.as_slice.ensures;
      table_of = c.in_ok-table_of.ensures;
      conditions = c.in_ok-conditions.ensures;
      equalities = c.in_ok-equalities.ensures;
      output = c.in_ok-output.ensures;
    } in
    let bound = parts-bound c.args.script.now c.of-scope.result (map (λ d. d.now) c.as_slice-conjuncts.result.now) q c.as_slice.result.now c.requires.sources c.requires.none are in
    parts-equalities q c.as_slice-2.result.now c.as_slice-3.result.now c.as_slice-4.result.now bound c.as_slice-2.ensures c.as_slice-3.ensures.value c.as_slice-4.ensures.value

pub make-requires : goal.make-requires
make-requires c =
    let q : Query = record { aliases = c.in_ok-aliases.aliases; tables = c.in_ok-tables.tables; table_of = c.in_ok-table_of.table_of.items; conditions = c.in_ok-conditions.conditions; equalities = c.in_ok-equalities.equalities.items; output = c.in_ok-output.output } in
    let are : AreParts c.args.script.now c.of-scope.result (map (λ d. d.now) c.as_slice-conjuncts.result.now) q c.as_slice.result.now = record {
      scope_is = c.of-scope.ensures;
      conjuncts_are = ap (map (λ d. d.now)) c.as_slice-conjuncts.ensures.value ∙ c.in_ok-found.ensures;
      aliases = c.in_ok-aliases.ensures;
      tables = c.in_ok-tables.ensures;
      found_in = c.as_slice.ensures;
      table_of = c.in_ok-table_of.ensures;
      conditions = c.in_ok-conditions.ensures;
      equalities = c.in_ok-equalities.ensures;
      output = c.in_ok-output.ensures;
    } in
    let bound = parts-bound c.args.script.now c.of-scope.result (map (λ d. d.now) c.as_slice-conjuncts.result.now) q c.as_slice.result.now c.requires.sources c.requires.none are in
    parts-known q c.as_slice-2.result.now c.as_slice-3.result.now c.as_slice-4.result.now bound c.as_slice-2.ensures c.as_slice-3.ensures.value c.as_slice-4.ensures.value c.in_ok-variables.variables c.in_ok-variables.ensures

pub returns : goal.returns
returns c =
    ap (λ (b : BoundQuery). b.query) c.make.ensures ∙ parts-query c.args.script.now c.of-scope.result (map (λ d. d.now) c.as_slice-conjuncts.result.now) (record { aliases = c.in_ok-aliases.aliases; tables = c.in_ok-tables.tables; table_of = c.in_ok-table_of.table_of.items; conditions = c.in_ok-conditions.conditions; equalities = c.in_ok-equalities.equalities.items; output = c.in_ok-output.output }) c.as_slice.result.now
    (record {
      scope_is = c.of-scope.ensures;
      conjuncts_are = ap (map (λ d. d.now)) c.as_slice-conjuncts.ensures.value ∙ c.in_ok-found.ensures;
      aliases = c.in_ok-aliases.ensures;
      tables = c.in_ok-tables.ensures;
      found_in = c.as_slice.ensures;
      table_of = c.in_ok-table_of.ensures;
      conditions = c.in_ok-conditions.ensures;
      equalities = c.in_ok-equalities.ensures;
      output = c.in_ok-output.ensures;
    })

pub same-aliases : goal.same-aliases
same-aliases c = grind (arith, common_steps)

pub same-tables : goal.same-tables
same-tables c = grind (arith, common_steps)

pub same-conditions : goal.same-conditions
same-conditions c = grind (arith, common_steps)
