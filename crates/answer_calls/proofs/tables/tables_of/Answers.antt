use Rattle.std.proofs.Common.{◌∙◌, ap, sym, List, [], ◌∷◌, ◌++◌, map, take, arith}
use Rattle.std.proofs.lemmas.Grind.{common_steps}
use Rattle.std.proofs.lemmas.List.{map-append, take_more}
use Rattle.std.proofs.lemmas.Option.{get_or_from_slice_get, slice_get_within}
use Rattle.rpt_base.specs.declared.values.ColumnType.{ColumnType}
use Rattle.column_table.specs.Table.{Rows, types_of}
use Rattle.column_table.specs.declared.declared.Decl.{Decl}
use Rattle.answer_calls.proofs.tables.tables_of.Goals as goal

pub loop-number-preserved : goal.loop-number-preserved
loop-number-preserved c =
    let decls = c.args.bound.now.query.tables in
    let k = c.loop-number.number in
    let decl = c.decl.result.now in
    let table = c.in_ok-table_of.field-0 in
    let kinds = λ (t : Rows). t.kinds in
    let types = λ (d : Decl). types_of d.columns in
    let next = take_more decls k decl (slice_get_within decls k decl c.decl.ensures.decl)
    ∙ ap (λ (d : Decl). take k decls ++ d ∷ []) (get_or_from_slice_get decls k decl decl c.decl.ensures.decl) in
    ap (map kinds) c.in_ok-push.ensures.items
    ∙ map-append kinds c.loop-number.tables.items (table ∷ [])
    ∙ ap (λ (ks : List (List ColumnType)). ks ++ table.kinds ∷ []) c.loop-number.invariant
    ∙ ap (λ (ts : List ColumnType). map types (take k decls) ++ ts ∷ []) c.in_ok-table_of.ensures
    ∙ sym (ap (map types) next ∙ map-append types (take k decls) (decl ∷ []))

pub returns : goal.returns
returns c = grind (arith, common_steps)
