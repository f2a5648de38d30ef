use Rattle.std.proofs.Common.{◌∙◌, ◌+◌, [], List, ap, sym, subst, arith}
use Rattle.sql_grammar.specs.declared.tree.CreateTable.{CreateTable}
use Rattle.column_table.specs.declared.declared.Decl.{Decl}
use Rattle.binder.specs.Binding.{tables_behind, with_table}
use Rattle.binder.proofs.UsedFacts.{IsUsedTo, used-more, used-end}
use Rattle.binder.proofs.used.tables_of.Goals as goal

pub loop-source-preserved : goal.loop-source-preserved
loop-source-preserved c =
    let created = c.args.script.now.tables in
    let sources = c.as_slice-source-items.result.now in
    let used = c.loop-source.used.items in
    let n = c.loop-source.source-index in
    let e = c.in_ok-add_table.ensures ∙ ap (λ (ts : List CreateTable). with_table ts used c.source-item.result) c.as_slice.ensures ∙ ap (with_table created used) c.source-item.is in
    let P : List Decl → Type 0 = λ used. IsUsedTo created sources used (n + 1) in
    subst P (sym e) (used-more created sources used n c.source-item.result (omega arith) c.loop-source.invariant)

pub returns : goal.returns
returns c =
    let created = c.args.script.now.tables in
    c.from_vec.ensures
    ∙ used-end created c.as_slice-source-items.result.now c.loop-source.used.items c.loop-source.source-index (omega arith) c.loop-source.invariant
    ∙ ap (tables_behind created []) c.as_slice-source-items.ensures
