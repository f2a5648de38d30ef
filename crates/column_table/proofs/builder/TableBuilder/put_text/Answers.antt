use Rattle.std.proofs.Common.{arith, refl}
use Rattle.std.proofs.lemmas.Grind.{elements}
use Rattle.rpt_base.specs.declared.values.ColumnType.TheVariants as kind
use Rattle.rpt_base.specs.declared.values.Value.TheVariants as value
use Rattle.column_table.proofs.ColumnFacts.{next-is, shows-cut, shows-put}
use Rattle.column_table.proofs.ListFacts.{on-err}
use Rattle.column_table.proofs.builder.TableBuilder.put_text.Goals as goal

pub put_text-requires-clause-room : goal.put_text-requires-clause-room
put_text-requires-clause-room c =
    (next-is c.self.inside.columns.items c.self.inside.rows c.self.inside.filled c.args.self.now kind.Text c.index_mut-column.result.now c.self.invariant c.self.view_is c.requires c.index_mut-column.ensures.value).has.enough

pub invariant_of-self : goal.invariant_of-self
invariant_of-self c =
    let next = next-is c.self.inside.columns.items c.self.inside.rows c.self.inside.filled c.args.self.now kind.Text c.index_mut-column.result.now c.self.invariant c.self.view_is c.requires c.index_mut-column.ensures.value in
    (shows-cut c.self.inside.columns.items c.self.inside.rows c.self.inside.filled c.args.self.now kind.Text c.index_mut-column.result.now c.put_text.new.self c.self.invariant c.self.view_is next c.in_err-put_text.ensures.err).are

pub returns-in_err-put_text-clause-err : goal.returns-in_err-put_text-clause-err
returns-in_err-put_text-clause-err c =
    let next = next-is c.self.inside.columns.items c.self.inside.rows c.self.inside.filled c.args.self.now kind.Text c.index_mut-column.result.now c.self.invariant c.self.view_is c.requires c.index_mut-column.ensures.value in
    on-err c.from_residual.result
    (shows-cut c.self.inside.columns.items c.self.inside.rows c.self.inside.filled c.args.self.now kind.Text c.index_mut-column.result.now c.put_text.new.self c.self.invariant c.self.view_is next c.in_err-put_text.ensures.err).shows

pub overflow_add-self : goal.overflow_add-self
overflow_add-self c =
    let next = next-is c.self.inside.columns.items c.self.inside.rows c.self.inside.filled c.args.self.now kind.Text c.index_mut-column.result.now c.self.invariant c.self.view_is c.requires c.index_mut-column.ensures.value in
    omega (arith, next.within, c.self.invariant.few_columns)

pub invariant_of-self-2 : goal.invariant_of-self-2
invariant_of-self-2 c =
    let next = next-is c.self.inside.columns.items c.self.inside.rows c.self.inside.filled c.args.self.now kind.Text c.index_mut-column.result.now c.self.invariant c.self.view_is c.requires c.index_mut-column.ensures.value in
    (shows-put c.self.inside.columns.items c.self.inside.rows c.self.inside.filled c.args.self.now kind.Text c.index_mut-column.result.now c.put_text.new.self (value.Text c.args.text.now) c.self.invariant c.self.view_is next refl c.in_ok-put_text.ensures.ok).are

pub returns-clause-ok : goal.returns-clause-ok
returns-clause-ok c =
    let next = next-is c.self.inside.columns.items c.self.inside.rows c.self.inside.filled c.args.self.now kind.Text c.index_mut-column.result.now c.self.invariant c.self.view_is c.requires c.index_mut-column.ensures.value in
    (shows-put c.self.inside.columns.items c.self.inside.rows c.self.inside.filled c.args.self.now kind.Text c.index_mut-column.result.now c.put_text.new.self (value.Text c.args.text.now) c.self.invariant c.self.view_is next refl c.in_ok-put_text.ensures.ok).shows

pub put_text-requires-clause-kind : goal.put_text-requires-clause-kind
put_text-requires-clause-kind c = grind (arith, elements)

pub index_mut-column-requires : goal.index_mut-column-requires
index_mut-column-requires c = grind (arith, elements)
