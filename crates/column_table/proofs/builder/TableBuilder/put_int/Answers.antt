use Rattle.std.proofs.Common.{◌≡◌, arith, refl, to_z, of_z, w64}
use Rattle.std.proofs.lemmas.Grind.{elements}
use Rattle.std.proofs.lemmas.Int.{to_z-of_z}
use Rattle.rpt_base.specs.declared.values.ColumnType.TheVariants as kind
use Rattle.rpt_base.specs.declared.values.Value.TheVariants as value
use Rattle.column_table.proofs.ColumnFacts.{next-is, shows-cut, shows-put}
use Rattle.column_table.proofs.ListFacts.{on-err}
use Rattle.column_table.proofs.builder.TableBuilder.put_int.Goals as goal

pub put_int-requires-clause-room : goal.put_int-requires-clause-room
put_int-requires-clause-room c =
    (next-is c.self.inside.columns.items c.self.inside.rows c.self.inside.filled c.args.self.now kind.Int c.index_mut-column.result.now c.self.invariant c.self.view_is c.requires c.index_mut-column.ensures.value).has.enough

pub invariant_of-self : goal.invariant_of-self
invariant_of-self c =
    let next = next-is c.self.inside.columns.items c.self.inside.rows c.self.inside.filled c.args.self.now kind.Int c.index_mut-column.result.now c.self.invariant c.self.view_is c.requires c.index_mut-column.ensures.value in
    (shows-cut c.self.inside.columns.items c.self.inside.rows c.self.inside.filled c.args.self.now kind.Int c.index_mut-column.result.now c.put_int.new.self c.self.invariant c.self.view_is next c.in_err-put_int.ensures.err).are

pub returns-in_err-put_int-clause-err : goal.returns-in_err-put_int-clause-err
returns-in_err-put_int-clause-err c =
    let next = next-is c.self.inside.columns.items c.self.inside.rows c.self.inside.filled c.args.self.now kind.Int c.index_mut-column.result.now c.self.invariant c.self.view_is c.requires c.index_mut-column.ensures.value in
    on-err c.from_residual.result
    (shows-cut c.self.inside.columns.items c.self.inside.rows c.self.inside.filled c.args.self.now kind.Int c.index_mut-column.result.now c.put_int.new.self c.self.invariant c.self.view_is next c.in_err-put_int.ensures.err).shows

pub overflow_add-self : goal.overflow_add-self
overflow_add-self c =
    let next = next-is c.self.inside.columns.items c.self.inside.rows c.self.inside.filled c.args.self.now kind.Int c.index_mut-column.result.now c.self.invariant c.self.view_is c.requires c.index_mut-column.ensures.value in
    omega (arith, next.within, c.self.invariant.few_columns)

pub invariant_of-self-2 : goal.invariant_of-self-2
invariant_of-self-2 c =
    let next = next-is c.self.inside.columns.items c.self.inside.rows c.self.inside.filled c.args.self.now kind.Int c.index_mut-column.result.now c.self.invariant c.self.view_is c.requires c.index_mut-column.ensures.value in
    let number : to_z w64 (of_z w64 c.args.number) ≡ c.args.number = to_z-of_z w64 c.args.number c.ranges.number in
    (shows-put c.self.inside.columns.items c.self.inside.rows c.self.inside.filled c.args.self.now kind.Int c.index_mut-column.result.now c.put_int.new.self (value.Int c.args.number) c.self.invariant c.self.view_is next refl (rw number at c.in_ok-put_int.ensures.ok)).are

pub returns-clause-ok : goal.returns-clause-ok
returns-clause-ok c =
    let next = next-is c.self.inside.columns.items c.self.inside.rows c.self.inside.filled c.args.self.now kind.Int c.index_mut-column.result.now c.self.invariant c.self.view_is c.requires c.index_mut-column.ensures.value in
    let number : to_z w64 (of_z w64 c.args.number) ≡ c.args.number = to_z-of_z w64 c.args.number c.ranges.number in
    (shows-put c.self.inside.columns.items c.self.inside.rows c.self.inside.filled c.args.self.now kind.Int c.index_mut-column.result.now c.put_int.new.self (value.Int c.args.number) c.self.invariant c.self.view_is next refl (rw number at c.in_ok-put_int.ensures.ok)).shows

pub index_mut-column-requires : goal.index_mut-column-requires
index_mut-column-requires c = grind (arith, elements)

pub put_int-requires-clause-kind : goal.put_int-requires-clause-kind
put_int-requires-clause-kind c = grind (arith, elements)
