use Rattle.std.proofs.Common.{◌≡◌, rules, true, to_z, of_z, w64, arith}
use Rattle.std.proofs.lemmas.Grind.{common_steps}
use Rattle.std.proofs.lemmas.Int.{to_z-of_z}
use Rattle.std.specs.Result.{is_ok}
use Rattle.column_table.proofs.ColumnFacts.{ints-put}
use Rattle.column_table.proofs.column.Column.put_int.Goals as goal

pub returns-clause-ok : goal.returns-clause-ok
returns-clause-ok c =
    let good : is_ok c.push.result ≡ true = search rules in
    let number : to_z w64 (of_z w64 c.args.number) ≡ c.args.number = to_z-of_z w64 c.args.number c.ranges.number in
    let pushed = rw (good, c.truncate.ensures.items, number) at c.push.ensures.items in
    ints-put c.args.self.now c.in-Numbers.numbers.items c.push.new.self.items c.args.at c.args.number (rw c.in-Numbers.is at c.self.view_is) pushed

pub returns-in_err-push-in-Numbers-clause-err : goal.returns-in_err-push-in-Numbers-clause-err
returns-in_err-push-in-Numbers-clause-err c = grind (arith, common_steps)
