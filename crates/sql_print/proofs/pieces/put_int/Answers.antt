use Rattle.std.proofs.Common.{◌≡◌, ◌∙◌, ap, subst, ℤ, pos, false, nat_abs, w64}
use Rattle.std.specs.Int.Signed.{le_z}
use Rattle.std.proofs.lemmas.Int.{to_z-of_z}
use Rattle.sql_print.proofs.Putting.{then, same, negative_is}
use Rattle.sql_print.proofs.pieces.put_int.Goals as goal

pub returns : goal.returns
returns c =
    let written = to_z-of_z w64 c.args.written c.ranges.written in
    same (negative_is c.args.written c.unsigned_abs.result (subst (λ (z : ℤ). le_z (pos 0) z ≡ false) written c.if-written-ge0.false) (c.unsigned_abs.ensures.value ∙ ap nat_abs written))
    (then c.in_ok-put_mark.ensures c.in_ok-put_magnitude.ensures)
