use Rattle.std.proofs.Common.{◌++◌, ◌∙◌, ap, sym, append_assoc, ◌≡◌, arith}
use Rattle.std.proofs.lemmas.Grind.{common_steps}
use Rattle.refusal_lines.proofs.Sinks.{Puts-ok, Puts-broken, Puts-after_text, Appends-Appends}
use Rattle.refusal_lines.proofs.pieces.put_pieces.Goals as goal

pub returns-in-Err : goal.returns-in-Err
returns-in-Err g c =
    let front = c.split_at.result.0.now in
    let back = c.split_at.result.1.now in
    let so_far = c.loop-rest.invariant.so_far in
    let halves : c.loop-rest.rest.now ≡ front ++ back = grind (arith, common_steps) in
    let piece = Puts-broken _ _ _ _ front back c.loop-rest.rest.now c.put.result _ c.in-Err.is halves c.put.ensures in
    Puts-after_text _ _ _ _ _ _ so_far.0 c.loop-rest.rest.now _ _ so_far.1 so_far.2 c.loop-rest.invariant.later piece

pub loop-rest-preserved : goal.loop-rest-preserved
loop-rest-preserved g c =
    let front = c.split_at.result.0.now in
    let back = c.split_at.result.1.now in
    let so_far = c.loop-rest.invariant.so_far in
    let halves : c.loop-rest.rest.now ≡ front ++ back = grind (arith, common_steps) in
    let piece = Puts-ok _ _ _ _ front c.put.result _ c.in_default.is c.put.ensures in
    record {
      so_far = (so_far.0 ++ front, so_far.1 ∙ (ap (λ v. so_far.0 ++ v) halves ∙ sym (append_assoc so_far.0 front back)), Appends-Appends _ _ _ so_far.0 front so_far.2 piece);
      later = omega arith;
    }

pub returns : goal.returns
returns g c =
    let so_far = c.loop-rest.invariant.so_far in
    Puts-after_text _ _ _ _ _ _ so_far.0 c.loop-rest.rest.now _ _ so_far.1 so_far.2 c.loop-rest.invariant.later c.put-2.ensures
