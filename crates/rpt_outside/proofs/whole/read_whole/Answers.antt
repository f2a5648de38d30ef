use Rattle.std.proofs.Common.{◌≡◌, ◌∙◌, arith, ◌<◌, ◌++◌, length, take, true}
use Rattle.std.proofs.lemmas.Grind.{common_steps}
use Rattle.std.specs.Io.KnownBytes.{Consumes}
use Rattle.rpt_outside.proofs.Reading.{too_large, further}
use Rattle.rpt_outside.proofs.whole.read_whole.Goals as goal

pub returns-then-len-limit-clause-reads : goal.returns-then-len-limit-clause-reads
returns-then-len-limit-clause-reads g c =
    let files = g.F.Files in
    let so_far : Consumes (files.contents c.args.files.now c.args.name.now) (files.left c.read.new.self) c.extend_from_slice.new.self.items = grind (arith, common_steps, further) in
    let more : c.args.limit < length c.extend_from_slice.new.self.items = omega arith in
    let all = too_large _ _ _ _ so_far more in
    (all.0, record { there = c.loop-bytes.invariant.there; contents = all.1 }, all.2)

pub returns-then-is_err-2-clause-leaves : goal.returns-then-is_err-2-clause-leaves
returns-then-is_err-2-clause-leaves g c =
    let files = g.F.Files in
    let bytes = c.loop-bytes.bytes.items in
    let piece = take c.in-Ok-read.count c.read.new.into in
    let started : files.is_started c.read.new.self c.args.name.now ≡ true = grind (arith, common_steps) in
    let so_far : Consumes (files.contents c.args.files.now c.args.name.now) (files.left c.read.new.self) (bytes ++ piece) =
    further _ _ _ bytes piece c.loop-bytes.invariant.so_far c.in-Ok-read.ensures.bytes.0 in
    (started, (bytes ++ piece, so_far))

pub loop-bytes-preserved : goal.loop-bytes-preserved
loop-bytes-preserved g c =
    let files = g.F.Files in
    let before = c.loop-bytes.invariant in
    let so_far : Consumes (files.contents c.args.files.now c.args.name.now) (files.left c.read.new.self) c.extend_from_slice.new.self.items = grind (arith, common_steps, further) in
    record {
      room = grind (arith, common_steps);
      few = grind (arith, common_steps);
      so_far = so_far;
      started = grind (arith, common_steps);
      there = before.there;
      missing = c.read.ensures.missing ∙ before.missing;
      contents = c.read.ensures.contents ∙ before.contents;
      later = λ name. omega (arith, before.later name, c.read.ensures.later name);
    }

pub returns-then-len-limit-clause-leaves : goal.returns-then-len-limit-clause-leaves
returns-then-len-limit-clause-leaves g c = grind (arith, common_steps)

pub loop-bytes-init : goal.loop-bytes-init
loop-bytes-init g c = grind (arith, common_steps)

pub returns-then-len-limit-clause-later : goal.returns-then-len-limit-clause-later
returns-then-len-limit-clause-later g c = grind (arith, common_steps)

pub returns-in-Err-clause-leaves : goal.returns-in-Err-clause-leaves
returns-in-Err-clause-leaves g c = grind (arith, common_steps)

pub returns-in-Ok-eq0-clause-leaves : goal.returns-in-Ok-eq0-clause-leaves
returns-in-Ok-eq0-clause-leaves g c = grind (arith, common_steps)

pub loop-bytes-smaller : goal.loop-bytes-smaller
loop-bytes-smaller g c = grind (arith, common_steps)

pub slice_bounds-extend_from_slice-end : goal.slice_bounds-extend_from_slice-end
slice_bounds-extend_from_slice-end g c = grind (arith, common_steps)

pub returns-then-is_err-clause-leaves : goal.returns-then-is_err-clause-leaves
returns-then-is_err-clause-leaves g c = grind (arith, common_steps)

pub returns-in_default-clause-leaves : goal.returns-in_default-clause-leaves
returns-in_default-clause-leaves g c = grind (arith, common_steps)

pub returns-then-is_err-2-clause-later : goal.returns-then-is_err-2-clause-later
returns-then-is_err-2-clause-later g c = grind (arith, common_steps)

pub returns-in-Ok-eq0-clause-reads : goal.returns-in-Ok-eq0-clause-reads
returns-in-Ok-eq0-clause-reads g c = grind (arith, common_steps)

pub returns-in-Ok-eq0-clause-later : goal.returns-in-Ok-eq0-clause-later
returns-in-Ok-eq0-clause-later g c = grind (arith, common_steps)

pub returns-in-Err-clause-reads : goal.returns-in-Err-clause-reads
returns-in-Err-clause-reads g c = grind (arith, common_steps)

pub returns-in-Err-clause-later : goal.returns-in-Err-clause-later
returns-in-Err-clause-later g c = grind (arith, common_steps)
