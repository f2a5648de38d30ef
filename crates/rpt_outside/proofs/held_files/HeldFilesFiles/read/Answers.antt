use Rattle.std.proofs.Common.{◌∙◌, ap, refl, drop, arith}
use Rattle.std.proofs.Math.Seq.{drop-nil}
use Rattle.rpt_outside.proofs.Places.{bytes_at-past}
use Rattle.rpt_outside.proofs.held_files.HeldFilesFiles.read.Goals as goal

pub returns-then-self-len-clause-bytes : goal.returns-then-self-len-clause-bytes
returns-then-self-len-clause-bytes c =
    let self = c.args.self.now in (
      refl,
      (λ e some. ap (drop self.at) (bytes_at-past self.files.items self.started (omega arith)) ∙ drop-nil self.at),
    )
