use Rattle.std.proofs.Common.{◌∙◌, List, ap, sym, arith, get_or}
use Rattle.transfer_core.specs.declared.plan.Pipe.{Pipe}
use Rattle.transfer_core.specs.declared.plan.Port.{Port}
use Rattle.transfer_plan.specs.Kept.{Written, last_of, nowhere, written_by}
use Rattle.transfer_plan.proofs.LastFacts.{pipes-more}
use Rattle.transfer_pass.proofs.kept.kept_of.Goals as goal

pub loop-pipe-preserved : goal.loop-pipe-preserved
loop-pipe-preserved c =
    let pipes = c.args.pipes.now in let places = c.args.places in let i = c.loop-pipe.pipe-index in let x = c.pipe-item.result in let kept = c.loop-pipe.kept in
    c.kept_by-kept.ensures
    ∙ ap (λ (ports : List Port). last_of kept (written_by places x.items ports)) c.as_slice.ensures
    ∙ ap (λ (y : Pipe). last_of kept (written_by places y.items y.writes)) c.pipe-item.is
    ∙ ap (λ (w : Written). last_of w (written_by places (get_or pipes i x).items (get_or pipes i x).writes)) c.loop-pipe.invariant
    ∙ sym (pipes-more places pipes i x nowhere (omega arith))
