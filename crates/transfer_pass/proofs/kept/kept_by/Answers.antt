use Rattle.std.proofs.Common.{◌≡◌, ◌∙◌, ◌+◌, Bool, ap, sym, arith, get_or, take, eq-eqb, eqb, ne_eqb, if◌then◌else◌}
use Rattle.transfer_core.specs.declared.plan.Port.{Port}
use Rattle.transfer_plan.specs.Kept.{Written, last_of, written_by}
use Rattle.transfer_plan.proofs.LastFacts.{ports-more}
use Rattle.transfer_pass.proofs.kept.kept_by.Goals as goal
use Rattle.transfer_pass.proofs.kept.kept_by.Goals.{then-port-places, else-port-places}

pub loop-port-preserved : goal.loop-port-preserved
loop-port-preserved c =
    let ports = c.args.ports.now in let items = c.args.items in let places = c.args.places in let i = c.loop-port.port-index in
    let none : Port = record { region = 0; places = 0 } in
    let a : Port = get_or ports i none in
    let before : Written = last_of c.args.before (written_by places items (take i ports)) in
    let more : last_of c.args.before (written_by places items (take (i + 1) ports)) ≡ (if eqb a.places places then record { region = a.region; items = items } else before) = ports-more places items ports i none c.args.before (omega arith) in
    elim c.if-port-places.branch [
      | then-port-places w ↦ w.kept-is ∙ sym (more ∙ ap (λ (b : Bool). if b then record { region = a.region; items = items } else before) (eq-eqb a.places places w.if-port-places.true))
      | else-port-places w ↦ w.kept-is ∙ c.loop-port.invariant ∙ sym (more ∙ ap (λ (b : Bool). if b then record { region = a.region; items = items } else before) (ne_eqb a.places places w.if-port-places.false))
    ]
