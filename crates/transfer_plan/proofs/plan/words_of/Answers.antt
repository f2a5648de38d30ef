use Rattle.std.proofs.Common.{◌≡◌, ◌∙◌, ◌<◌, ap, length, ℕ, List, refl, sym, arith}
use Rattle.std.proofs.lemmas.Grind.{common_steps}
use Rattle.std.specs.Prelude.{slice_index_or}
use Rattle.std.proofs.lemmas.Bool.{ltb-true}
use Rattle.std.proofs.lemmas.List.{get_or-map}
use Rattle.transfer_plan.specs.declared.plan.Edge.{Edge}
use Rattle.transfer_plan.specs.TransferPlan.{edge_words}
use Rattle.transfer_plan.proofs.plan.words_of.Goals as goal

-- the words of the edge that stands at a place
at_place : {P : Type 0} (edges : List (Edge P)) (place : ℕ) (edge : Edge P) → place < length edges → edge ≡ slice_index_or edges place edge
    → slice_index_or (edge_words edges) place (0, 0) ≡ (edge.forward_words, edge.backward_words)
at_place {P} edges place edge less is =
    let words : Edge P → ℕ × ℕ = λ e. (e.forward_words, e.backward_words) in
    get_or-map words edges place edge (0, 0) less ∙ ap words (sym is)

pub returns-in-Some : goal.returns-in-Some
returns-in-Some g c =
    let less : c.link_of.result < length c.args.edges.now = ltb-true c.link_of.result (length c.args.edges.now) (sym c.in-Some.ensures.lookup.0) in
    let at = at_place c.args.edges.now c.link_of.result c.in-Some.edge.now less c.in-Some.ensures.lookup.1 in
    rw (c.in-ForwardKeys.is, ← c.link_of.ensures.link, at) refl

pub returns-in-Some-get : goal.returns-in-Some-get
returns-in-Some-get g c =
    let less : c.link_of-in-BackwardKeys.result < length c.args.edges.now = ltb-true c.link_of-in-BackwardKeys.result (length c.args.edges.now) (sym c.in-Some-get.ensures.lookup.0) in
    let at = at_place c.args.edges.now c.link_of-in-BackwardKeys.result c.in-Some-get.edge.now less c.in-Some-get.ensures.lookup.1 in
    rw (c.in-BackwardKeys.is, ← c.link_of-in-BackwardKeys.ensures.link, at) refl

pub returns-in-None-get : goal.returns-in-None-get
returns-in-None-get g c = grind (arith, common_steps)

pub returns-in-None : goal.returns-in-None
returns-in-None g c = grind (arith, common_steps)

pub returns-in-Forward : goal.returns-in-Forward
returns-in-Forward g c = grind (arith, common_steps)
