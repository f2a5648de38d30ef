use Rattle.std.proofs.Common.{◌∙◌, ap, sym, subst, ◌++◌, ◌∷◌, [], map, ◌≡◌, List, ℕ, arith}
use Rattle.std.proofs.lemmas.Grind.{common_steps}
use Rattle.rpt_cli.specs.Orders.{pieces_of, relation_named}
use Rattle.rpt_cli.proofs.OrderFacts.{named-last, named-more}
use Rattle.rpt_cli.proofs.orders.relations_named.Goals as goal

pub pieces-preserved : goal.pieces-preserved
pieces-preserved c =
    let f = relation_named c.args.bound.now.query in
    let items = c.in_ok-push.ensures.items in
    let piece = c.relation_named.ensures ∙ ap f c.before-in-Some.ensures in
    subst (λ (rest : List ℕ). map f (pieces_of c.args.text.now) ≡ c.push.new.self.items ++ map f (pieces_of rest)) (sym c.behind-rest.ensures)
    (named-more f c.args.text.now c.pieces.rest.now c.pieces.order.items c.push.new.self.items c.comma_in.result c.in-Some.comma c.pieces.invariant c.comma_in.ensures c.in-Some.is
    (items ∙ ap (λ (n : ℕ). c.pieces.order.items ++ n ∷ []) piece))

pub returns : goal.returns
returns c =
    let f = relation_named c.args.bound.now.query in
    let items = c.in_ok-push-2.ensures.items in
    named-last f c.args.text.now c.pieces.rest.now c.pieces.order.items c.push-2.new.self.items c.comma_in.result c.pieces.invariant c.comma_in.ensures c.in_default.is
    (items ∙ ap (λ (n : ℕ). c.pieces.order.items ++ n ∷ []) c.relation_named-2.ensures)

pub pieces-smaller : goal.pieces-smaller
pieces-smaller c = grind (arith, common_steps)

pub behind-rest-requires : goal.behind-rest-requires
behind-rest-requires c = grind (arith, common_steps)
