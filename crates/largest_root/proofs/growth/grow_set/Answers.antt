use Rattle.std.proofs.Common.{◌≡◌, ◌<◌, [], ◌∷◌, ◌++◌, length, sym, ap, ◌∙◌, subst, append_assoc}
use Rattle.join_graph.specs.JoinList.{listed_by, set_of}
use Rattle.largest_root.specs.Steps.{IsBestOf, IsUsedUp}
use Rattle.join_graph.proofs.Unlisted.{unlisted}
use Rattle.largest_root.proofs.GrowthFacts.{steps-more, steps-end, unlisted-falls}
use Rattle.largest_root.proofs.growth.grow_set.Goals as goal

best : (c : goal.In_ok-push) → IsBestOf c.args.graph.now c.args.sizes.now (set_of c.args.set) (listed_by (c.args.root ∷ []) c.loop-link.links.items) (length c.args.graph.now) c.in-Some.link
best c = subst (λ z. IsBestOf c.args.graph.now c.args.sizes.now (set_of c.args.set) (listed_by (c.args.root ∷ []) z) (length c.args.graph.now) c.in-Some.link) c.deref.ensures.value c.in-Some.ensures

pushed : (c : goal.In_ok-push) → c.push.new.self.items ≡ c.loop-link.links.items ++ c.in-Some.link ∷ []
pushed c = c.in_ok-push.ensures.items

pub loop-link-smaller : goal.loop-link-smaller
loop-link-smaller c =
    let b = best c in
    subst (λ z. length (unlisted (length c.args.graph.now) (listed_by (c.args.root ∷ []) z)) < length (unlisted (length c.args.graph.now) (listed_by (c.args.root ∷ []) c.loop-link.links.items)))
    (sym (pushed c))
    (unlisted-falls (length c.args.graph.now) c.args.root c.loop-link.links.items c.in-Some.link b.open_pair.inside b.open_pair.fresh)

pub loop-link-preserved : goal.loop-link-preserved
loop-link-preserved c =
    let i = c.loop-link.invariant in (
      i.0 ++ c.in-Some.link ∷ [],
      pushed c ∙ ap (λ z. z ++ c.in-Some.link ∷ []) i.1 ∙ append_assoc c.args.links.now.items i.0 (c.in-Some.link ∷ []),
      steps-more c.args.graph.now c.args.sizes.now (set_of c.args.set) c.args.root c.args.links.now.items c.loop-link.links.items i.0 i.1 i.2 c.requires.within c.requires.known c.in-Some.link (best c),
    )

pub returns : goal.returns
returns c =
    let i = c.loop-link.invariant in (
      i.0,
      i.1,
      steps-end c.args.graph.now c.args.sizes.now (set_of c.args.set) c.args.root c.args.links.now.items c.loop-link.links.items i.0 i.1 i.2 c.requires.within
          (subst (λ z. IsUsedUp (set_of c.args.set) (listed_by (c.args.root ∷ []) z) (length c.args.graph.now)) c.deref.ensures.value c.in_default.ensures),
    )
