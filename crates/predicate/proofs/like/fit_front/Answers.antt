use Rattle.std.proofs.Common.{arith, rules}
use Rattle.predicate.proofs.LikeFacts.{reaches-start, reaches-more, reaches-percent, reaches-whole, reaches-past, reaches-short, reaches-differs}
use Rattle.predicate.proofs.like.fit_front.Goals as goal

pub loop-wanted-init : goal.loop-wanted-init
loop-wanted-init c = (c.utf8.pattern, c.utf8.text, reaches-start _ _, omega arith, omega arith)

pub returns-then-wanted-eq37-clause-fit : goal.returns-then-wanted-eq37-clause-fit
returns-then-wanted-eq37-clause-fit c =
    reaches-percent _ _ _ _ c.loop-wanted.invariant.2 c.in-Some.wanted _ c.in-Some.ensures.chars c.if-wanted-eq37.true

pub returns-in_default-split_first-clause-fit : goal.returns-in_default-split_first-clause-fit
returns-in_default-split_first-clause-fit c =
    reaches-short _ _ _ _ c.loop-wanted.invariant.2 c.in-Some.wanted _ c.in-Some.ensures.chars c.in_default-split_first.ensures.chars c.if-wanted-eq37.false

pub returns-then-wanted-found-clause-fit : goal.returns-then-wanted-found-clause-fit
returns-then-wanted-found-clause-fit c =
    reaches-differs _ _ _ _ c.loop-wanted.invariant.2 c.in-Some.wanted _ c.in-Some-split_first.found _ c.in-Some.ensures.chars c.in-Some-split_first.ensures.chars
    c.if-wanted-eq37.false c.if-wanted-ne95.true c.if-wanted-found.true

pub loop-wanted-preserved : goal.loop-wanted-preserved
loop-wanted-preserved c = (
  search rules,
  search rules,
  reaches-more _ _ _ _ c.loop-wanted.invariant.2 c.in-Some.wanted _ c.in-Some-split_first.found _ c.in-Some.ensures.chars c.in-Some-split_first.ensures.chars
      c.if-wanted-eq37.false c.else-wanted-ne95.either,
  omega (arith, c.in-Some.ensures.shorter, c.loop-wanted.invariant.3),
  omega (arith, c.in-Some-split_first.ensures.shorter, c.loop-wanted.invariant.4),
)

pub returns-in-Some-split_first-2-clause-fit : goal.returns-in-Some-split_first-2-clause-fit
returns-in-Some-split_first-2-clause-fit c =
    reaches-past _ _ _ _ c.loop-wanted.invariant.2 _ _ c.in_default.ensures.chars c.in-Some-split_first-2.ensures.chars

pub returns-in-None-clause-fit : goal.returns-in-None-clause-fit
returns-in-None-clause-fit c = reaches-whole _ _ _ _ c.loop-wanted.invariant.2 c.in_default.ensures.chars c.in-None.ensures.chars
