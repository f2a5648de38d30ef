use Rattle.std.proofs.Common.{length, sym, ap, ◌∙◌, arith, length-drop}
use Rattle.std.proofs.lemmas.Grind.{common_steps}
use Rattle.sql_lex.proofs.Found.{item_at-sized}
use Rattle.sql_lex.proofs.Steps.{at_item}
use Rattle.sql_lex.proofs.lexing.tokens_of.Goals as goal

pub skipped-rest-requires : goal.skipped-rest-requires
skipped-rest-requires c =
    (item_at-sized c.loop-rest.rest.now c.in-Some.kind c.in-Some.size (sym c.in_ok-kind.ensures ∙ c.in-Some.is)).1

pub loop-rest-smaller : goal.loop-rest-smaller
loop-rest-smaller c =
    let sized = item_at-sized c.loop-rest.rest.now c.in-Some.kind c.in-Some.size (sym c.in_ok-kind.ensures ∙ c.in-Some.is) in
    let behind = ap length c.skipped-rest.ensures ∙ length-drop c.in-Some.size c.loop-rest.rest.now in
    omega arith

pub loop-rest-preserved : goal.loop-rest-preserved
loop-rest-preserved c =
    let found = sym c.in_ok-kind.ensures ∙ c.in-Some.is in
    let sized = item_at-sized c.loop-rest.rest.now c.in-Some.kind c.in-Some.size found in
    let behind = ap length c.skipped-rest.ensures ∙ length-drop c.in-Some.size c.loop-rest.rest.now in
    let invariant = c.loop-rest.invariant in
    let within = invariant.within in
    record {
      within = omega arith;
      said = at_item _ _ _ _ _ c.in-Some.kind c.in-Some.size _ _ _ _ invariant.said found sized.0 c.skipped-rest.ensures (omega arith) c.offset_of-start.ensures c.offset_of.ensures c.in_ok-push_given.ensures;
    }

pub offset_of-requires-clause-within : goal.offset_of-requires-clause-within
offset_of-requires-clause-within c = grind (arith, common_steps)

pub returns : goal.returns
returns c = grind (arith, common_steps)
