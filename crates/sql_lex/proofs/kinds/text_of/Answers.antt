use Rattle.std.proofs.Common.{arith}
use Rattle.std.proofs.lemmas.Grind.{common_steps}
use Rattle.sql_lex.proofs.Steps.{text-closed, text-ended, text-open, text_places}
use Rattle.sql_lex.proofs.kinds.text_of.Goals as goal
use Rattle.sql_lex.proofs.kinds.text_of.Goals.{then-b-eq-QUOTE, then-quoted+in_ok-push, else-quoted, else-b-eq-QUOTE+else-quoted-2+in_ok-push-2}

pub loop-i-preserved : goal.loop-i-preserved
loop-i-preserved c =
    elim c.if-b-eq-QUOTE.branch [
      | then-b-eq-QUOTE w ↦ elim w.if-quoted.branch [
        | then-quoted+in_ok-push v ↦ grind (arith, common_steps, text_places)
        | else-quoted v ↦ grind (arith, common_steps, text_places)
      ]
      | else-b-eq-QUOTE+else-quoted-2+in_ok-push-2 w ↦ grind (arith, common_steps, text_places)
    ]

pub returns-then-quoted-2-clause-text : goal.returns-then-quoted-2-clause-text
returns-then-quoted-2-clause-text c =
    text-closed c.loop-i.text.items c.args.bytes.now c.loop-i.i c.loop-i-test.true c.if-b-eq-QUOTE.false (rw c.if-quoted-2.true at c.loop-i.invariant)

pub returns-then-quoted-3-clause-text : goal.returns-then-quoted-3-clause-text
returns-then-quoted-3-clause-text c =
    text-ended c.loop-i.text.items c.args.bytes.now c.loop-i.i c.loop-i-test.false c.loop-i.auto.i-end (rw c.if-quoted-3.true at c.loop-i.invariant)

pub returns-else-quoted-3-clause-text : goal.returns-else-quoted-3-clause-text
returns-else-quoted-3-clause-text c =
    text-open c.loop-i.text.items c.args.bytes.now c.loop-i.i c.loop-i-test.false (rw c.if-quoted-3.false at c.loop-i.invariant)

pub loop-i-init : goal.loop-i-init
loop-i-init c = grind (arith, common_steps)
