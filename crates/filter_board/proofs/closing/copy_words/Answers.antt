use Rattle.std.proofs.Common.{ℕ, ◌+◌, get_or, set, get_or-set_same, get_or-set_other, arith, ap, sym, ◌∙◌}
use Rattle.std.specs.Slots.{slots_items}
use mathlib.Core.Logic.{dite}
use native.Mathlib.Decide.{ℕ_discrete}
use Rattle.transfer_core.proofs.Lists.{place_of_at}
use Rattle.filter_board.proofs.closing.copy_words.Goals as goal

pub loop-place-preserved : goal.loop-place-preserved
loop-place-preserved c = λ k less. dite (ℕ_discrete k c.loop-place.place)
    (λ e. ap (λ (n : ℕ). get_or (set c.loop-place.region c.loop-place.place c.word.result) n 0) e ∙ get_or-set_same c.loop-place.region c.loop-place.place c.word.result 0 (omega (arith, c.loop-place-test.true, c.loop-place.auto.region))
    ∙ sym (place_of_at (slots_items c.args.closed.now.words) (c.args.first + c.loop-place.place) c.word.result 0 c.word.ensures) ∙ ap (λ (n : ℕ). get_or (slots_items c.args.closed.now.words) (c.args.first + n) 0) (sym e))
    (λ ne. get_or-set_other c.loop-place.region c.loop-place.place k c.word.result 0 ne ∙ c.loop-place.invariant k (omega (arith, less, ne)))
