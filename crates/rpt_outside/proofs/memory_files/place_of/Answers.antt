use Rattle.std.proofs.Common.{arith, ◌≡◌, ◌<◌, ℕ, length, subst, get_or, false, Vec, Global}
use Rattle.std.specs.Str.{bytes_eq}
use Rattle.std.proofs.lemmas.Grind.{common_steps}
use Rattle.rpt_outside.proofs.Places.{place-first, place-none}
use Rattle.rpt_outside.proofs.memory_files.place_of.Goals as goal

pub returns-then-eq-clause-place : goal.returns-then-eq-clause-place
returns-then-eq-clause-place c =
    place-first c.args.files.now c.args.name.now c.loop-at.at c.index-files-at.result c.loop-at.invariant.bound (c.loop-at.invariant.none c.index-files-at.result)
    (λ h. grind (arith, common_steps))

pub returns-clause-place : goal.returns-clause-place
returns-clause-place c =
    let files = c.args.files.now in
    let end : c.loop-at.at ≡ length files = omega arith in
    place-none files c.args.name.now
    (let P : ℕ → Type 0 = λ n. (d : Vec ℕ Global × Vec ℕ Global) (k : ℕ) → k < n → bytes_eq (get_or files k d).0.items c.args.name.now ≡ false in subst P end c.loop-at.invariant.none)
