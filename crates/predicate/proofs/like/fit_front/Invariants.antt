use Rattle.std.proofs.Common.{◌≤◌, length}
use denote.Text.{Utf8}
use denote.Shadow.{shadow}
use Rattle.std.specs.Str.{chars}
use Rattle.predicate.proofs.LikeFacts.{Reaches}
use Rattle.predicate.proofs.like.fit_front.Given as goal

abbrev pub invariant-loop-wanted : goal.invariant-loop-wanted
invariant-loop-wanted l =
    shadow (Utf8 l.pattern) × shadow (Utf8 l.text) × Reaches (chars l.fn.pattern) (chars l.fn.text) (chars l.pattern) (chars l.text)
    × (length l.pattern ≤ length l.fn.pattern) × (length l.text ≤ length l.fn.text)

abbrev pub decreases-loop-wanted : goal.decreases-loop-wanted
decreases-loop-wanted l = length l.pattern
