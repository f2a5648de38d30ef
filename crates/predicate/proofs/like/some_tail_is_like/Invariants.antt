use Rattle.std.proofs.Common.{◌≡◌, ◌+◌, length}
use denote.Text.{Utf8}
use denote.Shadow.{shadow}
use Rattle.std.specs.Str.{chars}
use Rattle.predicate.specs.Like.{is_like, some_tail}
use Rattle.predicate.proofs.like.some_tail_is_like.Given as goal

abbrev pub invariant-loop-behind : goal.invariant-loop-behind
invariant-loop-behind l =
    shadow (Utf8 l.pattern) × shadow (Utf8 l.text) × (some_tail (is_like (chars l.pattern)) (chars l.text) ≡ some_tail (is_like (chars l.fn.pattern)) (chars l.fn.text))

abbrev pub decreases-loop-behind : goal.decreases-loop-behind
decreases-loop-behind l = length l.pattern + length l.text
