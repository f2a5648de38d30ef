use Rattle.std.proofs.Common.{◌≡◌, length, map}
use Rattle.sql_grammar.specs.declared.kinds.Kind.TheVariants as k
use Rattle.sql_grammar.specs.Words.{kind_among}
use Rattle.sql_grammar.proofs.kinds.kind_among.Given as goal

abbrev pub invariant-loop-words : goal.invariant-loop-words
invariant-loop-words l = kind_among (map (λ other. (other.0.now, other.1)) l.words) k.Name l.word ≡ kind_among (map (λ other. (other.0.now, other.1)) l.initial.words) k.Name l.word

abbrev pub decreases-loop-words : goal.decreases-loop-words
decreases-loop-words l = length l.words
