-- The tests of a condition, with what they have in common in front.
use Rattle.std.proofs.Common.{◌≡◌, refl}
use Rattle.sql_grammar.specs.declared.kinds.Kind.TheVariants as k
use Rattle.sql_grammar.specs.Grammar.{Part, Tree, token, word, opt, line, comparisons, operand, Both, Left, Right, ◌▸◌, ◌∣◌}
use Rattle.sql_grammar.specs.Meaning.{tests, test_of, range, list, predicates, predicate_of, compare, operand_of, op_of}
use Rattle.sql_grammar.proofs.Same.{Same, factored, at_right_same, then_same}

abbrev pub compared : Part
compared = token comparisons ▸ line operand

abbrev negation : Part
negation = opt (word k.Not)

abbrev ranged : Part
ranged = word k.Between ▸ range

abbrev listed : Part
listed = word k.In ▸ list

abbrev matched : Part
matched = word k.Like ▸ word k.Text

-- each with its NOT
abbrev pub negated : Part
negated = negation ▸ ranged ∣ negation ▸ listed ∣ negation ▸ matched

-- NOT stands in front of three alternatives
abbrev pub in_turn : Same predicates negated
in_turn = then_same (factored {a = negation} {x = ranged} {y = listed ∣ matched}) (at_right_same (factored {a = negation} {x = listed} {y = matched}) (negation ▸ ranged))

-- and the operand in front of four
abbrev pub as_written : Same (line operand ▸ (compared ∣ negated)) tests
as_written = then_same factored (at_right_same (then_same factored (at_right_same factored (line operand ▸ negation ▸ ranged))) (line operand ▸ compared))

pub compare_is : (left : Tree (line operand)) (op : Tree (token comparisons)) (right : Tree (line operand))
    → test_of (as_written.to (Both left (Left (Both op right)))) ≡ compare (operand_of left) (op_of op) (operand_of right)
compare_is left op right = refl

pub predicate_is : (left : Tree (line operand)) (d : Tree predicates) → test_of (as_written.to (Both left (Right (in_turn.to d)))) ≡ predicate_of (operand_of left) d
predicate_is left (Both not (Left (Both keyword (Both low (Both conjunction high))))) = refl
predicate_is left (Both not (Right (Left (Both keyword (Both paren (Both first (Both more close))))))) = refl
predicate_is left (Both not (Right (Right (Both keyword pattern)))) = refl
