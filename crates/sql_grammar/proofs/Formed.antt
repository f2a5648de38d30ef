-- The tree of a sentence is well formed.
use Rattle.std.proofs.Common.{◌≡◌, ℕ, List, [], ◌∷◌, ◌++◌, refl, sym, ap, ◌∙◌, subst, arith, map, Bool, true}
use Rattle.std.specs.Prelude.{◌&&◌}
use Rattle.std.specs.List.{list_all}
use Rattle.sql_lex.specs.declared.tokens.Token.{Token}
use Rattle.sql_grammar.specs.declared.kinds.Kind.TheVariants as k
use Rattle.sql_grammar.specs.declared.tree.Cond.{Cond}
use Rattle.sql_grammar.specs.declared.tree.Cond.TheOpen.{And, Or, Not, Compare, Between, InList, Like}
use Rattle.sql_grammar.specs.declared.tree.Cond.TheFolds.{fold-roll-Cond}
use Rattle.sql_grammar.specs.declared.tree.Cond.TheVariants.{rolls-And, rolls-Or, rolls-Not, rolls-Compare, rolls-Between, rolls-InList, rolls-Like}
use Rattle.sql_grammar.specs.declared.tree.Cond.TheVariants as c
use Rattle.rpt_base.specs.declared.values.Value.{Value}
use Rattle.sql_grammar.specs.declared.tree.Expr.{Expr}
use Rattle.rpt_base.specs.declared.comparisons.Comparison.{Comparison}
use Rattle.sql_grammar.specs.Places.{place_of_expr}
use Rattle.sql_grammar.specs.declared.tree.Script.{Script}
use Rattle.sql_grammar.specs.declared.tree.Source.{Source}
use Rattle.sql_grammar.specs.Grammar.{Tree, line, many, opt, word, ◌▸◌, Both, Left, Right, End, More, In, By}
use Rattle.sql_grammar.specs.Grammar as g
use Rattle.sql_grammar.specs.Meaning.{operand_of, op_of, is_there, literal_of, literals_of, text_of, cond_of, conjs_of, conj_of, negs_of, neg_of, prim_of, tests, test_of, joined_conditions, join, joins_of, source_of, more_sources_of, filter_of, creates_of, items_of, script_of}
use Rattle.sql_grammar.specs.Formed.{has_one, has_two, formed_step, is_cond, IsFilter, AreSources, IsFrom, AreItems, HaveColumns, IsWellFormed}
use Rattle.sql_grammar.specs.Sentence.{IsSentence}

-- well formed conditions
abbrev are_conds : List Cond → Bool
are_conds conditions = list_all (λ member. member) (map is_cond conditions)

and_is : (members : List Cond) → is_cond (c.And members) ≡ (has_two (map is_cond members) && are_conds members)
and_is members = ap is_cond (sym (rolls-And members)) ∙ fold-roll-Cond Bool formed_step (And members)

or_is : (members : List Cond) → is_cond (c.Or members) ≡ (has_two (map is_cond members) && are_conds members)
or_is members = ap is_cond (sym (rolls-Or members)) ∙ fold-roll-Cond Bool formed_step (Or members)

pub not_is : (at : ℕ) (inner : Cond) → is_cond (c.Not at inner) ≡ is_cond inner
not_is at inner = ap is_cond (sym (rolls-Not at inner)) ∙ fold-roll-Cond Bool formed_step (Not at inner)

compare_is : (at : ℕ) (op : Comparison) (left right : Expr) → is_cond (c.Compare at op left right) ≡ true
compare_is at op left right = ap is_cond (sym (rolls-Compare at op left right)) ∙ fold-roll-Cond Bool formed_step (Compare at op left right)

between_is : (at : ℕ) (negated : Bool) (operand low high : Expr) → is_cond (c.Between at negated operand low high) ≡ true
between_is at negated operand low high = ap is_cond (sym (rolls-Between at negated operand low high)) ∙ fold-roll-Cond Bool formed_step (Between at negated operand low high)

pub list_is : (at : ℕ) (negated : Bool) (operand : Expr) (values : List Value) → is_cond (c.InList at negated operand values) ≡ has_one values
list_is at negated operand values = ap is_cond (sym (rolls-InList at negated operand values)) ∙ fold-roll-Cond Bool formed_step (InList at negated operand values)

like_is : (at : ℕ) (negated : Bool) (operand : Expr) (pattern : List ℕ) → is_cond (c.Like at negated operand pattern) ≡ true
like_is at negated operand pattern = ap is_cond (sym (rolls-Like at negated operand pattern)) ∙ fold-roll-Cond Bool formed_step (Like at negated operand pattern)

all_joined : (x : Cond) (xs : List Cond) → is_cond x ≡ true → are_conds xs ≡ true → is_cond (joined_conditions c.And x xs) ≡ true
all_joined x [] h k = h
all_joined x (y ∷ ys) h k = and_is (x ∷ y ∷ ys) ∙ rw (h, k) refl

any_joined : (x : Cond) (xs : List Cond) → is_cond x ≡ true → are_conds xs ≡ true → is_cond (joined_conditions c.Or x xs) ≡ true
any_joined x [] h k = h
any_joined x (y ∷ ys) h k = or_is (x ∷ y ∷ ys) ∙ rw (h, k) refl

test_formed : (d : Tree tests) → is_cond (test_of d) ≡ true
test_formed (Left (Both left (Both op right))) = compare_is (place_of_expr (operand_of left)) (op_of op) (operand_of left) (operand_of right)
test_formed (Right (Left (Both operand (Both not (Both keyword (Both low (Both conjunction high))))))) =
    between_is (place_of_expr (operand_of operand)) (is_there not) (operand_of operand) (operand_of low) (operand_of high)
test_formed (Right (Right (Left (Both operand (Both not (Both keyword (Both left (Both first (Both more right))))))))) =
    list_is (place_of_expr (operand_of operand)) (is_there not) (operand_of operand) (literal_of first ∷ literals_of more)
test_formed (Right (Right (Right (Both operand (Both not (Both keyword pattern)))))) =
    like_is (place_of_expr (operand_of operand)) (is_there not) (operand_of operand) (text_of pattern)

mutual
  pub cond_formed : (d : Tree (line g.cond)) → is_cond (cond_of d) ≡ true
  cond_formed (By (Both first more)) = any_joined _ _ (conj_formed first) (conjs_formed more)

  conjs_formed : (d : Tree (many (word k.Or ▸ line g.conj))) → are_conds (conjs_of d) ≡ true
  conjs_formed End = refl
  conjs_formed (More (Both keyword first) more) = rw (conj_formed first, conjs_formed more) refl

  conj_formed : (d : Tree (line g.conj)) → is_cond (conj_of d) ≡ true
  conj_formed (By (Both first more)) = all_joined _ _ (neg_formed first) (negs_formed more)

  negs_formed : (d : Tree (many (word k.And ▸ line g.neg))) → are_conds (negs_of d) ≡ true
  negs_formed End = refl
  negs_formed (More (Both keyword first) more) = rw (neg_formed first, negs_formed more) refl

  neg_formed : (d : Tree (line g.neg)) → is_cond (neg_of d) ≡ true
  neg_formed (By (Left (In not is inner))) = not_is not.start (neg_of inner) ∙ neg_formed inner
  neg_formed (By (Right prim)) = prim_formed prim

  prim_formed : (d : Tree (line g.prim)) → is_cond (prim_of d) ≡ true
  prim_formed (By (Left (In paren is (Both inner close)))) = cond_formed inner
  prim_formed (By (Right test)) = test_formed test

filter_formed : (d : Tree (opt (word k.Where ▸ line g.cond))) → IsFilter (filter_of d)
filter_formed (Left _) = tt
filter_formed (Right (Both keyword condition)) = cond_formed condition

-- behind these sources stand others
behind : (xs ys : List Source) → AreSources xs → AreSources ys → AreSources (xs ++ ys)
behind [] ys h k = k
behind (x ∷ xs) ys h k = (h.0, behind xs ys h.1 k)

joins_formed : (d : Tree (many join)) → AreSources (joins_of d)
joins_formed End = tt
joins_formed (More (Both inner (Both keyword (Both (By (Both table alias)) (Both on condition)))) more) = (cond_formed condition, joins_formed more)

source_formed : (d : Tree (line g.source)) → AreSources (source_of d)
source_formed (By (Both (By (Both table alias)) joins)) = (tt, joins_formed joins)

more_formed : (d : Tree (many (word k.Comma ▸ line g.source))) → AreSources (more_sources_of d)
more_formed End = tt
more_formed (More (Both comma source) more) = behind (source_of source) (more_sources_of more) (source_formed source) (more_formed more)

from_formed : (d : Tree (line g.source)) (more : Tree (many (word k.Comma ▸ line g.source))) → IsFrom (source_of d ++ more_sources_of more)
from_formed (By (Both (By (Both table alias)) joins)) more = (refl, behind (joins_of joins) (more_sources_of more) (joins_formed joins) (more_formed more))

items_formed : (d : Tree (line g.items)) → AreItems (items_of d)
items_formed (By (Left star)) = tt
items_formed (By (Right (Both first more))) = omega arith

creates_formed : (d : Tree (many (line g.create))) → HaveColumns (creates_of d)
creates_formed End = tt
creates_formed (More (By (Both keyword (Both table (Both called (Both left (Both first (Both more (Both right semicolon)))))))) more') = (omega arith, creates_formed more')

script_formed : (d : Tree (line g.script)) → IsWellFormed (script_of d)
script_formed (By (Both tables (Both (By (Both keyword (Both items (Both from (Both first (Both more filter)))))) semicolon))) = record {
  tables = creates_formed tables;
  items = items_formed items;
  sources = from_formed first more;
  filter = filter_formed filter;
}

pub formed : {n : ℕ} {ts : List Token} {x : Script} → IsSentence n ts x → IsWellFormed x
formed s = subst (λ (y : Script). IsWellFormed y) s.means (script_formed s.derivation)
