-- A script that was read has no more levels when it is printed.
use Rattle.std.proofs.Common.{◌≡◌, ◌∙◌, ap, sym, subst, ℕ, ◌≤◌, ◌+◌, List, [], ◌∷◌, ◌++◌, Bool, arith, map}
use Rattle.std.specs.Prelude.{max}
use Rattle.rpt_base.specs.declared.values.Value.{Value}
use Rattle.sql_lex.specs.declared.tokens.Token.{Token}
use Rattle.sql_grammar.specs.declared.kinds.Kind.TheVariants as k
use Rattle.sql_grammar.specs.declared.tree.Cond.{Cond}
use Rattle.sql_grammar.specs.declared.tree.Cond.TheVariants as c
use Rattle.sql_grammar.specs.declared.tree.Cond.TheVariants.{rolls-And, rolls-Or, rolls-Not, rolls-Compare, rolls-Between, rolls-InList, rolls-Like}
use Rattle.sql_grammar.specs.declared.tree.Cond.TheOpen.{Cond-F, And, Or, Not, Compare, Between, InList, Like}
use Rattle.sql_grammar.specs.declared.tree.Cond.TheViews.{roll-Cond}
use Rattle.sql_grammar.specs.declared.tree.Cond.TheFolds.{fold-roll-Cond, ind-Cond, map-Cond}
use Rattle.sql_grammar.specs.declared.tree.Expr.{Expr}
use Rattle.rpt_base.specs.declared.comparisons.Comparison.{Comparison}
use Rattle.sql_grammar.specs.declared.tree.Script.{Script}
use Rattle.sql_grammar.specs.declared.tree.Source.{Source}
use Rattle.sql_grammar.specs.Places.{place_of_expr}
use Rattle.sql_grammar.specs.Grammar as g
use Rattle.sql_grammar.specs.Grammar.{word, ◌▸◌, ◌∣◌, many, line, opt, Tree, depth, Both, Left, Right, End, More, In, By}
use Rattle.sql_grammar.specs.Meaning.{operand_of, op_of, is_there, text_of, literal_of, literals_of, tests, test_of, joined_conditions, cond_of, conjs_of, conj_of, negs_of, neg_of, prim_of, join, joins_of, source_of, more_sources_of, filter_of, script_of}
use Rattle.sql_grammar.specs.Sentence.{IsSentence}
use Rattle.sql_print.specs.declared.conditions.Room.{Room}
use Rattle.sql_print.specs.declared.conditions.Room.TheVariants as room
use Rattle.sql_print.specs.Printed.{levels_step, cond_levels, filter_levels, sources_levels, script_levels}
use Rattle.sql_print.proofs.Nested.{all_levels, and_levels, or_levels, not_levels}

-- a test has no levels
of_compare : (at : ℕ) (op : Comparison) (left right : Expr) (in_room : Room) → cond_levels (c.Compare at op left right) in_room ≡ 0
of_compare at op left right in_room = ap (λ (x : Cond). cond_levels x in_room) (sym (rolls-Compare at op left right)) ∙ ap (λ (f : Room → ℕ). f in_room) (fold-roll-Cond (Room → ℕ) levels_step (Compare at op left right))

of_between : (at : ℕ) (negated : Bool) (operand low high : Expr) (in_room : Room) → cond_levels (c.Between at negated operand low high) in_room ≡ 0
of_between at negated operand low high in_room =
    ap (λ (x : Cond). cond_levels x in_room) (sym (rolls-Between at negated operand low high)) ∙ ap (λ (f : Room → ℕ). f in_room) (fold-roll-Cond (Room → ℕ) levels_step (Between at negated operand low high))

of_list : (at : ℕ) (negated : Bool) (operand : Expr) (values : List Value) (in_room : Room) → cond_levels (c.InList at negated operand values) in_room ≡ 0
of_list at negated operand values in_room =
    ap (λ (x : Cond). cond_levels x in_room) (sym (rolls-InList at negated operand values)) ∙ ap (λ (f : Room → ℕ). f in_room) (fold-roll-Cond (Room → ℕ) levels_step (InList at negated operand values))

of_like : (at : ℕ) (negated : Bool) (operand : Expr) (pattern : List ℕ) (in_room : Room) → cond_levels (c.Like at negated operand pattern) in_room ≡ 0
of_like at negated operand pattern in_room =
    ap (λ (x : Cond). cond_levels x in_room) (sym (rolls-Like at negated operand pattern)) ∙ ap (λ (f : Room → ℕ). f in_room) (fold-roll-Cond (Room → ℕ) levels_step (Like at negated operand pattern))

of_test : (d : Tree tests) (in_room : Room) → cond_levels (test_of d) in_room ≡ 0
of_test (Left (Both left (Both op right))) in_room = of_compare (place_of_expr (operand_of left)) (op_of op) (operand_of left) (operand_of right) in_room
of_test (Right (Left (Both operand (Both n (Both keyword (Both low (Both conjunction high))))))) in_room =
    of_between (place_of_expr (operand_of operand)) (is_there n) (operand_of operand) (operand_of low) (operand_of high) in_room
of_test (Right (Right (Left (Both operand (Both n (Both keyword (Both left (Both first (Both more right))))))))) in_room =
    of_list (place_of_expr (operand_of operand)) (is_there n) (operand_of operand) (literal_of first ∷ literals_of more) in_room
of_test (Right (Right (Right (Both operand (Both n (Both keyword pattern)))))) in_room =
    of_like (place_of_expr (operand_of operand)) (is_there n) (operand_of operand) (text_of pattern) in_room

-- in an OR and in an AND a condition has as many levels or one more
abbrev Rises : Cond → Type 0
Rises x = (cond_levels x room.Whole ≤ cond_levels x room.InOr) × (cond_levels x room.InOr ≤ cond_levels x room.InAnd) × (cond_levels x room.InAnd ≤ cond_levels x room.Whole + 1)

risen : (x : Cond) (a b d : ℕ) → cond_levels x room.Whole ≡ a → cond_levels x room.InOr ≡ b → cond_levels x room.InAnd ≡ d → a ≤ b → b ≤ d → d ≤ a + 1 → Rises x
risen x a b d e f g h i j = (omega arith, omega arith, omega arith)

and_rises : (members : List Cond) → Rises (c.And members)
and_rises members =
    let n = all_levels room.InAnd members in
    risen (c.And members) n n (n + 1) (and_levels members room.Whole) (and_levels members room.InOr) (and_levels members room.InAnd) (omega arith) (omega arith) (omega arith)

or_rises : (members : List Cond) → Rises (c.Or members)
or_rises members =
    let n = all_levels room.InOr members in
    risen (c.Or members) n (n + 1) (n + 1) (or_levels members room.Whole) (or_levels members room.InOr) (or_levels members room.InAnd) (omega arith) (omega arith) (omega arith)

even : (x : Cond) (n : ℕ) → ((in_room : Room) → cond_levels x in_room ≡ n) → Rises x
even x n same = risen x n n n (same room.Whole) (same room.InOr) (same room.InAnd) (omega arith) (omega arith) (omega arith)

step : (y : Cond-F ((x : Cond) × Rises x)) → Rises (roll-Cond (map-Cond ((x : Cond) × Rises x) Cond (λ member. member.0) y))
step (And members) = subst Rises (sym (rolls-And (map (λ member. member.0) members))) (and_rises (map (λ member. member.0) members))
step (Or members) = subst Rises (sym (rolls-Or (map (λ member. member.0) members))) (or_rises (map (λ member. member.0) members))
step (Not at inner) = subst Rises (sym (rolls-Not at inner.0)) (even (c.Not at inner.0) (cond_levels inner.0 room.InAnd + 1) (λ in_room. not_levels at inner.0 in_room))
step (Compare at op left right) = subst Rises (sym (rolls-Compare at op left right)) (even (c.Compare at op left right) 0 (λ in_room. of_compare at op left right in_room))
step (Between at negated operand low high) = subst Rises (sym (rolls-Between at negated operand low high)) (even (c.Between at negated operand low high) 0 (λ in_room. of_between at negated operand low high in_room))
step (InList at negated operand values) = subst Rises (sym (rolls-InList at negated operand values)) (even (c.InList at negated operand values) 0 (λ in_room. of_list at negated operand values in_room))
step (Like at negated operand pattern) = subst Rises (sym (rolls-Like at negated operand pattern)) (even (c.Like at negated operand pattern) 0 (λ in_room. of_like at negated operand pattern in_room))

rises : (x : Cond) → Rises x
rises = ind-Cond Rises (λ x y is. subst (λ (z : Cond-F Cond). Rises (roll-Cond z)) is (step y))

-- what several have
abbrev Within : Room → ℕ → List Cond → Type 0
Within in_room n xs = all_levels in_room xs ≤ n

and_joined : (x : Cond) (xs : List Cond) (n : ℕ) → cond_levels x room.InAnd ≤ n → Within room.InAnd n xs → cond_levels (joined_conditions c.And x xs) room.InOr ≤ n
and_joined x [] n h j = let r = rises x in let e = r.1 in omega arith
and_joined x (y ∷ ys) n h j = let e = and_levels (x ∷ y ∷ ys) room.InOr in omega arith

or_joined : (x : Cond) (xs : List Cond) (n : ℕ) → cond_levels x room.InOr ≤ n → Within room.InOr n xs → cond_levels (joined_conditions c.Or x xs) room.Whole ≤ n
or_joined x [] n h j = let r = rises x in let e = r.0 in omega arith
or_joined x (y ∷ ys) n h j = let e = or_levels (x ∷ y ∷ ys) room.Whole in omega arith

mutual
  in_cond : (d : Tree (line g.cond)) → cond_levels (cond_of d) room.Whole ≤ depth d
  in_cond (By (Both first more)) = or_joined (conj_of first) (conjs_of more) (max (depth first) (depth more)) (let h = in_conj first in omega arith) (let h = in_conjs more in omega arith)

  in_conjs : (d : Tree (many (word k.Or ▸ line g.conj))) → Within room.InOr (depth d) (conjs_of d)
  in_conjs End = omega arith
  in_conjs (More (Both keyword first) more) = let h = in_conj first in let j = in_conjs more in omega arith

  in_conj : (d : Tree (line g.conj)) → cond_levels (conj_of d) room.InOr ≤ depth d
  in_conj (By (Both first more)) = and_joined (neg_of first) (negs_of more) (max (depth first) (depth more)) (let h = in_neg first in omega arith) (let h = in_negs more in omega arith)

  in_negs : (d : Tree (many (word k.And ▸ line g.neg))) → Within room.InAnd (depth d) (negs_of d)
  in_negs End = omega arith
  in_negs (More (Both keyword first) more) = let h = in_neg first in let j = in_negs more in omega arith

  in_neg : (d : Tree (line g.neg)) → cond_levels (neg_of d) room.InAnd ≤ depth d
  in_neg (By (Left (In t is inner))) = let h = in_neg inner in let e = not_levels t.start (neg_of inner) room.InAnd in omega arith
  in_neg (By (Right prim)) = in_prim prim

  in_prim : (d : Tree (line g.prim)) → cond_levels (prim_of d) room.InAnd ≤ depth d
  in_prim (By (Left (In t is (Both inner close)))) = let h = in_cond inner in let r = rises (cond_of inner) in let e = r.2 in omega arith
  in_prim (By (Right test)) = let e = of_test test room.InAnd in omega arith

in_filter : (d : Tree (opt (word k.Where ▸ line g.cond))) → filter_levels (filter_of d) ≤ depth d
in_filter (Left a) = omega arith
in_filter (Right (Both keyword d)) = let h = in_cond d in omega arith

both_levels : (xs ys : List Source) → sources_levels (xs ++ ys) ≡ max (sources_levels xs) (sources_levels ys)
both_levels [] ys = omega arith
both_levels (x ∷ xs) ys = let h = both_levels xs ys in omega arith

in_joins : (d : Tree (many join)) → sources_levels (joins_of d) ≤ depth d
in_joins End = omega arith
in_joins (More (Both inner (Both keyword (Both (By (Both table alias)) (Both on condition)))) more) = let h = in_cond condition in let j = in_joins more in omega arith

in_source : (d : Tree (line g.source)) → sources_levels (source_of d) ≤ depth d
in_source (By (Both (By (Both table alias)) joins)) = let h = in_joins joins in omega arith

in_more : (d : Tree (many (word k.Comma ▸ line g.source))) → sources_levels (more_sources_of d) ≤ depth d
in_more End = omega arith
in_more (More (Both comma source) more) = let h = in_source source in let j = in_more more in let e = both_levels (source_of source) (more_sources_of more) in omega arith

in_script : (d : Tree (line g.script)) → script_levels (script_of d) ≤ depth d
in_script (By (Both tables (Both (By (Both keyword (Both items (Both from (Both first (Both more filter)))))) semicolon))) =
    let h = in_source first in let j = in_more more in let e = both_levels (source_of first) (more_sources_of more) in let l = in_filter filter in omega arith

pub read_levels : (levels : ℕ) (tokens : List Token) (script : Script) → IsSentence levels tokens script → script_levels script ≤ levels
read_levels levels tokens script s = subst (λ (x : Script). script_levels x ≤ levels) s.means (let h = in_script s.derivation in let w = s.within in omega arith)
