-- Derivations of conditions.
use Rattle.std.proofs.Common.{◌≡◌, ◌∙◌, ap, sym, refl, subst, ℕ, List, [], ◌∷◌, Bool, true, false, map, codes}
use Rattle.rpt_base.specs.declared.values.Value.{Value}
use Rattle.sql_lex.specs.declared.tokens.Token.{Token}
use Rattle.sql_lex.specs.declared.tokens.Mark.TheVariants as marks
use Rattle.sql_grammar.specs.declared.kinds.Kind.{Kind}
use Rattle.sql_grammar.specs.declared.kinds.Kind.TheVariants as k
use Rattle.sql_grammar.specs.Kinds.{kind_of, among}
use Rattle.sql_grammar.specs.declared.tree.Cond.{Cond}
use Rattle.sql_grammar.specs.declared.tree.Cond.TheVariants as c
use Rattle.sql_grammar.specs.declared.tree.Cond.TheVariants.{rolls-And, rolls-Or, rolls-Not, rolls-Compare, rolls-Between, rolls-InList, rolls-Like}
use Rattle.sql_grammar.specs.declared.tree.Cond.TheOpen.{And, Or, Not, Compare, Between, InList, Like}
use Rattle.sql_grammar.specs.declared.tree.Cond.TheFolds.{fold-roll-Cond}
use Rattle.sql_grammar.specs.declared.tree.Expr.{Expr}
use Rattle.rpt_base.specs.declared.comparisons.Comparison.{Comparison}
use Rattle.rpt_base.specs.declared.comparisons.Comparison.TheVariants as o
use Rattle.sql_grammar.specs.Places.{place_of_expr}
use Rattle.sql_grammar.specs.Grammar as g
use Rattle.sql_grammar.specs.Grammar.{Part, token, word, ◌▸◌, ◌∣◌, many, line, opt, comparisons, Tree, Both, Left, Right, More, In}
use Rattle.sql_grammar.specs.Meaning.{operand_of, op_of, op_by, is_there, text_of, literal_of, literals_of, tests, test_of}
use Rattle.sql_print.specs.Pieces as piece
use Rattle.sql_print.specs.Writes.{token_of}
use Rattle.sql_print.specs.Printed.{expr_pieces, value_pieces, behind_each, op_mark, not_pieces}
use Rattle.sql_print.specs.Unplaced.{unplaced_expr, unplaced_step, unplaced_cond}
use Rattle.sql_print.proofs.Derives.{Derives, both, as_left, as_right, absent, no_more, one_more, a_token, Pair, Behind, pair, behind}
use Rattle.sql_print.proofs.Operands.{Any, a_word, a_mark, mark_kind, a_text, a_literal, an_operand}

-- ---- conditions without their places

pub and_unplaced : (members : List Cond) → unplaced_cond (c.And members) ≡ c.And (map unplaced_cond members)
and_unplaced members = ap unplaced_cond (sym (rolls-And members)) ∙ fold-roll-Cond Cond unplaced_step (And members)

pub or_unplaced : (members : List Cond) → unplaced_cond (c.Or members) ≡ c.Or (map unplaced_cond members)
or_unplaced members = ap unplaced_cond (sym (rolls-Or members)) ∙ fold-roll-Cond Cond unplaced_step (Or members)

pub not_unplaced : (at : ℕ) (inner : Cond) → unplaced_cond (c.Not at inner) ≡ c.Not 0 (unplaced_cond inner)
not_unplaced at inner = ap unplaced_cond (sym (rolls-Not at inner)) ∙ fold-roll-Cond Cond unplaced_step (Not at inner)

compare_unplaced : (at : ℕ) (op : Comparison) (left right : Expr) → unplaced_cond (c.Compare at op left right) ≡ c.Compare 0 op (unplaced_expr left) (unplaced_expr right)
compare_unplaced at op left right = ap unplaced_cond (sym (rolls-Compare at op left right)) ∙ fold-roll-Cond Cond unplaced_step (Compare at op left right)

between_unplaced : (at : ℕ) (negated : Bool) (operand low high : Expr)
    → unplaced_cond (c.Between at negated operand low high) ≡ c.Between 0 negated (unplaced_expr operand) (unplaced_expr low) (unplaced_expr high)
between_unplaced at negated operand low high = ap unplaced_cond (sym (rolls-Between at negated operand low high)) ∙ fold-roll-Cond Cond unplaced_step (Between at negated operand low high)

list_unplaced : (at : ℕ) (negated : Bool) (operand : Expr) (values : List Value) → unplaced_cond (c.InList at negated operand values) ≡ c.InList 0 negated (unplaced_expr operand) values
list_unplaced at negated operand values = ap unplaced_cond (sym (rolls-InList at negated operand values)) ∙ fold-roll-Cond Cond unplaced_step (InList at negated operand values)

like_unplaced : (at : ℕ) (negated : Bool) (operand : Expr) (pattern : List ℕ) → unplaced_cond (c.Like at negated operand pattern) ≡ c.Like 0 negated (unplaced_expr operand) pattern
like_unplaced at negated operand pattern = ap unplaced_cond (sym (rolls-Like at negated operand pattern)) ∙ fold-roll-Cond Cond unplaced_step (Like at negated operand pattern)

-- ---- tests

op_kind : (op : Comparison) (u : Token) → u.kind ≡ token_of (piece.mark (op_mark op)) → (among comparisons (kind_of u) ≡ true) × (op_by (kind_of u) ≡ op)
op_kind o.Eq u h = by_kind k.Eq refl refl (mark_kind marks.Eq k.Eq refl u h)
  where
    by_kind : (x : Kind) → among comparisons x ≡ true → op_by x ≡ o.Eq → kind_of u ≡ x → (among comparisons (kind_of u) ≡ true) × (op_by (kind_of u) ≡ o.Eq)
    by_kind x a b e = (subst (λ (y : Kind). among comparisons y ≡ true) (sym e) a, ap op_by e ∙ b)
op_kind o.Ne u h = let e = mark_kind marks.Ne k.Ne refl u h in (subst (λ (y : Kind). among comparisons y ≡ true) (sym e) refl, ap op_by e)
op_kind o.Lt u h = let e = mark_kind marks.Lt k.Lt refl u h in (subst (λ (y : Kind). among comparisons y ≡ true) (sym e) refl, ap op_by e)
op_kind o.Le u h = let e = mark_kind marks.Le k.Le refl u h in (subst (λ (y : Kind). among comparisons y ≡ true) (sym e) refl, ap op_by e)
op_kind o.Gt u h = let e = mark_kind marks.Gt k.Gt refl u h in (subst (λ (y : Kind). among comparisons y ≡ true) (sym e) refl, ap op_by e)
op_kind o.Ge u h = let e = mark_kind marks.Ge k.Ge refl u h in (subst (λ (y : Kind). among comparisons y ≡ true) (sym e) refl, ap op_by e)

an_op : (op : Comparison) (m : ℕ) → Derives (token comparisons) (λ d. op_of d ≡ op) m (λ more. piece.mark (op_mark op) ∷ more)
an_op op m = a_token comparisons (piece.mark (op_mark op)) (λ d. op_of d ≡ op) m (λ u h holds. (op_kind op u h).0) (λ u i h. (op_kind op u h).1)

a_not : (negated : Bool) (m : ℕ) → Derives (opt (word k.Not)) (λ d. is_there d ≡ negated) m (not_pieces negated)
a_not true m = as_right (λ d. is_there d ≡ true) (λ more. piece.word (codes "NOT") ∷ more) (a_word (codes "NOT") k.Not m refl) (λ a h. refl)
a_not false m = as_left (λ d. is_there d ≡ false) (λ more. more) (absent Any m tt) (λ a h. refl)

more_literals : (values : List Value) (m : ℕ) → Derives (many (word k.Comma ▸ line g.literal)) (λ d. literals_of d ≡ values) m (behind_each (piece.mark marks.Comma) value_pieces values)
more_literals [] m = no_more (word k.Comma ▸ line g.literal) (λ d. literals_of d ≡ []) m refl
more_literals (v ∷ vs) m =
    one_more (λ d. literals_of d ≡ v ∷ vs) (λ more. piece.mark marks.Comma ∷ value_pieces v more) (behind_each (piece.mark marks.Comma) value_pieces vs)
    (both (IsNext v) (λ more. piece.mark marks.Comma ∷ more) (value_pieces v) (a_mark marks.Comma k.Comma m refl) (a_literal v m) (λ a b h i. i))
    (more_literals vs m) next
  where
    IsNext : Value → Tree (word k.Comma ▸ line g.literal) → Type 0
    IsNext v (Both comma d) = literal_of d ≡ v

    next : (a : Tree (word k.Comma ▸ line g.literal)) (b : Tree (many (word k.Comma ▸ line g.literal))) → IsNext v a → literals_of b ≡ vs → literals_of (More a b) ≡ v ∷ vs
    next (Both comma d) b h i = ap (λ (x : Value). x ∷ literals_of b) h ∙ ap (λ (xs : List Value). v ∷ xs) i

-- ---- tests

-- without their places, these are one condition
abbrev pub OfTests : Cond → Tree tests → Type 0
OfTests condition d = unplaced_cond (test_of d) ≡ unplaced_cond condition

abbrev IsExpr : Expr → Tree (line g.operand) → Type 0
IsExpr expr d = unplaced_expr (operand_of d) ≡ unplaced_expr expr

compared : (at : ℕ) (op : Comparison) (left right : Expr) (d : Tree (line g.operand ▸ token comparisons ▸ line g.operand))
    → Pair (IsExpr left) (Pair (λ x. op_of x ≡ op) (IsExpr right)) d → OfTests (c.Compare at op left right) (Left d)
compared at op left right (Both a (Both b d)) h =
    compare_unplaced (place_of_expr (operand_of a)) (op_of b) (operand_of a) (operand_of d)
    ∙ ap (λ (x : Expr). c.Compare 0 (op_of b) x (unplaced_expr (operand_of d))) h.0 ∙ ap (λ (x : Comparison). c.Compare 0 x (unplaced_expr left) (unplaced_expr (operand_of d))) h.1.0
    ∙ ap (λ (x : Expr). c.Compare 0 op (unplaced_expr left) x) h.1.1 ∙ sym (compare_unplaced at op left right)

pub a_compare : (at : ℕ) (op : Comparison) (left right : Expr) (m : ℕ)
    → Derives tests (OfTests (c.Compare at op left right)) m (λ more. expr_pieces left (piece.mark (op_mark op) ∷ expr_pieces right more))
a_compare at op left right m =
    as_left (OfTests (c.Compare at op left right)) (λ more. expr_pieces left (piece.mark (op_mark op) ∷ expr_pieces right more))
    (pair (expr_pieces left) (λ more. piece.mark (op_mark op) ∷ expr_pieces right more) (an_operand left m)
    (pair (λ more. piece.mark (op_mark op) ∷ more) (expr_pieces right) (an_op op m) (an_operand right m))) (compared at op left right)

abbrev IsNegated : Bool → Tree (opt (word k.Not)) → Type 0
IsNegated negated d = is_there d ≡ negated

abbrev range_part : Part
range_part = line g.operand ▸ opt (word k.Not) ▸ word k.Between ▸ line g.operand ▸ word k.And ▸ line g.operand

ranged : (at : ℕ) (negated : Bool) (operand low high : Expr) (d : Tree range_part)
    → Pair (IsExpr operand) (Pair (IsNegated negated) (Behind (Pair (IsExpr low) (Behind (IsExpr high))))) d → OfTests (c.Between at negated operand low high) (Right (Left d))
ranged at negated operand low high (Both a (Both n (Both keyword (Both l (Both conjunction r))))) h =
    between_unplaced (place_of_expr (operand_of a)) (is_there n) (operand_of a) (operand_of l) (operand_of r)
    ∙ ap (λ (x : Expr). c.Between 0 (is_there n) x (unplaced_expr (operand_of l)) (unplaced_expr (operand_of r))) h.0
    ∙ ap (λ (x : Bool). c.Between 0 x (unplaced_expr operand) (unplaced_expr (operand_of l)) (unplaced_expr (operand_of r))) h.1.0
    ∙ ap (λ (x : Expr). c.Between 0 negated (unplaced_expr operand) x (unplaced_expr (operand_of r))) h.1.1.0
    ∙ ap (λ (x : Expr). c.Between 0 negated (unplaced_expr operand) (unplaced_expr low) x) h.1.1.1
    ∙ sym (between_unplaced at negated operand low high)

pub a_between : (at : ℕ) (negated : Bool) (operand low high : Expr) (m : ℕ)
    → Derives tests (OfTests (c.Between at negated operand low high)) m
    (λ more. expr_pieces operand (not_pieces negated (piece.word (codes "BETWEEN") ∷ expr_pieces low (piece.word (codes "AND") ∷ expr_pieces high more))))
a_between at negated operand low high m =
    as_right (OfTests (c.Between at negated operand low high))
    (λ more. expr_pieces operand (not_pieces negated (piece.word (codes "BETWEEN") ∷ expr_pieces low (piece.word (codes "AND") ∷ expr_pieces high more))))
    (as_left (λ d. OfTests (c.Between at negated operand low high) (Right d))
    (λ more. expr_pieces operand (not_pieces negated (piece.word (codes "BETWEEN") ∷ expr_pieces low (piece.word (codes "AND") ∷ expr_pieces high more))))
    (pair (expr_pieces operand) (λ more. not_pieces negated (piece.word (codes "BETWEEN") ∷ expr_pieces low (piece.word (codes "AND") ∷ expr_pieces high more))) (an_operand operand m)
    (pair (not_pieces negated) (λ more. piece.word (codes "BETWEEN") ∷ expr_pieces low (piece.word (codes "AND") ∷ expr_pieces high more)) (a_not negated m)
    (behind (λ more. piece.word (codes "BETWEEN") ∷ more) (λ more. expr_pieces low (piece.word (codes "AND") ∷ expr_pieces high more)) (a_word (codes "BETWEEN") k.Between m refl)
    (pair (expr_pieces low) (λ more. piece.word (codes "AND") ∷ expr_pieces high more) (an_operand low m)
    (behind (λ more. piece.word (codes "AND") ∷ more) (expr_pieces high) (a_word (codes "AND") k.And m refl) (an_operand high m))))))
    (ranged at negated operand low high)) (λ a h. h)

abbrev list_part : Part
list_part = line g.operand ▸ opt (word k.Not) ▸ word k.In ▸ word k.LeftParen ▸ line g.literal ▸ many (word k.Comma ▸ line g.literal) ▸ word k.RightParen

listed : (at : ℕ) (negated : Bool) (operand : Expr) (v : Value) (vs : List Value) (d : Tree list_part)
    → Pair (IsExpr operand) (Pair (IsNegated negated) (Behind (Behind (Pair (λ x. literal_of x ≡ v) (Pair (λ x. literals_of x ≡ vs) Any))))) d
    → OfTests (c.InList at negated operand (v ∷ vs)) (Right (Right (Left d)))
listed at negated operand v vs (Both a (Both n (Both keyword (Both left (Both first (Both more right)))))) h =
    list_unplaced (place_of_expr (operand_of a)) (is_there n) (operand_of a) (literal_of first ∷ literals_of more)
    ∙ ap (λ (x : Expr). c.InList 0 (is_there n) x (literal_of first ∷ literals_of more)) h.0
    ∙ ap (λ (x : Bool). c.InList 0 x (unplaced_expr operand) (literal_of first ∷ literals_of more)) h.1.0
    ∙ ap (λ (x : Value). c.InList 0 negated (unplaced_expr operand) (x ∷ literals_of more)) h.1.1.0
    ∙ ap (λ (xs : List Value). c.InList 0 negated (unplaced_expr operand) (v ∷ xs)) h.1.1.1.0
    ∙ sym (list_unplaced at negated operand (v ∷ vs))

pub a_list : (at : ℕ) (negated : Bool) (operand : Expr) (v : Value) (vs : List Value) (m : ℕ)
    → Derives tests (OfTests (c.InList at negated operand (v ∷ vs))) m
    (λ more. expr_pieces operand (not_pieces negated (piece.word (codes "IN") ∷ piece.mark marks.LeftParen ∷ value_pieces v (behind_each (piece.mark marks.Comma) value_pieces vs (piece.mark marks.RightParen ∷ more)))))
a_list at negated operand v vs m =
    as_right (OfTests (c.InList at negated operand (v ∷ vs)))
    (λ more. expr_pieces operand (not_pieces negated (piece.word (codes "IN") ∷ piece.mark marks.LeftParen ∷ value_pieces v (behind_each (piece.mark marks.Comma) value_pieces vs (piece.mark marks.RightParen ∷ more)))))
    (as_right (λ d. OfTests (c.InList at negated operand (v ∷ vs)) (Right d))
    (λ more. expr_pieces operand (not_pieces negated (piece.word (codes "IN") ∷ piece.mark marks.LeftParen ∷ value_pieces v (behind_each (piece.mark marks.Comma) value_pieces vs (piece.mark marks.RightParen ∷ more)))))
    (as_left (λ d. OfTests (c.InList at negated operand (v ∷ vs)) (Right (Right d)))
    (λ more. expr_pieces operand (not_pieces negated (piece.word (codes "IN") ∷ piece.mark marks.LeftParen ∷ value_pieces v (behind_each (piece.mark marks.Comma) value_pieces vs (piece.mark marks.RightParen ∷ more)))))
    (pair (expr_pieces operand) (λ more. not_pieces negated (piece.word (codes "IN") ∷ piece.mark marks.LeftParen ∷ value_pieces v (behind_each (piece.mark marks.Comma) value_pieces vs (piece.mark marks.RightParen ∷ more)))) (an_operand operand m)
    (pair (not_pieces negated) (λ more. piece.word (codes "IN") ∷ piece.mark marks.LeftParen ∷ value_pieces v (behind_each (piece.mark marks.Comma) value_pieces vs (piece.mark marks.RightParen ∷ more))) (a_not negated m)
    (behind (λ more. piece.word (codes "IN") ∷ more) (λ more. piece.mark marks.LeftParen ∷ value_pieces v (behind_each (piece.mark marks.Comma) value_pieces vs (piece.mark marks.RightParen ∷ more))) (a_word (codes "IN") k.In m refl)
    (behind (λ more. piece.mark marks.LeftParen ∷ more) (λ more. value_pieces v (behind_each (piece.mark marks.Comma) value_pieces vs (piece.mark marks.RightParen ∷ more))) (a_mark marks.LeftParen k.LeftParen m refl)
    (pair (value_pieces v) (λ more. behind_each (piece.mark marks.Comma) value_pieces vs (piece.mark marks.RightParen ∷ more)) (a_literal v m)
    (pair (behind_each (piece.mark marks.Comma) value_pieces vs) (λ more. piece.mark marks.RightParen ∷ more) (more_literals vs m) (a_mark marks.RightParen k.RightParen m refl)))))))
    (listed at negated operand v vs)) (λ a h. h)) (λ a h. h)

abbrev like_part : Part
like_part = line g.operand ▸ opt (word k.Not) ▸ word k.Like ▸ word k.Text

matched : (at : ℕ) (negated : Bool) (operand : Expr) (pattern : List ℕ) (d : Tree like_part)
    → Pair (IsExpr operand) (Pair (IsNegated negated) (Behind (λ x. text_of x ≡ pattern))) d → OfTests (c.Like at negated operand pattern) (Right (Right (Right d)))
matched at negated operand pattern (Both a (Both n (Both keyword w))) h =
    like_unplaced (place_of_expr (operand_of a)) (is_there n) (operand_of a) (text_of w)
    ∙ ap (λ (x : Expr). c.Like 0 (is_there n) x (text_of w)) h.0 ∙ ap (λ (x : Bool). c.Like 0 x (unplaced_expr operand) (text_of w)) h.1.0
    ∙ ap (λ (x : List ℕ). c.Like 0 negated (unplaced_expr operand) x) h.1.1 ∙ sym (like_unplaced at negated operand pattern)

pub a_like : (at : ℕ) (negated : Bool) (operand : Expr) (pattern : List ℕ) (m : ℕ)
    → Derives tests (OfTests (c.Like at negated operand pattern)) m (λ more. expr_pieces operand (not_pieces negated (piece.word (codes "LIKE") ∷ piece.text pattern ∷ more)))
a_like at negated operand pattern m =
    as_right (OfTests (c.Like at negated operand pattern)) (λ more. expr_pieces operand (not_pieces negated (piece.word (codes "LIKE") ∷ piece.text pattern ∷ more)))
    (as_right (λ d. OfTests (c.Like at negated operand pattern) (Right d)) (λ more. expr_pieces operand (not_pieces negated (piece.word (codes "LIKE") ∷ piece.text pattern ∷ more)))
    (as_right (λ d. OfTests (c.Like at negated operand pattern) (Right (Right d))) (λ more. expr_pieces operand (not_pieces negated (piece.word (codes "LIKE") ∷ piece.text pattern ∷ more)))
    (pair (expr_pieces operand) (λ more. not_pieces negated (piece.word (codes "LIKE") ∷ piece.text pattern ∷ more)) (an_operand operand m)
    (pair (not_pieces negated) (λ more. piece.word (codes "LIKE") ∷ piece.text pattern ∷ more) (a_not negated m)
    (behind (λ more. piece.word (codes "LIKE") ∷ more) (λ more. piece.text pattern ∷ more) (a_word (codes "LIKE") k.Like m refl) (a_text pattern m))))
    (matched at negated operand pattern)) (λ a h. h)) (λ a h. h)
