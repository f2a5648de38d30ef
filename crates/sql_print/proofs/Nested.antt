-- Derivations of conditions that join and negate others.
use Rattle.std.proofs.Common.{◌≡◌, ◌∙◌, ap, sym, refl, subst, ℕ, ◌≤◌, ◌+◌, ◌-◌, List, [], ◌∷◌, Bool, true, arith, map, codes}
use Rattle.std.specs.Prelude.{max, ◌&&◌}
use Rattle.std.specs.List.{list_all}
use Rattle.std.proofs.lemmas.Bool.{and_parts}
use Rattle.rpt_base.specs.declared.values.Value.{Value}
use Rattle.sql_lex.specs.declared.tokens.Token.{Token}
use Rattle.sql_lex.specs.declared.tokens.Mark.TheVariants as marks
use Rattle.sql_grammar.specs.declared.kinds.Kind.TheVariants as k
use Rattle.sql_grammar.specs.Kinds.{kind_of}
use Rattle.sql_grammar.specs.declared.tree.Cond.{Cond}
use Rattle.sql_grammar.specs.declared.tree.Cond.TheVariants as c
use Rattle.sql_grammar.specs.declared.tree.Cond.TheVariants.{rolls-And, rolls-Or, rolls-Not, rolls-Compare, rolls-Between, rolls-InList, rolls-Like}
use Rattle.sql_grammar.specs.declared.tree.Cond.TheOpen.{Cond-F, And, Or, Not, Compare, Between, InList, Like}
use Rattle.sql_grammar.specs.declared.tree.Cond.TheViews.{roll-Cond}
use Rattle.sql_grammar.specs.declared.tree.Cond.TheFolds.{fold-roll-Cond, ind-Cond, map-Cond}
use Rattle.sql_grammar.specs.declared.tree.Expr.{Expr}
use Rattle.sql_grammar.specs.Formed.{formed_step, is_cond, has_two}
use Rattle.sql_grammar.specs.Grammar as g
use Rattle.sql_grammar.specs.Grammar.{Part, word, ◌▸◌, ◌∣◌, many, line, Tree, Both, Left, End, More, In, By}
use Rattle.sql_grammar.specs.Meaning.{tests, joined_conditions, cond_of, conjs_of, conj_of, negs_of, neg_of, prim_of}
use Rattle.sql_grammar.proofs.Formed.{list_is as list_formed, not_is as not_formed}
use Rattle.sql_print.specs.declared.conditions.Room.{Room}
use Rattle.sql_print.specs.declared.conditions.Room.TheVariants as room
use Rattle.sql_print.specs.Pieces as piece
use Rattle.sql_print.specs.Pieces.{Piece}
use Rattle.sql_print.specs.Printed.{expr_pieces, value_pieces, behind_each, between_all, op_mark, not_pieces, in_parens, and_is_wrapped, or_is_wrapped, cond_pieces, members_pieces, one_more_if, most, levels_step, cond_levels}
use Rattle.sql_print.specs.Unplaced.{unplaced_cond}
use Rattle.sql_print.proofs.CondPieces.{and_pieces, or_pieces, not_is, compare_is, between_is, list_is, like_is}
use Rattle.sql_print.proofs.Derives.{Derives, both, as_left, as_right, as_line, no_more, one_more, a_level, derives_same, derives_within}
use Rattle.sql_print.proofs.Operands.{a_word, a_mark, word_kind, mark_kind}
use Rattle.sql_print.proofs.Conds.{OfTests, a_compare, a_between, a_list, a_like, and_unplaced, or_unplaced, not_unplaced}

abbrev pub IsC : Cond → Tree (line g.cond) → Type 0
IsC x d = unplaced_cond (cond_of d) ≡ unplaced_cond x

abbrev IsJ : Cond → Tree (line g.conj) → Type 0
IsJ x d = unplaced_cond (conj_of d) ≡ unplaced_cond x

abbrev IsN : Cond → Tree (line g.neg) → Type 0
IsN x d = unplaced_cond (neg_of d) ≡ unplaced_cond x

abbrev IsP : Cond → Tree (line g.prim) → Type 0
IsP x d = unplaced_cond (prim_of d) ≡ unplaced_cond x

-- ---- from one line to the next

abbrev IsEnd : {p : Part} → Tree (many p) → Type 0
IsEnd End = Unit {0}
IsEnd (More a b) = ⊥

alone_and : (x : Cond) (a : Tree (line g.neg)) (b : Tree (many (word k.And ▸ line g.neg))) → IsN x a → IsEnd b → IsJ x (By (Both a b))
alone_and x a End h i = h
alone_and x a (More b d) h i = absurd i

alone_or : (x : Cond) (a : Tree (line g.conj)) (b : Tree (many (word k.Or ▸ line g.conj))) → IsJ x a → IsEnd b → IsC x (By (Both a b))
alone_or x a End h i = h
alone_or x a (More b d) h i = absurd i

as_neg : (x : Cond) (m : ℕ) (f : List Piece → List Piece) → Derives (line g.prim) (IsP x) m f → Derives (line g.neg) (IsN x) m f
as_neg x m f d = as_line g.neg (IsN x) f (as_right (λ a. IsN x (By a)) f d (λ a h. h)) (λ a h. h)

as_conj : (x : Cond) (m : ℕ) (f : List Piece → List Piece) → Derives (line g.neg) (IsN x) m f → Derives (line g.conj) (IsJ x) m f
as_conj x m f d =
    as_line g.conj (IsJ x) f (both (λ a. IsJ x (By a)) f (λ more. more) d (no_more (word k.And ▸ line g.neg) IsEnd m tt) (alone_and x)) (λ a h. h)

as_cond : (x : Cond) (m : ℕ) (f : List Piece → List Piece) → Derives (line g.conj) (IsJ x) m f → Derives (line g.cond) (IsC x) m f
as_cond x m f d =
    as_line g.cond (IsC x) f (both (λ a. IsC x (By a)) f (λ more. more) d (no_more (word k.Or ▸ line g.conj) IsEnd m tt) (alone_or x)) (λ a h. h)

-- what is in parentheses
abbrev InParens : Cond → Tree (line g.cond ▸ word k.RightParen) → Type 0
InParens x (Both a b) = IsC x a

opened : (x : Cond) (t : Token) (is : kind_of t ≡ k.LeftParen) (a : Tree (line g.cond ▸ word k.RightParen)) → InParens x a → IsP x (By (Left (In t is a)))
opened x t is (Both a b) h = h

as_prim : (x : Cond) (m : ℕ) (f : List Piece → List Piece) → Derives (line g.cond) (IsC x) m f
    → Derives (line g.prim) (IsP x) (m + 1) (λ more. piece.mark marks.LeftParen ∷ f (piece.mark marks.RightParen ∷ more))
as_prim x m f d =
    as_line g.prim (IsP x) (λ more. piece.mark marks.LeftParen ∷ f (piece.mark marks.RightParen ∷ more))
    (as_left (λ a. IsP x (By a)) (λ more. piece.mark marks.LeftParen ∷ f (piece.mark marks.RightParen ∷ more))
    (a_level k.LeftParen (piece.mark marks.LeftParen) (λ a. IsP x (By (Left a))) (λ more. f (piece.mark marks.RightParen ∷ more)) (mark_kind marks.LeftParen k.LeftParen refl)
    (both (InParens x) f (λ more. piece.mark marks.RightParen ∷ more) d (a_mark marks.RightParen k.RightParen m refl) (λ a b h i. h)) (opened x)) (λ a h. h)) (λ a h. h)

negation : (at : ℕ) (x : Cond) (m : ℕ) (f : List Piece → List Piece) → Derives (line g.neg) (IsN x) m f → Derives (line g.neg) (IsN (c.Not at x)) (m + 1) (λ more. piece.word (codes "NOT") ∷ f more)
negation at x m f d =
    as_line g.neg (IsN (c.Not at x)) (λ more. piece.word (codes "NOT") ∷ f more)
    (as_left (λ a. IsN (c.Not at x) (By a)) (λ more. piece.word (codes "NOT") ∷ f more)
    (a_level k.Not (piece.word (codes "NOT")) (λ a. IsN (c.Not at x) (By (Left a))) f (word_kind (codes "NOT") k.Not refl) d
    (λ t is a h. not_unplaced t.start (neg_of a) ∙ ap (λ (y : Cond). c.Not 0 y) h ∙ sym (not_unplaced at x))) (λ a h. h)) (λ a h. h)

-- ---- members

abbrev EachN : ℕ → List Cond → Type 0
EachN m [] = Unit {0}
EachN m (x ∷ xs) = Derives (line g.neg) (IsN x) m (cond_pieces x room.InAnd) × EachN m xs

abbrev EachJ : ℕ → List Cond → Type 0
EachJ m [] = Unit {0}
EachJ m (x ∷ xs) = Derives (line g.conj) (IsJ x) m (cond_pieces x room.InOr) × EachJ m xs

abbrev NextN : Cond → Tree (word k.And ▸ line g.neg) → Type 0
NextN x (Both a b) = IsN x b

abbrev NextJ : Cond → Tree (word k.Or ▸ line g.conj) → Type 0
NextJ x (Both a b) = IsJ x b

abbrev AreN : List Cond → Tree (many (word k.And ▸ line g.neg)) → Type 0
AreN xs d = map unplaced_cond (negs_of d) ≡ map unplaced_cond xs

abbrev AreJ : List Cond → Tree (many (word k.Or ▸ line g.conj)) → Type 0
AreJ xs d = map unplaced_cond (conjs_of d) ≡ map unplaced_cond xs

one_n : (x : Cond) (xs : List Cond) (a : Tree (word k.And ▸ line g.neg)) (b : Tree (many (word k.And ▸ line g.neg))) → NextN x a → AreN xs b → AreN (x ∷ xs) (More a b)
one_n x xs (Both a d) b h i = ap (λ (y : Cond). y ∷ map unplaced_cond (negs_of b)) h ∙ ap (λ (ys : List Cond). unplaced_cond x ∷ ys) i

one_j : (x : Cond) (xs : List Cond) (a : Tree (word k.Or ▸ line g.conj)) (b : Tree (many (word k.Or ▸ line g.conj))) → NextJ x a → AreJ xs b → AreJ (x ∷ xs) (More a b)
one_j x xs (Both a d) b h i = ap (λ (y : Cond). y ∷ map unplaced_cond (conjs_of b)) h ∙ ap (λ (ys : List Cond). unplaced_cond x ∷ ys) i

more_negs : (m : ℕ) (xs : List Cond) → EachN m xs
    → Derives (many (word k.And ▸ line g.neg)) (AreN xs) m (behind_each (piece.word (codes "AND")) (λ (x : Cond). cond_pieces x room.InAnd) xs)
more_negs m [] h = no_more (word k.And ▸ line g.neg) (AreN []) m refl
more_negs m (x ∷ xs) h =
    one_more (AreN (x ∷ xs)) (λ more. piece.word (codes "AND") ∷ cond_pieces x room.InAnd more) (behind_each (piece.word (codes "AND")) (λ (y : Cond). cond_pieces y room.InAnd) xs)
    (both (NextN x) (λ more. piece.word (codes "AND") ∷ more) (cond_pieces x room.InAnd) (a_word (codes "AND") k.And m refl) h.0 (λ a b i j. j)) (more_negs m xs h.1) (one_n x xs)

more_conjs : (m : ℕ) (xs : List Cond) → EachJ m xs
    → Derives (many (word k.Or ▸ line g.conj)) (AreJ xs) m (behind_each (piece.word (codes "OR")) (λ (x : Cond). cond_pieces x room.InOr) xs)
more_conjs m [] h = no_more (word k.Or ▸ line g.conj) (AreJ []) m refl
more_conjs m (x ∷ xs) h =
    one_more (AreJ (x ∷ xs)) (λ more. piece.word (codes "OR") ∷ cond_pieces x room.InOr more) (behind_each (piece.word (codes "OR")) (λ (y : Cond). cond_pieces y room.InOr) xs)
    (both (NextJ x) (λ more. piece.word (codes "OR") ∷ more) (cond_pieces x room.InOr) (a_word (codes "OR") k.Or m refl) h.0 (λ a b i j. j)) (more_conjs m xs h.1) (one_j x xs)

and_joined : (a : Cond) (ds : List Cond) (x y : Cond) (ys : List Cond) → unplaced_cond a ≡ unplaced_cond x → map unplaced_cond ds ≡ map unplaced_cond (y ∷ ys)
    → unplaced_cond (joined_conditions c.And a ds) ≡ unplaced_cond (c.And (x ∷ y ∷ ys))
and_joined a [] x y ys h i = absurd cc
and_joined a (d ∷ ds) x y ys h i =
    and_unplaced (a ∷ d ∷ ds) ∙ ap (λ (z : Cond). c.And (z ∷ map unplaced_cond (d ∷ ds))) h ∙ ap (λ (zs : List Cond). c.And (unplaced_cond x ∷ zs)) i ∙ sym (and_unplaced (x ∷ y ∷ ys))

or_joined : (a : Cond) (ds : List Cond) (x y : Cond) (ys : List Cond) → unplaced_cond a ≡ unplaced_cond x → map unplaced_cond ds ≡ map unplaced_cond (y ∷ ys)
    → unplaced_cond (joined_conditions c.Or a ds) ≡ unplaced_cond (c.Or (x ∷ y ∷ ys))
or_joined a [] x y ys h i = absurd cc
or_joined a (d ∷ ds) x y ys h i =
    or_unplaced (a ∷ d ∷ ds) ∙ ap (λ (z : Cond). c.Or (z ∷ map unplaced_cond (d ∷ ds))) h ∙ ap (λ (zs : List Cond). c.Or (unplaced_cond x ∷ zs)) i ∙ sym (or_unplaced (x ∷ y ∷ ys))

conjunction : (m : ℕ) (x y : Cond) (ys : List Cond) → EachN m (x ∷ y ∷ ys)
    → Derives (line g.conj) (IsJ (c.And (x ∷ y ∷ ys))) m (members_pieces (piece.word (codes "AND")) room.InAnd (x ∷ y ∷ ys))
conjunction m x y ys h =
    as_line g.conj (IsJ (c.And (x ∷ y ∷ ys))) (members_pieces (piece.word (codes "AND")) room.InAnd (x ∷ y ∷ ys))
    (both (λ a. IsJ (c.And (x ∷ y ∷ ys)) (By a)) (cond_pieces x room.InAnd) (behind_each (piece.word (codes "AND")) (λ (z : Cond). cond_pieces z room.InAnd) (y ∷ ys))
    h.0 (more_negs m (y ∷ ys) h.1) (λ a b i j. and_joined (neg_of a) (negs_of b) x y ys i j)) (λ a i. i)

disjunction : (m : ℕ) (x y : Cond) (ys : List Cond) → EachJ m (x ∷ y ∷ ys)
    → Derives (line g.cond) (IsC (c.Or (x ∷ y ∷ ys))) m (members_pieces (piece.word (codes "OR")) room.InOr (x ∷ y ∷ ys))
disjunction m x y ys h =
    as_line g.cond (IsC (c.Or (x ∷ y ∷ ys))) (members_pieces (piece.word (codes "OR")) room.InOr (x ∷ y ∷ ys))
    (both (λ a. IsC (c.Or (x ∷ y ∷ ys)) (By a)) (cond_pieces x room.InOr) (behind_each (piece.word (codes "OR")) (λ (z : Cond). cond_pieces z room.InOr) (y ∷ ys))
    h.0 (more_conjs m (y ∷ ys) h.1) (λ a b i j. or_joined (conj_of a) (conjs_of b) x y ys i j)) (λ a i. i)

-- ---- what is well formed, and its levels

and_formed : (members : List Cond) → is_cond (c.And members) ≡ (has_two (map is_cond members) && list_all (λ member. member) (map is_cond members))
and_formed members = ap is_cond (sym (rolls-And members)) ∙ fold-roll-Cond Bool formed_step (And members)

or_formed : (members : List Cond) → is_cond (c.Or members) ≡ (has_two (map is_cond members) && list_all (λ member. member) (map is_cond members))
or_formed members = ap is_cond (sym (rolls-Or members)) ∙ fold-roll-Cond Bool formed_step (Or members)

abbrev pub all_levels : Room → List Cond → ℕ
all_levels in_room [] = 0
all_levels in_room (x ∷ xs) = max (cond_levels x in_room) (all_levels in_room xs)

levels_map : (in_room : Room) (members : List Cond) → most (map (λ (member : Room → ℕ). member in_room) (map cond_levels members)) ≡ all_levels in_room members
levels_map in_room [] = refl
levels_map in_room (x ∷ xs) = ap (λ (n : ℕ). max (cond_levels x in_room) n) (levels_map in_room xs)

pub and_levels : (members : List Cond) (in_room : Room) → cond_levels (c.And members) in_room ≡ one_more_if (and_is_wrapped in_room) (all_levels room.InAnd members)
and_levels members in_room =
    ap (λ (x : Cond). cond_levels x in_room) (sym (rolls-And members)) ∙ ap (λ (f : Room → ℕ). f in_room) (fold-roll-Cond (Room → ℕ) levels_step (And members))
    ∙ ap (λ (n : ℕ). one_more_if (and_is_wrapped in_room) n) (levels_map room.InAnd members)

pub or_levels : (members : List Cond) (in_room : Room) → cond_levels (c.Or members) in_room ≡ one_more_if (or_is_wrapped in_room) (all_levels room.InOr members)
or_levels members in_room =
    ap (λ (x : Cond). cond_levels x in_room) (sym (rolls-Or members)) ∙ ap (λ (f : Room → ℕ). f in_room) (fold-roll-Cond (Room → ℕ) levels_step (Or members))
    ∙ ap (λ (n : ℕ). one_more_if (or_is_wrapped in_room) n) (levels_map room.InOr members)

pub not_levels : (at : ℕ) (inner : Cond) (in_room : Room) → cond_levels (c.Not at inner) in_room ≡ cond_levels inner room.InAnd + 1
not_levels at inner in_room =
    ap (λ (x : Cond). cond_levels x in_room) (sym (rolls-Not at inner)) ∙ ap (λ (f : Room → ℕ). f in_room) (fold-roll-Cond (Room → ℕ) levels_step (Not at inner))

-- ---- each condition, by the line that it stands in

pub record Reread (x : Cond) (m : ℕ) : Type 0 where
  pub whole : cond_levels x room.Whole ≤ m → Derives (line g.cond) (IsC x) m (cond_pieces x room.Whole)
  pub in_or : cond_levels x room.InOr ≤ m → Derives (line g.conj) (IsJ x) m (cond_pieces x room.InOr)
  pub in_and : cond_levels x room.InAnd ≤ m → Derives (line g.neg) (IsN x) m (cond_pieces x room.InAnd)

abbrev pub Rereads : Cond → Type 0
Rereads x = is_cond x ≡ true → (m : ℕ) → Reread x m

abbrev AllReread : List Cond → Type 0
AllReread [] = Unit {0}
AllReread (x ∷ xs) = Rereads x × AllReread xs

each_n : (m : ℕ) (xs : List Cond) → AllReread xs → list_all (λ member. member) (map is_cond xs) ≡ true → all_levels room.InAnd xs ≤ m → EachN m xs
each_n m [] h formed le = tt
each_n m (x ∷ xs) h formed le =
    let both = and_parts (is_cond x) (list_all (λ member. member) (map is_cond xs)) formed in
    ((h.0 both.0 m).in_and (omega arith), each_n m xs h.1 both.1 (omega arith))

each_j : (m : ℕ) (xs : List Cond) → AllReread xs → list_all (λ member. member) (map is_cond xs) ≡ true → all_levels room.InOr xs ≤ m → EachJ m xs
each_j m [] h formed le = tt
each_j m (x ∷ xs) h formed le =
    let both = and_parts (is_cond x) (list_all (λ member. member) (map is_cond xs)) formed in
    ((h.0 both.0 m).in_or (omega arith), each_j m xs h.1 both.1 (omega arith))

and_case : (members : List Cond) → AllReread members → Rereads (c.And members)
and_case [] h formed m = absurd (let e = and_formed [] in cc)
and_case (x ∷ []) h formed m = absurd (let e = and_formed (x ∷ []) in cc)
and_case (x ∷ y ∷ ys) h formed m = record {
  whole = λ le. derives_same pieces (cond_pieces (c.And (x ∷ y ∷ ys)) room.Whole) (λ more. sym (and_pieces (x ∷ y ∷ ys) room.Whole more))
      (as_cond (c.And (x ∷ y ∷ ys)) m pieces (plain m (let e = and_levels (x ∷ y ∷ ys) room.Whole in omega arith)));
  in_or = λ le. derives_same pieces (cond_pieces (c.And (x ∷ y ∷ ys)) room.InOr) (λ more. sym (and_pieces (x ∷ y ∷ ys) room.InOr more))
      (plain m (let e = and_levels (x ∷ y ∷ ys) room.InOr in omega arith));
  in_and = λ le. derives_same (in_parens true pieces) (cond_pieces (c.And (x ∷ y ∷ ys)) room.InAnd) (λ more. sym (and_pieces (x ∷ y ∷ ys) room.InAnd more))
      (derives_within (in_parens true pieces) (let e = and_levels (x ∷ y ∷ ys) room.InAnd in omega arith)
      (as_neg (c.And (x ∷ y ∷ ys)) ((m - 1) + 1) (in_parens true pieces) (as_prim (c.And (x ∷ y ∷ ys)) (m - 1) pieces
      (as_cond (c.And (x ∷ y ∷ ys)) (m - 1) pieces (plain (m - 1) (let e = and_levels (x ∷ y ∷ ys) room.InAnd in omega arith))))));
}
  where
    pieces : List Piece → List Piece
    pieces = members_pieces (piece.word (codes "AND")) room.InAnd (x ∷ y ∷ ys)

    plain : (n : ℕ) → all_levels room.InAnd (x ∷ y ∷ ys) ≤ n → Derives (line g.conj) (IsJ (c.And (x ∷ y ∷ ys))) n pieces
    plain n le = conjunction n x y ys (each_n n (x ∷ y ∷ ys) h (sym (and_formed (x ∷ y ∷ ys)) ∙ formed) le)

or_case : (members : List Cond) → AllReread members → Rereads (c.Or members)
or_case [] h formed m = absurd (let e = or_formed [] in cc)
or_case (x ∷ []) h formed m = absurd (let e = or_formed (x ∷ []) in cc)
or_case (x ∷ y ∷ ys) h formed m = record {
  whole = λ le. derives_same pieces (cond_pieces (c.Or (x ∷ y ∷ ys)) room.Whole) (λ more. sym (or_pieces (x ∷ y ∷ ys) room.Whole more))
      (plain m (let e = or_levels (x ∷ y ∷ ys) room.Whole in omega arith));
  in_or = λ le. derives_same (in_parens true pieces) (cond_pieces (c.Or (x ∷ y ∷ ys)) room.InOr) (λ more. sym (or_pieces (x ∷ y ∷ ys) room.InOr more))
      (derives_within (in_parens true pieces) (let e = or_levels (x ∷ y ∷ ys) room.InOr in omega arith)
      (as_conj (c.Or (x ∷ y ∷ ys)) ((m - 1) + 1) (in_parens true pieces) (wrapped (m - 1) (let e = or_levels (x ∷ y ∷ ys) room.InOr in omega arith))));
  in_and = λ le. derives_same (in_parens true pieces) (cond_pieces (c.Or (x ∷ y ∷ ys)) room.InAnd) (λ more. sym (or_pieces (x ∷ y ∷ ys) room.InAnd more))
      (derives_within (in_parens true pieces) (let e = or_levels (x ∷ y ∷ ys) room.InAnd in omega arith)
      (wrapped (m - 1) (let e = or_levels (x ∷ y ∷ ys) room.InAnd in omega arith)));
}
  where
    pieces : List Piece → List Piece
    pieces = members_pieces (piece.word (codes "OR")) room.InOr (x ∷ y ∷ ys)

    plain : (n : ℕ) → all_levels room.InOr (x ∷ y ∷ ys) ≤ n → Derives (line g.cond) (IsC (c.Or (x ∷ y ∷ ys))) n pieces
    plain n le = disjunction n x y ys (each_j n (x ∷ y ∷ ys) h (sym (or_formed (x ∷ y ∷ ys)) ∙ formed) le)

    wrapped : (n : ℕ) → all_levels room.InOr (x ∷ y ∷ ys) ≤ n → Derives (line g.neg) (IsN (c.Or (x ∷ y ∷ ys))) (n + 1) (in_parens true pieces)
    wrapped n le = as_neg (c.Or (x ∷ y ∷ ys)) (n + 1) (in_parens true pieces) (as_prim (c.Or (x ∷ y ∷ ys)) n pieces (plain n le))

not_case : (at : ℕ) (inner : Cond) → Rereads inner → Rereads (c.Not at inner)
not_case at inner h formed m = record {
  whole = λ le. derives_same pieces (cond_pieces (c.Not at inner) room.Whole) (λ more. sym (not_is at inner room.Whole more))
      (as_cond (c.Not at inner) m pieces (as_conj (c.Not at inner) m pieces (plain (let e = not_levels at inner room.Whole in omega arith))));
  in_or = λ le. derives_same pieces (cond_pieces (c.Not at inner) room.InOr) (λ more. sym (not_is at inner room.InOr more))
      (as_conj (c.Not at inner) m pieces (plain (let e = not_levels at inner room.InOr in omega arith)));
  in_and = λ le. derives_same pieces (cond_pieces (c.Not at inner) room.InAnd) (λ more. sym (not_is at inner room.InAnd more))
      (plain (let e = not_levels at inner room.InAnd in omega arith));
}
  where
    pieces : List Piece → List Piece
    pieces more = piece.word (codes "NOT") ∷ cond_pieces inner room.InAnd more

    plain : cond_levels inner room.InAnd + 1 ≤ m → Derives (line g.neg) (IsN (c.Not at inner)) m pieces
    plain le = derives_within pieces (omega arith) (negation at inner (m - 1) (cond_pieces inner room.InAnd) ((h (sym (not_formed at inner) ∙ formed) (m - 1)).in_and (omega arith)))

-- a condition that joins and negates no others
test_case : (x : Cond) (pieces : List Piece → List Piece) → ((in_room : Room) (more : List Piece) → cond_pieces x in_room more ≡ pieces more)
    → ((m : ℕ) → Derives tests (OfTests x) m pieces) → (m : ℕ) → Reread x m
test_case x pieces same d m = record {
  whole = λ le. derives_same pieces (cond_pieces x room.Whole) (λ more. sym (same room.Whole more)) (as_cond x m pieces (as_conj x m pieces plain));
  in_or = λ le. derives_same pieces (cond_pieces x room.InOr) (λ more. sym (same room.InOr more)) (as_conj x m pieces plain);
  in_and = λ le. derives_same pieces (cond_pieces x room.InAnd) (λ more. sym (same room.InAnd more)) plain;
}
  where
    plain : Derives (line g.neg) (IsN x) m pieces
    plain = as_neg x m pieces (as_line g.prim (IsP x) pieces (as_right (λ a. IsP x (By a)) pieces (d m) (λ a h. h)) (λ a h. h))

list_case : (at : ℕ) (negated : Bool) (operand : Expr) (values : List Value) → Rereads (c.InList at negated operand values)
list_case at negated operand [] formed m = absurd (let e = list_formed at negated operand [] in cc)
list_case at negated operand (v ∷ vs) formed m =
    test_case (c.InList at negated operand (v ∷ vs))
    (λ more. expr_pieces operand (not_pieces negated (piece.word (codes "IN") ∷ piece.mark marks.LeftParen ∷ between_all (piece.mark marks.Comma) value_pieces (v ∷ vs) (piece.mark marks.RightParen ∷ more))))
    (λ in_room more. list_is at negated operand (v ∷ vs) in_room more) (a_list at negated operand v vs) m

all_reread : (members : List ((x : Cond) × Rereads x)) → AllReread (map (λ member. member.0) members)
all_reread [] = tt
all_reread (member ∷ members) = (member.1, all_reread members)

step : (y : Cond-F ((x : Cond) × Rereads x)) → Rereads (roll-Cond (map-Cond ((x : Cond) × Rereads x) Cond (λ member. member.0) y))
step (And members) = subst Rereads (sym (rolls-And (map (λ member. member.0) members))) (and_case (map (λ member. member.0) members) (all_reread members))
step (Or members) = subst Rereads (sym (rolls-Or (map (λ member. member.0) members))) (or_case (map (λ member. member.0) members) (all_reread members))
step (Not at inner) = subst Rereads (sym (rolls-Not at inner.0)) (not_case at inner.0 inner.1)
step (Compare at op left right) = subst Rereads (sym (rolls-Compare at op left right))
    (λ formed m. test_case (c.Compare at op left right) (λ more. expr_pieces left (piece.mark (op_mark op) ∷ expr_pieces right more)) (λ in_room more. compare_is at op left right in_room more) (a_compare at op left right) m)
step (Between at negated operand low high) = subst Rereads (sym (rolls-Between at negated operand low high))
    (λ formed m. test_case (c.Between at negated operand low high)
    (λ more. expr_pieces operand (not_pieces negated (piece.word (codes "BETWEEN") ∷ expr_pieces low (piece.word (codes "AND") ∷ expr_pieces high more))))
    (λ in_room more. between_is at negated operand low high in_room more) (a_between at negated operand low high) m)
step (InList at negated operand values) = subst Rereads (sym (rolls-InList at negated operand values)) (list_case at negated operand values)
step (Like at negated operand pattern) = subst Rereads (sym (rolls-Like at negated operand pattern))
    (λ formed m. test_case (c.Like at negated operand pattern) (λ more. expr_pieces operand (not_pieces negated (piece.word (codes "LIKE") ∷ piece.text pattern ∷ more)))
    (λ in_room more. like_is at negated operand pattern in_room more) (a_like at negated operand pattern) m)

-- what is printed of a condition is read back
pub rereads : (x : Cond) → Rereads x
rereads = ind-Cond Rereads (λ x y is. subst (λ (z : Cond-F Cond). Rereads (roll-Cond z)) is (step y))
