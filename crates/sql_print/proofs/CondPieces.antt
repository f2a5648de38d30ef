-- The pieces of each condition.
use Rattle.std.proofs.Common.{◌≡◌, ℕ, Bool, true, false, List, [], ◌∷◌, refl, sym, ◌∙◌, ap, map}
use Rattle.std.specs.Prelude.{codes}
use Rattle.rpt_base.specs.declared.values.Value.{Value}
use Rattle.sql_lex.specs.declared.tokens.Mark.TheVariants as m
use Rattle.sql_grammar.specs.declared.tree.Cond.{Cond}
use Rattle.sql_grammar.specs.declared.tree.Cond.TheVariants as c
use Rattle.sql_grammar.specs.declared.tree.Cond.TheVariants.{rolls-And, rolls-Or, rolls-Not, rolls-Compare, rolls-Between, rolls-InList, rolls-Like}
use Rattle.sql_grammar.specs.declared.tree.Cond.TheOpen.{And, Or, Not, Compare, Between, InList, Like}
use Rattle.sql_grammar.specs.declared.tree.Cond.TheFolds.{fold-roll-Cond}
use Rattle.sql_grammar.specs.declared.tree.Expr.{Expr}
use Rattle.rpt_base.specs.declared.comparisons.Comparison.{Comparison}
use Rattle.sql_print.specs.declared.conditions.Room.{Room}
use Rattle.sql_print.specs.declared.conditions.Room.TheVariants as room
use Rattle.sql_print.specs.Pieces.{Piece, word, mark, text}
use Rattle.sql_print.specs.Printed.{Pieces, cond_step, cond_pieces, members_pieces, behind_each, between_all, in_parens, and_is_wrapped, or_is_wrapped, expr_pieces, not_pieces, value_pieces, op_mark}

-- members, whose pieces were made before or are made in their place
behind_map : (separator : Piece) (in_room : Room) (members : List Cond) (more : List Piece)
    → behind_each separator (λ (member : Pieces). member in_room) (map cond_pieces members) more ≡ behind_each separator (λ (member : Cond). cond_pieces member in_room) members more
behind_map separator in_room [] more = refl
behind_map separator in_room (x ∷ xs) more = ap (λ (ps : List Piece). separator ∷ cond_pieces x in_room ps) (behind_map separator in_room xs more)

between_map : (separator : Piece) (in_room : Room) (members : List Cond) (more : List Piece)
    → between_all separator (λ (member : Pieces). member in_room) (map cond_pieces members) more ≡ members_pieces separator in_room members more
between_map separator in_room [] more = refl
between_map separator in_room (x ∷ xs) more = ap (λ (ps : List Piece). cond_pieces x in_room ps) (behind_map separator in_room xs more)

wrapped_map : (wrapped : Bool) (separator : Piece) (in_room : Room) (members : List Cond) (more : List Piece)
    → in_parens wrapped (between_all separator (λ (member : Pieces). member in_room) (map cond_pieces members)) more ≡ in_parens wrapped (members_pieces separator in_room members) more
wrapped_map true separator in_room members more = ap (λ (ps : List Piece). mark m.LeftParen ∷ ps) (between_map separator in_room members (mark m.RightParen ∷ more))
wrapped_map false separator in_room members more = between_map separator in_room members more

pub and_pieces : (members : List Cond) (in_room : Room) (more : List Piece)
    → cond_pieces (c.And members) in_room more ≡ in_parens (and_is_wrapped in_room) (members_pieces (word (codes "AND")) room.InAnd members) more
and_pieces members in_room more =
    ap (λ (x : Cond). cond_pieces x in_room more) (sym (rolls-And members)) ∙ ap (λ (f : Pieces). f in_room more) (fold-roll-Cond Pieces cond_step (And members))
    ∙ wrapped_map (and_is_wrapped in_room) (word (codes "AND")) room.InAnd members more

pub or_pieces : (members : List Cond) (in_room : Room) (more : List Piece)
    → cond_pieces (c.Or members) in_room more ≡ in_parens (or_is_wrapped in_room) (members_pieces (word (codes "OR")) room.InOr members) more
or_pieces members in_room more =
    ap (λ (x : Cond). cond_pieces x in_room more) (sym (rolls-Or members)) ∙ ap (λ (f : Pieces). f in_room more) (fold-roll-Cond Pieces cond_step (Or members))
    ∙ wrapped_map (or_is_wrapped in_room) (word (codes "OR")) room.InOr members more

pub not_is : (at : ℕ) (inner : Cond) (in_room : Room) (more : List Piece) → cond_pieces (c.Not at inner) in_room more ≡ word (codes "NOT") ∷ cond_pieces inner room.InAnd more
not_is at inner in_room more =
    ap (λ (x : Cond). cond_pieces x in_room more) (sym (rolls-Not at inner)) ∙ ap (λ (f : Pieces). f in_room more) (fold-roll-Cond Pieces cond_step (Not at inner))

pub compare_is : (at : ℕ) (op : Comparison) (left right : Expr) (in_room : Room) (more : List Piece)
    → cond_pieces (c.Compare at op left right) in_room more ≡ expr_pieces left (mark (op_mark op) ∷ expr_pieces right more)
compare_is at op left right in_room more =
    ap (λ (x : Cond). cond_pieces x in_room more) (sym (rolls-Compare at op left right)) ∙ ap (λ (f : Pieces). f in_room more) (fold-roll-Cond Pieces cond_step (Compare at op left right))

pub between_is : (at : ℕ) (negated : Bool) (operand low high : Expr) (in_room : Room) (more : List Piece)
    → cond_pieces (c.Between at negated operand low high) in_room more
    ≡ expr_pieces operand (not_pieces negated (word (codes "BETWEEN") ∷ expr_pieces low (word (codes "AND") ∷ expr_pieces high more)))
between_is at negated operand low high in_room more =
    ap (λ (x : Cond). cond_pieces x in_room more) (sym (rolls-Between at negated operand low high))
    ∙ ap (λ (f : Pieces). f in_room more) (fold-roll-Cond Pieces cond_step (Between at negated operand low high))

pub list_is : (at : ℕ) (negated : Bool) (operand : Expr) (values : List Value) (in_room : Room) (more : List Piece)
    → cond_pieces (c.InList at negated operand values) in_room more
    ≡ expr_pieces operand (not_pieces negated (word (codes "IN") ∷ mark m.LeftParen ∷ between_all (mark m.Comma) value_pieces values (mark m.RightParen ∷ more)))
list_is at negated operand values in_room more =
    ap (λ (x : Cond). cond_pieces x in_room more) (sym (rolls-InList at negated operand values))
    ∙ ap (λ (f : Pieces). f in_room more) (fold-roll-Cond Pieces cond_step (InList at negated operand values))

pub like_is : (at : ℕ) (negated : Bool) (operand : Expr) (pattern : List ℕ) (in_room : Room) (more : List Piece)
    → cond_pieces (c.Like at negated operand pattern) in_room more ≡ expr_pieces operand (not_pieces negated (word (codes "LIKE") ∷ text pattern ∷ more))
like_is at negated operand pattern in_room more =
    ap (λ (x : Cond). cond_pieces x in_room more) (sym (rolls-Like at negated operand pattern))
    ∙ ap (λ (f : Pieces). f in_room more) (fold-roll-Cond Pieces cond_step (Like at negated operand pattern))

-- parentheses by what was tested
pub in_none : (wrapped : Bool) (pieces : List Piece → List Piece) (more : List Piece) → wrapped ≡ false → pieces more ≡ in_parens wrapped pieces more
in_none true pieces more e = absurd cc
in_none false pieces more e = refl

pub in_some : (wrapped : Bool) (pieces : List Piece → List Piece) (more : List Piece) → wrapped ≡ true → mark m.LeftParen ∷ pieces (mark m.RightParen ∷ more) ≡ in_parens wrapped pieces more
in_some true pieces more e = refl
in_some false pieces more e = absurd cc
