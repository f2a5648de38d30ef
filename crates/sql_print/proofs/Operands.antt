-- Derivations of names, columns and operands.
use Rattle.std.proofs.Common.{◌≡◌, ◌∙◌, ap, sym, refl, subst, ℕ, ◌≤◌, List, [], ◌∷◌, Bool, true, false, arith, Option, Some, None, ℤ, pos, negsuc, suc, neg_ℤ, IsTrue}
use Rattle.std.specs.Prelude.{nat_le, ◌==◌, if◌then◌else◌}
use Rattle.std.specs.Str.{str_to_ascii_lowercase}
use Rattle.std.proofs.lemmas.Bool.{le-leb}
use Rattle.std.proofs.lemmas.Bool.Decides.{nat_tests}
use Rattle.rpt_base.specs.declared.values.Value.{Value}
use Rattle.rpt_base.specs.declared.values.Value.TheVariants as v
use Rattle.sql_lex.specs.declared.tokens.Token.{Token}
use Rattle.sql_lex.specs.declared.tokens.TokenKind.{TokenKind}
use Rattle.sql_lex.specs.declared.tokens.TokenKind.TheVariants as t
use Rattle.sql_lex.specs.declared.tokens.Mark.{Mark}
use Rattle.sql_lex.specs.declared.tokens.Mark.TheVariants as marks
use Rattle.sql_grammar.specs.declared.kinds.Kind.{Kind}
use Rattle.sql_grammar.specs.declared.kinds.Kind.TheVariants as k
use Rattle.sql_grammar.specs.Kinds.{kind_of, kind_by, kind_of_mark, among, is_name_in_lower_case}
use Rattle.rpt_base.specs.Lists.{has}
use Rattle.sql_grammar.specs.declared.tree.ColumnName.{ColumnName}
use Rattle.sql_grammar.specs.declared.tree.Expr.{Expr}
use Rattle.sql_grammar.specs.declared.tree.Expr.TheVariants as e
use Rattle.sql_grammar.specs.Grammar as g
use Rattle.sql_grammar.specs.Grammar.{Part, word, ◌▸◌, ◌∣◌, line, opt, name, names, magnitudes, Tree, Both, Left, Right, By}
use Rattle.sql_grammar.specs.Meaning.{written_text, magnitude, placed_name, alone, within, colref_of, literal_of, negative_of, text_of, operand_of}
use Rattle.sql_grammar.proofs.Leads.{among_one}
use Rattle.sql_print.specs.Pieces as piece
use Rattle.sql_print.specs.Writes.{token_of}
use Rattle.sql_print.specs.Printed.{relation_pieces, column_pieces, int_pieces, value_pieces, expr_pieces}
use Rattle.sql_print.specs.Unplaced.{unplaced_column, unplaced_expr}
use Rattle.sql_print.proofs.Derives.{Derives, both, as_left, as_right, as_line, absent, a_token}

self : (n : ℕ) → has n (n ∷ []) ≡ true
self n = grind (arith, nat_tests)

-- nothing is asked
abbrev pub Any : {p : Part} → Tree p → Type 0
Any d = Unit {0}

pub word_kind : (w : List ℕ) (kind : Kind) → kind_by (t.Word (str_to_ascii_lowercase w)) ≡ kind → (u : Token) → u.kind ≡ token_of (piece.word w) → kind_of u ≡ kind
unfolding kind_of
word_kind w kind is u h = ap kind_by h ∙ is

pub mark_kind : (written : Mark) (kind : Kind) → kind_of_mark written ≡ kind → (u : Token) → u.kind ≡ token_of (piece.mark written) → kind_of u ≡ kind
unfolding kind_of
mark_kind written kind is u h = ap kind_by h ∙ is

-- a keyword
pub a_word : (w : List ℕ) (kind : Kind) (m : ℕ) → kind_by (t.Word (str_to_ascii_lowercase w)) ≡ kind → Derives (word kind) Any m (λ more. piece.word w ∷ more)
a_word w kind m is = a_token (kind ∷ []) (piece.word w) Any m (λ u h holds. among_one kind u (word_kind w kind is u h)) (λ u i h. tt)

-- a mark
pub a_mark : (written : Mark) (kind : Kind) (m : ℕ) → kind_of_mark written ≡ kind → Derives (word kind) Any m (λ more. piece.mark written ∷ more)
a_mark written kind m is = a_token (kind ∷ []) (piece.mark written) Any m (λ u h holds. among_one kind u (mark_kind written kind is u h)) (λ u i h. tt)

-- a name
name_kind : (n : List ℕ) (u : Token) → u.kind ≡ t.Quoted n → IsTrue (is_name_in_lower_case n) → among names (kind_of u) ≡ true
unfolding kind_of
name_kind n u h is =
    let e : kind_by (t.Quoted n) ≡ k.Name = (let b : is_name_in_lower_case n ≡ true = is in rw b refl) in
    subst (λ (x : Kind). among names x ≡ true) (sym (ap kind_by h ∙ e)) refl

pub a_name : (n : List ℕ) (m : ℕ) → Derives name (λ d. (placed_name d).name ≡ n) m (λ more. piece.name n ∷ more)
a_name n m = a_token names (piece.name n) (λ d. (placed_name d).name ≡ n) m (λ u h holds. name_kind n u h holds) (λ u i h. ap written_text h)

-- ---- columns

abbrev IsColumn : Option (List ℕ) → List ℕ → Tree (line g.colref) → Type 0
IsColumn relation column d = unplaced_column (colref_of d) ≡ record { at = 0; relation = relation; column = column }

abbrev IsLeft : {p q : Part} → Tree (p ∣ q) → Type 0
IsLeft (Left a) = Unit {0}
IsLeft (Right b) = ⊥

abbrev IsSecond : List ℕ → Tree (opt (word k.Dot ▸ name)) → Type 0
IsSecond n (Left a) = ⊥
IsSecond n (Right (Both dot second)) = (placed_name second).name ≡ n

one_name : (column : List ℕ) (a : Tree name) (b : Tree (opt (word k.Dot ▸ name))) → (placed_name a).name ≡ column → IsLeft b → IsColumn None column (By (Both a b))
one_name column a (Left b) h i = ap (λ (n : List ℕ). unplaced_column (alone (record { at = 0; name = n }))) h
one_name column a (Right b) h i = absurd i

two_names : (relation column : List ℕ) (a : Tree name) (b : Tree (opt (word k.Dot ▸ name))) → (placed_name a).name ≡ relation → IsSecond column b → IsColumn (Some relation) column (By (Both a b))
two_names relation column a (Left b) h i = absurd i
two_names relation column a (Right (Both dot second)) h i =
    ap (λ (n : List ℕ). unplaced_column (within (record { at = 0; name = n }) (placed_name second))) h
    ∙ ap (λ (n : List ℕ). unplaced_column (within (record { at = 0; name = relation }) (record { at = 0; name = n }))) i

a_column : (relation : Option (List ℕ)) (column : List ℕ) (m : ℕ) → Derives (line g.colref) (IsColumn relation column) m (λ more. relation_pieces relation (piece.name column ∷ more))
a_column None column m =
    as_line g.colref (IsColumn None column) (λ more. piece.name column ∷ more)
    (both (λ d. IsColumn None column (By d)) (λ more. piece.name column ∷ more) (λ more. more) (a_name column m)
    (as_left IsLeft (λ more. more) (absent Any m tt) (λ a h. tt)) (one_name column)) (λ a h. h)
a_column (Some relation) column m =
    as_line g.colref (IsColumn (Some relation) column) (λ more. piece.name relation ∷ piece.mark marks.Dot ∷ piece.name column ∷ more)
    (both (λ d. IsColumn (Some relation) column (By d)) (λ more. piece.name relation ∷ more) (λ more. piece.mark marks.Dot ∷ piece.name column ∷ more) (a_name relation m)
    (as_right (IsSecond column) (λ more. piece.mark marks.Dot ∷ piece.name column ∷ more)
    (both (λ d. IsSecond column (Right d)) (λ more. piece.mark marks.Dot ∷ more) (λ more. piece.name column ∷ more) (a_mark marks.Dot k.Dot m refl) (a_name column m) (λ a b h i. i)) (λ a h. h)) (two_names relation column)) (λ a h. h)

pub a_colref : (column : ColumnName) (m : ℕ) → Derives (line g.colref) (λ d. unplaced_column (colref_of d) ≡ unplaced_column column) m (column_pieces column)
a_colref column m = a_column column.relation column.column m

-- ---- literals

number_kind : (n : ℕ) (u : Token) → u.kind ≡ t.Number n → n ≤ 9223372036854775807 → kind_of u ≡ k.Number
unfolding kind_of
number_kind n u h le =
    let b : nat_le n 9223372036854775807 ≡ true = le-leb n 9223372036854775807 le in
    ap kind_by h ∙ rw b refl

magnitude_kind : (n : ℕ) (u : Token) → u.kind ≡ t.Number n → n ≤ 9223372036854775808 → among magnitudes (kind_of u) ≡ true
unfolding kind_of
magnitude_kind n u h le = subst (λ (x : Kind). among magnitudes x ≡ true) (sym (ap kind_by h)) (go (nat_le n 9223372036854775807) refl)
  where
    go : (b : Bool) → nat_le n 9223372036854775807 ≡ b → among magnitudes (if b then k.Number else (if n == 9223372036854775808 then k.Greatest else k.Other)) ≡ true
    go true e = refl
    go false e = let f : (n == 9223372036854775808) ≡ true = grind (arith, nat_tests) in rw f refl

text_kind : (w : List ℕ) (u : Token) → u.kind ≡ t.Text w → kind_of u ≡ k.Text
unfolding kind_of
text_kind w u h = ap kind_by h

pub a_text : (w : List ℕ) (m : ℕ) → Derives (word k.Text) (λ d. text_of d ≡ w) m (λ more. piece.text w ∷ more)
a_text w m = a_token (k.Text ∷ []) (piece.text w) (λ d. text_of d ≡ w) m (λ u h holds. among_one k.Text u (text_kind w u h)) (λ u i h. ap written_text h)

an_int : (z : ℤ) (m : ℕ) → Derives (line g.literal) (λ d. literal_of d ≡ v.Int z) m (int_pieces z)
an_int (pos n) m =
    as_line g.literal (λ d. literal_of d ≡ v.Int (pos n)) (λ more. piece.number n ∷ more)
    (as_left (λ d. literal_of (By d) ≡ v.Int (pos n)) (λ more. piece.number n ∷ more)
    (a_token (k.Number ∷ []) (piece.number n) (λ d. literal_of (By (Left d)) ≡ v.Int (pos n)) m (λ u h holds. among_one k.Number u (number_kind n u h holds))
    (λ u i h. ap (λ (x : TokenKind). v.Int (pos (magnitude x))) h)) (λ a h. h)) (λ a h. h)
an_int (negsuc n) m =
    as_line g.literal (λ d. literal_of d ≡ v.Int (negsuc n)) (λ more. piece.mark marks.Minus ∷ piece.magnitude (suc n) ∷ more)
    (as_right (λ d. literal_of (By d) ≡ v.Int (negsuc n)) (λ more. piece.mark marks.Minus ∷ piece.magnitude (suc n) ∷ more)
    (as_left (λ d. literal_of (By (Right d)) ≡ v.Int (negsuc n)) (λ more. piece.mark marks.Minus ∷ piece.magnitude (suc n) ∷ more)
    (both (λ d. literal_of (By (Right (Left d))) ≡ v.Int (negsuc n)) (λ more. piece.mark marks.Minus ∷ more) (λ more. piece.magnitude (suc n) ∷ more) (a_mark marks.Minus k.Minus m refl)
    (a_token magnitudes (piece.magnitude (suc n)) (λ d. negative_of d ≡ v.Int (negsuc n)) m (λ u h holds. magnitude_kind (suc n) u h holds)
    (λ u i h. ap (λ (x : TokenKind). v.Int (neg_ℤ (pos (magnitude x)))) h)) (λ a b h i. i)) (λ a h. h)) (λ a h. h)) (λ a h. h)

pub a_literal : (value : Value) (m : ℕ) → Derives (line g.literal) (λ d. literal_of d ≡ value) m (value_pieces value)
a_literal (v.Int z) m = an_int z m
a_literal (v.Text w) m =
    as_line g.literal (λ d. literal_of d ≡ v.Text w) (λ more. piece.text w ∷ more)
    (as_right (λ d. literal_of (By d) ≡ v.Text w) (λ more. piece.text w ∷ more)
    (as_right (λ d. literal_of (By (Right d)) ≡ v.Text w) (λ more. piece.text w ∷ more) (a_text w m) (λ a h. ap (λ (x : List ℕ). v.Text x) h)) (λ a h. h)) (λ a h. h)

pub an_operand : (expr : Expr) (m : ℕ) → Derives (line g.operand) (λ d. unplaced_expr (operand_of d) ≡ unplaced_expr expr) m (expr_pieces expr)
an_operand (e.Column column) m =
    as_line g.operand (λ d. unplaced_expr (operand_of d) ≡ unplaced_expr (e.Column column)) (column_pieces column)
    (as_left (λ d. unplaced_expr (operand_of (By d)) ≡ unplaced_expr (e.Column column)) (column_pieces column) (a_colref column m) (λ a h. ap (λ (x : ColumnName). e.Column x) h)) (λ a h. h)
an_operand (e.Literal at value) m =
    as_line g.operand (λ d. unplaced_expr (operand_of d) ≡ e.Literal 0 value) (value_pieces value)
    (as_right (λ d. unplaced_expr (operand_of (By d)) ≡ e.Literal 0 value) (value_pieces value) (a_literal value m) (λ a h. ap (λ (x : Value). e.Literal 0 x) h)) (λ a h. h)
