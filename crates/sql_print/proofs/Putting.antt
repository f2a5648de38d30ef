-- How pieces are put one after the other.
use Rattle.std.proofs.Common.{◌≡◌, ℕ, true, List, [], ◌∷◌, ◌++◌, refl, sym, ◌∙◌, ap, subst, arith, ℤ, pos, negsuc, nat_abs, false, append_assoc, Result, Ok, Err}
use Rattle.std.specs.Prelude.{OnOk, IsTrue}
use Rattle.std.specs.Int.Signed.{le_z}
use Rattle.std.specs.List.{list_all}
use Rattle.sql_lex.specs.declared.tokens.Mark.TheVariants as m
use Rattle.std.specs.Char.{to_ascii_lowercase}
use Rattle.std.specs.Str.{str_to_ascii_lowercase}
use Rattle.std.proofs.lemmas.Bool.{and_from}
use Rattle.std.proofs.lemmas.Bool.Decides.{nat_tests}
use Rattle.rpt_base.specs.Names.{is_name}
use Rattle.sql_grammar.specs.Kinds.{is_name_in_lower_case, is_not_capital}
use Rattle.sql_print.specs.Pieces.{Piece, name, mark, magnitude, spelling, shown_text, IsPiece, ArePieces}
use Rattle.sql_print.specs.Printed.{int_pieces}
use Rattle.sql_print.specs.Puts.{Puts, Leaves}

-- nothing is put
pub nothing : (text : List ℕ) → Puts (λ more. more) text text
nothing text = record { shows = λ more. refl; holds = λ more h. h }

-- first these, and then those
pub then : {first second : List Piece → List Piece} {x y z : List ℕ} → Puts first x y → Puts second y z → Puts (λ more. first (second more)) x z
then {first} {second} a b = record { shows = λ more. a.shows (second more) ∙ b.shows more; holds = λ more h. a.holds (second more) (b.holds more h) }

-- one piece
pub one : (piece : Piece) {old new : List ℕ} → IsPiece piece → new ≡ old ++ (spelling piece ++ 32 ∷ []) → Puts (λ more. piece ∷ more) old new
one piece {old} {new} holds e = record {
  shows = λ more. ap (λ (xs : List ℕ). old ++ xs) (sym (append_assoc (spelling piece) (32 ∷ []) (shown_text more)))
      ∙ sym (append_assoc old (spelling piece ++ 32 ∷ []) (shown_text more)) ∙ ap (λ (xs : List ℕ). xs ++ shown_text more) (sym e);
  holds = λ more h. (holds, h);
}

-- the same pieces
pub same : {these those : List Piece → List Piece} {x y : List ℕ} → ((more : List Piece) → these more ≡ those more) → Puts these x y → Puts those x y
same {these} {those} {x} {y} e h = record {
  shows = λ more. ap (λ (ps : List Piece). x ++ shown_text ps) (sym (e more)) ∙ h.shows more;
  holds = λ more k. subst ArePieces (e more) (h.holds more k);
}

capital : (b : ℕ) → to_ascii_lowercase b ≡ b → is_not_capital b ≡ true
capital b h = grind (arith, nat_tests)

no_capitals : (bytes : List ℕ) → str_to_ascii_lowercase bytes ≡ bytes → list_all is_not_capital bytes ≡ true
no_capitals [] h = refl
no_capitals (b ∷ bytes) h =
    let first : to_ascii_lowercase b ≡ b = cc in
    let rest : str_to_ascii_lowercase bytes ≡ bytes = cc in
    rw (capital b first, no_capitals bytes rest) refl

pub name_holds : (bytes : List ℕ) → IsTrue (is_name bytes) → str_to_ascii_lowercase bytes ≡ bytes → IsTrue (is_name_in_lower_case bytes)
name_holds bytes h lower = and_from (is_name bytes) (list_all is_not_capital bytes) h (no_capitals bytes lower)

-- a name as it is put
pub quoted : (old n : List ℕ) → ((old ++ 34 ∷ []) ++ n) ++ 34 ∷ 32 ∷ [] ≡ old ++ (spelling (name n) ++ 32 ∷ [])
quoted old n =
    append_assoc (old ++ 34 ∷ []) n (34 ∷ 32 ∷ []) ∙ append_assoc old (34 ∷ []) (n ++ 34 ∷ 32 ∷ [])
    ∙ ap (λ (xs : List ℕ). old ++ 34 ∷ xs) (sym (append_assoc n (34 ∷ []) (32 ∷ [])))

-- a number with its minus
pub negative_is : (z : ℤ) (n : ℕ) → le_z (pos 0) z ≡ false → n ≡ nat_abs z → (more : List Piece) → mark m.Minus ∷ magnitude n ∷ more ≡ int_pieces z more
negative_is (pos k) n h e more = absurd (grind (arith, nat_tests))
negative_is (negsuc k) n h e more = ap (λ (i : ℕ). mark m.Minus ∷ magnitude i ∷ more) e

-- ---- loops

pub leaves_all : (whole : List Piece → List Piece) (text : List ℕ) → Leaves whole whole text text
leaves_all whole text = record { shows = λ more. refl; holds = λ more h. h }

-- the next of the rest is put
pub leaves : {whole first second : List Piece → List Piece} {x y z : List ℕ} → Leaves whole (λ more. first (second more)) x y → Puts first y z → Leaves whole second x z
leaves {whole} {first} {second} a b = record {
  shows = λ more. a.shows more ∙ b.shows (second more);
  holds = λ more h. a.holds more (b.holds (second more) h);
}

-- nothing is left
pub leaves_none : {whole : List Piece → List Piece} {x y : List ℕ} → Leaves whole (λ more. more) x y → Puts whole x y
leaves_none a = record { shows = a.shows; holds = a.holds }

-- what a call put, in other words
pub on_same : {X E : Type 0} (these those : List Piece → List Piece) (x y : List ℕ) (r : Result X E) → ((more : List Piece) → these more ≡ those more) → OnOk r (Puts these x y) → OnOk r (Puts those x y)
on_same these those x y (Ok u) e h = same e h
on_same these those x y (Err f) e h = h
