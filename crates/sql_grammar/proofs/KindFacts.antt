-- What the kind of a token says of it.
use Rattle.std.proofs.Common.{◌≡◌, ℕ, ◌≤◌, Bool, true, false, List, [], ◌∷◌, refl, ◌∙◌, arith}
use Rattle.std.specs.Prelude.{◌==◌, nat_le, if◌then◌else◌, IsTrue, IfOk, Result, Ok, Err}
use Rattle.std.specs.List.{list_all}
use Rattle.std.specs.Char.{to_ascii_lowercase}
use Rattle.std.specs.Str.{str_to_ascii_lowercase}
use Rattle.std.proofs.lemmas.Bool.{and_parts, and_from}
use Rattle.std.proofs.lemmas.Bool.Decides.{nat_tests}
use Rattle.rpt_base.specs.Names.{is_name}
use Rattle.sql_lex.specs.declared.tokens.Token.{Token}
use Rattle.sql_lex.specs.declared.tokens.TokenKind.{TokenKind}
use Rattle.sql_lex.specs.declared.tokens.TokenKind.TheVariants as t
use Rattle.sql_lex.specs.declared.tokens.Mark.TheVariants as m
use Rattle.sql_lex.specs.Tokens.{is_word}
use Rattle.sql_grammar.specs.declared.kinds.Kind.{Kind}
use Rattle.sql_grammar.specs.declared.kinds.Kind.TheVariants as k
use Rattle.sql_grammar.specs.Kinds.{kind_of, kind_by, kind_of_word, kind_of_number, among, is_name_in_lower_case, is_word_in_lower_case, is_not_capital}
use Rattle.sql_grammar.specs.Grammar.{names, magnitudes}
use Rattle.sql_grammar.specs.Meaning.{written_text, magnitude}

-- what holds of both holds of the one that is chosen
choose : (P : Kind → Type 0) (b : Bool) {x y : Kind} → P x → P y → P (if b then x else y)
choose P true p q = p
choose P false p q = q

number_kind : (P : Kind → Type 0) (n : ℕ) → P k.Number → P k.Greatest → P k.Other → P (kind_of_number n)
number_kind P n a b c = choose P (nat_le n 9223372036854775807) a (choose P (n == 9223372036854775808) b c)

-- what the lexer's law says
abbrev WordsAreNames : Type 0
WordsAreNames = (bytes : List ℕ) → IsTrue (is_word bytes) → IsTrue (is_name bytes)

-- then a word in lower case is a name in lower case
word_plain : WordsAreNames → (bytes : List ℕ) → is_word_in_lower_case bytes ≡ true → is_name_in_lower_case bytes ≡ true
word_plain named bytes h =
    let both = and_parts (is_word bytes) (list_all is_not_capital bytes) h in
    and_from (is_name bytes) (list_all is_not_capital bytes) (named bytes both.0) both.1

-- a name's token has a name in lower case
plain : WordsAreNames → (kind : TokenKind) → among names (kind_by kind) ≡ true → is_name_in_lower_case (written_text kind) ≡ true
plain named (t.Word word) h = word_plain named word (go (is_word_in_lower_case word) h)
  where
    go : (b : Bool) → among names (if b then kind_of_word word else k.Other) ≡ true → b ≡ true
    go true h = refl
    go false h = absurd cc
plain named (t.Quoted word) h = go (is_name_in_lower_case word) h
  where
    go : (b : Bool) → among names (if b then k.Name else k.Other) ≡ true → b ≡ true
    go true h = refl
    go false h = absurd cc
plain named (t.Number n) h = absurd (let e : among names (kind_of_number n) ≡ false = number_kind (λ kind. among names kind ≡ false) n refl refl refl in cc)
plain named (t.Text text) h = absurd cc
plain named (t.Mark m.LeftParen) h = absurd cc
plain named (t.Mark m.RightParen) h = absurd cc
plain named (t.Mark m.Comma) h = absurd cc
plain named (t.Mark m.Semicolon) h = absurd cc
plain named (t.Mark m.Dot) h = absurd cc
plain named (t.Mark m.Star) h = absurd cc
plain named (t.Mark m.Minus) h = absurd cc
plain named (t.Mark m.Eq) h = absurd cc
plain named (t.Mark m.Ne) h = absurd cc
plain named (t.Mark m.Lt) h = absurd cc
plain named (t.Mark m.Le) h = absurd cc
plain named (t.Mark m.Gt) h = absurd cc
plain named (t.Mark m.Ge) h = absurd cc

pub lower_byte : (b : ℕ) → is_not_capital b ≡ true → to_ascii_lowercase b ≡ b
lower_byte b h = grind (arith, nat_tests)

pub lower_bytes : (bytes : List ℕ) → list_all is_not_capital bytes ≡ true → str_to_ascii_lowercase bytes ≡ bytes
lower_bytes [] h = refl
lower_bytes (b ∷ bytes) h =
    let both = and_parts (is_not_capital b) (list_all is_not_capital bytes) h in
    rw (lower_byte b both.0, lower_bytes bytes both.1) refl

pub plain_parts : (bytes : List ℕ) → is_name_in_lower_case bytes ≡ true → IsTrue (is_name bytes) × (str_to_ascii_lowercase bytes ≡ bytes)
plain_parts bytes h =
    let both = and_parts (is_name bytes) (list_all is_not_capital bytes) h in
    (both.0, lower_bytes bytes both.1)

pub name_facts : WordsAreNames → (token : Token) → among names (kind_of token) ≡ true → IsTrue (is_name (written_text token.kind)) × (str_to_ascii_lowercase (written_text token.kind) ≡ written_text token.kind)
unfolding kind_of
name_facts named token h = plain_parts (written_text token.kind) (plain named token.kind h)

-- a number's token has a number of 63 bits, or one more
abbrev Sized : Kind → ℕ → Type 0
Sized kind n = (kind ≡ k.Number → n ≤ 9223372036854775807) × (among magnitudes kind ≡ true → n ≤ 9223372036854775808)

sized : (kind : TokenKind) → Sized (kind_by kind) (magnitude kind)
sized (t.Word word) = ((λ h. omega arith), (λ h. omega arith))
sized (t.Quoted word) = ((λ h. omega arith), (λ h. omega arith))
sized (t.Number n) = go (nat_le n 9223372036854775807) (n == 9223372036854775808) refl refl
  where
    go : (b c : Bool) → nat_le n 9223372036854775807 ≡ b → (n == 9223372036854775808) ≡ c → Sized (if b then k.Number else (if c then k.Greatest else k.Other)) n
    go true c e f = ((λ h. grind (arith, nat_tests)), (λ h. grind (arith, nat_tests)))
    go false true e f = ((λ h. absurd cc), (λ h. grind (arith, nat_tests)))
    go false false e f = ((λ h. absurd cc), (λ h. absurd cc))
sized (t.Text text) = ((λ h. omega arith), (λ h. omega arith))
sized (t.Mark mark) = ((λ h. omega arith), (λ h. omega arith))

pub number_fits : (token : Token) → kind_of token ≡ k.Number → magnitude token.kind ≤ 9223372036854775807
unfolding kind_of
number_fits token h = (sized token.kind).0 h

pub magnitude_fits : (token : Token) → among magnitudes (kind_of token) ≡ true → magnitude token.kind ≤ 9223372036854775808
unfolding kind_of
magnitude_fits token h = (sized token.kind).1 h

pub ok_same : {X E : Type 0} {a b : X} (r : Result X E) → a ≡ b → IfOk r (λ x. x ≡ a) → IfOk r (λ x. x ≡ b)
ok_same (Ok x) e h = h ∙ e
ok_same (Err f) e h = h
