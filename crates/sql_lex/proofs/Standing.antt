-- Where an item stands at the front of bytes, the function finds it, or a longer one.
use Rattle.std.proofs.Common.{◌≡◌, ◌∙◌, ap, sym, subst, refl, ℕ, suc, ◌≤◌, ◌<◌, ◌+◌, List, [], ◌∷◌, ◌++◌, length, true, false, arith, inl, inr, length-append, append_assoc}
use Rattle.std.specs.Prelude.{◌⊎◌, ◌&&◌, ◌==◌, not, nat_le, Option, Some, None, IsTrue}
use Rattle.std.specs.List.{list_all}
use Rattle.std.specs.Option.{option_map}
use Rattle.std.specs.Char.{is_ascii_digit}
use Rattle.std.specs.Str.{is_utf8, IsUtf8, str_to_ascii_lowercase}
use Rattle.std.specs.Str.Parse.{digits_value}
use Rattle.std.proofs.lemmas.Bool.{false≢true, cases_Bool, and_parts, and_from, and_left, or_right, le-leb, eqb-true, cond-true, cond-false, not_from_true}
use Rattle.std.proofs.lemmas.Bool.Decides.{nat_tests}
use Rattle.std.proofs.lemmas.List.{drop_at}
use Rattle.std.proofs.lemmas.Str.{is_utf8-from_IsUtf8}
use Rattle.rpt_base.specs.Names.{is_name, is_name_byte}
use Rattle.sql_lex.specs.declared.tokens.Mark.{Mark}
use Rattle.sql_lex.specs.declared.tokens.Mark.TheVariants.{LeftParen, RightParen, Comma, Semicolon, Dot, Star, Minus, Eq, Ne, Lt, Le, Gt, Ge}
use Rattle.sql_lex.specs.declared.tokens.TokenKind.{TokenKind}
use Rattle.sql_lex.specs.declared.tokens.TokenKind.TheVariants as kind
use Rattle.sql_lex.specs.Tokens.{is_blank, begins_word, is_word_byte, starts, is_word, is_digits, doubled_quotes, mark_of, Spells, Ends, IsWhite, IsComment, IsItem}
use Rattle.sql_lex.specs.Lexing.{before, number_of, run_token, run_at, quoted_token, mark_token, token_at, item_at}
use Rattle.sql_lex.proofs.BytesRuns.{run_whole}
use Rattle.sql_lex.proofs.Texts.{text-at}
use Rattle.sql_lex.proofs.Marks.{mark_cases}

-- The item is found at the front, or a longer one is.
pub record IsReached (spelling : List ℕ) (token : Option TokenKind) (rest : List ℕ) : Type 0 where
  pub found : Option TokenKind
  pub size : ℕ
  pub reads : item_at (spelling ++ rest) ≡ Some (found, size)
  pub least : ((found ≡ token) × (size ≡ length spelling)) ⊎ (length spelling < size)

-- it is found itself
reached : (spelling : List ℕ) (token : Option TokenKind) (rest : List ℕ) → item_at (spelling ++ rest) ≡ Some (token, length spelling) → IsReached spelling token rest
reached spelling token rest e = record { found = token; size = length spelling; reads = e; least = inl (refl, refl) }

-- a longer one is found
reached_longer : (spelling : List ℕ) (token found : Option TokenKind) (rest : List ℕ) (size : ℕ) → item_at (spelling ++ rest) ≡ Some (found, size) → length spelling < size → IsReached spelling token rest
reached_longer spelling token found rest size e more = record { found = found; size = size; reads = e; least = inr more }

-- a token whose first byte is no white space and no minus is an item
plain_at : (b : ℕ) (bytes : List ℕ) (t : TokenKind) (size : ℕ) → is_blank b ≡ false → (45 == b) ≡ false → token_at (b ∷ bytes) ≡ Some (t, size) → item_at (b ∷ bytes) ≡ Some (Some t, size)
unfolding item_at
plain_at b bytes t size full plain h = rw (full, plain, h) refl

-- digits begin no word
pub digit_begins : (b : ℕ) → is_ascii_digit b ≡ true → begins_word b ≡ false
digit_begins b h = grind (arith, nat_tests)

-- digits are word bytes
pub digits_are_word_bytes : (bytes : List ℕ) → list_all is_ascii_digit bytes ≡ true → list_all is_word_byte bytes ≡ true
digits_are_word_bytes [] h = refl
digits_are_word_bytes (b ∷ bytes) h =
    let both = and_parts (is_ascii_digit b) (list_all is_ascii_digit bytes) h in
    and_from (is_word_byte b) (list_all is_word_byte bytes) (or_right (begins_word b) (is_ascii_digit b) both.0) (digits_are_word_bytes bytes both.1)

-- a word byte is no white space and no minus
pub word_byte_not_blank : (b : ℕ) → is_word_byte b ≡ true → is_blank b ≡ false
word_byte_not_blank b h = grind (arith, nat_tests)

word_byte_not_minus : (b : ℕ) → is_word_byte b ≡ true → (45 == b) ≡ false
word_byte_not_minus b h = grind (arith, nat_tests)

-- a run that stands there is read
run_reached : (b : ℕ) (more rest : List ℕ) (t : TokenKind) → list_all is_word_byte (b ∷ more) ≡ true → starts is_word_byte rest ≡ false → run_token (b ∷ more) ≡ Some t → IsReached (b ∷ more) (Some t) rest
unfolding token_at run_at
run_reached b more rest t all end is =
    let both = and_parts (is_word_byte b) (list_all is_word_byte more) all in
    let at : token_at (b ∷ (more ++ rest)) ≡ Some (t, length (b ∷ more)) =
    cond-true (is_word_byte b) _ _ both.0 ∙ rw (run_whole is_word_byte (b ∷ more) rest all end, is) refl in
    reached (b ∷ more) (Some t) rest (plain_at b (more ++ rest) t (length (b ∷ more)) (word_byte_not_blank b both.0) (word_byte_not_minus b both.0) at)

-- a word that stands there is read
word_reached : (spelling rest : List ℕ) (w : List ℕ) → Spells spelling (kind.Word w) → Ends (kind.Word w) rest → IsReached spelling (Some (kind.Word w)) rest
unfolding run_token
word_reached [] rest w h end = absurd (false≢true h.0)
word_reached (b ∷ more) rest w h end =
    let both = and_parts (begins_word b) (list_all is_word_byte (b ∷ more) && nat_le (length (b ∷ more)) 63) h.0 in
    let all = and_parts (list_all is_word_byte (b ∷ more)) (nat_le (length (b ∷ more)) 63) both.1 in
    run_reached b more rest (kind.Word w) all.0 end (cond-true (is_word (b ∷ more)) (Some (kind.Word (str_to_ascii_lowercase (b ∷ more)))) (option_map kind.Number (number_of (b ∷ more))) h.0 ∙ ap (λ (v : List ℕ). Some (kind.Word v)) (sym h.1))

-- digits within the limit are a number
number_run : (b : ℕ) (more : List ℕ) (n : ℕ) → Spells (b ∷ more) (kind.Number n) → run_token (b ∷ more) ≡ Some (kind.Number n)
unfolding run_token number_of
number_run b more n h =
    let digits = and_parts (nat_le 1 (length (b ∷ more))) (list_all is_ascii_digit (b ∷ more)) h.0 in
    let first = and_parts (is_ascii_digit b) (list_all is_ascii_digit more) digits.1 in
    let few : nat_le (digits_value 10 (b ∷ more)) 9223372036854775808 ≡ true = le-leb (digits_value 10 (b ∷ more)) 9223372036854775808 (let P : ℕ → Type 0 = λ k. k ≤ 9223372036854775808 in subst P h.1 h.2) in
    let number : is_digits (b ∷ more) && nat_le (digits_value 10 (b ∷ more)) 9223372036854775808 ≡ true = and_from (is_digits (b ∷ more)) (nat_le (digits_value 10 (b ∷ more)) 9223372036854775808) h.0 few in
    cond-false (is_word (b ∷ more)) (Some (kind.Word (str_to_ascii_lowercase (b ∷ more)))) (option_map kind.Number (number_of (b ∷ more)))
    (and_left (begins_word b) (list_all is_word_byte (b ∷ more) && nat_le (length (b ∷ more)) 63) (digit_begins b first.0))
    ∙ ap (option_map kind.Number) (cond-true (is_digits (b ∷ more) && nat_le (digits_value 10 (b ∷ more)) 9223372036854775808) (Some (digits_value 10 (b ∷ more))) None number ∙ ap Some (sym h.1))

-- a number that stands there is read
number_reached : (spelling rest : List ℕ) (n : ℕ) → Spells spelling (kind.Number n) → Ends (kind.Number n) rest → IsReached spelling (Some (kind.Number n)) rest
number_reached [] rest n h end = absurd (false≢true h.0)
number_reached (b ∷ more) rest n h end =
    let digits = and_parts (nat_le 1 (length (b ∷ more))) (list_all is_ascii_digit (b ∷ more)) h.0 in
    run_reached b more rest (kind.Number n) (digits_are_word_bytes (b ∷ more) digits.1) end (number_run b more n h)

-- a text token is read behind its first quote
text_token-at : (text rest : List ℕ) → IsUtf8 text → starts (λ b. b == 39) rest ≡ false → token_at (39 ∷ (doubled_quotes text ++ 39 ∷ rest)) ≡ Some (kind.Text text, length (39 ∷ (doubled_quotes text ++ 39 ∷ [])))
unfolding token_at
text_token-at text rest valid end =
    let utf8 : is_utf8 text ≡ true = is_utf8-from_IsUtf8 text valid in
    let size : 1 + (length (doubled_quotes text) + 1) ≡ suc (length (doubled_quotes text ++ 39 ∷ [])) = omega (arith, length-append (doubled_quotes text) (39 ∷ [])) in
    rw (text-at text rest end, utf8, size) refl

-- a text that stands there is read
text_reached : (spelling rest : List ℕ) (text : List ℕ) → Spells spelling (kind.Text text) → Ends (kind.Text text) rest → IsReached spelling (Some (kind.Text text)) rest
text_reached spelling rest text h end =
    let P : List ℕ → Type 0 = λ s. IsReached s (Some (kind.Text text)) rest in
    let inner = doubled_quotes text ++ 39 ∷ [] in
    let at : token_at (39 ∷ (inner ++ rest)) ≡ Some (kind.Text text, length (39 ∷ inner)) = rw (append_assoc (doubled_quotes text) (39 ∷ []) rest) (text_token-at text rest h.0 end) in
    subst P (sym h.1) (reached (39 ∷ inner) (Some (kind.Text text)) rest (plain_at 39 (inner ++ rest) (kind.Text text) (length (39 ∷ inner)) refl refl at))

-- a name's byte is no quote
name_byte_no_quote : (b : ℕ) → is_name_byte b ≡ true → not (b == 34) ≡ true
name_byte_no_quote b h = grind (arith, nat_tests)

pub no_quotes : (bytes : List ℕ) → list_all is_name_byte bytes ≡ true → list_all (λ b. not (b == 34)) bytes ≡ true
no_quotes [] h = refl
no_quotes (b ∷ bytes) h =
    let both = and_parts (is_name_byte b) (list_all is_name_byte bytes) h in
    and_from (not (b == 34)) (list_all (λ b. not (b == 34)) bytes) (name_byte_no_quote b both.0) (no_quotes bytes both.1)

-- the bytes of a name
pub name_bytes : (bytes : List ℕ) → IsTrue (is_name bytes) → list_all is_name_byte bytes ≡ true
name_bytes bytes h =
    let all = and_parts (nat_le 1 (length bytes)) (nat_le (length bytes) 63 && (list_all is_name_byte bytes && is_utf8 bytes)) h in
    let rest = and_parts (nat_le (length bytes) 63) (list_all is_name_byte bytes && is_utf8 bytes) all.1 in
    (and_parts (list_all is_name_byte bytes) (is_utf8 bytes) rest.1).0

-- a quoted name is read behind its first quote
quoted_token-at : (inner rest : List ℕ) → IsTrue (is_name inner) → quoted_token (inner ++ 34 ∷ rest) ≡ Some (kind.Quoted (str_to_ascii_lowercase inner), length inner + 2)
unfolding quoted_token
quoted_token-at inner rest named =
    let run = run_whole (λ b. not (b == 34)) inner (34 ∷ rest) (no_quotes inner (name_bytes inner named)) refl in
    let behind = drop_at inner (34 ∷ rest) (length inner) refl in
    rw (run, behind, named) refl

-- a quoted name that stands there is read
quoted_reached : (spelling rest : List ℕ) (name : List ℕ) → Spells spelling (kind.Quoted name) → IsReached spelling (Some (kind.Quoted name)) rest
unfolding token_at
quoted_reached spelling rest name (inner, is, named, lower) =
    let P : List ℕ → Type 0 = λ s. IsReached s (Some (kind.Quoted name)) rest in
    let Q : List ℕ → Type 0 = λ n. IsReached (34 ∷ (inner ++ 34 ∷ [])) (Some (kind.Quoted n)) rest in
    let long : length (34 ∷ (inner ++ 34 ∷ [])) ≡ length inner + 2 = omega (arith, length-append inner (34 ∷ [])) in
    let at : token_at (34 ∷ ((inner ++ 34 ∷ []) ++ rest)) ≡ Some (kind.Quoted (str_to_ascii_lowercase inner), length (34 ∷ (inner ++ 34 ∷ []))) =
    rw (append_assoc inner (34 ∷ []) rest, long) (quoted_token-at inner rest named) in
    subst P (sym is) (subst Q (sym lower) (reached (34 ∷ (inner ++ 34 ∷ [])) (Some (kind.Quoted (str_to_ascii_lowercase inner))) rest
    (plain_at 34 ((inner ++ 34 ∷ []) ++ rest) (kind.Quoted (str_to_ascii_lowercase inner)) (length (34 ∷ (inner ++ 34 ∷ []))) refl refl at)))

-- white space that stands there is read
white_reached : (spelling rest : List ℕ) → IsWhite spelling → IsReached spelling None rest
unfolding item_at
white_reached spelling rest (b, is, blank) =
    let P : List ℕ → Type 0 = λ s. IsReached s None rest in
    subst P (sym is) (reached (b ∷ []) None rest (rw blank refl))

-- a line ends before what stands behind a comment
line_end : (rest : List ℕ) → (rest ≡ []) ⊎ IsTrue (starts (λ b. b == 10) rest) → starts (λ b. not (b == 10)) rest ≡ false
line_end rest (inl none) = let P : List ℕ → Type 0 = λ r. starts (λ b. not (b == 10)) r ≡ false in subst P (sym none) refl
line_end [] (inr first) = refl
line_end (b ∷ rest) (inr first) = not_from_true (b == 10) first

-- a comment that stands there is read
comment_reached : (spelling rest : List ℕ) → IsComment spelling rest → IsReached spelling None rest
unfolding item_at
comment_reached spelling rest (text, is, line, behind) =
    let P : List ℕ → Type 0 = λ s. IsReached s None rest in
    let run = run_whole (λ b. not (b == 10)) text rest line (line_end rest behind) in
    let size : 2 + length text ≡ suc (suc (length text)) = omega arith in
    subst P (sym is) (reached (45 ∷ 45 ∷ text) None rest (rw (run, size) refl))

-- an item of white space or a comment that stands there is read
pub nothing_reached : (spelling rest : List ℕ) → IsItem spelling None rest → IsReached spelling None rest
nothing_reached spelling rest (inl white) = white_reached spelling rest white
nothing_reached spelling rest (inr comment) = comment_reached spelling rest comment

-- a mark that is read is a token
mark_token-at : (b : ℕ) (bytes : List ℕ) (t : TokenKind) (size : ℕ) → is_word_byte b ≡ false → (b == 39) ≡ false → (b == 34) ≡ false → mark_token (b ∷ bytes) ≡ Some (t, size) → token_at (b ∷ bytes) ≡ Some (t, size)
unfolding token_at
mark_token-at b bytes t size w q d h = rw (w, q, d, h) refl

-- a mark of one byte, where no two bytes are one that begins so
one_token : (b : ℕ) (m : Mark) (rest : List ℕ) → mark_of (b ∷ []) ≡ Some m → ((c : ℕ) (more : List ℕ) → rest ≡ c ∷ more → mark_of (b ∷ c ∷ []) ≡ None) → mark_token (b ∷ rest) ≡ Some (kind.Mark m, 1)
unfolding mark_token
one_token b m [] one two = rw one refl
one_token b m (c ∷ rest) one two = rw (two c rest refl, one) refl

-- such a mark is found where it stands
one_reached : (b : ℕ) (m : Mark) (rest : List ℕ) → is_blank b ≡ false → (45 == b) ≡ false → is_word_byte b ≡ false → (b == 39) ≡ false → (b == 34) ≡ false
    → mark_of (b ∷ []) ≡ Some m → ((c : ℕ) (more : List ℕ) → rest ≡ c ∷ more → mark_of (b ∷ c ∷ []) ≡ None) → IsReached (b ∷ []) (Some (kind.Mark m)) rest
one_reached b m rest full plain w q d one two =
    reached (b ∷ []) (Some (kind.Mark m)) rest (plain_at b rest (kind.Mark m) 1 full plain (mark_token-at b rest (kind.Mark m) 1 w q d (one_token b m rest one two)))

-- a minus, or a comment that begins with it
minus_reached : (rest : List ℕ) → IsReached (45 ∷ []) (Some (kind.Mark Minus)) rest
unfolding item_at token_at mark_token
minus_reached [] = reached (45 ∷ []) (Some (kind.Mark Minus)) [] refl
minus_reached (c ∷ rest) =
    elim (cases_Bool (45 == c)) [
      | inl e ↦ reached_longer (45 ∷ []) (Some (kind.Mark Minus)) None (c ∷ rest) (2 + length (before 10 rest)) (rw e refl) (omega arith)
      | inr e ↦ reached (45 ∷ []) (Some (kind.Mark Minus)) (c ∷ rest) (rw e refl)
    ]

-- a < and a byte that it does not go on with are no mark
lt_two : (c : ℕ) → (c == 61) ≡ false → (c == 62) ≡ false → mark_of (60 ∷ c ∷ []) ≡ None
lt_two c e f = rw (e, f) refl

-- the same of a >
gt_two : (c : ℕ) → (c == 61) ≡ false → mark_of (62 ∷ c ∷ []) ≡ None
gt_two c e = rw e refl

-- the first byte of what stands behind
same_first : (P : ℕ → Type 0) (c d : ℕ) (rest more : List ℕ) → P c → c ∷ rest ≡ d ∷ more → P d
same_first P c d rest more h is = let same : c ≡ d = cc in subst P same h

-- a <, or a mark that begins with it
lt_reached : (rest : List ℕ) → IsReached (60 ∷ []) (Some (kind.Mark Lt)) rest
unfolding item_at token_at mark_token
lt_reached [] = reached (60 ∷ []) (Some (kind.Mark Lt)) [] refl
lt_reached (c ∷ rest) =
    elim (cases_Bool (c == 61)) [
      | inl e ↦ (let is : c ≡ 61 = eqb-true c 61 e in reached_longer (60 ∷ []) (Some (kind.Mark Lt)) (Some (kind.Mark Le)) (c ∷ rest) 2 (rw is refl) (omega arith))
      | inr e ↦ elim (cases_Bool (c == 62)) [
        | inl f ↦ (let is : c ≡ 62 = eqb-true c 62 f in reached_longer (60 ∷ []) (Some (kind.Mark Lt)) (Some (kind.Mark Ne)) (c ∷ rest) 2 (rw is refl) (omega arith))
        | inr f ↦ one_reached 60 Lt (c ∷ rest) refl refl refl refl refl refl (λ d more is. same_first (λ k. mark_of (60 ∷ k ∷ []) ≡ None) c d rest more (lt_two c e f) is)
      ]
    ]

-- a >, or a mark that begins with it
gt_reached : (rest : List ℕ) → IsReached (62 ∷ []) (Some (kind.Mark Gt)) rest
unfolding item_at token_at mark_token
gt_reached [] = reached (62 ∷ []) (Some (kind.Mark Gt)) [] refl
gt_reached (c ∷ rest) =
    elim (cases_Bool (c == 61)) [
      | inl e ↦ (let is : c ≡ 61 = eqb-true c 61 e in reached_longer (62 ∷ []) (Some (kind.Mark Gt)) (Some (kind.Mark Ge)) (c ∷ rest) 2 (rw is refl) (omega arith))
      | inr e ↦ one_reached 62 Gt (c ∷ rest) refl refl refl refl refl refl (λ d more is. same_first (λ k. mark_of (62 ∷ k ∷ []) ≡ None) c d rest more (gt_two c e) is)
    ]

-- a mark of two bytes
two_reached : (b c : ℕ) (m : Mark) (rest : List ℕ) → item_at (b ∷ c ∷ rest) ≡ Some (Some (kind.Mark m), 2) → IsReached (b ∷ c ∷ []) (Some (kind.Mark m)) rest
two_reached b c m rest e = reached (b ∷ c ∷ []) (Some (kind.Mark m)) rest e

-- a mark that stands there is read, or what is longer
mark_reached : (spelling rest : List ℕ) (m : Mark) → Spells spelling (kind.Mark m) → IsReached spelling (Some (kind.Mark m)) rest
unfolding item_at token_at mark_token
mark_reached spelling rest m h =
    mark_cases (λ s k. IsReached s (Some (kind.Mark k)) rest) spelling m h
    (one_reached 40 LeftParen rest refl refl refl refl refl refl (λ c more i. refl))
    (one_reached 41 RightParen rest refl refl refl refl refl refl (λ c more i. refl))
    (one_reached 44 Comma rest refl refl refl refl refl refl (λ c more i. refl))
    (one_reached 59 Semicolon rest refl refl refl refl refl refl (λ c more i. refl))
    (one_reached 46 Dot rest refl refl refl refl refl refl (λ c more i. refl))
    (one_reached 42 Star rest refl refl refl refl refl refl (λ c more i. refl))
    (minus_reached rest)
    (one_reached 61 Eq rest refl refl refl refl refl refl (λ c more i. refl))
    (two_reached 60 62 Ne rest refl)
    (two_reached 33 61 Ne rest refl)
    (lt_reached rest)
    (two_reached 60 61 Le rest refl)
    (gt_reached rest)
    (two_reached 62 61 Ge rest refl)

-- an item that stands there is read, or a longer one
pub item_reached : (spelling : List ℕ) (token : Option TokenKind) (rest : List ℕ) → IsItem spelling token rest → IsReached spelling token rest
item_reached spelling None rest h = nothing_reached spelling rest h
item_reached spelling (Some (kind.Word w)) rest h = word_reached spelling rest w h.0 h.1
item_reached spelling (Some (kind.Quoted name)) rest h = quoted_reached spelling rest name h.0
item_reached spelling (Some (kind.Number n)) rest h = number_reached spelling rest n h.0 h.1
item_reached spelling (Some (kind.Text text)) rest h = text_reached spelling rest text h.0 h.1
item_reached spelling (Some (kind.Mark m)) rest h = mark_reached spelling rest m h.0
