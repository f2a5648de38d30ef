-- What the function finds at the front of bytes stands there.
use Rattle.std.proofs.Common.{◌≡◌, ◌∙◌, ap, sym, subst, refl, ℕ, suc, ◌≤◌, ◌+◌, List, [], ◌∷◌, ◌++◌, length, drop, true, false, arith, inl, inr, length-append, append_assoc}
use Rattle.std.specs.Prelude.{◌⊎◌, ◌&&◌, ◌==◌, not, nat_eq, nat_le, Option, Some, None, IsTrue}
use Rattle.std.specs.List.{take_while, starts_with}
use Rattle.std.specs.Option.{option_map}
use Rattle.std.specs.Str.{is_utf8, str_to_ascii_lowercase}
use Rattle.std.specs.Str.Parse.{digits_value}
use Rattle.std.proofs.lemmas.Bool.{false≢true, cases_Bool, and_parts, leb-true, eqb-true, not-false}
use Rattle.std.proofs.lemmas.Option.{none-some, some_pair_parts, cond_some}
use Rattle.std.proofs.lemmas.List.{length-drop, drop_at}
use Rattle.std.proofs.lemmas.Str.{IsUtf8-from_is_utf8}
use Rattle.rpt_base.specs.Names.{is_name}
use Rattle.sql_lex.specs.declared.tokens.TokenKind.{TokenKind}
use Rattle.sql_lex.specs.declared.tokens.TokenKind.TheVariants as kind
use Rattle.sql_lex.specs.Tokens.{is_blank, is_word_byte, starts, is_word, is_digits, doubled_quotes, mark_of, Spells, Ends, IsItem}
use Rattle.sql_lex.specs.Lexing.{before, number_of, run_token, sized_token, run_at, text_of, text_token, quoted_token, mark_or, mark_token, token_at, as_item, item_at}
use Rattle.sql_lex.proofs.BytesRuns.{run_split, run_stops, run_some, run_all, cond_cases, map_parts}
use Rattle.sql_lex.proofs.Texts.{text-is, text_of-within}
use Rattle.sql_lex.proofs.Marks.{mark_or_parts}

-- a word or a number, whatever stands behind it that is no word byte
abbrev Stands : List ℕ → TokenKind → Type 0
Stands run t = Spells run t × ((rest : List ℕ) → starts is_word_byte rest ≡ false → Ends t rest)

-- a number that is read stands there
number-is : (run : List ℕ) (n : ℕ) → number_of run ≡ Some n → Stands run (kind.Number n)
unfolding number_of
number-is run n h =
    let p = cond_some (is_digits run && nat_le (digits_value 10 run) 9223372036854775808) (digits_value 10 run) n h in
    let both = and_parts (is_digits run) (nat_le (digits_value 10 run) 9223372036854775808) p.0 in
    let few = leb-true (digits_value 10 run) 9223372036854775808 both.1 in
    ((both.0, sym p.1, omega arith), λ rest e. e)

-- a run that is read is a word or a number
run-is : (run : List ℕ) (t : TokenKind) → run_token run ≡ Some t → Stands run t
unfolding run_token
run-is run t h =
    elim (cond_cases (is_word run) (kind.Word (str_to_ascii_lowercase run)) t (option_map kind.Number (number_of run)) h) [
      | inl word ↦ (let P : TokenKind → Type 0 = λ u. Stands run u in subst P word.1 ((word.0, refl), λ rest e. e))
      | inr other ↦ (let p = map_parts kind.Number (number_of run) t other.1 in let P : TokenKind → Type 0 = λ u. Stands run u in subst P p.2 (number-is run p.0 p.1))
    ]

-- a token at the front, of so many bytes, behind which the rest stands
abbrev Found : List ℕ → TokenKind → ℕ → Type 0
Found bytes t size = (spelling : List ℕ) × (bytes ≡ spelling ++ drop size bytes) × Spells spelling t × Ends t (drop size bytes) × (1 ≤ size) × (length spelling ≡ size)

-- the same token and size by another name
found_put : (bytes : List ℕ) (s t : TokenKind) (k n : ℕ) → s ≡ t → k ≡ n → Found bytes s k → Found bytes t n
found_put bytes s t k n e f h =
    let P : TokenKind → Type 0 = λ u. Found bytes u n in
    let Q : ℕ → Type 0 = λ m. Found bytes s m in
    subst P e (subst Q f h)

-- a mark that is read stands there
mark-is : (bytes : List ℕ) (t : TokenKind) (size : ℕ) → mark_token bytes ≡ Some (t, size) → Found bytes t size
unfolding mark_token
mark-is [] t size h = absurd (none-some (t, size) h)
mark-is (b ∷ []) t size h =
    elim (mark_or_parts (mark_of (b ∷ [])) 1 (mark_or (mark_of (b ∷ [])) 1 None) t size h) [
      | inl p ↦ found_put (b ∷ []) (kind.Mark p.0) t 1 size p.2 p.3 (b ∷ [], refl, p.1, tt, omega arith, refl)
      | inr q ↦ elim (mark_or_parts (mark_of (b ∷ [])) 1 None t size q.1) [
        | inl p ↦ found_put (b ∷ []) (kind.Mark p.0) t 1 size p.2 p.3 (b ∷ [], refl, p.1, tt, omega arith, refl)
        | inr n ↦ absurd (none-some (t, size) n.1)
      ]
    ]
mark-is (b ∷ c ∷ rest) t size h =
    elim (mark_or_parts (mark_of (b ∷ c ∷ [])) 2 (mark_or (mark_of (b ∷ [])) 1 None) t size h) [
      | inl p ↦ found_put (b ∷ c ∷ rest) (kind.Mark p.0) t 2 size p.2 p.3 (b ∷ c ∷ [], refl, p.1, tt, omega arith, refl)
      | inr q ↦ elim (mark_or_parts (mark_of (b ∷ [])) 1 None t size q.1) [
        | inl p ↦ found_put (b ∷ c ∷ rest) (kind.Mark p.0) t 1 size p.2 p.3 (b ∷ [], refl, p.1, tt, omega arith, refl)
        | inr n ↦ absurd (none-some (t, size) n.1)
      ]
    ]

-- how long a spelling is that so many bytes are
spelling_size : (bytes spelling : List ℕ) (size : ℕ) → bytes ≡ spelling ++ drop size bytes → size ≤ length bytes → length spelling ≡ size
spelling_size bytes spelling size split fits =
    let all : length bytes ≡ length spelling + length (drop size bytes) = ap length split ∙ length-append spelling (drop size bytes) in
    let behind = length-drop size bytes in
    omega arith

-- a text token that is read stands there
text_token-is : (b : ℕ) (bytes : List ℕ) (o : Option (List ℕ × ℕ)) (t : TokenKind) (size : ℕ) → (b == 39) ≡ true → text_of false bytes ≡ o → text_token o ≡ Some (t, size) → Found (b ∷ bytes) t size
text_token-is b bytes None t size q e h = absurd (none-some (t, size) h)
text_token-is b bytes (Some (text, n)) t size q e h =
    let p = cond_some (is_utf8 text) (kind.Text text, 1 + n) (t, size) h in
    let same = some_pair_parts (kind.Text text) t (1 + n) size (ap Some p.1) in
    let read = text-is false bytes text n e in
    let split : b ∷ bytes ≡ (39 ∷ (doubled_quotes text ++ 39 ∷ [])) ++ drop (suc n) (b ∷ bytes) =
    rw (eqb-true b 39 q) (ap (λ (r : List ℕ). 39 ∷ r) (read.0 ∙ sym (append_assoc (doubled_quotes text) (39 ∷ []) (drop n bytes)))) in
    let fits = text_of-within false bytes text n e in
    let within : suc n ≤ length (b ∷ bytes) = omega arith in
    let more : suc n ≡ 1 + n = omega arith in
    let some : 1 ≤ suc n = omega arith in
    found_put (b ∷ bytes) (kind.Text text) t (suc n) size same.0 (more ∙ same.1)
    (39 ∷ (doubled_quotes text ++ 39 ∷ []), split, (IsUtf8-from_is_utf8 text p.0, refl), read.1, some, spelling_size (b ∷ bytes) (39 ∷ (doubled_quotes text ++ 39 ∷ [])) (suc n) split within)

-- the first byte, where it passes a test for one byte
starts_with_byte : (byte : ℕ) (bytes : List ℕ) → starts (λ b. b == byte) bytes ≡ true → (more : List ℕ) × (bytes ≡ byte ∷ more)
starts_with_byte byte [] e = absurd (false≢true e)
starts_with_byte byte (b ∷ more) e = (more, ap (λ (x : ℕ). x ∷ more) (eqb-true b byte e))

-- what stands behind a spelling
pub drop_spelling : (bytes spelling rest : List ℕ) (size : ℕ) → bytes ≡ spelling ++ rest → length spelling ≡ size → drop size bytes ≡ rest
drop_spelling bytes spelling rest size split long = ap (drop size) split ∙ drop_at spelling rest size long

-- a quoted name that is read stands there
quoted-is : (b : ℕ) (bytes : List ℕ) (t : TokenKind) (size : ℕ) → (b == 34) ≡ true → quoted_token bytes ≡ Some (t, size) → Found (b ∷ bytes) t size
unfolding quoted_token
quoted-is b bytes t size q h =
    let inner = before 34 bytes in
    let behind = drop (length inner) bytes in
    let p = cond_some (starts (λ b. b == 34) behind && is_name inner) (kind.Quoted (str_to_ascii_lowercase inner), length inner + 2) (t, size) h in
    let both = and_parts (starts (λ b. b == 34) behind) (is_name inner) p.0 in
    let same = some_pair_parts (kind.Quoted (str_to_ascii_lowercase inner)) t (length inner + 2) size (ap Some p.1) in
    let closed = starts_with_byte 34 behind both.0 in
    let spelling : List ℕ = 34 ∷ (inner ++ 34 ∷ []) in
    let whole : b ∷ bytes ≡ spelling ++ closed.0 =
    rw (eqb-true b 34 q) (ap (λ (r : List ℕ). 34 ∷ r) (run_split (λ b. not (b == 34)) bytes ∙ (ap (λ (r : List ℕ). inner ++ r) closed.1 ∙ sym (append_assoc inner (34 ∷ []) closed.0)))) in
    let long : length spelling ≡ length inner + 2 = omega (arith, length-append inner (34 ∷ [])) in
    let rest = drop_spelling (b ∷ bytes) spelling closed.0 (length inner + 2) whole long in
    let some : 1 ≤ length inner + 2 = omega arith in
    found_put (b ∷ bytes) (kind.Quoted (str_to_ascii_lowercase inner)) t (length inner + 2) size same.0 same.1
    (spelling, whole ∙ ap (λ (r : List ℕ). spelling ++ r) (sym rest), (inner, refl, both.1, refl), tt, some, long)

-- what a run with a token is
sized_parts : (run : List ℕ) (o : Option TokenKind) (t : TokenKind) (size : ℕ) → sized_token run o ≡ Some (t, size) → (o ≡ Some t) × (length run ≡ size)
sized_parts run None t size h = absurd (none-some (t, size) h)
sized_parts run (Some s) t size h = let same = some_pair_parts s t (length run) size h in (ap Some same.0, same.1)

-- a word or a number that is read stands there
run_at-is : (bytes : List ℕ) (t : TokenKind) (size : ℕ) → starts is_word_byte bytes ≡ true → run_at bytes ≡ Some (t, size) → Found bytes t size
unfolding run_at
run_at-is bytes t size e h =
    let run = take_while is_word_byte bytes in
    let p = sized_parts run (run_token run) t size h in
    let here = run-is run t p.0 in
    found_put bytes t t (length run) size refl p.1
    (run, run_split is_word_byte bytes, here.0, here.1 (drop (length run) bytes) (run_stops is_word_byte bytes), run_some is_word_byte bytes e, refl)

-- a token that is read stands there
token_at-is : (bytes : List ℕ) (t : TokenKind) (size : ℕ) → token_at bytes ≡ Some (t, size) → Found bytes t size
unfolding token_at
token_at-is [] t size h = mark-is [] t size h
token_at-is (b ∷ bytes) t size h =
    elim (cases_Bool (is_word_byte b)) [
      | inl e ↦ run_at-is (b ∷ bytes) t size e (rw e at h)
      | inr e ↦ elim (cases_Bool (b == 39)) [
        | inl q ↦ text_token-is b bytes (text_of false bytes) t size q refl (rw (e, q) at h)
        | inr q ↦ elim (cases_Bool (b == 34)) [
          | inl d ↦ quoted-is b bytes t size d (rw (e, q, d) at h)
          | inr d ↦ mark-is (b ∷ bytes) t size (rw (e, q, d) at h)
        ]
      ]
    ]

-- An item that is found at the front stands there, of so many bytes.
pub record IsFound (bytes : List ℕ) (token : Option TokenKind) (size : ℕ) : Type 0 where
  pub spelling : List ℕ
  pub split : bytes ≡ spelling ++ drop size bytes
  pub stands : IsItem spelling token (drop size bytes)
  pub some : 1 ≤ size
  pub long : length spelling ≡ size

-- the same item by another name
is_found_put : (bytes : List ℕ) (s t : Option TokenKind) (k n : ℕ) → s ≡ t → k ≡ n → IsFound bytes s k → IsFound bytes t n
is_found_put bytes s t k n e f h =
    let P : Option TokenKind → Type 0 = λ u. IsFound bytes u n in
    let Q : ℕ → Type 0 = λ m. IsFound bytes s m in
    subst P e (subst Q f h)

-- white space that is read
white-is : (b : ℕ) (bytes : List ℕ) → is_blank b ≡ true → IsFound (b ∷ bytes) None 1
white-is b bytes e = record { spelling = b ∷ []; split = refl; stands = inl (b, refl, e); some = omega arith; long = refl }

-- what stands behind the bytes before a line end
line_ends : (bytes : List ℕ) → starts (λ b. not (b == 10)) bytes ≡ false → (bytes ≡ []) ⊎ IsTrue (starts (λ b. b == 10) bytes)
line_ends [] e = inl refl
line_ends (b ∷ bytes) e = inr (not-false (b == 10) e)

-- a comment that is read
comment-is : (bytes : List ℕ) → starts_with nat_eq bytes (45 ∷ 45 ∷ []) ≡ true → IsFound bytes None (2 + length (before 10 (drop 2 bytes)))
comment-is [] e = absurd (false≢true e)
comment-is (b ∷ []) e = absurd (false≢true (and_parts (45 == b) false e).1)
comment-is (b ∷ c ∷ text) e =
    let both = and_parts (45 == b) ((45 == c) && true) e in
    let second = and_parts (45 == c) true both.1 in
    let first_is : 45 ≡ b = eqb-true 45 b both.0 in
    let second_is : 45 ≡ c = eqb-true 45 c second.0 in
    let line = before 10 text in
    let size : suc (suc (length line)) ≡ 2 + length line = omega arith in
    let split : b ∷ c ∷ text ≡ (45 ∷ 45 ∷ line) ++ drop (length line) text =
    rw (← first_is, ← second_is) (ap (λ (r : List ℕ). 45 ∷ 45 ∷ r) (run_split (λ b. not (b == 10)) text)) in
    is_found_put (b ∷ c ∷ text) None None (suc (suc (length line))) (2 + length line) refl size
    record {
      spelling = 45 ∷ 45 ∷ line;
      split = split;
      stands = inr (line, refl, run_all (λ b. not (b == 10)) text, line_ends (drop (length line) text) (run_stops (λ b. not (b == 10)) text));
      some = omega arith;
      long = refl;
    }

-- the token of an item
as_item_parts : (o : Option (TokenKind × ℕ)) (token : Option TokenKind) (size : ℕ) → as_item o ≡ Some (token, size) → (t : TokenKind) × (o ≡ Some (t, size)) × (Some t ≡ token)
as_item_parts None token size h = absurd (none-some (token, size) h)
as_item_parts (Some (t, n)) token size h = let same = some_pair_parts (Some t) token n size h in (t, ap (λ (k : ℕ). Some (t, k)) same.1, same.0)

-- a token that is read is an item
token-is : (bytes : List ℕ) (token : Option TokenKind) (size : ℕ) → as_item (token_at bytes) ≡ Some (token, size) → IsFound bytes token size
token-is bytes token size h =
    let p = as_item_parts (token_at bytes) token size h in
    let f = token_at-is bytes p.0 size p.1 in
    is_found_put bytes (Some p.0) token size size p.2 refl (record { spelling = f.0; split = f.1; stands = (f.2, f.3); some = f.4; long = f.5 })

-- an item that is read stands there
pub item_at-is : (bytes : List ℕ) (token : Option TokenKind) (size : ℕ) → item_at bytes ≡ Some (token, size) → IsFound bytes token size
unfolding item_at
item_at-is [] token size h = token-is [] token size h
item_at-is (b ∷ bytes) token size h =
    elim (cases_Bool (is_blank b)) [
      | inl e ↦ (let same = some_pair_parts {A = Option TokenKind} None token 1 size (rw e at h) in is_found_put (b ∷ bytes) None token 1 size same.0 same.1 (white-is b bytes e))
      | inr e ↦ elim (cases_Bool (starts_with nat_eq (b ∷ bytes) (45 ∷ 45 ∷ []))) [
        | inl c ↦ (let same = some_pair_parts {A = Option TokenKind} None token (2 + length (before 10 (drop 2 (b ∷ bytes)))) size (rw (e, c) at h) in
            is_found_put (b ∷ bytes) None token (2 + length (before 10 (drop 2 (b ∷ bytes)))) size same.0 same.1 (comment-is (b ∷ bytes) c))
        | inr c ↦ token-is (b ∷ bytes) token size (rw (e, c) at h)
      ]
    ]

-- how many bytes an item takes
pub item_at-sized : (bytes : List ℕ) (token : Option TokenKind) (size : ℕ) → item_at bytes ≡ Some (token, size) → (1 ≤ size) × (size ≤ length bytes)
item_at-sized bytes token size h =
    let found = item_at-is bytes token size h in
    let all : length bytes ≡ length found.spelling + length (drop size bytes) = ap length found.split ∙ length-append found.spelling (drop size bytes) in
    let long = found.long in
    (found.some, omega arith)
