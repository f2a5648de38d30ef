-- The tokens of the function are those of the bytes, and its refusal names the place where no item stands.
use Rattle.std.proofs.Common.{◌≡◌, ◌∙◌, ap, sym, subst, refl, ℕ, suc, zero, ◌≤◌, ◌<◌, ◌+◌, ◌-◌, List, [], ◌∷◌, ◌++◌, length, drop, arith, inl, inr, length-append, length-drop}
use Rattle.std.specs.Prelude.{◌⊎◌, nat_eq, Option, Some, None, Result, Ok, Err}
use Rattle.std.specs.List.{starts_with}
use Rattle.std.proofs.lemmas.Bool.{cases_Bool}
use Rattle.std.proofs.lemmas.Option.{none-some, some_pair_parts}
use Rattle.std.proofs.lemmas.List.{append-nil}
use Rattle.sql_lex.specs.declared.tokens.Token.{Token}
use Rattle.sql_lex.specs.declared.tokens.TokenKind.{TokenKind}
use Rattle.sql_lex.specs.declared.errors.LexError.{LexError}
use Rattle.sql_lex.specs.declared.errors.LexError.TheVariants as error
use Rattle.sql_lex.specs.Tokens.{Item, IsItem, Takes, TakesAll, given_tokens, tokens_from, order_mark, without_order_mark, IsTokenList, IsBadAt}
use Rattle.sql_lex.specs.Lexing.{item_at, joined_tokens, tokens_behind, lexed}
use Rattle.sql_lex.proofs.Found.{item_at-is, item_at-sized, drop_spelling}
use Rattle.sql_lex.proofs.Standing.{item_reached}
use Rattle.sql_lex.proofs.Steps.{joined-joined, joined-none, tokens_behind-drop, tokens_behind-item, tokens_behind-none}

-- an item at the front is the one that is read, or that is longer
reach_at : (bytes : List ℕ) (item : Item) (behind : List ℕ) → bytes ≡ item.spelling ++ behind → IsItem item.spelling item.token behind
    → (found : Option TokenKind) × (size : ℕ) × (item_at bytes ≡ Some (found, size)) × (((found ≡ item.token) × (size ≡ length item.spelling)) ⊎ (length item.spelling < size))
reach_at bytes item behind split stands =
    let r = item_reached item.spelling item.token behind stands in (r.found, r.size, ap item_at split ∙ r.reads, r.least)

-- the item that is read is the longest
found_takes : (bytes : List ℕ) (token : Option TokenKind) (size : ℕ) → item_at bytes ≡ Some (token, size)
    → (spelling : List ℕ) × (length spelling ≡ size) × Takes bytes (record { spelling = spelling; token = token }) (drop size bytes)
found_takes bytes token size h =
    let f = item_at-is bytes token size h in
    let long = f.long in (
      f.spelling,
      long,
      record {
        split = f.split;
        stands = f.stands;
        longest = λ other behind split stands. (let p = reach_at bytes other behind split stands in
            let same = some_pair_parts p.0 token p.1 size (sym p.2 ∙ h) in
            elim p.3 [ inl e ↦ omega (arith, e.1, same.1) | inr e ↦ omega (arith, e, same.1) ]);
      },
    )

-- the longest item is the one that is read
pub takes_read : (bytes : List ℕ) (item : Item) (rest : List ℕ) → Takes bytes item rest → item_at bytes ≡ Some (item.token, length item.spelling)
takes_read bytes item rest taken =
    let p = reach_at bytes item rest taken.split taken.stands in
    elim p.3 [
      | inl e ↦ p.2 ∙ (ap (λ (t : Option TokenKind). Some (t, p.1)) e.0 ∙ ap (λ (k : ℕ). Some (item.token, k)) e.1)
      | inr more ↦ (let f = item_at-is bytes p.0 p.1 p.2 in
          let least = taken.longest (record { spelling = f.spelling; token = p.0 }) (drop p.1 bytes) f.split f.stands in
          let long = f.long in
          absurd (omega arith))
    ]

-- where no item is read, none stands
none_stands : (bytes : List ℕ) → item_at bytes ≡ None → (item : Item) (behind : List ℕ) → bytes ≡ item.spelling ++ behind → IsItem item.spelling item.token behind → ⊥
none_stands bytes none item behind split stands =
    let p = reach_at bytes item behind split stands in none-some (p.0, p.1) (sym none ∙ p.2)

-- where no item stands, none is read
none_read : (bytes : List ℕ) → ((item : Item) (behind : List ℕ) → bytes ≡ item.spelling ++ behind → IsItem item.spelling item.token behind → ⊥) → item_at bytes ≡ None
none_read bytes none = by (item_at bytes) refl
  where
    by : (o : Option (Option TokenKind × ℕ)) → item_at bytes ≡ o → item_at bytes ≡ None
    by None h = h
    by (Some (token, size)) h = let f = item_at-is bytes token size h in absurd (none (record { spelling = f.spelling; token = token }) (drop size bytes) f.split f.stands)

-- items that are taken are read
taken_read : (items : List Item) (bytes rest : List ℕ) (offset end : ℕ) → TakesAll bytes items rest → offset + length bytes ≡ end + length rest
    → tokens_behind 0 offset bytes ≡ joined_tokens (tokens_from offset items) (tokens_behind 0 end rest)
taken_read [] bytes rest offset end h place =
    let same_length : length bytes ≡ length rest = ap length h in
    let same : offset ≡ end = omega arith in
    rw (same, h) (sym (joined-none (tokens_behind 0 end rest)))
taken_read (item ∷ items) bytes rest offset end (behind, takes, others) place =
    let size = length item.spelling in
    let read = takes_read bytes item behind takes in
    let some = (item_at-sized bytes item.token size read).0 in
    let left = drop_spelling bytes item.spelling behind size takes.split refl in
    let all : length bytes ≡ size + length behind = ap length takes.split ∙ length-append item.spelling behind in
    tokens_behind-item offset bytes item.token size read some
    ∙ (ap (λ (r : List ℕ). joined_tokens (given_tokens item.token offset (offset + size)) (tokens_behind 0 (offset + size) r)) left
    ∙ (ap (joined_tokens (given_tokens item.token offset (offset + size))) (taken_read items behind rest (offset + size) end others (omega arith))
    ∙ joined-joined (given_tokens item.token offset (offset + size)) (tokens_from (offset + size) items) (tokens_behind 0 end rest)))

-- what an answer says of the bytes from an offset on: their tokens, or the place at which no item stands
abbrev Said : ℕ → List ℕ → Result (List Token) LexError → Type 0
Said offset bytes (Ok tokens) = (items : List Item) × TakesAll bytes items [] × (tokens ≡ tokens_from offset items)
Said offset bytes (Err (error.At bad)) =
    (items : List Item) × (rest : List ℕ) × TakesAll bytes items rest × (rest ≡ [] → ⊥) × (item_at rest ≡ None) × (bad + length rest ≡ offset + length bytes)
Said offset bytes (Err error.Memory) = ⊥

-- the same with one item before
said_more : (bytes : List ℕ) (token : Option TokenKind) (size offset : ℕ) (r : Result (List Token) LexError) → item_at bytes ≡ Some (token, size)
    → Said (offset + size) (drop size bytes) r → Said offset bytes (joined_tokens (given_tokens token offset (offset + size)) r)
said_more bytes token size offset (Ok tokens) h (items, taken, is) =
    let t = found_takes bytes token size h in
    let item : Item = record { spelling = t.0; token = token } in
    (item ∷ items, (drop size bytes, t.2, taken), rw (is, t.1) refl)
said_more bytes token size offset (Err (error.At bad)) h (items, rest, taken, more, none, place) =
    let t = found_takes bytes token size h in
    let item : Item = record { spelling = t.0; token = token } in
    let sized = item_at-sized bytes token size h in
    let behind = length-drop size bytes in
    (item ∷ items, rest, (drop size bytes, t.2, taken), more, none, omega arith)
said_more bytes token size offset (Err error.Memory) h said = said

-- what the function says
said_behind : (skipped offset : ℕ) (bytes : List ℕ) → Said (offset + skipped) (drop skipped bytes) (tokens_behind skipped offset bytes)
said_behind zero offset [] = ([], refl, refl)
said_behind (suc skipped) offset [] = ([], refl, refl)
said_behind (suc skipped) offset (b ∷ bytes) =
    let same : offset + suc skipped ≡ offset + 1 + skipped = omega arith in
    rw same (said_behind skipped (offset + 1) bytes)
said_behind zero offset (b ∷ bytes) = by (item_at (b ∷ bytes)) refl (λ n. said_behind n (offset + 1) bytes)
  where
    some : (b ∷ bytes) ≡ [] → ⊥
    some e = cc

    put : (r : Result (List Token) LexError) → tokens_behind 0 offset (b ∷ bytes) ≡ r → Said offset (b ∷ bytes) r → Said (offset + 0) (b ∷ bytes) (tokens_behind 0 offset (b ∷ bytes))
    put r e said = let same : offset + 0 ≡ offset = omega arith in rw (same, e) said

    by : (o : Option (Option TokenKind × ℕ)) → item_at (b ∷ bytes) ≡ o → ((n : ℕ) → Said (offset + 1 + n) (drop n bytes) (tokens_behind n (offset + 1) bytes))
        → Said (offset + 0) (b ∷ bytes) (tokens_behind 0 offset (b ∷ bytes))
    by None h more = put (Err (error.At offset)) (tokens_behind-none offset (b ∷ bytes) some h) ([], b ∷ bytes, refl, some, h, refl)
    by (Some (token, zero)) h more = let sized = item_at-sized (b ∷ bytes) token zero h in absurd (omega arith)
    by (Some (token, suc n)) h more =
        let one : 1 ≤ suc n = omega arith in
        let place : offset + 1 + n ≡ offset + suc n = omega arith in
        let behind = tokens_behind-drop n (offset + 1) bytes in
        let P : ℕ → Type 0 = λ k. Said k (drop n bytes) (tokens_behind 0 k (drop n bytes)) in
        let Q : Result (List Token) LexError → Type 0 = λ r. Said (offset + 1 + n) (drop n bytes) r in
        put (joined_tokens (given_tokens token offset (offset + suc n)) (tokens_behind 0 (offset + suc n) (drop n bytes))) (tokens_behind-item offset (b ∷ bytes) token (suc n) h one)
        (said_more (b ∷ bytes) token (suc n) offset (tokens_behind 0 (offset + suc n) (drop n bytes)) h (subst P place (subst Q behind (more n))))

-- how many bytes an order mark takes
pub order_mark_within : (bytes : List ℕ) → length (without_order_mark bytes) ≤ length bytes
order_mark_within bytes =
    elim (cases_Bool (starts_with nat_eq bytes order_mark)) [
      | inl e ↦ rw e (let less = length-drop 3 bytes in omega arith)
      | inr e ↦ rw e (omega arith)
    ]

-- what is said of all bytes
said : (bytes : List ℕ) → Said (length bytes - length (without_order_mark bytes)) (without_order_mark bytes) (lexed bytes)
unfolding lexed
said bytes =
    let start = length bytes - length (without_order_mark bytes) in
    let same : start + 0 ≡ start = omega arith in
    let P : ℕ → Type 0 = λ k. Said k (without_order_mark bytes) (tokens_behind 0 start (without_order_mark bytes)) in
    subst P same (said_behind 0 start (without_order_mark bytes))

-- the tokens of the bytes are read
pub listed : (bytes : List ℕ) (tokens : List Token) → IsTokenList bytes tokens → lexed bytes ≡ Ok tokens
unfolding lexed
listed bytes tokens (items, taken, is) =
    let whole = without_order_mark bytes in
    let start = length bytes - length whole in
    let place : start + length whole ≡ start + length whole + 0 = omega arith in
    taken_read items whole [] start (start + length whole) taken place ∙ (ap Ok (append-nil (tokens_from start items)) ∙ ap Ok (sym is))

-- the tokens that are read are the bytes'
pub is_listed : (bytes : List ℕ) (tokens : List Token) → lexed bytes ≡ Ok tokens → IsTokenList bytes tokens
is_listed bytes tokens h =
    let P : Result (List Token) LexError → Type 0 = λ r. Said (length bytes - length (without_order_mark bytes)) (without_order_mark bytes) r in
    subst P h (said bytes)

-- a bad place is told
pub refused : (bytes : List ℕ) (offset : ℕ) → IsBadAt bytes offset → lexed bytes ≡ Err (error.At offset)
unfolding lexed
refused bytes offset bad =
    let whole = without_order_mark bytes in
    let start = length bytes - length whole in
    let within = order_mark_within bytes in
    let place = bad.place in
    let start_place : start + length whole ≡ offset + length bad.rest = omega arith in
    taken_read bad.items whole bad.rest start offset bad.taken start_place
    ∙ ap (joined_tokens (tokens_from start bad.items)) (tokens_behind-none offset bad.rest bad.more (none_read bad.rest bad.none))

-- a place that is told is bad
pub is_refused : (bytes : List ℕ) (offset : ℕ) → lexed bytes ≡ Err (error.At offset) → IsBadAt bytes offset
is_refused bytes offset h =
    let whole = without_order_mark bytes in
    let P : Result (List Token) LexError → Type 0 = λ r. Said (length bytes - length whole) whole r in
    let bad = subst P h (said bytes) in
    let within = order_mark_within bytes in
    let place = bad.5 in
    record { items = bad.0; rest = bad.1; taken = bad.2; more = bad.3; none = none_stands bad.1 bad.4; place = omega arith }

-- want of memory is never said
pub never_memory : (bytes : List ℕ) → lexed bytes ≡ Err error.Memory → ⊥
never_memory bytes h =
    let P : Result (List Token) LexError → Type 0 = λ r. Said (length bytes - length (without_order_mark bytes)) (without_order_mark bytes) r in
    subst P h (said bytes)
