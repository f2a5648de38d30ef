-- What a reader of tokens may rely on: their places rise, and they hold words, names and numbers within their limits.
use Rattle.std.proofs.Common.{◌≡◌, ◌∙◌, ap, sym, subst, ℕ, ◌≤◌, ◌+◌, ◌-◌, List, [], ◌∷◌, ◌++◌, length, arith, length-append}
use Rattle.std.specs.Prelude.{Option, Some, None}
use Rattle.rpt_base.proofs.NameFacts.{is_name-utf8, is_name-of_lower, lower-lower}
use Rattle.sql_lex.specs.declared.tokens.Token.{Token}
use Rattle.sql_lex.specs.declared.tokens.TokenKind.{TokenKind}
use Rattle.sql_lex.specs.declared.tokens.TokenKind.TheVariants as kind
use Rattle.sql_lex.specs.Tokens.{Spells, Item, Takes, TakesAll, given_tokens, tokens_from, without_order_mark, IsTokenList, IsKind, AreTokensFrom, AreTokens}
use Rattle.sql_lex.proofs.Found.{item_at-sized}
use Rattle.sql_lex.proofs.LowerCase.{word-lower, utf8-lower}
use Rattle.sql_lex.proofs.TokenLaws.{takes_read, order_mark_within}

-- what a token that bytes write holds
spelled_kind : (spelling : List ℕ) (k : TokenKind) → Spells spelling k → IsKind k
spelled_kind spelling (kind.Word word) h =
    let P : List ℕ → Type 0 = λ w. IsKind (kind.Word w) in
    subst P (sym h.1) (word-lower spelling h.0, lower-lower spelling)
spelled_kind spelling (kind.Quoted name) (inner, is, named, lower) = is_name-of_lower inner name lower named (rw lower (utf8-lower inner (is_name-utf8 inner named)))
spelled_kind spelling (kind.Number n) h = h.2
spelled_kind spelling (kind.Text text) h = tt
spelled_kind spelling (kind.Mark mark) h = tt

-- one item more in front
formed_more : (spelling : List ℕ) (token : Option TokenKind) (behind : List ℕ) (bytes : List ℕ) (start offset end : ℕ) (tokens : List Token)
    → Takes bytes (record { spelling = spelling; token = token }) behind → start ≤ offset → 1 ≤ length spelling
    → ((from : ℕ) → from ≤ offset + length spelling → AreTokensFrom from end tokens)
    → AreTokensFrom start end (given_tokens token offset (offset + length spelling) ++ tokens)
formed_more spelling None behind bytes start offset end tokens taken from some others = others start (omega arith)
formed_more spelling (Some k) behind bytes start offset end tokens taken from some others =
    (from, omega arith, spelled_kind spelling k taken.stands.0, others (offset + length spelling) (omega arith))

-- the tokens of items that are taken one after the other
formed_items : (items : List Item) (bytes : List ℕ) (start offset end : ℕ) → start ≤ offset → offset + length bytes ≡ end → TakesAll bytes items [] → AreTokensFrom start end (tokens_from offset items)
formed_items [] bytes start offset end from place h = let none : length bytes ≡ 0 = ap length h in omega arith
formed_items (item ∷ items) bytes start offset end from place (behind, takes, others) =
    let some = (item_at-sized bytes item.token (length item.spelling) (takes_read bytes item behind takes)).0 in
    let all : length bytes ≡ length item.spelling + length behind = ap length takes.split ∙ length-append item.spelling behind in
    formed_more item.spelling item.token behind bytes start offset end (tokens_from (offset + length item.spelling) items) takes from some
    (λ (next : ℕ) (least : next ≤ offset + length item.spelling). formed_items items behind next (offset + length item.spelling) end least (omega arith) others)

-- the tokens of bytes
pub well_formed : (bytes : List ℕ) (tokens : List Token) → IsTokenList bytes tokens → AreTokens (length bytes) tokens
well_formed bytes tokens (items, taken, is) =
    let whole = without_order_mark bytes in
    let within = order_mark_within bytes in
    let P : List Token → Type 0 = λ ts. AreTokens (length bytes) ts in
    subst P (sym is) (formed_items items whole 0 (length bytes - length whole) (length bytes) (omega arith) (omega arith) taken)
