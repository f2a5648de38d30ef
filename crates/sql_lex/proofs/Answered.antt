-- What an answer that is right, or says that memory ran out, says of the bytes.
use Rattle.std.proofs.Common.{◌≡◌, refl, ℕ, List, length, inl, inr}
use Rattle.std.specs.Prelude.{◌⊎◌, Result, Ok, Err, IfOk, IsErrOf, MatchResult}
use Rattle.sql_lex.specs.declared.tokens.Token.{Token}
use Rattle.sql_lex.specs.declared.errors.LexError.{LexError}
use Rattle.sql_lex.specs.declared.errors.LexError.TheVariants as error
use Rattle.sql_lex.specs.Tokens.{IsTokenList, IsBadAt, AreTokens}
use Rattle.sql_lex.specs.Lexing.{lexed, Gives}
use Rattle.sql_lex.proofs.TokenLaws.{listed, is_listed, refused, is_refused}
use Rattle.sql_lex.proofs.WellFormed.{well_formed}

module _ {X : Type 0} (seen : X → List Token) (bytes : List ℕ) where
  -- tokens that are given are the bytes'
  pub answered_tokens : (r : Result X LexError) → Gives seen (lexed bytes) r → IfOk r (λ x. IsTokenList bytes (seen x))
  answered_tokens (Ok x) h = is_listed bytes (seen x) h
  answered_tokens (Err e) h = tt

  -- no others are
  pub answered_only : (r : Result X LexError) → Gives seen (lexed bytes) r → (tokens : List Token) → IsTokenList bytes tokens → MatchResult r (λ x. seen x ≡ tokens) (λ e. e ≡ error.Memory)
  answered_only (Ok x) h tokens is = cc (h, listed bytes tokens is)
  answered_only (Err e) (inl memory) tokens is = memory
  answered_only (Err e) (inr said) tokens is = cc (said, listed bytes tokens is)

  -- a place that is told is bad
  pub answered_bad : (r : Result X LexError) → Gives seen (lexed bytes) r → (offset : ℕ) → r ≡ Err (error.At offset) → IsBadAt bytes offset
  answered_bad (Ok x) h offset is = cc
  answered_bad (Err e) (inl memory) offset is = cc
  answered_bad (Err e) (inr said) offset is = is_refused bytes offset (let same : e ≡ error.At offset = cc in rw same at said)

  -- a bad place is told
  pub answered_bad_only : (r : Result X LexError) → Gives seen (lexed bytes) r → (offset : ℕ) → IsBadAt bytes offset → IsErrOf r error.Memory ⊎ IsErrOf r (error.At offset)
  answered_bad_only (Ok x) h offset bad = cc (h, refused bytes offset bad)
  answered_bad_only (Err e) (inl memory) offset bad = inl (rw memory refl)
  answered_bad_only (Err e) (inr said) offset bad = inr (let same : e ≡ error.At offset = cc (said, refused bytes offset bad) in rw same refl)

  -- tokens that are given are well formed
  pub answered_formed : (r : Result X LexError) → Gives seen (lexed bytes) r → IfOk r (λ x. AreTokens (length bytes) (seen x))
  answered_formed (Ok x) h = well_formed bytes (seen x) (is_listed bytes (seen x) h)
  answered_formed (Err e) h = tt
