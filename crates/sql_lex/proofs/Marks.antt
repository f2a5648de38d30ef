-- Marks by their bytes.
use Rattle.std.proofs.Common.{◌≡◌, sym, subst, refl, ℕ, List, cond, inl, inr}
use Rattle.std.specs.Prelude.{◌⊎◌, Option, Some, None, codes}
use Rattle.std.specs.Str.{bytes_eq}
use Rattle.std.proofs.lemmas.Option.{none-some, some_pair_parts}
use Rattle.std.proofs.lemmas.Slice.Eq.{bytes_eq-Decides}
use Rattle.sql_lex.specs.declared.tokens.Mark.{Mark}
use Rattle.sql_lex.specs.declared.tokens.Mark.TheVariants.{LeftParen, RightParen, Comma, Semicolon, Dot, Star, Minus, Eq, Ne, Lt, Le, Gt, Ge}
use Rattle.sql_lex.specs.declared.tokens.TokenKind.{TokenKind}
use Rattle.sql_lex.specs.declared.tokens.TokenKind.TheVariants as kind
use Rattle.sql_lex.specs.Tokens.{mark_of}
use Rattle.sql_lex.specs.Lexing.{mark_or}
use Rattle.sql_lex.proofs.BytesRuns.{cond_cases}

-- each mark by its bytes
mark_step : (P : List ℕ → Mark → Type 0) (s lit : List ℕ) (x m : Mark) (o : Option Mark) → cond (bytes_eq s lit) (Some x) o ≡ Some m → P lit x → (o ≡ Some m → P s m) → P s m
mark_step P s lit x m o h here next =
    elim (cond_cases (bytes_eq s lit) x m o h) [
      | inl e ↦ (let Q : Mark → Type 0 = λ k. P s k in let R : List ℕ → Type 0 = λ r. P r x in subst Q e.1 (subst R (sym ((bytes_eq-Decides s lit).0 e.0)) here))
      | inr e ↦ next e.1
    ]

-- what holds of each of the fourteen spellings holds of a mark
pub mark_cases : (P : List ℕ → Mark → Type 0) (s : List ℕ) (m : Mark) → mark_of s ≡ Some m
    → P (codes "(") LeftParen → P (codes ")") RightParen → P (codes ",") Comma → P (codes ";") Semicolon → P (codes ".") Dot → P (codes "*") Star
    → P (codes "-") Minus → P (codes "=") Eq → P (codes "<>") Ne → P (codes "!=") Ne → P (codes "<") Lt → P (codes "<=") Le → P (codes ">") Gt → P (codes ">=") Ge → P s m
mark_cases P s m h p1 p2 p3 p4 p5 p6 p7 p8 p9 p10 p11 p12 p13 p14 =
    mark_step P s _ _ m _ h p1 (λ h. mark_step P s _ _ m _ h p2 (λ h. mark_step P s _ _ m _ h p3 (λ h. mark_step P s _ _ m _ h p4 (
    λ h. mark_step P s _ _ m _ h p5 (λ h. mark_step P s _ _ m _ h p6 (λ h. mark_step P s _ _ m _ h p7 (λ h. mark_step P s _ _ m _ h p8 (
    λ h. mark_step P s _ _ m _ h p9 (λ h. mark_step P s _ _ m _ h p10 (λ h. mark_step P s _ _ m _ h p11 (λ h. mark_step P s _ _ m _ h p12 (
    λ h. mark_step P s _ _ m _ h p13 (λ h. mark_step P s _ _ m None h p14 (λ h. absurd (none-some m h)))))))))))))))

-- which of two marks was found
pub mark_or_parts : (o : Option Mark) (n : ℕ) (others : Option (TokenKind × ℕ)) (t : TokenKind) (size : ℕ) → mark_or o n others ≡ Some (t, size)
    → ((m : Mark) × (o ≡ Some m) × (kind.Mark m ≡ t) × (n ≡ size)) ⊎ ((o ≡ None) × (others ≡ Some (t, size)))
mark_or_parts None n others t size h = inr (refl, h)
mark_or_parts (Some m) n others t size h = let same = some_pair_parts (kind.Mark m) t n size h in inl (m, refl, same.0, same.1)
