-- Where a literal stands.
use Rattle.std.proofs.Common.{◌≡◌, ℕ, List, refl, subst}
use Rattle.sql_lex.specs.declared.tokens.Token.{Token}
use Rattle.sql_grammar.specs.Grammar.{line, literal, Tree, text, Leaf, Both, Left, Right, By}
use Rattle.sql_grammar.specs.Meaning.{literal_place}
use Rattle.sql_grammar.specs.Sentence.{place}

begins : (d : Tree (line literal)) (us : List Token) (end : ℕ) → literal_place d ≡ place (text d us) end
begins (By (Left (Leaf t is))) us end = refl
begins (By (Right (Left (Both (Leaf t is) number)))) us end = refl
begins (By (Right (Right (Leaf t is)))) us end = refl

pub literal_placed : (d : Tree (line literal)) (us : List Token) {ts : List Token} (end : ℕ) → text d us ≡ ts → literal_place d ≡ place ts end
literal_placed d us {ts} end e = subst (λ (vs : List Token). literal_place d ≡ place vs end) e (begins d us end)
