-- The table of words, and what is said of a word.
use Rattle.std.proofs.Common.{◌≡◌, ℕ, Bool, true, false, List, [], ◌∷◌, refl, ap, map, take}
use Rattle.std.specs.Prelude.{if◌then◌else◌, ◌||◌}
use Rattle.std.specs.List.{list_any}
use Rattle.std.specs.Str.{bytes_eq}
use Rattle.sql_grammar.specs.declared.kinds.Kind.{Kind}
use Rattle.sql_grammar.specs.declared.kinds.Kind.TheVariants as k
use Rattle.sql_grammar.specs.declared.kinds.TheConstants.{WORDS}
use Rattle.sql_grammar.specs.Kinds.{kind_of_word, other_reserved}
use Rattle.sql_grammar.specs.Words.{kind_among}

-- reserved words at the table's end
reserved : (words : List (List ℕ)) (word : List ℕ) → kind_among (map (λ other. (other, k.Reserved)) words) k.Name word ≡ (if list_any (bytes_eq word) words then k.Reserved else k.Name)
reserved [] word = refl
reserved (other ∷ words) word = either_way (bytes_eq word other) (list_any (bytes_eq word) words) (reserved words word)
  where
    either_way : (a b : Bool) {x : Kind} → x ≡ (if b then k.Reserved else k.Name) → (if a then k.Reserved else x) ≡ (if a || b then k.Reserved else k.Name)
    either_way true b h = refl
    either_way false b h = h

abbrev words : List (List ℕ × Kind)
words = map (λ other. (other.0.now, other.1)) WORDS

-- the keywords and the words of types stand in front of them
pub words_are : (word : List ℕ) → kind_among words k.Name word ≡ kind_of_word word
words_are word = ap (λ (other : Kind). kind_among (take 19 words) other word) (reserved other_reserved word)
