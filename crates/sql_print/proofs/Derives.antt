-- Derivations of what pieces write.
use Rattle.std.proofs.Common.{◌≡◌, ◌∙◌, ap, sym, refl, subst, ℕ, ◌≤◌, ◌+◌, List, [], ◌∷◌, true, arith}
use Rattle.sql_lex.specs.declared.tokens.Token.{Token}
use Rattle.sql_grammar.specs.declared.kinds.Kind.{Kind}
use Rattle.sql_grammar.specs.Kinds.{kind_of, among}
use Rattle.sql_grammar.specs.Grammar.{Line, rule, Part, token, nothing, ◌▸◌, ◌∣◌, many, level, line, Tree, text, depth, Leaf, None, Both, Left, Right, End, More, In, By}
use Rattle.sql_print.specs.Pieces.{Piece, IsPiece, ArePieces}
use Rattle.sql_print.specs.Writes.{token_of, Writes}

-- The tokens begin with a derivation that is good, and more pieces are left.
pub record Derived (p : Part) (Good : Tree p → Type 0) (m : ℕ) (more : List Piece) (ts : List Token) : Type 0 where
  pub tree : Tree p
  pub rest : List Token
  pub spells : text tree rest ≡ ts
  pub left : Writes more rest
  pub holds : ArePieces more
  pub good : Good tree
  pub within : depth tree ≤ m

-- tokens that write these pieces and more begin with such a derivation
abbrev pub Derives : (p : Part) (Good : Tree p → Type 0) (m : ℕ) (pieces : List Piece → List Piece) → Type 0
Derives p Good m pieces = (more : List Piece) (ts : List Token) → ArePieces (pieces more) → Writes (pieces more) ts → Derived p Good m more ts

pub both : {p q : Part} {G : Tree p → Type 0} {H : Tree q → Type 0} {m : ℕ} (K : Tree (p ▸ q) → Type 0) (f g : List Piece → List Piece) → Derives p G m f → Derives q H m g → ((a : Tree p) (b : Tree q) → G a → H b → K (Both a b)) → Derives (p ▸ q) K m (λ more. f (g more))
both K f g d e good more ts holds writes =
    let a = d (g more) ts holds writes in
    let b = e more a.rest a.holds a.left in
    record {
      tree = Both a.tree b.tree;
      rest = b.rest;
      spells = ap (text a.tree) b.spells ∙ a.spells;
      left = b.left;
      holds = b.holds;
      good = good a.tree b.tree a.good b.good;
      within = (let v = a.within in let w = b.within in omega arith);
    }

pub as_left : {p q : Part} {G : Tree p → Type 0} {m : ℕ} (K : Tree (p ∣ q) → Type 0) (f : List Piece → List Piece) → Derives p G m f → ((a : Tree p) → G a → K (Left a)) → Derives (p ∣ q) K m f
as_left K f d good more ts holds writes =
    let a = d more ts holds writes in
    record { tree = Left a.tree; rest = a.rest; spells = a.spells; left = a.left; holds = a.holds; good = good a.tree a.good; within = a.within }

pub as_right : {p q : Part} {H : Tree q → Type 0} {m : ℕ} (K : Tree (p ∣ q) → Type 0) (f : List Piece → List Piece) → Derives q H m f → ((a : Tree q) → H a → K (Right a)) → Derives (p ∣ q) K m f
as_right K f d good more ts holds writes =
    let a = d more ts holds writes in
    record { tree = Right a.tree; rest = a.rest; spells = a.spells; left = a.left; holds = a.holds; good = good a.tree a.good; within = a.within }

pub as_line : (l : Line) {G : Tree (rule l) → Type 0} {m : ℕ} (K : Tree (line l) → Type 0) (f : List Piece → List Piece) → Derives (rule l) G m f → ((a : Tree (rule l)) → G a → K (By a)) → Derives (line l) K m f
as_line l K f d good more ts holds writes =
    let a = d more ts holds writes in
    record { tree = By a.tree; rest = a.rest; spells = a.spells; left = a.left; holds = a.holds; good = good a.tree a.good; within = a.within }

pub absent : (K : Tree nothing → Type 0) (m : ℕ) → K None → Derives nothing K m (λ more. more)
absent K m good more ts holds writes = record { tree = None; rest = ts; spells = refl; left = writes; holds = holds; good = good; within = omega arith }

pub no_more : (p : Part) (K : Tree (many p) → Type 0) (m : ℕ) → K End → Derives (many p) K m (λ more. more)
no_more p K m good more ts holds writes = record { tree = End; rest = ts; spells = refl; left = writes; holds = holds; good = good; within = omega arith }

pub one_more : {p : Part} {G : Tree p → Type 0} {H : Tree (many p) → Type 0} {m : ℕ} (K : Tree (many p) → Type 0) (f g : List Piece → List Piece)
    → Derives p G m f → Derives (many p) H m g → ((a : Tree p) (b : Tree (many p)) → G a → H b → K (More a b)) → Derives (many p) K m (λ more. f (g more))
one_more K f g d e good more ts holds writes =
    let a = d (g more) ts holds writes in
    let b = e more a.rest a.holds a.left in
    record {
      tree = More a.tree b.tree;
      rest = b.rest;
      spells = ap (text a.tree) b.spells ∙ a.spells;
      left = b.left;
      holds = b.holds;
      good = good a.tree b.tree a.good b.good;
      within = (let v = a.within in let w = b.within in omega arith);
    }

-- a piece that is a token of one of these kinds
pub a_token : (kinds : List Kind) (piece : Piece) (K : Tree (token kinds) → Type 0) (m : ℕ)
    → ((t : Token) → t.kind ≡ token_of piece → IsPiece piece → among kinds (kind_of t) ≡ true)
    → ((t : Token) (is : among kinds (kind_of t) ≡ true) → t.kind ≡ token_of piece → K (Leaf t is)) → Derives (token kinds) K m (λ more. piece ∷ more)
a_token kinds piece K m fits good more [] holds writes = absurd writes
a_token kinds piece K m fits good more (t ∷ ts) holds writes = record {
  tree = Leaf t (fits t writes.0 holds.0);
  rest = ts;
  spells = refl;
  left = writes.1;
  holds = holds.1;
  good = good t (fits t writes.0 holds.0) writes.0;
  within = omega arith;
}

-- a piece that opens a level
pub a_level : (kind : Kind) (piece : Piece) {p : Part} {G : Tree p → Type 0} {m : ℕ} (K : Tree (level kind p) → Type 0) (f : List Piece → List Piece)
    → ((t : Token) → t.kind ≡ token_of piece → kind_of t ≡ kind) → Derives p G m f → ((t : Token) (is : kind_of t ≡ kind) (a : Tree p) → G a → K (In t is a))
    → Derives (level kind p) K (m + 1) (λ more. piece ∷ f more)
a_level kind piece K f fits d good more [] holds writes = absurd writes
a_level kind piece K f fits d good more (t ∷ ts) holds writes =
    let a = d more ts holds.1 writes.1 in
    record {
      tree = In t (fits t writes.0) a.tree;
      rest = a.rest;
      spells = ap (λ us. t ∷ us) a.spells;
      left = a.left;
      holds = a.holds;
      good = good t (fits t writes.0) a.tree a.good;
      within = (let w = a.within in omega arith);
    }

-- ---- the same, in other words

pub derives_same : {p : Part} {G : Tree p → Type 0} {m : ℕ} (f g : List Piece → List Piece) → ((more : List Piece) → f more ≡ g more) → Derives p G m f → Derives p G m g
derives_same f g same d more ts holds writes = d more ts (subst ArePieces (sym (same more)) holds) (subst (λ (ps : List Piece). Writes ps ts) (sym (same more)) writes)

pub derives_good : {p : Part} {G H : Tree p → Type 0} {m : ℕ} (f : List Piece → List Piece) → ((a : Tree p) → G a → H a) → Derives p G m f → Derives p H m f
derives_good f good d more ts holds writes =
    let a = d more ts holds writes in
    record { tree = a.tree; rest = a.rest; spells = a.spells; left = a.left; holds = a.holds; good = good a.tree a.good; within = a.within }

pub derives_within : {p : Part} {G : Tree p → Type 0} {m n : ℕ} (f : List Piece → List Piece) → m ≤ n → Derives p G m f → Derives p G n f
derives_within f le d more ts holds writes =
    let a = d more ts holds writes in
    record { tree = a.tree; rest = a.rest; spells = a.spells; left = a.left; holds = a.holds; good = a.good; within = (let w = a.within in omega arith) }

-- ---- sequences

abbrev pub Pair : {p q : Part} → (Tree p → Type 0) → (Tree q → Type 0) → Tree (p ▸ q) → Type 0
Pair G H (Both a b) = G a × H b

-- what is asked of the second part
abbrev pub Behind : {p q : Part} → (Tree q → Type 0) → Tree (p ▸ q) → Type 0
Behind H (Both a b) = H b

pub pair : {p q : Part} {G : Tree p → Type 0} {H : Tree q → Type 0} {m : ℕ} (f g : List Piece → List Piece) → Derives p G m f → Derives q H m g → Derives (p ▸ q) (Pair G H) m (λ more. f (g more))
pair {G = G} {H = H} f g d e = both (Pair G H) f g d e (λ a b h i. (h, i))

pub behind : {p q : Part} {G : Tree p → Type 0} {H : Tree q → Type 0} {m : ℕ} (f g : List Piece → List Piece) → Derives p G m f → Derives q H m g → Derives (p ▸ q) (Behind H) m (λ more. f (g more))
behind {H = H} f g d e = both (Behind H) f g d e (λ a b h i. i)
