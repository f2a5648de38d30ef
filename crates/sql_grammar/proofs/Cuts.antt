-- A front can be cut short: the tokens before any place of it are a front too.
use Rattle.std.proofs.Common.{◌≡◌, ℕ, ◌≤◌, ◌<◌, List, [], ◌∷◌, ◌++◌, length, refl, sym, ◌∙◌, ap, subst, arith, append_assoc, ◌⊎◌, inl, inr}
use Rattle.std.proofs.lemmas.Bool.{cases_lt}
use Rattle.sql_lex.specs.declared.tokens.Token.{Token}
use Rattle.sql_grammar.specs.Grammar.{Part, Tree, text, depth, Front, front_text, front_depth, Leaf, None, Both, Left, Right, End, More, In, By, Empty, Whole, Early, Later, LeftOf, RightOf, Item, Beyond, Inside, ByLine}

split : (a b : ℕ) → (a ≤ b) ⊎ (b < a)
split a b = elim (cases_lt b a) [ inl h ↦ inr h | inr h ↦ inl h ]

-- a front with a rest of this length, in at most this many levels
pub record Cut (p : Part) (k m : ℕ) (ts : List Token) : Type 0 where
  pub front : Front p
  pub rest : List Token
  pub spells : front_text front rest ≡ ts
  pub long : length rest ≡ k
  pub within : front_depth front ≤ m

pub cut_tree : {p : Part} (d : Tree p) (us : List Token) (k : ℕ) → length us ≤ k → k ≤ length (text d us) → Cut p k (depth d) (text d us)
cut_tree (Leaf t is) us k least most = elim (split k (length us)) [
  | inl h ↦ record { front = Whole t is; rest = us; spells = refl; long = omega arith; within = omega arith }
  | inr h ↦ record { front = Empty; rest = t ∷ us; spells = refl; long = omega arith; within = omega arith }
]
cut_tree None us k least most = record { front = Empty; rest = us; spells = refl; long = omega arith; within = omega arith }
cut_tree (Both a b) us k least most = elim (split k (length (text b us))) [
  | inl h ↦ (let c = cut_tree b us k least h in record { front = Later a c.front; rest = c.rest; spells = ap (text a) c.spells; long = c.long; within = (let w = c.within in omega arith) })
  | inr h ↦ (let c = cut_tree a (text b us) k (omega arith) most in record { front = Early c.front; rest = c.rest; spells = c.spells; long = c.long; within = (let w = c.within in omega arith) })
]
cut_tree (Left a) us k least most = let c = cut_tree a us k least most in record { front = LeftOf c.front; rest = c.rest; spells = c.spells; long = c.long; within = c.within }
cut_tree (Right b) us k least most = let c = cut_tree b us k least most in record { front = RightOf c.front; rest = c.rest; spells = c.spells; long = c.long; within = c.within }
cut_tree End us k least most = record { front = Empty; rest = us; spells = refl; long = omega arith; within = omega arith }
cut_tree (More a more) us k least most = elim (split k (length (text more us))) [
  | inl h ↦ (let c = cut_tree more us k least h in record { front = Beyond a c.front; rest = c.rest; spells = ap (text a) c.spells; long = c.long; within = (let w = c.within in omega arith) })
  | inr h ↦ (let c = cut_tree a (text more us) k (omega arith) most in record { front = Item c.front; rest = c.rest; spells = c.spells; long = c.long; within = (let w = c.within in omega arith) })
]
cut_tree (In t is a) us k least most = elim (split k (length (text a us))) [
  | inl h ↦ (let c = cut_tree a us k least h in record { front = Inside t is c.front; rest = c.rest; spells = ap (λ ts. t ∷ ts) c.spells; long = c.long; within = (let w = c.within in omega arith) })
  | inr h ↦ record { front = Empty; rest = t ∷ text a us; spells = refl; long = omega arith; within = omega arith }
]
cut_tree (By a) us k least most = let c = cut_tree a us k least most in record { front = ByLine c.front; rest = c.rest; spells = c.spells; long = c.long; within = c.within }

pub cut_front : {p : Part} (f : Front p) (us : List Token) (k : ℕ) → length us ≤ k → k ≤ length (front_text f us) → Cut p k (front_depth f) (front_text f us)
cut_front Empty us k least most = record { front = Empty; rest = us; spells = refl; long = omega arith; within = omega arith }
cut_front (Whole t is) us k least most = elim (split k (length us)) [
  | inl h ↦ record { front = Whole t is; rest = us; spells = refl; long = omega arith; within = omega arith }
  | inr h ↦ record { front = Empty; rest = t ∷ us; spells = refl; long = omega arith; within = omega arith }
]
cut_front (Early f) us k least most = let c = cut_front f us k least most in record { front = Early c.front; rest = c.rest; spells = c.spells; long = c.long; within = c.within }
cut_front (Later a f) us k least most = elim (split k (length (front_text f us))) [
  | inl h ↦ (let c = cut_front f us k least h in record { front = Later a c.front; rest = c.rest; spells = ap (text a) c.spells; long = c.long; within = (let w = c.within in omega arith) })
  | inr h ↦ (let c = cut_tree a (front_text f us) k (omega arith) most in record { front = Early c.front; rest = c.rest; spells = c.spells; long = c.long; within = (let w = c.within in omega arith) })
]
cut_front (LeftOf f) us k least most = let c = cut_front f us k least most in record { front = LeftOf c.front; rest = c.rest; spells = c.spells; long = c.long; within = c.within }
cut_front (RightOf f) us k least most = let c = cut_front f us k least most in record { front = RightOf c.front; rest = c.rest; spells = c.spells; long = c.long; within = c.within }
cut_front (Item f) us k least most = let c = cut_front f us k least most in record { front = Item c.front; rest = c.rest; spells = c.spells; long = c.long; within = c.within }
cut_front (Beyond a f) us k least most = elim (split k (length (front_text f us))) [
  | inl h ↦ (let c = cut_front f us k least h in record { front = Beyond a c.front; rest = c.rest; spells = ap (text a) c.spells; long = c.long; within = (let w = c.within in omega arith) })
  | inr h ↦ (let c = cut_tree a (front_text f us) k (omega arith) most in record { front = Item c.front; rest = c.rest; spells = c.spells; long = c.long; within = (let w = c.within in omega arith) })
]
cut_front (Inside t is f) us k least most = elim (split k (length (front_text f us))) [
  | inl h ↦ (let c = cut_front f us k least h in record { front = Inside t is c.front; rest = c.rest; spells = ap (λ ts. t ∷ ts) c.spells; long = c.long; within = (let w = c.within in omega arith) })
  | inr h ↦ record { front = Empty; rest = t ∷ front_text f us; spells = refl; long = omega arith; within = omega arith }
]
cut_front (ByLine f) us k least most = let c = cut_front f us k least most in record { front = ByLine c.front; rest = c.rest; spells = c.spells; long = c.long; within = c.within }

-- ---- the rest of a list of tokens is known by its length

abbrev pub Behind : List Token → List Token → Type 0
Behind rest ts = (front : List Token) × (front ++ rest ≡ ts)

pub behind_tree : {p : Part} (d : Tree p) (us : List Token) → Behind us (text d us)
behind_tree (Leaf t is) us = (t ∷ [], refl)
behind_tree None us = ([], refl)
behind_tree (Both a b) us = let f = behind_tree a (text b us) in let g = behind_tree b us in (f.0 ++ g.0, append_assoc f.0 g.0 us ∙ ap (λ xs. f.0 ++ xs) g.1 ∙ f.1)
behind_tree (Left a) us = behind_tree a us
behind_tree (Right b) us = behind_tree b us
behind_tree End us = ([], refl)
behind_tree (More a more) us = let f = behind_tree a (text more us) in let g = behind_tree more us in (f.0 ++ g.0, append_assoc f.0 g.0 us ∙ ap (λ xs. f.0 ++ xs) g.1 ∙ f.1)
behind_tree (In t is a) us = let f = behind_tree a us in (t ∷ f.0, ap (λ xs. t ∷ xs) f.1)
behind_tree (By a) us = behind_tree a us

pub behind_front : {p : Part} (f : Front p) (us : List Token) → Behind us (front_text f us)
behind_front Empty us = ([], refl)
behind_front (Whole t is) us = (t ∷ [], refl)
behind_front (Early f) us = behind_front f us
behind_front (Later a h) us = let f = behind_tree a (front_text h us) in let g = behind_front h us in (f.0 ++ g.0, append_assoc f.0 g.0 us ∙ ap (λ xs. f.0 ++ xs) g.1 ∙ f.1)
behind_front (LeftOf f) us = behind_front f us
behind_front (RightOf f) us = behind_front f us
behind_front (Item f) us = behind_front f us
behind_front (Beyond a h) us = let f = behind_tree a (front_text h us) in let g = behind_front h us in (f.0 ++ g.0, append_assoc f.0 g.0 us ∙ ap (λ xs. f.0 ++ xs) g.1 ∙ f.1)
behind_front (Inside t is f) us = let g = behind_front f us in (t ∷ g.0, ap (λ xs. t ∷ xs) g.1)
behind_front (ByLine f) us = behind_front f us

pub behind_next : {t : Token} {rest ts : List Token} → Behind (t ∷ rest) ts → Behind rest ts
behind_next {t} {rest} b = (b.0 ++ t ∷ [], append_assoc b.0 (t ∷ []) rest ∙ b.1)

long_front : (xs us : List Token) → length us ≤ length (xs ++ us)
long_front [] us = omega arith
long_front (x ∷ xs) us = omega (arith, long_front xs us)

rests_same : (xs ys us vs : List Token) → xs ++ us ≡ ys ++ vs → length us ≡ length vs → us ≡ vs
rests_same [] [] us vs e h = e
rests_same [] (y ∷ ys) us vs e h = let k = ap length e in let j = long_front ys vs in absurd (omega arith)
rests_same (x ∷ xs) [] us vs e h = let k = ap length e in let j = long_front xs us in absurd (omega arith)
rests_same (x ∷ xs) (y ∷ ys) us vs e h = let tails : xs ++ us ≡ ys ++ vs = cc in rests_same xs ys us vs tails h

pub behind_same : {us vs ts : List Token} → Behind us ts → Behind vs ts → length us ≡ length vs → us ≡ vs
behind_same {us} {vs} a b h = rests_same a.0 b.0 us vs (a.1 ∙ sym b.1) h

-- a front, cut to a longer rest
pub reach : {p : Part} {ts : List Token} (f : Front p) (us rest : List Token) → front_text f us ≡ ts → Behind rest ts → length us ≤ length rest
    → (g : Front p) × (front_text g rest ≡ ts) × (front_depth g ≤ front_depth f)
reach {p} {ts} f us rest e b le = (c.front, subst (λ (vs : List Token). front_text c.front vs ≡ ts) same (c.spells ∙ e), c.within)
  where
    most : length rest ≤ length (front_text f us)
    most = let k = long_front b.0 rest in let j = ap length (b.1 ∙ sym e) in omega arith

    c : Cut p (length rest) (front_depth f) (front_text f us)
    c = cut_front f us (length rest) le most

    same : c.rest ≡ rest
    same = behind_same (let h = behind_front c.front c.rest in (h.0, h.1 ∙ c.spells ∙ e)) b c.long
