-- Alternatives, repetitions, levels and lines.
use Rattle.std.proofs.Common.{◌≡◌, ℕ, ◌+◌, ◌≤◌, ◌<◌, true, List, [], ◌∷◌, ◌++◌, length, refl, sym, ◌∙◌, ap, subst, arith, ◌⊎◌, inl, inr}
use Rattle.std.specs.Prelude.{if◌then◌else◌}
use Rattle.sql_lex.specs.declared.tokens.Token.{Token}
use Rattle.sql_grammar.specs.declared.kinds.Kind.{Kind}
use Rattle.sql_grammar.specs.Kinds.{kind_of}
use Rattle.sql_grammar.specs.Grammar.{Line, rule, Part, nothing, ◌▸◌, ◌∣◌, many, level, line, opt, Tree, text, Front, front_text, front_depth, None, Left, Right, End, More, In, By, Empty, Early, Later, LeftOf, RightOf, Item, Beyond, Inside, ByLine}
use Rattle.sql_grammar.specs.Reading.{apart, Heads, first, after, nullable, after_line, Reads, Stops, Deepens}
use Rattle.sql_grammar.proofs.Sets.{Heads_left, Heads_right, Heads_subset, Heads_apart}
use Rattle.sql_grammar.proofs.Parts.{longer, after_ok}
use Rattle.sql_grammar.proofs.First.{begins}
use Rattle.sql_grammar.proofs.Compose.{NoBegin, stops_here, far_seq, in_same, deep_shorter, least_first, least_second}

-- ---- one of two parts

in_first : (F G H K : List ℕ) (ts : List Token) → Heads F ts → Heads (F ++ G ++ H ++ K) ts
in_first F G H K ts h = Heads_left (F ++ G ++ H) K ts (Heads_left (F ++ G) H ts (Heads_left F G ts h))

in_second : (F G H K : List ℕ) (ts : List Token) → Heads G ts → Heads (F ++ G ++ H ++ K) ts
in_second F G H K ts h = Heads_left (F ++ G ++ H) K ts (Heads_left (F ++ G) H ts (Heads_right F G ts h))

in_third : (F G H K : List ℕ) (ts : List Token) → Heads H ts → Heads (F ++ G ++ H ++ K) ts
in_third F G H K ts h = Heads_left (F ++ G ++ H) K ts (Heads_right (F ++ G) H ts h)

after_left : (p q : Part) (ts : List Token) → Heads (after p) ts → Heads (after (p ∣ q)) ts
after_left p q ts h = in_first (after p) (after q) (if nullable p then first q else []) (if nullable q then first p else []) ts h

after_right : (p q : Part) (ts : List Token) → Heads (after q) ts → Heads (after (p ∣ q)) ts
after_right p q ts h = in_second (after p) (after q) (if nullable p then first q else []) (if nullable q then first p else []) ts h

-- The other alternative stops, and no further on.
pub reads_left : {p q : Part} {n : ℕ} {ts rest other : List Token} {d : Tree p} → Reads n ts d rest → Stops q n ts other → length rest ≤ length other → Reads {p = p ∣ q} n ts (Left d) rest
reads_left {p} {q} {n} {ts} {rest} {other} {d} h no_right shorter = record { spells = h.spells; within = h.within; far = far; only = only }
  where
    far : (f : Front (p ∣ q)) (us : List Token) → front_text f us ≡ ts → length rest ≤ length us
    far Empty us e = h.far Empty us e
    far (LeftOf f) us e = h.far f us e
    far (RightOf f) us e = let k = no_right.far f us e in omega arith

    only : (x : Tree (p ∣ q)) (us : List Token) → text x us ≡ ts → ((us ≡ rest) × (x ≡ Left d)) ⊎ Heads (after (p ∣ q)) us
    only (Left a) us e = elim (h.only a us e) [ inl k ↦ inl (k.0, ap (λ (y : Tree p). to y) k.1) | inr k ↦ inr (after_left p q us k) ]
      where
        to : Tree p → Tree (p ∣ q)
        to y = Left y
    only (Right b) us e = inr (after_right p q us (no_right.only b us e))

pub reads_right : {p q : Part} {n : ℕ} {ts rest other : List Token} {d : Tree q} → Stops p n ts other → length rest ≤ length other → Reads n ts d rest → Reads {p = p ∣ q} n ts (Right d) rest
reads_right {p} {q} {n} {ts} {rest} {other} {d} no_left shorter h = record { spells = h.spells; within = h.within; far = far; only = only }
  where
    far : (f : Front (p ∣ q)) (us : List Token) → front_text f us ≡ ts → length rest ≤ length us
    far Empty us e = h.far Empty us e
    far (RightOf f) us e = h.far f us e
    far (LeftOf f) us e = let k = no_left.far f us e in omega arith

    only : (x : Tree (p ∣ q)) (us : List Token) → text x us ≡ ts → ((us ≡ rest) × (x ≡ Right d)) ⊎ Heads (after (p ∣ q)) us
    only (Right a) us e = elim (h.only a us e) [ inl k ↦ inl (k.0, ap (λ (y : Tree q). to y) k.1) | inr k ↦ inr (after_right p q us k) ]
      where
        to : Tree q → Tree (p ∣ q)
        to y = Right y
    only (Left b) us e = inr (after_left p q us (no_left.only b us e))

pub stops_left : {p q : Part} {n : ℕ} {ts rest other : List Token} → Stops p n ts rest → Stops q n ts other → length rest ≤ length other → Stops (p ∣ q) n ts rest
stops_left {p} {q} {n} {ts} {rest} {other} h no_right shorter = record { front = (LeftOf h.front.0, h.front.1, h.front.2); far = far; only = only }
  where
    far : (f : Front (p ∣ q)) (us : List Token) → front_text f us ≡ ts → length rest ≤ length us
    far Empty us e = h.far Empty us e
    far (LeftOf f) us e = h.far f us e
    far (RightOf f) us e = let k = no_right.far f us e in omega arith

    only : (x : Tree (p ∣ q)) (us : List Token) → text x us ≡ ts → Heads (after (p ∣ q)) us
    only (Left a) us e = after_left p q us (h.only a us e)
    only (Right b) us e = after_right p q us (no_right.only b us e)

pub stops_right : {p q : Part} {n : ℕ} {ts rest other : List Token} → Stops p n ts other → length rest ≤ length other → Stops q n ts rest → Stops (p ∣ q) n ts rest
stops_right {p} {q} {n} {ts} {rest} {other} no_left shorter h = record { front = (RightOf h.front.0, h.front.1, h.front.2); far = far; only = only }
  where
    far : (f : Front (p ∣ q)) (us : List Token) → front_text f us ≡ ts → length rest ≤ length us
    far Empty us e = h.far Empty us e
    far (RightOf f) us e = h.far f us e
    far (LeftOf f) us e = let k = no_left.far f us e in omega arith

    only : (x : Tree (p ∣ q)) (us : List Token) → text x us ≡ ts → Heads (after (p ∣ q)) us
    only (Right a) us e = after_right p q us (h.only a us e)
    only (Left b) us e = after_left p q us (no_left.only b us e)

pub deep_left : {p q : Part} {n : ℕ} {ts rest other : List Token} {t : Token} → Deepens p n ts t rest → Stops q n ts other → length rest < length other → Deepens (p ∣ q) n ts t rest
deep_left {p} {q} {n} {ts} {rest} {other} {t} h no_right shorter = record { before = (LeftOf h.before.0, h.before.1, h.before.2); opens = (LeftOf h.opens.0, h.opens.1, h.opens.2); least = least; only = only }
  where
    least : (f : Front (p ∣ q)) (us : List Token) → front_text f us ≡ ts → length us ≤ length rest → n < front_depth f
    least Empty us e le = let k = h.least Empty us e le in omega arith
    least (LeftOf f) us e le = h.least f us e le
    least (RightOf f) us e le = let k = no_right.far f us e in absurd (omega arith)

    only : (x : Tree (p ∣ q)) (us : List Token) → text x us ≡ ts → (length us ≤ length rest) ⊎ Heads (after (p ∣ q)) us
    only (Left a) us e = elim (h.only a us e) [ inl k ↦ inl k | inr k ↦ inr (after_left p q us k) ]
    only (Right b) us e = inr (after_right p q us (no_right.only b us e))

pub deep_right : {p q : Part} {n : ℕ} {ts rest other : List Token} {t : Token} → Stops p n ts other → length rest < length other → Deepens q n ts t rest → Deepens (p ∣ q) n ts t rest
deep_right {p} {q} {n} {ts} {rest} {other} {t} no_left shorter h = record { before = (RightOf h.before.0, h.before.1, h.before.2); opens = (RightOf h.opens.0, h.opens.1, h.opens.2); least = least; only = only }
  where
    least : (f : Front (p ∣ q)) (us : List Token) → front_text f us ≡ ts → length us ≤ length rest → n < front_depth f
    least Empty us e le = let k = h.least Empty us e le in omega arith
    least (RightOf f) us e le = h.least f us e le
    least (LeftOf f) us e le = let k = no_left.far f us e in absurd (omega arith)

    only : (x : Tree (p ∣ q)) (us : List Token) → text x us ≡ ts → (length us ≤ length rest) ⊎ Heads (after (p ∣ q)) us
    only (Right a) us e = elim (h.only a us e) [ inl k ↦ inl k | inr k ↦ inr (after_right p q us k) ]
    only (Left b) us e = inr (after_left p q us (no_left.only b us e))

-- ---- nothing, or a part

pub reads_none : {q : Part} {n : ℕ} {ts : List Token} → NoBegin q ts → Reads {p = opt q} n ts (Left None) ts
reads_none {q} {n} {ts} h = record { spells = refl; within = omega arith; far = far; only = only }
  where
    far : (f : Front (opt q)) (us : List Token) → front_text f us ≡ ts → length ts ≤ length us
    far Empty us e = let k = ap length e in omega arith
    far (LeftOf Empty) us e = let k = ap length e in omega arith
    far (RightOf f) us e = (stops_here n ts h).far f us e

    only : (x : Tree (opt q)) (us : List Token) → text x us ≡ ts → ((us ≡ ts) × (x ≡ Left None)) ⊎ Heads (after (opt q)) us
    only (Left None) us e = inl (e, refl)
    only (Right b) us e = inr (after_right nothing q us ((stops_here n ts h).only b us e))

pub reads_some : {q : Part} {n : ℕ} {ts rest : List Token} {d : Tree q} → Heads (first q) ts → Reads n ts d rest → Reads {p = opt q} n ts (Right d) rest
reads_some {q} {n} {ts} {rest} {d} begun h = record { spells = h.spells; within = h.within; far = far; only = only }
  where
    far : (f : Front (opt q)) (us : List Token) → front_text f us ≡ ts → length rest ≤ length us
    far Empty us e = h.far Empty us e
    far (LeftOf Empty) us e = h.far Empty us e
    far (RightOf f) us e = h.far f us e

    to : Tree q → Tree (opt q)
    to y = Right y

    only : (x : Tree (opt q)) (us : List Token) → text x us ≡ ts → ((us ≡ rest) × (x ≡ Right d)) ⊎ Heads (after (opt q)) us
    only (Left None) us e = inr (in_third [] (after q) (first q) (if nullable q then [] else []) us (subst (Heads (first q)) (sym e) begun))
    only (Right a) us e = elim (h.only a us e) [ inl k ↦ inl (k.0, ap to k.1) | inr k ↦ inr (after_right nothing q us k) ]

pub stops_some : {q : Part} {n : ℕ} {ts rest : List Token} → Heads (first q) ts → Stops q n ts rest → Stops (opt q) n ts rest
stops_some {q} {n} {ts} {rest} begun h = record { front = (RightOf h.front.0, h.front.1, h.front.2); far = far; only = only }
  where
    far : (f : Front (opt q)) (us : List Token) → front_text f us ≡ ts → length rest ≤ length us
    far Empty us e = h.far Empty us e
    far (LeftOf Empty) us e = h.far Empty us e
    far (RightOf f) us e = h.far f us e

    only : (x : Tree (opt q)) (us : List Token) → text x us ≡ ts → Heads (after (opt q)) us
    only (Left None) us e = in_third [] (after q) (first q) (if nullable q then [] else []) us (subst (Heads (first q)) (sym e) begun)
    only (Right a) us e = after_right nothing q us (h.only a us e)

pub deep_some : {q : Part} {n : ℕ} {ts rest : List Token} {t : Token} → Heads (first q) ts → Deepens q n ts t rest → Deepens (opt q) n ts t rest
deep_some {q} {n} {ts} {rest} {t} begun h = record { before = (RightOf h.before.0, h.before.1, h.before.2); opens = (RightOf h.opens.0, h.opens.1, h.opens.2); least = least; only = only }
  where
    least : (f : Front (opt q)) (us : List Token) → front_text f us ≡ ts → length us ≤ length rest → n < front_depth f
    least Empty us e le = let k = h.least Empty us e le in omega arith
    least (LeftOf Empty) us e le = let k = h.least Empty us e le in omega arith
    least (RightOf f) us e le = h.least f us e le

    only : (x : Tree (opt q)) (us : List Token) → text x us ≡ ts → (length us ≤ length rest) ⊎ Heads (after (opt q)) us
    only (Left None) us e = inr (in_third [] (after q) (first q) (if nullable q then [] else []) us (subst (Heads (first q)) (sym e) begun))
    only (Right a) us e = elim (h.only a us e) [ inl k ↦ inl k | inr k ↦ inr (after_right nothing q us k) ]

-- ---- a repetition

never : {p : Part} {ts : List Token} → NoBegin p ts → (a : Tree p) (us : List Token) → text a us ≡ ts → ⊥
never {p} {ts} h a us e = elim (begins a us) [
  | inl k ↦ (let x = k.0 in let y = h.never_empty in cc)
  | inr k ↦ h.other (subst (Heads (first p)) e k)
]

pub reads_end : {p : Part} {n : ℕ} {ts : List Token} → NoBegin p ts → Reads {p = many p} n ts End ts
reads_end {p} {n} {ts} h = record { spells = refl; within = omega arith; far = far; only = only }
  where
    far : (f : Front (many p)) (us : List Token) → front_text f us ≡ ts → length ts ≤ length us
    far Empty us e = let k = ap length e in omega arith
    far (Item f) us e = (stops_here n ts h).far f us e
    far (Beyond a f) us e = absurd (never h a (front_text f us) e)

    only : (x : Tree (many p)) (us : List Token) → text x us ≡ ts → ((us ≡ ts) × (x ≡ End)) ⊎ Heads (after (many p)) us
    only End us e = inl (e, refl)
    only (More a b) us e = absurd (never h a (text b us) e)

more_same : {p : Part} (a d : Tree p) (b e : Tree (many p)) → a ≡ d → b ≡ e → ◌≡◌ {A = Tree (many p)} (More a b) (More d e)
more_same {p} a d b e h k = ap (λ (x : Tree p). in_order x b) h ∙ ap (λ (y : Tree (many p)). in_order d y) k
  where
    in_order : Tree p → Tree (many p) → Tree (many p)
    in_order x y = More x y

-- as of the part and then the repetition
unrolled : {p : Part} (ts rest : List Token) → ((f : Front (p ▸ many p)) (vs : List Token) → front_text f vs ≡ ts → length rest ≤ length vs)
    → (f : Front (many p)) (vs : List Token) → front_text f vs ≡ ts → length rest ≤ length vs
unrolled ts rest far Empty vs e = far Empty vs e
unrolled ts rest far (Item f) vs e = far (Early f) vs e
unrolled ts rest far (Beyond a f) vs e = far (Later a f) vs e

past_item : (p : Part) (b : Tree (many p)) (vs : List Token) → apart (after p) (first p) ≡ true → Heads (after p) (text b vs) → Heads (after (many p)) vs
past_item p b vs ap_ok h = elim (begins b vs) [
  | inl m ↦ Heads_right (first p) (after p) vs (subst (Heads (after p)) m.1 h)
  | inr m ↦ absurd (Heads_apart (after p) (first p) (text b vs) ap_ok h m)
]

pub reads_more : {p : Part} {n : ℕ} {ts us rest : List Token} {d : Tree p} {m : Tree (many p)} → apart (after p) (first p) ≡ true → Heads (first p) ts → Reads n ts d us → Reads n us m rest → Reads {p = many p} n ts (More d m) rest
reads_more {p} {n} {ts} {us} {rest} {d} {m} ap_ok begun h1 h2 = record {
  spells = ap (text d) h2.spells ∙ h1.spells;
  within = (let w1 = h1.within in let w2 = h2.within in omega arith);
  far = unrolled ts rest (far_seq {A = ℕ} ts us rest ap_ok (h2.far Empty us refl) h1.far only1 (λ _. h2.far));
  only = only;
}
  where
    only1 : (a : Tree p) (vs : List Token) → text a vs ≡ ts → ((vs ≡ us) × ℕ) ⊎ Heads (after p) vs
    only1 a vs eq = elim (h1.only a vs eq) [ inl k ↦ inl (k.0, 0) | inr k ↦ inr k ]

    only : (x : Tree (many p)) (vs : List Token) → text x vs ≡ ts → ((vs ≡ rest) × (x ≡ More d m)) ⊎ Heads (after (many p)) vs
    only End vs eq = inr (Heads_left (first p) (after p) vs (subst (Heads (first p)) (sym eq) begun))
    only (More a b) vs eq = elim (h1.only a (text b vs) eq) [
      | inl k ↦ elim (h2.only b vs k.0) [
        | inl g ↦ inl (g.0, more_same a d b m k.1 g.1)
        | inr g ↦ inr g
      ]
      | inr k ↦ inr (past_item p b vs ap_ok k)
    ]

pub stops_item : {p : Part} {n : ℕ} {ts rest : List Token} → apart (after p) (first p) ≡ true → Heads (first p) ts → Stops p n ts rest → Stops (many p) n ts rest
stops_item {p} {n} {ts} {rest} ap_ok begun h = record {
  front = (Item h.front.0, h.front.1, h.front.2);
  far = unrolled ts rest (far_seq {A = ⊥} ts rest rest ap_ok (omega arith) h.far (λ a vs eq. inr (h.only a vs eq)) (λ no_tree. absurd no_tree));
  only = only;
}
  where
    only : (x : Tree (many p)) (vs : List Token) → text x vs ≡ ts → Heads (after (many p)) vs
    only End vs eq = Heads_left (first p) (after p) vs (subst (Heads (first p)) (sym eq) begun)
    only (More a b) vs eq = past_item p b vs ap_ok (h.only a (text b vs) eq)

pub stops_more : {p : Part} {n : ℕ} {ts us rest : List Token} {d : Tree p} → apart (after p) (first p) ≡ true → Heads (first p) ts → Reads n ts d us → Stops (many p) n us rest → Stops (many p) n ts rest
stops_more {p} {n} {ts} {us} {rest} {d} ap_ok begun h1 h2 = record {
  front = (Beyond d h2.front.0, ap (text d) h2.front.1 ∙ h1.spells, (let w1 = h1.within in let w2 = h2.front.2 in omega arith));
  far = unrolled ts rest (far_seq {A = ℕ} ts us rest ap_ok (h2.far Empty us refl) h1.far only1 (λ _. h2.far));
  only = only;
}
  where
    only1 : (a : Tree p) (vs : List Token) → text a vs ≡ ts → ((vs ≡ us) × ℕ) ⊎ Heads (after p) vs
    only1 a vs eq = elim (h1.only a vs eq) [ inl k ↦ inl (k.0, 0) | inr k ↦ inr k ]

    only : (x : Tree (many p)) (vs : List Token) → text x vs ≡ ts → Heads (after (many p)) vs
    only End vs eq = Heads_left (first p) (after p) vs (subst (Heads (first p)) (sym eq) begun)
    only (More a b) vs eq = elim (h1.only a (text b vs) eq) [
      | inl k ↦ h2.only b vs k.0
      | inr k ↦ past_item p b vs ap_ok k
    ]

unrolled_least : {p : Part} (n : ℕ) (ts rest : List Token) → ((f : Front (p ▸ many p)) (vs : List Token) → front_text f vs ≡ ts → length vs ≤ length rest → n < front_depth f)
    → (f : Front (many p)) (vs : List Token) → front_text f vs ≡ ts → length vs ≤ length rest → n < front_depth f
unrolled_least n ts rest least Empty vs e le = least Empty vs e le
unrolled_least n ts rest least (Item f) vs e le = least (Early f) vs e le
unrolled_least n ts rest least (Beyond a f) vs e le = least (Later a f) vs e le

pub deep_item : {p : Part} {n : ℕ} {ts rest : List Token} {t : Token} → apart (after p) (first p) ≡ true → Heads (first p) ts → Deepens p n ts t rest → Deepens (many p) n ts t rest
deep_item {p} {n} {ts} {rest} {t} ap_ok begun h = record {
  before = (Item h.before.0, h.before.1, h.before.2);
  opens = (Item h.opens.0, h.opens.1, h.opens.2);
  least = unrolled_least n ts rest (least_first ap_ok h);
  only = only;
}
  where
    only : (x : Tree (many p)) (vs : List Token) → text x vs ≡ ts → (length vs ≤ length rest) ⊎ Heads (after (many p)) vs
    only End vs e = inr (Heads_left (first p) (after p) vs (subst (Heads (first p)) (sym e) begun))
    only (More a b) vs e = elim (h.only a (text b vs) e) [
      | inl k ↦ inl (let j = longer b vs in omega arith)
      | inr k ↦ inr (past_item p b vs ap_ok k)
    ]

pub deep_more : {p : Part} {n : ℕ} {ts us rest : List Token} {t : Token} {d : Tree p} → apart (after p) (first p) ≡ true → Heads (first p) ts → Reads n ts d us → Deepens (many p) n us t rest → Deepens (many p) n ts t rest
deep_more {p} {n} {ts} {us} {rest} {t} {d} ap_ok begun h1 h2 = record {
  before = (Beyond d h2.before.0, ap (text d) h2.before.1 ∙ h1.spells, (let w1 = h1.within in let w2 = h2.before.2 in omega arith));
  opens = (Beyond d h2.opens.0, ap (text d) h2.opens.1 ∙ h1.spells, (let w1 = h1.within in let w2 = h2.opens.2 in omega arith));
  least = unrolled_least n ts rest (least_second ap_ok h1 h2);
  only = only;
}
  where
    only : (x : Tree (many p)) (vs : List Token) → text x vs ≡ ts → (length vs ≤ length rest) ⊎ Heads (after (many p)) vs
    only End vs e = inr (Heads_left (first p) (after p) vs (subst (Heads (first p)) (sym e) begun))
    only (More a b) vs e = elim (h1.only a (text b vs) e) [
      | inl k ↦ h2.only b vs k.0
      | inr k ↦ inr (past_item p b vs ap_ok k)
    ]

-- ---- a level

pub reads_in : {kind : Kind} {p : Part} {n : ℕ} {ts rest : List Token} {d : Tree p} (t : Token) (is : kind_of t ≡ kind) → Reads n ts d rest → Reads {p = level kind p} (n + 1) (t ∷ ts) (In t is d) rest
reads_in {kind} {p} {n} {ts} {rest} {d} t is h = record {
  spells = ap (λ us. t ∷ us) h.spells;
  within = (let w = h.within in omega arith);
  far = far;
  only = only;
}
  where
    far : (f : Front (level kind p)) (us : List Token) → front_text f us ≡ t ∷ ts → length rest ≤ length us
    far Empty us e = let k = ap length e in let j = h.far Empty ts refl in omega arith
    far (Inside u is_u f) us e = let tails : front_text f us ≡ ts = cc in h.far f us tails

    only : (x : Tree (level kind p)) (us : List Token) → text x us ≡ t ∷ ts → ((us ≡ rest) × (x ≡ In t is d)) ⊎ Heads (after (level kind p)) us
    only (In u is_u a) us e =
        let same : u ≡ t = cc in
        let tails : text a us ≡ ts = cc in
        elim (h.only a us tails) [ inl k ↦ inl (k.0, in_same t u is is_u d a same k.1) | inr k ↦ inr k ]

pub stops_in : {kind : Kind} {p : Part} {n : ℕ} {ts rest : List Token} (t : Token) → kind_of t ≡ kind → Stops p n ts rest → Stops (level kind p) (n + 1) (t ∷ ts) rest
stops_in {kind} {p} {n} {ts} {rest} t is h = record {
  front = (Inside t is h.front.0, ap (λ us. t ∷ us) h.front.1, (let w = h.front.2 in omega arith));
  far = far;
  only = only;
}
  where
    far : (f : Front (level kind p)) (us : List Token) → front_text f us ≡ t ∷ ts → length rest ≤ length us
    far Empty us e = let k = ap length e in let j = h.far Empty ts refl in omega arith
    far (Inside u is_u f) us e = let tails : front_text f us ≡ ts = cc in h.far f us tails

    only : (x : Tree (level kind p)) (us : List Token) → text x us ≡ t ∷ ts → Heads (after (level kind p)) us
    only (In u is_u a) us e = let tails : text a us ≡ ts = cc in h.only a us tails

pub deep_in : {kind : Kind} {p : Part} {n : ℕ} {ts rest : List Token} {u : Token} (t : Token) → kind_of t ≡ kind → Deepens p n ts u rest → Deepens (level kind p) (n + 1) (t ∷ ts) u rest
deep_in {kind} {p} {n} {ts} {rest} {u} t is h = record {
  before = (Inside t is h.before.0, ap (λ us. t ∷ us) h.before.1, (let w = h.before.2 in omega arith));
  opens = (Inside t is h.opens.0, ap (λ us. t ∷ us) h.opens.1, (let w = h.opens.2 in omega arith));
  least = least;
  only = only;
}
  where
    least : (f : Front (level kind p)) (us : List Token) → front_text f us ≡ t ∷ ts → length us ≤ length rest → n + 1 < front_depth f
    least Empty us e le = let k = ap length e in let j = deep_shorter h in absurd (omega arith)
    least (Inside v is_v f) us e le = let tails : front_text f us ≡ ts = cc in let k = h.least f us tails le in omega arith

    only : (x : Tree (level kind p)) (us : List Token) → text x us ≡ t ∷ ts → (length us ≤ length rest) ⊎ Heads (after (level kind p)) us
    only (In v is_v a) us e = let tails : text a us ≡ ts = cc in h.only a us tails

pub deep_opens : {kind : Kind} {p : Part} (t : Token) (ts : List Token) → kind_of t ≡ kind → Deepens (level kind p) 0 (t ∷ ts) t ts
deep_opens {kind} {p} t ts is = record { before = (Empty, refl, omega arith); opens = (Inside t is Empty, refl, refl); least = least; only = only }
  where
    least : (f : Front (level kind p)) (us : List Token) → front_text f us ≡ t ∷ ts → length us ≤ length ts → 0 < front_depth f
    least Empty us e le = let k = ap length e in absurd (omega arith)
    least (Inside v is_v f) us e le = omega arith

    only : (x : Tree (level kind p)) (us : List Token) → text x us ≡ t ∷ ts → (length us ≤ length ts) ⊎ Heads (after (level kind p)) us
    only (In v is_v a) us e = let tails : text a us ≡ ts = cc in inl (let j = longer a us in let k = ap length tails in omega arith)

-- ---- a line

pub reads_by : {l : Line} {n : ℕ} {ts rest : List Token} {d : Tree (rule l)} → Reads n ts d rest → Reads {p = line l} n ts (By d) rest
reads_by {l} {n} {ts} {rest} {d} h = record { spells = h.spells; within = h.within; far = far; only = only }
  where
    far : (f : Front (line l)) (us : List Token) → front_text f us ≡ ts → length rest ≤ length us
    far Empty us e = h.far Empty us e
    far (ByLine f) us e = h.far f us e

    to : Tree (rule l) → Tree (line l)
    to y = By y

    only : (x : Tree (line l)) (us : List Token) → text x us ≡ ts → ((us ≡ rest) × (x ≡ By d)) ⊎ Heads (after (line l)) us
    only (By a) us e = elim (h.only a us e) [ inl k ↦ inl (k.0, ap to k.1) | inr k ↦ inr (Heads_subset (after (rule l)) (after_line l) us (after_ok l) k) ]

pub stops_by : (l : Line) {n : ℕ} {ts rest : List Token} → Stops (rule l) n ts rest → Stops (line l) n ts rest
stops_by l {n} {ts} {rest} h = record { front = (ByLine h.front.0, h.front.1, h.front.2); far = far; only = only }
  where
    far : (f : Front (line l)) (us : List Token) → front_text f us ≡ ts → length rest ≤ length us
    far Empty us e = h.far Empty us e
    far (ByLine f) us e = h.far f us e

    only : (x : Tree (line l)) (us : List Token) → text x us ≡ ts → Heads (after (line l)) us
    only (By a) us e = Heads_subset (after (rule l)) (after_line l) us (after_ok l) (h.only a us e)

pub deep_by : (l : Line) {n : ℕ} {ts rest : List Token} {t : Token} → Deepens (rule l) n ts t rest → Deepens (line l) n ts t rest
deep_by l {n} {ts} {rest} {t} h = record { before = (ByLine h.before.0, h.before.1, h.before.2); opens = (ByLine h.opens.0, h.opens.1, h.opens.2); least = least; only = only }
  where
    least : (f : Front (line l)) (us : List Token) → front_text f us ≡ ts → length us ≤ length rest → n < front_depth f
    least Empty us e le = let k = h.least Empty us e le in omega arith
    least (ByLine f) us e le = h.least f us e le

    only : (x : Tree (line l)) (us : List Token) → text x us ≡ ts → (length us ≤ length rest) ⊎ Heads (after (line l)) us
    only (By a) us e = elim (h.only a us e) [ inl k ↦ inl k | inr k ↦ inr (Heads_subset (after (rule l)) (after_line l) us (after_ok l) k) ]
