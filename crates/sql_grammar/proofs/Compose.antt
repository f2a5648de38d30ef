-- How the reading of a part follows from that of its parts.
use Rattle.std.proofs.Common.{◌≡◌, ℕ, ◌≤◌, ◌<◌, Bool, true, false, List, [], ◌∷◌, ◌++◌, length, refl, sym, ◌∙◌, ap, subst, arith, ◌⊎◌, inl, inr}
use Rattle.std.specs.Prelude.{if◌then◌else◌}
use base.Stored.{Coded-set}
use Rattle.std.proofs.Math.Bool.{Bool-set}
use Rattle.sql_grammar.specs.contracts.kinds.Kind as kinds
use Rattle.sql_lex.specs.declared.tokens.Token.{Token}
use Rattle.sql_grammar.specs.declared.kinds.Kind.{Kind}
use Rattle.sql_grammar.specs.Kinds.{kind_of, among}
use Rattle.sql_grammar.specs.Grammar.{Part, token, ◌▸◌, level, Tree, text, depth, Front, front_text, front_depth, Leaf, Both, In, Empty, Whole, Early, Later}
use Rattle.sql_grammar.specs.Reading.{apart, Heads, first, after, nullable, Reads, Stops, Deepens}
use Rattle.sql_grammar.proofs.Sets.{Heads_left, Heads_right, Heads_apart}
use Rattle.sql_grammar.proofs.Parts.{whole, whole_text, whole_depth, longer, longer_front}
use Rattle.sql_grammar.proofs.First.{begins, front_begins}

pub kind_set : IsSet Kind
kind_set = Coded-set (kinds.the_row).coded

leaf_same : {kinds : List Kind} (t u : Token) (is : among kinds (kind_of t) ≡ true) (is_u : among kinds (kind_of u) ≡ true) → u ≡ t → ◌≡◌ {A = Tree (token kinds)} (Leaf u is_u) (Leaf t is)
leaf_same {kinds} t u is is_u same =
    subst (λ (v : Token). (is_v : among kinds (kind_of v) ≡ true) → ◌≡◌ {A = Tree (token kinds)} (Leaf v is_v) (Leaf t is)) (sym same)
    (λ is_v. ap (λ (i : among kinds (kind_of t) ≡ true). Leaf {kinds = kinds} t i) (Bool-set (among kinds (kind_of t)) true is_v is)) is_u

pub in_same : {kind : Kind} {p : Part} (t u : Token) (is : kind_of t ≡ kind) (is_u : kind_of u ≡ kind) (d e : Tree p) → u ≡ t → e ≡ d → ◌≡◌ {A = Tree (level kind p)} (In u is_u e) (In t is d)
in_same {kind} {p} t u is is_u d e same equal =
    subst (λ (v : Token). (is_v : kind_of v ≡ kind) → ◌≡◌ {A = Tree (level kind p)} (In v is_v e) (In t is d)) (sym same)
    (λ is_v. ap (λ (i : kind_of t ≡ kind). In {kind = kind} t i e) (kind_set (kind_of t) kind is_v is) ∙ ap (λ x. In {kind = kind} t is x) equal) is_u

-- the part cannot begin with the first of these tokens
pub record NoBegin (p : Part) (ts : List Token) : Type 0 where
  pub never_empty : nullable p ≡ false
  pub other : Heads (first p) ts → ⊥

pub reads_token : {kinds : List Kind} (n : ℕ) (t : Token) (rest : List Token) (is : among kinds (kind_of t) ≡ true) → Reads n (t ∷ rest) (Leaf {kinds = kinds} t is) rest
reads_token {kinds} n t rest is = record { spells = refl; within = omega arith; far = far; only = only }
  where
    far : (f : Front (token kinds)) (us : List Token) → front_text f us ≡ t ∷ rest → length rest ≤ length us
    far Empty us e = let h = ap length e in omega arith
    far (Whole u is_u) us e = let h = ap length e in omega arith

    only : (d : Tree (token kinds)) (us : List Token) → text d us ≡ t ∷ rest → ((us ≡ rest) × (d ≡ Leaf t is)) ⊎ Heads (after (token kinds)) us
    only (Leaf u is_u) us e =
        let same : u ≡ t = cc in
        let rests : us ≡ rest = cc in
        inl (rests, leaf_same t u is is_u same)

pub stops_here : {p : Part} (n : ℕ) (ts : List Token) → NoBegin p ts → Stops p n ts ts
stops_here {p} n ts h = record { front = (Empty, refl, omega arith); far = far; only = only }
  where
    far : (f : Front p) (us : List Token) → front_text f us ≡ ts → length ts ≤ length us
    far f us e = elim (front_begins f us) [
      | inl k ↦ (let same : length ts ≡ length us = ap length (sym e ∙ k) in omega arith)
      | inr k ↦ absurd (h.other (subst (Heads (first p)) e k))
    ]

    only : (d : Tree p) (us : List Token) → text d us ≡ ts → Heads (after p) us
    only d us e = elim (begins d us) [
      | inl k ↦ absurd (let a = k.0 in let b = h.never_empty in cc)
      | inr k ↦ absurd (h.other (subst (Heads (first p)) e k))
    ]

-- ---- one part, and then another

-- Nothing goes further than the second part does from where the first ends. A says what is known of the first part's tree.
pub far_seq : {p q : Part} {A : Type 0} (ts us rest : List Token) → apart (after p) (first q) ≡ true → length rest ≤ length us
    → ((f : Front p) (vs : List Token) → front_text f vs ≡ ts → length us ≤ length vs)
    → ((a : Tree p) (vs : List Token) → text a vs ≡ ts → ((vs ≡ us) × A) ⊎ Heads (after p) vs)
    → (A → (g : Front q) (vs : List Token) → front_text g vs ≡ us → length rest ≤ length vs)
    → (f : Front (p ▸ q)) (vs : List Token) → front_text f vs ≡ ts → length rest ≤ length vs
far_seq ts us rest ap_ok shorter far1 only1 far2 Empty vs e = let h = far1 Empty vs e in omega arith
far_seq ts us rest ap_ok shorter far1 only1 far2 (Early f) vs e = let h = far1 f vs e in omega arith
far_seq {p} {q} ts us rest ap_ok shorter far1 only1 far2 (Later a g) vs e = elim (only1 a (front_text g vs) e) [
  | inl k ↦ far2 k.1 g vs k.0
  | inr k ↦ elim (front_begins g vs) [
    | inl m ↦ (let h = far1 (whole a) vs (whole_text a vs ∙ ap (text a) (sym m) ∙ e) in omega arith)
    | inr m ↦ absurd (Heads_apart (after p) (first q) (front_text g vs) ap_ok k m)
  ]
]

after_empty : (n : Bool) (F G : List ℕ) (vs : List Token) → n ≡ true → Heads F vs → Heads (G ++ (if n then F else [])) vs
after_empty true F G vs e h = Heads_right G F vs h
after_empty false F G vs e h = absurd cc

pub past : (p : Part) {q : Part} (b : Tree q) (vs : List Token) → apart (after p) (first q) ≡ true → Heads (after p) (text b vs) → Heads (after (p ▸ q)) vs
past p {q} b vs ap_ok h = elim (begins b vs) [
  | inl m ↦ after_empty (nullable q) (after p) (after q) vs m.0 (subst (Heads (after p)) m.1 h)
  | inr m ↦ absurd (Heads_apart (after p) (first q) (text b vs) ap_ok h m)
]

both_same : {p q : Part} (a d : Tree p) (b e : Tree q) → a ≡ d → b ≡ e → ◌≡◌ {A = Tree (p ▸ q)} (Both a b) (Both d e)
both_same {p} {q} a d b e h k = ap (λ (x : Tree p). in_order x b) h ∙ ap (λ (y : Tree q). in_order d y) k
  where
    in_order : Tree p → Tree q → Tree (p ▸ q)
    in_order x y = Both x y

pub reads_both : {p q : Part} {n : ℕ} {ts us rest : List Token} {d : Tree p} {e : Tree q} → apart (after p) (first q) ≡ true → Reads n ts d us → Reads n us e rest → Reads {p = p ▸ q} n ts (Both d e) rest
reads_both {p} {q} {n} {ts} {us} {rest} {d} {e} ap_ok h1 h2 = record {
  spells = ap (text d) h2.spells ∙ h1.spells;
  within = (let w1 = h1.within in let w2 = h2.within in omega arith);
  far = far_seq {A = ℕ} ts us rest ap_ok (h2.far Empty us refl) h1.far only1 (λ _. h2.far);
  only = only;
}
  where
    only1 : (a : Tree p) (vs : List Token) → text a vs ≡ ts → ((vs ≡ us) × ℕ) ⊎ Heads (after p) vs
    only1 a vs eq = elim (h1.only a vs eq) [ inl k ↦ inl (k.0, 0) | inr k ↦ inr k ]

    only : (x : Tree (p ▸ q)) (vs : List Token) → text x vs ≡ ts → ((vs ≡ rest) × (x ≡ Both d e)) ⊎ Heads (after (p ▸ q)) vs
    only (Both a b) vs eq = elim (h1.only a (text b vs) eq) [
      | inl k ↦ elim (h2.only b vs k.0) [
        | inl m ↦ inl (m.0, both_same a d b e k.1 m.1)
        | inr m ↦ inr (Heads_left (after q) (if nullable q then after p else []) vs m)
      ]
      | inr k ↦ inr (past p b vs ap_ok k)
    ]

pub stops_first : {p q : Part} {n : ℕ} {ts rest : List Token} → apart (after p) (first q) ≡ true → Stops p n ts rest → Stops (p ▸ q) n ts rest
stops_first {p} {q} {n} {ts} {rest} ap_ok h = record {
  front = (Early h.front.0, h.front.1, h.front.2);
  far = far_seq {A = ⊥} ts rest rest ap_ok (omega arith) h.far (λ a vs eq. inr (h.only a vs eq)) (λ no_tree. absurd no_tree);
  only = only;
}
  where
    only : (x : Tree (p ▸ q)) (vs : List Token) → text x vs ≡ ts → Heads (after (p ▸ q)) vs
    only (Both a b) vs eq = past p b vs ap_ok (h.only a (text b vs) eq)

pub stops_second : {p q : Part} {n : ℕ} {ts us rest : List Token} {d : Tree p} → apart (after p) (first q) ≡ true → Reads n ts d us → Stops q n us rest → Stops (p ▸ q) n ts rest
stops_second {p} {q} {n} {ts} {us} {rest} {d} ap_ok h1 h2 = record {
  front = (Later d h2.front.0, ap (text d) h2.front.1 ∙ h1.spells, (let w1 = h1.within in let w2 = h2.front.2 in omega arith));
  far = far_seq {A = ℕ} ts us rest ap_ok (h2.far Empty us refl) h1.far only1 (λ _. h2.far);
  only = only;
}
  where
    only1 : (a : Tree p) (vs : List Token) → text a vs ≡ ts → ((vs ≡ us) × ℕ) ⊎ Heads (after p) vs
    only1 a vs eq = elim (h1.only a vs eq) [ inl k ↦ inl (k.0, 0) | inr k ↦ inr k ]

    only : (x : Tree (p ▸ q)) (vs : List Token) → text x vs ≡ ts → Heads (after (p ▸ q)) vs
    only (Both a b) vs eq = elim (h1.only a (text b vs) eq) [
      | inl k ↦ Heads_left (after q) (if nullable q then after p else []) vs (h2.only b vs k.0)
      | inr k ↦ past p b vs ap_ok k
    ]

-- what opens a level too many stands behind the front
pub deep_shorter : {p : Part} {n : ℕ} {ts rest : List Token} {t : Token} → Deepens p n ts t rest → length rest < length ts
deep_shorter {p} {n} {ts} {rest} {t} h = let k = longer_front h.before.0 (t ∷ rest) in let e = ap length h.before.1 in omega arith

deep_whole : {p : Part} {n : ℕ} {ts rest : List Token} {t : Token} → Deepens p n ts t rest → (a : Tree p) (us : List Token) → text a us ≡ ts → length us ≤ length rest → n < depth a
deep_whole h a us e le = let k = h.least (whole a) us (whole_text a us ∙ e) le in let d = whole_depth a in omega arith

-- as far as the level too many, by the first part
pub least_first : {p q : Part} {n : ℕ} {ts rest : List Token} {t : Token} → apart (after p) (first q) ≡ true → Deepens p n ts t rest
    → (f : Front (p ▸ q)) (us : List Token) → front_text f us ≡ ts → length us ≤ length rest → n < front_depth f
least_first ap_ok h Empty us e le = let k = h.least Empty us e le in omega arith
least_first ap_ok h (Early f) us e le = h.least f us e le
least_first {p} {q} ap_ok h (Later a g) us e le = elim (h.only a (front_text g us) e) [
  | inl k ↦ (let d = deep_whole h a (front_text g us) e k in omega arith)
  | inr k ↦ elim (front_begins g us) [
    | inl m ↦ (let d = deep_whole h a us (ap (text a) (sym m) ∙ e) le in omega arith)
    | inr m ↦ absurd (Heads_apart (after p) (first q) (front_text g us) ap_ok k m)
  ]
]

pub deep_first : {p q : Part} {n : ℕ} {ts rest : List Token} {t : Token} → apart (after p) (first q) ≡ true → Deepens p n ts t rest → Deepens (p ▸ q) n ts t rest
deep_first {p} {q} {n} {ts} {rest} {t} ap_ok h = record {
  before = (Early h.before.0, h.before.1, h.before.2);
  opens = (Early h.opens.0, h.opens.1, h.opens.2);
  least = least_first ap_ok h;
  only = only;
}
  where
    only : (x : Tree (p ▸ q)) (us : List Token) → text x us ≡ ts → (length us ≤ length rest) ⊎ Heads (after (p ▸ q)) us
    only (Both a b) us e = elim (h.only a (text b us) e) [
      | inl k ↦ inl (let j = longer b us in omega arith)
      | inr k ↦ inr (past p b us ap_ok k)
    ]

pub least_second : {p q : Part} {n : ℕ} {ts us rest : List Token} {t : Token} {d : Tree p} → apart (after p) (first q) ≡ true → Reads n ts d us → Deepens q n us t rest
    → (f : Front (p ▸ q)) (vs : List Token) → front_text f vs ≡ ts → length vs ≤ length rest → n < front_depth f
least_second ap_ok h1 h2 Empty vs e le = let k = h1.far Empty vs e in let j = deep_shorter h2 in absurd (omega arith)
least_second ap_ok h1 h2 (Early f) vs e le = let k = h1.far f vs e in let j = deep_shorter h2 in absurd (omega arith)
least_second {p} {q} ap_ok h1 h2 (Later a g) vs e le = elim (h1.only a (front_text g vs) e) [
  | inl k ↦ (let d = h2.least g vs k.0 le in omega arith)
  | inr k ↦ elim (front_begins g vs) [
    | inl m ↦ (let far = h1.far (whole a) vs (whole_text a vs ∙ ap (text a) (sym m) ∙ e) in let j = deep_shorter h2 in absurd (omega arith))
    | inr m ↦ absurd (Heads_apart (after p) (first q) (front_text g vs) ap_ok k m)
  ]
]

pub deep_second : {p q : Part} {n : ℕ} {ts us rest : List Token} {t : Token} {d : Tree p} → apart (after p) (first q) ≡ true → Reads n ts d us → Deepens q n us t rest → Deepens (p ▸ q) n ts t rest
deep_second {p} {q} {n} {ts} {us} {rest} {t} {d} ap_ok h1 h2 = record {
  before = (Later d h2.before.0, ap (text d) h2.before.1 ∙ h1.spells, (let w1 = h1.within in let w2 = h2.before.2 in omega arith));
  opens = (Later d h2.opens.0, ap (text d) h2.opens.1 ∙ h1.spells, (let w1 = h1.within in let w2 = h2.opens.2 in omega arith));
  least = least_second ap_ok h1 h2;
  only = only;
}
  where
    only : (x : Tree (p ▸ q)) (vs : List Token) → text x vs ≡ ts → (length vs ≤ length rest) ⊎ Heads (after (p ▸ q)) vs
    only (Both a b) vs e = elim (h1.only a (text b vs) e) [
      | inl k ↦ elim (h2.only b vs k.0) [ inl m ↦ inl m | inr m ↦ inr (Heads_left (after q) (if nullable q then after p else []) vs m) ]
      | inr k ↦ inr (past p b vs ap_ok k)
    ]
