-- What a derivation or a front begins with.
use Rattle.std.proofs.Common.{◌≡◌, ℕ, Bool, true, false, List, [], ◌∷◌, ◌++◌, refl, sym, ◌∙◌, ap, subst, arith, ◌⊎◌, inl, inr}
use Rattle.std.specs.Prelude.{◌||◌, ◌&&◌, if◌then◌else◌}
use Rattle.std.proofs.lemmas.Bool.Decides.{nat_tests}
use Rattle.sql_lex.specs.declared.tokens.Token.{Token}
use Rattle.sql_grammar.specs.Kinds.{kind_of, code}
use Rattle.rpt_base.specs.Lists.{has}
use Rattle.sql_grammar.specs.Grammar.{Line, rule, Part, Tree, text, Front, front_text, Leaf, None, Both, Left, Right, End, More, In, By, Empty, Whole, Early, Later, LeftOf, RightOf, Item, Beyond, Inside, ByLine}
use Rattle.sql_grammar.specs.Reading.{Heads, first, nullable, first_line}
use Rattle.sql_grammar.proofs.Sets.{Heads_left, Heads_right, Heads_subset}
use Rattle.sql_grammar.proofs.Parts.{first_ok, nullable_ok}

-- ts are us, which a part that may be empty allows, or begin with one of the kinds
abbrev pub Begins : Bool → List ℕ → List Token → List Token → Type 0
Begins can_be_empty kinds ts us = ((can_be_empty ≡ true) × (ts ≡ us)) ⊎ Heads kinds ts

has_one : (a b : ℕ) → a ≡ b → has a (b ∷ []) ≡ true
has_one a b e = grind (arith, nat_tests)

both : (m n : Bool) (F G : List ℕ) (ts us vs : List Token) → Begins m F ts us → Begins n G us vs → Begins (m && n) (F ++ (if m then G else [])) ts vs
both m n F G ts us vs (inr h) k = inr (Heads_left F (if m then G else []) ts h)
both true n F G ts us vs (inl h) (inl k) = inl (k.0, h.1 ∙ k.1)
both true n F G ts us vs (inl h) (inr k) = inr (subst (Heads (F ++ G)) (sym h.1) (Heads_right F G us k))
both false n F G ts us vs (inl h) k = absurd (let e = h.0 in cc)

left : (m n : Bool) (F G : List ℕ) (ts us : List Token) → Begins m F ts us → Begins (m || n) (F ++ G) ts us
left m n F G ts us (inr h) = inr (Heads_left F G ts h)
left true n F G ts us (inl h) = inl (refl, h.1)
left false n F G ts us (inl h) = absurd (let e = h.0 in cc)

right : (m n : Bool) (F G : List ℕ) (ts us : List Token) → Begins n G ts us → Begins (m || n) (F ++ G) ts us
right m n F G ts us (inr h) = inr (Heads_right F G ts h)
right true n F G ts us (inl h) = inl (refl, h.1)
right false n F G ts us (inl h) = inl h

again : (m : Bool) (F : List ℕ) (ts us vs : List Token) → Begins m F ts us → Begins true F us vs → Begins true F ts vs
again m F ts us vs (inr h) k = inr h
again m F ts us vs (inl h) (inl k) = inl (refl, h.1 ∙ k.1)
again m F ts us vs (inl h) (inr k) = inr (subst (Heads F) (sym h.1) k)

by : (l : Line) (ts us : List Token) → Begins (nullable (rule l)) (first (rule l)) ts us → Begins false (first_line l) ts us
by l ts us (inl h) = absurd (let e = nullable_ok l in let f = h.0 in cc)
by l ts us (inr h) = inr (Heads_subset (first (rule l)) (first_line l) ts (first_ok l) h)

pub begins : {p : Part} (d : Tree p) (us : List Token) → Begins (nullable p) (first p) (text d us) us
begins (Leaf t is) us = inr is
begins None us = inl (refl, refl)
begins (Both {p = p} {q = q} a b) us = both (nullable p) (nullable q) (first p) (first q) (text a (text b us)) (text b us) us (begins a (text b us)) (begins b us)
begins (Left {p = p} {q = q} a) us = left (nullable p) (nullable q) (first p) (first q) (text a us) us (begins a us)
begins (Right {p = p} {q = q} b) us = right (nullable p) (nullable q) (first p) (first q) (text b us) us (begins b us)
begins End us = inl (refl, refl)
begins (More {p = p} a more) us = again (nullable p) (first p) (text a (text more us)) (text more us) us (begins a (text more us)) (begins more us)
begins (In {kind = k} t is a) us = inr (has_one (code (kind_of t)) (code k) (ap code is))
begins (By {l = l} a) us = by l (text a us) us (begins a us)

-- a front may always be empty
abbrev FrontBegins : List ℕ → List Token → List Token → Type 0
FrontBegins kinds ts us = (ts ≡ us) ⊎ Heads kinds ts

early : (m : Bool) (F G : List ℕ) (ts us : List Token) → FrontBegins F ts us → FrontBegins (F ++ (if m then G else [])) ts us
early m F G ts us (inl h) = inl h
early m F G ts us (inr h) = inr (Heads_left F (if m then G else []) ts h)

later : (m : Bool) (F G : List ℕ) (ts us vs : List Token) → Begins m F ts us → FrontBegins G us vs → FrontBegins (F ++ (if m then G else [])) ts vs
later m F G ts us vs (inr h) k = inr (Heads_left F (if m then G else []) ts h)
later true F G ts us vs (inl h) (inl k) = inl (h.1 ∙ k)
later true F G ts us vs (inl h) (inr k) = inr (subst (Heads (F ++ G)) (sym h.1) (Heads_right F G us k))
later false F G ts us vs (inl h) k = absurd (let e = h.0 in cc)

left_of : (F G : List ℕ) (ts us : List Token) → FrontBegins F ts us → FrontBegins (F ++ G) ts us
left_of F G ts us (inl h) = inl h
left_of F G ts us (inr h) = inr (Heads_left F G ts h)

right_of : (F G : List ℕ) (ts us : List Token) → FrontBegins G ts us → FrontBegins (F ++ G) ts us
right_of F G ts us (inl h) = inl h
right_of F G ts us (inr h) = inr (Heads_right F G ts h)

beyond : (m : Bool) (F : List ℕ) (ts us vs : List Token) → Begins m F ts us → FrontBegins F us vs → FrontBegins F ts vs
beyond m F ts us vs (inr h) k = inr h
beyond m F ts us vs (inl h) (inl k) = inl (h.1 ∙ k)
beyond m F ts us vs (inl h) (inr k) = inr (subst (Heads F) (sym h.1) k)

by_line : (l : Line) (ts us : List Token) → FrontBegins (first (rule l)) ts us → FrontBegins (first_line l) ts us
by_line l ts us (inl h) = inl h
by_line l ts us (inr h) = inr (Heads_subset (first (rule l)) (first_line l) ts (first_ok l) h)

pub front_begins : {p : Part} (f : Front p) (us : List Token) → (front_text f us ≡ us) ⊎ Heads (first p) (front_text f us)
front_begins Empty us = inl refl
front_begins (Whole t is) us = inr is
front_begins (Early {p = p} {q = q} f) us = early (nullable p) (first p) (first q) (front_text f us) us (front_begins f us)
front_begins (Later {p = p} {q = q} a f) us = later (nullable p) (first p) (first q) (text a (front_text f us)) (front_text f us) us (begins a (front_text f us)) (front_begins f us)
front_begins (LeftOf {p = p} {q = q} f) us = left_of (first p) (first q) (front_text f us) us (front_begins f us)
front_begins (RightOf {p = p} {q = q} f) us = right_of (first p) (first q) (front_text f us) us (front_begins f us)
front_begins (Item f) us = front_begins f us
front_begins (Beyond {p = p} a f) us = beyond (nullable p) (first p) (text a (front_text f us)) (front_text f us) us (begins a (front_text f us)) (front_begins f us)
front_begins (Inside {kind = k} t is f) us = inr (has_one (code (kind_of t)) (code k) (ap code is))
front_begins (ByLine {l = l} f) us = by_line l (front_text f us) us (front_begins f us)
