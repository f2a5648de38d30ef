-- Members of a list.
use Rattle.std.proofs.Common.{◌≡◌, ℕ, true, false, ◌||◌, List, [], ◌∷◌, ◌++◌, refl, sym, ap, ◌∙◌, eqb}
use Rattle.std.proofs.lemmas.Bool.{eqb-false, eq-eqb, ne_eqb, or_parts, or_from, or_left, or_right, both_ways}
use Rattle.rpt_base.specs.Lists.{has}

pub has-new : (x y : ℕ) (ys : List ℕ) → has x (y ∷ ys) ≡ false → has x ys ≡ false
has-new x y ys h = (or_parts (eqb x y) (has x ys) h).1

pub has-differs : (x y : ℕ) (ys : List ℕ) → has x (y ∷ ys) ≡ false → eqb x y ≡ false
has-differs x y ys h = (or_parts (eqb x y) (has x ys) h).0

pub has-kept : (x y : ℕ) (ys : List ℕ) → has x ys ≡ true → has x (y ∷ ys) ≡ true
has-kept x y ys h = or_right (eqb x y) (has x ys) h

pub has-head : (x : ℕ) (ys : List ℕ) → has x (x ∷ ys) ≡ true
has-head x ys = or_left (eqb x x) (has x ys) (eq-eqb x x refl)

pub has-other : (x y : ℕ) (ys : List ℕ) → eqb x y ≡ false → has x (y ∷ ys) ≡ has x ys
has-other x y ys h = ap (λ b. b || has x ys) h

pub has-still : (x y : ℕ) (ys : List ℕ) → eqb x y ≡ false → has x ys ≡ false → has x (y ∷ ys) ≡ false
has-still x y ys h k = or_from (eqb x y) (has x ys) h k

-- a member and one that is no member differ
pub has-apart : (x y : ℕ) (ys : List ℕ) → has x ys ≡ true → has y ys ≡ false → x ≡ y → ⊥
has-apart x y ys h k e = both_ways (has y ys) k (ap (λ z. has z ys) (sym e) ∙ h)

pub eqb-flip : (x y : ℕ) → eqb x y ≡ false → eqb y x ≡ false
eqb-flip x y h = ne_eqb y x (λ e. eqb-false x y h (sym e))

pub has-append : (x : ℕ) (xs ys : List ℕ) → has x (xs ++ ys) ≡ (has x xs || has x ys)
has-append x [] ys = refl
has-append x (z ∷ xs) ys = elim (eqb x z) as (λ b. (b || has x (xs ++ ys)) ≡ ((b || has x xs) || has x ys)) [ true ↦ refl | false ↦ has-append x xs ys ]
