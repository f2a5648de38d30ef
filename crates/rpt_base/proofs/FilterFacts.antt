-- Filters of lists.
use Rattle.std.proofs.Common.{◌≡◌, ◌∙◌, ap, refl, Bool, true, false, List, [], ◌∷◌}
use Rattle.std.specs.Prelude.{◌&&◌, cond, filter}

filter-head : {X : Type 0} (p q : X → Bool) (x : X) (rest : List X) (b : Bool) → p x ≡ b → filter q (cond b (x ∷ rest) rest) ≡ cond (b && q x) (x ∷ filter q rest) (filter q rest)
filter-head p q x rest true e = refl
filter-head p q x rest false e = refl

-- what passes one test and then another passes both
pub filter-filter : {X : Type 0} (p q : X → Bool) (xs : List X) → filter q (filter p xs) ≡ filter (λ x. p x && q x) xs
filter-filter p q [] = refl
filter-filter p q (x ∷ xs) = filter-head p q x (filter p xs) (p x) refl ∙ ap (λ rest. cond (p x && q x) (x ∷ rest) rest) (filter-filter p q xs)

-- all pass a test that is always true
pub filter-all : {X : Type 0} (xs : List X) → filter (λ x. true) xs ≡ xs
filter-all [] = refl
filter-all (x ∷ xs) = ap (λ rest. x ∷ rest) (filter-all xs)

-- two tests that agree
pub filter-agree : {X : Type 0} (p q : X → Bool) (xs : List X) → ((x : X) → p x ≡ q x) → filter p xs ≡ filter q xs
filter-agree p q [] h = refl
filter-agree p q (x ∷ xs) h = rw (h x, filter-agree p q xs h) refl
