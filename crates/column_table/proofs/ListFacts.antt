-- Lists of values, of rows and of columns.
use Rattle.std.proofs.Common.{◌≡◌, refl, ap, ℕ, zero, suc, ◌+◌, ◌<◌, Bool, List, [], ◌∷◌, ◌++◌, length, get_or, map, set, take, Some, arith}
use Rattle.std.specs.Prelude.{IsTrue, Result, Ok, Err, OnErr, slice_get}
use Rattle.std.specs.List.{list_all}
use Rattle.std.proofs.lemmas.Bool.{and_parts, and_from}

-- a test that all pass is passed by the first ones, by one more, and by each
pub all-take : {X : Type 0} (p : X → Bool) (n : ℕ) (xs : List X) → IsTrue (list_all p xs) → IsTrue (list_all p (take n xs))
all-take p zero xs h = refl
all-take p (suc n) [] h = refl
all-take p (suc n) (x ∷ xs) h = let both = and_parts (p x) (list_all p xs) h in and_from _ _ both.0 (all-take p n xs both.1)

pub all-push : {X : Type 0} (p : X → Bool) (xs : List X) (y : X) → IsTrue (list_all p xs) → IsTrue (p y) → IsTrue (list_all p (xs ++ y ∷ []))
all-push p [] y h here = and_from _ _ here refl
all-push p (x ∷ xs) y h here = let both = and_parts (p x) (list_all p xs) h in and_from _ _ both.0 (all-push p xs y both.1 here)

pub all-at : {X : Type 0} (p : X → Bool) (xs : List X) (i : ℕ) (x : X) → IsTrue (list_all p xs) → slice_get xs i ≡ Some x → IsTrue (p x)
all-at p [] i x h e = cc
all-at p (y ∷ xs) zero x h e = let same : y ≡ x = cc in rw (← same) (and_parts (p y) (list_all p xs) h).0
all-at p (y ∷ xs) (suc i) x h e = all-at p xs i x (and_parts (p y) (list_all p xs) h).1 e

-- each passes, so all do
pub all-from : {X Y : Type 0} (p : X → Bool) (f : Y → X) (ys : List Y) → ((i : ℕ) (d : Y) → i < length ys → IsTrue (p (f (get_or ys i d)))) → IsTrue (list_all p (map f ys))
all-from p f [] h = refl
all-from p f (y ∷ ys) h = and_from _ _ (h 0 y (omega arith)) (all-from p f ys (λ i d lt. h (suc i) d (omega arith)))

-- a write that changes nothing that f sees
pub map-kept : {X Y : Type 0} (f : X → Y) (xs : List X) (i : ℕ) (x d : X) → i < length xs → f x ≡ f (get_or xs i d) → map f (set xs i x) ≡ map f xs
map-kept f [] i x d h e = refl
map-kept f (y ∷ xs) zero x d h e = rw e refl
map-kept f (y ∷ xs) (suc i) x d h e = ap (λ ys. f y ∷ ys) (map-kept f xs i x d (omega arith) e)

-- what holds anyway holds after a refusal
pub on-err : {T E P : Type 0} (r : Result T E) → P → OnErr r P
on-err (Ok x) p = tt
on-err (Err e) p = p
