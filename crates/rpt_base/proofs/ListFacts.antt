-- Lists, and lists whose members may be missing.
use Rattle.std.proofs.Common.{◌≡◌, ◌∙◌, ◌<◌, ◌+◌, ◌||◌, ◌&&◌, ℕ, zero, suc, All, List, [], ◌∷◌, ◌++◌, length, map, take, get_or, Bool, true, false, Option, Some, None, refl, sym, ap, arith}
use Rattle.std.specs.Prelude.{flat_map, replicate}
use Rattle.std.specs.List.{list_all, list_any}
use Rattle.std.proofs.lemmas.List.{map-append, take_more}
use Rattle.std.proofs.lemmas.List.Elements.{All-append, All-nil, All-tail}
use mathlib.Core.Option.{some, some-injective, some-ne-none}
use lib.ListN.{get_elem?}
use Rattle.rpt_base.specs.Lists.{all_of}

-- two lists that are empty together are empty
pub front-empty : {X : Type 0} (xs ys : List X) → xs ++ ys ≡ [] → xs ≡ []
front-empty [] ys h = refl
front-empty (x ∷ xs) ys h = cc

pub back-empty : {X : Type 0} (xs ys : List X) → xs ++ ys ≡ [] → ys ≡ []
back-empty [] ys h = h
back-empty (x ∷ xs) ys h = cc

-- what holds of all that comes of each member
pub all-flat_map : {X Y : Type 0} (P : Y → Type 0) (f : X → List Y) (xs : List X) → All (λ x. All P (f x)) xs → All P (flat_map f xs)
all-flat_map P f [] h = All-nil P
all-flat_map P f (x ∷ xs) h = All-append P (f x) (flat_map f xs) (h 0 x (omega arith)) (all-flat_map P f xs (All-tail (λ x. All P (f x)) x xs h))

-- a copy of one value stands at each place
pub at-replicate : {X : Type 0} (n i : ℕ) (x : X) → get_or (replicate n x) i x ≡ x
at-replicate zero i x = refl
at-replicate (suc n) zero x = refl
at-replicate (suc n) (suc i) x = at-replicate n i x

-- a test that each member passes, and one that some member passes
pub all_from : {A : Type 0} (f : A → Bool) (xs : List A) → ((i : ℕ) (a : A) → get_elem? xs i ≡ some a → f a ≡ true) → list_all f xs ≡ true
all_from f [] h = refl
all_from f (x ∷ xs) h = λ k. h 0 x refl k && all_from f xs (λ i a e. h (suc i) a e) k

pub any_from : {A : Type 0} (f : A → Bool) (xs : List A) (i : ℕ) (a : A) → get_elem? xs i ≡ some a → f a ≡ true → list_any f xs ≡ true
any_from f [] i a e h = absurd (some-ne-none a (sym e))
any_from f (x ∷ xs) zero a e h = λ k. (ap f (some-injective x a e) ∙ h) k || list_any f xs
any_from f (x ∷ xs) (suc i) a e h = or_yes (f x) (any_from f xs i a e h)
  where
    or_yes : (b : Bool) {c : Bool} → c ≡ true → (b || c) ≡ true
    or_yes true g = refl
    or_yes false g = g

-- ---- members that may be missing
-- one more member that is there
pub all_of-push : {X : Type 0} (os : List (Option X)) (x : X) (xs : List X) → all_of os ≡ Some xs → all_of (os ++ Some x ∷ []) ≡ Some (xs ++ x ∷ [])
all_of-push [] x xs e = let same : [] ≡ xs = cc in rw (← same) refl
all_of-push (None ∷ os) x xs e = cc
all_of-push {X} (Some y ∷ os) x xs e = by (all_of os) refl (λ ys n. all_of-push os x ys n)
  where
    by : (o : Option (List X)) → all_of os ≡ o → ((ys : List X) → all_of os ≡ Some ys → all_of (os ++ Some x ∷ []) ≡ Some (ys ++ x ∷ []))
        → all_of (Some y ∷ os ++ Some x ∷ []) ≡ Some (xs ++ x ∷ [])
    by None n more = cc (rw n at e)
    by (Some ys) n more = let same : y ∷ ys ≡ xs = cc (rw n at e) in rw (more ys n, ← same) refl

-- a member that is missing among the first n
pub all_of-take_none : {X : Type 0} (n : ℕ) (os ps : List (Option X)) → length os < n → all_of (take n (os ++ None ∷ ps)) ≡ None
all_of-take_none zero os ps h = absurd (omega arith)
all_of-take_none (suc n) [] ps h = refl
all_of-take_none (suc n) (None ∷ os) ps h = refl
all_of-take_none (suc n) (Some x ∷ os) ps h = rw (all_of-take_none n os ps (omega arith)) refl

-- there are as many members as places
pub all_of-length : {X : Type 0} (os : List (Option X)) (xs : List X) → all_of os ≡ Some xs → length xs ≡ length os
all_of-length [] xs e = let same : [] ≡ xs = cc in rw (← same) refl
all_of-length (None ∷ os) xs e = cc
all_of-length {X} (Some y ∷ os) xs e = by (all_of os) refl (λ ys n. all_of-length os ys n)
  where
    by : (o : Option (List X)) → all_of os ≡ o → ((ys : List X) → all_of os ≡ Some ys → length ys ≡ length os) → length xs ≡ length (Some y ∷ os)
    by None n more = cc (rw n at e)
    by (Some ys) n more = let same : y ∷ ys ≡ xs = cc (rw n at e) in rw (← same) (omega (arith, more ys n))

module _ {X Y : Type 0} (f : X → Option Y) where
  -- one more member of a list that is gone through
  pub all_of-more : (xs : List X) (i : ℕ) (d : X) (y : Y) (ys : List Y) → i < length xs → all_of (map f (take i xs)) ≡ Some ys → f (get_or xs i d) ≡ Some y
      → all_of (map f (take (i + 1) xs)) ≡ Some (ys ++ y ∷ [])
  all_of-more xs i d y ys lt e here = rw (take_more xs i d lt, map-append, here) (all_of-push (map f (take i xs)) y ys e)

  -- where one member is missing, there are not all
  pub all_of-stop : (xs : List X) (i : ℕ) (d : X) → i < length xs → f (get_or xs i d) ≡ None → all_of (map f xs) ≡ None
  all_of-stop [] i d lt e = absurd (omega arith)
  all_of-stop (x ∷ xs) zero d lt e = rw e refl
  all_of-stop (x ∷ xs) (suc i) d lt e = by (f x) (all_of-stop xs i d (omega arith) e)
    where
      by : (o : Option Y) → all_of (map f xs) ≡ None → all_of (o ∷ map f xs) ≡ None
      by None n = refl
      by (Some y) n = rw n refl

  -- each member, where all are there
  pub all_of-at : (xs : List X) (ys : List Y) (i : ℕ) (d : X) (e : Y) → all_of (map f xs) ≡ Some ys → i < length xs → f (get_or xs i d) ≡ Some (get_or ys i e)
  all_of-at [] ys i d e h lt = absurd (omega arith)
  all_of-at (x ∷ xs) ys i d e h lt = by (f x) refl (all_of (map f xs)) refl i lt (λ zs k m n. all_of-at xs zs k d e m n)
    where
      by : (o : Option Y) → f x ≡ o → (r : Option (List Y)) → all_of (map f xs) ≡ r → (j : ℕ) → j < length (x ∷ xs)
          → ((zs : List Y) (k : ℕ) → all_of (map f xs) ≡ Some zs → k < length xs → f (get_or xs k d) ≡ Some (get_or zs k e))
          → f (get_or (x ∷ xs) j d) ≡ Some (get_or ys j e)
      by None a r b j l more = cc (rw a at h)
      by (Some y) a None b j l more = cc (rw (a, b) at h)
      by (Some y) a (Some zs) b zero l more = let same : y ∷ zs ≡ ys = cc (rw (a, b) at h) in rw (a, ← same) refl
      by (Some y) a (Some zs) b (suc k) l more = let same : y ∷ zs ≡ ys = cc (rw (a, b) at h) in rw (← same) (more zs k b (omega arith))
