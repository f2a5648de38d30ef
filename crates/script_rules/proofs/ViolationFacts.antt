-- The first refusal of several lists of them.
use Rattle.std.proofs.Common.{◌≡◌, ◌∙◌, ◌<◌, ◌≤◌, ◌+◌, ℕ, Bool, true, false, cond, ◌&&◌, ◌||◌, List, [], ◌∷◌, ◌++◌, length, take, drop, get_or, refl, ap, sym, arith, add-one, drop-cons}
use Rattle.std.specs.Prelude.{◌==◌, nat_lt, Option, None, Some}
use Rattle.std.specs.List.{flat_map}
use Rattle.std.proofs.Math.ListN.{drop_of_length-le}
use Rattle.std.proofs.lemmas.List.{take_more}
use Rattle.std.proofs.lemmas.Bool.Decides.{nat_tests}
use Rattle.script_rules.specs.declared.found.Violation.{Violation}
use Rattle.script_rules.specs.Violations.{comes_before, each_behind, earlier, first_of, merged, rank_of}

pub first_of-append : (found : Option Violation) (xs ys : List Violation) → first_of found (xs ++ ys) ≡ first_of (first_of found xs) ys
unfolding first_of
first_of-append found [] ys = refl
first_of-append found (x ∷ xs) ys = first_of-append (earlier found x) xs ys

-- the order by place and kind goes on
before-trans : (a b c k l m : ℕ) → (nat_lt a b || ((a == b) && nat_lt k l)) ≡ true → (nat_lt b c || ((b == c) && nat_lt l m)) ≡ true
    → (nat_lt a c || ((a == c) && nat_lt k m)) ≡ true
before-trans a b c k l m h i = grind (arith, nat_tests)

-- and so does its want
not_before-trans : (a b c k l m : ℕ) → (nat_lt a b || ((a == b) && nat_lt k l)) ≡ false → (nat_lt b c || ((b == c) && nat_lt l m)) ≡ false
    → (nat_lt a c || ((a == c) && nat_lt k m)) ≡ false
not_before-trans a b c k l m h i = grind (arith, nat_tests)

-- of three, it is no matter which two are compared first
module _ (g f m : Violation) where
  left-is : merged (Some g) (earlier (Some f) m) ≡ cond (comes_before m f) (cond (comes_before m g) (Some m) (Some g)) (cond (comes_before f g) (Some f) (Some g))
  left-is =
      elim (comes_before m f) as (λ v. merged (Some g) (cond v (Some m) (Some f)) ≡ cond v (cond (comes_before m g) (Some m) (Some g)) (cond (comes_before f g) (Some f) (Some g))) [
        | true ↦ refl
        | false ↦ refl
      ]

  right-is : earlier (earlier (Some g) f) m ≡ cond (comes_before f g) (cond (comes_before m f) (Some m) (Some f)) (cond (comes_before m g) (Some m) (Some g))
  right-is =
      elim (comes_before f g) as (λ v. earlier (cond v (Some f) (Some g)) m ≡ cond v (cond (comes_before m f) (Some m) (Some f)) (cond (comes_before m g) (Some m) (Some g))) [
        | true ↦ refl
        | false ↦ refl
      ]

  same : (a b c : Bool) → (a ≡ true → b ≡ true → c ≡ true) → (a ≡ false → b ≡ false → c ≡ false)
      → cond a (cond c (Some m) (Some g)) (cond b (Some f) (Some g)) ≡ cond b (cond a (Some m) (Some f)) (cond c (Some m) (Some g))
  same true true true h k = refl
  same true true false h k = let e = h refl refl in cc
  same true false c h k = refl
  same false true c h k = refl
  same false false true h k = let e = k refl refl in cc
  same false false false h k = refl

  earlier-merged : merged (Some g) (earlier (Some f) m) ≡ earlier (earlier (Some g) f) m
  earlier-merged =
      left-is
      ∙ same (comes_before m f) (comes_before f g) (comes_before m g)
      (before-trans m.at f.at g.at (rank_of m.kind) (rank_of f.kind) (rank_of g.kind))
      (not_before-trans m.at f.at g.at (rank_of m.kind) (rank_of f.kind) (rank_of g.kind))
      ∙ sym right-is

merged-assoc : (found : Option Violation) (f : Violation) (other : Option Violation) → merged found (merged (Some f) other) ≡ merged (earlier found f) other
merged-assoc None f None = refl
merged-assoc None f (Some m) = at (earlier (Some f) m)
  where
    at : (o : Option Violation) → merged None o ≡ o
    at None = refl
    at (Some x) = refl
merged-assoc (Some g) f None = refl
merged-assoc (Some g) f (Some m) = earlier-merged g f m

merged-none : (other : Option Violation) → merged None other ≡ other
merged-none None = refl
merged-none (Some f) = refl

-- the first of what was found and of a list is the first of what was found and of the list's first
pub first_of-merged : (found : Option Violation) (xs : List Violation) → first_of found xs ≡ merged found (first_of None xs)
unfolding first_of
first_of-merged found [] = refl
first_of-merged found (x ∷ xs) =
    first_of-merged (earlier found x) xs ∙ sym (merged-assoc found x (first_of None xs)) ∙ ap (merged found) (sym (first_of-merged (Some x) xs))

-- what was found stays found
first_of-some : (f : Violation) (xs : List Violation) → (g : Violation) × (first_of (Some f) xs ≡ Some g)
unfolding first_of
first_of-some f [] = (f, refl)
first_of-some f (x ∷ xs) = elim (comes_before x f) as (λ b. (g : Violation) × (first_of (cond b (Some x) (Some f)) xs ≡ Some g)) [ true ↦ first_of-some x xs | false ↦ first_of-some f xs ]

-- where none is first there is none
pub first_of-none : (xs : List Violation) → first_of None xs ≡ None → xs ≡ []
unfolding first_of
first_of-none [] h = refl
first_of-none (x ∷ xs) h = let e = first_of-some x xs in cc (e.1, h)

-- the refusals of members behind those before them, noted up to a place
module _ {X : Type 0} (violations : List X → X → List Violation) (xs : List X) (initial : Option Violation) where
  pub record IsNotedBehind (found : Option Violation) (n : ℕ) : Type 0 where
    pub all : first_of found (each_behind violations (take n xs) (drop n xs)) ≡ first_of initial (each_behind violations [] xs)

  pub noted_behind-start : IsNotedBehind initial 0
  noted_behind-start = record { all = refl }

  pub noted_behind-more : (found : Option Violation) (n : ℕ) (d : X) → n < length xs → IsNotedBehind found n
      → IsNotedBehind (first_of found (violations (take n xs) (get_or xs n d))) (n + 1)
  unfolding each_behind
  noted_behind-more found n d h is =
      let e : drop n xs ≡ get_or xs n d ∷ drop (n + 1) xs = rw (add-one, drop-cons xs n d h) refl in
      let before = take n xs in
      let x = get_or xs n d in
      record {
        all = ap (λ front. first_of (first_of found (violations before x)) (each_behind violations front (drop (n + 1) xs))) (take_more xs n d h)
            ∙ sym (first_of-append found (violations before x) (each_behind violations (before ++ x ∷ []) (drop (n + 1) xs)))
            ∙ sym (ap (λ rest. first_of found (each_behind violations before rest)) e) ∙ is.all;
      }

  pub noted_behind-end : (found : Option Violation) (n : ℕ) → length xs ≤ n → IsNotedBehind found n → found ≡ first_of initial (each_behind violations [] xs)
  unfolding each_behind first_of
  noted_behind-end found n h is = sym (ap (λ rest. first_of found (each_behind violations (take n xs) rest)) (drop_of_length-le xs h)) ∙ is.all

-- the refusals of members, noted up to a place
module _ {X : Type 0} (violations : X → List Violation) (xs : List X) (initial : Option Violation) where
  pub record IsNoted (found : Option Violation) (n : ℕ) : Type 0 where
    pub all : first_of found (flat_map violations (drop n xs)) ≡ first_of initial (flat_map violations xs)

  pub noted-start : IsNoted initial 0
  noted-start = record { all = refl }

  pub noted-more : (found : Option Violation) (n : ℕ) (d : X) → n < length xs → IsNoted found n → IsNoted (first_of found (violations (get_or xs n d))) (n + 1)
  noted-more found n d h is =
      let e : drop n xs ≡ get_or xs n d ∷ drop (n + 1) xs = rw (add-one, drop-cons xs n d h) refl in
      record {
        all = sym (first_of-append found (violations (get_or xs n d)) (flat_map violations (drop (n + 1) xs))) ∙ sym (ap (λ rest. first_of found (flat_map violations rest)) e) ∙ is.all;
      }

  pub noted-end : (found : Option Violation) (n : ℕ) → length xs ≤ n → IsNoted found n → found ≡ first_of initial (flat_map violations xs)
  unfolding first_of
  noted-end found n h is = sym (ap (λ rest. first_of found (flat_map violations rest)) (drop_of_length-le xs h)) ∙ is.all
