-- Sets of kinds.
use Rattle.std.proofs.Common.{◌≡◌, ℕ, Bool, true, false, nat_eq, List, [], ◌∷◌, ◌++◌, refl, ap, arith, ◌⊎◌, inl, inr}
use Rattle.std.specs.Prelude.{◌||◌}
use Rattle.std.proofs.lemmas.Bool.Decides.{nat_tests}
use Rattle.sql_lex.specs.declared.tokens.Token.{Token}
use Rattle.sql_grammar.specs.Kinds.{kind_of, code}
use Rattle.rpt_base.specs.Lists.{has}
use Rattle.sql_grammar.specs.Reading.{apart, subset, Heads}

pub has_left : (xs ys : List ℕ) (n : ℕ) → has n xs ≡ true → has n (xs ++ ys) ≡ true
has_left [] ys n h = absurd cc
has_left (x ∷ xs) ys n h = grind (arith, nat_tests, has_left xs ys n)

pub has_right : (xs ys : List ℕ) (n : ℕ) → has n ys ≡ true → has n (xs ++ ys) ≡ true
has_right [] ys n h = h
has_right (x ∷ xs) ys n h = grind (arith, nat_tests, has_right xs ys n h)

same_has : (ys : List ℕ) (x n : ℕ) → nat_eq n x ≡ true → has n ys ≡ has x ys
same_has ys x n h = let e : n ≡ x = grind (arith, nat_tests) in ap (λ m. has m ys) e

pub has_apart : (xs ys : List ℕ) (n : ℕ) → apart xs ys ≡ true → has n xs ≡ true → has n ys ≡ true → ⊥
has_apart [] ys n a h k = absurd cc
has_apart (x ∷ xs) ys n a h k = grind (arith, nat_tests, has_apart xs ys n, same_has ys x n)

pub has_subset : (xs ys : List ℕ) (n : ℕ) → subset xs ys ≡ true → has n xs ≡ true → has n ys ≡ true
has_subset [] ys n a h = absurd cc
has_subset (x ∷ xs) ys n a h = grind (arith, nat_tests, has_subset xs ys n, same_has ys x n)

pub Heads_left : (xs ys : List ℕ) (ts : List Token) → Heads xs ts → Heads (xs ++ ys) ts
Heads_left xs ys [] h = h
Heads_left xs ys (t ∷ ts) h = has_left xs ys (code (kind_of t)) h

pub Heads_right : (xs ys : List ℕ) (ts : List Token) → Heads ys ts → Heads (xs ++ ys) ts
Heads_right xs ys [] h = h
Heads_right xs ys (t ∷ ts) h = has_right xs ys (code (kind_of t)) h

pub Heads_apart : (xs ys : List ℕ) (ts : List Token) → apart xs ys ≡ true → Heads xs ts → Heads ys ts → ⊥
Heads_apart xs ys [] a h k = h
Heads_apart xs ys (t ∷ ts) a h k = has_apart xs ys (code (kind_of t)) a h k

pub Heads_subset : (xs ys : List ℕ) (ts : List Token) → subset xs ys ≡ true → Heads xs ts → Heads ys ts
Heads_subset xs ys [] a h = h
Heads_subset xs ys (t ∷ ts) a h = has_subset xs ys (code (kind_of t)) a h

either : (x : ℕ) (xs : List ℕ) (n : ℕ) → has n (x ∷ xs) ≡ true → (has n (x ∷ []) ≡ true) ⊎ (has n xs ≡ true)
either x xs n h = go (nat_eq n x) h
  where
    go : (b : Bool) → (b || has n xs) ≡ true → ((b || false) ≡ true) ⊎ (has n xs ≡ true)
    go true k = inl refl
    go false k = inr k

pub Heads_neither : (x : ℕ) (xs : List ℕ) (ts : List Token) → (Heads (x ∷ []) ts → ⊥) → (Heads xs ts → ⊥) → Heads (x ∷ xs) ts → ⊥
Heads_neither x xs [] a b h = h
Heads_neither x xs (t ∷ ts) a b h = elim (either x xs (code (kind_of t)) h) [ inl k ↦ a k | inr k ↦ b k ]
