-- Sums over lists with each member once.
use Rattle.std.proofs.Common.{◌≡◌, ℕ, zero, suc, ◌+◌, ◌<◌, ◌≤◌, Bool, true, false, cond, not, ◌||◌, ◌&&◌, ◌⊎◌, List, [], ◌∷◌, length, get_or, take, add-one, refl, sym, ap, ◌∙◌, subst, inl, inr, eqb, ltb, arith}
use Rattle.std.specs.List.{filter, sum_by}
use Rattle.std.proofs.lemmas.Bool.{eqb-true, eqb-false, both_ways, cases_Bool, lt-ltb, le-ltb, ltb-true, cases_order}
use Rattle.std.proofs.lemmas.List.Sums.{sum_by-cons, sum_by_more}
use Rattle.rpt_base.specs.Lists.{has}
use Rattle.rpt_base.proofs.MemberFacts.{has-new, has-head, has-other, has-still, has-differs, eqb-flip}

-- the numbers below n, the greatest first
abbrev pub up : ℕ → List ℕ
up zero = []
up (suc n) = n ∷ up n

-- each member once
abbrev pub Distinct : List ℕ → Type 0
Distinct [] = Unit {0}
Distinct (x ∷ xs) = (has x xs ≡ false) × Distinct xs

-- the sum of what the members give
abbrev pub add : (ℕ → ℕ) → List ℕ → ℕ
add f [] = 0
add f (x ∷ xs) = f x + add f xs

pub add-is : (f : ℕ → ℕ) (xs : List ℕ) → sum_by f xs ≡ add f xs
add-is f [] = refl
add-is f (x ∷ xs) = sum_by-cons f x xs ∙ ap (λ z. f x + z) (add-is f xs)

pub add-agree : (f g : ℕ → ℕ) (xs : List ℕ) → ((x : ℕ) → f x ≡ g x) → add f xs ≡ add g xs
add-agree f g [] h = refl
add-agree f g (x ∷ xs) h = omega (arith, h x, add-agree f g xs h)

pub add-plus : (f g : ℕ → ℕ) (xs : List ℕ) → add (λ x. f x + g x) xs ≡ add f xs + add g xs
add-plus f g [] = refl
add-plus f g (x ∷ xs) = omega (arith, add-plus f g xs)

pub add-ones : (xs : List ℕ) → add (λ x. 1) xs ≡ length xs
add-ones [] = refl
add-ones (x ∷ xs) = omega (arith, add-ones xs)

pub add-filter : (f : ℕ → ℕ) (p : ℕ → Bool) (xs : List ℕ) → add f (filter p xs) ≡ add (λ x. cond (p x) (f x) 0) xs
add-filter f p [] = refl
add-filter f p (x ∷ xs) =
    elim (p x) as (λ b. add f (cond b (x ∷ filter p xs) (filter p xs)) ≡ cond b (f x) 0 + add (λ x. cond (p x) (f x) 0) xs)
    [ true ↦ omega (arith, add-filter f p xs) | false ↦ omega (arith, add-filter f p xs) ]

pub has-filter-out : (z : ℕ) (p : ℕ → Bool) (xs : List ℕ) → has z xs ≡ false → has z (filter p xs) ≡ false
has-filter-out z p [] h = refl
has-filter-out z p (x ∷ xs) h =
    elim (p x) as (λ b. has z (cond b (x ∷ filter p xs) (filter p xs)) ≡ false) [
      | true ↦ has-still z x (filter p xs) (has-differs z x xs h) (has-filter-out z p xs (has-new z x xs h))
      | false ↦ has-filter-out z p xs (has-new z x xs h)
    ]

pub has-filter : (z : ℕ) (p : ℕ → Bool) (xs : List ℕ) → has z (filter p xs) ≡ (has z xs && p z)
has-filter z p [] = refl
has-filter z p (x ∷ xs) =
    elim (cases_Bool (eqb z x)) [
      | inl here ↦
          let e : z ≡ x = eqb-true z x here in
          elim (cases_Bool (p x)) [
            | inl on ↦ let on' : p z ≡ true = ap p e ∙ on in rw (on, here, on') refl
            | inr off ↦
                let off' : p z ≡ false = ap p e ∙ off in
                let rest : has z (filter p xs) ≡ (has z xs && p z) = has-filter z p xs in
                rw (off, here, rest, off') (and-off (has z xs))
          ]
      | inr there ↦
          elim (p x) as (λ b. has z (cond b (x ∷ filter p xs) (filter p xs)) ≡ ((eqb z x || has z xs) && p z))
          [ true ↦ rw there (has-filter z p xs) | false ↦ rw there (has-filter z p xs) ]
    ]
  where
    and-off : (b : Bool) → (b && false) ≡ false
    and-off true = refl
    and-off false = refl

pub Distinct-filter : (p : ℕ → Bool) (xs : List ℕ) → Distinct xs → Distinct (filter p xs)
Distinct-filter p [] h = tt
Distinct-filter p (x ∷ xs) h =
    elim (p x) as (λ b. Distinct (cond b (x ∷ filter p xs) (filter p xs)))
    [ true ↦ (has-filter-out x p xs h.0, Distinct-filter p xs h.1) | false ↦ Distinct-filter p xs h.1 ]

abbrev without : ℕ → List ℕ → List ℕ
without x xs = filter (λ y. not (eqb y x)) xs

without-absent : (x : ℕ) (xs : List ℕ) → has x xs ≡ false → without x xs ≡ xs
without-absent x [] h = refl
without-absent x (y ∷ ys) h =
    let off : eqb y x ≡ false = eqb-flip x y (has-differs x y ys h) in
    rw off (ap (λ z. y ∷ z) (without-absent x ys (has-new x y ys h)))

add-without : (f : ℕ → ℕ) (x : ℕ) (ys : List ℕ) → Distinct ys → has x ys ≡ true → add f ys ≡ f x + add f (without x ys)
add-without f x [] d h = absurd (both_ways false refl h)
add-without f x (y ∷ ys) d h =
    elim (cases_Bool (eqb y x)) [
      | inl here ↦
          let e : y ≡ x = eqb-true y x here in
          let gone : without x ys ≡ ys = without-absent x ys (subst (λ z. has z ys ≡ false) e d.0) in
          rw (here, gone) (ap (λ z. f z + add f ys) e)
      | inr there ↦
          let in_rest : has x ys ≡ true = sym (has-other x y ys (eqb-flip y x there)) ∙ h in
          let rest : add f ys ≡ f x + add f (without x ys) = add-without f x ys d.1 in_rest in
          rw there (omega arith)
    ]

-- two lists with the same members, each once, have the same sum
pub add-same : (f : ℕ → ℕ) (xs ys : List ℕ) → Distinct xs → Distinct ys → ((z : ℕ) → has z xs ≡ has z ys) → add f xs ≡ add f ys
add-same f [] [] d e h = refl
add-same f [] (y ∷ ys) d e h = absurd (both_ways false refl (h y ∙ has-head y ys))
add-same f (x ∷ xs) ys d e h =
    let first : add f ys ≡ f x + add f (without x ys) = add-without f x ys e (sym (h x) ∙ has-head x xs) in
    let rest : add f xs ≡ add f (without x ys) =
    add-same f xs (without x ys) d.1 (Distinct-filter (λ y. not (eqb y x)) ys e)
    (λ z. go z ∙ sym (has-filter z (λ y. not (eqb y x)) ys)) in
    omega arith
  where
    go : (z : ℕ) → has z xs ≡ (has z ys && not (eqb z x))
    go z = elim (cases_Bool (eqb z x)) [
      | inl here ↦
          let out : has z xs ≡ false = ap (λ q. has q xs) (eqb-true z x here) ∙ d.0 in
          rw (here, out) (sym (and-off (has z ys)))
      | inr there ↦
          let same : has z xs ≡ has z ys = sym (has-other z x xs there) ∙ h z in
          rw (there, same) (sym (and-on (has z ys)))
    ]
      where
        and-off : (b : Bool) → (b && false) ≡ false
        and-off true = refl
        and-off false = refl

        and-on : (b : Bool) → (b && true) ≡ b
        and-on true = refl
        and-on false = refl

pub has-up : (n r : ℕ) → has r (up n) ≡ ltb r n
has-up zero r = sym (le-ltb r 0 (omega arith))
has-up (suc n) r =
    elim (cases_Bool (eqb r n)) [
      | inl here ↦ rw here (sym (lt-ltb r (suc n) (omega (arith, eqb-true r n here))))
      | inr there ↦ rw there (has-up n r ∙ go there (cases_Bool (ltb r n)))
    ]
  where
    go : eqb r n ≡ false → (ltb r n ≡ true) ⊎ (ltb r n ≡ false) → ltb r n ≡ ltb r (suc n)
    go d (inl on) = on ∙ sym (lt-ltb r (suc n) (omega (arith, ltb-true r n on)))
    go d (inr off) = off ∙ sym (le-ltb r (suc n) (above (cases_order r n)))
      where
        above : (r ≡ n) ⊎ ((r < n) ⊎ (n < r)) → suc n ≤ r
        above (inl e) = absurd (eqb-false r n d e)
        above (inr (inl less)) = absurd (both_ways (ltb r n) off (lt-ltb r n less))
        above (inr (inr more)) = omega arith

pub Distinct-up : (n : ℕ) → Distinct (up n)
Distinct-up zero = tt
Distinct-up (suc n) = (has-up n n ∙ le-ltb n n (omega arith), Distinct-up n)

pub add-up : (h : List ℕ → ℕ) (vs : List (List ℕ)) (k : ℕ) → k ≤ length vs → add (λ e. h (get_or vs e [])) (up k) ≡ sum_by h (take k vs)
add-up h vs zero l = refl
add-up h vs (suc k) l =
    let more : sum_by h (take (k + 1) vs) ≡ sum_by h (take k vs) + h (get_or vs k []) = sum_by_more h vs k [] (omega arith) in
    let step : sum_by h (take (suc k) vs) ≡ sum_by h (take (k + 1) vs) = ap (λ i. sum_by h (take i vs)) (sym (add-one k)) in
    omega (arith, more, step, add-up h vs k (omega arith))
