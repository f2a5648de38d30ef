-- The relations of columns that are listed member by member.
use Rattle.std.proofs.Common.{◌≡◌, ◌∙◌, ◌<◌, ◌≤◌, ◌+◌, ◌&&◌, ℕ, true, false, List, [], ◌∷◌, ◌++◌, length, drop, get_or, refl, ap, sym, add-one, drop-cons}
use Rattle.std.specs.Prelude.{◌==◌, None, Some}
use Rattle.std.specs.List.{flat_map}
use Rattle.std.proofs.Math.ListN.{drop_of_length-le}
use Rattle.column_classes.specs.declared.columns.ColumnRef.{ColumnRef}
use Rattle.script_rules.specs.Conjuncts.{are_of, first_relation}

first-none : (a b : List ColumnRef) → first_relation a ≡ None → first_relation (a ++ b) ≡ first_relation b
first-none [] b h = refl
first-none (c ∷ a) b h = cc

first-some : (a b : List ColumnRef) (r : ℕ) → first_relation a ≡ Some r → first_relation (a ++ b) ≡ Some r
first-some [] b r h = cc
first-some (c ∷ a) b r h = h

are_of-append : (r : ℕ) (a b : List ColumnRef) → are_of r (a ++ b) ≡ (are_of r a && are_of r b)
are_of-append r [] b = refl
are_of-append r (c ∷ a) b = elim (c.relation == r) as (λ v. (v && are_of r (a ++ b)) ≡ ((v && are_of r a) && are_of r b)) [ true ↦ are_of-append r a b | false ↦ refl ]

module _ {X : Type 0} (f : X → List ColumnRef) (xs : List X) where
  from-more : (n : ℕ) (d : X) → n < length xs → flat_map f (drop n xs) ≡ f (get_or xs n d) ++ flat_map f (drop (n + 1) xs)
  from-more n d h = let e : drop n xs ≡ get_or xs n d ∷ drop (n + 1) xs = rw (add-one, drop-cons xs n d h) refl in ap (flat_map f) e

  from-end : (n : ℕ) → length xs ≤ n → flat_map f (drop n xs) ≡ []
  from-end n h = ap (flat_map f) (drop_of_length-le xs h)

  -- the members before this one name no column
  pub record IsFirstFrom (n : ℕ) : Type 0 where
    pub same : first_relation (flat_map f (drop n xs)) ≡ first_relation (flat_map f xs)

  pub first_from-start : IsFirstFrom 0
  first_from-start = record { same = refl }

  pub first_from-more : (n : ℕ) (d : X) → n < length xs → first_relation (f (get_or xs n d)) ≡ None → IsFirstFrom n → IsFirstFrom (n + 1)
  first_from-more n d h e is = record {
    same = sym (first-none (f (get_or xs n d)) (flat_map f (drop (n + 1) xs)) e) ∙ sym (ap first_relation (from-more n d h)) ∙ is.same;
  }

  pub first_from-found : (n : ℕ) (d : X) (r : ℕ) → n < length xs → first_relation (f (get_or xs n d)) ≡ Some r → IsFirstFrom n → first_relation (flat_map f xs) ≡ Some r
  first_from-found n d r h e is = sym is.same ∙ ap first_relation (from-more n d h) ∙ first-some (f (get_or xs n d)) (flat_map f (drop (n + 1) xs)) r e

  pub first_from-end : (n : ℕ) → length xs ≤ n → IsFirstFrom n → first_relation (flat_map f xs) ≡ None
  first_from-end n h is = sym is.same ∙ ap first_relation (from-end n h)

  -- the columns of the members before this one are of this relation
  pub record IsOfFrom (r n : ℕ) : Type 0 where
    pub same : are_of r (flat_map f (drop n xs)) ≡ are_of r (flat_map f xs)

  pub of_from-start : (r : ℕ) → IsOfFrom r 0
  of_from-start r = record { same = refl }

  pub of_from-more : (r n : ℕ) (d : X) → n < length xs → are_of r (f (get_or xs n d)) ≡ true → IsOfFrom r n → IsOfFrom r (n + 1)
  of_from-more r n d h e is =
      let rest = flat_map f (drop (n + 1) xs) in
      record { same = sym (ap (are_of r) (from-more n d h) ∙ are_of-append r (f (get_or xs n d)) rest ∙ ap (λ v. v && are_of r rest) e) ∙ is.same }

  pub of_from-other : (r n : ℕ) (d : X) → n < length xs → are_of r (f (get_or xs n d)) ≡ false → IsOfFrom r n → are_of r (flat_map f xs) ≡ false
  of_from-other r n d h e is =
      let rest = flat_map f (drop (n + 1) xs) in
      sym is.same ∙ ap (are_of r) (from-more n d h) ∙ are_of-append r (f (get_or xs n d)) rest ∙ ap (λ v. v && are_of r rest) e

  pub of_from-end : (r n : ℕ) → length xs ≤ n → IsOfFrom r n → are_of r (flat_map f xs) ≡ true
  of_from-end r n h is = sym is.same ∙ ap (are_of r) (from-end n h)
