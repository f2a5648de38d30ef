-- The variables of each relation, and lists that have one member for each relation.
use Rattle.std.proofs.Common.{◌≡◌, ◌∙◌, ◌<◌, ◌≤◌, ◌+◌, ◌⊎◌, ℕ, List, [], ◌∷◌, ◌++◌, length, map, get_or, inl, inr, sym, subst, arith, length-append}
use Rattle.std.proofs.lemmas.List.{get_or_append_left, get_or_push, length-map, map-append}
use Rattle.std.proofs.lemmas.List.Elements.{Contains-append_left, Contains-get_or, Contains-push, Contains-push_cases}
use Rattle.std.proofs.lemmas.List.Quantifiers.{all_pairs_push}
use Rattle.std.specs.Prelude.{AllPairs, Contains, EachIndex, ◌↔◌}
use Rattle.column_classes.specs.Variables.{AreVariablesOf, IsVariableOf}
use Rattle.column_classes.specs.declared.columns.ColumnRef.{ColumnRef}
use Rattle.column_classes.proofs.PlaceFacts.{cases-below}

-- the numbers below k of the variables with a column of the relation, in order
pub record AreVariablesBelow (variables : List (List ColumnRef)) (relation k : ℕ) (set : List ℕ) : Type 0 where
  pub rise : AllPairs (λ x y. x < y) set
  pub members : (v : ℕ) → Contains set v ↔ ((v < k) × IsVariableOf variables relation v)

module _ (variables : List (List ColumnRef)) (relation : ℕ) where
  -- before all variables
  pub set-none : AreVariablesBelow variables relation 0 []
  set-none = record { rise = λ i j d h lt. absurd (omega arith); members = λ v. ((λ s. absurd (omega (arith, s.1))), (λ s. absurd (omega (arith, s.0)))) }

  module _ (k : ℕ) (set : List ℕ) (h : AreVariablesBelow variables relation k set) where
    wider : (v : ℕ) → (v < k) × IsVariableOf variables relation v → (v < k + 1) × IsVariableOf variables relation v
    wider v s = (omega (arith, s.0), s.1)

    -- the next variable has no column of the relation
    pub set-pass : (IsVariableOf variables relation k → ⊥) → AreVariablesBelow variables relation (k + 1) set
    set-pass none = record { rise = h.rise; members = λ v. ((λ s. wider v ((h.members v).0 s)), back v) }
      where
        back : (v : ℕ) → (v < k + 1) × IsVariableOf variables relation v → Contains set v
        back v s = by (cases-below v k s.0)
          where
            by : (v < k) ⊎ (k ≡ v) → Contains set v
            by (inl l) = (h.members v).1 (l, s.1)
            by (inr e) = absurd (none (subst (IsVariableOf variables relation) (sym e) s.1))

    -- the next variable has one
    pub set-push : IsVariableOf variables relation k → AreVariablesBelow variables relation (k + 1) (set ++ k ∷ [])
    set-push one = record {
      rise = all_pairs_push (λ x y. x < y) set k h.rise (λ m d lt. ((h.members (get_or set m d)).0 (Contains-get_or set m d lt)).0);
      members = λ v. (forth v, back v);
    }
      where
        forth : (v : ℕ) → Contains (set ++ k ∷ []) v → (v < k + 1) × IsVariableOf variables relation v
        forth v s = by (Contains-push_cases set k v s)
          where
            by : Contains set v ⊎ (k ≡ v) → (v < k + 1) × IsVariableOf variables relation v
            by (inl t) = wider v ((h.members v).0 t)
            by (inr e) = (omega arith, subst (IsVariableOf variables relation) e one)

        back : (v : ℕ) → (v < k + 1) × IsVariableOf variables relation v → Contains (set ++ k ∷ []) v
        back v s = by (cases-below v k s.0)
          where
            by : (v < k) ⊎ (k ≡ v) → Contains (set ++ k ∷ []) v
            by (inl l) = Contains-append_left set (k ∷ []) v ((h.members v).1 (l, s.1))
            by (inr e) = subst (Contains (set ++ k ∷ [])) e (Contains-push set k)

  -- all variables were gone through
  pub set-all : (k : ℕ) (set : List ℕ) → length variables ≤ k → AreVariablesBelow variables relation k set → AreVariablesOf variables relation set
  set-all k set long h = record {
    rise = λ i lt. h.rise i (i + 1) 0 (omega arith) lt;
    members = λ v. ((λ s. ((h.members v).0 s).1), (λ s. (h.members v).1 (omega (arith, s.0), s)));
  }

-- one more member, which is that of the next number
pub each-push : {X Y : Type 0} (P : ℕ → List Y → Type 0) (f : X → List Y) (xs : List X) (x : X) → EachIndex xs (λ r. P r (get_or (map f xs) r [])) → P (length xs) (f x)
    → EachIndex (xs ++ x ∷ []) (λ r. P r (get_or (map f (xs ++ x ∷ [])) r []))
each-push {X} {Y} P f xs x h one r lt = rw (map-append f xs (x ∷ [])) (by (cases-below r (length xs) (omega (arith, length-append xs (x ∷ [])))))
  where
    by : (r < length xs) ⊎ (length xs ≡ r) → P r (get_or (map f xs ++ f x ∷ []) r [])
    by (inl l) = let e = get_or_append_left (map f xs) (f x ∷ []) [] r (omega (arith, length-map xs f)) in subst (P r) (sym e) (h r l)
    by (inr e) =
        let q = get_or_push (map f xs) (f x) [] r (length-map xs f ∙ e) in
        let here : P r (f x) = (let Q : ℕ → Type 0 = λ n. P n (f x) in subst Q e one) in
        subst (P r) (sym q) here
