-- A query has one list of variables, with one list of pairs and one set for each relation; and what its sets are like.
use Rattle.std.proofs.Common.{◌≡◌, ◌∙◌, ◌<◌, ◌≤◌, ℕ, List, [], ◌∷◌, length, get_or, inl, inr, refl, sym, subst, arith}
use Rattle.std.proofs.lemmas.List.{ext_get_or}
use Rattle.std.proofs.lemmas.List.Elements.{All-contains, All-from_get_or, Contains-get_or}
use Rattle.std.proofs.lemmas.List.Kept.{AllPairs-from_increasing}
use Rattle.std.specs.Prelude.{All, Any, Contains}
use Rattle.std.specs.List.Sorted.{IsStrictlyIncreasing}
use Rattle.column_classes.specs.Variables.{ArePairs, AreQueryVariables, AreVariables, AreVariablesOf, AreWidths, AreOfTwoRelations, BeginsBefore, ComesBefore, IsClass, IsColumn, IsLesserPair, IsLinkedToFirst, Linked, QueryVariables, column_of}
use Rattle.column_classes.specs.declared.columns.ColumnRef.{ColumnRef}
use Rattle.column_classes.specs.declared.columns.Equality.{Equality}
use Rattle.column_classes.proofs.OrderedLists.{le-from-apart, ordered-same}
use Rattle.column_classes.proofs.PlaceFacts.{before-not_both, column-same}

-- of two lists only one begins before the other
begins-not_both : (v w : List ColumnRef) → BeginsBefore v w → BeginsBefore w v → ⊥
begins-not_both [] w h g = h
begins-not_both (a ∷ v) [] h g = h
begins-not_both (a ∷ v) (b ∷ w) h g = before-not_both a b h g

-- of two pairs only one is before the other
lesser-not_both : (p q : ℕ × ℕ) → IsLesserPair p q → IsLesserPair q p → ⊥
lesser-not_both p q (inl g) (inl h) = omega arith
lesser-not_both p q (inl g) (inr h) = omega (arith, h.0)
lesser-not_both p q (inr g) (inl h) = omega (arith, g.0)
lesser-not_both p q (inr g) (inr h) = omega (arith, g.1, h.1)

module _ (widths : List ℕ) (equalities : List Equality) where
  -- two columns that are linked to the first of a list are linked
  linked-within : (v : List ColumnRef) (a b : ColumnRef) → IsLinkedToFirst equalities v a → IsLinkedToFirst equalities v b → Linked equalities a b
  linked-within [] a b la lb = absurd la
  linked-within (x ∷ v) a b la lb = Linked.Chain a x b (Linked.Back x a la) lb

  -- what is linked with a column that is linked to the first is linked to the first
  linked-further : (v : List ColumnRef) (a b : ColumnRef) → IsLinkedToFirst equalities v a → Linked equalities a b → IsLinkedToFirst equalities v b
  linked-further [] a b la ab = absurd la
  linked-further (x ∷ v) a b la ab = Linked.Chain x a b la ab

  -- a member of a class is one of each class with which it has a column in common
  class-member : (v w : List ColumnRef) (c d : ColumnRef) → IsClass widths equalities v → IsClass widths equalities w → Contains v c → Contains w c → Contains v d → Contains w d
  class-member v w c d cv cw vc wc vd =
      let is = (cv.members d).0 vd in
      (cw.members d).1 (is.0, linked-further w c d ((cw.members c).0 wc).1 (linked-within v c d ((cv.members c).0 vc).1 is.1))

  -- two classes with a column in common are one
  pub class-same : (v w : List ColumnRef) (c : ColumnRef) → IsClass widths equalities v → IsClass widths equalities w → Contains v c → Contains w c → v ≡ w
  class-same v w c cv cw vc wc = ordered-same ComesBefore before-not_both v w cv.rise cw.rise (λ d vd. class-member v w c d cv cw vc wc vd) (λ d wd. class-member w v c d cw cv wc vc wd)

  -- a variable of one list is one of the other
  variable-member : (vs ws : List (List ColumnRef)) → AreVariables widths equalities vs → AreVariables widths equalities ws → (v : List ColumnRef) → Contains vs v → Contains ws v
  variable-member vs ws av aw v c = by (All-contains (λ u. IsClass widths equalities u × AreOfTwoRelations u) vs v av.classes c)
    where
      by : IsClass widths equalities v × AreOfTwoRelations v → Contains ws v
      by (class, (i, a, li, ia, (j, b, lj, jb, differ))) = found (aw.all a b ma.0 mb.0 (linked-within v a b ma.1 mb.1) differ)
        where
          va : Contains v a
          va = (i, li, ia)

          ma : IsColumn widths a × IsLinkedToFirst equalities v a
          ma = (class.members a).0 va

          mb : IsColumn widths b × IsLinkedToFirst equalities v b
          mb = (class.members b).0 (j, lj, jb)

          found : Any (λ w. Contains w a × Contains w b) ws → Contains ws v
          found (k, w, lk, at, both) =
              let cw : Contains ws w = (k, lk, at) in
              let other = All-contains (λ u. IsClass widths equalities u × AreOfTwoRelations u) ws w aw.classes cw in
              subst (Contains ws) (sym (class-same v w a class other.0 va both.0)) cw

  -- two lists of a query's variables are one
  pub variable-lists-same : (vs ws : List (List ColumnRef)) → AreVariables widths equalities vs → AreVariables widths equalities ws → vs ≡ ws
  variable-lists-same vs ws av aw = ordered-same BeginsBefore begins-not_both vs ws av.rise aw.rise (variable-member vs ws av aw) (variable-member ws vs aw av)

  -- two lists of a relation's pairs are one
  pub pair-lists-same : (r : ℕ) (ps qs : List (ℕ × ℕ)) → ArePairs widths equalities r ps → ArePairs widths equalities r qs → ps ≡ qs
  pair-lists-same r ps qs of_p of_q = ordered-same IsLesserPair lesser-not_both ps qs of_p.rise of_q.rise forth back
    where
      forth : (p : ℕ × ℕ) → Contains ps p → Contains qs p
      forth (i, j) c = (of_q.members i j).1 ((of_p.members i j).0 c)

      back : (p : ℕ × ℕ) → Contains qs p → Contains ps p
      back (i, j) c = (of_p.members i j).1 ((of_q.members i j).0 c)

-- two sets of the variables of one relation are one
pub set-same : (variables : List (List ColumnRef)) (r : ℕ) (s t : List ℕ) → AreVariablesOf variables r s → AreVariablesOf variables r t → s ≡ t
set-same variables r s t of_s of_t = ordered-same (λ x y. x < y) (λ x y h g. omega arith) s t (AllPairs-from_increasing s of_s.rise) (AllPairs-from_increasing t of_t.rise)
    (λ v c. (of_t.members v).1 ((of_s.members v).0 c)) (λ v c. (of_s.members v).1 ((of_t.members v).0 c))

-- the definition determines the variables, the pairs and the sets
pub variables-unique : (widths : List ℕ) (equalities : List Equality) (a b : QueryVariables) → AreQueryVariables widths equalities a → AreQueryVariables widths equalities b → a ≡ b
variables-unique widths equalities a b known_a known_b =
    let variables : a.variables ≡ b.variables = variable-lists-same widths equalities a.variables b.variables known_a.variables known_b.variables in
    let local : a.local ≡ b.local = ext_get_or [] a.local b.local (known_a.local_length ∙ sym known_b.local_length)
    (λ r lt. pair-lists-same widths equalities r (get_or a.local r []) (get_or b.local r []) (known_a.local r lt) (known_b.local r (omega (arith, known_a.local_length, known_b.local_length)))) in
    let sets : a.sets ≡ b.sets = ext_get_or [] a.sets b.sets (known_a.sets_length ∙ sym known_b.sets_length)
    (λ r lt. (let P : List (List ColumnRef) → Type 0 = λ vs. AreVariablesOf vs r (get_or a.sets r []) in
    set-same b.variables r (get_or a.sets r []) (get_or b.sets r []) (subst P variables (known_a.sets r lt)) (known_b.sets r (omega (arith, known_a.sets_length, known_b.sets_length))))) in
    λ i. record { variables = variables i; local = local i; sets = sets i }

module _ (widths : List ℕ) (equalities : List Equality) (known : QueryVariables) where
  -- each set rises
  pub sets-are-rising : AreQueryVariables widths equalities known → All (λ s. IsStrictlyIncreasing s) known.sets
  sets-are-rising are = All-from_get_or (λ s. IsStrictlyIncreasing s) known.sets [] (λ r lt. (are.sets r lt).rise)

  -- each set has only numbers of variables
  pub sets-are-below : AreQueryVariables widths equalities known → All (λ s. All (λ v. v < length known.variables) s) known.sets
  sets-are-below are = All-from_get_or (λ s. All (λ v. v < length known.variables) s) known.sets [] (λ r lt k d within.
      (((are.sets r lt).members (get_or (get_or known.sets r []) k d)).0 (Contains-get_or (get_or known.sets r []) k d within)).0)

  -- one column is of one variable
  variables-apart : AreVariables widths equalities known.variables → (v w : ℕ) (c : ColumnRef) → v < w → w < length known.variables
      → Contains (get_or known.variables v []) c → Contains (get_or known.variables w []) c → ⊥
  variables-apart are v w c lt within cv cw =
      let x : List ColumnRef = get_or known.variables v [] in
      let y : List ColumnRef = get_or known.variables w [] in
      let e = class-same widths equalities x y c (are.classes v [] (omega arith)).0 (are.classes w [] within).0 cv cw in
      let P : List ColumnRef → Type 0 = λ u. BeginsBefore u y in
      let itself : BeginsBefore y y = subst P e (are.rise v w [] lt within) in
      begins-not_both y y itself itself

  -- a relation has at most 64 columns, and so at most 64 variables
  set-short : AreWidths widths → AreQueryVariables widths equalities known → (r : ℕ) (set : List ℕ) → r < length widths → AreVariablesOf known.variables r set → length set ≤ 64
  set-short narrow are r set lt of = le-from-apart Has 64 (length set) apart some
    where
      Has : ℕ → ℕ → Type 0
      Has k i = Contains (get_or known.variables (get_or set k 0) []) (column_of r i)

      apart : (i j c : ℕ) → i < j → j < length set → Has i c → Has j c → ⊥
      apart i j c lt within hi hj =
          variables-apart are.variables (get_or set i 0) (get_or set j 0) (column_of r c) (AllPairs-from_increasing set of.rise i j 0 lt within)
          ((of.members (get_or set j 0)).0 (Contains-get_or set j 0 within)).0 hi hj

      some : (k : ℕ) → k < length set → (c : ℕ) × (c < 64) × Has k c
      some k within = by ((of.members (get_or set k 0)).0 (Contains-get_or set k 0 within))
        where
          v : List ColumnRef
          v = get_or known.variables (get_or set k 0) []

          by : (get_or set k 0 < length known.variables) × Any (λ c. c.relation ≡ r) v → (c : ℕ) × (c < 64) × Has k c
          by (lv, (j, c, lj, at, e)) =
              let class = (are.variables.classes (get_or set k 0) [] lv).0 in
              let cv : Contains v c = (j, lj, at) in
              let is = ((class.members c).0 cv).0 in
              let low : c.column < 64 = omega (arith, narrow.narrow c.relation 0 is.0, is.1) in
              (c.column, low, subst (Contains v) (column-same c (column_of r c.column) e refl) cv)

  -- each set has at most 64 members
  pub sets-are-short : AreWidths widths → AreQueryVariables widths equalities known → All (λ s. length s ≤ 64) known.sets
  sets-are-short narrow are = All-from_get_or (λ s. length s ≤ 64) known.sets [] (λ r lt. set-short narrow are r (get_or known.sets r []) (omega (arith, are.sets_length)) (are.sets r lt))
