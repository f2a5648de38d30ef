use Rattle.std.proofs.Common.{◌≡◌, ◌<◌, ◌+◌, ◌++◌, [], ◌∷◌, arith, ap, sym, ◌∙◌, ℕ, List, get_or, map, filter, take, Bool, true, false, cond, refl}
use Rattle.std.proofs.lemmas.Grind.{common_steps}
use Rattle.std.specs.List.{range_with_len}
use Rattle.std.proofs.lemmas.List.{append-nil, map-append, take_all}
use Rattle.std.proofs.lemmas.List.Elements.{filter_more}
use Rattle.std.proofs.lemmas.List.FromFn.{get_or-range_with_len, length-range_with_len}
use Rattle.transfer_plan.specs.Kept.{Run, Written, has_bit, kept_among}
use Rattle.transfer_pass.proofs.kept.TransferRun.kept_rows.Goals as goal
use Rattle.transfer_pass.proofs.kept.TransferRun.kept_rows.Goals.{then-has_item+in_ok-push, else-has_item}

-- the rows of the items below n that pass a test
abbrev rows_below : List ℕ → (ℕ → Bool) → ℕ → ℕ → List ℕ
rows_below rows p n i = map (λ k. get_or rows k 0) (filter p (take i (range_with_len 0 n)))

one-row : (rows : List ℕ) (b : Bool) (i : ℕ) → map (λ k. get_or rows k 0) (cond b (i ∷ []) []) ≡ cond b (get_or rows i 0 ∷ []) []
one-row rows true i = refl
one-row rows false i = refl

-- the same with one more item
rows-more : (rows : List ℕ) (p : ℕ → Bool) (n i : ℕ) (b : Bool) → i < n → p i ≡ b → rows_below rows p n (i + 1) ≡ rows_below rows p n i ++ cond b (get_or rows i 0 ∷ []) []
rows-more rows p n i b less is =
    let xs = range_with_len 0 n in
    let at : get_or xs i 0 ≡ i = omega (arith, get_or-range_with_len 0 n i 0 less) in
    ap (map (λ k. get_or rows k 0)) (filter_more p xs i 0 (omega (arith, length-range_with_len 0 n, less)))
    ∙ map-append (λ k. get_or rows k 0) (filter p (take i xs)) (cond (p (get_or xs i 0)) (get_or xs i 0 ∷ []) [])
    ∙ ap (λ (j : ℕ). rows_below rows p n i ++ map (λ k. get_or rows k 0) (cond (p j) (j ∷ []) [])) at
    ∙ ap (λ (c : Bool). rows_below rows p n i ++ map (λ k. get_or rows k 0) (cond c (i ∷ []) [])) is
    ∙ ap (λ (ys : List ℕ). rows_below rows p n i ++ ys) (one-row rows b i)

pub loop-item-preserved : goal.loop-item-preserved
loop-item-preserved c =
    let rows = c.args.rows.now in let item = c.loop-item.item in let n = c.kept.inside.items in
    let p = has_bit c.args.self.now.words c.kept.inside.region in
    let is : p item ≡ c.has_item.result = ap (λ (run : Run). has_bit run.words c.kept.inside.region item) (sym c.self.view_is) ∙ sym c.has_item.ensures in
    elim c.if-has_item.branch [
      | then-has_item+in_ok-push w ↦ ap (λ l. l.items) w.list-is ∙ w.in_ok-push.ensures.items ∙ ap (λ (l : List ℕ). l ++ get_or rows item 0 ∷ []) c.loop-item.invariant
          ∙ sym (rows-more rows p n item true c.loop-item-test.true (is ∙ w.if-has_item.true))
      | else-has_item w ↦ ap (λ l. l.items) w.list-is ∙ c.loop-item.invariant ∙ sym (rows-more rows p n item false c.loop-item-test.true (is ∙ w.if-has_item.false) ∙ append-nil (rows_below rows p n item))
    ]

pub returns : goal.returns
returns c =
    let rel = c.args.relation in let item = c.loop-item.item in let rows = c.args.rows.now in
    let kept = c.kept.view_is ∙ c.kept_of-kept.ensures ∙ ap (kept_among rel) c.as_slice.ensures ∙ ap (λ (run : Run). kept_among rel run.pipes) c.self.view_is in
    let xs = range_with_len 0 c.kept.inside.items in
    c.loop-item.invariant
    ∙ ap (λ (l : List ℕ). map (λ k. get_or rows k 0) (filter (has_bit c.args.self.now.words c.kept.inside.region) l)) (take_all item xs (omega (arith, c.loop-item-test.false, length-range_with_len 0 c.kept.inside.items)))
    ∙ ap (λ (k : Written). map (λ (i : ℕ). get_or rows i 0) (filter (has_bit c.args.self.now.words k.region) (range_with_len 0 k.items))) kept
    ∙ ap (λ (n : ℕ). map (λ k. get_or rows k 0) (filter (has_bit c.args.self.now.words (kept_among rel c.args.self.now.pipes).region) (range_with_len 0 n))) (sym c.requires.rows)

pub bounds-rows-item : goal.bounds-rows-item
bounds-rows-item c = grind (arith, common_steps)
