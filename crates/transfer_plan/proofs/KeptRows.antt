-- A tree's plan keeps the items that pass backward.
use Rattle.std.proofs.Common.{◌≡◌, ◌≢◌, inl, inr, ℕ, zero, suc, ◌*◌, ◌/◌, ◌%◌, ◌^◌, ◌<◌, ◌≤◌, ◌==◌, List, [], ◌∷◌, length, map, get_or, Bool, true, false, ◌||◌, refl, sym, ap, ◌∙◌, subst, arith, eqb, eq-eqb, ne_eqb, if◌then◌else◌, true≢false}
use Rattle.std.specs.Prelude.{bit_and, reverse}
use Rattle.std.specs.Int.{div_ceil}
use Rattle.std.specs.List.{list_any, range_with_len}
use Rattle.std.proofs.lemmas.Bool.{cases_Bool, or_right, or_left}
use Rattle.std.proofs.lemmas.Grind.{div_ceil_times}
use Rattle.std.proofs.lemmas.List.FromFn.{get_or-map-range_with_len, get_or-range_with_len, length-map-range_with_len}
use mathlib.Core.Logic.{dite}
use native.Mathlib.Decide.{ℕ_discrete}
use mathlib.Core.Option.{some}
use Rattle.join_graph.specs.declared.tree.Link.{Link}
use Rattle.join_graph.specs.JoinList.{HasParents}
use Rattle.rpt_base.specs.Lists.{has}
use Rattle.key_codes.specs.Placement.{Places, place_of}
use Rattle.key_codes.specs.declared.places.Place.{Place}
use Rattle.transfer_core.specs.declared.plan.Pipe.{Pipe}
use Rattle.transfer_core.specs.declared.plan.Port.{Port}
use Rattle.transfer_core.specs.Plans.{Shape, no_pipe, place_at, words_of}
use Rattle.transfer_core.specs.Sealed.{sealed}
use Rattle.transfer_core.specs.Words.{regions_of, sealed_words}
use Rattle.transfer_core.proofs.Lists.{at_place}
use Rattle.transfer_core.proofs.ValidFacts.{Serving, write_serves}
use Rattle.transfer_plan.specs.declared.region.Region.TheVariants as region
use Rattle.transfer_plan.specs.Kept.{CanTell, Run, Written, has_bit, is_kept, is_written_with, kept_among, last_of, nowhere, written_by, written_with}
use Rattle.transfer_plan.specs.Passing.{passes_backward}
use Rattle.transfer_plan.specs.TransferPlan.{SeenEdge, backward_pipe, children, forward_pipe, members, number_of, parent_of, pipes, port}
use Rattle.transfer_plan.proofs.Numbered.{IsTreeShape, backward_row, backward_there, each_member}
use Rattle.transfer_plan.proofs.Numbers.{has_here}
use Rattle.rpt_base.proofs.MemberFacts.{has-kept}
use Rattle.transfer_plan.proofs.LastFacts.{last-pipe, last-pipes, last-port}

-- ---- the region that is written last with a placement
abbrev kept_by : ℕ → ℕ → List Port → Written → Written
kept_by r n ports w = last_of w (written_by r n ports)

abbrev kept_from : ℕ → List Pipe → Written → Written
kept_from r xs w = last_of w (written_with r xs)

-- pipes of which that of r alone writes with r's placement
module _ (r : ℕ) (g : ℕ → Pipe) (kept : Written) (own : (w : Written) → kept_by r (g r).items (g r).writes w ≡ kept) (other : (o : ℕ) (w : Written) → o ≢ r → kept_by r (g o).items (g o).writes w ≡ w) where
  kept_none : (rs : List ℕ) (w : Written) → has r rs ≡ false → kept_from r (map g rs) w ≡ w
  kept_none [] w h = refl
  kept_none (o ∷ rs) w h = dite (ℕ_discrete o r)
      (λ e. absurd (true≢false (sym (has_here r o rs (sym e)) ∙ h)))
      (λ ne. last-pipe r (g o) (map g rs) w ∙ ap (kept_from r (map g rs)) (other o w ne) ∙ kept_none rs w (rest (has r rs) refl))
    where
      rest : (b : Bool) → has r rs ≡ b → has r rs ≡ false
      rest true e = absurd (true≢false (sym (has-kept r o rs e) ∙ h))
      rest false e = e

  kept_some : (rs : List ℕ) (w : Written) → has r rs ≡ true → kept_from r (map g rs) w ≡ kept
  kept_some [] w h = absurd (true≢false (sym h))
  kept_some (o ∷ rs) w h = last-pipe r (g o) (map g rs) w ∙ elim (cases_Bool (has r rs)) [
    | inl more ↦ kept_some rs (kept_by r (g o).items (g o).writes w) more
    | inr none ↦ dite (ℕ_discrete o r)
        (λ e. kept_none rs (kept_by r (g o).items (g o).writes w) none ∙ ap (λ (x : ℕ). kept_by r (g x).items (g x).writes w) e ∙ own w)
        (λ ne. absurd (true≢false (sym h ∙ ap (λ (b : Bool). b || has r rs) (ne_eqb r o (λ e. ne (sym e))) ∙ none)))
  ]

-- ports that write with other placements
kept_else : (r n : ℕ) (p : ℕ → Port) → ((c : ℕ) → (p c).places ≢ r) → (cs : List ℕ) (w : Written) → kept_by r n (map p cs) w ≡ w
kept_else r n p far [] w = refl
kept_else r n p far (c ∷ cs) w = last-port r n (p c) (map p cs) w ∙ ap (λ (b : Bool). kept_by r n (map p cs) (if b then record { region = (p c).region; items = n } else w)) (ne_eqb (p c).places r (far c)) ∙ kept_else r n p far cs w

module _ (root : ℕ) (links : List Link) (keyed : Bool) (items : List ℕ) (r : ℕ) (less : r < length items) where
  abbrev b : ℕ → Pipe
  b = backward_pipe root links keyed items

  abbrev K : Written
  K = record { region = number_of root links keyed (region.Backward r); items = get_or items r 0 }

  abbrev p : ℕ → Port
  p c = port root links keyed (region.BackwardKeys c) (parent_of root links keyed items c)

  keys_else : (n o : ℕ) (w : Written) → kept_by r n (if keyed then map p (children links o) else []) w ≡ w
  keys_else n o w = go keyed
    where
      go : (k : Bool) → kept_by r n (if k then map p (children links o) else []) w ≡ w
      go true = kept_else r n p (λ c e. absurd (omega (arith, e, less))) (children links o) w
      go false = refl

  own_kept : (w : Written) → kept_by r (b r).items (b r).writes w ≡ K
  own_kept w = last-port r (get_or items r 0) (port root links keyed (region.Backward r) r) (if keyed then map p (children links r) else []) w
      ∙ ap (λ (c : Bool). kept_by r (get_or items r 0) (if keyed then map p (children links r) else []) (if c then K else w)) (eq-eqb r r refl) ∙ keys_else (get_or items r 0) r K

  other_kept : (o : ℕ) (w : Written) → o ≢ r → kept_by r (b o).items (b o).writes w ≡ w
  other_kept o w ne = last-port r (get_or items o 0) (port root links keyed (region.Backward o) o) (if keyed then map p (children links o) else []) w
      ∙ ap (λ (c : Bool). kept_by r (get_or items o 0) (if keyed then map p (children links o) else []) (if c then record { region = number_of root links keyed (region.Backward o); items = get_or items o 0 } else w)) (ne_eqb o r ne) ∙ keys_else (get_or items o 0) o w

  -- it is that of the relation's backward pipe
  pub kept_is : HasParents (length items) root links → kept_among r (pipes root links keyed items) ≡ K
  kept_is parents =
      let M : List ℕ = members root links in let X : List Pipe = map (forward_pipe root links keyed items) (reverse M) in
      last-pipes r X (map b M) nowhere
      ∙ kept_some r b K own_kept other_kept M (kept_from r X nowhere) (each_member (length items) root links parents r less)

-- ---- and its bits are the items that pass backward
module _ (s : Shape) (root : ℕ) (links : List Link) (keyed : Bool) (items : List ℕ) (edges : List SeenEdge) (T : IsTreeShape s root links keyed items edges) (r : ℕ) (less : r < length items) where
  abbrev R : ℕ
  R = number_of root links keyed (region.Backward r)

  abbrev a : Port
  a = port root links keyed (region.Backward r) r

  served : Serving s (get_or items r 0) a
  served = let t = backward_there s root links keyed items edges T r (each_member (length items) root links T.parents r less) in
      write_serves s T.valid t.0 0 (backward_pipe root links keyed items r) a (at_place s.pipes t.0 no_pipe t.1 ∙ ap some t.2) refl

  enough : div_ceil (get_or items r 0) 64 ≤ words_of s R
  enough = omega (arith, served.least, ap (λ (p : Places). p.least) (T.rows r less))

  word_there : (i : ℕ) → i < get_or items r 0 → i / 64 < words_of s R
  word_there i l = let t = (div_ceil_times (get_or items r 0) 64 (omega arith)).0 in omega (arith, t, enough)

  word_is : (w : ℕ) → w < words_of s R → regions_of (sealed_words s) R w ≡ sealed s R w
  word_is w l = ap (λ (ws : List ℕ). get_or ws w 0) (get_or-map-range_with_len (λ x. map (sealed s x) (range_with_len 0 (words_of s x))) 0 (length s.words) R R [] served.region (omega arith))
      ∙ get_or-map-range_with_len (sealed s R) 0 (words_of s R) w w 0 l (omega arith)

  place_is_own : (i : ℕ) → i < get_or items r 0 → place_at s a i ≡ record { word = i / 64; mask = 2 ^ (i % 64) }
  place_is_own i l = ap (λ (p : Places). place_of p i (words_of s R)) (T.rows r less)
      ∙ ap (λ (n : ℕ). record { word = n / 64; mask = 2 ^ (n % 64) }) (omega (arith, get_or-range_with_len 0 (get_or items r 0) i 0 l))

  -- the region's bit of an item is what the region answers
  pub bit_is : (i : ℕ) → i < get_or items r 0 → has_bit (sealed_words s) R i ≡ passes_backward s root links keyed items r i
  bit_is i l =
      ap (λ (n : ℕ). bit_and n (2 ^ (i % 64)) == 2 ^ (i % 64)) (word_is (i / 64) (word_there i l))
      ∙ ap (λ (z : Place). bit_and (sealed s R z.word) z.mask == z.mask) (sym (place_is_own i l))
      ∙ backward_row s root links keyed items edges T r i less l

  abbrev run : Run
  run = record { words = sealed_words s; pipes = s.pipes }

  pub kept_of_plan : kept_among r s.pipes ≡ record { region = R; items = get_or items r 0 }
  kept_of_plan = ap (kept_among r) T.pipes ∙ kept_is root links keyed items r less T.parents

  words_are : length (get_or (sealed_words s) R []) ≡ words_of s R
  words_are = ap (λ (ws : List ℕ). length ws) (get_or-map-range_with_len (λ x. map (sealed s x) (range_with_len 0 (words_of s x))) 0 (length s.words) R R [] served.region (omega arith))
      ∙ length-map-range_with_len (sealed s R) 0 (words_of s R)

  is-written : (k : ℕ) → (ps : List Pipe) → k < length ps → get_or ps k no_pipe ≡ backward_pipe root links keyed items r → is_written_with r ps ≡ true
  is-written k [] l e = absurd (omega arith)
  is-written zero (x ∷ ps) l e = or_left _ _ (ap (λ (y : Pipe). list_any (λ (c : Port). eqb c.places r) y.writes) e ∙ or_left _ _ (eq-eqb r r refl))
  is-written (suc k) (x ∷ ps) l e = or_right _ _ (is-written k ps (omega arith) e)

  -- a run of the plan can tell which of the relation's items it keeps
  pub tells : CanTell run r
  tells = record {
    written = (let t = backward_there s root links keyed items edges T r (each_member (length items) root links T.parents r less) in is-written t.0 s.pipes t.1 t.2);
    region = subst (λ (k : Written). k.region < length (sealed_words s)) (sym kept_of_plan) (omega (arith, served.region, length-map-range_with_len (λ x. map (sealed s x) (range_with_len 0 (words_of s x))) 0 (length s.words)));
    words = subst (λ (k : Written). k.items ≤ 64 * length (get_or (sealed_words s) k.region [])) (sym kept_of_plan) (let t = (div_ceil_times (get_or items r 0) 64 (omega arith)).0 in omega (arith, t, enough, words_are));
  }

  -- so an item is kept exactly where it passes backward
  pub kept_exactly : (i : ℕ) → i < get_or items r 0 → is_kept run r i ≡ passes_backward s root links keyed items r i
  kept_exactly i l = ap (λ (k : Written). has_bit (sealed_words s) k.region i) kept_of_plan ∙ bit_is i l
