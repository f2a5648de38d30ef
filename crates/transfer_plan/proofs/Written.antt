-- Each region of a tree's plan is written by one port of one pipe.
use Rattle.std.proofs.Common.{◌≡◌, ℕ, zero, suc, ◌+◌, ◌<◌, ◌≤◌, List, [], ◌∷◌, length, map, Bool, true, false, refl, ap, ◌∙◌, arith, cond, eqb, if◌then◌else◌}
use Rattle.std.specs.Prelude.{reverse}
use Rattle.std.specs.List.{filter, flat_map, range_with_len}
use Rattle.std.proofs.lemmas.List.{get_or-map, length-map, map-append}
use Rattle.std.proofs.lemmas.List.Concat.{flat_map-cons}
use Rattle.std.proofs.lemmas.List.FromFn.{get_or-range_with_len, length-range_with_len}
use Rattle.std.proofs.lemmas.List.Sums.{sum_by-append, sum_by-cons}
use Rattle.std.proofs.lemmas.Grind.{same_number_lists}
use mathlib.Core.Logic.{dite}
use native.Mathlib.Decide.{ℕ_discrete}
use Rattle.join_graph.specs.declared.tree.Link.{Link}
use Rattle.join_graph.specs.JoinList.{HasParents}
use Rattle.transfer_core.specs.declared.plan.Pipe.{Pipe}
use Rattle.transfer_core.specs.declared.plan.Port.{Port}
use Rattle.transfer_core.specs.Counts.{only, times}
use Rattle.transfer_core.specs.Plans.{writers_of}
use Rattle.transfer_core.proofs.Sums.{only_no, only_yes, times-append}
use Rattle.transfer_plan.specs.declared.region.Region.{Region}
use Rattle.transfer_plan.specs.declared.region.Region.TheVariants as region
use Rattle.transfer_plan.specs.TransferPlan.{backward_pipe, backward_regions, child_of, children, forward_pipe, forward_regions, has_keys, members, number_of, parent_of, pipes, port, regions}
use Rattle.transfer_plan.proofs.Numbers.{place_is, region_once}

abbrev region_in : Port → ℕ
region_in a = a.region

one_port : (r : ℕ) (a : Port) (ws : List Port) → length (filter (λ (b : Port). eqb b.region r) (a ∷ ws)) ≡ only a.region r + length (filter (λ (b : Port). eqb b.region r) ws)
one_port r a ws = by (eqb a.region r) refl
  where
    by : (b : Bool) → eqb a.region r ≡ b → length (filter (λ (b : Port). eqb b.region r) (a ∷ ws)) ≡ cond b 1 0 + length (filter (λ (b : Port). eqb b.region r) ws)
    by true e = rw e omega arith
    by false e = rw e omega arith

ports_are : (r : ℕ) (ws : List Port) → length (filter (λ (b : Port). eqb b.region r) ws) ≡ times r (map region_in ws)
ports_are r [] = refl
ports_are r (a ∷ ws) = one_port r a ws ∙ ap (λ (k : ℕ). only a.region r + k) (ports_are r ws)

-- the pipes of some relations write the regions that these relations have
parts : (number : Region → ℕ) (f : ℕ → Pipe) (G : ℕ → List Region) → ((o : ℕ) → map region_in (f o).writes ≡ map number (G o)) → (r : ℕ) (rs : List ℕ)
    → writers_of (map f rs) r ≡ times r (map number (flat_map G rs))
parts number f G same r [] = refl
parts number f G same r (o ∷ rs) =
    sum_by-cons (λ (x : Pipe). length (filter (λ (b : Port). eqb b.region r) x.writes)) (f o) (map f rs)
    ∙ omega (arith, ports_are r (f o).writes, ap (times r) (same o), parts number f G same r rs, times-append r (map number (G o)) (map number (flat_map G rs)), ap (times r) (map-append number (G o) (flat_map G rs)), ap (λ (l : List Region). times r (map number l)) (flat_map-cons G o rs))

times_before : (a n r : ℕ) → r < a → times r (range_with_len a n) ≡ 0
times_before a zero r l = refl
times_before a (suc n) r l = omega (arith, only_no r a (λ e. omega (arith, e, l)), times_before (a + 1) n r (omega arith))

times_range : (a n r : ℕ) → a ≤ r → r < a + n → times r (range_with_len a n) ≡ 1
times_range a zero r h l = absurd (omega arith)
times_range a (suc n) r h l = dite (ℕ_discrete a r)
    (λ e. omega (arith, only_yes r a e, times_before (a + 1) n r (omega (arith, e))))
    (λ ne. omega (arith, only_no r a ne, times_range (a + 1) n r (omega arith) (omega arith)))

module _ (root : ℕ) (links : List Link) (keyed : Bool) (items : List ℕ) where
  abbrev number : Region → ℕ
  number = number_of root links keyed

  abbrev W : List Region
  W = regions root links keyed

  forward_writes : (r : ℕ) → map region_in (forward_pipe root links keyed items r).writes ≡ map number (forward_regions root links keyed r)
  forward_writes r = by (has_keys root links keyed r)
    where
      by : (b : Bool) → map region_in (port root links keyed (region.Forward r) r ∷ (if b then port root links keyed (region.ForwardKeys r) (child_of root links keyed items r) ∷ [] else []))
          ≡ map number (region.Forward r ∷ (if b then region.ForwardKeys r ∷ [] else []))
      by true = refl
      by false = refl

  kids_write : (cs : List ℕ) → map region_in (map (λ c. port root links keyed (region.BackwardKeys c) (parent_of root links keyed items c)) cs) ≡ map number (map region.BackwardKeys cs)
  kids_write [] = refl
  kids_write (c ∷ cs) = ap (λ (l : List ℕ). number (region.BackwardKeys c) ∷ l) (kids_write cs)

  backward_writes : (r : ℕ) → map region_in (backward_pipe root links keyed items r).writes ≡ map number (backward_regions root links keyed r)
  backward_writes r = ap (λ (l : List ℕ). number (region.Backward r) ∷ l) (by keyed)
    where
      by : (b : Bool) → map region_in (if b then map (λ c. port root links keyed (region.BackwardKeys c) (parent_of root links keyed items c)) (children links r) else []) ≡ map number (if b then map region.BackwardKeys (children links r) else [])
      by true = kids_write (children links r)
      by false = refl

  writers_are : (r : ℕ) → writers_of (pipes root links keyed items) r ≡ times r (map number W)
  writers_are r =
      let M = members root links in
      let count = λ (x : Pipe). length (filter (λ (b : Port). eqb b.region r) x.writes) in
      sum_by-append count (map (forward_pipe root links keyed items) (reverse M)) (map (backward_pipe root links keyed items) M)
      ∙ omega (
        arith,
        parts number (forward_pipe root links keyed items) (forward_regions root links keyed) forward_writes r (reverse M),
        parts number (backward_pipe root links keyed items) (backward_regions root links keyed) backward_writes r M,
        times-append r (map number (flat_map (forward_regions root links keyed) (reverse M))) (map number (flat_map (backward_regions root links keyed) M)),
        ap (times r) (map-append number (flat_map (forward_regions root links keyed) (reverse M)) (flat_map (backward_regions root links keyed) M)),
      )

  module _ (n : ℕ) (parents : HasParents n root links) where
    -- the regions are numbered in the order in which the pipes write them
    pub numbered : map number W ≡ range_with_len 0 (length W)
    numbered = same_number_lists _ _ (omega (arith, length-map W number, length-range_with_len 0 (length W)))
        (λ k l. let m : k < length W = omega (arith, l, length-map W number) in
        get_or-map number W k (region.Forward 0) 0 m ∙ place_is W (region_once root links keyed n parents) k (region.Forward 0) m ∙ omega (arith, get_or-range_with_len 0 (length W) k 0 m))

    -- and each is written once
    pub written_once : (r : ℕ) → r < length W → writers_of (pipes root links keyed items) r ≡ 1
    written_once r l = writers_are r ∙ ap (times r) numbered ∙ times_range 0 (length W) r (omega arith) (omega arith)
