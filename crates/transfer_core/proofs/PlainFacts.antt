-- The plain run seals one port after the other.
use Rattle.std.proofs.Common.{◌≡◌, ◌≢◌, ℕ, zero, suc, ◌+◌, ◌<◌, List, [], ◌∷◌, length, get_or, map, set, sym, ap, ◌∙◌, subst, arith, get_or-set_same, get_or-set_other, length-set}
use Rattle.std.specs.Prelude.{replicate}
use Rattle.std.proofs.lemmas.Grind.{same_number_lists}
use Rattle.std.proofs.lemmas.List.{get_or-map, get_or_default, length-map, length-replicate, same_lists}
use Rattle.std.proofs.lemmas.List.FromFn.{get_or-map-range_with_len, length-map-range_with_len}
use mathlib.Core.Logic.{dite}
use native.Mathlib.Decide.{ℕ_discrete}
use mathlib.Core.Option.{some, some-injective}
use lib.ListN.{get_elem?}
use Rattle.key_codes.specs.Placement.{AreLawful, IsLawful, Places}
use Rattle.transfer_core.specs.declared.plan.Pipe.{Pipe}
use Rattle.transfer_core.specs.declared.plan.Plan.{Plan}
use Rattle.transfer_core.specs.declared.plan.Port.{Port}
use Rattle.transfer_core.specs.Plans.{IsValid, Shape, no_places, place_at, words_of}
use Rattle.transfer_core.specs.Job.{no_port, port_at}
use Rattle.transfer_core.specs.Sealed.{or_of_passing, passes, sealed}
use Rattle.transfer_core.specs.Words.{AreSealedBelow, regions_of, sealed_words}
use Rattle.transfer_core.proofs.Lists.{place_of_at, within}
use Rattle.transfer_core.proofs.Regions.{all_same, or_of_same, own, reads_before, sealed_is}
use Rattle.transfer_core.proofs.ValidFacts.{read_serves, write_serves, written_by}
use Rattle.transfer_core.proofs.WordFacts.{at_below, below_by}

-- the regions of the first n ports that a pipe writes are sealed
abbrev pub ArePortsSealed : Shape → List Port → List (List ℕ) → ℕ → Type 0
ArePortsSealed s writes words n = (k : ℕ) → k < n → (w : ℕ) → w < words_of s (port_at writes k).region → regions_of words (port_at writes k).region w ≡ sealed s (port_at writes k).region w

pub lawful_list : {P : Type 0} (seen : P → Places) → ((x : P) → IsLawful (seen x)) → (xs : List P) (k : ℕ) (d : Places) → k < length (map seen xs) → IsLawful (get_or (map seen xs) k d)
lawful_list seen law [] k d l = absurd (omega arith)
lawful_list seen law (x ∷ xs) zero d l = law x
lawful_list seen law (x ∷ xs) (suc k) d l = lawful_list seen law xs k d (omega arith)

-- the placements of a plan are lawful
pub lawful_shape : {P : Type 0} (seen : P → Places) → ((x : P) → IsLawful (seen x)) → (plan : Plan P) → AreLawful (map seen plan.places)
lawful_shape seen law plan k d l = lawful_list seen law plan.places k d l

module _ (s : Shape) (V : IsValid s) (L : AreLawful s.places) (p : ℕ) (x : Pipe) (at : get_elem? s.pipes p ≡ some x) where
  module _ (words : List (List ℕ)) (before : AreSealedBelow s p words) where
    -- items pass as they do by the sealed regions
    passes_alike : (i : ℕ) → i < x.items → passes s (regions_of words) i x.reads ≡ passes s (sealed s) i x.reads
    passes_alike i less = all_same s (regions_of words) (sealed s) i x.reads (λ q b e. let v = read_serves s V p q x b at e in
        before.sealed b.region (place_at s b i).word v.region ((L b.places no_places v.places).inside i (words_of s b.region) (omega (arith, less, v.items)) v.least ((V.regions b.region v.region).some)) (reads_before s V p q x b at e))

    module _ (q : ℕ) (a : Port) (e : get_elem? x.writes q ≡ some a) (fs : List ℕ) (is : fs ≡ below_by (or_of_passing s (regions_of words) x a) (words_of s a.region)) where
      abbrev after : List (List ℕ)
      after = set words a.region fs

      inside : a.region < length words
      inside = omega (arith, (write_serves s V p q x a at e).region, before.sized.regions)

      word_is : (w : ℕ) → w < words_of s a.region → regions_of after a.region w ≡ sealed s a.region w
      word_is w l = ap (λ (ws : List ℕ). get_or ws w 0) (get_or-set_same words a.region fs [] inside ∙ is) ∙ at_below (or_of_passing s (regions_of words) x a) (words_of s a.region) w l
          ∙ or_of_same s (regions_of words) (sealed s) x a w passes_alike ∙ sym (sealed_is s V p x at q a e w)

      word_else : (r w : ℕ) → r ≢ a.region → regions_of after r w ≡ regions_of words r w
      word_else r w ne = ap (λ (ws : List ℕ). get_or ws w 0) (get_or-set_other words a.region r fs [] ne)

      seals_else : (r w : ℕ) → (w < words_of s r → regions_of words r w ≡ sealed s r w) → w < words_of s r → regions_of after r w ≡ sealed s r w
      seals_else r w was l = dite (ℕ_discrete r a.region)
          (λ h. subst (λ (n : ℕ). regions_of after n w ≡ sealed s n w) (sym h) (word_is w (subst (λ (n : ℕ). w < words_of s n) h l)))
          (λ ne. word_else r w ne ∙ was l)

      pub seals_below : AreSealedBelow s p after
      seals_below = record {
        sized = record {
          regions = length-set words a.region fs ∙ before.sized.regions;
          each = λ r l. dite (ℕ_discrete r a.region)
              (λ h. subst (λ (n : ℕ). length (get_or after n []) ≡ words_of s n) (sym h) (ap length (get_or-set_same words a.region fs [] inside ∙ is) ∙ length-map-range_with_len (or_of_passing s (regions_of words) x a) 0 (words_of s a.region)))
              (λ ne. ap length (get_or-set_other words a.region r fs [] ne) ∙ before.sized.each r l);
        };
        sealed = λ r w l m o. seals_else r w (λ _. before.sealed r w l m o) m;
      }

      pub seals_ports : ArePortsSealed s x.writes words q → ArePortsSealed s x.writes after (q + 1)
      seals_ports ports k l w m = dite (ℕ_discrete k q)
          (λ h. let same : (port_at x.writes k).region ≡ a.region = ap (λ (b : Port). b.region) (ap (port_at x.writes) h ∙ place_of_at x.writes q a no_port e) in
          subst (λ (n : ℕ). regions_of after n w ≡ sealed s n w) (sym same) (word_is w (subst (λ (n : ℕ). w < words_of s n) same m)))
          (λ ne. seals_else (port_at x.writes k).region w (λ n. ports k (omega arith) w n) m)

    -- once all ports are, all that the pipe writes is sealed
    pub seals_pipe : ArePortsSealed s x.writes words (length x.writes) → AreSealedBelow s (p + 1) words
    seals_pipe ports = record {
      sized = before.sized;
      sealed = λ r w l m o. let t = written_by s V r l in let owner = own s V r t.0 t.1 t.2 t.3 t.4 t.5 t.6 in
          dite (ℕ_discrete t.0 p)
          (λ h. let same : t.2 ≡ x = some-injective t.2 x (sym t.4 ∙ ap (get_elem? s.pipes) h ∙ at) in
          let f : get_elem? x.writes t.1 ≡ some t.3 = ap (λ (y : Pipe). get_elem? y.writes t.1) (sym same) ∙ t.5 in
          let is : (port_at x.writes t.1).region ≡ r = ap (λ (b : Port). b.region) (place_of_at x.writes t.1 t.3 no_port f) ∙ t.6 in
          subst (λ (n : ℕ). regions_of words n w ≡ sealed s n w) is (ports t.1 (within x.writes t.1 t.3 f) w (subst (λ (n : ℕ). w < words_of s n) (sym is) m)))
          (λ ne. before.sealed r w l m (omega (arith, o, owner)));
    }

-- ---- the whole run
pub starts : (s : Shape) → AreSealedBelow s 0 (map (λ n. replicate {A = ℕ} n 0) s.words)
starts s = record {
  sized = record { regions = length-map s.words (λ n. replicate {A = ℕ} n 0); each = λ r l. ap length (get_or-map (λ n. replicate {A = ℕ} n 0) s.words r 0 [] l) ∙ length-replicate {A = ℕ} (words_of s r) 0 };
  sealed = λ r w l m o. absurd (omega arith);
}

pub ends : (s : Shape) (V : IsValid s) (words : List (List ℕ)) → AreSealedBelow s (length s.pipes) words → words ≡ sealed_words s
ends s V words all = same_lists words (sealed_words s) (omega (arith, all.sized.regions, length-map-range_with_len (λ r. below_by (sealed s r) (words_of s r)) 0 (length s.words)))
    (λ r d l. let m : r < length s.words = omega (arith, l, all.sized.regions) in
    sym (default r d [] l) ∙ region r m ∙ sym (get_or-map-range_with_len (λ r. below_by (sealed s r) (words_of s r)) 0 (length s.words) r r d m (omega arith)))
  where
    default : (r : ℕ) (d e : List ℕ) → r < length words → get_or words r e ≡ get_or words r d
    default r d e l = get_or_default words r e d l

    region : (r : ℕ) → r < length s.words → get_or words r [] ≡ below_by (sealed s r) (words_of s r)
    region r m = same_number_lists _ _ (omega (arith, all.sized.each r m, length-map-range_with_len (sealed s r) 0 (words_of s r)))
        (λ w l. let n : w < words_of s r = omega (arith, l, all.sized.each r m) in
        all.sealed r w m n (let t = written_by s V r m in omega (arith, own s V r t.0 t.1 t.2 t.3 t.4 t.5 t.6, within s.pipes t.0 t.2 t.4)) ∙ sym (at_below (sealed s r) (words_of s r) w n))
