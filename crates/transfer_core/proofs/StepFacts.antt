-- Every list of allowed steps from the first state leads to a sound one.
use Rattle.std.proofs.Common.{◌≡◌, ◌≢◌, ◌⊎◌, inl, inr, ⊎_elim, ℕ, suc, ◌+◌, ◌/◌, ◌<◌, ◌≤◌, List, [], ◌∷◌, ◌++◌, length, get_or, map, set, Bool, true, false, ◌&&◌, sym, refl, ap, ◌∙◌, subst, arith, eqb, ltb, if◌then◌else◌, get_or-set_same, get_or-set_other, length-set}
use Rattle.std.specs.Prelude.{bit_or, replicate}
use Rattle.std.proofs.lemmas.Bool.{and_parts, eqb-true, ltb-true}
use Rattle.std.proofs.lemmas.List.{get_or-map, length-map, length-replicate}
use Rattle.std.proofs.Math.ListN.{get_or-eq_default}
use mathlib.Core.Logic.{dite}
use native.Mathlib.Decide.{ℕ_discrete, dec_le}
use mathlib.Core.Option.{some}
use lib.ListN.{get_elem?}
use Rattle.rpt_base.proofs.ListFacts.{at-replicate}
use Rattle.key_codes.specs.Placement.{AreLawful}
use Rattle.transfer_core.specs.declared.steps.Step.{Step}
use Rattle.transfer_core.specs.declared.steps.Step.TheVariants as step
use Rattle.transfer_core.specs.Actors.{Actor, actor, holding, is_listed, is_marked, nothing}
use Rattle.transfer_core.specs.Job.{IsRight, IsWord, job_of}
use Rattle.transfer_core.specs.Sealed.{sealed}
use Rattle.transfer_core.specs.Steps.{Core, IsAllowed, IsSoundCore, Leads, actor_at, after, core, first_state, no_actor}
use Rattle.transfer_core.specs.Plans.{IsValid, Shape, words_of}
use Rattle.transfer_core.specs.Words.{AreSized, put_in, regions_of}
use Rattle.transfer_core.proofs.Keeps.{IsNew, begins, draws, finishes, looks, puts, sees}
use Rattle.transfer_core.proofs.Lists.{at_place, at_snoc, place_of_at}
use Rattle.transfer_core.proofs.Regions.{right}
use Rattle.transfer_core.proofs.ValidFacts.{any_at}

pub pair_is : (i q a b : ℕ) → (eqb a i && eqb b q) ≡ true → holding a b ≡ holding i q
pair_is i q a b h = let t = and_parts (eqb a i) (eqb b q) h in let e = eqb-true a i t.0 in let g = eqb-true b q t.1 in λ k. (e k, g k) ∷ []

pub first_pair : (x y : ℕ × ℕ) → x ∷ [] ≡ y ∷ [] → x ≡ y
first_pair x y e = ap (λ (l : List (ℕ × ℕ)). get_or l 0 x) e

module _ (s : Shape) (V : IsValid s) (L : AreLawful s.places) where
  R : IsRight (job_of s)
  R = right s V L

  abbrev next_of : List ℕ → ℕ → ℕ
  next_of l p = get_or l p 0

  module _ (c : Core) (f : IsSoundCore s c) where
    at_actor : (id : ℕ) → id < length c.actors → get_elem? c.actors id ≡ some (actor_at c.actors id)
    at_actor id there = at_place c.actors id no_actor there

    -- the draw of a morsel that is left
    draw_left : (id p : ℕ) → IsAllowed s c (step.Draw id p) → get_or c.next p 0 < (job_of s).morsels p
        → IsSoundCore s (core (set c.next p (get_or c.next p 0 + 1)) c.done c.words (set c.actors id (actor (holding p (get_or c.next p 0)) nothing (actor_at c.actors id).finished (actor_at c.actors id).seen)))
    draw_left id p (there, pipe, free, ready) left =
        let inside : p < length c.next = omega (arith, pipe, f.nexts) in
        let here = get_or-set_same c.next p (get_or c.next p 0 + 1) 0 inside in
        let others : (q : ℕ) → q ≢ p → get_or (set c.next p (get_or c.next p 0 + 1)) q 0 ≡ get_or c.next q 0 = λ q ne. get_or-set_other c.next p q (get_or c.next p 0 + 1) 0 ne in record {
          sound = draws (job_of s) R (next_of c.next) (next_of c.done) (regions_of c.words) c.actors f.sound id (actor_at c.actors id) (at_actor id there) p pipe (next_of (set c.next p (get_or c.next p 0 + 1))) here others free ready left;
          most = λ q l. dite (ℕ_discrete q p)
              (λ e. subst (λ (n : ℕ). get_or (set c.next p (get_or c.next p 0 + 1)) n 0 ≤ (job_of s).morsels n) (sym e) (omega (arith, here, left)))
              (λ ne. omega (arith, others q ne, f.most q l));
          nexts = length-set c.next p (get_or c.next p 0 + 1) ∙ f.nexts;
          dones = f.dones;
          sized = f.sized;
        }

    keeps_draw : (id p : ℕ) → IsAllowed s c (step.Draw id p) → IsSoundCore s (after s c (step.Draw id p))
    keeps_draw id p h = by (ltb (get_or c.next p 0) ((job_of s).morsels p)) refl
      where
        by : (b : Bool) → ltb (get_or c.next p 0) ((job_of s).morsels p) ≡ b
            → IsSoundCore s (if b then core (set c.next p (get_or c.next p 0 + 1)) c.done c.words (set c.actors id (actor (holding p (get_or c.next p 0)) nothing (actor_at c.actors id).finished (actor_at c.actors id).seen)) else c)
        by true e = draw_left id p h (ltb-true _ _ e)
        by false e = f

    -- a word that a mask is put into, and the others
    module _ (r w mask : ℕ) (is : IsWord (job_of s) r w) where
      abbrev more : ℕ
      more = bit_or (regions_of c.words r w) mask

      region_in : r < length c.words
      region_in = omega (arith, is.0, f.sized.regions)

      word_in : w < length (get_or c.words r [])
      word_in = omega (arith, is.1, f.sized.each r is.0)

      put_here : regions_of (put_in c.words r w mask) r w ≡ more
      put_here = ap (λ (l : List ℕ). get_or l w 0) (get_or-set_same c.words r (set (get_or c.words r []) w more) [] region_in) ∙ get_or-set_same (get_or c.words r []) w more 0 word_in

      put_else : (o v : ℕ) → IsWord (job_of s) o v → ((o ≡ r) → (v ≡ w) → ⊥) → regions_of (put_in c.words r w mask) o v ≡ regions_of c.words o v
      put_else o v _ ne = dite (ℕ_discrete o r)
          (λ e. subst (λ (n : ℕ). regions_of (put_in c.words r w mask) n v ≡ regions_of c.words n v) (sym e)
          (ap (λ (l : List ℕ). get_or l v 0) (get_or-set_same c.words r (set (get_or c.words r []) w more) [] region_in) ∙ get_or-set_other (get_or c.words r []) w v more 0 (λ h. ne e h)))
          (λ other. ap (λ (l : List ℕ). get_or l v 0) (get_or-set_other c.words r o (set (get_or c.words r []) w more) [] other))

      put_sized : AreSized s (put_in c.words r w mask)
      put_sized = record {
        regions = length-set c.words r (set (get_or c.words r []) w more) ∙ f.sized.regions;
        each = λ o l. dite (ℕ_discrete o r)
            (λ e. subst (λ (n : ℕ). length (get_or (put_in c.words r w mask) n []) ≡ words_of s n) (sym e)
            (ap length (get_or-set_same c.words r (set (get_or c.words r []) w more) [] region_in) ∙ length-set (get_or c.words r []) w more ∙ f.sized.each r is.0))
            (λ other. ap length (get_or-set_other c.words r o (set (get_or c.words r []) w more) [] other) ∙ f.sized.each o l);
      }

    -- the puts that are listed then
    listed_from : (before : List (ℕ × ℕ)) (i q : ℕ) (b : Bool) (k x y : ℕ) → get_elem? (if b then before else before ++ (i, q) ∷ []) k ≡ some (x, y) → ((n : ℕ) × (get_elem? before n ≡ some (x, y))) ⊎ (holding i q ≡ holding x y)
    listed_from before i q true k x y e = inl (k, e)
    listed_from before i q false k x y e = ⊎_elim (λ old. inl (k, old)) (λ new. inr (ap (λ (z : ℕ × ℕ). z ∷ []) new)) (at_snoc before (i, q) (x, y) k e)

    keeps_put : (id p i q : ℕ) → IsAllowed s c (step.Put id p i q) → IsSoundCore s (after s c (step.Put id p i q))
    keeps_put id p i q (there, held, item) =
        let a = actor_at c.actors id in let j = job_of s in
        let is = (R.placed p i q item).inside in let r = j.region p q in let w = j.word p i q in let mask = j.mask p i q in record {
          sound = puts j R (next_of c.next) (next_of c.done) (regions_of c.words) c.actors f.sound id a (at_actor id there) p (i / s.morsel) i q held item refl (regions_of (put_in c.words r w mask)) (put_here r w mask is) (put_else r w mask is)
              (if is_listed i q a.puts then a.puts else a.puts ++ (i, q) ∷ []) (λ k x y e. listed_from a.puts i q (is_listed i q a.puts) k x y e);
          most = f.most;
          nexts = f.nexts;
          dones = f.dones;
          sized = put_sized r w mask is;
        }

    listed_at : (id i q : ℕ) → is_listed i q (actor_at c.actors id).puts ≡ true → (k : ℕ) × (get_elem? (actor_at c.actors id).puts k ≡ some (i, q))
    listed_at id i q h = let t = any_at (λ (x : ℕ × ℕ). eqb x.0 i && eqb x.1 q) (actor_at c.actors id).puts h in
        (t.0, t.2 ∙ ap some (first_pair t.1 (i, q) (pair_is i q t.1.0 t.1.1 t.3)))

    keeps_finish : (id p : ℕ) → IsAllowed s c (step.Finish id p) → IsSoundCore s (after s c (step.Finish id p))
    keeps_finish id p (there, finish) =
        let a = actor_at c.actors id in let m = finish.0 in let held = finish.1 in
        let pipe = ((f.sound.each id a (at_actor id there)).ready p m held).0 in record {
          sound = finishes (job_of s) R (next_of c.next) (next_of c.done) (regions_of c.words) c.actors f.sound id a (at_actor id there) p m held (next_of (set c.done p (get_or c.done p 0 + 1)))
              (get_or-set_same c.done p (get_or c.done p 0 + 1) 0 (omega (arith, pipe, f.dones))) (λ q ne. get_or-set_other c.done p q (get_or c.done p 0 + 1) 0 ne)
              (λ i q item in_morsel. listed_at id i q (finish.2 i q item in_morsel));
          most = f.most;
          nexts = f.nexts;
          dones = length-set c.done p (get_or c.done p 0 + 1) ∙ f.dones;
          sized = f.sized;
        }

    keeps_see : (id p : ℕ) → IsAllowed s c (step.See id p) → IsSoundCore s (after s c (step.See id p))
    keeps_see id p (there, pipe) = by (eqb (get_or c.done p 0) ((job_of s).morsels p)) refl
      where
        by : (b : Bool) → eqb (get_or c.done p 0) ((job_of s).morsels p) ≡ b
            → IsSoundCore s (if b then core c.next c.done c.words (set c.actors id (actor (actor_at c.actors id).held (actor_at c.actors id).puts (actor_at c.actors id).finished (set (actor_at c.actors id).seen p true))) else c)
        by true e = record {
          sound = sees (job_of s) R (next_of c.next) (next_of c.done) (regions_of c.words) c.actors f.sound id (actor_at c.actors id) (at_actor id there) p pipe (omega (arith, eqb-true _ _ e));
          most = f.most;
          nexts = f.nexts;
          dones = f.dones;
          sized = f.sized;
        }
        by false e = f

    -- each step does
    pub keeps_step : (x : Step) → IsAllowed s c x → IsSoundCore s (after s c x)
    keeps_step (step.Draw id p) h = keeps_draw id p h
    keeps_step (step.Put id p i q) h = keeps_put id p i q h
    keeps_step (step.Finish id p) h = keeps_finish id p h
    keeps_step (step.See id p) h = keeps_see id p h
    keeps_step (step.Look id r w) h = f

    pub reads_sealed : (id r w : ℕ) → IsWord (job_of s) r w → id < length c.actors → is_marked (actor_at c.actors id).seen ((job_of s).owner r) ≡ true → regions_of c.words r w ≡ sealed s r w
    reads_sealed id r w is there seen = looks (job_of s) R (next_of c.next) (next_of c.done) (regions_of c.words) c.actors f.sound id (actor_at c.actors id) (at_actor id there) r w is seen

  -- and so does each list of steps
  pub keeps_sound : (c d : Core) (steps : List Step) → IsSoundCore s c → Leads s c steps d → IsSoundCore s d
  keeps_sound c d [] f h = subst (IsSoundCore s) h f
  keeps_sound c d (x ∷ steps) f h = keeps_sound (after s c x) d steps (keeps_step c f x h.0) h.1

  -- ---- the first state
  no_words : (r w : ℕ) → regions_of (map (λ n. replicate {A = ℕ} n 0) s.words) r w ≡ 0
  no_words r w = dite (dec_le (suc r) (length s.words))
      (λ inside. ap (λ (l : List ℕ). get_or l w 0) (get_or-map (λ n. replicate {A = ℕ} n 0) s.words r 0 [] inside) ∙ at-replicate (words_of s r) w 0)
      (λ past. ap (λ (l : List ℕ). get_or l w 0) (get_or-eq_default (map (λ n. replicate {A = ℕ} n 0) s.words) [] (omega (arith, past, length-map s.words (λ n. replicate {A = ℕ} n 0)))))

  abbrev new : Actor
  new = actor nothing nothing nothing (replicate (length s.pipes) false)

  all_new : (n k : ℕ) (a : Actor) → get_elem? (replicate n new) k ≡ some a → IsNew (job_of s) R a
  all_new n k a e =
      let is : a ≡ new = sym (place_of_at (replicate n new) k a new e) ∙ at-replicate n k new in
      subst (IsNew (job_of s) R) (sym is) record { held = refl; finished = refl; unseen = λ p. at-replicate (length s.pipes) p false }

  pub begins_sound : (actors : ℕ) → IsSoundCore s (first_state s actors)
  begins_sound actors = record {
    sound = begins (job_of s) R (next_of (replicate (length s.pipes) 0)) (next_of (replicate (length s.pipes) 0)) (regions_of (map (λ n. replicate {A = ℕ} n 0) s.words)) (replicate actors new)
        (λ p. at-replicate {X = ℕ} (length s.pipes) p 0) (λ p. at-replicate {X = ℕ} (length s.pipes) p 0) no_words (all_new actors);
    most = λ p l. omega (arith, at-replicate {X = ℕ} (length s.pipes) p 0);
    nexts = length-replicate {A = ℕ} (length s.pipes) 0;
    dones = length-replicate {A = ℕ} (length s.pipes) 0;
    sized = record { regions = length-map s.words (λ n. replicate {A = ℕ} n 0); each = λ r l. ap length (get_or-map (λ n. replicate {A = ℕ} n 0) s.words r 0 [] l) ∙ length-replicate {A = ℕ} (words_of s r) 0 };
  }
