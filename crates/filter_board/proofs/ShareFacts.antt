-- Hands are split and joined, and begin.
use Rattle.std.proofs.Common.{◌≡◌, ℕ, zero, suc, ◌+◌, ◌-◌, ◌/◌, ◌<◌, ◌≤◌, ◌≢◌, List, [], ◌∷◌, ◌++◌, length, get_or, set, Bool, true, false, ◌||◌, sym, refl, ap, ◌∙◌, subst, ⊎_elim, arith, cond, true≢false}
use Rattle.std.specs.Prelude.{replicate}
use Rattle.std.proofs.lemmas.List.{map-append}
use mathlib.Core.Logic.{dite}
use native.Mathlib.Decide.{ℕ_discrete}
use mathlib.Core.Option.{some, some-ne-none}
use lib.ListN.{get_elem?}
use Rattle.transfer_core.specs.Actors.{Actor, HoldsNone, actor, is_marked, morsels_of, nothing}
use Rattle.transfer_core.specs.Counts.{times}
use Rattle.transfer_core.specs.Job.{IsRight, Job, job_of}
use Rattle.transfer_core.specs.Plans.{Shape}
use Rattle.transfer_core.specs.Sound.{IsSound, IsSoundActor, morsels_at}
use Rattle.transfer_core.proofs.Keeps.{IsNew, begins, each_set, each_snoc, length-morsels, nothing_held, times-morsels, times-morsels_at}
use Rattle.transfer_core.proofs.Lists.{at_set}
use Rattle.transfer_core.proofs.Masks.{is_marked-nothing}
use Rattle.transfer_core.proofs.Sums.{total-append, total-set}
use Rattle.filter_board.specs.declared.share.Share.{Share}
use Rattle.filter_board.specs.Layout.{done_of, drawn_of, regions_in, word_count}
use Rattle.filter_board.specs.Rule.{IsSoundBoard, IsSoundShare, actors_of, told_parts}
use Rattle.filter_board.specs.Shares.{fresh, joined, joined_actor, less, piece, piece_actor, spent}
use Rattle.filter_board.proofs.MarkFacts.{marked-either, or_true}
use Rattle.filter_board.proofs.WordFacts.{actor_at, actors_same, actors_set}

-- ---- states of the core, where an actor is joined into another, and where one begins
module _ (j : Job) (next done : ℕ → ℕ) (word : ℕ → ℕ → ℕ) (vs : List Actor) (f : IsSound j next done word vs) where
  -- an actor that has finished nothing, and has seen full no more than one that is there
  pub begins_beside : (id : ℕ) (v : Actor) → get_elem? vs id ≡ some v → IsSound j next done word (vs ++ piece_actor v ∷ [])
  begins_beside id v at = let u = piece_actor v in record {
    once = λ p x l. omega (arith, total-append (λ y. times x (morsels_at p y)) vs (u ∷ []), f.once p x l);
    counted = λ p l. omega (arith, total-append (λ y. length (morsels_of p y.finished)) vs (u ∷ []), f.counted p l);
    inside = f.inside;
    each = each_snoc (IsSoundActor j done word) vs u f.each record {
      kept = λ p i q it h. absurd (omega arith);
      listed = λ p m e. nothing_held p m _ e;
      ready = λ p m e. nothing_held p m _ e;
      finished = λ p m h. absurd (omega arith);
      full = (f.each id v at).full;
    };
  }

  abbrev none : Actor
  none = actor nothing nothing nothing []

  pub joins_actors : (id : ℕ) (v : Actor) → get_elem? vs id ≡ some v → (other : ℕ) (u : Actor) → get_elem? vs other ≡ some u → get_elem? (set vs id (joined_actor v u)) other ≡ some u → HoldsNone v → HoldsNone u
      → IsSound j next done word (set (set vs id (joined_actor v u)) other none)
  joins_actors id v at other u was there free free_too =
      let b = joined_actor v u in let bs = set vs id b in let g = f.each id v at in let h = f.each other u was in record {
        once = λ q x l. omega (
          arith,
          total-set (λ y. times x (morsels_at q y)) bs other u none there,
          total-set (λ y. times x (morsels_at q y)) vs id v b at,
          times-morsels x q v.finished u.finished,
          times-morsels_at x q v,
          times-morsels_at x q u,
          ap (λ (t : List (ℕ × ℕ)). times x (morsels_of q t)) free,
          ap (λ (t : List (ℕ × ℕ)). times x (morsels_of q t)) free_too,
          f.once q x l,
        );
        counted = λ q l. omega (
          arith,
          total-set (λ y. length (morsels_of q y.finished)) bs other u none there,
          total-set (λ y. length (morsels_of q y.finished)) vs id v b at,
          length-morsels q v.finished u.finished,
          f.counted q l,
        );
        inside = f.inside;
        each = each_set (IsSoundActor j done word) bs other none
            (each_set (IsSoundActor j done word) vs id b f.each record {
              kept = λ p i q it z. dite (ℕ_discrete (times (i / j.size) (morsels_of p v.finished)) 0)
                  (λ none_here. h.kept p i q it (omega (arith, z, none_here, times-morsels (i / j.size) p v.finished u.finished)))
                  (λ ne. g.kept p i q it (omega arith));
              listed = λ p m e. nothing_held p m _ e;
              ready = λ p m e. nothing_held p m _ e;
              finished = λ p m z. dite (ℕ_discrete (times m (morsels_of p v.finished)) 0)
                  (λ none_here. h.finished p m (omega (arith, z, none_here, times-morsels m p v.finished u.finished)))
                  (λ ne. g.finished p m (omega arith));
              full = λ p e. or_true (is_marked v.seen p) (is_marked u.seen p) ((p < j.pipes) × (done p ≡ j.morsels p)) (g.full p) (h.full p) (sym (marked-either v.seen u.seen p) ∙ e);
            })
            record {
              kept = λ p i q it z. absurd (omega arith);
              listed = λ p m e. nothing_held p m _ e;
              ready = λ p m e. nothing_held p m _ e;
              finished = λ p m z. absurd (omega arith);
              full = λ p e. is_marked-nothing p _ e;
            };
      }

told_split : (b : Bool) (p n : ℕ) → n < p → cond b (p - n) 0 + cond b n 0 ≡ cond b p 0
told_split true p n h = omega arith
told_split false p n h = refl

told_join : (b c : Bool) (p q : ℕ) → cond b p 0 + cond c q 0 ≤ cond (b || c) (p + q) 0
told_join true true p q = omega arith
told_join true false p q = omega arith
told_join false true p q = omega arith
told_join false false p q = omega arith

module _ (s : Shape) (parts : ℕ) (ws : List ℕ) (hs : List Share) (f : IsSoundBoard s parts ws hs) (id : ℕ) (h : Share) (at : get_elem? hs id ≡ some h) where
  pub sound_split : (n : ℕ) → 0 < n → n < h.parts → IsSoundBoard s parts ws (set hs id (less n h) ++ piece n h ∷ [])
  sound_split n some_part fewer =
      let l = less n h in let u = piece n h in let gs = set hs id l in record {
        sized = f.sized;
        sound = subst (IsSound (job_of s) (drawn_of s ws) (done_of s ws) (regions_in s ws))
            (sym (map-append (λ (y : Share). y.actor) gs (u ∷ []) ∙ ap (λ (vs : List Actor). vs ++ u.actor ∷ []) (actors_same hs id h l at refl)))
            (begins_beside (job_of s) (drawn_of s ws) (done_of s ws) (regions_in s ws) (actors_of hs) f.sound id h.actor (actor_at hs id h at));
        all_parts = omega (arith, total-append (λ y. y.parts) gs (u ∷ []), total-set (λ y. y.parts) hs id h l at, f.all_parts);
        few = λ q i. omega (arith, f.few q i, total-append (told_parts q) gs (u ∷ []), total-set (told_parts q) hs id h l at, told_split (is_marked h.told q) h.parts n fewer);
        each = each_snoc (IsSoundShare s ws) gs u
            (each_set (IsSoundShare s ws) hs id l f.each record { told = (f.each id h at).told; live = λ z. absurd (omega arith) })
            record { told = (f.each id h at).told; live = λ z. absurd (omega arith) };
      }

  pub sound_join : (other : ℕ) (g : Share) → ¬ (other ≡ id) → get_elem? (set hs id (joined h g)) other ≡ some g → HoldsNone h.actor → HoldsNone g.actor → 0 < h.parts
      → IsSoundBoard s parts ws (set (set hs id (joined h g)) other spent)
  sound_join other g apart there free free_too some_part =
      let b = joined h g in let gs = set hs id b in
      let was : get_elem? hs other ≡ some g = ⊎_elim (λ (t : (other ≡ id) × (b ≡ g)). absurd (apart t.0)) (λ (t : (other ≢ id) × (get_elem? hs other ≡ some g)). t.1) (at_set hs id other b g there) in
      let mine = f.each id h at in let theirs = f.each other g was in record {
        sized = f.sized;
        sound = subst (IsSound (job_of s) (drawn_of s ws) (done_of s ws) (regions_in s ws))
            (sym (actors_set gs other spent ∙ ap (λ (vs : List Actor). set vs other spent.actor) (actors_set hs id b)))
            (joins_actors (job_of s) (drawn_of s ws) (done_of s ws) (regions_in s ws) (actors_of hs) f.sound id h.actor (actor_at hs id h at) other g.actor (actor_at hs other g was)
            (ap (λ (vs : List Actor). get_elem? vs other) (sym (actors_set hs id b)) ∙ actor_at gs other g there) free free_too);
        all_parts = omega (arith, total-set (λ y. y.parts) gs other g spent there, total-set (λ y. y.parts) hs id h b at, f.all_parts);
        few = λ q l. omega (
          arith,
          f.few q l,
          total-set (told_parts q) gs other g spent there,
          total-set (told_parts q) hs id h b at,
          told_join (is_marked h.told q) (is_marked g.told q) h.parts g.parts,
          ap (λ c. cond c (h.parts + g.parts) 0) (marked-either h.told g.told q),
        );
        each = each_set (IsSoundShare s ws) gs other spent
            (each_set (IsSoundShare s ws) hs id b f.each record {
              told = λ p e. or_true (is_marked h.told p) (is_marked g.told p) ((p < length s.pipes) × ((job_of s).morsels p ≤ drawn_of s ws p)) (mine.told p) (theirs.told p) (sym (marked-either h.told g.told p) ∙ e);
              live = λ z. absurd (omega arith);
            })
            record { told = λ p e. is_marked-nothing p _ e; live = λ z. refl };
      }

no_mark : (n p : ℕ) → is_marked (replicate n false) p ≡ false
no_mark zero p = refl
no_mark (suc n) zero = refl
no_mark (suc n) (suc p) = no_mark n p

-- words that are all 0, and one hand
pub sound_start : (s : Shape) (R : IsRight (job_of s)) (parts : ℕ) (ws : List ℕ) → length ws ≡ word_count s → ((k : ℕ) → get_or ws k 0 ≡ 0) → 0 < parts → IsSoundBoard s parts ws (fresh parts ∷ [])
sound_start s R parts ws sized zeros some_part = record {
  sized = sized;
  sound = begins (job_of s) R (drawn_of s ws) (done_of s ws) (regions_in s ws) (actors_of (fresh parts ∷ [])) zeros (λ p. zeros _) (λ r w. zeros _)
      (each_snoc (IsNew (job_of s) R) [] (fresh parts).actor (λ k u a. absurd (some-ne-none u (sym a))) record { held = refl; finished = refl; unseen = no_mark 128 });
  all_parts = omega arith;
  few = λ p l. omega (arith, zeros p);
  each = each_snoc (IsSoundShare s ws) [] (fresh parts) (λ k u a. absurd (some-ne-none u (sym a))) record {
    told = λ p e. absurd (true≢false (sym e ∙ no_mark 128 p));
    live = λ z. absurd (omega (arith, z, some_part));
  };
}
