-- A look keeps a sound board, and what it tells.
use Rattle.std.proofs.Common.{◌≡◌, ℕ, ◌<◌, ◌≤◌, List, length, set, min, if◌then◌else◌, sym, ap, ◌∙◌, subst, arith, lt-ltb, le-ltb}
use mathlib.Core.Logic.{dite}
use native.Mathlib.Decide.{dec_le}
use mathlib.Core.Option.{some}
use lib.ListN.{get_elem?}
use Rattle.atomic_table.proofs.Lists.{set_again}
use Rattle.transfer_core.specs.Actors.{HasSeen, HoldsNone, morsels_of, with_seen}
use Rattle.transfer_core.specs.Counts.{one_if_below, times}
use Rattle.transfer_core.specs.Job.{IsRight, IsWord, job_of}
use Rattle.transfer_core.specs.Plans.{Shape}
use Rattle.transfer_core.specs.Sealed.{sealed}
use Rattle.transfer_core.specs.Sound.{IsSound, morsels_at}
use Rattle.transfer_core.proofs.Full.{counted}
use Rattle.transfer_core.proofs.Keeps.{each_set, looks, sees, times-morsels_at}
use Rattle.transfer_core.proofs.Sums.{alone, below_le, term_le, total-set}
use Rattle.filter_board.specs.declared.share.Share.{Share}
use Rattle.filter_board.specs.Layout.{done_of, drawn_of, regions_in}
use Rattle.filter_board.specs.Rule.{IsSoundBoard, IsSoundShare, actors_of, told_parts}
use Rattle.filter_board.specs.Shares.{HasFinishedOnce, IsTold, after_look, share}
use Rattle.filter_board.proofs.WordFacts.{actor_at, actors_set, total-actors}

module _ (s : Shape) (R : IsRight (job_of s)) (parts : ℕ) (ws : List ℕ) (hs : List Share) (f : IsSoundBoard s parts ws hs)
    (id : ℕ) (h : Share) (at : get_elem? hs id ≡ some h) where
  -- where nothing changes
  pub sound_same : IsSoundBoard s parts ws (set hs id h)
  sound_same = subst (IsSoundBoard s parts ws) (sym (set_again hs id h at)) f

  -- who has all parts, holds nothing and was told that no morsel is left has finished the pipe
  pub alone_full : (p : ℕ) → p < length s.pipes → HoldsNone h.actor → h.parts ≡ parts → IsTold h.told p → done_of s ws p ≡ (job_of s).morsels p
  alone_full p less free all told =
      omega (
        arith,
        f.sound.counted p less,
        total-actors (λ y. length (morsels_of p y.finished)) hs,
        alone (λ (y : Share). length (morsels_of p y.actor.finished)) (λ y. y.parts) hs id h (λ k u a z. ap (λ (y : Share). length (morsels_of p y.actor.finished)) ((f.each k u a).live z)) at (f.all_parts ∙ sym all),
        counted (morsels_of p h.actor.finished) ((job_of s).morsels p) every,
      )
    where
      every : (x : ℕ) → times x (morsels_of p h.actor.finished) ≡ one_if_below x ((job_of s).morsels p)
      every x = let past = ((f.each id h at).told p told).1 in let e : min (drawn_of s ws p) ((job_of s).morsels p) ≡ (job_of s).morsels p = omega arith in
          omega (
            arith,
            f.sound.once p x less,
            total-actors (λ y. times x (morsels_at p y)) hs,
            ap (one_if_below x) e,
            alone (λ (y : Share). times x (morsels_at p y.actor)) (λ y. y.parts) hs id h (λ k u a z. ap (λ (y : Share). times x (morsels_at p y.actor)) ((f.each k u a).live z)) at (f.all_parts ∙ sym all),
            times-morsels_at x p h.actor,
            ap (λ (l : List (ℕ × ℕ)). times x (morsels_of p l)) free,
          )

  sound_saw : (p : ℕ) → p < length s.pipes → 0 < h.parts → (job_of s).morsels p ≤ done_of s ws p → IsSoundBoard s parts ws (set hs id (share (with_seen p h.actor) h.told h.parts))
  sound_saw p less part all = let saw = share (with_seen p h.actor) h.told h.parts in record {
    sized = f.sized;
    sound = subst (IsSound (job_of s) (drawn_of s ws) (done_of s ws) (regions_in s ws)) (sym (actors_set hs id saw))
        (sees (job_of s) R (drawn_of s ws) (done_of s ws) (regions_in s ws) (actors_of hs) f.sound id h.actor (actor_at hs id h at) p less all);
    all_parts = omega (arith, total-set (λ y. y.parts) hs id h saw at, f.all_parts);
    few = λ q l. omega (arith, f.few q l, total-set (told_parts q) hs id h saw at);
    each = each_set (IsSoundShare s ws) hs id saw f.each record { told = (f.each id h at).told; live = λ z. absurd (omega arith) };
  }

  pub sound_looked : (p : ℕ) → p < length s.pipes → 0 < h.parts → IsSoundBoard s parts ws (set hs id (after_look p ((job_of s).morsels p) h (done_of s ws p)))
  sound_looked p less part =
      let r : ℕ = done_of s ws p in let all : ℕ = (job_of s).morsels p in
      let saw : Share = share (with_seen p h.actor) h.told h.parts in
      dite (dec_le ((job_of s).morsels p) (done_of s ws p))
      (λ full. subst (λ b. IsSoundBoard s parts ws (set hs id (if b then h else share (with_seen p h.actor) h.told h.parts))) (sym (le-ltb (done_of s ws p) ((job_of s).morsels p) full)) (sound_saw p less part full))
      (λ l. let left : done_of s ws p < (job_of s).morsels p = omega arith in
      subst (λ b. IsSoundBoard s parts ws (set hs id (if b then h else share (with_seen p h.actor) h.told h.parts))) (sym (lt-ltb (done_of s ws p) ((job_of s).morsels p) left)) sound_same)

  -- no morsel stands twice with one hand
  pub stands_once : HasFinishedOnce (length s.pipes) h.actor
  stands_once p x l = omega (
    arith,
    term_le (λ y. times x (morsels_at p y)) (actors_of hs) id h.actor (actor_at hs id h at),
    times-morsels_at x p h.actor,
    f.sound.once p x l,
    below_le x (min (drawn_of s ws p) ((job_of s).morsels p)),
  )

  -- a word of a region whose pipe was seen full is the sealed one
  pub sealed_seen : (r w : ℕ) → IsWord (job_of s) r w → HasSeen h.actor ((job_of s).owner r) → regions_in s ws r w ≡ sealed s r w
  sealed_seen r w is seen = looks (job_of s) R (drawn_of s ws) (done_of s ws) (regions_in s ws) (actors_of hs) f.sound id h.actor (actor_at hs id h at) r w is seen
