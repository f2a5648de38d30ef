-- The end of a morsel keeps a sound board.
use Rattle.std.proofs.Common.{◌≡◌, ℕ, ◌+◌, ◌<◌, ◌≤◌, ◌&&◌, List, [], ◌∷◌, length, set, true, sym, refl, ap, ◌∙◌, subst, arith, eqb, length-set}
use mathlib.Core.Option.{some}
use lib.ListN.{get_elem?}
use Rattle.transfer_core.specs.Actors.{Holds, is_listed}
use Rattle.transfer_core.specs.Job.{IsRight, job_of}
use Rattle.transfer_core.specs.Plans.{Shape}
use Rattle.transfer_core.specs.Sound.{IsSound}
use Rattle.transfer_core.specs.Steps.{ListsAllPuts}
use Rattle.transfer_core.proofs.Keeps.{each_set, finishes, not_full}
use Rattle.transfer_core.proofs.Sums.{total-set}
use Rattle.transfer_core.proofs.ValidFacts.{any_at}
use Rattle.transfer_core.proofs.StepFacts.{first_pair, pair_is}
use Rattle.filter_board.specs.declared.share.Share.{Share}
use Rattle.filter_board.specs.Layout.{done_of, drawn_of, regions_in}
use Rattle.filter_board.specs.Rule.{IsSoundBoard, IsSoundShare, actors_of, told_parts}
use Rattle.filter_board.specs.Shares.{after_finish}
use Rattle.filter_board.proofs.WordFacts.{actor_at, actors_set, agrees, done_drawn, done_else, done_here, done_word, grows}

-- where a listed put stands
listed_at : (puts : List (ℕ × ℕ)) (i q : ℕ) → is_listed i q puts ≡ true → (k : ℕ) × (get_elem? puts k ≡ some (i, q))
listed_at puts i q h = let t = any_at (λ (x : ℕ × ℕ). eqb x.0 i && eqb x.1 q) puts h in
    (t.0, t.2 ∙ ap some (first_pair t.1 (i, q) (pair_is i q t.1.0 t.1.1 t.3)))

module _ (s : Shape) (R : IsRight (job_of s)) (parts : ℕ) (ws : List ℕ) (hs : List Share) (f : IsSoundBoard s parts ws hs)
    (id : ℕ) (h : Share) (at : get_elem? hs id ≡ some h) (p m : ℕ) (held : Holds h.actor p m) (part : 0 < h.parts) where
  abbrev d : ℕ
  d = done_of s ws p

  abbrev ns : List ℕ
  ns = set ws (length s.pipes + p) (d + 1)

  abbrev ender : Share
  ender = after_finish h

  less : p < length s.pipes
  less = ((f.sound.each id h.actor (actor_at hs id h at)).ready p m held).0

  same_drawn : (q : ℕ) → q < length s.pipes → drawn_of s ws q ≤ drawn_of s ns q
  same_drawn q l = omega (arith, done_drawn s ws f.sized p (d + 1) less q l)

  -- while a morsel of it is held a pipe is not full
  pub finish_room : d + 1 ≤ (job_of s).morsels p
  finish_room = not_full (job_of s) R (drawn_of s ws) (done_of s ws) (regions_in s ws) (actors_of hs) f.sound id h.actor p m (actor_at hs id h at) less held

  pub sound_finished : ListsAllPuts (job_of s) p m h.actor → IsSoundBoard s parts ns (set hs id ender)
  sound_finished all_put = record {
    sized = length-set ws (length s.pipes + p) (d + 1) ∙ f.sized;
    sound = subst (IsSound (job_of s) (drawn_of s ns) (done_of s ns) (regions_in s ns)) (sym (actors_set hs id ender))
        (agrees (job_of s) R (drawn_of s ws) (done_of s ns) (regions_in s ws) (drawn_of s ns) (done_of s ns) (regions_in s ns) (set (actors_of hs) id ender.actor)
        (λ q l. done_drawn s ws f.sized p (d + 1) less q l) (λ q l. refl) (λ r w is. done_word s ws f.sized p (d + 1) less r w)
        (finishes (job_of s) R (drawn_of s ws) (done_of s ws) (regions_in s ws) (actors_of hs) f.sound id h.actor (actor_at hs id h at) p m held (done_of s ns)
        (done_here s ws f.sized p (d + 1) less) (λ q ne. done_else s ws f.sized p (d + 1) less q ne)
        (λ i q item in_morsel. listed_at h.actor.puts i q (all_put i q item in_morsel))));
    all_parts = omega (arith, total-set (λ y. y.parts) hs id h ender at, f.all_parts);
    few = λ q l. omega (arith, done_drawn s ws f.sized p (d + 1) less q l, f.few q l, total-set (told_parts q) hs id h ender at);
    each = each_set (IsSoundShare s ns) hs id ender (λ k u a. grows s ws ns u same_drawn (f.each k u a))
        record { told = (grows s ws ns h same_drawn (f.each id h at)).told; live = λ z. absurd (omega arith) };
  }
