-- A draw keeps a sound board.
use Rattle.std.proofs.Common.{◌≡◌, ℕ, ◌+◌, ◌<◌, ◌≤◌, ◌≢◌, List, length, set, min, Bool, true, false, if◌then◌else◌, sym, refl, ap, ◌∙◌, subst, arith, cond, lt-ltb, le-ltb, length-set, get_or-set_same, get_or-set_other}
use mathlib.Core.Logic.{dite}
use native.Mathlib.Decide.{ℕ_discrete, dec_le}
use mathlib.Core.Option.{some}
use lib.ListN.{get_elem?}
use Rattle.transfer_core.specs.Actors.{Actor, HoldsNone, is_marked, with_morsel}
use Rattle.transfer_core.specs.Counts.{total}
use Rattle.transfer_core.specs.Job.{IsRight, job_of}
use Rattle.transfer_core.specs.Plans.{Shape}
use Rattle.transfer_core.specs.Sound.{HasSeenReads, IsSound, morsels_at}
use Rattle.transfer_core.specs.Counts.{times}
use Rattle.transfer_core.proofs.Keeps.{draws, draws_none, each_set, times-morsels_at}
use Rattle.transfer_core.proofs.Masks.{is_marked-added}
use Rattle.transfer_core.proofs.Sums.{below_no, term_le, total-le, total-set}
use Rattle.filter_board.specs.declared.share.Share.{Share}
use Rattle.filter_board.specs.Layout.{done_of, drawn_of, regions_in}
use Rattle.filter_board.specs.Rule.{IsSoundBoard, IsSoundShare, actors_of, told_parts}
use Rattle.filter_board.specs.Shares.{HasFinishedBelow, after_draw, share}
use Rattle.filter_board.proofs.WordFacts.{actor_at, actors_same, actors_set, agrees, drawn_done, drawn_else, drawn_here, drawn_word, grows}

module _ (s : Shape) (R : IsRight (job_of s)) (parts : ℕ) (ws : List ℕ) (hs : List Share) (f : IsSoundBoard s parts ws hs)
    (id : ℕ) (h : Share) (at : get_elem? hs id ≡ some h) (p : ℕ) (less : p < length s.pipes) where
  abbrev c : ℕ
  c = drawn_of s ws p

  abbrev ns : List ℕ
  ns = set ws p (c + 1)

  abbrev all : ℕ
  all = (job_of s).morsels p

  here : drawn_of s ns p ≡ c + 1
  here = drawn_here s ws f.sized p (c + 1) less

  others : (q : ℕ) → q ≢ p → drawn_of s ns q ≡ drawn_of s ws q
  others q ne = drawn_else s ws f.sized p (c + 1) less q ne

  more : (q : ℕ) → q < length s.pipes → drawn_of s ws q ≤ drawn_of s ns q
  more q l = dite (ℕ_discrete q p) (λ e. omega (arith, ap (drawn_of s ws) e, ap (drawn_of s ns) e, here)) (λ ne. omega (arith, others q ne))

  -- the other counters and the regions stay
  stays : (vs : List Actor) → IsSound (job_of s) (drawn_of s ns) (done_of s ws) (regions_in s ws) vs → IsSound (job_of s) (drawn_of s ns) (done_of s ns) (regions_in s ns) vs
  stays vs g = agrees (job_of s) R (drawn_of s ns) (done_of s ws) (regions_in s ws) (drawn_of s ns) (done_of s ns) (regions_in s ns) vs
      (λ q l. refl) (λ q l. drawn_done s ws f.sized p (c + 1) less q) (λ r w is. drawn_word s ws f.sized p (c + 1) less r w) g

  module _ (free : HoldsNone h.actor) (part : 0 < h.parts) where
    abbrev won : Share
    won = share (with_morsel p c h.actor) h.told h.parts

    abbrev lost : Share
    lost = share h.actor (set h.told p true) h.parts

    draw_won : HasSeenReads (job_of s) p h.actor → c < all → IsSoundBoard s parts ns (set hs id won)
    draw_won ready left = record {
      sized = length-set ws p (c + 1) ∙ f.sized;
      sound = subst (IsSound (job_of s) (drawn_of s ns) (done_of s ns) (regions_in s ns)) (sym (actors_set hs id won))
          (stays (set (actors_of hs) id won.actor)
          (draws (job_of s) R (drawn_of s ws) (done_of s ws) (regions_in s ws) (actors_of hs) f.sound id h.actor (actor_at hs id h at) p less (drawn_of s ns) here others free ready left));
      all_parts = omega (arith, total-set (λ y. y.parts) hs id h won at, f.all_parts);
      few = λ q l. dite (ℕ_discrete q p)
          (λ e. omega (arith, ap (drawn_of s ns) e, ap (job_of s).morsels e, here, left))
          (λ ne. omega (arith, others q ne, f.few q l, total-set (told_parts q) hs id h won at));
      each = each_set (IsSoundShare s ns) hs id won (λ k u a. grows s ws ns u more (f.each k u a))
          record { told = (grows s ws ns h more (f.each id h at)).told; live = λ z. absurd (omega arith) };
    }

    told_yes : (l : List Bool) (q : ℕ) → is_marked l q ≡ true → cond (is_marked l q) h.parts 0 ≡ h.parts
    told_yes l q e = ap (λ b. cond b h.parts 0) e

    told_no : (l : List Bool) (q : ℕ) → is_marked l q ≡ false → cond (is_marked l q) h.parts 0 ≡ 0
    told_no l q e = ap (λ b. cond b h.parts 0) e

    draw_lost : is_marked h.told p ≡ false → p < length h.told → all ≤ c → IsSoundBoard s parts ns (set hs id lost)
    draw_lost untold inside reached = record {
      sized = length-set ws p (c + 1) ∙ f.sized;
      sound = subst (IsSound (job_of s) (drawn_of s ns) (done_of s ns) (regions_in s ns)) (sym (actors_same hs id h lost at refl))
          (stays (actors_of hs)
          (draws_none (job_of s) R (drawn_of s ws) (done_of s ws) (regions_in s ws) (actors_of hs) f.sound id h.actor (actor_at hs id h at) p less (drawn_of s ns) here others reached));
      all_parts = omega (arith, total-set (λ y. y.parts) hs id h lost at, f.all_parts);
      few = λ q l. dite (ℕ_discrete q p)
          (λ e. subst (λ (r : ℕ). drawn_of s ns r ≤ (job_of s).morsels r + total (told_parts r) (set hs id lost)) (sym e)
          (omega (arith, here, f.few p less, total-set (told_parts p) hs id h lost at, told_no h.told p untold, told_yes (set h.told p true) p (get_or-set_same h.told p true false inside))))
          (λ ne. omega (arith, others q ne, f.few q l, total-set (told_parts q) hs id h lost at, ap (λ b. cond b h.parts 0) (get_or-set_other h.told p q true false ne)));
      each = each_set (IsSoundShare s ns) hs id lost (λ k u a. grows s ws ns u more (f.each k u a)) record {
        told = λ q e. dite (ℕ_discrete q p)
            (λ same. (omega (arith, same, less), omega (arith, ap (job_of s).morsels same, ap (drawn_of s ns) same, here, reached)))
            (λ ne. let t = (f.each id h at).told q (is_marked-added h.told p q e ne) in (t.0, omega (arith, t.1, more q t.0)));
        live = λ z. absurd (omega arith);
      };
    }

    -- whoever draws gets a morsel, or is told that none is left
    pub sound_drawn : HasSeenReads (job_of s) p h.actor → is_marked h.told p ≡ false → p < length h.told → IsSoundBoard s parts ns (set hs id (after_draw p all h c))
    sound_drawn ready untold inside = dite (dec_le all c)
        (λ reached. subst (λ b. IsSoundBoard s parts ns (set hs id (if b then won else lost))) (sym (le-ltb c all reached)) (draw_lost untold inside reached))
        (λ l. let left : c < all = omega arith in subst (λ b. IsSoundBoard s parts ns (set hs id (if b then won else lost))) (sym (lt-ltb c all left)) (draw_won ready left))

    -- the counter has room for one more draw by a hand that was not told
    pub draw_room : is_marked h.told p ≡ false → c + 1 ≤ all + parts
    draw_room untold = omega (arith, f.few p less, f.all_parts, total-le (λ u. u.parts) (told_parts p) (λ u. told_le (is_marked u.told p) u.parts) hs id h at, told_no h.told p untold)
      where
        told_le : (b : Bool) (n : ℕ) → cond b n 0 ≤ n
        told_le true n = omega arith
        told_le false n = omega arith

  -- what a hand has finished was drawn before
  pub draw_rises : HasFinishedBelow c p h.actor
  draw_rises x some_time = dite (dec_le c x)
      (λ out. absurd (omega (
        arith,
        some_time,
        times-morsels_at x p h.actor,
        term_le (λ y. times x (morsels_at p y)) (actors_of hs) id h.actor (actor_at hs id h at),
        f.sound.once p x less,
        below_no x (min c all) (omega arith),
      )))
      (λ inside. omega arith)
