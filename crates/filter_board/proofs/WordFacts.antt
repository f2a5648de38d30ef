-- What a sound board says of its words, and what stays where one word changes.
use Rattle.std.proofs.Common.{◌≡◌, ℕ, ◌+◌, ◌<◌, ◌≤◌, ◌≢◌, List, [], ◌∷◌, length, set, min, sym, refl, ap, ◌∙◌, arith, get_or-set_same, get_or-set_other}
use Rattle.std.proofs.lemmas.List.{map-set}
use mathlib.Core.Option.{some}
use lib.ListN.{get_elem?}
use Rattle.atomic_table.proofs.Lists.{at_map, set_again}
use Rattle.transfer_core.specs.Actors.{Actor}
use Rattle.transfer_core.specs.Counts.{one_if_below, total}
use Rattle.transfer_core.specs.Job.{IsRight, IsWord, Job, job_of}
use Rattle.transfer_core.specs.Plans.{Shape}
use Rattle.transfer_core.specs.Sound.{IsSound}
use Rattle.transfer_core.proofs.Keeps.{fits_grown}
use Rattle.transfer_core.proofs.Masks.{lies_same, lies_through}
use Rattle.filter_board.specs.declared.share.Share.{Share}
use Rattle.filter_board.specs.Layout.{done_of, drawn_of, index_of, regions_in, word_count}
use Rattle.filter_board.specs.Rule.{IsSoundShare, actors_of}
use Rattle.filter_board.proofs.Offsets.{offset_in, offset_same}

abbrev Numbers : Type 0
Numbers = ℕ → ℕ

abbrev Words : Type 0
Words = ℕ → ℕ → ℕ

-- what says the same of each pipe and each word of the plan is as sound
pub agrees : (j : Job) (R : IsRight j) (next done : Numbers) (word : Words) (next' done' : Numbers) (word' : Words) (vs : List Actor)
    → ((p : ℕ) → p < j.pipes → next' p ≡ next p) → ((p : ℕ) → p < j.pipes → done' p ≡ done p) → ((r w : ℕ) → IsWord j r w → word' r w ≡ word r w)
    → IsSound j next done word vs → IsSound j next' done' word' vs
agrees j R next done word next' done' word' vs n d e f = record {
  once = λ p m l. f.once p m l ∙ ap (λ (k : ℕ). one_if_below m (min k (j.morsels p))) (sym (n p l));
  counted = λ p l. d p l ∙ f.counted p l;
  inside = λ r w is. lies_through _ _ _ (lies_same _ _ (e r w is)) (f.inside r w is);
  each = λ id a at. fits_grown j R done word done' word' a record { dones = λ p l h. d p l ∙ h; words = λ r w is. lies_same _ _ (sym (e r w is)) } (f.each id a at);
}

-- ---- the actors of hands
pub actor_at : (hs : List Share) (id : ℕ) (h : Share) → get_elem? hs id ≡ some h → get_elem? (actors_of hs) id ≡ some h.actor
actor_at hs id h at = at_map (λ (x : Share). x.actor) hs id h at

pub actors_set : (hs : List Share) (id : ℕ) (h : Share) → actors_of (set hs id h) ≡ set (actors_of hs) id h.actor
actors_set hs id h = map-set (λ (x : Share). x.actor) hs id h

-- the actors, where a hand's actor stays
pub actors_same : (hs : List Share) (id : ℕ) (g h : Share) → get_elem? hs id ≡ some g → h.actor ≡ g.actor → actors_of (set hs id h) ≡ actors_of hs
actors_same hs id g h at e = actors_set hs id h ∙ ap (set (actors_of hs) id) e ∙ set_again (actors_of hs) id g.actor (actor_at hs id g at)

pub total-actors : (g : Actor → ℕ) (hs : List Share) → total g (actors_of hs) ≡ total (λ h. g h.actor) hs
total-actors g [] = refl
total-actors g (h ∷ hs) = omega (arith, total-actors g hs)

module _ (s : Shape) where
  -- the shares of other hands, where no fewer morsels are drawn
  pub grows : (ws ns : List ℕ) (h : Share) → ((p : ℕ) → p < length s.pipes → drawn_of s ws p ≤ drawn_of s ns p) → IsSoundShare s ws h → IsSoundShare s ns h
  grows ws ns h more f = record { told = λ p e. let t = f.told p e in (t.0, omega (arith, t.1, more p t.0)); live = f.live }

  -- ---- words that are the same but at one place
  module _ (ws : List ℕ) (sized : length ws ≡ word_count s) (p n : ℕ) (less : p < length s.pipes) where
    pub drawn_here : drawn_of s (set ws p n) p ≡ n
    drawn_here = get_or-set_same ws p n 0 (omega arith)

    pub drawn_else : (q : ℕ) → q ≢ p → drawn_of s (set ws p n) q ≡ drawn_of s ws q
    drawn_else q ne = get_or-set_other ws p q n 0 ne

    pub drawn_done : (q : ℕ) → done_of s (set ws p n) q ≡ done_of s ws q
    drawn_done q = get_or-set_other ws p (length s.pipes + q) n 0 (λ e. omega arith)

    pub drawn_word : (r w : ℕ) → regions_in s (set ws p n) r w ≡ regions_in s ws r w
    drawn_word r w = get_or-set_other ws p (index_of s r w) n 0 (λ e. omega arith)

    pub done_here : done_of s (set ws (length s.pipes + p) n) p ≡ n
    done_here = get_or-set_same ws (length s.pipes + p) n 0 (omega arith)

    pub done_else : (q : ℕ) → q ≢ p → done_of s (set ws (length s.pipes + p) n) q ≡ done_of s ws q
    done_else q ne = get_or-set_other ws (length s.pipes + p) (length s.pipes + q) n 0 (λ e. ne (omega arith))

    pub done_drawn : (q : ℕ) → q < length s.pipes → drawn_of s (set ws (length s.pipes + p) n) q ≡ drawn_of s ws q
    done_drawn q l = get_or-set_other ws (length s.pipes + p) q n 0 (λ e. omega arith)

    pub done_word : (r w : ℕ) → regions_in s (set ws (length s.pipes + p) n) r w ≡ regions_in s ws r w
    done_word r w = get_or-set_other ws (length s.pipes + p) (index_of s r w) n 0 (λ e. omega arith)

  module _ (ws : List ℕ) (sized : length ws ≡ word_count s) (r w n : ℕ) (is : IsWord (job_of s) r w) where
    pub word_here : regions_in s (set ws (index_of s r w) n) r w ≡ n
    word_here = get_or-set_same ws (index_of s r w) n 0 (omega (arith, sized, offset_in s.words r w is.0 is.1))

    pub word_else : (o v : ℕ) → IsWord (job_of s) o v → ((o ≡ r) → (v ≡ w) → ⊥) → regions_in s (set ws (index_of s r w) n) o v ≡ regions_in s ws o v
    word_else o v at ne = get_or-set_other ws (index_of s r w) (index_of s o v) n 0 (λ e. let t = offset_same s.words o v r w at.0 at.1 is.0 is.1 (omega (arith, e)) in ne t.0 t.1)

    pub word_drawn : (q : ℕ) → q < length s.pipes → drawn_of s (set ws (index_of s r w) n) q ≡ drawn_of s ws q
    word_drawn q l = get_or-set_other ws (index_of s r w) q n 0 (λ e. omega arith)

    pub word_done : (q : ℕ) → q < length s.pipes → done_of s (set ws (index_of s r w) n) q ≡ done_of s ws q
    word_done q l = get_or-set_other ws (index_of s r w) (length s.pipes + q) n 0 (λ e. omega arith)
