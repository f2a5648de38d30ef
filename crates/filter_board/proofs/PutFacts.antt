-- A put, and the puts of a run of items, keep a sound board.
use Rattle.std.proofs.Common.{◌≡◌, ◌⊎◌, inl, inr, ⊎_elim, ℕ, suc, ◌/◌, ◌<◌, ◌≤◌, List, [], ◌∷◌, ◌++◌, length, get_or, set, All, Bool, true, false, if◌then◌else◌, sym, refl, ap, ◌∙◌, subst, arith, length-set, get_or-set_same, set-set}
use Rattle.std.specs.Prelude.{◌==◌, bit_and, bit_or}
use Rattle.std.specs.Int.Bits.{or_add_and}
use Rattle.std.proofs.lemmas.Bool.{cases_Bool, eqb-true}
use Rattle.std.proofs.lemmas.List.{set-get_or}
use mathlib.Core.Option.{some}
use lib.ListN.{get_elem?}
use Rattle.atomic_table.proofs.Lists.{set_here}
use Rattle.transfer_core.specs.Actors.{Holds, holding, is_listed}
use Rattle.transfer_core.specs.Job.{IsPassing, IsRight, IsWord, job_of}
use Rattle.transfer_core.specs.Plans.{Shape}
use Rattle.transfer_core.specs.Sound.{IsSound}
use Rattle.transfer_core.proofs.Keeps.{each_set, puts}
use Rattle.transfer_core.proofs.Lists.{at_snoc, within}
use Rattle.transfer_core.proofs.Sums.{total-set}
use Rattle.filter_board.specs.declared.share.Share.{Share}
use Rattle.filter_board.specs.Layout.{done_of, drawn_of, index_of, regions_in, word_count}
use Rattle.filter_board.specs.Rule.{IsSoundBoard, IsSoundShare, actors_of, told_parts}
use Rattle.filter_board.specs.Runs.{MayPut, with_masks}
use Rattle.filter_board.specs.Shares.{after_find, after_puts}
use Rattle.filter_board.proofs.LookFacts.{sound_same}
use Rattle.filter_board.proofs.MarkFacts.{or_masks}
use Rattle.filter_board.proofs.WordFacts.{actor_at, actors_set, agrees, grows, word_done, word_drawn, word_else, word_here}

-- the puts that are listed then
listed_from : (before : List (ℕ × ℕ)) (i q : ℕ) (b : Bool) (k x y : ℕ) → get_elem? (if b then before else before ++ (i, q) ∷ []) k ≡ some (x, y) → ((n : ℕ) × (get_elem? before n ≡ some (x, y))) ⊎ (holding i q ≡ holding x y)
listed_from before i q true k x y e = inl (k, e)
listed_from before i q false k x y e = ⊎_elim (λ old. inl (k, old)) (λ new. inr (ap (λ (z : ℕ × ℕ). z ∷ []) new)) (at_snoc before (i, q) (x, y) k e)

module _ (s : Shape) (R : IsRight (job_of s)) (parts : ℕ) (ws : List ℕ) (hs : List Share) (f : IsSoundBoard s parts ws hs)
    (id : ℕ) (h : Share) (at : get_elem? hs id ≡ some h) (p i q : ℕ) (held : Holds h.actor p (i / s.morsel)) (item : IsPassing (job_of s) p i q) (part : 0 < h.parts) where
  abbrev r : ℕ
  r = (job_of s).region p q

  abbrev w : ℕ
  w = (job_of s).word p i q

  abbrev new : ℕ
  new = bit_or (regions_in s ws ((job_of s).region p q) ((job_of s).word p i q)) ((job_of s).mask p i q)

  abbrev ns : List ℕ
  ns = set ws (index_of s ((job_of s).region p q) ((job_of s).word p i q)) (bit_or (regions_in s ws ((job_of s).region p q) ((job_of s).word p i q)) ((job_of s).mask p i q))

  abbrev putter : Share
  putter = after_puts (i ∷ []) q h

  is : IsWord (job_of s) ((job_of s).region p q) ((job_of s).word p i q)
  is = (R.placed p i q item).inside

  pub sound_put : IsSoundBoard s parts ns (set hs id putter)
  sound_put = record {
    sized = length-set ws (index_of s r w) new ∙ f.sized;
    sound = subst (IsSound (job_of s) (drawn_of s ns) (done_of s ns) (regions_in s ns)) (sym (actors_set hs id putter))
        (agrees (job_of s) R (drawn_of s ws) (done_of s ws) (regions_in s ns) (drawn_of s ns) (done_of s ns) (regions_in s ns) (set (actors_of hs) id putter.actor)
        (λ o l. word_drawn s ws f.sized r w new is o l) (λ o l. word_done s ws f.sized r w new is o l) (λ o v there. refl)
        (puts (job_of s) R (drawn_of s ws) (done_of s ws) (regions_in s ws) (actors_of hs) f.sound id h.actor (actor_at hs id h at) p (i / s.morsel) i q held item refl
        (regions_in s ns) (word_here s ws f.sized r w new is) (λ o v there ne. word_else s ws f.sized r w new is o v there ne)
        putter.actor.puts (λ k x y e. listed_from h.actor.puts i q (is_listed i q h.actor.puts) k x y e)));
    all_parts = omega (arith, total-set (λ y. y.parts) hs id h putter at, f.all_parts);
    few = λ o l. omega (arith, word_drawn s ws f.sized r w new is o l, f.few o l, total-set (told_parts o) hs id h putter at);
    each = each_set (IsSoundShare s ns) hs id putter (λ k u a. grows s ws ns u same_drawn (f.each k u a))
        record { told = (grows s ws ns h same_drawn (f.each id h at)).told; live = λ z. absurd (omega arith) };
  }
    where
      same_drawn : (o : ℕ) → o < length s.pipes → drawn_of s ws o ≤ drawn_of s ns o
      same_drawn o l = omega (arith, word_drawn s ws f.sized r w new is o l)

-- ---- a run of items: their masks are or'd into one word, one after the other
abbrev mask_by : Shape → ℕ → ℕ → ℕ → ℕ
mask_by s p q i = (job_of s).mask p i q

abbrev spot_of : Shape → ℕ → ℕ → ℕ → ℕ
spot_of s p q i = index_of s ((job_of s).region p q) ((job_of s).word p i q)

module _ (s : Shape) (R : IsRight (job_of s)) (parts p q c : ℕ) where
  pub sound_puts : (items : List ℕ) (ws : List ℕ) (hs : List Share) → IsSoundBoard s parts ws hs → (id : ℕ) (h : Share) → get_elem? hs id ≡ some h → 0 < h.parts → c < word_count s
      → All (MayPut (job_of s) p q h.actor) items → All (λ i. c ≡ spot_of s p q i) items
      → IsSoundBoard s parts (set ws c (with_masks (mask_by s p q) (get_or ws c 0) items)) (set hs id (after_puts items q h))
  sound_puts [] ws hs f id h at part small may here =
      subst (λ (l : List ℕ). IsSoundBoard s parts l (set hs id h)) (sym (set-get_or ws c 0)) (sound_same s R parts ws hs f id h at)
  sound_puts (i ∷ items) ws hs f id h at part small may here =
      let m = may 0 0 (omega arith) in
      let first : IsSoundBoard s parts ns (set hs id g) = subst (λ (k : ℕ). IsSoundBoard s parts (set ws k (bit_or (get_or ws k 0) (mask_by s p q i))) (set hs id g)) (sym (here 0 0 (omega arith)))
      (sound_put s R parts ws hs f id h at p i q m.holds m.passing part) in
      let rest = sound_puts items ns (set hs id g) first id g (set_here hs id g (within hs id h at)) part small
      (λ k d l. let t = may (suc k) d (omega arith) in record { passing = t.passing; holds = t.holds }) (λ k d l. here (suc k) d (omega arith)) in
      subst (λ (x : List ℕ × List Share). IsSoundBoard s parts x.0 x.1) (λ k. (words k, set-set hs id g (after_puts (i ∷ items) q h) k)) rest
    where
      g : Share
      g = after_puts (i ∷ []) q h

      new : ℕ
      new = bit_or (get_or ws c 0) (mask_by s p q i)

      ns : List ℕ
      ns = set ws c new

      words : set ns c (with_masks (mask_by s p q) (get_or ns c 0) items) ≡ set ws c (with_masks (mask_by s p q) new items)
      words = set-set ws c new (with_masks (mask_by s p q) (get_or ns c 0) items) ∙ ap (λ (n : ℕ). set ws c (with_masks (mask_by s p q) n items)) (get_or-set_same ws c new 0 (omega (arith, small, f.sized)))

  module _ (items : List ℕ) (mask : ℕ) (is : mask ≡ with_masks (mask_by s p q) 0 items) (ws : List ℕ) (hs : List Share) (f : IsSoundBoard s parts ws hs)
      (id : ℕ) (h : Share) (at : get_elem? hs id ≡ some h) (part : 0 < h.parts) (small : c < word_count s)
      (may : All (MayPut (job_of s) p q h.actor) items) (here : All (λ i. c ≡ spot_of s p q i) items) where
    abbrev lister : Share
    lister = after_puts items q h

    abbrev was : ℕ
    was = get_or ws c 0

    -- the masks of all, or'd into the word at once
    pub sound_run : IsSoundBoard s parts (set ws c (bit_or was mask)) (set hs id lister)
    sound_run = subst (λ (n : ℕ). IsSoundBoard s parts (set ws c n) (set hs id lister)) (sym (ap (bit_or was) is ∙ sym (or_masks (mask_by s p q) was items)))
        (sound_puts items ws hs f id h at part small may here)

    -- where the word has the masks, the puts leave all words as they are
    sound_listed : bit_and was mask ≡ mask → IsSoundBoard s parts ws (set hs id lister)
    sound_listed has =
        let same : bit_or was mask ≡ was = omega (arith, or_add_and was mask, has) in
        subst (λ (l : List ℕ). IsSoundBoard s parts l (set hs id lister)) (ap (set ws c) same ∙ set-get_or ws c 0) sound_run

    -- a look that lists the puts where the word has the masks
    pub sound_found : IsSoundBoard s parts ws (set hs id (after_find items q mask h was))
    sound_found = elim (cases_Bool (bit_and was mask == mask)) [
      | inl has ↦ subst (λ b. IsSoundBoard s parts ws (set hs id (if b then lister else h))) (sym has) (sound_listed (eqb-true _ _ has))
      | inr lacks ↦ subst (λ b. IsSoundBoard s parts ws (set hs id (if b then lister else h))) (sym lacks) (sound_same s R parts ws hs f id h at)
    ]
