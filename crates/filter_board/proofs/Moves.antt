-- Each kind of step on a table keeps a sound board, as the table's calls ask.
use Rattle.std.proofs.Common.{◌≡◌, ℕ, ◌+◌, ◌%◌, ◌^◌, ◌<◌, ◌≤◌, List, [], All, length, sym, refl, ap, ◌∙◌, subst, set, get_or, false, arith}
use Rattle.std.specs.Prelude.{bit_or}
use Rattle.std.proofs.lemmas.List.{set-get_or}
use Rattle.atomic_table.specs.Table.{State, Me, keeps, opening, Allows, Splits, Joins, Seen, Final}
use Rattle.transfer_core.specs.Actors.{Holds, HasSeen, HoldsNone, is_marked}
use Rattle.transfer_core.specs.Job.{IsRight, IsWord, job_of}
use Rattle.transfer_core.specs.Plans.{Shape}
use Rattle.transfer_core.specs.Sealed.{sealed}
use Rattle.transfer_core.specs.Sound.{HasSeenReads}
use Rattle.transfer_core.specs.Steps.{ListsAllPuts}
use Rattle.filter_board.specs.declared.share.Share.{Share}
use Rattle.filter_board.specs.Layout.{done_of, index_of, word_count}
use Rattle.filter_board.specs.Rule.{IsSoundBoard}
use Rattle.filter_board.specs.Runs.{MayPut, with_masks}
use Rattle.filter_board.specs.Shares.{HasFinishedBelow, HasFinishedOnce, IsTold, after_draw, after_find, after_finish, after_look, after_puts, fresh, joined, less, piece, spent}
use Rattle.filter_board.proofs.DrawFacts.{draw_rises, draw_room, sound_drawn}
use Rattle.filter_board.proofs.FinishFacts.{finish_room, sound_finished}
use Rattle.filter_board.proofs.LookFacts.{alone_full, sealed_seen, sound_looked, sound_same, stands_once}
use Rattle.filter_board.proofs.PutFacts.{sound_found, sound_run}
use Rattle.filter_board.proofs.ShareFacts.{sound_join, sound_split, sound_start}

abbrev Kept : Shape → ℕ → State (Unit {0}) Share → Type 0
Kept s parts t = IsSoundBoard s parts t.words t.views

abbrev Seat : Type 0
Seat = Me (Unit {0}) Share

-- a load writes back what it found
unmoved : (s : Shape) (parts : ℕ) (t : State (Unit {0}) Share) (i id : ℕ) (h : Share) → IsSoundBoard s parts t.words (set t.views id h) → IsSoundBoard s parts (set t.words i (get_or t.words i 0)) (set t.views id h)
unmoved s parts t i id h f = subst (λ (ws : List ℕ). IsSoundBoard s parts ws (set t.views id h)) (sym (set-get_or t.words i 0)) f

module _ (s : Shape) (R : IsRight (job_of s)) (parts : ℕ) where
  abbrev Drew : ℕ → Seat → ℕ → Seat → Type 0
  Drew p me r after = (after ≡ (after_draw p ((job_of s).morsels p) me.0 r, me.1)) × HasFinishedBelow r p me.0.actor

  draws : (n id : ℕ) (me : Seat) (p : ℕ) → p < length s.pipes → (job_of s).morsels p + parts < 2 ^ 64 → HoldsNone me.0.actor → 0 < me.0.parts → HasSeenReads (job_of s) p me.0.actor → is_marked me.0.told p ≡ false → p < length me.0.told
      → Allows (Kept s parts) n id me p (λ i. (i + 1) % 2 ^ 64) (Drew p me)
  draws n id me p less small free part ready untold inside t f wide at _ =
      let c : ℕ = get_or t.words p 0 in
      let no_wrap : c + 1 ≡ (c + 1) % 2 ^ 64 = omega (arith, small, draw_room s R parts t.words t.views f id me.0 at p less free part untold) in (
        after_draw p ((job_of s).morsels p) me.0 c,
        keeps,
        tt,
        subst (λ (i : ℕ). IsSoundBoard s parts (set t.words p i) (set t.views id (after_draw p ((job_of s).morsels p) me.0 c))) no_wrap
            (sound_drawn s R parts t.words t.views f id me.0 at p less free part ready untold inside),
        (refl, draw_rises s R parts t.words t.views f id me.0 at p less),
      )

  puts : (n id : ℕ) (me : Seat) (p q c mask : ℕ) (items : List ℕ) → mask ≡ with_masks (λ i. (job_of s).mask p i q) 0 items → 0 < me.0.parts → c < word_count s
      → All (MayPut (job_of s) p q me.0.actor) items → All (λ i. c ≡ index_of s ((job_of s).region p q) ((job_of s).word p i q)) items
      → Allows (Kept s parts) n id me c (λ w. bit_or w mask) (λ r after. after ≡ (after_puts items q me.0, me.1))
  puts n id me p q c mask items is part small may here t f wide at _ =
      (after_puts items q me.0, keeps, tt, sound_run s R parts p q c items mask is t.words t.views f id me.0 at part small may here, refl)

  finds : (n id : ℕ) (me : Seat) (p q c mask : ℕ) (items : List ℕ) → mask ≡ with_masks (λ i. (job_of s).mask p i q) 0 items → 0 < me.0.parts → c < word_count s
      → All (MayPut (job_of s) p q me.0.actor) items → All (λ i. c ≡ index_of s ((job_of s).region p q) ((job_of s).word p i q)) items
      → Allows (Kept s parts) n id me c (λ w. w) (λ r after. after ≡ (after_find items q mask me.0 r, me.1))
  finds n id me p q c mask items is part small may here t f wide at _ =
      let h : Share = after_find items q mask me.0 (get_or t.words c 0) in
      (h, keeps, tt, unmoved s parts t c id h (sound_found s R parts p q c items mask is t.words t.views f id me.0 at part small may here), refl)

  finishes : (n id : ℕ) (me : Seat) (p m : ℕ) → (job_of s).morsels p < 2 ^ 32 → Holds me.0.actor p m → 0 < me.0.parts → ListsAllPuts (job_of s) p m me.0.actor
      → Allows (Kept s parts) n id me (length s.pipes + p) (λ i. (i + 1) % 2 ^ 64) (λ r after. after ≡ (after_finish me.0, me.1))
  finishes n id me p m small held part all_put t f wide at _ =
      let d : ℕ = done_of s t.words p in
      let no_wrap : d + 1 ≡ (d + 1) % 2 ^ 64 = omega (arith, small, finish_room s R parts t.words t.views f id me.0 at p m held part) in (
        after_finish me.0,
        keeps,
        tt,
        subst (λ (i : ℕ). IsSoundBoard s parts (set t.words (length s.pipes + p) i) (set t.views id (after_finish me.0))) no_wrap
            (sound_finished s R parts t.words t.views f id me.0 at p m held part all_put),
        refl,
      )

  abbrev Saw : ℕ → Seat → ℕ → Seat → Type 0
  Saw p me r after = (after ≡ (after_look p ((job_of s).morsels p) me.0 r, me.1)) × (me.0.parts ≡ parts → HoldsNone me.0.actor → IsTold me.0.told p → (job_of s).morsels p ≤ r)

  sees : (n id : ℕ) (me : Seat) (p : ℕ) → p < length s.pipes → 0 < me.0.parts → Allows (Kept s parts) n id me (length s.pipes + p) (λ i. i) (Saw p me)
  sees n id me p less part t f wide at _ =
      let r : ℕ = done_of s t.words p in (
        after_look p ((job_of s).morsels p) me.0 r,
        keeps,
        tt,
        unmoved s parts t (length s.pipes + p) id (after_look p ((job_of s).morsels p) me.0 r) (sound_looked s R parts t.words t.views f id me.0 at p less part),
        (refl, λ all free told. omega (arith, alone_full s R parts t.words t.views f id me.0 at p less free all told)),
      )

  looks : (n id : ℕ) (me : Seat) (r w : ℕ) → IsWord (job_of s) r w → HasSeen me.0.actor ((job_of s).owner r) → Allows (Kept s parts) n id me (index_of s r w) (λ x. x) (λ x after. (after ≡ me) × (x ≡ sealed s r w))
  looks n id me r w is seen t f wide at _ =
      (me.0, keeps, tt, unmoved s parts t (index_of s r w) id me.0 (sound_same s R parts t.words t.views f id me.0 at), (refl, sealed_seen s R parts t.words t.views f id me.0 at r w is seen))

  shows : (n id i : ℕ) (me : Seat) → Allows (Kept s parts) n id me i (λ x. x) (λ _ after. (after ≡ me) × HasFinishedOnce (length s.pipes) me.0.actor)
  shows n id i me t f wide at _ = (me.0, keeps, tt, unmoved s parts t i id me.0 (sound_same s R parts t.words t.views f id me.0 at), (refl, stands_once s R parts t.words t.views f id me.0 at))

-- ---- as the board's calls want them: the table's key has the board's plan and parts, and what a step is about was picked
module _ (a b : Shape) (m n : ℕ) (R : IsRight (job_of b)) (same : a ≡ b) (parts : m ≡ n) where
  pub draws_as : (slots id : ℕ) (me : Seat) (p one two : ℕ) → one ≡ p → two ≡ (job_of b).morsels p → p < length b.pipes → two + n < 2 ^ 64 → HoldsNone me.0.actor → 0 < me.0.parts → HasSeenReads (job_of b) p me.0.actor → is_marked me.0.told p ≡ false → p < length me.0.told
      → Allows (Kept a m) slots id me p (λ i. (i + 1) % 2 ^ 64) (λ r after. (after ≡ (after_draw one two me.0 r, me.1)) × HasFinishedBelow r one me.0.actor)
  draws_as slots id me p one two e h less small free part ready untold inside =
      subst (λ (x : Shape × ℕ × ℕ × ℕ). Allows (Kept x.0 x.1) slots id me p (λ i. (i + 1) % 2 ^ 64) (λ r after. (after ≡ (after_draw x.2 x.3 me.0 r, me.1)) × HasFinishedBelow r x.2 me.0.actor)) (λ y. (sym same y, sym parts y, sym e y, sym h y))
      (draws b R n slots id me p less (omega (arith, small, h)) free part ready untold inside)

  pub puts_as : (slots id : ℕ) (me : Seat) (p q c mask two : ℕ) (items one : List ℕ) → one ≡ items → two ≡ q → mask ≡ with_masks (λ i. (job_of b).mask p i q) 0 items → 0 < me.0.parts → c < word_count b
      → All (MayPut (job_of b) p q me.0.actor) items → All (λ i. c ≡ index_of b ((job_of b).region p q) ((job_of b).word p i q)) items
      → Allows (Kept a m) slots id me c (λ w. bit_or w mask) (λ r after. after ≡ (after_puts one two me.0, me.1))
  puts_as slots id me p q c mask two items one e h is part small may here =
      subst (λ (x : Shape × ℕ × List ℕ × ℕ). Allows (Kept x.0 x.1) slots id me c (λ w. bit_or w mask) (λ r after. after ≡ (after_puts x.2 x.3 me.0, me.1))) (λ y. (sym same y, sym parts y, sym e y, sym h y))
      (puts b R n slots id me p q c mask items is part small may here)

  pub finds_as : (slots id : ℕ) (me : Seat) (p q c mask two three : ℕ) (items one : List ℕ) → one ≡ items → two ≡ q → three ≡ mask → mask ≡ with_masks (λ i. (job_of b).mask p i q) 0 items → 0 < me.0.parts → c < word_count b
      → All (MayPut (job_of b) p q me.0.actor) items → All (λ i. c ≡ index_of b ((job_of b).region p q) ((job_of b).word p i q)) items
      → Allows (Kept a m) slots id me c (λ w. w) (λ r after. after ≡ (after_find one two three me.0 r, me.1))
  finds_as slots id me p q c mask two three items one e h g is part small may here =
      subst (λ (x : Shape × ℕ × List ℕ × ℕ × ℕ). Allows (Kept x.0 x.1) slots id me c (λ w. w) (λ r after. after ≡ (after_find x.2 x.3 x.4 me.0 r, me.1))) (λ y. (sym same y, sym parts y, sym e y, sym h y, sym g y))
      (finds b R n slots id me p q c mask items is part small may here)

  pub finishes_as : (slots id : ℕ) (me : Seat) (p k at : ℕ) → at ≡ length b.pipes + p → (job_of b).morsels p < 2 ^ 32 → Holds me.0.actor p k → 0 < me.0.parts → ListsAllPuts (job_of b) p k me.0.actor
      → Allows (Kept a m) slots id me at (λ i. (i + 1) % 2 ^ 64) (λ r after. after ≡ (after_finish me.0, me.1))
  finishes_as slots id me p k at c small held part all_put =
      subst (λ (x : Shape × ℕ × ℕ). Allows (Kept x.0 x.1) slots id me x.2 (λ i. (i + 1) % 2 ^ 64) (λ r after. after ≡ (after_finish me.0, me.1))) (λ y. (sym same y, sym parts y, sym c y))
      (finishes b R n slots id me p k small held part all_put)

  pub sees_as : (slots id : ℕ) (me : Seat) (p at one two three : ℕ) → at ≡ length b.pipes + p → one ≡ p → two ≡ (job_of b).morsels p → three ≡ n → p < length b.pipes → 0 < me.0.parts
      → Allows (Kept a m) slots id me at (λ i. i) (λ r after. (after ≡ (after_look one two me.0 r, me.1)) × (me.0.parts ≡ three → HoldsNone me.0.actor → IsTold me.0.told one → two ≤ r))
  sees_as slots id me p at one two three c e h d less part =
      subst (λ (x : Shape × ℕ × ℕ × ℕ × ℕ × ℕ). Allows (Kept x.0 x.1) slots id me x.2 (λ i. i) (λ r after. (after ≡ (after_look x.3 x.4 me.0 r, me.1)) × (me.0.parts ≡ x.5 → HoldsNone me.0.actor → IsTold me.0.told x.3 → x.4 ≤ r))) (λ y. (sym same y, sym parts y, sym c y, sym e y, sym h y, sym d y))
      (sees b R n slots id me p less part)

  pub looks_as : (slots id : ℕ) (me : Seat) (r w at one : ℕ) → at ≡ index_of b r w → one ≡ sealed b r w → IsWord (job_of b) r w → HasSeen me.0.actor ((job_of b).owner r)
      → Allows (Kept a m) slots id me at (λ x. x) (λ x after. (after ≡ me) × (x ≡ one))
  looks_as slots id me r w at one c e is seen =
      subst (λ (x : Shape × ℕ × ℕ × ℕ). Allows (Kept x.0 x.1) slots id me x.2 (λ i. i) (λ r after. (after ≡ me) × (r ≡ x.3))) (λ y. (sym same y, sym parts y, sym c y, sym e y))
      (looks b R n slots id me r w is seen)

  pub shows_as : (slots id i : ℕ) (me : Seat) (one : ℕ) → one ≡ length b.pipes
      → Allows (Kept a m) slots id me i (λ x. x) (λ _ after. (after ≡ me) × HasFinishedOnce one me.0.actor)
  shows_as slots id i me one e =
      subst (λ (x : Shape × ℕ × ℕ). Allows (Kept x.0 x.1) slots id me i (λ x. x) (λ _ after. (after ≡ me) × HasFinishedOnce x.2 me.0.actor)) (λ y. (sym same y, sym parts y, sym e y))
      (shows b R n slots id i me)

  pub splits_as : (id : ℕ) (h : Share) (k one : ℕ) → one ≡ k → 0 < k → k < h.parts → Splits (Kept a m) id h (less one h) (piece one h)
  splits_as id h k one e some_part fewer =
      subst (λ (x : Shape × ℕ × ℕ). Splits (Kept x.0 x.1) id h (less x.2 h) (piece x.2 h)) (λ y. (sym same y, sym parts y, sym e y))
      (λ t f at. sound_split b n t.words t.views f id h at k some_part fewer)

  pub joins_as : (id : ℕ) (h : Share) (other : ℕ) (g : Share) → HoldsNone h.actor → HoldsNone g.actor → 0 < h.parts → Joins (Kept a m) id h other g (joined h g) spent
  joins_as id h other g free free_too some_part =
      subst (λ (x : Shape × ℕ). Joins (Kept x.0 x.1) id h other g (joined h g) spent) (λ y. (sym same y, sym parts y))
      (λ t f at apart there. sound_join b n t.words t.views f id h at other g apart there free free_too some_part)

  -- the words of a table whose pipes were all seen full
  pub closes_as : (id : ℕ) (h : Share) (ws : List ℕ) (xs : List (Unit {0})) → ((p : ℕ) → p < length b.pipes → HasSeen h.actor p) → Final (Seen (Kept a m) id h) ws xs
      → (r w : ℕ) → IsWord (job_of b) r w → get_or ws (index_of b r w) 0 ≡ sealed b r w
  closes_as id h ws xs seen end r w is =
      let e : Final (Seen (Kept b n) id h) ws xs = subst (λ (x : Shape × ℕ). Final (Seen (Kept x.0 x.1) id h) ws xs) (λ y. (same y, parts y)) end in
      ap (λ (l : List ℕ). get_or l (index_of b r w) 0) (sym e.2) ∙ sealed_seen b R n e.0.words e.0.views e.1.0 id h e.1.1 r w is (seen ((job_of b).owner r) (R.owned r is.0))

pub begins_as : (s : Shape) (parts : ℕ) (ws : List ℕ) → IsRight (job_of s) → length ws ≡ word_count s → ((k : ℕ) → get_or ws k 0 ≡ 0) → 0 < parts → Kept s parts (opening ws [] (fresh parts))
begins_as s parts ws R sized zeros some_part = sound_start s R parts ws sized zeros some_part
