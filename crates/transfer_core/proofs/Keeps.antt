-- Each step keeps a sound state.
use Rattle.std.proofs.Common.{◌≡◌, ℕ, zero, suc, ◌+◌, ◌/◌, ◌<◌, ◌≤◌, ◌≢◌, ◌⊎◌, List, [], ◌∷◌, ◌++◌, length, get_or, set, min, Bool, true, false, sym, refl, ap, ◌∙◌, subst, ⊎_elim, arith, eqb, eq-eqb, ne_eqb, true≢false, length-append}
use Rattle.std.specs.Prelude.{bit_or}
use Rattle.std.proofs.lemmas.Nat.Bits.{bit_at-zero}
use mathlib.Core.Logic.{dite}
use native.Mathlib.Decide.{ℕ_discrete, dec_le}
use mathlib.Core.Option.{some, some-injective, some-ne-none}
use lib.ListN.{get_elem?}
use Rattle.transfer_core.specs.Actors.{Actor, actor, holding, is_marked, morsels_of, nothing}
use Rattle.transfer_core.specs.Counts.{Lies, one_if_below, only, times, total}
use Rattle.transfer_core.specs.Job.{IsPassing, IsRight, IsWord, Job}
use Rattle.transfer_core.specs.Sound.{IsSound, IsSoundActor, morsels_at}
use Rattle.transfer_core.proofs.Lists.{at_set, at_snoc}
use Rattle.transfer_core.proofs.Sums.{below_next, below_no, below_yes, kept_if, only_no, times-append, total-set}
use Rattle.transfer_core.proofs.Masks.{lies_same, lies_through, lies_left, lies_right, lies_or, lies_both, is_marked-added, is_marked-kept}
use Rattle.transfer_core.proofs.Full.{short, full, flat, times-flat, length-flat}

-- the morsels of one pipe
kept-append : (c : Bool) (m : ℕ) (a b : List ℕ) → kept_if c m (a ++ b) ≡ kept_if c m a ++ b
kept-append true m a b = refl
kept-append false m a b = refl

morsels-append : (p : ℕ) (a b : List (ℕ × ℕ)) → morsels_of p (a ++ b) ≡ morsels_of p a ++ morsels_of p b
morsels-append p [] b = refl
morsels-append p (x ∷ xs) b = ap (kept_if (eqb x.0 p) x.1) (morsels-append p xs b) ∙ kept-append (eqb x.0 p) x.1 (morsels_of p xs) (morsels_of p b)

pub morsels_one : (p m : ℕ) → morsels_of p ((p, m) ∷ []) ≡ m ∷ []
morsels_one p m = ap (λ (b : Bool). kept_if b m []) (eq-eqb p p refl)

pub morsels_none : (p q m : ℕ) → p ≢ q → morsels_of q ((p, m) ∷ []) ≡ []
morsels_none p q m ne = ap (λ (b : Bool). kept_if b m []) (ne_eqb p q ne)

pub times-morsels : (x p : ℕ) (a b : List (ℕ × ℕ)) → times x (morsels_of p (a ++ b)) ≡ times x (morsels_of p a) + times x (morsels_of p b)
times-morsels x p a b = ap (times x) (morsels-append p a b) ∙ times-append x (morsels_of p a) (morsels_of p b)

pub length-morsels : (p : ℕ) (a b : List (ℕ × ℕ)) → length (morsels_of p (a ++ b)) ≡ length (morsels_of p a) + length (morsels_of p b)
length-morsels p a b = ap length (morsels-append p a b) ∙ length-append (morsels_of p a) (morsels_of p b)

pub times-morsels_at : (x p : ℕ) (a : Actor) → times x (morsels_at p a) ≡ times x (morsels_of p a.held) + times x (morsels_of p a.finished)
times-morsels_at x p a = times-append x (morsels_of p a.held) (morsels_of p a.finished)

below_mono : (x m n : ℕ) → m ≤ n → one_if_below x m ≤ one_if_below x n
below_mono x m n h = dite (dec_le m x) (λ out. omega (arith, below_no x m out)) (λ inside. omega (arith, below_yes x m (omega arith), below_yes x n (omega arith)))

-- the facts on each actor, where one changes
pub each_set : {A : Type 0} (P : A → Type 0) (xs : List A) (id : ℕ) (w : A) → ((k : ℕ) (u : A) → get_elem? xs k ≡ some u → P u) → P w → (k : ℕ) (u : A) → get_elem? (set xs id w) k ≡ some u → P u
each_set P xs id w others mine k u e = ⊎_elim (λ t. subst P t.1 mine) (λ t. others k u t.1) (at_set xs id k w u e)

pub each_snoc : {A : Type 0} (P : A → Type 0) (xs : List A) (w : A) → ((k : ℕ) (u : A) → get_elem? xs k ≡ some u → P u) → P w → (k : ℕ) (u : A) → get_elem? (xs ++ w ∷ []) k ≡ some u → P u
each_snoc P xs w others mine k u e = ⊎_elim (λ t. others k u t) (λ t. subst P t mine) (at_snoc xs w u k e)

pub first_is : (p m q n : ℕ) → holding p m ≡ holding q n → (p ≡ q) × (m ≡ n)
first_is p m q n e = (ap (λ (l : List (ℕ × ℕ)). (get_or l 0 (p, m)).0) e, ap (λ (l : List (ℕ × ℕ)). (get_or l 0 (p, m)).1) e)

pub nothing_held : (p m : ℕ) (F : Type 0) → nothing ≡ holding p m → F
nothing_held p m F e = absurd (omega (arith, ap (λ (l : List (ℕ × ℕ)). length l) e))

module _ (j : Job) (R : IsRight j) where
  abbrev Numbers : Type 0
  Numbers = ℕ → ℕ

  abbrev Words : Type 0
  Words = ℕ → ℕ → ℕ

  -- numbers and words that have grown
  pub record Grown (done : Numbers) (word : Words) (done' : Numbers) (word' : Words) : Type 0 where
    pub dones : (p : ℕ) → p < j.pipes → done p ≡ j.morsels p → done' p ≡ j.morsels p
    pub words : (r w : ℕ) → IsWord j r w → Lies (word r w) (word' r w)

  pub fits_grown : (done : Numbers) (word : Words) (done' : Numbers) (word' : Words) (a : Actor) → Grown done word done' word' → IsSoundActor j done word a → IsSoundActor j done' word' a
  fits_grown done word done' word' a g f = record {
    kept = λ p i q it h. lies_through _ _ _ (f.kept p i q it h) (g.words (j.region p q) (j.word p i q) (R.placed p i q it).inside);
    listed = λ p m e k i q b. let t = f.listed p m e k i q b in (t.0, t.1, lies_through _ _ _ t.2 (g.words (j.region p q) (j.word p i q) (R.placed p i q t.0).inside));
    ready = f.ready;
    finished = f.finished;
    full = λ p h. let t = f.full p h in (t.0, g.dones p t.0 t.1);
  }

  module _ (next done : Numbers) (word : Words) (vs : List Actor) (f : IsSound j next done word vs) where
    -- all morsels that stand, of one pipe
    stand_le : (p x : ℕ) → p < j.pipes → times x (flat (morsels_at p) vs) ≤ one_if_below x (j.morsels p)
    stand_le p x less = omega (arith, times-flat (morsels_at p) vs x, f.once p x less, below_mono x (min (next p) (j.morsels p)) (j.morsels p) (omega arith))

    finished_le : (p x : ℕ) → p < j.pipes → times x (flat (λ a. morsels_of p a.finished) vs) ≤ one_if_below x (j.morsels p)
    finished_le p x less = omega (arith, times-flat (λ a. morsels_of p a.finished) vs x, times-flat (morsels_at p) vs x, stand_le p x less, fewer vs)
      where
        fewer : (bs : List Actor) → total (λ a. times x (morsels_of p a.finished)) bs ≤ total (λ a. times x (morsels_at p a)) bs
        fewer [] = omega arith
        fewer (b ∷ bs) = omega (arith, times-morsels_at x p b, fewer bs)

    pub done_le : (p : ℕ) → p < j.pipes → done p ≤ j.morsels p
    done_le p less = omega (arith, f.counted p less, length-flat (λ a. morsels_of p a.finished) vs, short (flat (λ a. morsels_of p a.finished) vs) (j.morsels p) (λ x. finished_le p x less))

    -- while a morsel of it is held a pipe is not full
    pub not_full : (id : ℕ) (v : Actor) (p m : ℕ) → get_elem? vs id ≡ some v → p < j.pipes → v.held ≡ holding p m → done p + 1 ≤ j.morsels p
    not_full id v p m at less e =
        omega (
          arith,
          f.counted p less,
          length-flat (morsels_at p) vs,
          short (flat (morsels_at p) vs) (j.morsels p) (λ x. stand_le p x less),
          more vs id at,
        )
      where
        mine : length (morsels_at p v) ≡ 1 + length (morsels_of p v.finished)
        mine = length-append (morsels_of p v.held) (morsels_of p v.finished) ∙ ap (λ (l : List ℕ). length l + length (morsels_of p v.finished)) (ap (morsels_of p) e ∙ morsels_one p m)

        all : (bs : List Actor) → total (λ u. length (morsels_of p u.finished)) bs ≤ total (λ u. length (morsels_at p u)) bs
        all [] = omega arith
        all (u ∷ us) = omega (arith, length-append (morsels_of p u.held) (morsels_of p u.finished), all us)

        more : (bs : List Actor) (k : ℕ) → get_elem? bs k ≡ some v → total (λ u. length (morsels_of p u.finished)) bs + 1 ≤ total (λ u. length (morsels_at p u)) bs
        more [] k a = absurd (some-ne-none v (sym a))
        more (u ∷ us) zero a = let same = some-injective u v a in omega (arith, mine, ap (λ (y : Actor). length (morsels_at p y)) same, ap (λ (y : Actor). length (morsels_of p y.finished)) same, all us)
        more (u ∷ us) (suc k) a = omega (arith, length-append (morsels_of p u.held) (morsels_of p u.finished), more us k a)

    some_one : (g : Actor → ℕ) (bs : List Actor) → 0 < total g bs → (k : ℕ) × (u : Actor) × (get_elem? bs k ≡ some u) × (0 < g u)
    some_one g [] h = absurd (omega arith)
    some_one g (v ∷ vs) h = dite (ℕ_discrete (g v) 0) (λ z. let t = some_one g vs (omega arith) in (suc t.0, t.1, t.2, t.3)) (λ ne. (0, v, refl, omega arith))

    -- the words of a full pipe are the sealed ones
    pub sealed_word : (r w : ℕ) → IsWord j r w → done (j.owner r) ≡ j.morsels (j.owner r) → word r w ≡ j.sealed r w
    sealed_word r w is all = lies_both _ _ (f.inside r w is) (R.least r w (word r w) is has_mask)
      where
        has_mask : (i q : ℕ) → IsPassing j (j.owner r) i q → j.region (j.owner r) q ≡ r → j.word (j.owner r) i q ≡ w → Lies (j.mask (j.owner r) i q) (word r w)
        has_mask i q it e h =
            let ms = flat (λ a. morsels_of (j.owner r) a.finished) vs in
            let there : 0 < times (i / j.size) ms = full ms (j.morsels (j.owner r)) (λ x. finished_le (j.owner r) x (R.owned r is.0))
            (sym (f.counted (j.owner r) (R.owned r is.0) ∙ sym (length-flat (λ a. morsels_of (j.owner r) a.finished) vs)) ∙ all) (i / j.size) (R.cut (j.owner r) i it.0 it.1) in
            let who = some_one (λ a. times (i / j.size) (morsels_of (j.owner r) a.finished)) vs (omega (arith, there, times-flat (λ a. morsels_of (j.owner r) a.finished) vs (i / j.size))) in
            lies_through _ _ _ ((f.each who.0 who.1 who.2).kept (j.owner r) i q it who.3) (lies_same _ _ (λ k. word (e k) (h k)))

    -- what an actor reads of a region whose pipe it has seen full is the sealed word
    pub looks : (id : ℕ) (v : Actor) → get_elem? vs id ≡ some v → (r w : ℕ) → IsWord j r w → is_marked v.seen (j.owner r) ≡ true → word r w ≡ j.sealed r w
    looks id v at r w is seen = sealed_word r w is ((f.each id v at).full (j.owner r) seen).1

    -- where a step leaves the actor's numbers alone
    same_totals : (id : ℕ) (v w : Actor) (g : Actor → ℕ) → get_elem? vs id ≡ some v → g w ≡ g v → total g (set vs id w) ≡ total g vs
    same_totals id v w g at e = omega (arith, total-set g vs id v w at, e)

    -- ---- draw: `next` goes up by one
    module _ (id : ℕ) (v : Actor) (at : get_elem? vs id ≡ some v) (p : ℕ) (less : p < j.pipes) (next' : Numbers) (here : next' p ≡ next p + 1) (others : (q : ℕ) → q ≢ p → next' q ≡ next q) where
      abbrev won : Actor
      won = actor (holding p (next p)) [] v.finished v.seen

      module _ (free : v.held ≡ nothing) where
        stands_won : (x : ℕ) → times x (morsels_at p won) ≡ only (next p) x + times x (morsels_at p v)
        stands_won x = omega (arith, times-morsels_at x p won, times-morsels_at x p v, ap (times x) (morsels_one p (next p)), ap (λ (l : List (ℕ × ℕ)). times x (morsels_of p l)) free)

        stands_else : (q x : ℕ) → q ≢ p → times x (morsels_at q won) ≡ times x (morsels_at q v)
        stands_else q x ne = omega (arith, times-morsels_at x q won, times-morsels_at x q v, ap (times x) (morsels_none p q (next p) (λ e. ne (sym e))), ap (λ (l : List (ℕ × ℕ)). times x (morsels_of q l)) free)

        pub draws : ((o : ℕ) → j.reads p o ≡ true → is_marked v.seen o ≡ true) → next p < j.morsels p → IsSound j next' done word (set vs id won)
        draws ready left = record {
          once = λ q x l. dite (ℕ_discrete q p)
              (λ e. subst (λ (r : ℕ). total (λ y. times x (morsels_at r y)) (set vs id won) ≡ one_if_below x (min (next' r) (j.morsels r))) (sym e)
              (omega (
                arith,
                total-set (λ y. times x (morsels_at p y)) vs id v won at,
                stands_won x,
                f.once p x less,
                below_next x (next p),
                ap (one_if_below x) (let a : min (next p) (j.morsels p) ≡ next p = omega arith in a),
                ap (λ (n : ℕ). one_if_below x (min n (j.morsels p))) here,
                ap (one_if_below x) (let a : min (next p + 1) (j.morsels p) ≡ next p + 1 = omega arith in a),
              )))
              (λ ne. omega (arith, total-set (λ y. times x (morsels_at q y)) vs id v won at, stands_else q x ne, f.once q x l, ap (λ (n : ℕ). one_if_below x (min n (j.morsels q))) (others q ne)));
          counted = λ q l. omega (arith, total-set (λ y. length (morsels_of q y.finished)) vs id v won at, f.counted q l);
          inside = f.inside;
          each = each_set (IsSoundActor j done word) vs id won f.each (let g = f.each id v at in record {
            kept = g.kept;
            listed = λ q m e k i o a. absurd (some-ne-none (i, o) (sym a));
            ready = λ q m e. let t = first_is p (next p) q m e in (subst (λ (n : ℕ). n < j.pipes) t.0 less, subst (λ (n : ℕ). (o : ℕ) → j.reads n o ≡ true → is_marked v.seen o ≡ true) t.0 ready);
            finished = g.finished;
            full = g.full;
          });
        }

      -- past the last morsel nobody gets one
      pub draws_none : j.morsels p ≤ next p → IsSound j next' done word vs
      draws_none reached = record {
        once = λ q x l. dite (ℕ_discrete q p)
            (λ e. subst (λ (r : ℕ). total (λ y. times x (morsels_at r y)) vs ≡ one_if_below x (min (next' r) (j.morsels r))) (sym e)
            (omega (
              arith,
              f.once p x less,
              ap (one_if_below x) (let a : min (next p) (j.morsels p) ≡ j.morsels p = omega arith in a),
              ap (λ (n : ℕ). one_if_below x (min n (j.morsels p))) here,
              ap (one_if_below x) (let a : min (next p + 1) (j.morsels p) ≡ j.morsels p = omega arith in a),
            )))
            (λ ne. omega (arith, f.once q x l, ap (λ (n : ℕ). one_if_below x (min n (j.morsels q))) (others q ne)));
        counted = f.counted;
        inside = f.inside;
        each = f.each;
      }

    -- ---- put: the mask is or'd into the item's word
    module _ (id : ℕ) (v : Actor) (at : get_elem? vs id ≡ some v) (p m i q : ℕ) (held : v.held ≡ holding p m) (item : IsPassing j p i q) (in_morsel : i / j.size ≡ m) (word' : Words)
        (here : word' (j.region p q) (j.word p i q) ≡ bit_or (word (j.region p q) (j.word p i q)) (j.mask p i q))
        (others : (r w : ℕ) → IsWord j r w → ((r ≡ j.region p q) → (w ≡ j.word p i q) → ⊥) → word' r w ≡ word r w) where
      abbrev was : ℕ
      was = word (j.region p q) (j.word p i q)

      abbrev mask : ℕ
      mask = j.mask p i q

      by_word : (P : ℕ → ℕ → Type 0) (r w : ℕ) → IsWord j r w → P (j.region p q) (j.word p i q) → (word' r w ≡ word r w → P r w) → P r w
      by_word P r w is mine other = dite (ℕ_discrete r (j.region p q))
          (λ e. dite (ℕ_discrete w (j.word p i q)) (λ h. subst (λ (t : ℕ × ℕ). P t.0 t.1) (λ k. (sym e k, sym h k)) mine) (λ ne. other (others r w is (λ _ h. ne h))))
          (λ ne. other (others r w is (λ e _. ne e)))

      pub grown_put : Grown done word done word'
      grown_put = record {
        dones = λ r l e. e;
        words = λ r w is. by_word (λ r w. Lies (word r w) (word' r w)) r w is
            (lies_through _ _ _ (lies_left was mask) (lies_same _ _ (sym here)))
            (λ e. lies_same _ _ (sym e));
      }

      mask_in : Lies mask (word' (j.region p q) (j.word p i q))
      mask_in = lies_through _ _ _ (lies_right was mask) (lies_same _ _ (sym here))

      inside_put : (r w : ℕ) → IsWord j r w → Lies (word' r w) (j.sealed r w)
      inside_put r w is = by_word (λ r w. Lies (word' r w) (j.sealed r w)) r w is
          (lies_through _ _ _ (lies_same _ _ here) (lies_or was mask _ (f.inside (j.region p q) (j.word p i q) (R.placed p i q item).inside) (R.placed p i q item).sealed))
          (λ e. lies_through _ _ _ (lies_same _ _ e) (f.inside r w is))

      module _ (puts' : List (ℕ × ℕ)) (from : (k a b : ℕ) → get_elem? puts' k ≡ some (a, b) → ((n : ℕ) × (get_elem? v.puts n ≡ some (a, b))) ⊎ (holding i q ≡ holding a b)) where
        abbrev putter : Actor
        putter = actor v.held puts' v.finished v.seen

        fits_put : IsSoundActor j done word' putter
        fits_put = let g = fits_grown done word done word' v grown_put (f.each id v at) in record {
          kept = g.kept;
          listed = λ o n e k a b h. ⊎_elim
              (λ old. g.listed o n e old.0 a b old.1)
              (λ (same : holding i q ≡ holding a b). let t = first_is p m o n (sym held ∙ e) in let u = first_is i q a b same in
              subst (λ (x : ℕ × ℕ). IsPassing j x.0 a b × (a / j.size ≡ x.1) × Lies (j.mask x.0 a b) (word' (j.region x.0 b) (j.word x.0 a b))) (λ y. (t.0 y, t.1 y))
              (subst (λ (x : ℕ × ℕ). IsPassing j p x.0 x.1 × (x.0 / j.size ≡ m) × Lies (j.mask p x.0 x.1) (word' (j.region p x.1) (j.word p x.0 x.1))) (λ y. (u.0 y, u.1 y)) (item, in_morsel, mask_in)))
              (from k a b h);
          ready = g.ready;
          finished = g.finished;
          full = g.full;
        }

        pub puts : IsSound j next done word' (set vs id putter)
        puts = record {
          once = λ r x l. omega (arith, same_totals id v putter (λ y. times x (morsels_at r y)) at refl, f.once r x l);
          counted = λ r l. omega (arith, same_totals id v putter (λ y. length (morsels_of r y.finished)) at refl, f.counted r l);
          inside = inside_put;
          each = each_set (IsSoundActor j done word') vs id putter (λ k u a. fits_grown done word done word' u grown_put (f.each k u a)) fits_put;
        }

    -- ---- finish: `done` goes up by one
    module _ (id : ℕ) (v : Actor) (at : get_elem? vs id ≡ some v) (p m : ℕ) (held : v.held ≡ holding p m) (done' : Numbers) (here : done' p ≡ done p + 1) (others : (q : ℕ) → q ≢ p → done' q ≡ done q) where
      abbrev ended : Actor
      ended = actor [] [] (v.finished ++ v.held) v.seen

      less_end : p < j.pipes
      less_end = ((f.each id v at).ready p m held).0

      grown_end : Grown done word done' word
      grown_end = record {
        dones = λ q l e. dite (ℕ_discrete q p) (λ same. absurd (omega (arith, not_full id v p m at less_end held, ap done same, ap j.morsels same, e))) (λ ne. others q ne ∙ e);
        words = λ r w is. lies_same _ _ refl;
      }

      held_times : (q x : ℕ) → 0 < times x (morsels_of q v.held) → (q ≡ p) × (x ≡ m)
      held_times q x h = dite (ℕ_discrete p q)
          (λ e. (sym e, dite (ℕ_discrete m x) (λ y. sym y) (λ ne. absurd (omega (arith, h, ap (λ (l : List (ℕ × ℕ)). times x (morsels_of q l)) held, ap (λ (n : ℕ). times x (morsels_of n (holding p m))) (sym e), ap (times x) (morsels_one p m), only_no x m ne)))))
          (λ ne. absurd (omega (arith, h, ap (λ (l : List (ℕ × ℕ)). times x (morsels_of q l)) held, ap (times x) (morsels_none p q m ne))))

      fits_end : ((i q : ℕ) → IsPassing j p i q → i / j.size ≡ m → (k : ℕ) × (get_elem? v.puts k ≡ some (i, q))) → IsSoundActor j done' word ended
      fits_end all_put = let g = fits_grown done word done' word v grown_end (f.each id v at) in record {
        kept = λ o i q it h. dite (ℕ_discrete (times (i / j.size) (morsels_of o v.finished)) 0)
            (λ z. let t = held_times o (i / j.size) (omega (arith, h, z, times-morsels (i / j.size) o v.finished v.held)) in
            let it' : IsPassing j p i q = subst (λ (n : ℕ). IsPassing j n i q) t.0 it in
            let k = all_put i q it' t.1 in
            subst (λ (n : ℕ). Lies (j.mask n i q) (word (j.region n q) (j.word n i q))) (sym t.0) (g.listed p m held k.0 i q k.1).2)
            (λ ne. g.kept o i q it (omega arith));
        listed = λ o n e. nothing_held o n _ e;
        ready = λ o n e. nothing_held o n _ e;
        finished = λ o n h. dite (ℕ_discrete (times n (morsels_of o v.finished)) 0)
            (λ z. let t = held_times o n (omega (arith, h, z, times-morsels n o v.finished v.held)) in omega (arith, t.0, less_end))
            (λ ne. g.finished o n (omega arith));
        full = g.full;
      }

      pub finishes : ((i q : ℕ) → IsPassing j p i q → i / j.size ≡ m → (k : ℕ) × (get_elem? v.puts k ≡ some (i, q))) → IsSound j next done' word (set vs id ended)
      finishes all_put = record {
        once = λ r x l. omega (
          arith,
          same_totals id v ended (λ y. times x (morsels_at r y)) at (omega (arith, times-morsels_at x r v, times-morsels_at x r ended, times-morsels x r v.finished v.held)),
          f.once r x l,
        );
        counted = λ r l. dite (ℕ_discrete r p)
            (λ e. subst (λ (n : ℕ). done' n ≡ total (λ y. length (morsels_of n y.finished)) (set vs id ended)) (sym e)
            (omega (arith, here, f.counted p less_end, total-set (λ y. length (morsels_of p y.finished)) vs id v ended at, length-morsels p v.finished v.held, ap (λ (t : List (ℕ × ℕ)). length (morsels_of p t)) held, ap length (morsels_one p m))))
            (λ ne. omega (
              arith,
              others r ne,
              f.counted r l,
              total-set (λ y. length (morsels_of r y.finished)) vs id v ended at,
              length-morsels r v.finished v.held,
              ap (λ (t : List (ℕ × ℕ)). length (morsels_of r t)) held,
              ap length (morsels_none p r m (λ e. ne (sym e))),
            ));
        inside = f.inside;
        each = each_set (IsSoundActor j done' word) vs id ended (λ k u a. fits_grown done word done' word u grown_end (f.each k u a)) (fits_end all_put);
      }

    -- ---- see: the pipe joins those that were seen, where it is full
    pub sees : (id : ℕ) (v : Actor) → get_elem? vs id ≡ some v → (p : ℕ) → p < j.pipes → j.morsels p ≤ done p → IsSound j next done word (set vs id (actor v.held v.puts v.finished (set v.seen p true)))
    sees id v at p less all = let w = actor v.held v.puts v.finished (set v.seen p true) in let g = f.each id v at in record {
      once = λ r x l. omega (arith, same_totals id v w (λ y. times x (morsels_at r y)) at refl, f.once r x l);
      counted = λ r l. omega (arith, same_totals id v w (λ y. length (morsels_of r y.finished)) at refl, f.counted r l);
      inside = f.inside;
      each = each_set (IsSoundActor j done word) vs id w f.each record {
        kept = g.kept;
        listed = g.listed;
        ready = λ o m e. let t = g.ready o m e in (t.0, λ r h. is_marked-kept v.seen p r (t.1 r h));
        finished = g.finished;
        full = λ q h. dite (ℕ_discrete q p) (λ e. (omega (arith, e), omega (arith, done_le p less, ap done e, ap j.morsels e))) (λ ne. g.full q (is_marked-added v.seen p q h ne));
      };
    }

  -- ---- the start: nothing was drawn, finished or put, and no actor knows anything
  zero_lies : (n : ℕ) → Lies 0 n
  zero_lies n i = omega (arith, bit_at-zero i)

  pub record IsNew (a : Actor) : Type 0 where
    pub held : a.held ≡ nothing
    pub finished : a.finished ≡ nothing
    pub unseen : (p : ℕ) → is_marked a.seen p ≡ false

  pub begins : (next done : Numbers) (word : Words) (vs : List Actor) → ((p : ℕ) → next p ≡ 0) → ((p : ℕ) → done p ≡ 0) → ((r w : ℕ) → word r w ≡ 0) → ((k : ℕ) (a : Actor) → get_elem? vs k ≡ some a → IsNew a) → IsSound j next done word vs
  begins next done word vs no_next no_done no_word new = record {
    once = λ p x l. omega (arith, none_stands p x vs new, below_no x (min (next p) (j.morsels p)) (omega (arith, no_next p)));
    counted = λ p l. omega (arith, no_done p, none_finished p vs new);
    inside = λ r w is. lies_through _ _ _ (lies_same _ _ (no_word r w)) (zero_lies (j.sealed r w));
    each = λ k a e. let n = new k a e in record {
      kept = λ p i q it h. absurd (omega (arith, h, ap (λ (l : List (ℕ × ℕ)). times (i / j.size) (morsels_of p l)) n.finished));
      listed = λ p m h. nothing_held p m _ (sym n.held ∙ h);
      ready = λ p m h. nothing_held p m _ (sym n.held ∙ h);
      finished = λ p m h. absurd (omega (arith, h, ap (λ (l : List (ℕ × ℕ)). times m (morsels_of p l)) n.finished));
      full = λ p h. absurd (true≢false (sym h ∙ n.unseen p));
    };
  }
    where
      none_stands : (p x : ℕ) (bs : List Actor) → ((k : ℕ) (a : Actor) → get_elem? bs k ≡ some a → IsNew a) → total (λ a. times x (morsels_at p a)) bs ≡ 0
      none_stands p x [] n = refl
      none_stands p x (b ∷ bs) n = let h = n 0 b refl in
          omega (arith, times-morsels_at x p b, ap (λ (l : List (ℕ × ℕ)). times x (morsels_of p l)) h.held, ap (λ (l : List (ℕ × ℕ)). times x (morsels_of p l)) h.finished, none_stands p x bs (λ k a e. n (suc k) a e))

      none_finished : (p : ℕ) (bs : List Actor) → ((k : ℕ) (a : Actor) → get_elem? bs k ≡ some a → IsNew a) → total (λ a. length (morsels_of p a.finished)) bs ≡ 0
      none_finished p [] n = refl
      none_finished p (b ∷ bs) n = let h = n 0 b refl in omega (arith, ap (λ (l : List (ℕ × ℕ)). length (morsels_of p l)) h.finished, none_finished p bs (λ k a e. n (suc k) a e))
