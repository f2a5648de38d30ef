-- A sealed region is the or of the masks of the items that pass its pipe.
use Rattle.std.proofs.Common.{◌≡◌, ℕ, zero, suc, ◌+◌, ◌*◌, ◌/◌, ◌<◌, ◌≢◌, List, [], ◌∷◌, length, take, drop, Bool, true, false, ◌||◌, ◌&&◌, sym, refl, ap, ◌∙◌, subst, arith, cond, eqb, eq-eqb, ne_eqb, lt_of_lt_of_le}
use Rattle.std.specs.Prelude.{bit_or, bit_and}
use Rattle.std.specs.Int.{div_ceil}
use Rattle.std.proofs.lemmas.Nat.Bits.{bit_at-zero}
use mathlib.Core.Logic.{dite}
use native.Mathlib.Decide.{ℕ_discrete}
use mathlib.Core.Option.{some, some-injective, some-ne-none}
use lib.ListN.{get_elem?}
use Rattle.std.proofs.Math.Nat.{div-lt_iff_lt-mul}
use Rattle.std.proofs.lemmas.Grind.{div_ceil_times}
use Rattle.std.proofs.lemmas.Bool.{and_from, eqb-true}
use Rattle.key_codes.specs.Placement.{AreLawful}
use Rattle.transfer_core.specs.declared.plan.Port.{Port}
use Rattle.transfer_core.specs.declared.plan.Pipe.{Pipe}
use Rattle.transfer_core.specs.Counts.{Lies}
use Rattle.transfer_core.specs.Job.{IsPassing, IsRight, job_of, no_port, port_at, writer, writes_region}
use Rattle.transfer_core.specs.Sealed.{Regions, after_ports, or_below, or_of_passing, passes, put_of, sealed, sealed_from}
use Rattle.transfer_core.specs.Plans.{Shape, IsValid, no_pipe, no_places, pipe_at, place_at, words_of}
use Rattle.transfer_core.proofs.Lists.{at_place, drop_at, place_of_at, within}
use Rattle.transfer_core.proofs.Masks.{lies_through, lies_left, lies_right, lies_or, lies_same}
use Rattle.transfer_core.proofs.ValidFacts.{later, pipe_is, read_serves, single, write_serves, written_by}

-- ---- the or of many
pub or_same : (f g : ℕ → ℕ) (n : ℕ) → ((i : ℕ) → f i ≡ g i) → or_below f n ≡ or_below g n
or_same f g zero e = refl
or_same f g (suc n) e = λ k. bit_or (or_same f g n e k) (e n k)

pub or_has : (f : ℕ → ℕ) (n i : ℕ) → i < n → Lies (f i) (or_below f n)
or_has f zero i h = absurd (omega arith)
or_has f (suc n) i h = dite (ℕ_discrete i n)
    (λ e. lies_through _ _ _ (lies_same _ _ (ap f e)) (lies_right (or_below f n) (f n)))
    (λ ne. lies_through _ _ _ (or_has f n i (omega arith)) (lies_left (or_below f n) (f n)))

zero_lies : (n : ℕ) → Lies 0 n
zero_lies n i = omega (arith, bit_at-zero i)

pub or_least : (f : ℕ → ℕ) (n z : ℕ) → ((i : ℕ) → i < n → Lies (f i) z) → Lies (or_below f n) z
or_least f zero z h = zero_lies z
or_least f (suc n) z h = lies_or (or_below f n) (f n) z (or_least f n z (λ i l. h i (omega arith))) (h n (omega arith))

get_drop : {A : Type 0} (l : List A) (n k m : ℕ) (y : A) → m ≡ n + k → get_elem? (drop n l) k ≡ some y → get_elem? l m ≡ some y
get_drop [] zero k m y e h = absurd (some-ne-none y (sym h))
get_drop [] (suc n) k m y e h = absurd (some-ne-none y (sym h))
get_drop (x ∷ xs) zero k m y e h = subst (λ (i : ℕ). get_elem? (x ∷ xs) i ≡ some y) (let s : k ≡ m = omega arith in s) h
get_drop (x ∷ xs) (suc n) k zero y e h = absurd (omega arith)
get_drop (x ∷ xs) (suc n) k (suc m) y e h = get_drop xs n k m y (omega arith) h

module _ (s : Shape) where
  Nowhere : ℕ → List Pipe → Type 0
  Nowhere r xs = (k : ℕ) (y : Pipe) → get_elem? xs k ≡ some y → (q : ℕ) (a : Port) → get_elem? y.writes q ≡ some a → a.region ≢ r

  write_none : (R : Regions) (x : Pipe) (ws : List Port) (r w : ℕ) → ((q : ℕ) (a : Port) → get_elem? ws q ≡ some a → a.region ≢ r) → after_ports s R x ws r w ≡ R r w
  write_none R x [] r w h = refl
  write_none R x (a ∷ al) r w h = ap (λ b. cond b (or_of_passing s R x a w) (after_ports s R x al r w)) (ne_eqb a.region r (h 0 a refl)) ∙ write_none R x al r w (λ q b e. h (suc q) b e)

  sealed_none : (R : Regions) (xs : List Pipe) (r w : ℕ) → Nowhere r xs → sealed_from s R xs r w ≡ R r w
  unfolding Nowhere
  sealed_none R [] r w h = refl
  sealed_none R (x ∷ xs) r w h = sealed_none (after_ports s R x x.writes) xs r w (λ k y e. h (suc k) y e) ∙ write_none R x x.writes r w (h 0 x refl)

  write_at : (R : Regions) (x : Pipe) (ws : List Port) (q : ℕ) (a : Port) → get_elem? ws q ≡ some a → ((k : ℕ) (b : Port) → get_elem? ws k ≡ some b → b.region ≡ a.region → k ≡ q) → (w : ℕ)
      → after_ports s R x ws a.region w ≡ or_of_passing s R x a w
  write_at R x [] q a e one w = absurd (some-ne-none a (sym e))
  write_at R x (b ∷ bs) zero a e one w = subst (λ (y : Port). after_ports s R x (y ∷ bs) a.region w ≡ or_of_passing s R x a w) (sym (some-injective b a e))
      (ap (λ c. cond c (or_of_passing s R x a w) (after_ports s R x bs a.region w)) (eq-eqb a.region a.region refl))
  write_at R x (b ∷ bs) (suc q) a e one w = ap (λ c. cond c (or_of_passing s R x b w) (after_ports s R x bs a.region w)) (ne_eqb b.region a.region (λ g. absurd (omega (arith, one 0 b refl g))))
      ∙ write_at R x bs q a e (λ k c f g. omega (arith, one (suc k) c f g)) w

  split_at : (R : Regions) (l : List Pipe) (n : ℕ) → sealed_from s R l ≡ sealed_from s (sealed_from s R (take n l)) (drop n l)
  split_at R [] zero = refl
  split_at R [] (suc n) = refl
  split_at R (x ∷ xs) zero = refl
  split_at R (x ∷ xs) (suc n) = split_at (after_ports s R x x.writes) xs n

  pub all_same : (R Q : Regions) (i : ℕ) (ps : List Port) → ((q : ℕ) (a : Port) → get_elem? ps q ≡ some a → R a.region (place_at s a i).word ≡ Q a.region (place_at s a i).word) → passes s R i ps ≡ passes s Q i ps
  all_same R Q i [] h = refl
  all_same R Q i (a ∷ al) h = λ k. (eqb (bit_and (h 0 a refl k) (place_at s a i).mask) (place_at s a i).mask) && all_same R Q i al (λ q b e. h (suc q) b e) k

  module _ (V : IsValid s) (p : ℕ) (x : Pipe) (at : get_elem? s.pipes p ≡ some x) where
    before : Regions
    before = sealed_from s (λ _ _. 0) (take p s.pipes)

    from_here : sealed s ≡ sealed_from s before (drop p s.pipes)
    unfolding before
    from_here = split_at (λ _ _. 0) s.pipes p

    after_here : sealed s ≡ sealed_from s (after_ports s before x x.writes) (drop (suc p) s.pipes)
    after_here = from_here ∙ ap (sealed_from s before) (drop_at s.pipes p x at)

    -- what it reads does not change any more
    read_same : (q : ℕ) (a : Port) → get_elem? x.reads q ≡ some a → (w : ℕ) → before a.region w ≡ sealed s a.region w
    unfolding Nowhere
    read_same q a e w = sym (ap (λ (R : Regions). R a.region w) from_here ∙ sealed_none before (drop p s.pipes) a.region w
        (λ k y f o b g same. absurd (omega (arith, later s V p q (p + k) o x y a b at e (get_drop s.pipes p k (p + k) y refl f) g (sym same)))))

    put_same : (a : Port) (w i : ℕ) → put_of s before x.reads a w i ≡ put_of s (sealed s) x.reads a w i
    put_same a w i = ap (λ b. cond (b && eqb (place_at s a i).word w) (place_at s a i).mask 0) (all_same before (sealed s) i x.reads (λ q b e. read_same q b e (place_at s b i).word))

    pub sealed_is : (q : ℕ) (a : Port) → get_elem? x.writes q ≡ some a → (w : ℕ) → sealed s a.region w ≡ or_of_passing s (sealed s) x a w
    unfolding Nowhere
    sealed_is q a e w = ap (λ (R : Regions). R a.region w) after_here
        ∙ sealed_none (after_ports s before x x.writes) (drop (suc p) s.pipes) a.region w
        (λ k y f o b g same. absurd (omega (arith, (single s V p q (suc p + k) o x y a b at e (get_drop s.pipes (suc p) k (suc p + k) y refl f) g (sym same)).0)))
        ∙ write_at before x x.writes q a e (λ k b f g. sym (single s V p q p k x x a b at e at f (sym g)).1) w
        ∙ or_same _ _ x.items (put_same a w)

-- ---- who writes a region
writes_no : (r : ℕ) (ws : List Port) → ((q : ℕ) (a : Port) → get_elem? ws q ≡ some a → a.region ≢ r) → writes_region r ws ≡ false
writes_no r [] h = refl
writes_no r (a ∷ al) h = ap (λ b. b || writes_region r al) (ne_eqb a.region r (h 0 a refl)) ∙ writes_no r al (λ q b e. h (suc q) b e)

or_yes : (b : Bool) → (b || true) ≡ true
or_yes true = refl
or_yes false = refl

writes_yes : (r : ℕ) (ws : List Port) (q : ℕ) (a : Port) → get_elem? ws q ≡ some a → a.region ≡ r → writes_region r ws ≡ true
writes_yes r [] q a e h = absurd (some-ne-none a (sym e))
writes_yes r (b ∷ bs) zero a e h = ap (λ c. c || writes_region r bs) (eq-eqb b.region r (ap (λ (x : Port). x.region) (some-injective b a e) ∙ h))
writes_yes r (b ∷ bs) (suc q) a e h = ap (λ c. eqb b.region r || c) (writes_yes r bs q a e h) ∙ or_yes (eqb b.region r)

writer_is : (xs : List Pipe) (p r q : ℕ) (x : Pipe) (a : Port) → get_elem? xs p ≡ some x → get_elem? x.writes q ≡ some a → a.region ≡ r
    → ((k : ℕ) (y : Pipe) (o : ℕ) (b : Port) → get_elem? xs k ≡ some y → get_elem? y.writes o ≡ some b → b.region ≡ r → k ≡ p) → writer xs r ≡ p
writer_is [] p r q x a e f h one = absurd (some-ne-none x (sym e))
writer_is (y ∷ ys) zero r q x a e f h one = ap (λ b. cond b 0 (suc (writer ys r))) (writes_yes r y.writes q a (ap (λ (z : Pipe). get_elem? z.writes q) (some-injective y x e) ∙ f) h)
writer_is (y ∷ ys) (suc p) r q x a e f h one = ap (λ b. cond b 0 (suc (writer ys r))) (writes_no r y.writes (λ o b g same. absurd (omega (arith, one 0 y o b refl g same))))
    ∙ ap suc (writer_is ys p r q x a e f h (λ k z o b g i same. omega (arith, one (suc k) z o b g i same)))

cut_in : (i items size : ℕ) → 0 < size → i < items → i / size < div_ceil items size
cut_in i items size some_size less = let t = (div_ceil_times items size some_size).0 in let l : i < div_ceil items size * size = lt_of_lt_of_le less t in
    (div-lt_iff_lt-mul {k = size} {x = i} {y = div_ceil items size} some_size).1 l

cond_lies : (b c : Bool) (m z : ℕ) → (b ≡ true → c ≡ true → Lies m z) → Lies (cond (b && c) m 0) z
cond_lies true true m z h = h refl refl
cond_lies true false m z h = zero_lies z
cond_lies false c m z h = zero_lies z

-- the same where the items pass alike
pub or_of_same : (s : Shape) (R Q : Regions) (x : Pipe) (a : Port) (w : ℕ) → ((i : ℕ) → i < x.items → passes s R i x.reads ≡ passes s Q i x.reads) → or_of_passing s R x a w ≡ or_of_passing s Q x a w
or_of_same s R Q x a w h = below x.items (λ i l. l)
  where
    below : (n : ℕ) → ((i : ℕ) → i < n → i < x.items) → or_below (put_of s R x.reads a w) n ≡ or_below (put_of s Q x.reads a w) n
    below zero l = refl
    below (suc n) l = λ k. bit_or (below n (λ i m. l i (omega arith)) k) (cond (h n (l n (omega arith)) k && eqb (place_at s a n).word w) (place_at s a n).mask 0)

module _ (s : Shape) (V : IsValid s) where
  -- the pipe that a region's port belongs to
  pub own : (r p q : ℕ) (x : Pipe) (a : Port) → get_elem? s.pipes p ≡ some x → get_elem? x.writes q ≡ some a → a.region ≡ r → writer s.pipes r ≡ p
  own r p q x a e f h = writer_is s.pipes p r q x a e f h (λ k y o b g i same. (single s V k o p q y x b a g i e f (same ∙ sym h)).0)

  port_is : (p q : ℕ) (x : Pipe) (a : Port) → get_elem? s.pipes p ≡ some x → get_elem? x.writes q ≡ some a → port_at (pipe_at s.pipes p).writes q ≡ a
  port_is p q x a e f = ap (λ (y : Pipe). port_at y.writes q) (pipe_is s V p x e) ∙ place_of_at x.writes q a no_port f

  -- what a pipe reads is written by a pipe before it
  pub reads_before : (p q : ℕ) (x : Pipe) (a : Port) → get_elem? s.pipes p ≡ some x → get_elem? x.reads q ≡ some a → writer s.pipes a.region < p
  reads_before p q x a e f = let t = written_by s V a.region (read_serves s V p q x a e f).region in
      let w = own a.region t.0 t.1 t.2 t.3 t.4 t.5 t.6 in let l = later s V p q t.0 t.1 x t.2 a t.3 e f t.4 t.5 (sym t.6) in
      omega (arith, w, l)

  -- an item of a pipe as an item of its job
  item_of : (p i q : ℕ) (x : Pipe) (a : Port) → get_elem? s.pipes p ≡ some x → get_elem? x.writes q ≡ some a → i < x.items → passes s (sealed s) i x.reads ≡ true → IsPassing (job_of s) p i q
  item_of p i q x a e f less pass = let same = sym (pipe_is s V p x e) in (
    within s.pipes p x e,
    subst (λ (y : Pipe). i < y.items) same less,
    subst (λ (y : Pipe). q < length y.writes) same (within x.writes q a f),
    ap (λ (y : Pipe). passes s (sealed s) i y.reads) (sym same) ∙ pass,
  )

  least_one : (z p q i w : ℕ) (x : Pipe) (a : Port) → get_elem? s.pipes p ≡ some x → get_elem? x.writes q ≡ some a
      → ((i o : ℕ) → IsPassing (job_of s) p i o → (job_of s).region p o ≡ a.region → (job_of s).word p i o ≡ w → Lies ((job_of s).mask p i o) z) → i < x.items → passes s (sealed s) i x.reads ≡ true → (place_at s a i).word ≡ w → Lies (place_at s a i).mask z
  least_one z p q i w x a e f h less pass here =
      let port = port_is p q x a e f in
      lies_through _ _ _ (lies_same _ _ (ap (λ (b : Port). (place_at s b i).mask) (sym port)))
      (h i q (item_of p i q x a e f less pass) (ap (λ (b : Port). b.region) port) (ap (λ (b : Port). (place_at s b i).word) port ∙ here))

  pub right : AreLawful s.places → IsRight (job_of s)
  right L = record {
    cut = λ p i l less. cut_in i _ s.morsel (omega (arith, V.morsel.some)) less;
    placed = λ p i q it. let e = at_place s.pipes p no_pipe it.0 in let x : Pipe = pipe_at s.pipes p in
        let f = at_place x.writes q no_port it.2 in let a : Port = port_at (pipe_at s.pipes p).writes q in
        let v = write_serves s V p q x a e f in
        let there : (place_at s a i).word < words_of s a.region = (L a.places no_places v.places).inside i (words_of s a.region) (omega (arith, it.1, v.items)) v.least ((V.regions a.region v.region).some) in record {
          inside = (v.region, there);
          owned = own a.region p q x a e f refl;
          sealed = lies_through _ _ _ (lies_through _ _ _
              (lies_same _ _ (ap (λ b. cond b (place_at s a i).mask 0) (sym (and_from _ _ it.3 (eq-eqb (place_at s a i).word (place_at s a i).word refl)))))
              (or_has (put_of s (sealed s) x.reads a (place_at s a i).word) x.items i it.1))
              (lies_same _ _ (sym (sealed_is s V p x e q a f (place_at s a i).word)));
        };
    owned = λ r l. let t = written_by s V r l in subst (λ (n : ℕ). n < length s.pipes) (sym (own r t.0 t.1 t.2 t.3 t.4 t.5 t.6)) (within s.pipes t.0 t.2 t.4);
    least = λ r w z is h. let t = written_by s V r is.0 in let o = own r t.0 t.1 t.2 t.3 t.4 t.5 t.6 in
        let h' : (i q : ℕ) → IsPassing (job_of s) t.0 i q → (job_of s).region t.0 q ≡ t.3.region → (job_of s).word t.0 i q ≡ w → Lies ((job_of s).mask t.0 i q) z =
        subst (λ (n : ℕ). (i q : ℕ) → IsPassing (job_of s) n i q → (job_of s).region n q ≡ t.3.region → (job_of s).word n i q ≡ w → Lies ((job_of s).mask n i q) z) o
        (λ i q it e. h i q it (e ∙ t.6)) in
        lies_through _ _ _ (lies_same _ _ (ap (λ (n : ℕ). sealed s n w) (sym t.6) ∙ sealed_is s V t.0 t.2 t.4 t.1 t.3 t.5 w))
        (or_least (put_of s (sealed s) t.2.reads t.3 w) t.2.items z (λ i in_pipe. cond_lies _ _ (place_at s t.3 i).mask z (λ pass here. least_one z t.0 t.1 i w t.2 t.3 t.4 t.5 h' in_pipe pass (eqb-true _ _ here))));
  }
