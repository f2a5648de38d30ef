-- What a valid plan says of its pipes and ports, one by one.
use Rattle.std.proofs.Common.{◌≡◌, ℕ, zero, suc, ◌+◌, ◌<◌, ◌≤◌, List, [], ◌∷◌, length, take, Bool, true, false, ◌||◌, sym, refl, ap, ◌∙◌, subst, arith, eqb, eq-eqb, cond, nat_lt, nat_le}
use Rattle.std.specs.List.{filter, list_all, list_any, sum_by}
use Rattle.std.proofs.lemmas.Bool.{and_parts, eqb-true, leb-true, ltb-true}
use Rattle.std.proofs.lemmas.List.Sums.{sum_by-cons}
use mathlib.Core.Logic.{dite}
use native.Mathlib.Decide.{ℕ_discrete, dec_le}
use mathlib.Core.Option.{some, some-injective, some-ne-none}
use lib.ListN.{get_elem?}
use Rattle.transfer_core.specs.declared.plan.Pipe.{Pipe}
use Rattle.transfer_core.specs.declared.plan.Port.{Port}
use Rattle.transfer_core.specs.Plans.{HasPlace, IsValid, Shape, is_written, no_pipe, pipe_at, places_at, serves, words_of}
use Rattle.transfer_core.proofs.Lists.{place_of_at, within}

-- ---- tests of lists
pub all_at : {A : Type 0} (f : A → Bool) (xs : List A) (k : ℕ) (a : A) → list_all f xs ≡ true → get_elem? xs k ≡ some a → f a ≡ true
all_at f [] k a h e = absurd (some-ne-none a (sym e))
all_at f (x ∷ xs) zero a h e = sym (ap f (some-injective x a e)) ∙ (let t : f x ≡ true = (and_parts (f x) (list_all f xs) h).0 in t)
all_at f (x ∷ xs) (suc k) a h e = all_at f xs k a (and_parts (f x) (list_all f xs) h).1 e

pub any_at : {A : Type 0} (f : A → Bool) (xs : List A) → list_any f xs ≡ true → (k : ℕ) × (a : A) × (get_elem? xs k ≡ some a) × (f a ≡ true)
any_at f [] h = cc h
any_at {A} f (x ∷ xs) h = by (f x) refl h (any_at f xs)
  where
    by : (b : Bool) → f x ≡ b → (b || list_any f xs) ≡ true → (list_any f xs ≡ true → (k : ℕ) × (a : A) × (get_elem? xs k ≡ some a) × (f a ≡ true)) → (k : ℕ) × (a : A) × (get_elem? (x ∷ xs) k ≡ some a) × (f a ≡ true)
    by true e h more = (0, x, refl, e)
    by false e h more = let t = more h in (suc t.0, t.1, t.2, t.3)

-- ---- how many pass a test
abbrev one_if : Bool → ℕ
one_if b = cond b 1 0

filter_cons : {A : Type 0} (f : A → Bool) (x : A) (xs : List A) → length (filter f (x ∷ xs)) ≡ cond (f x) 1 0 + length (filter f xs)
filter_cons f x xs = by (f x) refl
  where
    by : (b : Bool) → f x ≡ b → length (filter f (x ∷ xs)) ≡ cond b 1 0 + length (filter f xs)
    by true e = rw e omega arith
    by false e = rw e omega arith

filter_one : {A : Type 0} (f : A → Bool) (xs : List A) (k : ℕ) (a : A) → get_elem? xs k ≡ some a → f a ≡ true → 1 ≤ length (filter f xs)
filter_one f [] k a e h = absurd (some-ne-none a (sym e))
filter_one f (x ∷ xs) zero a e h = omega (arith, filter_cons f x xs, ap one_if (ap f (some-injective x a e) ∙ h))
filter_one f (x ∷ xs) (suc k) a e h = omega (arith, filter_cons f x xs, filter_one f xs k a e h)

filter_two : {A : Type 0} (f : A → Bool) (xs : List A) (k m : ℕ) (a b : A) → k < m → get_elem? xs k ≡ some a → f a ≡ true → get_elem? xs m ≡ some b → f b ≡ true → 2 ≤ length (filter f xs)
filter_two f [] k m a b l e h i g = absurd (some-ne-none a (sym e))
filter_two f (x ∷ xs) zero zero a b l e h i g = absurd (omega arith)
filter_two f (x ∷ xs) zero (suc m) a b l e h i g = omega (arith, filter_cons f x xs, ap one_if (ap f (some-injective x a e) ∙ h), filter_one f xs m b i g)
filter_two f (x ∷ xs) (suc k) zero a b l e h i g = absurd (omega arith)
filter_two f (x ∷ xs) (suc k) (suc m) a b l e h i g = omega (arith, filter_cons f x xs, filter_two f xs k m a b (omega arith) e h i g)

filter_some : {A : Type 0} (f : A → Bool) (xs : List A) → 1 ≤ length (filter f xs) → (k : ℕ) × (a : A) × (get_elem? xs k ≡ some a) × (f a ≡ true)
filter_some f [] h = absurd (omega arith)
filter_some {A} f (x ∷ xs) h = by (f x) refl (filter_some f xs)
  where
    by : (b : Bool) → f x ≡ b → (1 ≤ length (filter f xs) → (k : ℕ) × (a : A) × (get_elem? xs k ≡ some a) × (f a ≡ true)) → (k : ℕ) × (a : A) × (get_elem? (x ∷ xs) k ≡ some a) × (f a ≡ true)
    by true e more = (0, x, refl, e)
    by false e more = let t = more (omega (arith, h, filter_cons f x xs, ap one_if e)) in (suc t.0, t.1, t.2, t.3)

-- ---- sums
sum_one : {A : Type 0} (g : A → ℕ) (xs : List A) (k : ℕ) (a : A) → get_elem? xs k ≡ some a → g a ≤ sum_by g xs
sum_one g [] k a e = absurd (some-ne-none a (sym e))
sum_one g (x ∷ xs) zero a e = omega (arith, sum_by-cons g x xs, ap g (some-injective x a e))
sum_one g (x ∷ xs) (suc k) a e = omega (arith, sum_by-cons g x xs, sum_one g xs k a e)

sum_two : {A : Type 0} (g : A → ℕ) (xs : List A) (k m : ℕ) (a b : A) → k < m → get_elem? xs k ≡ some a → get_elem? xs m ≡ some b → g a + g b ≤ sum_by g xs
sum_two g [] k m a b l e i = absurd (some-ne-none a (sym e))
sum_two g (x ∷ xs) zero zero a b l e i = absurd (omega arith)
sum_two g (x ∷ xs) zero (suc m) a b l e i = omega (arith, sum_by-cons g x xs, ap g (some-injective x a e), sum_one g xs m b i)
sum_two g (x ∷ xs) (suc k) zero a b l e i = absurd (omega arith)
sum_two g (x ∷ xs) (suc k) (suc m) a b l e i = omega (arith, sum_by-cons g x xs, sum_two g xs k m a b (omega arith) e i)

sum_some : {A : Type 0} (g : A → ℕ) (xs : List A) → 1 ≤ sum_by g xs → (k : ℕ) × (a : A) × (get_elem? xs k ≡ some a) × (1 ≤ g a)
sum_some g [] h = absurd (omega arith)
sum_some g (x ∷ xs) h = dite (ℕ_discrete (g x) 0) (λ z. let t = sum_some g xs (omega (arith, h, z, sum_by-cons g x xs)) in (suc t.0, t.1, t.2, t.3)) (λ ne. (0, x, refl, omega arith))

take_at : {A : Type 0} (xs : List A) (n k : ℕ) (a : A) → get_elem? (take n xs) k ≡ some a → (k < n) × (get_elem? xs k ≡ some a)
take_at [] zero k a e = absurd (some-ne-none a (sym e))
take_at [] (suc n) k a e = absurd (some-ne-none a (sym e))
take_at (x ∷ xs) zero k a e = absurd (some-ne-none a (sym e))
take_at (x ∷ xs) (suc n) zero a e = (omega arith, e)
take_at (x ∷ xs) (suc n) (suc k) a e = let t = take_at xs n k a e in (omega (arith, t.0), t.1)

-- a port that serves so many items
pub record Serving (s : Shape) (count : ℕ) (a : Port) : Type 0 where
  pub region : a.region < length s.words
  pub places : a.places < length s.places
  pub items : length (places_at s a.places).numbers ≡ count
  pub least : (places_at s a.places).least ≤ words_of s a.region

serving : (s : Shape) (items : ℕ) (a : Port) → serves s items a ≡ true → Serving s items a
serving s items a h =
    let t = and_parts _ (nat_le (places_at s a.places).least (words_of s a.region)) h in
    let u = and_parts _ (eqb (length (places_at s a.places).numbers) items) t.0 in
    let v = and_parts (nat_lt a.region (length s.words)) (nat_lt a.places (length s.places)) u.0 in
    record { region = ltb-true _ _ v.0; places = ltb-true _ _ v.1; items = eqb-true _ _ u.1; least = leb-true _ _ t.1 }

module _ (s : Shape) (V : IsValid s) where
  pub pipe_is : (p : ℕ) (x : Pipe) → get_elem? s.pipes p ≡ some x → pipe_at s.pipes p ≡ x
  pipe_is p x e = place_of_at s.pipes p x no_pipe e

  pub write_serves : (p q : ℕ) (x : Pipe) (a : Port) → get_elem? s.pipes p ≡ some x → get_elem? x.writes q ≡ some a → Serving s x.items a
  write_serves p q x a e f = serving s x.items a (all_at (serves s x.items) x.writes q a (subst (λ (y : Pipe). list_all (serves s y.items) y.writes ≡ true) (pipe_is p x e) ((V.pipes p (within s.pipes p x e)).writes)) f)

  pub read_serves : (p q : ℕ) (x : Pipe) (a : Port) → get_elem? s.pipes p ≡ some x → get_elem? x.reads q ≡ some a → Serving s x.items a
  read_serves p q x a e f = serving s x.items a (all_at (serves s x.items) x.reads q a (subst (λ (y : Pipe). list_all (serves s y.items) y.reads ≡ true) (pipe_is p x e) ((V.pipes p (within s.pipes p x e)).reads)) f)

  -- an item of a pipe has its place in each port's region
  pub has_place : (p i : ℕ) (x : Pipe) (a : Port) → i < x.items → Serving s x.items a → HasPlace s i a
  has_place p i x a less v = record { region = v.region; places = v.places; inside = omega (arith, less, v.items); least = v.least; some = (V.regions a.region v.region).some }

  is_of : (r : ℕ) (b : Port) → b.region ≡ r → eqb b.region r ≡ true
  is_of r b e = eq-eqb b.region r e

  -- one port writes a region
  pub single : (p q k o : ℕ) (x y : Pipe) (a b : Port) → get_elem? s.pipes p ≡ some x → get_elem? x.writes q ≡ some a → get_elem? s.pipes k ≡ some y → get_elem? y.writes o ≡ some b → a.region ≡ b.region → (p ≡ k) × (q ≡ o)
  single p q k o x y a b e f g h same =
      let r = a.region in
      let count = λ (z : Pipe). length (filter (λ (c : Port). eqb c.region r) z.writes) in
      let one = (V.regions r (write_serves p q x a e f).region).once in
      let here = is_of r a refl in let there = is_of r b (sym same) in
      let pipes : p ≡ k = dite (ℕ_discrete p k) (λ t. t) (λ ne. absurd (dite (dec_le (suc p) k)
      (λ l. omega (arith, one, sum_two count s.pipes p k x y (omega arith) e g, filter_one (λ (c : Port). eqb c.region r) x.writes q a f here, filter_one (λ (c : Port). eqb c.region r) y.writes o b h there))
      (λ l. omega (arith, one, sum_two count s.pipes k p y x (omega arith) g e, filter_one (λ (c : Port). eqb c.region r) x.writes q a f here, filter_one (λ (c : Port). eqb c.region r) y.writes o b h there)))) in
      let xy : x ≡ y = some-injective x y (sym e ∙ ap (get_elem? s.pipes) pipes ∙ g) in
      let h' : get_elem? x.writes o ≡ some b = ap (λ (z : Pipe). get_elem? z.writes o) xy ∙ h in (
        pipes,
        dite (ℕ_discrete q o) (λ t. t) (λ ne. absurd (dite (dec_le (suc q) o)
            (λ l. omega (arith, one, sum_one count s.pipes p x e, filter_two (λ (c : Port). eqb c.region r) x.writes q o a b (omega arith) f here h' there))
            (λ l. omega (arith, one, sum_one count s.pipes p x e, filter_two (λ (c : Port). eqb c.region r) x.writes o q b a (omega arith) h' there f here)))),
      )

  -- each region is written
  pub written_by : (r : ℕ) → r < length s.words → (p : ℕ) × (q : ℕ) × (x : Pipe) × (a : Port) × (get_elem? s.pipes p ≡ some x) × (get_elem? x.writes q ≡ some a) × (a.region ≡ r)
  written_by r l =
      let t = sum_some (λ (z : Pipe). length (filter (λ (c : Port). eqb c.region r) z.writes)) s.pipes (omega (arith, (V.regions r l).once)) in
      let u = filter_some (λ (c : Port). eqb c.region r) t.1.writes t.3 in
      (t.0, u.0, t.1, u.1, t.2, u.2, eqb-true _ _ u.3)

  -- and read by later pipes
  pub later : (p q k o : ℕ) (x y : Pipe) (a b : Port) → get_elem? s.pipes p ≡ some x → get_elem? x.reads q ≡ some a → get_elem? s.pipes k ≡ some y → get_elem? y.writes o ≡ some b → a.region ≡ b.region → k < p
  later p q k o x y a b e f g h same =
      let all = subst (λ (z : Pipe). list_all (λ c. is_written (take p s.pipes) c.region) z.reads ≡ true) (pipe_is p x e) ((V.pipes p (within s.pipes p x e)).later) in
      let here = all_at (λ (c : Port). is_written (take p s.pipes) c.region) x.reads q a all f in
      let t = any_at (λ (z : Pipe). list_any (λ (c : Port). eqb c.region a.region) z.writes) (take p s.pipes) here in
      let u = any_at (λ (c : Port). eqb c.region a.region) t.1.writes t.3 in
      let w = take_at s.pipes p t.0 t.1 t.2 in
      let one = single t.0 u.0 k o t.1 y u.1 b w.1 u.2 g h (eqb-true _ _ u.3 ∙ same) in
      omega (arith, w.0, one.0)
