-- What the tests of steps say.
use Rattle.std.proofs.Common.{◌≡◌, ◌↔◌, ℕ, zero, suc, ◌+◌, ◌/◌, ◌<◌, ◌≤◌, List, [], ◌∷◌, Option, Some, length, drop, get_or, map, true, false, ◌&&◌, ◌||◌, cond, sym, refl, ap, ◌∙◌, subst, arith, eqb, eq-eqb}
use Rattle.std.specs.List.{list_all, list_any}
use Rattle.std.proofs.lemmas.Bool.{eqb-true}
use Rattle.std.proofs.lemmas.List.{get_or-map, length-map}
use mathlib.Core.Option.{some}
use lib.ListN.{get_elem?}
use Rattle.rpt_base.proofs.ListFacts.{any_from, all_from}
use Rattle.key_codes.specs.Placement.{AreLawful}
use Rattle.transfer_core.specs.declared.known.Known.{Known}
use Rattle.transfer_core.specs.declared.plan.Pipe.{Pipe}
use Rattle.transfer_core.specs.declared.plan.Port.{Port}
use Rattle.transfer_core.specs.declared.state.State.{State}
use Rattle.transfer_core.specs.declared.steps.Step.TheVariants as step
use Rattle.transfer_core.specs.Actors.{Actor, holding, is_listed, is_marked, nothing}
use Rattle.transfer_core.specs.Job.{job_of, writer, writes_region}
use Rattle.transfer_core.specs.Sealed.{passes, sealed}
use Rattle.transfer_core.specs.Steps.{Core, IsAllowed, IsSoundCore, actor_at, no_actor}
use Rattle.transfer_core.specs.Plans.{HasPlace, IsValid, Shape, no_pipe, no_places, pipe_at, place_at, words_of}
use Rattle.transfer_core.specs.States.{ArePut, IsStateOf, actor_of, core_of, held_of}
use Rattle.transfer_core.specs.Words.{regions_of}
use Rattle.transfer_core.proofs.Keeps.{first_is}
use Rattle.transfer_core.proofs.Lists.{at_index, at_place, drop_at, place_of_at, within}
use Rattle.transfer_core.proofs.Regions.{all_same}
use Rattle.transfer_core.proofs.StepFacts.{reads_sealed}
use Rattle.transfer_core.proofs.ValidFacts.{all_at, any_at, has_place, read_serves}

-- ---- the pipe that writes a region
pub writer_here : (pipes : List Pipe) (i r : ℕ) (x : Pipe) → i < length pipes → x ≡ get_or pipes i x → writes_region r x.writes ≡ true → writer (drop i pipes) r ≡ 0
writer_here pipes i r x l e h = ap (λ (xs : List Pipe). writer xs r) (drop_at pipes i x (at_index pipes i x l e)) ∙ ap (λ b. cond b 0 (suc (writer (drop (suc i) pipes) r))) h

pub writer_next : (pipes : List Pipe) (i r : ℕ) (x : Pipe) → i < length pipes → x ≡ get_or pipes i x → writes_region r x.writes ≡ false → writer (drop i pipes) r ≡ 1 + writer (drop (i + 1) pipes) r
writer_next pipes i r x l e h = ap (λ (xs : List Pipe). writer xs r) (drop_at pipes i x (at_index pipes i x l e)) ∙ ap (λ b. cond b 0 (suc (writer (drop (suc i) pipes) r))) h
    ∙ omega (arith, ap (λ (n : ℕ). writer (drop n pipes) r) (let t : suc i ≡ i + 1 = omega arith in t))

pub writer_past : (pipes : List Pipe) (i r : ℕ) → length pipes ≤ i → writer (drop i pipes) r ≡ 0
writer_past [] zero r l = refl
writer_past [] (suc i) r l = refl
writer_past (x ∷ xs) zero r l = absurd (omega arith)
writer_past (x ∷ xs) (suc i) r l = writer_past xs i r (omega arith)

-- ---- lists
pub at_slice : {A : Type 0} (xs slice : List A) (i : ℕ) (a : A) → slice ≡ xs → i < length slice → a ≡ get_or slice i a → get_elem? xs i ≡ some a
at_slice xs slice i a same l e = subst (λ (ys : List _). get_elem? ys i ≡ some a) same (at_index slice i a l e)

-- each item of a pipe has its place in what the pipe reads
pub read_places : (s : Shape) → IsValid s → (p : ℕ) (x : Pipe) → get_elem? s.pipes p ≡ some x → (i : ℕ) → i < x.items → (k : ℕ) (d : Port) → k < length x.reads → HasPlace s i (get_or x.reads k d)
read_places s V p x at i less k d l = has_place s V p i x (get_or x.reads k d) less (read_serves s V p k x (get_or x.reads k d) at (at_place x.reads k d l))

-- ---- who holds a morsel reads sealed words
module _ (s : Shape) (V : IsValid s) (L : AreLawful s.places) (c : Core) (f : IsSoundCore s c) (id p m : ℕ) (there : id < length c.actors) (held : (actor_at c.actors id).held ≡ holding p m) where
  ready : (p < length s.pipes) × ((o : ℕ) → (job_of s).reads p o ≡ true → is_marked (actor_at c.actors id).seen o ≡ true)
  ready = (f.sound.each id (actor_at c.actors id) (at_place c.actors id no_actor there)).ready p m held

  pub pipe_in : p < length s.pipes
  pipe_in = ready.0

  pub passes_now : (x : Pipe) → get_elem? s.pipes p ≡ some x → (i : ℕ) → i < x.items → passes s (regions_of c.words) i x.reads ≡ passes s (sealed s) i x.reads
  passes_now x at i less = all_same s (regions_of c.words) (sealed s) i x.reads (λ q a e.
      let v = read_serves s V p q x a at e in
      reads_sealed s V L c f id a.region (place_at s a i).word
      (v.region, (L a.places no_places v.places).inside i (words_of s a.region) (omega (arith, less, v.items)) v.least ((V.regions a.region v.region).some))
      there
      (ready.1 (writer s.pipes a.region) (any_from (λ (b : Port). eqb (writer s.pipes b.region) (writer s.pipes a.region)) (pipe_at s.pipes p).reads q a
      (ap (λ (y : Pipe). get_elem? y.reads q) (place_of_at s.pipes p x no_pipe at) ∙ e) (eq-eqb (writer s.pipes a.region) (writer s.pipes a.region) refl))))

-- ---- what the tests say
module _ (s : Shape) (state : State) (id p : ℕ) (k : Known) (x : Pipe) (at : get_elem? state.actors.items id ≡ some k) (pat : get_elem? s.pipes p ≡ some x) where
  there : id < length (map actor_of state.actors.items)
  there = omega (arith, within state.actors.items id k at, length-map state.actors.items actor_of)

  pub known_is : actor_at (map actor_of state.actors.items) id ≡ actor_of k
  known_is = get_or-map actor_of state.actors.items id k no_actor (within state.actors.items id k at) ∙ ap actor_of (place_of_at state.actors.items id k k at)

  from : pipe_at s.pipes p ≡ x
  from = place_of_at s.pipes p x no_pipe pat

  -- under the actor and the pipe as they stand in the code
  by_these : (Q : Actor → Pipe → Type 0) → Q (actor_of k) x → Q (actor_at (map actor_of state.actors.items) id) (pipe_at s.pipes p)
  by_these Q h = subst (λ (y : Pipe). Q (actor_at (map actor_of state.actors.items) id) y) (sym from) (subst (λ (a : Actor). Q a x) (sym known_is) h)

  pub allows_draw : held_of k.held ≡ nothing → (list_all (λ (a : Port). is_marked k.seen.items (writer s.pipes a.region)) x.reads ≡ true) ↔ IsAllowed s (core_of state) (step.Draw id p)
  allows_draw none = by_these
      (λ a y. (list_all (λ (b : Port). is_marked k.seen.items (writer s.pipes b.region)) x.reads ≡ true)
      ↔ ((id < length (map actor_of state.actors.items)) × (p < length s.pipes) × (a.held ≡ nothing) × ((o : ℕ) → list_any (λ (b : Port). eqb (writer s.pipes b.region) o) y.reads ≡ true → is_marked a.seen o ≡ true))) (
        (λ all. (
          there,
          within s.pipes p x pat,
          none,
          λ o h. let t = any_at (λ (b : Port). eqb (writer s.pipes b.region) o) x.reads h in
              subst (λ (n : ℕ). is_marked k.seen.items n ≡ true) (eqb-true (writer s.pipes t.1.region) o t.3) (all_at (λ (b : Port). is_marked k.seen.items (writer s.pipes b.region)) x.reads t.0 t.1 all t.2),
        )),
        (λ t. all_from (λ (b : Port). is_marked k.seen.items (writer s.pipes b.region)) x.reads (λ q a e. t.3 (writer s.pipes a.region)
            (any_from (λ (b : Port). eqb (writer s.pipes b.region) (writer s.pipes a.region)) x.reads q a e (eq-eqb (writer s.pipes a.region) (writer s.pipes a.region) refl)))),
      )

  module _ (V : IsValid s) (L : AreLawful s.places) (f : IsStateOf s state) where
    now_sealed : (m : ℕ) → held_of k.held ≡ holding p m → (i : ℕ) → i < x.items → passes s (regions_of state.words) i x.reads ≡ passes s (sealed s) i x.reads
    now_sealed m held i less = passes_now s V L (core_of state) f.sound id p m there (ap (λ (a : Actor). a.held) known_is ∙ held) x pat i less

    pub allows_put : (i q : ℕ) → held_of k.held ≡ holding p (i / s.morsel) → i < x.items → q < length x.writes → (passes s (regions_of state.words) i x.reads ≡ true) ↔ IsAllowed s (core_of state) (step.Put id p i q)
    allows_put i q held less port = by_these
        (λ a y. (passes s (regions_of state.words) i x.reads ≡ true)
        ↔ ((id < length (map actor_of state.actors.items)) × (a.held ≡ holding p (i / s.morsel)) × ((p < length s.pipes) × (i < y.items) × (q < length y.writes) × (passes s (sealed s) i y.reads ≡ true)))) (
          (λ pass. (there, held, (within s.pipes p x pat, less, port, sym (now_sealed (i / s.morsel) held i less) ∙ pass))),
          (λ t. now_sealed (i / s.morsel) held i less ∙ t.2.3),
        )

    pub allows_finish : (m : ℕ) → held_of k.held ≡ holding p m → ArePut s state.words x k.puts.items m ↔ IsAllowed s (core_of state) (step.Finish id p)
    allows_finish m held = by_these
        (λ a y. ArePut s state.words x k.puts.items m
        ↔ ((id < length (map actor_of state.actors.items)) × ((n : ℕ) × (a.held ≡ holding p n)
        × ((item port : ℕ) → ((p < length s.pipes) × (item < y.items) × (port < length y.writes) × (passes s (sealed s) item y.reads ≡ true)) → item / s.morsel ≡ n → is_listed item port a.puts ≡ true)))) (
          (λ all. (there, (m, held, λ i q it e. all i it.1 e (now_sealed m held i it.1 ∙ it.3) q it.2))),
          (λ t. λ i less e pass q l. t.1.2 i q (within s.pipes p x pat, less, l, sym (now_sealed m held i less) ∙ pass) (e ∙ (first_is p m p t.1.0 (sym held ∙ t.1.1)).1)),
        )

-- the morsel that is held
pub held_is : (o : Option (ℕ × ℕ)) (x : ℕ × ℕ) (p : ℕ) → o ≡ Some x → x.0 ≡ p → held_of o ≡ holding p x.1
held_is o x p e h = ap held_of e ∙ λ i. (h i, x.1) ∷ []
