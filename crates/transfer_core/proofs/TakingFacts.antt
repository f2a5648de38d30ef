-- What allowed steps change in the code's state.
use Rattle.std.proofs.Common.{◌≡◌, ℕ, ◌+◌, ◌/◌, ◌<◌, ◌≤◌, List, [], ◌∷◌, ◌++◌, length, get_or, map, min, set, true, false, ⊎_elim, if◌then◌else◌, sym, refl, ap, ◌∙◌, subst, arith, eqb, ltb, length-append}
use Rattle.std.specs.Int.{div_ceil}
use Rattle.std.specs.List.{sum_by}
use Rattle.std.specs.Vec.{vec_capacity}
use mathlib.Core.Logic.{dite}
use native.Mathlib.Decide.{dec_le}
use Rattle.std.proofs.Math.Seq.{take-length}
use Rattle.std.proofs.lemmas.List.{get_or-map, length-map, map-set}
use mathlib.Core.Option.{some, some-injective}
use lib.ListN.{get_elem?}
use Rattle.key_codes.specs.Placement.{AreLawful}
use Rattle.transfer_core.specs.declared.known.Known.{Known}
use Rattle.transfer_core.specs.declared.plan.Pipe.{Pipe}
use Rattle.transfer_core.specs.declared.state.State.{State}
use Rattle.transfer_core.specs.declared.steps.Step.TheVariants as step
use Rattle.transfer_core.specs.Actors.{Actor, actor, holding, is_listed, morsels_of, nothing}
use Rattle.transfer_core.specs.Counts.{one_if_below, times}
use Rattle.transfer_core.specs.Job.{IsPassing, job_of, no_port, port_at}
use Rattle.transfer_core.specs.Sound.{IsSoundActor, morsels_at}
use Rattle.transfer_core.specs.Steps.{actor_at, after, core, no_actor}
use Rattle.transfer_core.specs.Plans.{HasPlace, IsValid, Shape, no_pipe, pipe_at}
use Rattle.transfer_core.specs.States.{HasRoom, IsStateOf, MayTake, actor_of, core_of, held_of}
use Rattle.transfer_core.specs.Words.{put_in, regions_of}
use Rattle.transfer_core.proofs.Full.{few, sum_places}
use Rattle.transfer_core.proofs.Keeps.{each_set, first_is, not_full, times-morsels, times-morsels_at}
use Rattle.transfer_core.proofs.AllowedFacts.{pipe_in}
use Rattle.transfer_core.proofs.Lists.{at_index, at_place, at_snoc, place_of_at, within}
use Rattle.transfer_core.proofs.RoomFacts.{different_snoc, pipes_snoc, puts_fit}
use Rattle.transfer_core.proofs.Regions.{right}
use Rattle.transfer_core.proofs.ValidFacts.{has_place, write_serves}
use Rattle.transfer_core.proofs.Sums.{below_no, below_yes, term_le}

-- one actor's room is kept where all others' is
pub room_set : (s : Shape) (actors : List Known) (id : ℕ) (k : Known) → ((i : ℕ) (u : Known) → get_elem? actors i ≡ some u → HasRoom s u) → HasRoom s k → (i : ℕ) (u : Known) → get_elem? (set actors id k) i ≡ some u → HasRoom s u
room_set s actors id k others mine = each_set (HasRoom s) actors id k others mine

-- an item of a pipe has its place in the region of a port
pub item_place : (s : Shape) → IsValid s → (p i q : ℕ) → IsPassing (job_of s) p i q → HasPlace s i (port_at (pipe_at s.pipes p).writes q)
item_place s V p i q it = let x : Pipe = pipe_at s.pipes p in
    has_place s V p i x (port_at x.writes q) it.1 (write_serves s V p q x (port_at x.writes q) (at_place s.pipes p no_pipe it.0) (at_place x.writes q no_port it.2))

-- the actor that is read from the code's list
pub known_there : (state : State) (id : ℕ) (k : Known) → id < length (core_of state).actors → k ≡ get_or state.actors.items id k → get_elem? state.actors.items id ≡ some k
known_there state id k there is = at_index state.actors.items id k (omega (arith, there, length-map state.actors.items actor_of)) is

-- what is finished is of a pipe of the plan
pub finish_pipe : (s : Shape) → IsValid s → AreLawful s.places → (state : State) → IsStateOf s state → (id p : ℕ) → MayTake s state (step.Finish id p) → p < length s.pipes
finish_pipe s V L state f id p may = pipe_in s V L (core_of state) f.sound id p may.1.0 may.0 may.1.1

module _ (s : Shape) (state : State) (id : ℕ) (k : Known) (at : get_elem? state.actors.items id ≡ some k) where
  abbrev actors : List Known
  actors = state.actors.items

  pub known_at : actor_at (map actor_of actors) id ≡ actor_of k
  known_at = get_or-map actor_of actors id k no_actor (within actors id k at) ∙ ap actor_of (place_of_at actors id k k at)

  at_core : get_elem? (map actor_of actors) id ≡ some (actor_of k)
  at_core = subst (λ (a : Actor). get_elem? (map actor_of actors) id ≡ some a) known_at (at_place (map actor_of actors) id no_actor (omega (arith, within actors id k at, length-map actors actor_of)))

  actors_after : (new : Known) (a : Actor) → actor_of new ≡ a → map actor_of (set actors id new) ≡ set (map actor_of actors) id a
  actors_after new a is = map-set actor_of actors id new ∙ ap (λ (b : Actor). set (map actor_of actors) id b) is

  abbrev drawn : ℕ → Actor
  drawn p = actor (holding p (get_or state.next.items p 0)) nothing (actor_at (map actor_of actors) id).finished (actor_at (map actor_of actors) id).seen

  pub draws_next : (p n : ℕ) (new : Known) → n ≡ get_or state.next.items p 0 → ltb (get_or state.next.items p 0) ((job_of s).morsels p) ≡ true → actor_of new ≡ actor (holding p n) nothing k.finished.items k.seen.items
      → core (set state.next.items p (n + 1)) state.done.items state.words (map actor_of (set actors id new)) ≡ after s (core_of state) (step.Draw id p)
  draws_next p n new e left is =
      (λ i. core (set state.next.items p (e i + 1)) state.done.items state.words (actors_after new (drawn p) (is ∙ λ j. actor (holding p (e j)) nothing (sym known_at j).finished (sym known_at j).seen) i))
      ∙ sym (ap (λ b. if b then core (set state.next.items p (get_or state.next.items p 0 + 1)) state.done.items state.words (set (map actor_of actors) id (drawn p)) else core_of state) left)

  pub puts_item : (p i q : ℕ) (words : List (List ℕ)) (new : Known) → words ≡ put_in state.words ((job_of s).region p q) ((job_of s).word p i q) ((job_of s).mask p i q)
      → actor_of new ≡ actor (held_of k.held) (if is_listed i q k.puts.items then k.puts.items else k.puts.items ++ (i, q) ∷ []) k.finished.items k.seen.items
      → core state.next.items state.done.items words (map actor_of (set actors id new)) ≡ after s (core_of state) (step.Put id p i q)
  puts_item p i q words new e is = λ t. core state.next.items state.done.items (e t)
      (actors_after new _ (is ∙ λ u. actor (sym known_at u).held (if is_listed i q (sym known_at u).puts then (sym known_at u).puts else (sym known_at u).puts ++ (i, q) ∷ []) (sym known_at u).finished (sym known_at u).seen) t)

  pub finishes_held : (p m d : ℕ) (new : Known) → d ≡ get_or state.done.items p 0 → held_of k.held ≡ holding p m → actor_of new ≡ actor nothing nothing (k.finished.items ++ holding p m) k.seen.items
      → core state.next.items (set state.done.items p (d + 1)) state.words (map actor_of (set actors id new)) ≡ after s (core_of state) (step.Finish id p)
  finishes_held p m d new e held is = λ t. core state.next.items (set state.done.items p (e t + 1)) state.words
      (actors_after new _ ((is ∙ λ u. actor nothing nothing (k.finished.items ++ sym held u) k.seen.items) ∙ λ u. actor nothing nothing ((sym known_at u).finished ++ (sym known_at u).held) (sym known_at u).seen) t)

  abbrev seeing : ℕ → Actor
  seeing p = let a = actor_at (map actor_of actors) id in actor a.held a.puts a.finished (set a.seen p true)

  pub sees_full : (p : ℕ) (new : Known) → eqb (get_or state.done.items p 0) ((job_of s).morsels p) ≡ true → actor_of new ≡ actor (held_of k.held) k.puts.items k.finished.items (set k.seen.items p true)
      → core state.next.items state.done.items state.words (map actor_of (set actors id new)) ≡ after s (core_of state) (step.See id p)
  sees_full p new all is =
      (λ i. core state.next.items state.done.items state.words (actors_after new (seeing p) (is ∙ λ j. actor (sym known_at j).held (sym known_at j).puts (sym known_at j).finished (set (sym known_at j).seen p true)) i))
      ∙ sym (ap (λ b. if b then core state.next.items state.done.items state.words (set (map actor_of actors) id (seeing p)) else core_of state) all)

  -- the morsel that is held
  pub held_then : (p m : ℕ) (x : ℕ × ℕ) (was : Known) → get_elem? actors id ≡ some was → held_of was.held ≡ x ∷ [] → (actor_at (map actor_of actors) id).held ≡ holding p m → held_of k.held ≡ holding p x.1
  held_then p m x was e h held = let here : held_of k.held ≡ holding p m = ap (λ (a : Actor). a.held) (sym known_at) ∙ held in
      let same : k ≡ was = some-injective k was (sym at ∙ e) in
      here ∙ λ i. holding p ((first_is p m x.0 x.1 (sym here ∙ ap (λ (u : Known). held_of u.held) same ∙ h)).1 i)

  module _ (V : IsValid s) (f : IsStateOf s state) where
    mine : IsSoundActor (job_of s) (λ p. get_or state.done.items p 0) (regions_of state.words) (actor_of k)
    mine = f.sound.sound.each id (actor_of k) at_core

    -- a put that isn't listed has room
    pub room_for_put : (p i q : ℕ) → held_of k.held ≡ holding p (i / s.morsel) → IsPassing (job_of s) p i q → is_listed i q k.puts.items ≡ false → length k.puts.items < vec_capacity k.puts
    room_for_put p i q held item new = omega (
      arith,
      length-append k.puts.items ((i, q) ∷ []),
      puts_fit s.morsel (i / s.morsel) (length (pipe_at s.pipes p).writes) (k.puts.items ++ (i, q) ∷ []) (omega (arith, V.morsel.some)) (different_snoc i q k.puts.items (f.room id k at).different new)
          (λ n x e. ⊎_elim
          (λ old. let t = mine.listed p (i / s.morsel) held n x.0 x.1 old in (t.1, t.0.2))
          (λ (same : (i, q) ≡ x). subst (λ (y : ℕ × ℕ). (y.0 / s.morsel ≡ i / s.morsel) × (y.1 < length (pipe_at s.pipes p).writes)) same (refl, item.2))
          (at_snoc k.puts.items (i, q) x n e)),
      (f.room id k at).puts p item.0,
    )

    -- and so has the morsel that is held, once it is finished
    pub room_for_morsel : (p m : ℕ) → held_of k.held ≡ holding p m → length k.finished.items < vec_capacity k.finished
    room_for_morsel p m held = omega (
      arith,
      length-append k.finished.items ((p, m) ∷ []),
      few (k.finished.items ++ (p, m) ∷ []) (length s.pipes) (job_of s).morsels (pipes_snoc (length s.pipes) p m k.finished.items (mine.ready p m held).0 (f.room id k at).pipes) each_once,
      sum_places (λ (x : Pipe). div_ceil x.items s.morsel) s.pipes no_pipe (length s.pipes) (omega arith),
      ap (λ (xs : List Pipe). sum_by (λ (x : Pipe). div_ceil x.items s.morsel) xs) (take-length s.pipes),
      (f.room id k at).finished,
    )
      where
        below : (x a b : ℕ) → one_if_below x (min a b) ≤ one_if_below x b
        below x a b = dite (dec_le (min a b) x) (λ out. omega (arith, below_no x (min a b) out)) (λ inside. omega (arith, below_yes x (min a b) (omega arith), below_yes x b (omega arith)))

        each_once : (o x : ℕ) → o < length s.pipes → times x (morsels_of o (k.finished.items ++ (p, m) ∷ [])) ≤ one_if_below x ((job_of s).morsels o)
        each_once o x l = omega (
          arith,
          times-morsels x o k.finished.items ((p, m) ∷ []),
          times-morsels_at x o (actor_of k),
          ap (λ (h : List (ℕ × ℕ)). times x (morsels_of o h)) held,
          term_le (λ a. times x (morsels_at o a)) (map actor_of actors) id (actor_of k) at_core,
          f.sound.sound.once o x l,
          below x (get_or state.next.items o 0) ((job_of s).morsels o),
        )

    -- while a morsel is held not all are finished
    pub one_more : AreLawful s.places → (p m : ℕ) → p < length s.pipes → held_of k.held ≡ holding p m → get_or state.done.items p 0 + 1 ≤ (job_of s).morsels p
    one_more L p m less held = not_full (job_of s) (right s V L) (λ q. get_or state.next.items q 0) (λ q. get_or state.done.items q 0) (regions_of state.words) (map actor_of actors) f.sound.sound id (actor_of k) p m at_core less held
