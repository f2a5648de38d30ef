-- What a valid plan says of the ports of a pipe, for one who has seen the pipes that it reads from.
use Rattle.std.proofs.Common.{◌≡◌, ℕ, ◌<◌, ◌||◌, All, List, [], ◌∷◌, length, get_or, true, eqb, eq-eqb, arith, sym, refl, ap, ◌∙◌, subst}
use Rattle.std.proofs.lemmas.Bool.{eqb-true}
use mathlib.Core.Option.{some}
use lib.ListN.{get_elem?}
use Rattle.rpt_base.proofs.ListFacts.{any_from}
use Rattle.transfer_core.specs.declared.plan.Pipe.{Pipe}
use Rattle.transfer_core.specs.declared.plan.Port.{Port}
use Rattle.transfer_core.specs.Actors.{Actor}
use Rattle.transfer_core.specs.Job.{job_of, writer}
use Rattle.transfer_core.specs.Plans.{HasPlace, IsValid, Shape, no_pipe, pipe_at}
use Rattle.transfer_core.specs.Sound.{HasSeenReads}
use Rattle.transfer_core.proofs.Lists.{at_index, at_place, place_of_at}
use Rattle.transfer_core.proofs.Regions.{reads_before}
use Rattle.transfer_core.proofs.ValidFacts.{any_at, has_place, read_serves}
use Rattle.transfer_pass.specs.Work.{HasSeenWriter}

-- what an index gave of the pipes of a plan
pub indexed : (slice pipes : List Pipe) (p : ℕ) (x : Pipe) → slice ≡ pipes → p < length pipes → x ≡ get_or slice p x → x ≡ pipe_at pipes p
indexed slice pipes p x e l h = sym (place_of_at pipes p x no_pipe (at_index pipes p x l (h ∙ ap (λ (l : List Pipe). get_or l p x) e)))

module _ (s : Shape) (V : IsValid s) (p : ℕ) (less : p < length s.pipes) where
  here : get_elem? s.pipes p ≡ some (pipe_at s.pipes p)
  here = at_place s.pipes p no_pipe less

  -- an item of the pipe has its place in the region of each port by which the pipe reads
  pub read_places : (ports : List Port) (i : ℕ) → ports ≡ (pipe_at s.pipes p).reads → i < (pipe_at s.pipes p).items → All (HasPlace s i) ports
  read_places ports i e l k d there =
      has_place s V p i (pipe_at s.pipes p) (get_or ports k d) l
      (read_serves s V p k (pipe_at s.pipes p) (get_or ports k d) here (subst (λ (x : List Port). get_elem? x k ≡ some (get_or ports k d)) e (at_place ports k d there)))

  -- the pipes that write what it reads were seen
  pub read_seen : (a : Actor) (ports : List Port) → ports ≡ (pipe_at s.pipes p).reads → HasSeenReads (job_of s) p a → All (HasSeenWriter (job_of s) a) ports
  read_seen a ports e seen k d there =
      let b = get_or ports k d in
      seen (writer s.pipes b.region) (any_from (λ (x : Port). eqb (writer s.pipes x.region) (writer s.pipes b.region)) (pipe_at s.pipes p).reads k b
      (subst (λ (x : List Port). get_elem? x k ≡ some b) e (at_place ports k d there))
      (eq-eqb (writer s.pipes b.region) (writer s.pipes b.region) refl))

  -- it reads from pipes before it alone
  pub reads_first : (o : ℕ) → (job_of s).reads p o ≡ true → o < p
  reads_first o e =
      let t = any_at (λ (x : Port). eqb (writer s.pipes x.region) o) (pipe_at s.pipes p).reads e in
      omega (arith, reads_before s V p t.0 (pipe_at s.pipes p) t.1 here t.2, eqb-true (writer s.pipes t.1.region) o t.3)
