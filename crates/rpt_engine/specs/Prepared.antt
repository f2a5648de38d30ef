-- When a query can be answered along an order.
use Rattle.std.specs.Prelude.{◌≡◌, ℕ, ◌≤◌, Bool, true, false, IfSome, List, length, Option, None, Some, ⊤}
use Rattle.rpt_base.specs.Limits.{AreWorkers, IsMorsel}
use Rattle.bound_query.specs.Query.{BoundQuery}
use Rattle.join_graph.specs.JoinList.{IsAcyclic}
use Rattle.join_graph.specs.SafeSet.{IsSafe}
use Rattle.largest_root.specs.Greedy.{IsCyclic}
use Rattle.safe_subjoin.specs.SafeOrder.{IsFirstUnsafe, first_of}
use Rattle.rpt_base.specs.Orders.{IsOrder}
use Rattle.rpt_engine.specs.declared.errors.PrepareError.{PrepareError}
use Rattle.rpt_engine.specs.declared.errors.PrepareError.TheVariants.{Cyclic, UnsafeOrder, Memory}
use Rattle.rpt_engine.specs.declared.options.Options.{Options}
use Rattle.rpt_engine.specs.declared.preparing.Prepared.{Prepared}

-- an accepted order: each of its prefixes is a safe set
abbrev pub IsAccepted : List (List ℕ) → List ℕ → Type 0
IsAccepted vs order = (k : ℕ) → 1 ≤ k → k ≤ length vs → IsSafe vs (first_of order k)

-- an order that is given is forced or accepted
abbrev pub IsAllowed : List (List ℕ) → Option (List ℕ) → Bool → Type 0
IsAllowed vs None force = ⊤
IsAllowed vs (Some order) true = ⊤
IsAllowed vs (Some order) false = IsAccepted vs order

-- an order is given and not forced, and this is the least of its prefixes that isn't safe
abbrev pub IsUnsafeAt : List (List ℕ) → Option (List ℕ) → Bool → ℕ → Type 0
IsUnsafeAt vs None force prefix = ⊥
IsUnsafeAt vs (Some order) true prefix = ⊥
IsUnsafeAt vs (Some order) false prefix = IsFirstUnsafe vs order prefix

-- what a refusal says
abbrev pub IsUnprepared : List (List ℕ) → Option (List ℕ) → Bool → PrepareError → Type 0
IsUnprepared vs order force (Cyclic best needed) = IsCyclic vs best needed
IsUnprepared vs order force (UnsafeOrder prefix) = IsAcyclic vs × IsUnsafeAt vs order force prefix
IsUnprepared vs order force Memory = Unit {0}

-- what an answer rests on: the graph is the query's, which has a join list, an order that is given has each relation once, and the
-- workers and the morsel are within their limits
pub record IsReady (bound : BoundQuery) (prepared : Prepared) (options : Options) : Type 0 where
  pub graph : prepared.graph ≡ bound.known.sets
  pub acyclic : IsAcyclic bound.known.sets
  pub order : IfSome options.order (λ order. IsOrder (length bound.known.sets) order)
  pub workers : AreWorkers options.workers
  pub morsel : IsMorsel options.morsel
