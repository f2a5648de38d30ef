-- What is found out on the way, and why it may be refused.
use Rattle.std.specs.Prelude.{◌≡◌, ℕ, Bool, List, Option, None, Some, Result, Ok, Err}
use Rattle.column_classes.specs.Variables.{AreQueryVariables, QueryVariables}
use Rattle.bound_query.specs.Query.{Query, widths_of}
use Rattle.join_graph.specs.JoinList.{IsAcyclic}
use Rattle.largest_root.specs.Greedy.{IsCyclic}
use Rattle.rpt_engine.specs.Planned.{IsPlan}
use Rattle.rpt_engine.specs.Prepared.{IsAllowed, IsUnsafeAt}
use Rattle.rpt_engine.specs.declared.planning.Plan.{Plan}
use Rattle.sql_grammar.specs.declared.tree.Script.{Script}
use Rattle.rpt_cli.specs.Orders.{order_of}
use Rattle.rpt_cli.specs.Scripts.{IsScript}
use Rattle.refusal_lines.specs.declared.errors.Refusal.{Refusal}
use Rattle.refusal_lines.specs.declared.errors.Refusal.TheVariants.{Cyclic, OrderNames, UnsafeOrder}

-- the script that bytes are; whether a query can be answered, with an order by its words or none, forced or not; and how it is
-- answered, where its relations have these variables and sizes
pub data Matter : Type 0 where
  Reading : (bytes : List ℕ) → Matter
  Preparing : (query : Query) (order : Option (List ℕ)) (force : Bool) → Matter
  Planning : (sets : List (List ℕ)) (sizes : List ℕ) (order : Option (List ℕ)) → Matter

-- a query's variables, and the order of its relations that is given, if any
pub record Prepared : Type 0 where
  pub known : QueryVariables
  pub order : Option (List ℕ)

-- what is found
abbrev pub Found : Matter → Type 0
Found (Reading bytes) = Script
Found (Preparing query order force) = Prepared
Found (Planning sets sizes order) = Plan

-- these are the query's variables
abbrev pub AreKnown : Query → QueryVariables → Type 0
AreKnown query known = AreQueryVariables (widths_of query) query.equalities known

-- The query has a join list, and the order that is given names its relations, and is accepted or forced. Or else it is cyclic;
-- or the order's words are none of its relations' names; or this is the least unsafe prefix.
abbrev pub IsPrepared : Query → Option (List ℕ) → Bool → Result Prepared Refusal → Type 0
IsPrepared query order force (Ok found) =
    AreKnown query found.known × IsAcyclic found.known.sets
    × (order_of query order ≡ Some found.order) × IsAllowed found.known.sets found.order force
IsPrepared query order force (Err (Cyclic best needed)) =
    (known : QueryVariables) × AreKnown query known × IsCyclic known.sets best needed
IsPrepared query order force (Err OrderNames) =
    (known : QueryVariables) × AreKnown query known × IsAcyclic known.sets × (order_of query order ≡ None)
IsPrepared query order force (Err (UnsafeOrder prefix)) =
    (known : QueryVariables) × AreKnown query known × IsAcyclic known.sets
    × (named : Option (List ℕ)) × (order_of query order ≡ Some named) × IsUnsafeAt known.sets named force prefix
IsPrepared query order force (Err e) = ⊥

-- a plan is never refused
abbrev pub IsPlanned : List (List ℕ) → List ℕ → Option (List ℕ) → Result Plan Refusal → Type 0
IsPlanned sets sizes order (Ok plan) = IsPlan sets sizes order plan
IsPlanned sets sizes order (Err e) = ⊥

-- this is what is found, or the refusal
abbrev pub IsFound : (matter : Matter) → Result (Found matter) Refusal → Type 0
IsFound (Reading bytes) found = IsScript bytes found
IsFound (Preparing query order force) found = IsPrepared query order force found
IsFound (Planning sets sizes order) found = IsPlanned sets sizes order found
