-- Words of this crate's own contracts: what the parts of the top call give.
use Rattle.std.specs.Prelude.{◌≡◌, ◌⊎◌, ℕ, List, Result, Ok, Err, Option, Some, None, length}
use Rattle.rpt_outside.specs.Causes.{NeverFalls}
use Rattle.rpt_outside.specs.Seen.{FilesSeen, seen, seen_until}
use Rattle.rpt_outside.specs.declared.traits.Files.{Ghosts as FileWords}
use Rattle.sql_grammar.specs.declared.tree.Script.{Script}
use Rattle.column_table.specs.Table.{Rows}
use Rattle.bound_query.specs.Query.{BoundQuery}
use Rattle.rpt_base.specs.Orders.{IsOrder}
use Rattle.join_laws.specs.Selected.{instance_of, selected_counts}
use Rattle.order_join.specs.Joined.{IsJoinRun}
use Rattle.rpt_engine.specs.Answered.{plan_of}
use Rattle.rpt_engine.specs.Joins.{joined_rows}
use Rattle.rpt_engine.specs.Planned.{IsPlan}
use Rattle.rpt_engine.specs.Transferred.{CountsJoined}
use Rattle.rpt_engine.specs.declared.answering.Outcome.{Outcome}
use Rattle.rpt_engine.specs.declared.options.Options.{Options}
use Rattle.rpt_engine.specs.declared.planning.Plan.{Plan}
use Rattle.rpt_engine.specs.declared.errors.PrepareError.{PrepareError}
use Rattle.rpt_engine.specs.declared.errors.PrepareError.TheVariants as prepare_error
use Rattle.refusal_lines.specs.declared.errors.Refusal.{Refusal}
use Rattle.refusal_lines.specs.declared.errors.Refusal.TheVariants.{Cyclic, OrderNames, UnsafeOrder, Memory}
use Rattle.rpt_cli.specs.Course.{Reply, Course, Gives}
use Rattle.rpt_cli.specs.Scripts.{IsScript}

-- the files' contents are what they were, and no count of a file fell
abbrev pub AreKept : {F : Type 0} → FileWords F → F → F → Type 0
AreKept words old new = (words.contents new ≡ words.contents old) × NeverFalls (words.faults old) (words.faults new)

-- The part of a course in front of what follows comes to this, over files that were so at its begin and at its end: each reply
-- that what follows gives, the whole gives.
abbrev pub Passes : {F X : Type 0} → FileWords F → F → F → ((X → Course) → Course) → X → Type 0
Passes {X = X} words old new part x =
    (next : X → Course) (end : List ℕ → ℕ) (reply : Reply)
    → Gives (seen_until words new end) (next x) reply → Gives (seen_until words old end) (part next) reply

-- the part of a course in front of what follows ends it so, whatever follows
abbrev pub Stops : {F X : Type 0} → FileWords F → F → F → ((X → Course) → Course) → Refusal → Type 0
Stops {X = X} words old new part e = (next : X → Course) → Gives (seen words old new) (part next) (Err e)

-- the same of a part that asks for no file
abbrev pub PassesUnasked : {X : Type 0} → ((X → Course) → Course) → X → Type 0
PassesUnasked {X = X} part x =
    (files : FilesSeen) (next : X → Course) (reply : Reply)
    → Gives files (next x) reply → Gives files (part next) reply

abbrev pub StopsUnasked : {X : Type 0} → ((X → Course) → Course) → Refusal → Type 0
StopsUnasked {X = X} part e = (files : FilesSeen) (next : X → Course) → Gives files (part next) (Err e)

-- the course, which asks for no file, leads to this reply, or memory ran out
abbrev pub GivesUnasked : Course → Reply → Type 0
GivesUnasked course reply = (files : FilesSeen) → Gives files course reply

-- what a definition says; or memory ran out
abbrev pub Makes : {X : Type 0} → Result X Refusal → Result X Refusal → Type 0
Makes said (Ok x) = said ≡ Ok x
Makes said (Err e) = (e ≡ Memory) ⊎ (said ≡ Err e)

-- the order that words say, or that they say none; or memory ran out
abbrev pub SaysOrder : Option (Option (List ℕ)) → Result (Option (List ℕ)) Refusal → Type 0
SaysOrder said (Ok order) = said ≡ Some order
SaysOrder said (Err e) = (e ≡ Memory) ⊎ ((e ≡ OrderNames) × (said ≡ None))

-- an error of the engine as a refusal
abbrev pub why_unprepared : PrepareError → Refusal
why_unprepared (prepare_error.Cyclic best needed) = Cyclic best needed
why_unprepared (prepare_error.UnsafeOrder prefix) = UnsafeOrder prefix
why_unprepared prepare_error.Memory = Memory

-- the bytes are the script that is answered, or refused as is answered; or memory ran out
abbrev pub SaysScript : List ℕ → Result Script Refusal → Type 0
SaysScript bytes (Ok script) = IsScript bytes (Ok script)
SaysScript bytes (Err e) = (e ≡ Memory) ⊎ IsScript bytes (Err e)

-- this is a plan of the query, with the order that is given if any is, for some sizes of its relations
abbrev pub IsPlanFor : BoundQuery → Options → Plan → Type 0
IsPlanFor bound options plan = (sizes : List ℕ) × IsPlan bound.known.sets sizes options.order plan

-- what the outcome of a query over its tables tells: the plan, and the numbers of rows that were selected, kept and joined
pub record TellsRun (bound : BoundQuery) (tables : List Rows) (options : Options) (outcome : Outcome) : Type 0 where
  pub plan : IsPlan bound.known.sets (selected_counts bound tables) options.order (plan_of outcome)
  pub order : IsOrder (length bound.query.table_of) outcome.order
  pub selected : outcome.selected ≡ selected_counts bound tables
  pub counts : CountsJoined bound tables options.filter (plan_of outcome) outcome.transfer
  pub joined : IsJoinRun (instance_of bound tables) (joined_rows options.filter bound tables (plan_of outcome))
      outcome.order outcome.joined
