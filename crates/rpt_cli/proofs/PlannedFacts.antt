-- That a query is planned in one way, and what its report is.
use Rattle.std.proofs.Common.{◌≡◌, inr, ap, subst, ℕ, List}
use Rattle.std.specs.Prelude.{None, Option, Result, Ok, Err}
use Rattle.bound_query.specs.Query.{BoundQuery}
use Rattle.plan_report.specs.Report.{report_of}
use Rattle.rpt_engine.specs.Planned.{IsPlan, no_sizes}
use Rattle.rpt_engine.specs.declared.planning.Plan.{Plan}
use Rattle.refusal_lines.specs.declared.errors.Refusal.{Refusal}
use Rattle.rpt_cli.specs.Command.{check_course}
use Rattle.rpt_cli.specs.Course.{Ends}
use Rattle.rpt_cli.specs.Matters.{IsPlanned, Planning}
use Rattle.rpt_cli.specs.Steps.{GivesUnasked}
use Rattle.rpt_cli.proofs.Courses.{finds-Gives}

-- what the engine's law says: a query has one plan
abbrev pub HasOnePlan : Type 0
HasOnePlan = (vs : List (List ℕ)) (sizes : List ℕ) (order : Option (List ℕ)) (a b : Plan) → IsPlan vs sizes order a → IsPlan vs sizes order b → a ≡ b

pub planned-only : HasOnePlan → (sets : List (List ℕ)) (sizes : List ℕ) (order : Option (List ℕ)) (a b : Result Plan Refusal) → IsPlanned sets sizes order a → IsPlanned sets sizes order b → b ≡ a
planned-only one sets sizes order (Ok a) (Ok b) p q = ap Ok (one sets sizes order b a q p)
planned-only one sets sizes order (Ok a) (Err e) p q = absurd q
planned-only one sets sizes order (Err e) b p q = absurd p

-- a plan of the query's graph, with all sizes 0
pub plan-unsized : (graph sets : List (List ℕ)) (sizes : List ℕ) (order : Option (List ℕ)) (plan : Plan) → graph ≡ sets → sizes ≡ no_sizes sets → IsPlan graph sizes order plan → IsPlan sets (no_sizes sets) order plan
plan-unsized graph sets sizes order plan g s is =
    subst (λ (vs : List (List ℕ)). IsPlan vs (no_sizes sets) order plan) g (subst (λ (ns : List ℕ). IsPlan graph ns order plan) s is)

-- the report of a plan ends the course
pub report-Gives : HasOnePlan → (bound : BoundQuery) (order : Option (List ℕ)) (plan : Plan) (text : List ℕ) → IsPlan bound.known.sets (no_sizes bound.known.sets) order plan
    → text ≡ report_of bound.query bound.known plan.tree plan.order plan.lists None → GivesUnasked (check_course bound order) (Ok text)
report-Gives one bound order plan text planned is = λ files.
    finds-Gives files (Planning bound.known.sets (no_sizes bound.known.sets) order)
    (λ (found : Plan). Ends (Ok (report_of bound.query bound.known found.tree found.order found.lists None))) plan (Ok text)
    (planned, λ other other_is. planned-only one bound.known.sets (no_sizes bound.known.sets) order (Ok plan) other planned other_is)
    (inr (ap Ok is))
