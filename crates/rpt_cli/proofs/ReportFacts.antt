-- What a report is asked of, and that the numbers of a run are those of its course.
use Rattle.std.proofs.Common.{◌≡◌, ◌∙◌, ap, sym, subst, get_or, ℕ, ◌<◌, List, length, map, arith}
use Rattle.std.specs.Prelude.{Bool, IfSome, None, Option, Some}
use Rattle.std.specs.List.{All, range_with_len}
use Rattle.std.proofs.lemmas.List.Elements.{Contains-get_or}
use Rattle.std.proofs.lemmas.List.FromFn.{length-map-range_with_len}
use Rattle.column_table.specs.Table.{Rows}
use Rattle.rpt_base.proofs.RangeFacts.{map-range}
use Rattle.bound_query.specs.Query.{BoundQuery}
use Rattle.bound_query.specs.Answer.{counts_of}
use Rattle.join_graph.specs.declared.tree.Tree.{Tree}
use Rattle.join_graph.specs.JoinList.{HasParents}
use Rattle.safe_subjoin.specs.SafeOrder.{IsListOf}
use Rattle.rpt_base.specs.Orders.{IsOrder}
use Rattle.join_laws.specs.Selected.{selected_rows}
use Rattle.plan_report.specs.Report.{AreLists, RunCounts, report_of}
use Rattle.plan_report.specs.Run.{IsRunOf}
use Rattle.plan_report.specs.declared.runs.RunPart.{RunPart}
use Rattle.morsel_pipeline.specs.Runs.{Run as Joined}
use Rattle.transfer_plan.specs.Kept.{CanTell, Run, kept_count}
use Rattle.rpt_engine.specs.Answered.{plan_of}
use Rattle.rpt_engine.specs.Joins.{joined_rows}
use Rattle.rpt_engine.specs.declared.answering.Outcome.{Outcome}
use Rattle.rpt_engine.specs.declared.options.Options.{Options}
use Rattle.rpt_cli.specs.Command.{counts_in, explain_text}
use Rattle.rpt_engine.specs.Planned.{IsPlan}
use Rattle.rpt_engine.specs.declared.planning.Plan.{Plan}
use Rattle.rpt_engine.proofs.BoundedFacts.{plan-each}
use Rattle.rpt_cli.specs.Steps.{IsPlanFor, TellsRun}

-- a plan by its parts, as they are seen
pub plan-seen : (sets : List (List ℕ)) (sizes : List ℕ) (given : Option (List ℕ)) (plan : Plan) (order : List ℕ) (lists : List (Option Tree)) → order ≡ plan.order → lists ≡ plan.lists
    → IsPlan sets sizes given plan → IsPlan sets sizes given (record { tree = plan.tree; order = order; lists = lists })
plan-seen sets sizes given plan order lists o l is =
    subst (λ (os : List ℕ). IsPlan sets sizes given (record { tree = plan.tree; order = os; lists = lists })) (sym o)
    (subst (λ (ls : List (Option Tree)). IsPlan sets sizes given (record { tree = plan.tree; order = plan.order; lists = ls })) (sym l) is)

module _ (b : BoundQuery) (options : Options) (plan : Plan) (is : IsPlanFor b options plan) (sets : length b.known.sets ≡ length b.query.table_of) where
  -- the order of a plan has each relation once
  pub plan-order_each : IfSome options.order (λ (o : List ℕ). IsOrder (length b.known.sets) o) → IsOrder (length b.query.table_of) plan.order
  plan-order_each given = subst (λ (n : ℕ). IsOrder n plan.order) sets (plan-each b.known.sets is.0 options.order plan is.1 given)

  pub plan-order_below : IfSome options.order (λ (o : List ℕ). IsOrder (length b.known.sets) o) → All (λ r. r < length b.query.table_of) plan.order
  plan-order_below given = λ i d lt. ((plan-order_each given).members (get_or plan.order i d)).0 (Contains-get_or plan.order i d lt)

  -- and each of its join lists is a list with parents
  pub plan-lists : AreLists (length b.known.sets) plan.lists
  plan-lists i d lt = by _ (get_or plan.lists i d) (is.1.lists.each i d lt)
    where
      by : (set : ℕ → Bool) (list : Option Tree) → IsListOf b.known.sets set list → IfSome list (λ (t : Tree). HasParents (length b.known.sets) t.root t.links)
      by set None h = tt
      by set (Some t) h = h.joins.parents

module _ (b : BoundQuery) (tables : List Rows) (options : Options) (o : Outcome) (tells : TellsRun b tables options o) (rows selected : List ℕ) (rows_are : rows ≡ counts_of b.query tables) (selected_are : selected ≡ o.selected) where
  abbrev n : ℕ
  n = length b.query.table_of

  selected-count : length selected ≡ n
  selected-count = ap (λ (ns : List ℕ). length ns) (selected_are ∙ tells.selected) ∙ length-map-range_with_len (λ r. length (selected_rows b tables r)) 0 n

  -- a run with these numbers is one over the query's relations
  pub run-of : (run : RunPart) → run.rows.now ≡ rows → run.selected.now ≡ selected → run.transfer.now ≡ o.transfer → run.joined.now ≡ o.joined → IsRunOf n run
  run-of run r s t j = record {
    rows = ap (λ (ns : List ℕ). length ns) (r ∙ rows_are) ∙ length-map-range_with_len _ 0 n;
    selected = ap (λ (ns : List ℕ). length ns) s ∙ selected-count;
    told = λ k lt. subst (λ (u : Run). CanTell u k) (sym t) (tells.counts k lt).0;
    prefixes = ap (λ (u : Joined). u.width) j ∙ tells.joined.width ∙ tells.order.count;
  }

  -- the numbers that it tells
  abbrev told : RunCounts
  told = record { filter = options.filter; rows = rows; selected = selected; reduced = map (kept_count o.transfer) (range_with_len 0 (length selected)); prefixes = o.joined.counts }

  told-counts : told ≡ counts_in options.filter b tables (plan_of o)
  told-counts =
      let kept : map (kept_count o.transfer) (range_with_len 0 (length selected)) ≡ map (λ r. length (joined_rows options.filter b tables (plan_of o) r)) (range_with_len 0 n)
      = ap (λ (k : ℕ). map (kept_count o.transfer) (range_with_len 0 k)) selected-count
      ∙ map-range (kept_count o.transfer) (λ r. length (joined_rows options.filter b tables (plan_of o) r)) 0 n (λ r lt. (tells.counts r (omega (arith, lt))).1) in
      λ i. record { filter = options.filter; rows = rows_are i; selected = (selected_are ∙ tells.selected) i; reduced = kept i; prefixes = tells.joined.counts i }

  -- so its report is what explain says
  pub explain-is : (text order : List ℕ) (lists : List (Option Tree)) → order ≡ o.order → lists ≡ o.lists → text ≡ report_of b.query b.known o.tree order lists (Some told)
      → text ≡ explain_text options.filter b tables (plan_of o)
  explain-is text order lists along listed said =
      said
      ∙ ap (λ (os : List ℕ). report_of b.query b.known o.tree os lists (Some told)) along
      ∙ ap (λ (ls : List (Option Tree)). report_of b.query b.known o.tree o.order ls (Some told)) listed
      ∙ ap (λ (counts : RunCounts). report_of b.query b.known o.tree o.order o.lists (Some counts)) told-counts
