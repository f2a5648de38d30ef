-- What has no refusal is within the limits.
use Rattle.std.proofs.Common.{◌≡◌, ◌≤◌, ◌+◌, ℕ, Bool, true, false, List, [], ◌∷◌, ◌++◌, length, refl, arith, length-append}
use Rattle.std.specs.Prelude.{◌==◌, All, None}
use Rattle.std.proofs.lemmas.Bool.Decides.{nat_tests}
use Rattle.std.proofs.lemmas.List.Elements.{All-cons}
use Rattle.rpt_base.specs.declared.limits.TheConstants.{MAX_COLUMNS, MAX_RELATIONS}
use Rattle.rpt_base.proofs.ListFacts.{front-empty, back-empty}
use Rattle.sql_grammar.specs.declared.tree.Script.{Script}
use Rattle.sql_grammar.specs.declared.tree.CreateTable.{CreateTable}
use Rattle.sql_grammar.specs.declared.tree.ColumnItem.{ColumnItem}
use Rattle.sql_grammar.specs.declared.tree.Source.{Source}
use Rattle.script_rules.specs.declared.found.Violation.{Violation}
use Rattle.script_rules.specs.declared.kinds.BindKind.{BindKind}
use Rattle.script_rules.specs.Scope.{IsWithinLimits}
use Rattle.script_rules.specs.Violations.{column_violations, each_behind, violation_if, first_of, source_violations, table_violations}
use Rattle.script_rules.proofs.ViolationFacts.{first_of-none}

pub no_violation : (holds : Bool) (at : ℕ) (kind : BindKind) → violation_if holds at kind ≡ [] → holds ≡ false
unfolding violation_if
no_violation true at kind h = cc
no_violation false at kind h = refl

module _ {X : Type 0} (violations : List X → X → List Violation) where
  -- where each member up to a limit is free of refusals only below it, there are no more
  few-behind : (most : ℕ) → ((before : List X) (x : X) → violations before x ≡ [] → (length before == most) ≡ false)
      → (before xs : List X) → length before ≤ most → each_behind violations before xs ≡ [] → length before + length xs ≤ most
  unfolding each_behind
  few-behind most free before [] le h = omega arith
  few-behind most free before (x ∷ xs) le h =
      let other = free before x (front-empty (violations before x) (each_behind violations (before ++ x ∷ []) xs) h) in
      let longer = length-append before (x ∷ []) in
      let less : length before + 1 ≤ most = grind (arith, nat_tests) in
      let rest = few-behind most free (before ++ x ∷ []) xs (omega arith) (back-empty (violations before x) (each_behind violations (before ++ x ∷ []) xs) h) in
      omega arith

  -- what holds of each member that is free of refusals
  all-behind : (P : X → Type 0) → ((before : List X) (x : X) → violations before x ≡ [] → P x) → (before xs : List X) → each_behind violations before xs ≡ [] → All P xs
  unfolding each_behind
  all-behind P free before [] h = λ k d lt. absurd (omega arith)
  all-behind P free before (x ∷ xs) h =
      All-cons P x xs (free before x (front-empty (violations before x) (each_behind violations (before ++ x ∷ []) xs) h))
      (all-behind P free (before ++ x ∷ []) xs (back-empty (violations before x) (each_behind violations (before ++ x ∷ []) xs) h))

column-free : (before : List ColumnItem) (c : ColumnItem) → column_violations before c ≡ [] → (length before == MAX_COLUMNS) ≡ false
unfolding column_violations
column-free before c h = no_violation _ _ _ (front-empty _ _ h)

third-nil : {X : Type 0} (a b c : List X) → a ++ (b ++ c) ≡ [] → c ≡ []
third-nil a b c h = back-empty b c (back-empty a (b ++ c) h)

few-columns : (columns : List ColumnItem) → each_behind column_violations [] columns ≡ [] → length columns ≤ MAX_COLUMNS
few-columns columns h =
    let few : 0 + length columns ≤ MAX_COLUMNS = few-behind column_violations MAX_COLUMNS column-free [] columns (omega arith) h in
    omega arith

table-free : (before : List CreateTable) (t : CreateTable) → table_violations before t ≡ [] → length t.columns ≤ MAX_COLUMNS
unfolding table_violations
table-free before t h = few-columns t.columns (third-nil _ _ _ h)

source-free : (tables : List CreateTable) (before : List Source) (s : Source) → source_violations tables before s ≡ [] → (length before == MAX_RELATIONS) ≡ false
unfolding source_violations
source-free tables before s h = no_violation _ _ _ (back-empty _ _ (back-empty _ _ h))

pub within_limits : (script : Script) → first_of None (each_behind table_violations [] script.tables) ≡ None
    → first_of None (each_behind (source_violations script.tables) [] script.select.sources) ≡ None → IsWithinLimits script
within_limits script tables sources = record {
  relations =
      let few = few-behind (source_violations script.tables) MAX_RELATIONS (source-free script.tables) [] script.select.sources (omega arith) (first_of-none _ sources) in
      omega arith;
  columns = all-behind table_violations (λ (t : CreateTable). length t.columns ≤ MAX_COLUMNS) table-free [] script.tables (first_of-none _ tables);
}
