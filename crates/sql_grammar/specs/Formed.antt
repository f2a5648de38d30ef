-- Syntax trees that a script can have.
-- Words of this crate's own contracts.
use Rattle.std.specs.Prelude.{◌≡◌, ◌≤◌, Bool, true, false, ◌&&◌, List, []}
use Rattle.std.specs.Prelude.{◌∷◌, length, Option, None, Some, IsTrue}
use Rattle.std.specs.List.{list_all}
use Rattle.sql_grammar.specs.declared.tree.Cond.{Cond}
use Rattle.sql_grammar.specs.declared.tree.Cond.TheOpen.{Cond-F, And, Or, Not, Compare}
use Rattle.sql_grammar.specs.declared.tree.Cond.TheOpen.{Between, InList, Like}
use Rattle.sql_grammar.specs.declared.tree.Cond.TheFolds.{fold-Cond}
use Rattle.sql_grammar.specs.declared.tree.CreateTable.{CreateTable}
use Rattle.sql_grammar.specs.declared.tree.Items.{Items}
use Rattle.sql_grammar.specs.declared.tree.Items.TheVariants as i
use Rattle.sql_grammar.specs.declared.tree.Script.{Script}
use Rattle.sql_grammar.specs.declared.tree.Source.{Source}

abbrev pub has_one : {X : Type 0} → List X → Bool
has_one [] = false
has_one (x ∷ xs) = true

abbrev pub has_two : {X : Type 0} → List X → Bool
has_two [] = false
has_two (x ∷ xs) = has_one xs

-- one condition, with whether its members are well formed in their place
abbrev pub formed_step : Cond-F Bool → Bool
formed_step (And members) = has_two members && list_all (λ member. member) members
formed_step (Or members) = has_two members && list_all (λ member. member) members
formed_step (Not at inner) = inner
formed_step (Compare at op left right) = true
formed_step (Between at negated operand low high) = true
formed_step (InList at negated operand values) = has_one values
formed_step (Like at negated operand pattern) = true

-- AND and OR join at least two conditions, and a list of values has one
abbrev pub is_cond : Cond → Bool
is_cond = fold-Cond Bool formed_step

-- a condition that may be missing
abbrev pub IsFilter : Option Cond → Type 0
IsFilter None = Unit {0}
IsFilter (Some condition) = IsTrue (is_cond condition)

-- sources behind the first
abbrev pub AreSources : List Source → Type 0
AreSources [] = Unit {0}
AreSources (source ∷ sources) = IsFilter source.on × AreSources sources

-- there is a source, and the first is joined to none
abbrev pub IsFrom : List Source → Type 0
IsFrom [] = ⊥
IsFrom (first ∷ more) = (first.on ≡ None) × AreSources more

-- all columns, or at least one
abbrev pub AreItems : Items → Type 0
AreItems i.Star = Unit {0}
AreItems (i.List items) = 1 ≤ length items

-- each table has a column
abbrev pub HaveColumns : List CreateTable → Type 0
HaveColumns [] = Unit {0}
HaveColumns (table ∷ tables) = (1 ≤ length table.columns) × HaveColumns tables

-- A script that is well formed: each list has the members that it must have, and the first source is joined to none.
pub record IsWellFormed (script : Script) : Type 0 where
  pub tables : HaveColumns script.tables
  pub items : AreItems script.select.items
  pub sources : IsFrom script.select.sources
  pub filter : IsFilter script.select.filter
