-- What explain says of a command, and how the answer bounds it.
use Rattle.std.specs.Prelude.{◌≡◌, ℕ, ◌≤◌, All, List, [], ◌∷◌, Ok, Option, ⊤}
use Rattle.rpt_base.specs.declared.filters.FilterKind.TheVariants as filter_kind
use Rattle.rpt_outside.specs.Causes.{Tells}
use Rattle.column_table.specs.Table.{Rows}
use Rattle.column_table.specs.declared.declared.Decl.{Decl}
use Rattle.sql_grammar.specs.declared.tree.Script.{Script}
use Rattle.bound_query.specs.Query.{BoundQuery}
use Rattle.rpt_engine.specs.Bounded.{AreAnswerRows, answer_count}
use Rattle.rpt_engine.specs.Joins.{joined_rows, sizes_of}
use Rattle.rpt_engine.specs.Planned.{IsPlan}
use Rattle.rpt_engine.specs.Prepared.{IsAccepted}
use Rattle.rpt_engine.specs.declared.planning.Plan.{Plan}
use Rattle.command_words.specs.declared.words.Command.{Command}
use Rattle.rpt_cli.specs.Command.{counts_in, explain_text, query_of_script}
use Rattle.rpt_cli.specs.Matters.{IsPrepared}
use Rattle.rpt_cli.specs.Scripts.{IsScript}
use Rattle.rpt_cli.specs.Tables.{table_file, table_of}

-- the table is that of the contents of its file, where these are told
abbrev pub IsLoaded : (List ℕ → Option (List ℕ)) → List ℕ → Decl → Rows → Type 0
IsLoaded told folder decl table =
    (bytes : List ℕ) × Tells (told (table_file folder decl.name)) bytes × (table_of decl bytes ≡ Ok table)

-- each table is
abbrev pub AreLoaded : (List ℕ → Option (List ℕ)) → List ℕ → List Decl → List Rows → Type 0
AreLoaded told folder [] [] = ⊤
AreLoaded told folder [] (table ∷ tables) = ⊥
AreLoaded told folder (decl ∷ decls) [] = ⊥
AreLoaded told folder (decl ∷ decls) (table ∷ tables) =
    IsLoaded told folder decl table × AreLoaded told folder decls tables

-- A command's query, its tables and its plan: the script's bytes are read as a script, which is bound and prepared
-- with the order that is given; each table is its file's; and the plan is by the numbers of selected rows.
pub record IsRunOf (told : List ℕ → Option (List ℕ)) (command : Command) (bound : BoundQuery)
    (tables : List Rows) (plan : Plan) : Type 0 where
  pub bytes : List ℕ
  pub is_told : Tells (told command.script) bytes
  pub script : Script
  pub read : IsScript bytes (Ok script)
  pub query : query_of_script script ≡ Ok bound.query
  pub order : Option (List ℕ)
  pub prepared : IsPrepared bound.query command.order command.force (Ok (record { known = bound.known; order = order }))
  pub loaded : AreLoaded told command.folder bound.query.tables tables
  pub planned : IsPlan bound.known.sets (sizes_of bound tables) order plan

-- The text is the report of the command's query, tables and plan, whose prefix counts are the numbers of tuples of the plan's prefixes.
-- With exact filters the rows that are joined are just those of the answer, and along an accepted order no count is more than the
-- answer's.
pub record IsExplained (told : List ℕ → Option (List ℕ)) (command : Command) (text : List ℕ) : Type 0 where
  pub bound : BoundQuery
  pub tables : List Rows
  pub plan : Plan
  pub run : IsRunOf told command bound tables plan
  pub text_is : text ≡ explain_text command.filter bound tables plan
  pub full : command.filter ≡ filter_kind.Exact
      → AreAnswerRows bound tables (joined_rows command.filter bound tables plan)
  pub bounded : command.filter ≡ filter_kind.Exact → IsAccepted bound.known.sets plan.order
      → All (λ count. count ≤ answer_count bound tables) (counts_in command.filter bound tables plan).prefixes
