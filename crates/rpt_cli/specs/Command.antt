-- The course of a command: what it asks for and what it answers, in the order of refusals.
-- The rows that comments name are those of the table of statuses and lines in docs/COMMAND.md. Rows 2 and 11 are
-- the course's own (`Asks` of Course.antt), row 20 is of its delivery (Delivery.antt), and row 21 may come in place
-- of any answer (`Gives`).
use Rattle.std.specs.Prelude.{ℕ, ◌-◌, ◌∷◌, ◌++◌, sum, Bool, true, false, List, [], nat_lt, length, map}
use Rattle.std.specs.Prelude.{Result, Ok, Err, Option, None, Some, if◌then◌else◌}
use Rattle.std.specs.List.{range_with_len}
use Rattle.std.specs.Option.{unwrap_or}
use Rattle.rpt_base.specs.declared.filters.FilterKind.{FilterKind}
use Rattle.rpt_base.specs.declared.limits.TheConstants.{MAX_SCRIPT_BYTES, MAX_TABLE_BYTES, MAX_ROWS}
use Rattle.column_table.specs.declared.declared.Decl.{Decl}
use Rattle.column_table.specs.Table.{Rows}
use Rattle.script_rules.specs.declared.found.Violation.{Violation}
use Rattle.script_rules.specs.Violations.{refusal_of as script_refusal}
use Rattle.sql_grammar.specs.declared.tree.Script.{Script}
use Rattle.bound_query.specs.Query.{BoundQuery, Query}
use Rattle.bound_query.specs.Answer.{answer_of, counts_of}
use Rattle.binder.specs.Binding.{query_of}
use Rattle.row_output.specs.OutputText.{output_text}
use Rattle.join_laws.specs.Selected.{selected_counts}
use Rattle.plan_report.specs.Report.{RunCounts, report_of}
use Rattle.rpt_engine.specs.Joins.{joined_rows, overflow_of, plan_joins, sizes_of}
use Rattle.rpt_engine.specs.Planned.{no_sizes}
use Rattle.rpt_engine.specs.declared.planning.Plan.{Plan}
use Rattle.command_words.specs.declared.words.Command.{Command}
use Rattle.command_words.specs.declared.words.Mode.{Mode}
use Rattle.command_words.specs.declared.words.Mode.TheVariants as mode
use Rattle.command_words.specs.Words.{command_of, sample_number}
use Rattle.refusal_lines.specs.declared.errors.Refusal.{Refusal}
use Rattle.refusal_lines.specs.declared.errors.Refusal.TheVariants.{Usage, TooLarge, Bind, TooManyRows, RowsOverflow}
use Rattle.rpt_cli.specs.Course.{Course, Ends, Asks, Finds, goes_on, over_files}
use Rattle.rpt_cli.specs.Matters.{Planning, Preparing, Reading}
use Rattle.rpt_cli.specs.Sample.{file_bytes, size_lines}
use Rattle.rpt_cli.specs.Tables.{table_file, table_of}
use Rattle.sample_gen.specs.Script.{sample_script}
use Rattle.sample_gen.specs.Tables.{sample_tables}

-- a file is asked for, whose contents have at most so many bytes: rows 3 and 12
abbrev pub asks_within : ℕ → List ℕ → (List ℕ → Course) → Course
asks_within limit name next =
    Asks name (λ bytes. if nat_lt limit (length bytes) then Ends (Err (TooLarge name)) else next bytes)

-- the bound query of a script, or its first refusal: row 7
abbrev pub query_or : Option Violation → Query → Result Query Refusal
query_or None query = Ok query
query_or (Some fault) query = Err (Bind fault.kind fault.at)

abbrev pub query_of_script : Script → Result Query Refusal
query_of_script script = query_or (script_refusal script) (query_of script)

-- bytes are read as a script, rows 4 to 6, and the course goes on with what it is bound to
abbrev pub bytes_course : List ℕ → (Query → Course) → Course
bytes_course bytes next = Finds (Reading bytes) (λ script. goes_on (query_of_script script) next)

-- the script's file is asked for, and its bytes are read
abbrev pub script_course : List ℕ → (Query → Course) → Course
script_course name next = asks_within MAX_SCRIPT_BYTES name (λ bytes. bytes_course bytes next)

-- a table's file is asked for, with at most so many bytes, and read, rows 13 to 17; the course goes on with the table and the bytes
-- that are left
abbrev pub table_course : ℕ → List ℕ → Decl → ((Rows × ℕ) → Course) → Course
table_course room folder decl next =
    asks_within room (table_file folder decl.name)
    (λ bytes. goes_on (table_of decl bytes) (λ table. next (table, room - length bytes)))

-- one after the other, with at most so many bytes together, and the course goes on with the tables behind those that were read
abbrev pub tables_course : List ℕ → (List Rows → Course) → ℕ → List Rows → List Decl → Course
tables_course folder next room tables [] = next tables
tables_course folder next room tables (decl ∷ decls) =
    table_course room folder decl (λ read. tables_course folder next read.1 (tables ++ read.0 ∷ []) decls)

-- how many bytes the tables' files may have together; a word, so that no goal computes with the number
unfoldable pub most_table_bytes : ℕ
most_table_bytes = MAX_TABLE_BYTES

-- the tables' files are asked for in the order of first use, and the course goes on with all tables
abbrev pub load_course : List ℕ → List Decl → (List Rows → Course) → Course
load_course folder decls next = tables_course folder next most_table_bytes [] decls

-- a course goes on, unless a prefix has too many tuples: row 19
abbrev pub unless_overflow : Option ℕ → Course → Course
unless_overflow None next = next
unless_overflow (Some prefix) next = Ends (Err (RowsOverflow prefix))

-- The relations of a query are joined over its tables, where their rows are within the limit together, row 18: the query is planned, with
-- the order that is given, if any is, and the course goes on with the plan, unless it overflows.
abbrev pub join_course : FilterKind → BoundQuery → Option (List ℕ) → List Rows → (Plan → Course) → Course
join_course filter bound order tables next =
    if nat_lt MAX_ROWS (sum (counts_of bound.query tables)) then Ends (Err TooManyRows)
    else
    Finds (Planning bound.known.sets (sizes_of bound tables) order)
    (λ plan. unless_overflow (overflow_of filter bound tables plan) (next plan))

-- The tables of a query are loaded and its relations are joined over them, and the course goes on with the tables and the plan.
abbrev pub answered_course : FilterKind → List ℕ → BoundQuery → Option (List ℕ) → ((List Rows × Plan) → Course) → Course
answered_course filter folder bound order next =
    load_course folder bound.query.tables
    (λ tables. join_course filter bound order tables (λ plan. next (tables, plan)))

-- the text of the answer, however it was found
abbrev pub answer_text : BoundQuery → List Rows → List ℕ
answer_text bound tables = output_text bound.query tables (answer_of bound.query tables)

-- mode run: the query is answered over its tables
abbrev pub run_course : FilterKind → List ℕ → BoundQuery → Option (List ℕ) → Course
run_course filter folder bound order =
    answered_course filter folder bound order (λ found. Ends (Ok (answer_text bound found.0)))

-- How many rows there are of each relation, how many are selected and how many are joined, and how many tuples each prefix of the
-- plan's order has.
abbrev pub counts_in : FilterKind → BoundQuery → List Rows → Plan → RunCounts
counts_in filter bound tables plan = record {
  filter = filter;
  rows = counts_of bound.query tables;
  selected = selected_counts bound tables;
  reduced = map (λ r. length (joined_rows filter bound tables plan r)) (range_with_len 0 (length bound.query.table_of));
  prefixes = map length (plan_joins filter bound tables plan);
}

-- how the answer was found
abbrev pub explain_text : FilterKind → BoundQuery → List Rows → Plan → List ℕ
explain_text filter bound tables plan =
    report_of bound.query bound.known plan.tree plan.order plan.lists (Some (counts_in filter bound tables plan))

-- mode explain: it is answered in the same way, and how this was done is reported
abbrev pub explain_course : FilterKind → List ℕ → BoundQuery → Option (List ℕ) → Course
explain_course filter folder bound order =
    answered_course filter folder bound order (λ found. Ends (Ok (explain_text filter bound found.0 found.1)))

-- how the answer was found, and the size and the hash of its text
abbrev pub summary_text : FilterKind → BoundQuery → List Rows → Plan → List ℕ
summary_text filter bound tables plan = explain_text filter bound tables plan ++ size_lines (answer_text bound tables)

-- mode sample: it is answered in the same way, and both are written
abbrev pub summary_course : FilterKind → List ℕ → BoundQuery → Option (List ℕ) → Course
summary_course filter folder bound order =
    answered_course filter folder bound order (λ found. Ends (Ok (summary_text filter bound found.0 found.1)))

-- mode check: how the query is answered is reported, with all sizes 0, since no table is read
abbrev pub check_course : BoundQuery → Option (List ℕ) → Course
check_course bound order =
    Finds (Planning bound.known.sets (no_sizes bound.known.sets) order)
    (λ plan. Ends (Ok (report_of bound.query bound.known plan.tree plan.order plan.lists None)))

-- a query that can be answered, in a mode
abbrev pub mode_course : Mode → FilterKind → List ℕ → BoundQuery → Option (List ℕ) → Course
mode_course mode.Run filter folder bound order = run_course filter folder bound order
mode_course mode.Explain filter folder bound order = explain_course filter folder bound order
mode_course mode.Check filter folder bound order = check_course bound order
mode_course mode.Sample filter folder bound order = summary_course filter folder bound order

-- a bound query is prepared with the order that is given, rows 8 to 10, and answered in the command's mode
abbrev pub query_course : Command → Query → Course
query_course command query =
    Finds (Preparing query command.order command.force) (λ found.
    mode_course command.mode command.filter command.folder (record { query = query; known = found.known }) found.order)

-- the script's file comes first, and what it is bound to
abbrev pub files_course : Command → Course
files_course command = script_course command.script (query_course command)

-- the number of a sample, where the words are a command of that mode
abbrev pub number_of : Command → ℕ
number_of command = unwrap_or (sample_number command.script) 0

-- a sample's script is answered over its tables, and no file is asked for
abbrev pub sample_course : Command → Course
sample_course command =
    over_files (file_bytes command.folder (sample_tables (number_of command)))
    (bytes_course sample_script (query_course command))

-- whether a mode's script and tables are made
abbrev pub is_made : Mode → Bool
is_made mode.Sample = true
is_made other = false

abbrev pub command_course : Command → Course
command_course command = if is_made command.mode then sample_course command else files_course command

-- words that are no command end the course at once: row 1
abbrev pub course_of : Option Command → Course
course_of None = Ends (Err Usage)
course_of (Some command) = command_course command

-- the course of the words of a command line
abbrev pub course : List (List ℕ) → Course
course words = course_of (command_of words)
