-- A command that explain answers with a text has a query, tables and a plan, of which the text is the report.
use Rattle.std.proofs.Common.{◌≡◌, inl, inr, refl, sym, ap, subst, ℕ, ◌-◌, List, [], ◌∷◌, ◌++◌, append_assoc, length, nat_lt, Bool, true, false}
use Rattle.std.specs.Prelude.{Option, None, Some, Result, Ok, Err, MatchResult, if◌then◌else◌, sum}
use Rattle.std.proofs.lemmas.Bool.{cond-false}
use Rattle.std.proofs.lemmas.List.{append-nil}
use Rattle.rpt_base.specs.declared.limits.TheConstants.{MAX_ROWS, MAX_SCRIPT_BYTES}
use Rattle.rpt_base.specs.declared.filters.FilterKind.{FilterKind}
use Rattle.rpt_outside.specs.Causes.{Tells}
use Rattle.rpt_outside.specs.Seen.{FilesSeen}
use Rattle.column_table.specs.Table.{Rows}
use Rattle.column_table.specs.declared.declared.Decl.{Decl}
use Rattle.bound_query.specs.Query.{BoundQuery}
use Rattle.bound_query.specs.Answer.{counts_of}
use Rattle.rpt_engine.specs.Joins.{overflow_of, sizes_of}
use Rattle.rpt_engine.specs.Planned.{IsPlan}
use Rattle.rpt_engine.specs.declared.planning.Plan.{Plan}
use Rattle.refusal_lines.specs.declared.errors.Refusal.{Refusal}
use Rattle.refusal_lines.specs.declared.errors.Refusal.TheVariants.{ReadFault, RowsOverflow, TooLarge, TooManyRows}
use Rattle.command_words.specs.declared.words.Command.{Command}
use Rattle.command_words.specs.declared.words.Mode.{Mode}
use Rattle.command_words.specs.declared.words.Mode.TheVariants as mode
use Rattle.rpt_cli.specs.Course.{Course, Ends, Finds, Leads, goes_on}
use Rattle.rpt_cli.specs.Matters.{Found, IsFound, Matter, Planning, Prepared, Preparing, Reading}
use Rattle.rpt_cli.specs.Tables.{table_file, table_of}
use Rattle.rpt_cli.specs.Command.{asks_within, bytes_course, command_course, explain_course, explain_text, files_course, is_made, join_course, mode_course, most_table_bytes, query_course, query_of_script, sample_course, tables_course, unless_overflow}
use Rattle.rpt_cli.specs.Explained.{AreLoaded, IsRunOf}

module _ (files : FilesSeen) (text : List ℕ) where
  -- the course leads to the text
  abbrev Says : Course → Type 0
  Says course = Leads files course (Ok text)

  -- a file was read within its limit
  asked : (limit : ℕ) (name : List ℕ) (next : List ℕ → Course) → Says (asks_within limit name next) → (bytes : List ℕ) × Tells (files.told name) bytes × Says (next bytes)
  asked limit name next (inl p) = absurd (let e : Ok text ≡ Err (ReadFault name) = p.0 in cc)
  asked limit name next (inr p) = (p.0, p.1.contents, by (nat_lt limit (length p.0)) p.2)
    where
      by : (b : Bool) → Says (if b then Ends (Err (TooLarge name)) else next p.0) → Says (next p.0)
      by true l = absurd (let e : Ok text ≡ Err (TooLarge name) = l in cc)
      by false l = l

  -- what was to be found was found
  found : (matter : Matter) (next : Found matter → Course) → Says (Finds matter next) → (x : Found matter) × IsFound matter (Ok x) × Says (next x)
  found matter next p = by p.0 p.1.0 p.2
    where
      by : (r : Result (Found matter) Refusal) → IsFound matter r → MatchResult r (λ x. Says (next x)) (λ e. Ok text ≡ Err e) → (x : Found matter) × IsFound matter (Ok x) × Says (next x)
      by (Ok x) is l = (x, is, l)
      by (Err e) is l = absurd (let no : Ok text ≡ Err e = l in cc)

  -- no refusal ended the course
  went_on : {X : Type 0} (r : Result X Refusal) (next : X → Course) → Says (goes_on r next) → (x : X) × (r ≡ Ok x) × Says (next x)
  went_on (Ok x) next l = (x, refl, l)
  went_on (Err e) next l = absurd (let no : Ok text ≡ Err e = l in cc)

  -- each table was loaded from its file
  loaded : (folder : List ℕ) (next : List Rows → Course) (room : ℕ) (tables : List Rows) (decls : List Decl) → Says (tables_course folder next room tables decls)
      → (more : List Rows) × AreLoaded files.told folder decls more × Says (next (tables ++ more))
  loaded folder next room tables [] l = ([], tt, subst (λ (ts : List Rows). Says (next ts)) (sym (append-nil tables)) l)
  loaded folder next room tables (decl ∷ decls) l =
      let file = asked room (table_file folder decl.name) (λ bytes. goes_on (table_of decl bytes) (λ table. tables_course folder next (room - length bytes) (tables ++ table ∷ []) decls)) l in
      let table = went_on (table_of decl file.0) (λ table. tables_course folder next (room - length file.0) (tables ++ table ∷ []) decls) file.2 in
      let rest = loaded folder next (room - length file.0) (tables ++ table.0 ∷ []) decls table.2 in
      (table.0 ∷ rest.0, ((file.0, file.1, table.1), rest.1), subst (λ (ts : List Rows). Says (next ts)) (append_assoc tables (table.0 ∷ []) rest.0) rest.2)

  -- the relations were joined along a plan, and no prefix overflowed
  joined : (filter : FilterKind) (bound : BoundQuery) (order : Option (List ℕ)) (tables : List Rows) (next : Plan → Course) → Says (join_course filter bound order tables next)
      → (plan : Plan) × IsPlan bound.known.sets (sizes_of bound tables) order plan × Says (next plan)
  joined filter bound order tables next l = many (nat_lt MAX_ROWS (sum (counts_of bound.query tables))) l
    where
      along : Plan → Course
      along plan = unless_overflow (overflow_of filter bound tables plan) (next plan)

      fits : (overflow : Option ℕ) (rest : Course) → Says (unless_overflow overflow rest) → Says rest
      fits None rest k = k
      fits (Some prefix) rest k = absurd (let no : Ok text ≡ Err (RowsOverflow prefix) = k in cc)

      many : (b : Bool) → Says (if b then Ends (Err TooManyRows) else Finds (Planning bound.known.sets (sizes_of bound tables) order) along)
          → (plan : Plan) × IsPlan bound.known.sets (sizes_of bound tables) order plan × Says (next plan)
      many true k = absurd (let no : Ok text ≡ Err TooManyRows = k in cc)
      many false k =
          let plan = found (Planning bound.known.sets (sizes_of bound tables) order) along k in
          (plan.0, plan.1, fits (overflow_of filter bound tables plan.0) (next plan.0) plan.2)

  in_mode : (m : Mode) (filter : FilterKind) (folder : List ℕ) (bound : BoundQuery) (order : Option (List ℕ)) → m ≡ mode.Explain
      → Says (mode_course m filter folder bound order) → Says (explain_course filter folder bound order)
  in_mode mode.Run filter folder bound order is l = cc is
  in_mode mode.Explain filter folder bound order is l = l
  in_mode mode.Check filter folder bound order is l = cc is
  in_mode mode.Sample filter folder bound order is l = cc is

  -- a command in mode explain is answered from files
  from_files : (command : Command) → command.mode ≡ mode.Explain → Says (command_course command) → Says (files_course command)
  from_files command is l =
      let read : is_made command.mode ≡ false = ap is_made is in
      subst Says (cond-false (is_made command.mode) (sample_course command) (files_course command) read) l

  -- so the command has a run that the text explains
  pub explained : (command : Command) → command.mode ≡ mode.Explain → Says (command_course command)
      → (bound : BoundQuery) × (tables : List Rows) × (plan : Plan) × IsRunOf files.told command bound tables plan × (text ≡ explain_text command.filter bound tables plan)
  explained command is l =
      let filter = command.filter in
      let file = asked MAX_SCRIPT_BYTES command.script (λ bytes. bytes_course bytes (query_course command)) (from_files command is l) in
      let script = found (Reading file.0) (λ script. goes_on (query_of_script script) (query_course command)) file.2 in
      let query = went_on (query_of_script script.0) (query_course command) script.2 in
      let prepared = found (Preparing query.0 command.order command.force) (λ (f : Prepared). mode_course command.mode filter command.folder (record { query = query.0; known = f.known }) f.order) query.2 in
      let bound : BoundQuery = record { query = query.0; known = prepared.0.known } in
      let course = in_mode command.mode filter command.folder bound prepared.0.order is prepared.2 in
      let told_of : List Rows → Plan → Course = λ tables plan. Ends (Ok (explain_text filter bound tables plan)) in
      let tables = loaded command.folder (λ ts. join_course filter bound prepared.0.order ts (told_of ts)) most_table_bytes [] query.0.tables course in
      let plan = joined filter bound prepared.0.order tables.0 (told_of tables.0) tables.2 in (
        bound,
        tables.0,
        plan.0,
        record {
          bytes = file.0;
          is_told = file.1;
          script = script.0;
          read = script.1;
          query = query.1;
          order = prepared.0.order;
          prepared = prepared.1;
          loaded = tables.1;
          planned = plan.1;
        },
        (let same : Ok text ≡ Ok (explain_text filter bound tables.0 plan.0) = plan.2 in cc),
      )
