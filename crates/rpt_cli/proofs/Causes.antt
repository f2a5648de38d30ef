-- Which refusals a course can end with, and so what a status tells.
use Rattle.std.proofs.Common.{◌≡◌, ◌∙◌, ◌⊎◌, inl, inr, ℕ, ◌-◌, List, [], ◌∷◌, ◌++◌, Bool, true, false, refl, sym, ap, subst, arith}
use Rattle.std.specs.Prelude.{IfSome, IsSome, MatchResult, Option, Some, None, Result, Ok, Err, nat_lt, length, sum, if◌then◌else◌, ⊤}
use Rattle.rpt_outside.specs.Causes.{Rose}
use Rattle.rpt_outside.specs.Seen.{FilesSeen, SinkSeen}
use Rattle.rpt_base.specs.declared.values.Value.{Value}
use Rattle.csv_load.specs.declared.errors.LoadError.{LoadError}
use Rattle.csv_load.specs.declared.errors.LoadError.TheVariants as load_error
use Rattle.column_table.specs.Table.{Rows, types_of}
use Rattle.column_table.specs.declared.declared.Decl.{Decl}
use Rattle.csv_load.specs.FileTable.{file_table}
use Rattle.script_rules.specs.declared.found.Violation.{Violation}
use Rattle.bound_query.specs.Query.{BoundQuery, Query}
use Rattle.binder.specs.Binding.{query_of}
use Rattle.script_rules.specs.Violations.{refusal_of as script_refusal}
use Rattle.bound_query.specs.Answer.{counts_of}
use Rattle.rpt_base.specs.declared.filters.FilterKind.{FilterKind}
use Rattle.rpt_base.specs.declared.limits.TheConstants.{MAX_ROWS, MAX_SCRIPT_BYTES}
use Rattle.rpt_engine.specs.Joins.{overflow_of}
use Rattle.rpt_engine.specs.declared.planning.Plan.{Plan}
use Rattle.refusal_lines.specs.declared.errors.Refusal.{Refusal}
use Rattle.refusal_lines.specs.declared.errors.Refusal.TheVariants.{Usage, ReadFault, TooLarge, Lex, Syntax, TooDeep, Bind, Cyclic, OrderNames, UnsafeOrder, Header, Ragged, BadField, NotUtf8, TooManyRows, RowsOverflow, WriteFault, Memory}
use Rattle.command_words.specs.declared.words.Command.{Command}
use Rattle.command_words.specs.Words.{command_of}
use Rattle.rpt_cli.specs.Scripts.{IsScript}
use Rattle.rpt_cli.specs.Course.{Reply, Course, Ends, Asks, Finds, Gives, Leads, goes_on, over_files}
use Rattle.rpt_cli.specs.Matters.{Found, IsFound}
use Rattle.rpt_cli.specs.Orders.{order_of}
use Rattle.command_words.specs.declared.words.Mode.{Mode}
use Rattle.command_words.specs.declared.words.Mode.TheVariants as mode
use Rattle.rpt_cli.proofs.PreparedFacts.{Refused, ByCycle, ByNames, ByPrefix, why-refused}
use Rattle.rpt_cli.specs.Command.{answer_text, bytes_course, command_course, course, course_of, explain_text, files_course, is_made, join_course, mode_course, most_table_bytes, number_of, query_course, query_or, sample_course, summary_text, tables_course, unless_overflow}
use Rattle.rpt_cli.specs.Sample.{file_bytes}
use Rattle.rpt_cli.specs.Tables.{table_file, table_or}
use Rattle.sample_gen.specs.Script.{sample_script}
use Rattle.sample_gen.specs.Tables.{sample_tables}
use Rattle.rpt_cli.specs.Delivery.{Delivers}
use Rattle.refusal_lines.specs.Message.{status_of}
use Rattle.rpt_cli.specs.Outcome.{HasReply}

-- an answer over the contents of files: no usage, and no fault; and no refusal of an order's names where none is given
abbrev IsOverContents : Option (List ℕ) → Reply → Type 0
IsOverContents given (Ok text) = ⊤
IsOverContents given (Err Usage) = ⊥
IsOverContents given (Err (ReadFault name)) = ⊥
IsOverContents given (Err WriteFault) = ⊥
IsOverContents given (Err OrderNames) = IsSome given
IsOverContents given (Err e) = ⊤

-- each answer that ends the course is one over the contents of files
abbrev EndsOverContents : Option (List ℕ) → Course → Type 0
EndsOverContents given (Ends reply) = IsOverContents given reply
EndsOverContents given (Asks name next) = (bytes : List ℕ) → EndsOverContents given (next bytes)
EndsOverContents given (Finds matter next) =
    ((e : Refusal) → IsFound matter (Err e) → IsOverContents given (Err e)) × ((x : Found matter) → EndsOverContents given (next x))

module _ (given : Option (List ℕ)) where
  either : (b : Bool) (x y : Course) → EndsOverContents given x → EndsOverContents given y → EndsOverContents given (if b then x else y)
  either true x y p q = p
  either false x y p q = q

  overflow-ends : (overflow : Option ℕ) (next : Course) → EndsOverContents given next → EndsOverContents given (unless_overflow overflow next)
  overflow-ends None next p = p
  overflow-ends (Some prefix) next p = tt

  join-ends : (filter : FilterKind) (bound : BoundQuery) (order : Option (List ℕ)) (tables : List Rows) (next : Plan → Course) → ((plan : Plan) → EndsOverContents given (next plan))
      → EndsOverContents given (join_course filter bound order tables next)
  join-ends filter bound order tables next p =
      either (nat_lt MAX_ROWS (sum (counts_of bound.query tables))) (Ends (Err TooManyRows)) _ tt
      (λ e h. absurd h, λ plan. overflow-ends (overflow_of filter bound tables plan) (next plan) (p plan))

  table-ends : (decl : Decl) (table : Result (List (List Value)) LoadError) (next : Rows → Course) → ((t : Rows) → EndsOverContents given (next t))
      → EndsOverContents given (goes_on (table_or decl table) next)
  table-ends decl (Ok rows) next p = p (record { kinds = types_of decl.columns; rows = rows })
  table-ends decl (Err (load_error.Header column)) next p = tt
  table-ends decl (Err (load_error.Ragged row)) next p = tt
  table-ends decl (Err (load_error.BadField row column)) next p = tt
  table-ends decl (Err (load_error.NotUtf8 row column)) next p = tt
  table-ends decl (Err load_error.TooManyRows) next p = tt
  table-ends decl (Err load_error.Memory) next p = tt

  tables-ends : (folder : List ℕ) (next : List Rows → Course) (room : ℕ) (tables : List Rows) (decls : List Decl) → ((all : List Rows) → EndsOverContents given (next all))
      → EndsOverContents given (tables_course folder next room tables decls)
  tables-ends folder next room tables [] p = p tables
  tables-ends folder next room tables (decl ∷ decls) p = λ bytes.
      either (nat_lt room (length bytes)) (Ends (Err (TooLarge (table_file folder decl.name)))) _ tt
      (table-ends decl (file_table MAX_ROWS decl.columns bytes) _ (λ t. tables-ends folder next (room - length bytes) (tables ++ t ∷ []) decls p))

  mode-ends : (mode : Mode) (filter : FilterKind) (folder : List ℕ) (bound : BoundQuery) (order : Option (List ℕ)) → EndsOverContents given (mode_course mode filter folder bound order)
  mode-ends mode.Run filter folder bound order =
      tables-ends folder (λ tables. join_course filter bound order tables (λ plan. Ends (Ok (answer_text bound tables)))) most_table_bytes [] bound.query.tables
      (λ tables. join-ends filter bound order tables (λ plan. Ends (Ok (answer_text bound tables))) (λ plan. tt))
  mode-ends mode.Explain filter folder bound order =
      tables-ends folder (λ tables. join_course filter bound order tables (λ plan. Ends (Ok (explain_text filter bound tables plan)))) most_table_bytes [] bound.query.tables
      (λ tables. join-ends filter bound order tables (λ plan. Ends (Ok (explain_text filter bound tables plan))) (λ plan. tt))
  mode-ends mode.Check filter folder bound order = (λ e h. absurd h, λ plan. tt)
  mode-ends mode.Sample filter folder bound order =
      tables-ends folder (λ tables. join_course filter bound order tables (λ plan. Ends (Ok (summary_text filter bound tables plan)))) most_table_bytes [] bound.query.tables
      (λ tables. join-ends filter bound order tables (λ plan. Ends (Ok (summary_text filter bound tables plan))) (λ plan. tt))

  -- over files that are given a course has no other ends
  over-ends : (contents : List ℕ → List ℕ) (course : Course) → EndsOverContents given course → EndsOverContents given (over_files contents course)
  unfolding over_files
  over-ends contents (Ends end) p = p
  over-ends contents (Asks name next) p = over-ends contents (next (contents name)) (p (contents name))
  over-ends contents (Finds matter next) p = (p.0, λ x. over-ends contents (next x) (p.1 x))

  -- what is refused as no script is refused for what it is
  script-refusal : (bytes : List ℕ) (e : Refusal) → IsScript bytes (Err e) → IsOverContents given (Err e)
  script-refusal bytes Usage h = h
  script-refusal bytes (ReadFault name) h = h
  script-refusal bytes WriteFault h = h
  script-refusal bytes (TooLarge name) h = tt
  script-refusal bytes (Lex offset) h = tt
  script-refusal bytes (Syntax offset) h = tt
  script-refusal bytes (TooDeep offset) h = tt
  script-refusal bytes (Bind kind offset) h = tt
  script-refusal bytes (Cyclic best needed) h = tt
  script-refusal bytes OrderNames h = absurd h
  script-refusal bytes (UnsafeOrder prefix) h = tt
  script-refusal bytes (Header table column) h = tt
  script-refusal bytes (Ragged table row) h = tt
  script-refusal bytes (BadField table row column) h = tt
  script-refusal bytes (NotUtf8 table row column) h = tt
  script-refusal bytes TooManyRows h = tt
  script-refusal bytes (RowsOverflow prefix) h = tt
  script-refusal bytes Memory h = tt

  -- a course that ends so leads to no usage and no fault but of a file that it asks for, whose count rose
  Leads-tells : (files : FilesSeen) (course : Course) (reply : Reply) → EndsOverContents given course
      → Leads files course reply → IsOverContents given reply ⊎ ((name : List ℕ) × (reply ≡ Err (ReadFault name)) × Rose (files.before name) (files.now name))
  Leads-tells files (Ends end) reply p e = inl (subst (IsOverContents given) (sym e) p)
  Leads-tells files (Asks name next) reply p (inl fault) = inr (name, fault.0, fault.1)
  Leads-tells files (Asks name next) reply p (inr read) = Leads-tells files (next read.0) reply (p read.0) read.2
  Leads-tells files (Finds matter next) reply p l = by l.0 l.1.0 (λ x. Leads-tells files (next x) reply (p.1 x)) l.2
    where
      Told : Type 0
      Told = IsOverContents given reply ⊎ ((name : List ℕ) × (reply ≡ Err (ReadFault name)) × Rose (files.before name) (files.now name))

      by : (r : Result (Found matter) Refusal) → IsFound matter r → ((x : Found matter) → Leads files (next x) reply → Told)
          → MatchResult r (λ x. Leads files (next x) reply) (λ e. reply ≡ Err e) → Told
      by (Ok x) said more m = more x m
      by (Err e) said more m = inl (subst (IsOverContents given) (sym m) (p.0 e said))

-- an order whose names are refused is given
order-given : (query : Query) (order : Option (List ℕ)) → order_of query order ≡ None → IsSome order
order-given query None none = cc none
order-given query (Some text) none = refl

-- what is refused as not prepared is refused for what it is
prepared-refusal : (query : Query) (order : Option (List ℕ)) (force : Bool) (e : Refusal) → Refused query order force e → IsOverContents order (Err e)
prepared-refusal query order force e (ByCycle best needed known are cyclic) = tt
prepared-refusal query order force e (ByNames known are acyclic none) = order-given query order none
prepared-refusal query order force e (ByPrefix prefix known are acyclic named is at) = tt

query-ends : (command : Command) (query : Query) → EndsOverContents command.order (query_course command query)
query-ends command query = (
  λ e h. prepared-refusal query command.order command.force e (why-refused query command.order command.force e h),
  λ found. mode-ends command.order command.mode command.filter command.folder (record { query = query; known = found.known }) found.order,
)

read-ends : (command : Command) (fault : Option Violation) (query : Query) → EndsOverContents command.order (goes_on (query_or fault query) (query_course command))
read-ends command None query = query-ends command query
read-ends command (Some fault) query = tt

bytes-ends : (command : Command) (bytes : List ℕ) → EndsOverContents command.order (bytes_course bytes (query_course command))
bytes-ends command bytes = (λ e h. script-refusal command.order bytes e h, λ script. read-ends command (script_refusal script) (query_of script))

files-ends : (command : Command) → EndsOverContents command.order (files_course command)
files-ends command bytes =
    either command.order (nat_lt MAX_SCRIPT_BYTES (length bytes)) (Ends (Err (TooLarge command.script))) (bytes_course bytes (query_course command)) tt (bytes-ends command bytes)

sample-ends : (command : Command) → EndsOverContents command.order (sample_course command)
sample-ends command =
    over-ends command.order (file_bytes command.folder (sample_tables (number_of command))) (bytes_course sample_script (query_course command)) (bytes-ends command sample_script)

command-ends : (command : Command) → EndsOverContents command.order (command_course command)
command-ends command = either command.order (is_made command.mode) (sample_course command) (files_course command) (sample-ends command) (files-ends command)

-- the same of the words' course, which ends at once with a usage where the words are no command
abbrev Tells : FilesSeen → Option Command → Reply → Type 0
Tells files None reply = reply ≡ Err Usage
Tells files (Some command) reply = IsOverContents command.order reply ⊎ ((name : List ℕ) × (reply ≡ Err (ReadFault name)) × Rose (files.before name) (files.now name))

course-tells : (files : FilesSeen) (command : Option Command) (reply : Reply)
    → Gives files (course_of command) reply → (reply ≡ Err Memory) ⊎ Tells files command reply
course-tells files command reply (inl memory) = inl memory
course-tells files None reply (inr leads) = inr leads
course-tells files (Some command) reply (inr leads) =
    inr (Leads-tells command.order files (command_course command) reply (command-ends command) leads)

-- what a status of an answer over contents tells
pub record StatusOver (given : Option (List ℕ)) (status : ℕ) : Type 0 where
  pub usage : status ≡ 2 → IsSome given
  pub no_read_fault : status ≡ 3 → ⊥
  pub no_write_fault : status ≡ 4 → ⊥

other-status : (given : Option (List ℕ)) (status : ℕ) → (status ≡ 2 → ⊥) → (status ≡ 3 → ⊥) → (status ≡ 4 → ⊥) → StatusOver given status
other-status given status a b c = record { usage = λ h. absurd (a h); no_read_fault = b; no_write_fault = c }

status-over : (given : Option (List ℕ)) (e : Refusal) → IsOverContents given (Err e) → StatusOver given (status_of e)
status-over given Usage p = absurd p
status-over given (ReadFault name) p = absurd p
status-over given WriteFault p = absurd p
status-over given OrderNames p = record { usage = λ h. p; no_read_fault = λ h. omega arith; no_write_fault = λ h. omega arith }
status-over given (TooLarge name) p = other-status given 10 (λ h. omega arith) (λ h. omega arith) (λ h. omega arith)
status-over given (Lex offset) p = other-status given 5 (λ h. omega arith) (λ h. omega arith) (λ h. omega arith)
status-over given (Syntax offset) p = other-status given 5 (λ h. omega arith) (λ h. omega arith) (λ h. omega arith)
status-over given (TooDeep offset) p = other-status given 5 (λ h. omega arith) (λ h. omega arith) (λ h. omega arith)
status-over given (Bind kind offset) p = other-status given 6 (λ h. omega arith) (λ h. omega arith) (λ h. omega arith)
status-over given (Cyclic best needed) p = other-status given 8 (λ h. omega arith) (λ h. omega arith) (λ h. omega arith)
status-over given (UnsafeOrder prefix) p = other-status given 9 (λ h. omega arith) (λ h. omega arith) (λ h. omega arith)
status-over given (Header table column) p = other-status given 7 (λ h. omega arith) (λ h. omega arith) (λ h. omega arith)
status-over given (Ragged table row) p = other-status given 7 (λ h. omega arith) (λ h. omega arith) (λ h. omega arith)
status-over given (BadField table row column) p = other-status given 7 (λ h. omega arith) (λ h. omega arith) (λ h. omega arith)
status-over given (NotUtf8 table row column) p = other-status given 7 (λ h. omega arith) (λ h. omega arith) (λ h. omega arith)
status-over given TooManyRows p = other-status given 10 (λ h. omega arith) (λ h. omega arith) (λ h. omega arith)
status-over given (RowsOverflow prefix) p = other-status given 10 (λ h. omega arith) (λ h. omega arith) (λ h. omega arith)
status-over given Memory p = other-status given 1 (λ h. omega arith) (λ h. omega arith) (λ h. omega arith)

-- what a status tells of the words and the counts
pub record StatusTells {S : Type 0} (command : Option Command) (files : FilesSeen) (out : SinkSeen S) (status : ℕ) : Type 0 where
  pub usage : status ≡ 2 → IfSome command (λ c. IsSome c.order)
  pub read_fault : status ≡ 3 → (name : List ℕ) × Rose (files.before name) (files.now name)
  pub write_fault : status ≡ 4 → Rose out.before out.now

delivered-tells : {S M : Type 0} (command : Option Command) (files : FilesSeen) (out : SinkSeen S) (messages : SinkSeen M) (status : ℕ) (reply : Reply) → (reply ≡ Err Memory) ⊎ Tells files command reply
    → Delivers out messages status reply
    → StatusTells command files out status
delivered-tells command files out messages status (Ok text) t (inl d) =
    let zero : status ≡ 0 = d.0 in record { usage = λ h. absurd (omega arith); read_fault = λ h. absurd (omega arith); write_fault = λ h. absurd (omega arith) }
delivered-tells command files out messages status (Ok text) t (inr d) =
    let four : status ≡ 4 = d.0 in record { usage = λ h. absurd (omega arith); read_fault = λ h. absurd (omega arith); write_fault = λ h. d.1.rose }
delivered-tells command files out messages status (Err e) (inl memory) d =
    let is : e ≡ Memory = (let same : Err e ≡ Err Memory = memory in cc) in
    let one : status ≡ 1 = d.0 ∙ ap status_of is in
    record { usage = λ h. absurd (omega arith); read_fault = λ h. absurd (omega arith); write_fault = λ h. absurd (omega arith) }
delivered-tells None files out messages status (Err e) (inr t) d =
    let is : e ≡ Usage = (let same : Err e ≡ Err Usage = t in cc) in
    let two : status ≡ 2 = d.0 ∙ ap status_of is in
    record { usage = λ h. tt; read_fault = λ h. absurd (omega arith); write_fault = λ h. absurd (omega arith) }
delivered-tells (Some command) files out messages status (Err e) (inr (inl over)) d =
    let tells = status-over command.order e over in
    record {
      usage = λ h. tells.usage (sym d.0 ∙ h);
      read_fault = λ h. absurd (tells.no_read_fault (sym d.0 ∙ h));
      write_fault = λ h. absurd (tells.no_write_fault (sym d.0 ∙ h));
    }
delivered-tells (Some command) files out messages status (Err e) (inr (inr fault)) d =
    let is : e ≡ ReadFault fault.0 = (let same : Err e ≡ Err (ReadFault fault.0) = fault.1 in cc) in
    let three : status ≡ 3 = d.0 ∙ ap status_of is in
    record { usage = λ h. absurd (omega arith); read_fault = λ h. (fault.0, fault.2); write_fault = λ h. absurd (omega arith) }

pub HasReply-tells : {S M : Type 0} {files : FilesSeen} {out : SinkSeen S} {messages : SinkSeen M} {status : ℕ} (words : List (List ℕ))
    → HasReply files out messages (course words) status
    → StatusTells (command_of words) files out status
HasReply-tells {files = files} {out = out} {messages = messages} {status = status} words r =
    delivered-tells (command_of words) files out messages status r.reply
    (course-tells files (command_of words) r.reply r.cause) r.delivered
