-- That a course has one outcome, and that the course of a command has one.
use Rattle.std.proofs.Common.{◌≡◌, ◌∙◌, ◌⊎◌, inl, inr, refl, sym, subst, ℕ, ◌-◌, ◌≤◌, List, [], ◌∷◌, ◌++◌, length, map, arith}
use Rattle.std.specs.Prelude.{Bool, true, false, IfSome, IsSome, MatchResult, Option, None, Some, Result, Ok, Err, if◌then◌else◌, nat_lt, sum, ⊤}
use Rattle.rpt_base.specs.declared.filters.FilterKind.{FilterKind}
use Rattle.rpt_base.specs.declared.limits.TheConstants.{MAX_ROWS, MAX_SCRIPT_BYTES, MAX_LEVELS}
use Rattle.rpt_base.specs.declared.values.Value.{Value}
use Rattle.column_table.specs.Table.{Rows, types_of}
use Rattle.column_table.specs.declared.declared.Decl.{Decl}
use Rattle.csv_load.specs.FileTable.{file_table}
use Rattle.csv_load.specs.declared.errors.LoadError.{LoadError}
use Rattle.sql_lex.specs.declared.errors.LexError.{LexError}
use Rattle.sql_lex.specs.declared.errors.LexError.TheVariants as lex_error
use Rattle.sql_lex.specs.declared.tokens.Token.{Token}
use Rattle.sql_lex.specs.Lexing.{lexed}
use Rattle.sql_lex.specs.Tokens.{IsBadAt, IsTokenList}
use Rattle.sql_grammar.specs.declared.errors.ParseError.{ParseError}
use Rattle.sql_grammar.specs.declared.errors.ParseError.TheVariants as parse_error
use Rattle.sql_grammar.specs.declared.tree.Script.{Script}
use Rattle.sql_grammar.specs.declared.tree.Source.{Source}
use Rattle.sql_grammar.specs.Formed.{IsFrom}
use Rattle.sql_grammar.specs.Sentence.{IsReading}
use Rattle.sql_grammar.proofs.Formed.{formed}
use Rattle.column_classes.specs.declared.columns.Equality.{Equality}
use Rattle.column_classes.specs.Variables.{AreEqualities, AreQueryVariables, AreWidths, QueryVariables}
use Rattle.column_classes.proofs.Unique.{sets-are-rising, sets-are-short}
use Rattle.script_rules.specs.declared.found.Violation.{Violation}
use Rattle.script_rules.specs.Violations.{refusal_of as script_refusal}
use Rattle.bound_query.specs.Answer.{counts_of}
use Rattle.bound_query.specs.Query.{BoundQuery, IsBound, Query, widths_of}
use Rattle.bound_query.proofs.WidthFacts.{equalities-are, widths-are, widths-length}
use Rattle.binder.specs.Binding.{query_of}
use Rattle.binder.proofs.BoundFacts.{query_of-IsBound}
use Rattle.join_graph.specs.JoinList.{IsAcyclic, IsGraph}
use Rattle.largest_root.specs.Greedy.{IsCyclic}
use Rattle.safe_subjoin.specs.SafeOrder.{IsFirstUnsafe}
use Rattle.rpt_base.specs.Orders.{IsOrder, is_order}
use Rattle.rpt_engine.specs.Joins.{overflow_of, sizes_of}
use Rattle.rpt_engine.specs.Planned.{IsPlan, no_sizes}
use Rattle.rpt_engine.specs.Prepared.{IsAccepted}
use Rattle.rpt_engine.specs.declared.planning.Plan.{Plan}
use Rattle.command_words.specs.declared.words.Command.{Command}
use Rattle.command_words.specs.declared.words.Mode.{Mode}
use Rattle.command_words.specs.declared.words.Mode.TheVariants as mode
use Rattle.command_words.specs.Words.{command_of}
use Rattle.refusal_lines.specs.declared.errors.Refusal.{Refusal}
use Rattle.refusal_lines.specs.declared.errors.Refusal.TheVariants.{TooLarge, Lex, Cyclic, OrderNames, UnsafeOrder, TooManyRows, Memory}
use Rattle.rpt_cli.specs.Course.{Reply, Asks, Course, Ends, Finds, IsOutcome, goes_on, over_files}
use Rattle.rpt_cli.specs.Command.{answer_text, bytes_course, command_course, course, course_of, explain_text, files_course, is_made, join_course, mode_course, most_table_bytes, number_of, query_course, query_or, sample_course, summary_text, tables_course, unless_overflow}
use Rattle.rpt_cli.specs.Matters.{AreKnown, Found, IsFound, IsPlanned, IsPrepared, Matter, Planning, Prepared, Preparing, Reading}
use Rattle.rpt_cli.specs.Orders.{named_order, order_of, pieces_of, relation_named}
use Rattle.rpt_cli.specs.Sample.{file_bytes}
use Rattle.rpt_cli.specs.Scripts.{IsScript}
use Rattle.rpt_cli.specs.Tables.{table_file, table_or}
use Rattle.sample_gen.specs.Script.{sample_script}
use Rattle.sample_gen.specs.Tables.{sample_tables}
use Rattle.rpt_base.proofs.OrderFacts.{is_order-IsOrder}
use Rattle.rpt_cli.proofs.PlannedFacts.{HasOnePlan, planned-only}
use Rattle.rpt_cli.proofs.PreparedFacts.{HasOneReason, prepared-only}
use Rattle.rpt_cli.proofs.ScriptFacts.{answer_of, bad-only, read-only}

-- the one thing that bytes are read as
pub record IsReadAs (bytes : List ℕ) : Type 0 where
  pub found : Result Script Refusal
  pub is : IsScript bytes found
  pub only : (said : Result Script Refusal) → IsScript bytes said → found ≡ said

-- what the lower crates' laws say of tokens and of their readings
pub record HasReadings : Type 0 where
  pub listed : (bytes : List ℕ) (tokens : List Token) → IsTokenList bytes tokens → lexed bytes ≡ Ok tokens
  pub is_listed : (bytes : List ℕ) (tokens : List Token) → lexed bytes ≡ Ok tokens → IsTokenList bytes tokens
  pub refused : (bytes : List ℕ) (offset : ℕ) → IsBadAt bytes offset → lexed bytes ≡ Err (lex_error.At offset)
  pub is_refused : (bytes : List ℕ) (offset : ℕ) → lexed bytes ≡ Err (lex_error.At offset) → IsBadAt bytes offset
  pub never_memory : (bytes : List ℕ) → lexed bytes ≡ Err lex_error.Memory → ⊥
  pub there : (levels end : ℕ) (tokens : List Token) → (answer : Result Script ParseError) × IsReading levels tokens end answer
  pub one : (levels end : ℕ) (tokens : List Token) (a b : Result Script ParseError) → IsReading levels tokens end a → IsReading levels tokens end b → a ≡ b

module _ (laws : HasReadings) where
  -- bytes with tokens are what their tokens are read as
  read-tokens : (bytes : List ℕ) (tokens : List Token) → lexed bytes ≡ Ok tokens → (answer : Result Script ParseError) → IsReading MAX_LEVELS tokens (length bytes) answer → IsReadAs bytes
  read-tokens bytes tokens e answer is = by answer is (λ said h. read-only bytes tokens answer same good (λ other o. inr (laws.one 64 (length bytes) tokens answer other is o)) said h)
    where
      same : (others : List Token) → IsTokenList bytes others → tokens ≡ others
      same others lists = let both : ◌≡◌ {A = Result (List Token) LexError} (Ok tokens) (Ok others) = sym e ∙ laws.listed bytes others lists in cc

      good : (offset : ℕ) → IsBadAt bytes offset → ⊥
      good offset bad = let no : ◌≡◌ {A = Result (List Token) LexError} (Ok tokens) (Err (lex_error.At offset)) = sym e ∙ laws.refused bytes offset bad in cc

      by : (r : Result Script ParseError) → IsReading MAX_LEVELS tokens (length bytes) r
          → ((said : Result Script Refusal) → IsScript bytes said → (answer_of r ≡ Err Memory) ⊎ (answer_of r ≡ said)) → IsReadAs bytes
      by (Ok script) reads more = record { found = Ok script; is = (tokens, laws.is_listed bytes tokens e, reads); only = λ said h. elim (more said h) [ inl m ↦ absurd (cc m) | inr s ↦ s ] }
      by (Err (parse_error.Syntax at)) reads more =
          record { found = answer_of (Err (parse_error.Syntax at)); is = (tokens, laws.is_listed bytes tokens e, reads); only = λ said h. elim (more said h) [ inl m ↦ absurd (cc m) | inr s ↦ s ] }
      by (Err (parse_error.TooDeep at)) reads more =
          record { found = answer_of (Err (parse_error.TooDeep at)); is = (tokens, laws.is_listed bytes tokens e, reads); only = λ said h. elim (more said h) [ inl m ↦ absurd (cc m) | inr s ↦ s ] }
      by (Err parse_error.Memory) reads more = absurd reads

  -- and bytes without are refused at their one place
  read-as : (bytes : List ℕ) → IsReadAs bytes
  read-as bytes = by (lexed bytes) refl
    where
      by : (r : Result (List Token) LexError) → lexed bytes ≡ r → IsReadAs bytes
      by (Ok tokens) e = let reading = laws.there 64 (length bytes) tokens in read-tokens bytes tokens e reading.0 reading.1
      by (Err (lex_error.At offset)) e = record {
        found = Err (Lex offset);
        is = laws.is_refused bytes offset e;
        only = λ said h. bad-only bytes offset
            (λ tokens lists. let no : ◌≡◌ {A = Result (List Token) LexError} (Err (lex_error.At offset)) (Ok tokens) = sym e ∙ laws.listed bytes tokens lists in cc)
            (λ other bad. let both : ◌≡◌ {A = Result (List Token) LexError} (Err (lex_error.At offset)) (Err (lex_error.At other)) = sym e ∙ laws.refused bytes other bad in cc)
            said h;
      }
      by (Err lex_error.Memory) e = absurd (laws.never_memory bytes e)

module _ (laws : HasReadings) (reasons : HasOneReason) (plan : HasOnePlan) where
  -- one thing is found out
  found-one : (matter : Matter) (a b : Result (Found matter) Refusal) → IsFound matter a → IsFound matter b → a ≡ b
  found-one (Reading bytes) a b p q = let it = read-as laws bytes in sym (it.only a p) ∙ it.only b q
  found-one (Preparing query order force) a b p q = prepared-only reasons query order force b a q p
  found-one (Planning sets sizes order) a b p q = planned-only plan sets sizes order b a q p

  -- a course has one outcome
  pub outcome-one : (told : List ℕ → Option (List ℕ)) (course : Course) (a b : Reply) → IsOutcome told course a → IsOutcome told course b → a ≡ b
  outcome-one told (Ends end) a b p q = p ∙ sym q
  outcome-one told (Asks name next) a b p q =
      let both : ◌≡◌ {A = Option (List ℕ)} (Some p.0) (Some q.0) = sym p.1 ∙ q.1 in
      let same : p.0 ≡ q.0 = cc in
      outcome-one told (next q.0) a b (subst (λ (bytes : List ℕ). IsOutcome told (next bytes) a) same p.2) q.2
  outcome-one told (Finds matter next) a b p q =
      by q.0 (λ x. outcome-one told (next x) a b)
      (subst (λ (r : Result (Found matter) Refusal). MatchResult r (λ x. IsOutcome told (next x) a) (λ e. a ≡ Err e)) (found-one matter p.0 q.0 p.1 q.1) p.2) q.2
    where
      by : (r : Result (Found matter) Refusal) → ((x : Found matter) → IsOutcome told (next x) a → IsOutcome told (next x) b → a ≡ b)
          → MatchResult r (λ x. IsOutcome told (next x) a) (λ e. a ≡ Err e) → MatchResult r (λ x. IsOutcome told (next x) b) (λ e. b ≡ Err e) → a ≡ b
      by (Ok x) more l m = more x l m
      by (Err e) more l m = l ∙ sym m

-- a course in which all that is to be found out can be found
abbrev pub CanEnd : Course → Type 0
CanEnd (Ends answer) = ⊤
CanEnd (Asks name next) = (bytes : List ℕ) → CanEnd (next bytes)
CanEnd (Finds matter next) = ((found : Result (Found matter) Refusal) × IsFound matter found) × ((x : Found matter) → IsFound matter (Ok x) → CanEnd (next x))

-- over files that tell all it has an outcome
pub outcome-there : (told : List ℕ → Option (List ℕ)) → ((name : List ℕ) → IsSome (told name)) → (course : Course) → CanEnd course → (answer : Reply) × IsOutcome told course answer
outcome-there told all (Ends end) c = (end, refl)
outcome-there told all (Asks name next) c = by (told name) refl (all name) (λ bytes. outcome-there told all (next bytes) (c bytes))
  where
    by : (o : Option (List ℕ)) → told name ≡ o → IsSome o → ((bytes : List ℕ) → (answer : Reply) × IsOutcome told (next bytes) answer) → (answer : Reply) × IsOutcome told (Asks name next) answer
    by None e some more = absurd (cc some)
    by (Some bytes) e some more = let rest = more bytes in (rest.0, (bytes, e, rest.1))
outcome-there told all (Finds matter next) c = by c.0.0 c.0.1 (λ x is. outcome-there told all (next x) (c.1 x is))
  where
    by : (r : Result (Found matter) Refusal) → IsFound matter r → ((x : Found matter) → IsFound matter (Ok x) → (answer : Reply) × IsOutcome told (next x) answer)
        → (answer : Reply) × IsOutcome told (Finds matter next) answer
    by (Ok x) is more = let rest = more x is in (rest.0, (Ok x, is, rest.1))
    by (Err e) is more = (Err e, (Err e, is, refl))

-- the variables of a bound query make a join graph
known-graph : (query : Query) (known : QueryVariables) → IsBound query → AreKnown query known → IsGraph known.sets
known-graph query known bound are =
    let count : length known.sets ≡ length query.table_of = are.sets_length ∙ widths-length query in
    record {
      some = omega (arith, count, bound.some);
      few = omega (arith, count, bound.few);
      rising = sets-are-rising (widths_of query) query.equalities known are;
      short = sets-are-short (widths_of query) query.equalities known (widths-are query bound) are;
    }

-- the order that words say is one of the relations
named-is : (query : Query) (text order : List ℕ) → named_order query text ≡ Some order → IsOrder (length query.aliases) order
named-is query text order e = by (is_order (length query.aliases) named) refl e
  where
    named : List ℕ
    named = map (relation_named query) (pieces_of text)

    by : (b : Bool) → is_order (length query.aliases) named ≡ b → (if b then Some named else None) ≡ Some order → IsOrder (length query.aliases) order
    by true holds is = let same : named ≡ order = cc in subst (λ (o : List ℕ). IsOrder (length query.aliases) o) same (is_order-IsOrder (length query.aliases) named holds)
    by false holds is = absurd (let no : ◌≡◌ {A = Option (List ℕ)} None (Some order) = is in cc)

order-is : (query : Query) (words : Option (List ℕ)) (order : Option (List ℕ)) → order_of query words ≡ Some order → IfSome order (λ o. IsOrder (length query.aliases) o)
order-is query None order e = let same : None ≡ order = cc in subst (λ (o : Option (List ℕ)). IfSome o (λ l. IsOrder (length query.aliases) l)) same tt
order-is query (Some text) order e = by (named_order query text) refl e
  where
    by : (named : Option (List ℕ)) → named_order query text ≡ named → order_of query (Some text) ≡ Some order → IfSome order (λ o. IsOrder (length query.aliases) o)
    by None is said =
        let none : order_of query (Some text) ≡ None = rw is refl in
        absurd (let no : ◌≡◌ {A = Option (Option (List ℕ))} None (Some order) = sym none ∙ said in cc)
    by (Some named) is said =
        let some : order_of query (Some text) ≡ Some (Some named) = rw is refl in
        let both : ◌≡◌ {A = Option (Option (List ℕ))} (Some (Some named)) (Some order) = sym some ∙ said in
        let same : Some named ≡ order = cc in
        subst (λ (o : Option (List ℕ)). IfSome o (λ l. IsOrder (length query.aliases) l)) same (named-is query text named is)

-- what the lower crates' laws say of variables, trees, orders and plans
pub record HasPlans : Type 0 where
  pub variables : (widths : List ℕ) (equalities : List Equality) → AreWidths widths → AreEqualities widths equalities
      → (known : QueryVariables) × AreQueryVariables widths equalities known
  pub acyclic : (vs : List (List ℕ)) → IsGraph vs → IsAcyclic vs ⊎ ((best : ℕ) × (needed : ℕ) × IsCyclic vs best needed)
  pub accepted : (vs : List (List ℕ)) (order : List ℕ) → IsGraph vs → IsOrder (length vs) order → IsAccepted vs order ⊎ ((prefix : ℕ) × IsFirstUnsafe vs order prefix)
  pub plan : (vs : List (List ℕ)) (sizes : List ℕ) (order : Option (List ℕ)) → IsGraph vs → IsAcyclic vs → IfSome order (IsOrder (length vs)) → (plan : Plan) × IsPlan vs sizes order plan

-- what a plan asks for
record CanBePlanned (sets : List (List ℕ)) (order : Option (List ℕ)) : Type 0 where
  pub graph : IsGraph sets
  pub acyclic : IsAcyclic sets
  pub is_order : IfSome order (IsOrder (length sets))

module _ (front : HasReadings) (laws : HasPlans) where
  -- a query that is bound is prepared, or is refused
  module _ (query : Query) (bound : IsBound query) (words : Option (List ℕ)) (known : QueryVariables) (are : AreKnown query known) where
    sets-order : (order : Option (List ℕ)) → order_of query words ≡ Some order → IfSome order (IsOrder (length known.sets))
    sets-order order e =
        let count : length query.aliases ≡ length known.sets = bound.named ∙ sym (are.sets_length ∙ widths-length query) in
        subst (λ (n : ℕ). IfSome order (IsOrder n)) count (order-is query words order e)

    ordered-there : (force : Bool) → IsAcyclic known.sets → (order : List ℕ) → order_of query words ≡ Some (Some order)
        → (found : Result Prepared Refusal) × IsPrepared query words force found
    ordered-there true acyclic order e = (Ok (record { known = known; order = Some order }), (are, acyclic, e, tt))
    ordered-there false acyclic order e = by (laws.accepted known.sets order (known-graph query known bound are) (sets-order (Some order) e))
      where
        by : IsAccepted known.sets order ⊎ ((prefix : ℕ) × IsFirstUnsafe known.sets order prefix) → (found : Result Prepared Refusal) × IsPrepared query words false found
        by (inl all) = (Ok (record { known = known; order = Some order }), (are, acyclic, e, all))
        by (inr first) = (Err (UnsafeOrder first.0), (known, are, acyclic, Some order, e, first.1))

    named-there : (force : Bool) → IsAcyclic known.sets → (named : Option (Option (List ℕ))) → order_of query words ≡ named
        → (found : Result Prepared Refusal) × IsPrepared query words force found
    named-there force acyclic None e = (Err OrderNames, (known, are, acyclic, e))
    named-there force acyclic (Some None) e = (Ok (record { known = known; order = None }), (are, acyclic, e, tt))
    named-there force acyclic (Some (Some order)) e = ordered-there force acyclic order e

    known-there : (force : Bool) → IsAcyclic known.sets ⊎ ((best : ℕ) × (needed : ℕ) × IsCyclic known.sets best needed)
        → (found : Result Prepared Refusal) × IsPrepared query words force found
    known-there force (inl acyclic) = named-there force acyclic (order_of query words) refl
    known-there force (inr cyclic) = (Err (Cyclic cyclic.0 cyclic.1), (known, are, cyclic.2))

  prepared-there : (query : Query) → IsBound query → (words : Option (List ℕ)) (force : Bool) → (found : Result Prepared Refusal) × IsPrepared query words force found
  prepared-there query bound words force =
      let known = laws.variables (widths_of query) query.equalities (widths-are query bound) (equalities-are query bound) in
      known-there query bound words known.0 known.1 force (laws.acyclic known.0.sets (known-graph query known.0 bound known.1))

  planned-there : (sets : List (List ℕ)) (sizes : List ℕ) (order : Option (List ℕ)) → CanBePlanned sets order → (found : Result Plan Refusal) × IsPlanned sets sizes order found
  planned-there sets sizes order can = let plan = laws.plan sets sizes order can.graph can.acyclic can.is_order in (Ok plan.0, plan.1)

  either : (b : Bool) (x y : Course) → CanEnd x → CanEnd y → CanEnd (if b then x else y)
  either true x y p q = p
  either false x y p q = q

  overflow-can : (overflow : Option ℕ) (next : Course) → CanEnd next → CanEnd (unless_overflow overflow next)
  overflow-can None next p = p
  overflow-can (Some prefix) next p = tt

  join-can : (filter : FilterKind) (bound : BoundQuery) (order : Option (List ℕ)) (tables : List Rows) (next : Plan → Course) → CanBePlanned bound.known.sets order
      → ((plan : Plan) → CanEnd (next plan)) → CanEnd (join_course filter bound order tables next)
  join-can filter bound order tables next can p =
      either (nat_lt MAX_ROWS (sum (counts_of bound.query tables))) (Ends (Err TooManyRows)) _ tt
      (planned-there bound.known.sets (sizes_of bound tables) order can, λ plan is. overflow-can (overflow_of filter bound tables plan) (next plan) (p plan))

  table-can : (decl : Decl) (table : Result (List (List Value)) LoadError) (next : Rows → Course) → ((t : Rows) → CanEnd (next t)) → CanEnd (goes_on (table_or decl table) next)
  table-can decl (Ok rows) next p = p (record { kinds = types_of decl.columns; rows = rows })
  table-can decl (Err e) next p = tt

  tables-can : (folder : List ℕ) (next : List Rows → Course) (room : ℕ) (tables : List Rows) (decls : List Decl) → ((all : List Rows) → CanEnd (next all))
      → CanEnd (tables_course folder next room tables decls)
  tables-can folder next room tables [] p = p tables
  tables-can folder next room tables (decl ∷ decls) p = λ bytes.
      either (nat_lt room (length bytes)) (Ends (Err (TooLarge (table_file folder decl.name)))) _ tt
      (table-can decl (file_table MAX_ROWS decl.columns bytes) _ (λ t. tables-can folder next (room - length bytes) (tables ++ t ∷ []) decls p))

  answered-can : (filter : FilterKind) (folder : List ℕ) (bound : BoundQuery) (order : Option (List ℕ)) (text : List Rows → Plan → List ℕ) → CanBePlanned bound.known.sets order
      → CanEnd (tables_course folder (λ tables. join_course filter bound order tables (λ plan. Ends (Ok (text tables plan)))) most_table_bytes [] bound.query.tables)
  answered-can filter folder bound order text can =
      tables-can folder (λ tables. join_course filter bound order tables (λ plan. Ends (Ok (text tables plan)))) most_table_bytes [] bound.query.tables
      (λ tables. join-can filter bound order tables (λ plan. Ends (Ok (text tables plan))) can (λ plan. tt))

  mode-can : (mode : Mode) (filter : FilterKind) (folder : List ℕ) (bound : BoundQuery) (order : Option (List ℕ)) → CanBePlanned bound.known.sets order
      → CanEnd (mode_course mode filter folder bound order)
  mode-can mode.Run filter folder bound order can = answered-can filter folder bound order (λ tables plan. answer_text bound tables) can
  mode-can mode.Explain filter folder bound order can = answered-can filter folder bound order (λ tables plan. explain_text filter bound tables plan) can
  mode-can mode.Check filter folder bound order can = (planned-there bound.known.sets (no_sizes bound.known.sets) order can, λ plan is. tt)
  mode-can mode.Sample filter folder bound order can = answered-can filter folder bound order (λ tables plan. summary_text filter bound tables plan) can

  query-can : (command : Command) (query : Query) → IsBound query → CanEnd (query_course command query)
  query-can command query bound = (
    prepared-there query bound command.order command.force,
    λ found is. mode-can command.mode command.filter command.folder (record { query = query; known = found.known }) found.order (record {
      graph = known-graph query found.known bound is.0;
      acyclic = is.1;
      is_order = sets-order query bound command.order found.known is.0 found.order is.2;
    }),
  )

  -- a script that was read asks for a source
  has-source : (bytes : List ℕ) (script : Script) → IsScript bytes (Ok script) → 1 ≤ length script.select.sources
  has-source bytes script is = from script.select.sources (formed is.2).sources
    where
      from : (sources : List Source) → IsFrom sources → 1 ≤ length sources
      from [] h = absurd h
      from (source ∷ sources) h = omega arith

  read-can : (command : Command) (script : Script) → 1 ≤ length script.select.sources → (fault : Option Violation) → script_refusal script ≡ fault
      → CanEnd (goes_on (query_or fault (query_of script)) (query_course command))
  read-can command script some None e = query-can command (query_of script) (query_of-IsBound script some e)
  read-can command script some (Some fault) e = tt

  bytes-can : (command : Command) (bytes : List ℕ) → CanEnd (bytes_course bytes (query_course command))
  bytes-can command bytes =
      let it = read-as front bytes in
      ((it.found, it.is), λ script is. read-can command script (has-source bytes script is) (script_refusal script) refl)

  files-can : (command : Command) → CanEnd (files_course command)
  files-can command bytes =
      either (nat_lt MAX_SCRIPT_BYTES (length bytes)) (Ends (Err (TooLarge command.script))) (bytes_course bytes (query_course command)) tt (bytes-can command bytes)

  -- over files that are given a course can end where it can over others
  over-can : (contents : List ℕ → List ℕ) (course : Course) → CanEnd course → CanEnd (over_files contents course)
  unfolding over_files
  over-can contents (Ends end) p = p
  over-can contents (Asks name next) p = over-can contents (next (contents name)) (p (contents name))
  over-can contents (Finds matter next) p = (p.0, λ x is. over-can contents (next x) (p.1 x is))

  sample-can : (command : Command) → CanEnd (sample_course command)
  sample-can command = over-can (file_bytes command.folder (sample_tables (number_of command))) (bytes_course sample_script (query_course command)) (bytes-can command sample_script)

  command-can : (command : Command) → CanEnd (command_course command)
  command-can command = either (is_made command.mode) (sample_course command) (files_course command) (sample-can command) (files-can command)

  of-can : (command : Option Command) → CanEnd (course_of command)
  of-can None = tt
  of-can (Some command) = command-can command

  -- the course of the words of a command line can end
  pub course-can : (words : List (List ℕ)) → CanEnd (course words)
  course-can words = of-can (command_of words)
