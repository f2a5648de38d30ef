-- One table after another.
use Rattle.std.proofs.Common.{◌≡◌, ◌∙◌, ◌⊎◌, inl, inr, false, refl, sym, ap, subst, ℕ, ◌+◌, ◌-◌, ◌≤◌, List, [], ◌∷◌, ◌++◌, length, map, take, drop}
use Rattle.std.specs.Prelude.{Some, Result, Ok, Err, is_err, is_ok, slice_get, if◌then◌else◌}
use Rattle.std.proofs.lemmas.List.{drop_all, drop_more, map-append, take_all, take_more}
use Rattle.std.proofs.lemmas.Option.{get_or_from_slice_get, slice_get_within}
use Rattle.column_table.specs.Table.{Rows, types_of}
use Rattle.column_table.specs.declared.declared.Decl.{Decl}
use Rattle.bound_query.specs.Query.{Query}
use Rattle.bound_query.specs.Answer.{AreTables}
use Rattle.rpt_outside.specs.Seen.{seen, seen_until}
use Rattle.rpt_outside.specs.declared.traits.Files.{Ghosts as FileWords}
use Rattle.refusal_lines.specs.declared.errors.Refusal.{Refusal}
use Rattle.refusal_lines.specs.declared.errors.Refusal.TheVariants.{Memory}
use Rattle.rpt_cli.specs.Course.{Reply, Course, Gives, goes_on}
use Rattle.rpt_cli.specs.Command.{asks_within, load_course, table_course, tables_course}
use Rattle.rpt_cli.specs.Steps.{AreKept, Passes, Stops}
use Rattle.rpt_cli.proofs.KeptFacts.{kept-next}
use Rattle.rpt_cli.specs.Tables.{table_file, table_of}

-- what is left from an element on begins with it
drop_from : {X : Type 0} (xs : List X) (i : ℕ) (x : X) → slice_get xs i ≡ Some x → drop i xs ≡ x ∷ drop (i + 1) xs
drop_from xs i x here = drop_more xs i x (slice_get_within xs i x here) ∙ ap (λ y. y ∷ drop (i + 1) xs) (get_or_from_slice_get xs i x x here)

-- and what comes before the next ends with it
take_to : {X : Type 0} (xs : List X) (i : ℕ) (x : X) → slice_get xs i ≡ Some x → take (i + 1) xs ≡ take i xs ++ x ∷ []
take_to xs i x here = take_more xs i x (slice_get_within xs i x here) ∙ ap (λ y. take i xs ++ y ∷ []) (get_or_from_slice_get xs i x x here)

-- what a list holds after a push that didn't fail
pub pushed : {X E : Type 0} (r : Result (Unit {0}) E) (after before : List X) (x : X) → after ≡ (if is_ok r then before ++ x ∷ [] else before) → is_err r ≡ false → after ≡ before ++ x ∷ []
pushed (Ok done) after before x is none = is
pushed (Err e) after before x is none = cc none

-- What has come of the tables' files: the first tables have the columns that are declared, and all that the rest of the tables
-- leads to, the course of all tables leads to.
pub record HasCome {F : Type 0} (words : FileWords F) (folder : List ℕ) (old new : F) (decls : List Decl) (room : ℕ) (tables : List Rows) (number : ℕ) : Type 0 where
  pub kinds : map (λ (t : Rows). t.kinds) tables ≡ map (λ (d : Decl). types_of d.columns) (take number decls)
  pub goes : (next : List Rows → Course) (end : List ℕ → ℕ) (reply : Reply)
      → Gives (seen_until words new end) (tables_course folder next room tables (drop number decls)) reply
      → Gives (seen_until words old end) (load_course folder decls next) reply
  pub kept : AreKept words old new

module _ {F : Type 0} (words : FileWords F) (folder : List ℕ) where
  -- the table of a file's bytes is passed
  pub table-Passes : (old new : F) (room : ℕ) (decl : Decl) (name bytes : List ℕ) (table : Rows) → name ≡ table_file folder decl.name
      → Passes words old new (asks_within room name) bytes → table_of decl bytes ≡ Ok table
      → Passes words old new (table_course room folder decl) (table, room - length bytes)
  table-Passes old new room decl name bytes table named passes is = λ next end reply gives.
      let goes : List ℕ → Course = λ read. goes_on (table_of decl read) (λ t. next (t, room - length read)) in
      let here : Gives (seen_until words new end) (goes bytes) reply =
      subst (λ (r : Result Rows Refusal). Gives (seen_until words new end) (goes_on r (λ t. next (t, room - length bytes))) reply) (sym is) gives in
      subst (λ (file : List ℕ). Gives (seen_until words old end) (asks_within room file goes) reply) named (passes goes end reply here)

  -- a file that isn't had ends the course, and so do bytes that are no table
  pub file-Stops : (old new : F) (room : ℕ) (decl : Decl) (name : List ℕ) (e : Refusal) → name ≡ table_file folder decl.name
      → Stops words old new (asks_within room name) e → Stops words old new (table_course room folder decl) e
  file-Stops old new room decl name e named stops = λ next.
      let goes : List ℕ → Course = λ read. goes_on (table_of decl read) (λ t. next (t, room - length read)) in
      subst (λ (file : List ℕ). Gives (seen words old new) (asks_within room file goes) (Err e)) named (stops goes)

  pub bytes-Stops : (old new : F) (room : ℕ) (decl : Decl) (name bytes : List ℕ) (e : Refusal) → name ≡ table_file folder decl.name
      → Passes words old new (asks_within room name) bytes → (e ≡ Memory) ⊎ (table_of decl bytes ≡ Err e)
      → Stops words old new (table_course room folder decl) e
  bytes-Stops old new room decl name bytes e named passes (inl memory) = λ next. inl (ap Err memory)
  bytes-Stops old new room decl name bytes e named passes (inr is) = λ next.
      let goes : List ℕ → Course = λ read. goes_on (table_of decl read) (λ t. next (t, room - length read)) in
      let here : Gives (seen words new new) (goes bytes) (Err e) =
      subst (λ (r : Result Rows Refusal). Gives (seen words new new) (goes_on r (λ t. next (t, room - length bytes))) (Err e)) (sym is) (inr refl) in
      subst (λ (file : List ℕ). Gives (seen words old new) (asks_within room file goes) (Err e)) named (passes goes (words.faults new) (Err e) here)

  module _ (old now new : F) (decls : List Decl) (room : ℕ) (tables : List Rows) (number : ℕ) (decl : Decl) (has : HasCome words folder old now decls room tables number) (here : slice_get decls number ≡ Some decl) where
    -- a table that is refused ends the course
    pub HasCome-refused : (e : Refusal) → Stops words now new (table_course room folder decl) e → Stops words old new (load_course folder decls) e
    HasCome-refused e stops = λ next.
        let rest = drop (number + 1) decls in
        has.goes next (words.faults new) (Err e) (subst (λ (ds : List Decl). Gives (seen words now new) (tables_course folder next room tables ds) (Err e)) (sym (drop_from decls number decl here))
        (stops (λ read. tables_course folder next read.1 (tables ++ read.0 ∷ []) rest)))

    -- a table that is read is passed
    pub HasCome-next : (read : Rows × ℕ) → read.0.kinds ≡ types_of decl.columns → Passes words now new (table_course room folder decl) read
        → AreKept words now new → HasCome words folder old new decls read.1 (tables ++ read.0 ∷ []) (number + 1)
    HasCome-next read kinds_are passes kept = record {
      kinds = map-append (λ (t : Rows). t.kinds) tables (read.0 ∷ [])
          ∙ ap (λ ks. ks ++ read.0.kinds ∷ []) has.kinds
          ∙ ap (λ k. map (λ (d : Decl). types_of d.columns) (take number decls) ++ k ∷ []) kinds_are
          ∙ sym (ap (map (λ (d : Decl). types_of d.columns)) (take_to decls number decl here) ∙ map-append (λ (d : Decl). types_of d.columns) (take number decls) (decl ∷ []));
      goes = λ next end reply gives.
          has.goes next end reply (subst (λ (ds : List Decl). Gives (seen_until words now end) (tables_course folder next room tables ds) reply) (sym (drop_from decls number decl here))
          (passes (λ r. tables_course folder next r.1 (tables ++ r.0 ∷ []) (drop (number + 1) decls)) end reply gives));
      kept = kept-next words old now new has.kept kept;
    }

  module _ (old now : F) (query : Query) (room : ℕ) (tables : List Rows) (number : ℕ) (has : HasCome words folder old now query.tables room tables number) (all : length query.tables ≤ number) where
    -- all tables are there
    pub HasCome-AreTables : AreTables query tables
    HasCome-AreTables = has.kinds ∙ ap (map (λ (d : Decl). types_of d.columns)) (take_all number query.tables all)

    -- after all tables the course goes on with them
    pub HasCome-ends : Passes words old now (load_course folder query.tables) tables
    HasCome-ends = λ next end reply gives.
        has.goes next end reply (subst (λ (ds : List Decl). Gives (seen_until words now end) (tables_course folder next room tables ds) reply) (sym (drop_all number query.tables all)) gives)
