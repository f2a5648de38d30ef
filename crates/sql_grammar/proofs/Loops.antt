-- A repetition that a loop reads.
use Rattle.std.proofs.Common.{◌≡◌, ℕ, ◌<◌, true, false, List, [], ◌∷◌, ◌++◌, length, refl, sym, ◌∙◌, ap, subst, append_assoc, arith}
use Rattle.std.proofs.lemmas.Bool.Decides.{nat_tests}
use Rattle.std.proofs.lemmas.List.{append-nil}
use Rattle.sql_lex.specs.declared.tokens.Token.{Token}
use Rattle.sql_grammar.specs.declared.kinds.Kind.{Kind}
use Rattle.sql_grammar.specs.declared.errors.ParseError.{ParseError}
use Rattle.sql_grammar.specs.Kinds.{code}
use Rattle.sql_grammar.specs.Grammar.{Part, word, ◌▸◌, many, Tree, Both, End, More}
use Rattle.sql_grammar.specs.Reading.{apart, subset, Heads, first, after, nullable, Reads, Parsed, Fails, Starts}
use Rattle.sql_grammar.proofs.Parts.{longer_some}
use Rattle.sql_grammar.proofs.Compose.{NoBegin, reads_both}
use Rattle.sql_grammar.proofs.Choices.{reads_end}
use Rattle.sql_grammar.proofs.Leads.{Leads, itself, behind, at_more, fails, fails_first, fails_item, begun, reads_kind, none_of, found as separator}

-- These were there or were found before the rest, and however the rest is read, so is the whole.
pub record Grows {p : Part} {X : Type 0} (view : Tree (many p) → List X) (start : List X) (n : ℕ) (ts : List Token) (found : List X) (rest : List Token) : Type 0 where
  pub leads : Leads (many p) n rest (many p) n ts
  pub value : (m : Tree (many p)) → start ++ view (leads.wrap m) ≡ found ++ view m

pub grows_start : {p : Part} {X : Type 0} (view : Tree (many p) → List X) (n : ℕ) (ts : List Token) (start : List X) → Grows view start n ts start ts
grows_start {p} view n ts start = record { leads = itself (many p); value = λ m. refl }

-- a member that gives these
pub grows_more : {p : Part} {X : Type 0} {view : Tree (many p) → List X} {start : List X} {n : ℕ} {ts rest us : List Token} {found : List X} {d : Tree p} (xs : List X)
    → apart (after p) (first p) ≡ true → Heads (first p) rest → ((m : Tree (many p)) → view (More d m) ≡ xs ++ view m)
    → Grows view start n ts found rest → Reads n rest d us → Grows view start n ts (found ++ xs) us
grows_more {p} {X} {view} {start} {n} {ts} {rest} {us} {found} {d} xs ok begun item g r = record {
  leads = at_more g.leads ok begun r;
  value = λ m. g.value (More d m) ∙ ap (λ (ys : List X). found ++ ys) (item m) ∙ sym (append_assoc found xs (view m));
}

pub grows_end : {p : Part} {X : Type 0} {view : Tree (many p) → List X} {start : List X} {n : ℕ} {ts rest : List Token} {found : List X}
    → view End ≡ [] → Grows view start n ts found rest → NoBegin p rest → Parsed (λ (m : Tree (many p)). start ++ view m) n ts found rest
grows_end {p} {X} {view} {start} {n} {ts} {rest} {found} ends g h = record {
  tree = g.leads.wrap End;
  reads = g.leads.reads End rest (reads_end h);
  value = g.value End ∙ ap (λ (xs : List X). found ++ xs) ends ∙ append-nil found;
}

-- ---- members with a separator between them

subset_itself : (kind : Kind) → subset (code kind ∷ []) (code kind ∷ []) ≡ true
subset_itself kind = grind (arith, nat_tests)

-- These were found before the rest, and however the separators and members there are read, so is the whole.
pub record Goes {p : Part} {kind : Kind} {X : Type 0} (view : Tree (p ▸ many (word kind ▸ p)) → List X) (more : Tree (many (word kind ▸ p)) → List X) (n : ℕ) (ts : List Token) (found : List X) (rest : List Token) : Type 0 where
  pub leads : Leads (many (word kind ▸ p)) n rest (p ▸ many (word kind ▸ p)) n ts
  pub value : (m : Tree (many (word kind ▸ p))) → view (leads.wrap m) ≡ found ++ more m

-- These were found before the rest, where a member must be.
pub record Awaits {p : Part} {kind : Kind} {X : Type 0} (view : Tree (p ▸ many (word kind ▸ p)) → List X) (one : Tree p → List X) (more : Tree (many (word kind ▸ p)) → List X) (n : ℕ) (ts : List Token) (found : List X) (rest : List Token) : Type 0 where
  pub read : (d : Tree p) (us : List Token) → Reads n rest d us → Goes view more n ts (found ++ one d) us
  pub fails : (end : ℕ) (e : ParseError) → Fails p n rest end e → Fails (p ▸ many (word kind ▸ p)) n ts end e

pub awaits_first : {p : Part} {kind : Kind} {X : Type 0} (view : Tree (p ▸ many (word kind ▸ p)) → List X) (one : Tree p → List X) (more : Tree (many (word kind ▸ p)) → List X) (n : ℕ) (ts : List Token)
    → apart (after p) (code kind ∷ []) ≡ true → ((d : Tree p) (m : Tree (many (word kind ▸ p))) → view (Both d m) ≡ one d ++ more m) → Awaits view one more n ts [] ts
awaits_first {p} {kind} view one more n ts ok parts = record {
  read = λ d us r. record { leads = behind (itself (p ▸ many (word kind ▸ p))) ok r; value = parts d };
  fails = λ end e h. fails_first (itself (p ▸ many (word kind ▸ p))) ok end e h;
}

-- behind a separator
pub awaits_next : {p : Part} {kind : Kind} {X : Type 0} {view : Tree (p ▸ many (word kind ▸ p)) → List X} (one : Tree p → List X) {more : Tree (many (word kind ▸ p)) → List X} {n : ℕ} {ts rest us : List Token} {found : List X}
    → apart (after (word kind ▸ p)) (code kind ∷ []) ≡ true → ((s : Tree (word kind)) (d : Tree p) (m : Tree (many (word kind ▸ p))) → more (More (Both s d) m) ≡ one d ++ more m)
    → Goes view more n ts found rest → Starts kind rest us → Awaits view one more n ts found us
awaits_next {p} {kind} {X} {view} one {more} {n} {ts} {rest} {us} {found} ok parts g s = record {
  read = λ d vs r. record {
    leads = at_more g.leads ok (begun s) (reads_both {p = word kind} {q = p} refl (reads_kind s) r);
    value = λ m. g.value (More (Both (separator s) d) m) ∙ ap (λ (ys : List X). found ++ ys) (parts (separator s) d m) ∙ sym (append_assoc found (one d) (more m));
  };
  fails = λ end e h. fails_item g.leads ok (begun s) end e (fails (behind (itself (word kind ▸ p)) refl (reads_kind s)) end e h);
}

-- what was found, by another name
pub goes_is : {p : Part} {kind : Kind} {X : Type 0} {view : Tree (p ▸ many (word kind ▸ p)) → List X} {more : Tree (many (word kind ▸ p)) → List X} {n : ℕ} {ts rest : List Token} {xs ys : List X}
    → xs ≡ ys → Goes view more n ts xs rest → Goes view more n ts ys rest
goes_is {view = view} {more = more} {n = n} {ts = ts} {rest = rest} same g = subst (λ zs. Goes view more n ts zs rest) same g

pub goes_append : {p : Part} {kind : Kind} {X : Type 0} {view : Tree (p ▸ many (word kind ▸ p)) → List X} {more : Tree (many (word kind ▸ p)) → List X} {n : ℕ} {ts rest : List Token} (found : List X) {x y : X} {all : List X}
    → x ≡ y → all ≡ found ++ y ∷ [] → Goes view more n ts (found ++ x ∷ []) rest → Goes view more n ts all rest
goes_append {X = X} found same is g = goes_is (ap (λ (x : X). found ++ x ∷ []) same ∙ sym is) g

pub goes_end : {p : Part} {kind : Kind} {X : Type 0} {view : Tree (p ▸ many (word kind ▸ p)) → List X} {more : Tree (many (word kind ▸ p)) → List X} {n : ℕ} {ts rest : List Token} {found : List X}
    → more End ≡ [] → Goes view more n ts found rest → (Heads (code kind ∷ []) rest → ⊥) → Parsed view n ts found rest
goes_end {p} {kind} {X} {view} {more} {n} {ts} {rest} {found} ends g h = record {
  tree = g.leads.wrap End;
  reads = g.leads.reads End rest (reads_end (none_of (word kind ▸ p) (code kind ∷ []) refl (subset_itself kind) h));
  value = g.value End ∙ ap (λ (xs : List X). found ++ xs) ends ∙ append-nil found;
}

-- one more member, behind those that were there
pub pushed : {X : Type 0} {x y : X} (start : List X) {one : List X} → x ≡ y → one ≡ start ++ y ∷ [] → (more : List X) → start ++ x ∷ more ≡ one ++ more
pushed {X} {x} {y} start {one} same e more =
    ap (λ (z : X). start ++ z ∷ more) same ∙ sym (append_assoc start (y ∷ []) more) ∙ ap (λ (zs : List X). zs ++ more) (sym e)

-- a member of a repetition that can't be empty takes a token
pub shorter_by : {p : Part} {n : ℕ} {ts us : List Token} {d : Tree p} → nullable p ≡ false → Reads n ts d us → length us < length ts
shorter_by {p} {n} {ts} {us} {d} never r = subst (λ (vs : List Token). length us < length vs) r.spells (longer_some d us never)
