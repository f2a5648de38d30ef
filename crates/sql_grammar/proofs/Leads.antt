-- From the reading of a part to that of the whole it stands in.
use Rattle.std.proofs.Common.{◌≡◌, ℕ, ◌+◌, ◌≤◌, true, false, List, [], ◌∷◌, length, refl, sym, ap, subst, arith, Result, Ok, Err, ◌⊎◌, inl, inr}
use Rattle.std.specs.Prelude.{MatchResult}
use Rattle.std.proofs.lemmas.Bool.Decides.{nat_tests}
use Rattle.sql_lex.specs.declared.tokens.Token.{Token}
use Rattle.sql_grammar.specs.declared.kinds.Kind.{Kind}
use Rattle.sql_grammar.specs.declared.errors.ParseError.{ParseError}
use Rattle.sql_grammar.specs.declared.errors.ParseError.TheVariants.{Syntax, TooDeep, Memory}
use Rattle.sql_grammar.specs.Kinds.{kind_of, code, numbers, among}
use Rattle.rpt_base.specs.Lists.{has}
use Rattle.sql_grammar.specs.Grammar.{Line, rule, Part, token, word, ◌▸◌, ◌∣◌, many, level, line, opt, Tree, Leaf, Both, Left, Right, More, In, By, Empty}
use Rattle.sql_grammar.specs.Reading.{apart, subset, Heads, first, after, nullable, Reads, Stops, Deepens, Parsed, Fails, Gives, Starts}
use Rattle.sql_grammar.specs.Sentence.{place}
use Rattle.sql_grammar.proofs.Sets.{Heads_subset, Heads_apart}
use Rattle.sql_grammar.proofs.Compose.{NoBegin, reads_token, reads_both, stops_here, stops_first, stops_second, deep_shorter, deep_first, deep_second}
use Rattle.sql_grammar.proofs.Choices.{reads_some, reads_more, stops_left, stops_right, deep_left, deep_right, stops_some, deep_some, stops_item, stops_more, deep_item, deep_more, stops_in, deep_in, reads_in, deep_opens, reads_by, stops_by, deep_by, reads_left, reads_right}
use Rattle.sql_grammar.proofs.Same.{Same, reads_same, stops_same, deep_same}

-- However the among_one part is read from its tokens, so is the other from its own.
pub record Leads (p : Part) (n : ℕ) (ts : List Token) (q : Part) (m : ℕ) (us : List Token) : Type 0 where
  pub wrap : Tree p → Tree q
  pub reads : (d : Tree p) (rest : List Token) → Reads n ts d rest → Reads m us (wrap d) rest
  pub stops : (rest : List Token) → Stops p n ts rest → Stops q m us rest
  pub deep : (t : Token) (rest : List Token) → Deepens p n ts t rest → Deepens q m us t rest

abbrev pub fails : {p q : Part} {n m : ℕ} {ts us : List Token} → Leads p n ts q m us → (end : ℕ) (e : ParseError) → Fails p n ts end e → Fails q m us end e
fails l end (Syntax at) h = (h.0, l.stops h.0 h.1, h.2)
fails l end (TooDeep at) h = (h.0, h.1, l.deep h.0 h.1 h.2, h.3)
fails l end Memory h = tt

-- where the first of two parts fails
pub fails_first : {p q r : Part} {n m : ℕ} {ts us : List Token} → Leads (p ▸ q) n ts r m us → apart (after p) (first q) ≡ true
    → (end : ℕ) (e : ParseError) → Fails p n ts end e → Fails r m us end e
fails_first l ok end (Syntax at) h = (h.0, l.stops h.0 (stops_first ok h.1), h.2)
fails_first l ok end (TooDeep at) h = (h.0, h.1, l.deep h.0 h.1 (deep_first ok h.2), h.3)
fails_first l ok end Memory h = tt

-- where a further member of a repetition fails
pub fails_item : {p r : Part} {n m : ℕ} {ts us : List Token} → Leads (many p) n ts r m us → apart (after p) (first p) ≡ true → Heads (first p) ts
    → (end : ℕ) (e : ParseError) → Fails p n ts end e → Fails r m us end e
fails_item l ok begun end (Syntax at) h = (h.0, l.stops h.0 (stops_item ok begun h.1), h.2)
fails_item l ok begun end (TooDeep at) h = (h.0, h.1, l.deep h.0 h.1 (deep_item ok begun h.2), h.3)
fails_item l ok begun end Memory h = tt

-- ---- the ways from a part to what it stands in

abbrev pub itself : (p : Part) {n : ℕ} {ts : List Token} → Leads p n ts p n ts
itself p = record { wrap = λ d. d; reads = λ d rest h. h; stops = λ rest h. h; deep = λ t rest h. h }

abbrev pub along : {p q r : Part} {n m k : ℕ} {ts us vs : List Token} → Leads p n ts q m us → Leads q m us r k vs → Leads p n ts r k vs
along a b = record {
  wrap = λ d. b.wrap (a.wrap d);
  reads = λ d rest h. b.reads (a.wrap d) rest (a.reads d rest h);
  stops = λ rest h. b.stops rest (a.stops rest h);
  deep = λ t rest h. b.deep t rest (a.deep t rest h);
}

-- what a line says
abbrev pub at_line : (l : Line) {n : ℕ} {ts : List Token} → Leads (rule l) n ts (line l) n ts
at_line l = record { wrap = λ d. By d; reads = λ d rest h. reads_by h; stops = λ rest h. stops_by l h; deep = λ t rest h. deep_by l h }

-- the second of two parts, behind the first
abbrev pub behind : {p q r : Part} {n m : ℕ} {ts us vs : List Token} {d : Tree p} → Leads (p ▸ q) n ts r m vs → apart (after p) (first q) ≡ true → Reads n ts d us → Leads q n us r m vs
behind {d = d} l ok h = record {
  wrap = λ e. l.wrap (Both d e);
  reads = λ e rest k. l.reads (Both d e) rest (reads_both ok h k);
  stops = λ rest k. l.stops rest (stops_second ok h k);
  deep = λ t rest k. l.deep t rest (deep_second ok h k);
}

-- an alternative, where the other can't begin
abbrev pub at_left : {p q r : Part} {n m : ℕ} {ts us : List Token} → Leads (p ∣ q) n ts r m us → NoBegin q ts → Leads p n ts r m us
at_left {n = n} {ts = ts} l other = record {
  wrap = λ d. l.wrap (Left d);
  reads = λ d rest h. l.reads (Left d) rest (reads_left h (stops_here n ts other) (h.far Empty ts refl));
  stops = λ rest h. l.stops rest (stops_left h (stops_here n ts other) (h.far Empty ts refl));
  deep = λ t rest h. l.deep t rest (deep_left h (stops_here n ts other) (deep_shorter h));
}

abbrev pub at_right : {p q r : Part} {n m : ℕ} {ts us : List Token} → Leads (p ∣ q) n ts r m us → NoBegin p ts → Leads q n ts r m us
at_right {n = n} {ts = ts} l other = record {
  wrap = λ d. l.wrap (Right d);
  reads = λ d rest h. l.reads (Right d) rest (reads_right (stops_here n ts other) (h.far Empty ts refl) h);
  stops = λ rest h. l.stops rest (stops_right (stops_here n ts other) (h.far Empty ts refl) h);
  deep = λ t rest h. l.deep t rest (deep_right (stops_here n ts other) (deep_shorter h) h);
}

-- a part that may be left out, and isn't
abbrev pub at_some : {q r : Part} {n m : ℕ} {ts us : List Token} → Leads (opt q) n ts r m us → Heads (first q) ts → Leads q n ts r m us
at_some l begun = record {
  wrap = λ d. l.wrap (Right d);
  reads = λ d rest h. l.reads (Right d) rest (reads_some begun h);
  stops = λ rest h. l.stops rest (stops_some begun h);
  deep = λ t rest h. l.deep t rest (deep_some begun h);
}

-- a repetition, behind among_one more member
abbrev pub at_more : {p r : Part} {n m : ℕ} {ts us vs : List Token} {d : Tree p} → Leads (many p) n ts r m vs → apart (after p) (first p) ≡ true → Heads (first p) ts → Reads n ts d us → Leads (many p) n us r m vs
at_more {d = d} l ok begun h = record {
  wrap = λ e. l.wrap (More d e);
  reads = λ e rest k. l.reads (More d e) rest (reads_more ok begun h k);
  stops = λ rest k. l.stops rest (stops_more ok begun h k);
  deep = λ t rest k. l.deep t rest (deep_more ok begun h k);
}

-- another way of writing the part
abbrev pub at_same : {p q r : Part} {n m : ℕ} {ts us : List Token} → Leads q n ts r m us → (s : Same p q) → subset (after p) (after q) ≡ true → Leads p n ts r m us
at_same l s ok = record {
  wrap = λ d. l.wrap (s.to d);
  reads = λ d rest h. l.reads (s.to d) rest (reads_same s ok h);
  stops = λ rest h. l.stops rest (stops_same s ok h);
  deep = λ t rest h. l.deep t rest (deep_same s ok h);
}

pub level_of : (n : ℕ) {m : ℕ} {ts us : List Token} (t : Token) (Q : ℕ → List Token → Type 0) → us ≡ t ∷ ts → m ≡ n + 1 → Q (n + 1) (t ∷ ts) → Q m us
level_of n {m} {ts} {us} t Q e levels h = subst (λ (vs : List Token). Q m vs) (sym e) (subst (λ (k : ℕ). Q k (t ∷ ts)) (sym levels) h)

-- inside of a level, where the count of levels is among_one less
abbrev pub at_level : {kind : Kind} {p r : Part} {n k m : ℕ} {ts us vs : List Token} → Leads (level kind p) m us r k vs → (s : Starts kind us ts) → m ≡ n + 1 → Leads p n ts r k vs
at_level {kind = kind} {p = p} {n = n} l s levels = record {
  wrap = λ d. l.wrap (In s.token s.is d);
  reads = λ d rest h. l.reads (In s.token s.is d) rest (level_of n s.token (λ i ws. Reads {p = level kind p} i ws (In s.token s.is d) rest) s.splits levels (reads_in s.token s.is h));
  stops = λ rest h. l.stops rest (level_of n s.token (λ i ws. Stops (level kind p) i ws rest) s.splits levels (stops_in s.token s.is h));
  deep = λ u rest h. l.deep u rest (level_of n s.token (λ i ws. Deepens (level kind p) i ws u rest) s.splits levels (deep_in s.token s.is h));
}

-- the token opens a level too many
pub opens : {kind : Kind} {p r : Part} {n m : ℕ} {us vs : List Token} → Leads (level kind p) n us r m vs → (ts : List Token) (end : ℕ) (at : ℕ) (h : Starts kind us ts) → n ≡ 0 → at ≡ h.token.start → Fails r m vs end (TooDeep at)
opens {kind} {p} {r} {n} {m} {us} {vs} l ts end at h none e = (h.token, ts, l.deep h.token ts deeper, e)
  where
    deeper : Deepens (level kind p) n us h.token ts
    deeper = subst (λ (ws : List Token). Deepens (level kind p) n ws h.token ts) (sym h.splits) (subst (λ (k : ℕ). Deepens (level kind p) k (h.token ∷ ts) h.token ts) (sym none) (deep_opens h.token ts h.is))

-- ---- the end of the way

-- the part is read, and so is the whole
abbrev pub done : {p q : Part} {X : Type 0} {view : Tree q → X} {n m : ℕ} {ts us rest : List Token} {x : X} (l : Leads p n ts q m us) (d : Tree p)
    → Reads n ts d rest → view (l.wrap d) ≡ x → Parsed view m us x rest
done {rest = rest} l d h v = record { tree = l.wrap d; reads = l.reads d rest h; value = v }

-- a result that is handed on
pub hands_on : {p q : Part} {X Y R : Type 0} (view : Tree p → X) (other : Tree q → Y) (value : R → X) (value' : R → Y) (rest : R → List Token) {n m : ℕ} {ts us : List Token} (end : ℕ)
    (l : Leads p n ts q m us) → ((d : Tree p) (r : R) → view d ≡ value r → other (l.wrap d) ≡ value' r)
    → (r : Result R ParseError) → Gives view value rest n ts end r → Gives other value' rest m us end r
hands_on view other value value' rest end l same (Ok r) h = record { tree = l.wrap h.tree; reads = l.reads h.tree (rest r) h.reads; value = same h.tree r h.value }
hands_on view other value value' rest end l same (Err e) h = fails l end e h

-- a result that is known
pub read_ok : {p : Part} {X R : Type 0} (view : Tree p → X) (value : R → X) (rest : R → List Token) {n : ℕ} {ts : List Token} (end : ℕ) {r : Result R ParseError} {x : R}
    → r ≡ Ok x → Gives view value rest n ts end r → Parsed view n ts (value x) (rest x)
read_ok view value rest {n = n} {ts = ts} end same h = subst (λ r. Gives view value rest n ts end r) same h

pub read_err : {p : Part} {X R : Type 0} (view : Tree p → X) (value : R → X) (rest : R → List Token) (n : ℕ) (ts : List Token) (end : ℕ) {r : Result R ParseError} {e : ParseError}
    → r ≡ Err e → Gives view value rest n ts end r → Fails p n ts end e
read_err view value rest n ts end same h = subst (λ r. Gives view value rest n ts end r) same h

-- unless it was memory that failed
pub append_err : {p : Part} {X R : Type 0} (view : Tree p → X) (value : R → X) (rest : R → List Token) (n : ℕ) (ts : List Token) (end : ℕ) {r : Result R ParseError} {e : ParseError}
    → (r ≡ Err e) ⊎ (e ≡ Memory) → Gives view value rest n ts end r → Fails p n ts end e
append_err view value rest n ts end (inl same) h = read_err view value rest n ts end same h
append_err {p} view value rest n ts end (inr memory) h = subst (λ e. Fails p n ts end e) (sym memory) tt

-- what was found before, beside what is read next
pub beside : {p q : Part} {T U Y R : Type 0} (view : Tree p → U) (other : Tree q → Y) (value : (T × U) × R → Y) (rest : R → List Token) {n m : ℕ} {ts us : List Token} (end : ℕ) {found : T}
    (l : Leads p n ts q m us) → ((d : Tree p) (both : (T × U) × R) → both.0.0 ≡ found → view d ≡ both.0.1 → other (l.wrap d) ≡ value both)
    → (next : Result (U × R) ParseError) (r : Result ((T × U) × R) ParseError) → Gives view (λ r. r.0) (λ r. rest r.1) n ts end next
    → MatchResult r (λ both. (next ≡ Ok (both.0.1, both.1)) × (both.0.0 ≡ found)) (λ e. next ≡ Err e) → Gives other value (λ r. rest r.1) m us end r
beside view other value rest end l same next (Ok both) g h =
    let k = read_ok view (λ r. r.0) (λ r. rest r.1) end h.0 g in
    record { tree = l.wrap k.tree; reads = l.reads k.tree (rest both.1) k.reads; value = same k.tree both h.1 k.value }
beside view other value rest {n = n} {ts = ts} end l same next (Err e) g h = fails l end e (read_err view (λ r. r.0) (λ r. rest r.1) n ts end h g)

-- ---- first tokens

pub not_this : (kind : Kind) {ts : List Token} → (Heads (code kind ∷ []) ts → ⊥) → NoBegin (word kind) ts
not_this kind h = record { never_empty = refl; other = h }

pub shorter : {p : Part} {n : ℕ} {ts us : List Token} {d : Tree p} → Reads n ts d us → length us ≤ length ts
shorter {ts = ts} r = r.far Empty ts refl

pub among_one : (kind : Kind) (t : Token) → kind_of t ≡ kind → among (kind ∷ []) (kind_of t) ≡ true
among_one kind t is = let e : code (kind_of t) ≡ code kind = ap code is in grind (arith, nat_tests)

-- a token of a kind
abbrev pub found : {kind : Kind} {ts rest : List Token} → Starts kind ts rest → Tree (word kind)
found {kind} h = Leaf {kinds = kind ∷ []} h.token (among_one kind h.token h.is)

pub reads_kind : {kind : Kind} {n : ℕ} {ts rest : List Token} (h : Starts kind ts rest) → Reads n ts (found h) rest
reads_kind {kind} {n} {ts} {rest} h = subst (λ (us : List Token). Reads n us (found h) rest) (sym h.splits) (reads_token n h.token rest (among_one kind h.token h.is))

pub begun : {kind : Kind} {ts rest : List Token} → Starts kind ts rest → Heads (code kind ∷ []) ts
begun {kind} {ts} h = subst (Heads (code kind ∷ [])) (sym h.splits) (among_one kind h.token h.is)

-- the tokens begin with another kind
pub other_kind : (p : Part) {kind : Kind} {ts rest : List Token} → Starts kind ts rest → nullable p ≡ false → has (code kind) (first p) ≡ false → NoBegin p ts
other_kind p {kind} {ts} s never none = record { never_empty = never; other = λ h. no_heads (subst (Heads (first p)) s.splits h) }
  where
    no_heads : has (code (kind_of s.token)) (first p) ≡ true → ⊥
    no_heads h = let g : has (code kind) (first p) ≡ true = subst (λ (k : Kind). has (code k) (first p) ≡ true) s.is h in cc

-- the tokens begin with among_one of these kinds, with which the part doesn't begin
pub other_kinds : (p : Part) (kinds : List ℕ) {ts : List Token} → Heads kinds ts → nullable p ≡ false → apart kinds (first p) ≡ true → NoBegin p ts
other_kinds p kinds {ts} begin never ok = record { never_empty = never; other = λ h. Heads_apart kinds (first p) ts ok begin h }

pub none_of : (p : Part) (kinds : List ℕ) {ts : List Token} → nullable p ≡ false → subset (first p) kinds ≡ true → (Heads kinds ts → ⊥) → NoBegin p ts
none_of p kinds {ts} never ok h = record { never_empty = never; other = λ k. h (Heads_subset (first p) kinds ts ok k) }

-- ---- a token of some kinds

pub none_among : (kinds : List Kind) {ts : List Token} → (Heads (numbers kinds) ts → ⊥) → NoBegin (token kinds) ts
none_among kinds h = record { never_empty = refl; other = h }

pub reads_one : {kinds : List Kind} {n : ℕ} {ts : List Token} (t : Token) (rest : List Token) → ts ≡ t ∷ rest → (is : among kinds (kind_of t) ≡ true) → Reads n ts (Leaf {kinds = kinds} t is) rest
reads_one {kinds} {n} t rest e is = subst (λ (us : List Token). Reads n us (Leaf {kinds = kinds} t is) rest) (sym e) (reads_token n t rest is)

-- the part can't begin here, and so is refused here
pub refused : {p : Part} (n : ℕ) (ts : List Token) (end at : ℕ) → NoBegin p ts → at ≡ place ts end → (rest : List Token) × Stops p n ts rest × (at ≡ place rest end)
refused n ts end at h e = (ts, stops_here n ts h, e)
