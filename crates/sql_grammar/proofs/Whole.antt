-- From the reading of the grammar's first line to the answer.
use Rattle.std.proofs.Common.{◌≡◌, ℕ, ◌≤◌, ◌<◌, List, [], ◌∷◌, length, refl, sym, ◌∙◌, ap, arith, ◌⊎◌, inl, inr, Result, Ok, Err}
use Rattle.std.proofs.lemmas.Bool.{cases_lt}
use Rattle.sql_lex.specs.declared.tokens.Token.{Token}
use Rattle.sql_grammar.specs.declared.errors.ParseError.{ParseError}
use Rattle.sql_grammar.specs.declared.errors.ParseError.TheVariants.{Syntax, TooDeep, Memory}
use Rattle.sql_grammar.specs.declared.tree.Script.{Script}
use Rattle.sql_grammar.specs.Grammar.{script, line, Front, front_text, front_depth}
use Rattle.sql_grammar.specs.Meaning.{script_of}
use Rattle.sql_grammar.specs.Reading.{Stops, Parsed, Fails}
use Rattle.sql_grammar.specs.Sentence.{IsSentence, IsSyntaxError, IsTooDeep, IsReading, NoneGoesOn, BeginsWithin, place}
use Rattle.sql_grammar.proofs.Parts.{whole, whole_text, whole_depth}
use Rattle.sql_grammar.proofs.Cuts.{Behind, behind_front, behind_next, behind_same, reach}

pub sentence : {n : ℕ} {ts : List Token} {x : Script} (rest : List Token) → Parsed script_of n ts x rest → length rest ≡ 0 → IsSentence n ts x
sentence [] h none = record { derivation = h.tree; spells = h.reads.spells; within = h.reads.within; means = h.value }
sentence (t ∷ rest) h none = absurd (omega arith)

-- behind a whole sentence stands a token
pub too_long : {n : ℕ} {ts : List Token} {x : Script} (rest : List Token) (end at : ℕ) → Parsed script_of n ts x rest → (length rest ≡ 0 → ⊥) → at ≡ place rest end → IsSyntaxError n ts end at
too_long [] end at h some e = absurd (some refl)
too_long {n} {ts} (t ∷ rest) end at h some e = record {
  rest = t ∷ rest;
  begins = (whole h.tree, whole_text h.tree (t ∷ rest) ∙ h.reads.spells, (let w = h.reads.within in let d = whole_depth h.tree in omega arith));
  ends = λ f g. (let k = h.reads.far f rest g in absurd (omega arith));
  place = e;
}

none_goes_on : {n : ℕ} {ts : List Token} (rest : List Token) → Stops (line script) n ts rest → NoneGoesOn ts rest
none_goes_on [] h = λ d e. h.only d [] e
none_goes_on (t ∷ rest) h = λ f e. (let k = h.far f rest e in absurd (omega arith))

pub syntax_error : {n : ℕ} {ts : List Token} (end : ℕ) (e : ParseError) → Fails (line script) n ts end e → (at : ℕ) → e ≡ Syntax at → IsSyntaxError n ts end at
syntax_error end (Syntax at) h at' same = record { rest = h.0; begins = h.1.front; ends = none_goes_on h.0 h.1; place = (let k : at' ≡ at = cc in k ∙ h.2) }
syntax_error end (TooDeep at) h at' same = absurd cc
syntax_error end Memory h at' same = absurd cc

pub too_deep : {n : ℕ} {ts : List Token} (end : ℕ) (e : ParseError) → Fails (line script) n ts end e → (at : ℕ) → e ≡ TooDeep at → IsTooDeep n ts at
too_deep end (Syntax at) h at' same = absurd cc
too_deep end (TooDeep at) h at' same = record { opener = h.0; rest = h.1; begins = h.2.before; opens = h.2.opens; least = λ f g. h.2.least f h.1 g (omega arith); place = (let k : at' ≡ at = cc in k ∙ h.3) }
too_deep end Memory h at' same = absurd cc

-- ---- there is no other reading

-- the front ends where no other goes further
record Furthest (n : ℕ) (ts rest : List Token) : Type 0 where
  pub front : Front (line script)
  pub spells : front_text front rest ≡ ts
  pub within : front_depth front ≤ n
  pub far : (f : Front (line script)) (us : List Token) → front_text f us ≡ ts → length rest ≤ length us

behind_of : {ts rest : List Token} (f : Front (line script)) → front_text f rest ≡ ts → Behind rest ts
behind_of {ts} {rest} f e = let b = behind_front f rest in (b.0, b.1 ∙ e)

-- then the place of a syntax error is there, unless it is at the end of a sentence
same_rest : {n : ℕ} {ts rest : List Token} (us : List Token) → Furthest n ts rest → BeginsWithin n ts us → NoneGoesOn ts us → us ≡ rest
same_rest {n} {ts} {rest} [] h begins ends = let k = h.far begins.0 [] begins.1 in behind_same (behind_of begins.0 begins.1) (behind_of h.front h.spells) (omega arith)
same_rest {n} {ts} {rest} (t ∷ us) h begins ends = elim (cases_lt (length rest) (length (t ∷ us))) [
  | inl less ↦ (let g = reach h.front rest us h.spells (behind_next (behind_of begins.0 begins.1)) (omega arith) in absurd (ends g.0 g.1))
  | inr more ↦ (let k = h.far begins.0 (t ∷ us) begins.1 in behind_same (behind_of begins.0 begins.1) (behind_of h.front h.spells) (omega arith))
]

-- and no level too many is opened
never_deep : {n : ℕ} {ts rest : List Token} {at : ℕ} → Furthest n ts rest → IsTooDeep n ts at → ⊥
never_deep {n} {ts} {rest} h deep =
    let k = h.far deep.opens.0 deep.rest deep.opens.1 in
    let g = reach h.front rest deep.rest h.spells (behind_of deep.opens.0 deep.opens.1) k in
    let j = deep.least g.0 g.1 in
    let w = h.within in
    let v = g.2 in
    absurd (omega arith)

-- where no sentence is
only_place : {n : ℕ} {ts rest : List Token} (end at : ℕ) → Furthest n ts rest → ((x : Script) → IsSentence n ts x → ⊥) → at ≡ place rest end
    → (said : Result Script ParseError) → IsReading n ts end said → Err (Syntax at) ≡ said
only_place end at h never e (Ok x) r = absurd (never x r)
only_place {n} {ts} {rest} end at h never e (Err (Syntax at')) r =
    let same = same_rest r.rest h r.begins r.ends in
    ap (λ (k : ℕ). syntax k) (e ∙ ap (λ (us : List Token). place us end) (sym same) ∙ sym r.place)
  where
    syntax : ℕ → Result Script ParseError
    syntax k = Err (Syntax k)
only_place end at h never e (Err (TooDeep at')) r = absurd (never_deep h r)
only_place end at h never e (Err Memory) r = absurd r

-- a sentence within the levels is read to its end
sentence_front : {n : ℕ} {ts : List Token} {x : Script} → IsSentence n ts x → (f : Front (line script)) × (front_text f [] ≡ ts) × (front_depth f ≤ n)
sentence_front s = (whole s.derivation, whole_text s.derivation [] ∙ s.spells, (let w = s.within in let d = whole_depth s.derivation in omega arith))

pub only_long : {n : ℕ} {ts : List Token} {x : Script} (rest : List Token) (end at : ℕ) → Parsed script_of n ts x rest → (length rest ≡ 0 → ⊥) → at ≡ place rest end
    → (said : Result Script ParseError) → IsReading n ts end said → Err (Syntax at) ≡ said
only_long {n} {ts} rest end at h some e said r = only_place end at furthest (λ y s. (let f = sentence_front s in let j = h.reads.far f.0 [] f.1 in some (omega arith))) e said r
  where
    furthest : Furthest n ts rest
    furthest = record { front = whole h.tree; spells = whole_text h.tree rest ∙ h.reads.spells; within = (let w = h.reads.within in let d = whole_depth h.tree in omega arith); far = h.reads.far }

pub only_tree : {n : ℕ} {ts : List Token} {x : Script} (rest : List Token) (end : ℕ) → Parsed script_of n ts x rest → length rest ≡ 0
    → (said : Result Script ParseError) → IsReading n ts end said → Ok x ≡ said
only_tree (t ∷ rest) end h none said r = absurd (omega arith)
only_tree {n} {ts} {x} [] end h none (Ok y) s = elim (h.reads.only s.derivation [] s.spells) [
  | inl k ↦ ap (λ (z : Script). ok z) (sym (sym s.means ∙ ap script_of k.1 ∙ h.value))
  | inr k ↦ absurd k
]
  where
    ok : Script → Result Script ParseError
    ok z = Ok z
only_tree {n} {ts} {x} [] end h none (Err (Syntax at)) r = absurd (go r.rest r.begins r.ends)
  where
    furthest : Furthest n ts []
    furthest = record { front = whole h.tree; spells = whole_text h.tree [] ∙ h.reads.spells; within = (let w = h.reads.within in let d = whole_depth h.tree in omega arith); far = h.reads.far }

    go : (us : List Token) → BeginsWithin n ts us → NoneGoesOn ts us → ⊥
    go [] begins ends = ends h.tree h.reads.spells
    go (t ∷ us) begins ends = let same = ap length (same_rest (t ∷ us) furthest begins ends) in absurd (omega arith)
only_tree {n} {ts} {x} [] end h none (Err (TooDeep at)) r = absurd (never_deep furthest r)
  where
    furthest : Furthest n ts []
    furthest = record { front = whole h.tree; spells = whole_text h.tree [] ∙ h.reads.spells; within = (let w = h.reads.within in let d = whole_depth h.tree in omega arith); far = h.reads.far }
only_tree [] end h none (Err Memory) r = absurd r

pub only_refused : (n : ℕ) (ts : List Token) (end : ℕ) (e : ParseError) → Fails (line script) n ts end e
    → (said : Result Script ParseError) → IsReading n ts end said → (e ≡ Memory) ⊎ (Err e ≡ said)
only_refused n ts end (Syntax at) h said r = inr (only_place end at furthest never h.2 said r)
  where
    furthest : Furthest n ts h.0
    furthest = record { front = h.1.front.0; spells = h.1.front.1; within = h.1.front.2; far = h.1.far }

    go : (rest : List Token) → Stops (line script) n ts rest → (x : Script) → IsSentence n ts x → ⊥
    go [] k x s = k.only s.derivation [] s.spells
    go (t ∷ rest) k x s = let f = sentence_front s in let j = k.far f.0 [] f.1 in absurd (omega arith)

    never : (x : Script) → IsSentence n ts x → ⊥
    never x s = go h.0 h.1 x s
only_refused n ts end (TooDeep at) h (Ok x) s =
    let f = sentence_front s in
    let k = h.2.least f.0 [] f.1 (omega arith) in
    let w = f.2 in
    absurd (omega arith)
only_refused n ts end (TooDeep at) h (Err (Syntax at')) r = absurd (go r.rest r.begins r.ends)
  where
    go : (us : List Token) → BeginsWithin n ts us → NoneGoesOn ts us → ⊥
    go us begins ends = elim (cases_lt (length h.1) (length us)) [
      | inl more ↦ longer_rest us begins ends more
      | inr less ↦ (let k = h.2.least begins.0 us begins.1 less in let w = begins.2 in absurd (omega arith))
    ]
      where
        longer_rest : (us : List Token) → BeginsWithin n ts us → NoneGoesOn ts us → length h.1 < length us → ⊥
        longer_rest [] begins ends more = absurd (omega arith)
        longer_rest (t ∷ us) begins ends more = let g = reach h.2.opens.0 h.1 us h.2.opens.1 (behind_next (behind_of begins.0 begins.1)) (omega arith) in ends g.0 g.1
only_refused n ts end (TooDeep at) h (Err (TooDeep at')) r = inr (ap (λ (k : ℕ). deep k) (h.3 ∙ ap (λ (us : List Token). place us end) same ∙ sym r.place))
  where
    deep : ℕ → Result Script ParseError
    deep k = Err (TooDeep k)

    same : h.0 ∷ h.1 ≡ r.opener ∷ r.rest
    same = elim (cases_lt (length r.rest) (length h.1)) [
      | inl less ↦ (let k = h.2.least r.begins.0 (r.opener ∷ r.rest) r.begins.1 (omega arith) in let w = r.begins.2 in absurd (omega arith))
      | inr more ↦ elim (cases_lt (length h.1) (length r.rest)) [
        | inl longer ↦ (let g = reach h.2.before.0 (h.0 ∷ h.1) r.rest h.2.before.1 (behind_of r.opens.0 r.opens.1) (omega arith) in let j = r.least g.0 g.1 in let w = h.2.before.2 in let v = g.2 in absurd (omega arith))
        | inr equal ↦ behind_same (behind_of h.2.before.0 h.2.before.1) (behind_of r.begins.0 r.begins.1) (omega arith)
      ]
    ]
only_refused n ts end (TooDeep at) h (Err Memory) r = absurd r
only_refused n ts end Memory h said r = inl refl
