-- Steps of a course.
use Rattle.std.proofs.Common.{◌≡◌, ◌⊎◌, inl, inr, refl, ℕ, suc, ◌<◌, ◌≤◌, List, length, nat_lt, true, false, ap, subst, arith}
use Rattle.std.proofs.lemmas.Bool.{le-leb}
use Rattle.std.specs.Prelude.{Bool, Option, Some, Result, Ok, Err, MatchResult, if◌then◌else◌}
use Rattle.rpt_outside.specs.Causes.{HasContents, NeverFalls, Rose}
use Rattle.rpt_outside.specs.Seen.{FilesSeen, seen_until}
use Rattle.rpt_outside.specs.declared.traits.Files.{Ghosts as FileWords}
use Rattle.refusal_lines.specs.declared.errors.Refusal.{Refusal}
use Rattle.refusal_lines.specs.declared.errors.Refusal.TheVariants.{ReadFault, TooLarge, Memory}
use Rattle.rpt_cli.specs.Course.{Reply, Asks, Course, Ends, Finds, Gives, IsFoundAs, Leads, over_files}
use Rattle.rpt_cli.specs.Matters.{Found, Matter}
use Rattle.rpt_cli.specs.Command.{asks_within}
use Rattle.rpt_cli.specs.Steps.{Passes}

-- the same files, seen since later
abbrev since : (List ℕ → ℕ) → FilesSeen → FilesSeen
since later files = record { missing = files.missing; told = files.told; before = later; now = files.now }

-- a course leads to the same answer since earlier
Leads-earlier : (files : FilesSeen) (later : List ℕ → ℕ) → NeverFalls files.before later → (course : Course) (reply : Reply)
    → Leads (since later files) course reply → Leads files course reply
Leads-earlier files later falls (Ends end) reply p = p
Leads-earlier files later falls (Asks name next) reply (inl p) =
    inl (p.0, (let rose : Rose (later name) (files.now name) = p.1 in let h : files.before name ≤ later name = falls name in omega arith))
Leads-earlier files later falls (Asks name next) reply (inr p) =
    inr (p.0, p.1, Leads-earlier files later falls (next p.0) reply p.2)
Leads-earlier files later falls (Finds matter next) reply p =
    (p.0, p.1, by p.0 (λ x. Leads-earlier files later falls (next x) reply) p.2)
  where
    by : (r : Result (Found matter) Refusal) → ((x : Found matter) → Leads (since later files) (next x) reply → Leads files (next x) reply)
        → MatchResult r (λ x. Leads (since later files) (next x) reply) (λ e. reply ≡ Err e) → MatchResult r (λ x. Leads files (next x) reply) (λ e. reply ≡ Err e)
    by (Ok x) more l = more x l
    by (Err e) more l = l

-- contents within the limit are passed on
within-limit : (limit : ℕ) (name : List ℕ) (next : List ℕ → Course) (bytes : List ℕ) → length bytes ≤ limit
    → next bytes ≡ (if nat_lt limit (length bytes) then Ends (Err (TooLarge name)) else next bytes)
within-limit limit name next bytes h =
    let fits : false ≡ nat_lt limit (length bytes) = grind arith in
    ap (λ (b : Bool). if b then Ends (Err (TooLarge name)) else next bytes) fits

-- a file that was read within its limit is passed
asks_within-Gives : (files : FilesSeen) (lacks : List ℕ → Bool) (held : List ℕ → Option (List ℕ)) (later : List ℕ → ℕ) (limit : ℕ) (name : List ℕ) (next : List ℕ → Course) (bytes : List ℕ) (reply : Reply)
    → lacks ≡ files.missing → held ≡ files.told → NeverFalls files.before later → HasContents (files.missing name) (files.told name) bytes → length bytes ≤ limit
    → Gives (record { missing = lacks; told = held; before = later; now = files.now }) (next bytes) reply → Gives files (asks_within limit name next) reply
asks_within-Gives files lacks held later limit name next bytes reply gone same falls has room (inl memory) = inl memory
asks_within-Gives files lacks held later limit name next bytes reply gone same falls has room (inr leads) =
    let here : Leads (since later files) (next bytes) reply =
    subst (λ (m : List ℕ → Bool). Leads (record { missing = m; told = files.told; before = later; now = files.now }) (next bytes) reply) gone
    (subst (λ (t : List ℕ → Option (List ℕ)). Leads (record { missing = lacks; told = t; before = later; now = files.now }) (next bytes) reply) same leads) in
    let begun : Leads files (next bytes) reply = Leads-earlier files later falls (next bytes) reply here in
    inr (inr (bytes, has, subst (λ (course : Course). Leads files course reply) (within-limit limit name next bytes room) begun))

pub read-Passes : {F : Type 0} (words : FileWords F) (old new : F) (limit : ℕ) (name bytes : List ℕ)
    → words.is_missing new ≡ words.is_missing old → words.contents new ≡ words.contents old → NeverFalls (words.faults old) (words.faults new)
    → HasContents (words.is_missing old name) (words.contents old name) bytes → length bytes ≤ limit
    → Passes words old new (asks_within limit name) bytes
read-Passes words old new limit name bytes gone same falls has room = λ next end reply gives.
    asks_within-Gives (seen_until words old end) (words.is_missing new) (words.contents new) (words.faults new) limit name next bytes reply gone same falls has room gives

-- a file that can't be read ends the course, and so does one that is too large
module _ (files : FilesSeen) (limit : ℕ) (name : List ℕ) (next : List ℕ → Course) (e : Refusal) where
  pub fault-Gives : (e ≡ Memory) ⊎ (e ≡ ReadFault name) → Rose (files.before name) (files.now name) → Gives files (asks_within limit name next) (Err e)
  fault-Gives (inl memory) rose = inl (ap Err memory)
  fault-Gives (inr fault) rose = inr (inl (ap Err fault, rose))

  pub large-Gives : (e ≡ Memory) ⊎ (e ≡ TooLarge name) → (bytes : List ℕ) × HasContents (files.missing name) (files.told name) bytes × (limit < length bytes) → Gives files (asks_within limit name next) (Err e)
  large-Gives (inl memory) large = inl (ap Err memory)
  large-Gives (inr is) large =
      let past : nat_lt limit (length large.0) ≡ true = le-leb (suc limit) (length large.0) (let h : limit < length large.0 = large.2 in omega arith) in
      inr (inr (large.0, large.1, rw past (ap Err is)))

-- what was found is passed
pub finds-Gives : (files : FilesSeen) (matter : Matter) (next : Found matter → Course) (x : Found matter) (reply : Reply)
    → IsFoundAs matter (Ok x) → Gives files (next x) reply → Gives files (Finds matter next) reply
finds-Gives files matter next x reply only (inl memory) = inl memory
finds-Gives files matter next x reply only (inr leads) = inr (Ok x, only, leads)

-- and a refusal ends the course
pub refuses-Gives : (files : FilesSeen) (matter : Matter) (next : Found matter → Course) (e : Refusal)
    → (e ≡ Memory) ⊎ IsFoundAs matter (Err e) → Gives files (Finds matter next) (Err e)
refuses-Gives files matter next e (inl memory) = inl (ap Err memory)
refuses-Gives files matter next e (inr only) = inr (Err e, only, refl)

-- files of which none is missing and none fails
abbrev pub unfailing : (List ℕ → Option (List ℕ)) → FilesSeen
unfailing told = record { missing = λ name. false; told = told; before = λ name. 0; now = λ name. 0 }

-- a course that led to an answer over files of which none fails leads to it where they are given
module _ (contents : List ℕ → List ℕ) (files : FilesSeen) where
  over-Leads : (course : Course) (reply : Reply) → Leads (unfailing (λ name. Some (contents name))) course reply → Leads files (over_files contents course) reply
  unfolding over_files
  over-Leads (Ends end) reply p = p
  over-Leads (Asks name next) reply (inl p) = absurd (let rose : Rose 0 0 = p.1 in omega arith)
  over-Leads (Asks name next) reply (inr p) = subst (λ (bytes : List ℕ). Leads files (over_files contents (next bytes)) reply) p.1.contents (over-Leads (next p.0) reply p.2)
  over-Leads (Finds matter next) reply p = (p.0, p.1, by p.0 (λ x. over-Leads (next x) reply) p.2)
    where
      by : (r : Result (Found matter) Refusal)
          → ((x : Found matter) → Leads (unfailing (λ name. Some (contents name))) (next x) reply → Leads files (over_files contents (next x)) reply)
          → MatchResult r (λ x. Leads (unfailing (λ name. Some (contents name))) (next x) reply) (λ e. reply ≡ Err e)
          → MatchResult r (λ x. Leads files (over_files contents (next x)) reply) (λ e. reply ≡ Err e)
      by (Ok x) more l = more x l
      by (Err e) more l = l

  pub over-Gives : (course : Course) (reply : Reply) → Gives (unfailing (λ name. Some (contents name))) course reply → Gives files (over_files contents course) reply
  over-Gives course reply (inl memory) = inl memory
  over-Gives course reply (inr leads) = inr (over-Leads course reply leads)
