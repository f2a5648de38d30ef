-- What follows of an answer that has its cause and was delivered.
use Rattle.std.proofs.Common.{◌≡◌, ◌⊎◌, inl, inr, ℕ, ◌+◌, ◌-◌, ◌<◌, ◌^◌, min, List, sym, ◌∙◌, ap, subst, arith, Some, None}
use Rattle.std.specs.Prelude.{Option, Result, Ok, Err, IfSome, IsOk, IsOkAnd, MatchResult, is_ok, true, false, ⊤}
use Rattle.rpt_outside.specs.Causes.{Rose, Tells}
use Rattle.rpt_outside.specs.Seen.{FilesSeen, SinkSeen}
use Rattle.refusal_lines.specs.declared.errors.Refusal.{Refusal}
use Rattle.refusal_lines.specs.declared.errors.Refusal.TheVariants.{Usage, ReadFault, TooLarge, Lex, Syntax, TooDeep, Bind, Cyclic, OrderNames, UnsafeOrder, Header, Ragged, BadField, NotUtf8, TooManyRows, RowsOverflow, WriteFault, Memory}
use Rattle.rpt_cli.specs.Course.{Reply, Course, Ends, Asks, Finds, Leads, Gives, IsOutcome, NoneRose}
use Rattle.rpt_cli.specs.Matters.{Found}
use Rattle.refusal_lines.specs.Message.{status_of}
use Rattle.rpt_cli.specs.Delivery.{Delivers, Takes}
use Rattle.rpt_cli.specs.Outcome.{HasReply}

-- contents that are told are the ones that were read
told-read : (o : Option (List ℕ)) (bytes told : List ℕ) → Tells o bytes → o ≡ Some told → told ≡ bytes
told-read None bytes told t e = cc
told-read (Some xs) bytes told t e = let same : xs ≡ told = cc in sym same ∙ sym t

-- a course that leads to a text has no other outcome
pub outcome-text : (files : FilesSeen) (course : Course) (text : List ℕ) (end : Reply)
    → Leads files course (Ok text) → IsOutcome files.told course end → end ≡ Ok text
outcome-text files (Ends stands) text end p o = o ∙ sym p
outcome-text files (Asks name next) text end (inl p) o = absurd (let e : Ok text ≡ Err (ReadFault name) = p.0 in cc)
outcome-text files (Asks name next) text end (inr p) o =
    outcome-text files (next p.0) text end p.2
    (subst (λ (bytes : List ℕ). IsOutcome files.told (next bytes) end) (told-read (files.told name) p.0 o.0 p.1.contents o.1) o.2)
outcome-text files (Finds matter next) text end p o =
    by p.0 (λ x. outcome-text files (next x) text end) p.2
    (subst (λ (r : Result (Found matter) Refusal). MatchResult r (λ x. IsOutcome files.told (next x) end) (λ e. end ≡ Err e)) (p.1.1 o.0 o.1) o.2)
  where
    by : (r : Result (Found matter) Refusal) → ((x : Found matter) → Leads files (next x) (Ok text) → IsOutcome files.told (next x) end → end ≡ Ok text)
        → MatchResult r (λ x. Leads files (next x) (Ok text)) (λ e. Ok text ≡ Err e)
        → MatchResult r (λ x. IsOutcome files.told (next x) end) (λ e. end ≡ Err e) → end ≡ Ok text
    by (Ok x) more l m = more x l m
    by (Err e) more l m = absurd (let no : Ok text ≡ Err e = l in cc)

-- where no count rose, a course leads to its outcome
pub outcome-quiet : (files : FilesSeen) (course : Course) (reply end : Reply)
    → Leads files course reply → NoneRose files course → IsOutcome files.told course end → end ≡ reply
outcome-quiet files (Ends stands) reply end p q o = o ∙ sym p
outcome-quiet files (Asks name next) reply end (inl p) q o =
    absurd (let rose : Rose (files.before name) (files.now name) = p.1 in let less : files.now name < min (files.before name + 1) (2 ^ 64 - 1) = q.0 in omega arith)
outcome-quiet files (Asks name next) reply end (inr p) q o =
    let same = told-read (files.told name) p.0 o.0 p.1.contents o.1 in
    let quiet : IfSome (Some o.0) (λ bytes. NoneRose files (next bytes)) = subst (λ (c : Option (List ℕ)). IfSome c (λ bytes. NoneRose files (next bytes))) o.1 q.1 in
    outcome-quiet files (next p.0) reply end p.2 (subst (λ (bytes : List ℕ). NoneRose files (next bytes)) same quiet)
    (subst (λ (bytes : List ℕ). IsOutcome files.told (next bytes) end) same o.2)
outcome-quiet files (Finds matter next) reply end p q o =
    by p.0 (λ x. outcome-quiet files (next x) reply end) p.2
    (subst (λ (r : Result (Found matter) Refusal). MatchResult r (λ x. NoneRose files (next x)) (λ e. ⊤)) (p.1.1 q.0 q.1) q.2)
    (subst (λ (r : Result (Found matter) Refusal). MatchResult r (λ x. IsOutcome files.told (next x) end) (λ e. end ≡ Err e)) (p.1.1 o.0 o.1) o.2)
  where
    by : (r : Result (Found matter) Refusal) → ((x : Found matter) → Leads files (next x) reply → NoneRose files (next x) → IsOutcome files.told (next x) end → end ≡ reply)
        → MatchResult r (λ x. Leads files (next x) reply) (λ e. reply ≡ Err e)
        → MatchResult r (λ x. NoneRose files (next x)) (λ e. ⊤)
        → MatchResult r (λ x. IsOutcome files.told (next x) end) (λ e. end ≡ Err e) → end ≡ reply
    by (Ok x) more l n m = more x l n m
    by (Err e) more l n m = m ∙ sym l

pub status_of-positive : (e : Refusal) → status_of e ≡ 0 → ⊥
status_of-positive Usage p = omega arith
status_of-positive (ReadFault name) p = omega arith
status_of-positive (TooLarge name) p = omega arith
status_of-positive (Lex offset) p = omega arith
status_of-positive (Syntax offset) p = omega arith
status_of-positive (TooDeep offset) p = omega arith
status_of-positive (Bind kind offset) p = omega arith
status_of-positive (Cyclic best needed) p = omega arith
status_of-positive OrderNames p = omega arith
status_of-positive (UnsafeOrder prefix) p = omega arith
status_of-positive (Header table column) p = omega arith
status_of-positive (Ragged table row) p = omega arith
status_of-positive (BadField table row column) p = omega arith
status_of-positive (NotUtf8 table row column) p = omega arith
status_of-positive TooManyRows p = omega arith
status_of-positive (RowsOverflow prefix) p = omega arith
status_of-positive WriteFault p = omega arith
status_of-positive Memory p = omega arith

pub taken_whole : {S M : Type 0} (files : FilesSeen) (out : SinkSeen S) (messages : SinkSeen M) (course : Course) (status : ℕ) (reply end : Reply)
    → Gives files course reply → Delivers out messages status reply → status ≡ 0
    → IsOutcome files.told course end → IsOkAnd end (λ text. Takes out text)
taken_whole files out messages course status (Ok text) end (inl g) d z o = absurd (cc)
taken_whole files out messages course status (Ok text) end (inr g) (inl d) z o =
    subst (λ (v : Reply). IsOkAnd v (λ text. Takes out text)) (sym (outcome-text files course text end g o)) d.1
taken_whole files out messages course status (Ok text) end (inr g) (inr d) z o =
    absurd (let four : status ≡ 4 = d.0 in omega arith)
taken_whole files out messages course status (Err e) end g d z o =
    absurd (status_of-positive e (let s : status ≡ status_of e = d.0 in cc))

-- where no count rose and a text is the outcome, it was taken, or memory ran out
pub completes : {S M : Type 0} (files : FilesSeen) (out : SinkSeen S) (messages : SinkSeen M) (course : Course) (status : ℕ) (reply end : Reply)
    → Gives files course reply → Delivers out messages status reply
    → IsOutcome files.told course end → IsOk end → NoneRose files course
    → out.now < min (out.before + 1) (2 ^ 64 - 1) → (status ≡ 0) ⊎ (status ≡ 1)
completes files out messages course status reply end (inl g) d o ok quiet less =
    let at : (a : Reply) → a ≡ Err Memory → Delivers out messages status a → status ≡ 1
    = λ a. elim a as (λ v. v ≡ Err Memory → Delivers out messages status v → status ≡ 1) [
      | Ok text ↦ λ e p. absurd (cc)
      | Err e ↦ λ same p. p.0 ∙ ap status_of (let m : e ≡ Memory = cc in m)
    ] in
    inr (at reply g d)
completes files out messages course status (Ok text) end (inr g) (inl d) o ok quiet less = inl d.0
completes files out messages course status (Ok text) end (inr g) (inr d) o ok quiet less =
    absurd (let rose : Rose out.before out.now = d.1.rose in omega arith)
completes files out messages course status (Err e) end (inr g) d o ok quiet less =
    absurd (let same : end ≡ Err e = outcome-quiet files course (Err e) end g quiet o in let bad : is_ok end ≡ true = ok in let no : is_ok end ≡ false = ap is_ok same in cc)

pub HasReply-text : {S M : Type 0} {files : FilesSeen} {out : SinkSeen S} {messages : SinkSeen M} {course : Course} {status : ℕ} (end : Reply)
    → HasReply files out messages course status → status ≡ 0
    → IsOutcome files.told course end → IsOkAnd end (λ text. Takes out text)
HasReply-text {files = files} {out = out} {messages = messages} {course = course} {status = status} end r z o =
    taken_whole files out messages course status r.reply end r.cause r.delivered z o

pub HasReply-complete : {S M : Type 0} {files : FilesSeen} {out : SinkSeen S} {messages : SinkSeen M} {course : Course} {status : ℕ} (end : Reply)
    → HasReply files out messages course status
    → IsOutcome files.told course end → IsOk end → NoneRose files course
    → out.now < min (out.before + 1) (2 ^ 64 - 1) → (status ≡ 0) ⊎ (status ≡ 1)
HasReply-complete {files = files} {out = out} {messages = messages} {course = course} {status = status} end r o ok quiet less =
    completes files out messages course status r.reply end r.cause r.delivered o ok quiet less
