-- What one put after another leaves.
use Rattle.std.proofs.Common.{◌≡◌, ℕ, ◌≤◌, List, ◌++◌, sym, ◌∙◌, ap, subst, arith, append_assoc, Some, None}
use Rattle.std.specs.Prelude.{Option, Result, Ok, Err}
use Rattle.std.specs.Io.KnownBytes.{Appends}
use Rattle.rpt_outside.specs.Causes.{Rose, Puts}

pub Appends-Appends : (a b c : Option (List ℕ)) (xs ys : List ℕ) → Appends a b xs → Appends b c ys → Appends a c (xs ++ ys)
Appends-Appends None b c xs ys p q = tt
Appends-Appends (Some a) None c xs ys p q = absurd p
Appends-Appends (Some a) (Some b) None xs ys p q = absurd q
Appends-Appends (Some a) (Some b) (Some c) xs ys p q = q ∙ (ap (λ v. v ++ ys) p ∙ append_assoc a xs ys)

-- after what was taken whole, what comes next
pub Puts-after : {T E : Type 0} (a b c : Option (List ℕ)) (i j k : ℕ) (xs ys : List ℕ) (r : Result T E)
    → Appends a b xs → i ≤ j → Puts b c j k ys r → Puts a c i k (xs ++ ys) r
Puts-after a b c i j k xs ys (Ok u) p le q =
    record { whole = Appends-Appends a b c xs ys p q.whole; part = tt; failed = tt; later = (let l : j ≤ k = q.later in omega arith) }
Puts-after a b c i j k xs ys (Err e) p le q =
    record {
      whole = tt;
      part = record {
        part = xs ++ q.part.part;
        rest = q.part.rest;
        split = ap (λ v. xs ++ v) q.part.split ∙ sym (append_assoc xs q.part.part q.part.rest);
        appended = Appends-Appends a b c xs q.part.part p q.part.appended;
      };
      failed = (let rose : Rose j k = q.failed in omega arith);
      later = (let l : j ≤ k = q.later in omega arith);
    }

-- a text whose first part broke off
pub Puts-broken : {T E U : Type 0} (a b : Option (List ℕ)) (i j : ℕ) (xs ys text : List ℕ) (r : Result T E) (e : E)
    → r ≡ Err e → text ≡ xs ++ ys → Puts a b i j xs r → Puts {T = U} {E = E} a b i j text (Err e)
Puts-broken {T = T} {E = E} {U = U} a b i j xs ys text r e re te q =
    let p : Puts {T = T} {E = E} a b i j xs (Err e) = subst (λ (v : Result T E). Puts a b i j xs v) re q in
    record {
      whole = tt;
      part = record {
        part = p.part.part;
        rest = p.part.rest ++ ys;
        split = te ∙ (ap (λ v. v ++ ys) p.part.split ∙ append_assoc p.part.part p.part.rest ys);
        appended = p.part.appended;
      };
      failed = p.failed;
      later = p.later;
    }

-- what was put on `Ok`
pub Puts-ok : {T E : Type 0} (a b : Option (List ℕ)) (i j : ℕ) (xs : List ℕ) (r : Result T E) (u : T) → r ≡ Ok u → Puts a b i j xs r → Appends a b xs
Puts-ok {T = T} {E = E} a b i j xs r u e q =
    let p : Puts {T = T} {E = E} a b i j xs (Ok u) = subst (λ (v : Result T E). Puts a b i j xs v) e q in p.whole

-- the same for a text that is the two
pub Puts-after_text : {T E : Type 0} (a b c : Option (List ℕ)) (i j k : ℕ) (xs ys text : List ℕ) (r : Result T E)
    → text ≡ xs ++ ys → Appends a b xs → i ≤ j → Puts b c j k ys r → Puts a c i k text r
Puts-after_text {T = T} {E = E} a b c i j k xs ys text r te p le q =
    subst (λ (v : List ℕ). Puts {T = T} {E = E} a c i k v r) (sym te) (Puts-after a b c i j k xs ys r p le q)
