-- Bytes that are copied to the front of others.
use Rattle.std.proofs.Common.{◌≡◌, ℕ, ◌+◌, List, ◌++◌, length, take, drop, sym, ◌∙◌, ap, arith}
use Rattle.std.proofs.lemmas.List.{take-append-drop}
use Rattle.std.proofs.lemmas.Grind.{common_steps}
use Rattle.std.proofs.Math.Seq.{take-append_seam}

-- where the front holds the first bytes of what is left, the rest follows after them
pub copied : (bytes front other : List ℕ) (at m : ℕ) → front ≡ take m (drop at bytes) → m ≡ length front
    → drop at bytes ≡ take m (front ++ other) ++ drop (at + m) bytes
copied bytes front other at m is long =
    let head : take m (front ++ other) ≡ front = rw long (take-append_seam front other) in
    let rest : drop m (drop at bytes) ≡ drop (at + m) bytes = grind (arith, common_steps) in
    sym (ap (λ v. v ++ drop (at + m) bytes) (head ∙ is) ∙ (ap (λ v. take m (drop at bytes) ++ v) (sym rest) ∙ take-append-drop m (drop at bytes)))
