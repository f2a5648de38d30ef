-- What the bytes written so far say of the whole piece.
use Rattle.std.proofs.Common.{◌≡◌, ℕ, ◌-◌, List, [], ◌++◌, length, take, drop, arith, refl, sym, ◌∙◌, ap, subst, append_assoc, append-nil, take-append-drop}
use Rattle.std.specs.Prelude.{Option}
use Rattle.std.specs.Io.KnownBytes.{Appends, Keeps}
use Rattle.std.proofs.lemmas.Grind.{common_steps}
use Rattle.std.proofs.KnownBytes.{Appends-nil, Appends-trans, Appends-kept}

-- a writer took what stands before the rest of a piece
pub record Wrote (old new : Option (List ℕ)) (piece rest : List ℕ) : Type 0 where
  pub part : List ℕ
  pub split : piece ≡ part ++ rest
  pub appended : Appends old new part

-- nothing was taken yet
pub none_written : (old : Option (List ℕ)) (piece : List ℕ) → Wrote old old piece piece
none_written old piece = record { part = []; split = refl; appended = Appends-nil old }

-- the first bytes of the rest were taken too
pub more_written : (old now later : Option (List ℕ)) (piece rest : List ℕ) (n : ℕ) → Wrote old now piece rest → Appends now later (take n rest)
    → Wrote old later piece (take (length rest - n) (drop n rest))
more_written old now later piece rest n before added =
    let all : take (length rest - n) (drop n rest) ≡ drop n rest = grind (arith, common_steps) in
    rw all (record {
      part = before.part ++ take n rest;
      split = before.split ∙ (ap (λ r. before.part ++ r) (sym (take-append-drop n rest)) ∙ sym (append_assoc before.part (take n rest) (drop n rest)));
      appended = Appends-trans old now later before.part (take n rest) before.appended added;
    })

-- nothing is left to be taken, and a flush changed nothing
pub all_written : (old now later : Option (List ℕ)) (piece rest : List ℕ) → Wrote old now piece rest → rest ≡ [] → Keeps now later → Appends old later piece
all_written old now later piece rest before none kept =
    let whole : before.part ≡ piece = sym (before.split ∙ (ap (λ r. before.part ++ r) none ∙ append-nil before.part)) in
    subst (Appends old later) whole (Appends-kept old now later before.part before.appended kept)
