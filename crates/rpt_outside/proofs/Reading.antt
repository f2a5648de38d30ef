-- What the bytes read so far say of the contents.
use Rattle.std.proofs.Common.{ℕ, ◌<◌, List, ◌++◌, length, refl, sym, ◌∙◌, ap, arith, append_assoc, length-append, Some, None}
use Rattle.std.specs.Prelude.{Option}
use Rattle.std.specs.Io.KnownBytes.{Consumes}
use Rattle.rpt_outside.specs.Causes.{Tells}

-- a further piece follows the bytes read so far
pub further : (told left later : Option (List ℕ)) (bytes piece : List ℕ) → Consumes told left bytes → Consumes left later piece → Consumes told later (bytes ++ piece)
further None left later bytes piece p q = tt
further (Some xs) None later bytes piece p q = absurd p
further (Some xs) (Some ys) None bytes piece p q = absurd q
further (Some xs) (Some ys) (Some zs) bytes piece p q = p ∙ (ap (λ r. bytes ++ r) q ∙ sym (append_assoc bytes piece zs))

-- more bytes than the limit were read, so the contents are more than that
pub too_large : (told left : Option (List ℕ)) (bytes : List ℕ) (limit : ℕ) → Consumes told left bytes → limit < length bytes → (all : List ℕ) × Tells told all × (limit < length all)
too_large None left bytes limit p h = (bytes, tt, h)
too_large (Some xs) None bytes limit p h = absurd p
too_large (Some xs) (Some ys) bytes limit p h = (xs, refl, rw p (omega (arith, length-append bytes ys)))
