-- The places of names among the files that are held.
use Rattle.std.proofs.Common.{Vec, zero, suc, get_or, true, false, ◌≡◌, ℕ, ◌<◌, ◌≤◌, List, [], ◌∷◌, length, refl, sym, arith}
use Rattle.std.specs.Str.{bytes_eq}
use Rattle.std.proofs.lemmas.List.Sums.{position_or_len_is}
use Rattle.rpt_outside.specs.Held.{bytes_at, place}

-- the bytes at a place are those of the file there
pub bytes_at-get_or : {Z : Type 0} (files : List (Vec ℕ Z × Vec ℕ Z)) (i : ℕ) (d : Vec ℕ Z × Vec ℕ Z) → i < length files → bytes_at files i ≡ (get_or files i d).1.items
bytes_at-get_or [] i d h = absurd (omega arith)
bytes_at-get_or (file ∷ files) zero d h = refl
bytes_at-get_or (file ∷ files) (suc i) d h = bytes_at-get_or files i d (omega arith)

-- the place of a name that stands first there
pub place-first : {Z : Type 0} (files : List (Vec ℕ Z × Vec ℕ Z)) (name : List ℕ) (at : ℕ) (d : Vec ℕ Z × Vec ℕ Z)
    → at ≤ length files → ((k : ℕ) → k < at → bytes_eq (get_or files k d).0.items name ≡ false) → (at < length files → bytes_eq (get_or files at d).0.items name ≡ true)
    → at ≡ place files name
place-first files name at d h below here = sym (position_or_len_is (λ file. bytes_eq file.0.items name) files at d h below here)

-- the place of a name without a file
pub place-none : {Z : Type 0} (files : List (Vec ℕ Z × Vec ℕ Z)) (name : List ℕ)
    → ((d : Vec ℕ Z × Vec ℕ Z) (k : ℕ) → k < length files → bytes_eq (get_or files k d).0.items name ≡ false) → length files ≡ place files name
place-none [] name below = refl
place-none (file ∷ files) name below =
    place-first (file ∷ files) name (length (file ∷ files)) file (omega arith) (below file) (λ h. absurd (omega arith))

-- past the last file there are no bytes
pub bytes_at-past : {Z : Type 0} (files : List (Vec ℕ Z × Vec ℕ Z)) (i : ℕ) → length files ≤ i → bytes_at files i ≡ []
bytes_at-past [] i past = refl
bytes_at-past (file ∷ files) zero past = absurd (omega arith)
bytes_at-past (file ∷ files) (suc i) past = bytes_at-past files i (omega arith)
