-- Lists that a loop gathers, member by member.
use Rattle.std.proofs.Common.{◌≡◌, ◌∙◌, ◌<◌, ◌≤◌, ◌+◌, ℕ, List, map, [], ◌∷◌, ◌++◌, length, drop, get_or, refl, ap, sym, add-one, drop-cons, append_assoc}
use Rattle.std.specs.List.{enumerate_from, flat_map}
use Rattle.std.proofs.lemmas.List.{append-nil}
use Rattle.std.proofs.lemmas.List.Concat.{flat_map_single}
use Rattle.std.proofs.Math.ListN.{drop_of_length-le}

module _ {X Y : Type 0} (f : X → List Y) (xs : List X) (initial : List Y) where
  -- what the members before this one give is gathered behind what was there
  pub record IsGathered (found : List Y) (n : ℕ) : Type 0 where
    pub all : found ++ flat_map f (drop n xs) ≡ initial ++ flat_map f xs

  pub gathered-start : IsGathered initial 0
  gathered-start = record { all = refl }

  pub gathered-more : (found : List Y) (n : ℕ) (d : X) → n < length xs → IsGathered found n → IsGathered (found ++ f (get_or xs n d)) (n + 1)
  gathered-more found n d h is =
      let e : drop n xs ≡ get_or xs n d ∷ drop (n + 1) xs = rw (add-one, drop-cons xs n d h) refl in
      record { all = append_assoc found (f (get_or xs n d)) (flat_map f (drop (n + 1) xs)) ∙ sym (ap (λ rest. found ++ flat_map f rest) e) ∙ is.all }

  pub gathered-end : (found : List Y) (n : ℕ) → length xs ≤ n → IsGathered found n → found ≡ initial ++ flat_map f xs
  gathered-end found n h is = sym (append-nil found) ∙ sym (ap (λ rest. found ++ flat_map f rest) (drop_of_length-le xs h)) ∙ is.all

-- the same of members and their numbers
module _ {X Y : Type 0} (f : ℕ × X → List Y) (xs : List X) (initial : List Y) where
  pub record IsGatheredByNumber (found : List Y) (n : ℕ) : Type 0 where
    pub all : found ++ flat_map f (enumerate_from n (drop n xs)) ≡ initial ++ flat_map f (enumerate_from 0 xs)

  pub numbered-start : IsGatheredByNumber initial 0
  numbered-start = record { all = refl }

  pub numbered-more : (found : List Y) (n : ℕ) (d : X) → n < length xs → IsGatheredByNumber found n → IsGatheredByNumber (found ++ f (n, get_or xs n d)) (n + 1)
  numbered-more found n d h is =
      let e : drop n xs ≡ get_or xs n d ∷ drop (n + 1) xs = rw (add-one, drop-cons xs n d h) refl in
      record {
        all = append_assoc found (f (n, get_or xs n d)) (flat_map f (enumerate_from (n + 1) (drop (n + 1) xs)))
            ∙ sym (ap (λ rest. found ++ flat_map f (enumerate_from n rest)) e) ∙ is.all;
      }

  pub numbered-end : (found : List Y) (n : ℕ) → length xs ≤ n → IsGatheredByNumber found n → found ≡ initial ++ flat_map f (enumerate_from 0 xs)
  numbered-end found n h is = sym (append-nil found) ∙ sym (ap (λ rest. found ++ flat_map f (enumerate_from n rest)) (drop_of_length-le xs h)) ∙ is.all

-- members that are made from others keep their numbers
pub numbered-map : {X Y Z : Type 0} (f : ℕ × Y → List Z) (g : X → Y) (n : ℕ) (xs : List X) → flat_map f (enumerate_from n (map g xs)) ≡ flat_map (λ (p : ℕ × X). f (p.0, g p.1)) (enumerate_from n xs)
numbered-map f g n [] = refl
numbered-map f g n (x ∷ xs) = ap (λ rest. f (n, g x) ++ rest) (numbered-map f g (n + 1) xs)

-- one of each member
module _ {X Y : Type 0} (f : X → Y) (xs : List X) where
  -- what is made of the members before this one is gathered
  abbrev pub IsMapped : List Y → ℕ → Type 0
  IsMapped found n = IsGathered (λ x. f x ∷ []) xs [] found n

  pub mapped-end : (found : List Y) (n : ℕ) → length xs ≤ n → IsMapped found n → found ≡ map f xs
  mapped-end found n h is = gathered-end (λ x. f x ∷ []) xs [] found n h is ∙ flat_map_single f xs
