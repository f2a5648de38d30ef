-- Texts put one after the other behind a text.
use Rattle.std.proofs.Common.{◌≡◌, ◌∙◌, ap, sym, arith, ℕ, ◌+◌, ◌<◌, ◌≤◌, List, [], ◌∷◌, ◌++◌, Some, length, get_or, take}
use Rattle.std.specs.List.{enumerate_from, flat_map, range_with_len, slice_get}
use Rattle.std.proofs.lemmas.List.{flat_map_more, take_all, take_more}
use Rattle.std.proofs.lemmas.List.FromFn.{get_or-enumerate_from, get_or-range_with_len, length-enumerate_from, length-range_with_len}
use Rattle.std.proofs.lemmas.Option.{get_or_from_slice_get, slice_get-get_or, slice_get_within}

module _ {X : Type 0} (f : X → List ℕ) (front : List ℕ) (xs : List X) (i : ℕ) (now : List ℕ) (so_far : now ≡ front ++ flat_map f (take i xs)) where
  -- the text of one member more
  pub put-more : (x : X) (next : List ℕ) → slice_get xs i ≡ Some x → next ≡ now ++ f x → next ≡ front ++ flat_map f (take (i + 1) xs)
  put-more x next at put =
      let member : take (i + 1) xs ≡ take i xs ++ x ∷ [] = take_more xs i x (slice_get_within xs i x at) ∙ ap (λ y. take i xs ++ y ∷ []) (get_or_from_slice_get xs i x x at) in
      put ∙ ap (λ t. t ++ f x) so_far ∙ flat_map_more f front (take i xs) x ∙ ap (λ ys. front ++ flat_map f ys) (sym member)

  -- the texts of all members
  pub put-all : length xs ≤ i → now ≡ front ++ flat_map f xs
  put-all past = so_far ∙ ap (λ ys. front ++ flat_map f ys) (take_all i xs past)

-- a number at its place
pub number-at : (n i : ℕ) → i < n → slice_get (range_with_len 0 n) i ≡ Some i
number-at n i lt =
    let inside : i < length (range_with_len 0 n) = omega (arith, length-range_with_len 0 n, lt) in
    let at : get_or (range_with_len 0 n) i 0 ≡ i = omega (arith, get_or-range_with_len 0 n i 0 lt) in
    slice_get-get_or (range_with_len 0 n) i 0 inside ∙ ap (λ k. Some k) at

-- a member with its number, from 1
pub numbered-at : {X : Type 0} (xs : List X) (i : ℕ) (x : X) → slice_get xs i ≡ Some x → slice_get (enumerate_from 1 xs) i ≡ Some (i + 1, x)
numbered-at xs i x at =
    let lt : i < length xs = slice_get_within xs i x at in
    let inside : i < length (enumerate_from 1 xs) = omega (arith, length-enumerate_from 1 xs, lt) in
    let next : 1 + i ≡ i + 1 = omega arith in
    slice_get-get_or (enumerate_from 1 xs) i (0, x) inside
    ∙ ap (λ p. Some p) (get_or-enumerate_from 1 xs i (0, x) lt)
    ∙ ap (λ k. Some (k, get_or xs i x)) next
    ∙ ap (λ y. Some (i + 1, y)) (get_or_from_slice_get xs i x x at)
