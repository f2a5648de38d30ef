-- Regions that are copied out of a table, one after the other.
use Rattle.std.proofs.Common.{◌≡◌, ℕ, zero, suc, ◌+◌, ◌<◌, ◌≤◌, List, [], ◌∷◌, length, map, get_or, set, get_or-set_other, arith, refl, sym, ap, ◌∙◌}
use Rattle.std.proofs.lemmas.List.{map-set}
use Rattle.std.proofs.lemmas.List.FromFn.{fill_by_all}
use Rattle.std.proofs.lemmas.List.Edits.{fill_by_more}
use Rattle.transfer_core.specs.Plans.{Shape}
use Rattle.transfer_core.specs.Sealed.{sealed}
use Rattle.transfer_core.specs.Words.{region_words, sealed_words}

module _ {A : Type 0} (f : A → List ℕ) (s : Shape) where
  -- a member that an index gave
  pub map_at : (l : List A) (i : ℕ) (a : A) → i < length l → a ≡ get_or l i a → get_or (map f l) i [] ≡ f a
  map_at [] i a h e = absurd (omega arith)
  map_at (x ∷ xs) zero a h e = ap f (sym e)
  map_at (x ∷ xs) (suc i) a h e = map_at xs i a (omega arith) e

  pub length_map : (l : List A) → length (map f l) ≡ length l
  length_map [] = refl
  length_map (x ∷ xs) = ap suc (length_map xs)

  pub copied_more : (l : List A) (r : ℕ) (a : A) → r < length l → f a ≡ region_words s (sealed s) r → ((k : ℕ) → k < r → get_or (map f l) k [] ≡ region_words s (sealed s) k)
      → (k : ℕ) → k < r + 1 → get_or (map f (set l r a)) k [] ≡ region_words s (sealed s) k
  copied_more l r a h e done k less = ap (λ (m : List (List ℕ)). get_or m k []) (map-set f l r a ∙ ap (set (map f l) r) e)
      ∙ fill_by_more (region_words s (sealed s)) (map f l) r [] (omega (arith, h, length_map l)) done k less

  pub left_more : (l : List A) (r : ℕ) (a : A) → ((k : ℕ) → r ≤ k → k < length s.words → length (get_or (map f l) k []) ≡ get_or s.words k 0)
      → (k : ℕ) → r + 1 ≤ k → k < length s.words → length (get_or (map f (set l r a)) k []) ≡ get_or s.words k 0
  left_more l r a left k more less = ap (λ (m : List (List ℕ)). length (get_or m k [])) (map-set f l r a) ∙ ap (λ (m : List ℕ). length m) (get_or-set_other (map f l) r k (f a) [] (λ e. omega arith)) ∙ left k (omega arith) less

-- one region, by what stands at each place
pub region_is : (s : Shape) (r : ℕ) (room : List ℕ) → length room ≡ get_or s.words r 0 → ((k : ℕ) → k < length room → get_or room k 0 ≡ sealed s r k) → room ≡ region_words s (sealed s) r
region_is s r room long each = fill_by_all (sealed s r) room (get_or s.words r 0) 0 long (λ k l. each k (omega (arith, l, long)))

-- all regions
pub regions_are : (s : Shape) (rooms : List (List ℕ)) → length rooms ≡ length s.words → ((r : ℕ) → r < length s.words → get_or rooms r [] ≡ region_words s (sealed s) r) → rooms ≡ sealed_words s
regions_are s rooms long each = fill_by_all (region_words s (sealed s)) rooms (length s.words) [] long each
