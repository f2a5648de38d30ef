-- Sealed regions.
use Rattle.std.specs.Prelude.{◌≡◌, ℕ, ◌==◌, ◌&&◌, List, [], ◌∷◌, Bool, Contains, cond, bit_or, bit_and, zero, suc}
use Rattle.std.specs.List.{list_all}
use Rattle.transfer_core.specs.declared.plan.Pipe.{Pipe}
use Rattle.transfer_core.specs.declared.plan.Port.{Port}
use Rattle.transfer_core.specs.Plans.{Shape, place_at}

-- the words of regions: word w of region r
abbrev pub Regions : Type 0
Regions = ℕ → ℕ → ℕ

-- the or of the first n
abbrev pub or_below : (ℕ → ℕ) → ℕ → ℕ
or_below f zero = 0
or_below f (suc n) = bit_or (or_below f n) (f n)

module _ (s : Shape) where
  -- the port's region answers yes for the item: it has the bits of the item's place
  abbrev pub answers : Regions → ℕ → Port → Bool
  answers regions item a =
      bit_and (regions a.region (place_at s a item).word) (place_at s a item).mask == (place_at s a item).mask

  -- an item passes where each region that is read answers yes
  abbrev pub passes : Regions → ℕ → List Port → Bool
  passes regions item reads = list_all (answers regions item) reads

  -- what an item puts into word w of the port's region: its mask, where it passes and w is its word
  abbrev pub put_of : Regions → List Port → Port → ℕ → ℕ → ℕ
  put_of regions reads a w item =
      cond (passes regions item reads && ((place_at s a item).word == w)) (place_at s a item).mask 0

  -- the or of the masks of the pipe's items that pass, in word w of the port's region
  abbrev pub or_of_passing : Regions → Pipe → Port → ℕ → ℕ
  or_of_passing regions x a w = or_below (put_of regions x.reads a w) x.items

  -- each region is, word by word, the or of the masks of the items that pass the pipe that writes it; an item passes where these same regions
  -- answer yes, of those that the pipe reads
  abbrev pub IsSealed : Regions → Type 0
  IsSealed regions = (x : Pipe) → Contains s.pipes x → (a : Port) → Contains x.writes a
      → (w : ℕ) → regions a.region w ≡ or_of_passing regions x a w

  -- ---- the sealed regions: since a region is read by later pipes alone, what `IsSealed` says is a recursion on the pipe's number
  -- the regions once a pipe has written by these of its ports
  abbrev pub after_ports : Regions → Pipe → List Port → Regions
  after_ports regions x [] r w = regions r w
  after_ports regions x (a ∷ ports) r w = cond (a.region == r) (or_of_passing regions x a w) (after_ports regions x ports r w)

  -- the regions once these pipes have written, one after the other
  abbrev pub sealed_from : Regions → List Pipe → Regions
  sealed_from regions [] = regions
  sealed_from regions (x ∷ pipes) = sealed_from (after_ports regions x x.writes) pipes

  -- all pipes have written, and at first nothing was in the regions
  abbrev pub sealed : Regions
  sealed = sealed_from (λ _ _. 0) s.pipes
