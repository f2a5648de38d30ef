-- What holds of the plan of each tree.
-- Words of this crate's own contracts.
use Rattle.std.specs.Prelude.{◌≡◌, ◌↔◌, ◌<◌, ◌==◌, ◌&&◌, ◌||◌, not, ℕ, Bool, Contains, List, length, map, slice_index, true}
use Rattle.std.specs.List.{list_all, range_with_len}
use Rattle.join_graph.specs.declared.tree.Link.{Link}
use Rattle.key_codes.specs.Placement.{Places}
use Rattle.transfer_core.specs.Plans.{are_written, writers_of}
use Rattle.transfer_plan.specs.declared.region.Region.TheVariants as region
use Rattle.transfer_plan.specs.Kept.{CanTell, Written, is_kept, kept_among}
use Rattle.transfer_plan.specs.Passing.{AreAlike, AreExact, FindsChild, FindsParent, TreePlan, kept_backward, kept_forward}
use Rattle.transfer_plan.specs.Passing.{run_of, seen_edges, sees_child, sees_parent}
use Rattle.transfer_plan.specs.TransferPlan.{is_keyed, number_of, pipes, regions}

-- the regions of a tree's plan, with keys or without, and its pipes for whatever items
pub record NumbersRegions (root : ℕ) (links : List Link) : Type 0 where
  -- a region's number is its place in the order in which the pipes write them
  pub order : (keyed : Bool) → let all = regions root links keyed in map (number_of root links keyed) all ≡ range_with_len 0 (length all)
  -- each is written by one port of one pipe
  pub once : (keyed : Bool) (items : List ℕ) (r : ℕ) → r < length (regions root links keyed)
      → writers_of (pipes root links keyed items) r ≡ 1
  -- what a pipe reads is written by pipes before it
  pub later : (keyed : Bool) (items : List ℕ) (p : ℕ) → p < length (pipes root links keyed items)
      → are_written (pipes root links keyed items) p ≡ true

module _ {P : Type 0} (seen : P → Places) (t : TreePlan P) where
  -- an edge for each link, with the child's and the parent's placements of one kind
  pub record HasAlikeEdges : Type 0 where
    pub each : length t.edges ≡ length t.links
    pub alike : AreAlike t.links (seen_edges seen t)

  -- an edge for each link, with exact placements
  pub record HasExactEdges : Type 0 where
    pub each : length t.edges ≡ length t.links
    pub exact : AreExact t.links (seen_edges seen t)

  -- all items of the root that pass forward pass backward
  abbrev pub KeepsAtRoot : Type 0
  KeepsAtRoot =
      (i : ℕ) → i < slice_index t.items t.root → kept_backward seen t t.root i ≡ kept_forward seen t t.root i

  -- items pass just where their numbers are found
  pub record PassesByNumbers : Type 0 where
    -- forward, where for each child some item that passes the child's pipe has the same number on their edge
    pub forward : (r i : ℕ)
        → (kept_forward seen t r i ≡ true) ↔ ((l : Link) → Contains t.links l → l.parent ≡ r → FindsChild seen t l i)
    -- backward, of those that passed forward, where some item that passes the parent's pipe has
    pub backward : (l : Link) → Contains t.links l → (i : ℕ) → i < slice_index t.items l.child
        → (kept_backward seen t l.child i ≡ true) ↔ ((kept_forward seen t l.child i ≡ true) × FindsParent seen t l i)

  -- items pass just where their numbers are seen in filters
  pub record PassesByFilters : Type 0 where
    -- forward, in that of each child's items that pass
    pub forward : (r i : ℕ) → kept_forward seen t r i ≡ list_all (λ l. not (l.parent == r) || sees_child seen t l i) t.links
    -- backward, of those that passed forward, in that of the parent's items that pass
    pub backward : (l : Link) → Contains t.links l → (i : ℕ) → i < slice_index t.items l.child
        → kept_backward seen t l.child i ≡ (kept_forward seen t l.child i && sees_parent seen t l i)

  -- items whose numbers are found pass, and maybe others
  pub record PassesFound : Type 0 where
    pub forward : (r i : ℕ) → ((l : Link) → Contains t.links l → l.parent ≡ r → FindsChild seen t l i)
        → kept_forward seen t r i ≡ true
    pub backward : (l : Link) → Contains t.links l → (i : ℕ) → i < slice_index t.items l.child
        → kept_forward seen t l.child i ≡ true → FindsParent seen t l i → kept_backward seen t l.child i ≡ true

  -- all items pass both ways
  abbrev pub PassesAll : Type 0
  PassesAll =
      (r i : ℕ) → r < length t.items → i < slice_index t.items r → (kept_forward seen t r i ≡ true) × (kept_backward seen t r i ≡ true)

  -- the region of a relation's kept rows, and how many items it has
  abbrev pub kept_region : ℕ → Written
  kept_region r = record {
    region = number_of t.root t.links (is_keyed t.edges) (region.Backward r);
    items = slice_index t.items r;
  }

  -- a run keeps just the items that pass backward
  pub record KeepsBackward : Type 0 where
    -- it can tell of each relation which items it keeps
    pub tells : (r : ℕ) → r < length t.items → CanTell (run_of seen t) r
    -- by the region of the relation's backward pipe, which is written last with its rows
    pub last : (r : ℕ) → r < length t.items → kept_among r (run_of seen t).pipes ≡ kept_region r
    -- whose bits are those of the items that pass
    pub kept : (r i : ℕ) → r < length t.items → i < slice_index t.items r
        → is_kept (run_of seen t) r i ≡ kept_backward seen t r i
