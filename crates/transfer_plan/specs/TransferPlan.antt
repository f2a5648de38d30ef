-- The pipe plan of a tree.
--
-- Forward, from the end of the tree's list to the root, the pipe of a relation reads the keys that its children pass, and writes the
-- rows that pass and, unless it is the root, their keys for its parent. Backward, from the root to the end of the list, the pipe of a
-- relation reads the rows that passed forward and, unless it is the root, the keys that its parent wrote for it. It writes the rows that
-- are kept, and their keys for each child. Regions are numbered as they are written. With no edges there are no keys.
use Rattle.std.specs.Prelude.{◌≡◌, ◌⊎◌, ℕ, ◌+◌, ◌*◌, ◌<◌, ◌≤◌, ◌==◌, ◌&&◌, not, Bool, false, List, [], ◌∷◌, ◌++◌, filter}
use Rattle.std.specs.Prelude.{if◌then◌else◌, length, map, max, reverse, slice_index, slice_index_or}
use Rattle.std.specs.Int.{div_ceil}
use Rattle.std.specs.List.{flat_map, position_or_len, range_with_len}
use Rattle.rpt_base.specs.Limits.{IsMorsel}
use Rattle.join_graph.specs.declared.tree.Link.{Link}
use Rattle.join_graph.specs.declared.tree.Tree.{Tree}
use Rattle.join_graph.specs.JoinList.{HasParents}
use Rattle.key_codes.specs.Placement.{Places}
use Rattle.key_codes.specs.Placement.Kind.{Exact}
use Rattle.transfer_core.specs.declared.plan.Pipe.{Pipe}
use Rattle.transfer_core.specs.declared.plan.Plan.{Plan}
use Rattle.transfer_core.specs.declared.plan.Port.{Port}
use Rattle.transfer_core.specs.Plans.{no_places}
use Rattle.transfer_plan.specs.declared.plan.Edge.{Edge}
use Rattle.transfer_plan.specs.declared.region.Region.{Region}
use Rattle.transfer_plan.specs.declared.region.Region.TheVariants as region

-- two regions are for the same
abbrev pub is_same : Region → Region → Bool
is_same (region.Forward r) (region.Forward o) = r == o
is_same (region.ForwardKeys r) (region.ForwardKeys o) = r == o
is_same (region.Backward r) (region.Backward o) = r == o
is_same (region.BackwardKeys r) (region.BackwardKeys o) = r == o
is_same a b = false

-- the list of a tree: the root, and then the links' children in order
abbrev pub members : ℕ → List Link → List ℕ
members root links = root ∷ map (λ l. l.child) links

-- the children of a relation, in the list's order, and the place of a child's link
abbrev pub children : List Link → ℕ → List ℕ
children links r = map (λ l. l.child) (filter (λ l. l.parent == r) links)

abbrev pub link_of : List Link → ℕ → ℕ
link_of links c = position_or_len (λ l. l.child == c) links

-- with `keyed` false no keys are passed
module _ (root : ℕ) (links : List Link) (keyed : Bool) where
  -- a relation that passes its keys to a parent
  abbrev pub has_keys : ℕ → Bool
  has_keys r = keyed && not (r == root)

  -- the regions that a pipe writes, in order
  abbrev pub forward_regions : ℕ → List Region
  forward_regions r = region.Forward r ∷ (if has_keys r then region.ForwardKeys r ∷ [] else [])

  abbrev pub backward_regions : ℕ → List Region
  backward_regions r = region.Backward r ∷ (if keyed then map region.BackwardKeys (children links r) else [])

  -- all regions, in the order in which the pipes write them; a region's number is its place
  abbrev pub regions : List Region
  regions = flat_map forward_regions (reverse (members root links)) ++ flat_map backward_regions (members root links)

  abbrev pub number_of : Region → ℕ
  number_of x = position_or_len (is_same x) regions

  abbrev pub port : Region → ℕ → Port
  port x places = record { region = number_of x; places = places }

  module _ (items : List ℕ) where
    -- the placements of each link's child and parent, after those of the relations' rows, which are numbered by relation
    abbrev pub child_of : ℕ → ℕ
    child_of c = length items + 2 * link_of links c

    abbrev pub parent_of : ℕ → ℕ
    parent_of c = length items + 2 * link_of links c + 1

    -- the port of a relation's keys, if it passes any
    abbrev pub own_keys : (ℕ → Region) → ℕ → List Port
    own_keys keys r = if has_keys r then port (keys r) (child_of r) ∷ [] else []

    -- the ports of its children's keys
    abbrev pub children_keys : (ℕ → Region) → ℕ → List Port
    children_keys keys r = if keyed then map (λ c. port (keys c) (parent_of c)) (children links r) else []

    -- forward, an item passes where each child has its key; its row is put, and its key for the parent
    abbrev pub forward_pipe : ℕ → Pipe
    forward_pipe r = record {
      items = slice_index items r;
      reads = children_keys region.ForwardKeys r;
      writes = port (region.Forward r) r ∷ own_keys region.ForwardKeys r;
    }

    -- backward, an item passes where it passed forward and the parent has its key; its row is put, and its key for each child
    abbrev pub backward_pipe : ℕ → Pipe
    backward_pipe r = record {
      items = slice_index items r;
      reads = port (region.Forward r) r ∷ own_keys region.BackwardKeys r;
      writes = port (region.Backward r) r ∷ children_keys region.BackwardKeys r;
    }

    -- forward from the end of the list, and backward from its front
    abbrev pub pipes : List Pipe
    pipes = map forward_pipe (reverse (members root links)) ++ map backward_pipe (members root links)

-- the words of a row region: one for every 64 items, and at least one
abbrev pub row_words : ℕ → ℕ
row_words items = max 1 (div_ceil items 64)

-- the words of the forward and of the backward region of edge k
abbrev pub edge_words : {P : Type 0} → List (Edge P) → List (ℕ × ℕ)
edge_words edges = map (λ e. (e.forward_words, e.backward_words)) edges

module _ {P : Type 0} (links : List Link) (items : List ℕ) (edges : List (Edge P)) where
  abbrev pub words_of_region : Region → ℕ
  words_of_region (region.Forward r) = row_words (slice_index items r)
  words_of_region (region.ForwardKeys c) = (slice_index_or (edge_words edges) (link_of links c) (0, 0)).0
  words_of_region (region.Backward r) = row_words (slice_index items r)
  words_of_region (region.BackwardKeys c) = (slice_index_or (edge_words edges) (link_of links c) (0, 0)).1

-- the placements of each edge's child and parent
abbrev pub edge_places : {P : Type 0} → List (Edge P) → List P
edge_places edges = flat_map (λ e. e.child ∷ e.parent ∷ []) edges

-- keys are passed where there are edges
abbrev pub is_keyed : {A : Type 0} → List A → Bool
is_keyed edges = not (length edges == 0)

-- the pipe plan of a tree, for so many items of each relation, with these edges, placements of rows and items of a morsel
abbrev pub transfer_plan : {P : Type 0} → Tree → List ℕ → List (Edge P) → List P → ℕ → Plan P
transfer_plan tree items edges rows morsel = record {
  morsel = morsel;
  words = map (words_of_region tree.links items edges) (regions tree.root tree.links (is_keyed edges));
  places = rows ++ edge_places edges;
  pipes = pipes tree.root tree.links (is_keyed edges) items;
}

-- ---- what a plan is made of
-- each relation's rows have the places of so many items by themselves
pub record AreRows {P : Type 0} (seen : P → Places) (items : List ℕ) (rows : List P) : Type 0 where
  pub count : length rows ≡ length items
  pub each : (r : ℕ) → r < length items
      → slice_index_or (map seen rows) r no_places ≡ record {
        kind = Exact;
        numbers = range_with_len 0 (slice_index items r);
        least = div_ceil (slice_index items r) 64;
      }

-- an edge as contracts see it
pub record SeenEdge : Type 0 where
  pub child : Places
  pub parent : Places
  pub forward_words : ℕ
  pub backward_words : ℕ

abbrev pub seen_edge : {P : Type 0} → (P → Places) → Edge P → SeenEdge
seen_edge seen e = record {
  child = seen e.child;
  parent = seen e.parent;
  forward_words = e.forward_words;
  backward_words = e.backward_words;
}

abbrev pub no_edge : SeenEdge
no_edge = record { child = no_places; parent = no_places; forward_words = 0; backward_words = 0 }

abbrev pub no_link : Link
no_link = record { child = 0; parent = 0 }

-- an edge serves a link: its placements have the relations' items, and its regions the words that both ask for, and at least one
pub record ServesLink (items : List ℕ) (l : Link) (e : SeenEdge) : Type 0 where
  pub child : length e.child.numbers ≡ slice_index items l.child
  pub parent : length e.parent.numbers ≡ slice_index items l.parent
  pub forward_some : 1 ≤ e.forward_words
  pub forward_child : e.child.least ≤ e.forward_words
  pub forward_parent : e.parent.least ≤ e.forward_words
  pub backward_some : 1 ≤ e.backward_words
  pub backward_child : e.child.least ≤ e.backward_words
  pub backward_parent : e.parent.least ≤ e.backward_words

-- an edge for each link, in their order, or none at all
pub record AreEdges {P : Type 0} (seen : P → Places) (links : List Link) (items : List ℕ) (edges : List (Edge P)) : Type 0 where
  pub count : (length edges ≡ 0) ⊎ (length edges ≡ length links)
  pub each : (k : ℕ) → k < length edges
      → ServesLink items (slice_index_or links k no_link) (slice_index_or (map (seen_edge seen) edges) k no_edge)

-- the parts of a plan of at most 64 relations
pub record AreParts {P : Type 0} (seen : P → Places) (t : Tree) (items : List ℕ)
    (edges : List (Edge P)) (rows : List P) (morsel : ℕ) : Type 0 where
  pub few : length items ≤ 64
  pub tree : HasParents (length items) t.root t.links
  pub is_morsel : IsMorsel morsel
  pub are_rows : AreRows seen items rows
  pub are_edges : AreEdges seen t.links items edges
