-- Which items pass the pipes of a tree's plan, by its sealed regions.
use Rattle.std.specs.Prelude.{◌≡◌, ℕ, ◌<◌, ◌==◌, ◌&&◌, Bool, true, Contains, List, bit_and, cond, map, slice_index, slice_index_or}
use Rattle.join_graph.specs.declared.tree.Link.{Link}
use Rattle.join_graph.specs.declared.tree.Tree.{Tree}
use Rattle.key_codes.specs.Placement.{Kind, Places, place_of_number}
use Rattle.key_codes.specs.Placement.Kind.{Exact}
use Rattle.transfer_core.specs.Plans.{Shape, shape_of}
use Rattle.transfer_core.specs.Sealed.{or_below, passes, sealed}
use Rattle.transfer_plan.specs.declared.plan.Edge.{Edge}
use Rattle.transfer_plan.specs.Kept.{Run, sealed_run}
use Rattle.transfer_plan.specs.TransferPlan.{AreParts, SeenEdge, backward_pipe, forward_pipe, is_keyed, link_of, no_edge}
use Rattle.transfer_plan.specs.TransferPlan.{seen_edge, transfer_plan}

-- the edge of a link
abbrev pub edge_of : List Link → List SeenEdge → Link → SeenEdge
edge_of links edges l = slice_index_or edges (link_of links l.child) no_edge

-- item j of a link's child and item i of its parent have one number
abbrev pub HaveOneNumber : List Link → List SeenEdge → Link → ℕ → ℕ → Type 0
HaveOneNumber links edges l j i =
    slice_index (edge_of links edges l).child.numbers j ≡ slice_index (edge_of links edges l).parent.numbers i

-- the child's and the parent's placements of each edge are of one kind
abbrev pub AreAlike : List Link → List SeenEdge → Type 0
AreAlike links edges = (l : Link) → Contains links l → (edge_of links edges l).child.kind ≡ (edge_of links edges l).parent.kind

-- and they are exact
abbrev pub AreExact : List Link → List SeenEdge → Type 0
AreExact links edges =
    (l : Link) → Contains links l → ((edge_of links edges l).child.kind ≡ Exact) × ((edge_of links edges l).parent.kind ≡ Exact)

-- Word w of a filter of so many words, into which the items that pass are put by their numbers: the or of the masks of those places that
-- stand in this word.
abbrev pub filter_word : Kind → ℕ → List ℕ → ℕ → (ℕ → Bool) → ℕ → ℕ
filter_word kind words numbers items passes w =
    or_below (λ j. let place = place_of_number kind (slice_index numbers j) words in
    cond (passes j && (place.word == w)) place.mask 0) items

-- the filter answers yes for a number
abbrev pub filter_has : Kind → ℕ → List ℕ → ℕ → (ℕ → Bool) → ℕ → Bool
filter_has kind words numbers items passes n =
    let place = place_of_number kind n words in
    bit_and (filter_word kind words numbers items passes place.word) place.mask == place.mask

module _ (s : Shape) (root : ℕ) (links : List Link) (keyed : Bool) (items : List ℕ) where
  -- item i passes the forward and the backward pipe of r
  abbrev pub passes_forward : ℕ → ℕ → Bool
  passes_forward r i = passes s (sealed s) i (forward_pipe root links keyed items r).reads

  abbrev pub passes_backward : ℕ → ℕ → Bool
  passes_backward r i = passes s (sealed s) i (backward_pipe root links keyed items r).reads

  module _ (edges : List SeenEdge) where
    -- some item of the link's child that passes forward has the number of the parent's item i
    abbrev pub HasChild : Link → ℕ → Type 0
    HasChild l i = (j : ℕ) × (j < slice_index items l.child) × (passes_forward l.child j ≡ true) × HaveOneNumber links edges l j i

    -- some item of the link's parent that passes backward has the number of the child's item i
    abbrev pub HasParent : Link → ℕ → Type 0
    HasParent l i = (j : ℕ) × (j < slice_index items l.parent) × (passes_backward l.parent j ≡ true) × HaveOneNumber links edges l i j

-- ---- the same of what a tree's plan is made from: the tree and how many items each relation has, the edges, the placements of the
-- relations' rows, and the items of a morsel
pub record TreePlan (P : Type 0) : Type 0 where
  pub root : ℕ
  pub links : List Link
  pub items : List ℕ
  pub edges : List (Edge P)
  pub rows : List P
  pub morsel : ℕ

abbrev pub tree_of : {P : Type 0} → TreePlan P → Tree
tree_of t = record { root = t.root; links = t.links }

module _ {P : Type 0} (seen : P → Places) (t : TreePlan P) where
  -- the plan as contracts see it
  abbrev pub shape : Shape
  shape = shape_of seen (transfer_plan (tree_of t) t.items t.edges t.rows t.morsel)

  abbrev pub seen_edges : List SeenEdge
  seen_edges = map (seen_edge seen) t.edges

  -- these are parts of a plan
  abbrev pub IsMade : Type 0
  IsMade = AreParts seen (tree_of t) t.items t.edges t.rows t.morsel

  -- item i of r passes the forward pipe of r, and the backward one
  abbrev pub kept_forward : ℕ → ℕ → Bool
  kept_forward = passes_forward shape t.root t.links (is_keyed t.edges) t.items

  abbrev pub kept_backward : ℕ → ℕ → Bool
  kept_backward = passes_backward shape t.root t.links (is_keyed t.edges) t.items

  -- item i of a link's parent finds its number among the child's items that pass forward
  abbrev pub FindsChild : Link → ℕ → Type 0
  FindsChild = HasChild shape t.root t.links (is_keyed t.edges) t.items seen_edges

  -- item i of a link's child finds its number among the parent's items that pass backward
  abbrev pub FindsParent : Link → ℕ → Type 0
  FindsParent = HasParent shape t.root t.links (is_keyed t.edges) t.items seen_edges

  -- item i of a link's parent is seen in the filter of the child's items that pass forward
  abbrev pub sees_child : Link → ℕ → Bool
  sees_child l i =
      let e = edge_of t.links seen_edges l in
      filter_has e.parent.kind e.forward_words e.child.numbers (slice_index t.items l.child)
      (kept_forward l.child) (slice_index e.parent.numbers i)

  -- item i of a link's child is seen in the filter of the parent's items that pass backward
  abbrev pub sees_parent : Link → ℕ → Bool
  sees_parent l i =
      let e = edge_of t.links seen_edges l in
      filter_has e.child.kind e.backward_words e.parent.numbers (slice_index t.items l.parent)
      (kept_backward l.parent) (slice_index e.child.numbers i)

  -- what a run of the plan has
  abbrev pub run_of : Run
  run_of = sealed_run shape
