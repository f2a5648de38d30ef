-- What the pipes of a tree's plan are made from.
-- Words of this crate's own contracts.
use Rattle.std.specs.Prelude.{◌≡◌, ℕ, ◌<◌, ◌≤◌, ◌^◌, Bool, List, [], ◌∷◌, if◌then◌else◌, length, slice_index}
use Rattle.std.specs.List.{flat_map}
use Rattle.join_graph.specs.declared.tree.Tree.{Tree}
use Rattle.join_graph.specs.JoinList.{HasParents}
use Rattle.transfer_core.specs.declared.plan.Pipe.{Pipe}
use Rattle.transfer_core.specs.declared.plan.Port.{Port}
use Rattle.transfer_plan.specs.declared.layout.Layout.{Layout}
use Rattle.transfer_plan.specs.declared.region.Region.{Region}
use Rattle.transfer_plan.specs.declared.region.Region.TheVariants as region
use Rattle.transfer_plan.specs.TransferPlan.{backward_pipe, backward_regions, child_of, forward_pipe, forward_regions, has_keys}
use Rattle.transfer_plan.specs.TransferPlan.{members, parent_of, pipes, port, regions}

-- the regions that the forward and the backward pipe of a relation write, and those of these relations
abbrev pub forward_own : Tree → Bool → ℕ → List Region
forward_own t keyed r = forward_regions t.root t.links keyed r

abbrev pub backward_own : Tree → Bool → ℕ → List Region
backward_own t keyed r = backward_regions t.root t.links keyed r

abbrev pub forward_all : Tree → Bool → List ℕ → List Region
forward_all t keyed rs = flat_map (forward_own t keyed) rs

abbrev pub backward_all : Tree → Bool → List ℕ → List Region
backward_all t keyed rs = flat_map (backward_own t keyed) rs

-- the list of the tree, and its pipes
abbrev pub members_of : Layout → List ℕ
members_of l = members l.tree.now.root l.tree.now.links

abbrev pub pipes_of : Layout → List Pipe
pipes_of l = pipes l.tree.now.root l.tree.now.links l.keyed l.items.now

-- the tree's list has the relations, there are few, and the regions are those of the tree, in order
pub record IsLayout (l : Layout) : Type 0 where
  pub items : length l.items.now ≤ 64
  pub links : length l.tree.now.links ≤ 64
  pub parents : HasParents (length l.items.now) l.tree.now.root l.tree.now.links
  pub regions : l.regions.now ≡ regions l.tree.now.root l.tree.now.links l.keyed
  pub few : length l.regions.now < 2 ^ 32

-- the port of a region, and the placements of a child's items and of its parent's in the regions of its link
abbrev pub port_of : Layout → Region → ℕ → Port
port_of l x places = port l.tree.now.root l.tree.now.links l.keyed x places

abbrev pub child_places : Layout → ℕ → ℕ
child_places l c = child_of l.tree.now.root l.tree.now.links l.keyed l.items.now c

abbrev pub parent_places : Layout → ℕ → ℕ
parent_places l c = parent_of l.tree.now.root l.tree.now.links l.keyed l.items.now c

-- the pipe of a relation's items with these ports
abbrev pub pipe_of : Layout → ℕ → List Port → List Port → Pipe
pipe_of l r reads writes = record { items = slice_index l.items.now r; reads = reads; writes = writes }

-- a relation's pipes, and the ports of a child's keys that its parent has
abbrev pub forward_of : Layout → ℕ → Pipe
forward_of l r = forward_pipe l.tree.now.root l.tree.now.links l.keyed l.items.now r

abbrev pub backward_of : Layout → ℕ → Pipe
backward_of l r = backward_pipe l.tree.now.root l.tree.now.links l.keyed l.items.now r

abbrev pub keys_forward : Layout → ℕ → Port
keys_forward l c = port_of l (region.ForwardKeys c) (parent_places l c)

abbrev pub keys_backward : Layout → ℕ → Port
keys_backward l c = port_of l (region.BackwardKeys c) (parent_places l c)

-- the port of a relation's rows that pass forward, and that of its keys, if it has a parent
abbrev pub own_ports : Layout → ℕ → Region → List Port
own_ports l r keys = port_of l (region.Forward r) r
    ∷ (if has_keys l.tree.now.root l.tree.now.links l.keyed r then port_of l keys (child_places l r) ∷ [] else [])
