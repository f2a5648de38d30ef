-- The parts of a plan give its placements and its regions' words.
use Rattle.std.proofs.Common.{◌≡◌, ◌∙◌, ℕ, Bool, true, length, map, refl}
use Rattle.join_graph.specs.declared.tree.Link.{Link}
use Rattle.key_codes.specs.Placement.{Places}
use Rattle.transfer_core.specs.Plans.{words_of}
use Rattle.transfer_plan.specs.declared.region.Region.{Region}
use Rattle.transfer_plan.specs.declared.region.Region.TheVariants as region
use Rattle.transfer_plan.specs.Passing.{IsMade, TreePlan, edge_of, seen_edges, shape}
use Rattle.transfer_plan.specs.TransferPlan.{is_keyed, number_of, regions, words_of_region}
use Rattle.transfer_plan.proofs.Earlier.{Among, among_child, is_child, not_root}
use Rattle.transfer_plan.proofs.Numbered.{IsTreeShape, parent_listed}
use Rattle.rpt_base.proofs.MemberFacts.{has-kept}
use Rattle.transfer_plan.proofs.Serves.{at_number, backward_keys_in, forward_keys_in}
use Rattle.transfer_plan.proofs.Valid.{backward_words, child_is, forward_words, parent_is, row_is, valid_plan}

module _ {P : Type 0} (seen : P → Places) (t : TreePlan P) (made : IsMade seen t) where
  abbrev k : Bool
  k = is_keyed t.edges

  abbrev W : Region → ℕ
  W = words_of_region t.links t.items t.edges

  forward_words_at : k ≡ true → (l : Link) → Among l t.links → words_of (shape seen t) (number_of t.root t.links k (region.ForwardKeys l.child)) ≡ (edge_of t.links (seen_edges seen t) l).forward_words
  forward_words_at on l a =
      (at_number W (region.ForwardKeys l.child) (regions t.root t.links k) (forward_keys_in t.root t.links k l.child (has-kept l.child t.root (map (λ m. m.child) t.links) (among_child l t.links a))
      (not_root (length t.items) t.root t.links k t.items made.tree l a on))).1
      ∙ forward_words seen t.root t.links t.items t.edges t.rows t.morsel made.tree made.are_rows made.are_edges on l a

  backward_words_at : k ≡ true → (l : Link) → Among l t.links → words_of (shape seen t) (number_of t.root t.links k (region.BackwardKeys l.child)) ≡ (edge_of t.links (seen_edges seen t) l).backward_words
  backward_words_at on l a =
      (at_number W (region.BackwardKeys l.child) (regions t.root t.links k) (backward_keys_in t.root t.links k l.parent l.child (parent_listed (length t.items) t.root t.links made.tree l a) on (is_child l t.links a))).1
      ∙ backward_words seen t.root t.links t.items t.edges t.rows t.morsel made.tree made.are_rows made.are_edges on l a

  pub tree_shape : IsTreeShape (shape seen t) t.root t.links k t.items (seen_edges seen t)
  tree_shape = record {
    valid = valid_plan seen t.root t.links t.items t.edges t.rows t.morsel made.tree made.are_rows made.are_edges made.few made.is_morsel;
    parents = made.tree;
    pipes = refl;
    rows = row_is seen t.root t.links t.items t.edges t.rows t.morsel made.tree made.are_rows made.are_edges;
    child = child_is seen t.root t.links t.items t.edges t.rows t.morsel made.tree made.are_rows made.are_edges;
    parent = parent_is seen t.root t.links t.items t.edges t.rows t.morsel made.tree made.are_rows made.are_edges;
    forward_words = forward_words_at;
    backward_words = backward_words_at;
  }
