-- Which items pass the pipes of what a tree's plan is made from.
use Rattle.std.proofs.Common.{◌≡◌, ◌↔◌, inl, inr, ℕ, ◌<◌, List, [], ◌∷◌, length, get_or, Bool, true, false, ◌||◌, ◌&&◌, true≢false, refl, not, sym, ap, ◌∙◌, arith, eqb, eq-eqb, ne_eqb}
use Rattle.std.specs.Prelude.{Contains}
use Rattle.std.specs.List.{list_all}
use Rattle.std.proofs.lemmas.Bool.{cases_Bool, and_from}
use Rattle.join_graph.specs.declared.tree.Link.{Link}
use Rattle.key_codes.specs.Placement.{Places}
use Rattle.transfer_core.specs.Plans.{Shape}
use Rattle.transfer_core.specs.Sealed.{answers, sealed}
use Rattle.transfer_plan.specs.declared.region.Region.TheVariants as region
use Rattle.transfer_plan.specs.Passing.{AreAlike, AreExact, FindsChild, FindsParent, IsMade, TreePlan, kept_backward, kept_forward, sees_child, sees_parent, seen_edges, shape}
use Rattle.transfer_plan.specs.TransferPlan.{SeenEdge, children, is_keyed, parent_of, port}
use Rattle.transfer_plan.proofs.Earlier.{Among}
use Rattle.transfer_plan.proofs.Filtered.{down_filter, up_filter}
use Rattle.transfer_plan.proofs.Numbered.{IsTreeShape, all_backward, all_forward, among_of, backward_exact, backward_reads, backward_seen, contains_of, forward_exact, forward_reads, forward_seen, passes_top, up_read}
use Rattle.transfer_plan.proofs.Placed.{tree_shape}

-- a test of a relation's children as one of all links
children_asked : (f : ℕ → Bool) (g : Link → Bool) (r : ℕ) (ls : List Link) → ((l : Link) → Among l ls → f l.child ≡ g l) → list_all f (children ls r) ≡ list_all (λ l. not (eqb l.parent r) || g l) ls
unfolding Among
children_asked f g r [] h = refl
children_asked f g r (m ∷ ls) h = by (eqb m.parent r) refl (h m (inl refl)) (children_asked f g r ls (λ l a. h l (inr a)))
  where
    by : (b : Bool) → eqb m.parent r ≡ b → f m.child ≡ g m → list_all f (children ls r) ≡ list_all (λ l. not (eqb l.parent r) || g l) ls
        → list_all f (children (m ∷ ls) r) ≡ list_all (λ l. not (eqb l.parent r) || g l) (m ∷ ls)
    by true e here rest = rw e (λ i. here i && rest i)
    by false e here rest = rw e rest

all_asked : (g : Link → Bool) (ls : List Link) → ((l : Link) → Among l ls → g l ≡ true) → list_all g ls ≡ true
unfolding Among
all_asked g [] h = refl
all_asked g (m ∷ ls) h = and_from (g m) (list_all g ls) (h m (inl refl)) (all_asked g ls (λ l a. h l (inr a)))

module _ {P : Type 0} (seen : P → Places) (t : TreePlan P) (made : IsMade seen t) where
  abbrev s : Shape
  s = shape seen t

  abbrev k : Bool
  k = is_keyed t.edges

  abbrev es : List SeenEdge
  es = seen_edges seen t

  T : IsTreeShape s t.root t.links k t.items es
  T = tree_shape seen t made

  -- there are links, so there are edges
  keyed_some : length t.edges ≡ length t.links → (l : Link) → Contains t.links l → is_keyed t.edges ≡ true
  keyed_some as_many l is = ap not (ne_eqb (length t.edges) 0 (λ e. absurd (omega (arith, e, as_many, is.1))))

  pub same_at_top : (i : ℕ) → i < get_or t.items t.root 0 → kept_backward seen t t.root i ≡ kept_forward seen t t.root i
  same_at_top i l = passes_top s t.root t.links k t.items es T i l

  pub passes_all : length t.edges ≡ 0 → (r i : ℕ) → r < length t.items → i < get_or t.items r 0 → (kept_forward seen t r i ≡ true) × (kept_backward seen t r i ≡ true)
  passes_all none r i less l = let off : k ≡ false = ap not (eq-eqb (length t.edges) 0 none) in
      (all_forward s t.root t.links k t.items es T off r i, all_backward s t.root t.links k t.items es T off r i less l)

  -- with placements of one kind at and_from ends, equal numbers pass
  pub forward_misses_none : AreAlike t.links es → length t.edges ≡ length t.links → (r i : ℕ) → ((l : Link) → Contains t.links l → l.parent ≡ r → FindsChild seen t l i) → kept_forward seen t r i ≡ true
  forward_misses_none alike as_many r i each = elim (cases_Bool (is_keyed t.edges)) [
    | inl on ↦ forward_seen s t.root t.links k t.items es T on r i
        (λ l a. alike l (contains_of t.links l a)) (λ l a e. each l (contains_of t.links l a) e)
    | inr off ↦ all_forward s t.root t.links k t.items es T off r i
  ]

  pub backward_misses_none : AreAlike t.links es → length t.edges ≡ length t.links → (l : Link) → Contains t.links l → (i : ℕ) → i < get_or t.items l.child 0 → kept_forward seen t l.child i ≡ true → FindsParent seen t l i → kept_backward seen t l.child i ≡ true
  backward_misses_none alike as_many l is i inside pass finds = backward_seen s t.root t.links k t.items es T (keyed_some as_many l is) l (among_of t.links l is) i inside (alike l is) pass finds

  -- and with exact ones no others
  one_kind : AreExact t.links es → AreAlike t.links es
  one_kind exact l is = (exact l is).0 ∙ sym (exact l is).1

  pub forward_by_numbers : AreExact t.links es → length t.edges ≡ length t.links → (r i : ℕ) → (kept_forward seen t r i ≡ true) ↔ ((l : Link) → Contains t.links l → l.parent ≡ r → FindsChild seen t l i)
  forward_by_numbers exact as_many r i = (
    (λ pass l is e. forward_exact s t.root t.links k t.items es T (keyed_some as_many l is) r i pass l (among_of t.links l is) e (exact l is).0 (exact l is).1),
    forward_misses_none (one_kind exact) as_many r i,
  )

  pub backward_by_numbers : AreExact t.links es → length t.edges ≡ length t.links → (l : Link) → Contains t.links l → (i : ℕ) → i < get_or t.items l.child 0 → (kept_backward seen t l.child i ≡ true) ↔ ((kept_forward seen t l.child i ≡ true) × FindsParent seen t l i)
  backward_by_numbers exact as_many l is i inside = (
    (λ pass. backward_exact s t.root t.links k t.items es T (keyed_some as_many l is) l (among_of t.links l is) i inside (exact l is).0 (exact l is).1 pass),
    (λ w. backward_misses_none (one_kind exact) as_many l is i inside w.0 w.1),
  )

  -- ---- the same as filters, with placements of any kind
  child_filter : AreAlike t.links es → (on : k ≡ true) → (l : Link) → Among l t.links → (i : ℕ) → answers s (sealed s) i (up_read s t.root t.links k t.items es T on l) ≡ sees_child seen t l i
  child_filter alike on l a i = up_filter s t.root t.links k t.items es T on l a (alike l (contains_of t.links l a)) i

  pub forward_by_filters : AreAlike t.links es → length t.edges ≡ length t.links → (r i : ℕ) → kept_forward seen t r i ≡ list_all (λ l. not (eqb l.parent r) || sees_child seen t l i) t.links
  forward_by_filters alike as_many r i = elim (cases_Bool (is_keyed t.edges)) [
    | inl on ↦ forward_reads s t.root t.links k t.items es T on r i
        ∙ children_asked (λ c. answers s (sealed s) i (port t.root t.links k (region.ForwardKeys c) (parent_of t.root t.links k t.items c))) (λ l. sees_child seen t l i) r t.links (λ l a. child_filter alike on l a i)
    | inr off ↦ all_forward s t.root t.links k t.items es T off r i
        ∙ sym (all_asked (λ l. not (eqb l.parent r) || sees_child seen t l i) t.links (λ l a. absurd (true≢false (sym (keyed_some as_many l (contains_of t.links l a)) ∙ off))))
  ]

  pub backward_by_filters : AreAlike t.links es → length t.edges ≡ length t.links → (l : Link) → Contains t.links l → (i : ℕ) → i < get_or t.items l.child 0 → kept_backward seen t l.child i ≡ (kept_forward seen t l.child i && sees_parent seen t l i)
  backward_by_filters alike as_many l is i inside = let a = among_of t.links l is in let on = keyed_some as_many l is in
      backward_reads s t.root t.links k t.items es T on l a i inside
      ∙ ap (λ (c : Bool). kept_forward seen t l.child i && c) (down_filter s t.root t.links k t.items es T on l a (alike l is) i)
