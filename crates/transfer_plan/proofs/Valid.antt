-- The plan of a tree is valid.
use Rattle.std.proofs.Common.{◌≡◌, ⊎_elim, ℕ, zero, suc, ◌+◌, ◌*◌, ◌^◌, ◌<◌, ◌≤◌, List, [], ◌∷◌, ◌++◌, length, map, get_or, Bool, true, false, not, refl, sym, ap, ◌∙◌, subst, arith, eqb, eq-eqb, if◌then◌else◌, true≢false, length-append}
use Rattle.std.specs.Prelude.{reverse}
use Rattle.std.specs.Int.{div_ceil}
use Rattle.std.specs.List.{flat_map, list_all, list_any, range_with_len}
use Rattle.std.proofs.Math.Nat.{le-max_left, le-max_right}
use Rattle.std.proofs.lemmas.Bool.{and_parts, lt-ltb, le-leb, and_from}
use Rattle.std.proofs.lemmas.List.{get_or-map, length-map, map-append, get_or-append-add, get_or_append_left, length-reverse, reverse-reverse}
use Rattle.std.proofs.lemmas.List.Concat.{flat_map-cons}
use Rattle.std.proofs.lemmas.List.Folds.{list_all-map}
use Rattle.std.proofs.lemmas.List.FromFn.{length-range_with_len}
use mathlib.Core.Logic.{dite}
use native.Mathlib.Decide.{dec_le}
use Rattle.rpt_base.specs.Limits.{IsMorsel}
use Rattle.join_graph.specs.declared.tree.Link.{Link}
use Rattle.join_graph.specs.declared.tree.Tree.{Tree}
use Rattle.join_graph.specs.JoinList.{Extends, HasParents}
use Rattle.rpt_base.specs.Lists.{has}
use Rattle.key_codes.specs.Placement.{Places}
use Rattle.key_codes.specs.Placement.Kind.{Exact}
use Rattle.transfer_core.specs.Counts.{times}
use Rattle.transfer_core.proofs.Full.{short}
use Rattle.transfer_core.proofs.Sums.{below_yes, only_no}
use Rattle.transfer_core.specs.declared.plan.Pipe.{Pipe}
use Rattle.transfer_core.specs.declared.plan.Plan.{Plan}
use Rattle.transfer_core.specs.declared.plan.Port.{Port}
use Rattle.transfer_core.specs.Plans.{IsValid, Shape, no_places, places_at, serves, shape_of, words_of}
use Rattle.transfer_plan.specs.declared.plan.Edge.{Edge}
use Rattle.transfer_plan.specs.declared.region.Region.{Region}
use Rattle.transfer_plan.specs.declared.region.Region.TheVariants as region
use Rattle.transfer_plan.specs.TransferPlan.{AreEdges, AreParts, AreRows, SeenEdge, ServesLink, backward_pipe, backward_regions, child_of, children, edge_words, forward_pipe, forward_regions, has_keys, is_keyed, is_same, link_of, members, no_edge, no_link, parent_of, pipes, port, regions, row_words, seen_edge, transfer_plan, words_of_region}
use Rattle.transfer_plan.proofs.Earlier.{Among, all_children, among_child, has_reverse, is_child, not_root, parent_listed, reads_earlier}
use Rattle.transfer_plan.proofs.Numbers.{members_once}
use Rattle.rpt_base.proofs.MemberFacts.{has-kept}
use Rattle.transfer_plan.proofs.Serves.{at_number, backward_in, backward_keys_in, each_append, each_flat, each_pipe, child_link, each_map, forward_in, forward_keys_in, link_at, link_with, member_child, member_within}
use Rattle.transfer_plan.proofs.Written.{written_once}

-- ---- how many relations there are
times_out : (n : ℕ) (listed : List ℕ) (ls : List Link) → Extends n listed ls → (o : ℕ) → n ≤ o → times o (map (λ l. l.child) ls) ≡ 0
times_out n listed [] h o far = refl
times_out n listed (l ∷ ls) h o far = omega (arith, only_no o l.child (λ e. omega (arith, e, h.0, far)), times_out n (l.child ∷ listed) ls h.3 o far)

pub members_few : (n root : ℕ) (links : List Link) → HasParents n root links → length (members root links) ≤ n
members_few n root links parents = short (members root links) n (λ x. dite (dec_le n x)
    (λ far. omega (arith, only_no x root (λ e. omega (arith, e, parents.first, far)), times_out n (root ∷ []) links parents.extends x far))
    (λ near. let less : x < n = omega arith in omega (arith, members_once n root links parents x, below_yes x n less)))

pub links_few : (n root : ℕ) (links : List Link) → HasParents n root links → length links < n
links_few n root links parents = omega (arith, members_few n root links parents, length-map links (λ (l : Link). l.child))

-- ---- how many regions
flat_short : (G : ℕ → List Region) → ((r : ℕ) → length (G r) ≤ 65) → (rs : List ℕ) → length (flat_map G rs) ≤ 65 * length rs
flat_short G le [] = omega arith
flat_short G le (r ∷ rs) = omega (arith, ap length (flat_map-cons G r rs), length-append (G r) (flat_map G rs), le r, flat_short G le rs)

children_short : (r : ℕ) (ls : List Link) → length (children ls r) ≤ length ls
children_short r [] = omega arith
children_short r (l ∷ ls) = by (eqb l.parent r) refl (children_short r ls)
  where
    by : (b : Bool) → eqb l.parent r ≡ b → length (children ls r) ≤ length ls → length (children (l ∷ ls) r) ≤ suc (length ls)
    by true e le = rw e omega arith
    by false e le = rw e omega arith

-- the regions are few enough for their numbers
pub regions_few : (n root : ℕ) (links : List Link) (keyed : Bool) → HasParents n root links → n ≤ 64 → length (regions root links keyed) < 2 ^ 32
regions_few n root links keyed parents few =
    let M : List ℕ = members root links in
    omega (
      arith,
      length-append (flat_map (forward_regions root links keyed) (reverse M)) (flat_map (backward_regions root links keyed) M),
      flat_short (forward_regions root links keyed) (λ r. forward (has_keys root links keyed r) r) (reverse M),
      flat_short (backward_regions root links keyed) (λ r. backward keyed r) M,
      length-reverse M,
      members_few n root links parents,
      few,
    )
  where
    forward : (b : Bool) (r : ℕ) → length (region.Forward r ∷ (if b then region.ForwardKeys r ∷ [] else [])) ≤ 65
    forward true r = omega arith
    forward false r = omega arith

    backward : (b : Bool) (r : ℕ) → length (region.Backward r ∷ (if b then map region.BackwardKeys (children links r) else [])) ≤ 65
    backward true r = omega (arith, length-map (children links r) region.BackwardKeys, children_short r links, links_few n root links parents, few)
    backward false r = omega arith

-- ---- the placements of edges
module _ {P : Type 0} (seen : P → Places) where
  abbrev pair : Edge P → List P
  pair e = e.child ∷ e.parent ∷ []

  abbrev paired : List (Edge P) → List Places
  paired [] = []
  paired (e ∷ es) = seen e.child ∷ seen e.parent ∷ paired es

  paired_is : (es : List (Edge P)) → map seen (flat_map pair es) ≡ paired es
  paired_is [] = refl
  paired_is (e ∷ es) = ap (map seen) (flat_map-cons pair e es) ∙ ap (λ (l : List Places). seen e.child ∷ seen e.parent ∷ l) (paired_is es)

  abbrev edge_at : List (Edge P) → ℕ → SeenEdge
  edge_at es k = get_or (map (seen_edge seen) es) k no_edge

  child_in : (es : List (Edge P)) (k : ℕ) → k < length es → get_or (paired es) (2 * k) no_places ≡ (edge_at es k).child
  child_in [] k l = absurd (omega arith)
  child_in (e ∷ es) zero l = refl
  child_in (e ∷ es) (suc k) l = let on : 2 * suc k ≡ suc (suc (2 * k)) = omega arith in
      ap (λ (j : ℕ). get_or (paired (e ∷ es)) j no_places) on ∙ child_in es k (omega arith)

  parent_in : (es : List (Edge P)) (k : ℕ) → k < length es → get_or (paired es) (2 * k + 1) no_places ≡ (edge_at es k).parent
  parent_in [] k l = absurd (omega arith)
  parent_in (e ∷ es) zero l = refl
  parent_in (e ∷ es) (suc k) l = let on : 2 * suc k + 1 ≡ suc (suc (2 * k + 1)) = omega arith in
      ap (λ (j : ℕ). get_or (paired (e ∷ es)) j no_places) on ∙ parent_in es k (omega arith)

  paired_long : (es : List (Edge P)) → length (paired es) ≡ 2 * length es
  paired_long [] = refl
  paired_long (e ∷ es) = omega (arith, paired_long es)

  words_in : (es : List (Edge P)) (k : ℕ) → k < length es → get_or (edge_words es) k (0, 0) ≡ ((edge_at es k).forward_words, (edge_at es k).backward_words)
  words_in [] k l = absurd (omega arith)
  words_in (e ∷ es) zero l = refl
  words_in (e ∷ es) (suc k) l = words_in es k (omega arith)

serves_if : (s : Shape) (items : ℕ) (a : Port) → a.region < length s.words → a.places < length s.places → length (places_at s a.places).numbers ≡ items → (places_at s a.places).least ≤ words_of s a.region → serves s items a ≡ true
serves_if s items a r p n l = and_from _ _ (and_from _ _ (and_from _ _ (lt-ltb _ _ r) (lt-ltb _ _ p)) (eq-eqb _ _ n)) (le-leb _ _ l)

is_on : (n : ℕ) → not (eqb n 0) ≡ true → n ≡ 0 → ⊥
is_on n h e = true≢false (sym h ∙ ap not (eq-eqb n 0 e))

-- ---- the plan
module _ {P : Type 0} (seen : P → Places) (root : ℕ) (links : List Link) (items : List ℕ) (edges : List (Edge P)) (rows : List P) (morsel : ℕ)
    (parents : HasParents (length items) root links) (are_rows : AreRows seen items rows) (are_edges : AreEdges seen links items edges) where
  abbrev keyed : Bool
  keyed = is_keyed edges

  abbrev S : Shape
  S = shape_of seen (transfer_plan (record { root = root; links = links }) items edges rows morsel)

  abbrev M : List ℕ
  M = members root links

  abbrev W : List Region
  W = regions root links keyed

  abbrev g : Region → ℕ
  g = words_of_region links items edges

  abbrev E : List Places
  E = paired seen edges

  places_are : map seen (rows ++ flat_map (pair seen) edges) ≡ map seen rows ++ E
  places_are = map-append seen rows (flat_map (pair seen) edges) ∙ ap (λ (l : List Places). map seen rows ++ l) (paired_is seen edges)

  rows_long : length (map seen rows) ≡ length items
  rows_long = length-map rows seen ∙ are_rows.count

  places_long : length S.places ≡ length items + 2 * length edges
  places_long = ap length places_are ∙ length-append (map seen rows) E ∙ omega (arith, rows_long, paired_long seen edges)

  abbrev row_places : ℕ → Places
  row_places r = record { kind = Exact; numbers = range_with_len 0 (get_or items r 0); least = div_ceil (get_or items r 0) 64 }

  -- the placement of a relation's rows
  pub row_is : (r : ℕ) → r < length items → places_at S r ≡ row_places r
  row_is r l = ap (λ (xs : List Places). get_or xs r no_places) places_are ∙ get_or_append_left (map seen rows) E no_places r (omega (arith, rows_long)) ∙ are_rows.each r l

  edge_is : (j : ℕ) → places_at S (length items + j) ≡ get_or E j no_places
  edge_is j = ap (λ (xs : List Places). get_or xs (length items + j) no_places) places_are
      ∙ ap (λ (k : ℕ). get_or (map seen rows ++ E) (k + j) no_places) (sym rows_long) ∙ get_or-append-add (map seen rows) E j no_places

  -- a port of a region that is listed fits, where its placement does
  fits : (x : Region) (k n : ℕ) (places : Places) → list_any (is_same x) W ≡ true → k < length S.places → places_at S k ≡ places → length places.numbers ≡ n → places.least ≤ g x → serves S n (port root links keyed x k) ≡ true
  fits x k n places h inside is count least = let t = at_number g x W h in
      serves_if S n (port root links keyed x k) (omega (arith, t.0, length-map W g)) inside (ap (λ (p : Places). length p.numbers) is ∙ count) (omega (arith, ap (λ (p : Places). p.least) is, least, t.1))

  row_fits : (x : Region) (r : ℕ) → has r M ≡ true → list_any (is_same x) W ≡ true → g x ≡ row_words (get_or items r 0) → serves S (get_or items r 0) (port root links keyed x r) ≡ true
  row_fits x r h listed is = let l = member_within (length items) root links parents r h in
      fits x r (get_or items r 0) (row_places r) listed (omega (arith, l, places_long)) (row_is r l) (length-range_with_len 0 (get_or items r 0))
      (omega (arith, is, le-max_right 1 (div_ceil (get_or items r 0) 64)))

  -- with keys there is an edge for each link
  count : keyed ≡ true → length edges ≡ length links
  count on = ⊎_elim (λ none_there. absurd (is_on (length edges) on none_there)) (λ e. e) are_edges.count

  module _ (on : keyed ≡ true) (l : Link) (a : Among l links) where
    pub place : (link_of links l.child < length links) × (get_or links (link_of links l.child) no_link ≡ l)
    place = link_at (length items) (root ∷ []) links parents.extends l a

    inside : link_of links l.child < length edges
    inside = omega (arith, place.0, count on)

    abbrev edge : SeenEdge
    edge = edge_at seen edges (link_of links l.child)

    -- its edge serves it
    pub served : ServesLink items l edge
    served = subst (λ (m : Link). ServesLink items m edge) place.1 (are_edges.each (link_of links l.child) inside)

    pub forward_words : g (region.ForwardKeys l.child) ≡ edge.forward_words
    forward_words = ap (λ (w : ℕ × ℕ). w.0) (words_in seen edges (link_of links l.child) inside)

    pub backward_words : g (region.BackwardKeys l.child) ≡ edge.backward_words
    backward_words = ap (λ (w : ℕ × ℕ). w.1) (words_in seen edges (link_of links l.child) inside)

    pub child_is : places_at S (child_of root links keyed items l.child) ≡ edge.child
    child_is = edge_is (2 * link_of links l.child) ∙ child_in seen edges (link_of links l.child) inside

    pub parent_is : places_at S (parent_of root links keyed items l.child) ≡ edge.parent
    parent_is = ap (places_at S) (let t : length items + 2 * link_of links l.child + 1 ≡ length items + (2 * link_of links l.child + 1) = omega arith in t)
        ∙ edge_is (2 * link_of links l.child + 1) ∙ parent_in seen edges (link_of links l.child) inside

    child_fits : (x : Region) → list_any (is_same x) W ≡ true → edge.child.least ≤ g x → serves S (get_or items l.child 0) (port root links keyed x (child_of root links keyed items l.child)) ≡ true
    child_fits x listed least = fits x (child_of root links keyed items l.child) (get_or items l.child 0) edge.child listed (omega (arith, inside, places_long)) child_is served.child least

    parent_fits : (x : Region) → list_any (is_same x) W ≡ true → edge.parent.least ≤ g x → serves S (get_or items l.parent 0) (port root links keyed x (parent_of root links keyed items l.child)) ≡ true
    parent_fits x listed least = fits x (parent_of root links keyed items l.child) (get_or items l.parent 0) edge.parent listed (omega (arith, inside, places_long)) parent_is served.parent least

  child_listed : (l : Link) → Among l links → has l.child M ≡ true
  child_listed l a = has-kept l.child root (map (λ m. m.child) links) (among_child l links a)

  -- forward
  forward_reads : (r : ℕ) → has r M ≡ true → list_all (serves S (get_or items r 0)) (forward_pipe root links keyed items r).reads ≡ true
  forward_reads r h = go keyed refl
    where
      go : (k : Bool) → keyed ≡ k → list_all (serves S (get_or items r 0)) (if k then map (λ c. port root links keyed (region.ForwardKeys c) (parent_of root links keyed items c)) (children links r) else []) ≡ true
      go true on = list_all-map (serves S (get_or items r 0)) (λ c. port root links keyed (region.ForwardKeys c) (parent_of root links keyed items c)) (children links r)
          ∙ all_children (λ c. serves S (get_or items r 0) (port root links keyed (region.ForwardKeys c) (parent_of root links keyed items c))) r links
          (λ l a e. ap (λ (o : ℕ). serves S (get_or items o 0) (port root links keyed (region.ForwardKeys l.child) (parent_of root links keyed items l.child))) (sym e)
          ∙ parent_fits on l a (region.ForwardKeys l.child) (forward_keys_in root links keyed l.child (child_listed l a) (not_root (length items) root links keyed items parents l a on))
          (omega (arith, forward_words on l a, (served on l a).forward_parent)))
      go false off = refl

  -- the keys of a relation that has them
  own_keys : (x : ℕ → Region) (r : ℕ) → has r M ≡ true → ((l : Link) (a : Among l links) (on : keyed ≡ true) → serves S (get_or items l.child 0) (port root links keyed (x l.child) (child_of root links keyed items l.child)) ≡ true)
      → list_all (serves S (get_or items r 0)) (if has_keys root links keyed r then port root links keyed (x r) (child_of root links keyed items r) ∷ [] else []) ≡ true
  own_keys x r h fit = go (has_keys root links keyed r) refl
    where
      go : (k : Bool) → has_keys root links keyed r ≡ k → list_all (serves S (get_or items r 0)) (if k then port root links keyed (x r) (child_of root links keyed items r) ∷ [] else []) ≡ true
      go true on =
          let parts = and_parts keyed (not (eqb r root)) on in
          let t = link_with r links (member_child r root (map (λ l. l.child) links) h parts.1) in
          and_from _ true (subst (λ (o : ℕ). serves S (get_or items o 0) (port root links keyed (x o) (child_of root links keyed items o)) ≡ true) t.2 (fit t.0 t.1 parts.0)) refl
      go false off = refl

  forward_writes : (r : ℕ) → has r M ≡ true → list_all (serves S (get_or items r 0)) (forward_pipe root links keyed items r).writes ≡ true
  forward_writes r h = and_from _ _ (row_fits (region.Forward r) r h (forward_in root links keyed r h) refl)
      (own_keys region.ForwardKeys r h (λ l a on. child_fits on l a (region.ForwardKeys l.child) (forward_keys_in root links keyed l.child (child_listed l a) (not_root (length items) root links keyed items parents l a on))
      (omega (arith, forward_words on l a, (served on l a).forward_child))))

  -- backward
  parent_of_link : (l : Link) → Among l links → has l.parent M ≡ true
  parent_of_link l a = parent_listed (length items) (root ∷ []) (root ∷ []) links parents.extends (λ o k. k) l a

  backward_reads : (r : ℕ) → has r M ≡ true → list_all (serves S (get_or items r 0)) (backward_pipe root links keyed items r).reads ≡ true
  backward_reads r h = and_from _ _ (row_fits (region.Forward r) r h (forward_in root links keyed r h) refl)
      (own_keys region.BackwardKeys r h (λ l a on. child_fits on l a (region.BackwardKeys l.child) (backward_keys_in root links keyed l.parent l.child (parent_of_link l a) on (is_child l links a))
      (omega (arith, backward_words on l a, (served on l a).backward_child))))

  backward_writes : (r : ℕ) → has r M ≡ true → list_all (serves S (get_or items r 0)) (backward_pipe root links keyed items r).writes ≡ true
  backward_writes r h = and_from _ _ (row_fits (region.Backward r) r h (backward_in root links keyed r h) refl) (go keyed refl)
    where
      go : (k : Bool) → keyed ≡ k → list_all (serves S (get_or items r 0)) (if k then map (λ c. port root links keyed (region.BackwardKeys c) (parent_of root links keyed items c)) (children links r) else []) ≡ true
      go true on = list_all-map (serves S (get_or items r 0)) (λ c. port root links keyed (region.BackwardKeys c) (parent_of root links keyed items c)) (children links r)
          ∙ all_children (λ c. serves S (get_or items r 0) (port root links keyed (region.BackwardKeys c) (parent_of root links keyed items c))) r links
          (λ l a e. ap (λ (o : ℕ). serves S (get_or items o 0) (port root links keyed (region.BackwardKeys l.child) (parent_of root links keyed items l.child))) (sym e)
          ∙ parent_fits on l a (region.BackwardKeys l.child) (backward_keys_in root links keyed l.parent l.child (parent_of_link l a) on (is_child l links a))
          (omega (arith, backward_words on l a, (served on l a).backward_parent)))
      go false off = refl

  -- each region has a word
  abbrev HasWord : Region → Type 0
  HasWord x = 1 ≤ g x

  none : Region
  none = region.Forward 0

  forward_some : (r : ℕ) → has r M ≡ true → (p : ℕ) → p < length (forward_regions root links keyed r) → HasWord (get_or (forward_regions root links keyed r) p none)
  forward_some r h = go (has_keys root links keyed r) refl
    where
      go : (b : Bool) → has_keys root links keyed r ≡ b → (p : ℕ) → p < length (region.Forward r ∷ (if b then region.ForwardKeys r ∷ [] else [])) → HasWord (get_or (region.Forward r ∷ (if b then region.ForwardKeys r ∷ [] else [])) p none)
      go true on zero l = le-max_left 1 (div_ceil (get_or items r 0) 64)
      go true on (suc zero) l =
          let parts = and_parts keyed (not (eqb r root)) on in
          let t = link_with r links (member_child r root (map (λ l. l.child) links) h parts.1) in
          subst (λ (o : ℕ). HasWord (region.ForwardKeys o)) t.2 (omega (arith, forward_words parts.0 t.0 t.1, (served parts.0 t.0 t.1).forward_some))
      go true on (suc (suc p)) l = absurd (omega arith)
      go false off zero l = le-max_left 1 (div_ceil (get_or items r 0) 64)
      go false off (suc p) l = absurd (omega arith)

  backward_some : (r : ℕ) → has r M ≡ true → (p : ℕ) → p < length (backward_regions root links keyed r) → HasWord (get_or (backward_regions root links keyed r) p none)
  backward_some r h = go keyed refl
    where
      go : (b : Bool) → keyed ≡ b → (p : ℕ) → p < length (region.Backward r ∷ (if b then map region.BackwardKeys (children links r) else [])) → HasWord (get_or (region.Backward r ∷ (if b then map region.BackwardKeys (children links r) else [])) p none)
      go true on zero l = le-max_left 1 (div_ceil (get_or items r 0) 64)
      go true on (suc p) l = each_map region.BackwardKeys HasWord none (children links r)
          (λ c k. let t = child_link r c links k in subst (λ (o : ℕ). HasWord (region.BackwardKeys o)) t.3 (omega (arith, backward_words on t.0 t.1, (served on t.0 t.1).backward_some))) p (omega arith)
      go false off zero l = le-max_left 1 (div_ceil (get_or items r 0) 64)
      go false off (suc p) l = absurd (omega arith)

  words_some : (r : ℕ) → r < length (map g W) → 1 ≤ get_or (map g W) r 0
  words_some r l = let inside : r < length W = omega (arith, l, length-map W g) in
      let some : HasWord (get_or W r none) = each_append HasWord none (flat_map (forward_regions root links keyed) (reverse M)) (flat_map (backward_regions root links keyed) M)
      (each_flat HasWord none (forward_regions root links keyed) (reverse M) (λ o k. forward_some o (ap (has o) (sym (reverse-reverse M)) ∙ has_reverse o (reverse M) k)))
      (each_flat HasWord none (backward_regions root links keyed) M backward_some) r inside in
      omega (arith, some, get_or-map g W r none 0 inside)

  pipes_long : length (pipes root links keyed items) ≡ 2 * length M
  pipes_long = length-append (map (forward_pipe root links keyed items) (reverse M)) (map (backward_pipe root links keyed items) M)
      ∙ omega (arith, length-map (reverse M) (forward_pipe root links keyed items), length-map M (backward_pipe root links keyed items), length-reverse M)

  abbrev Reads : Pipe → Type 0
  Reads x = list_all (serves S x.items) x.reads ≡ true

  abbrev Writes : Pipe → Type 0
  Writes x = list_all (serves S x.items) x.writes ≡ true

  -- a pipe writes by few ports: by one for its rows, one for its keys, and one for each child
  abbrev IsNarrow : Pipe → Type 0
  IsNarrow x = length x.writes < 2 ^ 32

  forward_narrow : (r : ℕ) → IsNarrow (forward_pipe root links keyed items r)
  forward_narrow r = go (has_keys root links keyed r)
    where
      go : (b : Bool) → length (port root links keyed (region.Forward r) r ∷ (if b then port root links keyed (region.ForwardKeys r) (child_of root links keyed items r) ∷ [] else [])) < 2 ^ 32
      go true = omega arith
      go false = omega arith

  backward_narrow : length items ≤ 64 → (r : ℕ) → IsNarrow (backward_pipe root links keyed items r)
  backward_narrow few r = go keyed
    where
      go : (b : Bool) → length (port root links keyed (region.Backward r) r ∷ (if b then map (λ c. port root links keyed (region.BackwardKeys c) (parent_of root links keyed items c)) (children links r) else [])) < 2 ^ 32
      go true = omega (arith, length-map (children links r) (λ c. port root links keyed (region.BackwardKeys c) (parent_of root links keyed items c)), children_short r links, links_few (length items) root links parents, few)
      go false = omega arith

  pub valid_plan : length items ≤ 64 → IsMorsel morsel → IsValid S
  valid_plan few is_morsel = record {
    some = omega (arith, pipes_long);
    few = omega (arith, pipes_long, members_few (length items) root links parents, few);
    morsel = is_morsel;
    regions = λ r l. record {
      some = words_some r l;
      once = written_once root links keyed items (length items) parents r (omega (arith, l, length-map W g));
    };
    pipes = λ p l. record {
      ports = each_pipe root links keyed items IsNarrow (λ r h. forward_narrow r) (λ r h. backward_narrow few r) p l;
      reads = each_pipe root links keyed items Reads forward_reads backward_reads p l;
      writes = each_pipe root links keyed items Writes forward_writes backward_writes p l;
      later = reads_earlier (length items) root links keyed items parents p l;
    };
  }

-- so what is that plan is valid
pub valid_as : {P : Type 0} (seen : P → Places) (tree : Tree) (items : List ℕ) (edges : List (Edge P)) (rows : List P) (morsel : ℕ) (plan : Plan P) → plan ≡ transfer_plan tree items edges rows morsel
    → AreParts seen tree items edges rows morsel → IsValid (shape_of seen plan)
valid_as {P = P} seen tree items edges rows morsel plan is parts =
    subst (λ (x : Plan P). IsValid (shape_of seen x)) (sym is) (valid_plan seen tree.root tree.links items edges rows morsel parts.tree parts.are_rows parts.are_edges parts.few parts.is_morsel)
