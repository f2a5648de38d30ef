-- What the regions of a tree's plan answer, by the numbers of items.
use Rattle.std.proofs.Common.{◌≡◌, ◌⊎◌, ◌↔◌, inl, inr, ⊎_elim, ℕ, zero, suc, ◌+◌, ◌<◌, List, [], ◌∷◌, ◌++◌, length, map, get_or, Bool, true, false, ◌&&◌, not, refl, sym, ap, ◌∙◌, subst, arith, cond, eqb, eq-eqb, if◌then◌else◌, true≢false, length-append}
use Rattle.std.specs.Prelude.{Contains, reverse}
use Rattle.std.specs.Int.{div_ceil}
use Rattle.std.specs.List.{filter, list_all, range_with_len}
use Rattle.std.proofs.lemmas.Bool.{and_parts, and_from}
use Rattle.std.proofs.lemmas.List.{get_or-append-add, get_or_append_left}
use Rattle.std.proofs.lemmas.List.Folds.{list_all-map}
use Rattle.std.proofs.lemmas.List.FromFn.{get_or-range_with_len}
use Rattle.join_graph.specs.declared.tree.Link.{Link}
use Rattle.join_graph.specs.JoinList.{Extends, HasParents, listed_by}
use Rattle.rpt_base.specs.Lists.{has}
use Rattle.rpt_base.proofs.BoolFacts.{same_truth}
use Rattle.key_codes.specs.Placement.{Places}
use Rattle.key_codes.specs.Placement.Kind.{Exact}
use Rattle.transfer_core.specs.declared.plan.Pipe.{Pipe}
use Rattle.transfer_core.specs.declared.plan.Port.{Port}
use Rattle.transfer_core.specs.Answers.{number_at}
use Rattle.transfer_core.specs.Job.{no_port}
use Rattle.transfer_core.specs.Plans.{IsValid, Shape, no_pipe, pipe_at, places_at, words_of}
use Rattle.transfer_core.specs.Sealed.{answers, passes, sealed}
use Rattle.transfer_core.proofs.AnswerFacts.{answers_exactly, answers_put}
use Rattle.transfer_plan.specs.declared.region.Region.TheVariants as region
use Rattle.transfer_plan.specs.Passing.{HasChild, HasParent, edge_of, passes_backward, passes_forward}
use Rattle.transfer_plan.specs.TransferPlan.{SeenEdge, backward_pipe, child_of, children, forward_pipe, has_keys, members, number_of, parent_of, pipes, port}
use Rattle.transfer_plan.proofs.Earlier.{Among, all_children, among_child, has_cases, has_reverse, is_child, not_root}
use Rattle.transfer_plan.proofs.Numbers.{has_here}
use Rattle.rpt_base.proofs.MemberFacts.{has-kept}
use Rattle.transfer_plan.proofs.Serves.{member_within}

-- ---- what is among a list
abbrev pub Stands : {A : Type 0} → A → List A → A → Type 0
Stands d xs x = (k : ℕ) × (k < length xs) × (get_or xs k d ≡ x)

later : {A : Type 0} (d y : A) (xs : List A) (x : A) → Stands d xs x → Stands d (y ∷ xs) x
later d y xs x (k, less, is) = (suc k, omega arith, is)

stands_map : {A : Type 0} (d : A) (f : ℕ → A) (c : ℕ) (cs : List ℕ) → has c cs ≡ true → Stands d (map f cs) (f c)
stands_map d f c [] h = absurd (true≢false (sym h))
stands_map d f c (o ∷ cs) h = has_cases c o cs (Stands d (map f (o ∷ cs)) (f c)) h
    (λ e. (0, omega arith, ap f (sym e)))
    (λ k. later d (f o) (map f cs) (f c) (stands_map d f c cs k))

stands_left : {A : Type 0} (d : A) (xs ys : List A) (x : A) → Stands d xs x → Stands d (xs ++ ys) x
stands_left d xs ys x (k, less, is) = (k, omega (arith, less, length-append xs ys), get_or_append_left xs ys d k less ∙ is)

stands_right : {A : Type 0} (d : A) (xs ys : List A) (x : A) → Stands d ys x → Stands d (xs ++ ys) x
stands_right d xs ys x (k, less, is) = (length xs + k, omega (arith, less, length-append xs ys), get_or-append-add xs ys k d ∙ is)

pub among_of : (ls : List Link) (l : Link) → Contains ls l → Among l ls
unfolding Among
among_of ls l (k, less, is) = go ls k less is
  where
    go : (xs : List Link) (n : ℕ) → n < length xs → get_or xs n l ≡ l → Among l xs
    go [] n h e = absurd (omega arith)
    go (x ∷ xs) zero h e = inl e
    go (x ∷ xs) (suc n) h e = inr (go xs n (omega arith) e)

pub contains_of : (ls : List Link) (l : Link) → Among l ls → Contains ls l
unfolding Among
contains_of [] l a = absurd a
contains_of (x ∷ xs) l a = ⊎_elim (λ e. (0, omega arith, e)) (λ k. let w = contains_of xs l k in (suc w.0, omega (arith, w.1), w.2)) a

-- a test that all children of r pass is one that each passes
pub each_child : (f : ℕ → Bool) (r : ℕ) (ls : List Link) → list_all f (children ls r) ≡ true → (l : Link) → Among l ls → l.parent ≡ r → f l.child ≡ true
unfolding Among
each_child f r [] h l a e = absurd a
each_child f r (m ∷ ls) h l a e = by (eqb m.parent r) refl h a (λ t k. each_child f r ls t l k e)
  where
    by : (b : Bool) → eqb m.parent r ≡ b → list_all f (map (λ (x : Link). x.child) (cond b (m ∷ filter (λ (x : Link). eqb x.parent r) ls) (filter (λ (x : Link). eqb x.parent r) ls))) ≡ true
        → (m ≡ l) ⊎ Among l ls → (list_all f (children ls r) ≡ true → Among l ls → f l.child ≡ true) → f l.child ≡ true
    by true o t a rest = let and_from = and_parts (f m.child) (list_all f (children ls r)) t in
        ⊎_elim (λ s. ap (λ (x : Link). f x.child) (sym s) ∙ and_from.0) (λ k. rest and_from.1 k) a
    by false o t a rest = ⊎_elim (λ s. absurd (true≢false (sym (eq-eqb m.parent r (ap (λ (x : Link). x.parent) s ∙ e)) ∙ o))) (λ k. rest t k) a

-- ---- the ports that a pipe writes
row_port : (root : ℕ) (links : List Link) (keyed : Bool) (items : List ℕ) (r : ℕ) → Stands no_port (forward_pipe root links keyed items r).writes (port root links keyed (region.Forward r) r)
row_port root links keyed items r = (0, omega arith, refl)

keys_port : (root : ℕ) (links : List Link) (keyed : Bool) (items : List ℕ) (r : ℕ) → has_keys root links keyed r ≡ true
    → Stands no_port (forward_pipe root links keyed items r).writes (port root links keyed (region.ForwardKeys r) (child_of root links keyed items r))
keys_port root links keyed items r on = go (has_keys root links keyed r) on
  where
    go : (b : Bool) → b ≡ true → Stands no_port (port root links keyed (region.Forward r) r ∷ (if b then port root links keyed (region.ForwardKeys r) (child_of root links keyed items r) ∷ [] else [])) (port root links keyed (region.ForwardKeys r) (child_of root links keyed items r))
    go true e = (1, omega arith, refl)
    go false e = absurd (true≢false (sym e))

kept_port : (root : ℕ) (links : List Link) (keyed : Bool) (items : List ℕ) (r : ℕ) → Stands no_port (backward_pipe root links keyed items r).writes (port root links keyed (region.Backward r) r)
kept_port root links keyed items r = (0, omega arith, refl)

down_port : (root : ℕ) (links : List Link) (keyed : Bool) (items : List ℕ) (r c : ℕ) → keyed ≡ true → has c (children links r) ≡ true
    → Stands no_port (backward_pipe root links keyed items r).writes (port root links keyed (region.BackwardKeys c) (parent_of root links keyed items c))
down_port root links keyed items r c on h = go (λ o. port root links keyed (region.BackwardKeys o) (parent_of root links keyed items o)) keyed on
  where
    go : (p : ℕ → Port) (b : Bool) → b ≡ true → Stands no_port (port root links keyed (region.Backward r) r ∷ (if b then map p (children links r) else [])) (p c)
    go p true e = later no_port (port root links keyed (region.Backward r) r) (map p (children links r)) (p c) (stands_map no_port p c (children links r) h)
    go p false e = absurd (true≢false (sym e))

-- ---- what a region answers
-- an item of the pipe passes it, and has this number in the port's placement
abbrev Puts : Shape → Pipe → Port → ℕ → Type 0
Puts s x a n = (item : ℕ) × (item < x.items) × (passes s (sealed s) item x.reads ≡ true) × (number_at s a item ≡ n)

module _ (s : Shape) (V : IsValid s) where
  -- the region of a port that a pipe of the plan writes
  answers_number : (x : Pipe) (a b : Port) (i : ℕ) → Stands no_pipe s.pipes x → Stands no_port x.writes a → b.region ≡ a.region → (places_at s a.places).kind ≡ Exact → (places_at s b.places).kind ≡ Exact
      → (answers s (sealed s) i b ≡ true) ↔ Puts s x a (number_at s b i)
  answers_number x a b i (p, less, is) (q, there, at) =
      subst (λ (y : Pipe). (q < length y.writes) → get_or y.writes q no_port ≡ a → b.region ≡ a.region → (places_at s a.places).kind ≡ Exact → (places_at s b.places).kind ≡ Exact → (answers s (sealed s) i b ≡ true) ↔ Puts s y a (number_at s b i)) is
      (λ here e. subst (λ (c : Port). b.region ≡ c.region → (places_at s c.places).kind ≡ Exact → (places_at s b.places).kind ≡ Exact → (answers s (sealed s) i b ≡ true) ↔ Puts s (pipe_at s.pipes p) c (number_at s b i)) e
      (answers_exactly s V p q less here b i))
      there at

  -- the same of any kind, for a number that is put
  answers_put_number : (x : Pipe) (a b : Port) (i : ℕ) → Stands no_pipe s.pipes x → Stands no_port x.writes a → b.region ≡ a.region → (places_at s a.places).kind ≡ (places_at s b.places).kind
      → Puts s x a (number_at s b i) → answers s (sealed s) i b ≡ true
  answers_put_number x a b i (p, less, is) (q, there, at) =
      subst (λ (y : Pipe). (q < length y.writes) → get_or y.writes q no_port ≡ a → b.region ≡ a.region → (places_at s a.places).kind ≡ (places_at s b.places).kind → Puts s y a (number_at s b i) → answers s (sealed s) i b ≡ true) is
      (λ here e. subst (λ (c : Port). b.region ≡ c.region → (places_at s c.places).kind ≡ (places_at s b.places).kind → Puts s (pipe_at s.pipes p) c (number_at s b i) → answers s (sealed s) i b ≡ true) e
      (answers_put s V p q less here b i))
      there at

-- ---- a tree's plan
-- what the placements of a plan of a tree are
pub record IsTreeShape (s : Shape) (root : ℕ) (links : List Link) (keyed : Bool) (items : List ℕ) (edges : List SeenEdge) : Type 0 where
  pub valid : IsValid s
  pub parents : HasParents (length items) root links
  pub pipes : s.pipes ≡ pipes root links keyed items
  pub rows : (r : ℕ) → r < length items → places_at s r ≡ record { kind = Exact; numbers = range_with_len 0 (get_or items r 0); least = div_ceil (get_or items r 0) 64 }
  pub child : keyed ≡ true → (l : Link) → Among l links → places_at s (child_of root links keyed items l.child) ≡ (edge_of links edges l).child
  pub parent : keyed ≡ true → (l : Link) → Among l links → places_at s (parent_of root links keyed items l.child) ≡ (edge_of links edges l).parent
  pub forward_words : keyed ≡ true → (l : Link) → Among l links → words_of s (number_of root links keyed (region.ForwardKeys l.child)) ≡ (edge_of links edges l).forward_words
  pub backward_words : keyed ≡ true → (l : Link) → Among l links → words_of s (number_of root links keyed (region.BackwardKeys l.child)) ≡ (edge_of links edges l).backward_words

-- a relation that is listed is a member
member_of : (root : ℕ) (links : List Link) (listed : List ℕ) (r : ℕ) → has r (listed_by listed links) ≡ true → (has r listed ≡ true) ⊎ (has r (map (λ l. l.child) links) ≡ true)
member_of root [] listed r h = inl h
member_of root (l ∷ links) listed r h = ⊎_elim
    (λ a. has_cases r l.child listed _ a (λ e. inr (has_here r l.child (map (λ m. m.child) links) e)) (λ k. inl k))
    (λ b. inr (has-kept r l.child (map (λ m. m.child) links) b))
    (member_of root links (l.child ∷ listed) r h)

pub each_member : (n root : ℕ) (links : List Link) → HasParents n root links → (r : ℕ) → r < n → has r (members root links) ≡ true
each_member n root links parents r less = ⊎_elim
    (λ a. has_cases r root [] _ a (λ e. has_here r root (map (λ m. m.child) links) e) (λ k. absurd (true≢false (sym k))))
    (λ b. has-kept r root (map (λ m. m.child) links) b)
    (member_of root links (root ∷ []) r (parents.all r less))

-- a link's parent is a member
parent_among : (n : ℕ) (listed : List ℕ) (ls : List Link) → Extends n listed ls → (l : Link) → Among l ls → (has l.parent listed ≡ true) ⊎ (has l.parent (map (λ m. m.child) ls) ≡ true)
unfolding Among
parent_among n listed [] h l a = absurd a
parent_among n listed (m ∷ ls) h l a = ⊎_elim
    (λ e. inl (ap (λ (x : Link). has x.parent listed) (sym e) ∙ h.2))
    (λ k. ⊎_elim
    (λ old. has_cases l.parent m.child listed _ old (λ e. inr (has_here l.parent m.child (map (λ x. x.child) ls) e)) (λ o. inl o))
    (λ new. inr (has-kept l.parent m.child (map (λ x. x.child) ls) new)) (parent_among n (m.child ∷ listed) ls h.3 l k)) a

pub parent_listed : (n root : ℕ) (links : List Link) → HasParents n root links → (l : Link) → Among l links → has l.parent (members root links) ≡ true
parent_listed n root links parents l a = ⊎_elim
    (λ t. has_cases l.parent root [] _ t (λ e. has_here l.parent root (map (λ m. m.child) links) e) (λ k. absurd (true≢false (sym k))))
    (λ t. has-kept l.parent root (map (λ m. m.child) links) t)
    (parent_among n (root ∷ []) links parents.extends l a)

module _ (s : Shape) (root : ℕ) (links : List Link) (keyed : Bool) (items : List ℕ) (edges : List SeenEdge) (T : IsTreeShape s root links keyed items edges) where
  abbrev M : List ℕ
  M = members root links

  abbrev f : ℕ → Pipe
  f = forward_pipe root links keyed items

  abbrev b : ℕ → Pipe
  b = backward_pipe root links keyed items

  abbrev P : Link → ℕ
  P l = parent_of root links keyed items l.child

  abbrev C : Link → ℕ
  C l = child_of root links keyed items l.child

  pub forward_there : (r : ℕ) → has r M ≡ true → Stands no_pipe s.pipes (f r)
  forward_there r h = subst (λ (ps : List Pipe). Stands no_pipe ps (f r)) (sym T.pipes) (stands_left no_pipe (map f (reverse M)) (map b M) (f r) (stands_map no_pipe f r (reverse M) (has_reverse r M h)))

  pub backward_there : (r : ℕ) → has r M ≡ true → Stands no_pipe s.pipes (b r)
  backward_there r h = subst (λ (ps : List Pipe). Stands no_pipe ps (b r)) (sym T.pipes) (stands_right no_pipe (map f (reverse M)) (map b M) (b r) (stands_map no_pipe b r M h))

  is_member : (r : ℕ) → r < length items → has r M ≡ true
  is_member r less = each_member (length items) root links T.parents r less

  pub child_member : (l : Link) → Among l links → has l.child M ≡ true
  child_member l a = has-kept l.child root (map (λ m. m.child) links) (among_child l links a)

  row_number : (r i : ℕ) → r < length items → i < get_or items r 0 → get_or (places_at s r).numbers i 0 ≡ i
  row_number r i less l = ap (λ (p : Places). get_or p.numbers i 0) (T.rows r less) ∙ omega (arith, get_or-range_with_len 0 (get_or items r 0) i 0 l)

  row_exact : (r : ℕ) → r < length items → (places_at s r).kind ≡ Exact
  row_exact r less = ap (λ (p : Places). p.kind) (T.rows r less)

  -- the region of a relation's rows has just the items that pass
  rows_answer : (x : Pipe) (a : Port) (r i : ℕ) → r < length items → i < x.items → x.items ≡ get_or items r 0 → a.places ≡ r → Stands no_pipe s.pipes x → Stands no_port x.writes a → answers s (sealed s) i a ≡ passes s (sealed s) i x.reads
  rows_answer x a r i less l size at pipe there =
      let exact : (places_at s a.places).kind ≡ Exact = ap (λ (k : ℕ). (places_at s k).kind) at ∙ row_exact r less in
      let number : (j : ℕ) → j < x.items → number_at s a j ≡ j = λ j k. ap (λ (p : ℕ). get_or (places_at s p).numbers j 0) at ∙ row_number r j less (omega (arith, k, size)) in
      let t = answers_number s T.valid x a a i pipe there refl exact exact in
      same_truth (answers s (sealed s) i a) (passes s (sealed s) i x.reads)
      (λ yes_. let w = t.0 yes_ in subst (λ (j : ℕ). passes s (sealed s) j x.reads ≡ true) (sym (number w.0 w.1) ∙ w.3 ∙ number i l) w.2)
      (λ pass. t.1 (i, l, pass, refl))

  forward_row : (r i : ℕ) → r < length items → i < get_or items r 0 → answers s (sealed s) i (port root links keyed (region.Forward r) r) ≡ passes_forward s root links keyed items r i
  forward_row r i less l = rows_answer (f r) (port root links keyed (region.Forward r) r) r i less l refl refl (forward_there r (is_member r less)) (row_port root links keyed items r)

  pub backward_row : (r i : ℕ) → r < length items → i < get_or items r 0 → answers s (sealed s) i (port root links keyed (region.Backward r) r) ≡ passes_backward s root links keyed items r i
  backward_row r i less l = rows_answer (b r) (port root links keyed (region.Backward r) r) r i less l refl refl (backward_there r (is_member r less)) (kept_port root links keyed items r)

  row_passes : (r i : ℕ) → r < length items → i < get_or items r 0 → passes_backward s root links keyed items r i ≡ (passes_forward s root links keyed items r i && list_all (answers s (sealed s) i) (if has_keys root links keyed r then port root links keyed (region.BackwardKeys r) (child_of root links keyed items r) ∷ [] else []))
  row_passes r i less l = ap (λ (c : Bool). c && list_all (answers s (sealed s) i) (if has_keys root links keyed r then port root links keyed (region.BackwardKeys r) (child_of root links keyed items r) ∷ [] else [])) (forward_row r i less l)

  -- ---- the root
  and_end : (c : Bool) → (c && true) ≡ c
  and_end true = refl
  and_end false = refl

  no_keys : (r i : ℕ) → r < length items → i < get_or items r 0 → has_keys root links keyed r ≡ false → passes_backward s root links keyed items r i ≡ passes_forward s root links keyed items r i
  no_keys r i less l off = row_passes r i less l
      ∙ ap (λ (k : Bool). passes_forward s root links keyed items r i && list_all (answers s (sealed s) i) (if k then port root links keyed (region.BackwardKeys r) (child_of root links keyed items r) ∷ [] else [])) off
      ∙ and_end (passes_forward s root links keyed items r i)

  root_no_keys : (k : Bool) → (k && not (eqb root root)) ≡ false
  root_no_keys true = ap not (eq-eqb root root refl)
  root_no_keys false = refl

  -- each item of the root that passes forward passes backward
  pub passes_top : (i : ℕ) → i < get_or items root 0 → passes_backward s root links keyed items root i ≡ passes_forward s root links keyed items root i
  passes_top i l = no_keys root i T.parents.first l (root_no_keys keyed)

  -- ---- where no keys are passed, all items pass
  pub all_forward : keyed ≡ false → (r i : ℕ) → passes_forward s root links keyed items r i ≡ true
  all_forward off r i = ap (λ (k : Bool). list_all (answers s (sealed s) i) (if k then map (λ c. port root links keyed (region.ForwardKeys c) (parent_of root links keyed items c)) (children links r) else [])) off

  pub all_backward : keyed ≡ false → (r i : ℕ) → r < length items → i < get_or items r 0 → passes_backward s root links keyed items r i ≡ true
  all_backward off r i less l = no_keys r i less l (ap (λ (k : Bool). k && not (eqb r root)) off) ∙ all_forward off r i

  -- ---- where they are, by numbers
  module _ (on : keyed ≡ true) where
    child_number : (l : Link) → Among l links → (j : ℕ) → get_or (places_at s (C l)).numbers j 0 ≡ get_or (edge_of links edges l).child.numbers j 0
    child_number l a j = ap (λ (p : Places). get_or p.numbers j 0) (T.child on l a)

    parent_number : (l : Link) → Among l links → (i : ℕ) → get_or (places_at s (P l)).numbers i 0 ≡ get_or (edge_of links edges l).parent.numbers i 0
    parent_number l a i = ap (λ (p : Places). get_or p.numbers i 0) (T.parent on l a)

    abbrev pub up_read : Link → Port
    up_read l = port root links keyed (region.ForwardKeys l.child) (P l)

    abbrev pub up_write : Link → Port
    up_write l = port root links keyed (region.ForwardKeys l.child) (C l)

    abbrev pub down_read : Link → Port
    down_read l = port root links keyed (region.BackwardKeys l.child) (C l)

    abbrev pub down_write : Link → Port
    down_write l = port root links keyed (region.BackwardKeys l.child) (P l)

    pub up_there : (l : Link) → Among l links → Stands no_port (f l.child).writes (up_write l)
    up_there l a = keys_port root links keyed items l.child (not_root (length items) root links keyed items T.parents l a on)

    pub down_there : (l : Link) → Among l links → Stands no_port (b l.parent).writes (down_write l)
    down_there l a = down_port root links keyed items l.parent l.child on (is_child l links a)

    put_up : (l : Link) → Among l links → (i : ℕ) → HasChild s root links keyed items edges l i → Puts s (f l.child) (up_write l) (number_at s (up_read l) i)
    put_up l a i (j, less, pass, one) = (j, less, pass, child_number l a j ∙ one ∙ sym (parent_number l a i))

    put_down : (l : Link) → Among l links → (i : ℕ) → HasParent s root links keyed items edges l i → Puts s (b l.parent) (down_write l) (number_at s (down_read l) i)
    put_down l a i (j, less, pass, one) = (j, less, pass, parent_number l a j ∙ sym one ∙ sym (child_number l a i))

    child_kind : (l : Link) → Among l links → (places_at s (C l)).kind ≡ (edge_of links edges l).child.kind
    child_kind l a = ap (λ (p : Places). p.kind) (T.child on l a)

    parent_kind : (l : Link) → Among l links → (places_at s (P l)).kind ≡ (edge_of links edges l).parent.kind
    parent_kind l a = ap (λ (p : Places). p.kind) (T.parent on l a)

    pub parent_member : (l : Link) → Among l links → has l.parent M ≡ true
    parent_member l a = parent_listed (length items) root links T.parents l a

    -- equal numbers are seen, with placements of any kind
    up_seen : (l : Link) → Among l links → (edge_of links edges l).child.kind ≡ (edge_of links edges l).parent.kind → (i : ℕ) → HasChild s root links keyed items edges l i → answers s (sealed s) i (up_read l) ≡ true
    up_seen l a alike i has_it = answers_put_number s T.valid (f l.child) (up_write l) (up_read l) i (forward_there l.child (child_member l a)) (up_there l a) refl
        (child_kind l a ∙ alike ∙ sym (parent_kind l a)) (put_up l a i has_it)

    down_seen : (l : Link) → Among l links → (edge_of links edges l).child.kind ≡ (edge_of links edges l).parent.kind → (i : ℕ) → HasParent s root links keyed items edges l i → answers s (sealed s) i (down_read l) ≡ true
    down_seen l a alike i has_it = answers_put_number s T.valid (b l.parent) (down_write l) (down_read l) i (backward_there l.parent (parent_member l a)) (down_there l a) refl
        (parent_kind l a ∙ sym alike ∙ sym (child_kind l a)) (put_down l a i has_it)

    -- and with exact ones no others
    up_exact : (l : Link) → Among l links → (edge_of links edges l).child.kind ≡ Exact → (edge_of links edges l).parent.kind ≡ Exact → (i : ℕ) → answers s (sealed s) i (up_read l) ≡ true → HasChild s root links keyed items edges l i
    up_exact l a x y i yes_ =
        let w = (answers_number s T.valid (f l.child) (up_write l) (up_read l) i (forward_there l.child (child_member l a)) (up_there l a) refl (child_kind l a ∙ x) (parent_kind l a ∙ y)).0 yes_ in
        (w.0, w.1, w.2, sym (child_number l a w.0) ∙ w.3 ∙ parent_number l a i)

    down_exact : (l : Link) → Among l links → (edge_of links edges l).child.kind ≡ Exact → (edge_of links edges l).parent.kind ≡ Exact → (i : ℕ) → answers s (sealed s) i (down_read l) ≡ true → HasParent s root links keyed items edges l i
    down_exact l a x y i yes_ =
        let w = (answers_number s T.valid (b l.parent) (down_write l) (down_read l) i (backward_there l.parent (parent_member l a)) (down_there l a) refl (parent_kind l a ∙ y) (child_kind l a ∙ x)).0 yes_ in
        (w.0, w.1, w.2, sym (child_number l a i) ∙ sym w.3 ∙ parent_number l a w.0)

    -- ---- what the pipes read
    pub forward_reads : (r i : ℕ) → passes_forward s root links keyed items r i ≡ list_all (λ c. answers s (sealed s) i (port root links keyed (region.ForwardKeys c) (parent_of root links keyed items c))) (children links r)
    forward_reads r i = ap (λ (k : Bool). list_all (answers s (sealed s) i) (if k then map (λ c. port root links keyed (region.ForwardKeys c) (parent_of root links keyed items c)) (children links r) else [])) on
        ∙ list_all-map (answers s (sealed s) i) (λ c. port root links keyed (region.ForwardKeys c) (parent_of root links keyed items c)) (children links r)

    -- an item passes forward where each child has its number
    pub forward_seen : (r i : ℕ) → ((l : Link) → Among l links → (edge_of links edges l).child.kind ≡ (edge_of links edges l).parent.kind)
        → ((l : Link) → Among l links → l.parent ≡ r → HasChild s root links keyed items edges l i) → passes_forward s root links keyed items r i ≡ true
    forward_seen r i alike each = forward_reads r i ∙ all_children (λ c. answers s (sealed s) i (port root links keyed (region.ForwardKeys c) (parent_of root links keyed items c))) r links (λ l a e. up_seen l a (alike l a) i (each l a e))

    pub forward_exact : (r i : ℕ) → passes_forward s root links keyed items r i ≡ true → (l : Link) → Among l links → l.parent ≡ r → (edge_of links edges l).child.kind ≡ Exact → (edge_of links edges l).parent.kind ≡ Exact → HasChild s root links keyed items edges l i
    forward_exact r i pass l a e x y = up_exact l a x y i (each_child (λ c. answers s (sealed s) i (port root links keyed (region.ForwardKeys c) (parent_of root links keyed items c))) r links (sym (forward_reads r i) ∙ pass) l a e)

    -- a child's item passes backward where it passed forward and the region of the parent's keys answers yes
    pub backward_reads : (l : Link) → Among l links → (i : ℕ) → i < get_or items l.child 0 → passes_backward s root links keyed items l.child i ≡ (passes_forward s root links keyed items l.child i && answers s (sealed s) i (down_read l))
    backward_reads l a i less = row_passes l.child i (member_within (length items) root links T.parents l.child (child_member l a)) less
        ∙ ap (λ (k : Bool). passes_forward s root links keyed items l.child i && list_all (answers s (sealed s) i) (if k then port root links keyed (region.BackwardKeys l.child) (child_of root links keyed items l.child) ∷ [] else [])) (not_root (length items) root links keyed items T.parents l a on)
        ∙ ap (λ (c : Bool). passes_forward s root links keyed items l.child i && c) (and_end (answers s (sealed s) i (down_read l)))

    pub backward_seen : (l : Link) → Among l links → (i : ℕ) → i < get_or items l.child 0 → (edge_of links edges l).child.kind ≡ (edge_of links edges l).parent.kind
        → passes_forward s root links keyed items l.child i ≡ true → HasParent s root links keyed items edges l i → passes_backward s root links keyed items l.child i ≡ true
    backward_seen l a i less alike pass has_it = backward_reads l a i less ∙ and_from _ _ pass (down_seen l a alike i has_it)

    pub backward_exact : (l : Link) → Among l links → (i : ℕ) → i < get_or items l.child 0 → (edge_of links edges l).child.kind ≡ Exact → (edge_of links edges l).parent.kind ≡ Exact
        → passes_backward s root links keyed items l.child i ≡ true → (passes_forward s root links keyed items l.child i ≡ true) × HasParent s root links keyed items edges l i
    backward_exact l a i less x y pass = let t = and_parts (passes_forward s root links keyed items l.child i) (answers s (sealed s) i (down_read l)) (sym (backward_reads l a i less) ∙ pass) in (t.0, down_exact l a x y i t.1)
