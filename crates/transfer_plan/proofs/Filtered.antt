-- A region of keys is the filter of the items that pass.
use Rattle.std.proofs.Common.{◌≡◌, ℕ, ◌==◌, List, get_or, Bool, true, ◌&&◌, refl, sym, ap, ◌∙◌, cond}
use Rattle.std.specs.Prelude.{bit_and}
use lib.ListN.{get_elem?}
use mathlib.Core.Option.{some}
use Rattle.join_graph.specs.declared.tree.Link.{Link}
use Rattle.key_codes.specs.Placement.{Places, place_of, place_of_number}
use Rattle.key_codes.specs.declared.places.Place.{Place}
use Rattle.transfer_core.specs.declared.plan.Pipe.{Pipe}
use Rattle.transfer_core.specs.declared.plan.Port.{Port}
use Rattle.transfer_core.specs.Job.{no_port}
use Rattle.transfer_core.specs.Plans.{Shape, no_pipe, place_at, places_at, words_of}
use Rattle.transfer_core.specs.Sealed.{answers, passes, put_of, sealed}
use Rattle.transfer_core.proofs.Lists.{at_place}
use Rattle.transfer_core.proofs.Regions.{or_same, sealed_is}
use Rattle.transfer_plan.specs.Passing.{edge_of, filter_has, filter_word, passes_backward, passes_forward}
use Rattle.transfer_plan.specs.TransferPlan.{SeenEdge, backward_pipe, forward_pipe}
use Rattle.transfer_plan.proofs.Earlier.{Among}
use Rattle.transfer_plan.proofs.Numbered.{IsTreeShape, Stands, backward_there, child_member, down_read, down_there, down_write, forward_there, parent_member, up_read, up_there, up_write}

module _ (s : Shape) (root : ℕ) (links : List Link) (keyed : Bool) (items : List ℕ) (edges : List SeenEdge) (T : IsTreeShape s root links keyed items edges) where
  stands_at : {A : Type 0} (d : A) (xs : List A) (x : A) (t : Stands d xs x) → get_elem? xs t.0 ≡ some x
  stands_at d xs x t = at_place xs t.0 d t.1 ∙ ap some t.2

  -- a port by which a pipe puts its items, and one that reads the same region
  region_answers : (x : Pipe) (a b : Port) (put read : Places) (words i : ℕ) → Stands no_pipe s.pipes x → Stands no_port x.writes a → b.region ≡ a.region
      → places_at s a.places ≡ put → places_at s b.places ≡ read → put.kind ≡ read.kind → words_of s a.region ≡ words
      → answers s (sealed s) i b ≡ filter_has read.kind words put.numbers x.items (λ j. passes s (sealed s) j x.reads) (get_or read.numbers i 0)
  region_answers x a b put read words i pipe there same puts reads alike size =
      let n : ℕ = get_or read.numbers i 0 in
      let z : Place = place_of_number read.kind n words in
      let put_place : (j : ℕ) → place_at s a j ≡ place_of_number read.kind (get_or put.numbers j 0) words
      = λ j k. place_of_number (alike_kind k) (get_or (puts k).numbers j 0) (size k) in
      let word_is : (w : ℕ) → sealed s a.region w ≡ filter_word read.kind words put.numbers x.items (λ j. passes s (sealed s) j x.reads) w
      = λ w. sealed_is s T.valid pipe.0 x (stands_at no_pipe s.pipes x pipe) there.0 a (stands_at no_port x.writes a there) w
      ∙ or_same (put_of s (sealed s) x.reads a w) (λ j. cond (passes s (sealed s) j x.reads && ((place_of_number read.kind (get_or put.numbers j 0) words).word == w)) (place_of_number read.kind (get_or put.numbers j 0) words).mask 0) x.items
      (λ j. ap (λ (p : Place). cond (passes s (sealed s) j x.reads && (p.word == w)) p.mask 0) (put_place j)) in
      let read_place : place_at s b i ≡ z = λ k. place_of (reads k) i ((ap (words_of s) same ∙ size) k) in
      ap (λ (p : Place). bit_and (sealed s b.region p.word) p.mask == p.mask) read_place
      ∙ ap (λ (r : ℕ). bit_and (sealed s r z.word) z.mask == z.mask) same
      ∙ ap (λ (v : ℕ). bit_and v z.mask == z.mask) (word_is z.word)
    where
      alike_kind : (places_at s a.places).kind ≡ read.kind
      alike_kind = ap (λ (p : Places). p.kind) puts ∙ alike

  module _ (on : keyed ≡ true) (l : Link) (among : Among l links) where
    abbrev e : SeenEdge
    e = edge_of links edges l

    -- the region of a child's keys
    pub up_filter : e.child.kind ≡ e.parent.kind → (i : ℕ) → answers s (sealed s) i (up_read s root links keyed items edges T on l)
        ≡ filter_has e.parent.kind e.forward_words e.child.numbers (get_or items l.child 0) (passes_forward s root links keyed items l.child) (get_or e.parent.numbers i 0)
    up_filter alike i = region_answers (forward_pipe root links keyed items l.child) (up_write s root links keyed items edges T on l) (up_read s root links keyed items edges T on l) e.child e.parent e.forward_words i
        (forward_there s root links keyed items edges T l.child (child_member s root links keyed items edges T l among)) (up_there s root links keyed items edges T on l among) refl
        (T.child on l among) (T.parent on l among) alike (T.forward_words on l among)

    -- and that of its parent's
    pub down_filter : e.child.kind ≡ e.parent.kind → (i : ℕ) → answers s (sealed s) i (down_read s root links keyed items edges T on l)
        ≡ filter_has e.child.kind e.backward_words e.parent.numbers (get_or items l.parent 0) (passes_backward s root links keyed items l.parent) (get_or e.child.numbers i 0)
    down_filter alike i = region_answers (backward_pipe root links keyed items l.parent) (down_write s root links keyed items edges T on l) (down_read s root links keyed items edges T on l) e.parent e.child e.backward_words i
        (backward_there s root links keyed items edges T l.parent (parent_member s root links keyed items edges T on l among)) (down_there s root links keyed items edges T on l among) refl
        (T.parent on l among) (T.child on l among) (sym alike) (T.backward_words on l among)
