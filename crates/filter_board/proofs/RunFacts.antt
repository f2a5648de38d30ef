-- Runs of items that grow, and the puts of a list that is cut into runs.
use Rattle.std.proofs.Common.{◌≡◌, ℕ, ◌+◌, ◌-◌, ◌<◌, ◌≤◌, List, ◌++◌, All, length, get_or, get_or-drop, length-drop, take, drop, take-add, sym, refl, ap, ◌∙◌, subst, arith}
use Rattle.std.specs.Prelude.{bit_or, fold, slice_range}
use Rattle.std.proofs.lemmas.List.Elements.{All-drop, All-more, All-take}
use Rattle.std.proofs.lemmas.List.Sums.{fold-append, fold_more}
use Rattle.key_codes.specs.Placement.{Places}
use Rattle.transfer_core.specs.Actors.{Actor, actor}
use Rattle.transfer_core.specs.Job.{Job}
use Rattle.filter_board.specs.Runs.{MayPut, with_all_put, with_listed}
use Rattle.filter_board.specs.Views.{BoardView, HandView, IsRun, index_of_item, job_in, with_actor}

module _ {P : Type 0} (seen : P → Places) (b : BoardView P) (p q : ℕ) (items : List ℕ) where
  -- a run that has no item yet
  pub run_none : (n at : ℕ) → IsRun seen b p q (slice_range items n n) at 0
  run_none n at = subst (λ (k : ℕ). IsRun seen b p q (take k (drop n items)) at 0) (let e : 0 ≡ n - n = omega arith in e)
      record { places = λ k d l. absurd (omega arith); masks = refl }

  -- one more item
  pub run_more : (start next at mask more : ℕ) → start ≤ next → next < length items → IsRun seen b p q (slice_range items start next) at mask
      → at ≡ index_of_item seen b p (get_or items next 0) q → more ≡ (job_in seen b).mask p (get_or items next 0) q → IsRun seen b p q (slice_range items start (next + 1)) at (bit_or mask more)
  run_more start next at mask more le less f e m =
      let n : ℕ = next - start in
      let rest : List ℕ = drop start items in
      let there : start + n ≡ next = omega arith in
      let here : get_or items next 0 ≡ get_or rest n 0 = sym (get_or-drop start items n 0 ∙ ap (λ (k : ℕ). get_or items k 0) there) in
      let long : n < length rest = omega (arith, length-drop start items) in
      subst (λ (k : ℕ). IsRun seen b p q (take k rest) at (bit_or mask more)) (let h : n + 1 ≡ next + 1 - start = omega arith in h) record {
        places = All-more (λ i. at ≡ index_of_item seen b p i q) rest n 0 long f.places (subst (λ (i : ℕ). at ≡ index_of_item seen b p i q) here e);
        masks = (λ k. bit_or (f.masks k) ((m ∙ ap (λ (i : ℕ). (job_in seen b).mask p i q) here) k)) ∙ sym (fold_more (λ m i. bit_or m ((job_in seen b).mask p i q)) 0 rest n 0 long);
      }

-- the items up to `next` are put once the run that ends there is
pub put_more : (a b c : HandView) (q : ℕ) (items : List ℕ) (start next : ℕ) → start ≤ next → b ≡ with_actor (with_all_put (take start items) q) c
    → a ≡ with_actor (with_all_put (slice_range items start next) q) b → a ≡ with_actor (with_all_put (take next items) q) c
put_more a b c q items start next le before after =
    after ∙ ap (with_actor (with_all_put (slice_range items start next) q)) before ∙ ap (λ (puts : List (ℕ × ℕ)). with_actor (λ v. actor v.held puts v.finished v.seen) c)
    (sym (fold-append (with_listed q) c.actor.puts (take start items) (slice_range items start next)) ∙ ap (fold (with_listed q) c.actor.puts) joined)
  where
    joined : take start items ++ slice_range items start next ≡ take next items
    joined = sym (take-add start (next - start) items) ∙ ap (λ (k : ℕ). take k items) (let e : start + (next - start) ≡ next = omega arith in e)

-- an actor that holds the same may put the same, and may put each part of it
pub may_part : (j : Job) (p q : ℕ) (a b : Actor) (items : List ℕ) (start next : ℕ) → a.held ≡ b.held → All (MayPut j p q b) items → All (MayPut j p q a) (slice_range items start next)
may_part j p q a b items start next held may = λ k d l. let t = All-take (MayPut j p q b) (next - start) (drop start items) (All-drop (MayPut j p q b) start items may) k d l in
    record { passing = t.passing; holds = held ∙ t.holds }
