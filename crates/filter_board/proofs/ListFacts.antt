-- Lists that grow, and pipes by their numbers.
use Rattle.std.proofs.Common.{◌≡◌, ◌↔◌, ℕ, zero, suc, ◌+◌, ◌<◌, List, [], ◌∷◌, ◌++◌, length, get_or, drop, Bool, true, ◌&&◌, ◌||◌, eqb, eq-eqb, refl, ◌∙◌, subst, arith}
use Rattle.std.specs.List.{list_all, list_any}
use Rattle.std.proofs.lemmas.Bool.{eqb-true}
use lib.ListN.{get_elem?}
use Rattle.rpt_base.proofs.ListFacts.{any_from, all_from}
use Rattle.transfer_core.specs.declared.plan.Pipe.{Pipe}
use Rattle.transfer_core.specs.declared.plan.Port.{Port}
use Rattle.transfer_core.specs.Actors.{is_marked}
use Rattle.transfer_core.specs.Job.{writer}
use Rattle.transfer_core.proofs.ValidFacts.{all_at, any_at}

-- what holds of each member, and of one more that is pushed
pub each_pushed : {A : Type 0} (P : ℕ → A → Type 0) (l : List A) (x d : A) → ((r : ℕ) → r < length l → P r (get_or l r d)) → P (length l) x → (r : ℕ) → r < length l + 1 → P r (get_or (l ++ x ∷ []) r d)
each_pushed P [] x d h e zero less = e
each_pushed P [] x d h e (suc r) less = absurd (omega arith)
each_pushed P (y ∷ ys) x d h e zero less = h 0 (omega arith)
each_pushed P (y ∷ ys) x d h e (suc r) less = each_pushed (λ k. P (suc k)) ys x d (λ k l. h (suc k) (omega arith)) e r (omega arith)

-- ---- the pipe that writes a region

pub writer_past : (pipes : List Pipe) (i r : ℕ) → length pipes < i + 1 → writer (drop i pipes) r ≡ 0
writer_past [] zero r l = refl
writer_past [] (suc i) r l = refl
writer_past (x ∷ xs) zero r l = absurd (omega arith)
writer_past (x ∷ xs) (suc i) r l = writer_past xs i r (omega arith)

-- ---- which pipes these ports read from

-- the writers of all ports are marked exactly where each pipe is that one of the ports reads from
pub writers_marked : (marks : List Bool) (pipes : List Pipe) (reads : List Port)
    → (list_all (λ (a : Port). is_marked marks (writer pipes a.region)) reads ≡ true) ↔ ((o : ℕ) → list_any (λ (a : Port). eqb (writer pipes a.region) o) reads ≡ true → is_marked marks o ≡ true)
writers_marked marks pipes reads = (
  λ all o h. let t = any_at (λ (b : Port). eqb (writer pipes b.region) o) reads h in
      subst (λ (n : ℕ). is_marked marks n ≡ true) (eqb-true (writer pipes t.1.region) o t.3) (all_at (λ (b : Port). is_marked marks (writer pipes b.region)) reads t.0 t.1 all t.2),
  λ each. all_from (λ (b : Port). is_marked marks (writer pipes b.region)) reads (λ q a e. each (writer pipes a.region)
      (any_from (λ (b : Port). eqb (writer pipes b.region) (writer pipes a.region)) reads q a e (eq-eqb (writer pipes a.region) (writer pipes a.region) refl))),
)
