-- Puts that are listed.
use Rattle.std.proofs.Common.{◌≡◌, ℕ, zero, suc, All, arith, List, [], ◌∷◌, ◌++◌, Bool, true, false, ◌||◌, ◌&&◌, if◌then◌else◌, eqb, eq-eqb, refl, sym, ap, ◌∙◌}
use Rattle.std.specs.Prelude.{fold}
use Rattle.transfer_core.specs.Actors.{Actor, is_listed}
use Rattle.transfer_core.specs.Job.{Job}
use Rattle.filter_board.specs.Runs.{MayPut, with_listed}
use Rattle.filter_board.specs.Views.{HandView}
use Rattle.transfer_pass.specs.Work.{with_puts}

either_yes : (b : Bool) {c d : Bool} → (c ≡ true → d ≡ true) → (b || c) ≡ true → (b || d) ≡ true
either_yes true f e = refl
either_yes false f e = f e

one_yes : (b : Bool) {c : Bool} → c ≡ true → (b || c) ≡ true
one_yes true e = refl
one_yes false e = e

longer : (i q : ℕ) (xs ys : List (ℕ × ℕ)) → is_listed i q xs ≡ true → is_listed i q (xs ++ ys) ≡ true
longer i q [] ys e = cc e
longer i q (x ∷ xs) ys e = either_yes (eqb x.0 i && eqb x.1 q) (longer i q xs ys) e

last : (i q : ℕ) (xs : List (ℕ × ℕ)) → is_listed i q (xs ++ (i, q) ∷ []) ≡ true
last i q [] = λ k. (eq-eqb i i refl k && eq-eqb q q refl k) || false
last i q (x ∷ xs) = one_yes (eqb x.0 i && eqb x.1 q) (last i q xs)

still : (b : Bool) (i q : ℕ) (xs ys : List (ℕ × ℕ)) → is_listed i q xs ≡ true → is_listed i q (if b then xs else xs ++ ys) ≡ true
still true i q xs ys e = e
still false i q xs ys e = longer i q xs ys e

now : (b : Bool) (i q : ℕ) (xs : List (ℕ × ℕ)) → is_listed i q xs ≡ b → is_listed i q (if b then xs else xs ++ (i, q) ∷ []) ≡ true
now true i q xs e = e
now false i q xs e = last i q xs

listed_still : (i q item port : ℕ) (puts : List (ℕ × ℕ)) → is_listed i q puts ≡ true → is_listed i q (with_listed port puts item) ≡ true
listed_still i q item port puts e = still (is_listed item port puts) i q puts ((item, port) ∷ []) e

listed_now : (item port : ℕ) (puts : List (ℕ × ℕ)) → is_listed item port (with_listed port puts item) ≡ true
listed_now item port puts = now (is_listed item port puts) item port puts refl

-- ---- the puts of many items by one port
pub all_still : (i q port : ℕ) (items : List ℕ) (puts : List (ℕ × ℕ)) → is_listed i q puts ≡ true → is_listed i q (fold (with_listed port) puts items) ≡ true
all_still i q port [] puts e = e
all_still i q port (x ∷ items) puts e = all_still i q port items (with_listed port puts x) (listed_still i q x port puts e)

pub all_now : (port : ℕ) (items : List ℕ) (puts : List (ℕ × ℕ)) → All (λ i. is_listed i port (fold (with_listed port) puts items) ≡ true) items
all_now port [] puts k d l = absurd (omega arith)
all_now port (x ∷ items) puts zero d l = all_still x port port items (with_listed port puts x) (listed_now x port puts)
all_now port (x ∷ items) puts (suc k) d l = all_now port items (with_listed port puts x) k d (omega arith)

-- an actor that holds the same may put the same
pub may_still : (j : Job) (p q : ℕ) (a b : Actor) (items : List ℕ) → a.held ≡ b.held → All (MayPut j p q b) items → All (MayPut j p q a) items
may_still j p q a b items held may = λ k d l. let t = may k d l in record { passing = t.passing; holds = held ∙ t.holds }

-- two calls that change the puts alone
pub same_but_puts : (a b c : HandView) (puts : List (ℕ × ℕ)) → a ≡ with_puts puts b → b ≡ with_puts b.actor.puts c → a ≡ with_puts a.actor.puts c
same_but_puts a b c puts e f =
    e ∙ ap (with_puts puts) f ∙ ap (λ (l : List (ℕ × ℕ)). with_puts l c) (sym (ap (λ (h : HandView). h.actor.puts) e))
