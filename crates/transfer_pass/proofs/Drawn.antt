-- Numbers that are drawn rise.
use Rattle.std.proofs.Common.{◌≡◌, ℕ, ◌+◌, ◌-◌, ◌<◌, ◌≤◌, List, [], ◌∷◌, ◌++◌, max, if◌then◌else◌, Bool, true, false, eqb, eq-eqb, arith, ap, refl}
use Rattle.transfer_core.specs.Actors.{Actor, holding, morsels_of}
use Rattle.transfer_core.specs.Counts.{times}
use Rattle.filter_board.specs.Shares.{HasFinishedBelow}
use Rattle.transfer_core.proofs.Sums.{only_yes}

-- one more than the greatest
pub after_all : List ℕ → ℕ
after_all [] = 0
after_all (x ∷ xs) = max (x + 1) (after_all xs)

after_below : (m : ℕ) (xs : List ℕ) → ((x : ℕ) → 0 < times x xs → x < m) → after_all xs ≤ m
unfolding after_all
after_below m [] all = omega arith
after_below m (x ∷ xs) all = omega (arith, all x (omega (arith, only_yes x x refl)), after_below m xs (λ y some. all y (omega arith)))

after_last : (m : ℕ) (xs : List ℕ) → m < after_all (xs ++ m ∷ [])
unfolding after_all
after_last m [] = omega arith
after_last m (x ∷ xs) = omega (arith, after_last m xs)

-- one more morsel of a pipe is the last of its morsels
one_more : (p m : ℕ) (xs : List (ℕ × ℕ)) → morsels_of p (xs ++ (p, m) ∷ []) ≡ morsels_of p xs ++ m ∷ []
one_more p m [] = ap (λ b. if b then m ∷ [] else []) (eq-eqb p p refl)
one_more p m (x ∷ xs) = by (eqb x.0 p) (one_more p m xs)
  where
    by : (b : Bool) → morsels_of p (xs ++ (p, m) ∷ []) ≡ morsels_of p xs ++ m ∷ []
        → (if b then x.1 ∷ morsels_of p (xs ++ (p, m) ∷ []) else morsels_of p (xs ++ (p, m) ∷ [])) ≡ (if b then x.1 ∷ morsels_of p xs else morsels_of p xs) ++ m ∷ []
    by true e = ap (λ l. x.1 ∷ l) e
    by false e = e

-- fewer morsels are left once one more is finished
pub fewer_left : (p m morsels : ℕ) (a : Actor) → m < morsels → HasFinishedBelow m p a
    → morsels - after_all (morsels_of p (a.finished ++ holding p m)) < morsels - after_all (morsels_of p a.finished)
fewer_left p m morsels a less below =
    omega (arith, ap after_all (one_more p m a.finished), after_below m (morsels_of p a.finished) below, after_last m (morsels_of p a.finished))
