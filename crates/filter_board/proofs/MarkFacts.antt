-- Marks of pipes, and masks.
use Rattle.std.proofs.Common.{◌≡◌, ℕ, zero, suc, ◌<◌, List, [], ◌∷◌, length, get_or, Bool, true, false, ◌||◌, refl, sym, ap, ◌∙◌, arith}
use Rattle.std.specs.Prelude.{bit_or}
use Rattle.std.specs.Int.Bits.{or_zero_r}
use Rattle.rpt_base.proofs.NumberFacts.{or_assoc}
use Rattle.transfer_core.specs.Actors.{is_marked}
use Rattle.filter_board.specs.Runs.{with_masks}
use Rattle.filter_board.specs.Shares.{either}

pub or_true : (b c : Bool) (F : Type 0) → (b ≡ true → F) → (c ≡ true → F) → b || c ≡ true → F
or_true true c F l r e = l refl
or_true false c F l r e = r e

or_false : (b : Bool) → b ≡ (b || false)
or_false true = refl
or_false false = refl

pub marked-either : (a b : List Bool) (p : ℕ) → is_marked (either a b) p ≡ (is_marked a p || is_marked b p)
marked-either [] b p = refl
marked-either (x ∷ xs) [] zero = or_false x
marked-either (x ∷ xs) [] (suc p) = or_false (is_marked xs p)
marked-either (x ∷ xs) (y ∷ ys) zero = refl
marked-either (x ∷ xs) (y ∷ ys) (suc p) = marked-either xs ys p

pub either_is : (a b l : List Bool) → length a ≡ length l → length b ≡ length l → ((k : ℕ) → k < length l → get_or l k false ≡ (get_or a k false || get_or b k false)) → l ≡ either a b
either_is [] [] [] e f h = refl
either_is [] (y ∷ ys) [] e f h = absurd (omega arith)
either_is (x ∷ xs) b [] e f h = absurd (omega arith)
either_is [] b (z ∷ zs) e f h = absurd (omega arith)
either_is (x ∷ xs) [] (z ∷ zs) e f h = absurd (omega arith)
either_is (x ∷ xs) (y ∷ ys) (z ∷ zs) e f h = λ i. h 0 (omega arith) i ∷ either_is xs ys zs (omega arith) (omega arith) (λ k l. h (suc k) (omega arith)) i

-- ---- masks that are or'd into a number

or_first : (mask : ℕ → ℕ) (a b : ℕ) (items : List ℕ) → with_masks mask (bit_or a b) items ≡ bit_or a (with_masks mask b items)
or_first mask a b [] = refl
or_first mask a b (i ∷ items) = ap (λ (n : ℕ). with_masks mask n items) (or_assoc a b (mask i)) ∙ or_first mask a (bit_or b (mask i)) items

-- one after the other, or all at once
pub or_masks : (mask : ℕ → ℕ) (n : ℕ) (items : List ℕ) → with_masks mask n items ≡ bit_or n (with_masks mask 0 items)
or_masks mask n items = ap (λ (k : ℕ). with_masks mask k items) (sym (or_zero_r n)) ∙ or_first mask n 0 items
