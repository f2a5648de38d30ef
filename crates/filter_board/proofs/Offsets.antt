-- Regions that lie side by side.
use Rattle.std.proofs.Common.{◌≡◌, ℕ, zero, suc, ◌+◌, ◌<◌, ◌≤◌, List, [], ◌∷◌, length, get_or, sym, refl, ap, ◌∙◌, arith}
use Rattle.transfer_core.specs.Counts.{total}
use Rattle.transfer_core.proofs.Lists.{at_index, place_of_at}
use Rattle.filter_board.specs.Layout.{AreStarts, offset}

pub offset_in : (ws : List ℕ) (r x : ℕ) → r < length ws → x < get_or ws r 0 → offset ws r + x < total (λ w. w) ws
offset_in [] r x h l = absurd (omega arith)
offset_in (w ∷ ws) zero x h l = omega arith
offset_in (w ∷ ws) (suc r) x h l = omega (arith, offset_in ws r x (omega arith) l)

-- two words that stand at one place are the same
pub offset_same : (ws : List ℕ) (r x o y : ℕ) → r < length ws → x < get_or ws r 0 → o < length ws → y < get_or ws o 0 → offset ws r + x ≡ offset ws o + y → (r ≡ o) × (x ≡ y)
offset_same [] r x o y h l i m e = absurd (omega arith)
offset_same (w ∷ ws) zero x zero y h l i m e = (refl, omega (arith, e))
offset_same (w ∷ ws) zero x (suc o) y h l i m e = absurd (omega (arith, l, e))
offset_same (w ∷ ws) (suc r) x zero y h l i m e = absurd (omega (arith, m, e))
offset_same (w ∷ ws) (suc r) x (suc o) y h l i m e = let t = offset_same ws r x o y (omega arith) l (omega arith) m (omega (arith, e)) in (ap suc t.0, t.1)

pub offset_first : (ws : List ℕ) → offset ws 0 ≡ 0
offset_first [] = refl
offset_first (w ∷ ws) = refl

-- the region after the last one would begin where all words end
pub offset_all : (ws : List ℕ) → offset ws (length ws) ≡ total (λ w. w) ws
offset_all [] = refl
offset_all (w ∷ ws) = omega (arith, offset_all ws)

pub offset_more : (ws : List ℕ) (r : ℕ) → r < length ws → offset ws (r + 1) ≡ offset ws r + get_or ws r 0
offset_more [] r h = absurd (omega arith)
offset_more (w ∷ []) zero h = omega arith
offset_more (w ∷ v ∷ ws) zero h = omega arith
offset_more (w ∷ ws) (suc r) h = let e : suc r + 1 ≡ suc (r + 1) = omega arith in omega (arith, ap (offset (w ∷ ws)) e, offset_more ws r (omega arith))

-- a region ends where all words end, or before
pub offset_room : (ws : List ℕ) (r : ℕ) → r < length ws → offset ws r + get_or ws r 0 ≤ total (λ w. w) ws
offset_room [] r h = absurd (omega arith)
offset_room (w ∷ ws) zero h = omega arith
offset_room (w ∷ ws) (suc r) h = omega (arith, offset_room ws r (omega arith))

-- a start that an index gave
pub start_is : (counts starts : List ℕ) (r x : ℕ) → AreStarts counts starts → r < length counts → x ≡ get_or starts r x → x ≡ offset counts r
start_is counts starts r x f less is = sym (place_of_at starts r x 0 (at_index starts r x (omega (arith, less, f.count)) is)) ∙ f.each r less
