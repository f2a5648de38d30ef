-- The hands that a board is made with have all of its parts.
use Rattle.std.proofs.Common.{◌≡◌, ◌∙◌, ℕ, zero, suc, List, ap, arith}
use Rattle.std.specs.Prelude.{replicate}
use Rattle.filter_board.specs.Shares.{parts_of}
use Rattle.filter_board.specs.Views.{HandView, TableId, first_hand}
use Rattle.transfer_pass.specs.Rounds.{all_parts}

alike-parts : (of : TableId) (n : ℕ) → all_parts (replicate n (first_hand of)) ≡ parts_of n
alike-parts of zero = omega arith
alike-parts of (suc n) = omega (arith, alike-parts of n)

pub first-parts : (of : TableId) (n : ℕ) (hands : List HandView) → hands ≡ replicate n (first_hand of) → all_parts hands ≡ parts_of n
first-parts of n hands are = ap all_parts are ∙ alike-parts of n
