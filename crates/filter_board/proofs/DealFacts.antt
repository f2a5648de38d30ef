-- A hand for each worker.
use Rattle.std.proofs.Common.{◌≡◌, ℕ, zero, suc, ◌+◌, ◌-◌, ◌<◌, List, [], ◌∷◌, ◌++◌, get_or, refl, ap, ◌∙◌, arith}
use Rattle.std.specs.Prelude.{replicate}
use Rattle.std.proofs.lemmas.List.{replicate-append-replicate}
use Rattle.atomic_table.specs.Seated.{TableId}
use Rattle.atomic_table.specs.Table.{Me}
use Rattle.filter_board.specs.declared.share.Share.{Share}
use Rattle.filter_board.specs.Shares.{fresh, less, parts_of}
use Rattle.filter_board.specs.Views.{HandView, hand_of}

abbrev Seat : Type 0
Seat = Me (Unit {0}) Share

-- what stays when a worker's parts go
pub left_less : (w c : ℕ) (me new : Seat) → c < w → new ≡ (less (parts_of 1) me.0, me.1) → me ≡ (fresh (parts_of (w + 1 - c)), []) → new ≡ (fresh (parts_of (w + 1 - (c + 1))), [])
left_less w c me new h e i =
    let one : parts_of (w + 1 - c) - parts_of 1 ≡ parts_of (w + 1 - (c + 1)) = omega (arith, h) in
    let stays : Seat → Seat = λ m. (less (parts_of 1) m.0, m.1) in
    let left : ℕ → Seat = λ n. (fresh n, []) in
    e ∙ ap stays i ∙ ap left one

-- a hand of a seat with one worker's parts
pub hand_is : (of id : TableId) (n : ℕ) (me : Seat) (h : HandView) → h ≡ hand_of id (fresh me.0.parts) 0 → id ≡ of → me.0.parts ≡ n → h ≡ hand_of of (fresh n) 0
hand_is of id n me h e same parts = e ∙ λ k. hand_of (same k) (fresh (parts k)) 0

pub one_more : (x h : HandView) (c n : ℕ) (l m : List HandView) → 0 < c → c ≡ n → m ≡ l ++ h ∷ [] → l ≡ replicate (c - 1) x → h ≡ x → m ≡ replicate n x
one_more x h c n l m some all pushed was is =
    let e : c - 1 + 1 ≡ n = omega (arith, some, all) in
    pushed ∙ (λ k. was k ++ is k ∷ []) ∙ replicate-append-replicate (c - 1) 1 x ∙ ap (λ (n : ℕ). replicate n x) e

-- all words of a new board are 0
pub zeros_at : (n k : ℕ) → let zero_word : ℕ = 0 in get_or (replicate n zero_word) k zero_word ≡ zero_word
zeros_at zero k = refl
zeros_at (suc n) zero = refl
zeros_at (suc n) (suc k) = zeros_at n k
