-- Orders of relations.
use Rattle.std.specs.Prelude.{◌≡◌, ◌↔◌, ℕ, ◌<◌, ◌==◌, ◌&&◌, Bool, Contains, List, length, nat_lt}
use Rattle.std.specs.List.{list_all, range_with_len}
use Rattle.rpt_base.specs.Lists.{has}

-- the order has each of n relations once
pub record IsOrder (n : ℕ) (order : List ℕ) : Type 0 where
  pub count : length order ≡ n
  pub members : (r : ℕ) → Contains order r ↔ r < n

-- whether it has: there are as many as n relations, none but these, and each of them
abbrev pub is_order : ℕ → List ℕ → Bool
is_order n order = (length order == n) && (list_all (λ r. nat_lt r n) order && list_all (λ r. has r order) (range_with_len 0 n))
