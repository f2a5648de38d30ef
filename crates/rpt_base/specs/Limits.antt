-- Settings that are within their limits.
use Rattle.std.specs.Prelude.{◌≡◌, ℕ, ◌%◌, ◌≤◌}
use Rattle.rpt_base.specs.declared.limits.TheConstants.{MAX_MORSEL, MAX_WORKERS, MIN_MORSEL}

-- how many workers there can be: 1 to 32
pub record AreWorkers (workers : ℕ) : Type 0 where
  pub some : 1 ≤ workers
  pub most : workers ≤ MAX_WORKERS

-- how many items a morsel can have: 64 to 65,536, a multiple of 64
pub record IsMorsel (size : ℕ) : Type 0 where
  pub some : MIN_MORSEL ≤ size
  pub most : size ≤ MAX_MORSEL
  pub whole : size % MIN_MORSEL ≡ 0
