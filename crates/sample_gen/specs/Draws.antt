-- Numbers that are drawn from a number.
use Rattle.std.specs.Prelude.{ℕ, ◌+◌, ◌*◌, ◌%◌, ◌^◌}
use Rattle.key_codes.specs.Hashes.{mix}

-- the state after so many draws: it begins as the number, and each draw adds the same step to it, modulo 2^64
unfoldable pub state_after : ℕ → ℕ → ℕ
state_after number draws = (number + draws * 11400714819323198485) % 2 ^ 64

-- a draw, by its place from 0: the bits of the state after it, mixed
unfoldable pub draw : ℕ → ℕ → ℕ
draw number place = mix (state_after number (place + 1))
