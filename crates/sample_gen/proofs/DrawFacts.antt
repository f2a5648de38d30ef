-- Draws that go on from a state.
use Rattle.std.proofs.Common.{◌≡◌, ◌∙◌, ap, arith, ℕ, ◌+◌, ◌*◌, ◌%◌, ◌^◌}
use Rattle.std.proofs.Math.Nat.{mod-add-mod}
use Rattle.key_codes.specs.Hashes.{mix}
use Rattle.sample_gen.specs.Draws.{draw, state_after}

-- some draws, and then some more
state_after-more : (number a b : ℕ) → state_after (state_after number a) b ≡ state_after number (a + b)
unfolding state_after
state_after-more number a b =
    let sum : number + a * 11400714819323198485 + b * 11400714819323198485 ≡ number + (a + b) * 11400714819323198485 = omega arith in
    mod-add-mod (number + a * 11400714819323198485) (2 ^ 64) (b * 11400714819323198485) ∙ ap (λ n. n % 2 ^ 64) sum

module _ (number place state : ℕ) (reached : state ≡ state_after number place) where
  -- the next draw from the state after so many
  pub draw-next : draw state 0 ≡ draw number place
  unfolding draw
  draw-next = ap (λ s. mix (state_after s 1)) reached ∙ ap (λ s. mix s) (state_after-more number place 1)

  -- and the state after it
  pub state_after-next : (next : ℕ) → place + 1 ≡ next → state_after state 1 ≡ state_after number next
  state_after-next next e = ap (λ s. state_after s 1) reached ∙ state_after-more number place 1 ∙ ap (λ n. state_after number n) e
