-- Masks among bits, and sets of pipes.
use Rattle.std.proofs.Common.{◌≡◌, ◌≢◌, ℕ, zero, suc, List, [], ◌∷◌, Bool, true, false, set, refl, sym, ap, ◌∙◌, arith, true≢false, get_or-set_other}
use Rattle.std.specs.Prelude.{bit_or, bit_and}
use Rattle.std.specs.Int.{bit_at}
use Rattle.std.proofs.lemmas.Nat.Bits.{bit_at_or, bit_at_and, same_from_bits}
use Rattle.transfer_core.specs.Actors.{is_marked}
use Rattle.transfer_core.specs.Counts.{Lies}

pub lies_same : (a b : ℕ) → a ≡ b → Lies a b
lies_same a b e i = omega (arith, ap (λ n. bit_at n i) e)

pub lies_through : (a b c : ℕ) → Lies a b → Lies b c → Lies a c
lies_through a b c f g i = omega (arith, f i, g i)

pub lies_left : (a b : ℕ) → Lies a (bit_or a b)
lies_left a b i = omega (arith, bit_at_or a b i)

pub lies_right : (a b : ℕ) → Lies b (bit_or a b)
lies_right a b i = omega (arith, bit_at_or a b i)

pub lies_or : (a b c : ℕ) → Lies a c → Lies b c → Lies (bit_or a b) c
lies_or a b c f g i = omega (arith, bit_at_or a b i, f i, g i)

pub lies_both : (a b : ℕ) → Lies a b → Lies b a → a ≡ b
lies_both a b f g = same_from_bits a b (λ i. omega (arith, f i, g i))

-- the test of a mask
pub lies_test : (a b : ℕ) → bit_and b a ≡ a → Lies a b
lies_test a b e i = omega (arith, bit_at_and b a i, ap (λ n. bit_at n i) e)

pub is_marked-nothing : (p : ℕ) (F : Type 0) → is_marked [] p ≡ true → F
is_marked-nothing p F e = absurd (true≢false (sym e))

-- a pipe in the set to which q is added
pub is_marked-added : (l : List Bool) (q p : ℕ) → is_marked (set l q true) p ≡ true → (p ≢ q → is_marked l p ≡ true)
is_marked-added l q p e ne = sym (get_or-set_other l q p true false ne) ∙ e

-- to add a pipe takes none away
pub is_marked-kept : (l : List Bool) (q p : ℕ) → is_marked l p ≡ true → is_marked (set l q true) p ≡ true
is_marked-kept [] q p e = e
is_marked-kept (x ∷ xs) zero zero e = refl
is_marked-kept (x ∷ xs) zero (suc p) e = e
is_marked-kept (x ∷ xs) (suc q) zero e = e
is_marked-kept (x ∷ xs) (suc q) (suc p) e = is_marked-kept xs q p e
