-- Truth values.
use Rattle.std.proofs.Common.{◌≡◌, ◌∙◌, ◌⊎◌, inl, inr, refl, sym, Bool, true, false}
use Rattle.std.proofs.lemmas.Bool.{cases_Bool}

-- what is true of each other is the same
pub same_truth : (a b : Bool) → (a ≡ true → b ≡ true) → (b ≡ true → a ≡ true) → a ≡ b
same_truth true b h k = sym (h refl)
same_truth false b h k = elim (cases_Bool b) [ inl t ↦ k t ∙ sym t | inr f ↦ sym f ]
