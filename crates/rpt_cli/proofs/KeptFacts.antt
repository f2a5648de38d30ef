-- That files are what they were, over several calls.
use Rattle.std.proofs.Common.{◌∙◌, refl, ℕ, ◌≤◌, arith}
use Rattle.rpt_outside.specs.declared.traits.Files.{Ghosts as FileWords}
use Rattle.rpt_cli.specs.Steps.{AreKept}

module _ {F : Type 0} (words : FileWords F) where
  pub kept-same : (files : F) → AreKept words files files
  kept-same files = (refl, λ name. omega arith)

  pub kept-next : (old now new : F) → AreKept words old now → AreKept words now new → AreKept words old new
  kept-next old now new a b =
      (b.0 ∙ a.0, λ name. (let first : words.faults old name ≤ words.faults now name = a.1 name in let then : words.faults now name ≤ words.faults new name = b.1 name in omega arith))
