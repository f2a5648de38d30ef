-- The equalities that conjuncts write.
use Rattle.std.proofs.Common.{◌≡◌, true, false, List, [], ap}
use Rattle.std.specs.Prelude.{if◌then◌else◌}
use Rattle.sql_grammar.specs.declared.tree.Cond.{Cond}
use Rattle.script_rules.specs.Scope.{Relation}
use Rattle.script_rules.specs.Conjuncts.{columns_in, is_equality}
use Rattle.binder.specs.Binding.{equality_between, equality_of}

module _ (scope : List Relation) (x : Cond) where
  pub equality_of-none : is_equality x ≡ false → equality_of scope x ≡ []
  unfolding equality_of
  equality_of-none e = ap (λ b. if b then equality_between (columns_in scope x) else []) e

  pub equality_of-some : is_equality x ≡ true → equality_of scope x ≡ equality_between (columns_in scope x)
  unfolding equality_of
  equality_of-some e = ap (λ b. if b then equality_between (columns_in scope x) else []) e
