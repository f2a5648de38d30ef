-- The refusals of conjuncts, condition by condition.
use Rattle.std.proofs.Common.{◌≡◌, ◌∙◌, List, [], ◌∷◌, ◌++◌, refl, ap, sym}
use Rattle.std.specs.Prelude.{Option, None, Some}
use Rattle.std.specs.List.{flat_map}
use Rattle.std.specs.Option.{option_to_list}
use Rattle.std.proofs.lemmas.Grind.{flat_map-append}
use Rattle.std.proofs.lemmas.List.{append-nil}
use Rattle.sql_grammar.specs.declared.tree.Cond.{Cond}
use Rattle.sql_grammar.specs.declared.tree.Script.{Script}
use Rattle.sql_grammar.specs.declared.tree.Source.{Source}
use Rattle.script_rules.specs.declared.found.Violation.{Violation}
use Rattle.script_rules.specs.Scope.{Relation}
use Rattle.script_rules.specs.Conjuncts.{conditions_of, parts_of}
use Rattle.script_rules.specs.Violations.{cond_violations, conjunct_violations, violations_in, first_of, join_violations, merged}
use Rattle.script_rules.proofs.ViolationFacts.{first_of-append, first_of-merged, first_of-none}

pub flat_map-flat_map : {X Y Z : Type 0} (f : Y → List Z) (g : X → List Y) (xs : List X) → flat_map f (flat_map g xs) ≡ flat_map (λ x. flat_map f (g x)) xs
flat_map-flat_map f g [] = refl
flat_map-flat_map f g (x ∷ xs) = flat_map-append f (g x) (flat_map g xs) ∙ ap (λ rest. flat_map f (g x) ++ rest) (flat_map-flat_map f g xs)

-- operands and what follows them
pub one-noted : (a t : List Violation) (found : Option Violation) → first_of (first_of found a) t ≡ first_of found (a ++ t)
one-noted a t found = sym (first_of-append found a t)

pub two-noted : (a b t : List Violation) (found : Option Violation) → first_of (first_of (first_of found a) b) t ≡ first_of found ((a ++ (b ++ [])) ++ t)
two-noted a b t found = sym (first_of-append found (a ++ (b ++ [])) t ∙ ap (λ f. first_of f t) (first_of-append found a (b ++ []) ∙ ap (first_of (first_of found a)) (append-nil b)))

pub three-noted : (a b d t : List Violation) (found : Option Violation) → first_of (first_of (first_of (first_of found a) b) d) t ≡ first_of found ((a ++ (b ++ (d ++ []))) ++ t)
three-noted a b d t found =
    sym (first_of-append found (a ++ (b ++ (d ++ []))) t
    ∙ ap (λ f. first_of f t) (first_of-append found a (b ++ (d ++ [])) ∙ first_of-append (first_of found a) b (d ++ []) ∙ ap (first_of (first_of (first_of found a) b)) (append-nil d)))

module _ (scope : List Relation) where
  -- condition by condition
  pub violations_in-each : (conds : List Cond) → violations_in scope conds ≡ flat_map (λ x. flat_map (conjunct_violations scope) (parts_of x)) conds
  violations_in-each conds = flat_map-flat_map (conjunct_violations scope) parts_of conds

  violations_in-append : (xs ys : List Cond) → violations_in scope (xs ++ ys) ≡ violations_in scope xs ++ violations_in scope ys
  violations_in-append xs ys =
      ap (flat_map (conjunct_violations scope)) (flat_map-append parts_of xs ys) ∙ flat_map-append (conjunct_violations scope) (flat_map parts_of xs) (flat_map parts_of ys)

  -- source by source
  violations_in-sources : (sources : List Source) → violations_in scope (flat_map (λ (s : Source). option_to_list s.on) sources) ≡ flat_map (λ (s : Source). violations_in scope (option_to_list s.on)) sources
  violations_in-sources sources =
      ap (flat_map (conjunct_violations scope)) (flat_map-flat_map parts_of (λ (s : Source). option_to_list s.on) sources)
      ∙ flat_map-flat_map (conjunct_violations scope) (λ (s : Source). flat_map parts_of (option_to_list s.on)) sources

  -- a condition that is there
  pub violations_in-some : (x : Cond) → violations_in scope (option_to_list (Some x)) ≡ flat_map (conjunct_violations scope) (parts_of x)
  violations_in-some x = ap (flat_map (conjunct_violations scope)) (append-nil (parts_of x))

  -- a conjunct that has a refusal inside, and one that has none
  inside : (x : Cond) (found : Option Violation) (f : Violation) (violations : List Violation) → first_of None violations ≡ Some f → merged found (Some f) ≡ first_of found (violations ++ join_violations scope x violations)
  unfolding join_violations first_of
  inside x found f [] e = cc
  inside x found f (g ∷ violations) e = ap (merged found) (sym e) ∙ sym (first_of-merged found (g ∷ violations)) ∙ sym (ap (first_of found) (append-nil (g ∷ violations)))

  pub conjunct-in : (x : Cond) (found : Option Violation) (f : Violation) → first_of None (cond_violations scope x) ≡ Some f → merged found (Some f) ≡ first_of found (conjunct_violations scope x)
  unfolding conjunct_violations
  conjunct-in x found f e = inside x found f (cond_violations scope x) e

  pub conjunct-none : (x : Cond) (found : Option Violation) → first_of None (cond_violations scope x) ≡ None → first_of found (join_violations scope x []) ≡ first_of found (conjunct_violations scope x)
  unfolding conjunct_violations
  conjunct-none x found e = ap (λ violations. first_of found (violations ++ join_violations scope x violations)) (sym (first_of-none (cond_violations scope x) e))

  -- all conjuncts of a script
  pub violations_in-script : (script : Script) (found : Option Violation)
      → first_of found (violations_in scope (conditions_of script))
      ≡ first_of (first_of found (flat_map (λ (s : Source). violations_in scope (option_to_list s.on)) script.select.sources)) (violations_in scope (option_to_list script.select.filter))
  violations_in-script script found =
      let on = flat_map (λ (s : Source). option_to_list s.on) script.select.sources in
      let filter = option_to_list script.select.filter in
      ap (first_of found) (violations_in-append on filter) ∙ first_of-append found (violations_in scope on) (violations_in scope filter)
      ∙ ap (λ violations. first_of (first_of found violations) (violations_in scope filter)) (violations_in-sources script.select.sources)
