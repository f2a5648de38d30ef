-- What a script without refusals is free of.
use Rattle.std.proofs.Common.{◌≡◌, Bool, true, false, not, ◌&&◌, List, [], ◌∷◌, refl}
use Rattle.std.specs.Prelude.{All, Option, None, Some}
use Rattle.std.specs.List.{flat_map}
use Rattle.std.specs.Option.{option_or}
use Rattle.std.proofs.lemmas.List.Elements.{All-cons, All-nil}
use Rattle.rpt_base.proofs.ListFacts.{front-empty, back-empty}
use Rattle.sql_grammar.specs.declared.tree.Script.{Script}
use Rattle.script_rules.specs.declared.found.Violation.{Violation}
use Rattle.script_rules.specs.Scope.{IsWithinLimits, scope_of}
use Rattle.script_rules.specs.Conjuncts.{conjuncts_of}
use Rattle.script_rules.specs.Violations.{conjunct_violations, each_behind, item_violations, refusal_of, source_violations, table_violations}
use Rattle.script_rules.proofs.ViolationFacts.{first_of-none}
use Rattle.script_rules.proofs.LimitFacts.{within_limits}

pub and-left : (a b : Bool) → (a && b) ≡ true → a ≡ true
and-left true b h = refl
and-left false b h = cc

pub and-right : (a b : Bool) → (a && b) ≡ true → b ≡ true
and-right true b h = h
and-right false b h = cc

pub not-false : (a : Bool) → not a ≡ false → a ≡ true
not-false true h = refl
not-false false h = cc

-- where nothing comes of a list, nothing comes of a member
pub each-empty : {X Y : Type 0} (f : X → List Y) (xs : List X) → flat_map f xs ≡ [] → All (λ x. f x ≡ []) xs
each-empty f [] h = All-nil (λ x. f x ≡ [])
each-empty f (x ∷ xs) h = All-cons (λ x. f x ≡ []) x xs (front-empty (f x) (flat_map f xs) h) (each-empty f xs (back-empty (f x) (flat_map f xs) h))

both-none : (a b : Option Violation) → option_or a b ≡ None → (a ≡ None) × (b ≡ None)
both-none None b h = (refl, h)
both-none (Some f) b h = cc

-- a script none of whose parts has a refusal
pub record IsClear (script : Script) : Type 0 where
  pub tables : each_behind table_violations [] script.tables ≡ []
  pub sources : each_behind (source_violations script.tables) [] script.select.sources ≡ []
  pub items : item_violations (scope_of script) script.select.items ≡ []
  pub conjuncts : flat_map (conjunct_violations (scope_of script)) (conjuncts_of script) ≡ []

pub refusal_of-none : (script : Script) → refusal_of script ≡ None → IsClear script
unfolding refusal_of
refusal_of-none script h =
    let t = both-none _ _ h in
    let s = both-none _ _ t.1 in
    let i = both-none _ _ s.1 in
    let c = both-none _ _ i.1 in
    record {
      tables = first_of-none _ t.0;
      sources = first_of-none _ s.0;
      items = first_of-none _ i.0;
      conjuncts = first_of-none _ c.0;
    }

pub clear-within : (script : Script) → refusal_of script ≡ None → IsWithinLimits script
unfolding refusal_of
clear-within script h =
    let t = both-none _ _ h in
    let s = both-none _ _ t.1 in
    within_limits script t.0 s.0
