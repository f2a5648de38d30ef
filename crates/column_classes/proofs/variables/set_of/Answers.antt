use Rattle.std.proofs.Common.{◌≡◌, ◌<◌, ◌∙◌, List, [], ap, arith, get_or, length, map, rules, subst, sym, true}
use Rattle.std.specs.Prelude.{Any}
use Rattle.std.specs.Result.{is_ok}
use Rattle.std.proofs.lemmas.List.{get_or-map, length-map}
use Rattle.column_classes.specs.declared.columns.ColumnRef.{ColumnRef}
use Rattle.column_classes.proofs.SetFacts.{set-all, set-none, set-pass, set-push}
use Rattle.column_classes.proofs.variables.set_of.Goals as goal
use Rattle.column_classes.proofs.variables.set_of.Goals.{then-has_column_of+in_ok-push, else-has_column_of}

pub variables-init : goal.variables-init
variables-init c = rw c.new-set.ensures.items (set-none (map (λ v. v.items) c.args.variables.now) c.args.relation)

pub variables-preserved : goal.variables-preserved
variables-preserved c =
    let variables = map (λ v. v.items) c.args.variables.now in
    let k = c.variables.variable in
    let has : List ColumnRef → Type 0 = λ cs. Any (λ d. d.relation ≡ c.args.relation) cs in
    let here : get_or variables k [] ≡ c.deref.result.now =
    get_or-map (λ v. v.items) c.args.variables.now k c.index-variables-variable.result [] c.variables-test.true ∙ ap (λ v. v.items) (sym c.index-variables-variable.is) ∙ sym c.deref.ensures.value in
    let lt : k < length variables = omega (arith, c.variables-test.true, length-map c.args.variables.now (λ v. v.items)) in
    elim c.if-has_column_of.branch [
      | then-has_column_of+in_ok-push w ↦
          let good : is_ok w.push.result ≡ true = search rules in
          let items = rw good at w.push.ensures.items in
          let one = subst has (sym here) (c.has_column_of.ensures.0 w.if-has_column_of.true) in
          rw (w.set-is, items) (set-push variables c.args.relation k c.variables.set.items c.variables.invariant (lt, one))
      | else-has_column_of w ↦
          rw w.set-is (set-pass variables c.args.relation k c.variables.set.items c.variables.invariant
          (λ s. (let one = c.has_column_of.ensures.1 (subst has here s.1) in let not = w.if-has_column_of.false in cc)))
    ]

pub returns : goal.returns
returns c =
    set-all (map (λ v. v.items) c.args.variables.now) c.args.relation c.variables.variable c.variables.set.items
    (let long = c.variables-test.false in omega (arith, length-map c.args.variables.now (λ v. v.items))) c.variables.invariant
