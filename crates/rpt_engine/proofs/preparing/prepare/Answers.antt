use Rattle.std.proofs.Common.{◌∙◌, subst, List, ℕ, arith}
use Rattle.std.proofs.lemmas.Grind.{common_steps}
use Rattle.rpt_engine.specs.Prepared.{IsUnprepared}
use Rattle.rpt_engine.proofs.preparing.prepare.Goals as goal

pub returns-in-Err-clause-refused : goal.returns-in-Err-clause-refused
returns-in-Err-clause-refused c =
    subst (λ (vs : List (List ℕ)). IsUnprepared vs c.args.options.now.order c.args.options.now.force c.in-Err.error) (c.in_ok-graph.ensures ∙ c.var_sets.ensures.sets)
    (c.in-Err.ensures.refused c.args.options.now.order c.args.options.now.force)

pub returns-clause-acyclic : goal.returns-clause-acyclic
returns-clause-acyclic c = grind (arith, common_steps)
