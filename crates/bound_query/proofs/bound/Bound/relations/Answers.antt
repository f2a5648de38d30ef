use Rattle.std.proofs.Common.{◌∙◌, subst}
use Rattle.bound_query.specs.Query.{BoundQuery, IsBoundQuery}
use Rattle.bound_query.proofs.WidthFacts.{widths-length}
use Rattle.bound_query.proofs.bound.Bound.relations.Goals as goal

pub returns-clause-sets : goal.returns-clause-sets
returns-clause-sets c =
    let bound : IsBoundQuery c.args.self.now = subst (λ (b : BoundQuery). IsBoundQuery b) c.self.view_is c.self.invariant in
    bound.known.sets_length ∙ widths-length c.args.self.now.query

pub returns-clause-bound : goal.returns-clause-bound
returns-clause-bound c = subst (λ (b : BoundQuery). IsBoundQuery b) c.self.view_is c.self.invariant
