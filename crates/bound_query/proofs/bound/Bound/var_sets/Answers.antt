use Rattle.std.proofs.Common.{◌∙◌, arith, subst}
use Rattle.column_classes.proofs.Unique.{sets-are-rising, sets-are-short}
use Rattle.bound_query.specs.Query.{BoundQuery, IsBoundQuery, widths_of}
use Rattle.bound_query.proofs.WidthFacts.{widths-are, widths-length}
use Rattle.bound_query.proofs.bound.Bound.var_sets.Goals as goal

pub returns-clause-count : goal.returns-clause-count
returns-clause-count c =
    let bound : IsBoundQuery c.args.self.now = subst (λ (b : BoundQuery). IsBoundQuery b) c.self.view_is c.self.invariant in
    bound.known.sets_length ∙ widths-length c.args.self.now.query

pub returns-clause-some : goal.returns-clause-some
returns-clause-some c =
    let bound : IsBoundQuery c.args.self.now = subst (λ (b : BoundQuery). IsBoundQuery b) c.self.view_is c.self.invariant in
    omega (arith, returns-clause-count c, bound.query.some)

pub returns-clause-limit : goal.returns-clause-limit
returns-clause-limit c =
    let bound : IsBoundQuery c.args.self.now = subst (λ (b : BoundQuery). IsBoundQuery b) c.self.view_is c.self.invariant in
    omega (arith, returns-clause-count c, bound.query.few)

pub returns-clause-rise : goal.returns-clause-rise
returns-clause-rise c =
    let bound : IsBoundQuery c.args.self.now = subst (λ (b : BoundQuery). IsBoundQuery b) c.self.view_is c.self.invariant in
    sets-are-rising (widths_of c.args.self.now.query) c.args.self.now.query.equalities c.args.self.now.known bound.known

pub returns-clause-few : goal.returns-clause-few
returns-clause-few c =
    let bound : IsBoundQuery c.args.self.now = subst (λ (b : BoundQuery). IsBoundQuery b) c.self.view_is c.self.invariant in
    sets-are-short (widths_of c.args.self.now.query) c.args.self.now.query.equalities c.args.self.now.known (widths-are c.args.self.now.query bound.query) bound.known
