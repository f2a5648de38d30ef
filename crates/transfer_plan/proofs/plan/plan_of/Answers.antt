use Rattle.std.proofs.Common.{◌≡◌, ap, arith, rules, ◌∙◌, Bool, not, length}
use Rattle.transfer_plan.specs.TransferPlan.{regions}
use Rattle.transfer_plan.proofs.Valid.{links_few, regions_few, valid_as}
use Rattle.transfer_plan.proofs.plan.plan_of.Goals as goal

pub pipes-requires-clause-layout : goal.pipes-requires-clause-layout
pipes-requires-clause-layout g c =
    let tree = c.args.tree.now in let n = length c.args.items.now in
    let keyed : Bool = not c.is_empty-keyed.result in
    let is : c.deref-4.result.now ≡ regions tree.root tree.links keyed = c.deref-4.ensures.value ∙ c.in_ok-regions.ensures in
    record {
      items = c.requires.few;
      parents = c.requires.tree;
      links = omega (arith, links_few n tree.root tree.links c.requires.tree, c.requires.few);
      regions = is;
      few = omega (arith, ap length is, regions_few n tree.root tree.links keyed c.requires.tree c.requires.few);
    }

pub returns-clause-valid : goal.returns-clause-valid
returns-clause-valid g c =
    let tree = c.args.tree.now in
    valid_as g.P.Placement.seen tree c.args.items.now c.args.edges.items c.args.rows.items c.args.morsel
    (record { morsel = c.args.morsel; words = c.from_vec.result; places = c.from_vec-2.result; pipes = c.from_vec-3.result }) (search rules) c.requires
