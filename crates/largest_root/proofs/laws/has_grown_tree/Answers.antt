use Rattle.largest_root.proofs.OneList.{one-grown}
use Rattle.largest_root.proofs.SomeTree.{grown-there}
use Rattle.largest_root.proofs.laws.has_grown_tree.Goals as goal

pub returns-clause-there : goal.returns-clause-there
returns-clause-there c = grown-there

pub returns-clause-one : goal.returns-clause-one
returns-clause-one c = one-grown
