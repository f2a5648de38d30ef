use Rattle.largest_root.proofs.OneList.{one-tree}
use Rattle.largest_root.proofs.SomeTree.{joins-or-not, largest_root-there, one-refusal}
use Rattle.largest_root.proofs.laws.has_tree.Goals as goal

pub returns-clause-there : goal.returns-clause-there
returns-clause-there c = λ vs sizes rising acyclic. largest_root-there vs rising sizes acyclic

pub returns-clause-one : goal.returns-clause-one
returns-clause-one c = one-tree

pub returns-clause-refused : goal.returns-clause-refused
returns-clause-refused c = λ vs some rising. joins-or-not vs rising some

pub returns-clause-one_refusal : goal.returns-clause-one_refusal
returns-clause-one_refusal c = one-refusal
