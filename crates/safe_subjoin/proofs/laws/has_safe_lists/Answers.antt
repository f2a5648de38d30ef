use Rattle.safe_subjoin.proofs.OneList.{one-lists}
use Rattle.safe_subjoin.proofs.SomeList.{lists-there}
use Rattle.safe_subjoin.proofs.laws.has_safe_lists.Goals as goal

pub returns-clause-there : goal.returns-clause-there
returns-clause-there c = λ vs order rising is_order. lists-there vs rising order is_order

pub returns-clause-one : goal.returns-clause-one
returns-clause-one c = one-lists
