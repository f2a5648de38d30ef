use Rattle.safe_subjoin.proofs.OneList.{one-first}
use Rattle.safe_subjoin.proofs.SomeList.{all-or-first}
use Rattle.safe_subjoin.proofs.laws.has_first_unsafe.Goals as goal

pub returns-clause-there : goal.returns-clause-there
returns-clause-there c = λ vs order rising is_order. all-or-first vs rising order is_order

pub returns-clause-one : goal.returns-clause-one
returns-clause-one c = one-first
