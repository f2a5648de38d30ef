use Rattle.std.proofs.Common.{[]}
use Rattle.transfer_plan.proofs.Earlier.{reads_earlier}
use Rattle.transfer_plan.proofs.Written.{numbered, written_once}
use Rattle.transfer_plan.proofs.laws.numbers_regions.Goals as goal

pub returns : goal.returns
returns c n root links parents = record {
  order = λ keyed. numbered root links keyed [] n parents;
  once = λ keyed items r l. written_once root links keyed items n parents r l;
  later = λ keyed items p l. reads_earlier n root links keyed items parents p l;
}
