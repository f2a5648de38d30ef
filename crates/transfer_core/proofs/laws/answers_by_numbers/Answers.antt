use Rattle.transfer_core.proofs.AnswerFacts.{answers_exactly, answers_put}
use Rattle.transfer_core.proofs.laws.answers_by_numbers.Goals as goal

pub returns : goal.returns
returns c = record {
  put = λ s V p q b i f. answers_put s V p q f.pipe f.port b i f.region;
  exact = λ s V p q b i f. answers_exactly s V p q f.pipe f.port b i f.region;
}
