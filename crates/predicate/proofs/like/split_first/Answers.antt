use Rattle.std.proofs.Common.{◌∙◌, sym}
use Rattle.std.proofs.lemmas.Str.{chars_past_char}
use Rattle.predicate.proofs.like.split_first.Goals as goal

pub returns-clause-chars : goal.returns-clause-chars
returns-clause-chars c =
    rw c.as_str.ensures
    (chars_past_char c.args.text.now c.next.new.self.rest.now c.in_ok-first.first c.utf8.text
    (sym c.chars-characters.ensures.rest ∙ c.in_ok-first.ensures.steps.0))
