use Rattle.std.proofs.Common.{◌∙◌, ap}
use Rattle.std.specs.Str.{str_to_ascii_lowercase}
use Rattle.sql_grammar.proofs.KindFacts.{name_facts, ok_same}
use Rattle.sql_grammar.proofs.leaves.name_of.Goals as goal

pub make-requires : goal.make-requires
make-requires c = rw c.written.ensures (name_facts c.words_are_names.ensures.named c.args.token.now c.requires).0

pub returns : goal.returns
returns c = ok_same c.make.result (ap str_to_ascii_lowercase c.written.ensures ∙ (name_facts c.words_are_names.ensures.named c.args.token.now c.requires).1) c.make.ensures
