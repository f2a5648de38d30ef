use Rattle.std.proofs.Common.{sym, ◌∙◌}
use Rattle.rpt_outside.proofs.Places.{bytes_at-get_or}
use Rattle.rpt_outside.proofs.memory_files.bytes_of.Goals as goal

pub returns : goal.returns
returns c = c.deref.ensures.value ∙ sym (bytes_at-get_or c.args.files.now c.args.at c.index-files-at.result c.requires)
