use Rattle.std.proofs.Common.{sym}
use Rattle.script_rules.specs.Violations.{column_violations}
use Rattle.script_rules.proofs.ViolationFacts.{first_of-append}
use Rattle.script_rules.proofs.tables.in_column.Goals as goal

pub returns : goal.returns
unfolding column_violations
returns c = rw (c.note_if.ensures, c.note_if-found.ensures, c.has_column-is_double.ensures) (sym (first_of-append c.args.found _ _))
