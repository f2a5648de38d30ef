use Rattle.std.proofs.Common.{◌∙◌, sym}
use Rattle.script_rules.specs.Violations.{table_violations}
use Rattle.script_rules.proofs.ViolationFacts.{first_of-append}
use Rattle.script_rules.proofs.tables.in_table.Goals as goal

pub returns : goal.returns
unfolding table_violations
returns c =
    rw (c.in_columns.ensures, c.as_slice.ensures, c.note_if-found-2.ensures, c.note_if-found.ensures, c.is_file_name.ensures, c.has_table.ensures)
    (sym (first_of-append c.args.found _ _ ∙ first_of-append _ _ _))
