use Rattle.std.proofs.Common.{◌∙◌, sym}
use Rattle.script_rules.specs.Violations.{source_violations}
use Rattle.script_rules.proofs.ViolationFacts.{first_of-append}
use Rattle.script_rules.proofs.tables.in_source.Goals as goal

pub returns : goal.returns
unfolding source_violations
returns c =
    rw (c.note_if.ensures, c.note_if-found-2.ensures, c.note_if-found.ensures, c.has_table-is_unknown.ensures, c.has_relation-is_double.ensures, c.name_of.ensures, c.name_place.ensures)
    (sym (first_of-append c.args.found _ _ ∙ first_of-append _ _ _))
