use Rattle.std.proofs.Common.{◌∙◌, ap, map}
use Rattle.std.specs.Char.{to_ascii_lowercase}
use Rattle.std.proofs.lemmas.Str.{IsUtf8-had}
use Rattle.rpt_base.proofs.NameFacts.{is_name-utf8, is_name-of_lower}
use Rattle.rpt_base.proofs.names.Name.make.Goals as goal

pub unreachable-requires : goal.unreachable-requires
unreachable-requires c = c.in_default.ensures.cases.0 (is_name-utf8 c.args.bytes.now c.requires)

pub invariant_of-result : goal.invariant_of-result
invariant_of-result c =
    let text = c.in_ok-text.text in
    let lower = c.in_ok-text.ensures.ok ∙ ap (λ t. map to_ascii_lowercase t) c.in-Ok.ensures.cases.0 in
    is_name-of_lower c.args.bytes.now _ lower c.requires (IsUtf8-had _ text.ok)
