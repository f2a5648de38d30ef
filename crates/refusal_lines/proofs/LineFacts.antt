-- The text of a line, at one of its parts.
use Rattle.std.proofs.Common.{◌≡◌, ◌∙◌, ap, sym, ℕ, ◌+◌, ◌<◌, List, ◌++◌, length, get_or, take, drop}
use Rattle.std.proofs.lemmas.Grind.{flat_map-append}
use Rattle.std.proofs.lemmas.List.{drop_more, take-append-drop}
use Rattle.refusal_lines.specs.declared.message.Part.{Part}
use Rattle.refusal_lines.specs.Message.{part_text, parts_text}

-- what stands before a part, the part, and what stands behind it
pub parts_text-at : (parts : List Part) (i : ℕ) (d : Part) → i < length parts
    → parts_text parts ≡ parts_text (take i parts) ++ (part_text (get_or parts i d) ++ parts_text (drop (i + 1) parts))
parts_text-at parts i d lt =
    ap (λ ps. parts_text ps) (sym (take-append-drop i parts)) ∙ flat_map-append part_text (take i parts) (drop i parts)
    ∙ ap (λ ps. parts_text (take i parts) ++ parts_text ps) (drop_more parts i d lt)
