use Rattle.refusal_lines.proofs.message.parts.Goals as goal

pub returns-in-NotUtf8 : goal.returns-in-NotUtf8
returns-in-NotUtf8 c = rw c.in-NotUtf8.is c.field-in-NotUtf8.ensures
