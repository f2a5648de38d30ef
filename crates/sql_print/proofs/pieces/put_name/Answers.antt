use Rattle.std.proofs.Common.{◌∙◌, ap, List, ℕ, [], ◌∷◌, ◌++◌}
use Rattle.sql_print.specs.Pieces.{name, spelling}
use Rattle.sql_print.proofs.Putting.{one, name_holds, quoted}
use Rattle.sql_print.proofs.pieces.put_name.Goals as goal

pub returns : goal.returns
returns c = one (name c.args.written.now) (name_holds c.args.written.now c.bytes.ensures.name c.bytes.ensures.lower) (c.in_ok-put.ensures ∙ quoted c.args.out.now.items c.bytes.result.now ∙ ap (λ (n : List ℕ). c.args.out.now.items ++ (spelling (name n) ++ 32 ∷ [])) c.bytes.ensures.bytes)
