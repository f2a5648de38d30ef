use Rattle.std.proofs.Common.{◌∙◌, ◌++◌, ◌∷◌, [], ap, sym, map, append_assoc, arith}
use Rattle.std.specs.List.{range_with_len}
use Rattle.std.proofs.lemmas.List.FromFn.{map-range_with_len_more}
use Rattle.rpt_cli.specs.Sample.{hex_digit}
use Rattle.rpt_cli.proofs.summary.put_digits.Goals as goal

pub loop-place-preserved : goal.loop-place-preserved
loop-place-preserved c =
    let start = c.args.text.now.items in
    let place = c.loop-place.place in
    let front = map (hex_digit c.args.hash) (range_with_len 0 place) in
    c.in_ok-put.ensures ∙ ap (λ items. items ++ c.hex_digit.result ∷ []) c.loop-place.invariant
    ∙ append_assoc start front (c.hex_digit.result ∷ [])
    ∙ ap (λ digit. start ++ (front ++ digit ∷ [])) c.hex_digit.ensures
    ∙ ap (λ digits. start ++ digits) (sym (map-range_with_len_more (hex_digit c.args.hash) 0 place place (omega arith)))
