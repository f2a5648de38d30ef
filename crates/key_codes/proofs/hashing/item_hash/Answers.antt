use Rattle.std.proofs.Common.{◌∙◌, sym, ap, arith}
use Rattle.std.proofs.lemmas.Grind.{common_steps}
use Rattle.key_codes.specs.Hashes.{fnv_from, value_bytes}
use Rattle.key_codes.specs.Keys.{item_value}
use Rattle.key_codes.proofs.HashFacts.{key-more}
use Rattle.key_codes.proofs.hashing.item_hash.Goals as goal

pub loop-place-preserved : goal.loop-place-preserved
loop-place-preserved c =
    let value = item_value c.args.keys.now c.args.item c.loop-place.place in
    c.with_cell-hash.ensures ∙ ap (λ v. fnv_from c.loop-place.hash (value_bytes v)) c.cell.ensures.value
    ∙ ap (λ hash. fnv_from hash (value_bytes value)) c.loop-place.invariant
    ∙ sym (key-more _ c.args.keys.now c.args.item c.loop-place.place (omega arith))

pub returns : goal.returns
returns c = grind (arith, common_steps)
