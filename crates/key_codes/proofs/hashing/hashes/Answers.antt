use Rattle.std.proofs.Common.{◌∙◌, ◌++◌, ◌∷◌, [], ap, sym, map, take, arith}
use Rattle.std.proofs.lemmas.Grind.{common_steps}
use Rattle.std.proofs.lemmas.List.{get_or-map, length-map, map_more}
use Rattle.key_codes.specs.Codes.{keys_of}
use Rattle.key_codes.specs.Hashes.{hash_of}
use Rattle.key_codes.specs.Keys.{key_of}
use Rattle.key_codes.proofs.hashing.hashes.Goals as goal

pub loop-item-preserved : goal.loop-item-preserved
loop-item-preserved c =
    let keys = c.args.keys.now in
    let rows = keys.rows.now in
    let item = c.loop-item.item in
    let key = key_of keys.table.now keys.columns.now in
    let front = map hash_of (take item (keys_of keys)) in
    c.in_ok-push.ensures.items
    ∙ (λ i. c.loop-item.invariant i ++ c.item_hash.ensures i ∷ [])
    ∙ ap (λ k. front ++ hash_of k ∷ []) (sym (get_or-map key rows item 0 [] (omega arith)))
    ∙ sym (map_more hash_of (keys_of keys) item [] (omega (arith, length-map rows key)))

pub returns : goal.returns
returns c = grind (arith, common_steps)
