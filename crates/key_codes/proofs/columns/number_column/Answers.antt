use Rattle.std.proofs.Common.{◌≡◌, ◌+◌, ◌<◌, ◌≤◌, ◌++◌, ◌∷◌, [], ◌∙◌, ℕ, List, ap, sym, drop, get_or, length, map, take, arith}
use Rattle.std.proofs.lemmas.Grind.{common_steps}
use Rattle.std.proofs.Math.ListN.{set}
use Rattle.std.proofs.lemmas.List.{append-nil, drop_all, length-map, length-take-le, take_all}
use Rattle.rpt_base.specs.declared.values.Value.{Value}
use Rattle.key_codes.specs.Columns.{cell_value, column_pairs, is_same_pair, pair_values}
use Rattle.key_codes.specs.Firsts.{firsts_after, place_among, with_member}
use Rattle.key_codes.specs.Keys.{item_value}
use Rattle.key_codes.proofs.FirstFacts.{firsts-push, place_with, places-step}
use Rattle.key_codes.proofs.PairFacts.{length-column_pairs, met_inserted, pair_itself, place_met, same_pairs, take-column_pairs, unwritten}
use Rattle.key_codes.proofs.columns.number_column.Goals as goal

pub loop-item-preserved : goal.loop-item-preserved
loop-item-preserved c =
    let keys = c.args.keys.now in
    let place = c.args.place in
    let item = c.loop-item.item in
    let old = c.args.numbers.now in
    let start = pair_values c.args.pairs.now in
    let met = pair_values c.loop-item.pairs in
    let pairs = column_pairs keys place old in
    let front = take item pairs in
    let pair : ℕ × Value = (get_or old item 0, item_value keys item place) in
    let put : ℕ × Value = (get_or c.loop-item.numbers item 0, cell_value c.key_cell.result) in
    let lt : item < length old = omega arith in
    let many : length front ≡ item = length-take-le item pairs (omega (arith, length-column_pairs keys place old c.requires.items)) in
    let longer : take (item + 1) pairs ≡ front ++ pair ∷ [] = take-column_pairs keys place old c.requires.items item lt in
    let read : get_or c.loop-item.numbers item 0 ≡ get_or old item 0 =
    ap (λ (l : List ℕ). get_or l item 0) c.loop-item.invariant.numbers ∙ unwritten (map (place_among is_same_pair met) front) old item (length-map front (place_among is_same_pair met) ∙ many) in
    let value : cell_value c.key_cell.result ≡ item_value keys item place = c.key_cell.ensures ∙ c.cell.ensures.value in
    let same : put ≡ pair = λ i. (read i, value i) in
    let all : pair_values c.number.new.self ≡ firsts_after is_same_pair start (front ++ pair ∷ []) =
    ap pair_values c.in_ok-number.ensures.met ∙ met_inserted _ same_pairs (get_or c.loop-item.numbers item 0, c.key_cell.result) c.loop-item.pairs
    ∙ (λ i. with_member is_same_pair (c.loop-item.invariant.met i) (same i)) ∙ sym (firsts-push is_same_pair start front pair) in
    let number : c.in_ok-number.number ≡ place_among is_same_pair (firsts_after is_same_pair start (front ++ pair ∷ [])) pair =
    c.in_ok-number.ensures.place ∙ place_met _ same_pairs (get_or c.loop-item.numbers item 0, c.key_cell.result) c.loop-item.pairs
    ∙ (λ i. place_among is_same_pair (c.loop-item.invariant.met i) (same i))
    ∙ sym (place_with is_same_pair pair_itself pair (firsts_after is_same_pair start front))
    ∙ ap (λ (l : List (ℕ × Value)). place_among is_same_pair l pair) (sym (firsts-push is_same_pair start front pair)) in
    let before : c.loop-item.numbers ≡ map (place_among is_same_pair (firsts_after is_same_pair start front)) front ++ drop item old =
    c.loop-item.invariant.numbers ∙ ap (λ (l : List (ℕ × Value)). map (place_among is_same_pair l) front ++ drop item old) c.loop-item.invariant.met in
    record {
      met = all ∙ ap (firsts_after is_same_pair start) (sym longer);
      few = omega (arith, c.in_ok-number.ensures.grows, c.loop-item.invariant.few);
      numbers = ap (λ (l : List ℕ). set l item c.in_ok-number.number) before
          ∙ places-step is_same_pair pair_itself start front pair c.in_ok-number.number old item many lt number
          ∙ (λ i. map (place_among is_same_pair (sym all i)) (sym longer i) ++ drop (item + 1) old);
    }

pub returns-clause-numbered : goal.returns-clause-numbered
returns-clause-numbered c =
    let old = c.args.numbers.now in
    let pairs = column_pairs c.args.keys.now c.args.place old in
    let number = place_among is_same_pair (pair_values c.loop-item.pairs) in
    let done : length old ≤ c.loop-item.item = omega arith in
    let all : take c.loop-item.item pairs ≡ pairs = take_all c.loop-item.item pairs (omega (arith, done, length-column_pairs c.args.keys.now c.args.place old c.requires.items)) in
    record {
      met = c.loop-item.invariant.met ∙ ap (firsts_after is_same_pair (pair_values c.args.pairs.now)) all;
      numbers = c.loop-item.invariant.numbers
          ∙ ap (λ (l : List ℕ). map number (take c.loop-item.item pairs) ++ l) (drop_all c.loop-item.item old done)
          ∙ append-nil (map number (take c.loop-item.item pairs))
          ∙ ap (map number) all;
    }

pub bounds-numbers-item-in-loop-item : goal.bounds-numbers-item-in-loop-item
bounds-numbers-item-in-loop-item c = grind (arith, common_steps)
