use Rattle.std.proofs.Common.{◌≡◌, ℕ, List, [], ◌∷◌, length, length-append, get_or, arith, sym, ap, ◌∙◌}
use Rattle.filter_board.specs.Layout.{offset}
use Rattle.filter_board.proofs.ListFacts.{each_pushed}
use Rattle.filter_board.proofs.Offsets.{offset_all, offset_first, offset_more}
use Rattle.filter_board.proofs.making.starts_of.Goals as goal

pub loop-count-init : goal.loop-count-init
loop-count-init c = record {
  long = ap (λ (l : List ℕ). length l) c.in_ok-starts.ensures.items;
  each = λ r h. absurd (omega arith);
  sum = sym (offset_first c.args.words.now);
}

pub loop-count-preserved : goal.loop-count-preserved
loop-count-preserved c = let i = c.loop-count.invariant in let pushed = c.in_ok-push.ensures.items in record {
  long = omega (arith, ap (λ (l : List ℕ). length l) pushed, length-append c.loop-count.starts.items (c.loop-count.next ∷ []), i.long);
  each = λ r less. ap (λ (l : List ℕ). get_or l r 0) pushed
      ∙ each_pushed (λ k v. v ≡ offset c.args.words.now k) c.loop-count.starts.items c.loop-count.next 0 (λ k l. i.each k (omega (arith, l, i.long))) (i.sum ∙ ap (offset c.args.words.now) (sym i.long)) r (omega (arith, less, i.long));
  sum = omega (arith, c.in-Some.ensures.1, i.sum, offset_more c.args.words.now c.loop-count.count-index c.loop-count-test.true);
}

pub returns-clause-all : goal.returns-clause-all
returns-clause-all c =
    let all : c.loop-count.count-index ≡ length c.args.words.now = omega (arith, c.loop-count-test.false, c.loop-count.auto.count-index-end) in
    c.loop-count.invariant.sum ∙ ap (offset c.args.words.now) all ∙ offset_all c.args.words.now
