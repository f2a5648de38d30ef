use Rattle.std.proofs.Common.{◌∙◌, ap, sym, rules, arith}
use Rattle.std.proofs.lemmas.Grind.{common_steps}
use Rattle.std.specs.List.{list_all}
use Rattle.predicate.specs.declared.tree.Pred.TheViews.{the_lemmas}
use Rattle.predicate.specs.Truth.{is_typed}
use Rattle.predicate.proofs.TruthFacts.{is_true-And, is_true-Or, is_typed-And, is_typed-Or, has_column-left, has_column-right, has_column-like}
use Rattle.predicate.proofs.truth.+holds.Goals as goal

pub holds-all_hold-requires : goal.holds-all_hold-requires
holds-all_hold-requires t c = (
  search (rules, the_lemmas),
  (
    ap (list_all (is_typed c.args.table.now.kinds)) c.as_slice.ensures ∙ sym (is_typed-And c.args.table.now.kinds c.in-And.all) ∙ rw c.in-And.is at c.requires.typed,
    c.requires.row,
  ),
)

pub holds-some_hold-requires : goal.holds-some_hold-requires
holds-some_hold-requires t c = (
  search (rules, the_lemmas),
  (
    ap (list_all (is_typed c.args.table.now.kinds)) c.as_slice-in-Or.ensures ∙ sym (is_typed-Or c.args.table.now.kinds c.in-Or.some) ∙ rw c.in-Or.is at c.requires.typed,
    c.requires.row,
  ),
)

pub holds-cell_in-left-requires-clause-column : goal.holds-cell_in-left-requires-clause-column
holds-cell_in-left-requires-clause-column t c =
    has_column-left c.args.table.now.kinds c.in-Compare.op c.in-Compare.left c.in-Compare.right (rw c.in-Compare.is at c.requires.typed)

pub holds-cell_in-right-requires-clause-column : goal.holds-cell_in-right-requires-clause-column
holds-cell_in-right-requires-clause-column t c =
    has_column-right c.args.table.now.kinds c.in-Compare.op c.in-Compare.left c.in-Compare.right (rw c.in-Compare.is at c.requires.typed)

pub holds-cell_in-requires-clause-column : goal.holds-cell_in-requires-clause-column
holds-cell_in-requires-clause-column t c =
    has_column-like c.args.table.now.kinds c.in-Like.left c.in-Like.pattern (rw c.in-Like.is at c.requires.typed)

pub holds-returns-in-And : goal.holds-returns-in-And
holds-returns-in-And t c =
    c.all_hold.ensures ∙ rw (c.as_slice.ensures, c.in-And.is) (sym (is_true-And _ c.in-And.all))

pub holds-returns-in-Or : goal.holds-returns-in-Or
holds-returns-in-Or t c =
    c.some_hold.ensures ∙ rw (c.as_slice-in-Or.ensures, c.in-Or.is) (sym (is_true-Or _ c.in-Or.some))

pub all_hold-loop-pred-preserved : goal.all_hold-loop-pred-preserved
all_hold-loop-pred-preserved t c = grind (arith, common_steps)

pub some_hold-loop-pred-preserved : goal.some_hold-loop-pred-preserved
some_hold-loop-pred-preserved t c = grind (arith, common_steps)

pub all_hold-returns-then-not-holds : goal.all_hold-returns-then-not-holds
all_hold-returns-then-not-holds t c = grind (arith, common_steps)

pub some_hold-returns-then-holds : goal.some_hold-returns-then-holds
some_hold-returns-then-holds t c = grind (arith, common_steps)

pub all_hold-returns : goal.all_hold-returns
all_hold-returns t c = grind (arith, common_steps)
