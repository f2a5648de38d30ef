use Rattle.std.proofs.Common.{◌≡◌, map, take}
use Rattle.binder.specs.Binding.{pred_of}
use Rattle.binder.proofs.translate.+translated.Given as goal

abbrev pub invariant-all_translated-loop-cond : goal.invariant-all_translated-loop-cond
invariant-all_translated-loop-cond l = l.all.items ≡ map (pred_of l.scope) (take l.cond-index l.conds)
