use Rattle.script_calls.proofs.walks.+put_cond.Given as goal

abbrev pub decreases-put_cond : goal.decreases-put_cond
decreases-put_cond l = l.levels
