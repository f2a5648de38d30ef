use Rattle.rpt_cli.proofs.SampleFacts.{sizes-put}
use Rattle.rpt_cli.proofs.summary.put_sizes.Goals as goal

pub returns : goal.returns
returns c = sizes-put c.args.text.now.items c.put_size.new.text.items c.put_hash.new.text.items c.args.answer.now c.fnv.result c.in_ok-put_size.ensures c.in_ok-put_hash.ensures c.fnv.ensures
