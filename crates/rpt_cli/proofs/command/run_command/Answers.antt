use Rattle.std.proofs.Common.{arith}
use Rattle.std.proofs.lemmas.Grind.{common_steps}
use Rattle.rpt_outside.specs.Whole.{bytes_of}
use Rattle.command_words.specs.Words.{words_of}
use Rattle.rpt_cli.proofs.Causes.{HasReply-tells}
use Rattle.rpt_cli.proofs.CountsFacts.{HasReply-counts}
use Rattle.rpt_cli.proofs.Outcomes.{HasReply-complete, HasReply-text}
use Rattle.rpt_cli.proofs.command.run_command.Goals as goal

pub returns-clause-reply : goal.returns-clause-reply
returns-clause-reply g c = record { reply = bytes_of c.reply_to-reply.result; cause = c.reply_to-reply.ensures.gives; delivered = c.deliver.ensures.delivers }

pub returns-clause-text : goal.returns-clause-text
returns-clause-text g c = λ z reply o. HasReply-text reply (returns-clause-reply g c) z o

pub returns-clause-complete : goal.returns-clause-complete
returns-clause-complete g c = λ reply o ok quiet less. HasReply-complete reply (returns-clause-reply g c) o ok quiet less

pub returns-clause-usage : goal.returns-clause-usage
returns-clause-usage g c = (HasReply-tells (words_of c.args.words.now) (returns-clause-reply g c)).usage

pub returns-clause-read_fault : goal.returns-clause-read_fault
returns-clause-read_fault g c = (HasReply-tells (words_of c.args.words.now) (returns-clause-reply g c)).read_fault

pub returns-clause-write_fault : goal.returns-clause-write_fault
returns-clause-write_fault g c = (HasReply-tells (words_of c.args.words.now) (returns-clause-reply g c)).write_fault

pub returns-clause-counts : goal.returns-clause-counts
returns-clause-counts g c = λ z command said is. HasReply-counts (words_of c.args.words.now) command (returns-clause-reply g c) z said is

pub returns-clause-quiet : goal.returns-clause-quiet
returns-clause-quiet c = grind (arith, common_steps)

pub returns-clause-silent : goal.returns-clause-silent
returns-clause-silent c = grind (arith, common_steps)
