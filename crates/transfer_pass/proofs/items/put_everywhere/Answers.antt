use Rattle.std.proofs.Common.{◌≡◌, ℕ, All, true, ap, sym, subst, below_more}
use Rattle.std.specs.Prelude.{fold}
use Rattle.transfer_core.specs.Actors.{is_listed}
use Rattle.filter_board.specs.Runs.{with_listed}
use Rattle.filter_board.specs.Views.{HandView, job_in}
use Rattle.transfer_pass.proofs.ListedFacts.{all_now, all_still, may_still, same_but_puts}
use Rattle.transfer_pass.proofs.items.put_everywhere.Goals as goal

pub put_all-requires-clause-items : goal.put_all-requires-clause-items
put_all-requires-clause-items g c =
    may_still (job_in g.P.Placement.seen c.args.board.now) c.args.pipe c.loop-port.port c.loop-port.hand.actor c.args.hand.now.actor c.args.items.now
    (ap (λ (h : HandView). h.actor.held) c.loop-port.invariant.same) (c.requires.items c.loop-port.port c.loop-port-test.true)

pub loop-port-preserved : goal.loop-port-preserved
loop-port-preserved g c =
    let i = c.loop-port.invariant in let items = c.args.items.now in let port = c.loop-port.port in let before = c.loop-port.hand.actor.puts in
    let after = c.put_all.new.hand.actor.puts in
    let puts = ap (λ (h : HandView). h.actor.puts) c.put_all.ensures in
    let still = λ (k q : ℕ) (t : is_listed k q before ≡ true). subst (λ l. is_listed k q l ≡ true) (sym puts) (all_still k q port items before t) in record {
      same = same_but_puts c.put_all.new.hand c.loop-port.hand c.args.hand.now (fold (with_listed port) before items) c.put_all.ensures i.same;
      keeps = λ k q t. still k q (i.keeps k q t);
      listed = below_more (λ q. All (λ k. is_listed k q after ≡ true) items) port (λ q l n d there. still _ q (i.listed q l n d there))
          (subst (λ l. All (λ k. is_listed k port l ≡ true) items) (sym puts) (all_now port items before));
    }
