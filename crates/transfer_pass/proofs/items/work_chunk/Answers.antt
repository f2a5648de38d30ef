use Rattle.std.proofs.Common.{◌≡◌, ℕ, All, Bool, true, arith, ap, sym, ◌∙◌, subst}
use Rattle.transfer_core.specs.Actors.{is_listed}
use Rattle.filter_board.specs.Runs.{MayPut}
use Rattle.filter_board.specs.Views.{HandView, job_in, shape_in}
use Rattle.transfer_pass.specs.Work.{passes_sealed}
use Rattle.transfer_pass.proofs.ChunkFacts.{each_in, of_each}
use Rattle.transfer_pass.proofs.items.work_chunk.Goals as goal

pub put_everywhere-requires-clause-items : goal.put_everywhere-requires-clause-items
put_everywhere-requires-clause-items g c = λ q less.
    let s = shape_in g.P.Placement.seen c.args.board.now in
    let test : ℕ → Bool = λ i. passes_sealed s i c.args.reads.now in
    let may = MayPut (job_in g.P.Placement.seen c.args.board.now) c.args.pipe q c.gather-count.new.hand.actor in
    subst (All may) (sym c.gather-count.ensures.passing) (each_in may test c.args.from c.args.to (λ i low high yes. let h = c.requires.items i low high in record {
      passing = (h.pipe, h.inside, omega (arith, less, c.requires.writes), ap (passes_sealed s i) (sym c.requires.reads) ∙ yes);
      holds = ap (λ (x : HandView). x.actor.held) c.gather-count.ensures.same ∙ h.holds;
    }))

pub returns-clause-listed : goal.returns-clause-listed
returns-clause-listed g c = λ i low high q it.
    let s = shape_in g.P.Placement.seen c.args.board.now in
    let test : ℕ → Bool = λ k. passes_sealed s k c.args.reads.now in
    let listed = λ (k : ℕ). is_listed k q c.put_everywhere.new.hand.actor.puts ≡ true in
    of_each listed test c.args.from c.args.to i low high (ap (passes_sealed s i) c.requires.reads ∙ it.3)
    (subst (All listed) c.gather-count.ensures.passing (c.put_everywhere.ensures.listed q (omega (arith, it.2, c.requires.writes))))
