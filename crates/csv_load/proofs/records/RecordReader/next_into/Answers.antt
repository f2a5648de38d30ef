use Rattle.std.proofs.Common.{Bor, List, ℕ, Some}
use Rattle.csv_load.proofs.LeftFacts.{explains-stops, read-noted, still}
use Rattle.csv_load.proofs.records.RecordReader.next_into.Goals as goal

pub invariant_of-self-2 : goal.invariant_of-self-2
invariant_of-self-2 c = (read-noted c.self.inside.reader c.read_byte_record.new.self c.self.inside.done c.in-Ok.found _ c.if-self.false c.self.invariant c.in-Ok.ensures.reads c.in-Ok.ensures.ready c.in-Ok.ensures.flexible).1

pub returns-clause-reads : goal.returns-clause-reads
returns-clause-reads c =
    rw (← c.self.view_is) (read-noted c.self.inside.reader c.read_byte_record.new.self c.self.inside.done c.in-Ok.found _ c.if-self.false c.self.invariant c.in-Ok.ensures.reads c.in-Ok.ensures.ready c.in-Ok.ensures.flexible).0

pub returns-in-Err : goal.returns-in-Err
returns-in-Err c =
    let all = still c.self.inside.done c.self.inside.reader c.if-self.false c.self.invariant in
    record { stops = explains-stops (λ (s : Bor (List ℕ)). Some s.now) c.self.inside.reader c.read_byte_record.new.self _ all.5 (c.in-Err.ensures.why all.1); reads = tt }
