use Rattle.ccr_task.proofs.Indexing.{indexed-raise}
use Rattle.ccr_task.proofs.reading.Reading.draw.Goals as goal

pub invariant_of-self : goal.invariant_of-self
invariant_of-self c = record {
  indexed = indexed-raise c.self.inside.next_request c.self.inside.reads.items c.self.inside.sent.items c.self.inside.held c.self.invariant.indexed;
  ascending = c.self.invariant.ascending;
  earliest = c.self.invariant.earliest;
}
