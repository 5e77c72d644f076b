use Rattle.std.proofs.Common.{List, length, filter, sym, ◌∙◌, ap}
use Rattle.ccr_model.specs.Tasks.{Read, is_held}
use Rattle.ccr_task.proofs.reading.Reading.held_reads.Goals as goal

pub held_reads-requires : goal.held_reads-requires
held_reads-requires c = c.self.invariant.indexed.counted ∙ sym (ap (λ (xs : List Read). length (filter is_held xs)) c.as_slice.ensures.value)
