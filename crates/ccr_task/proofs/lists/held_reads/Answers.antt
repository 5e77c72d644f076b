use Rattle.std.proofs.Common.{length, sym, ◌∙◌, ap, filter, drop}
use Rattle.ccr_model.specs.Tasks.{is_held}
use Rattle.ccr_task.proofs.Counts.{front-whole}
use Rattle.ccr_task.proofs.lists.held_reads.Goals as goal

pub returns-then-as_slice-count : goal.returns-then-as_slice-count
returns-then-as_slice-count c =
    front-whole c.loop-read.held.items (filter is_held (drop c.loop-read.read-index c.args.reads.now)) (filter is_held c.args.reads.now) c.loop-read.invariant
    (sym (ap length c.as_slice.ensures.value) ∙ (c.if-as_slice-count.true ∙ c.requires))
