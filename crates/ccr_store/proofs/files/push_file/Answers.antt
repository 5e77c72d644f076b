use Rattle.std.proofs.Common.{nat_lt, sym, ◌∙◌, subst}
use Rattle.ccr_segment.specs.Segment.{AscendsFrom}
use Rattle.ccr_store.specs.Kept.{kept_at}
use Rattle.ccr_store.proofs.Lengths.{ascend-ops}
use Rattle.ccr_store.proofs.files.push_file.Goals as goal

pub write-requires-clause-order : goal.write-requires-clause-order
write-requires-clause-order c =
    subst (AscendsFrom 0) (sym (c.as_slice.ensures.value ∙ c.in_ok-below.ensures))
    (ascend-ops (kept_at c.args.ops.now.entries) (λ op. nat_lt op.seq c.args.count) c.requires.own 0 c.args.numbers.now c.requires.order)
