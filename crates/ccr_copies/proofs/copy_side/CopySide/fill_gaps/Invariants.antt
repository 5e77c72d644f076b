use Rattle.ccr_copies.proofs.Progress.{IsFilling}
use Rattle.ccr_copies.proofs.copy_side.CopySide.fill_gaps.Given as goal

abbrev pub invariant-loop-seq : goal.invariant-loop-seq
invariant-loop-seq l = IsFilling l.term l.seq l.seq-end l.initial.self l.self l.filled
