use Rattle.ccr_model.specs.Operations.{cut_of, run_from}
use Rattle.ccr_changes.proofs.Runs.{Reads}
use Rattle.ccr_changes.proofs.reading.read_run.Given as goal

abbrev pub invariant-loop-n : goal.invariant-loop-n
invariant-loop-n g l =
    Reads (g.H.History.held l.history) l.global (cut_of l.fn.max_ops l.fn.max_bytes (run_from (g.H.History.held l.history) l.fn.from l.global)) l.ops.items l.left l.room l.n
