use Rattle.std.proofs.Common.{take, ◌∙◌}
use Rattle.ccr_io.proofs.Pieces.{Moves-next}
use Rattle.ccr_io.proofs.tests.copy_through.Goals as goal

pub loop-preserved : goal.loop-preserved
loop-preserved g c =
    record {
      moved = Moves-next _ _ _ _ _ _ (take c.in_ok-count.count c.read.new.into) c.loop.invariant.moved c.in_ok-count.ensures.bytes c.in_ok-write_all.ensures.whole;
      source_quiet = c.in_ok-count.ensures.quiet ∙ c.loop.invariant.source_quiet;
      sink_quiet = c.in_ok-write_all.ensures.quiet ∙ c.loop.invariant.sink_quiet;
    }
