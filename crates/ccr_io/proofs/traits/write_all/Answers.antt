use Rattle.std.proofs.Common.{arith, ◌-◌, length, length-drop, length-take, drop, ◌∙◌}
use Rattle.ccr_io.proofs.Pieces.{appends_next}
use Rattle.ccr_io.proofs.traits.write_all.Goals as goal

pub loop-done-preserved : goal.loop-done-preserved
loop-done-preserved g c =
    let bytes = c.args.bytes.now in
    let done = c.loop-done.done in
    record {
      in_range = omega (arith, length-take (length bytes - done) (drop done bytes), length-drop done bytes, c.in_ok-done.ensures.count);
      appended = appends_next _ _ _ bytes done c.in_ok-done.field-0 (length bytes - done) c.loop-done.invariant.appended c.in_ok-done.ensures.count c.in_ok-done.ensures.bytes;
      told = c.in_ok-done.ensures.told ∙ c.loop-done.invariant.told;
      quiet = c.in_ok-done.ensures.quiet ∙ c.loop-done.invariant.quiet;
    }
