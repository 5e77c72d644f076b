use Rattle.std.proofs.Common.{take}
use Rattle.ccr_lines.specs.Lines.{IsPlain}
use Rattle.ccr_lines.proofs.chunks.feed_place.Given as goal

abbrev pub invariant-loop-place : goal.invariant-loop-place
invariant-loop-place l = IsPlain (take l.place l.bytes)
