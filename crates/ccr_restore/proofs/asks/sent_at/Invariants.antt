use Rattle.std.proofs.Common.{◌≡◌, drop}
use Rattle.std.specs.Prelude.{slice_get}
use Rattle.ccr_restore.proofs.Asking.{sent_of}
use Rattle.ccr_restore.proofs.asks.sent_at.Given as goal

abbrev pub invariant-loop-asked : goal.invariant-loop-asked
invariant-loop-asked l = slice_get (sent_of (drop l.asked-index l.asks)) l.before ≡ slice_get (sent_of l.asks) l.at
