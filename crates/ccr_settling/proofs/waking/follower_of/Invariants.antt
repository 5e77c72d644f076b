use Rattle.std.proofs.Common.{◌≢◌, ℕ, ◌<◌}
use Rattle.ccr_model.specs.Followers.{uuid_of}
use Rattle.ccr_settling.proofs.waking.follower_of.Given as goal

abbrev pub invariant-loop-f : goal.invariant-loop-f
invariant-loop-f l = (k : ℕ) → k < l.f → uuid_of k ≢ l.uuid
