use Rattle.std.proofs.Common.{◌≡◌, drop}
use Rattle.ccr_model.specs.World.{follower_from, follower_of}
use Rattle.ccr_shard.proofs.lookups.follower_of.Given as goal

abbrev pub invariant-loop-own : goal.invariant-loop-own
invariant-loop-own l =
    (l.f ≡ l._own-index) × (follower_from l.f (drop l._own-index l.followers) l.uuid ≡ follower_of l.followers l.uuid)
