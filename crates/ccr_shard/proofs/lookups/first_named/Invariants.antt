use Rattle.std.proofs.Common.{◌≡◌, drop}
use Rattle.std.specs.List.{position_from}
use Rattle.std.specs.Str.{bytes_eq}
use Rattle.ccr_model.specs.Followers.{Follower}
use Rattle.ccr_shard.proofs.lookups.first_named.Given as goal

abbrev pub invariant-loop-own : goal.invariant-loop-own
invariant-loop-own l =
    (l.f ≡ l.own-index)
    × (position_from (λ (own : Follower). bytes_eq own.lease l.name) l.f (drop l.own-index l.followers) ≡ position_from (λ (own : Follower). bytes_eq own.lease l.name) 0 l.followers)
