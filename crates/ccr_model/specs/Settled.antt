-- When nothing is left to be done in a shard world.
use Rattle.std.specs.Prelude.{ℕ, Bool, false, not, ◌&&◌, ◌||◌, ◌==◌, nat_le, List, is_none}
use Rattle.std.specs.List.{list_all}
use Rattle.std.specs.Str.{bytes_eq}
use Rattle.ccr_model.specs.Operations.{is_empty}
use Rattle.ccr_model.specs.Copies.{Copy, all_copies, not_ready}
use Rattle.ccr_model.specs.Tasks.{is_active}
use Rattle.ccr_model.specs.Followers.{Follower, restoring, replicating}
use Rattle.ccr_model.specs.World.{State}

-- the copy has processed all numbers below the count and knows it
abbrev pub is_whole : ℕ → Copy → Bool
is_whole count c = nat_le count c.seen.count && (c.global == count)

-- a follower is out of its bootstrap, and has nothing to write; where it is active, it has the leader's history and its copies are whole
abbrev pub is_follower_settled : List ℕ → ℕ → Follower → Bool
is_follower_settled history count s = elim s.work as (λ _. Bool) [
  | restoring r ↦ false
  | replicating t ↦ is_empty t.buffer && is_empty t.writes && (not (is_active t.phase) || (bytes_eq s.history history && list_all (is_whole count) (all_copies s.copies)))
]

-- the history is what the leader's primary has processed
abbrev pub is_settled : State → Bool
is_settled s =
    let count = s.leader.copies.primary.seen.count in
    is_none (not_ready s.leader.copies)
    && list_all (is_whole count) (all_copies s.leader.copies)
    && is_empty s.flight
    && list_all (is_follower_settled s.leader.history count) s.followers
