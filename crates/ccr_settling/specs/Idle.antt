-- Where nothing may be done in a part of a world to settle it.
use Rattle.std.specs.Prelude.{◌≡◌, ℕ, ◌<◌, ◌==◌, ◌&&◌, Bool, true, false, nat_lt, List, slice_get, Option, None}
use Rattle.std.specs.List.{AllByRecursion, list_any}
use Rattle.std.specs.Option.{option_and_then, option_map_or}
use Rattle.std.specs.Str.{bytes_eq}
use Rattle.ccr_model.specs.Copies.{Copy, Replica, Copies, copy_of, has_lease}
use Rattle.ccr_model.specs.Leaders.{KeptRequest, Poll}
use Rattle.ccr_model.specs.Followers.{Follower}
use Rattle.ccr_model.specs.World.{State}
use Rattle.ccr_model.specs.Settling.{may_wake, waits_until}

-- what is asked for by a kept request is no answer to come: the primary lacks the lease
abbrev pub NoneIsKept : State → Type 0
NoneIsKept s =
    (uuid : List ℕ) (request : ℕ)
    → list_any (λ (k : KeptRequest). bytes_eq k.follower uuid && (k.request == request) && has_lease k.id s.leader.copies.primary) s.leader.kept ≡ false

-- no poll of any follower has something to bring
abbrev pub NoneWakes : State → Type 0
NoneWakes s = (f at : ℕ) → may_wake s f at ≡ false

-- the poll has something to bring
abbrev pub brings : State → Poll → Bool
brings s p = option_map_or (λ (c : Copy). nat_lt p.from c.global) (copy_of s.leader.copies p.copy) false

-- no poll at the copy of this number has something to bring
abbrev pub NoneWakesAt : State → ℕ → Type 0
NoneWakesAt s copy = AllByRecursion (λ (p : Poll). (p.copy == copy) ≡ true → brings s p ≡ false) s.leader.polls

-- so at a replica
abbrev pub NoneWakesAtReplica : State → Copies → Replica → Type 0
NoneWakesAtReplica s copies r = NoneWakesAt s r.copy.number

-- until when the follower of this number waits
abbrev pub waits_of : State → ℕ → Option ℕ
waits_of s f = option_and_then (λ (own : Follower). waits_until own.work) (slice_get s.followers f)

-- none of the followers below a number waits
abbrev pub NoneWaitsBelow : State → ℕ → Type 0
NoneWaitsBelow s n = (f : ℕ) → f < n → waits_of s f ≡ None
