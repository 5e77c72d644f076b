-- The events that bring a world nearer to being settled are among those that settling may use.
use Rattle.std.specs.Prelude.{slice_get, is_some, is_none}
use Rattle.std.specs.Option.{option_map_or}
use Rattle.std.proofs.Common.{◌≡◌, ◌==◌, ◌&&◌, Bool, true, false, not, Option, Some, None, refl}
use Rattle.std.proofs.lemmas.Bool.{and_parts, eqb-true}
use Rattle.ccr_journal.specs.declared.sides.Side.TheVariants as sides
use Rattle.ccr_journal.specs.declared.events.Event.{Event}
use Rattle.ccr_journal.specs.declared.events.Event.TheVariants as events
use Rattle.ccr_model.specs.Copies.{not_ready}
use Rattle.ccr_model.specs.Followers.{Follower}
use Rattle.ccr_model.specs.World.{State}
use Rattle.ccr_model.specs.Settling.{may_wake, MaySettle, IsSettling}

not-kept : (keep : Bool) → not keep ≡ true → keep ≡ false
not-kept true is = cc
not-kept false is = refl

for-any : (own : Option Follower) (b : Bool) → option_map_or (λ (x : Follower). b) own false ≡ true → b ≡ true
for-any None b is = cc
for-any (Some x) b is = is

pub settling-is : (s : State) (event : Event) → MaySettle s event → IsSettling s event
settling-is s (events.Replicate side copy seq) may = tt
settling-is s (events.Ack side copy) may = tt
settling-is s (events.Sync side copy) may = tt
settling-is s (events.Resync copy) may = tt
settling-is s (events.Take f write) may = tt
settling-is s (events.Apply f epoch write batch) may = tt
settling-is s (events.Written f write) may = tt
settling-is s (events.Tick f) may = tt
settling-is s (events.Deliver at copy keep) may =
    let first = and_parts (is_some (slice_get s.flight at) && (copy == s.leader.copies.primary.number) && not keep) (is_none (not_ready s.leader.copies)) may in
    let second = and_parts (is_some (slice_get s.flight at) && (copy == s.leader.copies.primary.number)) (not keep) first.0 in
    let third = and_parts (is_some (slice_get s.flight at)) (copy == s.leader.copies.primary.number) second.0 in
    (eqb-true copy s.leader.copies.primary.number third.1, not-kept keep second.1)
settling-is s (events.Wake f at) may = for-any (slice_get s.followers f) (may_wake s f at) may
settling-is s (events.Lose f at) may = may
settling-is s (events.Clock (sides.Follower f) now) may = may
settling-is s (events.Clock sides.Leader now) may = absurd (cc)
settling-is s (events.Write request) may = absurd (cc)
settling-is s (events.Promote side copy) may = absurd (cc)
settling-is s (events.ForcePromote copy) may = absurd (cc)
settling-is s (events.FailCopy side copy) may = absurd (cc)
settling-is s (events.AddCopy side) may = absurd (cc)
settling-is s (events.Flush side copy) may = absurd (cc)
settling-is s (events.Merge side copy) may = absurd (cc)
settling-is s events.Expire may = absurd (cc)
settling-is s events.CloseSessions may = absurd (cc)
settling-is s (events.Drop at) may = absurd (cc)
settling-is s (events.LoseWrite f write) may = absurd (cc)
settling-is s (events.Renew f) may = absurd (cc)
settling-is s (events.Follow params copies name) may = absurd (cc)
settling-is s (events.Pause f) may = absurd (cc)
settling-is s (events.Resume f) may = absurd (cc)
settling-is s (events.Restart f) may = absurd (cc)
settling-is s (events.Unfollow f) may = absurd (cc)
settling-is s (events.Search side copy request) may = absurd (cc)
settling-is s (events.Status side) may = absurd (cc)
settling-is s events.Settle may = absurd (cc)
