-- Where no event may be used to settle, the world is settled.
use Rattle.std.proofs.Common.{◌≡◌, ℕ, true, Option, Some, None, refl}
use Rattle.ccr_journal.specs.declared.sides.Side.TheVariants as sides
use Rattle.ccr_journal.specs.declared.events.Event.{Event}
use Rattle.ccr_journal.specs.declared.events.Event.TheVariants as events
use Rattle.ccr_model.specs.World.{State}
use Rattle.ccr_model.specs.Settled.{is_settled}
use Rattle.ccr_model.specs.Settling.{MaySettle, may_act, waits_until}
use Rattle.ccr_law_settling.specs.Left.{NothingMayBeDone, IsLeaderSettled}
use Rattle.ccr_law_settling.specs.FollowersLeft.{NoneWaits, AreFollowersSettled}
use Rattle.std.proofs.lemmas.Bool.{false_from_ne_true}

-- nothing may be done
pub none_acts : (s : State) → ((event : Event) → ¬ MaySettle s event) → NothingMayBeDone s
none_acts s none (events.Clock side now) = refl
none_acts s none (events.Replicate side copy seq) = false_from_ne_true (may_act s (events.Replicate side copy seq)) (none (events.Replicate side copy seq))
none_acts s none (events.Ack side copy) = false_from_ne_true (may_act s (events.Ack side copy)) (none (events.Ack side copy))
none_acts s none (events.Sync side copy) = false_from_ne_true (may_act s (events.Sync side copy)) (none (events.Sync side copy))
none_acts s none (events.Resync copy) = false_from_ne_true (may_act s (events.Resync copy)) (none (events.Resync copy))
none_acts s none (events.Deliver at copy keep) = false_from_ne_true (may_act s (events.Deliver at copy keep)) (none (events.Deliver at copy keep))
none_acts s none (events.Wake f at) = false_from_ne_true (may_act s (events.Wake f at)) (none (events.Wake f at))
none_acts s none (events.Lose f at) = false_from_ne_true (may_act s (events.Lose f at)) (none (events.Lose f at))
none_acts s none (events.Apply f epoch write batch) = false_from_ne_true (may_act s (events.Apply f epoch write batch)) (none (events.Apply f epoch write batch))
none_acts s none (events.Written f write) = false_from_ne_true (may_act s (events.Written f write)) (none (events.Written f write))
none_acts s none (events.Tick f) = false_from_ne_true (may_act s (events.Tick f)) (none (events.Tick f))
none_acts s none _ = refl

-- no clock may be set
pub none_waits : (s : State) → ((event : Event) → ¬ MaySettle s event) → NoneWaits s
none_waits s none f own there = by (waits_until own.work) refl
  where
    by : (o : Option ℕ) → waits_until own.work ≡ o → o ≡ None
    by None is = refl
    by (Some now) is = absurd (none (events.Clock (sides.Follower f) now) (record { follower = own; is = there; least = is; alone = none_acts s none }))

pub settled_by : (s : State) → IsLeaderSettled s → AreFollowersSettled s → is_settled s ≡ true
settled_by s leader followers = rw leader.ready (rw leader.whole (rw leader.taken followers))
