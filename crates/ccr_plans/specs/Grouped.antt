-- Events of copies and of followers, before it is known which side the index is.
use Rattle.std.specs.Prelude.{ℕ}
use Rattle.ccr_journal.specs.declared.sides.Side.{Side}
use Rattle.ccr_journal.specs.declared.events.Event.{Event}
use Rattle.ccr_journal.specs.declared.events.Event.TheVariants as event
use Rattle.ccr_plans.specs.declared.grouped.CopyEvent.{CopyEvent}
use Rattle.ccr_plans.specs.declared.grouped.CopyEvent.TheVariants as copies
use Rattle.ccr_plans.specs.declared.grouped.FollowerEvent.{FollowerEvent}
use Rattle.ccr_plans.specs.declared.grouped.FollowerEvent.TheVariants as followers

abbrev pub copy_event : Side → CopyEvent → Event
copy_event side (copies.Replicate copy seq) = event.Replicate side copy seq
copy_event side (copies.Ack copy) = event.Ack side copy
copy_event side (copies.Sync copy) = event.Sync side copy
copy_event side (copies.Promote copy) = event.Promote side copy
copy_event side (copies.FailCopy copy) = event.FailCopy side copy
copy_event side (copies.Flush copy) = event.Flush side copy
copy_event side (copies.Merge copy) = event.Merge side copy
copy_event side copies.AddCopy = event.AddCopy side
copy_event side (copies.Deliver at copy keep) = event.Deliver at copy keep
copy_event side (copies.Drop at) = event.Drop at

abbrev pub follower_event : ℕ → FollowerEvent → Event
follower_event f (followers.Wake at) = event.Wake f at
follower_event f (followers.Lose at) = event.Lose f at
follower_event f (followers.LoseWrite write) = event.LoseWrite f write
follower_event f (followers.Written write) = event.Written f write
follower_event f followers.Renew = event.Renew f
follower_event f followers.Restart = event.Restart f
