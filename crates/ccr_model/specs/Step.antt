-- What each event comes to in a shard world, the world after a journal, and the legal journals.
use Rattle.std.specs.Prelude.{◌≡◌, ℕ, not, List, [], ◌∷◌, slice_get, Option, Some, None}
use Rattle.ccr_journal.specs.declared.sides.Side.{Side}
use Rattle.ccr_journal.specs.declared.sides.Side.TheVariants as sides
use Rattle.ccr_journal.specs.declared.events.Event.{Event}
use Rattle.ccr_journal.specs.declared.events.Event.TheVariants as events
use Rattle.ccr_journal.specs.declared.journals.Entry.{Entry}
use Rattle.ccr_journal.specs.declared.replies.Reply.{Reply}
use Rattle.ccr_journal.specs.declared.replies.Reply.TheVariants as replies
use Rattle.ccr_journal.specs.declared.replies.Refusal.TheVariants.{NoFollower, NotSettled}
use Rattle.ccr_model.specs.Outcomes.{Outcome, refused, answered, guarded}
use Rattle.ccr_model.specs.Copies.{Copy, copy_of}
use Rattle.ccr_model.specs.Leaders.{Leader}
use Rattle.ccr_model.specs.LeaderRows.{leader_write, leader_replicate, leader_ack, leader_sync, leader_promote, leader_force_promote, leader_resync, leader_fail_copy, leader_add_copy, leader_flush, leader_merge, leader_clock, leader_expire, leader_close_sessions, leader_status}
use Rattle.ccr_model.specs.LeaderFrames.{leader_wake}
use Rattle.ccr_model.specs.Followers.{Follower, uuid_of}
use Rattle.ccr_model.specs.FollowerRows.{lose_row, tick_row, follower_clock_row, sent_write, lose_write_row, take_row, apply_row, written_row, task_of, renew_row, pause_row, resume_row, restart_row, unfollow_row, follower_add_copy_row, follower_replicate, follower_ack, follower_sync, follower_promote, follower_fail_copy, follower_flush, follower_merge, follower_status_row}
use Rattle.ccr_model.specs.World.{State, at_leader, for_follower, deliver_row, drop_row, follow_row, same_name, search_row}
use Rattle.ccr_model.specs.Settled.{is_settled}

-- an event of one side: the leader's, or that of a follower
abbrev pub on_side : State → Side → (Leader → Outcome Leader) → (Follower → Outcome Follower) → Outcome State
on_side s sides.Leader leader follower = at_leader s (leader s.leader)
on_side s (sides.Follower f) leader follower = for_follower s f follower (slice_get s.followers f)

-- an event of a follower
abbrev pub on_follower : State → ℕ → (Follower → Outcome Follower) → Outcome State
on_follower s f row = for_follower s f row (slice_get s.followers f)

-- a poll of a follower is answered at the leader
abbrev pub woken : State → ℕ → ℕ → Option Follower → Outcome State
woken s f at None = refused s (NoFollower f)
woken s f at (Some follower) = at_leader s (leader_wake s.leader (uuid_of f) at)

abbrev pub searched_at : State → Side → ℕ → (Option Copy → Outcome State) → Outcome State
searched_at s sides.Leader copy row = row (copy_of s.leader.copies copy)
searched_at s (sides.Follower f) copy row = elim (slice_get s.followers f) as (λ _. Outcome State) [
  | None ↦ refused s (NoFollower f)
  | Some follower ↦ row (copy_of follower.copies copy)
]

-- what an event comes to; the picks matter for a merge alone
abbrev pub step : State → Event → List ℕ → Outcome State
step s (events.Write request) picks = at_leader s (leader_write s.leader request)
step s (events.Replicate side copy seq) picks = on_side s side (λ l. leader_replicate l copy seq) (λ f. follower_replicate f copy seq)
step s (events.Ack side copy) picks = on_side s side (λ l. leader_ack l copy) (λ f. follower_ack f copy)
step s (events.Sync side copy) picks = on_side s side (λ l. leader_sync l copy) (λ f. follower_sync f copy)
step s (events.Promote side copy) picks = on_side s side (λ l. leader_promote l copy) (λ f. follower_promote f copy)
step s (events.ForcePromote copy) picks = at_leader s (leader_force_promote s.leader copy)
step s (events.Resync copy) picks = at_leader s (leader_resync s.leader copy)
step s (events.FailCopy side copy) picks = on_side s side (λ l. leader_fail_copy l copy) (λ f. follower_fail_copy f copy)
step s (events.AddCopy side) picks = on_side s side (λ l. leader_add_copy l) (λ f. follower_add_copy_row f)
step s (events.Flush side copy) picks = on_side s side (λ l. leader_flush l copy) (λ f. follower_flush f copy)
step s (events.Merge side copy) picks = on_side s side (λ l. leader_merge l copy picks) (λ f. follower_merge f copy picks)
step s (events.Clock side now) picks = on_side s side (λ l. leader_clock l now) (λ f. follower_clock_row f now)
step s events.Expire picks = at_leader s (leader_expire s.leader)
step s events.CloseSessions picks = at_leader s (leader_close_sessions s.leader)
step s (events.Tick f) picks = on_follower s f tick_row
step s (events.Deliver at copy keep) picks = deliver_row s at copy keep (slice_get s.flight at) (copy_of s.leader.copies copy)
step s (events.Drop at) picks = drop_row s at (slice_get s.flight at)
step s (events.Wake f at) picks = woken s f at (slice_get s.followers f)
step s (events.Lose f at) picks = on_follower s f (λ x. lose_row x at)
step s (events.LoseWrite f write) picks = on_follower s f (λ x. lose_write_row x write (sent_write x.work write))
step s (events.Take f write) picks = on_follower s f (λ x. take_row x write (sent_write x.work write))
step s (events.Apply f epoch write batch) picks = on_follower s f (λ x. apply_row x epoch write batch (sent_write x.work write))
step s (events.Written f write) picks = on_follower s f (λ x. written_row x write (sent_write x.work write))
step s (events.Renew f) picks = on_follower s f (λ x. renew_row x (task_of x.work))
step s (events.Follow params copies name) picks = follow_row s params copies name (same_name s.followers name)
step s (events.Pause f) picks = on_follower s f (λ x. pause_row x (task_of x.work))
step s (events.Resume f) picks = on_follower s f (λ x. resume_row x (task_of x.work))
step s (events.Restart f) picks = on_follower s f (λ x. restart_row x (task_of x.work))
step s (events.Unfollow f) picks = on_follower s f (λ x. unfollow_row x (task_of x.work))
step s (events.Search side copy request) picks = searched_at s side copy (search_row s copy request.query request.sort)
step s (events.Status side) picks = on_side s side leader_status follower_status_row
step s events.Settle picks = guarded s ((not (is_settled s), NotSettled) ∷ []) (answered replies.Settled s)

-- the picks that a merge's reply keeps
abbrev pub picks_in : Reply → List ℕ
picks_in (replies.Merged floor dropped picks) = picks
picks_in _ = []

-- what an entry's event comes to
abbrev pub outcome_at : State → Entry → Outcome State
outcome_at s entry = step s entry.event (picks_in entry.reply)

-- the world after a journal's entries
abbrev pub state_after : State → List Entry → State
state_after s [] = s
state_after s (entry ∷ entries) = state_after (outcome_at s entry).next entries

-- the replies that a journal's events get, with the picks that its entries keep
abbrev pub replies_of : State → List Entry → List Reply
replies_of s [] = []
replies_of s (entry ∷ entries) = (outcome_at s entry).reply ∷ replies_of (outcome_at s entry).next entries

-- each entry's reply is the one that its event gets at its place
abbrev pub IsLegal : State → List Entry → Type 0
IsLegal s [] = Unit {0}
IsLegal s (entry ∷ entries) = (entry.reply ≡ (outcome_at s entry).reply) × IsLegal (outcome_at s entry).next entries
