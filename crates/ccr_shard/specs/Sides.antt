-- What an event comes to on the side that it is of.
use Rattle.std.specs.Prelude.{ℕ, List}
use Rattle.ccr_journal.specs.declared.sides.Side.{Side}
use Rattle.ccr_journal.specs.declared.sides.Side.TheVariants as sides
use Rattle.ccr_journal.specs.declared.events.Event.{Event}
use Rattle.ccr_journal.specs.declared.events.Event.TheVariants as events
use Rattle.ccr_journal.specs.declared.replies.Reply.TheVariants as replies
use Rattle.ccr_model.specs.Outcomes.{Outcome, answered}
use Rattle.ccr_model.specs.Leaders.{Leader}
use Rattle.ccr_model.specs.LeaderRows.{leader_write, leader_replicate, leader_ack, leader_sync, leader_promote, leader_force_promote, leader_resync, leader_fail_copy, leader_add_copy, leader_flush, leader_merge, leader_clock, leader_expire, leader_close_sessions, leader_status}
use Rattle.ccr_model.specs.Followers.{Follower}
use Rattle.ccr_model.specs.FollowerRows.{lose_row, tick_row, follower_clock_row, sent_write, lose_write_row, take_row, apply_row, written_row, task_of, renew_row, pause_row, resume_row, restart_row, unfollow_row, follower_add_copy_row, follower_replicate, follower_ack, follower_sync, follower_promote, follower_fail_copy, follower_flush, follower_merge, follower_status_row}

-- the side that an event is of: the follower that it names, and else the leader
abbrev pub side_of : Event → Side
side_of (events.Replicate side copy seq) = side
side_of (events.Ack side copy) = side
side_of (events.Sync side copy) = side
side_of (events.Promote side copy) = side
side_of (events.FailCopy side copy) = side
side_of (events.AddCopy side) = side
side_of (events.Flush side copy) = side
side_of (events.Merge side copy) = side
side_of (events.Clock side now) = side
side_of (events.Search side copy request) = side
side_of (events.Status side) = side
side_of (events.Tick f) = sides.Follower f
side_of (events.Wake f at) = sides.Follower f
side_of (events.Lose f at) = sides.Follower f
side_of (events.LoseWrite f write) = sides.Follower f
side_of (events.Take f write) = sides.Follower f
side_of (events.Apply f epoch write batch) = sides.Follower f
side_of (events.Written f write) = sides.Follower f
side_of (events.Renew f) = sides.Follower f
side_of (events.Pause f) = sides.Follower f
side_of (events.Resume f) = sides.Follower f
side_of (events.Restart f) = sides.Follower f
side_of (events.Unfollow f) = sides.Follower f
side_of _ = sides.Leader

-- what an event of the leader's side comes to there; any other does nothing there
abbrev pub leader_part : Event → List ℕ → Leader → Outcome Leader
leader_part (events.Write request) picks l = leader_write l request
leader_part (events.Replicate side copy seq) picks l = leader_replicate l copy seq
leader_part (events.Ack side copy) picks l = leader_ack l copy
leader_part (events.Sync side copy) picks l = leader_sync l copy
leader_part (events.Promote side copy) picks l = leader_promote l copy
leader_part (events.ForcePromote copy) picks l = leader_force_promote l copy
leader_part (events.Resync copy) picks l = leader_resync l copy
leader_part (events.FailCopy side copy) picks l = leader_fail_copy l copy
leader_part (events.AddCopy side) picks l = leader_add_copy l
leader_part (events.Flush side copy) picks l = leader_flush l copy
leader_part (events.Merge side copy) picks l = leader_merge l copy picks
leader_part (events.Clock side now) picks l = leader_clock l now
leader_part events.Expire picks l = leader_expire l
leader_part events.CloseSessions picks l = leader_close_sessions l
leader_part (events.Status side) picks l = leader_status l
leader_part _ picks l = answered replies.Done l

-- what an event of a follower's side comes to there; any other does nothing there
abbrev pub follower_part : Event → List ℕ → Follower → Outcome Follower
follower_part (events.Replicate side copy seq) picks f = follower_replicate f copy seq
follower_part (events.Ack side copy) picks f = follower_ack f copy
follower_part (events.Sync side copy) picks f = follower_sync f copy
follower_part (events.Promote side copy) picks f = follower_promote f copy
follower_part (events.FailCopy side copy) picks f = follower_fail_copy f copy
follower_part (events.AddCopy side) picks f = follower_add_copy_row f
follower_part (events.Flush side copy) picks f = follower_flush f copy
follower_part (events.Merge side copy) picks f = follower_merge f copy picks
follower_part (events.Clock side now) picks f = follower_clock_row f now
follower_part (events.Status side) picks f = follower_status_row f
follower_part (events.Tick number) picks f = tick_row f
follower_part (events.Lose number at) picks f = lose_row f at
follower_part (events.LoseWrite number write) picks f = lose_write_row f write (sent_write f.work write)
follower_part (events.Take number write) picks f = take_row f write (sent_write f.work write)
follower_part (events.Apply number epoch write batch) picks f = apply_row f epoch write batch (sent_write f.work write)
follower_part (events.Written number write) picks f = written_row f write (sent_write f.work write)
follower_part (events.Renew number) picks f = renew_row f (task_of f.work)
follower_part (events.Pause number) picks f = pause_row f (task_of f.work)
follower_part (events.Resume number) picks f = resume_row f (task_of f.work)
follower_part (events.Restart number) picks f = restart_row f (task_of f.work)
follower_part (events.Unfollow number) picks f = unfollow_row f (task_of f.work)
follower_part _ picks f = answered replies.Done f
