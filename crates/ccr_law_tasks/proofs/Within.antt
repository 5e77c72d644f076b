-- A reply to a read brings no more than was asked for, and nothing else brings operations.
use Rattle.std.specs.Prelude.{IfSome}
use Rattle.std.specs.Str.{bytes_eq}
use Rattle.std.proofs.Common.{◌≡◌, ℕ, zero, suc, ◌≤◌, ◌⊎◌, Bool, List, [], ◌∷◌, length, Option, Some, None, sym, subst}
use Rattle.std.specs.Prelude.{nat_le, not, slice_get, remove}
use Rattle.ccr_wire.specs.Message.{Frame, kind_of_content}
use Rattle.ccr_query.specs.Queries.{Tree}
use Rattle.ccr_query.specs.declared.sorting.SortKey.{SortKey}
use Rattle.ccr_journal.specs.declared.params.ParamValues.{ParamValues}
use Rattle.ccr_journal.specs.declared.sides.Side.{Side}
use Rattle.ccr_journal.specs.declared.sides.Side.TheVariants as sides
use Rattle.ccr_journal.specs.declared.events.Event.{Event}
use Rattle.ccr_journal.specs.declared.events.Event.TheVariants as events
use Rattle.ccr_journal.specs.declared.replies.Reply.TheVariants as replies
use Rattle.ccr_journal.specs.declared.replies.Refusal.TheVariants.{NoFollower, NotSettled, TooMany}
use Rattle.ccr_model.specs.Outcomes.{Outcome, refused, answered, guarded, within}
use Rattle.ccr_model.specs.Copies.{Copy, copy_of, replica_of}
use Rattle.ccr_model.specs.CopyRows.{sync_row}
use Rattle.ccr_model.specs.Leaders.{Leader, polls_of, stale_of}
use Rattle.ccr_model.specs.LeaderRows.{source_fault, leader_fail_copy_row, leader_write, leader_replicate, leader_ack, leader_sync, leader_promote, leader_force_promote, leader_resync, leader_fail_copy, leader_add_copy, leader_flush, leader_merge, leader_clock, leader_expire, leader_close_sessions, leader_status}
use Rattle.ccr_model.specs.LeaderFrames.{leader_wake, leader_receive, polled_copy}
use Rattle.ccr_model.specs.Followers.{Follower, uuid_of}
use Rattle.ccr_model.specs.FollowerRows.{lose_row, tick_row, follower_clock_row, sent_write, lose_write_row, take_row, apply_row, written_row, task_of, renew_row, pause_row, resume_row, restart_row, unfollow_row, follower_add_copy_row, follower_replicate, follower_ack, follower_sync, follower_promote, follower_fail_copy, follower_flush, follower_merge, follower_status_row, follower_receive_row}
use Rattle.ccr_model.specs.World.{State, at_leader, for_follower, follower_of, goes_to_leader, at_named_follower, taken_by_receiver, deliver_row, drop_row, with_new_follower, follow_row, same_name, most_followers, search_row}
use Rattle.ccr_model.specs.Settled.{is_settled}
use Rattle.ccr_model.specs.Step.{step, woken, searched_at}
use Rattle.ccr_model.specs.Past.{Past}
use Rattle.ccr_law_base.proofs.Cases.{on_if, on_guards}
use Rattle.ccr_model.specs.Operations.{live, cut_of}
use Rattle.ccr_model.specs.Stores.{held}
use Rattle.ccr_law_tasks.proofs.Sending.{ArePlain, IsAnswer, AreAnswers, AnswersMessage, AnswersPoll, wake-sends, leader-receives, settling-sends, write-sends, replicate-sends, ack-sends, sync-sends, fail_copy-sends, add_copy-sends, flush-sends, merge-sends, follower_promote-sends, resync-sends, leader_promote-sends, force_promote-sends, leader_fail_copy-sends, clock-sends, expire-sends, close-sends, leader_status-sends}
use Rattle.ccr_law_tasks.proofs.FollowerSending.{IsNoReply, BringNoReply, plain-replies, receive-sends, lose-sends, tick-sends, follower_clock-sends, lose_write-sends, take-sends, apply-sends, written-sends, renew-sends, pause-sends, resume-sends, restart-sends, unfollow-sends, follower_add_copy-sends, follower_status-sends}
use Rattle.std.specs.List.{AllByRecursion}
use Rattle.ccr_op.specs.Operation.{Operation}
use Rattle.ccr_wire.specs.declared.content.Content.{Content}
use Rattle.ccr_wire.specs.declared.content.Content.TheVariants as contents
use Rattle.ccr_model.specs.Leaders.{Poll}
use Rattle.ccr_model.specs.Operations.{run_from}
use Rattle.ccr_model.specs.Tasks.{bytes_of}
use Rattle.ccr_model.specs.FrameFacts.{BringsWithin, BringWithin, BringAsAsked, AsksForSome, IsTrueFrame, IsTruePoll, AreTrueFrames}
use Rattle.ccr_model.specs.TaskFacts.{IsBoundedBatch}
use Rattle.ccr_model.specs.Headline.{RepliesWithin}
use Rattle.ccr_law_base.proofs.Lists.{All-weaker, All-filter}
use Rattle.ccr_law_tasks.proofs.Cuts.{cut-bounded}

-- ---- one message

-- what a read brings is within its bounds
answer-within : (max_ops max_bytes : ℕ) (content : Content) → 1 ≤ max_ops → IsAnswer max_ops max_bytes content → BringsWithin max_ops max_bytes content
answer-within max_ops max_bytes (contents.ReadReply from global ops) some is =
    let c : Copy = is.0 in
    let cut : IsBoundedBatch max_ops max_bytes (cut_of max_ops max_bytes (run_from (held c.store) from c.global)) = cut-bounded max_ops max_bytes (run_from (held c.store) from c.global) some in
    subst (λ (xs : List Operation). (length xs ≤ max_ops) × ((bytes_of xs ≤ max_bytes) ⊎ (length xs ≡ 1))) (sym is.1) (cut.number, cut.size)
answer-within max_ops max_bytes _ some is = tt

answers-within : (max_ops max_bytes : ℕ) (sent : List Frame) → 1 ≤ max_ops → AreAnswers max_ops max_bytes sent → BringWithin max_ops max_bytes sent
answers-within max_ops max_bytes sent some are =
    All-weaker (λ (m : Frame). IsAnswer max_ops max_bytes m.content) (λ (m : Frame). BringsWithin max_ops max_bytes m.content)
    (λ m is. answer-within max_ops max_bytes m.content some is) sent are

no-reply-within : (max_ops max_bytes : ℕ) (content : Content) → IsNoReply content → BringsWithin max_ops max_bytes content
no-reply-within max_ops max_bytes (contents.ReadReply from global ops) none = absurd none
no-reply-within max_ops max_bytes _ none = tt

none-within : (max_ops max_bytes : ℕ) (sent : List Frame) → BringNoReply sent → BringWithin max_ops max_bytes sent
none-within max_ops max_bytes sent none =
    All-weaker (λ (m : Frame). IsNoReply m.content) (λ (m : Frame). BringsWithin max_ops max_bytes m.content) (λ m is. no-reply-within max_ops max_bytes m.content is) sent none

-- what the leader sends for a message, and what is sent where the message goes to a follower
message-within : (content : Content) (sent : List Frame) → AsksForSome content → AnswersMessage content sent → BringAsAsked content sent
message-within (contents.ReadRequest history from max_ops max_bytes timeout) sent some are = answers-within max_ops max_bytes sent some are
message-within _ sent some are = none-within 0 0 sent (plain-replies sent are)

asked-none : (content : Content) (sent : List Frame) → BringNoReply sent → BringAsAsked content sent
asked-none (contents.ReadRequest history from max_ops max_bytes timeout) sent none = none-within max_ops max_bytes sent none
asked-none _ sent none = none-within 0 0 sent none

-- ---- the rows

by-leader : (s : State) (o : Outcome Leader) → ArePlain o.sent → BringWithin 0 0 (at_leader s o).sent
by-leader s o sends = none-within 0 0 o.sent (plain-replies o.sent sends)

sent-by : (s : State) (f : ℕ) (row : Follower → Outcome Follower) → ((x : Follower) → BringNoReply (row x).sent) → (found : Option Follower) → BringNoReply (for_follower s f row found).sent
sent-by s f row sends None = tt
sent-by s f row sends (Some x) = sends x

by-follower : (s : State) (f : ℕ) (row : Follower → Outcome Follower) → ((x : Follower) → BringNoReply (row x).sent) → (found : Option Follower) → BringWithin 0 0 (for_follower s f row found).sent
by-follower s f row sends found = none-within 0 0 (for_follower s f row found).sent (sent-by s f row sends found)

sent-named : (s : State) (m : Frame) (named : Option ℕ) → BringNoReply (at_named_follower s m named).sent
sent-named s m None = tt
sent-named s m (Some f) = sent-by s f (λ follower. follower_receive_row follower m) (λ x. receive-sends x m) (slice_get s.followers f)

by-receiver : (s : State) (copy : ℕ) (m : Frame) → AsksForSome m.content → BringAsAsked m.content (taken_by_receiver s copy m).sent
by-receiver s copy m some =
    on_if (λ (o : Outcome State). BringAsAsked m.content o.sent) (goes_to_leader (kind_of_content m.content)) (at_leader s (leader_receive s.leader copy m)) (at_named_follower s m (follower_of s.followers m.follower))
    (λ is. message-within m.content (leader_receive s.leader copy m).sent some (leader-receives s.leader copy m))
    (λ isnt. asked-none m.content (at_named_follower s m (follower_of s.followers m.follower)).sent (sent-named s m (follower_of s.followers m.follower)))

by-delivery : (s : State) (at copy : ℕ) (keep : Bool) (found : Option Frame) (c : Option Copy) → IfSome found (λ m. AsksForSome m.content)
    → IfSome found (λ m. BringAsAsked m.content (deliver_row s at copy keep found c).sent)
unfolding deliver_row
by-delivery s at copy keep None c some = tt
by-delivery s at copy keep (Some m) None some = asked-none m.content [] tt
by-delivery s at copy keep (Some m) (Some c) some =
    on_if (λ (after : State). BringAsAsked m.content (taken_by_receiver after copy m).sent) keep s (record s { flight = remove s.flight at })
    (λ kept. by-receiver s copy m some) (λ left. by-receiver (record s { flight = remove s.flight at }) copy m some)

by-drop : (s : State) (at : ℕ) (found : Option Frame) → BringWithin 0 0 (drop_row s at found).sent
unfolding drop_row
by-drop s at None = tt
by-drop s at (Some m) = tt

poll-within : (found : Option Poll) (sent : List Frame) → IfSome found (λ poll. 1 ≤ poll.max_ops) → AnswersPoll found sent → IfSome found (λ poll. BringWithin poll.max_ops poll.max_bytes sent)
poll-within None sent some are = tt
poll-within (Some p) sent some are = answers-within p.max_ops p.max_bytes sent some are

by-wake : (s : State) (f at : ℕ) (found : Option Follower) → IfSome (slice_get (polls_of s.leader.polls (uuid_of f)) at) (λ poll. 1 ≤ poll.max_ops)
    → IfSome (slice_get (polls_of s.leader.polls (uuid_of f)) at) (λ poll. BringWithin poll.max_ops poll.max_bytes (woken s f at found).sent)
by-wake s f at None some = none (slice_get (polls_of s.leader.polls (uuid_of f)) at)
  where
    none : (found : Option Poll) → IfSome found (λ poll. BringWithin poll.max_ops poll.max_bytes [])
    none None = tt
    none (Some p) = tt
by-wake s f at (Some follower) some =
    let poll : Option Poll = slice_get (polls_of s.leader.polls (uuid_of f)) at in
    poll-within poll (leader_wake s.leader (uuid_of f) at).sent some (wake-sends s.leader (uuid_of f) at poll (polled_copy s.leader.copies poll))

by-search : (s : State) (copy : ℕ) (query : Tree) (sort : List SortKey) (found : Option Copy) → BringWithin 0 0 (search_row s copy query sort found).sent
unfolding search_row
by-search s copy query sort None = tt
by-search s copy query sort (Some c) = tt

by-search-at : (s : State) (side : Side) (copy : ℕ) (query : Tree) (sort : List SortKey) → BringWithin 0 0 (searched_at s side copy (search_row s copy query sort)).sent
by-search-at s sides.Leader copy query sort = by-search s copy query sort (copy_of s.leader.copies copy)
by-search-at s (sides.Follower f) copy query sort =
    elim (slice_get s.followers f) as (λ (found : Option Follower). BringWithin 0 0 (elim found as (λ _. Outcome State) [
      | None ↦ refused s (NoFollower f)
      | Some follower ↦ search_row s copy query sort (copy_of follower.copies copy)
    ]).sent) [
      | None ↦ tt
      | Some follower ↦ by-search s copy query sort (copy_of follower.copies copy)
    ]

by-settle : (s : State) → BringWithin 0 0 (guarded s ((not (is_settled s), NotSettled) ∷ []) (answered replies.Settled s)).sent
by-settle s = on_guards (λ (o : Outcome State). BringWithin 0 0 o.sent) s ((not (is_settled s), NotSettled) ∷ []) (answered replies.Settled s) (λ why. tt) (λ all. tt)

by-follow : (s : State) (params : ParamValues) (copies : ℕ) (name : List ℕ) (same : Option ℕ) → BringWithin 0 0 (follow_row s params copies name same).sent
unfolding follow_row
by-follow s params copies name (Some f) = tt
by-follow s params copies name None =
    on_guards (λ (o : Outcome State). BringWithin 0 0 o.sent) s ((nat_le most_followers (length s.followers), TooMany) ∷ []) (with_new_follower s params copies name)
    (λ why. tt) (λ few. (tt, tt))

-- ---- each event

if-at : {X : Type 0} (P : X → Type 0) (xs : List X) (n : ℕ) → AllByRecursion P xs → IfSome (slice_get xs n) P
if-at P [] n all = tt
if-at P (x ∷ xs) zero all = all.0
if-at P (x ∷ xs) (suc n) all = if-at P xs n all.1

-- each request for operations, in flight or parked, asks for one at least
abbrev AskForSome : State → Type 0
AskForSome s = AllByRecursion (λ (m : Frame). AsksForSome m.content) s.flight × AllByRecursion (λ (poll : Poll). 1 ≤ poll.max_ops) s.leader.polls

each-within : (s : State) (event : Event) (picks : List ℕ) → AskForSome s → RepliesWithin s event (step s event picks).sent
each-within s (events.Write request) picks asks =
    by-leader s (leader_write s.leader request) (write-sends s.leader.copies request (source_fault request.body) (live (held s.leader.copies.primary.store) request.id))
each-within s (events.Replicate sides.Leader copy seq) picks asks = by-leader s (leader_replicate s.leader copy seq) (replicate-sends s.leader.copies copy seq (replica_of s.leader.copies copy))
each-within s (events.Replicate (sides.Follower f) copy seq) picks asks = by-follower s f (λ x. follower_replicate x copy seq) (λ x. plain-replies _ (replicate-sends x.copies copy seq (replica_of x.copies copy))) (slice_get s.followers f)
each-within s (events.Ack sides.Leader copy) picks asks = by-leader s (leader_ack s.leader copy) (ack-sends s.leader.copies copy (replica_of s.leader.copies copy))
each-within s (events.Ack (sides.Follower f) copy) picks asks = by-follower s f (λ x. follower_ack x copy) (λ x. plain-replies _ (ack-sends x.copies copy (replica_of x.copies copy))) (slice_get s.followers f)
each-within s (events.Sync sides.Leader copy) picks asks = by-leader s (leader_sync s.leader copy) (settling-sends (within (λ copies. record s.leader { copies = copies }) (sync_row s.leader.copies copy (replica_of s.leader.copies copy))) (sync-sends s.leader.copies copy (replica_of s.leader.copies copy)))
each-within s (events.Sync (sides.Follower f) copy) picks asks = by-follower s f (λ x. follower_sync x copy) (λ x. plain-replies _ (sync-sends x.copies copy (replica_of x.copies copy))) (slice_get s.followers f)
each-within s (events.Promote sides.Leader copy) picks asks = by-leader s (leader_promote s.leader copy) (leader_promote-sends s.leader copy (replica_of s.leader.copies copy))
each-within s (events.Promote (sides.Follower f) copy) picks asks = by-follower s f (λ x. follower_promote x copy) (λ x. plain-replies _ (follower_promote-sends x.copies copy (replica_of x.copies copy))) (slice_get s.followers f)
each-within s (events.ForcePromote copy) picks asks = by-leader s (leader_force_promote s.leader copy) (force_promote-sends s.leader copy (stale_of s.leader.stale copy))
each-within s (events.Resync copy) picks asks = by-leader s (leader_resync s.leader copy) (resync-sends s.leader.copies copy (replica_of s.leader.copies copy))
each-within s (events.FailCopy sides.Leader copy) picks asks = by-leader s (leader_fail_copy s.leader copy) (settling-sends (leader_fail_copy_row s.leader copy (replica_of s.leader.copies copy)) (leader_fail_copy-sends s.leader copy (replica_of s.leader.copies copy)))
each-within s (events.FailCopy (sides.Follower f) copy) picks asks = by-follower s f (λ x. follower_fail_copy x copy) (λ x. plain-replies _ (fail_copy-sends x.copies copy (replica_of x.copies copy))) (slice_get s.followers f)
each-within s (events.AddCopy sides.Leader) picks asks = by-leader s (leader_add_copy s.leader) (add_copy-sends s.leader.copies)
each-within s (events.AddCopy (sides.Follower f)) picks asks = by-follower s f follower_add_copy_row (λ x. follower_add_copy-sends x) (slice_get s.followers f)
each-within s (events.Flush sides.Leader copy) picks asks = by-leader s (leader_flush s.leader copy) (flush-sends s.leader.copies copy (copy_of s.leader.copies copy))
each-within s (events.Flush (sides.Follower f) copy) picks asks = by-follower s f (λ x. follower_flush x copy) (λ x. plain-replies _ (flush-sends x.copies copy (copy_of x.copies copy))) (slice_get s.followers f)
each-within s (events.Merge sides.Leader copy) picks asks = by-leader s (leader_merge s.leader copy picks) (merge-sends s.leader.copies s.leader.start.retention copy picks (copy_of s.leader.copies copy))
each-within s (events.Merge (sides.Follower f) copy) picks asks = by-follower s f (λ x. follower_merge x copy picks) (λ x. plain-replies _ (merge-sends x.copies x.retention copy picks (copy_of x.copies copy))) (slice_get s.followers f)
each-within s (events.Clock sides.Leader time) picks asks = by-leader s (leader_clock s.leader time) (clock-sends s.leader time)
each-within s (events.Clock (sides.Follower f) time) picks asks = by-follower s f (λ x. follower_clock_row x time) (λ x. follower_clock-sends x time) (slice_get s.followers f)
each-within s events.Expire picks asks = by-leader s (leader_expire s.leader) (expire-sends s.leader)
each-within s events.CloseSessions picks asks = by-leader s (leader_close_sessions s.leader) (close-sends s.leader)
each-within s (events.Tick f) picks asks = by-follower s f tick_row (λ x. tick-sends x) (slice_get s.followers f)
each-within s (events.Deliver at copy keep) picks asks = by-delivery s at copy keep (slice_get s.flight at) (copy_of s.leader.copies copy) (if-at (λ (m : Frame). AsksForSome m.content) s.flight at asks.0)
each-within s (events.Drop at) picks asks = by-drop s at (slice_get s.flight at)
each-within s (events.Wake f at) picks asks = by-wake s f at (slice_get s.followers f)
    (if-at (λ (poll : Poll). 1 ≤ poll.max_ops) (polls_of s.leader.polls (uuid_of f)) at (All-filter (λ (poll : Poll). 1 ≤ poll.max_ops) (λ poll. bytes_eq poll.follower (uuid_of f)) s.leader.polls asks.1))
each-within s (events.Lose f at) picks asks = by-follower s f (λ x. lose_row x at) (λ x. lose-sends x at) (slice_get s.followers f)
each-within s (events.LoseWrite f write) picks asks = by-follower s f (λ x. lose_write_row x write (sent_write x.work write)) (λ x. lose_write-sends x write (sent_write x.work write)) (slice_get s.followers f)
each-within s (events.Take f write) picks asks = by-follower s f (λ x. take_row x write (sent_write x.work write)) (λ x. take-sends x write (sent_write x.work write)) (slice_get s.followers f)
each-within s (events.Apply f epoch write batch) picks asks =
    by-follower s f (λ x. apply_row x epoch write batch (sent_write x.work write)) (λ x. apply-sends x epoch write batch (sent_write x.work write)) (slice_get s.followers f)
each-within s (events.Written f write) picks asks = by-follower s f (λ x. written_row x write (sent_write x.work write)) (λ x. written-sends x write (sent_write x.work write)) (slice_get s.followers f)
each-within s (events.Renew f) picks asks = by-follower s f (λ x. renew_row x (task_of x.work)) (λ x. renew-sends x (task_of x.work)) (slice_get s.followers f)
each-within s (events.Follow params copies name) picks asks = by-follow s params copies name (same_name s.followers name)
each-within s (events.Pause f) picks asks = by-follower s f (λ x. pause_row x (task_of x.work)) (λ x. pause-sends x (task_of x.work)) (slice_get s.followers f)
each-within s (events.Resume f) picks asks = by-follower s f (λ x. resume_row x (task_of x.work)) (λ x. resume-sends x (task_of x.work)) (slice_get s.followers f)
each-within s (events.Restart f) picks asks = by-follower s f (λ x. restart_row x (task_of x.work)) (λ x. restart-sends x (task_of x.work)) (slice_get s.followers f)
each-within s (events.Unfollow f) picks asks = by-follower s f (λ x. unfollow_row x (task_of x.work)) (λ x. unfollow-sends x (task_of x.work)) (slice_get s.followers f)
each-within s (events.Search side copy request) picks asks = by-search-at s side copy request.query request.sort
each-within s (events.Status sides.Leader) picks asks = by-leader s (leader_status s.leader) (leader_status-sends s.leader)
each-within s (events.Status (sides.Follower f)) picks asks = by-follower s f follower_status_row (λ x. follower_status-sends x) (slice_get s.followers f)
each-within s events.Settle picks asks = by-settle s

-- ---- at a place

pub replies-within : (p : Past) (event : Event) (picks : List ℕ) → AreTrueFrames p → RepliesWithin p.state event (step p.state event picks).sent
replies-within p event picks frames = each-within p.state event picks (
  All-weaker (IsTrueFrame p) (λ (m : Frame). AsksForSome m.content) (λ m is. is.some) p.state.flight frames.flight,
  All-weaker (IsTruePoll p) (λ (poll : Poll). 1 ≤ poll.max_ops) (λ poll is. is.some) p.state.leader.polls frames.polls,
)
