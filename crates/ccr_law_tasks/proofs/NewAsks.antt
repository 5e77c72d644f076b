-- No request of a follower asks for a number that was received in the epoch, unless it repeats one that was lost.
use Rattle.std.specs.Prelude.{filter}
use Rattle.std.specs.Str.{bytes_eq}
use Rattle.std.specs.Prelude.{nat_le, not, slice_get, remove}
use Rattle.ccr_wire.specs.Message.{Frame, kind_of_content}
use Rattle.ccr_query.specs.Queries.{Tree}
use Rattle.ccr_query.specs.declared.sorting.SortKey.{SortKey}
use Rattle.ccr_journal.specs.declared.params.ParamValues.{ParamValues}
use Rattle.ccr_journal.specs.declared.sides.Side.{Side}
use Rattle.ccr_journal.specs.declared.sides.Side.TheVariants as sides
use Rattle.ccr_journal.specs.declared.events.Event.{Event}
use Rattle.ccr_journal.specs.declared.events.Event.TheVariants as events
use Rattle.ccr_journal.specs.declared.replies.Reply.TheVariants as replies
use Rattle.ccr_journal.specs.declared.replies.Refusal.TheVariants.{NoFollower, NotSettled, TooMany}
use Rattle.ccr_model.specs.Outcomes.{Outcome, refused, answered, guarded, within}
use Rattle.ccr_model.specs.Copies.{Copy, copy_of, replica_of}
use Rattle.ccr_model.specs.CopyRows.{sync_row}
use Rattle.ccr_model.specs.LeaderRows.{source_fault, leader_fail_copy_row, leader_write, leader_replicate, leader_ack, leader_sync, leader_promote, leader_force_promote, leader_resync, leader_fail_copy, leader_add_copy, leader_flush, leader_merge, leader_clock, leader_expire, leader_close_sessions, leader_status}
use Rattle.ccr_model.specs.LeaderFrames.{leader_wake, leader_receive, polled_copy}
use Rattle.ccr_model.specs.World.{State, at_leader, for_follower, follower_of, goes_to_leader, at_named_follower, taken_by_receiver, deliver_row, drop_row, with_new_follower, follow_row, same_name, most_followers, search_row}
use Rattle.ccr_model.specs.Settled.{is_settled}
use Rattle.ccr_model.specs.Step.{step, woken, searched_at}
use Rattle.ccr_law_base.proofs.Cases.{on_if, on_guards}
use Rattle.ccr_model.specs.Operations.{live}
use Rattle.ccr_model.specs.Stores.{held}
use Rattle.ccr_law_base.specs.Events.{past_by}
use Rattle.ccr_op.specs.Operation.{Operation}
use Rattle.ccr_wire.specs.declared.content.Content.{Content}
use Rattle.ccr_wire.specs.declared.content.Content.TheVariants as contents
use Rattle.ccr_law_tasks.proofs.Sending.{IsPlain, ArePlain, IsAnswer, AreAnswers, AnswersMessage, AnswersPoll, wake-sends, leader-receives, settling-sends, write-sends, replicate-sends, ack-sends, sync-sends, fail_copy-sends, add_copy-sends, flush-sends, merge-sends, follower_promote-sends, resync-sends, leader_promote-sends, force_promote-sends, leader_fail_copy-sends, clock-sends, expire-sends, close-sends, leader_status-sends}
use Rattle.ccr_model.specs.FollowerRows.{Sent, does, with_task, with_copies, restore_done, restore_heard, restore_ended, hear_read, task_heard, work_hears, task_lost, bootstrap_lost, write_done, lacks, is_paused, task_anew, lose_row, tick_row, follower_clock_row, sent_write, lose_write_row, take_row, apply_row, written_row, task_of, renew_row, pause_row, resume_row, restart_row, unfollow_row, follower_add_copy_row, follower_replicate, follower_ack, follower_sync, follower_promote, follower_fail_copy, follower_flush, follower_merge, follower_status_row, follower_receive_row}
use Rattle.std.specs.List.{AllByRecursion, filter, list_any}
use Rattle.std.specs.Option.{option_map}
use Rattle.std.proofs.Common.{◌≡◌, inl, inr, ℕ, ◌+◌, ◌==◌, ◌&&◌, ◌||◌, Bool, true, false, if◌then◌else◌, List, [], ◌∷◌, length, Option, Some, None, refl, sym, ◌∙◌, ap, subst, arith}
use Rattle.std.proofs.lemmas.Bool.{both_ways, eqb-true}
use Rattle.std.proofs.lemmas.Bool.Decides.{nat_tests}
use Rattle.std.proofs.lemmas.Slice.Eq.{bytes_eq-Decides}
use Rattle.std.specs.Prelude.{slice_set}
use Rattle.ccr_journal.specs.declared.replies.Heard.TheVariants as heard
use Rattle.ccr_journal.specs.declared.replies.Refusal.TheVariants.{NotActive, NotPaused}
use Rattle.ccr_model.specs.Leaders.{Leader, Poll, polls_of, stale_of}
use Rattle.ccr_model.specs.CopyRows.{add_copy_row}
use Rattle.ccr_model.specs.Requests.{Sending}
use Rattle.ccr_model.specs.Restores.{Restore, Stage, leasing, opening, fetching, is_complete, ends_restore, restore_hears, restore_ticked, sent_requests}
use Rattle.ccr_model.specs.Tasks.{Task, Read, Write, is_active, started, filled_if_active, read_sent, after_reply, sent_reads, write_sent, without_write, ticked}
use Rattle.ccr_model.specs.Followers.{Follower, Work, restoring, replicating, uuid_of, bootstrapped}
use Rattle.ccr_model.specs.Past.{Line, Past, WrittenBatch, FollowerPast, line_of}
use Rattle.ccr_model.specs.FrameFacts.{uuid_of_work, IsNamedAlone, IsTrueFrame, AreTrueFrames}
use Rattle.ccr_model.specs.TaskFacts.{is_in_read, is_received, is_repeated, AsksOnce}
use Rattle.ccr_model.specs.Headline.{AsksOnceInEpoch, repeats, AsksNewNumbers, AsksNewIn, AsksNew}
use Rattle.ccr_law_base.proofs.Lists.{All-weaker, All-at, set-same, some_equal}
use Rattle.ccr_law_base.proofs.Tests.{by_test}
use Rattle.ccr_law_tasks.specs.GoodTask.{IsLater, IsGoodTask, IsSoundTask}
use Rattle.ccr_law_tasks.specs.GoodFollowers.{IsGoodWork, IsGoodFollower, IsRunOf, HasGoodTasks}
use Rattle.ccr_law_tasks.specs.FollowerLaws.{IsTaskAsStated}
use Rattle.ccr_law_tasks.proofs.FollowerSending.{Plainly, HeardPlainly, hears-sends, restore_ticked-sends}
use Rattle.ccr_law_tasks.proofs.Answering.{reply-sound}
use Rattle.ccr_law_tasks.proofs.SameEpoch.{ticked-epoch}
use Rattle.ccr_law_tasks.proofs.Rows.{IsTrueAnswer}
use Rattle.ccr_law_tasks.proofs.Events.{LaterOf, answer-true}
use Rattle.ccr_law_tasks.proofs.Group.{later-followers, tasks-say}
use Rattle.ccr_law_tasks.proofs.Fresh.{Covers, FreshBy, sound-exact, filled-fresh, started-fresh, ticked-fresh}

-- ---- one message of a follower, whose work goes from one to another

-- the message is no request for operations
abbrev IsNoAsk : Content → Type 0
IsNoAsk (contents.ReadRequest history from max_ops max_bytes timeout) = ⊥
IsNoAsk _ = Unit {0}

abbrev AskNone : List Frame → Type 0
AskNone sent = AllByRecursion (λ (m : Frame). IsNoAsk m.content) sent

plain-no-ask : (content : Content) → IsPlain content → IsNoAsk content
plain-no-ask (contents.ReadRequest history from max_ops max_bytes timeout) plain = plain
plain-no-ask _ plain = tt

no-asks : (sent : List Frame) → ArePlain sent → AskNone sent
no-asks sent plain = All-weaker (λ (m : Frame). IsPlain m.content) (λ (m : Frame). IsNoAsk m.content) (λ m is. plain-no-ask m.content is) sent plain

answer-no-ask : (max_ops max_bytes : ℕ) (content : Content) → IsAnswer max_ops max_bytes content → IsNoAsk content
answer-no-ask max_ops max_bytes (contents.ReadRequest history from own_ops own_bytes timeout) is = is
answer-no-ask max_ops max_bytes _ is = tt

answers-no-asks : (max_ops max_bytes : ℕ) (sent : List Frame) → AreAnswers max_ops max_bytes sent → AskNone sent
answers-no-asks max_ops max_bytes sent are =
    All-weaker (λ (m : Frame). IsAnswer max_ops max_bytes m.content) (λ (m : Frame). IsNoAsk m.content) (λ m is. answer-no-ask max_ops max_bytes m.content is) sent are

message-no-asks : (content : Content) (sent : List Frame) → AnswersMessage content sent → AskNone sent
message-no-asks (contents.ReadRequest history from max_ops max_bytes timeout) sent are = answers-no-asks max_ops max_bytes sent are
message-no-asks _ sent are = no-asks sent are

poll-no-asks : (found : Option Poll) (sent : List Frame) → AnswersPoll found sent → AskNone sent
poll-no-asks None sent none = subst AskNone (sym none) tt
poll-no-asks (Some p) sent are = answers-no-asks p.max_ops p.max_bytes sent are

abbrev NewIn : Work → Work → Frame → Type 0
NewIn old (restoring r) m = IsNoAsk m.content
NewIn old (replicating t) m = FreshBy (repeats old t) t m.follower m.content

abbrev RowNew : Follower → Outcome Follower → Type 0
RowNew s o = AllByRecursion (λ (m : Frame). NewIn s.work o.next.work m) o.sent

no-ask-fresh : (again : ℕ → ℕ → Bool) (t : Task) (uuid : List ℕ) (content : Content) → IsNoAsk content → FreshBy again t uuid content
no-ask-fresh again t uuid (contents.ReadRequest history from max_ops max_bytes timeout) none = absurd none
no-ask-fresh again t uuid _ none = tt

no-ask-new : (old new : Work) (m : Frame) → IsNoAsk m.content → NewIn old new m
no-ask-new old (restoring r) m none = none
no-ask-new old (replicating t) m none = no-ask-fresh (repeats old t) t m.follower m.content none

plain-row : (s : Follower) (o : Outcome Follower) → ArePlain o.sent → RowNew s o
plain-row s o plain =
    All-weaker (λ (m : Frame). IsNoAsk m.content) (λ (m : Frame). NewIn s.work o.next.work m) (λ m is. no-ask-new s.work o.next.work m is) o.sent (no-asks o.sent plain)

-- ---- the rows

restore-done : (s : Follower) (done : Sending Restore) → Plainly done → RowNew s (restore_done s done)
restore-done s done plain =
    elim done.next.stage as (λ (stage : Stage). RowNew s (elim stage as (λ _. Outcome Follower) [
      | leasing a ↦ does (replies.Heard heard.Done) (λ r. record s { work = restoring r }) done
      | opening a ↦ does (replies.Heard heard.Done) (λ r. record s { work = restoring r }) done
      | fetching f ↦
          if is_complete done.next.chunk_size f
          then does (replies.Heard heard.Done) (λ next. next) (bootstrapped s done.next f)
          else does (replies.Heard heard.Done) (λ r. record s { work = restoring r }) done
    ])) [
      | leasing a ↦ no-asks done.sent plain
      | opening a ↦ no-asks done.sent plain
      | fetching f ↦ on_if (λ (o : Outcome Follower). RowNew s o) (is_complete done.next.chunk_size f)
          (does (replies.Heard heard.Done) (λ next. next) (bootstrapped s done.next f)) (does (replies.Heard heard.Done) (λ r. record s { work = restoring r }) done)
          (λ ends. started-fresh (repeats s.work (started s.params f.count 1 f.history done.next.follower done.next.next_request).next) s.params f.count 1 f.history done.next.follower done.next.next_request)
          (λ endsnt. no-asks done.sent plain)
    ]

restore-heard : (s : Follower) (found : Option (Sending Restore)) → HeardPlainly found → RowNew s (restore_heard s found)
restore-heard s None plain = tt
restore-heard s (Some done) plain = restore-done s done plain

read-heard : (line : Line) (begun_at : ℕ) (written : List WrittenBatch) (s : Follower) (t : Task) (r : Read) (request : ℕ) (content : Content)
    → IsTrueAnswer line t r request content → IsSoundTask line t begun_at written → RowNew s (hear_read s t r content)
read-heard line begun_at written s t r request (contents.ReadReply from global ops) answers sound =
    (filled-fresh (repeats s.work (filled_if_active (after_reply t r global ops)).next) (after_reply t r global ops)
    (sound-exact line begun_at written (after_reply t r global ops) (reply-sound line begun_at written t r request from global ops answers sound))).fresh
read-heard line begun_at written s t r request (contents.ReadMissing from floor) answers sound = tt
read-heard line begun_at written s t r request (contents.ReadHistory history) answers sound = tt
read-heard line begun_at written s t r request _ answers sound = tt

task-heard : (line : Line) (begun_at : ℕ) (written : List WrittenBatch) (s : Follower) (t : Task) (request : ℕ) (content : Content) (found : Option Read)
    → ((r : Read) → found ≡ Some r → IsTrueAnswer line t r request content) → IsSoundTask line t begun_at written → RowNew s (task_heard s t content found)
task-heard line begun_at written s t request content None answers sound = tt
task-heard line begun_at written s t request content (Some r) answers sound = read-heard line begun_at written s t r request content (answers r refl) sound

sound-of : (lines : List ℕ → Line) (begun_at : ℕ) (written : List WrittenBatch) (s : Follower) (t : Task) → s.work ≡ replicating t → IsGoodFollower lines begun_at written s
    → IsSoundTask (lines s.history) t begun_at written
sound-of lines begun_at written s t is good =
    let task : IsGoodTask (lines s.history) t begun_at written × (t.epoch ≡ s.epoch) = subst (λ (w : Work). IsGoodWork (lines s.history) begun_at written s.epoch w) is good.work in
    task.0.sound

hearing : (lines : List ℕ → Line) (begun_at : ℕ) (written : List WrittenBatch) (s : Follower) (m : Frame)
    → ((t : Task) (r : Read) → s.work ≡ replicating t → read_sent t m.request ≡ Some r → IsTrueAnswer (lines s.history) t r m.request m.content)
    → IsGoodFollower lines begun_at written s → RowNew s (follower_receive_row s m)
unfolding follower_receive_row
hearing lines begun_at written s m answers good =
    on_if (λ (o : Outcome Follower). RowNew s o) (list_any (λ n. n == m.request) s.lease_requests)
    (answered (replies.Heard heard.Done) (record s { lease_requests = filter (λ n. not (n == m.request)) s.lease_requests })) (work_hears s m)
    (λ is. tt)
    (λ isnt. (elim s.work as (λ (w : Work). s.work ≡ w → RowNew s (elim w as (λ _. Outcome Follower) [
      | restoring r ↦ if ends_restore r m then restore_ended s r else restore_heard s (restore_hears r s.now m)
      | replicating t ↦ task_heard s t m.content (read_sent t m.request)
    ])) [
      | restoring r ↦ λ is. on_if (λ (o : Outcome Follower). RowNew s o) (ends_restore r m) (restore_ended s r) (restore_heard s (restore_hears r s.now m))
          (λ ends. tt) (λ goes_on. restore-heard s (restore_hears r s.now m) (hears-sends r s.now m))
      | replicating t ↦ λ is. task-heard (lines s.history) begun_at written s t m.request m.content (read_sent t m.request) (λ r found. answers t r is found)
          (sound-of lines begun_at written s t is good)
    ]) refl)

-- in the same epoch, what isn't repeated isn't asked again
same-again : (t next : Task) (uuid : List ℕ) (content : Content) → next.epoch ≡ t.epoch → FreshBy (is_repeated t) next uuid content → FreshBy (repeats (replicating t) next) next uuid content
same-again t next uuid (contents.ReadRequest history from max_ops max_bytes timeout) epoch fresh =
    (fresh.0, λ new. fresh.1 (not-both (t.epoch == next.epoch) (is_repeated t from max_ops) (let e : next.epoch ≡ t.epoch = epoch in grind (arith, nat_tests)) new))
  where
    not-both : (a b : Bool) → a ≡ true → (a && b) ≡ false → b ≡ false
    not-both true b is isnt = isnt
    not-both false b is isnt = absurd (cc)
same-again t next uuid _ epoch fresh = tt

ticking : (lines : List ℕ → Line) (begun_at : ℕ) (written : List WrittenBatch) (s : Follower) → IsGoodFollower lines begun_at written s → RowNew s (tick_row s)
unfolding tick_row
ticking lines begun_at written s good =
    (elim s.work as (λ (w : Work). s.work ≡ w → RowNew s (elim w as (λ _. Outcome Follower) [
      | restoring r ↦ does replies.Done (λ next. record s { work = restoring next }) (restore_ticked s.now r)
      | replicating t ↦ does replies.Done (with_task s) (ticked s.now t)
    ])) [
      | restoring r ↦ λ is. no-asks (restore_ticked s.now r).sent (restore_ticked-sends s.now r)
      | replicating t ↦ λ is.
          let next : Task = (ticked s.now t).next in
          subst (λ (w : Work). AllByRecursion (λ (m : Frame). NewIn w (replicating next) m) (ticked s.now t).sent) (sym is)
          (All-weaker (λ (m : Frame). FreshBy (is_repeated t) next m.follower m.content) (λ (m : Frame). FreshBy (repeats (replicating t) next) next m.follower m.content)
          (λ m fresh. same-again t next m.follower m.content (ticked-epoch s.now t) fresh) (ticked s.now t).sent
          (ticked-fresh (lines s.history) begun_at written t s.now (sound-of lines begun_at written s t is good)).fresh)
    ]) refl

ended : (s : Follower) (w : Sent) (lacking : Option ℕ) (line : Line) (begun_at : ℕ) (written : List WrittenBatch) → IsSoundTask line w.task begun_at written → RowNew s (write_done s w lacking)
ended s w (Some copy) line begun_at written sound = tt
ended s w None line begun_at written sound =
    let left : Task = record w.task { retry = 0; writes = without_write w.write.number w.task.writes } in
    (filled-fresh (repeats s.work (filled_if_active left).next) left (sound-exact line begun_at written w.task sound)).fresh

ending-found : (line : Line) (begun_at : ℕ) (written : List WrittenBatch) (s : Follower) (t : Task) (number : ℕ) (found : Option Write) → IsSoundTask line t begun_at written
    → RowNew s (written_row s number (option_map {T = Write} {U = Sent} (λ w. record { task = t; write = w }) found))
unfolding written_row
ending-found line begun_at written s t number None sound = tt
ending-found line begun_at written s t number (Some x) sound =
    let w : Sent = record { task = t; write = x } in
    ended s w (lacks x.batch s.copies) line begun_at written sound

none-ending : (s : Follower) (number : ℕ) → RowNew s (written_row s number None)
unfolding written_row
none-ending s number = tt

ending : (lines : List ℕ → Line) (begun_at : ℕ) (written : List WrittenBatch) (s : Follower) (work : Work) (number : ℕ) → IsGoodWork (lines s.history) begun_at written s.epoch work
    → RowNew s (written_row s number (sent_write work number))
ending lines begun_at written s (restoring r) number good = none-ending s number
ending lines begun_at written s (replicating t) number good = ending-found (lines s.history) begun_at written s t number (write_sent t number) good.0.sound

anew : (s : Follower) (t : Task) → RowNew s (task_anew s t)
anew s t = started-fresh (repeats s.work (started s.params s.copies.primary.global (s.epoch + 1) t.history t.follower t.next_request).next) s.params s.copies.primary.global (s.epoch + 1) t.history t.follower t.next_request

resuming : (s : Follower) (found : Option Task) → RowNew s (resume_row s found)
unfolding resume_row
resuming s None = tt
resuming s (Some t) = on_guards (λ (o : Outcome Follower). RowNew s o) s ((not (is_paused t.phase), NotPaused) ∷ []) (task_anew s t) (λ why. tt) (λ none. anew s t)

restarting : (s : Follower) (found : Option Task) → RowNew s (restart_row s found)
unfolding restart_row
restarting s None = tt
restarting s (Some t) = on_guards (λ (o : Outcome Follower). RowNew s o) s ((not (is_active t.phase), NotActive) ∷ []) (task_anew s t) (λ why. tt) (λ none. anew s t)

renewing : (s : Follower) (found : Option Task) → RowNew s (renew_row s found)
unfolding renew_row
renewing s None = tt
renewing s (Some t) = on_guards (λ (o : Outcome Follower). RowNew s o) s _ _ (λ why. tt) (λ none. (tt, tt))

unfollowing : (s : Follower) (found : Option Task) → RowNew s (unfollow_row s found)
unfolding unfollow_row
unfollowing s None = tt
unfollowing s (Some t) = on_guards (λ (o : Outcome Follower). RowNew s o) s _ _ (λ why. tt) (λ none. (tt, tt))

pausing : (s : Follower) (found : Option Task) → RowNew s (pause_row s found)
unfolding pause_row
pausing s None = tt
pausing s (Some t) = tt

losing-read : (s : Follower) (t : Task) (at : ℕ) (found : Option Read) → RowNew s (task_lost s t at found)
losing-read s t at None = tt
losing-read s t at (Some r) = tt

losing-part : (s : Follower) (r : Restore) (at : ℕ) (found : Option ℕ) → RowNew s (bootstrap_lost s r at found)
losing-part s r at None = tt
losing-part s r at (Some request) = tt

losing : (s : Follower) (work : Work) (at : ℕ) → RowNew (record s { work = work }) (lose_row (record s { work = work }) at)
unfolding lose_row
losing s (restoring r) at = losing-part (record s { work = restoring r }) r at (slice_get (sent_requests r.stage) at)
losing s (replicating t) at = losing-read (record s { work = replicating t }) t at (slice_get (sent_reads t) at)

clocking : (s : Follower) (now : ℕ) → RowNew s (follower_clock_row s now)
unfolding follower_clock_row
clocking s now = tt

losing_write : (s : Follower) (number : ℕ) (found : Option Sent) → RowNew s (lose_write_row s number found)
unfolding lose_write_row
losing_write s number None = tt
losing_write s number (Some w) = tt

taking : (s : Follower) (number : ℕ) (found : Option Sent) → RowNew s (take_row s number found)
unfolding take_row
taking s number None = tt
taking s number (Some w) = tt

applying : (s : Follower) (epoch number : ℕ) (batch : List Operation) (found : Option Sent) → RowNew s (apply_row s epoch number batch found)
unfolding apply_row
applying s epoch number batch found = on_guards (λ (o : Outcome Follower). RowNew s o) s _ _ (λ why. tt) (λ none. tt)

adding : (s : Follower) → RowNew s (follower_add_copy_row s)
unfolding follower_add_copy_row
adding s = on_guards (λ (o : Outcome Follower). RowNew s o) s _ _ (λ why. tt) (λ none. plain-row s (within (with_copies s) (add_copy_row s.copies)) (add_copy-sends s.copies))

showing : (s : Follower) → RowNew s (follower_status_row s)
unfolding follower_status_row
showing s = tt

-- ---- the world's rows

-- a follower's UUID names it alone, and its work sends under it
abbrev AreNamed : List Follower → Type 0
AreNamed followers = (f : ℕ) (own : Follower) → slice_get followers f ≡ Some own → (follower_of followers (uuid_of f) ≡ Some f) × (uuid_of_work own.work ≡ uuid_of f)

abbrev NewAt : List Follower → Outcome State → Type 0
NewAt before o = AreNamed o.next.followers → (f : ℕ) (own new : Follower) → slice_get before f ≡ Some own → slice_get o.next.followers f ≡ Some new
    → AllByRecursion (λ (m : Frame). bytes_eq m.follower (uuid_of f) ≡ true → NewIn own.work new.work m) o.sent

no-ask-at : (before : List Follower) (o : Outcome State) → AskNone o.sent → NewAt before o
no-ask-at before o none named f own new at there =
    All-weaker (λ (m : Frame). IsNoAsk m.content) (λ (m : Frame). bytes_eq m.follower (uuid_of f) ≡ true → NewIn own.work new.work m) (λ m is own_named. no-ask-new own.work new.work m is) o.sent none

by-leader : (s : State) (o : Outcome Leader) → ArePlain o.sent → NewAt s.followers (at_leader s o)
by-leader s o plain = no-ask-at s.followers (at_leader s o) (no-asks o.sent plain)

-- a message that one follower sends is no request of another
other-new : (followers : List Follower) (g f : ℕ) (old now own new : Work) (m : Frame) → follower_of followers (uuid_of g) ≡ Some g → follower_of followers (uuid_of f) ≡ Some f
    → uuid_of_work now ≡ uuid_of g → (g == f) ≡ false → NewIn old now m → bytes_eq m.follower (uuid_of f) ≡ true → NewIn own new m
other-new followers g f old (restoring r) own new m g_named f_named sends other news is = no-ask-new own new m news
other-new followers g f old (replicating t) own new m g_named f_named sends other news is = no-ask-new own new m (not-asked m.content news)
  where
    apart : m.follower ≡ t.follower → ⊥
    apart sent =
        let same : uuid_of g ≡ uuid_of f = sym sends ∙ (sym sent ∙ (bytes_eq-Decides m.follower (uuid_of f)).0 is) in
        let found : Some g ≡ Some f = sym g_named ∙ (ap (follower_of followers) same ∙ f_named) in
        let number : g ≡ f = some_equal g f found in
        both_ways (g == f) other (grind (arith, nat_tests))

    not-asked : (content : Content) → FreshBy (repeats old t) t m.follower content → IsNoAsk content
    not-asked (contents.ReadRequest history from max_ops max_bytes timeout) fresh = apart fresh.0
    not-asked _ fresh = tt

by-follower : (s : State) (g : ℕ) (row : Follower → Outcome Follower) → ((x : Follower) → slice_get s.followers g ≡ Some x → RowNew x (row x)) → (found : Option Follower)
    → slice_get s.followers g ≡ found → NewAt s.followers (for_follower s g row found)
by-follower s g row news None is named f own new at there = tt
by-follower s g row news (Some x) is named f own new at there =
    let next : List Follower = slice_set s.followers g (row x).next in
    let mine : slice_get next g ≡ Some (row x).next = set-same s.followers g x (row x).next is in
    let sent : List Frame = (row x).sent in
    by_test (AllByRecursion (λ (m : Frame). bytes_eq m.follower (uuid_of f) ≡ true → NewIn own.work new.work m) sent) (g == f)
    (λ same.
    let number : g ≡ f = eqb-true g f same in
    let own_is : x ≡ own = some_equal x own (sym is ∙ (ap (slice_get s.followers) number ∙ at)) in
    let new_is : (row x).next ≡ new = some_equal (row x).next new (sym mine ∙ (ap (slice_get next) number ∙ there)) in
    subst (λ (y : Follower). AllByRecursion (λ (m : Frame). bytes_eq m.follower (uuid_of f) ≡ true → NewIn y.work new.work m) sent) own_is
    (subst (λ (y : Follower). AllByRecursion (λ (m : Frame). bytes_eq m.follower (uuid_of f) ≡ true → NewIn x.work y.work m) sent) new_is
    (All-weaker (λ (m : Frame). NewIn x.work (row x).next.work m) (λ (m : Frame). bytes_eq m.follower (uuid_of f) ≡ true → NewIn x.work (row x).next.work m)
    (λ m holds to. holds) sent (news x is))))
    (λ other.
    let own_named = named g (row x).next mine in
    let its_named = named f new there in
    All-weaker (λ (m : Frame). NewIn x.work (row x).next.work m) (λ (m : Frame). bytes_eq m.follower (uuid_of f) ≡ true → NewIn own.work new.work m)
    (λ m holds to. other-new next g f x.work (row x).next.work own.work new.work m own_named.0 its_named.0 own_named.1 other holds to) sent (news x is))

-- ---- messages

-- each follower's task is good, and a message that answers a read of it is true
record Grounds (next : List ℕ → Line) (p : Past) : Type 0 where
  made : (f : ℕ) (x : Follower) → slice_get p.state.followers f ≡ Some x → IsGoodFollower next (p.followers f).begun_at (p.followers f).written x
  answers : (at : ℕ) (m : Frame) → slice_get p.state.flight at ≡ Some m → (f : ℕ) (x : Follower) (t : Task) (r : Read) → follower_of p.state.followers m.follower ≡ Some f
      → slice_get p.state.followers f ≡ Some x → x.work ≡ replicating t → read_sent t m.request ≡ Some r → IsTrueAnswer (next x.history) t r m.request m.content

by-receiver : (next : List ℕ → Line) (p : Past) (flight : List Frame) (at copy : ℕ) (m : Frame) → slice_get p.state.flight at ≡ Some m → Grounds next p
    → NewAt p.state.followers (taken_by_receiver (record p.state { flight = flight }) copy m)
by-receiver next p flight at copy m is g =
    let s : State = record p.state { flight = flight } in
    on_if (λ (o : Outcome State). NewAt p.state.followers o) (goes_to_leader (kind_of_content m.content)) (at_leader s (leader_receive s.leader copy m)) (at_named_follower s m (follower_of s.followers m.follower))
    (λ goes. no-ask-at p.state.followers (at_leader s (leader_receive s.leader copy m)) (message-no-asks m.content (leader_receive s.leader copy m).sent (leader-receives s.leader copy m)))
    (λ stays. (elim (follower_of p.state.followers m.follower) as (λ (found : Option ℕ). follower_of p.state.followers m.follower ≡ found → NewAt p.state.followers (at_named_follower s m found)) [
      | None ↦ λ named. λ names f own new at there. tt
      | Some f ↦ λ named. by-follower s f (λ follower. follower_receive_row follower m)
          (λ x there. hearing next (p.followers f).begun_at (p.followers f).written x m (λ t r works sent. g.answers at m is f x t r named there works sent) (g.made f x there))
          (slice_get p.state.followers f) refl
    ]) refl)

by-delivery : (next : List ℕ → Line) (p : Past) (at copy : ℕ) (keep : Bool) (found : Option Frame) (c : Option Copy) → slice_get p.state.flight at ≡ found → Grounds next p
    → NewAt p.state.followers (deliver_row p.state at copy keep found c)
unfolding deliver_row
by-delivery next p at copy keep None c is g = λ named f own new at there. tt
by-delivery next p at copy keep (Some m) None is g = λ named f own new at there. tt
by-delivery next p at copy keep (Some m) (Some c) is g =
    on_if (λ (after : State). NewAt p.state.followers (taken_by_receiver after copy m)) keep p.state (record p.state { flight = remove p.state.flight at })
    (λ kept. by-receiver next p p.state.flight at copy m is g) (λ left. by-receiver next p (remove p.state.flight at) at copy m is g)

by-drop : (s : State) (at : ℕ) (found : Option Frame) → NewAt s.followers (drop_row s at found)
unfolding drop_row
by-drop s at None = λ named f own new at there. tt
by-drop s at (Some m) = λ named f own new at there. tt

by-wake : (s : State) (f at : ℕ) (found : Option Follower) → NewAt s.followers (woken s f at found)
by-wake s f at None = λ named f own new at there. tt
by-wake s f at (Some follower) =
    let poll : Option Poll = slice_get (polls_of s.leader.polls (uuid_of f)) at in
    no-ask-at s.followers (at_leader s (leader_wake s.leader (uuid_of f) at))
    (poll-no-asks poll (leader_wake s.leader (uuid_of f) at).sent (wake-sends s.leader (uuid_of f) at poll (polled_copy s.leader.copies poll)))

by-search : (s : State) (copy : ℕ) (query : Tree) (sort : List SortKey) (found : Option Copy) → NewAt s.followers (search_row s copy query sort found)
unfolding search_row
by-search s copy query sort None = λ named f own new at there. tt
by-search s copy query sort (Some c) = λ named f own new at there. tt

by-search-at : (s : State) (side : Side) (copy : ℕ) (query : Tree) (sort : List SortKey) → NewAt s.followers (searched_at s side copy (search_row s copy query sort))
by-search-at s sides.Leader copy query sort = by-search s copy query sort (copy_of s.leader.copies copy)
by-search-at s (sides.Follower f) copy query sort =
    elim (slice_get s.followers f) as (λ (found : Option Follower). NewAt s.followers (elim found as (λ _. Outcome State) [
      | None ↦ refused s (NoFollower f)
      | Some follower ↦ search_row s copy query sort (copy_of follower.copies copy)
    ])) [
      | None ↦ λ named f own new at there. tt
      | Some follower ↦ by-search s copy query sort (copy_of follower.copies copy)
    ]

by-settle : (s : State) → NewAt s.followers (guarded s ((not (is_settled s), NotSettled) ∷ []) (answered replies.Settled s))
by-settle s =
    on_guards (λ (o : Outcome State). NewAt s.followers o) s ((not (is_settled s), NotSettled) ∷ []) (answered replies.Settled s)
    (λ why. λ named f own new at there. tt) (λ all. λ named f own new at there. tt)

by-follow : (s : State) (params : ParamValues) (copies : ℕ) (name : List ℕ) (same : Option ℕ) → NewAt s.followers (follow_row s params copies name same)
unfolding follow_row
by-follow s params copies name (Some f) = λ named f own new at there. tt
by-follow s params copies name None =
    on_guards (λ (o : Outcome State). NewAt s.followers o) s ((nat_le most_followers (length s.followers), TooMany) ∷ []) (with_new_follower s params copies name)
    (λ why. λ named f own new at there. tt) (λ few. no-ask-at s.followers (with_new_follower s params copies name) (tt, tt))

-- ---- each event

each-new : (next : List ℕ → Line) (p : Past) (event : Event) (picks : List ℕ) → Grounds next p → NewAt p.state.followers (step p.state event picks)
each-new next p (events.Write request) picks g =
    by-leader p.state (leader_write p.state.leader request) (write-sends p.state.leader.copies request (source_fault request.body) (live (held p.state.leader.copies.primary.store) request.id))
each-new next p (events.Replicate sides.Leader copy seq) picks g = by-leader p.state (leader_replicate p.state.leader copy seq) (replicate-sends p.state.leader.copies copy seq (replica_of p.state.leader.copies copy))
each-new next p (events.Replicate (sides.Follower f) copy seq) picks g = by-follower p.state f (λ x. follower_replicate x copy seq) (λ x there. plain-row x (follower_replicate x copy seq) (replicate-sends x.copies copy seq (replica_of x.copies copy))) (slice_get p.state.followers f) refl
each-new next p (events.Ack sides.Leader copy) picks g = by-leader p.state (leader_ack p.state.leader copy) (ack-sends p.state.leader.copies copy (replica_of p.state.leader.copies copy))
each-new next p (events.Ack (sides.Follower f) copy) picks g = by-follower p.state f (λ x. follower_ack x copy) (λ x there. plain-row x (follower_ack x copy) (ack-sends x.copies copy (replica_of x.copies copy))) (slice_get p.state.followers f) refl
each-new next p (events.Sync sides.Leader copy) picks g = by-leader p.state (leader_sync p.state.leader copy) (settling-sends (within (λ copies. record p.state.leader { copies = copies }) (sync_row p.state.leader.copies copy (replica_of p.state.leader.copies copy))) (sync-sends p.state.leader.copies copy (replica_of p.state.leader.copies copy)))
each-new next p (events.Sync (sides.Follower f) copy) picks g = by-follower p.state f (λ x. follower_sync x copy) (λ x there. plain-row x (follower_sync x copy) (sync-sends x.copies copy (replica_of x.copies copy))) (slice_get p.state.followers f) refl
each-new next p (events.Promote sides.Leader copy) picks g = by-leader p.state (leader_promote p.state.leader copy) (leader_promote-sends p.state.leader copy (replica_of p.state.leader.copies copy))
each-new next p (events.Promote (sides.Follower f) copy) picks g = by-follower p.state f (λ x. follower_promote x copy) (λ x there. plain-row x (follower_promote x copy) (follower_promote-sends x.copies copy (replica_of x.copies copy))) (slice_get p.state.followers f) refl
each-new next p (events.ForcePromote copy) picks g = by-leader p.state (leader_force_promote p.state.leader copy) (force_promote-sends p.state.leader copy (stale_of p.state.leader.stale copy))
each-new next p (events.Resync copy) picks g = by-leader p.state (leader_resync p.state.leader copy) (resync-sends p.state.leader.copies copy (replica_of p.state.leader.copies copy))
each-new next p (events.FailCopy sides.Leader copy) picks g = by-leader p.state (leader_fail_copy p.state.leader copy) (settling-sends (leader_fail_copy_row p.state.leader copy (replica_of p.state.leader.copies copy)) (leader_fail_copy-sends p.state.leader copy (replica_of p.state.leader.copies copy)))
each-new next p (events.FailCopy (sides.Follower f) copy) picks g = by-follower p.state f (λ x. follower_fail_copy x copy) (λ x there. plain-row x (follower_fail_copy x copy) (fail_copy-sends x.copies copy (replica_of x.copies copy))) (slice_get p.state.followers f) refl
each-new next p (events.AddCopy sides.Leader) picks g = by-leader p.state (leader_add_copy p.state.leader) (add_copy-sends p.state.leader.copies)
each-new next p (events.AddCopy (sides.Follower f)) picks g = by-follower p.state f follower_add_copy_row (λ x there. adding x) (slice_get p.state.followers f) refl
each-new next p (events.Flush sides.Leader copy) picks g = by-leader p.state (leader_flush p.state.leader copy) (flush-sends p.state.leader.copies copy (copy_of p.state.leader.copies copy))
each-new next p (events.Flush (sides.Follower f) copy) picks g = by-follower p.state f (λ x. follower_flush x copy) (λ x there. plain-row x (follower_flush x copy) (flush-sends x.copies copy (copy_of x.copies copy))) (slice_get p.state.followers f) refl
each-new next p (events.Merge sides.Leader copy) picks g = by-leader p.state (leader_merge p.state.leader copy picks) (merge-sends p.state.leader.copies p.state.leader.start.retention copy picks (copy_of p.state.leader.copies copy))
each-new next p (events.Merge (sides.Follower f) copy) picks g = by-follower p.state f (λ x. follower_merge x copy picks) (λ x there. plain-row x (follower_merge x copy picks) (merge-sends x.copies x.retention copy picks (copy_of x.copies copy))) (slice_get p.state.followers f) refl
each-new next p (events.Clock sides.Leader time) picks g = by-leader p.state (leader_clock p.state.leader time) (clock-sends p.state.leader time)
each-new next p (events.Clock (sides.Follower f) time) picks g = by-follower p.state f (λ x. follower_clock_row x time) (λ x there. clocking x time) (slice_get p.state.followers f) refl
each-new next p events.Expire picks g = by-leader p.state (leader_expire p.state.leader) (expire-sends p.state.leader)
each-new next p events.CloseSessions picks g = by-leader p.state (leader_close_sessions p.state.leader) (close-sends p.state.leader)
each-new next p (events.Tick f) picks g = by-follower p.state f tick_row (λ x there. ticking next (p.followers f).begun_at (p.followers f).written x (g.made f x there)) (slice_get p.state.followers f) refl
each-new next p (events.Deliver at copy keep) picks g = by-delivery next p at copy keep (slice_get p.state.flight at) (copy_of p.state.leader.copies copy) refl g
each-new next p (events.Drop at) picks g = by-drop p.state at (slice_get p.state.flight at)
each-new next p (events.Wake f at) picks g = by-wake p.state f at (slice_get p.state.followers f)
each-new next p (events.Lose f at) picks g = by-follower p.state f (λ x. lose_row x at) (λ x there. losing x x.work at) (slice_get p.state.followers f) refl
each-new next p (events.LoseWrite f write) picks g = by-follower p.state f (λ x. lose_write_row x write (sent_write x.work write)) (λ x there. losing_write x write (sent_write x.work write)) (slice_get p.state.followers f) refl
each-new next p (events.Take f write) picks g = by-follower p.state f (λ x. take_row x write (sent_write x.work write)) (λ x there. taking x write (sent_write x.work write)) (slice_get p.state.followers f) refl
each-new next p (events.Apply f epoch write batch) picks g =
    by-follower p.state f (λ x. apply_row x epoch write batch (sent_write x.work write)) (λ x there. applying x epoch write batch (sent_write x.work write)) (slice_get p.state.followers f) refl
each-new next p (events.Written f write) picks g = by-follower p.state f (λ x. written_row x write (sent_write x.work write)) (λ x there. ending next (p.followers f).begun_at (p.followers f).written x x.work write (g.made f x there).work) (slice_get p.state.followers f) refl
each-new next p (events.Renew f) picks g = by-follower p.state f (λ x. renew_row x (task_of x.work)) (λ x there. renewing x (task_of x.work)) (slice_get p.state.followers f) refl
each-new next p (events.Follow params copies name) picks g = by-follow p.state params copies name (same_name p.state.followers name)
each-new next p (events.Pause f) picks g = by-follower p.state f (λ x. pause_row x (task_of x.work)) (λ x there. pausing x (task_of x.work)) (slice_get p.state.followers f) refl
each-new next p (events.Resume f) picks g = by-follower p.state f (λ x. resume_row x (task_of x.work)) (λ x there. resuming x (task_of x.work)) (slice_get p.state.followers f) refl
each-new next p (events.Restart f) picks g = by-follower p.state f (λ x. restart_row x (task_of x.work)) (λ x there. restarting x (task_of x.work)) (slice_get p.state.followers f) refl
each-new next p (events.Unfollow f) picks g = by-follower p.state f (λ x. unfollow_row x (task_of x.work)) (λ x there. unfollowing x (task_of x.work)) (slice_get p.state.followers f) refl
each-new next p (events.Search side copy request) picks g = by-search-at p.state side copy request.query request.sort
each-new next p (events.Status sides.Leader) picks g = by-leader p.state (leader_status p.state.leader) (leader_status-sends p.state.leader)
each-new next p (events.Status (sides.Follower f)) picks g = by-follower p.state f follower_status_row (λ x there. showing x) (slice_get p.state.followers f) refl
each-new next p events.Settle picks g = by-settle p.state

-- ---- at a place

-- what a task covers it has not received
any-unreceived : (t : Task) (written : List WrittenBatch) (n : ℕ) (reads : List Read) → AllByRecursion (λ (r : Read). (n : ℕ) → is_in_read n r ≡ true → is_received t written n ≡ false) reads
    → list_any (is_in_read n) reads ≡ true → is_received t written n ≡ false
any-unreceived t written n [] all is = absurd (cc)
any-unreceived t written n (r ∷ reads) all is =
    (elim (is_in_read n r) as (λ (b : Bool). is_in_read n r ≡ b → (b || list_any (is_in_read n) reads) ≡ true → is_received t written n ≡ false) [
      | true ↦ λ here any. all.0 n here
      | false ↦ λ isnt any. any-unreceived t written n reads all.1 any
    ]) refl is

covered-unreceived : (t : Task) (written : List WrittenBatch) (n : ℕ) → AsksOnce t written → Covers t n → is_received t written n ≡ false
covered-unreceived t written n once (inl there) = any-unreceived t written n t.reads once.reads there
covered-unreceived t written n once (inr above) = once.later n above

fresh-asks : (old : Work) (t : Task) (written : List WrittenBatch) (uuid : List ℕ) (content : Content) → (is_active t.phase ≡ true → AsksOnce t written)
    → FreshBy (repeats old t) t uuid content → AsksNewNumbers old t written content
fresh-asks old t written uuid (contents.ReadRequest history from max_ops max_bytes timeout) once fresh = λ new n low high.
    let own = fresh.1 new in covered-unreceived t written n (once own.0) (own.1 n low high)
fresh-asks old t written uuid _ once fresh = tt

new-asks : (old now : Work) (past : FollowerPast) (m : Frame) → AsksOnceInEpoch past now → NewIn old now m → AsksNewIn old now past.written m.content
new-asks old (restoring r) past m once news = tt
new-asks old (replicating t) past m once news = fresh-asks old t past.written m.follower m.content once news

named-by : (p : Past) → AreTrueFrames p → AreNamed p.state.followers
named-by p frames f own at = let is : IsNamedAlone p.state f own = frames.names f own at in (is.alone, is.work)

grounds : (p : Past) (next : List ℕ → Line) → LaterOf p next → AreTrueFrames p → HasGoodTasks p → Grounds next p
grounds p next later frames good = record {
  made = (later-followers p next later good.followers).made;
  answers = λ at m is f x t r named there works sent.
      let truth : IsTrueFrame p m = All-at (IsTrueFrame p) p.state.flight at m frames.flight is in
      let run : IsRunOf m.content = All-at (λ (m : Frame). IsRunOf m.content) p.state.flight at m good.runs is in
      answer-true p next m.follower m.request f x t r m.content later truth.content run named there works sent;
}

-- where the messages in flight and the tasks are true before and after an event, no request that it sends asks for what was received
pub asks-new : (p : Past) (event : Event) (picks : List ℕ) → ((history : List ℕ) → IsLater (line_of p history) (line_of (past_by p event picks) history)) → AreTrueFrames p → HasGoodTasks p
    → AreTrueFrames (past_by p event picks) → HasGoodTasks (past_by p event picks) → AsksNew p (past_by p event picks) (step p.state event picks).sent
asks-new p event picks later frames good frames_after good_after f s now at there =
    let after : Past = past_by p event picks in
    let sent : List Frame = (step p.state event picks).sent in
    let news : AllByRecursion (λ (m : Frame). bytes_eq m.follower (uuid_of f) ≡ true → NewIn s.work now.work m) sent
    = each-new (line_of after) p event picks (grounds p (line_of after) later frames good) (named-by after frames_after) f s now at there in
    let stated : IsTaskAsStated after f now = tasks-say after good_after f now there in
    All-weaker (λ (m : Frame). bytes_eq m.follower (uuid_of f) ≡ true → NewIn s.work now.work m)
    (λ (m : Frame). bytes_eq m.follower (uuid_of f) ≡ true → AsksNewIn s.work now.work (after.followers f).written m.content)
    (λ m is named. new-asks s.work now.work (after.followers f) m stated.once (is named)) sent news
