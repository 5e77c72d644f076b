-- A refused event leaves the world as it was, and sends nothing.
use Rattle.std.specs.Prelude.{slice_get, remove}
use Rattle.std.specs.List.{list_any}
use Rattle.std.specs.Str.{bytes_eq}
use Rattle.std.proofs.Common.{◌≡◌, ℕ, zero, suc, ◌+◌, ◌==◌, Bool, true, nat_lt, if◌then◌else◌, Option, Some, None, is_some, List, [], ◌∷◌, ◌++◌, slice_set, refl, sym, ◌∙◌, ap, append-nil, arith}
use Rattle.ccr_op.specs.Operation.{Operation}
use Rattle.ccr_doc.specs.declared.sources.BadSource.{BadSource as SourceFault}
use Rattle.ccr_lease.specs.declared.retention.Lease.{Lease}
use Rattle.ccr_query.specs.Queries.{Tree}
use Rattle.ccr_query.specs.declared.sorting.SortKey.{SortKey}
use Rattle.ccr_wire.specs.Message.{Frame, kind_of_content}
use Rattle.ccr_wire.specs.declared.content.Content.{Content}
use Rattle.ccr_wire.specs.declared.content.Content.TheVariants as contents
use Rattle.ccr_journal.specs.declared.params.ParamValues.{ParamValues}
use Rattle.ccr_journal.specs.declared.requests.WriteRequest.{WriteRequest}
use Rattle.ccr_journal.specs.declared.sides.Side.TheVariants as sides
use Rattle.ccr_journal.specs.declared.events.Event.{Event}
use Rattle.ccr_journal.specs.declared.events.Event.TheVariants as events
use Rattle.ccr_journal.specs.declared.journals.Entry.{Entry}
use Rattle.ccr_journal.specs.declared.replies.Reply.{Reply}
use Rattle.ccr_journal.specs.declared.replies.Reply.TheVariants as replies
use Rattle.ccr_journal.specs.declared.replies.Refusal.{Refusal}
use Rattle.ccr_journal.specs.declared.replies.Refusal.TheVariants.{NoFollower}
use Rattle.ccr_model.specs.Outcomes.{Outcome, refused, within}
use Rattle.ccr_model.specs.Copies.{Copy, Copies, Replica, copy_of, replica_of}
use Rattle.ccr_model.specs.CopyRows.{replicate_row, ack_row, sync_row, fail_copy_row, add_copy_row, flush_row, merge_row, follower_promote_row}
use Rattle.ccr_model.specs.Leaders.{Leader, Session, KeptRequest, Poll, without_poll}
use Rattle.ccr_model.specs.LeaderRows.{with_copies, answering_kept, write_row, leader_promote_row, force_promote_row, resync_row, leader_fail_copy_row, leader_clock_row, expire_row, close_sessions_row, leader_status_row}
use Rattle.ccr_model.specs.LeaderFrames.{answer_read, has_to_wait, read_row, wake_row, with_new_lease, answer_or_keep, lease_add_row, lease_renew_row, lease_remove_row, session_open_row, chunk_row, receive_row, leader_receive}
use Rattle.ccr_model.specs.Requests.{Sending}
use Rattle.ccr_model.specs.Restores.{Restore, Stage, leasing, opening, fetching, is_complete, ends_restore, restore_hears, sent_requests}
use Rattle.ccr_model.specs.Tasks.{Task, Read, read_sent, sent_reads}
use Rattle.ccr_model.specs.Followers.{Follower, Work, restoring, replicating, uuid_of}
use Rattle.ccr_model.specs.FollowerRows.{Sent, with_copies as with_own_copies, restore_done, restore_heard, hear_read, task_heard, work_hears, follower_receive_row, task_lost, bootstrap_lost, lose_row, tick_row, follower_clock_row, lose_write_row, take_row, apply_row, write_done, written_row, renew_row, pause_row, resume_row, restart_row, unfollow_row, follower_add_copy_row, follower_status_row}
use Rattle.ccr_model.specs.World.{State, at_leader, for_follower, goes_to_leader, follower_from, follower_of, at_named_follower, taken_by_receiver, deliver_row, drop_row, follow_row, search_row, same_name}
use Rattle.ccr_model.specs.Step.{step, woken, picks_in}
use Rattle.ccr_model.specs.Past.{Past, past_after}
use Rattle.ccr_model.specs.Headline.{RefusesQuietly}
use Rattle.ccr_law_base.specs.Events.{IsLegalAt}
use Rattle.ccr_law_base.proofs.Cases.{on_if, on_guards, read_answered}
use Rattle.ccr_law_base.proofs.Lists.{some_equal}

-- where the outcome is a refusal, nothing changes and nothing is sent
abbrev pub IsQuiet : {S : Type 0} → S → Outcome S → Type 0
IsQuiet s o = (why : Refusal) → o.reply ≡ replies.Refused why → (o.next ≡ s) × (o.sent ≡ [])

-- the outcome is no refusal
abbrev pub IsAnswered : {S : Type 0} → Outcome S → Type 0
IsAnswered o = (why : Refusal) → o.reply ≡ replies.Refused why → ⊥

quiet-answered : {S : Type 0} (s : S) (o : Outcome S) → IsAnswered o → IsQuiet s o
quiet-answered s o answers = λ why is. absurd (answers why is)

quiet-within : {S T : Type 0} (put : T → S) (s : S) (t : T) (o : Outcome T) → put t ≡ s → IsQuiet t o → IsQuiet s (within put o)
quiet-within put s t o same quiet = λ why is. let now : (o.next ≡ t) × (o.sent ≡ []) = quiet why is in (ap put now.0 ∙ same, now.1)

-- ---- the copies' rows

replicating_copy : (s : Copies) (copy seq : ℕ) (found : Option Replica) → IsQuiet s (replicate_row s copy seq found)
unfolding replicate_row
replicating_copy s copy seq None = λ why is. (refl, refl)
replicating_copy s copy seq (Some r) = on_guards (IsQuiet s) s _ _ (λ why other is. (refl, refl)) (λ tests why is. absurd (cc))

acking : (s : Copies) (copy : ℕ) (found : Option Replica) → IsQuiet s (ack_row s copy found)
unfolding ack_row
acking s copy None = λ why is. (refl, refl)
acking s copy (Some r) = on_guards (IsQuiet s) s _ _ (λ why other is. (refl, refl)) (λ tests why is. absurd (cc))

syncing : (s : Copies) (copy : ℕ) (found : Option Replica) → IsQuiet s (sync_row s copy found)
unfolding sync_row
syncing s copy None = λ why is. (refl, refl)
syncing s copy (Some r) = on_guards (IsQuiet s) s _ _ (λ why other is. (refl, refl)) (λ tests why is. absurd (cc))

failing_copy : (s : Copies) (copy : ℕ) (found : Option Replica) → IsQuiet s (fail_copy_row s copy found)
unfolding fail_copy_row
failing_copy s copy None = λ why is. (refl, refl)
failing_copy s copy (Some r) = λ why is. absurd (cc)

adding_copy : (s : Copies) → IsQuiet s (add_copy_row s)
unfolding add_copy_row
adding_copy s = on_guards (IsQuiet s) s _ _ (λ why other is. (refl, refl)) (λ tests why is. absurd (cc))

flushing : (s : Copies) (copy : ℕ) (found : Option Copy) → IsQuiet s (flush_row s copy found)
unfolding flush_row
flushing s copy None = λ why is. (refl, refl)
flushing s copy (Some c) = λ why is. absurd (cc)

merging : (s : Copies) (retention copy : ℕ) (picks : List ℕ) (found : Option Copy) → IsQuiet s (merge_row s retention copy picks found)
unfolding merge_row
merging s retention copy picks None = λ why is. (refl, refl)
merging s retention copy picks (Some c) = λ why is. absurd (cc)

writing : (s : Copies) (request : WriteRequest) (fault : Option SourceFault) (found : Option Operation) → IsQuiet s (write_row s request fault found)
unfolding write_row
writing s request (Some fault) found = λ why is. (refl, refl)
writing s request None found = on_guards (IsQuiet s) s _ _ (λ why other is. (refl, refl)) (λ tests why is. absurd (cc))

resyncing : (s : Copies) (copy : ℕ) (found : Option Replica) → IsQuiet s (resync_row s copy found)
unfolding resync_row
resyncing s copy None = λ why is. (refl, refl)
resyncing s copy (Some r) = on_if (IsQuiet s) r.resynced _ _ (λ was why is. absurd (cc)) (λ wasnt why is. absurd (cc))

promoting_own : (s : Copies) (copy : ℕ) (found : Option Replica) → IsQuiet s (follower_promote_row s copy found)
unfolding follower_promote_row
promoting_own s copy None = λ why is. (refl, refl)
promoting_own s copy (Some r) = λ why is. absurd (cc)

-- ---- the leader's rows

-- the answers to kept requests go out unless the event was refused
quiet-settling : (s : Leader) (reply : Reply) (o : Outcome Leader) → o.reply ≡ reply → IsQuiet s o → IsQuiet s (answering_kept reply o)
quiet-settling s (replies.Refused why) o same quiet = quiet
quiet-settling s _ o same quiet = λ why is. absurd (cc)

promoting : (s : Leader) (copy : ℕ) (found : Option Replica) → IsQuiet s (leader_promote_row s copy found)
unfolding leader_promote_row
promoting s copy None = λ why is. (refl, refl)
promoting s copy (Some r) = λ why is. absurd (cc)

forcing : (s : Leader) (copy : ℕ) (found : Option Copy) → IsQuiet s (force_promote_row s copy found)
unfolding force_promote_row
forcing s copy None = λ why is. (refl, refl)
forcing s copy (Some c) = λ why is. absurd (cc)

failing : (s : Leader) (copy : ℕ) (found : Option Replica) → IsQuiet s (leader_fail_copy_row s copy found)
unfolding leader_fail_copy_row fail_copy_row
failing s copy None = quiet-within (with_copies s) s s.copies _ refl (failing_copy s.copies copy None)
failing s copy (Some r) = λ why is. absurd (answers copy r why is)
  where
    answers : (copy : ℕ) (r : Replica) → IsAnswered (fail_copy_row s.copies copy (Some r))
    answers copy r = λ why is. cc

clocking : (s : Leader) (now : ℕ) → IsAnswered (leader_clock_row s now)
unfolding leader_clock_row
clocking s now = λ why is. cc

expiring : (s : Leader) → IsAnswered (expire_row s)
unfolding expire_row
expiring s = λ why is. cc

closing : (s : Leader) → IsAnswered (close_sessions_row s)
unfolding close_sessions_row
closing s = λ why is. cc

showing : (s : Leader) → IsAnswered (leader_status_row s)
unfolding leader_status_row
showing s = λ why is. cc

-- ---- what the leader hears: it answers each message that comes to a copy that is there

read_is_answered : (s : Leader) (p : Poll) (c : Copy) (next : Leader) → IsAnswered (answer_read s p c next)
read_is_answered s p c next = read_answered IsAnswered s p c next (λ what sent why is. cc)

reading : (s : Leader) (p : Poll) (copy : ℕ) (found : Option Copy) (c : Copy) → found ≡ Some c → IsAnswered (read_row s p copy found)
unfolding read_row
reading s p copy None c there = absurd (cc)
reading s p copy (Some own) c there =
    on_if IsAnswered (has_to_wait s p own) _ _ (λ waits why is. cc) (λ answers. read_is_answered s p own s)

waking : (s : Leader) (follower : List ℕ) (at : ℕ) (found : Option Poll) (c : Option Copy) → IsQuiet s (wake_row s follower at found c)
unfolding wake_row
waking s follower at None c = λ why is. (refl, refl)
waking s follower at (Some p) None = λ why is. (refl, refl)
waking s follower at (Some p) (Some c) =
    on_guards (IsQuiet s) s _ _ (λ why other is. (refl, refl))
    (λ tests. quiet-answered s (answer_read s p c (record s { polls = without_poll follower at s.polls })) (read_is_answered s p c (record s { polls = without_poll follower at s.polls })))

keeping : (s : Leader) (k : KeptRequest) (lacking : Option ℕ) → IsAnswered (answer_or_keep s k lacking)
keeping s k None = λ why is. cc
keeping s k (Some copy) = λ why is. cc

adding : (s : Leader) (follower : List ℕ) (request : ℕ) (id : List ℕ) (waits : Option ℕ) → IsAnswered (lease_add_row s follower request id waits)
unfolding lease_add_row
adding s follower request id (Some copy) = λ why is. cc
adding s follower request id None = keeping (with_new_lease s id) _ _

renewing : (s : Leader) (follower : List ℕ) (request : ℕ) (id : List ℕ) (number : ℕ) (found : Option Lease) → IsAnswered (lease_renew_row s follower request id number found)
unfolding lease_renew_row
renewing s follower request id number None = λ why is. cc
renewing s follower request id number (Some kept) = on_if IsAnswered (nat_lt number kept.number) _ _ (λ low why is. cc) (λ high why is. cc)

removing : (s : Leader) (follower : List ℕ) (request : ℕ) (id : List ℕ) (found : Option Lease) → IsAnswered (lease_remove_row s follower request id found)
unfolding lease_remove_row
removing s follower request id None = λ why is. cc
removing s follower request id (Some kept) = λ why is. cc

opening_session : (s : Leader) (follower : List ℕ) (request : ℕ) (waits : Option ℕ) → IsAnswered (session_open_row s follower request waits)
unfolding session_open_row
opening_session s follower request (Some copy) = λ why is. cc
opening_session s follower request None = λ why is. cc

sending_part : (s : Leader) (follower : List ℕ) (request session file offset size : ℕ) (found : Option Session) → IsAnswered (chunk_row s follower request session file offset size found)
unfolding chunk_row
sending_part s follower request session file offset size None = λ why is. cc
sending_part s follower request session file offset size (Some x) = λ why is. cc

hearing : (s : Leader) (copy : ℕ) (c : Copy) (follower : List ℕ) (request : ℕ) (content : Content) → copy_of s.copies copy ≡ Some c
    → IsAnswered (receive_row s copy (record { follower = follower; request = request; content = content }))
hearing s copy c follower request (contents.ReadRequest history from max_ops max_bytes timeout) there = reading s _ copy (copy_of s.copies copy) c there
hearing s copy c follower request (contents.LeaseAdd id) there = adding s follower request id _
hearing s copy c follower request (contents.LeaseRenew id number) there = renewing s follower request id number _
hearing s copy c follower request (contents.LeaseRemove id) there = removing s follower request id _
hearing s copy c follower request contents.SessionOpen there = opening_session s follower request _
hearing s copy c follower request (contents.ChunkRequest session file offset size) there = sending_part s follower request session file offset size _
hearing s copy c follower request _ there = λ why is. cc

still_answered : (reply : Reply) (o : Outcome Leader) → o.reply ≡ reply → IsAnswered o → IsAnswered (answering_kept reply o)
still_answered (replies.Refused why) o same answers = answers
still_answered _ o same answers = answers

receiving : (s : Leader) (copy : ℕ) (c : Copy) (m : Frame) → copy_of s.copies copy ≡ Some c → IsAnswered (leader_receive s copy m)
receiving s copy c m there = still_answered (receive_row s copy m).reply (receive_row s copy m) refl (hearing s copy c m.follower m.request m.content there)

-- ---- what a follower hears

restore-done : (s : Follower) (done : Sending Restore) → IsAnswered (restore_done s done)
restore-done s done =
    elim done.next.stage as (λ (stage : Stage). IsAnswered (restore_done s (record done { next = record done.next { stage = stage } }))) [
      | leasing a ↦ λ why is. cc
      | opening a ↦ λ why is. cc
      | fetching f ↦ on_if IsAnswered (is_complete done.next.chunk_size f) _ _ (λ whole why is. cc) (λ part why is. cc)
    ]

restore-heard : (s : Follower) (done : Option (Sending Restore)) → IsAnswered (restore_heard s done)
restore-heard s None = λ why is. cc
restore-heard s (Some done) = restore-done s done

read-heard : (s : Follower) (t : Task) (r : Read) (content : Content) → IsAnswered (hear_read s t r content)
read-heard s t r (contents.ReadReply from global ops) = λ why is. cc
read-heard s t r (contents.ReadMissing from floor) = λ why is. cc
read-heard s t r (contents.ReadHistory history) = λ why is. cc
read-heard s t r _ = λ why is. cc

task-heard : (s : Follower) (t : Task) (content : Content) (found : Option Read) → IsAnswered (task_heard s t content found)
task-heard s t content None = λ why is. cc
task-heard s t content (Some r) = read-heard s t r content

work-heard : (s : Follower) (work : Work) (m : Frame) → IsAnswered (work_hears (record s { work = work }) m)
work-heard s (restoring r) m =
    on_if IsAnswered (ends_restore r m) _ _ (λ ends why is. cc) (λ goes_on. restore-heard (record s { work = restoring r }) (restore_hears r s.now m))
work-heard s (replicating t) m = task-heard (record s { work = replicating t }) t m.content (read_sent t m.request)

follower-heard : (s : Follower) (m : Frame) → IsAnswered (follower_receive_row s m)
unfolding follower_receive_row
follower-heard s m = on_if IsAnswered (list_any (λ n. n == m.request) s.lease_requests) _ _ (λ own why is. cc) (λ other. work-heard s s.work m)

-- ---- a follower's other rows

losing : (s : Follower) (work : Work) (at : ℕ) → IsQuiet (record s { work = work }) (lose_row (record s { work = work }) at)
unfolding lose_row
losing s (restoring r) at = lost (slice_get (sent_requests r.stage) at)
  where
    lost : (found : Option ℕ) → IsQuiet (record s { work = restoring r }) (bootstrap_lost (record s { work = restoring r }) r at found)
    lost None = λ why is. (refl, refl)
    lost (Some request) = λ why is. absurd (cc)
losing s (replicating t) at = lost (slice_get (sent_reads t) at)
  where
    lost : (found : Option Read) → IsQuiet (record s { work = replicating t }) (task_lost (record s { work = replicating t }) t at found)
    lost None = λ why is. (refl, refl)
    lost (Some r) = λ why is. absurd (cc)

ticking : (s : Follower) (work : Work) → IsAnswered (tick_row (record s { work = work }))
unfolding tick_row
ticking s (restoring r) = λ why is. cc
ticking s (replicating t) = λ why is. cc

setting_clock : (s : Follower) (now : ℕ) → IsAnswered (follower_clock_row s now)
unfolding follower_clock_row
setting_clock s now = λ why is. cc

losing_write : (s : Follower) (number : ℕ) (found : Option Sent) → IsQuiet s (lose_write_row s number found)
unfolding lose_write_row
losing_write s number None = λ why is. (refl, refl)
losing_write s number (Some w) = λ why is. absurd (cc)

taking : (s : Follower) (number : ℕ) (found : Option Sent) → IsQuiet s (take_row s number found)
unfolding take_row
taking s number None = λ why is. (refl, refl)
taking s number (Some w) = λ why is. absurd (cc)

applying : (s : Follower) (epoch number : ℕ) (batch : List Operation) (found : Option Sent) → IsQuiet s (apply_row s epoch number batch found)
unfolding apply_row
applying s epoch number batch found = on_guards (IsQuiet s) s _ _ (λ why other is. (refl, refl)) (λ tests why is. absurd (cc))

ending : (s : Follower) (w : Sent) (lacking : Option ℕ) → IsQuiet s (write_done s w lacking)
ending s w (Some copy) = λ why is. (refl, refl)
ending s w None = λ why is. absurd (cc)

having_written : (s : Follower) (number : ℕ) (found : Option Sent) → IsQuiet s (written_row s number found)
unfolding written_row
having_written s number None = λ why is. (refl, refl)
having_written s number (Some w) = ending s w _

renewing_own : (s : Follower) (found : Option Task) → IsQuiet s (renew_row s found)
unfolding renew_row
renewing_own s None = λ why is. (refl, refl)
renewing_own s (Some t) = on_guards (IsQuiet s) s _ _ (λ why other is. (refl, refl)) (λ tests why is. absurd (cc))

pausing : (s : Follower) (found : Option Task) → IsQuiet s (pause_row s found)
unfolding pause_row
pausing s None = λ why is. (refl, refl)
pausing s (Some t) = λ why is. absurd (cc)

resuming : (s : Follower) (found : Option Task) → IsQuiet s (resume_row s found)
unfolding resume_row
resuming s None = λ why is. (refl, refl)
resuming s (Some t) = on_guards (IsQuiet s) s _ _ (λ why other is. (refl, refl)) (λ tests why is. absurd (cc))

restarting : (s : Follower) (found : Option Task) → IsQuiet s (restart_row s found)
unfolding restart_row
restarting s None = λ why is. (refl, refl)
restarting s (Some t) = on_guards (IsQuiet s) s _ _ (λ why other is. (refl, refl)) (λ tests why is. absurd (cc))

unfollowing : (s : Follower) (found : Option Task) → IsQuiet s (unfollow_row s found)
unfolding unfollow_row
unfollowing s None = λ why is. (refl, refl)
unfollowing s (Some t) = on_guards (IsQuiet s) s _ _ (λ why other is. (refl, refl)) (λ tests why is. absurd (cc))

adding_own_copy : (s : Follower) → IsQuiet s (follower_add_copy_row s)
unfolding follower_add_copy_row
adding_own_copy s =
    on_guards (IsQuiet s) s _ _ (λ why other is. (refl, refl)) (λ tests. quiet-within (with_own_copies s) s s.copies _ refl (adding_copy s.copies))

showing_own : (s : Follower) → IsAnswered (follower_status_row s)
unfolding follower_status_row
showing_own s = λ why is. cc

-- ---- the world's rows

quiet-leader : (s : State) (o : Outcome Leader) → IsQuiet s.leader o → IsQuiet s (at_leader s o)
quiet-leader s o quiet = λ why is.
    let now : (o.next ≡ s.leader) × (o.sent ≡ []) = quiet why is in (
      ap (λ (leader : Leader). record s { leader = leader; flight = s.flight ++ o.sent }) now.0
          ∙ ap (λ (sent : List Frame). record s { flight = s.flight ++ sent }) now.1
          ∙ ap (λ (flight : List Frame). record s { flight = flight }) (append-nil s.flight),
      now.1,
    )

-- an element is put where it stands
put-same : (xs : List Follower) (n : ℕ) (x : Follower) → slice_get xs n ≡ Some x → slice_set xs n x ≡ xs
put-same [] n x is = cc
put-same (y ∷ xs) zero x is = ap (λ (z : Follower). z ∷ xs) (sym (some_equal y x is))
put-same (y ∷ xs) (suc n) x is = ap (λ (zs : List Follower). y ∷ zs) (put-same xs n x is)

quiet-follower : (s : State) (f : ℕ) (row : Follower → Outcome Follower) (found : Option Follower) → slice_get s.followers f ≡ found
    → ((own : Follower) → IsQuiet own (row own)) → IsQuiet s (for_follower s f row found)
quiet-follower s f row None at quiet = λ why is. (refl, refl)
quiet-follower s f row (Some own) at quiet = λ why is.
    let now : ((row own).next ≡ own) × ((row own).sent ≡ []) = quiet own why is in (
      ap (λ (next : Follower). record s { followers = slice_set s.followers f next; flight = s.flight ++ (row own).sent }) now.0
          ∙ ap (λ (followers : List Follower). record s { followers = followers; flight = s.flight ++ (row own).sent }) (put-same s.followers f own at)
          ∙ ap (λ (sent : List Frame). record s { flight = s.flight ++ sent }) now.1
          ∙ ap (λ (flight : List Frame). record s { flight = flight }) (append-nil s.flight),
      now.1,
    )

-- the follower that a UUID names is there
named-there : (xs : List Follower) (n f : ℕ) (uuid : List ℕ) → follower_from n xs uuid ≡ Some f → (k : ℕ) × (f ≡ n + k) × (is_some (slice_get xs k) ≡ true)
named-there [] n f uuid at = absurd (cc)
named-there (x ∷ xs) n f uuid at =
    on_if (λ (o : Option ℕ). o ≡ Some f → (k : ℕ) × (f ≡ n + k) × (is_some (slice_get (x ∷ xs) k) ≡ true)) (bytes_eq (uuid_of n) uuid) (Some n) (follower_from (n + 1) xs uuid)
    (λ is own. (zero, sym (some_equal n f own) ∙ omega arith, refl))
    (λ isnt rest. let later : (k : ℕ) × (f ≡ n + 1 + k) × (is_some (slice_get xs k) ≡ true) = named-there xs (n + 1) f uuid rest in
    (suc later.0, later.1 ∙ omega arith, later.2)) at

naming : (s : State) (m : Frame) (named : Option ℕ) → follower_of s.followers m.follower ≡ named → IsAnswered (at_named_follower s m named)
naming s m None at = λ why is. cc
naming s m (Some f) at =
    let there : (k : ℕ) × (f ≡ 0 + k) × (is_some (slice_get s.followers k) ≡ true) = named-there s.followers 0 f m.follower at in
    let place : f ≡ 0 + there.0 = there.1 in
    let same : f ≡ there.0 = omega arith in
    found (slice_get s.followers f) (ap (λ (k : ℕ). is_some (slice_get s.followers k)) same ∙ there.2)
  where
    found : (own : Option Follower) → is_some own ≡ true → IsAnswered (for_follower s f (λ follower. follower_receive_row follower m) own)
    found None some = absurd (cc)
    found (Some own) some = follower-heard own m

taking_message : (s : State) (copy : ℕ) (c : Copy) (m : Frame) → copy_of s.leader.copies copy ≡ Some c → IsAnswered (taken_by_receiver s copy m)
taking_message s copy c m there =
    on_if IsAnswered (goes_to_leader (kind_of_content m.content)) _ _
    (λ is. receiving s.leader copy c m there) (λ isnt. naming s m (follower_of s.followers m.follower) refl)

delivering : (s : State) (at copy : ℕ) (keep : Bool) (m : Option Frame) (c : Option Copy) → copy_of s.leader.copies copy ≡ c → IsQuiet s (deliver_row s at copy keep m c)
unfolding deliver_row
delivering s at copy keep None c there = λ why is. (refl, refl)
delivering s at copy keep (Some m) None there = λ why is. (refl, refl)
delivering s at copy keep (Some m) (Some c) there =
    quiet-answered s (taken_by_receiver (if keep then s else record s { flight = remove s.flight at }) copy m)
    (on_if (λ (t : State). IsAnswered (taken_by_receiver t copy m)) keep s (record s { flight = remove s.flight at })
    (λ is. taking_message s copy c m there) (λ isnt. taking_message (record s { flight = remove s.flight at }) copy c m there))

dropping : (s : State) (at : ℕ) (m : Option Frame) → IsQuiet s (drop_row s at m)
unfolding drop_row
dropping s at None = λ why is. (refl, refl)
dropping s at (Some m) = λ why is. absurd (cc)

waking_up : (s : State) (f at : ℕ) (found : Option Follower) → IsQuiet s (woken s f at found)
waking_up s f at None = λ why is. (refl, refl)
waking_up s f at (Some follower) = quiet-leader s _ (waking s.leader (uuid_of f) at _ _)

following : (s : State) (params : ParamValues) (copies : ℕ) (name : List ℕ) (same : Option ℕ) → IsQuiet s (follow_row s params copies name same)
unfolding follow_row
following s params copies name (Some f) = λ why is. (refl, refl)
following s params copies name None = on_guards (IsQuiet s) s _ _ (λ why other is. (refl, refl)) (λ tests why is. absurd (cc))

searching : (s : State) (copy : ℕ) (query : Tree) (sort : List SortKey) (c : Option Copy) → IsQuiet s (search_row s copy query sort c)
unfolding search_row
searching s copy query sort None = λ why is. (refl, refl)
searching s copy query sort (Some c) = λ why is. absurd (cc)

searching_at : (s : State) (f : ℕ) (row : Option Copy → Outcome State) (copy : ℕ) (found : Option Follower) → ((c : Option Copy) → IsQuiet s (row c))
    → IsQuiet s (elim found as (λ _. Outcome State) [ None ↦ refused s (NoFollower f) | Some follower ↦ row (copy_of follower.copies copy) ])
searching_at s f row copy None quiet = λ why is. (refl, refl)
searching_at s f row copy (Some follower) quiet = quiet (copy_of follower.copies copy)

-- ---- each event

by_copies : (s : State) (o : Outcome Copies) → IsQuiet s.leader.copies o → IsQuiet s (at_leader s (within (with_copies s.leader) o))
by_copies s o quiet = quiet-leader s _ (quiet-within (with_copies s.leader) s.leader s.leader.copies o refl quiet)

by_own_copies : (s : State) (f : ℕ) (row : Copies → Outcome Copies) → ((copies : Copies) → IsQuiet copies (row copies))
    → IsQuiet s (for_follower s f (λ own. within (with_own_copies own) (row own.copies)) (slice_get s.followers f))
by_own_copies s f row quiet =
    quiet-follower s f _ (slice_get s.followers f) refl (λ own. quiet-within (with_own_copies own) own own.copies (row own.copies) refl (quiet own.copies))

by_follower : (s : State) (f : ℕ) (row : Follower → Outcome Follower) → ((own : Follower) → IsQuiet own (row own)) → IsQuiet s (for_follower s f row (slice_get s.followers f))
by_follower s f row quiet = quiet-follower s f row (slice_get s.followers f) refl quiet

pub refusals-quiet : (s : State) (event : Event) (picks : List ℕ) → IsQuiet s (step s event picks)
refusals-quiet s (events.Write request) picks = by_copies s _ (writing s.leader.copies request _ _)
refusals-quiet s (events.Replicate sides.Leader copy seq) picks = by_copies s _ (replicating_copy s.leader.copies copy seq _)
refusals-quiet s (events.Ack sides.Leader copy) picks = by_copies s _ (acking s.leader.copies copy _)
refusals-quiet s (events.Sync sides.Leader copy) picks =
    let o : Outcome Leader = within (with_copies s.leader) (sync_row s.leader.copies copy (replica_of s.leader.copies copy)) in
    quiet-leader s _ (quiet-settling s.leader o.reply o refl (quiet-within (with_copies s.leader) s.leader s.leader.copies _ refl (syncing s.leader.copies copy (replica_of s.leader.copies copy))))
refusals-quiet s (events.Promote sides.Leader copy) picks = quiet-leader s _ (promoting s.leader copy _)
refusals-quiet s (events.ForcePromote copy) picks = quiet-leader s _ (forcing s.leader copy _)
refusals-quiet s (events.Resync copy) picks = by_copies s _ (resyncing s.leader.copies copy _)
refusals-quiet s (events.FailCopy sides.Leader copy) picks =
    let o : Outcome Leader = leader_fail_copy_row s.leader copy (replica_of s.leader.copies copy) in
    quiet-leader s _ (quiet-settling s.leader o.reply o refl (failing s.leader copy (replica_of s.leader.copies copy)))
refusals-quiet s (events.AddCopy sides.Leader) picks = by_copies s _ (adding_copy s.leader.copies)
refusals-quiet s (events.Flush sides.Leader copy) picks = by_copies s _ (flushing s.leader.copies copy _)
refusals-quiet s (events.Merge sides.Leader copy) picks = by_copies s _ (merging s.leader.copies s.leader.start.retention copy picks _)
refusals-quiet s (events.Clock sides.Leader now) picks = quiet-leader s _ (quiet-answered s.leader _ (clocking s.leader now))
refusals-quiet s events.Expire picks = quiet-leader s _ (quiet-answered s.leader _ (expiring s.leader))
refusals-quiet s events.CloseSessions picks = quiet-leader s _ (quiet-answered s.leader _ (closing s.leader))
refusals-quiet s (events.Deliver at copy keep) picks = delivering s at copy keep (slice_get s.flight at) (copy_of s.leader.copies copy) refl
refusals-quiet s (events.Drop at) picks = dropping s at (slice_get s.flight at)
refusals-quiet s (events.Wake f at) picks = waking_up s f at (slice_get s.followers f)
refusals-quiet s (events.Follow params copies name) picks = following s params copies name (same_name s.followers name)
refusals-quiet s (events.Search sides.Leader copy request) picks = searching s copy request.query request.sort (copy_of s.leader.copies copy)
refusals-quiet s (events.Search (sides.Follower f) copy request) picks =
    searching_at s f (search_row s copy request.query request.sort) copy (slice_get s.followers f) (searching s copy request.query request.sort)
refusals-quiet s (events.Status sides.Leader) picks = quiet-leader s _ (quiet-answered s.leader _ (showing s.leader))
refusals-quiet s events.Settle picks = on_guards (IsQuiet s) s _ _ (λ why other is. (refl, refl)) (λ tests why is. absurd (cc))
refusals-quiet s (events.Replicate (sides.Follower f) copy seq) picks =
    by_own_copies s f (λ copies. replicate_row copies copy seq (replica_of copies copy)) (λ copies. replicating_copy copies copy seq (replica_of copies copy))
refusals-quiet s (events.Ack (sides.Follower f) copy) picks =
    by_own_copies s f (λ copies. ack_row copies copy (replica_of copies copy)) (λ copies. acking copies copy (replica_of copies copy))
refusals-quiet s (events.Sync (sides.Follower f) copy) picks =
    by_own_copies s f (λ copies. sync_row copies copy (replica_of copies copy)) (λ copies. syncing copies copy (replica_of copies copy))
refusals-quiet s (events.Promote (sides.Follower f) copy) picks =
    by_own_copies s f (λ copies. follower_promote_row copies copy (replica_of copies copy)) (λ copies. promoting_own copies copy (replica_of copies copy))
refusals-quiet s (events.FailCopy (sides.Follower f) copy) picks =
    by_own_copies s f (λ copies. fail_copy_row copies copy (replica_of copies copy)) (λ copies. failing_copy copies copy (replica_of copies copy))
refusals-quiet s (events.AddCopy (sides.Follower f)) picks = by_follower s f _ adding_own_copy
refusals-quiet s (events.Flush (sides.Follower f) copy) picks =
    by_own_copies s f (λ copies. flush_row copies copy (copy_of copies copy)) (λ copies. flushing copies copy (copy_of copies copy))
refusals-quiet s (events.Merge (sides.Follower f) copy) picks =
    by_follower s f _ (λ own. quiet-within (with_own_copies own) own own.copies _ refl (merging own.copies own.retention copy picks (copy_of own.copies copy)))
refusals-quiet s (events.Clock (sides.Follower f) now) picks = by_follower s f _ (λ own. quiet-answered own _ (setting_clock own now))
refusals-quiet s (events.Status (sides.Follower f)) picks = by_follower s f _ (λ own. quiet-answered own _ (showing_own own))
refusals-quiet s (events.Tick f) picks = by_follower s f _ (λ own. quiet-answered own _ (ticking own own.work))
refusals-quiet s (events.Lose f at) picks = by_follower s f _ (λ own. losing own own.work at)
refusals-quiet s (events.LoseWrite f write) picks = by_follower s f _ (λ own. losing_write own write _)
refusals-quiet s (events.Take f write) picks = by_follower s f _ (λ own. taking own write _)
refusals-quiet s (events.Apply f epoch write batch) picks = by_follower s f _ (λ own. applying own epoch write batch _)
refusals-quiet s (events.Written f write) picks = by_follower s f _ (λ own. having_written own write _)
refusals-quiet s (events.Renew f) picks = by_follower s f _ (λ own. renewing_own own _)
refusals-quiet s (events.Pause f) picks = by_follower s f _ (λ own. pausing own _)
refusals-quiet s (events.Resume f) picks = by_follower s f _ (λ own. resuming own _)
refusals-quiet s (events.Restart f) picks = by_follower s f _ (λ own. restarting own _)
refusals-quiet s (events.Unfollow f) picks = by_follower s f _ (λ own. unfollowing own _)

-- ---- of an entry

by_reply : (s next : State) (reply : Reply) → ((why : Refusal) → reply ≡ replies.Refused why → next ≡ s) → RefusesQuietly s next reply
by_reply s next (replies.Refused why) quiet = quiet why refl
by_reply s next _ quiet = tt

-- a refused entry changes nothing but the journal
pub refuses-quietly : (p : Past) (entry : Entry) → IsLegalAt p entry → RefusesQuietly p.state (past_after p entry).state entry.reply
refuses-quietly p entry legal =
    by_reply p.state (past_after p entry).state entry.reply
    (λ why is. (refusals-quiet p.state entry.event (picks_in entry.reply) why (sym legal ∙ is)).0)
