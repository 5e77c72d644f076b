-- A task stops for missing operations only after its lease was lost.
use Rattle.std.specs.Prelude.{slice_get, not, nat_lt, ◌==◌, IfSome, if◌then◌else◌, remove}
use Rattle.std.specs.Option.{option_map}
use Rattle.std.specs.List.{list_any}
use Rattle.std.specs.Str.{bytes_eq}
use Rattle.std.proofs.Common.{◌≡◌, ◌⊎◌, inl, inr, ℕ, Bool, true, List, Option, Some, None, refl, ap, sym, ◌∙◌, subst, arith}
use Rattle.ccr_lease.specs.declared.retention.Lease.{Lease}
use Rattle.ccr_lease.specs.Leases.{lease_of}
use Rattle.ccr_wire.specs.Message.{Frame, kind_of_content}
use Rattle.ccr_wire.specs.declared.content.Content.{Content}
use Rattle.ccr_wire.specs.declared.content.Content.TheVariants as contents
use Rattle.ccr_journal.specs.declared.events.Event.{Event}
use Rattle.ccr_journal.specs.declared.events.Event.TheVariants as events
use Rattle.ccr_journal.specs.declared.replies.Reply.{Reply}
use Rattle.ccr_journal.specs.declared.replies.Reply.TheVariants as replies
use Rattle.ccr_journal.specs.declared.replies.Heard.{Heard as Hearing}
use Rattle.ccr_journal.specs.declared.replies.Heard.TheVariants as heard
use Rattle.ccr_model.specs.Outcomes.{Outcome}
use Rattle.ccr_model.specs.Requests.{Sending}
use Rattle.ccr_model.specs.Copies.{Copy, copy_of, not_ready, has_lease, lacks_lease}
use Rattle.ccr_model.specs.Leaders.{Leader, Poll, Session, session_of}
use Rattle.ccr_model.specs.LeaderRows.{answering_kept}
use Rattle.ccr_model.specs.LeaderFrames.{has_to_wait, read_row, with_new_lease, answer_or_keep, lease_add_row, lease_renew_row, lease_remove_row, session_open_row, chunk_row, receive_row, leader_receive}
use Rattle.ccr_model.specs.Tasks.{Task, Read, read_sent}
use Rattle.ccr_model.specs.Restores.{Restore, Stage, leasing, opening, fetching, is_complete, ends_restore, restore_hears}
use Rattle.ccr_model.specs.Followers.{Follower, Work, restoring, replicating, uuid_of, bootstrapped}
use Rattle.ccr_model.specs.FollowerRows.{does, restore_heard, restore_ended, task_heard, work_hears, follower_receive_row}
use Rattle.ccr_model.specs.World.{State, at_leader, for_follower, goes_to_leader, follower_of, at_named_follower, taken_by_receiver, deliver_row}
use Rattle.ccr_model.specs.Step.{step}
use Rattle.ccr_model.specs.Past.{Past, all_notes}
use Rattle.ccr_model.specs.FrameFacts.{Reading, reading_in}
use Rattle.ccr_model.specs.Invariants.{is_missing, IsLost}
use Rattle.ccr_model.specs.Headline.{StopsTruly}
use Rattle.ccr_law_base.proofs.Cases.{on_if}
use Rattle.ccr_law_base.proofs.Lists.{All-at, some_equal}
use Rattle.ccr_law_retention.specs.Retaining.{MissingOk, LostSince, IsRetaining}
use Rattle.ccr_law_retention.proofs.Deliveries.{is-there, IsThere, flipped}
use Rattle.std.proofs.lemmas.Bool.{and_from}

-- where the reply tells of a stop, the message was one of missing operations that answers a read
record IsStop (w : Work) (m : Frame) : Type 0 where
  missing : is_missing m.content ≡ true
  read : Reading
  reads : reading_in w m.request ≡ Some read

abbrev OnlyStops : Work → Frame → Reply → Type 0
OnlyStops w m (replies.Heard heard.StoppedMissing) = IsStop w m
OnlyStops w m _ = Unit {0}

-- no stop
abbrev NoStop : Reply → Type 0
NoStop (replies.Heard heard.StoppedMissing) = ⊥
NoStop _ = Unit {0}

no-stop : (w : Work) (m : Frame) (reply : Reply) → NoStop reply → OnlyStops w m reply
no-stop w m (replies.Heard heard.StoppedMissing) none = absurd none
no-stop w m _ none = tt

-- ---- the leader

answering-stops : (o : Outcome Leader) (reply : Reply) → NoStop o.reply → NoStop (answering_kept reply o).reply
answering-stops o (replies.Refused why) it = it
answering-stops o _ it = it

read-stops : (s : Leader) (p : Poll) (copy : ℕ) (found : Option Copy) → NoStop (read_row s p copy found).reply
unfolding read_row
read-stops s p copy None = tt
read-stops s p copy (Some c) =
    let P : Outcome Leader → Type 0 = λ (o : Outcome Leader). NoStop o.reply in
    on_if P (has_to_wait s p c) _ _ (λ waits. tt)
    (λ answers. on_if P (not (bytes_eq p.history s.history)) _ _ (λ other. tt) (λ same. on_if P (nat_lt p.from c.floor) _ _ (λ low. tt)
    (λ high. on_if (λ (h : Hearing). NoStop (replies.Heard h)) (nat_lt p.from c.global) heard.Done heard.Empty (λ is. tt) (λ isnt. tt))))

add-stops : (s : Leader) (follower : List ℕ) (request : ℕ) (id : List ℕ) (waits : Option ℕ) → NoStop (lease_add_row s follower request id waits).reply
unfolding lease_add_row
add-stops s follower request id (Some copy) = tt
add-stops s follower request id None = by-lacking (lacks_lease id (with_new_lease s id).copies)
  where
    by-lacking : (lacking : Option ℕ) → NoStop (answer_or_keep (with_new_lease s id) (record { follower = follower; request = request; id = id; existed = has_lease id s.copies.primary }) lacking).reply
    by-lacking None = tt
    by-lacking (Some copy) = tt

renew-stops : (s : Leader) (follower : List ℕ) (request : ℕ) (id : List ℕ) (number : ℕ) (found : Option Lease) → NoStop (lease_renew_row s follower request id number found).reply
unfolding lease_renew_row
renew-stops s follower request id number None = tt
renew-stops s follower request id number (Some kept) = on_if (λ (o : Outcome Leader). NoStop o.reply) (nat_lt number kept.number) _ _ (λ low. tt) (λ enough. tt)

remove-stops : (s : Leader) (follower : List ℕ) (request : ℕ) (id : List ℕ) (found : Option Lease) → NoStop (lease_remove_row s follower request id found).reply
unfolding lease_remove_row
remove-stops s follower request id None = tt
remove-stops s follower request id (Some kept) = tt

open-stops : (s : Leader) (follower : List ℕ) (request : ℕ) (waits : Option ℕ) → NoStop (session_open_row s follower request waits).reply
unfolding session_open_row
open-stops s follower request (Some copy) = tt
open-stops s follower request None = tt

chunk-stops : (s : Leader) (follower : List ℕ) (request session file offset size : ℕ) (found : Option Session) → NoStop (chunk_row s follower request session file offset size found).reply
unfolding chunk_row
chunk-stops s follower request session file offset size None = tt
chunk-stops s follower request session file offset size (Some x) = tt

content-stops : (s : Leader) (copy : ℕ) (follower : List ℕ) (request : ℕ) (content : Content) → NoStop (receive_row s copy (record { follower = follower; request = request; content = content })).reply
content-stops s copy follower request (contents.ReadRequest history from max_ops max_bytes timeout) =
    read-stops s (record { follower = follower; request = request; copy = copy; history = history; from = from; max_ops = max_ops; max_bytes = max_bytes; timeout = timeout; parked = s.now }) copy (copy_of s.copies copy)
content-stops s copy follower request (contents.LeaseAdd id) = add-stops s follower request id (not_ready s.copies)
content-stops s copy follower request (contents.LeaseRenew id number) = renew-stops s follower request id number (lease_of id s.copies.primary.leases.leases)
content-stops s copy follower request (contents.LeaseRemove id) = remove-stops s follower request id (lease_of id s.copies.primary.leases.leases)
content-stops s copy follower request contents.SessionOpen = open-stops s follower request (not_ready s.copies)
content-stops s copy follower request (contents.ChunkRequest session file offset size) = chunk-stops s follower request session file offset size (session_of s.sessions session)
content-stops s copy follower request _ = tt

leader-stops : (s : Leader) (copy : ℕ) (m : Frame) → NoStop (leader_receive s copy m).reply
leader-stops s copy m = answering-stops (receive_row s copy m) (receive_row s copy m).reply (content-stops s copy m.follower m.request m.content)

-- ---- the follower

restored-stops : (s : Follower) (found : Option (Sending Restore)) → NoStop (restore_heard s found).reply
restored-stops s None = tt
restored-stops s (Some done) =
    (elim done.next.stage as (λ (stage : Stage). NoStop (elim stage as (λ _. Outcome Follower) [
      | leasing a ↦ does (replies.Heard heard.Done) (λ r. record s { work = restoring r }) done
      | opening a ↦ does (replies.Heard heard.Done) (λ r. record s { work = restoring r }) done
      | fetching f ↦
          if is_complete done.next.chunk_size f
          then does (replies.Heard heard.Done) (λ next. next) (bootstrapped s done.next f)
          else does (replies.Heard heard.Done) (λ r. record s { work = restoring r }) done
    ]).reply) [
      | leasing a ↦ tt
      | opening a ↦ tt
      | fetching f ↦ on_if (λ (o : Outcome Follower). NoStop o.reply) (is_complete done.next.chunk_size f) _ _ (λ is. tt) (λ isnt. tt)
    ])

task-stops : (s : Follower) (t : Task) (uuid : List ℕ) (request : ℕ) (content : Content) (found : Option Read) → read_sent t request ≡ found
    → OnlyStops (replicating t) (record { follower = uuid; request = request; content = content }) (task_heard s t content found).reply
task-stops s t uuid request content None is = tt
task-stops s t uuid request (contents.ReadReply from global ops) (Some r) is = tt
task-stops s t uuid request (contents.ReadMissing from floor) (Some r) is =
    record { missing = refl; read = record { task = t; read = r }; reads = ap (λ (o : Option Read). option_map {T = Read} {U = Reading} (λ read. record { task = t; read = read }) o) is }
task-stops s t uuid request (contents.ReadHistory history) (Some r) is = tt
task-stops s t uuid request _ (Some r) is = tt

follower-stops : (s : Follower) (m : Frame) → OnlyStops s.work m (follower_receive_row s m).reply
unfolding follower_receive_row
follower-stops s m =
    on_if (λ (o : Outcome Follower). OnlyStops s.work m o.reply) (list_any (λ n. n == m.request) s.lease_requests) _ (work_hears s m) (λ own. tt)
    (λ other. (elim s.work as (λ (w : Work). OnlyStops w m (elim w as (λ _. Outcome Follower) [
      | restoring r ↦ if ends_restore r m then restore_ended s r else restore_heard s (restore_hears r s.now m)
      | replicating t ↦ task_heard s t m.content (read_sent t m.request)
    ]).reply) [
      | restoring r ↦ on_if (λ (o : Outcome Follower). OnlyStops (restoring r) m o.reply) (ends_restore r m) (restore_ended s r) (restore_heard s (restore_hears r s.now m))
          (λ ends. tt) (λ goes. no-stop (restoring r) m (restore_heard s (restore_hears r s.now m)).reply (restored-stops s (restore_hears r s.now m)))
      | replicating t ↦ task-stops s t m.follower m.request m.content (read_sent t m.request) refl
    ]))

-- ---- the delivery

-- what the reply of a delivery of this message tells
abbrev StopFor : Past → Option Frame → Reply → Type 0
StopFor p found (replies.Heard heard.StoppedMissing) = IfSome found (λ m.
    (f : ℕ) (s : Follower) → follower_of p.state.followers m.follower ≡ Some f → slice_get p.state.followers f ≡ Some s → IsLost p f s.lease)
StopFor p found _ = Unit {0}

none-for : (p : Past) (found : Option Frame) (reply : Reply) → NoStop reply → StopFor p found reply
none-for p found (replies.Heard heard.StoppedMissing) none = absurd none
none-for p found _ none = tt

lost-for : (p : Past) (m : Frame) (f : ℕ) (x : Follower) (reply : Reply) → follower_of p.state.followers m.follower ≡ Some f → slice_get p.state.followers f ≡ Some x → (IsStop x.work m → IsLost p f x.lease)
    → OnlyStops x.work m reply → StopFor p (Some m) reply
lost-for p m f x (replies.Heard heard.StoppedMissing) named there lost stop =
    λ g s also at.
    let same : f ≡ g = some_equal f g (sym named ∙ also) in
    let one : x ≡ s = some_equal x s (sym there ∙ (ap (slice_get p.state.followers) same ∙ at)) in
    subst (λ (y : Follower). IsLost p g y.lease) one (subst (λ (k : ℕ). IsLost p k x.lease) same (lost stop))
lost-for p m f x _ named there lost stop = tt

-- a read is there, so the lease was lost
stop-is-lost : (p : Past) (at : ℕ) (m : Frame) (f : ℕ) (x : Follower) → IsRetaining p → slice_get p.state.flight at ≡ Some m → slice_get p.state.followers f ≡ Some x → bytes_eq m.follower (uuid_of f) ≡ true
    → IsStop x.work m → IsLost p f x.lease
stop-is-lost p at m f x all is there own stop =
    by-either (All-at (MissingOk (p.followers f).answer (uuid_of f) x.lease (all_notes p) x.work) p.state.flight at m (all.told f x there).missing is (and_from (bytes_eq m.follower (uuid_of f)) (is_missing m.content) own stop.missing))
  where
    by-either : (reading_in x.work m.request ≡ None) ⊎ LostSince (p.followers f).answer x.lease (all_notes p) → IsLost p f x.lease
    by-either (inl none) = absurd (let some = stop.reads in cc)
    by-either (inr lost) = record { place = lost.place; answer = lost.is; lost = lost.lost }

named-stops : (p : Past) (s : State) (at : ℕ) (m : Frame) (named : Option ℕ) → IsRetaining p → slice_get p.state.flight at ≡ Some m → s.followers ≡ p.state.followers → follower_of p.state.followers m.follower ≡ named
    → StopFor p (Some m) (at_named_follower s m named).reply
named-stops p s at m None all is same found = tt
named-stops p s at m (Some f) all is same found =
    let it : IsThere 0 p.state.followers m.follower f = is-there 0 p.state.followers m.follower f found in
    let there : slice_get p.state.followers f ≡ Some it.follower = subst (λ (n : ℕ). slice_get p.state.followers n ≡ Some it.follower) (let e = it.is in omega arith) it.there in
    let in_s : slice_get s.followers f ≡ Some it.follower = subst (λ (fs : List Follower). slice_get fs f ≡ Some it.follower) (sym same) there in
    subst (λ (x : Option Follower). StopFor p (Some m) (for_follower s f (λ follower. follower_receive_row follower m) x).reply) (sym in_s)
    (lost-for p m f it.follower (follower_receive_row it.follower m).reply found there
    (stop-is-lost p at m f it.follower all is there (flipped (uuid_of f) m.follower it.named)) (follower-stops it.follower m))

taken-stops : (p : Past) (s : State) (at copy : ℕ) (m : Frame) → IsRetaining p → slice_get p.state.flight at ≡ Some m → s.followers ≡ p.state.followers → StopFor p (Some m) (taken_by_receiver s copy m).reply
taken-stops p s at copy m all is same =
    on_if (λ (o : Outcome State). StopFor p (Some m) o.reply) (goes_to_leader (kind_of_content m.content)) (at_leader s (leader_receive s.leader copy m)) (at_named_follower s m (follower_of s.followers m.follower))
    (λ goes. none-for p (Some m) (leader_receive s.leader copy m).reply (leader-stops s.leader copy m))
    (λ stays. named-stops p s at m (follower_of s.followers m.follower) all is same (ap (λ (fs : List Follower). follower_of fs m.follower) (sym same)))

deliver-stops : (p : Past) (at copy : ℕ) (keep : Bool) (found : Option Frame) (c : Option Copy) → IsRetaining p → slice_get p.state.flight at ≡ found → StopFor p found (deliver_row p.state at copy keep found c).reply
unfolding deliver_row
deliver-stops p at copy keep None c all is = tt
deliver-stops p at copy keep (Some m) None all is = tt
deliver-stops p at copy keep (Some m) (Some c) all is =
    on_if (λ (s : State). StopFor p (Some m) (taken_by_receiver s copy m).reply) keep p.state (record p.state { flight = remove p.state.flight at })
    (λ stays. taken-stops p p.state at copy m all is refl) (λ leaves. taken-stops p (record p.state { flight = remove p.state.flight at }) at copy m all is refl)

stop-says : (p : Past) (at copy : ℕ) (keep : Bool) (reply : Reply) → StopFor p (slice_get p.state.flight at) reply → StopsTruly p (events.Deliver at copy keep) reply
stop-says p at copy keep (replies.Heard heard.StoppedMissing) it = it
stop-says p at copy keep _ it = tt

pub stops-truly : (p : Past) (event : Event) (picks : List ℕ) → IsRetaining p → StopsTruly p event (step p.state event picks).reply
stops-truly p (events.Deliver at copy keep) picks all =
    stop-says p at copy keep (step p.state (events.Deliver at copy keep) picks).reply (deliver-stops p at copy keep (slice_get p.state.flight at) (copy_of p.state.leader.copies copy) all refl)
stops-truly p _ picks all = tt
