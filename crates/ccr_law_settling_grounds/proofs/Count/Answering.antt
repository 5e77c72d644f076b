-- The leader answers no read with a count beyond what its copies know, a read of its own history alone with a count, and sends no other reply to
-- a read.
use Rattle.std.specs.Prelude.{nat_lt, not, slice_get}
use Rattle.std.specs.List.{AllByRecursion, filter}
use Rattle.std.specs.Str.{bytes_eq}
use Rattle.std.proofs.Common.{◌≡◌, ℕ, ◌≤◌, true, List, [], ◌∷◌, map, Option, Some, None, refl, subst}
use Rattle.std.proofs.lemmas.Bool.{not-false}
use Rattle.ccr_op.specs.Operation.{Operation}
use Rattle.ccr_lease.specs.declared.retention.Lease.{Lease}
use Rattle.ccr_lease.specs.Leases.{lease_of}
use Rattle.ccr_doc.specs.declared.sources.BadSource.{BadSource as SourceFault}
use Rattle.ccr_wire.specs.Message.{Frame}
use Rattle.ccr_wire.specs.declared.kind.LeaseResult.TheVariants as results
use Rattle.ccr_wire.specs.declared.content.Content.{Content}
use Rattle.ccr_wire.specs.declared.content.Content.TheVariants as contents
use Rattle.ccr_journal.specs.declared.requests.WriteRequest.{WriteRequest}
use Rattle.ccr_journal.specs.declared.replies.Reply.{Reply}
use Rattle.ccr_journal.specs.declared.replies.Reply.TheVariants as replies
use Rattle.ccr_model.specs.Outcomes.{Outcome}
use Rattle.ccr_model.specs.Copies.{Copy, Replica, Copies, greatest_floor, copy_of, has_lease, lacks_lease, not_ready}
use Rattle.ccr_model.specs.CopyRows.{replicate_row, ack_row, sync_row, fail_copy_row, add_copy_row, flush_row, merge_row, follower_promote_row}
use Rattle.ccr_model.specs.Leaders.{Leader, KeptRequest, Poll, Session, polls_of, session_of}
use Rattle.ccr_model.specs.LeaderRows.{all_hold, lease_answer, answering_kept, settling_requests, write_row, leader_promote_row, force_promote_row, resync_row, leader_fail_copy_row, leader_clock_row, expire_row, close_sessions_row, leader_status_row}
use Rattle.ccr_model.specs.LeaderFrames.{answer_read, has_to_wait, read_row, wake_row, with_new_lease, answer_or_keep, lease_add_row, lease_renew_row, lease_remove_row, session_open_row, chunk_row, receive_row, leader_receive, polled_copy, leader_wake}
use Rattle.ccr_law_base.proofs.Cases.{on_if, on_guards}
use Rattle.ccr_law_base.proofs.Lists.{All-at, All-filter, All-append}
use Rattle.ccr_law_settling_grounds.specs.KnownCounts.{TellsSo}
use Rattle.ccr_law_settling_grounds.proofs.Count.Within.{Sends, Tells}

-- none of the copies knows of more
abbrev pub KnowWithin : ℕ → Copies → Type 0
KnowWithin cut s = (copy : ℕ) (c : Copy) → copy_of s copy ≡ Some c → c.global ≤ cut

-- a follower of this UUID that asks in the leader's history may be told what its copies know
abbrev pub MayHear : (List ℕ → ℕ → Type 0) → Leader → List ℕ → List ℕ → Type 0
MayHear told s uuid history = bytes_eq history s.history ≡ true → (copy : ℕ) (c : Copy) → copy_of s.copies copy ≡ Some c → told uuid c.global

-- so it is where the message is a request for operations
abbrev pub AsksFairly : (List ℕ → ℕ → Type 0) → Leader → List ℕ → Content → Type 0
AsksFairly told s uuid (contents.ReadRequest history from max_ops max_bytes timeout) = MayHear told s uuid history
AsksFairly told s uuid _ = Unit {0}

-- ---- reads

answer_tells : (told : List ℕ → ℕ → Type 0) (s : Leader) (p : Poll) (c : Copy) (next : Leader) → (bytes_eq p.history s.history ≡ true → told p.follower c.global)
    → Sends (Tells told) (answer_read s p c next)
answer_tells told s p c next may =
    on_if (Sends (Tells told)) (not (bytes_eq p.history s.history)) _ _ (λ other. (tt, tt))
    (λ same. on_if (Sends (Tells told)) (nat_lt p.from c.floor) _ _ (λ below. (tt, tt)) (λ above. (may (not-false (bytes_eq p.history s.history) same), tt)))

read_tells : (told : List ℕ → ℕ → Type 0) (s : Leader) (p : Poll) (copy : ℕ) → MayHear told s p.follower p.history → (found : Option Copy) → copy_of s.copies copy ≡ found
    → Sends (Tells told) (read_row s p copy found)
unfolding read_row
read_tells told s p copy may None is = tt
read_tells told s p copy may (Some c) is =
    on_if (Sends (Tells told)) (has_to_wait s p c) _ _ (λ waits. tt) (λ answers. answer_tells told s p c s (λ own. may own copy c is))

wake_row_tells : (told : List ℕ → ℕ → Type 0) (s : Leader) (follower : List ℕ) (at : ℕ) (found : Option Poll) (c : Option Copy)
    → ((p : Poll) (own : Copy) → found ≡ Some p → c ≡ Some own → bytes_eq p.history s.history ≡ true → told p.follower own.global) → Sends (Tells told) (wake_row s follower at found c)
unfolding wake_row
wake_row_tells told s follower at None c may = tt
wake_row_tells told s follower at (Some p) None may = tt
wake_row_tells told s follower at (Some p) (Some c) may =
    on_guards (Sends (Tells told)) s _ _ (λ why. tt) (λ tests. answer_tells told s p c _ (may p c refl refl))

pub wake_tells : (told : List ℕ → ℕ → Type 0) (s : Leader) (follower : List ℕ) (at : ℕ) → AllByRecursion (λ (p : Poll). MayHear told s p.follower p.history) s.polls
    → Sends (Tells told) (leader_wake s follower at)
wake_tells told s follower at all =
    let found : Option Poll = slice_get (polls_of s.polls follower) at in
    wake_row_tells told s follower at found (polled_copy s.copies found) (λ p own is there same.
    let may : MayHear told s p.follower p.history = All-at (λ (x : Poll). MayHear told s x.follower x.history) (polls_of s.polls follower) at p
    (All-filter (λ (x : Poll). MayHear told s x.follower x.history) (λ x. bytes_eq x.follower follower) s.polls all) is in
    may same p.copy own (subst (λ (o : Option Poll). polled_copy s.copies o ≡ Some own) is there))

-- ---- kept requests

kept_tells : (told : List ℕ → ℕ → Type 0) (s : Copies) (kept : List KeptRequest) → AllByRecursion (Tells told) (map {A = KeptRequest} {B = Frame} (lease_answer s) kept)
kept_tells told s [] = tt
kept_tells told s (k ∷ kept) =
    (on_if (TellsSo (told k.follower)) k.existed (contents.LeaseAnswer results.Exists (greatest_floor s)) (contents.LeaseAdded (greatest_floor s)) (λ is. tt) (λ isnt. tt), kept_tells told s kept)

answering_tells : (told : List ℕ → ℕ → Type 0) (reply : Reply) (o : Outcome Leader) → Sends (Tells told) o → Sends (Tells told) (answering_kept reply o)
answering_tells told (replies.Refused why) o sends = sends
answering_tells told _ o sends = All-append (Tells told) o.sent _ sends (kept_tells told o.next.copies (filter (λ k. all_hold k.id o.next.copies) o.next.kept))

pub settling_tells : (told : List ℕ → ℕ → Type 0) (o : Outcome Leader) → Sends (Tells told) o → Sends (Tells told) (settling_requests o)
settling_tells told o sends = answering_tells told o.reply o sends

-- ---- other messages

lease_tells : (told : List ℕ → ℕ → Type 0) (s : Leader) (k : KeptRequest) (lacking : Option ℕ) → Sends (Tells told) (answer_or_keep s k lacking)
lease_tells told s k None =
    (on_if (TellsSo (told k.follower)) k.existed (contents.LeaseAnswer results.Exists (greatest_floor s.copies)) (contents.LeaseAdded (greatest_floor s.copies)) (λ is. tt) (λ isnt. tt), tt)
lease_tells told s k (Some copy) = tt

lease_add_tells : (told : List ℕ → ℕ → Type 0) (s : Leader) (follower : List ℕ) (request : ℕ) (id : List ℕ) (waits : Option ℕ) → Sends (Tells told) (lease_add_row s follower request id waits)
unfolding lease_add_row
lease_add_tells told s follower request id (Some copy) = (tt, tt)
lease_add_tells told s follower request id None =
    let next : Leader = with_new_lease s id in
    lease_tells told next (record { follower = follower; request = request; id = id; existed = has_lease id s.copies.primary }) (lacks_lease id next.copies)

lease_renew_tells : (told : List ℕ → ℕ → Type 0) (s : Leader) (follower : List ℕ) (request : ℕ) (id : List ℕ) (number : ℕ) (found : Option Lease)
    → Sends (Tells told) (lease_renew_row s follower request id number found)
unfolding lease_renew_row
lease_renew_tells told s follower request id number None = (tt, tt)
lease_renew_tells told s follower request id number (Some kept) = on_if (Sends (Tells told)) (nat_lt number kept.number) _ _ (λ is. (tt, tt)) (λ isnt. (tt, tt))

lease_remove_tells : (told : List ℕ → ℕ → Type 0) (s : Leader) (follower : List ℕ) (request : ℕ) (id : List ℕ) (found : Option Lease) → Sends (Tells told) (lease_remove_row s follower request id found)
unfolding lease_remove_row
lease_remove_tells told s follower request id None = (tt, tt)
lease_remove_tells told s follower request id (Some kept) = (tt, tt)

session_tells : (told : List ℕ → ℕ → Type 0) (s : Leader) (follower : List ℕ) (request : ℕ) (waits : Option ℕ) → Sends (Tells told) (session_open_row s follower request waits)
unfolding session_open_row
session_tells told s follower request (Some copy) = (tt, tt)
session_tells told s follower request None = (tt, tt)

chunk_tells : (told : List ℕ → ℕ → Type 0) (s : Leader) (follower : List ℕ) (request session file offset size : ℕ) (found : Option Session)
    → Sends (Tells told) (chunk_row s follower request session file offset size found)
unfolding chunk_row
chunk_tells told s follower request session file offset size None = (tt, tt)
chunk_tells told s follower request session file offset size (Some own) = (tt, tt)

content_tells : (told : List ℕ → ℕ → Type 0) (s : Leader) (copy : ℕ) (follower : List ℕ) (request : ℕ) (content : Content) → AsksFairly told s follower content
    → Sends (Tells told) (receive_row s copy (record { follower = follower; request = request; content = content }))
content_tells told s copy follower request (contents.ReadRequest history from max_ops max_bytes timeout) fair = read_tells told s _ copy fair (copy_of s.copies copy) refl
content_tells told s copy follower request (contents.LeaseAdd id) fair = lease_add_tells told s follower request id (not_ready s.copies)
content_tells told s copy follower request (contents.LeaseRenew id number) fair = lease_renew_tells told s follower request id number (lease_of id s.copies.primary.leases.leases)
content_tells told s copy follower request (contents.LeaseRemove id) fair = lease_remove_tells told s follower request id (lease_of id s.copies.primary.leases.leases)
content_tells told s copy follower request contents.SessionOpen fair = session_tells told s follower request (not_ready s.copies)
content_tells told s copy follower request (contents.ChunkRequest session file offset size) fair =
    chunk_tells told s follower request session file offset size (session_of s.sessions session)
content_tells told s copy follower request _ fair = tt

pub leader_receives_tells : (told : List ℕ → ℕ → Type 0) (s : Leader) (copy : ℕ) (m : Frame) → AsksFairly told s m.follower m.content → Sends (Tells told) (leader_receive s copy m)
leader_receives_tells told s copy m fair = settling_tells told (receive_row s copy m) (content_tells told s copy m.follower m.request m.content fair)

-- ---- the events about copies send nothing

pub write_sends : (P : Frame → Type 0) (s : Copies) (request : WriteRequest) (fault : Option SourceFault) (found : Option Operation) → Sends P (write_row s request fault found)
unfolding write_row
write_sends P s request (Some fault) found = tt
write_sends P s request None found = on_guards (Sends P) s _ _ (λ why. tt) (λ tests. tt)

pub replicate_sends : (P : Frame → Type 0) (s : Copies) (copy seq : ℕ) (found : Option Replica) → Sends P (replicate_row s copy seq found)
unfolding replicate_row
replicate_sends P s copy seq None = tt
replicate_sends P s copy seq (Some r) = on_guards (Sends P) s _ _ (λ why. tt) (λ tests. tt)

pub ack_sends : (P : Frame → Type 0) (s : Copies) (copy : ℕ) (found : Option Replica) → Sends P (ack_row s copy found)
unfolding ack_row
ack_sends P s copy None = tt
ack_sends P s copy (Some r) = on_guards (Sends P) s _ _ (λ why. tt) (λ tests. tt)

pub sync_sends : (P : Frame → Type 0) (s : Copies) (copy : ℕ) (found : Option Replica) → Sends P (sync_row s copy found)
unfolding sync_row
sync_sends P s copy None = tt
sync_sends P s copy (Some r) = on_guards (Sends P) s _ _ (λ why. tt) (λ tests. tt)

pub fail_copy_sends : (P : Frame → Type 0) (s : Copies) (copy : ℕ) (found : Option Replica) → Sends P (fail_copy_row s copy found)
unfolding fail_copy_row
fail_copy_sends P s copy None = tt
fail_copy_sends P s copy (Some r) = tt

pub add_copy_sends : (P : Frame → Type 0) (s : Copies) → Sends P (add_copy_row s)
unfolding add_copy_row
add_copy_sends P s = on_guards (Sends P) s _ _ (λ why. tt) (λ tests. tt)

pub flush_sends : (P : Frame → Type 0) (s : Copies) (copy : ℕ) (found : Option Copy) → Sends P (flush_row s copy found)
unfolding flush_row
flush_sends P s copy None = tt
flush_sends P s copy (Some c) = tt

pub merge_sends : (P : Frame → Type 0) (s : Copies) (retention copy : ℕ) (picks : List ℕ) (found : Option Copy) → Sends P (merge_row s retention copy picks found)
unfolding merge_row
merge_sends P s retention copy picks None = tt
merge_sends P s retention copy picks (Some c) = tt

pub promote_sends : (P : Frame → Type 0) (s : Copies) (copy : ℕ) (found : Option Replica) → Sends P (follower_promote_row s copy found)
unfolding follower_promote_row
promote_sends P s copy None = tt
promote_sends P s copy (Some r) = tt

pub resync_sends : (P : Frame → Type 0) (s : Copies) (copy : ℕ) (found : Option Replica) → Sends P (resync_row s copy found)
unfolding resync_row
resync_sends P s copy None = tt
resync_sends P s copy (Some r) = on_if (Sends P) r.resynced _ _ (λ already. tt) (λ not_yet. tt)

pub leader_promote_sends : (P : Frame → Type 0) (s : Leader) (copy : ℕ) (found : Option Replica) → Sends P (leader_promote_row s copy found)
unfolding leader_promote_row
leader_promote_sends P s copy None = tt
leader_promote_sends P s copy (Some r) = tt

pub force_promote_sends : (P : Frame → Type 0) (s : Leader) (copy : ℕ) (found : Option Copy) → Sends P (force_promote_row s copy found)
unfolding force_promote_row
force_promote_sends P s copy None = tt
force_promote_sends P s copy (Some c) = tt

pub leader_fail_copy_sends : (P : Frame → Type 0) (s : Leader) (copy : ℕ) (found : Option Replica) → Sends P (leader_fail_copy_row s copy found)
unfolding leader_fail_copy_row
leader_fail_copy_sends P s copy None = fail_copy_sends P s.copies copy None
leader_fail_copy_sends P s copy (Some r) = fail_copy_sends P s.copies copy (Some r)

pub leader_clock_sends : (P : Frame → Type 0) (s : Leader) (now : ℕ) → Sends P (leader_clock_row s now)
unfolding leader_clock_row
leader_clock_sends P s now = tt

pub expire_sends : (P : Frame → Type 0) (s : Leader) → Sends P (expire_row s)
unfolding expire_row
expire_sends P s = tt

pub close_sessions_sends : (P : Frame → Type 0) (s : Leader) → Sends P (close_sessions_row s)
unfolding close_sessions_row
close_sessions_sends P s = tt

pub leader_status_sends : (P : Frame → Type 0) (s : Leader) → Sends P (leader_status_row s)
unfolding leader_status_row
leader_status_sends P s = tt
