-- Every reply to a read that is sent has consecutive numbers.
use Rattle.std.specs.Prelude.{◌==◌, nat_lt, nat_le, not, ◌&&◌}
use Rattle.std.specs.List.{AllByRecursion, filter, range_with_len}
use Rattle.std.specs.Str.{bytes_eq}
use Rattle.std.proofs.Common.{◌≡◌, ℕ, ◌+◌, ◌-◌, zero, suc, if◌then◌else◌, ◌||◌, List, [], ◌∷◌, ◌++◌, length, take, map, Option, Some, None, is_some, refl, sym, subst}
use Rattle.std.proofs.lemmas.Bool.{eqb-true}
use Rattle.ccr_op.specs.Operation.{Operation}
use Rattle.ccr_lease.specs.declared.retention.Lease.{Lease}
use Rattle.ccr_lease.specs.Leases.{lease_of, renewed}
use Rattle.ccr_doc.specs.declared.sources.BadSource.{BadSource as SourceFault}
use Rattle.ccr_tracker.specs.Numbers.{has}
use Rattle.ccr_wire.specs.Message.{Frame, IsRun}
use Rattle.ccr_wire.specs.declared.kind.LeaseResult.TheVariants as results
use Rattle.ccr_wire.specs.declared.content.Content.{Content}
use Rattle.ccr_wire.specs.declared.content.Content.TheVariants as contents
use Rattle.ccr_journal.specs.declared.requests.WriteRequest.{WriteRequest}
use Rattle.ccr_journal.specs.declared.replies.Reply.{Reply}
use Rattle.ccr_journal.specs.declared.replies.Reply.TheVariants as replies
use Rattle.ccr_journal.specs.declared.replies.Heard.TheVariants as heard
use Rattle.ccr_journal.specs.declared.replies.Refusal.TheVariants.{Wait}
use Rattle.ccr_model.specs.Outcomes.{Outcome, guarded}
use Rattle.ccr_model.specs.Operations.{op_at, before_none, run_from, front_within, cut_of, is_empty, size_of}
use Rattle.ccr_model.specs.Stores.{held}
use Rattle.ccr_model.specs.Copies.{Copy, Replica, Copies, greatest_floor, copy_of, has_lease, lacks_lease, not_ready}
use Rattle.ccr_model.specs.CopyRows.{most_copies, replicate_row, ack_row, sync_row, fail_copy_row, add_copy_row, flush_row, merge_row, follower_promote_row}
use Rattle.ccr_model.specs.Leaders.{Leader, KeptRequest, Poll, Session, without_poll, session_of}
use Rattle.ccr_model.specs.LeaderRows.{conflicts, all_hold, lease_answer, with_due_answers, answering_kept, settling_requests, write_row, leader_promote_row, force_promote_row, resync_row, leader_fail_copy_row, leader_clock_row, expire_row, close_sessions_row, leader_status_row}
use Rattle.ccr_model.specs.LeaderFrames.{answer_to, read_ops, answer_read, has_to_wait, read_row, wake_row, with_new_lease, answer_or_keep, lease_add_row, lease_renew_row, lease_remove_row, session_open_row, chunk_row, receive_row, hears, leader_receive, with_leases, answer_lease}
use Rattle.ccr_law_base.proofs.Cases.{on_if, on_guards}
use Rattle.ccr_law_base.proofs.Lists.{All-append, All-find, All-weaker}
use Rattle.ccr_law_tasks.specs.GoodFollowers.{IsRunOf}

-- each reply to a read among these messages has consecutive numbers
abbrev pub AreRuns : List Frame → Type 0
AreRuns sent = AllByRecursion (λ (m : Frame). IsRunOf m.content) sent

-- the message is neither a reply to a read nor a request for operations
abbrev pub IsPlain : Content → Type 0
IsPlain (contents.ReadReply from global ops) = ⊥
IsPlain (contents.ReadRequest history from max_ops max_bytes timeout) = ⊥
IsPlain _ = Unit {0}

abbrev pub ArePlain : List Frame → Type 0
ArePlain sent = AllByRecursion (λ (m : Frame). IsPlain m.content) sent

-- a reply to a read brings what a copy has for these bounds
abbrev pub IsAnswer : ℕ → ℕ → Content → Type 0
IsAnswer max_ops max_bytes (contents.ReadReply from global ops) = (c : Copy) × (ops ≡ read_ops c from max_ops max_bytes)
IsAnswer max_ops max_bytes (contents.ReadRequest history from own_ops own_bytes timeout) = ⊥
IsAnswer max_ops max_bytes _ = Unit {0}

abbrev pub AreAnswers : ℕ → ℕ → List Frame → Type 0
AreAnswers max_ops max_bytes sent = AllByRecursion (λ (m : Frame). IsAnswer max_ops max_bytes m.content) sent

-- ---- runs

any-ops : (ops : List Operation) → AllByRecursion (λ (op : Operation). Unit {0}) ops
any-ops [] = tt
any-ops (op ∷ ops) = (tt, any-ops ops)

before-none : (ops : List Operation) (k from : ℕ) → IsRun from (before_none (map {A = ℕ} {B = Option Operation} (λ n. op_at n ops) (range_with_len from k)))
before-none ops zero from = tt
before-none ops (suc k) from =
    let rest : List (Option Operation) = map {A = ℕ} {B = Option Operation} (λ n. op_at n ops) (range_with_len (from + 1) k) in
    (elim (op_at from ops) as (λ (found : Option Operation). op_at from ops ≡ found → IsRun from (before_none (found ∷ rest))) [
      | None ↦ λ is. tt
      | Some op ↦ λ is.
          let at = All-find (λ (op : Operation). Unit {0}) (λ op. op.seq == from) ops op (any-ops ops) is in
          (eqb-true op.seq from at.1, before-none ops k (from + 1))
    ]) refl

front-run : (max_ops max_bytes from : ℕ) (ops : List Operation) → IsRun from ops → IsRun from (front_within max_ops max_bytes ops)
front-run max_ops max_bytes from [] run = tt
front-run max_ops max_bytes from (op ∷ ops) run =
    on_if (λ (front : List Operation). IsRun from front) ((max_ops == 0) || nat_lt max_bytes (size_of op)) [] (op ∷ front_within (max_ops - 1) (max_bytes - size_of op) ops)
    (λ is. tt) (λ isnt. (run.0, front-run (max_ops - 1) (max_bytes - size_of op) (from + 1) ops run.1))

one-run : (from : ℕ) (ops : List Operation) → IsRun from ops → IsRun from (take 1 ops)
one-run from [] run = tt
one-run from (op ∷ ops) run = (run.0, tt)

cut-run : (max_ops max_bytes from : ℕ) (ops : List Operation) → IsRun from ops → IsRun from (cut_of max_ops max_bytes ops)
cut-run max_ops max_bytes from ops run =
    let front : List Operation = front_within max_ops max_bytes ops in
    on_if (λ (cut : List Operation). IsRun from cut) (is_empty front) (take 1 ops) front (λ is. one-run from ops run) (λ isnt. front-run max_ops max_bytes from ops run)

pub read-run : (c : Copy) (from max_ops max_bytes : ℕ) → IsRun from (read_ops c from max_ops max_bytes)
read-run c from max_ops max_bytes = cut-run max_ops max_bytes from (run_from (held c.store) from c.global) (before-none (held c.store) (c.global - from) from)

-- what is no reply is an answer for any bounds, and an answer has consecutive numbers
no-reply : (max_ops max_bytes : ℕ) (content : Content) → IsPlain content → IsAnswer max_ops max_bytes content
no-reply max_ops max_bytes (contents.ReadReply from global ops) none = absurd none
no-reply max_ops max_bytes (contents.ReadRequest history from own_ops own_bytes timeout) none = absurd none
no-reply max_ops max_bytes _ none = tt

pub none-answer : (max_ops max_bytes : ℕ) (sent : List Frame) → ArePlain sent → AreAnswers max_ops max_bytes sent
none-answer max_ops max_bytes sent none =
    All-weaker (λ (m : Frame). IsPlain m.content) (λ (m : Frame). IsAnswer max_ops max_bytes m.content) (λ m is. no-reply max_ops max_bytes m.content is) sent none

run-of : (max_ops max_bytes : ℕ) (content : Content) → IsAnswer max_ops max_bytes content → IsRunOf content
run-of max_ops max_bytes (contents.ReadReply from global ops) is = subst (λ (xs : List Operation). IsRun from xs) (sym is.1) (read-run is.0 from max_ops max_bytes)
run-of max_ops max_bytes _ is = tt

pub answers-run : (max_ops max_bytes : ℕ) (sent : List Frame) → AreAnswers max_ops max_bytes sent → AreRuns sent
answers-run max_ops max_bytes sent are =
    All-weaker (λ (m : Frame). IsAnswer max_ops max_bytes m.content) (λ (m : Frame). IsRunOf m.content) (λ m is. run-of max_ops max_bytes m.content is) sent are

pub none-run : (sent : List Frame) → ArePlain sent → AreRuns sent
none-run sent none = answers-run 0 0 sent (none-answer 0 0 sent none)

-- ---- the leader's answers

read-sends : (s : Leader) (p : Poll) (c : Copy) (next : Leader) → AreAnswers p.max_ops p.max_bytes (answer_read s p c next).sent
read-sends s p c next =
    let reply : Outcome Leader = hears (if nat_lt p.from c.global then heard.Done else heard.Empty) next (answer_to p.follower p.request (contents.ReadReply p.from c.global (read_ops c p.from p.max_ops p.max_bytes))) in
    let missing : Outcome Leader = hears (heard.Missing p.from c.floor) next (answer_to p.follower p.request (contents.ReadMissing p.from c.floor)) in
    on_if (λ (o : Outcome Leader). AreAnswers p.max_ops p.max_bytes o.sent) (not (bytes_eq p.history s.history))
    (hears heard.History next (answer_to p.follower p.request (contents.ReadHistory s.history))) (if nat_lt p.from c.floor then missing else reply)
    (λ is. (tt, tt))
    (λ isnt. on_if (λ (o : Outcome Leader). AreAnswers p.max_ops p.max_bytes o.sent) (nat_lt p.from c.floor) missing reply (λ is. (tt, tt)) (λ above. ((c, refl), tt)))

read_row-sends : (s : Leader) (p : Poll) (copy : ℕ) (found : Option Copy) → AreAnswers p.max_ops p.max_bytes (read_row s p copy found).sent
unfolding read_row
read_row-sends s p copy None = tt
read_row-sends s p copy (Some c) =
    on_if (λ (o : Outcome Leader). AreAnswers p.max_ops p.max_bytes o.sent) (has_to_wait s p c) (hears heard.Parked (record s { polls = s.polls ++ p ∷ [] }) []) (answer_read s p c s)
    (λ is. tt) (λ isnt. read-sends s p c s)

-- what is sent answers the poll that was found, or nothing
abbrev pub AnswersPoll : Option Poll → List Frame → Type 0
AnswersPoll None sent = sent ≡ []
AnswersPoll (Some p) sent = AreAnswers p.max_ops p.max_bytes sent

pub wake-sends : (s : Leader) (follower : List ℕ) (at : ℕ) (found : Option Poll) (c : Option Copy) → AnswersPoll found (wake_row s follower at found c).sent
unfolding wake_row
wake-sends s follower at None c = refl
wake-sends s follower at (Some p) None = tt
wake-sends s follower at (Some p) (Some c) =
    on_guards (λ (o : Outcome Leader). AreAnswers p.max_ops p.max_bytes o.sent) s ((not (nat_lt p.from c.global) && nat_lt s.now (p.parked + p.timeout), Wait c.global) ∷ [])
    (answer_read s p c (record s { polls = without_poll follower at s.polls })) (λ why. tt) (λ none. read-sends s p c (record s { polls = without_poll follower at s.polls }))

answer-sends : (s : Copies) (kept : List KeptRequest) → ArePlain (map {A = KeptRequest} {B = Frame} (lease_answer s) kept)
answer-sends s [] = tt
answer-sends s (k ∷ kept) =
    (on_if IsPlain k.existed (contents.LeaseAnswer results.Exists (greatest_floor s)) (contents.LeaseAdded (greatest_floor s)) (λ is. tt) (λ isnt. tt), answer-sends s kept)

due-sends : (o : Outcome Leader) → ArePlain o.sent → ArePlain (with_due_answers o).sent
due-sends o runs = All-append (λ (m : Frame). IsPlain m.content) o.sent (map {A = KeptRequest} {B = Frame} (lease_answer o.next.copies) (filter (λ k. all_hold k.id o.next.copies) o.next.kept)) runs
    (answer-sends o.next.copies (filter (λ k. all_hold k.id o.next.copies) o.next.kept))

answering-sends : (reply : Reply) (o : Outcome Leader) → ArePlain o.sent → ArePlain (answering_kept reply o).sent
answering-sends (replies.Refused why) o runs = runs
answering-sends _ o runs = due-sends o runs

pub settling-sends : (o : Outcome Leader) → ArePlain o.sent → ArePlain (settling_requests o).sent
settling-sends o runs = answering-sends o.reply o runs

due-answers : (max_ops max_bytes : ℕ) (o : Outcome Leader) → AreAnswers max_ops max_bytes o.sent → AreAnswers max_ops max_bytes (with_due_answers o).sent
due-answers max_ops max_bytes o are =
    All-append (λ (m : Frame). IsAnswer max_ops max_bytes m.content) o.sent (map {A = KeptRequest} {B = Frame} (lease_answer o.next.copies) (filter (λ k. all_hold k.id o.next.copies) o.next.kept)) are
    (none-answer max_ops max_bytes _ (answer-sends o.next.copies (filter (λ k. all_hold k.id o.next.copies) o.next.kept)))

answering-answers : (max_ops max_bytes : ℕ) (reply : Reply) (o : Outcome Leader) → AreAnswers max_ops max_bytes o.sent → AreAnswers max_ops max_bytes (answering_kept reply o).sent
answering-answers max_ops max_bytes (replies.Refused why) o are = are
answering-answers max_ops max_bytes _ o are = due-answers max_ops max_bytes o are

keep-sends : (s : Leader) (k : KeptRequest) (lacking : Option ℕ) → ArePlain (answer_or_keep s k lacking).sent
keep-sends s k None =
    (on_if IsPlain k.existed (contents.LeaseAnswer results.Exists (greatest_floor s.copies)) (contents.LeaseAdded (greatest_floor s.copies)) (λ is. tt) (λ isnt. tt), tt)
keep-sends s k (Some copy) = tt

lease_add-sends : (s : Leader) (follower : List ℕ) (request : ℕ) (id : List ℕ) (lacking : Option ℕ) → ArePlain (lease_add_row s follower request id lacking).sent
unfolding lease_add_row
lease_add-sends s follower request id (Some copy) = (tt, tt)
lease_add-sends s follower request id None =
    let next : Leader = with_new_lease s id in
    keep-sends next (record { follower = follower; request = request; id = id; existed = has_lease id s.copies.primary }) (lacks_lease id next.copies)

lease_renew-sends : (s : Leader) (follower : List ℕ) (request : ℕ) (id : List ℕ) (number : ℕ) (found : Option Lease) → ArePlain (lease_renew_row s follower request id number found).sent
unfolding lease_renew_row
lease_renew-sends s follower request id number None = (tt, tt)
lease_renew-sends s follower request id number (Some kept) =
    let c = s.copies.primary.leases in
    on_if (λ (o : Outcome Leader). ArePlain o.sent) (nat_lt number kept.number) (answer_lease follower request s results.LowNumber kept.number)
    (answer_lease follower request (with_leases s (record c { version = c.version + 1; leases = renewed id number s.now c.leases })) results.Ok number)
    (λ is. (tt, tt)) (λ isnt. (tt, tt))

lease_remove-sends : (s : Leader) (follower : List ℕ) (request : ℕ) (id : List ℕ) (found : Option Lease) → ArePlain (lease_remove_row s follower request id found).sent
unfolding lease_remove_row
lease_remove-sends s follower request id None = (tt, tt)
lease_remove-sends s follower request id (Some kept) = (tt, tt)

session-sends : (s : Leader) (follower : List ℕ) (request : ℕ) (lacking : Option ℕ) → ArePlain (session_open_row s follower request lacking).sent
unfolding session_open_row
session-sends s follower request (Some copy) = (tt, tt)
session-sends s follower request None = (tt, tt)

chunk-sends : (s : Leader) (follower : List ℕ) (request session file offset size : ℕ) (found : Option Session) → ArePlain (chunk_row s follower request session file offset size found).sent
unfolding chunk_row
chunk-sends s follower request session file offset size None = (tt, tt)
chunk-sends s follower request session file offset size (Some own) = (tt, tt)

-- what is sent answers the message: a request for operations gets what there is for its bounds, and other messages get none
abbrev pub AnswersMessage : Content → List Frame → Type 0
AnswersMessage (contents.ReadRequest history from max_ops max_bytes timeout) sent = AreAnswers max_ops max_bytes sent
AnswersMessage _ sent = ArePlain sent

settled-answers : (content : Content) (o : Outcome Leader) → AnswersMessage content o.sent → AnswersMessage content (settling_requests o).sent
settled-answers (contents.ReadRequest history from max_ops max_bytes timeout) o are = answering-answers max_ops max_bytes o.reply o are
settled-answers _ o are = answering-sends o.reply o are

receive-sends : (s : Leader) (copy : ℕ) (follower : List ℕ) (request : ℕ) (content : Content)
    → AnswersMessage content (receive_row s copy (record { follower = follower; request = request; content = content })).sent
receive-sends s copy follower request (contents.ReadRequest history from max_ops max_bytes timeout) =
    read_row-sends s (record { follower = follower; request = request; copy = copy; history = history; from = from; max_ops = max_ops; max_bytes = max_bytes; timeout = timeout; parked = s.now })
    copy (copy_of s.copies copy)
receive-sends s copy follower request (contents.LeaseAdd id) = lease_add-sends s follower request id (not_ready s.copies)
receive-sends s copy follower request (contents.LeaseRenew id number) = lease_renew-sends s follower request id number (lease_of id s.copies.primary.leases.leases)
receive-sends s copy follower request (contents.LeaseRemove id) = lease_remove-sends s follower request id (lease_of id s.copies.primary.leases.leases)
receive-sends s copy follower request contents.SessionOpen = session-sends s follower request (not_ready s.copies)
receive-sends s copy follower request (contents.ChunkRequest session file offset size) = chunk-sends s follower request session file offset size (session_of s.sessions session)
receive-sends s copy follower request _ = tt

pub leader-receives : (s : Leader) (copy : ℕ) (m : Frame) → AnswersMessage m.content (leader_receive s copy m).sent
leader-receives s copy m = settled-answers m.content (receive_row s copy m) (receive-sends s copy m.follower m.request m.content)

message-run : (content : Content) (sent : List Frame) → AnswersMessage content sent → AreRuns sent
message-run (contents.ReadRequest history from max_ops max_bytes timeout) sent are = answers-run max_ops max_bytes sent are
message-run _ sent are = none-run sent are

pub received-run : (s : Leader) (copy : ℕ) (m : Frame) → AreRuns (leader_receive s copy m).sent
received-run s copy m = message-run m.content (leader_receive s copy m).sent (leader-receives s copy m)

poll-run : (found : Option Poll) (sent : List Frame) → AnswersPoll found sent → AreRuns sent
poll-run None sent none = subst AreRuns (sym none) tt
poll-run (Some p) sent are = answers-run p.max_ops p.max_bytes sent are

pub woken-run : (s : Leader) (follower : List ℕ) (at : ℕ) (found : Option Poll) (c : Option Copy) → AreRuns (wake_row s follower at found c).sent
woken-run s follower at found c = poll-run found (wake_row s follower at found c).sent (wake-sends s follower at found c)

-- ---- a copy's events send nothing

pub write-sends : (s : Copies) (request : WriteRequest) (fault : Option SourceFault) (found : Option Operation) → ArePlain (write_row s request fault found).sent
unfolding write_row guarded
write-sends s request (Some fault) found = tt
write-sends s request None found =
    on_if (λ (o : Outcome Copies). ArePlain o.sent) (conflicts request.expect found) _ _ (λ is. tt)
    (λ isnt. on_if (λ (o : Outcome Copies). ArePlain o.sent) (request.create && is_some found) _ _ (λ is. tt) (λ none. tt))

pub replicate-sends : (s : Copies) (copy seq : ℕ) (found : Option Replica) → ArePlain (replicate_row s copy seq found).sent
unfolding replicate_row guarded
replicate-sends s copy seq None = tt
replicate-sends s copy seq (Some r) =
    on_if (λ (o : Outcome Copies). ArePlain o.sent) (not r.resynced) _ _ (λ is. tt)
    (λ isnt. on_if (λ (o : Outcome Copies). ArePlain o.sent) (not (has s.primary.seen seq)) _ _ (λ is. tt) (λ none. tt))

pub ack-sends : (s : Copies) (copy : ℕ) (found : Option Replica) → ArePlain (ack_row s copy found).sent
unfolding ack_row guarded
ack-sends s copy None = tt
ack-sends s copy (Some r) = on_if (λ (o : Outcome Copies). ArePlain o.sent) (not r.resynced) _ _ (λ is. tt) (λ isnt. tt)

pub sync-sends : (s : Copies) (copy : ℕ) (found : Option Replica) → ArePlain (sync_row s copy found).sent
unfolding sync_row guarded
sync-sends s copy None = tt
sync-sends s copy (Some r) = on_if (λ (o : Outcome Copies). ArePlain o.sent) (not r.resynced) _ _ (λ is. tt) (λ isnt. tt)

pub fail_copy-sends : (s : Copies) (copy : ℕ) (found : Option Replica) → ArePlain (fail_copy_row s copy found).sent
unfolding fail_copy_row
fail_copy-sends s copy None = tt
fail_copy-sends s copy (Some r) = tt

pub add_copy-sends : (s : Copies) → ArePlain (add_copy_row s).sent
unfolding add_copy_row guarded
add_copy-sends s = on_if (λ (o : Outcome Copies). ArePlain o.sent) (nat_le most_copies (length s.replicas + 1)) _ _ (λ is. tt) (λ isnt. tt)

pub flush-sends : (s : Copies) (copy : ℕ) (found : Option Copy) → ArePlain (flush_row s copy found).sent
unfolding flush_row
flush-sends s copy None = tt
flush-sends s copy (Some c) = tt

pub merge-sends : (s : Copies) (retention copy : ℕ) (picks : List ℕ) (found : Option Copy) → ArePlain (merge_row s retention copy picks found).sent
unfolding merge_row
merge-sends s retention copy picks None = tt
merge-sends s retention copy picks (Some c) = tt

pub follower_promote-sends : (s : Copies) (copy : ℕ) (found : Option Replica) → ArePlain (follower_promote_row s copy found).sent
unfolding follower_promote_row
follower_promote-sends s copy None = tt
follower_promote-sends s copy (Some r) = tt

pub resync-sends : (s : Copies) (copy : ℕ) (found : Option Replica) → ArePlain (resync_row s copy found).sent
unfolding resync_row
resync-sends s copy None = tt
resync-sends s copy (Some r) = on_if (λ (o : Outcome Copies). ArePlain o.sent) r.resynced _ _ (λ is. tt) (λ isnt. tt)

pub leader_promote-sends : (s : Leader) (copy : ℕ) (found : Option Replica) → ArePlain (leader_promote_row s copy found).sent
unfolding leader_promote_row
leader_promote-sends s copy None = tt
leader_promote-sends s copy (Some r) = tt

pub force_promote-sends : (s : Leader) (copy : ℕ) (found : Option Copy) → ArePlain (force_promote_row s copy found).sent
unfolding force_promote_row
force_promote-sends s copy None = tt
force_promote-sends s copy (Some c) = tt

pub leader_fail_copy-sends : (s : Leader) (copy : ℕ) (found : Option Replica) → ArePlain (leader_fail_copy_row s copy found).sent
unfolding leader_fail_copy_row
leader_fail_copy-sends s copy None = fail_copy-sends s.copies copy None
leader_fail_copy-sends s copy (Some r) = fail_copy-sends s.copies copy (Some r)

pub clock-sends : (s : Leader) (now : ℕ) → ArePlain (leader_clock_row s now).sent
unfolding leader_clock_row
clock-sends s now = tt

pub expire-sends : (s : Leader) → ArePlain (expire_row s).sent
unfolding expire_row
expire-sends s = tt

pub close-sends : (s : Leader) → ArePlain (close_sessions_row s).sent
unfolding close_sessions_row
close-sends s = tt

pub leader_status-sends : (s : Leader) → ArePlain (leader_status_row s).sent
unfolding leader_status_row
leader_status-sends s = tt
