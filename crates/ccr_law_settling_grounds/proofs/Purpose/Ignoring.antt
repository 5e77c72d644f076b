-- A message is ignored exactly where it goes to a follower and answers nothing that it waits for.
use Rattle.std.specs.Prelude.{not, ◌&&◌, ◌||◌, ◌==◌, nat_lt, cond, filter, slice_get, remove, is_some, IfSome}
use Rattle.std.specs.Option.{option_and_then}
use Rattle.std.specs.Str.{bytes_eq}
use Rattle.std.specs.List.{list_any, find}
use Rattle.std.proofs.lemmas.Slice.Eq.{bytes_eq-Decides}
use Rattle.std.proofs.Common.{◌≡◌, ℕ, ◌+◌, Bool, true, false, if◌then◌else◌, Option, Some, None, List, [], ◌∷◌, map, refl, sym, ◌∙◌, ap, subst}
use Rattle.ccr_wire.specs.Message.{Frame, kind_of_content}
use Rattle.ccr_wire.specs.declared.content.Content.{Content}
use Rattle.ccr_wire.specs.declared.content.Content.TheVariants as contents
use Rattle.ccr_wire.specs.declared.kind.LeaseResult.TheVariants as results
use Rattle.ccr_lease.specs.declared.retention.Lease.{Lease}
use Rattle.ccr_journal.specs.declared.events.Event.TheVariants as events
use Rattle.ccr_journal.specs.declared.replies.Reply.{Reply}
use Rattle.ccr_journal.specs.declared.replies.Reply.TheVariants as replies
use Rattle.ccr_journal.specs.declared.replies.Heard.{Heard as Hearing}
use Rattle.ccr_journal.specs.declared.replies.Heard.TheVariants as heard
use Rattle.ccr_model.specs.Outcomes.{Outcome}
use Rattle.ccr_model.specs.Requests.{Sending, is_sent, quiet}
use Rattle.ccr_model.specs.Tasks.{Task, Read, read_sent}
use Rattle.ccr_model.specs.Restores.{Restore, Stage, leasing, opening, fetching, Asked, Fetch, ChunkAsked, answers, ask_sent, if_sent, sent_requests, is_complete, hear_leasing, hear_opening, hear_asked, opens_other, restore_lost, opened, chunk_came}
use Rattle.ccr_model.specs.Copies.{Copy, copy_of}
use Rattle.ccr_model.specs.Leaders.{Leader, Poll, KeptRequest, Session}
use Rattle.ccr_model.specs.LeaderRows.{answering_kept}
use Rattle.ccr_model.specs.LeaderFrames.{has_to_wait, with_new_lease, read_row, answer_or_keep, lease_add_row, lease_renew_row, lease_remove_row, session_open_row, chunk_row, receive_row, leader_receive}
use Rattle.ccr_model.specs.Followers.{Follower, Work, restoring, replicating, uuid_of}
use Rattle.ccr_model.specs.FollowerRows.{restore_done, restore_heard, restore_ended, task_heard, work_hears, follower_receive_row}
use Rattle.ccr_model.specs.World.{State, goes_to_leader, follower_from, follower_of, at_leader, for_follower, at_named_follower, taken_by_receiver, deliver_row}
use Rattle.ccr_model.specs.FrameFacts.{named_follower}
use Rattle.ccr_model.specs.Headline.{awaits_in, awaits, is_ignored, IgnoresRightly}
use Rattle.ccr_law_base.proofs.Lists.{All-at, some_equal}
use Rattle.ccr_law_base.proofs.Tests.{same_turned, other_turned, and_false}
use Rattle.ccr_law_base.proofs.Cases.{on_if}
use Rattle.ccr_law_leases.proofs.Notes.{same_bytes}
use Rattle.ccr_law_settling_grounds.specs.Purposes.{for_lease, for_session, for_part, for_read, about, awaited_in, awaited, Agree, HasPurposes, PurposesIgnore}

-- the reply says that a message is ignored exactly where this is true
abbrev Tells : Bool → Reply → Type 0
Tells ignores (replies.Heard what) = is_ignored what ≡ ignores
Tells ignores _ = Unit {0}

-- ---- a bootstrap

restoring_done : (s : Follower) (done : Sending Restore) → Tells false (restore_done s done).reply
restoring_done s done = by_stage done.next.stage
  where
    by_stage : (stage : Stage) → Tells false (restore_done s (record done { next = record done.next { stage = stage } })).reply
    by_stage (leasing a) = refl
    by_stage (opening a) = refl
    by_stage (fetching f) = on_if (λ (o : Outcome Follower). Tells false o.reply) (is_complete done.next.chunk_size f) _ _ (λ all. refl) (λ more. refl)

leasing_hears : (s : Follower) (r : Restore) (request : ℕ) (content : Content) (waits : Bool) → goes_to_leader (kind_of_content content) ≡ false
    → Agree (if waits then Some for_lease else None) (about content) → Tells (not waits) (restore_heard s (if waits then hear_leasing r s.now request content else None)).reply
leasing_hears s r request content false goes agree = refl
leasing_hears s r request (contents.LeaseAdded number) true goes agree = refl
leasing_hears s r request (contents.LeaseAnswer results.Exists number) true goes agree = refl
leasing_hears s r request (contents.NotReady copy) true goes agree = restoring_done s (quiet (restore_lost r s.now request))
leasing_hears s r request (contents.LeaseAnswer outcome number) true goes agree = absurd cc
leasing_hears s r request _ true goes agree = absurd cc

opening_hears : (s : Follower) (r : Restore) (request : ℕ) (content : Content) (waits : Bool) → goes_to_leader (kind_of_content content) ≡ false
    → Agree (if waits then Some for_session else None) (about content)
    → Tells (not waits) (if waits && opens_other r.history content then restore_ended s r else restore_heard s (if waits then hear_opening r s.now request content else None)).reply
opening_hears s r request content false goes agree = refl
opening_hears s r request (contents.SessionOpened session history count sizes) true goes agree =
    on_if (λ (o : Outcome Follower). Tells false o.reply) (not (bytes_eq history r.history)) _ _ (λ other. refl) (λ same. restoring_done s (opened r session history count sizes))
opening_hears s r request (contents.NotReady copy) true goes agree = restoring_done s (quiet (restore_lost r s.now request))
opening_hears s r request (contents.LeaseAnswer results.Exists number) true goes agree = absurd cc
opening_hears s r request (contents.LeaseAnswer outcome number) true goes agree = absurd cc
opening_hears s r request _ true goes agree = absurd cc

fetching_hears : (s : Follower) (r : Restore) (f : Fetch) (content : Content) (found : Option ChunkAsked) → goes_to_leader (kind_of_content content) ≡ false
    → Agree (if is_some found then Some for_part else None) (about content) → Tells (not (is_some found)) (restore_heard s (hear_asked r f content found)).reply
fetching_hears s r f content None goes agree = refl
fetching_hears s r f (contents.ChunkReply session file offset bytes) (Some a) goes agree = restoring_done s (chunk_came r f a bytes)
fetching_hears s r f (contents.SessionGone session) (Some a) goes agree = refl
fetching_hears s r f (contents.LeaseAnswer results.Exists number) (Some a) goes agree = absurd cc
fetching_hears s r f (contents.LeaseAnswer outcome number) (Some a) goes agree = absurd cc
fetching_hears s r f _ (Some a) goes agree = absurd cc

-- ---- what is waited for

turned : (a b : ℕ) → (a == b) ≡ (b == a)
turned a b = on_if (λ (c : Bool). (a == b) ≡ c) (b == a) true false (λ is. same_turned b a is) (λ isnt. other_turned b a isnt) ∙ whole (b == a)
  where
    whole : (c : Bool) → (if c then true else false) ≡ c
    whole true = refl
    whole false = refl

asked_any : (a : Asked) (request : ℕ) → list_any (λ n. n == request) (if_sent a) ≡ ((request == a.request) && is_sent a.progress)
asked_any a request = by_sent (is_sent a.progress)
  where
    alike : (x y : Bool) → x ≡ y → (x || false) ≡ (y && true)
    alike true true same = refl
    alike false false same = refl
    alike true false same = cc
    alike false true same = cc

    by_sent : (sent : Bool) → list_any (λ n. n == request) (if sent then a.request ∷ [] else []) ≡ ((request == a.request) && sent)
    by_sent true = alike (a.request == request) (request == a.request) (turned a.request request)
    by_sent false = sym (and_false (request == a.request))

parts_any : (request : ℕ) (asks : List ChunkAsked)
    → list_any (λ n. n == request) (map {A = ChunkAsked} {B = ℕ} (λ a. a.request) (filter (λ a. is_sent a.progress) asks)) ≡ is_some (find (λ a. (a.request == request) && is_sent a.progress) asks)
parts_any request [] = refl
parts_any request (a ∷ asks) = by_sent (parts_any request asks) (is_sent a.progress) (a.request == request) refl
  where
    rest : List ℕ
    rest = map {A = ChunkAsked} {B = ℕ} (λ a. a.request) (filter (λ a. is_sent a.progress) asks)

    by_sent : list_any (λ n. n == request) rest ≡ is_some (find (λ a. (a.request == request) && is_sent a.progress) asks) → (sent same : Bool) → (a.request == request) ≡ same
        → list_any (λ n. n == request) (map {A = ChunkAsked} {B = ℕ} (λ a. a.request) (cond sent (a ∷ filter (λ a. is_sent a.progress) asks) (filter (λ a. is_sent a.progress) asks)))
        ≡ is_some (cond (same && sent) (Some a) (find (λ a. (a.request == request) && is_sent a.progress) asks))
    by_sent others true true is = ap (λ (b : Bool). b || list_any (λ n. n == request) rest) is
    by_sent others true false is = ap (λ (b : Bool). b || list_any (λ n. n == request) rest) is ∙ others
    by_sent others false true is = others
    by_sent others false false is = others

-- ---- a follower

by_stage : (s : Follower) (r : Restore) (m : Frame) (stage : Stage) → goes_to_leader (kind_of_content m.content) ≡ false → Agree (awaited_in stage m.request) (about m.content)
    → Tells (not (list_any (λ n. n == m.request) (sent_requests stage))) (work_hears (record s { work = restoring (record r { stage = stage }) }) m).reply
by_stage s r m (leasing a) goes agree =
    subst (λ (b : Bool). Tells (not b) (work_hears (record s { work = restoring (record r { stage = leasing a }) }) m).reply) (sym (asked_any a m.request))
    (leasing_hears (record s { work = restoring (record r { stage = leasing a }) }) (record r { stage = leasing a }) m.request m.content (answers m a) goes agree)
by_stage s r m (opening a) goes agree =
    subst (λ (b : Bool). Tells (not b) (work_hears (record s { work = restoring (record r { stage = opening a }) }) m).reply) (sym (asked_any a m.request))
    (opening_hears (record s { work = restoring (record r { stage = opening a }) }) (record r { stage = opening a }) m.request m.content (answers m a) goes agree)
by_stage s r m (fetching f) goes agree =
    subst (λ (b : Bool). Tells (not b) (work_hears (record s { work = restoring (record r { stage = fetching f }) }) m).reply) (sym (parts_any m.request f.asks))
    (fetching_hears (record s { work = restoring (record r { stage = fetching f }) }) (record r { stage = fetching f }) f m.content (ask_sent f m.request) goes agree)

task_hears : (s : Follower) (t : Task) (content : Content) (found : Option Read) → goes_to_leader (kind_of_content content) ≡ false
    → Agree (if is_some found then Some for_read else None) (about content) → Tells (not (is_some found)) (task_heard s t content found).reply
task_hears s t content None goes agree = refl
task_hears s t (contents.ReadReply from global ops) (Some r) goes agree = refl
task_hears s t (contents.ReadMissing from floor) (Some r) goes agree = refl
task_hears s t (contents.ReadHistory history) (Some r) goes agree = refl
task_hears s t (contents.LeaseAnswer results.Exists number) (Some r) goes agree = absurd cc
task_hears s t (contents.LeaseAnswer outcome number) (Some r) goes agree = absurd cc
task_hears s t _ (Some r) goes agree = absurd cc

by_work : (s : Follower) (m : Frame) (work : Work) → goes_to_leader (kind_of_content m.content) ≡ false → Agree (awaited work m.request) (about m.content)
    → Tells (not (awaits_in m.request work)) (work_hears (record s { work = work }) m).reply
by_work s m (restoring r) goes agree = by_stage s r m r.stage goes agree
by_work s m (replicating t) goes agree = task_hears (record s { work = replicating t }) t m.content (read_sent t m.request) goes agree

follower_hears : (s : Follower) (m : Frame) → goes_to_leader (kind_of_content m.content) ≡ false → Agree (awaited s.work m.request) (about m.content)
    → Tells (not (awaits m.request s)) (follower_receive_row s m).reply
unfolding follower_receive_row
follower_hears s m goes agree = either (list_any (λ n. n == m.request) s.lease_requests) (awaits_in m.request s.work) _ _ refl (by_work s m s.work goes agree)
  where
    either : (upkeep other : Bool) (first rest : Outcome Follower) → Tells false first.reply → Tells (not other) rest.reply → Tells (not (upkeep || other)) (if upkeep then first else rest).reply
    either true other first rest ended heard = ended
    either false other first rest ended heard = heard

-- ---- the leader

abbrev IsTaken : Outcome Leader → Type 0
IsTaken o = Tells false o.reply

reading_taken : (s : Leader) (p : Poll) (copy : ℕ) (found : Option Copy) → IsTaken (read_row s p copy found)
unfolding read_row
reading_taken s p copy None = tt
reading_taken s p copy (Some c) =
    on_if IsTaken (has_to_wait s p c) _ _ (λ waits. refl)
    (λ now. on_if IsTaken (not (bytes_eq p.history s.history)) _ _ (λ other. refl)
    (λ same. on_if IsTaken (nat_lt p.from c.floor) _ _ (λ low. refl)
    (λ high. on_if (λ (what : Hearing). is_ignored what ≡ false) (nat_lt p.from c.global) heard.Done heard.Empty (λ some. refl) (λ none. refl))))

kept_taken : (s : Leader) (k : KeptRequest) (lacking : Option ℕ) → IsTaken (answer_or_keep s k lacking)
kept_taken s k None = refl
kept_taken s k (Some copy) = refl

adding_taken : (s : Leader) (follower : List ℕ) (request : ℕ) (id : List ℕ) (waits : Option ℕ) → IsTaken (lease_add_row s follower request id waits)
unfolding lease_add_row
adding_taken s follower request id (Some copy) = refl
adding_taken s follower request id None = kept_taken (with_new_lease s id) _ _

renewing_taken : (s : Leader) (follower : List ℕ) (request : ℕ) (id : List ℕ) (number : ℕ) (found : Option Lease) → IsTaken (lease_renew_row s follower request id number found)
unfolding lease_renew_row
renewing_taken s follower request id number None = refl
renewing_taken s follower request id number (Some kept) = on_if IsTaken (nat_lt number kept.number) _ _ (λ low. refl) (λ high. refl)

removing_taken : (s : Leader) (follower : List ℕ) (request : ℕ) (id : List ℕ) (found : Option Lease) → IsTaken (lease_remove_row s follower request id found)
unfolding lease_remove_row
removing_taken s follower request id None = refl
removing_taken s follower request id (Some kept) = refl

opening_taken : (s : Leader) (follower : List ℕ) (request : ℕ) (waits : Option ℕ) → IsTaken (session_open_row s follower request waits)
unfolding session_open_row
opening_taken s follower request (Some copy) = refl
opening_taken s follower request None = refl

part_taken : (s : Leader) (follower : List ℕ) (request session file offset size : ℕ) (found : Option Session) → IsTaken (chunk_row s follower request session file offset size found)
unfolding chunk_row
part_taken s follower request session file offset size None = refl
part_taken s follower request session file offset size (Some x) = refl

hearing_taken : (s : Leader) (copy : ℕ) (follower : List ℕ) (request : ℕ) (content : Content) → goes_to_leader (kind_of_content content) ≡ true
    → IsTaken (receive_row s copy (record { follower = follower; request = request; content = content }))
hearing_taken s copy follower request (contents.ReadRequest history from max_ops max_bytes timeout) goes = reading_taken s _ copy _
hearing_taken s copy follower request (contents.LeaseAdd id) goes = adding_taken s follower request id _
hearing_taken s copy follower request (contents.LeaseRenew id number) goes = renewing_taken s follower request id number _
hearing_taken s copy follower request (contents.LeaseRemove id) goes = removing_taken s follower request id _
hearing_taken s copy follower request contents.SessionOpen goes = opening_taken s follower request _
hearing_taken s copy follower request (contents.ChunkRequest session file offset size) goes = part_taken s follower request session file offset size _
hearing_taken s copy follower request _ goes = absurd cc

-- what was kept is answered besides, which changes no reply
same_reply : (reply : Reply) (o : Outcome Leader) → (answering_kept reply o).reply ≡ o.reply
same_reply (replies.Refused why) o = refl
same_reply _ o = refl

leader_hears : (s : Leader) (copy : ℕ) (m : Frame) → goes_to_leader (kind_of_content m.content) ≡ true → IsTaken (leader_receive s copy m)
leader_hears s copy m goes =
    subst (Tells false) (sym (same_reply (receive_row s copy m).reply (receive_row s copy m))) (hearing_taken s copy m.follower m.request m.content goes)

-- ---- a delivery

-- what holds of a message that names a follower
abbrev Agrees : State → Frame → Type 0
Agrees s m = (own : Follower) → named_follower s.followers m.follower ≡ Some own → Agree (awaited own.work m.request) (about m.content)

-- the reply is right for the follower that is named
abbrev IsRight : State → Frame → Reply → Type 0
IsRight s m reply =
    (own : Follower) → named_follower s.followers m.follower ≡ Some own → Tells (not (goes_to_leader (kind_of_content m.content)) && not (awaits m.request own)) reply

follower_right : (s : State) (m : Frame) (own : Follower) (found : Option Follower) (f : ℕ) → found ≡ Some own → goes_to_leader (kind_of_content m.content) ≡ false
    → Agree (awaited own.work m.request) (about m.content) → Tells (not (awaits m.request own)) (for_follower s f (λ follower. follower_receive_row follower m) found).reply
follower_right s m own None f is goes agree = absurd cc
follower_right s m own (Some x) f is goes agree =
    subst (λ (y : Follower). Tells (not (awaits m.request own)) (follower_receive_row y m).reply) (sym (some_equal x own is)) (follower_hears own m goes agree)

named_right : (s : State) (m : Frame) (own : Follower) (named : Option ℕ) → option_and_then (slice_get s.followers) named ≡ Some own → goes_to_leader (kind_of_content m.content) ≡ false
    → Agree (awaited own.work m.request) (about m.content) → Tells (not (awaits m.request own)) (at_named_follower s m named).reply
named_right s m own None is goes agree = absurd cc
named_right s m own (Some f) is goes agree = follower_right s m own (slice_get s.followers f) f is goes agree

receiver_right : (s : State) (copy : ℕ) (m : Frame) → Agrees s m → IsRight s m (taken_by_receiver s copy m).reply
receiver_right s copy m agrees own named = by_receiver (goes_to_leader (kind_of_content m.content)) refl
  where
    by_receiver : (goes : Bool) → goes_to_leader (kind_of_content m.content) ≡ goes
        → Tells (not goes && not (awaits m.request own)) (if goes then at_leader s (leader_receive s.leader copy m) else at_named_follower s m (follower_of s.followers m.follower)).reply
    by_receiver true goes = leader_hears s.leader copy m goes
    by_receiver false goes = named_right s m own (follower_of s.followers m.follower) named goes (agrees own named)

delivery_right : (s : State) (at copy : ℕ) (keep : Bool) (m : Frame) (c : Option Copy) → Agrees s m → IsRight s m (deliver_row s at copy keep (Some m) c).reply
unfolding deliver_row
delivery_right s at copy keep m None agrees = λ own named. tt
delivery_right s at copy keep m (Some c) agrees =
    on_if (λ (t : State). IsRight s m (taken_by_receiver t copy m).reply) keep s (record s { flight = remove s.flight at })
    (λ kept. receiver_right s copy m agrees) (λ left. receiver_right (record s { flight = remove s.flight at }) copy m agrees)

-- ---- whose the message is

from_name : (n : ℕ) (xs : List Follower) (uuid : List ℕ) (f : ℕ) → follower_from n xs uuid ≡ Some f → bytes_eq (uuid_of f) uuid ≡ true
from_name n [] uuid f found = absurd cc
from_name n (x ∷ xs) uuid f found = by_first (from_name (n + 1) xs uuid f) (bytes_eq (uuid_of n) uuid) refl found
  where
    by_first : (follower_from (n + 1) xs uuid ≡ Some f → bytes_eq (uuid_of f) uuid ≡ true) → (b : Bool) → bytes_eq (uuid_of n) uuid ≡ b → (if b then Some n else follower_from (n + 1) xs uuid) ≡ Some f → bytes_eq (uuid_of f) uuid ≡ true
    by_first later true is found = subst (λ (k : ℕ). bytes_eq (uuid_of k) uuid ≡ true) (some_equal n f found) is
    by_first later false isnt found = later found

named_agrees : (s : State) (m : Frame) (at : ℕ) → slice_get s.flight at ≡ Some m → HasPurposes s → Agrees s m
named_agrees s m at found purposes own named = by_number (follower_of s.followers m.follower) refl named
  where
    by_number : (o : Option ℕ) → follower_of s.followers m.follower ≡ o → option_and_then (slice_get s.followers) o ≡ Some own → Agree (awaited own.work m.request) (about m.content)
    by_number None is there = absurd cc
    by_number (Some f) is there =
        All-at (λ (x : Frame). bytes_eq x.follower (uuid_of f) ≡ true → Agree (awaited own.work x.request) (about x.content)) s.flight at m (purposes f own there).flight found
        (let same : uuid_of f ≡ m.follower = (bytes_eq-Decides (uuid_of f) m.follower).0 (from_name 0 s.followers m.follower f is) in
        subst (λ (uuid : List ℕ). bytes_eq m.follower uuid ≡ true) (sym same) (same_bytes m.follower))

-- ---- in the words of the theorem

in_words : (s : State) (at copy : ℕ) (keep : Bool) (reply : Reply) → ((m : Frame) → slice_get s.flight at ≡ Some m → IsRight s m reply) → IgnoresRightly s (events.Deliver at copy keep) reply
in_words s at copy keep (replies.Heard what) right = by_frame (slice_get s.flight at) refl
  where
    by_name : (m : Frame) → IsRight s m (replies.Heard what) → (own : Option Follower) → named_follower s.followers m.follower ≡ own
        → IfSome own (λ f. is_ignored what ≡ (not (goes_to_leader (kind_of_content m.content)) && not (awaits m.request f)))
    by_name m right None is = tt
    by_name m right (Some own) is = right own is

    by_frame : (found : Option Frame) → slice_get s.flight at ≡ found
        → IfSome found (λ m. IfSome (named_follower s.followers m.follower) (λ f. is_ignored what ≡ (not (goes_to_leader (kind_of_content m.content)) && not (awaits m.request f))))
    by_frame None is = tt
    by_frame (Some m) is = by_name m (right m is) (named_follower s.followers m.follower) refl
in_words s at copy keep _ right = tt

delivered : (s : State) (at copy : ℕ) (keep : Bool) (found : Option Frame) → slice_get s.flight at ≡ found → HasPurposes s
    → IgnoresRightly s (events.Deliver at copy keep) (deliver_row s at copy keep found (copy_of s.leader.copies copy)).reply
delivered s at copy keep None is purposes = in_words s at copy keep _ (λ m there. absurd (let e : None ≡ Some m = sym is ∙ there in cc))
delivered s at copy keep (Some m) is purposes =
    in_words s at copy keep _ (λ x there. subst (λ (y : Frame). IsRight s y (deliver_row s at copy keep (Some m) (copy_of s.leader.copies copy)).reply) (some_equal m x (sym is ∙ there))
    (delivery_right s at copy keep m (copy_of s.leader.copies copy) (named_agrees s m at is purposes)))

pub ignores-rightly : PurposesIgnore
ignores-rightly s (events.Deliver at copy keep) picks purposes = delivered s at copy keep (slice_get s.flight at) refl purposes
ignores-rightly s _ picks purposes = tt
