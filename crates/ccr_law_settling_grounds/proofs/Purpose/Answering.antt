-- What the leader answers is about what was asked, and so are the polls and the requests that it keeps.
use Rattle.std.specs.Prelude.{filter, slice_get, not, nat_lt, ◌==◌}
use Rattle.std.specs.Str.{bytes_eq}
use Rattle.std.specs.List.{AllByRecursion}
use Rattle.std.proofs.Common.{◌≡◌, ℕ, Option, Some, None, List, [], ◌∷◌, ◌++◌, map, sym, subst}
use Rattle.ccr_wire.specs.Message.{Frame}
use Rattle.ccr_wire.specs.declared.content.Content.{Content}
use Rattle.ccr_wire.specs.declared.content.Content.TheVariants as contents
use Rattle.ccr_wire.specs.declared.kind.LeaseResult.TheVariants as results
use Rattle.ccr_lease.specs.declared.retention.Lease.{Lease}
use Rattle.ccr_journal.specs.declared.replies.Reply.{Reply}
use Rattle.ccr_journal.specs.declared.replies.Reply.TheVariants as replies
use Rattle.ccr_model.specs.Outcomes.{Outcome, within}
use Rattle.ccr_model.specs.Copies.{Copy, Replica, Copies, copy_of, greatest_floor, has_lease, lacks_lease}
use Rattle.ccr_model.specs.CopyRows.{fail_copy_row}
use Rattle.ccr_model.specs.Leaders.{Leader, Session, KeptRequest, Poll, polls_of, without_poll, session_of}
use Rattle.ccr_model.specs.LeaderRows.{with_copies, all_hold, lease_answer, answering_kept, leader_promote_row, force_promote_row, leader_fail_copy_row}
use Rattle.ccr_model.specs.LeaderFrames.{answer_read, has_to_wait, read_row, wake_row, with_new_lease, answer_or_keep, lease_add_row, lease_renew_row, lease_remove_row, session_open_row, chunk_row, receive_row, polled_copy}
use Rattle.ccr_model.specs.Followers.{Work}
use Rattle.ccr_law_messages.specs.TrueFrames.{frame_of_poll, frame_of_kept}
use Rattle.ccr_law_messages.proofs.Quiet.{IsSilent, fail_copy-silent}
use Rattle.ccr_law_settling_grounds.specs.Purposes.{Purpose, for_beginning, about, awaited, Agree}
use Rattle.ccr_law_settling_grounds.proofs.Purpose.Fitting.{FitsOwn, lease_begins, session_begins}
use Rattle.ccr_law_base.proofs.Lists.{All-weaker, All-append, All-push, All-filter, All-map, All-at, All-without_poll}
use Rattle.ccr_law_base.proofs.Cases.{on_if, on_guards}

-- the messages, the polls and the kept requests under this name fit the work
pub record AllFit (uuid : List ℕ) (w : Work) (sent : List Frame) (polls : List Poll) (kept : List KeptRequest) : Type 0 where
  pub sent_fit : AllByRecursion (FitsOwn uuid w) sent
  pub polls_fit : AllByRecursion (λ (p : Poll). FitsOwn uuid w (frame_of_poll p)) polls
  pub kept_fit : AllByRecursion (λ (k : KeptRequest). FitsOwn uuid w (frame_of_kept k)) kept

abbrev pub RowFits : List ℕ → Work → Outcome Leader → Type 0
RowFits uuid w o = AllFit uuid w o.sent o.next.polls o.next.kept

-- what a leader holds that sends nothing
abbrev pub HoldsFit : List ℕ → Work → Leader → Type 0
HoldsFit uuid w l = AllFit uuid w [] l.polls l.kept

-- it sends one message more
sends : (uuid : List ℕ) (w : Work) (l : Leader) (m : Frame) → FitsOwn uuid w m → HoldsFit uuid w l → AllFit uuid w (m ∷ []) l.polls l.kept
sends uuid w l m fits holds = record { sent_fit = (fits, tt); polls_fit = holds.polls_fit; kept_fit = holds.kept_fit }

-- the answer that the leader isn't ready is about what was asked
not_ready_fits : (uuid : List ℕ) (w : Work) (m : Frame) (copy : ℕ) → ((waited : Option Purpose) → Agree waited (about m.content) → Agree waited (Some for_beginning)) → FitsOwn uuid w m → FitsOwn uuid w (record m { content = contents.NotReady copy })
not_ready_fits uuid w m copy either fits = λ own. record { drawn = (fits own).drawn; agrees = either (awaited w m.request) (fits own).agrees }

-- the answer to a request for a lease
lease_fits : (uuid : List ℕ) (w : Work) (copies : Copies) (k : KeptRequest) → FitsOwn uuid w (frame_of_kept k) → FitsOwn uuid w (lease_answer copies k)
lease_fits uuid w copies k fits =
    on_if (λ (content : Content). FitsOwn uuid w (record { follower = k.follower; request = k.request; content = content })) k.existed
    (contents.LeaseAnswer results.Exists (greatest_floor copies)) (contents.LeaseAdded (greatest_floor copies))
    (λ there. fits) (λ isnt. fits)

-- only the copies change, and nothing is sent
pub copies_fit : (uuid : List ℕ) (w : Work) (l : Leader) (o : Outcome Copies) → IsSilent o → HoldsFit uuid w l → RowFits uuid w (within (with_copies l) o)
copies_fit uuid w l o silent holds = subst (λ (sent : List Frame). AllFit uuid w sent l.polls l.kept) (sym silent) holds

-- ---- reads

answer_read_fits : (uuid : List ℕ) (w : Work) (l : Leader) (p : Poll) (c : Copy) (next : Leader) → FitsOwn uuid w (frame_of_poll p) → HoldsFit uuid w next → RowFits uuid w (answer_read l p c next)
answer_read_fits uuid w l p c next fits holds =
    on_if (RowFits uuid w) (not (bytes_eq p.history l.history)) _ _ (λ other. sends uuid w next _ fits holds)
    (λ same. on_if (RowFits uuid w) (nat_lt p.from c.floor) _ _ (λ low. sends uuid w next _ fits holds) (λ high. sends uuid w next _ fits holds))

read_fits : (uuid : List ℕ) (w : Work) (l : Leader) (p : Poll) (copy : ℕ) (found : Option Copy) → FitsOwn uuid w (frame_of_poll p) → HoldsFit uuid w l → RowFits uuid w (read_row l p copy found)
unfolding read_row
read_fits uuid w l p copy None fits holds = holds
read_fits uuid w l p copy (Some c) fits holds =
    on_if (RowFits uuid w) (has_to_wait l p c) _ _
    (λ waits. record { sent_fit = tt; polls_fit = All-push (λ (x : Poll). FitsOwn uuid w (frame_of_poll x)) l.polls p holds.polls_fit fits; kept_fit = holds.kept_fit })
    (λ now. answer_read_fits uuid w l p c l fits holds)

wake_found_fits : (uuid : List ℕ) (w : Work) (l : Leader) (follower : List ℕ) (at : ℕ) (p : Poll) (found : Option Copy) → FitsOwn uuid w (frame_of_poll p) → HoldsFit uuid w l
    → RowFits uuid w (wake_row l follower at (Some p) found)
unfolding wake_row
wake_found_fits uuid w l follower at p None fits holds = holds
wake_found_fits uuid w l follower at p (Some c) fits holds =
    on_guards (RowFits uuid w) l _ _ (λ why. holds)
    (λ tests. answer_read_fits uuid w l p c (record l { polls = without_poll follower at l.polls }) fits
    (record { sent_fit = tt; polls_fit = All-without_poll (λ (x : Poll). FitsOwn uuid w (frame_of_poll x)) follower at l.polls holds.polls_fit; kept_fit = holds.kept_fit }))

pub wake_fits : (uuid : List ℕ) (w : Work) (l : Leader) (follower : List ℕ) (at : ℕ) (found : Option Poll) → slice_get (polls_of l.polls follower) at ≡ found → HoldsFit uuid w l
    → RowFits uuid w (wake_row l follower at found (polled_copy l.copies found))
unfolding wake_row
wake_fits uuid w l follower at None is holds = holds
wake_fits uuid w l follower at (Some p) is holds =
    wake_found_fits uuid w l follower at p (copy_of l.copies p.copy)
    (All-at (λ (x : Poll). FitsOwn uuid w (frame_of_poll x)) (polls_of l.polls follower) at p
    (All-filter (λ (x : Poll). FitsOwn uuid w (frame_of_poll x)) (λ x. bytes_eq x.follower follower) l.polls holds.polls_fit) is) holds

-- ---- leases

new_lease_fits : (uuid : List ℕ) (w : Work) (l : Leader) (id : List ℕ) → HoldsFit uuid w l → HoldsFit uuid w (with_new_lease l id)
new_lease_fits uuid w l id holds = on_if (HoldsFit uuid w) (has_lease id l.copies.primary) _ _ (λ there. holds) (λ isnt. holds)

or_keep_fits : (uuid : List ℕ) (w : Work) (l : Leader) (k : KeptRequest) (lacking : Option ℕ) → FitsOwn uuid w (frame_of_kept k) → HoldsFit uuid w l → RowFits uuid w (answer_or_keep l k lacking)
or_keep_fits uuid w l k None fits holds = sends uuid w l _ (lease_fits uuid w l.copies k fits) holds
or_keep_fits uuid w l k (Some copy) fits holds =
    record { sent_fit = tt; polls_fit = holds.polls_fit; kept_fit = All-push (λ (x : KeptRequest). FitsOwn uuid w (frame_of_kept x)) l.kept k holds.kept_fit fits }

lease_add_fits : (uuid : List ℕ) (w : Work) (l : Leader) (follower : List ℕ) (request : ℕ) (id : List ℕ) (waits : Option ℕ)
    → FitsOwn uuid w (record { follower = follower; request = request; content = contents.LeaseAdd id }) → HoldsFit uuid w l → RowFits uuid w (lease_add_row l follower request id waits)
unfolding lease_add_row
lease_add_fits uuid w l follower request id (Some copy) fits holds =
    sends uuid w l _ (not_ready_fits uuid w (record { follower = follower; request = request; content = contents.LeaseAdd id }) copy lease_begins fits) holds
lease_add_fits uuid w l follower request id None fits holds =
    or_keep_fits uuid w (with_new_lease l id) (record { follower = follower; request = request; id = id; existed = has_lease id l.copies.primary })
    (lacks_lease id (with_new_lease l id).copies) fits (new_lease_fits uuid w l id holds)

lease_renew_fits : (uuid : List ℕ) (w : Work) (l : Leader) (follower : List ℕ) (request : ℕ) (id : List ℕ) (number : ℕ) (found : Option Lease)
    → FitsOwn uuid w (record { follower = follower; request = request; content = contents.LeaseRenew id number }) → HoldsFit uuid w l → RowFits uuid w (lease_renew_row l follower request id number found)
unfolding lease_renew_row
lease_renew_fits uuid w l follower request id number None fits holds = sends uuid w l _ fits holds
lease_renew_fits uuid w l follower request id number (Some kept) fits holds =
    on_if (RowFits uuid w) (nat_lt number kept.number) _ _ (λ low. sends uuid w l _ fits holds) (λ high. sends uuid w l _ fits holds)

lease_remove_fits : (uuid : List ℕ) (w : Work) (l : Leader) (follower : List ℕ) (request : ℕ) (id : List ℕ) (found : Option Lease)
    → FitsOwn uuid w (record { follower = follower; request = request; content = contents.LeaseRemove id }) → HoldsFit uuid w l → RowFits uuid w (lease_remove_row l follower request id found)
unfolding lease_remove_row
lease_remove_fits uuid w l follower request id None fits holds = sends uuid w l _ fits holds
lease_remove_fits uuid w l follower request id (Some kept) fits holds = sends uuid w l _ fits holds

-- the kept requests that are due are answered
due_fit : (uuid : List ℕ) (w : Work) (o : Outcome Leader) → RowFits uuid w o
    → AllFit uuid w (o.sent ++ map {A = KeptRequest} {B = Frame} (lease_answer o.next.copies) (filter (λ k. all_hold k.id o.next.copies) o.next.kept))
    o.next.polls (filter (λ k. not (all_hold k.id o.next.copies)) o.next.kept)
due_fit uuid w o fits =
    let due : List KeptRequest = filter (λ k. all_hold k.id o.next.copies) o.next.kept in
    record {
      sent_fit = All-append (FitsOwn uuid w) o.sent (map {A = KeptRequest} {B = Frame} (lease_answer o.next.copies) due) fits.sent_fit
          (All-map (FitsOwn uuid w) (lease_answer o.next.copies) due
          (All-weaker (λ (k : KeptRequest). FitsOwn uuid w (frame_of_kept k)) (λ (k : KeptRequest). FitsOwn uuid w (lease_answer o.next.copies k)) (λ k own. lease_fits uuid w o.next.copies k own) due
          (All-filter (λ (k : KeptRequest). FitsOwn uuid w (frame_of_kept k)) (λ k. all_hold k.id o.next.copies) o.next.kept fits.kept_fit)));
      polls_fit = fits.polls_fit;
      kept_fit = All-filter (λ (k : KeptRequest). FitsOwn uuid w (frame_of_kept k)) (λ k. not (all_hold k.id o.next.copies)) o.next.kept fits.kept_fit;
    }

pub settled_fits : (uuid : List ℕ) (w : Work) (reply : Reply) (o : Outcome Leader) → RowFits uuid w o → RowFits uuid w (answering_kept reply o)
settled_fits uuid w (replies.Refused why) o fits = fits
settled_fits uuid w _ o fits = due_fit uuid w o fits

-- ---- sessions

session_open_fits : (uuid : List ℕ) (w : Work) (l : Leader) (follower : List ℕ) (request : ℕ) (waits : Option ℕ)
    → FitsOwn uuid w (record { follower = follower; request = request; content = contents.SessionOpen }) → HoldsFit uuid w l → RowFits uuid w (session_open_row l follower request waits)
unfolding session_open_row
session_open_fits uuid w l follower request (Some copy) fits holds =
    sends uuid w l _ (not_ready_fits uuid w (record { follower = follower; request = request; content = contents.SessionOpen }) copy session_begins fits) holds
session_open_fits uuid w l follower request None fits holds = sends uuid w l _ fits holds

chunk_fits : (uuid : List ℕ) (w : Work) (l : Leader) (follower : List ℕ) (request session file offset size : ℕ) (found : Option Session)
    → FitsOwn uuid w (record { follower = follower; request = request; content = contents.ChunkRequest session file offset size }) → HoldsFit uuid w l
    → RowFits uuid w (chunk_row l follower request session file offset size found)
unfolding chunk_row
chunk_fits uuid w l follower request session file offset size None fits holds = sends uuid w l _ fits holds
chunk_fits uuid w l follower request session file offset size (Some x) fits holds = sends uuid w l _ fits holds

-- ---- messages

pub content_fits : (uuid : List ℕ) (w : Work) (l : Leader) (copy : ℕ) (follower : List ℕ) (request : ℕ) (content : Content)
    → FitsOwn uuid w (record { follower = follower; request = request; content = content }) → HoldsFit uuid w l
    → RowFits uuid w (receive_row l copy (record { follower = follower; request = request; content = content }))
content_fits uuid w l copy follower request (contents.ReadRequest history from max_ops max_bytes timeout) fits holds =
    read_fits uuid w l
    (record { follower = follower; request = request; copy = copy; history = history; from = from; max_ops = max_ops; max_bytes = max_bytes; timeout = timeout; parked = l.now })
    copy (copy_of l.copies copy) fits holds
content_fits uuid w l copy follower request (contents.LeaseAdd id) fits holds = lease_add_fits uuid w l follower request id _ fits holds
content_fits uuid w l copy follower request (contents.LeaseRenew id number) fits holds = lease_renew_fits uuid w l follower request id number _ fits holds
content_fits uuid w l copy follower request (contents.LeaseRemove id) fits holds = lease_remove_fits uuid w l follower request id _ fits holds
content_fits uuid w l copy follower request contents.SessionOpen fits holds = session_open_fits uuid w l follower request _ fits holds
content_fits uuid w l copy follower request (contents.ChunkRequest session file offset size) fits holds =
    chunk_fits uuid w l follower request session file offset size (session_of l.sessions session) fits holds
content_fits uuid w l copy follower request _ fits holds = holds

-- ---- copies that leave

pub promote_fits : (uuid : List ℕ) (w : Work) (l : Leader) (copy : ℕ) (found : Option Replica) → HoldsFit uuid w l → RowFits uuid w (leader_promote_row l copy found)
unfolding leader_promote_row
promote_fits uuid w l copy None holds = holds
promote_fits uuid w l copy (Some r) holds = record {
  sent_fit = tt;
  polls_fit = All-filter (λ (p : Poll). FitsOwn uuid w (frame_of_poll p)) (λ p. not (p.copy == l.copies.primary.number)) l.polls holds.polls_fit;
  kept_fit = tt;
}

pub force_promote_fits : (uuid : List ℕ) (w : Work) (l : Leader) (copy : ℕ) (found : Option Copy) → HoldsFit uuid w l → RowFits uuid w (force_promote_row l copy found)
unfolding force_promote_row
force_promote_fits uuid w l copy None holds = holds
force_promote_fits uuid w l copy (Some c) holds = record { sent_fit = tt; polls_fit = tt; kept_fit = tt }

pub fail_copy_fits : (uuid : List ℕ) (w : Work) (l : Leader) (copy : ℕ) (found : Option Replica) → HoldsFit uuid w l → RowFits uuid w (leader_fail_copy_row l copy found)
unfolding leader_fail_copy_row
fail_copy_fits uuid w l copy None holds = copies_fit uuid w l (fail_copy_row l.copies copy None) (fail_copy-silent l.copies copy None) holds
fail_copy_fits uuid w l copy (Some r) holds =
    subst (λ (sent : List Frame). AllFit uuid w sent (filter (λ p. not (p.copy == copy)) l.polls) l.kept) (sym (fail_copy-silent l.copies copy (Some r))) (record {
      sent_fit = tt;
      polls_fit = All-filter (λ (p : Poll). FitsOwn uuid w (frame_of_poll p)) (λ p. not (p.copy == copy)) l.polls holds.polls_fit;
      kept_fit = holds.kept_fit;
    })
