-- What waits at the leader waits rightly after each message that the leader takes, and after a poll is answered.
use Rattle.std.specs.Prelude.{is_some, nat_lt}
use Rattle.std.specs.Str.{bytes_eq}
use Rattle.std.proofs.Common.{◌≡◌, ℕ, ◌&&◌, not, true, Option, Some, None, List, refl, ap}
use Rattle.ccr_lease.specs.declared.retention.Lease.{Lease}
use Rattle.ccr_lease.specs.Leases.{Collection, lease_of}
use Rattle.ccr_wire.specs.Message.{Frame}
use Rattle.ccr_wire.specs.declared.content.Content.{Content}
use Rattle.ccr_wire.specs.declared.content.Content.TheVariants as contents
use Rattle.ccr_law_base.proofs.Cases.{on_if, on_guards, read_answered}
use Rattle.ccr_law_base.proofs.Lists.{All-push, All-without_poll}
use Rattle.ccr_law_base.proofs.Tests.{and_first}
use Rattle.ccr_model.specs.Outcomes.{Outcome}
use Rattle.ccr_model.specs.Copies.{Copy, copy_of, not_ready, has_lease}
use Rattle.ccr_model.specs.Leaders.{Leader, Session, KeptRequest, Poll, without_poll, session_of}
use Rattle.ccr_model.specs.LeaderFrames.{has_to_wait, read_row, wake_row, with_leases, with_new_lease, answer_or_keep, lease_add_row, lease_renew_row, lease_remove_row, session_open_row, chunk_row, receive_row, leader_receive}
use Rattle.ccr_law_settling_grounds.specs.Parked.{ArePollsThere, ArePollsOf, IsParkedRightly}
use Rattle.ccr_law_settling_grounds.proofs.Wait.Staying.{polls_stay}
use Rattle.ccr_law_settling_grounds.proofs.Wait.Settling.{IsRightToSettle, right_if_refused, right_if_heard, settled_parked}

-- ---- reads and polls

read_right : (l : Leader) (p : Poll) (found : Option Copy) → copy_of l.copies p.copy ≡ found → IsParkedRightly l → IsRightToSettle (read_row l p p.copy found)
unfolding read_row
read_right l p None is are = right_if_refused l _ are
read_right l p (Some c) is are =
    on_if IsRightToSettle (has_to_wait l p c) _ _
    (λ waits. right_if_heard _ _ _ (All-push (λ (p : Poll). is_some (copy_of l.copies p.copy) ≡ true) l.polls p are.polls (ap is_some is))
    (All-push (λ (p : Poll). bytes_eq p.history l.history ≡ true) l.polls p are.own
    (and_first (bytes_eq p.history l.history) _ (and_first (bytes_eq p.history l.history && not (nat_lt p.from c.floor)) _ waits))))
    (λ now. read_answered IsRightToSettle l p c l (λ what sent. right_if_heard what l sent are.polls are.own))

pub wake_parked : (l : Leader) (follower : List ℕ) (at : ℕ) (found : Option Poll) (c : Option Copy) → IsParkedRightly l → IsParkedRightly (wake_row l follower at found c).next
unfolding wake_row
wake_parked l follower at None c are = are
wake_parked l follower at (Some p) None are = are
wake_parked l follower at (Some p) (Some c) are =
    let P : Outcome Leader → Type 0 = λ (o : Outcome Leader). IsParkedRightly o.next in
    on_guards P l _ _ (λ why. are) (λ tests. read_answered P l p c (record l { polls = without_poll follower at l.polls })
    (λ what sent. record {
      kept = are.kept;
      polls = All-without_poll (λ (p : Poll). is_some (copy_of l.copies p.copy) ≡ true) follower at l.polls are.polls;
      own = All-without_poll (λ (p : Poll). bytes_eq p.history l.history ≡ true) follower at l.polls are.own;
    }))

-- ---- leases

leases_polls : (l : Leader) (leases : Collection) → ArePollsThere l.copies l.polls → ArePollsThere (with_leases l leases).copies l.polls
leases_polls l leases all = polls_stay l.copies (with_leases l leases).copies l.polls refl all

new_lease_polls : (l : Leader) (id : List ℕ) → ArePollsThere l.copies l.polls → ArePollsThere (with_new_lease l id).copies (with_new_lease l id).polls
new_lease_polls l id all = on_if (λ (next : Leader). ArePollsThere next.copies next.polls) (has_lease id l.copies.primary) _ _ (λ there. all) (λ isnt. leases_polls l _ all)

new_lease_own : (l : Leader) (id : List ℕ) → ArePollsOf l.history l.polls → ArePollsOf (with_new_lease l id).history (with_new_lease l id).polls
new_lease_own l id all = on_if (λ (next : Leader). ArePollsOf next.history next.polls) (has_lease id l.copies.primary) _ _ (λ there. all) (λ isnt. all)

or_keep_right : (next : Leader) (k : KeptRequest) (lacking : Option ℕ) → ArePollsThere next.copies next.polls → ArePollsOf next.history next.polls → IsRightToSettle (answer_or_keep next k lacking)
or_keep_right next k None all own = right_if_heard _ _ _ all own
or_keep_right next k (Some copy) all own = right_if_heard _ _ _ all own

lease_add_right : (l : Leader) (follower : List ℕ) (request : ℕ) (id : List ℕ) (waits : Option ℕ) → IsParkedRightly l → IsRightToSettle (lease_add_row l follower request id waits)
unfolding lease_add_row
lease_add_right l follower request id (Some copy) are = right_if_heard _ _ _ are.polls are.own
lease_add_right l follower request id None are = or_keep_right (with_new_lease l id) _ _ (new_lease_polls l id are.polls) (new_lease_own l id are.own)

lease_renew_right : (l : Leader) (follower : List ℕ) (request : ℕ) (id : List ℕ) (number : ℕ) (found : Option Lease) → IsParkedRightly l
    → IsRightToSettle (lease_renew_row l follower request id number found)
unfolding lease_renew_row
lease_renew_right l follower request id number None are = right_if_heard _ _ _ are.polls are.own
lease_renew_right l follower request id number (Some kept) are =
    on_if IsRightToSettle (nat_lt number kept.number) _ _ (λ low. right_if_heard _ _ _ are.polls are.own) (λ high. right_if_heard _ _ _ (leases_polls l _ are.polls) are.own)

lease_remove_right : (l : Leader) (follower : List ℕ) (request : ℕ) (id : List ℕ) (found : Option Lease) → IsParkedRightly l → IsRightToSettle (lease_remove_row l follower request id found)
unfolding lease_remove_row
lease_remove_right l follower request id None are = right_if_heard _ _ _ are.polls are.own
lease_remove_right l follower request id (Some kept) are = right_if_heard _ _ _ (leases_polls l _ are.polls) are.own

-- ---- sessions

session_open_right : (l : Leader) (follower : List ℕ) (request : ℕ) (waits : Option ℕ) → IsParkedRightly l → IsRightToSettle (session_open_row l follower request waits)
unfolding session_open_row
session_open_right l follower request (Some copy) are = right_if_heard _ _ _ are.polls are.own
session_open_right l follower request None are = right_if_heard _ _ _ are.polls are.own

chunk_right : (l : Leader) (follower : List ℕ) (request session file offset size : ℕ) (found : Option Session) → IsParkedRightly l
    → IsRightToSettle (chunk_row l follower request session file offset size found)
unfolding chunk_row
chunk_right l follower request session file offset size None are = right_if_heard _ _ _ are.polls are.own
chunk_right l follower request session file offset size (Some x) are = right_if_heard _ _ _ are.polls are.own

-- ---- each message

content_right : (l : Leader) (copy : ℕ) (follower : List ℕ) (request : ℕ) (content : Content) → IsParkedRightly l
    → IsRightToSettle (receive_row l copy (record { follower = follower; request = request; content = content }))
content_right l copy follower request (contents.ReadRequest history from max_ops max_bytes timeout) are =
    read_right l (record { follower = follower; request = request; copy = copy; history = history; from = from; max_ops = max_ops; max_bytes = max_bytes; timeout = timeout; parked = l.now })
    (copy_of l.copies copy) refl are
content_right l copy follower request (contents.LeaseAdd id) are = lease_add_right l follower request id (not_ready l.copies) are
content_right l copy follower request (contents.LeaseRenew id number) are = lease_renew_right l follower request id number (lease_of id l.copies.primary.leases.leases) are
content_right l copy follower request (contents.LeaseRemove id) are = lease_remove_right l follower request id (lease_of id l.copies.primary.leases.leases) are
content_right l copy follower request contents.SessionOpen are = session_open_right l follower request (not_ready l.copies) are
content_right l copy follower request (contents.ChunkRequest session file offset size) are =
    chunk_right l follower request session file offset size (session_of l.sessions session) are
content_right l copy follower request _ are = right_if_heard _ _ _ are.polls are.own

pub receive_parked : (l : Leader) (copy : ℕ) (m : Frame) → IsParkedRightly l → IsParkedRightly (leader_receive l copy m).next
receive_parked l copy m are = settled_parked (receive_row l copy m) (content_right l copy m.follower m.request m.content are)
