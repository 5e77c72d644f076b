-- The events that change no copy of the leader but for the primary's leases.
use Rattle.std.specs.Prelude.{slice_get, remove}
use Rattle.std.proofs.Common.{◌≡◌, ℕ, ◌+◌, Bool, not, nat_lt, Option, Some, None, List, refl, sym, subst}
use Rattle.std.specs.Str.{bytes_eq}
use Rattle.ccr_lease.specs.Leases.{Collection, with_lease, renewed, without}
use Rattle.ccr_lease.specs.declared.retention.Lease.{Lease}
use Rattle.ccr_query.specs.Queries.{Tree}
use Rattle.ccr_query.specs.declared.sorting.SortKey.{SortKey}
use Rattle.ccr_wire.specs.Message.{Frame, kind_of_content}
use Rattle.ccr_wire.specs.declared.content.Content.{Content}
use Rattle.ccr_wire.specs.declared.content.Content.TheVariants as contents
use Rattle.ccr_journal.specs.declared.params.ParamValues.{ParamValues}
use Rattle.ccr_journal.specs.declared.replies.Reply.{Reply}
use Rattle.ccr_journal.specs.declared.replies.Reply.TheVariants as replies
use Rattle.ccr_model.specs.Outcomes.{Outcome}
use Rattle.ccr_model.specs.Copies.{Copy, Copies, has_lease}
use Rattle.ccr_model.specs.Leaders.{Leader, Session, KeptRequest, Poll, without_poll}
use Rattle.ccr_model.specs.LeaderRows.{answering_kept}
use Rattle.ccr_model.specs.LeaderFrames.{answer_read, has_to_wait, read_row, wake_row, with_new_lease, answer_or_keep, lease_add_row, lease_renew_row, lease_remove_row, session_open_row, chunk_row, receive_row, leader_receive}
use Rattle.ccr_model.specs.Followers.{Follower}
use Rattle.ccr_model.specs.FollowerRows.{follower_receive_row}
use Rattle.ccr_model.specs.World.{State, for_follower, goes_to_leader, follower_of, at_named_follower, taken_by_receiver, deliver_row, drop_row, follow_row, search_row}
use Rattle.ccr_model.specs.Step.{woken}
use Rattle.ccr_law_base.proofs.Cases.{on_if, on_guards}

-- the copies are as they were, but for the primary's leases
abbrev pub LeasesAlone : Copies → Copies → Type 0
LeasesAlone s t = (leases : Collection) × (t ≡ record s { primary = record s.primary { leases = leases } })

pub unchanged : (s : Copies) → LeasesAlone s s
unchanged s = (s.primary.leases, refl)

abbrev pub KeepsCopies : Leader → Outcome Leader → Type 0
KeepsCopies s o = LeasesAlone s.copies o.next.copies

-- ---- reads and polls

pub answer_keeps : (P : Leader → Type 0) (s : Leader) (p : Poll) (c : Copy) (next : Leader) → P next → P (answer_read s p c next).next
answer_keeps P s p c next holds =
    on_if (λ (o : Outcome Leader). P o.next) (not (bytes_eq p.history s.history)) _ _ (λ other. holds)
    (λ same. on_if (λ (o : Outcome Leader). P o.next) (nat_lt p.from c.floor) _ _ (λ low. holds) (λ high. holds))

pub read_keeps : (s : Leader) (p : Poll) (copy : ℕ) (found : Option Copy) → KeepsCopies s (read_row s p copy found)
unfolding read_row
read_keeps s p copy None = unchanged s.copies
read_keeps s p copy (Some c) =
    on_if (KeepsCopies s) (has_to_wait s p c) _ _ (λ waits. unchanged s.copies)
    (λ answers. answer_keeps (λ next. LeasesAlone s.copies next.copies) s p c s (unchanged s.copies))

pub wake_keeps : (s : Leader) (follower : List ℕ) (at : ℕ) (found : Option Poll) (c : Option Copy) → KeepsCopies s (wake_row s follower at found c)
unfolding wake_row
wake_keeps s follower at None c = unchanged s.copies
wake_keeps s follower at (Some p) None = unchanged s.copies
wake_keeps s follower at (Some p) (Some c) =
    on_guards (KeepsCopies s) s _ _ (λ why. unchanged s.copies)
    (λ tests. answer_keeps (λ next. LeasesAlone s.copies next.copies) s p c (record s { polls = without_poll follower at s.polls }) (unchanged s.copies))

-- ---- leases and sessions

pub new_lease_keeps : (s : Leader) (id : List ℕ) → LeasesAlone s.copies (with_new_lease s id).copies
new_lease_keeps s id =
    on_if (λ (next : Leader). LeasesAlone s.copies next.copies) (has_lease id s.copies.primary) _ _ (λ there. unchanged s.copies)
    (λ isnt. (
      record s.copies.primary.leases {
        version = s.copies.primary.leases.version + 1;
        leases = with_lease (record { id = id; number = s.copies.primary.floor; stamp = s.now }) s.copies.primary.leases.leases;
      },
      refl,
    ))

pub answer_or_keep_keeps : (P : Copies → Type 0) (s : Leader) (k : KeptRequest) (lacking : Option ℕ) → P s.copies → P (answer_or_keep s k lacking).next.copies
answer_or_keep_keeps P s k None holds = holds
answer_or_keep_keeps P s k (Some copy) holds = holds

pub lease_add_keeps : (s : Leader) (follower : List ℕ) (request : ℕ) (id : List ℕ) (waits : Option ℕ) → KeepsCopies s (lease_add_row s follower request id waits)
unfolding lease_add_row
lease_add_keeps s follower request id (Some copy) = unchanged s.copies
lease_add_keeps s follower request id None = answer_or_keep_keeps (LeasesAlone s.copies) (with_new_lease s id) _ _ (new_lease_keeps s id)

pub lease_renew_keeps : (s : Leader) (follower : List ℕ) (request : ℕ) (id : List ℕ) (number : ℕ) (found : Option Lease)
    → KeepsCopies s (lease_renew_row s follower request id number found)
unfolding lease_renew_row
lease_renew_keeps s follower request id number None = unchanged s.copies
lease_renew_keeps s follower request id number (Some kept) =
    on_if (KeepsCopies s) (nat_lt number kept.number) _ _ (λ low. unchanged s.copies)
    (λ high. (
      record s.copies.primary.leases {
        version = s.copies.primary.leases.version + 1;
        leases = renewed id number s.now s.copies.primary.leases.leases;
      },
      refl,
    ))

pub lease_remove_keeps : (s : Leader) (follower : List ℕ) (request : ℕ) (id : List ℕ) (found : Option Lease) → KeepsCopies s (lease_remove_row s follower request id found)
unfolding lease_remove_row
lease_remove_keeps s follower request id None = unchanged s.copies
lease_remove_keeps s follower request id (Some kept) =
    (record s.copies.primary.leases { version = s.copies.primary.leases.version + 1; leases = without id s.copies.primary.leases.leases }, refl)

pub session_open_keeps : (s : Leader) (follower : List ℕ) (request : ℕ) (waits : Option ℕ) → KeepsCopies s (session_open_row s follower request waits)
unfolding session_open_row
session_open_keeps s follower request (Some copy) = unchanged s.copies
session_open_keeps s follower request None = unchanged s.copies

pub chunk_keeps : (s : Leader) (follower : List ℕ) (request session file offset size : ℕ) (found : Option Session)
    → KeepsCopies s (chunk_row s follower request session file offset size found)
unfolding chunk_row
chunk_keeps s follower request session file offset size None = unchanged s.copies
chunk_keeps s follower request session file offset size (Some x) = unchanged s.copies

-- ---- messages

pub content_keeps : (s : Leader) (copy : ℕ) (follower : List ℕ) (request : ℕ) (content : Content)
    → KeepsCopies s (receive_row s copy (record { follower = follower; request = request; content = content }))
content_keeps s copy follower request (contents.ReadRequest history from max_ops max_bytes timeout) = read_keeps s _ copy _
content_keeps s copy follower request (contents.LeaseAdd id) = lease_add_keeps s follower request id _
content_keeps s copy follower request (contents.LeaseRenew id number) = lease_renew_keeps s follower request id number _
content_keeps s copy follower request (contents.LeaseRemove id) = lease_remove_keeps s follower request id _
content_keeps s copy follower request contents.SessionOpen = session_open_keeps s follower request _
content_keeps s copy follower request (contents.ChunkRequest session file offset size) = chunk_keeps s follower request session file offset size _
content_keeps s copy follower request (contents.ReadReply from global ops) = unchanged s.copies
content_keeps s copy follower request (contents.ReadMissing from floor) = unchanged s.copies
content_keeps s copy follower request (contents.ReadHistory history) = unchanged s.copies
content_keeps s copy follower request (contents.LeaseAdded number) = unchanged s.copies
content_keeps s copy follower request (contents.LeaseAnswer outcome number) = unchanged s.copies
content_keeps s copy follower request (contents.SessionOpened session history count sizes) = unchanged s.copies
content_keeps s copy follower request (contents.ChunkReply session file offset bytes) = unchanged s.copies
content_keeps s copy follower request (contents.SessionGone session) = unchanged s.copies
content_keeps s copy follower request (contents.NotReady waits) = unchanged s.copies

-- answers to kept requests leave the copies
pub answering_copies : (reply : Reply) (o : Outcome Leader) → (answering_kept reply o).next.copies ≡ o.next.copies
answering_copies (replies.Refused why) o = refl
answering_copies _ o = refl

pub receive_keeps : (s : Leader) (copy : ℕ) (m : Frame) → KeepsCopies s (leader_receive s copy m)
receive_keeps s copy m = subst (LeasesAlone s.copies) (sym (answering_copies (receive_row s copy m).reply (receive_row s copy m))) (content_keeps s copy m.follower m.request m.content)

-- what becomes of the leader's copies in the world
abbrev pub KeepsLeader : State → Outcome State → Type 0
KeepsLeader s o = LeasesAlone s.leader.copies o.next.leader.copies

pub for_follower_keeps : (s : State) (f : ℕ) (row : Follower → Outcome Follower) (found : Option Follower) → KeepsLeader s (for_follower s f row found)
for_follower_keeps s f row None = unchanged s.leader.copies
for_follower_keeps s f row (Some follower) = unchanged s.leader.copies

pub named_keeps : (s : State) (m : Frame) (named : Option ℕ) → KeepsLeader s (at_named_follower s m named)
named_keeps s m None = unchanged s.leader.copies
named_keeps s m (Some f) = for_follower_keeps s f (λ follower. follower_receive_row follower m) (slice_get s.followers f)

pub taken_keeps : (s : State) (copy : ℕ) (m : Frame) → KeepsLeader s (taken_by_receiver s copy m)
taken_keeps s copy m =
    on_if (KeepsLeader s) (goes_to_leader (kind_of_content m.content)) _ _ (λ is. receive_keeps s.leader copy m) (λ isnt. named_keeps s m (follower_of s.followers m.follower))

pub deliver_keeps : (s : State) (at copy : ℕ) (keep : Bool) (m : Option Frame) (c : Option Copy) → KeepsLeader s (deliver_row s at copy keep m c)
unfolding deliver_row
deliver_keeps s at copy keep None c = unchanged s.leader.copies
deliver_keeps s at copy keep (Some m) None = unchanged s.leader.copies
deliver_keeps s at copy keep (Some m) (Some c) =
    on_if (λ (t : State). LeasesAlone s.leader.copies (taken_by_receiver t copy m).next.leader.copies) keep s (record s { flight = remove s.flight at })
    (λ is. taken_keeps s copy m) (λ isnt. taken_keeps (record s { flight = remove s.flight at }) copy m)

pub drop_keeps : (s : State) (at : ℕ) (m : Option Frame) → KeepsLeader s (drop_row s at m)
unfolding drop_row
drop_keeps s at None = unchanged s.leader.copies
drop_keeps s at (Some m) = unchanged s.leader.copies

pub woken_keeps : (s : State) (f at : ℕ) (found : Option Follower) → KeepsLeader s (woken s f at found)
woken_keeps s f at None = unchanged s.leader.copies
woken_keeps s f at (Some follower) = wake_keeps s.leader _ at _ _

pub follow_keeps : (s : State) (params : ParamValues) (copies : ℕ) (name : List ℕ) (same : Option ℕ) → KeepsLeader s (follow_row s params copies name same)
unfolding follow_row
follow_keeps s params copies name (Some f) = unchanged s.leader.copies
follow_keeps s params copies name None = on_guards (KeepsLeader s) s _ _ (λ why. unchanged s.leader.copies) (λ tests. unchanged s.leader.copies)

pub search_keeps : (s : State) (copy : ℕ) (query : Tree) (sort : List SortKey) (c : Option Copy) → KeepsLeader s (search_row s copy query sort c)
unfolding search_row
search_keeps s copy query sort None = unchanged s.leader.copies
search_keeps s copy query sort (Some c) = unchanged s.leader.copies
