-- The messages that come to the leader keep what is true of its leases.
use Rattle.std.proofs.Common.{◌≡◌, ℕ, ◌+◌, Bool, true, false, List, [], ◌∷◌, ◌++◌, refl}
use Rattle.std.specs.Prelude.{Option, Some, None, nat_lt, if◌then◌else◌}
use Rattle.ccr_lease.specs.declared.retention.Lease.{Lease}
use Rattle.ccr_lease.specs.Leases.{Collection, lease_of, place_of, with_lease, renewed, without}
use Rattle.ccr_wire.specs.Message.{Frame}
use Rattle.ccr_wire.specs.declared.content.Content.{Content}
use Rattle.ccr_wire.specs.declared.content.Content.TheVariants as contents
use Rattle.ccr_journal.specs.declared.events.Event.TheVariants as events
use Rattle.ccr_journal.specs.declared.replies.Reply.{Reply}
use Rattle.ccr_law_base.proofs.Cases.{on_if, read_answered}
use Rattle.ccr_model.specs.Outcomes.{Outcome}
use Rattle.ccr_model.specs.Copies.{Copy, Copies, copy_of, not_ready, greatest_floor, has_lease, lacks_lease}
use Rattle.ccr_model.specs.Leaders.{Leader, Session, KeptRequest, Poll, session_of}
use Rattle.ccr_model.specs.LeaderFrames.{has_to_wait, read_row, with_leases, with_new_lease, answer_or_keep, lease_add_row, lease_renew_row, lease_remove_row, session_open_row, chunk_row, receive_row, leader_receive}
use Rattle.ccr_model.specs.LeaseHistory.{LeaseNote, notes_of, notes_of_kept, notes_of_add, notes_of_content}
use Rattle.ccr_model.specs.LeaseHistory as history
use Rattle.ccr_law_leases.specs.TrueLeases.{AreTrueLeasesOf}
use Rattle.ccr_law_leases.proofs.Notes.{same_bytes, retained-own, true-note, no-answer-added, no-answer-renewed, no-answer-removed}
use Rattle.ccr_law_leases.proofs.Collections.{true-next, agree-put, agree-renewed, agree-removed}
use Rattle.ccr_law_leases.proofs.Answers.{answered-true, none-lacks, answers-then-true, settling-same}

-- what is true after a message about this came to the leader, where it was answered so
abbrev pub IsTrueHeard : Leader → ℕ → List LeaseNote → ℕ → ℕ → Bool → Frame → Reply → Copies → Type 0
IsTrueHeard s place notes at copy keep m reply next = AreTrueLeasesOf (notes_of s next place (Some m) (events.Deliver at copy keep) reply ++ notes) next

-- ---- requests for leases

-- the notes of a lease that is added unless it is there
abbrev pub adding : Leader → ℕ → List ℕ → List LeaseNote
adding s place id = if has_lease id s.copies.primary then [] else record { id = id; place = place; deed = history.added s.copies.primary.floor } ∷ []

pub added-true : (s : Leader) (place : ℕ) (id : List ℕ) (notes : List LeaseNote) → AreTrueLeasesOf notes s.copies
    → AreTrueLeasesOf (adding s place id ++ notes) (with_new_lease s id).copies
added-true s place id notes are =
    let c = s.copies.primary.leases in
    let new : Lease = record { id = id; number = s.copies.primary.floor; stamp = s.now } in
    let note : LeaseNote = record { id = id; place = place; deed = history.added s.copies.primary.floor } in
    let next : Collection = record c { version = c.version + 1; leases = with_lease new c.leases } in
    let noted : AreTrueLeasesOf (note ∷ notes) s.copies =
    true-note note notes s.copies.term c s.copies.primary.floor s.copies.replicas (no-answer-added id place s.copies.primary.floor notes) are in
    elim (has_lease id s.copies.primary) as (λ b. AreTrueLeasesOf ((if b then [] else note ∷ []) ++ notes) (if b then s else with_leases s next).copies) [
      | true ↦ are
      | false ↦ true-next (note ∷ notes) s.copies.term c next s.copies.primary.floor s.copies.replicas refl refl
          (agree-put (place_of id c.leases) new (note ∷ notes) c.leases s.copies.primary.floor (retained-own id note notes (same_bytes id)) noted.agree) noted
    ]

pub lease-add-true : (s : Leader) (place : ℕ) (notes : List LeaseNote) (at copy : ℕ) (keep : Bool) (follower : List ℕ) (request : ℕ) (id : List ℕ) (waits : Option ℕ)
    → AreTrueLeasesOf notes s.copies
    → IsTrueHeard s place notes at copy keep (record { follower = follower; request = request; content = contents.LeaseAdd id })
    (lease_add_row s follower request id waits).reply (lease_add_row s follower request id waits).next.copies
unfolding lease_add_row
lease-add-true s place notes at copy keep follower request id (Some waiting) are = answers-then-true s s.copies place [] notes are
lease-add-true s place notes at copy keep follower request id None are =
    let next = with_new_lease s id in
    let k : KeptRequest = record { follower = follower; request = request; id = id; existed = has_lease id s.copies.primary } in
    let grown : AreTrueLeasesOf (adding s place id ++ notes) next.copies = added-true s place id notes are in
    (elim (lacks_lease id next.copies) as (λ lacking. lacks_lease id next.copies ≡ lacking
    → IsTrueHeard s place notes at copy keep (record { follower = follower; request = request; content = contents.LeaseAdd id }) (answer_or_keep next k lacking).reply (answer_or_keep next k lacking).next.copies) [
      | None ↦ λ none. answers-then-true s next.copies place (record { id = id; place = place; deed = history.answered (greatest_floor next.copies) } ∷ adding s place id) notes
          (answered-true id place (adding s place id ++ notes) next.copies (none-lacks id next.copies none) grown)
      | Some lacking ↦ λ some. answers-then-true s next.copies place (adding s place id) notes grown
    ]) refl

pub lease-renew-true : (s : Leader) (place : ℕ) (notes : List LeaseNote) (at copy : ℕ) (keep : Bool) (follower : List ℕ) (request : ℕ) (id : List ℕ) (number : ℕ) (found : Option Lease)
    → AreTrueLeasesOf notes s.copies
    → IsTrueHeard s place notes at copy keep (record { follower = follower; request = request; content = contents.LeaseRenew id number })
    (lease_renew_row s follower request id number found).reply (lease_renew_row s follower request id number found).next.copies
unfolding lease_renew_row
lease-renew-true s place notes at copy keep follower request id number None are = answers-then-true s s.copies place [] notes are
lease-renew-true s place notes at copy keep follower request id number (Some kept) are =
    let c = s.copies.primary.leases in
    let note : LeaseNote = record { id = id; place = place; deed = history.renewed number } in
    let next : Collection = record c { version = c.version + 1; leases = renewed id number s.now c.leases } in
    let noted : AreTrueLeasesOf (note ∷ notes) s.copies =
    true-note note notes s.copies.term c s.copies.primary.floor s.copies.replicas (no-answer-renewed id place number notes) are in
    on_if (λ (o : Outcome Leader). IsTrueHeard s place notes at copy keep (record { follower = follower; request = request; content = contents.LeaseRenew id number }) o.reply o.next.copies)
    (nat_lt number kept.number) _ _
    (λ low. answers-then-true s s.copies place [] notes are)
    (λ enough. answers-then-true s (with_leases s next).copies place (note ∷ []) notes
    (true-next (note ∷ notes) s.copies.term c next s.copies.primary.floor s.copies.replicas refl refl
    (agree-renewed id number s.now (note ∷ notes) c.leases s.copies.primary.floor (retained-own id note notes (same_bytes id)) noted.agree) noted))

pub lease-remove-true : (s : Leader) (place : ℕ) (notes : List LeaseNote) (at copy : ℕ) (keep : Bool) (follower : List ℕ) (request : ℕ) (id : List ℕ) (found : Option Lease)
    → AreTrueLeasesOf notes s.copies
    → IsTrueHeard s place notes at copy keep (record { follower = follower; request = request; content = contents.LeaseRemove id })
    (lease_remove_row s follower request id found).reply (lease_remove_row s follower request id found).next.copies
unfolding lease_remove_row
lease-remove-true s place notes at copy keep follower request id None are = answers-then-true s s.copies place [] notes are
lease-remove-true s place notes at copy keep follower request id (Some kept) are =
    let c = s.copies.primary.leases in
    let note : LeaseNote = record { id = id; place = place; deed = history.removed } in
    let next : Collection = record c { version = c.version + 1; leases = without id c.leases } in
    let noted : AreTrueLeasesOf (note ∷ notes) s.copies =
    true-note note notes s.copies.term c s.copies.primary.floor s.copies.replicas (no-answer-removed id place notes) are in
    answers-then-true s (with_leases s next).copies place (note ∷ []) notes
    (true-next (note ∷ notes) s.copies.term c next s.copies.primary.floor s.copies.replicas refl refl
    (agree-removed id place notes c.leases s.copies.primary.floor noted.agree) noted)

-- ---- each message

pub read-true : (s : Leader) (place : ℕ) (notes : List LeaseNote) (at copy : ℕ) (keep : Bool) (follower : List ℕ) (request : ℕ) (uuid : List ℕ) (from max_ops max_bytes timeout : ℕ)
    (p : Poll) (found : Option Copy) → AreTrueLeasesOf notes s.copies
    → IsTrueHeard s place notes at copy keep (record { follower = follower; request = request; content = contents.ReadRequest uuid from max_ops max_bytes timeout })
    (read_row s p copy found).reply (read_row s p copy found).next.copies
unfolding read_row
read-true s place notes at copy keep follower request uuid from max_ops max_bytes timeout p None are = are
read-true s place notes at copy keep follower request uuid from max_ops max_bytes timeout p (Some c) are =
    let P : Outcome Leader → Type 0 = λ (o : Outcome Leader).
    IsTrueHeard s place notes at copy keep (record { follower = follower; request = request; content = contents.ReadRequest uuid from max_ops max_bytes timeout }) o.reply o.next.copies in
    on_if P (has_to_wait s p c) _ _ (λ waits. answers-then-true s s.copies place [] notes are)
    (λ answers. read_answered P s p c s (λ what sent. answers-then-true s s.copies place [] notes are))

pub session-open-true : (s : Leader) (place : ℕ) (notes : List LeaseNote) (at copy : ℕ) (keep : Bool) (follower : List ℕ) (request : ℕ) (waits : Option ℕ)
    → AreTrueLeasesOf notes s.copies
    → IsTrueHeard s place notes at copy keep (record { follower = follower; request = request; content = contents.SessionOpen })
    (session_open_row s follower request waits).reply (session_open_row s follower request waits).next.copies
unfolding session_open_row
session-open-true s place notes at copy keep follower request (Some waiting) are = answers-then-true s s.copies place [] notes are
session-open-true s place notes at copy keep follower request None are = answers-then-true s s.copies place [] notes are

pub chunk-true : (s : Leader) (place : ℕ) (notes : List LeaseNote) (at copy : ℕ) (keep : Bool) (follower : List ℕ) (request session file offset size : ℕ) (found : Option Session)
    → AreTrueLeasesOf notes s.copies
    → IsTrueHeard s place notes at copy keep (record { follower = follower; request = request; content = contents.ChunkRequest session file offset size })
    (chunk_row s follower request session file offset size found).reply (chunk_row s follower request session file offset size found).next.copies
unfolding chunk_row
chunk-true s place notes at copy keep follower request session file offset size None are = answers-then-true s s.copies place [] notes are
chunk-true s place notes at copy keep follower request session file offset size (Some found) are = answers-then-true s s.copies place [] notes are

pub content-true : (s : Leader) (place : ℕ) (notes : List LeaseNote) (at copy : ℕ) (keep : Bool) (follower : List ℕ) (request : ℕ) (content : Content)
    → AreTrueLeasesOf notes s.copies
    → (λ (m : Frame). IsTrueHeard s place notes at copy keep m (receive_row s copy m).reply (receive_row s copy m).next.copies) (record { follower = follower; request = request; content = content })
content-true s place notes at copy keep follower request (contents.ReadRequest uuid from max_ops max_bytes timeout) are =
    read-true s place notes at copy keep follower request uuid from max_ops max_bytes timeout
    (record { follower = follower; request = request; copy = copy; history = uuid; from = from; max_ops = max_ops; max_bytes = max_bytes; timeout = timeout; parked = s.now })
    (copy_of s.copies copy) are
content-true s place notes at copy keep follower request (contents.LeaseAdd id) are = lease-add-true s place notes at copy keep follower request id (not_ready s.copies) are
content-true s place notes at copy keep follower request (contents.LeaseRenew id number) are =
    lease-renew-true s place notes at copy keep follower request id number (lease_of id s.copies.primary.leases.leases) are
content-true s place notes at copy keep follower request (contents.LeaseRemove id) are =
    lease-remove-true s place notes at copy keep follower request id (lease_of id s.copies.primary.leases.leases) are
content-true s place notes at copy keep follower request contents.SessionOpen are = session-open-true s place notes at copy keep follower request (not_ready s.copies) are
content-true s place notes at copy keep follower request (contents.ChunkRequest session file offset size) are =
    chunk-true s place notes at copy keep follower request session file offset size (session_of s.sessions session) are
content-true s place notes at copy keep follower request _ are = answers-then-true s s.copies place [] notes are

-- a message that is taken by the leader
pub received-true : (s : Leader) (place : ℕ) (notes : List LeaseNote) (at copy : ℕ) (keep : Bool) (m : Frame) → AreTrueLeasesOf notes s.copies
    → IsTrueHeard s place notes at copy keep m (leader_receive s copy m).reply (leader_receive s copy m).next.copies
received-true s place notes at copy keep m are =
    settling-same (IsTrueHeard s place notes at copy keep m) (receive_row s copy m) (content-true s place notes at copy keep m.follower m.request m.content are)
