-- The history of the leases: what the entries of a journal did to each since the leader's history began.
use Rattle.std.specs.Prelude.{ℕ, Bool, true, false, ◌&&◌, nat_lt, max, if◌then◌else◌, List, [], ◌∷◌, ◌++◌, map, filter, Option, Some, None}
use Rattle.std.specs.List.{list_any}
use Rattle.std.specs.Str.{bytes_eq}
use Rattle.ccr_lease.specs.declared.retention.Expired.{Expired}
use Rattle.ccr_wire.specs.Message.{Frame}
use Rattle.ccr_wire.specs.declared.kind.LeaseResult.TheVariants as results
use Rattle.ccr_wire.specs.declared.content.Content.{Content}
use Rattle.ccr_wire.specs.declared.content.Content.TheVariants as contents
use Rattle.ccr_journal.specs.declared.sides.Side.TheVariants as sides
use Rattle.ccr_journal.specs.declared.events.Event.{Event}
use Rattle.ccr_journal.specs.declared.events.Event.TheVariants as events
use Rattle.ccr_journal.specs.declared.replies.Reply.{Reply}
use Rattle.ccr_journal.specs.declared.replies.Reply.TheVariants as replies
use Rattle.ccr_journal.specs.declared.replies.Heard.{Heard as Hearing}
use Rattle.ccr_journal.specs.declared.replies.Heard.TheVariants as heard
use Rattle.ccr_model.specs.Copies.{Copies, greatest_floor, has_lease}
use Rattle.ccr_model.specs.Leaders.{Leader, KeptRequest}
use Rattle.ccr_model.specs.LeaderRows.{all_hold}

-- what an entry did to a lease: the primary added it with a number, an answer that it is there was sent with a number, it was renewed to a
-- number, it expired and was dropped, or it was removed
pub data LeaseDeed : Type 0 where
  added : ℕ → LeaseDeed
  answered : ℕ → LeaseDeed
  renewed : ℕ → LeaseDeed
  dropped : LeaseDeed
  removed : LeaseDeed

-- the lease's id, the place of the entry in the journal, and what was done
pub record LeaseNote : Type 0 where
  pub id : List ℕ
  pub place : ℕ
  pub deed : LeaseDeed

abbrev pub number_in : LeaseDeed → ℕ
number_in (added number) = number
number_in (answered number) = number
number_in (renewed number) = number
number_in dropped = 0
number_in removed = 0

-- the greatest number that the lease of an id was added, answered or renewed with, and 0 where there is none
abbrev pub retained : List ℕ → List LeaseNote → ℕ
retained id [] = 0
retained id (note ∷ notes) = if bytes_eq note.id id then max (number_in note.deed) (retained id notes) else retained id notes

-- the newest of an answer, a drop and a removal is an answer, where the notes stand newest first
abbrev pub ends_answered : LeaseDeed → Bool → Bool
ends_answered (added number) before = before
ends_answered (answered number) before = true
ends_answered (renewed number) before = before
ends_answered dropped before = false
ends_answered removed before = false

-- an answer was sent for the lease, and nothing dropped or removed it later
abbrev pub is_unbroken : List ℕ → List LeaseNote → Bool
is_unbroken id [] = false
is_unbroken id (note ∷ notes) = if bytes_eq note.id id then ends_answered note.deed (is_unbroken id notes) else is_unbroken id notes

abbrev pub is_loss : LeaseDeed → Bool
is_loss (added number) = false
is_loss (answered number) = false
is_loss (renewed number) = false
is_loss dropped = true
is_loss removed = true

-- an expiry or a removal of the lease stands after a place of the journal
abbrev pub is_lost_after : List ℕ → ℕ → List LeaseNote → Bool
is_lost_after id place notes = list_any (λ note. bytes_eq note.id id && is_loss note.deed && nat_lt place note.place) notes

-- ---- the notes of an entry

-- a request for a lease that the leader took up: the lease is added where it wasn't there, and the request may be answered at once
abbrev pub notes_of_add : Leader → ℕ → List ℕ → Hearing → List LeaseNote
notes_of_add s place id (heard.NotReady copy) = []
notes_of_add s place id (heard.Lease result number) =
    record { id = id; place = place; deed = answered number }
    ∷ (if has_lease id s.copies.primary then [] else record { id = id; place = place; deed = added s.copies.primary.floor } ∷ [])
notes_of_add s place id _ =
    if has_lease id s.copies.primary then [] else record { id = id; place = place; deed = added s.copies.primary.floor } ∷ []

abbrev pub notes_of_renewal : ℕ → List ℕ → Hearing → List LeaseNote
notes_of_renewal place id (heard.Lease results.Ok number) = record { id = id; place = place; deed = renewed number } ∷ []
notes_of_renewal place id _ = []

abbrev pub notes_of_removal : ℕ → List ℕ → Hearing → List LeaseNote
notes_of_removal place id (heard.Lease results.Ok number) = record { id = id; place = place; deed = removed } ∷ []
notes_of_removal place id _ = []

-- what a message that came to the leader did to its lease
abbrev pub notes_of_content : Leader → ℕ → Content → Hearing → List LeaseNote
notes_of_content s place (contents.LeaseAdd id) hearing = notes_of_add s place id hearing
notes_of_content s place (contents.LeaseRenew id number) hearing = notes_of_renewal place id hearing
notes_of_content s place (contents.LeaseRemove id) hearing = notes_of_removal place id hearing
notes_of_content s place _ hearing = []

-- the kept requests that are answered once each copy has their lease
abbrev pub notes_of_kept : Leader → Copies → ℕ → List LeaseNote
notes_of_kept s next place =
    map {A = KeptRequest} {B = LeaseNote} (λ k. record { id = k.id; place = place; deed = answered (greatest_floor next) }) (filter (λ k. all_hold k.id next) s.kept)

abbrev pub notes_of_message : Leader → Copies → ℕ → Hearing → Option Frame → List LeaseNote
notes_of_message s next place hearing None = []
notes_of_message s next place hearing (Some m) = notes_of_kept s next place ++ notes_of_content s place m.content hearing

-- the notes of an entry, the newest first: `next` are the leader's copies after it, and `delivered` is the message that came to the
-- leader. Kept requests are answered after a message, a sync and the loss of a replica alone.
abbrev pub notes_of : Leader → Copies → ℕ → Option Frame → Event → Reply → List LeaseNote
notes_of s next place delivered (events.Deliver at copy keep) (replies.Heard hearing) = notes_of_message s next place hearing delivered
notes_of s next place delivered (events.Sync sides.Leader copy) replies.Done = notes_of_kept s next place
notes_of s next place delivered (events.FailCopy sides.Leader copy) replies.Done = notes_of_kept s next place
notes_of s next place delivered events.Expire (replies.Expired list) =
    map {A = Expired} {B = LeaseNote} (λ lease. record { id = lease.id; place = place; deed = dropped }) list
notes_of s next place delivered _ _ = []
