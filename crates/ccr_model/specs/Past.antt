-- What a journal tells beside the state: the line of operations of each history with its cut, what each copy was given, what was done to
-- the leases, where the messages in flight were sent, the sessions as they were opened, and how the followers' bootstraps and tasks went.
use Rattle.std.specs.Prelude.{ℕ, ◌+◌, ◌-◌, Bool, true, false, not, ◌&&◌, ◌==◌, nat_le, nat_lt, max, if◌then◌else◌, List, [], ◌∷◌, ◌++◌, length, take, filter, map, remove, slice_get, Option, Some, None}
use Rattle.std.specs.Option.{option_map_or, option_and_then}
use Rattle.std.specs.Str.{bytes_eq}
use Rattle.ccr_op.specs.Operation.{Operation}
use Rattle.ccr_wire.specs.Message.{Frame, kind_of_content}
use Rattle.ccr_journal.specs.declared.sides.Side.TheVariants as sides
use Rattle.ccr_journal.specs.declared.sides.Phase.{Phase}
use Rattle.ccr_journal.specs.declared.sides.Phase.TheVariants as phases
use Rattle.ccr_journal.specs.declared.events.Event.{Event}
use Rattle.ccr_journal.specs.declared.events.Event.TheVariants as events
use Rattle.ccr_journal.specs.declared.journals.Entry.{Entry}
use Rattle.ccr_journal.specs.declared.replies.Reply.{Reply}
use Rattle.ccr_journal.specs.declared.replies.Reply.TheVariants as replies
use Rattle.ccr_model.specs.Copies.{Copy, Replica, replica_of}
use Rattle.ccr_model.specs.Given.{none_given, gave, gaining, gaining_batch, plugged, joined_at, front_of, listed}
use Rattle.ccr_model.specs.Outcomes.{Outcome}
use Rattle.ccr_model.specs.Leaders.{Start, Leader, Session, stale_of}
use Rattle.ccr_model.specs.LeaderRows.{written_operation, end_of, resync_mark}
use Rattle.ccr_model.specs.LeaseHistory.{LeaseNote, notes_of}
use Rattle.ccr_model.specs.Followers.{Follower, phase_of_work}
use Rattle.ccr_model.specs.FollowerRows.{is_bootstrapping, sent_write}
use Rattle.ccr_model.specs.World.{State, start_state, goes_to_leader}
use Rattle.ccr_model.specs.Step.{outcome_at}

-- the operations of a history, the first `cut` of which are committed
pub record Line : Type 0 where
  pub ops : List Operation
  pub cut : ℕ

abbrev pub committed : Line → List Operation
committed line = take line.cut line.ops

-- the operations of a write that was answered as applied by each copy, with the epoch of its task
pub record WrittenBatch : Type 0 where
  pub epoch : ℕ
  pub batch : List Operation

-- of one follower: what each of its copies was given; where the lease answer was sent that its bootstrap took; the count of the session
-- that its copies were restored from; the count at which its task began its epoch; and the batches whose writes ended
pub record FollowerPast : Type 0 where
  pub given : ℕ → ℕ → Option Operation
  pub answer : Option ℕ
  pub restored : ℕ
  pub begun_at : ℕ
  pub written : List WrittenBatch

abbrev pub no_line : Line
no_line = record { ops = []; cut = 0 }

abbrev pub no_past : FollowerPast
no_past = record { given = none_given; answer = None; restored = 0; begun_at = 0; written = [] }

-- `place` is the number of the entries so far; `line` is that of the leader's history, and `ended` has those of the histories that ended, by
-- their UUIDs; the notes stand newest first, `earlier` are those from before the leader's history began; `sent_at` has a place for each
-- message in flight, that of the entry that sent it; `opened` are all sessions so far, as they were opened, and `opened_in` tells the history
-- in which the session of a number was
pub record Past : Type 0 where
  pub place : ℕ
  pub state : State
  pub line : Line
  pub ended : List ℕ → Line
  pub given : ℕ → ℕ → Option Operation
  pub notes : List LeaseNote
  pub earlier : List LeaseNote
  pub sent_at : List ℕ
  pub opened : List Session
  pub opened_in : ℕ → List ℕ
  pub followers : ℕ → FollowerPast

-- the line of a history: the leader's own, or one that ended
abbrev pub line_of : Past → List ℕ → Line
line_of p history = if bytes_eq history p.state.leader.history then p.line else p.ended history

-- all notes, the newest first
abbrev pub all_notes : Past → List LeaseNote
all_notes p = p.notes ++ p.earlier

abbrev pub start_past : Start → Past
start_past start = record {
  place = 0;
  state = start_state start;
  line = no_line;
  ended = λ history. no_line;
  given = none_given;
  notes = [];
  earlier = [];
  sent_at = [];
  opened = [];
  opened_in = λ number. start.history;
  followers = λ f. no_past;
}

-- ---- the leader's copies

-- the least number above all that the replica has processed
abbrev pub end_of_replica : Option Replica → ℕ
end_of_replica None = 0
end_of_replica (Some r) = end_of r.copy.seen

-- the least number above all that the stale copy has processed
abbrev pub end_of_stale : Option Copy → ℕ
end_of_stale None = 0
end_of_stale (Some c) = end_of c.seen

-- a resync gives the replica the primary's operations from the mark on in place of its own, unless it was resynced
abbrev pub resync_given : Leader → (ℕ → ℕ → Option Operation) → ℕ → Option Replica → ℕ → ℕ → Option Operation
resync_given s given copy None = given
resync_given s given copy (Some r) =
    if r.resynced then given
    else gave given copy (joined_at (resync_mark s.copies r) (given copy) (given s.copies.primary.number))

-- what the leader's copies were given, after an entry
abbrev pub given_after : Leader → (ℕ → ℕ → Option Operation) → Event → Reply → ℕ → ℕ → Option Operation
given_after s given (events.Write request) (replies.Written wrote) =
    gave given s.copies.primary.number (gaining (given s.copies.primary.number) wrote.seq (Some (written_operation request wrote)))
given_after s given (events.Replicate sides.Leader copy seq) replies.Done = gave given copy (gaining (given copy) seq (given s.copies.primary.number seq))
given_after s given (events.Promote sides.Leader copy) (replies.Promoted term filled) =
    gave given copy (plugged (given copy) term (end_of_replica (replica_of s.copies copy)))
given_after s given (events.ForcePromote copy) (replies.Forced term filled) =
    gave given copy (plugged (given copy) term (end_of_stale (stale_of s.stale copy)))
given_after s given (events.Resync copy) (replies.Resynced dropped taken) = resync_given s given copy (replica_of s.copies copy)
given_after s given (events.AddCopy sides.Leader) (replies.Added copy) = gave given copy (given s.copies.primary.number)
given_after s given _ _ = given

-- the line up to the cut, and from there the operations of the new primary
abbrev pub rewritten : Line → (ℕ → Option Operation) → ℕ → List Operation
rewritten line ops end = take line.cut line.ops ++ listed ops line.cut (end - line.cut)

-- the operations of the leader's history after an entry; `given` is what the copies were given up to and with it. A history that begins has
-- all that its only copy has.
abbrev pub line_after : Leader → Line → (ℕ → ℕ → Option Operation) → Event → Reply → List Operation
line_after s line given (events.Write request) (replies.Written wrote) = line.ops ++ written_operation request wrote ∷ []
line_after s line given (events.Promote sides.Leader copy) (replies.Promoted term filled) =
    rewritten line (given copy) (end_of_replica (replica_of s.copies copy))
line_after s line given (events.ForcePromote copy) (replies.Forced term filled) = listed (given copy) 0 (end_of_stale (stale_of s.stale copy))
line_after s line given _ _ = line.ops

-- what is committed of these before the leader's count is taken up: all of a history that begins
abbrev pub cut_after : Line → List Operation → Event → Reply → ℕ
cut_after line ops (events.ForcePromote copy) (replies.Forced term filled) = length ops
cut_after line ops _ _ = line.cut

-- the lines of the histories that ended: a history that begins ends the one before
abbrev pub ended_after : Past → Event → Reply → List ℕ → Line
ended_after p (events.ForcePromote copy) (replies.Forced term filled) = line_of p
ended_after p _ _ = p.ended

-- ---- the history of the leases, which begins with the leader's history

abbrev pub notes_kept : List LeaseNote → Event → Reply → List LeaseNote
notes_kept notes (events.ForcePromote copy) (replies.Forced term filled) = []
notes_kept notes _ _ = notes

abbrev pub notes_left : List LeaseNote → List LeaseNote → Event → Reply → List LeaseNote
notes_left notes earlier (events.ForcePromote copy) (replies.Forced term filled) = notes ++ earlier
notes_left notes earlier _ _ = earlier

-- ---- messages in flight and sessions

-- the message that an entry took or lost at a place of those in flight, where it stays or leaves
abbrev pub places_left : List ℕ → Event → Reply → List ℕ
places_left sent_at event (replies.Refused why) = sent_at
places_left sent_at (events.Deliver at copy keep) reply = if keep then sent_at else remove sent_at at
places_left sent_at (events.Drop at) reply = remove sent_at at
places_left sent_at _ reply = sent_at

-- the message that an entry delivered to the leader
abbrev pub delivered_to_leader : State → Event → Option Frame
delivered_to_leader s (events.Deliver at copy keep) =
    option_and_then (λ m. if goes_to_leader (kind_of_content m.content) then Some m else None) (slice_get s.flight at)
delivered_to_leader s _ = None

-- the sessions that were opened so far, with those that are new
abbrev pub opened_after : List Session → ℕ → List Session → List Session
opened_after opened next_session sessions = opened ++ filter (λ session. nat_le next_session session.number) sessions

-- the histories in which sessions were opened: that of the sessions that are new is the leader's
abbrev pub opened_in_after : (ℕ → List ℕ) → ℕ → List ℕ → ℕ → List ℕ
opened_in_after opened_in next_session history number = if nat_lt number next_session then opened_in number else history

-- ---- followers

-- the place where the message was sent that an entry delivered
abbrev pub sending_place : List ℕ → Event → Option ℕ
sending_place sent_at (events.Deliver at copy keep) = slice_get sent_at at
sending_place sent_at _ = None

abbrev pub is_leasing : Phase → Bool
is_leasing phases.Leasing = true
is_leasing _ = false

-- a bootstrap that leaves the phase in which it asks for its lease took the answer that was delivered
abbrev pub answer_after : Option ℕ → Phase → Phase → Option ℕ → Option ℕ
answer_after answer old new delivered = if is_leasing old && not (is_leasing new) then delivered else answer

-- the follower's bootstrap is over after an entry and was not before it
abbrev pub ends_bootstrap : Follower → Follower → Bool
ends_bootstrap old new = is_bootstrapping old.work && not (is_bootstrapping new.work)

-- the end of the bootstrap gives each copy the committed operations below the session's count, which each of them then knows; where it ends
-- without a task, its copies know of none. An apply gives the primary the line's operations of the batch's numbers, a replication gives a
-- copy the line's operation, and a new copy has what the primary has.
abbrev pub follower_given_after : ℕ → Follower → Follower → List Operation → (ℕ → ℕ → Option Operation) → Event → Reply → ℕ → ℕ → Option Operation
follower_given_after f old new line given (events.Deliver at copy keep) reply =
    if ends_bootstrap old new then (λ own. front_of new.copies.primary.global line) else given
follower_given_after f old new line given (events.Apply own epoch write batch) (replies.Applied count) =
    if own == f then gave given old.copies.primary.number (gaining_batch (given old.copies.primary.number) batch line) else given
follower_given_after f old new line given (events.Replicate (sides.Follower own) copy seq) replies.Done =
    if own == f then gave given copy (gaining (given copy) seq (slice_get line seq)) else given
follower_given_after f old new line given (events.AddCopy (sides.Follower own)) (replies.Added copy) =
    if own == f then gave given copy (given old.copies.primary.number) else given
follower_given_after f old new line given _ _ = given

-- the batch of a write that was answered as ended
abbrev pub written_after : ℕ → Follower → List WrittenBatch → Event → Reply → List WrittenBatch
written_after f old written (events.Written own write) replies.Done =
    if own == f
    then option_map_or (λ sent. written ++ record { epoch = old.epoch; batch = sent.write.batch } ∷ []) (sent_write old.work write) written
    else written
written_after f old written _ _ = written

-- the past of a follower that was there before and after an entry; a new epoch begins at the count that its primary then knows
abbrev pub follower_past_after : ℕ → FollowerPast → Option ℕ → Event → Reply → List Operation → Follower → Follower → FollowerPast
follower_past_after f past delivered event reply line old new = record {
  given = follower_given_after f old new line past.given event reply;
  answer = answer_after past.answer (phase_of_work old.work) (phase_of_work new.work) delivered;
  restored = if ends_bootstrap old new then new.copies.primary.global else past.restored;
  begun_at = if new.epoch == old.epoch then past.begun_at else new.copies.primary.global;
  written = written_after f old past.written event reply;
}

-- what it was given are operations of its own history, whose line is one of these
abbrev pub follower_past_of : ℕ → FollowerPast → Option ℕ → Event → Reply → (List ℕ → Line) → Option Follower → Option Follower → FollowerPast
follower_past_of f past delivered event reply lines None new = past
follower_past_of f past delivered event reply lines (Some old) None = past
follower_past_of f past delivered event reply lines (Some old) (Some new) =
    follower_past_after f past delivered event reply (lines old.history).ops old new

-- ---- the fold

-- the past after an entry, where this is what its event comes to
abbrev pub past_with : Past → Entry → Outcome State → Past
past_with p entry o =
    let given = given_after p.state.leader p.given entry.event entry.reply in
    let ops = line_after p.state.leader p.line given entry.event entry.reply in
    record {
      place = p.place + 1;
      state = o.next;
      line = record { ops = ops; cut = max (cut_after p.line ops entry.event entry.reply) o.next.leader.copies.primary.global };
      ended = ended_after p entry.event entry.reply;
      given = given;
      notes = notes_of p.state.leader o.next.leader.copies p.place (delivered_to_leader p.state entry.event) entry.event entry.reply ++ notes_kept p.notes entry.event entry.reply;
      earlier = notes_left p.notes p.earlier entry.event entry.reply;
      sent_at = places_left p.sent_at entry.event entry.reply ++ map {A = Frame} {B = ℕ} (λ m. p.place) o.sent;
      opened = opened_after p.opened p.state.leader.next_session o.next.leader.sessions;
      opened_in = opened_in_after p.opened_in p.state.leader.next_session o.next.leader.history;
      followers = λ f.
          follower_past_of f (p.followers f) (sending_place p.sent_at entry.event) entry.event entry.reply (line_of p)
          (slice_get p.state.followers f) (slice_get o.next.followers f);
    }

abbrev pub past_after : Past → Entry → Past
past_after p entry = past_with p entry (outcome_at p.state entry)

-- the past after all entries of a journal
abbrev pub past_of : Past → List Entry → Past
past_of p [] = p
past_of p (entry ∷ entries) = past_of (past_after p entry) entries
