-- What the events of the leader's side come to.
use Rattle.std.specs.Prelude.{ℕ, ◌+◌, ◌-◌, Bool, true, false, not, ◌&&◌, ◌==◌, nat_lt, max, if◌then◌else◌, List, [], ◌∷◌, ◌++◌, length, map, filter, count_by, Option, Some, None, is_some, Ok, Err}
use Rattle.std.specs.Option.{option_map_or}
use Rattle.std.specs.List.{list_all, fold, range_with_len}
use Rattle.ccr_op.specs.Operation.{Operation}
use Rattle.ccr_op.specs.declared.operation.Kind.{Kind}
use Rattle.ccr_op.specs.declared.operation.Kind.TheVariants.{Index, Delete, NoOp}
use Rattle.ccr_tracker.specs.Numbers.{Numbers, has, kept_below, marked}
use Rattle.ccr_lease.specs.Leases.{after_expiry, expired}
use Rattle.ccr_doc.specs.Sources.{compact_of}
use Rattle.ccr_doc.specs.declared.sources.BadSource.{BadSource as SourceFault}
use Rattle.ccr_wire.specs.Message.{Frame}
use Rattle.ccr_wire.specs.declared.kind.LeaseResult.TheVariants as results
use Rattle.ccr_wire.specs.declared.content.Content.TheVariants.{LeaseAdded, LeaseAnswer}
use Rattle.ccr_journal.specs.declared.requests.WriteRequest.{WriteRequest}
use Rattle.ccr_journal.specs.declared.replies.Reply.{Reply}
use Rattle.ccr_journal.specs.declared.replies.Reply.TheVariants as replies
use Rattle.ccr_journal.specs.declared.replies.Wrote.{Wrote}
use Rattle.ccr_journal.specs.declared.replies.WriteResult.{WriteResult}
use Rattle.ccr_journal.specs.declared.replies.WriteResult.TheVariants.{Created, Updated, Deleted, NotFound}
use Rattle.ccr_journal.specs.declared.replies.Refusal.TheVariants.{BadSource, Conflict, Exists, NoStale}
use Rattle.ccr_model.specs.Operations.{live, run_from}
use Rattle.ccr_model.specs.Stores.{Store, held, sifted, stored_all}
use Rattle.ccr_model.specs.Outcomes.{Outcome, refused, answered, guarded, within}
use Rattle.ccr_model.specs.Copies.{Copy, Replica, Copies, replica_of, copy_of, replaced, counted, taking, all_copies, statuses_of, greatest, greatest_floor, has_lease}
use Rattle.ccr_model.specs.CopyRows.{not_replica, replicate_row, ack_row, sync_row, fail_copy_row, add_copy_row, flush_row, merge_row, succeeded, unknown}
use Rattle.ccr_model.specs.Leaders.{Leader, Session, KeptRequest, history_of_term, with_stale, stale_of}

abbrev pub with_copies : Leader → Copies → Leader
with_copies s copies = record s { copies = copies }

-- ---- requests for leases that are kept

-- each in-sync copy has the lease
abbrev pub all_hold : List ℕ → Copies → Bool
all_hold id s = list_all (has_lease id) (all_copies s)

-- the answer to a request for a lease: both carry the greatest floor of the in-sync copies
abbrev pub lease_answer : Copies → KeptRequest → Frame
lease_answer s k = record {
  follower = k.follower;
  request = k.request;
  content = if k.existed then LeaseAnswer results.Exists (greatest_floor s) else LeaseAdded (greatest_floor s);
}

-- the kept requests whose lease each copy has are answered, in the order in which they were kept
abbrev pub with_due_answers : Outcome Leader → Outcome Leader
with_due_answers o = record {
  reply = o.reply;
  next = record o.next { kept = filter (λ k. not (all_hold k.id o.next.copies)) o.next.kept };
  sent = o.sent ++ map {A = KeptRequest} {B = Frame} (lease_answer o.next.copies) (filter (λ k. all_hold k.id o.next.copies) o.next.kept);
}

-- that is done after an event by which a copy may have gained a lease, or a copy without one may have left, unless it was refused
abbrev pub answering_kept : Reply → Outcome Leader → Outcome Leader
answering_kept (replies.Refused why) o = o
answering_kept _ o = with_due_answers o

abbrev pub settling_requests : Outcome Leader → Outcome Leader
settling_requests o = answering_kept o.reply o

-- ---- writes

-- the compact source of a request, where it has one that can be read
abbrev pub source_fault : Option (List ℕ) → Option SourceFault
source_fault None = None
source_fault (Some body) = elim (compact_of body) as (λ _. Option SourceFault) [ Ok text ↦ None | Err fault ↦ Some fault ]

-- what a request does, where its source can be read
abbrev pub kind_of_request : List ℕ → Option (List ℕ) → Option (List ℕ) → Kind
kind_of_request id routing None = Delete id routing
kind_of_request id routing (Some body) = elim (compact_of body) as (λ _. Kind) [ Ok text ↦ Index id routing text | Err fault ↦ Delete id routing ]

-- the operation of a document, as a conflict tells it
abbrev pub place_of_live : Option Operation → Option (ℕ × ℕ)
place_of_live None = None
place_of_live (Some op) = Some (op.seq, op.term)

-- the document's operation isn't the one that was expected
abbrev pub conflicts : Option (ℕ × ℕ) → Option Operation → Bool
conflicts None found = false
conflicts (Some expected) None = true
conflicts (Some expected) (Some op) = not ((op.seq == expected.0) && (op.term == expected.1))

abbrev pub number_of : Option Operation → ℕ
number_of found = option_map_or (λ op. op.seq) found 0

abbrev pub result_of : Option (List ℕ) → Option Operation → WriteResult
result_of (Some body) (Some op) = Updated
result_of (Some body) None = Created
result_of None (Some op) = Deleted
result_of None None = NotFound

-- what a write is answered: the primary's count is its number, and its version is one more than the live document's
abbrev pub wrote_at : Copies → WriteRequest → Option Operation → Wrote
wrote_at s request found = record {
  seq = s.primary.seen.count;
  term = s.term;
  version = option_map_or (λ op. op.version + 1) found 1;
  result = result_of request.body found;
}

abbrev pub written_operation : WriteRequest → Wrote → Operation
written_operation request wrote = record {
  seq = wrote.seq;
  term = wrote.term;
  version = wrote.version;
  kind = kind_of_request request.id request.routing request.body;
}

-- the copies, where the primary takes an operation
abbrev pub primary_takes : Copies → Operation → Copies
primary_takes s op = counted record s { primary = taking s.primary op.seq (Some op) }

-- the operation takes the next number at the primary; `found` is what put the live document of its id in place
unfoldable pub write_row : Copies → WriteRequest → Option SourceFault → Option Operation → Outcome Copies
write_row s request (Some fault) found = refused s (BadSource fault)
write_row s request None found =
    guarded s
    ((conflicts request.expect found, Conflict (place_of_live found)) ∷ (request.create && is_some found, Exists (number_of found)) ∷ [])
    (let wrote = wrote_at s request found in
    answered (replies.Written wrote) (primary_takes s (written_operation request wrote)))

-- ---- promotion and resync

-- the greatest of the processed numbers, and one more: 0 where there is none
abbrev pub end_of : Numbers → ℕ
end_of seen = greatest (seen.count ∷ map {A = ℕ} {B = ℕ} (λ n. n + 1) seen.above)

-- the numbers below the greatest that aren't processed
abbrev pub missing_numbers : Numbers → List ℕ
missing_numbers seen = filter (λ n. not (has seen n)) (range_with_len seen.count (end_of seen - seen.count))

-- the copy takes no-ops of a term for these numbers
abbrev pub filled : ℕ → List ℕ → Copy → Copy
filled term [] c = c
filled term (n ∷ numbers) c = filled term numbers (taking c n (Some record { seq = n; term = term; version = 0; kind = NoOp }))

-- the replica as the primary of the next term: it has no gap, and its leases are of the new term at the version that they had
abbrev pub as_primary : ℕ → Copy → Copy
as_primary term c =
    let whole = filled term (missing_numbers c.seen) c in
    record whole { leases = record whole.leases { term = term } }

-- a promotion ends the sessions, the kept requests, and the polls at the copy that is lost
unfoldable pub leader_promote_row : Leader → ℕ → Option Replica → Outcome Leader
leader_promote_row s copy None = refused s (not_replica s.copies copy)
leader_promote_row s copy (Some r) =
    answered (replies.Promoted (s.copies.term + 1) (length (missing_numbers r.copy.seen))) record s {
      copies = succeeded s.copies copy (as_primary (s.copies.term + 1) r.copy) unknown;
      sessions = [];
      kept = [];
      polls = filter (λ p. not (p.copy == s.copies.primary.number)) s.polls;
    }

-- a stale copy as the only one, in a new term: it has no gap, all that it has is committed, and it has no lease
abbrev pub as_only_copy : ℕ → Copy → Copy
as_only_copy term c =
    let whole = filled term (missing_numbers c.seen) c in
    record whole { global = whole.seen.count; leases = record { term = term; version = 0; leases = [] } }

-- a stale copy is made the primary, alone: a new history begins, and all other copies, the sessions, the kept requests and the polls end
unfoldable pub force_promote_row : Leader → ℕ → Option Copy → Outcome Leader
force_promote_row s copy None = refused s (NoStale copy)
force_promote_row s copy (Some c) =
    answered (replies.Forced (s.copies.term + 1) (length (missing_numbers c.seen))) record s {
      history = history_of_term s.start.history (s.copies.term + 1);
      copies = record s.copies { term = s.copies.term + 1; primary = as_only_copy (s.copies.term + 1) c; replicas = [] };
      stale = [];
      sessions = [];
      kept = [];
      polls = [];
    }

-- from where on a resync replaces what the replica has
abbrev pub resync_mark : Copies → Replica → ℕ
resync_mark s r = max r.copy.global s.primary.global

-- the replica's operations from the mark on go, and the primary's from there come in their place
abbrev pub resynced_copy : Copies → ℕ → Copy → Copy
resynced_copy s mark c = record c {
  seen = fold {A = ℕ} {B = Numbers} marked (kept_below c.seen mark) (range_with_len mark (s.primary.seen.count - mark));
  store = stored_all (run_from (held s.primary.store) mark s.primary.seen.count) (sifted (λ op. nat_lt op.seq mark) c.store);
}

-- how many operations at or above the mark are held
abbrev pub held_from : ℕ → Store → ℕ
held_from mark store = count_by (λ op. not (nat_lt op.seq mark)) (held store)

unfoldable pub resync_row : Copies → ℕ → Option Replica → Outcome Copies
resync_row s copy None = refused s (not_replica s copy)
resync_row s copy (Some r) =
    if r.resynced then answered (replies.Resynced 0 0) s
    else answered (replies.Resynced (held_from (resync_mark s r) r.copy.store) (s.primary.seen.count - resync_mark s r)) record s {
      replicas = replaced copy (record r { copy = resynced_copy s (resync_mark s r) r.copy; resynced = true }) s.replicas;
    }

-- ---- copies that leave, clocks, leases, sessions

-- a copy that left is kept as stale, and the polls at it end
unfoldable pub leader_fail_copy_row : Leader → ℕ → Option Replica → Outcome Leader
leader_fail_copy_row s copy None = within (with_copies s) (fail_copy_row s.copies copy None)
leader_fail_copy_row s copy (Some r) =
    within
    (λ copies. record s { copies = copies; stale = with_stale r.copy s.stale; polls = filter (λ p. not (p.copy == copy)) s.polls })
    (fail_copy_row s.copies copy (Some r))

unfoldable pub leader_clock_row : Leader → ℕ → Outcome Leader
leader_clock_row s now = answered replies.Done record s { now = now }

-- the primary drops the leases that have expired
unfoldable pub expire_row : Leader → Outcome Leader
expire_row s =
    answered (replies.Expired (expired s.now s.start.period s.copies.primary.leases.leases)) record s {
      copies = record s.copies { primary = record s.copies.primary { leases = after_expiry s.now s.start.period s.copies.primary.leases } };
    }

-- how long a session may be idle, in milliseconds
abbrev pub session_period : ℕ
session_period = 60000

abbrev pub is_idle : ℕ → Session → Bool
is_idle now session = nat_lt (session.activity + session_period) now

unfoldable pub close_sessions_row : Leader → Outcome Leader
close_sessions_row s =
    answered (replies.Closed (count_by (is_idle s.now) s.sessions)) record s { sessions = filter (λ session. not (is_idle s.now session)) s.sessions }

unfoldable pub leader_status_row : Leader → Outcome Leader
leader_status_row s = answered (replies.LeaderStatus s.copies.term (statuses_of s.copies) s.copies.primary.leases.leases) s

-- ---- the calls of the leader's side

abbrev pub leader_write : Leader → WriteRequest → Outcome Leader
leader_write s request =
    within (with_copies s) (write_row s.copies request (source_fault request.body) (live (held s.copies.primary.store) request.id))

abbrev pub leader_replicate : Leader → ℕ → ℕ → Outcome Leader
leader_replicate s copy seq = within (with_copies s) (replicate_row s.copies copy seq (replica_of s.copies copy))

abbrev pub leader_ack : Leader → ℕ → Outcome Leader
leader_ack s copy = within (with_copies s) (ack_row s.copies copy (replica_of s.copies copy))

abbrev pub leader_sync : Leader → ℕ → Outcome Leader
leader_sync s copy = settling_requests (within (with_copies s) (sync_row s.copies copy (replica_of s.copies copy)))

abbrev pub leader_promote : Leader → ℕ → Outcome Leader
leader_promote s copy = leader_promote_row s copy (replica_of s.copies copy)

abbrev pub leader_force_promote : Leader → ℕ → Outcome Leader
leader_force_promote s copy = force_promote_row s copy (stale_of s.stale copy)

abbrev pub leader_resync : Leader → ℕ → Outcome Leader
leader_resync s copy = within (with_copies s) (resync_row s.copies copy (replica_of s.copies copy))

abbrev pub leader_fail_copy : Leader → ℕ → Outcome Leader
leader_fail_copy s copy = settling_requests (leader_fail_copy_row s copy (replica_of s.copies copy))

abbrev pub leader_add_copy : Leader → Outcome Leader
leader_add_copy s = within (with_copies s) (add_copy_row s.copies)

abbrev pub leader_flush : Leader → ℕ → Outcome Leader
leader_flush s copy = within (with_copies s) (flush_row s.copies copy (copy_of s.copies copy))

abbrev pub leader_merge : Leader → ℕ → List ℕ → Outcome Leader
leader_merge s copy picks = within (with_copies s) (merge_row s.copies s.start.retention copy picks (copy_of s.copies copy))

abbrev pub leader_clock : Leader → ℕ → Outcome Leader
leader_clock s now = leader_clock_row s now

abbrev pub leader_expire : Leader → Outcome Leader
leader_expire s = expire_row s

abbrev pub leader_close_sessions : Leader → Outcome Leader
leader_close_sessions s = close_sessions_row s

abbrev pub leader_status : Leader → Outcome Leader
leader_status s = leader_status_row s
