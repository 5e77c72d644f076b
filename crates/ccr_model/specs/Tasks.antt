-- The task of a follower shard: what it reads from the leader, what it has read, and the writes to its primary.
use Rattle.std.specs.Prelude.{ℕ, ◌+◌, ◌-◌, Bool, true, false, ◌&&◌, ◌==◌, nat_lt, min, max, if◌then◌else◌, zero, suc, List, [], ◌∷◌, ◌++◌, length, drop, map, filter, find, Option}
use Rattle.std.specs.List.{fold}
use Rattle.ccr_op.specs.Operation.{Operation}
use Rattle.ccr_wire.specs.Message.{Frame}
use Rattle.ccr_wire.specs.declared.content.Content.TheVariants as contents
use Rattle.ccr_journal.specs.declared.params.ParamValues.{ParamValues}
use Rattle.ccr_journal.specs.declared.sides.Phase.{Phase}
use Rattle.ccr_journal.specs.declared.sides.Phase.TheVariants as phases
use Rattle.ccr_model.specs.Operations.{is_empty, size_of, with_ops, cut_of}
use Rattle.ccr_model.specs.Requests.{Progress, on_its_way, waiting, held_back, is_sent, is_due, Sending, quiet, followed_by, retry_time}

-- a read of the numbers from `from` to below `to`; `asked` is how many operations it asked for under its last request number
pub record Read : Type 0 where
  pub request : ℕ
  pub from : ℕ
  pub to : ℕ
  pub asked : ℕ
  pub progress : Progress

-- a batch that the follower's primary is to apply, under its number in the epoch
pub record Write : Type 0 where
  pub number : ℕ
  pub batch : List Operation
  pub progress : Progress

-- `next` is the least number that was never asked for, `known` the greatest count of the leader that was learnt. The reads ascend by
-- `from`, the buffer and the writes by number.
pub record Task : Type 0 where
  pub params : ParamValues
  pub history : List ℕ
  pub follower : List ℕ
  pub phase : Phase
  pub epoch : ℕ
  pub next_request : ℕ
  pub retry : ℕ
  pub next : ℕ
  pub known : ℕ
  pub reads : List Read
  pub buffer : List Operation
  pub next_write : ℕ
  pub writes : List Write

abbrev pub is_active : Phase → Bool
is_active phases.Active = true
is_active _ = false

abbrev pub bytes_of : List Operation → ℕ
bytes_of [] = 0
bytes_of (op ∷ ops) = size_of op + bytes_of ops

-- a read may be sent: the buffer is below both its bounds
abbrev pub may_read : Task → Bool
may_read t = nat_lt (length t.buffer) t.params.max_write_buffer_count && nat_lt (bytes_of t.buffer) t.params.max_write_buffer_size

-- one more read may be begun
abbrev pub has_budget : Task → Bool
has_budget t = nat_lt (length t.reads) t.params.max_outstanding_read_requests && may_read t

-- ---- what is sent

-- the read's request, under this number
abbrev pub read_frame : Task → ℕ → Read → Frame
read_frame t request r = record {
  follower = t.follower;
  request = request;
  content = contents.ReadRequest t.history r.from r.asked t.params.max_read_request_size t.params.read_poll_timeout;
}

-- a read that is begun is sent under the next request number
abbrev pub with_read : Task → ℕ → ℕ → ℕ → Sending Task
with_read t from to asked =
    let r : Read = record { request = t.next_request; from = from; to = to; asked = asked; progress = on_its_way } in
    record {
      next = record t { next_request = t.next_request + 1; reads = t.reads ++ r ∷ []; next = to };
      sent = read_frame t t.next_request r ∷ [];
    }

-- the reads, where the one of a request number is changed
abbrev pub changed_read : ℕ → (Read → Read) → List Read → List Read
changed_read request change [] = []
changed_read request change (r ∷ reads) = if r.request == request then change r ∷ reads else r ∷ changed_read request change reads

abbrev pub without_read : ℕ → List Read → List Read
without_read request [] = []
without_read request (r ∷ reads) = if r.request == request then reads else r ∷ without_read request reads

-- a read is sent again, under the next request number
abbrev pub sent_again : Task → Read → Sending Task
sent_again t r = record {
  next = record t {
    next_request = t.next_request + 1;
    reads = changed_read r.request (λ own. record own { request = t.next_request; progress = on_its_way }) t.reads;
  };
  sent = read_frame t t.next_request r ∷ [];
}

-- these reads are sent again, one after the other
abbrev pub all_sent_again : List Read → Task → Sending Task
all_sent_again [] t = quiet t
all_sent_again (r ∷ reads) t = followed_by (sent_again t r) (all_sent_again reads)

-- ---- Fill, after each event that changed an active task

-- a batch of the least numbers of the buffer becomes the next write
abbrev pub with_batch : Task → Task
with_batch t =
    let batch = cut_of t.params.max_write_request_operation_count t.params.max_write_request_size t.buffer in
    record t {
      buffer = drop (length batch) t.buffer;
      next_write = t.next_write + 1;
      writes = t.writes ++ record { number = t.next_write; batch = batch; progress = on_its_way } ∷ [];
    }

-- at most so many more writes, as long as the buffer has operations
abbrev pub with_batches : ℕ → Task → Task
with_batches zero t = t
with_batches (suc n) t = if is_empty t.buffer then t else with_batches n (with_batch t)

-- 1: while fewer writes are outstanding than may be, and the buffer has operations, a batch is taken
abbrev pub fill_writes : Task → Task
fill_writes t = with_batches (min (t.params.max_outstanding_write_requests - length t.writes) (length t.buffer)) t

abbrev pub is_held : Read → Bool
is_held r = elim r.progress as (λ _. Bool) [ on_its_way ↦ false | waiting until ↦ false | held_back ↦ true ]

-- 2: held reads are sent, in ascending `from`
abbrev pub fill_held : Task → Sending Task
fill_held t = if may_read t then all_sent_again (filter is_held t.reads) t else quiet t

-- how many operations a new read asks for: the most where no read is outstanding, and else those that it is for
abbrev pub asks : Task → ℕ → ℕ
asks t size = if is_empty t.reads then t.params.max_read_request_operation_count else size

-- the next read up to what is known
abbrev pub next_read : Task → Sending Task
next_read t =
    let to = min t.known (t.next + t.params.max_read_request_operation_count) in
    with_read t t.next to (asks t (to - t.next))

-- at most so many more reads, as long as one may be begun and there is something to read
abbrev pub with_reads : ℕ → Task → Sending Task
with_reads zero t = quiet t
with_reads (suc n) t = if has_budget t && nat_lt t.next t.known then followed_by (next_read t) (with_reads n) else quiet t

-- 3: while a read may be begun and `next` is below `known`, the next read is
abbrev pub fill_reads : Task → Sending Task
fill_reads t = with_reads (min (t.params.max_outstanding_read_requests - length t.reads) (t.known - t.next)) t

-- 4: where no read is outstanding and one may be begun, one peek is
abbrev pub fill_peek : Task → Sending Task
fill_peek t = if is_empty t.reads && has_budget t then with_read t t.next t.next t.params.max_read_request_operation_count else quiet t

abbrev pub fill : Task → Sending Task
fill t = followed_by (followed_by (fill_held (fill_writes t)) fill_reads) fill_peek

-- an active task is filled, another is left as it is
abbrev pub filled_if_active : Task → Sending Task
filled_if_active t = if is_active t.phase then fill t else quiet t

-- ---- start and stop

-- the task of an epoch, from a count on; its first request has this number
abbrev pub started : ParamValues → ℕ → ℕ → List ℕ → List ℕ → ℕ → Sending Task
started params count epoch history follower request = fill record {
  params = params;
  history = history;
  follower = follower;
  phase = phases.Active;
  epoch = epoch;
  next_request = request;
  retry = 0;
  next = count;
  known = count;
  reads = [];
  buffer = [];
  next_write = 0;
  writes = [];
}

-- the task of a bootstrap that ended without one: it never began an epoch, and is stopped
abbrev pub never_started : ParamValues → List ℕ → List ℕ → ℕ → Phase → Task
never_started params history follower request phase = record {
  params = params;
  history = history;
  follower = follower;
  phase = phase;
  epoch = 0;
  next_request = request;
  retry = 0;
  next = 0;
  known = 0;
  reads = [];
  buffer = [];
  next_write = 0;
  writes = [];
}

-- the task is stopped: reads and buffer are dropped, outstanding writes stay
abbrev pub stopped : Phase → Task → Task
stopped phase t = record t { phase = phase; reads = []; buffer = [] }

-- ---- replies to reads

-- the read that a message answers: the one that was sent under its number
abbrev pub read_sent : Task → ℕ → Option Read
read_sent t request = find (λ r. (r.request == request) && is_sent r.progress) t.reads

-- the operations of a reply that are kept: those below `to`, and those beyond where nothing else was asked for
abbrev pub kept_of : Task → Read → List Operation → List Operation
kept_of t r ops = if t.next == r.to then ops else filter (λ op. nat_lt op.seq r.to) ops

-- one more than the greatest number of the operations, and n where that is more
abbrev pub end_of_ops : List Operation → ℕ → ℕ
end_of_ops [] n = n
end_of_ops (op ∷ ops) n = end_of_ops ops (max n (op.seq + 1))

-- the first number that a reply leaves to be read
abbrev pub rest_from : Read → List Operation → ℕ
rest_from r ops = r.from + length (filter (λ op. nat_lt op.seq r.to) ops)

-- the reads after a reply: the read is held for what is left below `to`, and ends where nothing is
abbrev pub reads_after : Read → List Operation → List Read → List Read
reads_after r ops reads =
    let from = rest_from r ops in
    if nat_lt from r.to
    then changed_read r.request (λ own. record own { from = from; asked = r.to - from; progress = held_back }) reads
    else without_read r.request reads

abbrev pub after_reply : Task → Read → ℕ → List Operation → Task
after_reply t r global ops = record t {
  retry = 0;
  known = max t.known global;
  buffer = with_ops (kept_of t r ops) t.buffer;
  next = if t.next == r.to then end_of_ops ops t.next else t.next;
  reads = reads_after r ops t.reads;
}

-- ---- losses and retries

-- the reads that were sent, in ascending request number
abbrev pub by_request : Read → List Read → List Read
by_request r [] = r ∷ []
by_request r (x ∷ reads) = if nat_lt r.request x.request then r ∷ x ∷ reads else x ∷ by_request r reads

abbrev pub in_order_of_request : List Read → List Read
in_order_of_request reads = fold {A = Read} {B = List Read} (λ rest r. by_request r rest) [] reads

abbrev pub sent_reads : Task → List Read
sent_reads t = in_order_of_request (filter (λ r. is_sent r.progress) t.reads)

-- one more loss: the time until which what was lost waits
abbrev pub waits_after : Task → ℕ → Progress
waits_after t now = waiting (retry_time t.params.max_retry_delay now (t.retry + 1))

abbrev pub read_lost : Task → ℕ → Read → Task
read_lost t now r = record t {
  retry = t.retry + 1;
  reads = changed_read r.request (λ own. record own { progress = waits_after t now }) t.reads;
}

abbrev pub changed_write : ℕ → (Write → Write) → List Write → List Write
changed_write number change [] = []
changed_write number change (w ∷ writes) = if w.number == number then change w ∷ writes else w ∷ changed_write number change writes

abbrev pub write_lost : Task → ℕ → Write → Task
write_lost t now w = record t {
  retry = t.retry + 1;
  writes = changed_write w.number (λ own. record own { progress = waits_after t now }) t.writes;
}

-- the write of a number, where it is in the sent state
abbrev pub write_sent : Task → ℕ → Option Write
write_sent t number = find (λ w. (w.number == number) && is_sent w.progress) t.writes

abbrev pub without_write : ℕ → List Write → List Write
without_write number [] = []
without_write number (w ∷ writes) = if w.number == number then writes else w ∷ without_write number writes

-- a write has been applied by all copies
abbrev pub write_ended : Task → Write → Sending Task
write_ended t w = filled_if_active record t { retry = 0; writes = without_write w.number t.writes }

-- reads that are due are sent again in ascending request number, while the buffer is below its bounds
abbrev pub due_reads_sent : ℕ → Task → Sending Task
due_reads_sent now t =
    if may_read t then all_sent_again (in_order_of_request (filter (λ r. is_due now r.progress) t.reads)) t else quiet t

abbrev pub due_writes_sent : ℕ → Task → Task
due_writes_sent now t = record t { writes = map {A = Write} {B = Write} (λ w. if is_due now w.progress then record w { progress = on_its_way } else w) t.writes }

-- due reads, then due writes, then Fill
abbrev pub ticked : ℕ → Task → Sending Task
ticked now t = followed_by (due_reads_sent now t) (λ after. filled_if_active (due_writes_sent now after))

-- the least `from` of the outstanding reads, and `next` where there is none
abbrev pub least_from : ℕ → List Read → ℕ
least_from next [] = next
least_from next (r ∷ reads) = min r.from (least_from r.from reads)
