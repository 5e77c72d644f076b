-- Short words for worked values.
use Rattle.std.specs.Prelude.{ℕ, Bool, List, [], ◌∷◌, map, None}
use Rattle.ccr_op.specs.Operation.{Operation}
use Rattle.ccr_op.specs.declared.operation.Kind.TheVariants.{Index, Delete, NoOp}
use Rattle.ccr_tracker.specs.Numbers.{Numbers}
use Rattle.ccr_lease.specs.declared.retention.Lease.{Lease}
use Rattle.ccr_lease.specs.Leases.{Collection}
use Rattle.ccr_wire.specs.Message.{Frame}
use Rattle.ccr_wire.specs.declared.content.Content.{Content}
use Rattle.ccr_journal.specs.declared.params.ParamValues.{ParamValues}
use Rattle.ccr_journal.specs.declared.sides.Phase.TheVariants as phases
use Rattle.ccr_model.specs.Requests.{Progress}
use Rattle.ccr_model.specs.Copies.{Copy, Replica, Copies}
use Rattle.ccr_model.specs.Leaders.{Leader, Poll, KeptRequest}
use Rattle.ccr_model.specs.Tasks.{Task, Read, Write}
use Rattle.ccr_model.specs.Followers.{Follower, Work}

-- a no-op of a number, which takes 17 bytes
abbrev pub op : ℕ → Operation
op seq = record { seq = seq; term = 1; version = 0; kind = NoOp }

abbrev pub numbers : List Operation → List ℕ
numbers ops = map {A = Operation} {B = ℕ} (λ op. op.seq) ops

abbrev pub read : ℕ → ℕ → ℕ → ℕ → Progress → Read
read request from to asked progress = record { request = request; from = from; to = to; asked = asked; progress = progress }

abbrev pub write : ℕ → List Operation → Progress → Write
write number batch progress = record { number = number; batch = batch; progress = progress }

-- parameters where the buffer's bounds are these; a retry waits 500 milliseconds at most
abbrev pub params : ℕ → ℕ → ParamValues
params count size = record {
  max_read_request_operation_count = 5;
  max_read_request_size = 1000;
  max_outstanding_read_requests = 2;
  max_write_request_operation_count = 5;
  max_write_request_size = 1000;
  max_outstanding_write_requests = 1;
  max_write_buffer_count = count;
  max_write_buffer_size = size;
  max_retry_delay = 500;
  read_poll_timeout = 60000;
  chunk_size = 1048576;
}

-- an active task with these parts; its next request has number 9, and it knows of 20 operations
abbrev pub task : ParamValues → ℕ → ℕ → List Read → List Operation → List Write → Task
task params retry next reads buffer writes = record {
  params = params;
  history = [];
  follower = [];
  phase = phases.Active;
  epoch = 1;
  next_request = 9;
  retry = retry;
  next = next;
  known = 20;
  reads = reads;
  buffer = buffer;
  next_write = 4;
  writes = writes;
}

-- an operation of a number that puts the document of a one-letter id in place, and one that removes it
abbrev pub index_of : ℕ → ℕ → Operation
index_of seq letter = record { seq = seq; term = 1; version = 1; kind = Index (letter ∷ []) None [] }

abbrev pub delete_of : ℕ → ℕ → Operation
delete_of seq letter = record { seq = seq; term = 1; version = 1; kind = Delete (letter ∷ []) None }

-- a no-op of a number and a term
abbrev pub op_of_term : ℕ → ℕ → Operation
op_of_term term seq = record { seq = seq; term = term; version = 0; kind = NoOp }

-- all numbers below a count, and those with some above a gap
abbrev pub below : ℕ → Numbers
below count = record { count = count; above = [] }

abbrev pub gapped : ℕ → List ℕ → Numbers
gapped count above = record { count = count; above = above }

abbrev pub lease : ℕ → ℕ → ℕ → Lease
lease letter number stamp = record { id = letter ∷ []; number = number; stamp = stamp }

abbrev pub leases : ℕ → ℕ → List Lease → Collection
leases term version held = record { term = term; version = version; leases = held }

-- a copy with these numbers and operations in its open part; its leases are of term 3 and version 6
abbrev pub copy : ℕ → Numbers → List Operation → ℕ → ℕ → ℕ → List Lease → Copy
copy number seen ops global floor commit held = record {
  number = number;
  seen = seen;
  store = record { parts = []; open_part = ops };
  global = global;
  floor = floor;
  commit = commit;
  leases = leases 3 6 held;
}

abbrev pub replica : Copy → ℕ → Bool → Bool → Replica
replica copy known resynced acked = record { copy = copy; known = known; resynced = resynced; acked = acked }

-- the copies of a shard in term 3, whose next copy has the number 7
abbrev pub shard : Copy → List Replica → Copies
shard primary replicas = record { term = 3; primary = primary; replicas = replicas; next = 7 }

-- a UUID that ends with two bytes, before which there are zeros
abbrev pub uuid : List ℕ → List ℕ
uuid end = 0 ∷ 0 ∷ 0 ∷ 0 ∷ 0 ∷ 0 ∷ 0 ∷ 0 ∷ 0 ∷ 0 ∷ 0 ∷ 0 ∷ 0 ∷ 0 ∷ end

-- a leader at the time 1000 whose leases last 100 milliseconds; its history is told by the byte 8, and its first one is 5
abbrev pub leader : Copies → Leader
leader copies = record {
  start = record { copies = 2; history = uuid (0 ∷ 5 ∷ []); period = 100; retention = 2 };
  history = 8 ∷ [];
  copies = copies;
  stale = [];
  now = 1000;
  next_session = 4;
  sessions = [];
  kept = [];
  polls = [];
}

-- a read of a follower, told by one byte, from a number on at a copy; it waits 50 milliseconds, and came at 900
abbrev pub poll : ℕ → ℕ → ℕ → ℕ → Poll
poll follower request copy from = record {
  follower = follower ∷ [];
  request = request;
  copy = copy;
  history = 8 ∷ [];
  from = from;
  max_ops = 5;
  max_bytes = 1000;
  timeout = 50;
  parked = 900;
}

-- a request of the follower 9 for the lease of a letter
abbrev pub kept : ℕ → ℕ → Bool → KeptRequest
kept request letter existed = record { follower = 9 ∷ []; request = request; id = letter ∷ []; existed = existed }

-- a message from or to the follower 9
abbrev pub message : ℕ → Content → Frame
message request content = record { follower = 9 ∷ []; request = request; content = content }

-- a follower at the time 1000 in epoch 3, with one renewal that stands; it follows the history 8
abbrev pub follower : Work → Copies → Follower
follower work copies = record {
  lease = 97 ∷ [];
  history = 8 ∷ [];
  params = params 100 10000;
  retention = 2;
  now = 1000;
  work = work;
  lease_requests = 2 ∷ [];
  epoch = 3;
  copies = copies;
}
