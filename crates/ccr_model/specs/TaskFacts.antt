-- What holds of an active task at every place of a legal journal, and the bounds of its memory.
use Rattle.std.specs.Prelude.{◌≡◌, ◌⊎◌, ℕ, ◌+◌, ◌-◌, ◌*◌, ◌≤◌, ◌<◌, Bool, true, false, ◌&&◌, ◌==◌, nat_lt, nat_le, max, if◌then◌else◌, List, [], length, map, filter, flat_map, count_by}
use Rattle.std.specs.List.{AllByRecursion, list_any}
use Rattle.ccr_op.specs.Operation.{Operation}
use Rattle.ccr_model.specs.Operations.{size_of}
use Rattle.ccr_model.specs.Copies.{greatest}
use Rattle.ccr_model.specs.Requests.{Progress, on_its_way, waiting, held_back}
use Rattle.ccr_model.specs.Tasks.{Task, Read, Write, is_active, bytes_of, may_read, has_budget, is_held}
use Rattle.ccr_model.specs.Past.{Line, WrittenBatch}
use Rattle.ccr_model.specs.FrameFacts.{IsCommitted}

-- ---- where each number is

-- how many of the operations have this number
abbrev pub times_in : ℕ → List Operation → ℕ
times_in n ops = count_by (λ op. op.seq == n) ops

-- the number is one of those that the read is for
abbrev pub is_in_read : ℕ → Read → Bool
is_in_read n r = nat_le r.from n && nat_lt n r.to

abbrev pub batches_of : List Write → List Operation
batches_of writes = flat_map {X = Write} {A = Operation} (λ w. w.batch) writes

-- the operations of an epoch whose writes ended
abbrev pub written_in : ℕ → List WrittenBatch → List Operation
written_in epoch written = flat_map {X = WrittenBatch} {A = Operation} (λ w. w.batch) (filter (λ w. w.epoch == epoch) written)

-- in how many reads, operations of the buffer, of outstanding writes and of ended writes of the epoch a number stands
abbrev pub times_at : Task → List WrittenBatch → ℕ → ℕ
times_at t written n =
    count_by (is_in_read n) t.reads + times_in n t.buffer + times_in n (batches_of t.writes) + times_in n (written_in t.epoch written)

-- from the count at which the epoch began, each number below `next` stands in exactly one of these, and no other number in any
abbrev pub StandsOnce : Task → ℕ → List WrittenBatch → Type 0
StandsOnce t begun_at written = (n : ℕ) → begun_at ≤ n → times_at t written n ≡ (if nat_lt n t.next then 1 else 0)

-- ---- nothing that may be done is left undone

pub record IsSaturated (t : Task) : Type 0 where
  pub writes : (t.buffer ≡ []) ⊎ (t.params.max_outstanding_write_requests ≤ length t.writes)
  pub held : may_read t ≡ true → AllByRecursion (λ (r : Read). is_held r ≡ false) t.reads
  pub reads : has_budget t ≡ true → t.known ≤ t.next
  pub one : has_budget t ≡ true → 1 ≤ length t.reads

-- what holds of a task: where it is active, each number has its one place and nothing is left undone; what it has to write is committed
pub record IsTrueTask (line : Line) (t : Task) (begun_at : ℕ) (written : List WrittenBatch) : Type 0 where
  pub places : is_active t.phase ≡ true → StandsOnce t begun_at written
  pub saturated : is_active t.phase ≡ true → IsSaturated t
  pub buffer : AllByRecursion (IsCommitted line) t.buffer
  pub batches : AllByRecursion (IsCommitted line) (batches_of t.writes)

-- ---- bounds

-- the size of the largest operation of the line
abbrev pub largest : Line → ℕ
largest line = greatest (map {A = Operation} {B = ℕ} size_of line.ops)

-- a batch has at most so many operations, and at most so many bytes unless it is one operation
pub record IsBoundedBatch (max_ops max_bytes : ℕ) (batch : List Operation) : Type 0 where
  pub number : length batch ≤ max_ops
  pub size : (bytes_of batch ≤ max_bytes) ⊎ (length batch ≡ 1)

-- the reads, the writes, the batches and the buffer of a task are bounded by its parameters
pub record IsBounded (line : Line) (t : Task) : Type 0 where
  pub reads : length t.reads ≤ t.params.max_outstanding_read_requests
  pub writes : length t.writes ≤ t.params.max_outstanding_write_requests
  pub batches : AllByRecursion (λ (w : Write). IsBoundedBatch t.params.max_write_request_operation_count t.params.max_write_request_size w.batch) t.writes
  pub buffer : length t.buffer ≤ t.params.max_write_buffer_count - 1 + t.params.max_outstanding_read_requests * t.params.max_read_request_operation_count
  pub bytes : bytes_of t.buffer ≤ t.params.max_write_buffer_size - 1 + t.params.max_outstanding_read_requests * max t.params.max_read_request_size (largest line)

-- ---- epochs

-- the number was received in this epoch
abbrev pub is_received : Task → List WrittenBatch → ℕ → Bool
is_received t written n = nat_lt 0 (times_in n t.buffer + times_in n (batches_of t.writes) + times_in n (written_in t.epoch written))

-- no number that was received is still asked for or will be asked for in this epoch
pub record AsksOnce (t : Task) (written : List WrittenBatch) : Type 0 where
  pub reads : AllByRecursion (λ (r : Read). (n : ℕ) → is_in_read n r ≡ true → is_received t written n ≡ false) t.reads
  pub later : (n : ℕ) → t.next ≤ n → is_received t written n ≡ false

-- a read that was lost asks again for what it asked for: a request from this number on for so many operations repeats it
abbrev pub is_waiting : Progress → Bool
is_waiting on_its_way = false
is_waiting (waiting until) = true
is_waiting held_back = false

abbrev pub is_repeated : Task → ℕ → ℕ → Bool
is_repeated t from max_ops = list_any (λ r. (r.from == from) && (r.asked == max_ops) && is_waiting r.progress) t.reads

-- none of the numbers that a request asks for was received in the task's epoch
abbrev pub AsksUnreceived : Task → List WrittenBatch → ℕ → ℕ → Type 0
AsksUnreceived t written from max_ops = (n : ℕ) → from ≤ n → n < from + max_ops → is_received t written n ≡ false
