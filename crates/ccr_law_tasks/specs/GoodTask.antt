-- What holds of a follower's task at every place, strengthened until each of its functions keeps it.
use Rattle.std.specs.Prelude.{◌≡◌, ℕ, ◌+◌, ◌-◌, ◌*◌, ◌≤◌, ◌<◌, true, ◌==◌, max, List, length, map, take, count_by, Some}
use Rattle.std.specs.List.{AllByRecursion}
use Rattle.ccr_op.specs.Operation.{Operation}
use Rattle.ccr_journal.specs.Params.{AreInRange}
use Rattle.ccr_model.specs.Operations.{size_of}
use Rattle.ccr_model.specs.Requests.{is_sent}
use Rattle.ccr_model.specs.Copies.{greatest}
use Rattle.ccr_model.specs.Tasks.{Task, Read, Write, is_active, bytes_of, read_sent, is_held}
use Rattle.ccr_model.specs.Past.{Line, WrittenBatch, committed}
use Rattle.ccr_model.specs.FrameFacts.{IsCommitted, BringsAsAsked}
use Rattle.ccr_wire.specs.Message.{IsRun}
use Rattle.ccr_model.specs.TaskFacts.{StandsOnce, IsSaturated, IsBoundedBatch, batches_of}

-- a read is for numbers from where the epoch began to below the least number that was never asked for; it asks for all of these, and for at
-- most so many; one that is held for what is left asks for no more than that
pub record IsGoodRead (most begun_at next_request next : ℕ) (r : Read) : Type 0 where
  pub drawn : r.request < next_request
  pub begins : begun_at ≤ r.from
  pub ordered : r.from ≤ r.to
  pub below : r.to ≤ next
  pub enough : r.to ≤ r.from + r.asked
  pub asked : r.asked ≤ most
  pub exact : is_held r ≡ true → r.from + r.asked ≤ r.to

-- no two reads have one request number
pub record AreGoodReads (most most_reads begun_at next_request next : ℕ) (reads : List Read) : Type 0 where
  pub all : AllByRecursion (IsGoodRead most begun_at next_request next) reads
  pub apart : (k : ℕ) → count_by (λ (r : Read). r.request == k) reads ≤ 1
  pub few : length reads ≤ most_reads

-- no two writes have one number
pub record AreGoodWrites (max_ops max_bytes most_writes next_write : ℕ) (writes : List Write) : Type 0 where
  pub drawn : AllByRecursion (λ (w : Write). w.number < next_write) writes
  pub apart : (k : ℕ) → count_by (λ (w : Write). w.number == k) writes ≤ 1
  pub few : length writes ≤ most_writes
  pub batches : AllByRecursion (λ (w : Write). IsBoundedBatch max_ops max_bytes w.batch) writes

-- the size of the largest committed operation
abbrev pub largest_committed : Line → ℕ
largest_committed line = greatest (map {A = Operation} {B = ℕ} size_of (committed line))

-- a later line begins with the same committed operations
pub record IsLater (line next : Line) : Type 0 where
  pub cut : line.cut ≤ next.cut
  pub prefix : take line.cut (committed next) ≡ committed line

-- how many reads are in the sent state
abbrev pub sent_count : List Read → ℕ
sent_count reads = count_by (λ (r : Read). is_sent r.progress) reads

-- a measure of the buffer leaves room for what each read that isn't in the sent state may have brought since the buffer was below its bound
abbrev pub HasRoom : ℕ → ℕ → ℕ → ℕ → ℕ → Type 0
HasRoom bound most_reads most sent load = load ≤ bound - 1 + (most_reads - sent) * most

-- all but that nothing is left undone
pub record IsSoundTask (line : Line) (t : Task) (begun_at : ℕ) (written : List WrittenBatch) : Type 0 where
  pub params : AreInRange t.params
  pub begun : begun_at ≤ t.next
  pub reads : AreGoodReads t.params.max_read_request_operation_count t.params.max_outstanding_read_requests begun_at t.next_request t.next t.reads
  pub writes : AreGoodWrites t.params.max_write_request_operation_count t.params.max_write_request_size t.params.max_outstanding_write_requests t.next_write t.writes
  pub places : is_active t.phase ≡ true → StandsOnce t begun_at written
  pub room : HasRoom t.params.max_write_buffer_count t.params.max_outstanding_read_requests t.params.max_read_request_operation_count (sent_count t.reads) (length t.buffer)
  pub space : HasRoom t.params.max_write_buffer_size t.params.max_outstanding_read_requests (max t.params.max_read_request_size (largest_committed line)) (sent_count t.reads) (bytes_of t.buffer)
  pub buffer : AllByRecursion (IsCommitted line) t.buffer
  pub batches : AllByRecursion (IsCommitted line) (batches_of t.writes)

pub record IsGoodTask (line : Line) (t : Task) (begun_at : ℕ) (written : List WrittenBatch) : Type 0 where
  pub sound : IsSoundTask line t begun_at written
  pub saturated : is_active t.phase ≡ true → IsSaturated t

-- the read was sent under this request number, and a reply to it begins at its number, has consecutive numbers, is within what it asked
-- for, and has committed operations alone
pub record IsTrueReply (line : Line) (t : Task) (r : Read) (request from : ℕ) (ops : List Operation) : Type 0 where
  pub sent : read_sent t request ≡ Some r
  pub brings : BringsAsAsked from ops (record { task = t; read = r })
  pub run : IsRun from ops
  pub committed : AllByRecursion (IsCommitted line) ops
