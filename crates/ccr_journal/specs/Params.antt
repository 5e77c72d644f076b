-- The bounds of what a follower shard is made with.
use Rattle.std.specs.Prelude.{ℕ, ◌≤◌, ◌<◌, ◌^◌, ◌+◌}
use Rattle.ccr_journal.specs.declared.params.ParamValues.{ParamValues}

-- a shard has 1 to 8 copies
pub record IsCopyCount (copies : ℕ) : Type 0 where
  pub some : 1 ≤ copies
  pub few : copies ≤ 8

-- n is from 1 to below limit
pub record IsFrom1Below (limit n : ℕ) : Type 0 where
  pub some : 1 ≤ n
  pub below : n < limit

-- each parameter is in its range
pub record AreInRange (p : ParamValues) : Type 0 where
  pub max_read_request_operation_count : IsFrom1Below (2 ^ 31) p.max_read_request_operation_count
  pub max_read_request_size : IsFrom1Below (2 ^ 63) p.max_read_request_size
  pub max_outstanding_read_requests : IsFrom1Below (2 ^ 31) p.max_outstanding_read_requests
  pub max_write_request_operation_count : IsFrom1Below (2 ^ 31) p.max_write_request_operation_count
  pub max_write_request_size : IsFrom1Below (2 ^ 63) p.max_write_request_size
  pub max_outstanding_write_requests : IsFrom1Below (2 ^ 31) p.max_outstanding_write_requests
  pub max_write_buffer_count : IsFrom1Below (2 ^ 31) p.max_write_buffer_count
  pub max_write_buffer_size : IsFrom1Below (2 ^ 63) p.max_write_buffer_size
  pub max_retry_delay : IsFrom1Below (2 ^ 53) p.max_retry_delay
  pub read_poll_timeout : IsFrom1Below (2 ^ 53) p.read_poll_timeout
  pub chunk_size : IsFrom1Below (2 ^ 24 + 1) p.chunk_size
