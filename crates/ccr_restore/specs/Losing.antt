-- What the loss of a request is answered.
use Rattle.std.specs.Prelude.{ℕ, ◌+◌, ◌^◌, nat_lt, if◌then◌else◌, slice_get, Option, Some, None, Result, Ok, Err}
use Rattle.ccr_model.specs.Restores.{Restore, sent_requests, restore_lost}
use Rattle.ccr_restore.specs.declared.restore.RestoreFault.{RestoreFault}
use Rattle.ccr_restore.specs.declared.restore.RestoreFault.TheVariants.{NoRequest, Memory}

-- one more loss can be counted
abbrev pub loss_counted : ℕ → Result (Unit {0}) RestoreFault
loss_counted retry = if nat_lt (retry + 1) (2 ^ 64) then Ok tt else Err Memory

abbrev pub loss_of : ℕ → ℕ → Option ℕ → Result (Unit {0}) RestoreFault
loss_of retry at None = Err (NoRequest at)
loss_of retry at (Some request) = loss_counted retry

-- the answer to the loss of the request at a place among those that were sent
abbrev pub loss : Restore → ℕ → Result (Unit {0}) RestoreFault
loss s at = loss_of s.retry at (slice_get (sent_requests s.stage) at)

-- the bootstrap after it
abbrev pub after_loss_of : Restore → ℕ → Option ℕ → Restore
after_loss_of s now None = s
after_loss_of s now (Some request) = restore_lost s now request

abbrev pub after_loss : Restore → ℕ → ℕ → Restore
after_loss s now at = after_loss_of s now (slice_get (sent_requests s.stage) at)
