-- How long what was lost waits, and how losses are counted.
use Rattle.std.specs.Prelude.{◌≡◌, [], ◌∷◌, Some}
use Rattle.ccr_wire.specs.declared.content.Content.TheVariants.{NotReady}
use Rattle.ccr_model.specs.Requests.{on_its_way, waiting, delay, retry_time}
use Rattle.ccr_model.specs.Tasks.{Task, read_lost, write_lost, write_ended}
use Rattle.ccr_model.specs.Restores.{Restore, leasing, restore_lost, hear_leasing}
use Rattle.ccr_model_values.specs.Words.{op, read, write, params, task}

-- the delay doubles from 50 milliseconds on, up to the 24th loss, and is no greater than the longest
pub record Doubles : Type 0 where
  pub first : delay 500 1 ≡ 50
  pub second : delay 500 2 ≡ 100
  pub fourth : delay 500 4 ≡ 400
  pub fifth : delay 500 5 ≡ 500
  pub greatest : delay 9007199254740991 24 ≡ 419430400
  pub no_greater : delay 9007199254740991 25 ≡ 419430400
  pub end : retry_time 500 18446744073709551600 4 ≡ 18446744073709551615

-- a task that lost a request once before: a read, and a write that was lost then
abbrev pub began : Task
began = task (params 100 10000) 1 8 (read 3 5 8 3 on_its_way ∷ []) [] (write 2 (op 4 ∷ []) on_its_way ∷ [])

abbrev pub after_read : Task
after_read = read_lost began 1000 (read 3 5 8 3 on_its_way)

abbrev pub after_write : Task
after_write = write_lost after_read 1000 (write 2 (op 4 ∷ []) on_its_way)

-- the second loss waits 100 milliseconds, and the third, of a write, 200: there is one count for both. A write that ends sets it to 0.
pub record CountLosses : Type 0 where
  pub second : after_read.retry ≡ 2
  pub read_waits : after_read.reads ≡ read 3 5 8 3 (waiting 1100) ∷ []
  pub third : after_write.retry ≡ 3
  pub write_waits : after_write.writes ≡ write 2 (op 4 ∷ []) (waiting 1200) ∷ []
  pub ended : (write_ended after_write (write 2 (op 4 ∷ []) on_its_way)).next.retry ≡ 0

-- a bootstrap that asked for its lease under request 0, and was told once that the leader isn't ready
abbrev pub asking : Restore
asking = record { lease = []; follower = []; history = []; chunk_size = 1; max_retry_delay = 500; next_request = 1; retry = 1; stage = leasing (record { request = 0; progress = on_its_way }) }

-- told again it waits 100 milliseconds; told that the lease is there it counts from 0 on again
pub record CountRefusals : Type 0 where
  pub refused : hear_leasing asking 1000 0 (NotReady 1) ≡ Some record {
    next = record asking { retry = 2; stage = leasing (record { request = 0; progress = waiting 1100 }) };
    sent = [];
  }
  pub lost : (restore_lost asking 1000 0).retry ≡ 2
