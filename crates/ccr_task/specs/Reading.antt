-- What a task reads: its reads in the order in which they were begun, and the number of its next request.
use Rattle.std.specs.Prelude.{ℕ, List}
use Rattle.ccr_model.specs.Tasks.{Read}

pub record Reading : Type 0 where
  pub next_request : ℕ
  pub reads : List Read
