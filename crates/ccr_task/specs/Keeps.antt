-- What a task keeps over its calls: from the count at which its epoch began each number below the least that was never
-- asked for has its one place, an active task leaves nothing undone, and its reads, writes, batches and its buffer are
-- bounded by its parameters.
use Rattle.std.specs.Prelude.{◌≡◌, ℕ, ◌+◌, ◌-◌, ◌*◌, ◌≤◌, max, List, [], ◌∷◌, ◌++◌, Option, Some}
use Rattle.ccr_wire.specs.declared.content.Content.{Content}
use Rattle.ccr_wire.specs.declared.content.Content.TheVariants as contents
use Rattle.ccr_journal.specs.declared.params.ParamValues.{ParamValues}
use Rattle.ccr_model.specs.Tasks.{Task, Read, Write, read_sent}
use Rattle.ccr_model.specs.Past.{Line, WrittenBatch}
use Rattle.ccr_model.specs.TaskFacts.{written_in, largest}
use Rattle.ccr_law_tasks.specs.GoodTask.{IsGoodTask, IsTrueReply}
use Rattle.ccr_law_tasks.specs.TaskLaws.{IsAsStated}
use Rattle.ccr_task.specs.declared.task.Load.{Load}

-- the task is good, and so all that is stated of one holds of it
pub record IsWell (line : Line) (t : Task) (begun_at : ℕ) (written : List WrittenBatch) : Type 0 where
  pub good : IsGoodTask line t begun_at written
  pub stated : IsAsStated line t begun_at written

-- it starts an epoch in which no write ended
abbrev pub StartsWell : Task → ℕ → ℕ → Type 0
StartsWell t count epoch = (line : Line) (written : List WrittenBatch) → written_in epoch written ≡ [] → IsWell line t count written

abbrev pub StaysWell : Task → Task → Type 0
StaysWell old new = (line : Line) (begun_at : ℕ) (written : List WrittenBatch) → IsGoodTask line old begun_at written → IsWell line new begun_at written

-- a reply to a read begins where the read does, has consecutive numbers and committed operations alone, and no more than was asked for
abbrev pub IsTrueAnswer : Line → Task → ℕ → Content → Type 0
IsTrueAnswer line t request (contents.ReadReply from global ops) = (r : Read) → read_sent t request ≡ Some r → IsTrueReply line t r request from ops
IsTrueAnswer line t request _ = Unit {0}

abbrev pub HearsWell : Task → ℕ → Content → Task → Type 0
HearsWell old request content new =
    (line : Line) (begun_at : ℕ) (written : List WrittenBatch) → IsTrueAnswer line old request content → IsGoodTask line old begun_at written → IsWell line new begun_at written

-- the batch of the write counts as written
abbrev pub EndsWell : Task → Option Write → Task → Type 0
EndsWell old found new = (line : Line) (begun_at : ℕ) (written : List WrittenBatch) (w : Write) → found ≡ Some w
    → IsGoodTask line old begun_at written → IsWell line new begun_at (written ++ record { epoch = old.epoch; batch = w.batch } ∷ [])

-- what is under way is bounded by the parameters, and the bytes by the largest operation of the line besides
pub record IsLoadBounded (line : Line) (p : ParamValues) (load : Load) : Type 0 where
  pub reads : load.reads ≤ p.max_outstanding_read_requests
  pub writes : load.writes ≤ p.max_outstanding_write_requests
  pub buffer : load.buffer ≤ p.max_write_buffer_count - 1 + p.max_outstanding_read_requests * p.max_read_request_operation_count
  pub bytes : load.bytes ≤ p.max_write_buffer_size - 1 + p.max_outstanding_read_requests * max p.max_read_request_size (largest line)

abbrev pub LoadsWell : Task → Load → Type 0
LoadsWell t load = (line : Line) (begun_at : ℕ) (written : List WrittenBatch) → IsGoodTask line t begun_at written → IsLoadBounded line t.params load
