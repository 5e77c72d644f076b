-- What each function of a follower's task keeps.
use Rattle.std.specs.Prelude.{◌≡◌, ℕ, ◌+◌, true, false, List, [], ◌∷◌, ◌++◌, Some}
use Rattle.ccr_op.specs.Operation.{Operation}
use Rattle.ccr_journal.specs.Params.{AreInRange}
use Rattle.ccr_journal.specs.declared.params.ParamValues.{ParamValues}
use Rattle.ccr_journal.specs.declared.sides.Phase.{Phase}
use Rattle.ccr_model.specs.Tasks.{Task, Read, Write, is_active, started, after_reply, filled_if_active, read_lost, write_lost, write_sent, write_ended, ticked, stopped}
use Rattle.ccr_model.specs.Past.{Line, WrittenBatch}
use Rattle.ccr_model.specs.TaskFacts.{IsTrueTask, IsBounded, AsksOnce, written_in}
use Rattle.ccr_law_tasks.specs.GoodTask.{IsLater, IsGoodTask, IsTrueReply}

-- a task that starts an epoch in which no write ended is good
abbrev pub StartsWell : Type 0
StartsWell = (line : Line) (params : ParamValues) (count epoch : ℕ) (history follower : List ℕ) (request : ℕ) (written : List WrittenBatch)
    → AreInRange params → written_in epoch written ≡ [] → IsGoodTask line (started params count epoch history follower request).next count written

-- a task stays good over a change
abbrev pub Keeps : (Task → Task) → Type 0
Keeps change = (line : Line) (begun_at : ℕ) (written : List WrittenBatch) (t : Task) → IsGoodTask line t begun_at written → IsGoodTask line (change t) begun_at written

-- a reply to a read that was sent is taken, and what may be done then is done
abbrev pub TakesReplies : Type 0
TakesReplies = (line : Line) (begun_at : ℕ) (written : List WrittenBatch) (t : Task) (r : Read) (request from global : ℕ) (ops : List Operation)
    → IsTrueReply line t r request from ops → IsGoodTask line t begun_at written → IsGoodTask line (filled_if_active (after_reply t r global ops)).next begun_at written

-- a write that was sent has ended
abbrev pub EndsWrites : Type 0
EndsWrites = (line : Line) (begun_at : ℕ) (written : List WrittenBatch) (t : Task) (number : ℕ) (w : Write) → write_sent t number ≡ Some w
    → IsGoodTask line t begun_at written → IsGoodTask line (write_ended t w).next begun_at (written ++ record { epoch = t.epoch; batch = w.batch } ∷ [])

abbrev pub LosesReads : Type 0
LosesReads = (now : ℕ) (r : Read) → Keeps (λ t. read_lost t now r)

abbrev pub LosesWrites : Type 0
LosesWrites = (now : ℕ) (w : Write) → Keeps (λ t. write_lost t now w)

abbrev pub Retries : Type 0
Retries = (now : ℕ) → Keeps (λ t. (ticked now t).next)

abbrev pub DrawsNumbers : Type 0
DrawsNumbers = Keeps (λ t. record t { next_request = t.next_request + 1 })

-- a task that isn't active any more
abbrev pub Stops : Type 0
Stops = (phase : Phase) → is_active phase ≡ false → Keeps (stopped phase) × Keeps (λ t. record t { phase = phase })

-- it stays good where the line has more committed operations
abbrev pub StaysGood : Type 0
StaysGood = (line next : Line) (begun_at : ℕ) (written : List WrittenBatch) (t : Task) → IsLater line next → IsGoodTask line t begun_at written → IsGoodTask next t begun_at written

-- what is stated of a task holds of a good one
pub record IsAsStated (line : Line) (t : Task) (begun_at : ℕ) (written : List WrittenBatch) : Type 0 where
  pub truth : IsTrueTask line t begun_at written
  pub bounded : IsBounded line t
  pub once : is_active t.phase ≡ true → AsksOnce t written

abbrev pub TellsTruly : Type 0
TellsTruly = (line : Line) (begun_at : ℕ) (written : List WrittenBatch) (t : Task) → IsGoodTask line t begun_at written → IsAsStated line t begun_at written
