-- A task asks for nothing below a number, now and later in its epoch.
use Rattle.std.specs.Prelude.{◌≡◌, ℕ, ◌+◌, ◌≤◌, List, Some}
use Rattle.std.specs.List.{AllByRecursion}
use Rattle.ccr_op.specs.Operation.{Operation}
use Rattle.ccr_journal.specs.declared.params.ParamValues.{ParamValues}
use Rattle.ccr_journal.specs.declared.sides.Phase.{Phase}
use Rattle.ccr_model.specs.Tasks.{Task, Read, Write, started, after_reply, filled_if_active, read_sent, read_lost, write_lost, write_ended, ticked, stopped, least_from}
use Rattle.ccr_model.specs.Past.{Line, WrittenBatch}
use Rattle.ccr_law_tasks.specs.GoodTask.{IsGoodTask}

-- all that the task asks for, and all that it never asked for, is at or above the number
pub record IsFromOn (n : ℕ) (t : Task) : Type 0 where
  pub next : n ≤ t.next
  pub reads : AllByRecursion (λ (r : Read). n ≤ r.from) t.reads

-- it stays so over a change
abbrev pub StaysFrom : (Task → Task) → Type 0
StaysFrom change = (n : ℕ) (t : Task) → IsFromOn n t → IsFromOn n (change t)

abbrev pub StartsFrom : Type 0
StartsFrom = (n : ℕ) (params : ParamValues) (count epoch : ℕ) (history follower : List ℕ) (request : ℕ) → n ≤ count → IsFromOn n (started params count epoch history follower request).next

-- a reply to a read that was sent, whatever it brings
abbrev pub RepliesFrom : Type 0
RepliesFrom = (n : ℕ) (t : Task) (r : Read) (request global : ℕ) (ops : List Operation) → read_sent t request ≡ Some r → IsFromOn n t → IsFromOn n (filled_if_active (after_reply t r global ops)).next

-- over a loss, a retry, an ended write, a drawn number, a stop and another phase
pub record StaysFromOn : Type 0 where
  pub read_lost : (now : ℕ) (r : Read) → StaysFrom (λ t. read_lost t now r)
  pub write_lost : (now : ℕ) (w : Write) → StaysFrom (λ t. write_lost t now w)
  pub ticked : (now : ℕ) → StaysFrom (λ t. (ticked now t).next)
  pub write_ended : (w : Write) → StaysFrom (λ t. (write_ended t w).next)
  pub drawn : StaysFrom (λ t. record t { next_request = t.next_request + 1 })
  pub stopped : (phase : Phase) → StaysFrom (stopped phase)
  pub rested : (phase : Phase) → StaysFrom (λ t. record t { phase = phase })

-- the least number that is asked for is one
abbrev pub IsFromLeast : Type 0
IsFromLeast = (line : Line) (begun_at : ℕ) (written : List WrittenBatch) (t : Task) → IsGoodTask line t begun_at written → IsFromOn (least_from t.next t.reads) t
