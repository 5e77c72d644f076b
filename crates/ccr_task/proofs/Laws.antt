-- What is kept over a task's calls, by the laws of its functions.
use Rattle.std.proofs.Common.{◌≡◌, ℕ, length, List, [], ◌∷◌, ◌++◌, Option, Some, None, Result, Ok, Err, refl, sym, subst}
use Rattle.ccr_wire.specs.Message.{Frame}
use Rattle.ccr_wire.specs.declared.content.Content.{Content}
use Rattle.ccr_wire.specs.declared.content.Content.TheVariants as contents
use Rattle.ccr_journal.specs.Params.{AreInRange}
use Rattle.ccr_journal.specs.declared.params.ParamValues.{ParamValues}
use Rattle.ccr_journal.specs.declared.sides.Phase.TheVariants as phases
use Rattle.ccr_model.specs.Tasks.{Task, Read, Write, read_sent, write_sent, started, stopped, after_reply, filled_if_active, write_ended, ticked, bytes_of}
use Rattle.ccr_model.specs.Past.{Line, WrittenBatch}
use Rattle.ccr_model.specs.TaskFacts.{IsBounded}
use Rattle.ccr_law_tasks.specs.GoodTask.{IsGoodTask}
use Rattle.ccr_law_tasks.proofs.Calls.{started-good, reply-good, ticked-good, write_ended-good, stopped-good, calm-good}
use Rattle.ccr_law_tasks.proofs.TaskSays.{says-true, says-bounded, says-once}
use Rattle.ccr_task.specs.declared.task.Taken.{Taken}
use Rattle.ccr_task.specs.Does.{Did}
use Rattle.ccr_task.specs.Takes.{Takes}
use Rattle.ccr_task.specs.Ends.{EndsWrite}
use Rattle.ccr_task.specs.declared.task.TaskFault.{TaskFault}
use Rattle.std.specs.Result.{OnOk}
use Rattle.ccr_task.specs.Keeps.{IsWell, StartsWell, StaysWell, HearsWell, EndsWell, LoadsWell}

well : (line : Line) (t : Task) (begun_at : ℕ) (written : List WrittenBatch) → IsGoodTask line t begun_at written → IsWell line t begun_at written
well line t begun_at written good = record {
  good = good;
  stated = record {
    truth = says-true line begun_at written t good;
    bounded = says-bounded line begun_at written t good;
    once = λ active. says-once line begun_at written t active good;
  };
}

-- of a task that is another name of the same
well_at : (line : Line) (t u : Task) (begun_at : ℕ) (written : List WrittenBatch) → u ≡ t → IsGoodTask line t begun_at written → IsWell line u begun_at written
well_at line t u begun_at written is good = well line u begun_at written (subst (λ (x : Task). IsGoodTask line x begun_at written) (sym is) good)

pub starts-well : (params : ParamValues) (count epoch : ℕ) (history follower : List ℕ) (request : ℕ) (t : Task) (sent : List Frame) → AreInRange params
    → Did t [] sent (started params count epoch history follower request) → StartsWell t count epoch
starts-well params count epoch history follower request t sent in_range did line written none =
    well_at line (started params count epoch history follower request).next t count written did.next (started-good line params count epoch history follower request written in_range none)

pub ticks-well : (now : ℕ) (old new : Task) (sent : List Frame) → Did new [] sent (ticked now old) → StaysWell old new
ticks-well now old new sent did line begun_at written good =
    well_at line (ticked now old).next new begun_at written did.next (ticked-good line begun_at written old now good)

ends_at : (number : ℕ) (found : Option Write) (result : Result (List Frame) TaskFault) (old new : Task) → write_sent old number ≡ found → EndsWrite old found result new → OnOk result (EndsWell old found new)
ends_at number found (Err fault) old new is ends = tt
ends_at number None (Ok sent) old new is ends = absurd ends
ends_at number (Some w) (Ok sent) old new is did =
    λ line begun_at written x there good.
    let same : w ≡ x = cc in
    subst (λ (y : Write). IsWell line new begun_at (written ++ record { epoch = old.epoch; batch = y.batch } ∷ [])) same
    (well_at line (write_ended old w).next new begun_at (written ++ record { epoch = old.epoch; batch = w.batch } ∷ []) did.next
    (write_ended-good line begun_at written old number w is good))

pub ends-well : (number : ℕ) (result : Result (List Frame) TaskFault) (old new : Task) → EndsWrite old (write_sent old number) result new → OnOk result (EndsWell old (write_sent old number) new)
ends-well number result old new ends = ends_at number (write_sent old number) result old new refl ends

hears-well_at : (t : Task) (request : ℕ) (content : Content) (found : Option Read) (taken : Taken) (new : Task) → read_sent t request ≡ found → Takes t content found taken new → HearsWell t request content new
hears-well_at t request content None taken new is takes line begun_at written answers good = well_at line t new begun_at written takes.1 good
hears-well_at t request (contents.ReadReply from global ops) (Some r) taken new is takes line begun_at written answers good =
    well_at line (filled_if_active (after_reply t r global ops)).next new begun_at written takes.1 (reply-good line begun_at written t r request from global ops (answers r is) good)
hears-well_at t request (contents.ReadMissing from floor) (Some r) taken new is takes line begun_at written answers good =
    well_at line (stopped phases.Missing (record t { retry = 0 })) new begun_at written takes.1
    (stopped-good line begun_at written (record t { retry = 0 }) phases.Missing refl (calm-good line begun_at written t 0 good))
hears-well_at t request (contents.ReadHistory history) (Some r) taken new is takes line begun_at written answers good =
    well_at line (stopped phases.History (record t { retry = 0 })) new begun_at written takes.1
    (stopped-good line begun_at written (record t { retry = 0 }) phases.History refl (calm-good line begun_at written t 0 good))
hears-well_at t request _ (Some r) taken new is takes line begun_at written answers good = well_at line t new begun_at written takes.1 good

pub hears-well : (t : Task) (request : ℕ) (content : Content) (taken : Taken) (new : Task) → Takes t content (read_sent t request) taken new → HearsWell t request content new
hears-well t request content taken new takes = hears-well_at t request content (read_sent t request) taken new refl takes

pub loads-well : (t : Task) → LoadsWell t (record { reads = length t.reads; buffer = length t.buffer; bytes = bytes_of t.buffer; writes = length t.writes })
loads-well t line begun_at written good =
    let bounded : IsBounded line t = says-bounded line begun_at written t good in
    record { reads = bounded.reads; writes = bounded.writes; buffer = bounded.buffer; bytes = bounded.bytes }
