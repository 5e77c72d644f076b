-- No function of a task holds a write back, and a task that isn't active gets neither reads nor operations into its buffer.
use Rattle.std.specs.List.{AllByRecursion}
use Rattle.std.specs.Prelude.{filter, find}
use Rattle.std.proofs.Common.{◌≡◌, ℕ, zero, suc, ◌+◌, ◌-◌, min, ◌==◌, ◌&&◌, Bool, true, false, nat_lt, if◌then◌else◌, Some, None, List, [], ◌∷◌, length, refl, ap}
use Rattle.ccr_op.specs.Operation.{Operation}
use Rattle.ccr_journal.specs.declared.params.ParamValues.{ParamValues}
use Rattle.ccr_journal.specs.declared.sides.Phase.{Phase}
use Rattle.ccr_journal.specs.declared.sides.Phase.TheVariants as phases
use Rattle.ccr_model.specs.Operations.{is_empty, cut_of}
use Rattle.ccr_model.specs.Requests.{Progress, on_its_way, is_sent, is_due, Sending, quiet, followed_by}
use Rattle.ccr_model.specs.Tasks.{Task, Read, Write, is_active, may_read, has_budget, is_held, changed_read, with_read, sent_again, all_sent_again, with_batch, with_batches, fill_writes, fill_held, next_read, with_reads, fill_reads, fill_peek, fill, filled_if_active, started, stopped, read_sent, after_reply, in_order_of_request, read_lost, changed_write, write_lost, waits_after, without_write, write_ended, due_reads_sent, due_writes_sent, ticked}
use Rattle.ccr_law_base.proofs.Cases.{on_if}
use Rattle.ccr_law_base.proofs.Lists.{All-push, All-map, All-weaker}
use Rattle.ccr_law_settling_grounds.specs.Pending.{is_held_back, IsTaskPending}

abbrev pub IsNotHeldBack : Write → Type 0
IsNotHeldBack w = is_held_back w.progress ≡ false

-- ---- an active task

-- it is active, and none of its writes is held back
pub record IsBusy (t : Task) : Type 0 where
  pub active : is_active t.phase ≡ true
  pub writes : AllByRecursion IsNotHeldBack t.writes

not_both : (b : Bool) (P : Type 0) → b ≡ true → b ≡ false → P
not_both b P is isnt = cc

pub busy_pending : (t : Task) → IsBusy t → IsTaskPending t
busy_pending t busy = record {
  writes = busy.writes;
  reads = λ isnt. not_both (is_active t.phase) _ busy.active isnt;
  buffer = λ isnt. not_both (is_active t.phase) _ busy.active isnt;
}

batches_busy : (n : ℕ) (t : Task) → IsBusy t → IsBusy (with_batches n t)
batches_busy zero t busy = busy
batches_busy (suc n) t busy =
    let batch : List Operation = cut_of t.params.max_write_request_operation_count t.params.max_write_request_size t.buffer in
    let new : Write = record { number = t.next_write; batch = batch; progress = on_its_way } in
    on_if IsBusy (is_empty t.buffer) t (with_batches n (with_batch t)) (λ is. busy)
    (λ isnt. batches_busy n (with_batch t) (record { active = busy.active; writes = All-push IsNotHeldBack t.writes new busy.writes refl }))

again_busy : (rs : List Read) (t : Task) → IsBusy t → IsBusy (all_sent_again rs t).next
again_busy [] t busy = busy
again_busy (r ∷ rs) t busy = again_busy rs (sent_again t r).next (record { active = busy.active; writes = busy.writes })

held_busy : (t : Task) → IsBusy t → IsBusy (fill_held t).next
held_busy t busy =
    on_if (λ (done : Sending Task). IsBusy done.next) (may_read t) (all_sent_again (filter is_held t.reads) t) (quiet t) (λ is. again_busy (filter is_held t.reads) t busy) (λ isnt. busy)

reads_busy : (n : ℕ) (t : Task) → IsBusy t → IsBusy (with_reads n t).next
reads_busy zero t busy = busy
reads_busy (suc n) t busy =
    on_if (λ (done : Sending Task). IsBusy done.next) (has_budget t && nat_lt t.next t.known) (followed_by (next_read t) (with_reads n)) (quiet t)
    (λ is. reads_busy n (next_read t).next (record { active = busy.active; writes = busy.writes })) (λ isnt. busy)

peek_busy : (t : Task) → IsBusy t → IsBusy (fill_peek t).next
peek_busy t busy =
    on_if (λ (done : Sending Task). IsBusy done.next) (is_empty t.reads && has_budget t) (with_read t t.next t.next t.params.max_read_request_operation_count) (quiet t)
    (λ is. record { active = busy.active; writes = busy.writes }) (λ isnt. busy)

fill_busy : (t : Task) → IsBusy t → IsBusy (fill t).next
fill_busy t busy =
    let written : Task = fill_writes t in
    let held : Task = (fill_held written).next in
    peek_busy (fill_reads held).next
    (reads_busy (min (held.params.max_outstanding_read_requests - length held.reads) (held.known - held.next)) held
    (held_busy written (batches_busy (min (t.params.max_outstanding_write_requests - length t.writes) (length t.buffer)) t busy)))

pub filled_pending : (t : Task) → IsTaskPending t → IsTaskPending (filled_if_active t).next
filled_pending t holds =
    on_if (λ (done : Sending Task). IsTaskPending done.next) (is_active t.phase) (fill t) (quiet t)
    (λ is. busy_pending (fill t).next (fill_busy t (record { active = is; writes = holds.writes }))) (λ isnt. holds)

pub started_pending : (params : ParamValues) (count epoch : ℕ) (history follower : List ℕ) (request : ℕ) → IsTaskPending (started params count epoch history follower request).next
started_pending params count epoch history follower request =
    let begun : Task = record {
      params = params;
      history = history;
      follower = follower;
      phase = phases.Active;
      epoch = epoch;
      next_request = request;
      retry = 0;
      next = count;
      known = count;
      reads = [];
      buffer = [];
      next_write = 0;
      writes = [];
    } in
    busy_pending (fill begun).next (fill_busy begun (record { active = refl; writes = tt }))

-- ---- replies and stops

-- a task of which a read is outstanding is active
active_if_read : (t : Task) (request : ℕ) (r : Read) → IsTaskPending t → read_sent t request ≡ Some r → is_active t.phase ≡ true
active_if_read t request r holds found =
    (elim (is_active t.phase) as (λ (b : Bool). is_active t.phase ≡ b → b ≡ true) [
      | true ↦ λ is. refl
      | false ↦ λ isnt.
          let none : read_sent t request ≡ None = ap (find (λ (r : Read). (r.request == request) && is_sent r.progress)) (holds.reads isnt) in
          absurd (cc)
    ]) refl

pub reply_pending : (t : Task) (request : ℕ) (r : Read) (global : ℕ) (ops : List Operation) → IsTaskPending t → read_sent t request ≡ Some r
    → IsTaskPending (filled_if_active (after_reply t r global ops)).next
reply_pending t request r global ops holds found =
    filled_pending (after_reply t r global ops)
    (busy_pending (after_reply t r global ops) (record { active = active_if_read t request r holds found; writes = holds.writes }))

pub stopped_pending : (phase : Phase) (t : Task) → IsTaskPending t → IsTaskPending (stopped phase t)
stopped_pending phase t holds = record { writes = holds.writes; reads = λ isnt. refl; buffer = λ isnt. refl }

-- its next request's number and the losses so far don't matter
pub calm_pending : (t : Task) (retry next_request : ℕ) → IsTaskPending t → IsTaskPending (record t { retry = retry; next_request = next_request })
calm_pending t retry next_request holds = record { writes = holds.writes; reads = holds.reads; buffer = holds.buffer }

-- ---- losses and retries

-- where it has no reads, none changes
changed_pending : (t : Task) (next_request retry request : ℕ) (change : Read → Read) → IsTaskPending t
    → IsTaskPending (record t { next_request = next_request; retry = retry; reads = changed_read request change t.reads })
changed_pending t next_request retry request change holds = record {
  writes = holds.writes;
  reads = λ isnt. ap (changed_read request change) (holds.reads isnt);
  buffer = holds.buffer;
}

pub read_lost_pending : (t : Task) (now : ℕ) (r : Read) → IsTaskPending t → IsTaskPending (read_lost t now r)
read_lost_pending t now r holds = changed_pending t t.next_request (t.retry + 1) r.request (λ own. record own { progress = waits_after t now }) holds

again_pending : (rs : List Read) (t : Task) → IsTaskPending t → IsTaskPending (all_sent_again rs t).next
again_pending [] t holds = holds
again_pending (r ∷ rs) t holds =
    again_pending rs (sent_again t r).next
    (changed_pending t (t.next_request + 1) t.retry r.request (λ own. record own { request = t.next_request; progress = on_its_way }) holds)

due_reads_pending : (now : ℕ) (t : Task) → IsTaskPending t → IsTaskPending (due_reads_sent now t).next
due_reads_pending now t holds =
    let due : List Read = in_order_of_request (filter (λ r. is_due now r.progress) t.reads) in
    on_if (λ (done : Sending Task). IsTaskPending done.next) (may_read t) (all_sent_again due t) (quiet t) (λ is. again_pending due t holds) (λ isnt. holds)

due_writes_pending : (now : ℕ) (t : Task) → IsTaskPending t → IsTaskPending (due_writes_sent now t)
due_writes_pending now t holds =
    let again : Write → Write = λ w. if is_due now w.progress then record w { progress = on_its_way } else w in
    record {
      writes = All-map IsNotHeldBack again t.writes
          (All-weaker IsNotHeldBack (λ w. IsNotHeldBack (again w)) (λ w sent. on_if IsNotHeldBack (is_due now w.progress) (record w { progress = on_its_way }) w (λ is. refl) (λ isnt. sent)) t.writes holds.writes);
      reads = holds.reads;
      buffer = holds.buffer;
    }

pub ticked_pending : (now : ℕ) (t : Task) → IsTaskPending t → IsTaskPending (ticked now t).next
ticked_pending now t holds =
    let after : Task = (due_reads_sent now t).next in
    filled_pending (due_writes_sent now after) (due_writes_pending now after (due_reads_pending now t holds))

-- ---- writes

all_changed : (number : ℕ) (later : Progress) → is_held_back later ≡ false → (writes : List Write) → AllByRecursion IsNotHeldBack writes
    → AllByRecursion IsNotHeldBack (changed_write number (λ w. record w { progress = later }) writes)
all_changed number later isnt [] sent = tt
all_changed number later isnt (w ∷ writes) sent =
    on_if (AllByRecursion IsNotHeldBack) (w.number == number) (record w { progress = later } ∷ writes) (w ∷ changed_write number (λ w. record w { progress = later }) writes)
    (λ is. (isnt, sent.1)) (λ other. (sent.0, all_changed number later isnt writes sent.1))

pub write_lost_pending : (t : Task) (now : ℕ) (w : Write) → IsTaskPending t → IsTaskPending (write_lost t now w)
write_lost_pending t now w holds = record { writes = all_changed w.number (waits_after t now) refl t.writes holds.writes; reads = holds.reads; buffer = holds.buffer }

all_without : (number : ℕ) (writes : List Write) → AllByRecursion IsNotHeldBack writes → AllByRecursion IsNotHeldBack (without_write number writes)
all_without number [] sent = tt
all_without number (w ∷ writes) sent =
    on_if (AllByRecursion IsNotHeldBack) (w.number == number) writes (w ∷ without_write number writes) (λ is. sent.1) (λ other. (sent.0, all_without number writes sent.1))

pub write_ended_pending : (t : Task) (w : Write) → IsTaskPending t → IsTaskPending (write_ended t w).next
write_ended_pending t w holds =
    filled_pending (record t { retry = 0; writes = without_write w.number t.writes })
    (record { writes = all_without w.number t.writes holds.writes; reads = holds.reads; buffer = holds.buffer })
