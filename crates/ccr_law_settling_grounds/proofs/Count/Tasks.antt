-- A task knows of no more than is committed and has asked for no more, through all that it does; and what it sends is no reply to a read.
use Rattle.std.specs.Prelude.{filter}
use Rattle.std.specs.List.{AllByRecursion}
use Rattle.std.proofs.Common.{ℕ, zero, suc, ◌+◌, ◌≤◌, ◌<◌, ◌==◌, ◌&&◌, nat_lt, min, max, List, [], ◌∷◌, arith}
use Rattle.ccr_op.specs.Operation.{Operation}
use Rattle.ccr_journal.specs.declared.params.ParamValues.{ParamValues}
use Rattle.ccr_journal.specs.declared.sides.Phase.{Phase}
use Rattle.ccr_journal.specs.declared.sides.Phase.TheVariants as phases
use Rattle.ccr_model.specs.Operations.{is_empty}
use Rattle.ccr_model.specs.Requests.{Sending, quiet, followed_by, is_due}
use Rattle.ccr_model.specs.Tasks.{Task, Read, Write, is_active, may_read, has_budget, is_held, with_read, sent_again, all_sent_again, with_batch, with_batches, fill_writes, fill_held, next_read, with_reads, fill_reads, fill_peek, fill, filled_if_active, started, stopped, in_order_of_request, due_reads_sent, due_writes_sent, ticked, end_of_ops, after_reply, read_lost, write_lost, without_write, write_ended}
use Rattle.ccr_law_base.proofs.Cases.{on_if}
use Rattle.ccr_law_settling_grounds.specs.KnownCounts.{IsTaskWithin}
use Rattle.ccr_law_settling_grounds.proofs.Count.Within.{AreSilent, joined_silent}

-- the task stays within the count, and sends no reply to a read
pub record GoesWithin (cut : ℕ) (done : Sending Task) : Type 0 where
  pub task : IsTaskWithin cut done.next
  pub sends : AreSilent done.sent

stays : (cut : ℕ) (t : Task) → IsTaskWithin cut t → GoesWithin cut (quiet t)
stays cut t is = record { task = is; sends = tt }

then_goes : (cut : ℕ) (first : Sending Task) (f : Task → Sending Task) → GoesWithin cut first → ((t : Task) → IsTaskWithin cut t → GoesWithin cut (f t)) → GoesWithin cut (followed_by first f)
then_goes cut first f goes next =
    let second : GoesWithin cut (f first.next) = next first.next goes.task in
    record { task = second.task; sends = joined_silent first.sent (f first.next).sent goes.sends second.sends }

-- ---- what is sent

-- a read up to a number within the count
reads_on : (cut : ℕ) (t : Task) (from to asked : ℕ) → to ≤ cut → IsTaskWithin cut t → GoesWithin cut (with_read t from to asked)
reads_on cut t from to asked low is = record { task = record { known = is.known; next = low }; sends = (tt, tt) }

sends_again : (cut : ℕ) (reads : List Read) (t : Task) → IsTaskWithin cut t → GoesWithin cut (all_sent_again reads t)
sends_again cut [] t is = stays cut t is
sends_again cut (r ∷ reads) t is =
    then_goes cut (sent_again t r) (all_sent_again reads) (record { task = record { known = is.known; next = is.next }; sends = (tt, tt) }) (λ own within. sends_again cut reads own within)

batches_within : (cut n : ℕ) (t : Task) → IsTaskWithin cut t → IsTaskWithin cut (with_batches n t)
batches_within cut zero t is = is
batches_within cut (suc n) t is =
    on_if (IsTaskWithin cut) (is_empty t.buffer) t (with_batches n (with_batch t)) (λ none. is)
    (λ some. batches_within cut n (with_batch t) (record { known = is.known; next = is.next }))

-- ---- Fill

held_within : (cut : ℕ) (t : Task) → IsTaskWithin cut t → GoesWithin cut (fill_held t)
held_within cut t is =
    on_if (GoesWithin cut) (may_read t) (all_sent_again (filter is_held t.reads) t) (quiet t) (λ may. sends_again cut (filter is_held t.reads) t is) (λ maynt. stays cut t is)

least_within : (a b cut : ℕ) → a ≤ cut → min a b ≤ cut
least_within a b cut low = omega arith

next_within : (cut : ℕ) (t : Task) → IsTaskWithin cut t → GoesWithin cut (next_read t)
next_within cut t is = reads_on cut t t.next _ _ (least_within t.known (t.next + t.params.max_read_request_operation_count) cut is.known) is

reads_within : (cut n : ℕ) (t : Task) → IsTaskWithin cut t → GoesWithin cut (with_reads n t)
reads_within cut zero t is = stays cut t is
reads_within cut (suc n) t is =
    on_if (GoesWithin cut) (has_budget t && nat_lt t.next t.known) (followed_by (next_read t) (with_reads n)) (quiet t)
    (λ more. then_goes cut (next_read t) (with_reads n) (next_within cut t is) (λ own within. reads_within cut n own within)) (λ no_more. stays cut t is)

peek_within : (cut : ℕ) (t : Task) → IsTaskWithin cut t → GoesWithin cut (fill_peek t)
peek_within cut t is =
    on_if (GoesWithin cut) (is_empty t.reads && has_budget t) (with_read t t.next t.next t.params.max_read_request_operation_count) (quiet t)
    (λ peeks. reads_on cut t t.next t.next t.params.max_read_request_operation_count is.next is) (λ not_now. stays cut t is)

fill_within : (cut : ℕ) (t : Task) → IsTaskWithin cut t → GoesWithin cut (fill t)
fill_within cut t is =
    then_goes cut (followed_by (fill_held (fill_writes t)) fill_reads) fill_peek
    (then_goes cut (fill_held (fill_writes t)) fill_reads (held_within cut (fill_writes t) (batches_within cut _ t is))
    (λ own within. reads_within cut _ own within))
    (peek_within cut)

pub filled_within : (cut : ℕ) (t : Task) → IsTaskWithin cut t → GoesWithin cut (filled_if_active t)
filled_within cut t is = on_if (GoesWithin cut) (is_active t.phase) (fill t) (quiet t) (λ active. fill_within cut t is) (λ not_active. stays cut t is)

-- ---- start and stop

pub started_within : (cut : ℕ) (params : ParamValues) (count epoch : ℕ) (history follower : List ℕ) (request : ℕ) → count ≤ cut
    → GoesWithin cut (started params count epoch history follower request)
started_within cut params count epoch history follower request low =
    let t : Task = record {
      params = params;
      history = history;
      follower = follower;
      phase = phases.Active;
      epoch = epoch;
      next_request = request;
      retry = 0;
      next = count;
      known = count;
      reads = [];
      buffer = [];
      next_write = 0;
      writes = [];
    } in
    fill_within cut t (record { known = low; next = low })

pub stopped_within : (cut : ℕ) (phase : Phase) (t : Task) → IsTaskWithin cut t → IsTaskWithin cut (stopped phase t)
stopped_within cut phase t is = record { known = is.known; next = is.next }

-- ---- replies, losses and retries

end_within : (cut : ℕ) (ops : List Operation) (n : ℕ) → n ≤ cut → AllByRecursion (λ (op : Operation). op.seq < cut) ops → end_of_ops ops n ≤ cut
end_within cut [] n low all = low
end_within cut (op ∷ ops) n low all =
    let below : op.seq < cut = all.0 in
    end_within cut ops (max n (op.seq + 1)) (omega arith) all.1

greatest_within : (a b cut : ℕ) → a ≤ cut → b ≤ cut → max a b ≤ cut
greatest_within a b cut low_a low_b = omega arith

-- a reply that tells of no more, and brings operations below the count
pub reply_within : (cut : ℕ) (t : Task) (r : Read) (global : ℕ) (ops : List Operation) → global ≤ cut → AllByRecursion (λ (op : Operation). op.seq < cut) ops → IsTaskWithin cut t
    → GoesWithin cut (filled_if_active (after_reply t r global ops))
reply_within cut t r global ops low below is = filled_within cut (after_reply t r global ops) record {
  known = greatest_within t.known global cut is.known low;
  next = on_if (λ (n : ℕ). n ≤ cut) (t.next == r.to) (end_of_ops ops t.next) t.next (λ last. end_within cut ops t.next is.next below) (λ not_last. is.next);
}

pub read_lost_within : (cut : ℕ) (t : Task) (now : ℕ) (r : Read) → IsTaskWithin cut t → IsTaskWithin cut (read_lost t now r)
read_lost_within cut t now r is = record { known = is.known; next = is.next }

pub write_lost_within : (cut : ℕ) (t : Task) (now : ℕ) (w : Write) → IsTaskWithin cut t → IsTaskWithin cut (write_lost t now w)
write_lost_within cut t now w is = record { known = is.known; next = is.next }

pub write_ended_within : (cut : ℕ) (t : Task) (w : Write) → IsTaskWithin cut t → GoesWithin cut (write_ended t w)
write_ended_within cut t w is = filled_within cut (record t { retry = 0; writes = without_write w.number t.writes }) (record { known = is.known; next = is.next })

due_within : (cut now : ℕ) (t : Task) → IsTaskWithin cut t → GoesWithin cut (due_reads_sent now t)
due_within cut now t is =
    let due : List Read = in_order_of_request (filter (λ r. is_due now r.progress) t.reads) in
    on_if (GoesWithin cut) (may_read t) (all_sent_again due t) (quiet t) (λ may. sends_again cut due t is) (λ maynt. stays cut t is)

pub ticked_within : (cut now : ℕ) (t : Task) → IsTaskWithin cut t → GoesWithin cut (ticked now t)
ticked_within cut now t is =
    then_goes cut (due_reads_sent now t) (λ after. filled_if_active (due_writes_sent now after)) (due_within cut now t is)
    (λ own within. filled_within cut (due_writes_sent now own) (record { known = within.known; next = within.next }))
