-- What a task asks for stays at or above a number.
use Rattle.std.specs.Prelude.{nat_lt, ◌==◌}
use Rattle.std.specs.List.{AllByRecursion, filter}
use Rattle.std.proofs.Common.{◌≡◌, ℕ, ◌+◌, ◌-◌, ◌≤◌, ◌<◌, min, zero, suc, ◌&&◌, List, [], ◌∷◌, length, Some, arith}
use Rattle.std.proofs.lemmas.Bool.{ltb-true, and_parts}
use Rattle.ccr_op.specs.Operation.{Operation}
use Rattle.ccr_journal.specs.declared.params.ParamValues.{ParamValues}
use Rattle.ccr_journal.specs.declared.sides.Phase.TheVariants as phases
use Rattle.ccr_model.specs.Operations.{is_empty}
use Rattle.ccr_model.specs.Requests.{Sending, quiet, followed_by, on_its_way, held_back, is_sent, is_due}
use Rattle.ccr_model.specs.Tasks.{Task, Read, is_active, may_read, has_budget, is_held, changed_read, without_read, sent_again, all_sent_again, with_batch, with_batches, fill_writes, fill_held, with_read, asks, next_read, with_reads, fill_reads, fill_peek, fill, filled_if_active, started, read_sent, end_of_ops, rest_from, after_reply, in_order_of_request, waits_after, without_write, due_reads_sent, due_writes_sent, ticked, least_from}
use Rattle.ccr_model.specs.Past.{Line, WrittenBatch}
use Rattle.ccr_law_base.proofs.Cases.{on_if}
use Rattle.ccr_law_base.proofs.Lists.{All-append, All-changed_read, All-find, All-weaker, All-without_read, end-up}
use Rattle.ccr_law_tasks.specs.GoodTask.{IsGoodRead, IsGoodTask}
use Rattle.ccr_law_tasks.specs.FromOn.{IsFromOn, StaysFromOn}

-- ---- Fill

batches-from : (k n : ℕ) (t : Task) → IsFromOn n t → IsFromOn n (with_batches k t)
batches-from zero n t from = from
batches-from (suc k) n t from =
    on_if (λ (u : Task). IsFromOn n u) (is_empty t.buffer) t (with_batches k (with_batch t)) (λ is. from)
    (λ isnt. batches-from k n (with_batch t) (record { next = from.next; reads = from.reads }))

again-from : (rs : List Read) (n : ℕ) (t : Task) → IsFromOn n t → IsFromOn n (all_sent_again rs t).next
again-from [] n t from = from
again-from (r ∷ rs) n t from =
    again-from rs n (sent_again t r).next (record {
      next = from.next;
      reads = All-changed_read (λ (r : Read). n ≤ r.from) r.request (λ own. record own { request = t.next_request; progress = on_its_way }) (λ own low. low) t.reads from.reads;
    })

held-from : (n : ℕ) (t : Task) → IsFromOn n t → IsFromOn n (fill_held t).next
held-from n t from =
    on_if (λ (done : Sending Task). IsFromOn n done.next) (may_read t) (all_sent_again (filter is_held t.reads) t) (quiet t) (λ is. again-from (filter is_held t.reads) n t from) (λ isnt. from)

read-from : (n : ℕ) (t : Task) (to asked : ℕ) → t.next ≤ to → IsFromOn n t → IsFromOn n (with_read t t.next to asked).next
read-from n t to asked up from =
    let low : n ≤ t.next = from.next in
    let r : Read = record { request = t.next_request; from = t.next; to = to; asked = asked; progress = on_its_way } in
    record { next = omega arith; reads = All-append (λ (r : Read). n ≤ r.from) t.reads (r ∷ []) from.reads (low, tt) }

reads-from : (k n : ℕ) (t : Task) → IsFromOn n t → IsFromOn n (with_reads k t).next
reads-from zero n t from = from
reads-from (suc k) n t from =
    on_if (λ (done : Sending Task). IsFromOn n done.next) (has_budget t && nat_lt t.next t.known) (followed_by (next_read t) (with_reads k)) (quiet t)
    (λ is.
    let left : t.next < t.known = ltb-true _ _ (and_parts (has_budget t) (nat_lt t.next t.known) is).1 in
    let to : ℕ = min t.known (t.next + t.params.max_read_request_operation_count) in
    reads-from k n (next_read t).next (read-from n t to (asks t (to - t.next)) (omega arith) from))
    (λ isnt. from)

peek-from : (n : ℕ) (t : Task) → IsFromOn n t → IsFromOn n (fill_peek t).next
peek-from n t from =
    on_if (λ (done : Sending Task). IsFromOn n done.next) (is_empty t.reads && has_budget t) (with_read t t.next t.next t.params.max_read_request_operation_count) (quiet t)
    (λ is. read-from n t t.next t.params.max_read_request_operation_count (omega arith) from) (λ isnt. from)

fill-from : (n : ℕ) (t : Task) → IsFromOn n t → IsFromOn n (fill t).next
fill-from n t from =
    let a : Task = fill_writes t in
    let b : Task = (fill_held a).next in
    let c : Task = (fill_reads b).next in
    let at_a : IsFromOn n a = batches-from (min (t.params.max_outstanding_write_requests - length t.writes) (length t.buffer)) n t from in
    let at_b : IsFromOn n b = held-from n a at_a in
    let at_c : IsFromOn n c = reads-from (min (b.params.max_outstanding_read_requests - length b.reads) (b.known - b.next)) n b at_b in
    peek-from n c at_c

filled-from : (n : ℕ) (t : Task) → IsFromOn n t → IsFromOn n (filled_if_active t).next
filled-from n t from = on_if (λ (done : Sending Task). IsFromOn n done.next) (is_active t.phase) (fill t) (quiet t) (λ is. fill-from n t from) (λ isnt. from)

-- ---- the functions

pub started-from : (n : ℕ) (params : ParamValues) (count epoch : ℕ) (history follower : List ℕ) (request : ℕ) → n ≤ count → IsFromOn n (started params count epoch history follower request).next
started-from n params count epoch history follower request low = fill-from n (record {
  params = params;
  history = history;
  follower = follower;
  phase = phases.Active;
  epoch = epoch;
  next_request = request;
  retry = 0;
  next = count;
  known = count;
  reads = [];
  buffer = [];
  next_write = 0;
  writes = [];
}) (record { next = low; reads = tt })

pub reply-from : (n : ℕ) (t : Task) (r : Read) (request global : ℕ) (ops : List Operation) → read_sent t request ≡ Some r → IsFromOn n t → IsFromOn n (filled_if_active (after_reply t r global ops)).next
reply-from n t r request global ops sent from =
    let rest : ℕ = rest_from r ops in
    let low : n ≤ r.from = (All-find (λ (r : Read). n ≤ r.from) (λ r. (r.request == request) && is_sent r.progress) t.reads r from.reads sent).0 in
    let next_low : n ≤ t.next = from.next in
    let up : t.next ≤ end_of_ops ops t.next = end-up ops t.next in
    filled-from n (after_reply t r global ops) (record {
      next = on_if (λ (k : ℕ). n ≤ k) (t.next == r.to) (end_of_ops ops t.next) t.next (λ is. omega arith) (λ isnt. from.next);
      reads = on_if (λ (rs : List Read). AllByRecursion (λ (r : Read). n ≤ r.from) rs) (nat_lt rest r.to)
          (changed_read r.request (λ own. record own { from = rest; asked = r.to - rest; progress = held_back }) t.reads) (without_read r.request t.reads)
          (λ is. All-changed_read (λ (r : Read). n ≤ r.from) r.request (λ own. record own { from = rest; asked = r.to - rest; progress = held_back }) (λ own at. omega arith) t.reads from.reads)
          (λ isnt. All-without_read (λ (r : Read). n ≤ r.from) r.request t.reads from.reads);
    })

due-from : (now n : ℕ) (t : Task) → IsFromOn n t → IsFromOn n (due_reads_sent now t).next
due-from now n t from =
    on_if (λ (done : Sending Task). IsFromOn n done.next) (may_read t) (all_sent_again (in_order_of_request (filter (λ r. is_due now r.progress) t.reads)) t) (quiet t)
    (λ is. again-from (in_order_of_request (filter (λ r. is_due now r.progress) t.reads)) n t from) (λ isnt. from)

ticked-from : (now n : ℕ) (t : Task) → IsFromOn n t → IsFromOn n (ticked now t).next
ticked-from now n t from =
    let after : Task = (due_reads_sent now t).next in
    let at : IsFromOn n after = due-from now n t from in
    filled-from n (due_writes_sent now after) (record { next = at.next; reads = at.reads })

pub stays-from : StaysFromOn
stays-from = record {
  read_lost = λ now r n t from. record {
    next = from.next;
    reads = All-changed_read (λ (r : Read). n ≤ r.from) r.request (λ own. record own { progress = waits_after t now }) (λ own low. low) t.reads from.reads;
  };
  write_lost = λ now w n t from. record { next = from.next; reads = from.reads };
  ticked = λ now n t from. ticked-from now n t from;
  write_ended = λ w n t from. filled-from n (record t { retry = 0; writes = without_write w.number t.writes }) (record { next = from.next; reads = from.reads });
  drawn = λ n t from. record { next = from.next; reads = from.reads };
  stopped = λ phase n t from. record { next = from.next; reads = tt };
  rested = λ phase n t from. record { next = from.next; reads = from.reads };
}

least-low : (next : ℕ) (reads : List Read) → AllByRecursion (λ (r : Read). least_from next reads ≤ r.from) reads
least-low next [] = tt
least-low next (r ∷ reads) =
    (omega arith, All-weaker (λ (x : Read). least_from r.from reads ≤ x.from) (λ (x : Read). min r.from (least_from r.from reads) ≤ x.from) (λ x low. omega arith) reads (least-low r.from reads))

least-next : (most begun_at next_request next : ℕ) (reads : List Read) → AllByRecursion (IsGoodRead most begun_at next_request next) reads → least_from next reads ≤ next
least-next most begun_at next_request next [] good = omega arith
least-next most begun_at next_request next (r ∷ reads) good =
    let first : IsGoodRead most begun_at next_request next r = good.0 in
    let ordered : r.from ≤ r.to = first.ordered in
    let below : r.to ≤ next = first.below in
    omega arith

pub least-on : (line : Line) (begun_at : ℕ) (written : List WrittenBatch) (t : Task) → IsGoodTask line t begun_at written → IsFromOn (least_from t.next t.reads) t
least-on line begun_at written t good =
    let low : least_from t.next t.reads ≤ t.next = least-next t.params.max_read_request_operation_count begun_at t.next_request t.next t.reads good.sound.reads.all in
    record { next = low; reads = least-low t.next t.reads }
