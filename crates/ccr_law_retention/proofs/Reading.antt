-- What holds of each read of a task stays so over the task's functions, which send no renewals.
use Rattle.std.specs.Prelude.{nat_lt, ◌==◌, find}
use Rattle.std.specs.List.{AllByRecursion, filter}
use Rattle.std.proofs.Common.{◌≡◌, ℕ, ◌+◌, ◌-◌, ◌≤◌, ◌<◌, min, zero, suc, ◌&&◌, Bool, true, false, List, [], ◌∷◌, length, Option, Some, None, refl, sym, subst, arith}
use Rattle.std.proofs.lemmas.Bool.{ltb-true, and_parts, eqb-true}
use Rattle.ccr_op.specs.Operation.{Operation}
use Rattle.ccr_wire.specs.Message.{Frame}
use Rattle.ccr_journal.specs.declared.params.ParamValues.{ParamValues}
use Rattle.ccr_journal.specs.declared.sides.Phase.{Phase}
use Rattle.ccr_journal.specs.declared.sides.Phase.TheVariants as phases
use Rattle.ccr_model.specs.Operations.{is_empty}
use Rattle.ccr_model.specs.Requests.{Progress, Sending, quiet, followed_by, on_its_way, waiting, held_back, is_sent, is_due}
use Rattle.ccr_model.specs.Tasks.{Task, Read, Write, is_active, may_read, has_budget, is_held, changed_read, without_read, sent_again, all_sent_again, with_batch, with_batches, fill_writes, fill_held, with_read, asks, next_read, with_reads, fill_reads, fill_peek, fill, filled_if_active, started, read_sent, end_of_ops, rest_from, after_reply, in_order_of_request, waits_after, without_write, due_reads_sent, due_writes_sent, ticked, read_lost, write_ended, stopped}
use Rattle.ccr_model.specs.Past.{is_leasing}
use Rattle.ccr_law_base.proofs.Cases.{on_if}
use Rattle.ccr_law_base.proofs.Lists.{All-append, All-find, find_none, All-changed_read, All-without_read, end-up}
use Rattle.ccr_law_retention.specs.Retaining.{low_of}
use Rattle.ccr_law_retention.specs.Moving.{is_plain}
use Rattle.ccr_law_retention.proofs.Lists.{low-next, low-reads, low-least}
use Rattle.ccr_law_base.proofs.Tests.{and_false}

-- what holds of a read stays so: where it is begun, sent again, lost, or held back for what is left
pub record Closed (P : Read → Type 0) (low drawn : ℕ) : Type 0 where
  pub begun : (r : Read) → drawn ≤ r.request → low ≤ r.from → P r
  pub again : (r : Read) (n : ℕ) → drawn ≤ n → P r → P (record r { request = n; progress = on_its_way })
  pub waits : (r : Read) (until : ℕ) → P r → P (record r { progress = waiting until })
  pub rest : (r own : Read) (from asked : ℕ) → P r → r.from ≤ from → P own → P (record own { from = from; asked = asked; progress = held_back })

pub record Reads (P : Read → Type 0) (low drawn : ℕ) (was : Bool) (t : Task) : Type 0 where
  pub number : drawn ≤ t.next_request
  pub next : low ≤ t.next
  pub reads : AllByRecursion P t.reads
  pub phase : was ≡ false → is_leasing t.phase ≡ false

abbrev pub ArePlain : List Frame → Type 0
ArePlain sent = AllByRecursion (λ (m : Frame). is_plain m.content ≡ true) sent

pub record Goes (P : Read → Type 0) (low drawn : ℕ) (was : Bool) (done : Sending Task) : Type 0 where
  pub next : Reads P low drawn was done.next
  pub sent : ArePlain done.sent

then-goes : (P : Read → Type 0) (low drawn : ℕ) (was : Bool) (first : Sending Task) (f : Task → Sending Task) → Goes P low drawn was first → (Reads P low drawn was first.next → Goes P low drawn was (f first.next))
    → Goes P low drawn was (followed_by first f)
then-goes P low drawn was first f one other =
    let two = other one.next in
    record { next = two.next; sent = All-append (λ (m : Frame). is_plain m.content ≡ true) first.sent (f first.next).sent one.sent two.sent }

batches-go : (k : ℕ) (P : Read → Type 0) (low drawn : ℕ) (was : Bool) (t : Task) → Reads P low drawn was t → Reads P low drawn was (with_batches k t)
batches-go zero P low drawn was t ok = ok
batches-go (suc k) P low drawn was t ok =
    on_if (λ (u : Task). Reads P low drawn was u) (is_empty t.buffer) t (with_batches k (with_batch t)) (λ is. ok)
    (λ isnt. batches-go k P low drawn was (with_batch t) (record { number = ok.number; next = ok.next; reads = ok.reads; phase = ok.phase }))

again-goes : (rs : List Read) (P : Read → Type 0) (low drawn : ℕ) (was : Bool) (t : Task) → Closed P low drawn → Reads P low drawn was t → Goes P low drawn was (all_sent_again rs t)
again-goes [] P low drawn was t closed ok = record { next = ok; sent = tt }
again-goes (r ∷ rs) P low drawn was t closed ok =
    then-goes P low drawn was (sent_again t r) (all_sent_again rs)
    (record {
      next = record {
        number = let up : drawn ≤ t.next_request = ok.number in omega arith;
        next = ok.next;
        reads = All-changed_read P r.request (λ own. record own { request = t.next_request; progress = on_its_way }) (λ own holds. closed.again own t.next_request ok.number holds) t.reads ok.reads;
        phase = ok.phase;
      };
      sent = (refl, tt);
    })
    (λ now. again-goes rs P low drawn was (sent_again t r).next closed now)

held-goes : (P : Read → Type 0) (low drawn : ℕ) (was : Bool) (t : Task) → Closed P low drawn → Reads P low drawn was t → Goes P low drawn was (fill_held t)
held-goes P low drawn was t closed ok =
    on_if (λ (done : Sending Task). Goes P low drawn was done) (may_read t) (all_sent_again (filter is_held t.reads) t) (quiet t)
    (λ is. again-goes (filter is_held t.reads) P low drawn was t closed ok) (λ isnt. record { next = ok; sent = tt })

read-goes : (P : Read → Type 0) (low drawn : ℕ) (was : Bool) (t : Task) (to asked : ℕ) → Closed P low drawn → t.next ≤ to → Reads P low drawn was t → Goes P low drawn was (with_read t t.next to asked)
read-goes P low drawn was t to asked closed up ok =
    let from : low ≤ t.next = ok.next in
    let number : drawn ≤ t.next_request = ok.number in
    let r : Read = record { request = t.next_request; from = t.next; to = to; asked = asked; progress = on_its_way } in
    record {
      next = record { number = omega arith; next = omega arith; reads = All-append P t.reads (r ∷ []) ok.reads (closed.begun r ok.number ok.next, tt); phase = ok.phase };
      sent = (refl, tt);
    }

reads-go : (k : ℕ) (P : Read → Type 0) (low drawn : ℕ) (was : Bool) (t : Task) → Closed P low drawn → Reads P low drawn was t → Goes P low drawn was (with_reads k t)
reads-go zero P low drawn was t closed ok = record { next = ok; sent = tt }
reads-go (suc k) P low drawn was t closed ok =
    on_if (λ (done : Sending Task). Goes P low drawn was done) (has_budget t && nat_lt t.next t.known) (followed_by (next_read t) (with_reads k)) (quiet t)
    (λ is.
    let left : t.next < t.known = ltb-true _ _ (and_parts (has_budget t) (nat_lt t.next t.known) is).1 in
    let to : ℕ = min t.known (t.next + t.params.max_read_request_operation_count) in
    then-goes P low drawn was (next_read t) (with_reads k) (read-goes P low drawn was t to (asks t (to - t.next)) closed (omega arith) ok)
    (λ now. reads-go k P low drawn was (next_read t).next closed now))
    (λ isnt. record { next = ok; sent = tt })

peek-goes : (P : Read → Type 0) (low drawn : ℕ) (was : Bool) (t : Task) → Closed P low drawn → Reads P low drawn was t → Goes P low drawn was (fill_peek t)
peek-goes P low drawn was t closed ok =
    on_if (λ (done : Sending Task). Goes P low drawn was done) (is_empty t.reads && has_budget t) (with_read t t.next t.next t.params.max_read_request_operation_count) (quiet t)
    (λ is. read-goes P low drawn was t t.next t.params.max_read_request_operation_count closed (omega arith) ok) (λ isnt. record { next = ok; sent = tt })

fill-goes : (P : Read → Type 0) (low drawn : ℕ) (was : Bool) (t : Task) → Closed P low drawn → Reads P low drawn was t → Goes P low drawn was (fill t)
fill-goes P low drawn was t closed ok =
    let a : Task = fill_writes t in
    let at_a : Reads P low drawn was a = batches-go (min (t.params.max_outstanding_write_requests - length t.writes) (length t.buffer)) P low drawn was t ok in
    then-goes P low drawn was (followed_by (fill_held a) fill_reads) fill_peek
    (then-goes P low drawn was (fill_held a) fill_reads (held-goes P low drawn was a closed at_a)
    (λ now. let b : Task = (fill_held a).next in reads-go (min (b.params.max_outstanding_read_requests - length b.reads) (b.known - b.next)) P low drawn was b closed now))
    (λ now. peek-goes P low drawn was (followed_by (fill_held a) fill_reads).next closed now)

filled-goes : (P : Read → Type 0) (low drawn : ℕ) (was : Bool) (t : Task) → Closed P low drawn → Reads P low drawn was t → Goes P low drawn was (filled_if_active t)
filled-goes P low drawn was t closed ok =
    on_if (λ (done : Sending Task). Goes P low drawn was done) (is_active t.phase) (fill t) (quiet t) (λ is. fill-goes P low drawn was t closed ok) (λ isnt. record { next = ok; sent = tt })

-- ---- the functions

pub started-goes : (P : Read → Type 0) (low drawn : ℕ) (was : Bool) (params : ParamValues) (count epoch : ℕ) (history follower : List ℕ) (request : ℕ) → Closed P low drawn → low ≤ count → drawn ≤ request
    → Goes P low drawn was (started params count epoch history follower request)
started-goes P low drawn was params count epoch history follower request closed from number = fill-goes P low drawn was (record {
  params = params;
  history = history;
  follower = follower;
  phase = phases.Active;
  epoch = epoch;
  next_request = request;
  retry = 0;
  next = count;
  known = count;
  reads = [];
  buffer = [];
  next_write = 0;
  writes = [];
}) closed (record { number = number; next = from; reads = tt; phase = λ is. refl })

pub reply-goes : (P : Read → Type 0) (low drawn : ℕ) (was : Bool) (t : Task) (r : Read) (request global : ℕ) (ops : List Operation) → read_sent t request ≡ Some r → Closed P low drawn → Reads P low drawn was t
    → Goes P low drawn was (filled_if_active (after_reply t r global ops))
reply-goes P low drawn was t r request global ops sent closed ok =
    let rest : ℕ = rest_from r ops in
    let own_ok : P r = (All-find P (λ r. (r.request == request) && is_sent r.progress) t.reads r ok.reads sent).0 in
    let next_low : low ≤ t.next = ok.next in
    let up : t.next ≤ end_of_ops ops t.next = end-up ops t.next in
    filled-goes P low drawn was (after_reply t r global ops) closed (record {
      number = ok.number;
      next = on_if (λ (k : ℕ). low ≤ k) (t.next == r.to) (end_of_ops ops t.next) t.next (λ is. omega arith) (λ isnt. ok.next);
      reads = on_if (λ (rs : List Read). AllByRecursion P rs) (nat_lt rest r.to)
          (changed_read r.request (λ own. record own { from = rest; asked = r.to - rest; progress = held_back }) t.reads) (without_read r.request t.reads)
          (λ is. All-changed_read P r.request (λ own. record own { from = rest; asked = r.to - rest; progress = held_back }) (λ own at. closed.rest r own rest (r.to - rest) own_ok (omega arith) at) t.reads ok.reads)
          (λ isnt. All-without_read P r.request t.reads ok.reads);
      phase = ok.phase;
    })

pub ticked-goes : (P : Read → Type 0) (low drawn : ℕ) (was : Bool) (now : ℕ) (t : Task) → Closed P low drawn → Reads P low drawn was t → Goes P low drawn was (ticked now t)
ticked-goes P low drawn was now t closed ok =
    let due : Goes P low drawn was (due_reads_sent now t) =
    on_if (λ (done : Sending Task). Goes P low drawn was done) (may_read t) (all_sent_again (in_order_of_request (filter (λ r. is_due now r.progress) t.reads)) t) (quiet t)
    (λ is. again-goes (in_order_of_request (filter (λ r. is_due now r.progress) t.reads)) P low drawn was t closed ok) (λ isnt. record { next = ok; sent = tt }) in
    then-goes P low drawn was (due_reads_sent now t) (λ after. filled_if_active (due_writes_sent now after)) due
    (λ at. filled-goes P low drawn was (due_writes_sent now (due_reads_sent now t).next) closed (record { number = at.number; next = at.next; reads = at.reads; phase = at.phase }))

pub lost-goes : (P : Read → Type 0) (low drawn : ℕ) (was : Bool) (now : ℕ) (r : Read) (t : Task) → Closed P low drawn → Reads P low drawn was t → Reads P low drawn was (read_lost t now r)
lost-goes P low drawn was now r t closed ok = record {
  number = ok.number;
  next = ok.next;
  reads = All-changed_read P r.request (λ own. record own { progress = waits_after t now }) (λ own holds. closed.waits own _ holds) t.reads ok.reads;
  phase = ok.phase;
}

pub ended-goes : (P : Read → Type 0) (low drawn : ℕ) (was : Bool) (w : Write) (t : Task) → Closed P low drawn → Reads P low drawn was t → Goes P low drawn was (write_ended t w)
ended-goes P low drawn was w t closed ok =
    filled-goes P low drawn was (record t { retry = 0; writes = without_write w.number t.writes }) closed (record { number = ok.number; next = ok.next; reads = ok.reads; phase = ok.phase })

-- ---- two claims of reads

-- a read is at or above a number
abbrev pub IsFrom : ℕ → Read → Type 0
IsFrom n r = n ≤ r.from

pub from-closed : (n d : ℕ) → Closed (IsFrom n) n d
from-closed n d = record {
  begun = λ r number low. low;
  again = λ r number up low. low;
  waits = λ r until low. low;
  rest = λ r own from asked low up holds. omega arith;
}

-- none is in the sent state under a number
abbrev pub finds : ℕ → Read → Bool
finds k r = (r.request == k) && is_sent r.progress

abbrev pub IsUnsent : ℕ → Read → Type 0
IsUnsent k r = finds k r ≡ false

other-number : (n k : ℕ) (p : Progress) → suc k ≤ n → ((n == k) && is_sent p) ≡ false
other-number n k p up =
    (elim (n == k) as (λ (b : Bool). (n == k) ≡ b → (b && is_sent p) ≡ false) [
      | true ↦ λ is. absurd (let same : n ≡ k = eqb-true n k is in omega arith)
      | false ↦ λ isnt. refl
    ]) refl

pub unsent-closed : (k : ℕ) → Closed (IsUnsent k) 0 (suc k)
unsent-closed k = record {
  begun = λ r number low. other-number r.request k r.progress number;
  again = λ r number up holds. other-number number k on_its_way up;
  waits = λ r until holds. and_false (r.request == k);
  rest = λ r own from asked low up holds. and_false (own.request == k);
}

-- ---- a task after another

pub record TaskGoesOn (t next : Task) : Type 0 where
  pub low : low_of t.next t.reads ≤ low_of next.next next.reads
  pub drawn : t.next_request ≤ next.next_request
  pub phase : is_leasing t.phase ≡ false → is_leasing next.phase ≡ false
  pub unsent : (k : ℕ) → k < t.next_request → read_sent t k ≡ None → read_sent next k ≡ None

pub none-found : (k : ℕ) (reads : List Read) → AllByRecursion (IsUnsent k) reads → find (finds k) reads ≡ None
none-found k [] all = refl
none-found k (r ∷ reads) all =
    on_if (λ (o : Option Read). o ≡ None) (finds k r) (Some r) (find (finds k) reads) (λ is. absurd cc) (λ isnt. none-found k reads all.1)

-- what keeps each closed claim
pub goes-on : (t next : Task) → ((n d : ℕ) → Reads (IsFrom n) n d (is_leasing t.phase) t → Reads (IsFrom n) n d (is_leasing t.phase) next)
    → ((k : ℕ) → Reads (IsUnsent k) 0 (suc k) (is_leasing t.phase) t → Reads (IsUnsent k) 0 (suc k) (is_leasing t.phase) next) → TaskGoesOn t next
goes-on t next from unsent =
    let n : ℕ = low_of t.next t.reads in
    let low : Reads (IsFrom n) n t.next_request (is_leasing t.phase) next = from n t.next_request (record { number = omega arith; next = low-next t.next t.reads; reads = low-reads n t.next t.reads (omega arith); phase = λ is. is }) in
    record {
      low = low-least n next.next next.reads low.next low.reads;
      drawn = low.number;
      phase = low.phase;
      unsent = λ k below none. none-found k next.reads (unsent k (record { number = omega arith; next = omega arith; reads = find_none (finds k) t.reads none; phase = λ is. is })).reads;
    }

pub record TaskDoes (t : Task) (done : Sending Task) : Type 0 where
  pub on : TaskGoesOn t done.next
  pub plain : ArePlain done.sent

any-reads : (t : Task) → Reads (IsFrom 0) 0 0 (is_leasing t.phase) t
any-reads t = record { number = omega arith; next = omega arith; reads = low-reads 0 t.next t.reads (omega arith); phase = λ is. is }

pub reply-does : (t : Task) (r : Read) (request global : ℕ) (ops : List Operation) → read_sent t request ≡ Some r → TaskDoes t (filled_if_active (after_reply t r global ops))
reply-does t r request global ops is = record {
  on = goes-on t (filled_if_active (after_reply t r global ops)).next (λ n d ok. (reply-goes (IsFrom n) n d (is_leasing t.phase) t r request global ops is (from-closed n d) ok).next)
      (λ k ok. (reply-goes (IsUnsent k) 0 (suc k) (is_leasing t.phase) t r request global ops is (unsent-closed k) ok).next);
  plain = (reply-goes (IsFrom 0) 0 0 (is_leasing t.phase) t r request global ops is (from-closed 0 0) (any-reads t)).sent;
}

pub ticked-does : (now : ℕ) (t : Task) → TaskDoes t (ticked now t)
ticked-does now t = record {
  on = goes-on t (ticked now t).next (λ n d ok. (ticked-goes (IsFrom n) n d (is_leasing t.phase) now t (from-closed n d) ok).next) (λ k ok. (ticked-goes (IsUnsent k) 0 (suc k) (is_leasing t.phase) now t (unsent-closed k) ok).next);
  plain = (ticked-goes (IsFrom 0) 0 0 (is_leasing t.phase) now t (from-closed 0 0) (any-reads t)).sent;
}

pub ended-does : (w : Write) (t : Task) → TaskDoes t (write_ended t w)
ended-does w t = record {
  on = goes-on t (write_ended t w).next (λ n d ok. (ended-goes (IsFrom n) n d (is_leasing t.phase) w t (from-closed n d) ok).next) (λ k ok. (ended-goes (IsUnsent k) 0 (suc k) (is_leasing t.phase) w t (unsent-closed k) ok).next);
  plain = (ended-goes (IsFrom 0) 0 0 (is_leasing t.phase) w t (from-closed 0 0) (any-reads t)).sent;
}

pub lost-on : (now : ℕ) (r : Read) (t : Task) → TaskGoesOn t (read_lost t now r)
lost-on now r t =
    goes-on t (read_lost t now r) (λ n d ok. lost-goes (IsFrom n) n d (is_leasing t.phase) now r t (from-closed n d) ok) (λ k ok. lost-goes (IsUnsent k) 0 (suc k) (is_leasing t.phase) now r t (unsent-closed k) ok)

-- a task with the same reads, and at least the same request number
pub same-on : (t next : Task) → next.reads ≡ t.reads → next.next ≡ t.next → (is_leasing t.phase ≡ false → is_leasing next.phase ≡ false) → t.next_request ≤ next.next_request → TaskGoesOn t next
same-on t next same least phase up =
    goes-on t next
    (λ n d ok. let number : d ≤ t.next_request = ok.number in record { number = omega arith; next = rw least ok.next; reads = subst (λ (rs : List Read). AllByRecursion (IsFrom n) rs) (sym same) ok.reads; phase = phase })
    (λ k ok. let number : suc k ≤ t.next_request = ok.number in record { number = omega arith; next = omega arith; reads = subst (λ (rs : List Read). AllByRecursion (IsUnsent k) rs) (sym same) ok.reads; phase = phase })

pub stopped-on : (phase : Phase) (t : Task) → is_leasing phase ≡ false → TaskGoesOn t (stopped phase t)
stopped-on phase t other = goes-on t (stopped phase t) (λ n d ok. record { number = ok.number; next = ok.next; reads = tt; phase = λ is. other }) (λ k ok. record { number = ok.number; next = ok.next; reads = tt; phase = λ is. other })

pub stopped-anew-on : (phase : Phase) (t : Task) → is_leasing phase ≡ false → TaskGoesOn t (stopped phase (record t { retry = 0 }))
stopped-anew-on phase t other =
    goes-on t (stopped phase (record t { retry = 0 })) (λ n d ok. record { number = ok.number; next = ok.next; reads = tt; phase = λ is. other }) (λ k ok. record { number = ok.number; next = ok.next; reads = tt; phase = λ is. other })

-- a task that starts at a count, with a request number
pub record Starts (count request : ℕ) (done : Sending Task) : Type 0 where
  pub low : count ≤ low_of done.next.next done.next.reads
  pub drawn : request ≤ done.next.next_request
  pub unsent : (k : ℕ) → k < request → read_sent done.next k ≡ None
  pub phase : is_leasing done.next.phase ≡ false
  pub plain : ArePlain done.sent

pub started-does : (params : ParamValues) (count epoch : ℕ) (history follower : List ℕ) (request : ℕ) → Starts count request (started params count epoch history follower request)
started-does params count epoch history follower request =
    let done : Sending Task = started params count epoch history follower request in
    let from : Goes (IsFrom count) count request false done = started-goes (IsFrom count) count request false params count epoch history follower request (from-closed count request) (omega arith) (omega arith) in
    record {
      low = low-least count done.next.next done.next.reads from.next.next from.next.reads;
      drawn = from.next.number;
      unsent = λ k below. none-found k done.next.reads (started-goes (IsUnsent k) 0 (suc k) false params count epoch history follower request (unsent-closed k) (omega arith) (omega arith)).next.reads;
      phase = from.next.phase refl;
      plain = from.sent;
    }
