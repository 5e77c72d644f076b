-- The functions of a task keep what holds of it: start, replies, losses, ended writes, retries, stops, drawn numbers, and a later line.
use Rattle.std.specs.Prelude.{nat_lt, ◌==◌}
use Rattle.std.specs.List.{AllByRecursion, filter, count_by}
use Rattle.std.proofs.Common.{◌≡◌, ◌∙◌, ◌⊎◌, ℕ, ◌+◌, ◌-◌, ◌*◌, ◌≤◌, ◌<◌, max, Bool, false, if◌then◌else◌, ◌&&◌, List, [], ◌∷◌, ◌++◌, length, map, Some, refl, sym, ap, subst, arith}
use Rattle.std.proofs.lemmas.Bool.Decides.{nat_tests}
use Rattle.ccr_op.specs.Operation.{Operation}
use Rattle.ccr_journal.specs.Params.{AreInRange}
use Rattle.ccr_journal.specs.declared.params.ParamValues.{ParamValues}
use Rattle.ccr_journal.specs.declared.sides.Phase.{Phase}
use Rattle.ccr_journal.specs.declared.sides.Phase.TheVariants as phases
use Rattle.ccr_model.specs.Requests.{Sending, Progress, on_its_way, is_sent, is_due, quiet}
use Rattle.ccr_model.specs.Tasks.{Task, Read, Write, is_active, bytes_of, may_read, has_budget, is_held, changed_read, changed_write, without_write, all_sent_again, filled_if_active, started, stopped, never_started, after_reply, in_order_of_request, read_lost, write_lost, waits_after, write_sent, write_ended, due_reads_sent, due_writes_sent, ticked}
use Rattle.ccr_model.specs.Past.{Line, WrittenBatch}
use Rattle.ccr_model.specs.FrameFacts.{IsCommitted}
use Rattle.ccr_model.specs.TaskFacts.{IsSaturated, IsBoundedBatch, times_at, times_in, batches_of, written_in, is_in_read}
use Rattle.ccr_law_base.proofs.Cases.{on_if}
use Rattle.ccr_law_base.proofs.Lists.{All-changed_read, All-weaker}
use Rattle.ccr_law_tasks.specs.GoodTask.{IsGoodRead, HasRoom, sent_count, largest_committed, IsLater, IsSoundTask, IsGoodTask, IsTrueReply}
use Rattle.ccr_law_tasks.proofs.Sums.{one_if}
use Rattle.ccr_law_tasks.proofs.ReadLists.{length-changed, count-changed-le, count-changed-same}
use Rattle.ccr_law_tasks.proofs.WriteLists.{KeepsWrite, IsWritePlaced, write-placed, length-changed_write, all-changed_write, count-changed_write, batches-changed_write, length-mapped, all-mapped, count-mapped, batches-mapped, times-without, all-without_write, length-without_write, count-without_write, batches-without, times-written}
use Rattle.ccr_law_tasks.proofs.SameEpoch.{fill-epoch}
use Rattle.ccr_law_tasks.proofs.Filling.{all-sent-again, fill-done, filled-good}
use Rattle.ccr_law_tasks.proofs.Answering.{reply-sound}
use Rattle.ccr_law_tasks.proofs.Lines.{committed-later, largest-later}
use Rattle.std.proofs.lemmas.Bool.{both_ways}

-- ---- start

abbrev pub start_task : ParamValues → ℕ → ℕ → List ℕ → List ℕ → ℕ → Task
start_task params count epoch history follower request = record {
  params = params;
  history = history;
  follower = follower;
  phase = phases.Active;
  epoch = epoch;
  next_request = request;
  retry = 0;
  next = count;
  known = count;
  reads = [];
  buffer = [];
  next_write = 0;
  writes = [];
}

pub start-sound : (line : Line) (params : ParamValues) (count epoch : ℕ) (history follower : List ℕ) (request : ℕ) (written : List WrittenBatch)
    → AreInRange params → written_in epoch written ≡ [] → IsSoundTask line (start_task params count epoch history follower request) count written
start-sound line params count epoch history follower request written in_range none = record {
  params = in_range;
  begun = omega arith;
  reads = record { all = tt; apart = λ k. omega arith; few = omega arith };
  writes = record { drawn = tt; apart = λ k. omega arith; few = omega arith; batches = tt };
  places = λ active. λ n low.
      let ended : times_in n (written_in epoch written) ≡ times_in n [] = ap (times_in n) none in
      let above : one_if (nat_lt n count) ≡ 0 = grind (arith, nat_tests) in
      let goal : times_at (start_task params count epoch history follower request) written n ≡ one_if (nat_lt n count) = omega arith in
      goal;
  room = omega arith;
  space = omega arith;
  buffer = tt;
  batches = tt;
}

pub started-good : (line : Line) (params : ParamValues) (count epoch : ℕ) (history follower : List ℕ) (request : ℕ) (written : List WrittenBatch)
    → AreInRange params → written_in epoch written ≡ [] → IsGoodTask line (started params count epoch history follower request).next count written
started-good line params count epoch history follower request written in_range none =
    let done = fill-done line count written (start_task params count epoch history follower request) (start-sound line params count epoch history follower request written in_range none) in
    record { sound = done.0; saturated = λ active. done.1 }

pub started-epoch : (params : ParamValues) (count epoch : ℕ) (history follower : List ℕ) (request : ℕ) → (started params count epoch history follower request).next.epoch ≡ epoch
started-epoch params count epoch history follower request = fill-epoch (start_task params count epoch history follower request)

-- ---- replies

pub reply-good : (line : Line) (begun_at : ℕ) (written : List WrittenBatch) (t : Task) (r : Read) (request from global : ℕ) (ops : List Operation)
    → IsTrueReply line t r request from ops → IsGoodTask line t begun_at written → IsGoodTask line (filled_if_active (after_reply t r global ops)).next begun_at written
reply-good line begun_at written t r request from global ops true_reply good =
    filled-good line begun_at written (after_reply t r global ops) (reply-sound line begun_at written t r request from global ops true_reply good.sound)

-- ---- losses

less-one : (b c : Bool) → c ≡ false → one_if c ≤ one_if b + 0
less-one b c none = let e : one_if c ≡ 0 = ap one_if none in omega arith

-- fewer reads in the sent state leave no less room
mul-le : (a b m : ℕ) → a ≤ b → a * m ≤ b * m
mul-le a b m low = grind arith

room-fewer : (bound most_reads most sent fewer load : ℕ) → fewer ≤ sent → HasRoom bound most_reads most sent load → HasRoom bound most_reads most fewer load
room-fewer bound most_reads most sent fewer load less room =
    let more : (most_reads - sent) * most ≤ (most_reads - fewer) * most = mul-le (most_reads - sent) (most_reads - fewer) most (omega arith) in
    omega arith

abbrev wait_for : Progress → Read → Read
wait_for progress own = record own { progress = progress }

read_lost-sound : (line : Line) (begun_at : ℕ) (written : List WrittenBatch) (t : Task) (now : ℕ) (r : Read)
    → IsSoundTask line t begun_at written → IsSoundTask line (read_lost t now r) begun_at written
read_lost-sound line begun_at written t now r s =
    let f : Read → Read = wait_for (waits_after t now) in
    let most : ℕ = t.params.max_read_request_operation_count in
    let sent : sent_count (changed_read r.request f t.reads) ≤ sent_count t.reads + 0 = count-changed-le (λ own. is_sent own.progress) r.request 0 f (λ own. omega arith) t.reads in
    record {
      params = s.params;
      begun = s.begun;
      reads = record {
        all = All-changed_read (IsGoodRead most begun_at t.next_request t.next) r.request f
            (λ own good. record { drawn = good.drawn; begins = good.begins; ordered = good.ordered; below = good.below; enough = good.enough; asked = good.asked; exact = λ held. absurd (cc) }) t.reads s.reads.all;
        apart = λ k.
            let same : count_by {X = Read} (λ r. r.request == k) (changed_read r.request f t.reads) ≡ count_by {X = Read} (λ r. r.request == k) t.reads = count-changed-same (λ r. r.request == k) r.request f (λ own. refl) t.reads in
            let most : count_by {X = Read} (λ r. r.request == k) t.reads ≤ 1 = s.reads.apart k in
            omega arith;
        few =
            let same : length (changed_read r.request f t.reads) ≡ length t.reads = length-changed r.request f t.reads in
            let few : length t.reads ≤ t.params.max_outstanding_read_requests = s.reads.few in
            omega arith;
      };
      writes = s.writes;
      places = λ active. λ n low.
          let old = s.places active n low in
          let same : count_by (is_in_read n) (changed_read r.request f t.reads) ≡ count_by (is_in_read n) t.reads = count-changed-same (is_in_read n) r.request f (λ own. refl) t.reads in
          let all : times_at (read_lost t now r) written n ≡ times_at t written n = omega arith in
          all ∙ old;
      room = room-fewer _ _ _ (sent_count t.reads) (sent_count (changed_read r.request f t.reads)) (length t.buffer) (omega arith) s.room;
      space = room-fewer _ _ _ (sent_count t.reads) (sent_count (changed_read r.request f t.reads)) (bytes_of t.buffer) (omega arith) s.space;
      buffer = s.buffer;
      batches = s.batches;
    }

-- whether a read may be begun depends on how many there are alone
read_lost-saturated : (t : Task) (now : ℕ) (r : Read) → IsSaturated t → IsSaturated (read_lost t now r)
read_lost-saturated t now r full =
    let f : Read → Read = wait_for (waits_after t now) in
    let same : length (changed_read r.request f t.reads) ≡ length t.reads = length-changed r.request f t.reads in
    let budget : has_budget (read_lost t now r) ≡ has_budget t = ap (λ (n : ℕ). nat_lt n t.params.max_outstanding_read_requests && may_read t) same in
    record {
      writes = full.writes;
      held = λ may. All-changed_read (λ (r : Read). is_held r ≡ false) r.request f (λ own isnt. refl) t.reads (full.held may);
      reads = λ has. full.reads (sym budget ∙ has);
      one = λ has. let some : 1 ≤ length t.reads = full.one (sym budget ∙ has) in omega arith;
    }

pub read_lost-good : (line : Line) (begun_at : ℕ) (written : List WrittenBatch) (t : Task) (now : ℕ) (r : Read)
    → IsGoodTask line t begun_at written → IsGoodTask line (read_lost t now r) begun_at written
read_lost-good line begun_at written t now r good = record {
  sound = read_lost-sound line begun_at written t now r good.sound;
  saturated = λ active. read_lost-saturated t now r (good.saturated active);
}

-- ---- writes that change their state

write-keeps : (progress : Progress) → KeepsWrite (λ own. record own { progress = progress })
write-keeps progress = record { number = λ w. refl; batch = λ w. refl }

write_lost-sound : (line : Line) (begun_at : ℕ) (written : List WrittenBatch) (t : Task) (now : ℕ) (w : Write)
    → IsSoundTask line t begun_at written → IsSoundTask line (write_lost t now w) begun_at written
write_lost-sound line begun_at written t now w s =
    let f : Write → Write = λ own. record own { progress = waits_after t now } in
    let keeps : KeepsWrite f = write-keeps (waits_after t now) in
    let batches : batches_of (changed_write w.number f t.writes) ≡ batches_of t.writes = batches-changed_write w.number f keeps t.writes in
    record {
      params = s.params;
      begun = s.begun;
      reads = s.reads;
      writes = record {
        drawn = all-changed_write (λ (w : Write). w.number < t.next_write) w.number f (λ own low. low) t.writes s.writes.drawn;
        apart = λ k.
            let same : count_by {X = Write} (λ w. w.number == k) (changed_write w.number f t.writes) ≡ count_by {X = Write} (λ w. w.number == k) t.writes = count-changed_write k w.number f keeps t.writes in
            let most : count_by {X = Write} (λ w. w.number == k) t.writes ≤ 1 = s.writes.apart k in
            omega arith;
        few =
            let same : length (changed_write w.number f t.writes) ≡ length t.writes = length-changed_write w.number f t.writes in
            let few : length t.writes ≤ t.params.max_outstanding_write_requests = s.writes.few in
            omega arith;
        batches = all-changed_write (λ (w : Write). IsBoundedBatch t.params.max_write_request_operation_count t.params.max_write_request_size w.batch) w.number f (λ own bounded. bounded) t.writes s.writes.batches;
      };
      places = λ active. λ n low.
          let old = s.places active n low in
          let same : times_in n (batches_of (changed_write w.number f t.writes)) ≡ times_in n (batches_of t.writes) = ap (times_in n) batches in
          let all : times_at (write_lost t now w) written n ≡ times_at t written n = omega arith in
          all ∙ old;
      room = s.room;
      space = s.space;
      buffer = s.buffer;
      batches = subst (λ (ops : List Operation). AllByRecursion (IsCommitted line) ops) (sym batches) s.batches;
    }

more-writes : (t : Task) (writes : List Write) → length writes ≡ length t.writes → IsSaturated t → IsSaturated (record t { writes = writes })
more-writes t writes same full = record {
  writes = subst (λ (n : ℕ). (t.buffer ≡ []) ⊎ (t.params.max_outstanding_write_requests ≤ n)) (sym same) full.writes;
  held = full.held;
  reads = full.reads;
  one = full.one;
}

pub write_lost-good : (line : Line) (begun_at : ℕ) (written : List WrittenBatch) (t : Task) (now : ℕ) (w : Write)
    → IsGoodTask line t begun_at written → IsGoodTask line (write_lost t now w) begun_at written
write_lost-good line begun_at written t now w good = record {
  sound = write_lost-sound line begun_at written t now w good.sound;
  saturated = λ active.
      let f : Write → Write = λ own. record own { progress = waits_after t now } in
      let full : IsSaturated (record t { writes = changed_write w.number f t.writes }) = more-writes t (changed_write w.number f t.writes) (length-changed_write w.number f t.writes) (good.saturated active) in
      record { writes = full.writes; held = full.held; reads = full.reads; one = full.one };
}

abbrev due_sent : ℕ → Write → Write
due_sent now w = if is_due now w.progress then record w { progress = on_its_way } else w

due-keeps : (now : ℕ) → KeepsWrite (due_sent now)
due-keeps now = record {
  number = λ w. on_if (λ (own : Write). own.number ≡ w.number) (is_due now w.progress) (record w { progress = on_its_way }) w (λ is. refl) (λ isnt. refl);
  batch = λ w. on_if (λ (own : Write). own.batch ≡ w.batch) (is_due now w.progress) (record w { progress = on_its_way }) w (λ is. refl) (λ isnt. refl);
}

pub due_writes-sound : (line : Line) (begun_at : ℕ) (written : List WrittenBatch) (t : Task) (now : ℕ)
    → IsSoundTask line t begun_at written → IsSoundTask line (due_writes_sent now t) begun_at written
due_writes-sound line begun_at written t now s =
    let f : Write → Write = due_sent now in
    let keeps : KeepsWrite f = due-keeps now in
    let batches : batches_of (map f t.writes) ≡ batches_of t.writes = batches-mapped f keeps t.writes in
    record {
      params = s.params;
      begun = s.begun;
      reads = s.reads;
      writes = record {
        drawn = all-mapped (λ (w : Write). w.number < t.next_write) f (λ own low. subst (λ (n : ℕ). n < t.next_write) (sym (keeps.number own)) low) t.writes s.writes.drawn;
        apart = λ k.
            let same : count_by {X = Write} (λ w. w.number == k) (map f t.writes) ≡ count_by {X = Write} (λ w. w.number == k) t.writes = count-mapped k f keeps t.writes in
            let most : count_by {X = Write} (λ w. w.number == k) t.writes ≤ 1 = s.writes.apart k in
            omega arith;
        few =
            let same : length (map f t.writes) ≡ length t.writes = length-mapped f t.writes in
            let few : length t.writes ≤ t.params.max_outstanding_write_requests = s.writes.few in
            omega arith;
        batches = all-mapped (λ (w : Write). IsBoundedBatch t.params.max_write_request_operation_count t.params.max_write_request_size w.batch) f
            (λ own bounded. subst (λ (batch : List Operation). IsBoundedBatch t.params.max_write_request_operation_count t.params.max_write_request_size batch) (sym (keeps.batch own)) bounded) t.writes s.writes.batches;
      };
      places = λ active. λ n low.
          let old = s.places active n low in
          let same : times_in n (batches_of (map f t.writes)) ≡ times_in n (batches_of t.writes) = ap (times_in n) batches in
          let all : times_at (due_writes_sent now t) written n ≡ times_at t written n = omega arith in
          all ∙ old;
      room = s.room;
      space = s.space;
      buffer = s.buffer;
      batches = subst (λ (ops : List Operation). AllByRecursion (IsCommitted line) ops) (sym batches) s.batches;
    }

-- ---- retries

pub due_reads-sound : (line : Line) (begun_at : ℕ) (written : List WrittenBatch) (t : Task) (now : ℕ)
    → IsSoundTask line t begun_at written → IsSoundTask line (due_reads_sent now t).next begun_at written
due_reads-sound line begun_at written t now s =
    on_if (λ (done : Sending Task). IsSoundTask line done.next begun_at written) (may_read t)
    (all_sent_again (in_order_of_request (filter (λ r. is_due now r.progress) t.reads)) t) (quiet t)
    (λ may. all-sent-again line begun_at written (in_order_of_request (filter (λ r. is_due now r.progress) t.reads)) t may s) (λ maynt. s)

pub ticked-good : (line : Line) (begun_at : ℕ) (written : List WrittenBatch) (t : Task) (now : ℕ)
    → IsGoodTask line t begun_at written → IsGoodTask line (ticked now t).next begun_at written
ticked-good line begun_at written t now good =
    let after : Task = (due_reads_sent now t).next in
    let reads : IsSoundTask line after begun_at written = due_reads-sound line begun_at written t now good.sound in
    filled-good line begun_at written (due_writes_sent now after) (due_writes-sound line begun_at written after now reads)

-- ---- ended writes

abbrev pub ended : Task → Write → Task
ended t w = record t { retry = 0; writes = without_write w.number t.writes }

pub ended-sound : (line : Line) (begun_at : ℕ) (written : List WrittenBatch) (t : Task) (number : ℕ) (w : Write) → write_sent t number ≡ Some w
    → IsSoundTask line t begun_at written → IsSoundTask line (ended t w) begun_at (written ++ record { epoch = t.epoch; batch = w.batch } ∷ [])
ended-sound line begun_at written t number w sent s =
    let at : IsWritePlaced w t.writes = write-placed number t.writes w s.writes.apart sent in
    record {
      params = s.params;
      begun = s.begun;
      reads = s.reads;
      writes = record {
        drawn = all-without_write (λ (w : Write). w.number < t.next_write) w.number t.writes s.writes.drawn;
        apart = λ k.
            let less : count_by {X = Write} (λ w. w.number == k) (without_write w.number t.writes) ≤ count_by {X = Write} (λ w. w.number == k) t.writes = count-without_write k w.number t.writes in
            let most : count_by {X = Write} (λ w. w.number == k) t.writes ≤ 1 = s.writes.apart k in
            omega arith;
        few =
            let less : length (without_write w.number t.writes) ≤ length t.writes = length-without_write w.number t.writes in
            let few : length t.writes ≤ t.params.max_outstanding_write_requests = s.writes.few in
            omega arith;
        batches = all-without_write (λ (w : Write). IsBoundedBatch t.params.max_write_request_operation_count t.params.max_write_request_size w.batch) w.number t.writes s.writes.batches;
      };
      places = λ active. λ n low.
          let old = s.places active n low in
          let left : times_in n (batches_of (without_write w.number t.writes)) + times_in n w.batch ≡ times_in n (batches_of t.writes) = times-without n w t.writes at in
          let more : times_in n (written_in t.epoch (written ++ record { epoch = t.epoch; batch = w.batch } ∷ [])) ≡ times_in n (written_in t.epoch written) + times_in n w.batch = times-written n t.epoch w.batch written in
          let all : times_at (ended t w) (written ++ record { epoch = t.epoch; batch = w.batch } ∷ []) n ≡ times_at t written n = omega arith in
          all ∙ old;
      room = s.room;
      space = s.space;
      buffer = s.buffer;
      batches = batches-without (IsCommitted line) w.number t.writes s.batches;
    }

pub write_ended-good : (line : Line) (begun_at : ℕ) (written : List WrittenBatch) (t : Task) (number : ℕ) (w : Write) → write_sent t number ≡ Some w
    → IsGoodTask line t begun_at written → IsGoodTask line (write_ended t w).next begun_at (written ++ record { epoch = t.epoch; batch = w.batch } ∷ [])
write_ended-good line begun_at written t number w sent good =
    filled-good line begun_at (written ++ record { epoch = t.epoch; batch = w.batch } ∷ []) (ended t w) (ended-sound line begun_at written t number w sent good.sound)

-- ---- stops

pub stopped-good : (line : Line) (begun_at : ℕ) (written : List WrittenBatch) (t : Task) (phase : Phase) → is_active phase ≡ false
    → IsGoodTask line t begun_at written → IsGoodTask line (stopped phase t) begun_at written
stopped-good line begun_at written t phase isnt good = record {
  sound = record {
    params = good.sound.params;
    begun = good.sound.begun;
    reads = record { all = tt; apart = λ k. omega arith; few = omega arith };
    writes = good.sound.writes;
    places = λ active. absurd (both_ways (is_active phase) isnt active);
    room = omega arith;
    space = omega arith;
    buffer = tt;
    batches = good.sound.batches;
  };
  saturated = λ active. absurd (both_ways (is_active phase) isnt active);
}

-- a task takes a phase that isn't active
pub never-good : (line : Line) (params : ParamValues) (history follower : List ℕ) (request : ℕ) (phase : Phase) (begun_at : ℕ) (written : List WrittenBatch) → is_active phase ≡ false
    → begun_at ≡ 0 → AreInRange params → IsGoodTask line (never_started params history follower request phase) begun_at written
never-good line params history follower request phase begun_at written isnt zero in_range = record {
  sound = record {
    params = in_range;
    begun = omega arith;
    reads = record { all = tt; apart = λ k. omega arith; few = omega arith };
    writes = record { drawn = tt; apart = λ k. omega arith; few = omega arith; batches = tt };
    places = λ active. absurd (both_ways (is_active phase) isnt active);
    room = omega arith;
    space = omega arith;
    buffer = tt;
    batches = tt;
  };
  saturated = λ active. absurd (both_ways (is_active phase) isnt active);
}

pub rested-good : (line : Line) (begun_at : ℕ) (written : List WrittenBatch) (t : Task) (phase : Phase) → is_active phase ≡ false
    → IsGoodTask line t begun_at written → IsGoodTask line (record t { phase = phase }) begun_at written
rested-good line begun_at written t phase isnt good = record {
  sound = record {
    params = good.sound.params;
    begun = good.sound.begun;
    reads = good.sound.reads;
    writes = good.sound.writes;
    places = λ active. absurd (both_ways (is_active phase) isnt active);
    room = good.sound.room;
    space = good.sound.space;
    buffer = good.sound.buffer;
    batches = good.sound.batches;
  };
  saturated = λ active. absurd (both_ways (is_active phase) isnt active);
}

-- the retries don't matter
pub calm-good : (line : Line) (begun_at : ℕ) (written : List WrittenBatch) (t : Task) (retry : ℕ)
    → IsGoodTask line t begun_at written → IsGoodTask line (record t { retry = retry }) begun_at written
calm-good line begun_at written t retry good = record {
  sound = record {
    params = good.sound.params;
    begun = good.sound.begun;
    reads = good.sound.reads;
    writes = good.sound.writes;
    places = good.sound.places;
    room = good.sound.room;
    space = good.sound.space;
    buffer = good.sound.buffer;
    batches = good.sound.batches;
  };
  saturated = λ active. let full = good.saturated active in record { writes = full.writes; held = full.held; reads = full.reads; one = full.one };
}

-- a request number is drawn for another message
pub drawn-good : (line : Line) (begun_at : ℕ) (written : List WrittenBatch) (t : Task)
    → IsGoodTask line t begun_at written → IsGoodTask line (record t { next_request = t.next_request + 1 }) begun_at written
drawn-good line begun_at written t good = record {
  sound = record {
    params = good.sound.params;
    begun = good.sound.begun;
    reads = record {
      all = All-weaker (IsGoodRead t.params.max_read_request_operation_count begun_at t.next_request t.next) (IsGoodRead t.params.max_read_request_operation_count begun_at (t.next_request + 1) t.next)
          (λ own r. record { drawn = (let low : own.request < t.next_request = r.drawn in omega arith); begins = r.begins; ordered = r.ordered; below = r.below; enough = r.enough; asked = r.asked; exact = r.exact })
          t.reads good.sound.reads.all;
      apart = good.sound.reads.apart;
      few = good.sound.reads.few;
    };
    writes = good.sound.writes;
    places = good.sound.places;
    room = good.sound.room;
    space = good.sound.space;
    buffer = good.sound.buffer;
    batches = good.sound.batches;
  };
  saturated = λ active. let full = good.saturated active in record { writes = full.writes; held = full.held; reads = full.reads; one = full.one };
}

-- ---- a later line

mul-le-each : (a m k : ℕ) → m ≤ k → a * m ≤ a * k
mul-le-each a m k low = grind arith

pub later-good : (line next : Line) (begun_at : ℕ) (written : List WrittenBatch) (t : Task) → IsLater line next
    → IsGoodTask line t begun_at written → IsGoodTask next t begun_at written
later-good line next begun_at written t later good =
    let s = good.sound in
    let small : ℕ = max t.params.max_read_request_size (largest_committed line) in
    let large : ℕ = max t.params.max_read_request_size (largest_committed next) in
    let larger : largest_committed line ≤ largest_committed next = largest-later line next later in
    let more : (t.params.max_outstanding_read_requests - sent_count t.reads) * small ≤ (t.params.max_outstanding_read_requests - sent_count t.reads) * large =
    mul-le-each (t.params.max_outstanding_read_requests - sent_count t.reads) small large (omega arith) in
    let space : HasRoom t.params.max_write_buffer_size t.params.max_outstanding_read_requests small (sent_count t.reads) (bytes_of t.buffer) = s.space in
    record {
      sound = record {
        params = s.params;
        begun = s.begun;
        reads = s.reads;
        writes = s.writes;
        places = s.places;
        room = s.room;
        space = omega arith;
        buffer = All-weaker (IsCommitted line) (IsCommitted next) (committed-later line next later) t.buffer s.buffer;
        batches = All-weaker (IsCommitted line) (IsCommitted next) (committed-later line next later) (batches_of t.writes) s.batches;
      };
      saturated = good.saturated;
    }
