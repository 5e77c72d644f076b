-- Where nothing is left undone, Fill does nothing.
use Rattle.std.specs.Prelude.{filter}
use Rattle.std.proofs.Common.{◌≡◌, ◌⊎◌, inl, inr, ℕ, zero, suc, ◌-◌, ◌≤◌, ◌&&◌, min, Bool, true, false, nat_lt, if◌then◌else◌, List, [], ◌∷◌, length, refl, sym, ◌∙◌, ap, arith}
use Rattle.ccr_model.specs.Operations.{is_empty}
use Rattle.ccr_model.specs.Requests.{Sending, quiet, followed_by}
use Rattle.ccr_model.specs.Tasks.{Task, Read, Write, is_active, may_read, has_budget, with_read, all_sent_again, with_batches, fill_writes, is_held, fill_held, next_read, with_reads, fill_reads, fill_peek, fill, filled_if_active}
use Rattle.ccr_model.specs.TaskFacts.{IsSaturated}
use Rattle.ccr_law_base.proofs.Cases.{on_if}
use Rattle.ccr_law_settling.proofs.Task.TickReads.{NoneHeld}
use Rattle.ccr_law_base.proofs.Tests.{and_false}

-- ---- its parts

no_more_writes : (t : Task) → IsSaturated t → fill_writes t ≡ t
no_more_writes t s = by s.writes
  where
    count : ℕ
    count = min (t.params.max_outstanding_write_requests - length t.writes) (length t.buffer)

    none : count ≡ 0 → with_batches count t ≡ t
    none e = ap (λ (n : ℕ). with_batches n t) e

    by : (t.buffer ≡ []) ⊎ (t.params.max_outstanding_write_requests ≤ length t.writes) → fill_writes t ≡ t
    by (inl empty) = none (let e : length t.buffer ≡ 0 = ap length empty in omega arith)
    by (inr full) = none (omega arith)

none_left : (reads : List Read) → NoneHeld reads → filter is_held reads ≡ []
none_left [] none = refl
none_left (r ∷ reads) none = rw none.0 (none_left reads none.1)

no_held_read : (t : Task) → IsSaturated t → fill_held t ≡ quiet t
no_held_read t s =
    on_if (λ (done : Sending Task). done ≡ quiet t) (may_read t) (all_sent_again (filter is_held t.reads) t) (quiet t)
    (λ may. ap (λ (reads : List Read). all_sent_again reads t) (none_left t.reads (s.held may))) (λ maynt. refl)

no_more_reads : (t : Task) → IsSaturated t → fill_reads t ≡ quiet t
no_more_reads t s = by (has_budget t) refl
  where
    count : ℕ
    count = min (t.params.max_outstanding_read_requests - length t.reads) (t.known - t.next)

    without : (n : ℕ) → has_budget t ≡ false → with_reads n t ≡ quiet t
    without zero hasnt = refl
    without (suc n) hasnt = ap (λ (b : Bool). if b && nat_lt t.next t.known then followed_by (next_read t) (with_reads n) else quiet t) hasnt

    by : (b : Bool) → has_budget t ≡ b → with_reads count t ≡ quiet t
    by true has =
        let known : t.known ≤ t.next = s.reads has in
        let e : count ≡ 0 = omega arith in
        ap (λ (n : ℕ). with_reads n t) e
    by false hasnt = without count hasnt

some_read : (reads : List Read) → 1 ≤ length reads → is_empty reads ≡ false
some_read [] some = absurd (omega arith)
some_read (r ∷ reads) some = refl

no_peek : (t : Task) → IsSaturated t → fill_peek t ≡ quiet t
no_peek t s = by (has_budget t) refl
  where
    peek : Sending Task
    peek = with_read t t.next t.next t.params.max_read_request_operation_count

    by : (b : Bool) → has_budget t ≡ b → fill_peek t ≡ quiet t
    by true has = ap (λ (b : Bool). if b && has_budget t then peek else quiet t) (some_read t.reads (s.one has))
    by false hasnt = ap (λ (b : Bool). if is_empty t.reads && b then peek else quiet t) hasnt ∙ ap (λ (b : Bool). if b then peek else quiet t) (and_false (is_empty t.reads))

-- ---- all of it

pub fills_nothing : (t : Task) → IsSaturated t → fill t ≡ quiet t
fills_nothing t s =
    ap (λ (u : Task). followed_by (followed_by (fill_held u) fill_reads) fill_peek) (no_more_writes t s)
    ∙ (ap (λ (done : Sending Task). followed_by (followed_by done fill_reads) fill_peek) (no_held_read t s)
    ∙ (ap (λ (done : Sending Task). followed_by done fill_peek) (no_more_reads t s) ∙ no_peek t s))

pub filled_nothing : (t : Task) → (is_active t.phase ≡ true → IsSaturated t) → filled_if_active t ≡ quiet t
filled_nothing t s =
    on_if (λ (done : Sending Task). done ≡ quiet t) (is_active t.phase) (fill t) (quiet t) (λ is. fills_nothing t (s is)) (λ isnt. refl)

-- still nothing is left undone where there are as many reads and writes, and none is held where none was
pub still_saturated : (t : Task) (next_request : ℕ) (reads : List Read) (writes : List Write) → length reads ≡ length t.reads → length writes ≡ length t.writes
    → (NoneHeld t.reads → NoneHeld reads) → IsSaturated t → IsSaturated (record t { next_request = next_request; reads = reads; writes = writes })
still_saturated t next_request reads writes same_reads same_writes held s = record {
  writes = by s.writes;
  held = λ may. held (s.held may);
  reads = λ has. s.reads (sym budget ∙ has);
  one = λ has. (let some : 1 ≤ length t.reads = s.one (sym budget ∙ has) in omega arith);
}
  where
    budget : has_budget (record t { next_request = next_request; reads = reads; writes = writes }) ≡ has_budget t
    budget = ap (λ (n : ℕ). nat_lt n t.params.max_outstanding_read_requests && may_read t) same_reads

    by : (t.buffer ≡ []) ⊎ (t.params.max_outstanding_write_requests ≤ length t.writes) → (t.buffer ≡ []) ⊎ (t.params.max_outstanding_write_requests ≤ length writes)
    by (inl empty) = inl empty
    by (inr full) = inr (omega arith)
