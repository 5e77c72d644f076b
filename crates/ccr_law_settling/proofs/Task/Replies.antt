-- A task that takes a reply to a read lacks less; or it lacks no more, and one message or one old peek passed.
use Rattle.std.specs.List.{AllByRecursion, filter}
use Rattle.std.proofs.Common.{◌≡◌, ◌⊎◌, inl, inr, ℕ, ◌+◌, ◌-◌, ◌*◌, ◌<◌, ◌≤◌, ◌==◌, min, max, Bool, true, false, nat_lt, if◌then◌else◌, List, [], ◌∷◌, length, refl, sym, subst, arith}
use Rattle.std.proofs.lemmas.Bool.Decides.{nat_tests}
use Rattle.ccr_op.specs.Operation.{Operation}
use Rattle.ccr_wire.specs.Message.{IsRun}
use Rattle.ccr_model.specs.Operations.{is_empty, with_ops}
use Rattle.ccr_model.specs.Tasks.{Task, Read, kept_of, end_of_ops, reads_after, after_reply, filled_if_active}
use Rattle.ccr_model.specs.Leaders.{Session}
use Rattle.ccr_model.specs.Followers.{replicating}
use Rattle.ccr_law_tasks.proofs.Operations.{length-with_ops, run-below, run-end}
use Rattle.ccr_law_tasks.proofs.ReadLists.{IsPlaced}
use Rattle.ccr_law_settling.specs.Measure.{total, task_lacks, old_peeks}
use Rattle.ccr_law_settling.proofs.Task.ReplyReads.{numbers_of, asked_for, fewer_numbers, peek_below, no_more_peeks, one_peek_ends}
use Rattle.ccr_law_settling.proofs.Task.ReplyFills.{StandsStill, FillsOn, filled_fills_on}

-- a reply to a read of the task, where no more than this count is told, known or asked for
pub record IsGoodReply (count : ℕ) (t : Task) (r : Read) (global : ℕ) (ops : List Operation) : Type 0 where
  pub placed : IsPlaced r t.reads
  pub ordered : r.from ≤ r.to
  pub below : r.to ≤ t.next
  pub next : t.next ≤ count
  pub known : t.known ≤ count
  pub told : global ≤ count
  pub run : IsRun r.from ops
  pub within : AllByRecursion (λ (op : Operation). op.seq < count) ops

-- the task lacks less; or it lacks no more, and what passes without bringing anything is fewer by one: the message, where it is idle, or an old peek
abbrev pub ComesNearer : ℕ → Bool → Task → Task → Type 0
ComesNearer count idle t new =
    (task_lacks count new < task_lacks count t)
    ⊎ ((task_lacks count new ≤ task_lacks count t) × (old_peeks (replicating new) < old_peeks (replicating t) + (if idle then 1 else 0)))

-- ---- what a reply brings

end_within : (count n : ℕ) (ops : List Operation) → n ≤ count → AllByRecursion (λ (op : Operation). op.seq < count) ops → end_of_ops ops n ≤ count
end_within count n [] low within = low
end_within count n (op ∷ ops) low within = (let lt : op.seq < count = within.0 in end_within count (max n (op.seq + 1)) ops (omega arith) within.1)

-- how many operations are kept
abbrev kept_count : Bool → ℕ → List Operation → ℕ
kept_count all to ops = if all then length ops else length (filter (λ op. nat_lt op.seq to) ops)

-- what is kept counts less in the buffer than before it was read, by one each
kept_lacks : (count next from to : ℕ) (ops : List Operation) → IsRun from ops → AllByRecursion (λ (op : Operation). op.seq < count) ops → from ≤ to → to ≤ next → next ≤ count
    → (all : Bool) → (next == to) ≡ all
    → 5 * (count - (if all then end_of_ops ops next else next)) + 3 * length (if all then ops else filter (λ op. nat_lt op.seq to) ops) + kept_count all to ops
    ≤ 5 * (count - next) + 4 * length (filter (λ op. nat_lt op.seq to) ops)
kept_lacks count next from to ops run within ordered below low false isnt = omega arith
kept_lacks count next from to ops run within ordered below low true is =
    let same : next ≡ to = grind (arith, nat_tests) in
    let end : end_of_ops ops next ≡ max next (from + length ops) = run-end next from ops run (omega arith) in
    let short : length (filter (λ op. nat_lt op.seq to) ops) ≡ min (length ops) (to - from) = run-below to from ops run in
    let high : end_of_ops ops next ≤ count = end_within count next ops low within in
    omega arith

-- the task after a reply, before it is filled
reply_lacks : (count : ℕ) (t : Task) (r : Read) (global : ℕ) (ops : List Operation) → IsGoodReply count t r global ops
    → task_lacks count (after_reply t r global ops) + kept_count (t.next == r.to) r.to ops ≤ task_lacks count t
reply_lacks count t r global ops good =
    let kept : 5 * (count - (if t.next == r.to then end_of_ops ops t.next else t.next)) + 3 * length (kept_of t r ops) + kept_count (t.next == r.to) r.to ops
    ≤ 5 * (count - t.next) + 4 * length (asked_for r ops)
    = kept_lacks count t.next r.from r.to ops good.run good.within good.ordered good.below good.next (t.next == r.to) refl in
    let buffer : length (with_ops (kept_of t r ops) t.buffer) ≡ length (kept_of t r ops) + length t.buffer = length-with_ops (kept_of t r ops) t.buffer in
    let reads : total numbers_of (reads_after r ops t.reads) + length (asked_for r ops) ≡ total numbers_of t.reads = fewer_numbers r ops t.reads good.placed good.ordered good.run in
    sums count (if t.next == r.to then end_of_ops ops t.next else t.next) t.next (length (kept_of t r ops)) (kept_count (t.next == r.to) r.to ops) (length (asked_for r ops))
    (length (with_ops (kept_of t r ops) t.buffer)) (length t.buffer) (total numbers_of (reads_after r ops t.reads)) (total numbers_of t.reads) _ t.known global kept buffer reads
  where
    sums : (count after next kept gain asked buffer old_buffer reads old_reads writes known global : ℕ) → 5 * (count - after) + 3 * kept + gain ≤ 5 * (count - next) + 4 * asked
        → buffer ≡ kept + old_buffer → reads + asked ≡ old_reads
        → 5 * (count - after) + 4 * reads + 3 * buffer + writes + (count - max known global) + gain ≤ 5 * (count - next) + 4 * old_reads + 3 * old_buffer + writes + (count - known)
    sums count after next kept gain asked buffer old_buffer reads old_reads writes known global a b c = omega arith

-- ---- where it brings nothing

-- the old peeks after a reply that leaves `next`
peeks_left : (t : Task) (r : Read) (global : ℕ) (ops : List Operation) → IsPlaced r t.reads → (if t.next == r.to then end_of_ops ops t.next else t.next) ≡ t.next
    → old_peeks (replicating (after_reply t r global ops)) ≤ old_peeks (replicating t)
peeks_left t r global ops placed same =
    subst (λ (n : ℕ). total (peek_below n) (reads_after r ops t.reads) ≤ total (peek_below t.next) t.reads) (sym same) (no_more_peeks t.next r ops t.reads placed)

peek_left : (t : Task) (r : Read) (global : ℕ) (ops : List Operation) → IsPlaced r t.reads → (if t.next == r.to then end_of_ops ops t.next else t.next) ≡ t.next → r.from ≡ r.to → r.to < t.next
    → old_peeks (replicating (after_reply t r global ops)) + 1 ≡ old_peeks (replicating t)
peek_left t r global ops placed same peek low =
    subst (λ (n : ℕ). total (peek_below n) (reads_after r ops t.reads) + 1 ≡ total (peek_below t.next) t.reads) (sym same) (one_peek_ends t.next r ops t.reads placed peek low)

-- ---- the filled task

nearer : (count : ℕ) (idle : Bool) (t between new : Task) → task_lacks count between ≤ task_lacks count t → task_lacks count new ≤ task_lacks count between
    → (task_lacks count new < task_lacks count between) ⊎ StandsStill between new → old_peeks (replicating between) < old_peeks (replicating t) + (if idle then 1 else 0)
    → ComesNearer count idle t new
nearer count idle t between new one two (inl less) peeks = inl (omega arith)
nearer count idle t between new one two (inr still) peeks = inr (omega arith, fewer _ _ _ still.peeks peeks)
  where
    fewer : (a b c : ℕ) → a ≤ b → b < c → a < c
    fewer a b c le lt = omega arith

pub filled : (count : ℕ) (sessions : List Session) (t : Task) (r : Read) (global : ℕ) (ops : List Operation) → IsGoodReply count t r global ops
    → FillsOn count sessions (after_reply t r global ops) (filled_if_active (after_reply t r global ops))
filled count sessions t r global ops good =
    filled_fills_on count sessions (after_reply t r global ops) (let a : t.known ≤ count = good.known in let b : global ≤ count = good.told in omega arith)

-- what is kept makes less lacking
kept_nearer : (count : ℕ) (sessions : List Session) (idle : Bool) (t : Task) (r : Read) (global : ℕ) (ops : List Operation) → IsGoodReply count t r global ops → 1 ≤ kept_count (t.next == r.to) r.to ops
    → ComesNearer count idle t (filled_if_active (after_reply t r global ops)).next
kept_nearer count sessions idle t r global ops good some =
    let done : task_lacks count (filled_if_active (after_reply t r global ops)).next ≤ task_lacks count (after_reply t r global ops) = (filled count sessions t r global ops good).fills.lacks in
    inl (less _ _ _ _ done (reply_lacks count t r global ops good) some)
  where
    less : (new between gain old : ℕ) → new ≤ between → between + gain ≤ old → 1 ≤ gain → new < old
    less new between gain old a b c = omega arith

-- what leaves `next` where it is, with less that passes without bringing anything
still_nearer : (count : ℕ) (sessions : List Session) (idle : Bool) (t : Task) (r : Read) (global : ℕ) (ops : List Operation) → IsGoodReply count t r global ops
    → old_peeks (replicating (after_reply t r global ops)) < old_peeks (replicating t) + (if idle then 1 else 0)
    → ComesNearer count idle t (filled_if_active (after_reply t r global ops)).next
still_nearer count sessions idle t r global ops good fewer =
    nearer count idle t (after_reply t r global ops) (filled_if_active (after_reply t r global ops)).next
    (no_more _ _ _ (reply_lacks count t r global ops good)) (filled count sessions t r global ops good).fills.lacks (filled count sessions t r global ops good).moves fewer
  where
    no_more : (a gain b : ℕ) → a + gain ≤ b → a ≤ b
    no_more a gain b le = omega arith

pub reply_nearer : (count : ℕ) (sessions : List Session) (t : Task) (r : Read) (global : ℕ) (ops : List Operation) → IsGoodReply count t r global ops
    → ComesNearer count (is_empty ops) t (filled_if_active (after_reply t r global ops)).next
reply_nearer count sessions t r global [] good =
    still_nearer count sessions true t r global [] good (one_less _ _ (peeks_left t r global [] good.placed (either (t.next == r.to) t.next)))
  where
    either : (b : Bool) (n : ℕ) → (if b then n else n) ≡ n
    either true n = refl
    either false n = refl

    one_less : (a b : ℕ) → a ≤ b → a < b + 1
    one_less a b le = omega arith
reply_nearer count sessions t r global (op ∷ ops) good = by (t.next == r.to) refl
  where
    all : List Operation
    all = op ∷ ops

    goal : Type 0
    goal = ComesNearer count false t (filled_if_active (after_reply t r global all)).next

    peek : (t.next == r.to) ≡ false → length (asked_for r all) ≡ 0 → goal
    peek isnt none =
        let short : length (asked_for r all) ≡ min (length all) (r.to - r.from) = run-below r.to r.from all good.run in
        let ordered : r.from ≤ r.to = good.ordered in
        let below : r.to ≤ t.next = good.below in
        let same : r.from ≡ r.to = omega arith in
        let low : r.to < t.next = grind (arith, nat_tests) in
        still_nearer count sessions false t r global all good (one_less _ _ (peek_left t r global all good.placed (rw isnt refl) same low))
      where
        one_less : (a b : ℕ) → a + 1 ≡ b → a < b + 0
        one_less a b sum = omega arith

    by : (b : Bool) → (t.next == r.to) ≡ b → goal
    by true is = kept_nearer count sessions false t r global all good (rw is (omega arith))
    by false isnt =
        (elim (nat_lt 0 (length (asked_for r all))) as (λ some. nat_lt 0 (length (asked_for r all)) ≡ some → goal) [
          | true ↦ λ some. kept_nearer count sessions false t r global all good (rw isnt (grind (arith, nat_tests)))
          | false ↦ λ none. peek isnt (grind (arith, nat_tests))
        ]) refl
