-- What a reply to a read makes of the sums over a task's reads.
use Rattle.std.specs.List.{filter}
use Rattle.std.proofs.Common.{◌≡◌, ℕ, ◌+◌, ◌-◌, ◌<◌, ◌≤◌, ◌==◌, ◌&&◌, min, Bool, true, false, nat_lt, if◌then◌else◌, List, ◌∷◌, ◌++◌, length, refl, ap, arith}
use Rattle.std.proofs.lemmas.Bool.Decides.{nat_tests}
use Rattle.ccr_op.specs.Operation.{Operation}
use Rattle.ccr_wire.specs.Message.{IsRun}
use Rattle.ccr_model.specs.Requests.{held_back}
use Rattle.ccr_model.specs.Tasks.{Read, changed_read, without_read, rest_from, reads_after}
use Rattle.ccr_law_base.proofs.Cases.{on_if}
use Rattle.ccr_law_tasks.proofs.Operations.{run-below}
use Rattle.ccr_law_tasks.proofs.ReadLists.{IsPlaced}
use Rattle.ccr_law_settling.specs.Measure.{total}
use Rattle.ccr_law_settling.proofs.Measure.Totals.{total_append}

-- ---- one read is changed, or ends

pub total_placed_changed : (amount : Read → ℕ) (r : Read) (reads : List Read) (change : Read → Read) → IsPlaced r reads
    → total amount (changed_read r.request change reads) + amount r ≡ total amount reads + amount (change r)
total_placed_changed amount r reads change at =
    let old : total amount (at.before ++ r ∷ at.after) ≡ total amount at.before + (amount r + total amount at.after) = total_append amount at.before (r ∷ at.after) in
    let new : total amount (at.before ++ change r ∷ at.after) ≡ total amount at.before + (amount (change r) + total amount at.after) = total_append amount at.before (change r ∷ at.after) in
    let was : total amount reads ≡ total amount (at.before ++ r ∷ at.after) = ap (total amount) at.is in
    let is : total amount (changed_read r.request change reads) ≡ total amount (at.before ++ change r ∷ at.after) = ap (total amount) (at.changed change) in
    omega arith

pub total_placed_without : (amount : Read → ℕ) (r : Read) (reads : List Read) → IsPlaced r reads → total amount (without_read r.request reads) + amount r ≡ total amount reads
total_placed_without amount r reads at =
    let old : total amount (at.before ++ r ∷ at.after) ≡ total amount at.before + (amount r + total amount at.after) = total_append amount at.before (r ∷ at.after) in
    let new : total amount (at.before ++ at.after) ≡ total amount at.before + total amount at.after = total_append amount at.before at.after in
    let was : total amount reads ≡ total amount (at.before ++ r ∷ at.after) = ap (total amount) at.is in
    let is : total amount (without_read r.request reads) ≡ total amount (at.before ++ at.after) = ap (total amount) at.without in
    omega arith

-- ---- the numbers that the reads are for

abbrev pub numbers_of : Read → ℕ
numbers_of r = r.to - r.from

-- the operations that the read was for
abbrev pub asked_for : Read → List Operation → List Operation
asked_for r ops = filter (λ op. nat_lt op.seq r.to) ops

-- the read is held back for what did not come
abbrev held_for : Read → List Operation → Read → Read
held_for r ops own = record own { from = rest_from r ops; asked = r.to - rest_from r ops; progress = held_back }

-- what came of them is asked for no more
pub fewer_numbers : (r : Read) (ops : List Operation) (reads : List Read) → IsPlaced r reads → r.from ≤ r.to → IsRun r.from ops
    → total numbers_of (reads_after r ops reads) + length (asked_for r ops) ≡ total numbers_of reads
fewer_numbers r ops reads at ordered run =
    let short : length (asked_for r ops) ≡ min (length ops) (r.to - r.from) = run-below r.to r.from ops run in
    on_if (λ (new : List Read). total numbers_of new + length (asked_for r ops) ≡ total numbers_of reads) (nat_lt (rest_from r ops) r.to)
    (changed_read r.request (held_for r ops) reads) (without_read r.request reads)
    (λ is.
    let left : rest_from r ops < r.to = grind (arith, nat_tests) in
    let sums : total numbers_of (changed_read r.request (held_for r ops) reads) + (r.to - r.from) ≡ total numbers_of reads + (r.to - (r.from + length (asked_for r ops)))
    = total_placed_changed numbers_of r reads (held_for r ops) at in
    omega arith)
    (λ isnt.
    let all : r.to ≤ rest_from r ops = grind (arith, nat_tests) in
    let sums : total numbers_of (without_read r.request reads) + (r.to - r.from) ≡ total numbers_of reads = total_placed_without numbers_of r reads at in
    omega arith)

-- ---- old peeks

-- one, where the read is a peek below this number
abbrev pub peek_below : ℕ → Read → ℕ
peek_below next r = if (r.from == r.to) && nat_lt r.from next then 1 else 0

pub no_more_peeks : (next : ℕ) (r : Read) (ops : List Operation) (reads : List Read) → IsPlaced r reads → total (peek_below next) (reads_after r ops reads) ≤ total (peek_below next) reads
no_more_peeks next r ops reads at =
    on_if (λ (new : List Read). total (peek_below next) new ≤ total (peek_below next) reads) (nat_lt (rest_from r ops) r.to) (changed_read r.request (held_for r ops) reads) (without_read r.request reads)
    (λ is.
    let other : (rest_from r ops == r.to) ≡ false = grind (arith, nat_tests) in
    let none : peek_below next (held_for r ops r) ≡ 0 = ap (λ (b : Bool). if b && nat_lt (rest_from r ops) next then 1 else 0) other in
    let sums : total (peek_below next) (changed_read r.request (held_for r ops) reads) + peek_below next r ≡ total (peek_below next) reads + peek_below next (held_for r ops r)
    = total_placed_changed (peek_below next) r reads (held_for r ops) at in
    omega arith)
    (λ isnt. (let sums : total (peek_below next) (without_read r.request reads) + peek_below next r ≡ total (peek_below next) reads = total_placed_without (peek_below next) r reads at in omega arith))

-- a peek that is answered ends
pub one_peek_ends : (next : ℕ) (r : Read) (ops : List Operation) (reads : List Read) → IsPlaced r reads → r.from ≡ r.to → r.to < next
    → total (peek_below next) (reads_after r ops reads) + 1 ≡ total (peek_below next) reads
one_peek_ends next r ops reads at peek low =
    let ends : nat_lt (rest_from r ops) r.to ≡ false = grind (arith, nat_tests) in
    let is : (r.from == r.to) ≡ true = grind (arith, nat_tests) in
    let below : nat_lt r.from next ≡ true = grind (arith, nat_tests) in
    let one : peek_below next r ≡ 1 = rw is (rw below refl) in
    let sums : total (peek_below next) (without_read r.request reads) + peek_below next r ≡ total (peek_below next) reads = total_placed_without (peek_below next) r reads at in
    rw ends (omega arith)
