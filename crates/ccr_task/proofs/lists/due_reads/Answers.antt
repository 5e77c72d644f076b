use Rattle.std.proofs.Common.{◌≡◌, ℕ, ◌+◌, suc, List, ◌∷◌, drop, drop-cons, sym, ◌∙◌, ap, arith}
use Rattle.ccr_model.specs.Tasks.{Read}
use Rattle.ccr_task.specs.Ordering.{place_after}
use Rattle.ccr_task.proofs.Matches.{due-turn}
use Rattle.ccr_task.proofs.lists.due_reads.Goals as goal

next : (n : ℕ) → n + 1 ≡ suc n
next n = omega arith

pub loop-read-preserved : goal.loop-read-preserved
loop-read-preserved c =
    let rest : List Read = drop (c.loop-read.read-index + 1) c.args.reads.now in
    let split : drop c.loop-read.read-index c.args.reads.now ≡ c.read-item.result ∷ rest = (drop-cons c.args.reads.now c.loop-read.read-index c.read-item.result c.loop-read-test.true ∙ (ap (λ (r : Read). r ∷ drop (suc c.loop-read.read-index) c.args.reads.now) (sym c.read-item.is) ∙ ap (λ (n : ℕ). c.read-item.result ∷ drop n c.args.reads.now) (sym (next c.loop-read.read-index)))) in
    let place : c.place_behind-place.result ≡ place_after c.read-item.result.request c.loop-read.due.items =
    c.place_behind-place.ensures.value ∙ (ap (λ (n : ℕ). place_after n c.as_slice.result.now) c.request.ensures ∙ ap (place_after c.read-item.result.request) c.as_slice.ensures.value) in
    due-turn c.args.now c.read-item.result c.copy.result (drop c.loop-read.read-index c.args.reads.now) rest c.loop-read.due.items c.insert.new.self.items c.place_behind-place.result _ split
    (sym c.is_due.ensures ∙ c.if-not-is_due.false) c.copy.ensures place c.in_ok-insert.ensures.items c.loop-read.invariant
