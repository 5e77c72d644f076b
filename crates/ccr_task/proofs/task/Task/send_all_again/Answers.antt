use Rattle.std.proofs.Common.{◌≡◌, ℕ, ◌+◌, suc, List, ◌∷◌, drop, drop-cons, sym, ◌∙◌, ap, arith}
use Rattle.ccr_model.specs.Tasks.{Read}
use Rattle.ccr_task.proofs.Sending.{again-turn}
use Rattle.ccr_task.proofs.task.Task.send_all_again.Goals as goal

next : (n : ℕ) → n + 1 ≡ suc n
next n = omega arith

pub loop-read-preserved : goal.loop-read-preserved
loop-read-preserved c =
    let rest : List Read = drop (c.loop-read.read-index + 1) c.args.reads.now in
    let split : drop c.loop-read.read-index c.args.reads.now ≡ c.read-item.result ∷ rest = (drop-cons c.args.reads.now c.loop-read.read-index c.read-item.result c.loop-read-test.true ∙ (ap (λ (r : Read). r ∷ drop (suc c.loop-read.read-index) c.args.reads.now) (sym c.read-item.is) ∙ ap (λ (n : ℕ). c.read-item.result ∷ drop n c.args.reads.now) (sym (next c.loop-read.read-index)))) in
    λ new after later.
    c.loop-read.invariant new after
    (again-turn c.read-item.result (drop c.loop-read.read-index c.args.reads.now) rest c.loop-read.self c.send_again.new.self c.loop-read.sent c.send_again.new.sent split c.in_ok-send_again.ensures new after later)
