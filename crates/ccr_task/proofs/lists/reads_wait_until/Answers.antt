use Rattle.std.proofs.Common.{◌≡◌, ℕ, ◌+◌, suc, List, ◌∷◌, drop, drop-cons, map, filter_map, sym, ◌∙◌, ap, arith}
use Rattle.ccr_model.specs.Settling.{time_of, least_of}
use Rattle.ccr_model.specs.Tasks.{Read}
use Rattle.ccr_task.specs.Ordering.{earlier}
use Rattle.ccr_task.proofs.Times.{time-turn}
use Rattle.ccr_task.proofs.lists.reads_wait_until.Goals as goal

next : (n : ℕ) → n + 1 ≡ suc n
next n = omega arith

pub loop-read-preserved : goal.loop-read-preserved
loop-read-preserved c =
    let rest : List Read = drop (c.loop-read.read-index + 1) c.args.reads.now in
    let split : drop c.loop-read.read-index c.args.reads.now ≡ c.read-item.result ∷ rest = (drop-cons c.args.reads.now c.loop-read.read-index c.read-item.result c.loop-read-test.true ∙ (ap (λ (r : Read). r ∷ drop (suc c.loop-read.read-index) c.args.reads.now) (sym c.read-item.is) ∙ ap (λ (n : ℕ). c.read-item.result ∷ drop n c.args.reads.now) (sym (next c.loop-read.read-index)))) in
    ap (earlier (least_of (filter_map time_of (map (λ (r : Read). r.progress) rest)))) (c.earlier_of-least.ensures ∙ ap (earlier c.loop-read.least) c.waits_until.ensures)
    ∙ (time-turn c.read-item.result.progress (map (λ (r : Read). r.progress) rest) c.loop-read.least
    ∙ (ap (λ (xs : List Read). earlier (least_of (filter_map time_of (map (λ (r : Read). r.progress) xs))) c.loop-read.least) (sym split) ∙ c.loop-read.invariant))
