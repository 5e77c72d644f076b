use Rattle.std.proofs.Common.{◌≡◌, ℕ, ◌+◌, suc, List, ◌∷◌, drop, drop-cons, map, filter_map, sym, ◌∙◌, ap, arith}
use Rattle.ccr_model.specs.Settling.{time_of, least_of}
use Rattle.ccr_model.specs.Tasks.{Write}
use Rattle.ccr_task.specs.Ordering.{earlier}
use Rattle.ccr_task.proofs.Times.{time-turn}
use Rattle.ccr_task.proofs.lists.writes_wait_until.Goals as goal

next : (n : ℕ) → n + 1 ≡ suc n
next n = omega arith

pub loop-write-preserved : goal.loop-write-preserved
loop-write-preserved c =
    let rest : List Write = drop (c.loop-write.write-index + 1) c.args.writes.now in
    let split : drop c.loop-write.write-index c.args.writes.now ≡ c.write-item.result ∷ rest = (drop-cons c.args.writes.now c.loop-write.write-index c.write-item.result c.loop-write-test.true ∙ (ap (λ (r : Write). r ∷ drop (suc c.loop-write.write-index) c.args.writes.now) (sym c.write-item.is) ∙ ap (λ (n : ℕ). c.write-item.result ∷ drop n c.args.writes.now) (sym (next c.loop-write.write-index)))) in
    ap (earlier (least_of (filter_map time_of (map (λ (r : Write). r.progress) rest)))) (c.earlier_of-least.ensures ∙ ap (earlier c.loop-write.least) c.waits_until.ensures)
    ∙ (time-turn c.write-item.result.progress (map (λ (r : Write). r.progress) rest) c.loop-write.least
    ∙ (ap (λ (xs : List Write). earlier (least_of (filter_map time_of (map (λ (r : Write). r.progress) xs))) c.loop-write.least) (sym split) ∙ c.loop-write.invariant))
