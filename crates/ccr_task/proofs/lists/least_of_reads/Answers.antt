use Rattle.std.proofs.Common.{◌≡◌, ℕ, ◌+◌, suc, List, ◌∷◌, drop, drop-cons, min, sym, ◌∙◌, ap, arith}
use Rattle.ccr_model.specs.Tasks.{Read, least_from}
use Rattle.ccr_task.proofs.Times.{least-turn}
use Rattle.ccr_task.proofs.lists.least_of_reads.Goals as goal

next : (n : ℕ) → n + 1 ≡ suc n
next n = omega arith

pub loop-read-preserved : goal.loop-read-preserved
loop-read-preserved c =
    let rest : List Read = drop (c.loop-read.read-index + 1) c.args.reads.now in
    let split : drop c.loop-read.read-index c.args.reads.now ≡ c.read-item.result ∷ rest = (drop-cons c.args.reads.now c.loop-read.read-index c.read-item.result c.loop-read-test.true ∙ (ap (λ (r : Read). r ∷ drop (suc c.loop-read.read-index) c.args.reads.now) (sym c.read-item.is) ∙ ap (λ (n : ℕ). c.read-item.result ∷ drop n c.args.reads.now) (sym (next c.loop-read.read-index)))) in
    let least : c.min-least.result ≡ min c.loop-read.least c.read-item.result.from = c.min-least.ensures ∙ ap (λ n. min c.loop-read.least n) c.from.ensures in
    ap (λ n. min n (least_from n rest)) least ∙ (least-turn c.loop-read.least c.read-item.result rest
    ∙ (ap (λ (xs : List Read). min c.loop-read.least (least_from c.loop-read.least xs)) (sym split) ∙ c.loop-read.invariant))
