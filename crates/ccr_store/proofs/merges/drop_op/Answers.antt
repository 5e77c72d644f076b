use Rattle.std.proofs.Common.{None, cond, ◌∙◌, ap, sym}
use Rattle.std.specs.Cmp.{unsigned_tied}
use Rattle.ccr_store.specs.Kept.{kept_at}
use Rattle.ccr_store.proofs.Droppable.{indexed-fewer}
use Rattle.ccr_store.proofs.merges.drop_op.Goals as goal

pub returns-in-Some-clause-indexed : goal.returns-in-Some-clause-indexed
returns-in-Some-clause-indexed c = λ numbers indexed.
    indexed-fewer (kept_at c.args.ops.now.entries) (kept_at c.remove.new.self.entries) numbers c.args.ids.now.entries c.release.new.ids.entries c.args.n c.in-Some.op indexed
    (sym c.remove.ensures.value ∙ c.in-Some.is)
    (λ q. c.remove.ensures.updates.0 q ∙ ap (λ b. cond b None (kept_at c.args.ops.now.entries q)) (unsigned_tied c.args.n q))
    c.release.ensures
