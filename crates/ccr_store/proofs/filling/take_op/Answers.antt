use Rattle.std.proofs.Common.{Some, subst}
use Rattle.ccr_store.specs.Kept.{kept_at}
use Rattle.ccr_store.proofs.Filing.{Puts}
use Rattle.ccr_store.proofs.Filled.{holding-more}
use Rattle.ccr_store.proofs.filling.take_op.Goals as goal

pub returns : goal.returns
returns c = λ all holding absent.
    holding-more all c.args.op c.args.ops.now.entries c.insert.new.self.entries c.args.ids.now.entries c.note.new.ids.entries
    (subst (λ n. Puts (kept_at c.args.ops.now.entries) (kept_at c.insert.new.self.entries) n (Some c.args.op)) c.seq.ensures c.in_ok-insert.ensures.updates.0) c.in_ok-note.ensures.ok holding absent
