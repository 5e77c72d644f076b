use Rattle.std.proofs.Common.{◌∙◌, ap, sym}
use Rattle.ccr_model.specs.Operations.{op_at}
use Rattle.ccr_model.specs.Stores.{Store as Stored, held}
use Rattle.ccr_store.specs.Kept.{lists_of, kept_at}
use Rattle.ccr_store.proofs.Filing.{at-held}
use Rattle.ccr_store.proofs.store.Store.get.Goals as goal

pub returns : goal.returns
returns c =
    c.get.ensures.value
    ∙ (sym (at-held (kept_at c.self.inside.ops.entries) c.args.n (lists_of c.self.inside.parts.items) c.self.inside.fresh.keys c.self.invariant.filed)
    ∙ ap (λ (s : Stored). op_at c.args.n (held s)) c.self.view_is)
