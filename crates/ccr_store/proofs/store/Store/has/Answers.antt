use Rattle.std.proofs.Common.{◌∙◌, ap, sym}
use Rattle.ccr_model.specs.Operations.{has_number}
use Rattle.ccr_model.specs.Stores.{Store as Stored, held}
use Rattle.ccr_store.specs.Kept.{lists_of, kept_at}
use Rattle.ccr_store.proofs.Changes.{has-held}
use Rattle.ccr_store.proofs.store.Store.has.Goals as goal

pub returns : goal.returns
returns c =
    c.contains_key.ensures
    ∙ (sym (has-held (kept_at c.self.inside.ops.entries) c.args.n (lists_of c.self.inside.parts.items) c.self.inside.fresh.keys c.self.invariant.filed)
    ∙ ap (λ (s : Stored). has_number (held s) c.args.n) c.self.view_is)
