use Rattle.std.proofs.Common.{◌∙◌, ap, sym, length}
use Rattle.ccr_model.specs.Stores.{Store as Stored, held}
use Rattle.ccr_store.specs.Kept.{lists_of}
use Rattle.ccr_store.proofs.Changes.{length-held}
use Rattle.ccr_store.proofs.store.Store.held.Goals as goal

pub returns : goal.returns
returns c =
    c.len.ensures.len
    ∙ (sym (length-held c.self.inside.ops.entries (lists_of c.self.inside.parts.items) c.self.inside.fresh.keys c.len.ensures.ordered c.self.invariant.filed)
    ∙ ap (λ (s : Stored). length (held s)) c.self.view_is)
