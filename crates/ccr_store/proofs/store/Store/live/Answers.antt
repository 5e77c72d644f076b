use Rattle.std.proofs.Common.{◌≡◌, Some, None, ◌∙◌, ap, sym, subst}
use Rattle.std.specs.Option.{option_copied}
use Rattle.ccr_op.specs.Operation.{Operation}
use Rattle.ccr_model.specs.Operations.{live, only_index}
use Rattle.ccr_model.specs.Stores.{Store as Stored, held}
use Rattle.ccr_store.specs.Kept.{lists_of, kept_at, store_of, listed, IsGreatest}
use Rattle.ccr_store.proofs.Latest.{live-none, live-some}
use Rattle.ccr_store.proofs.store.Store.live.Goals as goal

pub returns-in_err-n : goal.returns-in_err-n
returns-in_err-n c =
    let none : live (held (store_of (kept_at c.self.inside.ops.entries) (lists_of c.self.inside.parts.items) c.self.inside.fresh.keys)) c.args.id.now ≡ None =
    live-none (kept_at c.self.inside.ops.entries) (lists_of c.self.inside.parts.items) c.self.inside.fresh.keys c.self.inside.ids.entries c.args.id.now c.self.invariant.lists
    (subst (IsGreatest (listed c.self.inside.ids.entries c.args.id.now)) c.in_err-n.was c.greatest.ensures) in
    ap option_copied c.from_residual.ensures ∙ (sym none ∙ ap (λ (s : Stored). live (held s) c.args.id.now) c.self.view_is)

pub returns : goal.returns
returns c =
    let found : (op : Operation) × (kept_at c.self.inside.ops.entries c.in_ok-n.n ≡ Some op)
    × (live (held (store_of (kept_at c.self.inside.ops.entries) (lists_of c.self.inside.parts.items) c.self.inside.fresh.keys)) c.args.id.now ≡ only_index op) =
    live-some (kept_at c.self.inside.ops.entries) (lists_of c.self.inside.parts.items) c.self.inside.fresh.keys c.self.inside.ids.entries c.args.id.now c.in_ok-n.n
    c.self.invariant.filed c.self.invariant.lists (subst (IsGreatest (listed c.self.inside.ids.entries c.args.id.now)) c.in_ok-n.was c.greatest.ensures) in
    let same : Some found.0 ≡ Some c.in-Some.op.now = sym found.1 ∙ (sym c.get.ensures.value ∙ ap option_copied c.in-Some.is) in
    let own : found.0 ≡ c.in-Some.op.now = cc in
    c.index_only.ensures ∙ (ap only_index (sym own) ∙ (sym found.2 ∙ ap (λ (s : Stored). live (held s) c.args.id.now) c.self.view_is))
