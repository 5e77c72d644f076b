use Rattle.std.proofs.Common.{◌≡◌, ℕ, List, Option, Some, None, ap, sym, subst}
use Rattle.std.specs.Option.{option_copied}
use Rattle.std.specs.Map.{keys_of}
use Rattle.ccr_op.specs.Operation.{Operation}
use Rattle.ccr_model.specs.Stores.{Store as Stored, held}
use Rattle.ccr_store.specs.Kept.{first_live, kept_at, lists_of, IsNextLive}
use Rattle.ccr_store.proofs.Walking.{next-first, next-from}
use Rattle.ccr_store.proofs.store.Store.live_after.Goals as goal

pub returns-in-Some : goal.returns-in-Some
returns-in-Some c =
    let from : option_copied c.args.id ≡ Some c.in-Some.id.now = ap option_copied c.in-Some.is in
    subst (λ (found : Option Operation). IsNextLive (held c.args.self.now) (option_copied c.args.id) found) (sym c.first_live.ensures)
    (subst (λ (o : Option (List ℕ)). IsNextLive (held c.args.self.now) o (first_live (held c.args.self.now) (keys_of c.range.result))) (sym from)
    (subst (λ (s : Stored). IsNextLive (held s) (Some c.in-Some.id.now) (first_live (held s) (keys_of c.range.result))) c.self.view_is
    (next-from (kept_at c.self.inside.ops.entries) (lists_of c.self.inside.parts.items) c.self.inside.fresh.keys c.self.inside.ids.entries c.range.result c.in-Some.id.now
    c.self.invariant.lists c.range.ensures.ordered (c.range.ensures.between tt))))

pub returns-in-None : goal.returns-in-None
returns-in-None c =
    let from : option_copied c.args.id ≡ None = ap option_copied c.in-None.is in
    subst (λ (found : Option Operation). IsNextLive (held c.args.self.now) (option_copied c.args.id) found) (sym c.first_live-in-None.ensures)
    (subst (λ (o : Option (List ℕ)). IsNextLive (held c.args.self.now) o (first_live (held c.args.self.now) (keys_of c.range-in-None.result))) (sym from)
    (subst (λ (s : Stored). IsNextLive (held s) None (first_live (held s) (keys_of c.range-in-None.result))) c.self.view_is
    (next-first (kept_at c.self.inside.ops.entries) (lists_of c.self.inside.parts.items) c.self.inside.fresh.keys c.self.inside.ids.entries c.range-in-None.result
    c.self.invariant.lists c.range-in-None.ensures.ordered (c.range-in-None.ensures.between tt))))
