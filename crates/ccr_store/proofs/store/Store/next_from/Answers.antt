use Rattle.std.proofs.Common.{◌≡◌, ℕ, ◌∷◌, Some, None, List, subst}
use Rattle.std.specs.Prelude.{IfSome, slice_get}
use Rattle.std.specs.Ordering.{nat_cmp}
use Rattle.std.specs.BTreeMap.Range.{IsEntryInRange, IsLeBy}
use Rattle.std.specs.declared.ops.Bound.TheVariants.{Included, Unbounded}
use Rattle.ccr_op.specs.Operation.{Operation}
use Rattle.ccr_model.specs.Stores.{Store as Stored, held}
use Rattle.ccr_store.specs.Kept.{kept_at, lists_of, IsNext}
use Rattle.ccr_store.proofs.Views.{next-some, next-none}
use Rattle.ccr_store.proofs.store.Store.next_from.Goals as goal

pub returns-in-Some : goal.returns-in-Some
returns-in-Some c =
    let range = c.range.ensures.in_range tt in
    let shape : c.range.result ≡ (c.in-Some.field-0-0.now, c.in-Some.op.now) ∷ c.next.new.self = c.in-Some.ensures.steps in
    let first : IsEntryInRange nat_cmp (Included c.args.n) Unbounded c.self.inside.ops (c.in-Some.field-0-0.now, c.in-Some.op.now) =
    subst (λ (es : List (ℕ × Operation)). IfSome (slice_get es 0) (IsEntryInRange nat_cmp (Included c.args.n) Unbounded c.self.inside.ops)) shape range.1 in
    subst (λ (s : Stored). IsNext c.args.n (held s) (Some c.in-Some.op.now)) c.self.view_is
    (next-some (kept_at c.self.inside.ops.entries) (lists_of c.self.inside.parts.items) c.self.inside.fresh.keys c.args.n c.in-Some.field-0-0.now c.in-Some.op.now c.self.invariant.filed first.0.0 first.1
    (λ q le there. subst (λ (es : List (ℕ × Operation)). IfSome (slice_get es 0) (λ e. IsLeBy nat_cmp e.0 q)) shape (range.2 q (le, tt) there)))

pub returns-in-None : goal.returns-in-None
returns-in-None c =
    let range = c.range.ensures.in_range tt in
    subst (λ (s : Stored). IsNext c.args.n (held s) None) c.self.view_is
    (next-none (kept_at c.self.inside.ops.entries) (lists_of c.self.inside.parts.items) c.self.inside.fresh.keys c.args.n c.self.invariant.filed (λ q le. range.5 c.in-None.ensures.steps.0 q (le, tt)))
