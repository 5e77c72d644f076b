use Rattle.std.proofs.Common.{◌≡◌, ℕ, List, [], ◌∷◌, ◌++◌, ◌∙◌, ap, subst, length}
use Rattle.ccr_segment.specs.Segment.{spelling as segment_of_ops}
use Rattle.ccr_model.specs.Stores.{flushed}
use Rattle.ccr_store.specs.Kept.{kept_at, ops_of, lists_of, store_of, Closed, Ascend}
use Rattle.ccr_store.proofs.Changes.{store-flushed, some_keys, kept-flushed, lists-pushed}
use Rattle.ccr_store.proofs.store.Store.flush.Goals as goal

pub invariant_of-self-2 : goal.invariant_of-self-2
invariant_of-self-2 c =
    let shown : c.as_slice.result.now ≡ c.self.inside.fresh.keys = c.as_slice.ensures.value ∙ c.in_ok-numbers.ensures.keys in
    kept-flushed c.self.inside.ops.entries c.self.inside.parts.items c.push.new.self.items c.self.inside.fresh.keys c.clear.new.self.keys c.self.inside.ids.entries c.in_ok-bytes.bytes c.self.invariant
    (subst (Ascend 0) c.in_ok-numbers.ensures.keys c.in_ok-numbers.ensures.order)
    (c.in_ok-bytes.ensures.ok ∙ ap (λ (ns : List ℕ). length (segment_of_ops (ops_of (kept_at c.self.inside.ops.entries) ns))) shown)
    (c.in_ok-push.ensures.items ∙ ap (λ (part : Closed). c.self.inside.parts.items ++ part ∷ []) (c.new.ensures ∙ ap (λ (ns : List ℕ). record { numbers = ns; bytes = c.in_ok-bytes.bytes }) c.in_ok-numbers.ensures.keys))
    c.clear.ensures.empty

pub returns-clause-ok : goal.returns-clause-ok
returns-clause-ok c =
    let numbers : c.new.result.numbers ≡ c.self.inside.fresh.keys = ap (λ (part : Closed). part.numbers) c.new.ensures ∙ c.in_ok-numbers.ensures.keys in
    let parts : lists_of c.push.new.self.items ≡ lists_of c.self.inside.parts.items ++ c.self.inside.fresh.keys ∷ [] =
    ap lists_of c.in_ok-push.ensures.items
    ∙ (lists-pushed c.self.inside.parts.items c.new.result.numbers c.new.result.bytes ∙ ap (λ (ns : List ℕ). lists_of c.self.inside.parts.items ++ ns ∷ []) numbers) in
    ap (λ (ps : List (List ℕ)). store_of (kept_at c.self.inside.ops.entries) ps c.clear.new.self.keys) parts
    ∙ (ap (λ (ns : List ℕ). store_of (kept_at c.self.inside.ops.entries) (lists_of c.self.inside.parts.items ++ c.self.inside.fresh.keys ∷ []) ns) c.clear.ensures.empty
    ∙ (store-flushed (kept_at c.self.inside.ops.entries) (lists_of c.self.inside.parts.items) c.self.inside.fresh.keys c.self.invariant.filed
    (some_keys c.is_empty.result c.self.inside.fresh.keys c.is_empty.ensures c.if-is_empty.false)
    ∙ ap flushed c.self.view_is))
