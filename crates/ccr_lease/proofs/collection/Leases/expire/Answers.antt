use Rattle.std.proofs.Common.{◌≡◌, ◌∙◌, ◌<◌, ap, sym, not, length, rules, arith}
use Rattle.std.specs.Vec.{vec_len}
use Rattle.std.proofs.lemmas.Bool.{eqb-false}
use Rattle.std.proofs.lemmas.Fn.{filter_same}
use Rattle.std.proofs.lemmas.Grind.{common_steps}
use Rattle.ccr_lease.specs.Leases.{Collection, after_expiry, expired, unexpired, has_expired}
use Rattle.ccr_lease.proofs.Ordered.{Ascend-unexpired, after_expiry-some}
use Rattle.ccr_lease.proofs.collection.Leases.expire.Goals as goal

pub invariant_of-self : goal.invariant_of-self
invariant_of-self c =
    let kept : c.retain.new.self.items ≡ unexpired c.args.now c.args.period c.self.inside.list.items =
    filter_same _ (λ lease. not (has_expired c.args.now c.args.period lease)) _ (λ x b q called. search rules) _ _ c.retain.ensures.filtered in
    rw kept (Ascend-unexpired c.args.now c.args.period c.self.inside.list.items c.self.invariant)

pub returns-clause-ok : goal.returns-clause-ok
returns-clause-ok c =
    let kept : c.retain.new.self.items ≡ unexpired c.args.now c.args.period c.self.inside.list.items =
    filter_same _ (λ lease. not (has_expired c.args.now c.args.period lease)) _ (λ x b q called. search rules) _ _ c.retain.ensures.filtered in
    let before : Collection = record { term = c.self.inside.term; version = c.self.inside.version; leases = c.self.inside.list.items } in
    let told = c.in_ok-list.ensures in
    let full : vec_len c.in_ok-list.list ≡ 0 → ⊥ = eqb-false (vec_len c.in_ok-list.list) 0 (sym c.is_empty.ensures ∙ c.if-is_empty.false) in
    let some : 0 < length c.in_ok-list.list.items = first_of (omega arith, first_of (grind (arith, common_steps), search rules)) in
    let some' : 0 < length (expired c.args.now c.args.period c.self.inside.list.items) =
    omega (arith, some, ap length told, ap (λ (a : Collection). length (expired c.args.now c.args.period a.leases)) c.self.view_is) in
    after_expiry-some c.args.now c.args.period before c.retain.new.self.items kept some' ∙ ap (after_expiry c.args.now c.args.period) c.self.view_is
