use Rattle.std.proofs.Common.{◌≡◌, ℕ, false, List, ◌++◌, map, filter, sym, subst, ap, ◌∙◌, rules}
use Rattle.std.specs.Prelude.{not}
use Rattle.std.specs.List.{list_any}
use Rattle.std.proofs.lemmas.Fn.{filter_same}
use Rattle.ccr_wire.specs.Message.{Frame}
use Rattle.ccr_model.specs.Leaders.{KeptRequest}
use Rattle.ccr_model.specs.LeaderRows.{all_hold, lease_answer}
use Rattle.ccr_law_settling_grounds.specs.Parked.{AreKeptRightly}
use Rattle.ccr_leader.specs.Waited.{HasEach}
use Rattle.ccr_leader.proofs.Settled.{none-added, all-left}
use Rattle.ccr_leader.proofs.Waited.{none-of-them, each-stays}
use Rattle.ccr_leader.proofs.kept_requests.KeptRequests.answer_due.Goals as goal

pub returns-then-not-is_one_held-clause-sent : goal.returns-then-not-is_one_held-clause-sent
returns-then-not-is_one_held-clause-sent c =
    sym (none-added c.args.copies.now c.args.self.now c.args.sent.now
    (subst (λ (ks : List KeptRequest). AreKeptRightly c.args.copies.now ks) c.self.view_is
    (none-of-them {K = KeptRequest} (λ k. k.id) (λ id. all_hold id c.args.copies.now) c.self.inside.leases.items c.self.inside.list.items c.self.invariant
    (subst (λ (ids : List (List ℕ)). list_any (λ id. all_hold id c.args.copies.now) ids ≡ false) c.as_slice.ensures.value (sym c.is_one_held.ensures ∙ c.if-not-is_one_held.true)))))

pub returns-then-not-is_one_held-clause-kept : goal.returns-then-not-is_one_held-clause-kept
returns-then-not-is_one_held-clause-kept c =
    sym (all-left c.args.copies.now c.args.self.now
    (subst (λ (ks : List KeptRequest). AreKeptRightly c.args.copies.now ks) c.self.view_is
    (none-of-them {K = KeptRequest} (λ k. k.id) (λ id. all_hold id c.args.copies.now) c.self.inside.leases.items c.self.inside.list.items c.self.invariant
    (subst (λ (ids : List (List ℕ)). list_any (λ id. all_hold id c.args.copies.now) ids ≡ false) c.as_slice.ensures.value (sym c.is_one_held.ensures ∙ c.if-not-is_one_held.true)))))

pub invariant_of-self : goal.invariant_of-self
invariant_of-self c =
    let requests : c.retain.new.self.items ≡ filter {X = KeptRequest} (λ k. not (all_hold k.id c.args.copies.now)) c.self.inside.list.items =
    filter_same _ (λ (k : KeptRequest). not (all_hold k.id c.args.copies.now)) _ (λ x b f' called. search rules) _ _ c.retain.ensures.filtered in
    let leases : c.retain-2.new.self.items ≡ filter {X = List ℕ} (λ id. not (all_hold id c.args.copies.now)) c.self.inside.leases.items =
    filter_same _ (λ (id : List ℕ). not (all_hold id c.args.copies.now)) _ (λ x b f' called. search rules) _ _ c.retain-2.ensures.filtered in
    subst (λ (ids : List (List ℕ)). HasEach {K = KeptRequest} (λ k. k.id) ids c.retain.new.self.items) (sym leases)
    (subst (λ (ks : List KeptRequest). HasEach {K = KeptRequest} (λ k. k.id) (filter {X = List ℕ} (λ id. not (all_hold id c.args.copies.now)) c.self.inside.leases.items) ks) (sym requests)
    (each-stays {K = KeptRequest} (λ k. k.id) (λ id. not (all_hold id c.args.copies.now)) c.self.inside.leases.items c.self.inside.list.items c.self.invariant))

pub returns-clause-kept : goal.returns-clause-kept
returns-clause-kept c =
    filter_same _ (λ (k : KeptRequest). not (all_hold k.id c.args.copies.now)) _ (λ x b f' called. search rules) _ _ c.retain.ensures.filtered
    ∙ ap (λ (ks : List KeptRequest). filter (λ k. not (all_hold k.id c.args.copies.now)) ks) c.self.view_is
