use Rattle.std.proofs.Common.{◌≡◌, ℕ, ◌-◌, min, max, ◌∙◌, ap}
use Rattle.ccr_model.specs.Stores.{merged, capped}
use Rattle.ccr_model.specs.CopyRows.{after_merge}
use Rattle.ccr_copies.proofs.Walking.{copy-merged}
use Rattle.ccr_copies.proofs.copy_side.CopySide.merge.Goals as goal

pub returns-clause-ok : goal.returns-clause-ok
returns-clause-ok c =
    let leases : c.as_slice.result.now ≡ c.self.inside.leases.leases = c.as_slice.ensures.value in
    let leases_too : c.as_slice-2.result.now ≡ c.self.inside.leases.leases = c.as_slice-2.ensures.value in
    let less : c.saturating_sub.result ≡ c.self.inside.global - c.args.retention = c.saturating_sub.ensures in
    let kept : c.min-kept.result ≡ min (c.self.inside.global - c.args.retention) c.self.inside.commit = c.min-kept.ensures ∙ ap (λ n. min n c.self.inside.commit) less in
    let candidate : c.cap-candidate.result ≡ capped c.self.inside.leases.leases (min (c.self.inside.global - c.args.retention) c.self.inside.commit) = let e : capped c.as_slice.result.now c.min-kept.result ≡ capped c.self.inside.leases.leases (min (c.self.inside.global - c.args.retention) c.self.inside.commit) = cc in c.cap-candidate.ensures ∙ e in
    let floor : c.max-floor.result ≡ max c.self.inside.floor (capped c.self.inside.leases.leases (min (c.self.inside.global - c.args.retention) c.self.inside.commit)) = c.max-floor.ensures ∙ ap (λ n. max c.self.inside.floor n) candidate in
    let bound : c.cap-bound.result ≡ capped c.self.inside.leases.leases (max c.self.inside.floor (capped c.self.inside.leases.leases (min (c.self.inside.global - c.args.retention) c.self.inside.commit))) = let e : capped c.as_slice-2.result.now c.max-floor.result ≡ capped c.self.inside.leases.leases (max c.self.inside.floor (capped c.self.inside.leases.leases (min (c.self.inside.global - c.args.retention) c.self.inside.commit))) = cc in c.cap-bound.ensures ∙ e in
    copy-merged c.args.retention c.args.picks.now
    (record { number = c.self.inside.number; seen = c.self.inside.seen; store = c.self.inside.store; global = c.self.inside.global; floor = c.self.inside.floor; commit = c.self.inside.commit; leases = c.self.inside.leases })
    c.max-floor.result c.merge.new.self floor
    (c.in_ok-drops.ensures.ok ∙ ap (λ b. merged c.args.picks.now b c.self.inside.global c.self.inside.store) bound)
    ∙ ap (after_merge c.args.retention c.args.picks.now) c.self.view_is
