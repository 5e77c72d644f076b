use Rattle.ccr_copies.proofs.Walking.{statuses-are}
use Rattle.std.proofs.Common.{◌≡◌, ◌∙◌, subst}
use Rattle.ccr_model.specs.Copies.{Copies, statuses_of}
use Rattle.ccr_copies.proofs.copy_set.CopySet.statuses.Goals as goal

pub returns : goal.returns
returns c =
    let old : Copies = record { term = c.self.inside.term; primary = c.self.inside.primary; replicas = c.self.inside.replicas.items; next = c.self.inside.next } in
    subst (λ (s : Copies). c.new.result ≡ statuses_of s) c.self.view_is
    (c.new.ensures ∙ statuses-are old c.in_ok-list.list.items c.push.new.self.items c.add_statuses.new.list.items c.status.result c.deref.result.now c.in_ok-list.ensures.items c.in_ok-push.ensures.items c.status.ensures c.deref.ensures.value c.in_ok-add_statuses.ensures)
