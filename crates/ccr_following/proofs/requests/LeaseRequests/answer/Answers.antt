use Rattle.std.specs.List.{list_any}
use Rattle.std.proofs.Common.{◌≡◌, ◌==◌, ℕ, List, not, filter, ◌∙◌, subst}
use Rattle.ccr_following.proofs.Standing.{list_any-at, remove_key-filter}
use Rattle.ccr_following.proofs.requests.LeaseRequests.answer.Goals as goal

pub returns-clause-left : goal.returns-clause-left
returns-clause-left c = subst (λ (ns : List ℕ). c.remove.new.self.keys ≡ filter (λ n. not (n == c.args.number)) ns) c.self.view_is
    (c.remove.ensures.keys ∙ remove_key-filter c.args.number c.self.inside.numbers.keys c.len-in_order.ensures.ordered)

pub returns-clause-stood : goal.returns-clause-stood
returns-clause-stood c = subst (λ (ns : List ℕ). c.remove.result ≡ list_any (λ n. n == c.args.number) ns) c.self.view_is
    (c.remove.ensures.test ∙ list_any-at c.args.number c.self.inside.numbers.keys)
