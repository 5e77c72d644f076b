use Rattle.std.proofs.Common.{◌≡◌, ℕ, List, false, ◌∙◌, ap, sym, subst}
use Rattle.std.specs.Cmp.Lexicographic.{nat_list_cmp_total}
use Rattle.std.specs.Set.{remove_key}
use Rattle.std.specs.BTreeMap.{is_at}
use Rattle.ccr_model.specs.Leaders.{Poll}
use Rattle.ccr_changes.specs.Indexes.{has_request, request_cmp}
use Rattle.ccr_changes.proofs.Keys.{key-total, remove-insert}
use Rattle.ccr_changes.proofs.Indexing.{request_key}
use Rattle.ccr_changes.proofs.polls.insert_requested.Goals as goal

pub returns-then-is_err-clause-err_requests : goal.returns-then-is_err-clause-err_requests
returns-then-is_err-clause-err_requests c =
    let key : List ℕ × ℕ × ℕ = (c.poll.inside.follower, c.poll.inside.request, c.args.age) in
    let none : has_request c.args.requests.now.keys key ≡ false = subst (λ (p : Poll). has_request c.args.requests.now.keys (request_key p c.args.age) ≡ false) (sym c.poll.view_is) c.requires in
    c.remove.ensures.keys
    ∙ (ap (λ (keys : List (List ℕ × ℕ × ℕ)). remove_key (is_at (request_cmp key)) keys) c.in_ok-insert.ensures.keys ∙ remove-insert (key-total nat_list_cmp_total) key c.args.requests.now.keys none)
