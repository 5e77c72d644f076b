use Rattle.std.proofs.Common.{Bool, ◌∙◌, sym, subst, arith}
use Rattle.std.specs.Cmp.Lexicographic.{slice_cmp, nat_list_cmp_total}
use Rattle.std.specs.Ordering.{nat_cmp}
use Rattle.ccr_changes.specs.Indexes.{IsAnyRequest, request_cmp}
use Rattle.ccr_changes.proofs.Keys.{first-none, first-some, key-start}
use Rattle.ccr_changes.proofs.Firsts.{request-first, request-passed}
use Rattle.ccr_changes.proofs.polls.is_requested.Goals as goal

pub returns-then-is_same : goal.returns-then-is_same
returns-then-is_same c =
    request-first c.args.requests.now.keys c.args.follower.now c.args.request c.in-Some.field-0.now
    (first-some request_cmp c.args.requests.now (c.args.follower.now, c.args.request, 0) c.in-Some.field-0.now c.range.result c.next.new.self (c.range.ensures.in_range tt) c.in-Some.ensures.steps)
    (sym c.is_same.ensures ∙ c.if-is_same.true)

pub returns-else-is_same : goal.returns-else-is_same
returns-else-is_same c =
    subst (λ (b : Bool). IsAnyRequest c.args.requests.now.keys c.args.follower.now c.args.request b) (sym c.if-is_same.false)
    (request-passed c.args.requests.now.keys c.args.follower.now c.args.request c.in-Some.field-0.now
    (first-some request_cmp c.args.requests.now (c.args.follower.now, c.args.request, 0) c.in-Some.field-0.now c.range.result c.next.new.self (c.range.ensures.in_range tt) c.in-Some.ensures.steps)
    (sym c.is_same.ensures ∙ c.if-is_same.false))

pub returns-in-None : goal.returns-in-None
returns-in-None c = λ age.
    first-none request_cmp c.args.requests.now (c.args.follower.now, c.args.request, 0) c.range.result (c.range.ensures.in_range tt) c.in-None.ensures.steps.0 (c.args.follower.now, c.args.request, age)
    (key-start (slice_cmp nat_cmp) nat_list_cmp_total c.args.follower.now c.args.request c.args.request age (omega arith))
