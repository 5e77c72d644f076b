use Rattle.std.proofs.Common.{◌≡◌, ℕ, List, Some, None, false, ◌∙◌, ap, sym, subst, if◌then◌else◌}
use Rattle.std.specs.Prelude.{slice_get}
use Rattle.std.specs.BTreeMap.{is_at}
use Rattle.ccr_model.specs.Leaders.{Poll, polls_of, without_poll}
use Rattle.ccr_changes.specs.Indexes.{copy_cmp, has_copy, has_request, request_cmp}
use Rattle.ccr_changes.proofs.Ages.{Found}
use Rattle.ccr_changes.proofs.Takes.{is_of, take-past}
use Rattle.ccr_changes.proofs.Indexing.{copy_key, found-at, indexed-remove, missing-at, request_key, taken-values}
use Rattle.ccr_changes.proofs.polls.Polls.take.Goals as goal

pub returns-in_err-age-clause-taken : goal.returns-in_err-age-clause-taken
returns-in_err-age-clause-taken c =
    let s = c.self.inside in
    c.from_residual.ensures
    ∙ (sym (missing-at s.by_age.entries s.next s.ages.entries s.copies.keys s.requests.keys c.self.invariant c.args.follower.now c.args.at (sym c.in_err-age.ensures))
    ∙ ap (λ (polls : List Poll). slice_get (polls_of polls c.args.follower.now) c.args.at) c.self.view_is)

pub returns-in_err-age-clause-after : goal.returns-in_err-age-clause-after
returns-in_err-age-clause-after c =
    let s = c.self.inside in
    sym (take-past c.args.follower.now c.args.at c.args.self.now (subst (λ (polls : List Poll). slice_get (polls_of polls c.args.follower.now) c.args.at ≡ None) c.self.view_is
    (missing-at s.by_age.entries s.next s.ages.entries s.copies.keys s.requests.keys c.self.invariant c.args.follower.now c.args.at (sym c.in_err-age.ensures))))

pub returns-in_err-poll-clause-taken : goal.returns-in_err-poll-clause-taken
returns-in_err-poll-clause-taken c =
    let s = c.self.inside in
    let it : Found (is_of c.args.follower.now) 0 s.by_age.entries c.args.at c.in_ok-age.age =
    found-at s.by_age.entries s.next s.ages.entries s.copies.keys s.requests.keys c.self.invariant c.args.follower.now c.args.at c.in_ok-age.age (sym c.in_ok-age.ensures) in
    let clash : None ≡ Some it.value = c.in_err-poll.ensures.value ∙ it.there in
    absurd cc

pub returns-in_err-poll-clause-after : goal.returns-in_err-poll-clause-after
returns-in_err-poll-clause-after c =
    let s = c.self.inside in
    let it : Found (is_of c.args.follower.now) 0 s.by_age.entries c.args.at c.in_ok-age.age =
    found-at s.by_age.entries s.next s.ages.entries s.copies.keys s.requests.keys c.self.invariant c.args.follower.now c.args.at c.in_ok-age.age (sym c.in_ok-age.ensures) in
    let clash : None ≡ Some it.value = c.in_err-poll.ensures.value ∙ it.there in
    absurd cc

pub invariant_of-self-2 : goal.invariant_of-self-2
invariant_of-self-2 c =
    let s = c.self.inside in
    indexed-remove s.by_age.entries s.next s.ages.entries s.copies.keys s.requests.keys c.self.invariant c.args.follower.now c.args.at c.in_ok-age.age c.in_ok-poll.poll c.remove.new.self.entries c.remove_age.new.ages.entries c.remove-2.new.self.keys c.remove-3.new.self.keys
    (sym c.in_ok-age.ensures) (sym c.in_ok-poll.ensures.value) c.in_ok-poll.ensures.entries c.in_ok-poll.ensures.updates.0 c.remove_age.ensures
    (subst (λ (p : Poll). (key : ℕ × ℕ × ℕ) → has_copy c.remove-2.new.self.keys key ≡ (if is_at (copy_cmp (copy_key p c.in_ok-age.age)) key then false else has_copy s.copies.keys key)) c.poll.view_is c.remove-2.ensures.updates.0)
    (subst (λ (p : Poll). (key : List ℕ × ℕ × ℕ) → has_request c.remove-3.new.self.keys key ≡ (if is_at (request_cmp (request_key p c.in_ok-age.age)) key then false else has_request s.requests.keys key)) c.poll.view_is c.remove-3.ensures.updates.0)

pub returns-clause-taken : goal.returns-clause-taken
returns-clause-taken c =
    let s = c.self.inside in
    let it : Found (is_of c.args.follower.now) 0 s.by_age.entries c.args.at c.in_ok-age.age =
    found-at s.by_age.entries s.next s.ages.entries s.copies.keys s.requests.keys c.self.invariant c.args.follower.now c.args.at c.in_ok-age.age (sym c.in_ok-age.ensures) in
    c.in_ok-poll.ensures.value ∙ (it.there ∙ (sym it.place ∙ ap (λ (polls : List Poll). slice_get (polls_of polls c.args.follower.now) c.args.at) c.self.view_is))

pub returns-clause-after : goal.returns-clause-after
returns-clause-after c =
    let s = c.self.inside in
    taken-values s.by_age.entries s.next s.ages.entries s.copies.keys s.requests.keys c.self.invariant c.args.follower.now c.args.at c.in_ok-age.age c.remove.new.self.entries (sym c.in_ok-age.ensures) c.in_ok-poll.ensures.entries
    ∙ ap (λ (polls : List Poll). without_poll c.args.follower.now c.args.at polls) c.self.view_is
