use Rattle.std.proofs.Common.{◌≡◌, ℕ, ◌+◌, List, [], ◌∷◌, ◌++◌, true, false, ◌∙◌, ap, sym, subst, refl, arith, is_err, if◌then◌else◌}
use Rattle.std.specs.Ordering.{nat_cmp}
use Rattle.std.specs.Str.{bytes_eq}
use Rattle.std.specs.BTreeMap.{insert_entry, is_at}
use Rattle.ccr_model.specs.Leaders.{Poll}
use Rattle.ccr_changes.specs.Indexes.{IsIndexed, ages_in, copy_cmp, has_copy, has_request, request_cmp}
use Rattle.ccr_changes.proofs.Indexing.{ages-undone, copy_key, fresh-copy, fresh-request, from_err, from_ok, indexed-push, indexed-same, parked, parked-values, request_key}
use Rattle.ccr_changes.proofs.polls.Polls.park.Goals as goal

pub invariant_of-self : goal.invariant_of-self
invariant_of-self c =
    let s = c.self.inside in
    indexed-same s.by_age.entries s.next s.ages.entries s.copies.keys s.requests.keys c.self.invariant s.by_age.entries c.push_age.new.ages.entries s.copies.keys s.requests.keys refl c.in_err-place.ensures.err refl refl

pub insert-parked-requires-clause-copies : goal.insert-parked-requires-clause-copies
insert-parked-requires-clause-copies c =
    let s = c.self.inside in
    fresh-copy s.by_age.entries s.next s.ages.entries s.copies.keys s.requests.keys c.self.invariant c.args.poll

pub insert-parked-requires-clause-requests : goal.insert-parked-requires-clause-requests
insert-parked-requires-clause-requests c =
    let s = c.self.inside in
    fresh-request s.by_age.entries s.next s.ages.entries s.copies.keys s.requests.keys c.self.invariant c.args.poll

pub invariant_of-self-then-is_err : goal.invariant_of-self-then-is_err
invariant_of-self-then-is_err c =
    let s = c.self.inside in
    let fails : is_err c.insert-parked.result ≡ true = sym c.is_err.ensures.value ∙ c.if-is_err.true in
    let e = c.insert-parked.ensures in
    indexed-same s.by_age.entries s.next s.ages.entries s.copies.keys s.requests.keys c.self.invariant c.insert-parked.new.by_age.entries c.remove_age.new.ages.entries c.insert-parked.new.copies.keys c.insert-parked.new.requests.keys
    (from_err c.insert-parked.result (c.insert-parked.new.by_age.entries ≡ s.by_age.entries) fails e.err_polls)
    (ages-undone c.poll.inside.follower s.next c.in_ok-place.place s.ages.entries c.push_age.new.ages.entries c.remove_age.new.ages.entries c.in_ok-place.ensures.place c.in_ok-place.ensures.ok c.remove_age.ensures)
    (from_err c.insert-parked.result (c.insert-parked.new.copies.keys ≡ s.copies.keys) fails e.err_copies)
    (from_err c.insert-parked.result (c.insert-parked.new.requests.keys ≡ s.requests.keys) fails e.err_requests)

pub invariant_of-self-2 : goal.invariant_of-self-2
invariant_of-self-2 c =
    let s = c.self.inside in
    let done : is_err c.insert-parked.result ≡ false = sym c.is_err.ensures.value ∙ c.if-is_err.false in
    let e = c.insert-parked.ensures in
    let next : c.in-Some.next ≡ s.next + 1 = omega (arith, c.in-Some.ensures) in
    let entries : c.insert-parked.new.by_age.entries ≡ s.by_age.entries ++ (s.next, c.args.poll) ∷ [] =
    parked s.by_age.entries s.next s.ages.entries s.copies.keys s.requests.keys c.self.invariant c.args.poll c.insert-parked.new.by_age.entries
    (from_ok c.insert-parked.result (c.insert-parked.new.by_age.entries ≡ insert_entry nat_cmp s.by_age.entries s.next c.args.poll) done e.polls) in
    subst (λ (n : ℕ). IsIndexed c.insert-parked.new.by_age.entries n c.push_age.new.ages.entries c.insert-parked.new.copies.keys c.insert-parked.new.requests.keys) (sym next)
    (subst (λ (polls : List (ℕ × Poll)). IsIndexed polls (s.next + 1) c.push_age.new.ages.entries c.insert-parked.new.copies.keys c.insert-parked.new.requests.keys) (sym entries)
    (indexed-push s.by_age.entries s.next s.ages.entries s.copies.keys s.requests.keys c.self.invariant c.args.poll c.push_age.new.ages.entries c.insert-parked.new.copies.keys c.insert-parked.new.requests.keys
    (subst (λ (p : Poll). (f : List ℕ) → ages_in c.push_age.new.ages.entries f ≡ (if bytes_eq p.follower f then ages_in s.ages.entries f ++ s.next ∷ [] else ages_in s.ages.entries f)) c.poll.view_is c.in_ok-place.ensures.ok)
    (from_ok c.insert-parked.result ((key : ℕ × ℕ × ℕ) → has_copy c.insert-parked.new.copies.keys key ≡ (if is_at (copy_cmp (copy_key c.args.poll s.next)) key then true else has_copy s.copies.keys key)) done e.copies)
    (from_ok c.insert-parked.result ((key : List ℕ × ℕ × ℕ) → has_request c.insert-parked.new.requests.keys key ≡ (if is_at (request_cmp (request_key c.args.poll s.next)) key then true else has_request s.requests.keys key)) done e.requests)))

pub returns-clause-ok : goal.returns-clause-ok
returns-clause-ok c =
    let s = c.self.inside in
    let done : is_err c.insert-parked.result ≡ false = sym c.is_err.ensures.value ∙ c.if-is_err.false in
    parked-values s.by_age.entries s.next s.ages.entries s.copies.keys s.requests.keys c.self.invariant c.args.poll c.insert-parked.new.by_age.entries
    (from_ok c.insert-parked.result (c.insert-parked.new.by_age.entries ≡ insert_entry nat_cmp s.by_age.entries s.next c.args.poll) done c.insert-parked.ensures.polls)
    ∙ ap (λ (polls : List Poll). polls ++ c.args.poll ∷ []) c.self.view_is
