use Rattle.std.proofs.Common.{◌≡◌, ℕ, List, Option, Some, false, MatchOption, sym, subst}
use Rattle.std.specs.Prelude.{slice_get}
use Rattle.std.specs.List.{list_any}
use Rattle.std.specs.Ordering.{nat_cmp}
use Rattle.std.specs.Map.{lookup, values_of}
use Rattle.std.specs.BTreeMap.{is_at}
use Rattle.ccr_model.specs.Leaders.{Poll}
use Rattle.ccr_changes.specs.declared.polls.Least.{Least}
use Rattle.ccr_changes.specs.Waits.{IsLeastAt, waits_at}
use Rattle.ccr_changes.specs.Indexes.{ages_in}
use Rattle.ccr_changes.proofs.Indexing.{least-at, listed-at, none-at, rising-in}
use Rattle.ccr_changes.proofs.polls.Polls.least_from.Goals as goal

pub returns-in_err-from : goal.returns-in_err-from
returns-in_err-from c =
    let s = c.self.inside in
    subst (λ (o : Option Least). MatchOption o (list_any (waits_at c.args.copy) c.args.self.now ≡ false) (IsLeastAt c.args.copy c.args.self.now)) (sym c.from_residual.ensures)
    (subst (λ (polls : List Poll). list_any (waits_at c.args.copy) polls ≡ false) c.self.view_is
    (none-at s.by_age.entries s.next s.ages.entries s.copies.keys s.requests.keys c.self.invariant c.args.copy c.in_err-from.ensures))

pub place_of-requires : goal.place_of-requires
place_of-requires c =
    let s = c.self.inside in
    rising-in s.by_age.entries s.next s.ages.entries s.copies.keys s.requests.keys c.self.invariant c.poll.inside.follower

pub returns-in_err-at : goal.returns-in_err-at
returns-in_err-at c =
    let s = c.self.inside in
    let there : lookup (is_at (nat_cmp c.in_ok-from.age)) s.by_age.entries ≡ Some c.in_ok-poll.poll.now = sym c.in_ok-poll.ensures.value in
    let it : (at : ℕ) × (slice_get (ages_in s.ages.entries c.in_ok-poll.poll.now.follower) at ≡ Some c.in_ok-from.age) =
    listed-at s.by_age.entries s.next s.ages.entries s.copies.keys s.requests.keys c.self.invariant c.in_ok-from.age c.in_ok-poll.poll.now there in
    absurd (c.in_err-at.ensures.none it.0 (subst (λ (p : Poll). slice_get (ages_in s.ages.entries p.follower) it.0 ≡ Some c.in_ok-from.age) (sym c.poll.view_is) it.1))

pub returns : goal.returns
returns c =
    let s = c.self.inside in
    let there : lookup (is_at (nat_cmp c.in_ok-from.age)) s.by_age.entries ≡ Some c.in_ok-poll.poll.now = sym c.in_ok-poll.ensures.value in
    let place : slice_get (ages_in s.ages.entries c.in_ok-poll.poll.now.follower) c.in_ok-at.at ≡ Some c.in_ok-from.age =
    subst (λ (p : Poll). slice_get (ages_in s.ages.entries p.follower) c.in_ok-at.at ≡ Some c.in_ok-from.age) c.poll.view_is c.in_ok-at.ensures.some in
    subst (λ (polls : List Poll). IsLeastAt c.args.copy polls (record { follower = c.poll.inside.follower; at = c.in_ok-at.at; from = c.in_ok-from.from })) c.self.view_is
    (subst (λ (p : Poll). IsLeastAt c.args.copy (values_of s.by_age.entries) (record { follower = p.follower; at = c.in_ok-at.at; from = c.in_ok-from.from })) (sym c.poll.view_is)
    (least-at s.by_age.entries s.next s.ages.entries s.copies.keys s.requests.keys c.self.invariant c.args.copy c.in_ok-from.from c.in_ok-from.age c.in_ok-at.at c.in_ok-poll.poll.now c.in_ok-from.ensures there place))
