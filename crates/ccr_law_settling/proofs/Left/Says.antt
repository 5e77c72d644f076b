-- Where nothing may be done and no clock may be set, each follower is settled.
use Rattle.std.specs.List.{list_all}
use Rattle.std.specs.Str.{bytes_eq}
use Rattle.std.specs.Prelude.{slice_get}
use Rattle.std.proofs.Common.{◌≡◌, ℕ, zero, suc, ◌&&◌, ◌||◌, not, Bool, true, false, Some, List, [], ◌∷◌, refl, subst}
use Rattle.std.proofs.lemmas.Slice.Eq.{bytes_eq-Decides}
use Rattle.ccr_model.specs.Copies.{all_copies}
use Rattle.ccr_model.specs.Tasks.{Task, is_active}
use Rattle.ccr_model.specs.Followers.{Follower, Work, restoring, replicating}
use Rattle.ccr_model.specs.FollowerRows.{is_bootstrapping}
use Rattle.ccr_model.specs.World.{State}
use Rattle.ccr_model.specs.Settled.{is_whole, is_follower_settled}
use Rattle.ccr_law_settling.specs.FollowersLeft.{HasNothingToWrite, HasLeadersHistory, FollowersEnd}
use Rattle.ccr_law_settling.proofs.Left.Bootstraps.{bootstraps-end}
use Rattle.ccr_law_settling.proofs.Left.Writes.{writes-end}
use Rattle.ccr_law_settling.proofs.Left.Active.{active-whole}

-- what passes at each place passes over the list
all_by_place : {X : Type 0} (test : X → Bool) (xs : List X) → ((n : ℕ) (x : X) → slice_get xs n ≡ Some x → test x ≡ true) → list_all test xs ≡ true
all_by_place test [] each = refl
all_by_place test (x ∷ xs) each = rw (each zero x refl) (all_by_place test xs (λ n y at. each (suc n) y at))

-- a follower of a task that has nothing to write, and that has the leader's history where it is active
task_settled : (s : State) (own : Follower) (t : Task) → own.work ≡ replicating t → HasNothingToWrite t
    → (is_active t.phase ≡ true → HasLeadersHistory s own) → is_follower_settled s.leader.history s.leader.copies.primary.seen.count own ≡ true
task_settled s own t is nothing has = rw is (rw nothing.buffer (rw nothing.writes
    (unless (is_active t.phase) (bytes_eq own.history s.leader.history && list_all (is_whole s.leader.copies.primary.seen.count) (all_copies own.copies)) (λ active. both (has active)))))
  where
    both : HasLeadersHistory s own → (bytes_eq own.history s.leader.history && list_all (is_whole s.leader.copies.primary.seen.count) (all_copies own.copies)) ≡ true
    both now = rw ((bytes_eq-Decides own.history s.leader.history).1 now.history) now.whole

    unless : (a b : Bool) → (a ≡ true → b ≡ true) → (not a || b) ≡ true
    unless true b then = then refl
    unless false b then = refl

pub followers-end : FollowersEnd
followers-end p ground still = all_by_place (is_follower_settled p.state.leader.history p.state.leader.copies.primary.seen.count) p.state.followers (λ f own there. settled f own there own.work refl)
  where
    settled : (f : ℕ) (own : Follower) → slice_get p.state.followers f ≡ Some own → (work : Work) → own.work ≡ work
        → is_follower_settled p.state.leader.history p.state.leader.copies.primary.seen.count own ≡ true
    settled f own there (restoring r) is =
        let over : is_bootstrapping own.work ≡ false = bootstraps-end p ground still f own there in
        let none : is_bootstrapping (restoring r) ≡ false = subst (λ (work : Work). is_bootstrapping work ≡ false) is over in
        cc
    settled f own there (replicating t) is =
        let nothing : HasNothingToWrite t = writes-end p ground still f own t there is in
        task_settled p.state own t is nothing (active-whole p ground still f own t there is nothing)
