-- An event comes to the same with the picks that its reply keeps.
use Rattle.std.specs.Prelude.{slice_get}
use Rattle.std.proofs.Common.{◌≡◌, ℕ, Option, Some, None, List, refl, ap}
use Rattle.ccr_journal.specs.declared.sides.Side.TheVariants as sides
use Rattle.ccr_journal.specs.declared.events.Event.{Event}
use Rattle.ccr_journal.specs.declared.events.Event.TheVariants as events
use Rattle.ccr_model.specs.Outcomes.{Outcome, within}
use Rattle.ccr_model.specs.Copies.{Copy, Copies, copy_of}
use Rattle.ccr_model.specs.CopyRows.{merge_row}
use Rattle.ccr_model.specs.Followers.{Follower}
use Rattle.ccr_model.specs.FollowerRows.{with_copies, follower_merge}
use Rattle.ccr_model.specs.LeaderRows.{with_copies as with_leader_copies}
use Rattle.ccr_model.specs.World.{State, at_leader, at_follower, for_follower}
use Rattle.ccr_model.specs.Step.{step, picks_in}

merged-same : (s : Copies) (retention copy : ℕ) (picks : List ℕ) (found : Option Copy) → merge_row s retention copy (picks_in (merge_row s retention copy picks found).reply) found ≡ merge_row s retention copy picks found
unfolding merge_row
merged-same s retention copy picks None = refl
merged-same s retention copy picks (Some c) = refl

merged-by-follower : (s : State) (f copy : ℕ) (picks : List ℕ) (found : Option Follower)
    → for_follower s f (λ x. follower_merge x copy (picks_in (for_follower s f (λ x. follower_merge x copy picks) found).reply)) found ≡ for_follower s f (λ x. follower_merge x copy picks) found
merged-by-follower s f copy picks None = refl
merged-by-follower s f copy picks (Some x) =
    ap (λ (o : Outcome Copies). at_follower s f (within (with_copies x) o)) (merged-same x.copies x.retention copy picks (copy_of x.copies copy))

-- so an entry, which keeps the picks of its reply, tells what its event came to
pub same-picks : (s : State) (event : Event) (picks : List ℕ) → step s event (picks_in (step s event picks).reply) ≡ step s event picks
same-picks s (events.Merge sides.Leader copy) picks =
    ap (λ (o : Outcome Copies). at_leader s (within (with_leader_copies s.leader) o)) (merged-same s.leader.copies s.leader.start.retention copy picks (copy_of s.leader.copies copy))
same-picks s (events.Merge (sides.Follower f) copy) picks = merged-by-follower s f copy picks (slice_get s.followers f)
same-picks s _ picks = refl
