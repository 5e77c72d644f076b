-- How a part that becomes smaller makes the measure of a world smaller.
use Rattle.std.specs.Prelude.{slice_get, slice_set}
use Rattle.std.proofs.Common.{◌≡◌, inl, inr, ℕ, ◌<◌, Some, List, refl, sym, subst, arith}
use Rattle.ccr_wire.specs.Message.{Frame}
use Rattle.ccr_model.specs.Outcomes.{Outcome, within}
use Rattle.ccr_model.specs.Copies.{Copies}
use Rattle.ccr_model.specs.LeaderRows.{with_copies as with_leader_copies}
use Rattle.ccr_model.specs.Followers.{Follower}
use Rattle.ccr_model.specs.FollowerRows.{with_copies as with_follower_copies}
use Rattle.ccr_model.specs.World.{State, at_leader, at_follower}
use Rattle.ccr_law_settling.specs.Measure.{copies_lack, work_lacks, follower_lacks, over_followers, rank_of, ranks_of, lacking_of, IsLower}
use Rattle.ccr_law_settling.proofs.Measure.Totals.{le_itself, over_set_same, over_set_less}
use Rattle.ccr_law_settling.proofs.Measure.CopyRows.{Lowers}
use Rattle.std.proofs.lemmas.List.{append-nil}

-- the leader's copies lack less
pub leader_lower : (count_of : List ℕ → ℕ) (s : State) (o : Outcome Copies) → Lowers (count_of s.leader.history) s.leader.copies o
    → IsLower count_of (at_leader s (within (with_leader_copies s.leader) o)).next s
leader_lower count_of s o row =
    subst (λ (x : Outcome Copies). IsLower count_of (at_leader s (within (with_leader_copies s.leader) x)).next s) (sym row.is)
    (subst (λ (flight : List Frame). IsLower count_of (record s { leader = with_leader_copies s.leader new; flight = flight }) s) (sym (append-nil s.flight))
    (inr (le_itself (ranks_of s), inl lower)))
  where
    new : Copies
    new = record s.leader.copies { replicas = row.replicas; primary = record s.leader.copies.primary { global = row.global } }

    lower : lacking_of count_of (record s { leader = with_leader_copies s.leader new }) < lacking_of count_of s
    lower =
        let less : copies_lack (count_of s.leader.history) new < copies_lack (count_of s.leader.history) s.leader.copies = row.lower in
        let same : over_followers (follower_lacks count_of) 0 s.followers ≡ over_followers (follower_lacks count_of) 0 s.followers = refl in
        omega arith

-- a follower's copies lack less
pub follower_lower : (count_of : List ℕ → ℕ) (s : State) (f : ℕ) (own : Follower) (o : Outcome Copies) → slice_get s.followers f ≡ Some own
    → Lowers (count_of own.history) own.copies o
    → IsLower count_of (at_follower s f (within (with_follower_copies own) o)).next s
follower_lower count_of s f own o at row =
    subst (λ (x : Outcome Copies). IsLower count_of (at_follower s f (within (with_follower_copies own) x)).next s) (sym row.is)
    (subst (λ (flight : List Frame). IsLower count_of (record s { followers = slice_set s.followers f (with_follower_copies own new); flight = flight }) s) (sym (append-nil s.flight))
    (inr (
      over_set_same (λ f own. rank_of s.flight s.leader.sessions f own.work) f own (with_follower_copies own new) s.followers at (le_itself (rank_of s.flight s.leader.sessions f own.work)),
      inl lower,
    )))
  where
    new : Copies
    new = record own.copies { replicas = row.replicas; primary = record own.copies.primary { global = row.global } }

    lower : lacking_of count_of (record s { followers = slice_set s.followers f (with_follower_copies own new) }) < lacking_of count_of s
    lower =
        let less : over_followers (follower_lacks count_of) 0 (slice_set s.followers f (with_follower_copies own new)) < over_followers (follower_lacks count_of) 0 s.followers
        = over_set_less (follower_lacks count_of) f own (with_follower_copies own new) s.followers at
        (let one : copies_lack (count_of own.history) new < copies_lack (count_of own.history) own.copies = row.lower in
        let work : work_lacks (count_of own.history) own.work ≡ work_lacks (count_of own.history) own.work = refl in omega arith) in
        omega arith
