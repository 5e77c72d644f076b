-- What waits at the leader still waits rightly where each lease that some copy lacked is still lacked, and each copy that was there still is.
use Rattle.std.specs.Prelude.{is_some}
use Rattle.std.proofs.Common.{◌≡◌, ℕ, Bool, true, false, filter, List, ◌∙◌}
use Rattle.ccr_law_base.proofs.Lists.{All-weaker, All-both, All-filter, All-filter_test}
use Rattle.ccr_model.specs.Copies.{Copies, copy_of}
use Rattle.ccr_model.specs.Leaders.{Leader, KeptRequest, Poll}
use Rattle.ccr_model.specs.LeaderRows.{all_hold, with_copies}
use Rattle.ccr_law_settling_grounds.specs.Parked.{ArePollsThere, IsParkedRightly}
use Rattle.ccr_law_settling_grounds.proofs.Wait.Alike.{numbers_of, collections_of, same_there, same_held}

-- a lease that some copy lacks is lacked more on, and a copy that is there stays there
pub record LacksAndStays (old new : Copies) : Type 0 where
  pub lacks : (id : List ℕ) → all_hold id old ≡ false → all_hold id new ≡ false
  pub there : (copy : ℕ) → is_some (copy_of old copy) ≡ true → is_some (copy_of new copy) ≡ true

pub stays_alike : (s t : Copies) → collections_of t ≡ collections_of s → numbers_of t ≡ numbers_of s → LacksAndStays s t
stays_alike s t leases numbers = record { lacks = λ id lacks. same_held s t leases id ∙ lacks; there = λ copy there. same_there s t numbers copy ∙ there }

pub polls_stay : (s t : Copies) (polls : List Poll) → numbers_of t ≡ numbers_of s → ArePollsThere s polls → ArePollsThere t polls
polls_stay s t polls same all =
    All-weaker (λ (p : Poll). is_some (copy_of s p.copy) ≡ true) (λ (p : Poll). is_some (copy_of t p.copy) ≡ true) (λ p there. same_there s t same p.copy ∙ there) polls all

pub parked_stays : (l : Leader) (next : Copies) → LacksAndStays l.copies next → IsParkedRightly l → IsParkedRightly (with_copies l next)
parked_stays l next stays are = record {
  kept = All-weaker (λ (k : KeptRequest). all_hold k.id l.copies ≡ false) (λ (k : KeptRequest). all_hold k.id next ≡ false) (λ k lacks. stays.lacks k.id lacks) l.kept are.kept;
  polls = All-weaker (λ (p : Poll). is_some (copy_of l.copies p.copy) ≡ true) (λ (p : Poll). is_some (copy_of next p.copy) ≡ true)
      (λ p there. stays.there p.copy there) l.polls are.polls;
  own = are.own;
}

-- the polls that a filter leaves are there, where each that passes it is
pub polls_pass : (s t : Copies) (test : Poll → Bool) (polls : List Poll)
    → ((p : Poll) → test p ≡ true → is_some (copy_of s p.copy) ≡ true → is_some (copy_of t p.copy) ≡ true)
    → ArePollsThere s polls → ArePollsThere t (filter test polls)
polls_pass s t test polls passing all =
    All-weaker (λ (p : Poll). (test p ≡ true) × (is_some (copy_of s p.copy) ≡ true)) (λ (p : Poll). is_some (copy_of t p.copy) ≡ true)
    (λ p both. passing p both.0 both.1) (filter test polls)
    (All-both (λ (p : Poll). test p ≡ true) (λ (p : Poll). is_some (copy_of s p.copy) ≡ true) (filter test polls) (All-filter_test test polls)
    (All-filter (λ (p : Poll). is_some (copy_of s p.copy) ≡ true) test polls all))
