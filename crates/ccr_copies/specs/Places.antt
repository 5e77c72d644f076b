-- Where the replicas of a shard stand in their list.
use Rattle.std.specs.Prelude.{◌≡◌, ℕ, ◌<◌, ◌==◌, true, List, length, find, remove, slice_get, slice_set, Some}
use Rattle.ccr_model.specs.Copies.{Copy, Replica, replaced, without, changed_replica}
use Rattle.ccr_model.specs.CopyFacts.{AscendBelow}

-- the replicas stand in ascending number, and their numbers are below that of the next copy
pub record AreNumbered (next : ℕ) (rs : List Replica) : Type 0 where
  pub ascend : AscendBelow next 0 rs

-- the first replica of this number stands at this place
pub record IsPlaceOf (copy : ℕ) (place : ℕ) (rs : List Replica) : Type 0 where
  pub low : place < length rs
  pub found : find (λ r. r.copy.number == copy) rs ≡ slice_get rs place
  pub replaced : (new : Replica) → slice_set rs place new ≡ replaced copy new rs
  pub gone : remove rs place ≡ without copy rs
  pub changed : (change : Copy → Copy) (r : Replica) → slice_get rs place ≡ Some r
      → slice_set rs place (record r { copy = change r.copy }) ≡ changed_replica copy change rs

-- the first replica of this number stands at this place, and is resynced
pub record IsReadyPlace (copy : ℕ) (place : ℕ) (rs : List Replica) : Type 0 where
  pub at : IsPlaceOf copy place rs
  pub ready : (r : Replica) → slice_get rs place ≡ Some r → r.resynced ≡ true
