-- What a message has to keep to that ends a bootstrap.
use Rattle.std.specs.Prelude.{◌≡◌, ℕ, List, slice_get, Some}
use Rattle.ccr_wire.specs.Message.{Frame}
use Rattle.ccr_model.specs.Followers.{Follower}
use Rattle.ccr_model.specs.World.{follower_of}
use Rattle.ccr_following.specs.Ending.{EndsRightly}

-- where it ends the bootstrap of the follower of this number, what was fetched is right
pub record EndsRightlyFor (followers : List Follower) (f : ℕ) (m : Frame) : Type 0 where
  pub rightly : (own : Follower) → slice_get followers f ≡ Some own → EndsRightly own m

-- so it is at the follower that it names
pub record EndsRightlyAt (followers : List Follower) (m : Frame) : Type 0 where
  pub named : (f : ℕ) → follower_of followers m.follower ≡ Some f → EndsRightlyFor followers f m
