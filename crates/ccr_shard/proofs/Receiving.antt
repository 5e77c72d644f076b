-- What the facts of a reached state give to who receives a message.
use Rattle.std.proofs.Common.{◌≡◌, ℕ, List, true, Some, subst}
use Rattle.std.specs.Prelude.{slice_get, length}
use Rattle.std.specs.List.{range_with_len}
use Rattle.ccr_wire.specs.Message.{Frame}
use Rattle.ccr_wire.specs.declared.content.Content.{Content}
use Rattle.ccr_wire.specs.declared.content.Content.TheVariants as contents
use Rattle.ccr_model.specs.Restores.{Fetch, is_complete, file_bytes}
use Rattle.ccr_model.specs.Leaders.{Leader}
use Rattle.ccr_model.specs.Followers.{Follower}
use Rattle.ccr_model.specs.World.{State}
use Rattle.ccr_leader.specs.Requests.{IsPlaced}
use Rattle.ccr_restore.specs.Finishing.{IsSpelled}
use Rattle.ccr_law_base.proofs.Lists.{All-weaker}
use Rattle.ccr_following.specs.Ending.{AreFilesRight, EndsRightly}
use Rattle.ccr_law_reached.specs.Reached.{AsksForPart, PartsAreThere, IsSegment, HasRightFiles, EndsWithRightFiles, FetchedFilesAreRight}
use Rattle.ccr_shard.specs.Ends.{EndsRightlyAt}

placed : (l : Leader) (content : Content) → AsksForPart l.sessions content → IsPlaced l content
placed l (contents.ChunkRequest session file offset size) asks = record { each = asks }
placed l _ asks = tt

-- a message in flight is one that the leader can take
pub placed_at : (s : State) (l : Leader) (at : ℕ) (m : Frame) → PartsAreThere s → s.leader ≡ l → slice_get s.flight at ≡ Some m → IsPlaced l m.content
placed_at s l at m there is found = subst (λ (x : Leader). IsPlaced x m.content) is (placed s.leader m.content (there at m found))

spelled : (bytes : List ℕ) → IsSegment bytes → IsSpelled bytes
spelled bytes is = record { ops = is.ops; fits = is.fits; is = is.is }

right_files : (chunk_size : ℕ) (f : Fetch) → is_complete chunk_size f ≡ true → HasRightFiles chunk_size f → AreFilesRight chunk_size f
right_files chunk_size f all files = record {
  finished = (
    all,
    All-weaker (λ (file : ℕ). IsSegment (file_bytes chunk_size f file)) (λ (file : ℕ). IsSpelled (file_bytes chunk_size f file))
        (λ file is. spelled (file_bytes chunk_size f file) is) (range_with_len 0 (length f.sizes)) files.segments,
  );
  once = files.once;
  below = files.below;
}

ends : (own : Follower) (m : Frame) → EndsWithRightFiles own m → EndsRightly own m
ends own m right = λ r done f work hears stage all. right_files done.next.chunk_size f all (right r done f work hears stage all)

-- and one that its follower can take
pub ends_at : (s : State) (followers : List Follower) (at : ℕ) (m : Frame) → FetchedFilesAreRight s → s.followers ≡ followers → slice_get s.flight at ≡ Some m → EndsRightlyAt followers m
ends_at s followers at m right is found =
    subst (λ (xs : List Follower). EndsRightlyAt xs m) is (record { named = λ f named. record { rightly = λ own there. ends own m (right at f m own found named there) } })
