-- What has to be right of the files where a message ends a bootstrap.
use Rattle.std.specs.Prelude.{◌≡◌, ℕ, ◌<◌, ◌≤◌, ◌==◌, true, [], count_by, Option, Some}
use Rattle.ccr_wire.specs.Message.{Frame}
use Rattle.ccr_model.specs.Operations.{has_number}
use Rattle.ccr_model.specs.Stores.{held}
use Rattle.ccr_model.specs.Requests.{Sending}
use Rattle.ccr_model.specs.Restores.{Restore, Fetch, fetching, files_of, is_complete, restore_hears}
use Rattle.ccr_model.specs.Followers.{Follower, restoring}
use Rattle.ccr_restore.specs.Finishing.{IsFinished}

-- a complete fetch has files that are segments, no number twice in them, and all below the session's count
pub record AreFilesRight (chunk_size : ℕ) (f : Fetch) : Type 0 where
  pub finished : IsFinished chunk_size (fetching f)
  pub once : (n : ℕ) → count_by (λ op. op.seq == n) (held (record { parts = files_of chunk_size f; open_part = [] })) ≤ 1
  pub below : (n : ℕ) → has_number (held (record { parts = files_of chunk_size f; open_part = [] })) n ≡ true → n < f.count

-- where the message ends the bootstrap, what was fetched is right
abbrev pub EndsRightly : Follower → Frame → Type 0
EndsRightly s m =
    (r : Restore) (done : Sending Restore) (f : Fetch) → s.work ≡ restoring r → restore_hears r s.now m ≡ Some done → done.next.stage ≡ fetching f
    → is_complete done.next.chunk_size f ≡ true → AreFilesRight done.next.chunk_size f
