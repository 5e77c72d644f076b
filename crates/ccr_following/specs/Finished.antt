-- When a follower's bootstrap is over, and what it restored.
use Rattle.std.specs.Prelude.{ℕ}
use Rattle.ccr_segment.specs.declared.restored.Restored.{Restored}
use Rattle.ccr_journal.specs.declared.replies.Reply.TheVariants as replies
use Rattle.ccr_journal.specs.declared.replies.Heard.TheVariants as heard
use Rattle.ccr_model.specs.Outcomes.{Outcome}
use Rattle.ccr_model.specs.Restores.{Restore, Stage, leasing, opening, fetching}
use Rattle.ccr_model.specs.Followers.{Follower, Work, restoring, replicating, bootstrapped}
use Rattle.ccr_model.specs.FollowerRows.{does, ignored}
use Rattle.ccr_restore.specs.Finishing.{IsFinished, IsRestored}
use Rattle.ccr_following.specs.Ending.{AreFilesRight}

-- all parts of the files are there, and spell segments
abbrev pub IsFetched : Work → Type 0
IsFetched (restoring r) = IsFinished r.chunk_size r.stage
IsFetched (replicating t) = ⊥

-- the session's count, its history, and the operations of its files
abbrev pub IsRestoredBy : Work → Restored → Type 0
IsRestoredBy (restoring r) restored = IsRestored r.chunk_size r.stage restored
IsRestoredBy (replicating t) restored = ⊥

abbrev pub IsStageRight : ℕ → Stage → Type 0
IsStageRight chunk_size (leasing a) = ⊥
IsStageRight chunk_size (opening a) = ⊥
IsStageRight chunk_size (fetching f) = AreFilesRight chunk_size f

-- what the bootstrap fetched is right
abbrev pub IsFetchedRightly : Work → Type 0
IsFetchedRightly (restoring r) = IsStageRight r.chunk_size r.stage
IsFetchedRightly (replicating t) = ⊥

-- what the end of a bootstrap that has all parts of the files comes to
abbrev pub ends_at : Follower → Restore → Stage → Outcome Follower
ends_at s r (leasing a) = ignored s
ends_at s r (opening a) = ignored s
ends_at s r (fetching f) = does (replies.Heard heard.Done) (λ next. next) (bootstrapped s r f)

abbrev pub follows : Follower → Work → Outcome Follower
follows s (restoring r) = ends_at s r r.stage
follows s (replicating t) = ignored s
