-- What holds of the tasks of all followers at every place of a legal journal.
use Rattle.std.specs.Prelude.{◌≡◌, ℕ, ◌≤◌, List, [], slice_get, Some, None}
use Rattle.std.specs.List.{AllByRecursion}
use Rattle.ccr_wire.specs.Message.{Frame, IsRun}
use Rattle.ccr_wire.specs.declared.content.Content.{Content}
use Rattle.ccr_wire.specs.declared.content.Content.TheVariants as contents
use Rattle.ccr_journal.specs.Params.{AreInRange}
use Rattle.ccr_model.specs.Followers.{Follower, Work, restoring, replicating}
use Rattle.ccr_model.specs.Past.{Line, Past, FollowerPast, WrittenBatch, line_of}
use Rattle.ccr_law_tasks.specs.GoodTask.{IsGoodTask}

-- the task is good and of the epoch that is kept; in the bootstrap that is 0, and none began
abbrev pub IsGoodWork : Line → ℕ → List WrittenBatch → ℕ → Work → Type 0
IsGoodWork line begun_at written epoch (restoring r) = (epoch ≡ 0) × (begun_at ≡ 0)
IsGoodWork line begun_at written epoch (replicating t) = IsGoodTask line t begun_at written × (t.epoch ≡ epoch)

-- no write ended in a later epoch than the one that is kept
pub record IsGoodFollower (lines : List ℕ → Line) (begun_at : ℕ) (written : List WrittenBatch) (s : Follower) : Type 0 where
  pub params : AreInRange s.params
  pub ended : AllByRecursion (λ (w : WrittenBatch). w.epoch ≤ s.epoch) written
  pub work : IsGoodWork (lines s.history) begun_at written s.epoch s.work

-- no write ended and no epoch began
abbrev pub IsUnmade : FollowerPast → Type 0
IsUnmade past = (past.written ≡ []) × (past.begun_at ≡ 0)

-- each is good by the line of its own history
pub record AreGoodFollowers (lines : List ℕ → Line) (followers : List Follower) (pasts : ℕ → FollowerPast) : Type 0 where
  pub made : (f : ℕ) (s : Follower) → slice_get followers f ≡ Some s → IsGoodFollower lines (pasts f).begun_at (pasts f).written s
  pub unmade : (f : ℕ) → slice_get followers f ≡ None → IsUnmade (pasts f)

abbrev pub HasGoodFollowers : Past → Type 0
HasGoodFollowers p = AreGoodFollowers (line_of p) p.state.followers p.followers

-- a reply to a read has consecutive numbers
abbrev pub IsRunOf : Content → Type 0
IsRunOf (contents.ReadReply from global ops) = IsRun from ops
IsRunOf _ = Unit {0}

abbrev pub BringRuns : Past → Type 0
BringRuns p = AllByRecursion (λ (m : Frame). IsRunOf m.content) p.state.flight

-- what holds of the followers' tasks at every place
pub record HasGoodTasks (p : Past) : Type 0 where
  pub followers : HasGoodFollowers p
  pub runs : BringRuns p
