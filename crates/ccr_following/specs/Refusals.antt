-- Why an event of a follower is refused, if it is.
use Rattle.std.specs.Prelude.{ℕ, nat_lt, if◌then◌else◌, List, Option, Some, None}
use Rattle.std.specs.Option.{option_map}
use Rattle.ccr_op.specs.Operation.{Operation}
use Rattle.ccr_journal.specs.declared.replies.Refusal.{Refusal}
use Rattle.ccr_journal.specs.declared.replies.Refusal.TheVariants.{NoBatch, OldEpoch, NotWritten}
use Rattle.ccr_model.specs.Followers.{Follower}
use Rattle.ccr_model.specs.FollowerRows.{Sent, is_other, lacks}

-- a write is taken in its epoch or a later one, where it was sent with these operations
abbrev pub not_applied : Follower → ℕ → ℕ → List Operation → Option Sent → Option Refusal
not_applied s epoch number batch found =
    if nat_lt epoch s.epoch then Some (OldEpoch s.epoch) else if is_other batch found then Some (NoBatch number) else None

-- a write that was sent ends once no copy lacks it
abbrev pub not_written : Follower → ℕ → Option Sent → Option Refusal
not_written s number None = Some (NoBatch number)
not_written s number (Some w) = option_map {T = ℕ} {U = Refusal} (λ copy. NotWritten copy) (lacks w.write.batch s.copies)
