-- A follower's engine.
use Rattle.std.specs.Prelude.{ℕ, nat_lt, List, [], ◌∷◌}
use Rattle.ccr_op.specs.Operation.{Operation}
use Rattle.ccr_journal.specs.declared.replies.Reply.TheVariants as replies
use Rattle.ccr_journal.specs.declared.replies.Refusal.TheVariants.{OldEpoch}
use Rattle.ccr_model.specs.Outcomes.{Outcome, answered, guarded}
use Rattle.ccr_model.specs.Copies.{Copies, new_copies}
use Rattle.ccr_model.specs.FollowerRows.{applied, new_in}

-- the leader's retention, the epoch that is kept, and the copies
pub record Engine : Type 0 where
  pub retention : ℕ
  pub epoch : ℕ
  pub copies : Copies

abbrev pub with_copies : Engine → Copies → Engine
with_copies e copies = record e { copies = copies }

-- a new follower keeps no epoch yet
abbrev pub new_engine : ℕ → ℕ → Engine
new_engine copies retention = record { retention = retention; epoch = 0; copies = new_copies copies }

-- a write of an epoch: one that is over is refused, and of another the primary takes what is new
unfoldable pub engine_apply_row : Engine → ℕ → List Operation → Outcome Engine
engine_apply_row e epoch batch =
    guarded e ((nat_lt epoch e.epoch, OldEpoch e.epoch) ∷ [])
    (answered (replies.Applied (new_in e.copies.primary.seen batch)) (with_copies e (applied batch e.copies)))
