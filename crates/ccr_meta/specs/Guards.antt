-- Which commands are refused: for each its guards, of which the first that holds is told.
use Rattle.std.specs.Prelude.{ℕ, Bool, not, nat_le, if◌then◌else◌, List, [], ◌∷◌, Option, None, Some, is_some, is_none}
use Rattle.ccr_meta.specs.declared.faults.MetaFault.{MetaFault}
use Rattle.ccr_meta.specs.declared.faults.MetaFault.TheVariants.{IsFollower, NotFollower, NotPaused, Bootstrapping, NoShard}
use Rattle.ccr_meta.specs.declared.index_meta.IndexMeta.{IndexMeta}
use Rattle.ccr_meta.specs.declared.index_meta.Phases.{Phases}

-- the first refusal whose condition holds
abbrev pub first_refusal : List (Bool × MetaFault) → Option MetaFault
first_refusal [] = None
first_refusal (guard ∷ guards) = if guard.0 then Some guard.1 else first_refusal guards

abbrev pub write_guards : IndexMeta → List (Bool × MetaFault)
write_guards x = (is_some x.leader, IsFollower) ∷ []

abbrev pub shard_guards : ℕ → IndexMeta → List (Bool × MetaFault)
shard_guards shard x = (nat_le x.shards shard, NoShard) ∷ []

abbrev pub resync_guards : ℕ → IndexMeta → List (Bool × MetaFault)
resync_guards shard x = (is_some x.leader, IsFollower) ∷ (nat_le x.shards shard, NoShard) ∷ []

abbrev pub follower_guards : IndexMeta → List (Bool × MetaFault)
follower_guards x = (is_none x.leader, NotFollower) ∷ []

abbrev pub follower_shard_guards : ℕ → IndexMeta → List (Bool × MetaFault)
follower_shard_guards shard x = (is_none x.leader, NotFollower) ∷ (nat_le x.shards shard, NoShard) ∷ []

abbrev pub pause_guards : Phases → IndexMeta → List (Bool × MetaFault)
pause_guards phases x = (is_none x.leader, NotFollower) ∷ (phases.bootstrapping, Bootstrapping) ∷ []

abbrev pub resume_guards : Phases → IndexMeta → List (Bool × MetaFault)
resume_guards phases x = (is_none x.leader, NotFollower) ∷ (not phases.paused, NotPaused) ∷ []

abbrev pub unfollow_guards : Phases → IndexMeta → List (Bool × MetaFault)
unfollow_guards phases x = (is_none x.leader, NotFollower) ∷ (phases.bootstrapping, Bootstrapping) ∷ (phases.active, NotPaused) ∷ []
