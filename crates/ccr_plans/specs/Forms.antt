-- The forms of plans, and what is read of an index before them.
use Rattle.std.specs.Prelude.{ℕ, ◌+◌, Bool, true, false, zero, suc, List, [], ◌∷◌, slice_get, Option, unwrap_or}
use Rattle.std.specs.List.{list_any}
use Rattle.std.specs.Option.{option_map_or}
use Rattle.ccr_op.specs.declared.index_name.IndexName.{IndexName}
use Rattle.ccr_journal.specs.declared.sides.Phase.{Phase}
use Rattle.ccr_journal.specs.declared.sides.Phase.TheVariants as phase
use Rattle.ccr_journal.specs.declared.sides.Side.{Side}
use Rattle.ccr_journal.specs.declared.sides.Side.TheVariants as side
use Rattle.ccr_journal.specs.declared.events.Event.{Event}
use Rattle.ccr_meta.specs.declared.faults.MetaFault.{MetaFault}
use Rattle.ccr_meta.specs.declared.faults.MetaFault.TheVariants.{NoIndex}
use Rattle.ccr_meta.specs.declared.index_meta.IndexMeta.{IndexMeta}
use Rattle.ccr_meta.specs.declared.index_meta.Phases.{Phases}
use Rattle.ccr_meta.specs.Names.{Names, index_at}
use Rattle.ccr_meta.specs.Guards.{first_refusal}
use Rattle.ccr_meta.specs.NameGuards.{find_guards}
use Rattle.ccr_model.specs.Settling.{FollowerNote, Note}
use Rattle.ccr_deeds.specs.declared.deeds.Deed.{Deed}
use Rattle.ccr_deeds.specs.declared.deeds.Deed.TheVariants.{Happens}
use Rattle.ccr_answers.specs.declared.forms.Answer.{Answer}
use Rattle.ccr_answers.specs.declared.forms.Answer.TheVariants as answer
use Rattle.ccr_plans.specs.Planned.{Planned}

-- ---- forms

abbrev pub does : List Deed → Answer → Planned
does deeds told = record { made = []; deeds = deeds; answer = told }

abbrev pub refused : MetaFault → Planned
refused fault = does [] (answer.Refused fault)

-- the first refusal whose condition holds, and else the plan
abbrev pub first_refused : List (Bool × MetaFault) → Planned → Planned
first_refused guards plan = option_map_or refused (first_refusal guards) plan

-- the plan for an index, which has to be there
abbrev pub with_index : Names → IndexName → (IndexMeta → Planned) → Planned
with_index names index plan = first_refused (find_guards names index) (option_map_or plan (index_at names index) (refused NoIndex))

-- ---- the shards of an index

-- the number of a follower in its worlds
abbrev pub number_of : IndexMeta → ℕ
number_of x = unwrap_or x.follower 0

-- the side of the index in its worlds
abbrev pub side_of : IndexMeta → Side
side_of x = option_map_or side.Follower x.follower side.Leader

-- an event in the world of a shard, whose reply is told
abbrev pub on_shard : ℕ → Event → IndexMeta → Planned
on_shard shard event x = does (Happens (x.first + shard) event ∷ []) (answer.Told shard)

-- the same event in each of so many worlds, from this number on
abbrev pub in_worlds : Event → ℕ → ℕ → List Deed
in_worlds event world zero = []
in_worlds event world (suc n) = Happens world event ∷ in_worlds event (world + 1) n

-- an event in the world of each shard
abbrev pub in_shards : Event → IndexMeta → List Deed
in_shards event x = in_worlds event x.first x.shards

-- these events in worlds that follow one another, from this number on
abbrev pub in_turn : ℕ → List Event → List Deed
in_turn world [] = []
in_turn world (event ∷ events) = Happens world event ∷ in_turn (world + 1) events

-- ---- what was read of the shards

abbrev pub is_bootstrap : Phase → Bool
is_bootstrap phase.Leasing = true
is_bootstrap phase.Opening = true
is_bootstrap phase.Fetching = true
is_bootstrap _ = false

abbrev pub is_active : Phase → Bool
is_active phase.Active = true
is_active _ = false

abbrev pub is_paused : Phase → Bool
is_paused phase.Paused = true
is_paused _ = false

-- what is read says that the follower was made, and is in such a phase
abbrev pub has_phase : (Phase → Bool) → Note → Bool
has_phase test note = option_map_or (λ (f : FollowerNote). test f.phase) note.follower false

-- whether a shard of the follower is in its bootstrap, one is active, and one is paused
abbrev pub phases_in : List Note → Phases
phases_in notes = record {
  bootstrapping = list_any (has_phase is_bootstrap) notes;
  active = list_any (has_phase is_active) notes;
  paused = list_any (has_phase is_paused) notes;
}

-- the epoch that the follower keeps
abbrev pub epoch_of : Note → ℕ
epoch_of note = option_map_or (λ (f : FollowerNote). f.epoch) note.follower 0

-- the epoch that it keeps in a shard
abbrev pub epoch_in : List Note → ℕ → ℕ
epoch_in notes shard = option_map_or epoch_of (slice_get notes shard) 0

-- the leader's primary in a shard
abbrev pub primary_in : List Note → ℕ → ℕ
primary_in notes shard = option_map_or (λ (note : Note). note.primary) (slice_get notes shard) 0

-- the primary of a side
abbrev pub primary_of : Side → Note → ℕ
primary_of side.Leader note = note.primary
primary_of (side.Follower number) note = option_map_or (λ (f : FollowerNote). f.primary) note.follower 0
