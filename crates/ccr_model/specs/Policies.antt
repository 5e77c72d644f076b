-- What a merge policy sees of a copy's closed parts, and the picks that a journal keeps of it.
use Rattle.std.specs.Prelude.{◌≡◌, ℕ, List, [], ◌∷◌, ◌++◌, length, map, Option, Some, None}
use Rattle.std.specs.Option.{option_map_or}
use Rattle.ccr_op.specs.Operation.{Operation}
use Rattle.ccr_segment.specs.Segment.{spelling as segment_of_ops}
use Rattle.ccr_policy.specs.declared.PartSize.{PartSize}
use Rattle.ccr_journal.specs.declared.events.Event.{Event}
use Rattle.ccr_journal.specs.declared.events.Event.TheVariants as events
use Rattle.ccr_journal.specs.declared.journals.Entry.{Entry}
use Rattle.ccr_journal.specs.declared.replies.Reply.{Reply}
use Rattle.ccr_journal.specs.declared.replies.Reply.TheVariants as replies
use Rattle.ccr_model.specs.Stores.{Store}
use Rattle.ccr_model.specs.Copies.{Copy, Copies, copy_of}
use Rattle.ccr_model.specs.World.{State}
use Rattle.ccr_model.specs.Settling.{copies_at}
use Rattle.ccr_model.specs.Step.{outcome_at}

-- how many operations a part has, and how many bytes its segment takes
abbrev pub size_of_part : List Operation → PartSize
size_of_part part = record { ops = length part; bytes = length (segment_of_ops part) }

-- the sizes of the closed parts, in their order
abbrev pub sizes_in : Store → List PartSize
sizes_in s = map {A = List Operation} {B = PartSize} size_of_part s.parts

-- those of the copy of a number, and none where there is no such copy
abbrev pub sizes_at : ℕ → Option Copies → List PartSize
sizes_at copy None = []
sizes_at copy (Some s) = option_map_or (λ (c : Copy). sizes_in c.store) (copy_of s copy) []

-- the lists of sizes that a policy is shown at an event: one, of the copy that is merged, where a merge isn't refused
abbrev pub merged_sizes : State → Event → Reply → List (List PartSize)
merged_sizes s (events.Merge side copy) (replies.Merged floor dropped picks) = sizes_at copy (copies_at s side) ∷ []
merged_sizes s _ _ = []

-- those that it was shown at the entries of a journal, the oldest first
abbrev pub sizes_seen : State → List Entry → List (List PartSize)
sizes_seen s [] = []
sizes_seen s (entry ∷ entries) = merged_sizes s entry.event entry.reply ++ sizes_seen (outcome_at s entry).next entries

-- ---- a policy, told by what it picks once it has seen lists of sizes

-- without a policy nothing is picked
abbrev pub picks_of : {B : Type 0} → (B → List (List PartSize) → List ℕ) → Option B → List (List PartSize) → List ℕ
picks_of fate None seen = []
picks_of fate (Some policy) seen = fate policy seen

-- the picks of a merge are those of the policy once it has seen the copy's sizes
abbrev pub IsPicked : (List (List PartSize) → List ℕ) → State → Event → Reply → Type 0
IsPicked fate s event (replies.Merged floor dropped picks) = picks ≡ fate (merged_sizes s event (replies.Merged floor dropped picks))
IsPicked fate s event _ = Unit {0}

-- an event with its reply shows the policy the sizes of a merge, keeps its picks, and leaves it as it was otherwise
abbrev pub KeepsFate : {B : Type 0} → (B → List (List PartSize) → List ℕ) → Option B → Option B → State → Event → Reply → Type 0
KeepsFate fate old new s event reply =
    IsPicked (picks_of fate old) s event reply
    × ((seen : List (List PartSize)) → picks_of fate new seen ≡ picks_of fate old (merged_sizes s event reply ++ seen))

-- in a journal the picks of each merge are those of the policy once it has seen the sizes of all merges up to it
abbrev pub ArePicked : (List (List PartSize) → List ℕ) → State → List Entry → Type 0
ArePicked fate s [] = Unit {0}
ArePicked fate s (entry ∷ entries) =
    IsPicked fate s entry.event entry.reply
    × ArePicked (λ seen. fate (merged_sizes s entry.event entry.reply ++ seen)) (outcome_at s entry).next entries
