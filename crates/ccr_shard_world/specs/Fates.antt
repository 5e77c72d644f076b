-- What a merge asks its policy.
use Rattle.std.specs.Prelude.{◌≡◌, ℕ, Bool, true, false, List, ◌∷◌, [], Option, Some, None}
use Rattle.std.specs.Option.{option_map, option_and_then}
use Rattle.ccr_policy.specs.declared.PartSize.{PartSize}
use Rattle.ccr_journal.specs.declared.sides.Side.{Side}
use Rattle.ccr_journal.specs.declared.events.Event.{Event}
use Rattle.ccr_journal.specs.declared.events.Event.TheVariants as events
use Rattle.ccr_model.specs.Copies.{Copy, Copies, copy_of}
use Rattle.ccr_model.specs.World.{State}
use Rattle.ccr_model.specs.Settling.{copies_at}
use Rattle.ccr_model.specs.Policies.{sizes_in, picks_of}

-- the sizes of the closed parts of a copy, where there is such a copy
abbrev pub sizes_of_copy : State → Side → ℕ → Option (List PartSize)
sizes_of_copy s side copy =
    option_map {T = Copy} {U = List PartSize} (λ c. sizes_in c.store) (option_and_then (λ (copies : Copies). copy_of copies copy) (copies_at s side))

-- the event is a merge
abbrev pub is_merge : Event → Bool
is_merge (events.Merge side copy) = true
is_merge _ = false

-- where there are sizes, the picks are those of the policy once it has seen them, and it has seen them then; where there are none it stays
-- as it was
abbrev pub Asked : {P : Type 0} → (P → List (List PartSize) → List ℕ) → Option P → Option P → List ℕ → Option (List PartSize) → Type 0
Asked fate old new picks None = (seen : List (List PartSize)) → picks_of fate new seen ≡ picks_of fate old seen
Asked fate old new picks (Some sizes) =
    (picks ≡ picks_of fate old (sizes ∷ [])) × ((seen : List (List PartSize)) → picks_of fate new seen ≡ picks_of fate old (sizes ∷ seen))
