-- An event of one side is the model's step.
use Rattle.std.proofs.Common.{◌≡◌, ℕ, Bool, List, refl}
use Rattle.ccr_journal.specs.declared.params.ParamValues.{ParamValues}
use Rattle.ccr_journal.specs.declared.requests.SearchRequest.{SearchRequest}
use Rattle.ccr_journal.specs.declared.sides.Side.{Side}
use Rattle.ccr_journal.specs.declared.events.Event.{Event}
use Rattle.ccr_journal.specs.declared.events.Event.TheVariants as events
use Rattle.ccr_model.specs.Outcomes.{Outcome}
use Rattle.ccr_model.specs.World.{State}
use Rattle.ccr_model.specs.Step.{on_side, step}
use Rattle.ccr_shard.specs.Sides.{side_of, leader_part, follower_part}

-- what an event comes to on the side that it is of
abbrev pub sided : State → Event → List ℕ → Outcome State
sided s event picks = on_side s (side_of event) (leader_part event picks) (follower_part event picks)

-- an event that is of one side comes to what the model says
pub is_sided : (s : State) (event : Event) (picks : List ℕ) → ((at copy : ℕ) (keep : Bool) → event ≡ events.Deliver at copy keep → ⊥) → ((at : ℕ) → event ≡ events.Drop at → ⊥)
    → ((f at : ℕ) → event ≡ events.Wake f at → ⊥) → ((params : ParamValues) (copies : ℕ) (name : List ℕ) → event ≡ events.Follow params copies name → ⊥)
    → ((side : Side) (copy : ℕ) (request : SearchRequest) → event ≡ events.Search side copy request → ⊥) → (event ≡ events.Settle → ⊥) → sided s event picks ≡ step s event picks
is_sided s (events.Write request) picks a b d e g h = refl
is_sided s (events.Replicate side copy seq) picks a b d e g h = refl
is_sided s (events.Ack side copy) picks a b d e g h = refl
is_sided s (events.Sync side copy) picks a b d e g h = refl
is_sided s (events.Promote side copy) picks a b d e g h = refl
is_sided s (events.ForcePromote copy) picks a b d e g h = refl
is_sided s (events.Resync copy) picks a b d e g h = refl
is_sided s (events.FailCopy side copy) picks a b d e g h = refl
is_sided s (events.AddCopy side) picks a b d e g h = refl
is_sided s (events.Flush side copy) picks a b d e g h = refl
is_sided s (events.Merge side copy) picks a b d e g h = refl
is_sided s (events.Clock side now) picks a b d e g h = refl
is_sided s events.Expire picks a b d e g h = refl
is_sided s events.CloseSessions picks a b d e g h = refl
is_sided s (events.Tick f) picks a b d e g h = refl
is_sided s (events.Deliver at copy keep) picks a b d e g h = absurd (a at copy keep refl)
is_sided s (events.Drop at) picks a b d e g h = absurd (b at refl)
is_sided s (events.Wake f at) picks a b d e g h = absurd (d f at refl)
is_sided s (events.Lose f at) picks a b d e g h = refl
is_sided s (events.LoseWrite f write) picks a b d e g h = refl
is_sided s (events.Take f write) picks a b d e g h = refl
is_sided s (events.Apply f epoch write batch) picks a b d e g h = refl
is_sided s (events.Written f write) picks a b d e g h = refl
is_sided s (events.Renew f) picks a b d e g h = refl
is_sided s (events.Follow params copies name) picks a b d e g h = absurd (e params copies name refl)
is_sided s (events.Pause f) picks a b d e g h = refl
is_sided s (events.Resume f) picks a b d e g h = refl
is_sided s (events.Restart f) picks a b d e g h = refl
is_sided s (events.Unfollow f) picks a b d e g h = refl
is_sided s (events.Search side copy request) picks a b d e g h = absurd (g side copy request refl)
is_sided s (events.Status side) picks a b d e g h = refl
is_sided s events.Settle picks a b d e g h = absurd (h refl)
