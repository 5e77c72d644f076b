-- Claims by cases: of a test, of a list of refusals, of what a read is answered, of what a follower is at.
use Rattle.std.specs.List.{AllByRecursion}
use Rattle.std.proofs.Common.{◌≡◌, Bool, true, false, not, nat_lt, if◌then◌else◌, Some, List, [], ◌∷◌, refl, ◌∙◌, ap}
use Rattle.ccr_journal.specs.declared.replies.Heard.{Heard as Hearing}
use Rattle.ccr_journal.specs.declared.replies.Refusal.{Refusal}
use Rattle.ccr_model.specs.Outcomes.{Outcome, refused, guarded}
use Rattle.ccr_wire.specs.Message.{Frame}
use Rattle.ccr_model.specs.Copies.{Copy}
use Rattle.ccr_model.specs.Leaders.{Leader, Poll}
use Rattle.ccr_model.specs.LeaderFrames.{hears, answer_read}
use Rattle.ccr_model.specs.Tasks.{Task}
use Rattle.ccr_model.specs.Followers.{Follower, Work, restoring, replicating}
use Rattle.ccr_model.specs.FollowerRows.{task_of}
use Rattle.std.specs.Str.{bytes_eq}

-- what holds of both values of a choice, each under its test, holds of the choice
pub on_if : {X : Type 0} (P : X → Type 0) (b : Bool) (x y : X) → (b ≡ true → P x) → (b ≡ false → P y) → P (if b then x else y)
on_if P b x y holds fails = (elim b as (λ c. b ≡ c → P (if c then x else y)) [ true ↦ holds | false ↦ fails ]) refl

-- the tests of refusals that don't come
abbrev pub AreFalse : List (Bool × Refusal) → Type 0
AreFalse guards = AllByRecursion (λ (guard : Bool × Refusal). guard.0 ≡ false) guards

-- what holds of each refusal, and of the effect where none comes, holds of the guarded effect
pub on_guards : {S : Type 0} (P : Outcome S → Type 0) (s : S) (guards : List (Bool × Refusal)) (effect : Outcome S)
    → ((why : Refusal) → P (refused s why)) → (AreFalse guards → P effect) → P (guarded s guards effect)
unfolding guarded
on_guards P s [] effect refusing doing = doing tt
on_guards P s (guard ∷ guards) effect refusing doing =
    on_if P guard.0 (refused s guard.1) (guarded s guards effect) (λ is. refusing guard.1)
    (λ isnt. on_guards P s guards effect refusing (λ others. doing (isnt, others)))

-- what holds of each outcome in which the requester hears something holds of a read's answer
pub read_answered : (P : Outcome Leader → Type 0) (l : Leader) (p : Poll) (c : Copy) (next : Leader)
    → ((what : Hearing) (sent : List Frame) → P (hears what next sent)) → P (answer_read l p c next)
read_answered P l p c next heard =
    on_if P (not (bytes_eq p.history l.history)) _ _ (λ other. heard _ _)
    (λ same. on_if P (nat_lt p.from c.floor) _ _ (λ below. heard _ _) (λ above. heard _ _))

pub task_is : (s : Follower) (t : Task) → task_of s.work ≡ Some t → s.work ≡ replicating t
task_is s t =
    (elim s.work as (λ (work : Work). s.work ≡ work → task_of work ≡ Some t → s.work ≡ replicating t) [
      | restoring r ↦ λ is there. absurd (cc)
      | replicating own ↦ λ is there. let same : own ≡ t = cc in is ∙ ap replicating same
    ]) refl
