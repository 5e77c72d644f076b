-- What searches answer while a shard world is as a settle left it.
use Rattle.std.specs.Prelude.{◌≡◌, ℕ, Bool, true, false, List, [], ◌∷◌, ◌++◌, length, slice_get, Option, Some, None, IfSome}
use Rattle.ccr_op.specs.Operation.{Operation}
use Rattle.ccr_query.specs.Answers.{HitsOfShard}
use Rattle.ccr_query.specs.Queries.{Tree}
use Rattle.ccr_query.specs.declared.sorting.SortKey.{SortKey}
use Rattle.ccr_journal.specs.declared.sides.Side.TheVariants as sides
use Rattle.ccr_journal.specs.declared.sides.Phase.TheVariants as phases
use Rattle.ccr_journal.specs.declared.events.Event.{Event}
use Rattle.ccr_journal.specs.declared.events.Event.TheVariants as events
use Rattle.ccr_journal.specs.declared.journals.Entry.{Entry}
use Rattle.ccr_journal.specs.declared.replies.Reply.{Reply}
use Rattle.ccr_journal.specs.declared.replies.Reply.TheVariants as replies
use Rattle.ccr_model.specs.Answers.{IsIn, IsAnswer}
use Rattle.ccr_journal.specs.declared.replies.Refusal.TheVariants.{NoCopy}
use Rattle.ccr_model.specs.Copies.{Copy, copy_of}
use Rattle.ccr_model.specs.Leaders.{Start}
use Rattle.ccr_model.specs.Followers.{phase_of_work}
use Rattle.ccr_model.specs.World.{State, start_state}
use Rattle.ccr_model.specs.Step.{state_after}
use Rattle.ccr_law_reached.specs.Reached.{told_by}
use Rattle.ccr_law_settled.specs.ScriptLine.{script_line}

-- a search answers by the greatest number per document over all of these operations: it counts them all, and tells of no gap
pub record AnswersAll (ops : List Operation) (query : Tree) (keys : List SortKey) (answer : HitsOfShard) : Type 0 where
  pub count : answer.count ≡ length ops
  pub gap : answer.gap ≡ false
  pub over : IsAnswer (IsIn ops) query keys answer

-- a search of the copy of a number: it answers so where the copy is there, and is refused for want of the copy where it isn't
abbrev pub AnswersAt : List Operation → Tree → List SortKey → ℕ → Option Copy → Reply → Type 0
AnswersAt ops query keys copy None reply = reply ≡ replies.Refused (NoCopy copy)
AnswersAt ops query keys copy (Some c) reply = (answer : HitsOfShard) × (reply ≡ replies.Found answer) × AnswersAll ops query keys answer

-- so are a search of the leader, and one of a follower whose task is active; of a follower in another phase nothing is said
abbrev pub AnswersWhole : State → List Operation → Event → Reply → Type 0
AnswersWhole s ops (events.Search sides.Leader copy request) reply = AnswersAt ops request.query request.sort copy (copy_of s.leader.copies copy) reply
AnswersWhole s ops (events.Search (sides.Follower f) copy request) reply =
    IfSome (slice_get s.followers f) (λ own. phase_of_work own.work ≡ phases.Active → AnswersAt ops request.query request.sort copy (copy_of own.copies copy) reply)
AnswersWhole s ops _ reply = Unit {0}

-- a settle that was answered so settles the world, searches leave it settled, and nothing is said of it after another entry
abbrev pub stays_settled : Bool → Event → Reply → Bool
stays_settled settled events.Settle replies.Settled = true
stays_settled settled (events.Search side copy request) reply = settled
stays_settled settled _ _ = false

-- after these entries
abbrev pub ends_settled : Bool → List Entry → Bool
ends_settled settled [] = settled
ends_settled settled (entry ∷ entries) = ends_settled (stays_settled settled entry.event entry.reply) entries

-- each search after a settle, where only searches stand between, answers over the whole line that the script makes
abbrev pub AnswersWhenSettled : Start → List Entry → Type 0
AnswersWhenSettled start entries =
    (front back : List Entry) (entry : Entry) → entries ≡ front ++ entry ∷ back → ends_settled false front ≡ true
    → AnswersWhole (state_after (start_state start) front) (script_line start front) entry.event entry.reply

-- the line of the leader's history is the one that the script makes
abbrev pub LineIsOfScript : Start → List Entry → Type 0
LineIsOfScript start entries = (told_by start entries).line.ops ≡ script_line start entries
