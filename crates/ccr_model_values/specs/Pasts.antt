-- What the past of a journal tells over a forced promotion.
use Rattle.std.specs.Prelude.{◌≡◌, ℕ, ◌&&◌, ◌||◌, ◌==◌, if◌then◌else◌, List, [], ◌∷◌, Option, Some, None}
use Rattle.ccr_op.specs.Operation.{Operation}
use Rattle.ccr_journal.specs.declared.events.Event.{Event}
use Rattle.ccr_journal.specs.declared.events.Event.TheVariants as events
use Rattle.ccr_journal.specs.declared.replies.Reply.{Reply}
use Rattle.ccr_journal.specs.declared.replies.Reply.TheVariants as replies
use Rattle.ccr_model.specs.Leaders.{Leader}
use Rattle.ccr_model.specs.LeaseHistory.{LeaseNote, renewed, removed}
use Rattle.ccr_model.specs.Past.{Line, Past, start_past, line_of, given_after, line_after, cut_after, ended_after, notes_kept, notes_left}
use Rattle.ccr_model_values.specs.Words.{op, op_of_term, gapped, below, copy, shard, leader}

abbrev pub line : List Operation → ℕ → Line
line ops cut = record { ops = ops; cut = cut }

-- a leader with a stale copy 4, which has processed 0 and 2
abbrev pub before : Leader
before = record (leader (shard (copy 6 (below 3) [] 1 0 0 []) [])) { stale = copy 4 (gapped 1 (2 ∷ [])) (op 0 ∷ op 2 ∷ []) 1 0 0 [] ∷ [] }

-- the copy 4 was given just these
abbrev pub given : ℕ → ℕ → Option Operation
given own n = if (own == 4) && ((n == 0) || (n == 2)) then Some (op n) else None

abbrev pub removal : LeaseNote
removal = record { id = 97 ∷ []; place = 3; deed = removed }

abbrev pub renewal : LeaseNote
renewal = record { id = 97 ∷ []; place = 2; deed = renewed 1 }

abbrev pub past : Past
past = record (start_past before.start) {
  state = record { leader = before; followers = []; flight = [] };
  line = line (op 0 ∷ op 1 ∷ op 2 ∷ []) 1;
  ended = λ history. line (op_of_term 2 0 ∷ []) 1;
  given = given;
  notes = removal ∷ [];
  earlier = renewal ∷ [];
}

abbrev pub forced : Event
forced = events.ForcePromote 4

abbrev pub told : Reply
told = replies.Forced 4 1

abbrev pub given_now : ℕ → ℕ → Option Operation
given_now = given_after before given forced told

-- the copy is given a no-op of the new term for the number that it lacks, and nothing more; the new history has what it was given, and all of it
-- is committed
pub record Begin : Type 0 where
  pub first : given_now 4 0 ≡ Some (op 0)
  pub plugged : given_now 4 1 ≡ Some (op_of_term 4 1)
  pub last : given_now 4 2 ≡ Some (op 2)
  pub beyond : given_now 4 3 ≡ None
  pub ops : line_after before past.line given_now forced told ≡ op 0 ∷ op_of_term 4 1 ∷ op 2 ∷ []
  pub cut : cut_after past.line (op 0 ∷ op_of_term 4 1 ∷ op 2 ∷ []) forced told ≡ 3
  pub cut_else : cut_after past.line (op 0 ∷ op 1 ∷ op 2 ∷ []) (events.ForcePromote 4) replies.Done ≡ 1

-- the leader's own history has its line, and another has the line with which it ended; the history that ends now has the line that it had
pub record HaveLines : Type 0 where
  pub own : line_of past (8 ∷ []) ≡ line (op 0 ∷ op 1 ∷ op 2 ∷ []) 1
  pub other : line_of past (7 ∷ []) ≡ line (op_of_term 2 0 ∷ []) 1
  pub ends : ended_after past forced told (8 ∷ []) ≡ line (op 0 ∷ op 1 ∷ op 2 ∷ []) 1
  pub ended_before : ended_after past forced told (7 ∷ []) ≡ line (op_of_term 2 0 ∷ []) 1
  pub goes_on : ended_after past forced replies.Done (8 ∷ []) ≡ line (op_of_term 2 0 ∷ []) 1

-- the notes of the history that ends are earlier ones from then on, before those from still earlier
pub record AreNoted : Type 0 where
  pub notes : notes_kept past.notes forced told ≡ []
  pub earlier_notes : notes_left past.notes past.earlier forced told ≡ removal ∷ renewal ∷ []
  pub notes_else : notes_kept past.notes forced replies.Done ≡ removal ∷ []
  pub earlier_else : notes_left past.notes past.earlier forced replies.Done ≡ renewal ∷ []
