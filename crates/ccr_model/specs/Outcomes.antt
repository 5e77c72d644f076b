-- What an event comes to on one side of a world: its reply, the side after it, and the messages that are sent.
use Rattle.std.specs.Prelude.{Bool, if◌then◌else◌, List, [], ◌∷◌}
use Rattle.ccr_wire.specs.Message.{Frame}
use Rattle.ccr_journal.specs.declared.replies.Reply.{Reply}
use Rattle.ccr_journal.specs.declared.replies.Reply.TheVariants.{Refused}
use Rattle.ccr_journal.specs.declared.replies.Refusal.{Refusal}

pub record Outcome (S : Type 0) : Type 0 where
  pub reply : Reply
  pub next : S
  pub sent : List Frame

-- a refused event changes nothing
abbrev pub refused : {S : Type 0} → S → Refusal → Outcome S
refused s why = record { reply = Refused why; next = s; sent = [] }

-- an event that is answered so and sends nothing
abbrev pub answered : {S : Type 0} → Reply → S → Outcome S
answered reply next = record { reply = reply; next = next; sent = [] }

-- the first refusal whose condition holds, and else the effect
unfoldable pub guarded : {S : Type 0} → S → List (Bool × Refusal) → Outcome S → Outcome S
guarded s [] effect = effect
guarded s (guard ∷ guards) effect = if guard.0 then refused s guard.1 else guarded s guards effect

-- the outcome for a part, as one for the whole that the part is put into
abbrev pub within : {S T : Type 0} → (T → S) → Outcome T → Outcome S
within put o = record { reply = o.reply; next = put o.next; sent = o.sent }
