-- What a message comes to.
use Rattle.std.specs.Prelude.{ℕ, List, if◌then◌else◌, Option, Some, None}
use Rattle.ccr_wire.specs.Message.{Frame}
use Rattle.ccr_wire.specs.declared.content.Content.{Content}
use Rattle.ccr_journal.specs.declared.replies.Heard.{Heard}
use Rattle.ccr_journal.specs.declared.replies.Heard.TheVariants.{Done, Ignored, StoppedHistory}
use Rattle.ccr_model.specs.Requests.{Sending, quiet}
use Rattle.ccr_model.specs.Restores.{Restore, leasing, opening, fetching, ask_sent, hear_asked, ends_restore, opens_other, restore_hears, hear_opening}

-- what the message did, the bootstrap after it, and what is sent
pub record Answer : Type 0 where
  pub heard : Heard
  pub next : Restore
  pub sent : List Frame

abbrev pub answer : Heard → Sending Restore → Answer
answer heard done = record { heard = heard; next = done.next; sent = done.sent }

-- a message that was taken, or one that answers nothing
abbrev pub taken : Restore → Option (Sending Restore) → Answer
taken s None = answer Ignored (quiet s)
taken s (Some done) = answer Done done

-- a session of another history ends the bootstrap, which stays as it is
abbrev pub hears : Restore → ℕ → Frame → Answer
hears s now m = if ends_restore s m then answer StoppedHistory (quiet s) else taken s (restore_hears s now m)

-- an answer to the request for a session
abbrev pub opening_hears : Restore → ℕ → ℕ → Content → Answer
opening_hears s now request content =
    if opens_other s.history content then answer StoppedHistory (quiet s) else taken s (hear_opening s now request content)

-- an answer to the request for a part of a file
abbrev pub fetching_hears : Restore → ℕ → Content → Answer
fetching_hears s request content = elim s.stage as (λ _. Answer) [
  | leasing a ↦ answer Ignored (quiet s)
  | opening a ↦ answer Ignored (quiet s)
  | fetching f ↦ taken s (hear_asked s f content (ask_sent f request))
]
