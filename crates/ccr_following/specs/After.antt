-- What an event comes to, by what it told and the state after it.
use Rattle.ccr_model.specs.Outcomes.{Outcome}
use Rattle.ccr_following.specs.declared.told.Told.{Told}

abbrev pub after : {S : Type 0} → Told → S → Outcome S
after told next = record { reply = told.reply; next = next; sent = told.sent }
