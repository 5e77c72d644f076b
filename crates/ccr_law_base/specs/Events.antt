-- An event with the reply that it gets, and the past after it.
use Rattle.std.specs.Prelude.{◌≡◌, ℕ, List}
use Rattle.ccr_journal.specs.declared.events.Event.{Event}
use Rattle.ccr_journal.specs.declared.journals.Entry.{Entry}
use Rattle.ccr_model.specs.Step.{step, outcome_at}
use Rattle.ccr_model.specs.Past.{Past, past_with}

-- the entry of an event, with the reply that it gets
abbrev pub entry_of : Past → Event → List ℕ → Entry
entry_of p event picks = record { event = event; reply = (step p.state event picks).reply }

-- the past after an event, which matters with these picks
abbrev pub past_by : Past → Event → List ℕ → Past
past_by p event picks = past_with p (entry_of p event picks) (step p.state event picks)

-- the entry's reply is the one that its event gets
abbrev pub IsLegalAt : Past → Entry → Type 0
IsLegalAt p entry = entry.reply ≡ (outcome_at p.state entry).reply
