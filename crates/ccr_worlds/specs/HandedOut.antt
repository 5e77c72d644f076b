-- What is known of a journal that is handed out.
use Rattle.std.specs.Prelude.{◌≡◌, List, ◌++◌}
use Rattle.ccr_journal.specs.declared.journals.Entry.{Entry}
use Rattle.ccr_model.specs.Past.{start_past, past_of}
use Rattle.ccr_model.specs.Headline.{Headline, StaysCommitted}
use Rattle.ccr_law_reached.specs.Reached.{IsPossible}
use Rattle.ccr_deeds.specs.Logs.{Log}

-- what was committed of each history at a place of the journal is committed at its end
abbrev pub KeepsPrefixes : Log → Type 0
KeepsPrefixes log = (front back : List Entry) → log.entries ≡ front ++ back → StaysCommitted (past_of (start_past log.start) front) (past_of (start_past log.start) log.entries)

-- the journal could have come about from its start, the theorem on journals holds of it, and what was committed stays committed
pub record IsHandedOut (log : Log) : Type 0 where
  pub possible : IsPossible log.start log.entries
  pub headline : Headline (start_past log.start) log.entries
  pub prefix : KeepsPrefixes log
