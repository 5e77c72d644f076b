-- What a settle adds to the journals of the worlds.
use Rattle.std.specs.Prelude.{◌≡◌, ◌⊎◌, List, [], ◌∷◌}
use Rattle.ccr_journal.specs.declared.journals.Entry.{Entry}
use Rattle.ccr_model.specs.World.{State}
use Rattle.ccr_model.specs.Step.{outcome_at}
use Rattle.ccr_model.specs.Settling.{IsSettling, IsSettleRun}
use Rattle.ccr_deeds.specs.Logs.{Log, extended, state_of}

-- each of the entries is one that settling may make at its place
abbrev pub AreSettling : State → List Entry → Type 0
AreSettling s [] = Unit {0}
AreSettling s (entry ∷ entries) = IsSettling s entry.event × AreSettling (outcome_at s entry).next entries

-- the journal went on with a whole settle
pub record IsSettled (before after : Log) : Type 0 where
  pub entries : List Entry
  pub is : after ≡ extended before entries
  pub run : IsSettleRun (state_of before) entries

-- the journal went on with a part of a settle, or with a whole one
pub record MayBeSettled (before after : Log) : Type 0 where
  pub entries : List Entry
  pub is : after ≡ extended before entries
  pub run : AreSettling (state_of before) entries ⊎ IsSettleRun (state_of before) entries

-- of two lists of logs, the same is true of each and its successor
abbrev pub EachWorld : (Log → Log → Type 0) → List Log → List Log → Type 0
EachWorld R [] [] = Unit {0}
EachWorld R [] (log ∷ logs) = ⊥
EachWorld R (log ∷ logs) [] = ⊥
EachWorld R (log ∷ logs) (log' ∷ logs') = R log log' × EachWorld R logs logs'
