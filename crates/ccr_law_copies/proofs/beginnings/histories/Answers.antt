use Rattle.ccr_law_copies.proofs.HistoryEvents.{histories_start, histories_keep}
use Rattle.ccr_law_copies.proofs.HistorySays.{histories_at}
use Rattle.ccr_law_copies.proofs.beginnings.histories.Goals as goal

pub returns : goal.returns
returns c = record { start = histories_start; keep = histories_keep; places = histories_at }
