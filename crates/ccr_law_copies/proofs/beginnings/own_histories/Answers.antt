use Rattle.ccr_law_copies.proofs.HistoriesApart.{uuids_apart}
use Rattle.ccr_law_copies.proofs.HistorySays.{histories_onward, onward_at}
use Rattle.ccr_law_copies.proofs.beginnings.own_histories.Goals as goal

pub returns : goal.returns
returns c = record { apart = uuids_apart; onward = histories_onward; places = onward_at }
