use Rattle.ccr_law_stores.proofs.Histories.{files-of-primary, history-stays, history-shows, copy-restored}
use Rattle.ccr_law_stores.proofs.Sessions.{session-of-leader, session-holds, session-next}
use Rattle.ccr_law_stores.proofs.holdings.session_files.Goals as goal

pub returns-clause-files : goal.returns-clause-files
returns-clause-files c = files-of-primary

pub returns-clause-stays : goal.returns-clause-stays
returns-clause-stays c = history-stays

pub returns-clause-shows : goal.returns-clause-shows
returns-clause-shows c = history-shows

pub returns-clause-restored : goal.returns-clause-restored
returns-clause-restored c = copy-restored

pub returns-clause-opens : goal.returns-clause-opens
returns-clause-opens c = session-of-leader

pub returns-clause-holds : goal.returns-clause-holds
returns-clause-holds c = session-holds

pub returns-clause-onward : goal.returns-clause-onward
returns-clause-onward c = session-next
