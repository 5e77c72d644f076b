use Rattle.ccr_law_stores.proofs.SpelledSays.{all-small, spelled-at}
use Rattle.ccr_law_stores.proofs.spellings.spelled_operations.Goals as goal

pub returns-clause-small : goal.returns-clause-small
returns-clause-small c start count entries fit legal = (all-small start count entries fit legal).small

pub returns-clause-spelled : goal.returns-clause-spelled
returns-clause-spelled c = spelled-at
