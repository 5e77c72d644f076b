-- Settling, over every fit and legal journal.
use Rattle.std.proofs.Common.{◌<◌, ◌^◌, length, arith}
use Rattle.ccr_model.specs.Past.{Past, start_past}
use Rattle.ccr_law.specs.Journals.{AlwaysHolds}
use Rattle.ccr_law.proofs.Walks.{each_place}
use Rattle.ccr_law_settling.specs.Settles.{IsFull}
use Rattle.ccr_law_settling.proofs.Joined.Events.{full-start, full-keeps}

-- what follows at a place holds at every place
pub always : (P : Past → Type 0) → ((p : Past) → IsFull p → P p) → AlwaysHolds P
always P says start count entries fit legal =
    each_place IsFull P full-keeps (λ p short now. says p now) (start_past start) entries fit.events (let few : length entries < 2 ^ 32 = fit.few in omega arith) legal (full-start start count)
