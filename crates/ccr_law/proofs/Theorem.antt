-- The theorem, over every fit and legal journal.
use Rattle.std.proofs.Common.{◌+◌, ◌^◌, ◌<◌, List, [], ◌∷◌, ◌++◌, length, arith}
use Rattle.ccr_journal.specs.declared.journals.Entry.{Entry}
use Rattle.ccr_model.specs.Step.{picks_in, IsLegal}
use Rattle.ccr_model.specs.Past.{Past, start_past, past_after, past_of}
use Rattle.ccr_model.specs.Headline.{StaysCommitted, Headline, HeadlineHolds, CommittedPrefix}
use Rattle.ccr_law_base.proofs.Journals.{after_legal}
use Rattle.ccr_law_copies.specs.Cores.{HasOnward}
use Rattle.ccr_law_copies.proofs.Onward.{onward-self, onward-on, stays-committed}
use Rattle.ccr_law.specs.Journals.{AlwaysHolds}
use Rattle.ccr_law.specs.Parts.{IsWhole}
use Rattle.ccr_law.proofs.Walks.{AreFitEvents, kept_after, each_place}
use Rattle.ccr_law.proofs.Leading.{leading-onward}
use Rattle.ccr_law.proofs.Whole.{whole-start, whole-keeps, whole-holds, whole-tells}

-- what follows from all groups at a place holds at every place
pub always : (P : Past → Type 0) → ((p : Past) → p.place < 2 ^ 32 → IsWhole p → P p) → AlwaysHolds P
always P says start count entries fit legal =
    each_place IsWhole P whole-keeps says (start_past start) entries fit.events (let few : length entries < 2 ^ 32 = fit.few in omega arith) legal (whole-start start count)

pub headline_from : (p : Past) (entries : List Entry) → AreFitEvents entries → p.place + length entries < 2 ^ 32 → IsLegal p.state entries → IsWhole p → Headline p entries
headline_from p [] fit short legal now = whole-holds p now
headline_from p (entry ∷ entries) fit short legal now = (
  whole-holds p now,
  whole-tells p entry fit.0 legal.0 (omega arith) now,
  headline_from (past_after p entry) entries fit.1 (omega arith) legal.1 (kept_after IsWhole whole-keeps p entry fit.0 legal.0 (omega arith) now),
)

pub headline_holds : HeadlineHolds
headline_holds start count entries fit legal =
    headline_from (start_past start) entries fit.events (let few : length entries < 2 ^ 32 = fit.few in omega arith) legal (whole-start start count)

-- ---- any two places

onward_to : (p : Past) (entries : List Entry) → AreFitEvents entries → p.place + length entries < 2 ^ 32 → IsLegal p.state entries → IsWhole p → HasOnward p (past_of p entries)
onward_to p [] fit short legal now = onward-self p
onward_to p (entry ∷ entries) fit short legal now =
    onward-on p (past_after p entry) (past_of (past_after p entry) entries)
    (after_legal (HasOnward p) p entry legal.0 (leading-onward p entry.event (picks_in entry.reply) (omega arith) now.leading))
    (onward_to (past_after p entry) entries fit.1 (omega arith) legal.1 (kept_after IsWhole whole-keeps p entry fit.0 legal.0 (omega arith) now))

prefix_from : (p : Past) (front entries : List Entry) → AreFitEvents (front ++ entries) → p.place + length (front ++ entries) < 2 ^ 32 → IsLegal p.state (front ++ entries) → IsWhole p
    → StaysCommitted (past_of p front) (past_of p (front ++ entries))
prefix_from p [] entries fit short legal now = stays-committed p (past_of p entries) (onward_to p entries fit short legal now)
prefix_from p (entry ∷ front) entries fit short legal now =
    prefix_from (past_after p entry) front entries fit.1 (omega arith) legal.1 (kept_after IsWhole whole-keeps p entry fit.0 legal.0 (omega arith) now)

pub committed_prefix : CommittedPrefix
committed_prefix start count front entries fit legal =
    prefix_from (start_past start) front entries fit.events (let few : length (front ++ entries) < 2 ^ 32 = fit.few in omega arith) legal (whole-start start count)
