-- What each fit event keeps holds at every place of a fit and legal journal, with what follows from it.
use Rattle.std.specs.List.{AllByRecursion}
use Rattle.std.proofs.Common.{ℕ, ◌+◌, ◌^◌, ◌<◌, List, [], ◌∷◌, length, arith}
use Rattle.ccr_journal.specs.declared.events.Event.{Event}
use Rattle.ccr_journal.specs.declared.journals.Entry.{Entry}
use Rattle.ccr_model.specs.Fit.{IsFitEvent}
use Rattle.ccr_model.specs.Step.{picks_in, IsLegal}
use Rattle.ccr_model.specs.Past.{Past, past_after}
use Rattle.ccr_law_base.specs.Events.{past_by, IsLegalAt}
use Rattle.ccr_law_base.proofs.Journals.{after_legal}
use Rattle.ccr_law.specs.Journals.{AtEachPlace}

-- each fit event keeps it, at the places that a journal may have
abbrev pub IsKept : (Past → Type 0) → Type 0
IsKept G = (p : Past) (event : Event) (picks : List ℕ) → IsFitEvent event → p.place + 1 < 2 ^ 32 → G p → G (past_by p event picks)

abbrev pub AreFitEvents : List Entry → Type 0
AreFitEvents entries = AllByRecursion (λ (entry : Entry). IsFitEvent entry.event) entries

pub kept_after : (G : Past → Type 0) → IsKept G → (p : Past) (entry : Entry) → IsFitEvent entry.event → IsLegalAt p entry → p.place + 1 < 2 ^ 32 → G p → G (past_after p entry)
kept_after G keeps p entry fit legal short now = after_legal G p entry legal (keeps p entry.event (picks_in entry.reply) fit short now)

pub each_place : (G P : Past → Type 0) → IsKept G → ((p : Past) → p.place < 2 ^ 32 → G p → P p)
    → (p : Past) (entries : List Entry) → AreFitEvents entries → p.place + length entries < 2 ^ 32 → IsLegal p.state entries → G p → AtEachPlace P p entries
each_place G P keeps says p [] fit short legal now = says p (omega arith) now
each_place G P keeps says p (entry ∷ entries) fit short legal now = (
  says p (omega arith) now,
  each_place G P keeps says (past_after p entry) entries fit.1 (omega arith) legal.1 (kept_after G keeps p entry fit.0 legal.0 (omega arith) now),
)
