-- A claim on what a journal tells holds at every place where it holds at the start and each event keeps it.
use Rattle.std.specs.List.{AllByRecursion}
use Rattle.std.proofs.Common.{◌≡◌, ℕ, ◌+◌, ◌<◌, ◌^◌, List, [], ◌∷◌, ◌++◌, length, refl, sym, subst, arith}
use Rattle.std.proofs.lemmas.List.{length-append}
use Rattle.ccr_journal.specs.declared.events.Event.{Event}
use Rattle.ccr_journal.specs.declared.journals.Entry.{Entry}
use Rattle.ccr_journal.specs.declared.replies.Reply.{Reply}
use Rattle.ccr_model.specs.Fit.{IsFitEvent, AreFit}
use Rattle.ccr_model.specs.Leaders.{Start}
use Rattle.ccr_model.specs.World.{State, start_state}
use Rattle.ccr_model.specs.Step.{step, picks_in, outcome_at, state_after, IsLegal}
use Rattle.ccr_model.specs.Past.{Past, start_past, past_with, past_after, past_of}
use Rattle.ccr_law_base.specs.Events.{past_by, IsLegalAt}
use Rattle.ccr_law_base.proofs.Lists.{All-append}

-- what holds after an event with the reply that it gets holds after its legal entry
pub after_legal : (G : Past → Type 0) (p : Past) (entry : Entry) → IsLegalAt p entry → G (past_by p entry.event (picks_in entry.reply)) → G (past_after p entry)
after_legal G p entry legal now =
    let by_reply : Reply → Type 0 = λ (reply : Reply). G (past_with p (record { event = entry.event; reply = reply }) (step p.state entry.event (picks_in entry.reply))) in
    subst by_reply (sym legal) now

-- what each event keeps, each legal entry keeps
pub by_events : (G : Past → Type 0) → ((p : Past) (event : Event) (picks : List ℕ) → G p → G (past_by p event picks))
    → (p : Past) (entry : Entry) → IsLegalAt p entry → G p → G (past_after p entry)
by_events G keeps p entry legal now = after_legal G p entry legal (keeps p entry.event (picks_in entry.reply) now)

-- what each legal entry keeps holds after a legal journal
pub by_entries : (G : Past → Type 0) → ((p : Past) (entry : Entry) → IsLegalAt p entry → G p → G (past_after p entry))
    → (p : Past) (entries : List Entry) → IsLegal p.state entries → G p → G (past_of p entries)
by_entries G keeps p [] legal now = now
by_entries G keeps p (entry ∷ entries) legal now = by_entries G keeps (past_after p entry) entries legal.1 (keeps p entry legal.0 now)

-- what each fit event keeps holds after a legal journal of fit events
pub by_fit_entries : (G : Past → Type 0) → ((p : Past) (event : Event) (picks : List ℕ) → IsFitEvent event → G p → G (past_by p event picks))
    → (p : Past) (entries : List Entry) → AllByRecursion (λ (entry : Entry). IsFitEvent entry.event) entries → IsLegal p.state entries → G p → G (past_of p entries)
by_fit_entries G keeps p [] fit legal now = now
by_fit_entries G keeps p (entry ∷ entries) fit legal now =
    by_fit_entries G keeps (past_after p entry) entries fit.1 legal.1 (after_legal G p entry legal.0 (keeps p entry.event (picks_in entry.reply) fit.0 now))

-- ---- what stands behind a journal, and journals with more entries

pub state-is : (p : Past) (entries : List Entry) → (past_of p entries).state ≡ state_after p.state entries
state-is p [] = refl
state-is p (entry ∷ entries) = state-is (past_after p entry) entries

-- the state behind a journal is the one that its past tells
pub state-of : (start : Start) (entries : List Entry) → (past_of (start_past start) entries).state ≡ state_after (start_state start) entries
state-of start entries = state-is (start_past start) entries

pub past-append : (p : Past) (front entries : List Entry) → past_of p (front ++ entries) ≡ past_of (past_of p front) entries
past-append p [] entries = refl
past-append p (entry ∷ front) entries = past-append (past_after p entry) front entries

pub after-append : (s : State) (front entries : List Entry) → state_after s (front ++ entries) ≡ state_after (state_after s front) entries
after-append s [] entries = refl
after-append s (entry ∷ front) entries = after-append (outcome_at s entry).next front entries

-- a journal is legal where its front is, and the rest is behind that
pub legal-append : (s : State) (front entries : List Entry) → IsLegal s front → IsLegal (state_after s front) entries → IsLegal s (front ++ entries)
legal-append s [] entries legal rest = rest
legal-append s (entry ∷ front) entries legal rest = (legal.0, legal-append (outcome_at s entry).next front entries legal.1 rest)

pub legal-front : (s : State) (front entries : List Entry) → IsLegal s (front ++ entries) → IsLegal s front
legal-front s [] entries legal = tt
legal-front s (entry ∷ front) entries legal = (legal.0, legal-front (outcome_at s entry).next front entries legal.1)

pub legal-rest : (s : State) (front entries : List Entry) → IsLegal s (front ++ entries) → IsLegal (state_after s front) entries
legal-rest s [] entries legal = legal
legal-rest s (entry ∷ front) entries legal = legal-rest (outcome_at s entry).next front entries legal.1

-- one more entry, with the reply that its event gets
pub legal-push : (s : State) (entries : List Entry) (entry : Entry) → IsLegal s entries → entry.reply ≡ (outcome_at (state_after s entries) entry).reply → IsLegal s (entries ++ entry ∷ [])
legal-push s entries entry legal reply = legal-append s entries (entry ∷ []) legal (reply, tt)

pub fit-push : (entries : List Entry) (entry : Entry) → AllByRecursion (λ (entry : Entry). IsFitEvent entry.event) entries → IsFitEvent entry.event → length entries + 1 < 2 ^ 32
    → AreFit (entries ++ entry ∷ [])
fit-push entries entry events event few =
    let more : length (entries ++ entry ∷ []) ≡ length entries + length (entry ∷ []) = length-append entries (entry ∷ []) in
    record { events = All-append (λ (entry : Entry). IsFitEvent entry.event) entries (entry ∷ []) events (event, tt); few = omega arith }
