-- What is said of the histories at every place, and that what was committed of each stays.
use Rattle.std.specs.Prelude.{slice_get, Some}
use Rattle.std.proofs.Common.{◌≡◌, ℕ, ◌+◌, ◌≤◌, ◌<◌, ◌^◌, List, [], ◌∷◌, length, arith}
use Rattle.ccr_journal.specs.Params.{IsCopyCount}
use Rattle.ccr_journal.specs.declared.journals.Entry.{Entry}
use Rattle.ccr_model.specs.Leaders.{Start}
use Rattle.ccr_model.specs.Followers.{Follower}
use Rattle.ccr_model.specs.World.{start_state}
use Rattle.ccr_model.specs.Step.{picks_in, IsLegal}
use Rattle.ccr_model.specs.Past.{Past, start_past, past_after, past_of}
use Rattle.ccr_law_base.proofs.Lists.{All-at}
use Rattle.ccr_law_base.proofs.Journals.{after_legal, by_events, by_entries}
use Rattle.ccr_law_copies.specs.Cores.{IsCore, IsNotNext, HasOnward}
use Rattle.ccr_law_copies.proofs.LeaderEvents.{core-start, core-keeps, goes-onward}
use Rattle.ccr_law_copies.specs.Begun.{WasBegun, HasHistories, HistoriesOnward, AllOnward}
use Rattle.ccr_law_copies.proofs.HistoriesApart.{begun_before, later_other}
use Rattle.ccr_law_copies.proofs.HistoryEvents.{histories_start, histories_keep}

pub histories_at : (start : Start) → (entries : List Entry) → IsLegal (start_state start) entries → HasHistories (past_of (start_past start) entries)
histories_at start entries legal = by_entries HasHistories (by_events HasHistories histories_keep) (start_past start) entries legal (histories_start start)

pub histories_onward : HistoriesOnward
histories_onward p event picks short core now =
    let few : p.state.leader.copies.term ≤ p.place + 1 = now.few in
    goes-onward p event picks core
    (later_other p.state.leader.start.history p.state.leader.copies.term p.state.leader.history (p.state.leader.copies.term + 1) now.leader (omega arith) (omega arith))
    (now.later (p.state.leader.copies.term + 1) (omega arith) (omega arith))

-- so for each entry of a journal
onward_from : (p : Past) → IsCore p → HasHistories p → (entries : List Entry) → p.place + length entries < 2 ^ 32 → IsLegal p.state entries → AllOnward p entries
onward_from p core now [] short legal = tt
onward_from p core now (entry ∷ entries) short legal = (
  after_legal (HasOnward p) p entry legal.0 (histories_onward p entry.event (picks_in entry.reply) (omega arith) core now),
  onward_from (past_after p entry) (by_events IsCore core-keeps p entry legal.0 core) (by_events HasHistories histories_keep p entry legal.0 now) entries (omega arith) legal.1,
)

pub onward_at : (start : Start) → IsCopyCount start.copies → (entries : List Entry) → length entries < 2 ^ 32 → IsLegal (start_state start) entries → AllOnward (start_past start) entries
onward_at start count entries short legal = onward_from (start_past start) (core-start start count) (histories_start start) entries (omega arith) legal

-- ---- none of those that are followed, or in which a session was opened, is about to begin

pub leader_not_next : (p : Past) → p.place + 1 < 2 ^ 32 → HasHistories p → IsNotNext p p.state.leader.history
leader_not_next p short now =
    let few : p.state.leader.copies.term ≤ p.place + 1 = now.few in
    begun_before p.state.leader.start.history p.state.leader.copies.term p.state.leader.history (p.state.leader.copies.term + 1) now.leader (omega arith) (omega arith)

pub follower_not_next : (p : Past) → p.place + 1 < 2 ^ 32 → HasHistories p → (f : ℕ) (s : Follower) → slice_get p.state.followers f ≡ Some s → IsNotNext p s.history
follower_not_next p short now f s at =
    let few : p.state.leader.copies.term ≤ p.place + 1 = now.few in
    begun_before p.state.leader.start.history p.state.leader.copies.term s.history (p.state.leader.copies.term + 1)
    (All-at (λ (x : Follower). WasBegun p.state.leader.start.history p.state.leader.copies.term x.history) p.state.followers f s now.followers_begun at) (omega arith) (omega arith)

pub session_not_next : (p : Past) → p.place + 1 < 2 ^ 32 → HasHistories p → (number : ℕ) → IsNotNext p (p.opened_in number)
session_not_next p short now number =
    let few : p.state.leader.copies.term ≤ p.place + 1 = now.few in
    begun_before p.state.leader.start.history p.state.leader.copies.term (p.opened_in number) (p.state.leader.copies.term + 1) (now.sessions number) (omega arith) (omega arith)
