-- At every place of a fit and legal journal the operations can be spelled.
use Rattle.std.proofs.Common.{◌≡◌, ℕ, ◌+◌, ◌^◌, ◌<◌, ◌≤◌, List, [], ◌∷◌, length, ◌∙◌, ap, arith}
use Rattle.ccr_op.specs.Operation.{Operation, HasSpelling}
use Rattle.ccr_tracker.specs.Numbers.{Numbers}
use Rattle.ccr_journal.specs.Params.{IsCopyCount}
use Rattle.ccr_journal.specs.declared.events.Event.{Event}
use Rattle.ccr_journal.specs.declared.journals.Entry.{Entry}
use Rattle.ccr_model.specs.Fit.{IsFitEvent, AreFit}
use Rattle.ccr_model.specs.Leaders.{Start}
use Rattle.ccr_model.specs.LeaderFrames.{new_session}
use Rattle.ccr_model.specs.World.{start_state}
use Rattle.ccr_model.specs.Step.{IsLegal}
use Rattle.ccr_model.specs.Past.{Past, start_past, past_after, past_of}
use Rattle.ccr_law_base.specs.Events.{past_by}
use Rattle.ccr_law_copies.specs.Cores.{IsCore}
use Rattle.ccr_law_copies.proofs.LeaderEvents.{core-start, core-keeps}
use Rattle.ccr_law_stores.specs.TrueStores.{CanBeSpelled, IsTrueSession, HasTrueStores}
use Rattle.ccr_law_stores.specs.Spelled.{IsSmall, HasSmallOps, IsSpelled}
use Rattle.ccr_law_stores.proofs.StoreRows.{IsFit, primary-fit}
use Rattle.ccr_law_stores.proofs.Sessions.{session-of-leader}
use Rattle.ccr_law_stores.proofs.StoreEvents.{stores-start, stores-keeps}
use Rattle.ccr_law_stores.proofs.SmallOperations.{processed-low, line-spelled}
use Rattle.ccr_law_base.proofs.Journals.{by_fit_entries}
use Rattle.ccr_law_stores.proofs.SpelledEvents.{small-keeps}
use Rattle.ccr_law_copies.proofs.Sets.{count_within}

-- ---- what the claims imply

-- the line's operations can be spelled, as long as there are fewer than 2^64 - 1 entries
pub spelled-by : (p : Past) → IsCore p → HasSmallOps p → p.place + 1 < 2 ^ 64 → CanBeSpelled p.line
spelled-by p core ok short =
    line-spelled p.place p.given p.state.leader.copies.term p.state.leader.copies.primary.number p.line p.state.leader.copies.primary.seen p.state.leader.copies.primary.global
    core.rest.primary ok short

-- the line has no more operations than there were entries
pub line-low : (p : Past) → IsCore p → HasSmallOps p → length p.line.ops ≤ p.place
line-low p core ok =
    let s = p.state.leader.copies in
    let fit : IsFit (p.given s.primary.number) s.primary = primary-fit p.line (p.given s.primary.number) s.primary core.rest.primary in
    let count : s.primary.seen.count ≤ p.place = count_within s.primary.seen p.place (processed-low p.place p.given s.term s.primary.number s.primary.seen ok fit.numbered fit.processed) in
    let same : s.primary.seen.count ≡ length p.line.ops = ap (λ (n : Numbers). n.count) core.rest.primary.gapless in
    omega arith

-- no more is known to be committed than there are entries
pub global-low : (p : Past) → IsCore p → HasSmallOps p → p.state.leader.copies.primary.global ≤ p.place
global-low p core ok =
    let known : p.state.leader.copies.primary.global ≤ p.line.cut = core.rest.primary.known in
    let full : p.line.cut ≤ length p.line.ops = core.rest.primary.full in
    let few : length p.line.ops ≤ p.place = line-low p core ok in
    omega arith

pub small-spelled : (place : ℕ) (op : Operation) → place + 1 < 2 ^ 64 → IsSmall place op → HasSpelling op
small-spelled place op short ok = record {
  seq = let lt : op.seq < place = ok.seq in omega arith;
  term = let le : op.term ≤ place + 1 = ok.term in omega arith;
  version = let le : op.version ≤ place = ok.version in omega arith;
  kind = ok.kind;
}

pub spelled-says : (p : Past) → IsCore p → HasSmallOps p → p.place < 2 ^ 32 → IsSpelled p
spelled-says p core ok short = record {
  line = spelled-by p core ok (omega arith);
  given = λ copy n op at. small-spelled p.place op (omega arith) (ok.each copy n op at);
  few = line-low p core ok;
}

-- a session that the primary opens, where there are fewer than 2^32 entries
pub small-session : (p : Past) → IsCore p → HasTrueStores p → HasSmallOps p → p.place < 2 ^ 32 → IsTrueSession p.line (new_session p.state.leader)
small-session p core stores ok short =
    session-of-leader p core stores (spelled-by p core ok (omega arith)) (let low : p.state.leader.copies.primary.global ≤ p.place = global-low p core ok in omega arith)

-- ---- at every place

pub small-start : (start : Start) → HasSmallOps (start_past start)
small-start start = record { each = λ copy n op at. cc; low = omega arith }

-- the claims that go together
pub record AllSmall (p : Past) : Type 0 where
  pub core : IsCore p
  pub stores : HasTrueStores p
  pub small : HasSmallOps p

pub all-keep : (p : Past) (event : Event) (picks : List ℕ) → IsFitEvent event → AllSmall p → AllSmall (past_by p event picks)
all-keep p event picks fits now = record {
  core = core-keeps p event picks now.core;
  stores = stores-keeps p event picks now.core now.stores;
  small = small-keeps p event picks fits now.core now.stores now.small;
}

pub all-start : (start : Start) → IsCopyCount start.copies → AllSmall (start_past start)
all-start start count = record { core = core-start start count; stores = stores-start start; small = small-start start }

-- the place is the number of the entries
pub place-is : (p : Past) (entries : List Entry) → (past_of p entries).place ≡ p.place + length entries
place-is p [] = omega arith
place-is p (entry ∷ entries) =
    let rest : (past_of (past_after p entry) entries).place ≡ p.place + 1 + length entries = place-is (past_after p entry) entries in rest ∙ omega arith

pub all-small : (start : Start) → IsCopyCount start.copies → (entries : List Entry) → AreFit entries → IsLegal (start_state start) entries → AllSmall (past_of (start_past start) entries)
all-small start count entries fit legal = by_fit_entries AllSmall all-keep (start_past start) entries fit.events legal (all-start start count)

pub spelled-at : (start : Start) → IsCopyCount start.copies → (entries : List Entry) → AreFit entries → IsLegal (start_state start) entries → IsSpelled (past_of (start_past start) entries)
spelled-at start count entries fit legal =
    let all : AllSmall (past_of (start_past start) entries) = all-small start count entries fit legal in
    spelled-says (past_of (start_past start) entries) all.core all.small
    (let few : length entries < 2 ^ 32 = fit.few in let same : (past_of (start_past start) entries).place ≡ 0 + length entries = place-is (start_past start) entries in omega arith)
