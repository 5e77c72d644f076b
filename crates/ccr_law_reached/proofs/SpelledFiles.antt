-- The files of every session that was opened are segments.
use Rattle.std.specs.Prelude.{filter, nat_le, ◌==◌}
use Rattle.std.specs.List.{AllByRecursion}
use Rattle.std.proofs.Common.{ℕ, ◌≤◌, ◌<◌, ◌^◌, ◌⊎◌, inl, inr, List, length, refl, sym, subst, arith}
use Rattle.ccr_op.specs.Operation.{Operation}
use Rattle.ccr_segment.specs.Segment.{HasSpelling, spelling}
use Rattle.ccr_model.specs.Stores.{files_below}
use Rattle.ccr_model.specs.Leaders.{Start, Leader, Session}
use Rattle.ccr_model.specs.LeaderFrames.{new_session}
use Rattle.ccr_model.specs.Step.{step}
use Rattle.ccr_model.specs.Past.{Past, start_past, opened_after}
use Rattle.ccr_law_base.proofs.Lists.{All-weaker, All-append, All-filter, All-find, All-map, All-push}
use Rattle.ccr_law_stores.specs.TrueStores.{IsTrueHistory}
use Rattle.ccr_law_stores.proofs.Holding.{in_parts}
use Rattle.ccr_law_stores.proofs.Histories.{files-of-primary}
use Rattle.ccr_law_stores.proofs.Sorting.{files-ascend}
use Rattle.ccr_law_stores.proofs.Sessions.{parts-spelled}
use Rattle.ccr_law_stores.proofs.SpelledSays.{spelled-by, global-low}
use Rattle.ccr_law_messages.specs.TrueFrames.{IsOpen}
use Rattle.ccr_law_messages.proofs.Openings.{StaysOpen, OpensOne, SessionsGo}
use Rattle.ccr_law_messages.proofs.LeaderSessions.{sessions-go}
use Rattle.ccr_law.specs.Journals.{AlwaysHolds}
use Rattle.ccr_law.proofs.Walks.{IsKept, each_place}
use Rattle.ccr_law_settling.specs.Settles.{IsFull}
use Rattle.ccr_law_settling.proofs.Joined.Events.{full-start, full-keeps}
use Rattle.ccr_law_reached.specs.Reached.{IsSegment}

-- each file of the session is a segment
abbrev pub HasSegments : Session → Type 0
HasSegments session = AllByRecursion IsSegment session.files

-- what holds at every place
pub record IsFullSpelled (p : Past) : Type 0 where
  pub full : IsFull p
  pub files : AllByRecursion HasSegments p.opened

-- ---- a session that is opened now

spelled_parts : (parts : List (List Operation)) → AllByRecursion HasSpelling parts → AllByRecursion (λ (part : List Operation). IsSegment (spelling part)) parts
spelled_parts parts fit =
    All-weaker HasSpelling (λ (part : List Operation). IsSegment (spelling part)) (λ part is. record { ops = part; fits = is; is = refl }) parts fit

new_segments : (p : Past) → IsFull p → p.place < 2 ^ 32 → HasSegments (new_session p.state.leader)
new_segments p now short =
    let c = p.state.leader.copies.primary in
    let low : c.global ≤ p.place = global-low p now.whole.leading.core now.whole.leading.small in
    let files : IsTrueHistory p.line c.global (in_parts (files_below c.global c.store))
    = files-of-primary p.line (p.given c.number) c now.whole.leading.core.rest.primary now.whole.leading.stores.own.store in
    All-map IsSegment spelling (files_below c.global c.store)
    (spelled_parts (files_below c.global c.store)
    (parts-spelled p.line c.global (files_below c.global c.store) (spelled-by p now.whole.leading.core now.whole.leading.small (omega arith)) (omega arith) files
    (files-ascend c.global c.store now.whole.leading.stores.own.sorted)))

-- ---- the sessions after an event

-- a session that is open has the files that it was opened with
open_segments : (opened : List Session) (next : ℕ) (sessions : List Session) → AllByRecursion HasSegments opened → AllByRecursion (IsOpen opened next) sessions → AllByRecursion HasSegments sessions
open_segments opened next sessions all still =
    All-weaker (IsOpen opened next) HasSegments
    (λ s is. subst (AllByRecursion IsSegment) is.same_files (All-find HasSegments (λ (x : Session). x.number == s.number) opened is.first all is.found).0) sessions still

segments_go : (opened : List Session) (l : Leader) (start : Start) (next : ℕ) (sessions : List Session) → AllByRecursion HasSegments opened → AllByRecursion (IsOpen opened l.next_session) l.sessions
    → HasSegments (new_session l) → SessionsGo l start next sessions → AllByRecursion HasSegments (opened_after opened l.next_session sessions)
segments_go opened l start next sessions all still new goes =
    All-append HasSegments opened (filter (λ (s : Session). nat_le l.next_session s.number) sessions) all
    (All-filter HasSegments (λ (s : Session). nat_le l.next_session s.number) sessions (by_case goes.go))
  where
    by_case : StaysOpen l next sessions ⊎ OpensOne l next sessions → AllByRecursion HasSegments sessions
    by_case (inl stays) = open_segments opened l.next_session sessions all (stays.keeps opened still)
    by_case (inr one) =
        subst (AllByRecursion HasSegments) (sym one.new)
        (All-push HasSegments l.sessions (new_session l) (open_segments opened l.next_session l.sessions all still) new)

-- ---- every place

full_spelled_keeps : IsKept IsFullSpelled
full_spelled_keeps p event picks fit short now =
    let next : Leader = (step p.state event picks).next.leader in
    record {
      full = full-keeps p event picks fit short now.full;
      files = segments_go p.opened p.state.leader next.start next.next_session next.sessions now.files now.full.whole.frames.sessions.still (new_segments p now.full (omega arith))
          (sessions-go p.state event picks);
    }

pub always_spelled : AlwaysHolds IsFullSpelled
always_spelled start count entries fit legal =
    each_place IsFullSpelled IsFullSpelled full_spelled_keeps (λ p short now. now) (start_past start) entries fit.events (let few : length entries < 2 ^ 32 = fit.few in omega arith) legal
    (record { full = full-start start count; files = tt })
