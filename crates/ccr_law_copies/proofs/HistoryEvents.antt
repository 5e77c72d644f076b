-- What is said of the histories holds at the start, and each event keeps it.
use Rattle.std.specs.List.{AllByRecursion}
use Rattle.std.proofs.Common.{◌≡◌, ℕ, ◌+◌, ◌≤◌, ◌<◌, ◌^◌, Bool, true, false, nat_lt, if◌then◌else◌, Option, Some, None, List, refl, sym, ◌∙◌, ap, subst, arith}
use Rattle.ccr_journal.specs.declared.events.Event.{Event}
use Rattle.ccr_journal.specs.declared.events.Event.TheVariants as events
use Rattle.ccr_model.specs.Outcomes.{Outcome}
use Rattle.ccr_model.specs.Copies.{Copy}
use Rattle.ccr_model.specs.Leaders.{Start, history_of_term, stale_of}
use Rattle.ccr_model.specs.LeaderRows.{force_promote_row}
use Rattle.ccr_model.specs.Followers.{Follower}
use Rattle.ccr_model.specs.World.{State, at_leader}
use Rattle.ccr_model.specs.Step.{step}
use Rattle.ccr_model.specs.Past.{Line, Past, past_with, line_of, no_line, opened_in_after}
use Rattle.ccr_law_base.specs.Events.{past_by}
use Rattle.ccr_law_base.proofs.Cases.{on_if}
use Rattle.ccr_law_base.proofs.Lists.{All-weaker, All-at, All-places}
use Rattle.ccr_law_base.proofs.Stays.{begins_none, history_stays, start_stays}
use Rattle.ccr_law_copies.proofs.LeaderEvents.{ended_stays}
use Rattle.ccr_law_copies.specs.Begun.{WasBegun, AreBegun, HasHistories, HistoriesStart, HistoriesKeep}
use Rattle.ccr_law_copies.proofs.HistoriesApart.{later_uuid, begun_still, later_other}
use Rattle.ccr_law_copies.proofs.Terms.{GoesOn, term_goes_on}
use Rattle.ccr_law_base.proofs.Following.{histories_follow}

-- the history that the leader was made with
first_begun : (first : List ℕ) (term : ℕ) → 1 ≤ term → WasBegun first term first
first_begun first term some = record { began = 1; some = omega arith; so_far = some; same = refl }

pub histories_start : HistoriesStart
histories_start start = record {
  some = omega arith;
  few = omega arith;
  leader = first_begun start.history 1 (omega arith);
  followers_begun = tt;
  sessions = λ number. first_begun start.history 1 (omega arith);
  later = λ other less few. refl;
}

-- sessions that are opened have the leader's history
opened_begun : (first : List ℕ) (term : ℕ) (opened_in : ℕ → List ℕ) (next_session : ℕ) (current : List ℕ) → WasBegun first term current
    → ((number : ℕ) → WasBegun first term (opened_in number)) → (number : ℕ) → WasBegun first term (opened_in_after opened_in next_session current number)
opened_begun first term opened_in next_session current own all number =
    on_if (WasBegun first term) (nat_lt number next_session) (opened_in number) current (λ old. all number) (λ new. own)

-- what was begun so far was begun so far in a later term
still_begun : (first : List ℕ) (term new_term : ℕ) (followers : List Follower) → term ≤ new_term
    → AllByRecursion (λ (s : Follower). WasBegun first term s.history) followers → AllByRecursion (λ (s : Follower). WasBegun first new_term s.history) followers
still_begun first term new_term followers le all =
    All-weaker (λ (s : Follower). WasBegun first term s.history) (λ (s : Follower). WasBegun first new_term s.history)
    (λ s is. begun_still first term new_term s.history le is) followers all

-- ---- where no history begins

grown : (p : Past) (event : Event) (picks : List ℕ) → HasHistories p
    → AreBegun p.state.leader.start.history (step p.state event picks).next.leader.copies.term (p.place + 1) p.state.leader.history (step p.state event picks).next.followers
    (opened_in_after p.opened_in p.state.leader.next_session p.state.leader.history) p.ended
grown p event picks now =
    let first : List ℕ = p.state.leader.start.history in
    let term : ℕ = p.state.leader.copies.term in
    let new_term : ℕ = (step p.state event picks).next.leader.copies.term in
    let goes : GoesOn term new_term = term_goes_on p.state event picks in
    let least : term ≤ new_term = goes.least in
    let most : new_term ≤ term + 1 = goes.most in
    let some : 1 ≤ term = now.some in
    let few : term ≤ p.place + 1 = now.few in
    let leader : WasBegun first new_term p.state.leader.history = begun_still first term new_term p.state.leader.history least now.leader in
    record {
      some = omega arith;
      few = omega arith;
      leader = leader;
      followers_begun = All-places (λ (s : Follower). WasBegun first new_term s.history) (step p.state event picks).next.followers
          (histories_follow (λ f history. WasBegun first new_term history) p.state event picks (λ makes. leader)
          (λ f s at. All-at (λ (s : Follower). WasBegun first new_term s.history) p.state.followers f s (still_begun first term new_term p.state.followers least now.followers_begun) at));
      sessions = opened_begun first new_term p.opened_in p.state.leader.next_session p.state.leader.history leader
          (λ number. begun_still first term new_term (p.opened_in number) least (now.sessions number));
      later = λ other less few_terms. now.later other (omega arith) few_terms;
    }

quietly : (p : Past) (event : Event) (picks : List ℕ) → begins_none event ≡ true → HasHistories p → HasHistories (past_by p event picks)
quietly p event picks none now =
    let o : Outcome State = step p.state event picks in
    let start : o.next.leader.start ≡ p.state.leader.start = start_stays p.state event picks in
    let history : o.next.leader.history ≡ p.state.leader.history = history_stays p.state event picks none in
    subst (λ (first : List ℕ). AreBegun first o.next.leader.copies.term (p.place + 1) o.next.leader.history o.next.followers
    (opened_in_after p.opened_in p.state.leader.next_session o.next.leader.history) (past_by p event picks).ended) (sym (ap (λ (x : Start). x.history) start))
    (subst (λ (current : List ℕ). AreBegun p.state.leader.start.history o.next.leader.copies.term (p.place + 1) current o.next.followers
    (opened_in_after p.opened_in p.state.leader.next_session current) (past_by p event picks).ended) (sym history)
    (subst (λ (ended : List ℕ → Line). AreBegun p.state.leader.start.history o.next.leader.copies.term (p.place + 1) p.state.leader.history o.next.followers
    (opened_in_after p.opened_in p.state.leader.next_session p.state.leader.history) ended) (sym (ended_stays p event o.reply none))
    (grown p event picks now)))

-- ---- where one begins

-- the line of a history of a later term, before one begins
none_later : (p : Past) → HasHistories p → (other : ℕ) → p.state.leader.copies.term < other → other ≤ 2 ^ 32 → line_of p (history_of_term p.state.leader.start.history other) ≡ no_line
none_later p now other less few =
    let first : List ℕ = p.state.leader.start.history in
    ap (λ (b : Bool). if b then p.line else p.ended (history_of_term first other)) (later_other first p.state.leader.copies.term p.state.leader.history other now.leader less few)
    ∙ now.later other less few

forced : (p : Past) (copy : ℕ) (found : Option Copy) → HasHistories p
    → HasHistories (past_with p (record { event = events.ForcePromote copy; reply = (at_leader p.state (force_promote_row p.state.leader copy found)).reply }) (at_leader p.state (force_promote_row p.state.leader copy found)))
unfolding force_promote_row
forced p copy None now = record {
  some = now.some;
  few = let few : p.state.leader.copies.term ≤ p.place + 1 = now.few in omega arith;
  leader = now.leader;
  followers_begun = now.followers_begun;
  sessions = opened_begun p.state.leader.start.history p.state.leader.copies.term p.opened_in p.state.leader.next_session p.state.leader.history now.leader now.sessions;
  later = now.later;
}
forced p copy (Some c) now =
    let first : List ℕ = p.state.leader.start.history in
    let term : ℕ = p.state.leader.copies.term in
    let some : 1 ≤ term = now.some in
    let few : term ≤ p.place + 1 = now.few in
    let own : WasBegun first (term + 1) (history_of_term first (term + 1))
    = record { began = term + 1; some = omega arith; so_far = omega arith; same = sym (later_uuid first (term + 1) (omega arith)) } in
    record {
      some = omega arith;
      few = omega arith;
      leader = own;
      followers_begun = still_begun first term (term + 1) p.state.followers (omega arith) now.followers_begun;
      sessions = opened_begun first (term + 1) p.opened_in p.state.leader.next_session (history_of_term first (term + 1)) own
          (λ number. begun_still first term (term + 1) (p.opened_in number) (omega arith) (now.sessions number));
      later = λ other less few_terms. none_later p now other (omega arith) few_terms;
    }

-- ---- each event

pub histories_keep : HistoriesKeep
histories_keep p event picks now =
    (elim (begins_none event) as (λ b. begins_none event ≡ b → HasHistories (past_by p event picks)) [
      | true ↦ λ none. quietly p event picks none now
      | false ↦ λ begins. beginning p event picks begins now
    ]) refl
  where
    beginning : (p : Past) (event : Event) (picks : List ℕ) → begins_none event ≡ false → HasHistories p → HasHistories (past_by p event picks)
    beginning p (events.ForcePromote copy) picks begins now = forced p copy (stale_of p.state.leader.stale copy) now
    beginning p _ picks begins now = absurd (cc)
