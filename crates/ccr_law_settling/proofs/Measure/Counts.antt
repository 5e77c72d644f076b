-- No event of settling adds an operation to a history, so that the measures of one place and of the next are by the same operations.
use Rattle.std.specs.Str.{bytes_eq}
use Rattle.std.proofs.Common.{◌≡◌, ℕ, ◌+◌, true, false, if◌then◌else◌, Option, List, [], ◌∷◌, length, refl, sym, ap, subst, arith}
use Rattle.ccr_op.specs.Operation.{Operation}
use Rattle.ccr_journal.specs.declared.events.Event.{Event}
use Rattle.ccr_journal.specs.declared.events.Event.TheVariants as events
use Rattle.ccr_journal.specs.declared.replies.Reply.{Reply}
use Rattle.ccr_model.specs.Followers.{Follower}
use Rattle.ccr_model.specs.World.{State}
use Rattle.ccr_model.specs.Step.{step}
use Rattle.ccr_model.specs.Settling.{MaySettle}
use Rattle.ccr_model.specs.Past.{Line, Past, line_after}
use Rattle.ccr_law_base.specs.Events.{past_by}
use Rattle.ccr_law_base.proofs.Stays.{begins_none, history_stays}
use Rattle.ccr_law_copies.proofs.LeaderEvents.{ended_stays}
use Rattle.ccr_law_settling.specs.Measure.{copies_lack, work_lacks, follower_lacks, over_followers, lacking_of, ranks_of, idle_of, underway_of, leases_of, measure, IsBelow}
use Rattle.ccr_law_settling.specs.Lowering.{counts_of, Lowers, LowersAt}

-- ---- the operations stay

settling_begins_none : (s : State) (event : Event) → MaySettle s event → begins_none event ≡ true
settling_begins_none s (events.ForcePromote copy) may = cc
settling_begins_none s _ may = refl

settling_writes_none : (s : State) (line : Line) (given : ℕ → ℕ → Option Operation) (event : Event) (reply : Reply) → MaySettle s event → line_after s.leader line given event reply ≡ line.ops
settling_writes_none s line given (events.Write request) reply may = cc
settling_writes_none s line given (events.Promote side copy) reply may = cc
settling_writes_none s line given (events.ForcePromote copy) reply may = cc
settling_writes_none s line given _ reply may = refl

pub counts_stay : (p : Past) (event : Event) (picks : List ℕ) → MaySettle p.state event → (history : List ℕ) → counts_of (past_by p event picks) history ≡ counts_of p history
counts_stay p event picks may history =
    subst (λ (current : List ℕ). length (if bytes_eq history current then (past_by p event picks).line else (past_by p event picks).ended history).ops ≡ counts_of p history)
    (sym (history_stays p.state event picks (settling_begins_none p.state event may)))
    (subst (λ (ended : List ℕ → Line). length (if bytes_eq history p.state.leader.history then (past_by p event picks).line else ended history).ops ≡ counts_of p history)
    (sym (ended_stays p event (step p.state event picks).reply (settling_begins_none p.state event may)))
    (elim (bytes_eq history p.state.leader.history) as (λ b. length (if b then (past_by p event picks).line else p.ended history).ops ≡ length (if b then p.line else p.ended history).ops) [
      | true ↦ ap (λ (ops : List Operation). length ops) (settling_writes_none p.state p.line _ event (step p.state event picks).reply may)
      | false ↦ refl
    ]))

-- ---- the measure by as many operations

same_followers : (a b : List ℕ → ℕ) → ((history : List ℕ) → a history ≡ b history) → (f : ℕ) (followers : List Follower)
    → over_followers (follower_lacks a) f followers ≡ over_followers (follower_lacks b) f followers
same_followers a b same f [] = refl
same_followers a b same f (x ∷ followers) =
    let one : follower_lacks a f x ≡ follower_lacks b f x = ap (λ (count : ℕ). copies_lack count x.copies + work_lacks count x.work) (same x.history) in
    let rest : over_followers (follower_lacks a) (f + 1) followers ≡ over_followers (follower_lacks b) (f + 1) followers = same_followers a b same (f + 1) followers in
    omega arith

same_lacking : (a b : List ℕ → ℕ) → ((history : List ℕ) → a history ≡ b history) → (s : State) → lacking_of a s ≡ lacking_of b s
same_lacking a b same s =
    let leader : copies_lack (a s.leader.history) s.leader.copies ≡ copies_lack (b s.leader.history) s.leader.copies = ap (λ (count : ℕ). copies_lack count s.leader.copies) (same s.leader.history) in
    let followers : over_followers (follower_lacks a) 0 s.followers ≡ over_followers (follower_lacks b) 0 s.followers = same_followers a b same 0 s.followers in
    omega arith

pub lowers_at : (p : Past) (event : Event) → Lowers (counts_of p) p.state event → LowersAt p event
lowers_at p event lower may picks =
    subst
    (λ (lacking : ℕ). IsBelow (record { ranks = ranks_of next; lacking = lacking; idle = idle_of next; underway = underway_of next; leases = leases_of next }) (measure (counts_of p) p.state))
    (sym (same_lacking (counts_of (past_by p event picks)) (counts_of p) (counts_stay p event picks may) next)) (lower may picks)
  where
    next : State
    next = (step p.state event picks).next
