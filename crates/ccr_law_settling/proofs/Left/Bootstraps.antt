-- Where nothing may be done and no clock may be set, no follower is in its bootstrap.
use Rattle.std.specs.List.{AllByRecursion}
use Rattle.std.specs.Prelude.{slice_get}
use Rattle.std.specs.Option.{option_map_or}
use Rattle.std.proofs.Common.{◌≡◌, ℕ, ◌≤◌, not, true, false, Option, Some, None, List, [], ◌∷◌, length, refl, ap, ◌∙◌, subst, arith}
use Rattle.ccr_journal.specs.declared.sides.Side.TheVariants as sides
use Rattle.ccr_journal.specs.declared.events.Event.TheVariants as events
use Rattle.ccr_model.specs.Requests.{is_sent}
use Rattle.ccr_model.specs.Copies.{Replica}
use Rattle.ccr_model.specs.Restores.{Stage, leasing, opening, fetching, Fetch, ChunkAsked, sent_requests}
use Rattle.ccr_model.specs.Followers.{Follower, Work, restoring, replicating, uuid_of}
use Rattle.ccr_model.specs.FollowerRows.{is_bootstrapping}
use Rattle.ccr_model.specs.World.{State}
use Rattle.ccr_model.specs.Settling.{may_sync, may_resync, may_lose, may_be_answered, request_at, waits_in_stage, waits_until}
use Rattle.ccr_model.specs.Past.{Past}
use Rattle.ccr_model.specs.Invariants.{IsTrueReplica}
use Rattle.ccr_law_base.proofs.Lists.{All-weaker, All-both, All-map_back}
use Rattle.ccr_law_base.proofs.Tests.{itself}
use Rattle.ccr_law_settling.proofs.Measure.LeftAtLeader.{leader_left}
use Rattle.ccr_law_settling_grounds.specs.Purposes.{Purpose, for_lease, for_session, for_part, for_read, awaited, awaited_in}
use Rattle.ccr_law_settling_grounds.specs.Pending.{is_held_back, IsStagePending, IsWorkPending}
use Rattle.ccr_law_settling.specs.FollowersLeft.{IsGroundOfSettling, IsStill, BootstrapsEnd}
use Rattle.ccr_law_settling.proofs.Left.ByNumber.{each_found}
use Rattle.ccr_law_settling.proofs.Left.Outstanding.{IsSentOrHeld, sent_or_held}
use Rattle.ccr_law_settling.proofs.Left.Unanswered.{HaveLeases, same_leases, unanswered}
use Rattle.std.proofs.lemmas.Bool.{not-false}

-- ---- what a bootstrap waits for

-- the first request that was sent, which is no read
pub record FirstSent (stage : Stage) : Type 0 where
  pub request : ℕ
  pub purpose : Purpose
  pub sent : slice_get (sent_requests stage) 0 ≡ Some request
  pub waited : awaited_in stage request ≡ Some purpose
  pub other : purpose ≡ for_read → ⊥

-- of some requests for parts that were sent, the first
first_part : (f : Fetch) (asks : List ChunkAsked) → 1 ≤ length asks → AllByRecursion (λ (a : ChunkAsked). is_sent a.progress ≡ true) asks
    → FirstSent (fetching (record f { asks = asks }))
first_part f [] some sent = absurd (omega arith)
first_part f (a ∷ asks) some sent =
    record { request = a.request; purpose = for_part; sent = rw sent.0 refl; waited = rw (itself a.request) (rw sent.0 refl); other = λ e. cc }

sends_first : (chunk_size : ℕ) (stage : Stage) → IsStagePending chunk_size stage → AllByRecursion IsSentOrHeld (waits_in_stage stage) → FirstSent stage
sends_first chunk_size (leasing a) pending all =
    let sent : is_sent a.progress ≡ true = all.0 pending in
    record { request = a.request; purpose = for_lease; sent = rw sent refl; waited = rw (itself a.request) (rw sent refl); other = λ e. cc }
sends_first chunk_size (opening a) pending all =
    let sent : is_sent a.progress ≡ true = all.0 pending in
    record { request = a.request; purpose = for_session; sent = rw sent refl; waited = rw (itself a.request) (rw sent refl); other = λ e. cc }
sends_first chunk_size (fetching f) pending all =
    first_part f f.asks pending.some
    (All-weaker (λ (a : ChunkAsked). (is_held_back a.progress ≡ false) × IsSentOrHeld a.progress) (λ (a : ChunkAsked). is_sent a.progress ≡ true)
    (λ a both. both.1 both.0) f.asks
    (All-both (λ (a : ChunkAsked). is_held_back a.progress ≡ false) (λ (a : ChunkAsked). IsSentOrHeld a.progress) f.asks pending.asks
    (All-map_back IsSentOrHeld (λ (a : ChunkAsked). a.progress) f.asks all)))

-- ---- the leader's leases

have_leases : (p : Past) → IsGroundOfSettling p → IsStill p → HaveLeases p.state.leader.copies.primary.leases p.state.leader.copies.replicas
have_leases p ground still = each_found (IsTrueReplica p) (λ (r : Replica). r.copy.leases ≡ p.state.leader.copies.primary.leases)
    p.state.leader.copies.replicas ground.core.rest.apart
    (λ r found truth. same_leases p.state.leader.copies r truth.behind
    (subst (λ (o : Option Replica). option_map_or (may_resync p.state.leader.copies) o false ≡ false) found (still.done (events.Resync r.copy.number)))
    (subst (λ (o : Option Replica). option_map_or (may_sync p.state.leader.copies) o false ≡ false) found (still.done (events.Sync sides.Leader r.copy.number))))
    ground.leader.replicas

-- ---- no bootstrap

-- a request that may not be lost may still be answered
may_come : (s : State) (f at request : ℕ) (own : Follower) → slice_get s.followers f ≡ Some own → request_at own.work at ≡ Some request → may_lose s f at ≡ false
    → may_be_answered s (uuid_of f) request ≡ true
may_come s f at request own there is stays = not-false (may_be_answered s (uuid_of f) request) here
  where
    here : not (may_be_answered s (uuid_of f) request) ≡ false
    here =
        subst (λ (o : Option ℕ). option_map_or (λ (n : ℕ). not (may_be_answered s (uuid_of f) n)) o false ≡ false) is
        (subst (λ (o : Option Follower). option_map_or (λ (own : Follower). option_map_or (λ (n : ℕ). not (may_be_answered s (uuid_of f) n)) (request_at own.work at) false) o false ≡ false)
        there stays)

pub bootstraps-end : BootstrapsEnd
bootstraps-end p ground still f own there = by own.work refl
  where
    by : (work : Work) → own.work ≡ work → is_bootstrapping work ≡ false
    by (replicating t) is = refl
    by (restoring r) is =
        let pending : IsStagePending r.chunk_size r.stage = subst IsWorkPending is (ground.pending f own there) in
        let untimed : waits_until (restoring r) ≡ None = subst (λ (work : Work). waits_until work ≡ None) is (still.untimed f own there) in
        let first : FirstSent r.stage = sends_first r.chunk_size r.stage pending (sent_or_held (waits_in_stage r.stage) untimed) in
        let place : request_at own.work 0 ≡ Some first.request = ap (λ (work : Work). request_at work 0) is ∙ first.sent in
        let comes : may_be_answered p.state (uuid_of f) first.request ≡ true = may_come p.state f 0 first.request own there place (still.done (events.Lose f 0)) in
        let waited : awaited own.work first.request ≡ Some first.purpose = ap (λ (work : Work). awaited work first.request) is ∙ first.waited in
        let none : may_be_answered p.state (uuid_of f) first.request ≡ false
        = unanswered p.state own.work (uuid_of f) first.request first.purpose waited first.other (leader_left p ground.core still.done).taken
        (have_leases p ground still) ground.parked.kept (ground.purposes f own there).polls in
        cc
