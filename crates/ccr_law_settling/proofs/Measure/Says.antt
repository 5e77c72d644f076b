-- What the events of settling lower, at each place where the copies hold what they have to.
use Rattle.std.specs.List.{AllByRecursion}
use Rattle.std.specs.Prelude.{slice_get}
use Rattle.std.specs.Option.{option_map}
use Rattle.std.proofs.Common.{is_none, ◌≡◌, ℕ, ◌<◌, ◌≤◌, ◌==◌, ◌&&◌, not, Bool, true, false, nat_lt, if◌then◌else◌, Option, Some, None, List, [], ◌∷◌, length, is_some, refl, sym, ◌∙◌, ap, subst, arith}
use Rattle.std.proofs.lemmas.Bool.Decides.{nat_tests}
use Rattle.ccr_op.specs.Operation.{Operation}
use Rattle.ccr_tracker.specs.Numbers.{Numbers, has}
use Rattle.ccr_model.specs.Copies.{Copy, Replica, Copies, replica_of, not_ready}
use Rattle.ccr_model.specs.CopyFacts.{IsKnownTruly, HoldsEnough}
use Rattle.ccr_model.specs.Tasks.{Write}
use Rattle.ccr_model.specs.Followers.{Follower, Work, restoring, replicating}
use Rattle.ccr_model.specs.World.{State}
use Rattle.ccr_model.specs.FrameFacts.{IsCommitted}
use Rattle.ccr_model.specs.TaskFacts.{batches_of}
use Rattle.ccr_model.specs.Past.{Line, Past, FollowerPast, line_of}
use Rattle.ccr_model.specs.Invariants.{IsTrueFollowerCopy, AreTrueCopies, IsTrueReplication, IsTrueFollower, IsTrueReplica, IsTrueLeader}
use Rattle.ccr_law_copies.specs.Cores.{IsReplica, IsCore}
use Rattle.ccr_law_base.proofs.Lists.{All-weaker, All-both, All-map_back, All-append_front, All-append_back, All-find, some_equal, get_within}
use Rattle.ccr_law_copies.proofs.Sets.{or_false, count_within}
use Rattle.ccr_law_copies.proofs.LeaderEvents.{line-is}
use Rattle.ccr_law_messages.proofs.Events.{own-line}
use Rattle.ccr_law_settling.specs.Within.{IsReplicaWithin, AreWithin, AreWritesWithin, IsWithin, HoldsReads, IsReadable}
use Rattle.ccr_law_settling.specs.Lowering.{counts_of, CopyingLowers, WaitingLowers, EndingLowers, DeliveryLowers}
use Rattle.ccr_law_settling.proofs.Measure.Copying.{replicate_at, ack_at, resync_at}
use Rattle.ccr_law_settling.proofs.Measure.Syncing.{sync_at}
use Rattle.ccr_law_settling.proofs.Measure.Applying.{apply_at}
use Rattle.ccr_law_settling.proofs.Measure.Waking.{wake_at}
use Rattle.ccr_law_settling.proofs.Measure.Losing.{lose_at}
use Rattle.ccr_law_settling.proofs.Measure.Clocks.{clock_at}
use Rattle.ccr_law_settling.proofs.Measure.Ending.{written_at}
use Rattle.ccr_law_settling.proofs.Measure.Delivering.{read_delivered}
use Rattle.ccr_law_settling.proofs.Measure.Removals.{removal_delivered}
use Rattle.ccr_law_settling.proofs.Measure.Refusals.{refusal_delivered}
use Rattle.ccr_law_settling.proofs.Measure.Adding.{addition_delivered}
use Rattle.ccr_law_settling.proofs.Measure.Answering.{renewal_delivered, session_delivered, chunk_delivered}
use Rattle.ccr_model.specs.Settling.{may_act}
use Rattle.ccr_law_settling.specs.Measure.{IsLower}
use Rattle.ccr_journal.specs.declared.events.Event.TheVariants as events
use Rattle.ccr_model.specs.Step.{step}

pub copying_lowers : (count_of : List ℕ → ℕ) (s : State) → IsWithin count_of s → CopyingLowers count_of s
copying_lowers count_of s within = record {
  replicate = λ side copy seq may picks. replicate_at count_of s side copy seq picks within may;
  ack = λ side copy may picks. ack_at count_of s side copy picks within may;
  sync = λ side copy may picks. sync_at count_of s side copy picks within may;
  resync = λ copy may picks. resync_at count_of s copy picks within.counts may;
  apply = λ f epoch write batch may picks. apply_at count_of s f epoch write batch picks within may;
}

-- ---- in the words of the model

-- the leader's copies
leader_within : (p : Past) → IsCore p → AreWithin (length p.line.ops) p.state.leader.copies
leader_within p core =
    let full : p.line.cut ≤ length p.line.ops = core.rest.primary.full in
    let known : p.state.leader.copies.primary.global ≤ p.line.cut = core.rest.primary.known in
    record {
      processed = λ n is. processed n is;
      global = omega arith;
      replicas = All-weaker (λ (r : Replica). IsReplica p.line p.state.leader.copies.primary.number p.state.leader.copies.next (p.given r.copy.number) r)
          (IsReplicaWithin (length p.line.ops))
          (λ r ok. record { known = ok.truly; counted = λ resynced. count_within r.copy.seen (length p.line.ops) (λ n is. ours r ok resynced n is) })
          p.state.leader.copies.replicas core.rest.replicas_ok;
    }
  where
    processed : (n : ℕ) → has p.state.leader.copies.primary.seen n ≡ true → n < length p.line.ops
    processed n is =
        let whole : has (record { count = length p.line.ops; above = [] }) n ≡ true = subst (λ (s : Numbers). has s n ≡ true) core.rest.primary.gapless is in
        let test : nat_lt n (length p.line.ops) ≡ true = or_false (nat_lt n (length p.line.ops)) ∙ whole in
        grind (arith, nat_tests)

    ours : (r : Replica) → IsReplica p.line p.state.leader.copies.primary.number p.state.leader.copies.next (p.given r.copy.number) r → r.resynced ≡ true
        → (n : ℕ) → has r.copy.seen n ≡ true → n < length p.line.ops
    ours r ok resynced n is = by (p.given r.copy.number n) refl (sym (ok.processed n) ∙ is)
      where
        by : (o : Option Operation) → p.given r.copy.number n ≡ o → is_some o ≡ true → n < length p.line.ops
        by None at there = cc
        by (Some op) at there = get_within p.line.ops n op (ok.ours resynced n op at)

-- a follower's copies, where this many operations are committed
copy_within : (line : Line) (past : FollowerPast) (c : Copy) → IsTrueFollowerCopy line past.given past.restored c → (n : ℕ) → has c.seen n ≡ true → n < line.cut
copy_within line past c true_copy n is =
    let found : (op : Operation) × (past.given c.number n ≡ Some op) = true_copy.processed n is in
    let committed : IsCommitted line found.0 × (found.0.seq ≡ n) = true_copy.committed n found.0 found.1 in
    subst (λ k. k < line.cut) committed.1 committed.0.below

global_within : (line : Line) (past : FollowerPast) (c : Copy) → IsTrueFollowerCopy line past.given past.restored c → c.global ≤ line.cut
global_within line past c true_copy =
    (elim (nat_lt line.cut c.global) as (λ b. nat_lt line.cut c.global ≡ b → c.global ≤ line.cut) [
      | true ↦ λ is. (let lt : line.cut < c.global = grind (arith, nat_tests) in absurd (beyond lt (past.given c.number line.cut) refl (true_copy.store.whole line.cut lt)))
      | false ↦ λ isnt. grind (arith, nat_tests)
    ]) refl
  where
    beyond : line.cut < c.global → (o : Option Operation) → past.given c.number line.cut ≡ o → is_some o ≡ true → ⊥
    beyond lt None at there = cc
    beyond lt (Some op) at there =
        let committed : IsCommitted line op × (op.seq ≡ line.cut) = true_copy.committed line.cut op at in
        let below : op.seq < line.cut = committed.0.below in
        let same : op.seq ≡ line.cut = committed.1 in
        omega arith

copies_within : (line : Line) (past : FollowerPast) (count : ℕ) (s : Copies) → line.cut ≤ count → AreTrueCopies line past s → AreWithin count s
copies_within line past count s low copies = record {
  processed = λ n is. (let lt : n < line.cut = copy_within line past s.primary copies.copies.0 n is in omega arith);
  global = (let le : s.primary.global ≤ line.cut = global_within line past s.primary copies.copies.0 in omega arith);
  replicas = All-weaker (λ (r : Replica). IsTrueFollowerCopy line past.given past.restored r.copy × IsKnownTruly r) (IsReplicaWithin count)
      (λ r both. record {
        known = both.1.known;
        counted = λ resynced. (let le : r.copy.seen.count ≤ line.cut = count_within r.copy.seen line.cut (copy_within line past r.copy both.0) in omega arith);
      })
      s.replicas
      (All-both (λ (r : Replica). IsTrueFollowerCopy line past.given past.restored r.copy) IsKnownTruly s.replicas
      (All-map_back (IsTrueFollowerCopy line past.given past.restored) (λ (r : Replica). r.copy) s.replicas copies.copies.1) copies.known);
}

-- the operations of writes
batches_within : (line : Line) (count : ℕ) (writes : List Write) → line.cut ≤ count → AllByRecursion (IsCommitted line) (batches_of writes)
    → AllByRecursion (λ (w : Write). AllByRecursion (λ (op : Operation). op.seq < count) w.batch) writes
batches_within line count [] low all = tt
batches_within line count (w ∷ writes) low all = (
  All-weaker (IsCommitted line) (λ (op : Operation). op.seq < count) (λ op is. (let below : op.seq < line.cut = is.below in omega arith)) w.batch
      (All-append_front (IsCommitted line) w.batch (batches_of writes) all),
  batches_within line count writes low (All-append_back (IsCommitted line) w.batch (batches_of writes) all),
)

writes_within : (line : Line) (past : FollowerPast) (count : ℕ) (work : Work) → line.cut ≤ count → IsTrueReplication line past work → AreWritesWithin count work
writes_within line past count (restoring r) low is = tt
writes_within line past count (replicating t) low is = batches_within line count t.writes low is.0.batches

pub within_at : (p : Past) → IsCore p → ((f : ℕ) (own : Follower) → slice_get p.state.followers f ≡ Some own → IsTrueFollower p f own) → IsWithin (counts_of p) p.state
within_at p core followers = record {
  counts = counts ∙ ap (λ (line : Line). length line.ops) (sym (own-line p));
  leader = subst (λ (line : Line). AreWithin (length line.ops) p.state.leader.copies) (sym (own-line p)) (leader_within p core);
  followers = λ f own at. copies_within (line_of p own.history) (p.followers f) (counts_of p own.history) own.copies (line-is p core own.history).full (followers f own at).copies;
  writes = λ f own at. writes_within (line_of p own.history) (p.followers f) (counts_of p own.history) own.work (line-is p core own.history).full (followers f own at).work;
}
  where
    counts : p.state.leader.copies.primary.seen.count ≡ length p.line.ops
    counts = ap (λ (s : Numbers). s.count) core.rest.primary.gapless

-- ---- reads

holds_reads : (ops : ℕ → Option Operation) (c : Copy) → HoldsEnough ops 0 c → HoldsReads c
holds_reads ops c enough n low lt = enough.kept n (omega arith) (enough.whole n lt)

pub readable_at : (p : Past) → IsTrueLeader p → IsReadable p.state
readable_at p leader copy c found = by (p.state.leader.copies.primary.number == copy) (replica_of p.state.leader.copies copy) refl found
  where
    by : (b : Bool) (o : Option Replica) → replica_of p.state.leader.copies copy ≡ o
        → (if b then Some p.state.leader.copies.primary else option_map {T = Replica} {U = Copy} (λ r. r.copy) o) ≡ Some c → HoldsReads c
    by true o at same = subst HoldsReads (some_equal p.state.leader.copies.primary c same) (holds_reads (p.given p.state.leader.copies.primary.number) p.state.leader.copies.primary leader.store)
    by false None at same = cc
    by false (Some r) at same =
        let ok : IsTrueReplica p r = (All-find (IsTrueReplica p) (λ x. x.copy.number == copy) p.state.leader.copies.replicas r leader.replicas at).0 in
        subst HoldsReads (some_equal r.copy c same) (holds_reads (p.given r.copy.number) r.copy ok.store)

pub waiting_lowers : (count_of : List ℕ → ℕ) (s : State) → IsReadable s → WaitingLowers count_of s
waiting_lowers count_of s readable = record {
  wake = λ f at may picks. wake_at count_of s f at picks readable may;
  lose = λ f at apart may picks. lose_at count_of s f at picks apart may;
  clock = λ f now may picks. clock_at count_of s f now picks may;
}

pub ending_lowers : (count_of : List ℕ → ℕ) (s : State) → EndingLowers count_of s
ending_lowers count_of s = record { written = λ f write within may picks. written_at count_of s f write picks within may }

-- ---- deliveries

delivery_test : (a b : Bool) (keep ready : Bool) → (((a && b) && not keep) && ready) ≡ true → (b ≡ true) × (keep ≡ false)
delivery_test true true false ready is = (refl, refl)
delivery_test true true true ready is = cc
delivery_test true false keep ready is = cc
delivery_test false b keep ready is = cc

-- what lowers at the primary without keeping lowers where settling may use it
pub delivered : (count_of : List ℕ → ℕ) (s : State) (at copy : ℕ) (keep : Bool) (picks : List ℕ) → ((copy == s.leader.copies.primary.number) ≡ true → IsLower count_of (step s (events.Deliver at copy false) picks).next s)
    → may_act s (events.Deliver at copy keep) ≡ true → IsLower count_of (step s (events.Deliver at copy keep) picks).next s
delivered count_of s at copy keep picks lower may =
    let tests : ((copy == s.leader.copies.primary.number) ≡ true) × (keep ≡ false) = delivery_test (is_some (slice_get s.flight at)) (copy == s.leader.copies.primary.number) keep (is_none (not_ready s.leader.copies)) may in
    subst (λ (k : Bool). IsLower count_of (step s (events.Deliver at copy k) picks).next s) (sym tests.1) (lower tests.0)

pub delivery_lowers : (count_of : List ℕ → ℕ) (s : State) → IsReadable s → DeliveryLowers count_of s
delivery_lowers count_of s readable = record {
  read = λ at copy keep follower request history from max_ops max_bytes timeout found may picks.
      delivered count_of s at copy keep picks (read_delivered count_of s at copy picks follower request history from max_ops max_bytes timeout readable found) may;
  removal = λ at copy keep follower request id found may picks. delivered count_of s at copy keep picks (removal_delivered count_of s at copy picks follower request id found) may;
  renewal = λ at copy keep follower request id number found may picks. delivered count_of s at copy keep picks (renewal_delivered count_of s at copy picks follower request id number found) may;
  addition = λ at copy keep follower request id ready found may picks. delivered count_of s at copy keep picks (addition_delivered count_of s at copy picks follower request id found ready) may;
  session = λ at copy keep follower request ready found may picks. delivered count_of s at copy keep picks (session_delivered count_of s at copy picks follower request found ready) may;
  chunk = λ at copy keep follower request session file offset size there found may picks.
      delivered count_of s at copy keep picks (chunk_delivered count_of s at copy picks follower request session file offset size found there) may;
  refusal = λ at copy keep follower request unready found may picks. delivered count_of s at copy keep picks (refusal_delivered count_of s at copy picks follower request unready found) may;
}
