-- Where nothing may be done and no clock may be set, no task has anything to write.
use Rattle.std.specs.List.{AllByRecursion}
use Rattle.std.specs.Prelude.{slice_get, filter}
use Rattle.std.specs.Option.{option_map, option_map_or}
use Rattle.std.proofs.Common.{◌≡◌, ℕ, ◌≤◌, ◌==◌, ◌&&◌, not, Bool, true, false, if◌then◌else◌, inl, inr, ◌⊎◌, Option, Some, None, List, [], ◌∷◌, map, length, is_none, refl, ap, ◌∙◌, subst, arith}
use Rattle.ccr_op.specs.Operation.{Operation}
use Rattle.ccr_tracker.specs.Numbers.{has}
use Rattle.ccr_op.specs.Sameness.{same_operations}
use Rattle.ccr_op.proofs.Sameness.{same_operations-self}
use Rattle.ccr_journal.specs.declared.sides.Side.TheVariants as sides
use Rattle.ccr_journal.specs.declared.events.Event.TheVariants as events
use Rattle.ccr_model.specs.Requests.{Progress, is_sent}
use Rattle.ccr_model.specs.Copies.{Copy, Replica, Copies}
use Rattle.ccr_model.specs.Tasks.{Task, Read, Write, is_active, may_read, write_sent}
use Rattle.ccr_model.specs.TaskFacts.{IsSaturated}
use Rattle.ccr_model.specs.Followers.{Follower, Work, replicating}
use Rattle.ccr_model.specs.FollowerRows.{Sent, sent_write, has_all, lacks}
use Rattle.ccr_model.specs.Settling.{may_replicate, may_apply, may_end, waits_in, waits_until, for_replica}
use Rattle.ccr_model.specs.Past.{Past, line_of}
use Rattle.ccr_law_base.proofs.Lists.{All-weaker, All-both, All-map_back, All-append_back}
use Rattle.ccr_law_base.proofs.Tests.{itself}
use Rattle.ccr_law_tasks.specs.GoodTask.{IsGoodTask}
use Rattle.ccr_law_tasks.specs.GoodFollowers.{IsGoodWork}
use Rattle.ccr_law_followers.specs.TrueCopies.{ReplicaOk, CopiesOf}
use Rattle.ccr_law_settling_grounds.specs.Pending.{is_held_back, IsTaskPending, IsWorkPending}
use Rattle.ccr_law_settling.specs.FollowersLeft.{IsGroundOfSettling, IsStill, WritesEnd}
use Rattle.ccr_law_settling.proofs.Left.ByNumber.{IsFound, each_found}
use Rattle.ccr_law_settling.proofs.Left.Outstanding.{IsSentOrHeld, sent_or_held}

-- ---- no copy lacks the write

-- what the primary has processed of a batch, the replica has too
each_processed : (s : Copies) (r : Replica) (batch : List Operation) → r.resynced ≡ true → ((seq : ℕ) → may_replicate seq s r ≡ false) → has_all batch s.primary ≡ true
    → has_all batch r.copy ≡ true
each_processed s r [] resynced none all = refl
each_processed s r (op ∷ batch) resynced none all =
    both (has s.primary.seen op.seq) (has r.copy.seen op.seq) (has_all batch s.primary) (has_all batch r.copy) all
    (third r.resynced (has s.primary.seen op.seq) (has r.copy.seen op.seq) resynced (none op.seq))
    (each_processed s r batch resynced none)
  where
    third : (a b c : Bool) → a ≡ true → ((a && b) && not c) ≡ false → b ≡ true → c ≡ true
    third a b true first one second = refl
    third true true false first one second = cc
    third true false false first one second = cc
    third false b false first one second = cc

    both : (b c d e : Bool) → (b && d) ≡ true → (b ≡ true → c ≡ true) → (d ≡ true → e ≡ true) → (c && e) ≡ true
    both true c true e all one rest = rw (one refl) (rest refl)
    both true c false e all one rest = cc
    both false c d e all one rest = cc

none_lacks : (batch : List Operation) (rs : List Replica) → AllByRecursion (λ (r : Replica). has_all batch r.copy ≡ true) rs
    → filter (λ c. not (has_all batch c)) (map {A = Replica} {B = Copy} (λ r. r.copy) rs) ≡ []
none_lacks batch [] all = refl
none_lacks batch (r ∷ rs) all = rw all.0 (none_lacks batch rs all.1)

may_be_ended : (batch : List Operation) (s : Copies) → has_all batch s.primary ≡ true → AllByRecursion (λ (r : Replica). has_all batch r.copy ≡ true) s.replicas
    → is_none (lacks batch s) ≡ true
may_be_ended batch s own others = rw own (rw (none_lacks batch s.replicas others) refl)

-- ---- no write

-- where the first write was sent, it is the one that is found under its number
first_write : (t : Task) (w : Write) (writes : List Write) → t.writes ≡ w ∷ writes → is_sent w.progress ≡ true
    → sent_write (replicating t) w.number ≡ Some (record { task = t; write = w })
first_write t w writes is sent = ap (λ (o : Option Write). option_map {T = Write} {U = Sent} (λ w. record { task = t; write = w }) o) found
  where
    found : write_sent t w.number ≡ Some w
    found = rw is (rw (itself w.number) (rw sent refl))

-- the primary has processed a write that may not be applied
applied_there : (own : Follower) (w : Sent) → may_apply own own.epoch w.write.batch (Some w) ≡ false → has_all w.write.batch own.copies.primary ≡ true
applied_there own w none =
    third (own.epoch == own.epoch) (same_operations w.write.batch w.write.batch) (has_all w.write.batch own.copies.primary) (itself own.epoch) (same_operations-self w.write.batch) none
  where
    third : (a b c : Bool) → a ≡ true → b ≡ true → ((a && b) && not c) ≡ false → c ≡ true
    third a b true first second one = refl
    third true true false first second one = cc
    third true false false first second one = cc
    third false b false first second one = cc

abbrev IsReplicaOf : Past → ℕ → List ℕ → Copies → Replica → Type 0
IsReplicaOf p f history s r =
    ReplicaOk (line_of p history) ((p.followers f).given r.copy.number) (p.followers f).restored (p.followers f).written s.primary.number s.primary.global s.next r

-- the replicas of a follower have processed what its primary has of a batch
replicas_hold : (p : Past) → IsGroundOfSettling p → IsStill p → (f : ℕ) (own : Follower) (batch : List Operation) → slice_get p.state.followers f ≡ Some own
    → has_all batch own.copies.primary ≡ true → AllByRecursion (λ (r : Replica). has_all batch r.copy ≡ true) own.copies.replicas
replicas_hold p ground still f own batch there all =
    each_found (IsReplicaOf p f own.history own.copies) (λ (r : Replica). has_all batch r.copy ≡ true) own.copies.replicas copies.apart
    (λ r found ok. each_processed own.copies r batch ok.resynced (λ seq. none seq r found) all) copies.others
  where
    copies : CopiesOf (line_of p own.history) (p.followers f).given (p.followers f).restored (p.followers f).written own.copies
    copies = (ground.followers.copies.made f own there).copies

    none : (seq : ℕ) (r : Replica) → IsFound own.copies.replicas r → may_replicate seq own.copies r ≡ false
    none seq r found =
        subst (λ (o : Option Replica). option_map_or (may_replicate seq own.copies) o false ≡ false) found
        (subst (λ (o : Option Follower). for_replica (may_replicate seq) r.copy.number (option_map {T = Follower} {U = Copies} (λ own. own.copies) o) ≡ false) there
        (still.done (events.Replicate (sides.Follower f) r.copy.number seq)))

no_write : (p : Past) → IsGroundOfSettling p → IsStill p → (f : ℕ) (own : Follower) (t : Task) (w : Write) (writes : List Write)
    → slice_get p.state.followers f ≡ Some own → own.work ≡ replicating t
    → t.writes ≡ w ∷ writes → is_sent w.progress ≡ true → ⊥
no_write p ground still f own t w writes there is first sent =
    let found : sent_write own.work w.number ≡ Some (record { task = t; write = w }) = ap (λ (work : Work). sent_write work w.number) is ∙ first_write t w writes first sent in
    let apply : may_apply own own.epoch w.batch (sent_write own.work w.number) ≡ false
    = subst (λ (o : Option Follower). option_map_or (λ (x : Follower). may_apply x own.epoch w.batch (sent_write x.work w.number)) o false ≡ false) there
    (still.done (events.Apply f own.epoch w.number w.batch)) in
    let all : has_all w.batch own.copies.primary ≡ true
    = applied_there own (record { task = t; write = w }) (subst (λ (o : Option Sent). may_apply own own.epoch w.batch o ≡ false) found apply) in
    let end : may_end own (sent_write own.work w.number) ≡ false
    = subst (λ (o : Option Follower). option_map_or (λ (own : Follower). may_end own (sent_write own.work w.number)) o false ≡ false) there (still.done (events.Written f w.number)) in
    let stays : is_none (lacks w.batch own.copies) ≡ false = subst (λ (o : Option Sent). may_end own o ≡ false) found end in
    let ends : is_none (lacks w.batch own.copies) ≡ true = may_be_ended w.batch own.copies all (replicas_hold p ground still f own w.batch there all) in
    cc

-- ---- nothing to write

-- each write was sent
all_sent : (t : Task) → IsTaskPending t → waits_until (replicating t) ≡ None → AllByRecursion (λ (w : Write). is_sent w.progress ≡ true) t.writes
all_sent t pending untimed = All-weaker
    (λ (w : Write). (is_held_back w.progress ≡ false) × IsSentOrHeld w.progress) (λ (w : Write). is_sent w.progress ≡ true) (λ w both. both.1 both.0) t.writes
    (All-both (λ (w : Write). is_held_back w.progress ≡ false) (λ (w : Write). IsSentOrHeld w.progress) t.writes pending.writes
    (All-map_back IsSentOrHeld (λ (w : Write). w.progress) t.writes
    (All-append_back IsSentOrHeld (if may_read t then map {A = Read} {B = Progress} (λ r. r.progress) t.reads else []) (map {A = Write} {B = Progress} (λ w. w.progress) t.writes)
    (sent_or_held (waits_in (replicating t)) untimed))))

-- with no write, an active task has emptied its buffer, and another has none
no_buffer : (t : Task) → IsTaskPending t → 1 ≤ t.params.max_outstanding_write_requests → (is_active t.phase ≡ true → IsSaturated t) → t.writes ≡ [] → t.buffer ≡ []
no_buffer t pending some saturated none = by (is_active t.phase) refl
  where
    either : (t.buffer ≡ []) ⊎ (t.params.max_outstanding_write_requests ≤ length t.writes) → t.buffer ≡ []
    either (inl empty) = empty
    either (inr full) =
        let zero : length t.writes ≡ 0 = ap (λ (writes : List Write). length writes) none in
        absurd (omega arith)

    by : (b : Bool) → is_active t.phase ≡ b → t.buffer ≡ []
    by true is = either (saturated is).writes
    by false isnt = pending.buffer isnt

pub writes-end : WritesEnd
writes-end p ground still f own t there is = record {
  writes = none;
  buffer = no_buffer t pending good.sound.params.max_outstanding_write_requests.some good.saturated none;
}
  where
    pending : IsTaskPending t
    pending = subst IsWorkPending is (ground.pending f own there)

    good : IsGoodTask (line_of p own.history) t (p.followers f).begun_at (p.followers f).written
    good = (subst (λ (work : Work). IsGoodWork (line_of p own.history) (p.followers f).begun_at (p.followers f).written own.epoch work) is (ground.tasks.followers.made f own there).work).0

    by : (writes : List Write) → t.writes ≡ writes → writes ≡ []
    by [] empty = refl
    by (w ∷ writes) first =
        let sent : AllByRecursion (λ (w : Write). is_sent w.progress ≡ true) (w ∷ writes)
        = subst (λ (writes : List Write). AllByRecursion (λ (w : Write). is_sent w.progress ≡ true) writes) first
        (all_sent t pending (subst (λ (work : Work). waits_until work ≡ None) is (still.untimed f own there))) in
        absurd (no_write p ground still f own t w writes there is first sent.0)

    none : t.writes ≡ []
    none = by t.writes refl
