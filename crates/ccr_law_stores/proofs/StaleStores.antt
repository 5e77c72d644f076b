-- What each event keeps of what the stale copies hold.
use Rattle.std.proofs.Common.{◌≡◌, ℕ, ◌<◌, ◌==◌, Bool, true, false, if◌then◌else◌, Option, Some, None, List, refl, sym, subst, arith}
use Rattle.std.proofs.lemmas.Bool.Decides.{nat_tests}
use Rattle.ccr_op.specs.Operation.{Operation}
use Rattle.ccr_doc.specs.declared.sources.BadSource.{BadSource as SourceFault}
use Rattle.ccr_journal.specs.declared.requests.WriteRequest.{WriteRequest}
use Rattle.ccr_journal.specs.declared.sides.Side.TheVariants as sides
use Rattle.ccr_journal.specs.declared.events.Event.{Event}
use Rattle.ccr_journal.specs.declared.events.Event.TheVariants as events
use Rattle.ccr_model.specs.Outcomes.{Outcome}
use Rattle.ccr_model.specs.Copies.{Copy, Replica, Copies, replica_of}
use Rattle.ccr_model.specs.CopyRows.{replicate_row, fail_copy_row, add_copy_row}
use Rattle.ccr_model.specs.Given.{gave, joined_at}
use Rattle.ccr_model.specs.Leaders.{stale_of}
use Rattle.ccr_model.specs.LeaderRows.{write_row, leader_promote_row, force_promote_row, resync_row, resync_mark, leader_fail_copy_row, settling_requests}
use Rattle.ccr_model.specs.World.{State, at_leader}
use Rattle.ccr_model.specs.Step.{step}
use Rattle.ccr_model.specs.Past.{Past, given_after, resync_given}
use Rattle.ccr_law_base.specs.Events.{past_by}
use Rattle.ccr_law_base.proofs.Cases.{on_if, on_guards}
use Rattle.ccr_law_base.proofs.Stays.{Stays, leader_stays, may_change}
use Rattle.ccr_law_base.proofs.Lists.{All-weaker, All-both, All-find}
use Rattle.ccr_law_copies.specs.Cores.{StaleOk, AreStaleOf, IsCore}
use Rattle.ccr_law_copies.proofs.Replicas.{gave-other}
use Rattle.ccr_law_copies.proofs.LeaderRows.{at_copies}
use Rattle.ccr_law_copies.proofs.StaleCopies.{All-with_stale, found_aside}
use Rattle.ccr_law_copies.proofs.LeaderEvents.{living}
use Rattle.ccr_law_stores.specs.TrueStores.{IsSound, AreTrueStoresOf, HasTrueStores, AreSoundStale}

abbrev pub SoundAfter : Past → Event → Outcome State → Type 0
SoundAfter p event o = AreSoundStale (given_after p.state.leader p.given event o.reply) o.next.leader.stale

-- what a copy was given that is none of these changes nothing of them
aside : (p : Past) (copy : ℕ) (ops : ℕ → Option Operation)
    → ((c : Copy) → StaleOk (p.given c.number) p.state.leader.copies.primary.number p.state.leader.copies.next p.state.leader.copies.replicas c.number c.seen c.global → (c.number == copy) ≡ false)
    → AreStaleOf p.given p.state.leader → AreSoundStale p.given p.state.leader.stale → AreSoundStale (gave p.given copy ops) p.state.leader.stale
aside p copy ops other core ok =
    All-weaker (λ (c : Copy). StaleOk (p.given c.number) p.state.leader.copies.primary.number p.state.leader.copies.next p.state.leader.copies.replicas c.number c.seen c.global × IsSound (p.given c.number) 0 c)
    (λ (c : Copy). IsSound (gave p.given copy ops c.number) 0 c)
    (λ c both. subst (λ (o : ℕ → Option Operation). IsSound o 0 c) (sym (gave-other p.given copy ops c.number (other c both.0))) both.1)
    p.state.leader.stale
    (All-both (λ (c : Copy). StaleOk (p.given c.number) p.state.leader.copies.primary.number p.state.leader.copies.next p.state.leader.copies.replicas c.number c.seen c.global)
    (λ (c : Copy). IsSound (p.given c.number) 0 c) p.state.leader.stale core ok)

quietly : (p : Past) (event : Event) (picks : List ℕ) → may_change event ≡ false → AreSoundStale p.given p.state.leader.stale
    → AreSoundStale p.given (step p.state event picks).next.leader.stale
quietly p event picks quiet ok =
    let stays : Stays p.state.leader (step p.state event picks).next.leader = leader_stays p.state event picks quiet in
    subst (AreSoundStale p.given) (sym stays.stale) ok

write_sound : (p : Past) (request : WriteRequest) (fault : Option SourceFault) (found : Option Operation) → IsCore p → AreSoundStale p.given p.state.leader.stale
    → SoundAfter p (events.Write request) (at_copies p (write_row p.state.leader.copies request fault found))
unfolding write_row
write_sound p request (Some fault) found core ok = ok
write_sound p request None found core ok =
    on_guards (λ (o : Outcome Copies). SoundAfter p (events.Write request) (at_copies p o)) p.state.leader.copies _ _ (λ why. ok)
    (λ tests. aside p p.state.leader.copies.primary.number _ (λ c is. is.other) core.stale ok)

replicate_sound : (p : Past) (copy seq : ℕ) (found : Option Replica) → replica_of p.state.leader.copies copy ≡ found → IsCore p → AreSoundStale p.given p.state.leader.stale
    → SoundAfter p (events.Replicate sides.Leader copy seq) (at_copies p (replicate_row p.state.leader.copies copy seq found))
unfolding replicate_row
replicate_sound p copy seq None is core ok = ok
replicate_sound p copy seq (Some r) is core ok =
    on_guards (λ (o : Outcome Copies). SoundAfter p (events.Replicate sides.Leader copy seq) (at_copies p o)) p.state.leader.copies _ _ (λ why. ok)
    (λ tests. aside p copy _ (λ c own. found_aside p.line p.given p.state.leader.copies copy r c (living p core) is own) core.stale ok)

promote_sound : (p : Past) (copy : ℕ) (found : Option Replica) → replica_of p.state.leader.copies copy ≡ found → IsCore p → AreSoundStale p.given p.state.leader.stale
    → SoundAfter p (events.Promote sides.Leader copy) (at_leader p.state (leader_promote_row p.state.leader copy found))
unfolding leader_promote_row
promote_sound p copy None is core ok = ok
promote_sound p copy (Some r) is core ok = aside p copy _ (λ c own. found_aside p.line p.given p.state.leader.copies copy r c (living p core) is own) core.stale ok

resync_sound : (p : Past) (copy : ℕ) (found : Option Replica) → replica_of p.state.leader.copies copy ≡ found → IsCore p → AreSoundStale p.given p.state.leader.stale
    → SoundAfter p (events.Resync copy) (at_copies p (resync_row p.state.leader.copies copy found))
unfolding resync_row
resync_sound p copy None is core ok = ok
resync_sound p copy (Some r) is core ok =
    let s = p.state.leader.copies in
    on_if (λ (o : Outcome Copies). SoundAfter p (events.Resync copy) (at_copies p o)) r.resynced _ _
    (λ was. subst (λ (o : Option Replica). AreSoundStale (resync_given p.state.leader p.given copy o) p.state.leader.stale) (sym is)
    (subst (λ (b : Bool). AreSoundStale (if b then p.given else gave p.given copy (joined_at (resync_mark s r) (p.given copy) (p.given s.primary.number))) p.state.leader.stale) (sym was) ok))
    (λ wasnt. subst (λ (o : Option Replica). AreSoundStale (resync_given p.state.leader p.given copy o) p.state.leader.stale) (sym is)
    (subst (λ (b : Bool). AreSoundStale (if b then p.given else gave p.given copy (joined_at (resync_mark s r) (p.given copy) (p.given s.primary.number))) p.state.leader.stale) (sym wasnt)
    (aside p copy _ (λ c own. found_aside p.line p.given s copy r c (living p core) is own) core.stale ok)))

add_copy_sound : (p : Past) → IsCore p → AreSoundStale p.given p.state.leader.stale → SoundAfter p (events.AddCopy sides.Leader) (at_copies p (add_copy_row p.state.leader.copies))
unfolding add_copy_row
add_copy_sound p core ok =
    on_guards (λ (o : Outcome Copies). SoundAfter p (events.AddCopy sides.Leader) (at_copies p o)) p.state.leader.copies _ _ (λ why. ok)
    (λ tests. aside p p.state.leader.copies.next _ (λ c own. let lt : c.number < p.state.leader.copies.next = own.old in grind (arith, nat_tests)) core.stale ok)

fail_copy_sound : (p : Past) (copy : ℕ) (found : Option Replica) → replica_of p.state.leader.copies copy ≡ found → AreTrueStoresOf p.given p.state.leader.copies → AreSoundStale p.given p.state.leader.stale
    → SoundAfter p (events.FailCopy sides.Leader copy) (at_leader p.state (settling_requests (leader_fail_copy_row p.state.leader copy found)))
unfolding leader_fail_copy_row fail_copy_row
fail_copy_sound p copy None is living_ok ok = ok
fail_copy_sound p copy (Some r) is living_ok ok =
    let both : IsSound (p.given r.copy.number) 0 r.copy × ((r.copy.number == copy) ≡ true)
    = All-find (λ (x : Replica). IsSound (p.given x.copy.number) 0 x.copy) (λ x. x.copy.number == copy) p.state.leader.copies.replicas r living_ok.others is in
    All-with_stale (λ (c : Copy). IsSound (p.given c.number) 0 c) r.copy p.state.leader.stale both.0 ok

force_sound : (p : Past) (copy : ℕ) (found : Option Copy) → AreSoundStale p.given p.state.leader.stale
    → SoundAfter p (events.ForcePromote copy) (at_leader p.state (force_promote_row p.state.leader copy found))
unfolding force_promote_row
force_sound p copy None ok = ok
force_sound p copy (Some c) ok = tt

pub sound-keeps : (p : Past) (event : Event) (picks : List ℕ) → IsCore p → HasTrueStores p → AreSoundStale (past_by p event picks).given (past_by p event picks).state.leader.stale
sound-keeps p (events.Write request) picks core ok = write_sound p request _ _ core ok.stale
sound-keeps p (events.Replicate sides.Leader copy seq) picks core ok = replicate_sound p copy seq (replica_of p.state.leader.copies copy) refl core ok.stale
sound-keeps p (events.Promote sides.Leader copy) picks core ok = promote_sound p copy (replica_of p.state.leader.copies copy) refl core ok.stale
sound-keeps p (events.ForcePromote copy) picks core ok = force_sound p copy (stale_of p.state.leader.stale copy) ok.stale
sound-keeps p (events.Resync copy) picks core ok = resync_sound p copy (replica_of p.state.leader.copies copy) refl core ok.stale
sound-keeps p (events.FailCopy sides.Leader copy) picks core ok = fail_copy_sound p copy (replica_of p.state.leader.copies copy) refl (record { own = ok.own; others = ok.others }) ok.stale
sound-keeps p (events.AddCopy sides.Leader) picks core ok = add_copy_sound p core ok.stale
sound-keeps p (events.Ack sides.Leader copy) picks core ok = quietly p (events.Ack sides.Leader copy) picks refl ok.stale
sound-keeps p (events.Sync sides.Leader copy) picks core ok = quietly p (events.Sync sides.Leader copy) picks refl ok.stale
sound-keeps p (events.Flush sides.Leader copy) picks core ok = quietly p (events.Flush sides.Leader copy) picks refl ok.stale
sound-keeps p (events.Merge sides.Leader copy) picks core ok = quietly p (events.Merge sides.Leader copy) picks refl ok.stale
sound-keeps p (events.Clock sides.Leader now) picks core ok = quietly p (events.Clock sides.Leader now) picks refl ok.stale
sound-keeps p events.Expire picks core ok = quietly p events.Expire picks refl ok.stale
sound-keeps p events.CloseSessions picks core ok = quietly p events.CloseSessions picks refl ok.stale
sound-keeps p (events.Deliver at copy keep) picks core ok = quietly p (events.Deliver at copy keep) picks refl ok.stale
sound-keeps p (events.Drop at) picks core ok = quietly p (events.Drop at) picks refl ok.stale
sound-keeps p (events.Wake f at) picks core ok = quietly p (events.Wake f at) picks refl ok.stale
sound-keeps p (events.Follow params copies name) picks core ok = quietly p (events.Follow params copies name) picks refl ok.stale
sound-keeps p (events.Search side copy request) picks core ok = quietly p (events.Search side copy request) picks refl ok.stale
sound-keeps p (events.Status side) picks core ok = quietly p (events.Status side) picks refl ok.stale
sound-keeps p events.Settle picks core ok = quietly p events.Settle picks refl ok.stale
sound-keeps p (events.Replicate (sides.Follower f) copy seq) picks core ok = quietly p (events.Replicate (sides.Follower f) copy seq) picks refl ok.stale
sound-keeps p (events.Ack (sides.Follower f) copy) picks core ok = quietly p (events.Ack (sides.Follower f) copy) picks refl ok.stale
sound-keeps p (events.Sync (sides.Follower f) copy) picks core ok = quietly p (events.Sync (sides.Follower f) copy) picks refl ok.stale
sound-keeps p (events.Promote (sides.Follower f) copy) picks core ok = quietly p (events.Promote (sides.Follower f) copy) picks refl ok.stale
sound-keeps p (events.FailCopy (sides.Follower f) copy) picks core ok = quietly p (events.FailCopy (sides.Follower f) copy) picks refl ok.stale
sound-keeps p (events.AddCopy (sides.Follower f)) picks core ok = quietly p (events.AddCopy (sides.Follower f)) picks refl ok.stale
sound-keeps p (events.Flush (sides.Follower f) copy) picks core ok = quietly p (events.Flush (sides.Follower f) copy) picks refl ok.stale
sound-keeps p (events.Merge (sides.Follower f) copy) picks core ok = quietly p (events.Merge (sides.Follower f) copy) picks refl ok.stale
sound-keeps p (events.Clock (sides.Follower f) now) picks core ok = quietly p (events.Clock (sides.Follower f) now) picks refl ok.stale
sound-keeps p (events.Tick f) picks core ok = quietly p (events.Tick f) picks refl ok.stale
sound-keeps p (events.Lose f at) picks core ok = quietly p (events.Lose f at) picks refl ok.stale
sound-keeps p (events.LoseWrite f write) picks core ok = quietly p (events.LoseWrite f write) picks refl ok.stale
sound-keeps p (events.Take f write) picks core ok = quietly p (events.Take f write) picks refl ok.stale
sound-keeps p (events.Apply f epoch write batch) picks core ok = quietly p (events.Apply f epoch write batch) picks refl ok.stale
sound-keeps p (events.Written f write) picks core ok = quietly p (events.Written f write) picks refl ok.stale
sound-keeps p (events.Renew f) picks core ok = quietly p (events.Renew f) picks refl ok.stale
sound-keeps p (events.Pause f) picks core ok = quietly p (events.Pause f) picks refl ok.stale
sound-keeps p (events.Resume f) picks core ok = quietly p (events.Resume f) picks refl ok.stale
sound-keeps p (events.Restart f) picks core ok = quietly p (events.Restart f) picks refl ok.stale
sound-keeps p (events.Unfollow f) picks core ok = quietly p (events.Unfollow f) picks refl ok.stale
