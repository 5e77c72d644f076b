-- The events of the leader's side but for deliveries.
use Rattle.std.specs.Prelude.{slice_get, not, nat_lt, ◌==◌}
use Rattle.std.specs.Str.{bytes_eq}
use Rattle.std.proofs.Common.{◌≡◌, ℕ, ◌+◌, ◌≤◌, true, false, List, [], ◌++◌, Option, Some, None, refl, sym, ◌∙◌, subst, arith}
use Rattle.std.proofs.lemmas.List.{append-nil}
use Rattle.std.proofs.lemmas.Slice.Eq.{bytes_eq-Decides}
use Rattle.ccr_op.specs.Operation.{Operation}
use Rattle.ccr_doc.specs.declared.sources.BadSource.{BadSource as SourceFault}
use Rattle.ccr_lease.specs.Leases.{expired, supersedes}
use Rattle.ccr_lease.specs.declared.retention.Expired.{Expired}
use Rattle.ccr_wire.specs.Message.{Frame}
use Rattle.ccr_journal.specs.declared.requests.WriteRequest.{WriteRequest}
use Rattle.ccr_journal.specs.declared.sides.Side.TheVariants as sides
use Rattle.ccr_journal.specs.declared.events.Event.{Event}
use Rattle.ccr_journal.specs.declared.events.Event.TheVariants as events
use Rattle.ccr_journal.specs.declared.replies.Refusal.TheVariants.{NoFollower, NoStale}
use Rattle.ccr_model.specs.Outcomes.{Outcome, refused, within}
use Rattle.ccr_model.specs.Copies.{Copy, Replica, Copies, all_copies, replica_of, counted, replaced, without, knowing}
use Rattle.ccr_model.specs.CopyRows.{replicate_row, ack_row, sync_row, taking_leases, fail_copy_row, add_copy_row, flush_row, merge_row, follower_promote_row}
use Rattle.ccr_model.specs.Leaders.{Leader, Poll, polls_of, without_poll, history_of_term}
use Rattle.ccr_model.specs.LeaderRows.{with_copies, write_row, leader_promote_row, force_promote_row, resync_row, leader_fail_copy_row, leader_clock_row, expire_row, close_sessions_row, leader_status_row, settling_requests}
use Rattle.ccr_model.specs.LeaderFrames.{wake_row, polled_copy, leader_wake}
use Rattle.ccr_model.specs.Followers.{Follower, Work, uuid_of}
use Rattle.ccr_model.specs.LeaseHistory.{LeaseNote, number_in, notes_of}
use Rattle.ccr_model.specs.LeaseHistory as history
use Rattle.ccr_model.specs.World.{at_leader}
use Rattle.ccr_model.specs.Step.{woken}
use Rattle.ccr_model.specs.Past.{Past, line_of, past_with, sending_place, delivered_to_leader}
use Rattle.ccr_law_base.proofs.Cases.{on_if, on_guards}
use Rattle.ccr_law_base.proofs.Lists.{All-every, All-map, All-map_back, All-replaced, All-without, All-find, All-filter, All-at}
use Rattle.ccr_law_base.proofs.Stays.{history_stays}
use Rattle.ccr_law_retention.specs.Grounds.{FloorsLow, NoneHasNext, HasGrounds}
use Rattle.ccr_law_retention.specs.Retaining.{IsToldTruly, AreRetaining, IsRetaining}
use Rattle.ccr_law_retention.proofs.Lists.{not_other}
use Rattle.ccr_law_retention.proofs.Growing.{ReadsFrom}
use Rattle.ccr_law_retention.proofs.LeaderNotes.{Says, says-nothing, settled-says, FloorsStay, floor-of, below-floor}
use Rattle.ccr_law_retention.proofs.Places.{Knows, is_taking, past-unmoved, StaysInHistory, none-begins, refused-stays, refused-place, leader-place}

-- ---- rows that send nothing

pub write-quiet : (s : Copies) (request : WriteRequest) (fault : Option SourceFault) (found : Option Operation) → (write_row s request fault found).sent ≡ []
unfolding write_row
write-quiet s request (Some fault) found = refl
write-quiet s request None found = on_guards (λ (o : Outcome Copies). o.sent ≡ []) s _ _ (λ why. refl) (λ tests. refl)

pub replicate-quiet : (s : Copies) (copy seq : ℕ) (found : Option Replica) → (replicate_row s copy seq found).sent ≡ []
unfolding replicate_row
replicate-quiet s copy seq None = refl
replicate-quiet s copy seq (Some r) = on_guards (λ (o : Outcome Copies). o.sent ≡ []) s _ _ (λ why. refl) (λ tests. refl)

pub ack-quiet : (s : Copies) (copy : ℕ) (found : Option Replica) → (ack_row s copy found).sent ≡ []
unfolding ack_row
ack-quiet s copy None = refl
ack-quiet s copy (Some r) = on_guards (λ (o : Outcome Copies). o.sent ≡ []) s _ _ (λ why. refl) (λ tests. refl)

pub sync-quiet : (s : Copies) (copy : ℕ) (found : Option Replica) → (sync_row s copy found).sent ≡ []
unfolding sync_row
sync-quiet s copy None = refl
sync-quiet s copy (Some r) = on_guards (λ (o : Outcome Copies). o.sent ≡ []) s _ _ (λ why. refl) (λ tests. refl)

pub fail-quiet : (s : Copies) (copy : ℕ) (found : Option Replica) → (fail_copy_row s copy found).sent ≡ []
unfolding fail_copy_row
fail-quiet s copy None = refl
fail-quiet s copy (Some r) = refl

pub add-quiet : (s : Copies) → (add_copy_row s).sent ≡ []
unfolding add_copy_row
add-quiet s = on_guards (λ (o : Outcome Copies). o.sent ≡ []) s _ _ (λ why. refl) (λ tests. refl)

pub flush-quiet : (s : Copies) (copy : ℕ) (found : Option Copy) → (flush_row s copy found).sent ≡ []
unfolding flush_row
flush-quiet s copy None = refl
flush-quiet s copy (Some c) = refl

pub merge-quiet : (s : Copies) (retention copy : ℕ) (picks : List ℕ) (found : Option Copy) → (merge_row s retention copy picks found).sent ≡ []
unfolding merge_row
merge-quiet s retention copy picks None = refl
merge-quiet s retention copy picks (Some c) = refl

pub follower-promote-quiet : (s : Copies) (copy : ℕ) (found : Option Replica) → (follower_promote_row s copy found).sent ≡ []
unfolding follower_promote_row
follower-promote-quiet s copy None = refl
follower-promote-quiet s copy (Some r) = refl

pub promote-quiet : (s : Leader) (copy : ℕ) (found : Option Replica) → (leader_promote_row s copy found).sent ≡ []
unfolding leader_promote_row
promote-quiet s copy None = refl
promote-quiet s copy (Some r) = refl

pub resync-quiet : (s : Copies) (copy : ℕ) (found : Option Replica) → (resync_row s copy found).sent ≡ []
unfolding resync_row
resync-quiet s copy None = refl
resync-quiet s copy (Some r) = on_if (λ (o : Outcome Copies). o.sent ≡ []) r.resynced _ _ (λ is. refl) (λ isnt. refl)

pub clock-quiet : (s : Leader) (now : ℕ) → (leader_clock_row s now).sent ≡ []
unfolding leader_clock_row
clock-quiet s now = refl

pub close-quiet : (s : Leader) → (close_sessions_row s).sent ≡ []
unfolding close_sessions_row
close-quiet s = refl

pub status-quiet : (s : Leader) → (leader_status_row s).sent ≡ []
unfolding leader_status_row
status-quiet s = refl

-- an event that sends and notes nothing
pub leader-quiet : (p : Past) (event : Event) (o : Outcome Leader) → is_taking event ≡ false → StaysInHistory p event o.reply → o.next.history ≡ p.state.leader.history → notes_of p.state.leader o.next.copies p.place (delivered_to_leader p.state event) event o.reply ≡ [] → o.sent ≡ []
    → HasGrounds p → IsRetaining p → IsRetaining (past_with p (record { event = event; reply = o.reply }) (at_leader p.state o))
leader-quiet p event o isnt stays same notes sent grounds all =
    leader-place p event o isnt stays same grounds
    (λ to lease work knows.
    subst (λ (new : List LeaseNote). Says to p.state.leader.history lease work p.place p.notes p.line.cut (all_copies p.state.leader.copies) p.state.flight new o.sent) (sym notes)
    (subst (λ (ms : List Frame). Says to p.state.leader.history lease work p.place p.notes p.line.cut (all_copies p.state.leader.copies) p.state.flight [] ms) (sym sent)
    (says-nothing to p.state.leader.history lease work p.place p.notes p.line.cut (all_copies p.state.leader.copies) p.state.flight))) all

-- ---- events that answer what was kept

-- what an event says that no message brings
abbrev pub SaysAfter : (List ℕ → Type 0) → List ℕ → Work → Past → Event → Outcome Leader → Type 0
SaysAfter to lease work p event o =
    Says to p.state.leader.history lease work p.place p.notes p.line.cut (all_copies p.state.leader.copies) p.state.flight (notes_of p.state.leader o.next.copies p.place None event o.reply) o.sent

floors-replaced : (s : Copies) (copy : ℕ) (new : Replica) → ((b : ℕ) → FloorsLow b (all_copies s) → new.copy.floor ≤ b) → FloorsStay s (record s { replicas = replaced copy new s.replicas })
floors-replaced s copy new low b floors = (
  floors.0,
  All-map (λ (c : Copy). c.floor ≤ b) (λ (r : Replica). r.copy) (replaced copy new s.replicas)
      (All-replaced (λ (r : Replica). r.copy.floor ≤ b) copy new s.replicas (low b floors) (All-map_back (λ (c : Copy). c.floor ≤ b) (λ (r : Replica). r.copy) s.replicas floors.1)),
)

floors-without : (s : Copies) (copy : ℕ) → FloorsStay s (counted record s { replicas = without copy s.replicas })
floors-without s copy b floors = (
  floors.0,
  All-map (λ (c : Copy). c.floor ≤ b) (λ (r : Replica). r.copy) (without copy s.replicas)
      (All-without (λ (r : Replica). r.copy.floor ≤ b) copy s.replicas (All-map_back (λ (c : Copy). c.floor ≤ b) (λ (r : Replica). r.copy) s.replicas floors.1)),
)

floor-found : (s : Copies) (copy : ℕ) (r : Replica) → replica_of s copy ≡ Some r → (b : ℕ) → FloorsLow b (all_copies s) → r.copy.floor ≤ b
floor-found s copy r is b floors =
    (All-find (λ (r : Replica). r.copy.floor ≤ b) (λ r. r.copy.number == copy) s.replicas r (All-map_back (λ (c : Copy). c.floor ≤ b) (λ (r : Replica). r.copy) s.replicas floors.1) is).0

taking-floor : (primary c : Copy) (b : ℕ) → c.floor ≤ b → (taking_leases primary c).floor ≤ b
taking-floor primary c b low = on_if (λ (x : Copy). x.floor ≤ b) (supersedes primary.leases c.leases) (record c { leases = primary.leases }) c (λ is. low) (λ isnt. low)

sync-says : (to : List ℕ → Type 0) (lease : List ℕ) (work : Work) (p : Past) (copy : ℕ) (found : Option Replica) → replica_of p.state.leader.copies copy ≡ found → Knows to lease work p
    → SaysAfter to lease work p (events.Sync sides.Leader copy) (settling_requests (within (with_copies p.state.leader) (sync_row p.state.leader.copies copy found)))
unfolding sync_row
sync-says to lease work p copy None is knows = says-nothing to p.state.leader.history lease work p.place p.notes p.line.cut (all_copies p.state.leader.copies) p.state.flight
sync-says to lease work p copy (Some r) is knows =
    let s : Copies = p.state.leader.copies in
    let new : Replica = record r { copy = taking_leases s.primary (knowing s.primary.global r.copy) } in
    on_guards (λ (o : Outcome Copies). SaysAfter to lease work p (events.Sync sides.Leader copy) (settling_requests (within (with_copies p.state.leader) o))) s _ _
    (λ why. says-nothing to p.state.leader.history lease work p.place p.notes p.line.cut (all_copies s) p.state.flight)
    (λ tests. settled-says to lease work p.place p.notes p.line.cut p.state.flight p.state.leader (record s { replicas = replaced copy new s.replicas })
    (floors-replaced s copy new (λ b floors. taking-floor s.primary (knowing s.primary.global r.copy) b (floor-found s copy r is b floors))) knows.kept)

fail-says : (to : List ℕ → Type 0) (lease : List ℕ) (work : Work) (p : Past) (copy : ℕ) (found : Option Replica) → Knows to lease work p
    → SaysAfter to lease work p (events.FailCopy sides.Leader copy) (settling_requests (leader_fail_copy_row p.state.leader copy found))
unfolding leader_fail_copy_row fail_copy_row
fail-says to lease work p copy None knows = says-nothing to p.state.leader.history lease work p.place p.notes p.line.cut (all_copies p.state.leader.copies) p.state.flight
fail-says to lease work p copy (Some r) knows =
    settled-says to lease work p.place p.notes p.line.cut p.state.flight p.state.leader (counted record p.state.leader.copies { replicas = without copy p.state.leader.copies.replicas })
    (floors-without p.state.leader.copies copy) knows.kept

expire-says : (to : List ℕ → Type 0) (lease : List ℕ) (work : Work) (p : Past) → SaysAfter to lease work p events.Expire (expire_row p.state.leader)
unfolding expire_row
expire-says to lease work p = record {
  low = λ id b floors renewals.
      All-map (λ (note : LeaseNote). bytes_eq note.id id ≡ true → number_in note.deed ≤ b) (λ (gone : Expired). record { id = gone.id; place = p.place; deed = history.dropped })
      (expired p.state.leader.now p.state.leader.start.period p.state.leader.copies.primary.leases.leases)
      (All-every (λ (gone : Expired). bytes_eq gone.id id ≡ true → 0 ≤ b) (λ gone is. omega arith) (expired p.state.leader.now p.state.leader.start.period p.state.leader.copies.primary.leases.leases));
  said = tt;
}

-- ---- polls

abbrev pub SaysWoken : (List ℕ → Type 0) → List ℕ → Work → Past → Outcome Leader → Type 0
SaysWoken to lease work p o = Says to p.state.leader.history lease work p.place p.notes p.line.cut (all_copies p.state.leader.copies) p.state.flight [] o.sent

wake-says : (to : List ℕ → Type 0) (lease : List ℕ) (work : Work) (p : Past) (follower : List ℕ) (at : ℕ) (found : Option Poll) (c : Option Copy) → slice_get (polls_of p.state.leader.polls follower) at ≡ found
    → polled_copy p.state.leader.copies found ≡ c → Knows to lease work p → SaysWoken to lease work p (wake_row p.state.leader follower at found c)
unfolding wake_row
wake-says to lease work p follower at None c is own knows = says-nothing to p.state.leader.history lease work p.place p.notes p.line.cut (all_copies p.state.leader.copies) p.state.flight
wake-says to lease work p follower at (Some x) None is own knows = says-nothing to p.state.leader.history lease work p.place p.notes p.line.cut (all_copies p.state.leader.copies) p.state.flight
wake-says to lease work p follower at (Some x) (Some c) is own knows =
    let s : Leader = p.state.leader in
    let next : Leader = record s { polls = without_poll follower at s.polls } in
    let reads : to x.follower → x.history ≡ s.history → ReadsFrom s.history work x.request x.from =
    All-at (λ (y : Poll). to y.follower → y.history ≡ s.history → ReadsFrom s.history work y.request y.from) (polls_of s.polls follower) at x
    (All-filter (λ (y : Poll). to y.follower → y.history ≡ s.history → ReadsFrom s.history work y.request y.from) (λ y. bytes_eq y.follower follower) s.polls knows.polls) is in
    let P : Outcome Leader → Type 0 = λ (o : Outcome Leader). SaysWoken to lease work p o in
    on_guards P s _ _ (λ why. says-nothing to p.state.leader.history lease work p.place p.notes p.line.cut (all_copies s.copies) p.state.flight)
    (λ tests. on_if P (not (bytes_eq x.history s.history)) _ _
    (λ other. record { low = λ id b floors renewals. tt; said = (tt, tt) })
    (λ same. on_if P (nat_lt x.from c.floor) _ _
    (λ low. record { low = λ id b floors renewals. tt; said = ((λ it. ((λ b floors. below-floor x.from b c low (floor-of b s.copies x.copy c floors own)), reads it (not_other x.history s.history same))), tt) })
    (λ high. record { low = λ id b floors renewals. tt; said = (tt, tt) })))

-- ---- the events

pub sync-place : (p : Past) (copy : ℕ) → HasGrounds p → IsRetaining p
    → IsRetaining (past_with p (record { event = events.Sync sides.Leader copy; reply = (settling_requests (within (with_copies p.state.leader) (sync_row p.state.leader.copies copy (replica_of p.state.leader.copies copy)))).reply })
    (at_leader p.state (settling_requests (within (with_copies p.state.leader) (sync_row p.state.leader.copies copy (replica_of p.state.leader.copies copy))))))
sync-place p copy grounds all =
    leader-place p (events.Sync sides.Leader copy) (settling_requests (within (with_copies p.state.leader) (sync_row p.state.leader.copies copy (replica_of p.state.leader.copies copy)))) refl (none-begins p (events.Sync sides.Leader copy) _ refl)
    (history_stays p.state (events.Sync sides.Leader copy) [] refl) grounds
    (λ to lease work knows. sync-says to lease work p copy (replica_of p.state.leader.copies copy) refl knows) all

pub fail-place : (p : Past) (copy : ℕ) → HasGrounds p → IsRetaining p
    → IsRetaining (past_with p (record { event = events.FailCopy sides.Leader copy; reply = (settling_requests (leader_fail_copy_row p.state.leader copy (replica_of p.state.leader.copies copy))).reply })
    (at_leader p.state (settling_requests (leader_fail_copy_row p.state.leader copy (replica_of p.state.leader.copies copy)))))
fail-place p copy grounds all =
    leader-place p (events.FailCopy sides.Leader copy) (settling_requests (leader_fail_copy_row p.state.leader copy (replica_of p.state.leader.copies copy))) refl (none-begins p (events.FailCopy sides.Leader copy) _ refl)
    (history_stays p.state (events.FailCopy sides.Leader copy) [] refl) grounds
    (λ to lease work knows. fail-says to lease work p copy (replica_of p.state.leader.copies copy) knows) all

pub expire-place : (p : Past) → HasGrounds p → IsRetaining p
    → IsRetaining (past_with p (record { event = events.Expire; reply = (expire_row p.state.leader).reply }) (at_leader p.state (expire_row p.state.leader)))
expire-place p grounds all =
    leader-place p events.Expire (expire_row p.state.leader) refl (none-begins p events.Expire _ refl) (history_stays p.state events.Expire [] refl) grounds
    (λ to lease work knows. expire-says to lease work p) all

pub wake-place : (p : Past) (f at : ℕ) (found : Option Follower) → (woken p.state f at found).next.leader.history ≡ p.state.leader.history → HasGrounds p → IsRetaining p
    → IsRetaining (past_with p (record { event = events.Wake f at; reply = (woken p.state f at found).reply }) (woken p.state f at found))
wake-place p f at None same grounds all = refused-place p (events.Wake f at) (NoFollower f) all
wake-place p f at (Some x) same grounds all =
    leader-place p (events.Wake f at) (leader_wake p.state.leader (uuid_of f) at) refl (none-begins p (events.Wake f at) _ refl) same grounds
    (λ to lease work knows. wake-says to lease work p (uuid_of f) at (slice_get (polls_of p.state.leader.polls (uuid_of f)) at)
    (polled_copy p.state.leader.copies (slice_get (polls_of p.state.leader.polls (uuid_of f)) at)) refl refl knows) all

-- no follower has the history that begins; the notes are those from before it
pub force-place : (p : Past) (copy : ℕ) (found : Option Copy) → HasGrounds p → NoneHasNext p → IsRetaining p
    → IsRetaining (past_with p (record { event = events.ForcePromote copy; reply = (force_promote_row p.state.leader copy found).reply }) (at_leader p.state (force_promote_row p.state.leader copy found)))
unfolding force_promote_row
force-place p copy None grounds fresh all =
    leader-quiet p (events.ForcePromote copy) (refused p.state.leader (NoStale copy)) refl (refused-stays p (events.ForcePromote copy) (NoStale copy)) refl refl refl grounds all
force-place p copy (Some c) grounds fresh all =
    let event : Event = events.ForcePromote copy in
    let o : Outcome Leader = force_promote_row p.state.leader copy (Some c) in
    let next : List ℕ = history_of_term p.state.leader.start.history (p.state.leader.copies.term + 1) in
    let after : Past = past_with p (record { event = event; reply = o.reply }) (at_leader p.state o) in
    let now : ℕ → Option ℕ = λ f. (after.followers f).answer in
    let same : (f : ℕ) → now f ≡ (p.followers f).answer = λ f. past-unmoved f (p.followers f) (sending_place p.sent_at event) event o.reply (line_of p) (slice_get p.state.followers f) in
    let none : (f : ℕ) (x : Follower) → slice_get p.state.followers f ≡ Some x → x.history ≡ next → ⊥ = λ f x there is.
    absurd (let other : bytes_eq x.history next ≡ false = fresh f x there in let own : bytes_eq x.history next ≡ true = (bytes_eq-Decides x.history next).1 is in cc) in
    subst (λ (flight : List Frame). AreRetaining next p.state.followers now [] (p.notes ++ p.earlier) flight (p.sent_at ++ []) after.line.cut) (sym (append-nil p.state.flight))
    (subst (λ (places : List ℕ). AreRetaining next p.state.followers now [] (p.notes ++ p.earlier) p.state.flight places after.line.cut) (sym (append-nil p.sent_at)) (record {
      made = λ f x there is. absurd (none f x there is);
      opens = λ f x there is. absurd (none f x there is);
      told = λ f x there. subst (λ (a : Option ℕ). IsToldTruly a (p.notes ++ p.earlier) p.state.flight (uuid_of f) x.lease x.work) (sym (same f)) (all.told f x there);
      unmade = λ f at. same f ∙ all.unmade f at;
      paired = all.paired;
      early = λ id nobody. record { low = omega arith; none = (all.early id nobody).none };
      apart = all.apart;
    }))
