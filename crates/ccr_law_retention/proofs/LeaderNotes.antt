-- What the leader says and notes: its answers are noted, and no note is above its floors and the renewals.
use Rattle.std.specs.Prelude.{◌==◌, filter, find, if◌then◌else◌, not, nat_lt, IfSome}
use Rattle.std.specs.Option.{option_map}
use Rattle.std.specs.List.{AllByRecursion, list_all}
use Rattle.std.specs.Str.{bytes_eq}
use Rattle.std.proofs.Common.{◌≡◌, ℕ, ◌+◌, ◌≤◌, ◌<◌, ◌&&◌, Bool, true, false, List, [], ◌∷◌, ◌++◌, map, Option, Some, None, refl, sym, subst, arith, append_assoc}
use Rattle.std.proofs.lemmas.Bool.{ltb-true, or_left, and_from}
use Rattle.ccr_lease.specs.declared.retention.Lease.{Lease}
use Rattle.ccr_lease.specs.Leases.{lease_of, renewed, without}
use Rattle.ccr_wire.specs.Message.{Frame}
use Rattle.ccr_wire.specs.declared.kind.LeaseResult.TheVariants as results
use Rattle.ccr_wire.specs.declared.content.Content.{Content}
use Rattle.ccr_wire.specs.declared.content.Content.TheVariants as contents
use Rattle.ccr_journal.specs.declared.events.Event.TheVariants as events
use Rattle.ccr_journal.specs.declared.replies.Heard.{Heard as Hearing}
use Rattle.ccr_journal.specs.declared.replies.Heard.TheVariants as heard
use Rattle.ccr_model.specs.Outcomes.{Outcome}
use Rattle.ccr_model.specs.Copies.{Copy, Replica, Copies, all_copies, copy_of, replica_of, not_ready, greatest, greatest_floor, has_lease, lacks_lease}
use Rattle.ccr_model.specs.Leaders.{Leader, Session, KeptRequest, Poll, session_of}
use Rattle.ccr_model.specs.LeaderRows.{all_hold, lease_answer, settling_requests}
use Rattle.ccr_model.specs.LeaderFrames.{hears, answer_to, read_ops, new_session, sizes_of, active_at, chunk_of, has_to_wait, read_row, with_leases, with_new_lease, answer_or_keep, lease_add_row, lease_renew_row, lease_remove_row, session_open_row, chunk_row, receive_row, leader_receive}
use Rattle.ccr_model.specs.LeaseHistory.{LeaseNote, number_in, notes_of, notes_of_kept, notes_of_content, notes_of_add}
use Rattle.ccr_model.specs.LeaseHistory as history
use Rattle.ccr_model.specs.Followers.{Work}
use Rattle.ccr_law_base.proofs.Cases.{on_if}
use Rattle.ccr_law_base.proofs.Lists.{All-weaker, All-every, All-append, All-map, All-map_back, All-find, All-from_both}
use Rattle.ccr_law_leases.specs.NoteOrder.{IsAnsweredAt}
use Rattle.ccr_law_leases.proofs.Notes.{same_bytes}
use Rattle.ccr_law_leases.proofs.Messages.{adding}
use Rattle.ccr_law_retention.specs.Grounds.{FloorsLow}
use Rattle.ccr_law_retention.specs.Retaining.{RenewalLow}
use Rattle.ccr_law_retention.proofs.Lists.{not_other}
use Rattle.ccr_law_retention.proofs.Growing.{ReadsFrom, IsSaid, AreSaid, NotesLow, answered-more}
use Rattle.ccr_law_base.proofs.Tests.{itself}

-- ---- floors

pub greatest-low : (b : ℕ) (copies : List Copy) → FloorsLow b copies → greatest (map {A = Copy} {B = ℕ} (λ c. c.floor) copies) ≤ b
greatest-low b [] low = omega arith
greatest-low b (c ∷ copies) low =
    let first : c.floor ≤ b = low.0 in
    let rest : greatest (map {A = Copy} {B = ℕ} (λ c. c.floor) copies) ≤ b = greatest-low b copies low.1 in
    omega arith

some-copy : (a c : Copy) → Some a ≡ Some c → a ≡ c
some-copy a c e = cc

pub floor-of : (b : ℕ) (s : Copies) (copy : ℕ) (c : Copy) → FloorsLow b (all_copies s) → copy_of s copy ≡ Some c → c.floor ≤ b
floor-of b s copy c low =
    on_if (λ (o : Option Copy). o ≡ Some c → c.floor ≤ b) (s.primary.number == copy) (Some s.primary) (option_map {T = Replica} {U = Copy} (λ r. r.copy) (replica_of s copy))
    (λ own found. subst (λ (x : Copy). x.floor ≤ b) (some-copy s.primary c found) low.0)
    (λ other found. by-replica (replica_of s copy) refl found)
  where
    by-replica : (o : Option Replica) → replica_of s copy ≡ o → option_map {T = Replica} {U = Copy} (λ r. r.copy) o ≡ Some c → c.floor ≤ b
    by-replica None is found = absurd cc
    by-replica (Some r) is found =
        subst (λ (x : Copy). x.floor ≤ b) (some-copy r.copy c found)
        (All-find (λ (r : Replica). r.copy.floor ≤ b) (λ r. r.copy.number == copy) s.replicas r (All-map_back (λ (c : Copy). c.floor ≤ b) (λ (r : Replica). r.copy) s.replicas low.1) is).0

-- ---- what an event says and notes

pub record Says (to : List ℕ → Type 0) (current lease : List ℕ) (work : Work) (place : ℕ) (notes : List LeaseNote) (cut : ℕ) (copies : List Copy) (flight : List Frame) (new : List LeaseNote) (sent : List Frame) : Type 0 where
  pub low : NotesLow copies flight new
  pub said : AreSaid to current lease work place (new ++ notes) cut copies sent

pub says-nothing : (to : List ℕ → Type 0) (current lease : List ℕ) (work : Work) (place : ℕ) (notes : List LeaseNote) (cut : ℕ) (copies : List Copy) (flight : List Frame)
    → Says to current lease work place notes cut copies flight [] []
says-nothing to current lease work place notes cut copies flight = record { low = λ id b floors renewals. tt; said = tt }

abbrev pub FloorsStay : Copies → Copies → Type 0
FloorsStay s next = (b : ℕ) → FloorsLow b (all_copies s) → FloorsLow b (all_copies next)

abbrev pub KeptOwn : (List ℕ → Type 0) → List ℕ → List KeptRequest → Type 0
KeptOwn to lease kept = AllByRecursion (λ (k : KeptRequest). to k.follower → k.id ≡ lease) kept

-- ---- kept requests

abbrev pub kept_note : Copies → ℕ → KeptRequest → LeaseNote
kept_note next place k = record { id = k.id; place = place; deed = history.answered (greatest_floor next) }

pub newly-answered : (id : List ℕ) (place number : ℕ) (notes : List LeaseNote) → IsAnsweredAt id place (record { id = id; place = place; deed = history.answered number } ∷ notes)
newly-answered id place number notes = or_left _ _ (and_from (bytes_eq id id) (place == place) (same_bytes id) (itself place))

kept-noted : (next : Copies) (place : ℕ) (more : List LeaseNote) (ks : List KeptRequest)
    → AllByRecursion (λ (k : KeptRequest). all_hold k.id next ≡ true → IsAnsweredAt k.id place (map {A = KeptRequest} {B = LeaseNote} (kept_note next place) (filter (λ k. all_hold k.id next) ks) ++ more)) ks
kept-noted next place more [] = tt
kept-noted next place more (k ∷ ks) =
    on_if (λ (due : List KeptRequest). AllByRecursion (λ (k : KeptRequest). all_hold k.id next ≡ true → IsAnsweredAt k.id place (map {A = KeptRequest} {B = LeaseNote} (kept_note next place) due ++ more)) (k ∷ ks))
    (all_hold k.id next) (k ∷ filter (λ k. all_hold k.id next) ks) (filter (λ k. all_hold k.id next) ks)
    (λ hold. (
      (λ is. newly-answered k.id place (greatest_floor next) _),
      All-weaker (λ (x : KeptRequest). all_hold x.id next ≡ true → IsAnsweredAt x.id place (map {A = KeptRequest} {B = LeaseNote} (kept_note next place) (filter (λ k. all_hold k.id next) ks) ++ more))
          (λ (x : KeptRequest). all_hold x.id next ≡ true → IsAnsweredAt x.id place (kept_note next place k ∷ map {A = KeptRequest} {B = LeaseNote} (kept_note next place) (filter (λ k. all_hold k.id next) ks) ++ more))
          (λ x it is. answered-more x.id place (kept_note next place k ∷ []) _ (it is)) ks (kept-noted next place more ks),
    ))
    (λ lack. ((λ is. absurd cc), kept-noted next place more ks))

-- each kept request is answered where it is due, and noted
abbrev pub KeptNoted : (List ℕ → Type 0) → List ℕ → ℕ → List LeaseNote → Copies → List KeptRequest → Type 0
KeptNoted to lease place notes next kept = AllByRecursion (λ (k : KeptRequest). all_hold k.id next ≡ true → to k.follower → IsAnsweredAt lease place notes) kept

pub own-noted : (to : List ℕ → Type 0) (lease : List ℕ) (place : ℕ) (next : Copies) (more : List LeaseNote) (ks : List KeptRequest) → KeptOwn to lease ks
    → KeptNoted to lease place (map {A = KeptRequest} {B = LeaseNote} (kept_note next place) (filter (λ k. all_hold k.id next) ks) ++ more) next ks
own-noted to lease place next more ks own =
    All-from_both (λ (k : KeptRequest). to k.follower → k.id ≡ lease)
    (λ (k : KeptRequest). all_hold k.id next ≡ true → IsAnsweredAt k.id place (map {A = KeptRequest} {B = LeaseNote} (kept_note next place) (filter (λ k. all_hold k.id next) ks) ++ more))
    (λ (k : KeptRequest). all_hold k.id next ≡ true → to k.follower → IsAnsweredAt lease place (map {A = KeptRequest} {B = LeaseNote} (kept_note next place) (filter (λ k. all_hold k.id next) ks) ++ more))
    (λ k mine noted hold it. subst (λ (id : List ℕ). IsAnsweredAt id place (map {A = KeptRequest} {B = LeaseNote} (kept_note next place) (filter (λ k. all_hold k.id next) ks) ++ more)) (mine it) (noted hold))
    ks own (kept-noted next place more ks)

due-said : (to : List ℕ → Type 0) (current lease : List ℕ) (work : Work) (place : ℕ) (notes : List LeaseNote) (cut : ℕ) (copies : List Copy) (next : Copies) (kept : List KeptRequest)
    → KeptNoted to lease place notes next kept → AreSaid to current lease work place notes cut copies (map {A = KeptRequest} {B = Frame} (lease_answer next) (filter (λ k. all_hold k.id next) kept))
due-said to current lease work place notes cut copies next [] noted = tt
due-said to current lease work place notes cut copies next (k ∷ kept) noted =
    on_if (λ (due : List KeptRequest). AreSaid to current lease work place notes cut copies (map {A = KeptRequest} {B = Frame} (lease_answer next) due)) (all_hold k.id next)
    (k ∷ filter (λ k. all_hold k.id next) kept) (filter (λ k. all_hold k.id next) kept)
    (λ hold. (
      on_if (λ (content : Content). IsSaid to current lease work place notes cut copies k.follower k.request content) k.existed
          (contents.LeaseAnswer results.Exists (greatest_floor next)) (contents.LeaseAdded (greatest_floor next)) (λ was it. noted.0 hold it) (λ wasnt it. noted.0 hold it),
      due-said to current lease work place notes cut copies next kept noted.1,
    ))
    (λ lack. due-said to current lease work place notes cut copies next kept noted.1)

pub kept-low : (s : Leader) (next : Copies) (place : ℕ) (flight : List Frame) → FloorsStay s.copies next → NotesLow (all_copies s.copies) flight (notes_of_kept s next place)
kept-low s next place flight stays id b floors renewals =
    All-map (λ (note : LeaseNote). bytes_eq note.id id ≡ true → number_in note.deed ≤ b) (kept_note next place) (filter (λ k. all_hold k.id next) s.kept)
    (All-every (λ (k : KeptRequest). bytes_eq k.id id ≡ true → greatest_floor next ≤ b) (λ k is. greatest-low b (all_copies next) (stays b floors)) (filter (λ k. all_hold k.id next) s.kept))

-- an event that answers kept requests alone
pub settled-says : (to : List ℕ → Type 0) (lease : List ℕ) (work : Work) (place : ℕ) (notes : List LeaseNote) (cut : ℕ) (flight : List Frame) (s : Leader) (next : Copies)
    → FloorsStay s.copies next → KeptOwn to lease s.kept
    → Says to s.history lease work place notes cut (all_copies s.copies) flight (notes_of_kept s next place) (map {A = KeptRequest} {B = Frame} (lease_answer next) (filter (λ k. all_hold k.id next) s.kept))
settled-says to lease work place notes cut flight s next stays own = record {
  low = kept-low s next place flight stays;
  said = due-said to s.history lease work place (notes_of_kept s next place ++ notes) cut (all_copies s.copies) next s.kept (own-noted to lease place next notes s.kept own);
}

-- ---- messages

-- what is asked: for the follower's own lease, and as its read asks where that is of the leader's history
abbrev pub AsksTruly : List ℕ → List ℕ → Work → ℕ → Content → Type 0
AsksTruly current lease work request (contents.LeaseAdd id) = id ≡ lease
AsksTruly current lease work request (contents.ReadRequest history from max_ops max_bytes timeout) = history ≡ current → ReadsFrom current work request from
AsksTruly current lease work request _ = Unit {0}

abbrev pub SaysHeard : (List ℕ → Type 0) → List ℕ → Work → ℕ → List LeaseNote → ℕ → List Frame → ℕ → ℕ → Bool → Leader → Frame → Outcome Leader → Type 0
SaysHeard to lease work place notes cut flight at copy keep s m o =
    Says to s.history lease work place notes cut (all_copies s.copies) flight (notes_of s o.next.copies place (Some m) (events.Deliver at copy keep) o.reply) o.sent

assoc-said : (to : List ℕ → Type 0) (current lease : List ℕ) (work : Work) (place : ℕ) (cut : ℕ) (copies : List Copy) (a b c : List LeaseNote) (sent : List Frame)
    → AreSaid to current lease work place (a ++ (b ++ c)) cut copies sent → AreSaid to current lease work place ((a ++ b) ++ c) cut copies sent
assoc-said to current lease work place cut copies a b c sent all = subst (λ (ns : List LeaseNote). AreSaid to current lease work place ns cut copies sent) (sym (append_assoc a b c)) all

heard-says : (to : List ℕ → Type 0) (lease : List ℕ) (work : Work) (place : ℕ) (notes : List LeaseNote) (cut : ℕ) (flight : List Frame) (at copy : ℕ) (keep : Bool) (s : Leader) (m : Frame)
    (h : Hearing) (next : Leader) (sent : List Frame) → FloorsStay s.copies next.copies
    → KeptNoted to lease place (notes_of_kept s next.copies place ++ (notes_of_content s place m.content h ++ notes)) next.copies next.kept
    → NotesLow (all_copies s.copies) flight (notes_of_content s place m.content h)
    → AreSaid to s.history lease work place (notes_of_kept s next.copies place ++ (notes_of_content s place m.content h ++ notes)) cut (all_copies s.copies) sent
    → SaysHeard to lease work place notes cut flight at copy keep s m (settling_requests (hears h next sent))
heard-says to lease work place notes cut flight at copy keep s m h next sent stays kept low said = record {
  low = λ id b floors renewals. All-append (λ (note : LeaseNote). bytes_eq note.id id ≡ true → number_in note.deed ≤ b) (notes_of_kept s next.copies place) (notes_of_content s place m.content h)
      (kept-low s next.copies place flight stays id b floors renewals) (low id b floors renewals);
  said = assoc-said to s.history lease work place cut (all_copies s.copies) (notes_of_kept s next.copies place) (notes_of_content s place m.content h) notes _
      (All-append (λ (x : Frame). IsSaid to s.history lease work place (notes_of_kept s next.copies place ++ (notes_of_content s place m.content h ++ notes)) cut (all_copies s.copies) x.follower x.request x.content) sent
      (map {A = KeptRequest} {B = Frame} (lease_answer next.copies) (filter (λ k. all_hold k.id next.copies) next.kept)) said
      (due-said to s.history lease work place (notes_of_kept s next.copies place ++ (notes_of_content s place m.content h ++ notes)) cut (all_copies s.copies) next.copies next.kept kept));
}

-- what is given of the place at which a message comes
pub record Place (to : List ℕ → Type 0) (lease : List ℕ) (cut : ℕ) (s : Leader) : Type 0 where
  pub kept : KeptOwn to lease s.kept
  pub ready : not_ready s.copies ≡ None → s.copies.primary.global ≡ cut

floors-same : (s : Copies) → FloorsStay s s
floors-same s b low = low

-- a message that changes neither a floor nor what is kept, and is answered so
plain-says : (to : List ℕ → Type 0) (lease : List ℕ) (work : Work) (place : ℕ) (notes : List LeaseNote) (cut : ℕ) (flight : List Frame) (at copy : ℕ) (keep : Bool) (s : Leader) (m : Frame)
    (h : Hearing) (next : Leader) (sent : List Frame) → FloorsStay s.copies next.copies → KeptOwn to lease s.kept → next.kept ≡ s.kept
    → NotesLow (all_copies s.copies) flight (notes_of_content s place m.content h)
    → AreSaid to s.history lease work place (notes_of_kept s next.copies place ++ (notes_of_content s place m.content h ++ notes)) cut (all_copies s.copies) sent
    → SaysHeard to lease work place notes cut flight at copy keep s m (settling_requests (hears h next sent))
plain-says to lease work place notes cut flight at copy keep s m h next sent stays own same low said =
    heard-says to lease work place notes cut flight at copy keep s m h next sent stays
    (subst (λ (ks : List KeptRequest). KeptNoted to lease place (notes_of_kept s next.copies place ++ (notes_of_content s place m.content h ++ notes)) next.copies ks) (sym same)
    (own-noted to lease place next.copies (notes_of_content s place m.content h ++ notes) s.kept own)) low said

no-notes : (copies : List Copy) (flight : List Frame) → NotesLow copies flight []
no-notes copies flight id b floors renewals = tt

pub below-floor : (from b : ℕ) (c : Copy) → nat_lt from c.floor ≡ true → c.floor ≤ b → from < b
below-floor from b c is low = let less : from < c.floor = ltb-true from c.floor is in omega arith

read-says : (to : List ℕ → Type 0) (lease : List ℕ) (work : Work) (place : ℕ) (notes : List LeaseNote) (cut : ℕ) (flight : List Frame) (at copy : ℕ) (keep : Bool) (s : Leader) (p : Poll)
    (history : List ℕ) (from max_ops max_bytes timeout : ℕ) (found : Option Copy) → copy_of s.copies copy ≡ found → Place to lease cut s → (to p.follower → p.history ≡ s.history → ReadsFrom s.history work p.request p.from)
    → SaysHeard to lease work place notes cut flight at copy keep s (record { follower = p.follower; request = p.request; content = contents.ReadRequest history from max_ops max_bytes timeout })
    (settling_requests (read_row s p copy found))
unfolding read_row
read-says to lease work place notes cut flight at copy keep s p history from max_ops max_bytes timeout None is known asks =
    says-nothing to s.history lease work place notes cut (all_copies s.copies) flight
read-says to lease work place notes cut flight at copy keep s p history from max_ops max_bytes timeout (Some c) is known asks =
    let m : Frame = record { follower = p.follower; request = p.request; content = contents.ReadRequest history from max_ops max_bytes timeout } in
    let P : Outcome Leader → Type 0 = λ (o : Outcome Leader). SaysHeard to lease work place notes cut flight at copy keep s m (settling_requests o) in
    on_if P (has_to_wait s p c) _ _
    (λ waits. plain-says to lease work place notes cut flight at copy keep s m heard.Parked (record s { polls = s.polls ++ p ∷ [] }) [] (floors-same s.copies) known.kept refl (no-notes (all_copies s.copies) flight) tt)
    (λ answers. on_if P (not (bytes_eq p.history s.history)) _ _
    (λ other. plain-says to lease work place notes cut flight at copy keep s m heard.History s (answer_to p.follower p.request (contents.ReadHistory s.history)) (floors-same s.copies) known.kept refl (no-notes (all_copies s.copies) flight) (tt, tt))
    (λ same. on_if P (nat_lt p.from c.floor) _ _
    (λ low. plain-says to lease work place notes cut flight at copy keep s m (heard.Missing p.from c.floor) s (answer_to p.follower p.request (contents.ReadMissing p.from c.floor)) (floors-same s.copies) known.kept refl (no-notes (all_copies s.copies) flight)
    ((λ it. ((λ b floors. below-floor p.from b c low (floor-of b s.copies copy c floors is)), asks it (not_other p.history s.history same))), tt))
    (λ high. plain-says to lease work place notes cut flight at copy keep s m (if nat_lt p.from c.global then heard.Done else heard.Empty) s
    (answer_to p.follower p.request (contents.ReadReply p.from c.global (read_ops c p.from p.max_ops p.max_bytes))) (floors-same s.copies) known.kept refl (no-notes (all_copies s.copies) flight) (tt, tt))))

-- ---- requests for leases

lacking-waits : (id : List ℕ) (copy : ℕ) (cs : List Copy) → option_map {T = Copy} {U = ℕ} (λ c. c.number) (find (λ c. not (has_lease id c)) cs) ≡ Some copy → list_all (has_lease id) cs ≡ false
lacking-waits id copy [] found = absurd cc
lacking-waits id copy (c ∷ cs) found =
    (elim (has_lease id c) as (λ (b : Bool). option_map {T = Copy} {U = ℕ} (λ c. c.number) (if not b then Some c else find (λ c. not (has_lease id c)) cs) ≡ Some copy
    → (b && list_all (has_lease id) cs) ≡ false) [
      | true ↦ λ rest. lacking-waits id copy cs rest
      | false ↦ λ own. refl
    ]) found

adding-low : (s : Leader) (place : ℕ) (id : List ℕ) (flight : List Frame) → NotesLow (all_copies s.copies) flight (adding s place id)
adding-low s place id flight own b floors renewals =
    on_if (λ (ns : List LeaseNote). AllByRecursion (λ (note : LeaseNote). bytes_eq note.id own ≡ true → number_in note.deed ≤ b) ns) (has_lease id s.copies.primary) [] _
    (λ there. tt) (λ missing. ((λ is. floors.0), tt))

floors-new : (s : Leader) (id : List ℕ) → FloorsStay s.copies (with_new_lease s id).copies
floors-new s id b low = on_if (λ (next : Leader). FloorsLow b (all_copies next.copies)) (has_lease id s.copies.primary) _ _ (λ there. low) (λ missing. low)

kept-new : (s : Leader) (id : List ℕ) → (with_new_lease s id).kept ≡ s.kept
kept-new s id = on_if (λ (next : Leader). next.kept ≡ s.kept) (has_lease id s.copies.primary) _ _ (λ there. refl) (λ missing. refl)

granted-said : (to : List ℕ → Type 0) (current lease : List ℕ) (work : Work) (place : ℕ) (notes : List LeaseNote) (cut : ℕ) (copies : List Copy) (uuid : List ℕ) (request number : ℕ) (existed : Bool)
    → (to uuid → IsAnsweredAt lease place notes)
    → IsSaid to current lease work place notes cut copies uuid request (if existed then contents.LeaseAnswer results.Exists number else contents.LeaseAdded number)
granted-said to current lease work place notes cut copies uuid request number existed noted =
    on_if (λ (content : Content). IsSaid to current lease work place notes cut copies uuid request content) existed (contents.LeaseAnswer results.Exists number) (contents.LeaseAdded number) (λ was. noted) (λ wasnt. noted)

lease-add-says : (to : List ℕ → Type 0) (lease : List ℕ) (work : Work) (place : ℕ) (notes : List LeaseNote) (cut : ℕ) (flight : List Frame) (at copy : ℕ) (keep : Bool) (s : Leader) (follower : List ℕ) (request : ℕ)
    (id : List ℕ) (waits : Option ℕ) → Place to lease cut s → (to follower → id ≡ lease)
    → SaysHeard to lease work place notes cut flight at copy keep s (record { follower = follower; request = request; content = contents.LeaseAdd id }) (settling_requests (lease_add_row s follower request id waits))
unfolding lease_add_row
lease-add-says to lease work place notes cut flight at copy keep s follower request id (Some waiting) known own =
    plain-says to lease work place notes cut flight at copy keep s (record { follower = follower; request = request; content = contents.LeaseAdd id }) (heard.NotReady waiting) s (answer_to follower request (contents.NotReady waiting)) (floors-same s.copies) known.kept refl
    (no-notes (all_copies s.copies) flight) (tt, tt)
lease-add-says to lease work place notes cut flight at copy keep s follower request id None known own =
    let next : Leader = with_new_lease s id in
    let k : KeptRequest = record { follower = follower; request = request; id = id; existed = has_lease id s.copies.primary } in
    let m : Frame = record { follower = follower; request = request; content = contents.LeaseAdd id } in
    (elim (lacks_lease id next.copies) as (λ lacking. lacks_lease id next.copies ≡ lacking
    → SaysHeard to lease work place notes cut flight at copy keep s m (settling_requests (answer_or_keep next k lacking))) [
      | None ↦ λ none.
          let number : ℕ = greatest_floor next.copies in
          plain-says to lease work place notes cut flight at copy keep s m (heard.Lease (if k.existed then results.Exists else results.Ok) number) next
          (answer_to follower request (if k.existed then contents.LeaseAnswer results.Exists number else contents.LeaseAdded number)) (floors-new s id) known.kept (kept-new s id)
          (λ other b floors renewals. ((λ is. greatest-low b (all_copies next.copies) (floors-new s id b floors)), adding-low s place id flight other b floors renewals)) (
            granted-said to s.history lease work place _ cut (all_copies s.copies) follower request number k.existed
                (λ it. subst (λ (x : List ℕ). IsAnsweredAt x place (notes_of_kept s next.copies place ++ ((record { id = id; place = place; deed = history.answered number } ∷ adding s place id) ++ notes))) (own it)
                (answered-more id place (notes_of_kept s next.copies place) _ (newly-answered id place number _))),
            tt,
          )
      | Some lacking ↦ λ some.
          heard-says to lease work place notes cut flight at copy keep s m (heard.Waiting lacking) (record next { kept = next.kept ++ k ∷ [] }) [] (floors-new s id)
          (All-append (λ (x : KeptRequest). all_hold x.id next.copies ≡ true → to x.follower → IsAnsweredAt lease place (notes_of_kept s next.copies place ++ (adding s place id ++ notes))) next.kept (k ∷ [])
          (subst (λ (ks : List KeptRequest). KeptNoted to lease place (notes_of_kept s next.copies place ++ (adding s place id ++ notes)) next.copies ks) (sym (kept-new s id))
          (own-noted to lease place next.copies (adding s place id ++ notes) s.kept known.kept))
          ((λ hold it. absurd (let lack = lacking-waits id lacking (all_copies next.copies) some in cc)), tt))
          (adding-low s place id flight) tt
    ]) refl

lease-renew-says : (to : List ℕ → Type 0) (lease : List ℕ) (work : Work) (place : ℕ) (notes : List LeaseNote) (cut : ℕ) (flight : List Frame) (at copy : ℕ) (keep : Bool) (s : Leader) (follower : List ℕ) (request : ℕ)
    (id : List ℕ) (number : ℕ) (found : Option Lease) → Place to lease cut s
    → ((own : List ℕ) (b : ℕ) → AllByRecursion (RenewalLow own b) flight → RenewalLow own b (record { follower = follower; request = request; content = contents.LeaseRenew id number }))
    → SaysHeard to lease work place notes cut flight at copy keep s (record { follower = follower; request = request; content = contents.LeaseRenew id number })
    (settling_requests (lease_renew_row s follower request id number found))
unfolding lease_renew_row
lease-renew-says to lease work place notes cut flight at copy keep s follower request id number None known there =
    plain-says to lease work place notes cut flight at copy keep s (record { follower = follower; request = request; content = contents.LeaseRenew id number }) (heard.Lease results.NotFound 0) s (answer_to follower request (contents.LeaseAnswer results.NotFound 0)) (floors-same s.copies) known.kept refl
    (no-notes (all_copies s.copies) flight) (tt, tt)
lease-renew-says to lease work place notes cut flight at copy keep s follower request id number (Some kept) known there =
    let m : Frame = record { follower = follower; request = request; content = contents.LeaseRenew id number } in
    on_if (λ (o : Outcome Leader). SaysHeard to lease work place notes cut flight at copy keep s m (settling_requests o)) (nat_lt number kept.number) _ _
    (λ low. plain-says to lease work place notes cut flight at copy keep s m (heard.Lease results.LowNumber kept.number) s (answer_to follower request (contents.LeaseAnswer results.LowNumber kept.number)) (floors-same s.copies) known.kept refl (no-notes (all_copies s.copies) flight) (tt, tt))
    (λ enough. let c = s.copies.primary.leases in
    plain-says to lease work place notes cut flight at copy keep s m (heard.Lease results.Ok number)
    (with_leases s (record c { version = c.version + 1; leases = renewed id number s.now c.leases })) (answer_to follower request (contents.LeaseAnswer results.Ok number)) (λ b low. low) known.kept refl
    (λ own b floors renewals. ((λ is. by-own own b is (there own b renewals)), tt)) (tt, tt))
  where
    by-own : (own : List ℕ) (b : ℕ) → bytes_eq id own ≡ true → IfSome (if bytes_eq id own then Some number else None) (λ n. n ≤ b) → number ≤ b
    by-own own b is low = subst (λ (x : Bool). IfSome (if x then Some number else None) (λ n. n ≤ b)) is low

lease-remove-says : (to : List ℕ → Type 0) (lease : List ℕ) (work : Work) (place : ℕ) (notes : List LeaseNote) (cut : ℕ) (flight : List Frame) (at copy : ℕ) (keep : Bool) (s : Leader) (follower : List ℕ) (request : ℕ)
    (id : List ℕ) (found : Option Lease) → Place to lease cut s
    → SaysHeard to lease work place notes cut flight at copy keep s (record { follower = follower; request = request; content = contents.LeaseRemove id })
    (settling_requests (lease_remove_row s follower request id found))
unfolding lease_remove_row
lease-remove-says to lease work place notes cut flight at copy keep s follower request id None known =
    plain-says to lease work place notes cut flight at copy keep s (record { follower = follower; request = request; content = contents.LeaseRemove id }) (heard.Lease results.NotFound 0) s (answer_to follower request (contents.LeaseAnswer results.NotFound 0)) (floors-same s.copies) known.kept refl
    (no-notes (all_copies s.copies) flight) (tt, tt)
lease-remove-says to lease work place notes cut flight at copy keep s follower request id (Some kept) known =
    let c = s.copies.primary.leases in
    plain-says to lease work place notes cut flight at copy keep s (record { follower = follower; request = request; content = contents.LeaseRemove id }) (heard.Lease results.Ok kept.number)
    (with_leases s (record c { version = c.version + 1; leases = without id c.leases })) (answer_to follower request (contents.LeaseAnswer results.Ok kept.number)) (λ b low. low) known.kept refl
    (λ own b floors renewals. ((λ is. omega arith), tt)) (tt, tt)

session-open-says : (to : List ℕ → Type 0) (lease : List ℕ) (work : Work) (place : ℕ) (notes : List LeaseNote) (cut : ℕ) (flight : List Frame) (at copy : ℕ) (keep : Bool) (s : Leader) (follower : List ℕ) (request : ℕ)
    (waits : Option ℕ) → not_ready s.copies ≡ waits → Place to lease cut s
    → SaysHeard to lease work place notes cut flight at copy keep s (record { follower = follower; request = request; content = contents.SessionOpen })
    (settling_requests (session_open_row s follower request waits))
unfolding session_open_row
session-open-says to lease work place notes cut flight at copy keep s follower request (Some waiting) is known =
    plain-says to lease work place notes cut flight at copy keep s (record { follower = follower; request = request; content = contents.SessionOpen }) (heard.NotReady waiting) s (answer_to follower request (contents.NotReady waiting)) (floors-same s.copies) known.kept refl
    (no-notes (all_copies s.copies) flight) (tt, tt)
session-open-says to lease work place notes cut flight at copy keep s follower request None is known =
    let all : s.copies.primary.global ≡ cut = known.ready is in
    plain-says to lease work place notes cut flight at copy keep s (record { follower = follower; request = request; content = contents.SessionOpen }) heard.Done
    (record s { next_session = s.next_session + 1; sessions = s.sessions ++ new_session s ∷ [] })
    (answer_to follower request (contents.SessionOpened (new_session s).number s.history (new_session s).count (sizes_of (new_session s)))) (λ b low. low) known.kept refl
    (no-notes (all_copies s.copies) flight) ((omega arith, refl), tt)

chunk-says : (to : List ℕ → Type 0) (lease : List ℕ) (work : Work) (place : ℕ) (notes : List LeaseNote) (cut : ℕ) (flight : List Frame) (at copy : ℕ) (keep : Bool) (s : Leader) (follower : List ℕ) (request : ℕ)
    (session file offset size : ℕ) (found : Option Session) → Place to lease cut s
    → SaysHeard to lease work place notes cut flight at copy keep s (record { follower = follower; request = request; content = contents.ChunkRequest session file offset size })
    (settling_requests (chunk_row s follower request session file offset size found))
unfolding chunk_row
chunk-says to lease work place notes cut flight at copy keep s follower request session file offset size None known =
    plain-says to lease work place notes cut flight at copy keep s (record { follower = follower; request = request; content = contents.ChunkRequest session file offset size }) heard.Gone s (answer_to follower request (contents.SessionGone session)) (floors-same s.copies) known.kept refl
    (no-notes (all_copies s.copies) flight) (tt, tt)
chunk-says to lease work place notes cut flight at copy keep s follower request session file offset size (Some found) known =
    plain-says to lease work place notes cut flight at copy keep s (record { follower = follower; request = request; content = contents.ChunkRequest session file offset size }) heard.Done
    (record s { sessions = active_at session s.now s.sessions }) (answer_to follower request (contents.ChunkReply session file offset (chunk_of found file offset size))) (λ b low. low) known.kept refl
    (no-notes (all_copies s.copies) flight) (tt, tt)

-- ---- each message

content-says : (to : List ℕ → Type 0) (lease : List ℕ) (work : Work) (place : ℕ) (notes : List LeaseNote) (cut : ℕ) (flight : List Frame) (at copy : ℕ) (keep : Bool) (s : Leader) (follower : List ℕ) (request : ℕ)
    (content : Content) → Place to lease cut s → (to follower → AsksTruly s.history lease work request content)
    → ((own : List ℕ) (b : ℕ) → AllByRecursion (RenewalLow own b) flight → RenewalLow own b (record { follower = follower; request = request; content = content }))
    → (λ (m : Frame). SaysHeard to lease work place notes cut flight at copy keep s m (settling_requests (receive_row s copy m))) (record { follower = follower; request = request; content = content })
content-says to lease work place notes cut flight at copy keep s follower request (contents.ReadRequest history from max_ops max_bytes timeout) known asks there =
    read-says to lease work place notes cut flight at copy keep s
    (record { follower = follower; request = request; copy = copy; history = history; from = from; max_ops = max_ops; max_bytes = max_bytes; timeout = timeout; parked = s.now })
    history from max_ops max_bytes timeout (copy_of s.copies copy) refl known asks
content-says to lease work place notes cut flight at copy keep s follower request (contents.LeaseAdd id) known asks there =
    lease-add-says to lease work place notes cut flight at copy keep s follower request id (not_ready s.copies) known asks
content-says to lease work place notes cut flight at copy keep s follower request (contents.LeaseRenew id number) known asks there =
    lease-renew-says to lease work place notes cut flight at copy keep s follower request id number (lease_of id s.copies.primary.leases.leases) known there
content-says to lease work place notes cut flight at copy keep s follower request (contents.LeaseRemove id) known asks there =
    lease-remove-says to lease work place notes cut flight at copy keep s follower request id (lease_of id s.copies.primary.leases.leases) known
content-says to lease work place notes cut flight at copy keep s follower request contents.SessionOpen known asks there =
    session-open-says to lease work place notes cut flight at copy keep s follower request (not_ready s.copies) refl known
content-says to lease work place notes cut flight at copy keep s follower request (contents.ChunkRequest session file offset size) known asks there =
    chunk-says to lease work place notes cut flight at copy keep s follower request session file offset size (session_of s.sessions session) known
content-says to lease work place notes cut flight at copy keep s follower request (contents.ReadReply from global ops) known asks there =
    plain-says to lease work place notes cut flight at copy keep s (record { follower = follower; request = request; content = contents.ReadReply from global ops }) heard.Ignored s [] (floors-same s.copies) known.kept refl (no-notes (all_copies s.copies) flight) tt
content-says to lease work place notes cut flight at copy keep s follower request (contents.ReadMissing from floor) known asks there =
    plain-says to lease work place notes cut flight at copy keep s (record { follower = follower; request = request; content = contents.ReadMissing from floor }) heard.Ignored s [] (floors-same s.copies) known.kept refl (no-notes (all_copies s.copies) flight) tt
content-says to lease work place notes cut flight at copy keep s follower request (contents.ReadHistory history) known asks there =
    plain-says to lease work place notes cut flight at copy keep s (record { follower = follower; request = request; content = contents.ReadHistory history }) heard.Ignored s [] (floors-same s.copies) known.kept refl (no-notes (all_copies s.copies) flight) tt
content-says to lease work place notes cut flight at copy keep s follower request (contents.LeaseAdded number) known asks there =
    plain-says to lease work place notes cut flight at copy keep s (record { follower = follower; request = request; content = contents.LeaseAdded number }) heard.Ignored s [] (floors-same s.copies) known.kept refl (no-notes (all_copies s.copies) flight) tt
content-says to lease work place notes cut flight at copy keep s follower request (contents.LeaseAnswer outcome number) known asks there =
    plain-says to lease work place notes cut flight at copy keep s (record { follower = follower; request = request; content = contents.LeaseAnswer outcome number }) heard.Ignored s [] (floors-same s.copies) known.kept refl (no-notes (all_copies s.copies) flight) tt
content-says to lease work place notes cut flight at copy keep s follower request (contents.SessionOpened session history count sizes) known asks there =
    plain-says to lease work place notes cut flight at copy keep s (record { follower = follower; request = request; content = contents.SessionOpened session history count sizes }) heard.Ignored s [] (floors-same s.copies) known.kept refl (no-notes (all_copies s.copies) flight) tt
content-says to lease work place notes cut flight at copy keep s follower request (contents.ChunkReply session file offset bytes) known asks there =
    plain-says to lease work place notes cut flight at copy keep s (record { follower = follower; request = request; content = contents.ChunkReply session file offset bytes }) heard.Ignored s [] (floors-same s.copies) known.kept refl (no-notes (all_copies s.copies) flight) tt
content-says to lease work place notes cut flight at copy keep s follower request (contents.SessionGone session) known asks there =
    plain-says to lease work place notes cut flight at copy keep s (record { follower = follower; request = request; content = contents.SessionGone session }) heard.Ignored s [] (floors-same s.copies) known.kept refl (no-notes (all_copies s.copies) flight) tt
content-says to lease work place notes cut flight at copy keep s follower request (contents.NotReady waiting) known asks there =
    plain-says to lease work place notes cut flight at copy keep s (record { follower = follower; request = request; content = contents.NotReady waiting }) heard.Ignored s [] (floors-same s.copies) known.kept refl (no-notes (all_copies s.copies) flight) tt

pub received-says : (to : List ℕ → Type 0) (lease : List ℕ) (work : Work) (place : ℕ) (notes : List LeaseNote) (cut : ℕ) (flight : List Frame) (at copy : ℕ) (keep : Bool) (s : Leader) (m : Frame)
    → Place to lease cut s → (to m.follower → AsksTruly s.history lease work m.request m.content)
    → ((own : List ℕ) (b : ℕ) → AllByRecursion (RenewalLow own b) flight → RenewalLow own b m)
    → SaysHeard to lease work place notes cut flight at copy keep s m (leader_receive s copy m)
received-says to lease work place notes cut flight at copy keep s m known asks there =
    content-says to lease work place notes cut flight at copy keep s m.follower m.request m.content known asks there
