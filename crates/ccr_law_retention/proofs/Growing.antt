-- A follower that stays as it is, where notes and messages come.
use Rattle.std.specs.Prelude.{◌==◌, min, max, nat_lt, remove, IfSome}
use Rattle.std.specs.Option.{option_map}
use Rattle.std.specs.List.{AllByRecursion}
use Rattle.std.specs.Str.{bytes_eq}
use Rattle.std.proofs.Common.{◌≡◌, ◌⊎◌, inl, inr, ℕ, ◌≤◌, ◌<◌, ◌&&◌, Bool, true, false, List, [], ◌∷◌, ◌++◌, map, Option, Some, None, refl, sym, ◌∙◌, subst, arith, append_assoc}
use Rattle.ccr_wire.specs.Message.{Frame}
use Rattle.ccr_wire.specs.declared.kind.LeaseResult.TheVariants as results
use Rattle.ccr_wire.specs.declared.content.Content.{Content}
use Rattle.ccr_wire.specs.declared.content.Content.TheVariants as contents
use Rattle.ccr_model.specs.Requests.{is_sent}
use Rattle.ccr_model.specs.Copies.{Copy, Replica, Copies, all_copies}
use Rattle.ccr_model.specs.Tasks.{Read, read_sent}
use Rattle.ccr_model.specs.Restores.{Asked}
use Rattle.ccr_model.specs.Followers.{Work, restoring, replicating}
use Rattle.ccr_model.specs.LeaseHistory.{LeaseNote, number_in, retained, is_unbroken, is_loss, is_lost_after}
use Rattle.ccr_model.specs.FrameFacts.{reading_in, Reading}
use Rattle.ccr_model.specs.Invariants.{renewal_of, count_opened, is_missing}
use Rattle.ccr_law_base.proofs.Cases.{on_if}
use Rattle.ccr_law_base.proofs.Lists.{All-weaker, All-append, All-find, All-map, All-remove}
use Rattle.ccr_law_leases.specs.TrueLeases.{AreBehind, AreTrueLeasesOf}
use Rattle.ccr_law_leases.specs.NoteOrder.{IsAnsweredAt, LossesComeAfter}
use Rattle.ccr_law_leases.proofs.Ordering.{unbroken-since, is_answered_at}
use Rattle.ccr_law_retention.specs.Grounds.{FloorsLow}
use Rattle.ccr_law_retention.specs.Retaining.{Bound, free, asked, at_most, bound_of, low_of, RenewalLow, OpensAbove, Within, HasAnswer, AnswerOk, KeptSince, LostSince, is_grant, GrantOk, MissingOk, history_opened, FollowerOk, IsToldTruly, IsEarly}
use Rattle.ccr_law_retention.proofs.Lists.{low-reads, sent-weaker, sent-append, sent-map, sent-remove, any-more, none-before, any-front, none-front}
use Rattle.std.proofs.lemmas.Bool.{and_parts}

-- ---- what is said

-- the read of the work that was sent under this request number, where there is one, is of this history, and from this number on
abbrev pub ReadsFrom : List ℕ → Work → ℕ → ℕ → Type 0
ReadsFrom current work request from = IfSome (reading_in work request) (λ o. (o.task.history ≡ current) × (from ≡ o.read.from))

-- the reads of the work are of this history
abbrev pub ReadsOwn : List ℕ → Work → Type 0
ReadsOwn own work = (request : ℕ) → IfSome (reading_in work request) (λ o. o.task.history ≡ own)

-- a message to those of `to`, where this is the leader's history: that the lease is there is noted; a session has all that is committed and is
-- of that history; what is missing is below a floor; and no renewal is of the lease
abbrev pub IsSaid : (List ℕ → Type 0) → List ℕ → List ℕ → Work → ℕ → List LeaseNote → ℕ → List Copy → List ℕ → ℕ → Content → Type 0
IsSaid to current lease work place notes cut copies uuid request (contents.LeaseAdded number) = to uuid → IsAnsweredAt lease place notes
IsSaid to current lease work place notes cut copies uuid request (contents.LeaseAnswer results.Exists number) = to uuid → IsAnsweredAt lease place notes
IsSaid to current lease work place notes cut copies uuid request (contents.SessionOpened session history count sizes) = (cut ≤ count) × (history ≡ current)
IsSaid to current lease work place notes cut copies uuid request (contents.ReadMissing from floor) = to uuid → ((b : ℕ) → FloorsLow b copies → from < b) × ReadsFrom current work request from
IsSaid to current lease work place notes cut copies uuid request (contents.LeaseRenew id number) = bytes_eq id lease ≡ false
IsSaid to current lease work place notes cut copies uuid request _ = Unit {0}

abbrev pub AreSaid : (List ℕ → Type 0) → List ℕ → List ℕ → Work → ℕ → List LeaseNote → ℕ → List Copy → List Frame → Type 0
AreSaid to current lease work place notes cut copies sent = AllByRecursion (λ (m : Frame). IsSaid to current lease work place notes cut copies m.follower m.request m.content) sent

-- ---- what each message that is said comes to

no-renewal : (id lease : List ℕ) (number : ℕ) → bytes_eq id lease ≡ false → renewal_of lease (contents.LeaseRenew id number) ≡ None
no-renewal id lease number other = on_if (λ (o : Option ℕ). o ≡ None) (bytes_eq id lease) (Some number) None (λ is. absurd cc) (λ isnt. refl)

pub said-renewal : (to : List ℕ → Type 0) (current lease : List ℕ) (work : Work) (place : ℕ) (notes : List LeaseNote) (cut : ℕ) (copies : List Copy) (uuid : List ℕ) (request : ℕ) (content : Content)
    → IsSaid to current lease work place notes cut copies uuid request content → renewal_of lease content ≡ None
said-renewal to current lease work place notes cut copies uuid request (contents.LeaseRenew id number) is = no-renewal id lease number is
said-renewal to current lease work place notes cut copies uuid request _ is = refl

said-opens : (to : List ℕ → Type 0) (current lease : List ℕ) (work : Work) (place : ℕ) (notes : List LeaseNote) (cut : ℕ) (copies : List Copy) (uuid : List ℕ) (request : ℕ) (content : Content)
    → IsSaid to current lease work place notes cut copies uuid request content → IfSome (count_opened content) (λ count. cut ≤ count)
said-opens to current lease work place notes cut copies uuid request (contents.SessionOpened session history count sizes) is = is.0
said-opens to current lease work place notes cut copies uuid request _ is = tt

pub said-history : (to : List ℕ → Type 0) (current lease : List ℕ) (work : Work) (place : ℕ) (notes : List LeaseNote) (cut : ℕ) (copies : List Copy) (uuid : List ℕ) (request : ℕ) (content : Content)
    → IsSaid to current lease work place notes cut copies uuid request content → IfSome (history_opened content) (λ own. own ≡ current)
said-history to current lease work place notes cut copies uuid request (contents.SessionOpened session history count sizes) is = is.1
said-history to current lease work place notes cut copies uuid request _ is = tt

said-grant : (to : List ℕ → Type 0) (current lease : List ℕ) (work : Work) (place : ℕ) (notes : List LeaseNote) (cut : ℕ) (copies : List Copy) (uuid : List ℕ) (request : ℕ) (content : Content)
    → IsSaid to current lease work place notes cut copies uuid request content → is_grant content ≡ true → to uuid → IsAnsweredAt lease place notes
said-grant to current lease work place notes cut copies uuid request (contents.LeaseAdded number) is grants it = is it
said-grant to current lease work place notes cut copies uuid request (contents.LeaseAnswer results.Exists number) is grants it = is it
said-grant to current lease work place notes cut copies uuid request _ is grants it = absurd cc

record Misses (current : List ℕ) (work : Work) (request : ℕ) (copies : List Copy) : Type 0 where
  from : ℕ
  below : (b : ℕ) → FloorsLow b copies → from < b
  reads : ReadsFrom current work request from

said-misses : (to : List ℕ → Type 0) (current lease : List ℕ) (work : Work) (place : ℕ) (notes : List LeaseNote) (cut : ℕ) (copies : List Copy) (uuid : List ℕ) (request : ℕ) (content : Content)
    → IsSaid to current lease work place notes cut copies uuid request content → is_missing content ≡ true → to uuid → Misses current work request copies
said-misses to current lease work place notes cut copies uuid request (contents.ReadMissing from floor) is missing it =
    let both = is it in record { from = from; below = both.0; reads = both.1 }
said-misses to current lease work place notes cut copies uuid request _ is missing it = absurd cc

-- ---- notes

-- a new note of the lease is to no more than the floors and the renewals
abbrev pub NotesLow : List Copy → List Frame → List LeaseNote → Type 0
NotesLow copies flight new =
    (id : List ℕ) (b : ℕ) → FloorsLow b copies → AllByRecursion (RenewalLow id b) flight
    → AllByRecursion (λ (note : LeaseNote). bytes_eq note.id id ≡ true → number_in note.deed ≤ b) new

pub retained-low : (id : List ℕ) (b : ℕ) (new notes : List LeaseNote) → AllByRecursion (λ (note : LeaseNote). bytes_eq note.id id ≡ true → number_in note.deed ≤ b) new → retained id notes ≤ b
    → retained id (new ++ notes) ≤ b
retained-low id b [] notes all low = low
retained-low id b (note ∷ new) notes all low =
    let rest : retained id (new ++ notes) ≤ b = retained-low id b new notes all.1 low in
    on_if (λ (n : ℕ). n ≤ b) (bytes_eq note.id id) (max (number_in note.deed) (retained id (new ++ notes))) (retained id (new ++ notes))
    (λ own. let first : number_in note.deed ≤ b = all.0 own in omega arith) (λ other. rest)

pub answered-more : (lease : List ℕ) (place : ℕ) (new notes : List LeaseNote) → IsAnsweredAt lease place notes → IsAnsweredAt lease place (new ++ notes)
answered-more lease place new notes is = any-more (is_answered_at lease place) new notes is

pub lost-more : (lease : List ℕ) (place : ℕ) (new notes : List LeaseNote) → is_lost_after lease place notes ≡ true → is_lost_after lease place (new ++ notes) ≡ true
lost-more lease place new notes is = any-more (λ note. bytes_eq note.id lease && is_loss note.deed && nat_lt place note.place) new notes is

pub kept-before : (answer : Option ℕ) (lease : List ℕ) (new notes : List LeaseNote) → KeptSince answer lease (new ++ notes) → KeptSince answer lease notes
kept-before answer lease new notes kept =
    record { place = kept.place; is = kept.is; kept = none-before (λ note. bytes_eq note.id lease && is_loss note.deed && nat_lt kept.place note.place) new notes kept.kept }

pub kept-of : (answer : Option ℕ) (lease : List ℕ) (notes earlier : List LeaseNote) → KeptSince answer lease (notes ++ earlier) → KeptSince answer lease notes
kept-of answer lease notes earlier kept =
    record { place = kept.place; is = kept.is; kept = none-front (λ note. bytes_eq note.id lease && is_loss note.deed && nat_lt kept.place note.place) notes earlier kept.kept }

pub lost-wider : (answer : Option ℕ) (lease : List ℕ) (notes earlier : List LeaseNote) → LostSince answer lease notes → LostSince answer lease (notes ++ earlier)
lost-wider answer lease notes earlier lost =
    record { place = lost.place; is = lost.is; lost = any-front (λ note. bytes_eq note.id lease && is_loss note.deed && nat_lt lost.place note.place) notes earlier lost.lost }

pub lost-since-more : (answer : Option ℕ) (lease : List ℕ) (new notes : List LeaseNote) → LostSince answer lease notes → LostSince answer lease (new ++ notes)
lost-since-more answer lease new notes lost = record { place = lost.place; is = lost.is; lost = lost-more lease lost.place new notes lost.lost }

pub has-answer-more : (answer : Option ℕ) (lease : List ℕ) (new notes : List LeaseNote) → HasAnswer answer lease notes → HasAnswer answer lease (new ++ notes)
has-answer-more answer lease new notes has = record { place = has.place; is = has.is; noted = answered-more lease has.place new notes has.noted }

pub answer-more : (answer : Option ℕ) (lease : List ℕ) (new notes : List LeaseNote) (bound : Bound) → AnswerOk answer lease notes bound → AnswerOk answer lease (new ++ notes) bound
answer-more answer lease new notes free ok = ok
answer-more answer lease new notes (asked a) ok = has-answer-more answer lease new notes ok
answer-more answer lease new notes (at_most b) ok = has-answer-more answer lease new notes ok

-- ---- floors of a lease that was answered and not lost since

pub floors-up : (b more : ℕ) (copies : List Copy) → b ≤ more → FloorsLow b copies → FloorsLow more copies
floors-up b more copies up low = All-weaker (λ (c : Copy). c.floor ≤ b) (λ (c : Copy). c.floor ≤ more) (λ c least. omega arith) copies low

some-same : (answer : Option ℕ) (m n : ℕ) → answer ≡ Some m → answer ≡ Some n → m ≡ n
some-same answer m n one other = cc

pub floors-kept : (answer : Option ℕ) (lease : List ℕ) (notes : List LeaseNote) (s : Copies) → LossesComeAfter notes → AreTrueLeasesOf notes s → HasAnswer answer lease notes → KeptSince answer lease notes
    → FloorsLow (retained lease notes) (all_copies s)
floors-kept answer lease notes s order leases has kept =
    let same : has.place ≡ kept.place = some-same answer has.place kept.place has.is kept.is in
    let unbroken : is_unbroken lease notes ≡ true =
    unbroken-since lease has.place notes order has.noted (subst (λ (place : ℕ). is_lost_after lease place notes ≡ false) (sym same) kept.kept) in (
      leases.agree.floor lease unbroken,
      All-map (λ (c : Copy). c.floor ≤ retained lease notes) (λ (r : Replica). r.copy) s.replicas
          (All-weaker (λ (r : Replica). AreBehind notes s.primary.leases r.copy.leases r.copy.floor) (λ (r : Replica). r.copy.floor ≤ retained lease notes)
          (λ r own. own.agree.floor lease unbroken) s.replicas leases.behind),
    )

-- ---- a follower that stays

-- what is given of the leader and of the notes before
pub record Setting (notes : List LeaseNote) (s : Copies) (cut : ℕ) : Type 0 where
  pub order : LossesComeAfter notes
  pub leases : AreTrueLeasesOf notes s
  pub floors : FloorsLow cut (all_copies s)

if-up : (o : Option ℕ) (a b : ℕ) → a ≤ b → IfSome o (λ n. b ≤ n) → IfSome o (λ n. a ≤ n)
if-up None a b up it = tt
if-up (Some n) a b up it = omega arith

if-low : (o : Option ℕ) (b : ℕ) → o ≡ None → IfSome o (λ n. n ≤ b)
if-low None b is = tt
if-low (Some n) b is = absurd cc

within-more : (notes new : List LeaseNote) (flight sent : List Frame) (uuid lease : List ℕ) (s : Copies) (cut place : ℕ) (to : List ℕ → Type 0) (current : List ℕ) (work : Work) (bound : Bound)
    → Setting notes s cut → NotesLow (all_copies s) flight new → AreSaid to current lease work place (new ++ notes) cut (all_copies s) sent
    → ((a : Asked) → bound ≡ asked a → IsEarly lease cut notes flight) → FloorsLow (retained lease notes) (all_copies s)
    → Within flight uuid lease (retained lease notes) bound → Within (flight ++ sent) uuid lease (retained lease (new ++ notes)) bound
within-more notes new flight sent uuid lease s cut place to current work free setting low said early floors within = tt
within-more notes new flight sent uuid lease s cut place to current work (asked a) setting low said early floors within =
    let is_early : IsEarly lease cut notes flight = early a refl in
    let up : (b : ℕ) → retained lease notes ≤ b → FloorsLow b (all_copies s) → retained lease (new ++ notes) ≤ b = λ b least at.
    retained-low lease b new notes (low lease b at (All-weaker (λ (m : Frame). renewal_of lease m.content ≡ None) (RenewalLow lease b) (λ m none. if-low (renewal_of lease m.content) b none) flight is_early.none)) least in
    All-append (OpensAbove uuid a (retained lease (new ++ notes))) flight sent
    (All-weaker (OpensAbove uuid a (retained lease notes)) (OpensAbove uuid a (retained lease (new ++ notes)))
    (λ m opens is. if-more (count_opened m.content) up (opens is)) flight within)
    (All-weaker (λ (m : Frame). IsSaid to current lease work place (new ++ notes) cut (all_copies s) m.follower m.request m.content) (OpensAbove uuid a (retained lease (new ++ notes)))
    (λ m it is. if-up (count_opened m.content) (retained lease (new ++ notes)) cut (up cut is_early.low setting.floors)
    (said-opens to current lease work place (new ++ notes) cut (all_copies s) m.follower m.request m.content it)) sent said)
  where
    if-more : (o : Option ℕ) → ((b : ℕ) → retained lease notes ≤ b → FloorsLow b (all_copies s) → retained lease (new ++ notes) ≤ b) → IfSome o (λ n. retained lease notes ≤ n)
        → IfSome o (λ n. retained lease (new ++ notes) ≤ n)
    if-more None up it = tt
    if-more (Some n) up it = up n it (floors-up (retained lease notes) n (all_copies s) it floors)
within-more notes new flight sent uuid lease s cut place to current work (at_most b) setting low said early floors within = (
  retained-low lease b new notes (low lease b (floors-up (retained lease notes) b (all_copies s) within.0 floors) within.1) within.0,
  All-append (RenewalLow lease b) flight sent within.1
      (All-weaker (λ (m : Frame). IsSaid to current lease work place (new ++ notes) cut (all_copies s) m.follower m.request m.content) (RenewalLow lease b)
      (λ m it. if-low (renewal_of lease m.content) b (said-renewal to current lease work place (new ++ notes) cut (all_copies s) m.follower m.request m.content it)) sent said),
)

-- what is said to be missing answers no read where the lease is still kept
misses-none : (answer : Option ℕ) (lease : List ℕ) (notes new : List LeaseNote) (flight : List Frame) (uuid current : List ℕ) (work : Work) (global : ℕ) (s : Copies) (cut request : ℕ)
    → Setting notes s cut → AnswerOk answer lease notes (bound_of global work)
    → (KeptSince answer lease notes → Within flight uuid lease (retained lease notes) (bound_of global work))
    → Misses current work request (all_copies s) → (reading_in work request ≡ None) ⊎ LostSince answer lease (new ++ notes)
misses-none answer lease notes new flight uuid current (restoring r) global s cut request setting ok within misses = inl refl
misses-none answer lease notes new flight uuid current (replicating t) global s cut request setting ok within misses =
    (elim (is_lost_after lease ok.place (new ++ notes)) as (λ (b : Bool). is_lost_after lease ok.place (new ++ notes) ≡ b
    → (reading_in (replicating t) request ≡ None) ⊎ LostSince answer lease (new ++ notes)) [
      | true ↦ λ is. inr (record { place = ok.place; is = ok.is; lost = is })
      | false ↦ λ isnt.
          let kept : KeptSince answer lease notes = kept-before answer lease new notes (record { place = ok.place; is = ok.is; kept = isnt }) in
          let least : retained lease notes ≤ min global (low_of t.next t.reads) = (within kept).0 in
          let below : misses.from < retained lease notes = misses.below (retained lease notes) (floors-kept answer lease notes s setting.order setting.leases ok kept) in
          inl (by-read (read_sent t request) refl (omega arith) misses.reads)
    ]) refl
  where
    by-read : (found : Option Read) → read_sent t request ≡ found → misses.from < low_of t.next t.reads
        → IfSome (option_map {T = Read} {U = Reading} (λ read. record { task = t; read = read }) found) (λ o. (o.task.history ≡ current) × (misses.from ≡ o.read.from))
        → option_map {T = Read} {U = Reading} (λ read. record { task = t; read = read }) found ≡ None
    by-read None is less same = refl
    by-read (Some r) is less same =
        let at : low_of t.next t.reads ≤ r.from =
        (All-find (λ (r : Read). low_of t.next t.reads ≤ r.from) (λ r. (r.request == request) && is_sent r.progress) t.reads r (low-reads (low_of t.next t.reads) t.next t.reads (omega arith)) is).0 in
        let from : misses.from ≡ r.from = same.1 in
        absurd (omega arith)

-- the messages to this follower
abbrev pub to_uuid : List ℕ → List ℕ → Type 0
to_uuid uuid named = bytes_eq named uuid ≡ true

pub grows : (answer : Option ℕ) (notes new : List LeaseNote) (flight sent : List Frame) (sent_at : List ℕ) (current uuid lease : List ℕ) (work : Work) (global : ℕ) (s : Copies) (cut place : ℕ)
    → Setting notes s cut → NotesLow (all_copies s) flight new → AreSaid (to_uuid uuid) current lease work place (new ++ notes) cut (all_copies s) sent
    → ((a : Asked) → bound_of global work ≡ asked a → IsEarly lease cut notes flight)
    → FollowerOk answer notes flight sent_at uuid lease work global
    → FollowerOk answer (new ++ notes) (flight ++ sent) (sent_at ++ map {A = Frame} {B = ℕ} (λ m. place) sent) uuid lease work global
grows answer notes new flight sent sent_at current uuid lease work global s cut place setting low said early ok = record {
  phase = ok.phase;
  answered = answer-more answer lease new notes (bound_of global work) ok.answered;
  grants = sent-append (GrantOk uuid lease (new ++ notes)) flight sent sent_at _
      (sent-weaker (GrantOk uuid lease notes) (GrantOk uuid lease (new ++ notes)) (λ m at grant is. answered-more lease at new notes (grant is)) flight sent_at ok.grants)
      (sent-map (GrantOk uuid lease (new ++ notes)) place sent
      (All-weaker (λ (m : Frame). IsSaid (to_uuid uuid) current lease work place (new ++ notes) cut (all_copies s) m.follower m.request m.content) (λ (m : Frame). GrantOk uuid lease (new ++ notes) m place)
      (λ m it is.
      let both = and_parts (bytes_eq m.follower uuid) (is_grant m.content) is in
      said-grant (to_uuid uuid) current lease work place (new ++ notes) cut (all_copies s) m.follower m.request m.content it both.1 both.0) sent said));
  within = λ kept.
      let before : KeptSince answer lease notes = kept-before answer lease new notes kept in
      by-bound (bound_of global work) refl before;
  missing = All-append (MissingOk answer uuid lease (new ++ notes) work) flight sent
      (All-weaker (MissingOk answer uuid lease notes work) (MissingOk answer uuid lease (new ++ notes) work) (λ m it is. later work m (it is)) flight ok.missing)
      (All-weaker (λ (m : Frame). IsSaid (to_uuid uuid) current lease work place (new ++ notes) cut (all_copies s) m.follower m.request m.content) (MissingOk answer uuid lease (new ++ notes) work)
      (λ m it is.
      let both = and_parts (bytes_eq m.follower uuid) (is_missing m.content) is in
      misses-none answer lease notes new flight uuid current work global s cut m.request setting ok.answered ok.within
      (said-misses (to_uuid uuid) current lease work place (new ++ notes) cut (all_copies s) m.follower m.request m.content it both.1 both.0)) sent said);
}
  where
    later : (work : Work) (m : Frame) → (reading_in work m.request ≡ None) ⊎ LostSince answer lease notes → (reading_in work m.request ≡ None) ⊎ LostSince answer lease (new ++ notes)
    later work m (inl none) = inl none
    later work m (inr lost) = inr (lost-since-more answer lease new notes lost)

    has-one : (bound : Bound) → AnswerOk answer lease notes bound → KeptSince answer lease notes → HasAnswer answer lease notes
    has-one free none kept = absurd (let some = kept.is in cc)
    has-one (asked a) has kept = has
    has-one (at_most b) has kept = has

    by-bound : (bound : Bound) → bound_of global work ≡ bound → KeptSince answer lease notes → Within (flight ++ sent) uuid lease (retained lease (new ++ notes)) (bound_of global work)
    by-bound bound is kept =
        within-more notes new flight sent uuid lease s cut place (to_uuid uuid) current work (bound_of global work) setting low said early
        (floors-kept answer lease notes s setting.order setting.leases (has-one (bound_of global work) ok.answered kept) kept) (ok.within kept)

-- ---- what a follower of any history is told

pub told-grows : (answer : Option ℕ) (notes new earlier : List LeaseNote) (flight sent : List Frame) (sent_at current own uuid lease : List ℕ) (work : Work) (global : ℕ) (s : Copies) (cut place : ℕ)
    → Setting notes s cut → ReadsOwn own work → AreSaid (to_uuid uuid) current lease work place (new ++ notes) cut (all_copies s) sent
    → (own ≡ current → FollowerOk answer notes flight sent_at uuid lease work global)
    → IsToldTruly answer (notes ++ earlier) flight uuid lease work
    → IsToldTruly answer ((new ++ notes) ++ earlier) (flight ++ sent) uuid lease work
told-grows answer notes new earlier flight sent sent_at current own uuid lease work global s cut place setting reads said ok told = record {
  phase = told.phase;
  missing = All-append (MissingOk answer uuid lease ((new ++ notes) ++ earlier) work) flight sent
      (All-weaker (MissingOk answer uuid lease (notes ++ earlier) work) (MissingOk answer uuid lease ((new ++ notes) ++ earlier) work) (λ m it is. later m (it is)) flight told.missing)
      (All-weaker (λ (m : Frame). IsSaid (to_uuid uuid) current lease work place (new ++ notes) cut (all_copies s) m.follower m.request m.content) (MissingOk answer uuid lease ((new ++ notes) ++ earlier) work)
      (λ m it is.
      let both = and_parts (bytes_eq m.follower uuid) (is_missing m.content) is in
      by-reading m.request (reading_in work m.request) refl
      (said-misses (to_uuid uuid) current lease work place (new ++ notes) cut (all_copies s) m.follower m.request m.content it both.1 both.0)) sent said);
}
  where
    later : (m : Frame) → (reading_in work m.request ≡ None) ⊎ LostSince answer lease (notes ++ earlier) → (reading_in work m.request ≡ None) ⊎ LostSince answer lease ((new ++ notes) ++ earlier)
    later m (inl none) = inl none
    later m (inr lost) = inr (subst (λ (all : List LeaseNote). LostSince answer lease all) (sym (append_assoc new notes earlier)) (lost-since-more answer lease new (notes ++ earlier) lost))

    wider : (request : ℕ) → (reading_in work request ≡ None) ⊎ LostSince answer lease (new ++ notes) → (reading_in work request ≡ None) ⊎ LostSince answer lease ((new ++ notes) ++ earlier)
    wider request (inl none) = inl none
    wider request (inr lost) = inr (lost-wider answer lease (new ++ notes) earlier lost)

    by-reading : (request : ℕ) (found : Option Reading) → reading_in work request ≡ found → Misses current work request (all_copies s)
        → (reading_in work request ≡ None) ⊎ LostSince answer lease ((new ++ notes) ++ earlier)
    by-reading request None is misses = inl is
    by-reading request (Some r) is misses =
        let its : r.task.history ≡ own = subst (λ (o : Option Reading). IfSome o (λ o. o.task.history ≡ own)) is (reads request) in
        let asked : (r.task.history ≡ current) × (misses.from ≡ r.read.from) = subst (λ (o : Option Reading). IfSome o (λ o. (o.task.history ≡ current) × (misses.from ≡ o.read.from))) is misses.reads in
        let now : FollowerOk answer notes flight sent_at uuid lease work global = ok (sym its ∙ asked.0) in
        wider request (misses-none answer lease notes new flight uuid current work global s cut request setting now.answered now.within misses)

pub told-fewer : (answer : Option ℕ) (notes : List LeaseNote) (flight : List Frame) (uuid lease : List ℕ) (work : Work) (at : ℕ)
    → IsToldTruly answer notes flight uuid lease work → IsToldTruly answer notes (remove flight at) uuid lease work
told-fewer answer notes flight uuid lease work at told = record { phase = told.phase; missing = All-remove (MissingOk answer uuid lease notes work) flight at told.missing }

-- ---- fewer messages

pub fewer : (answer : Option ℕ) (notes : List LeaseNote) (flight : List Frame) (sent_at : List ℕ) (uuid lease : List ℕ) (work : Work) (global at : ℕ)
    → FollowerOk answer notes flight sent_at uuid lease work global → FollowerOk answer notes (remove flight at) (remove sent_at at) uuid lease work global
fewer answer notes flight sent_at uuid lease work global at ok = record {
  phase = ok.phase;
  answered = ok.answered;
  grants = sent-remove (GrantOk uuid lease notes) at flight sent_at ok.grants;
  within = λ kept. fewer-within (bound_of global work) (ok.within kept);
  missing = All-remove (MissingOk answer uuid lease notes work) flight at ok.missing;
}
  where
    fewer-within : (bound : Bound) → Within flight uuid lease (retained lease notes) bound → Within (remove flight at) uuid lease (retained lease notes) bound
    fewer-within free within = tt
    fewer-within (asked a) within = All-remove (OpensAbove uuid a (retained lease notes)) flight at within
    fewer-within (at_most b) within = (within.0, All-remove (RenewalLow lease b) flight at within.1)
