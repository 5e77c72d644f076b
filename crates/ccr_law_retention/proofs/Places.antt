-- What each kind of event makes of the place: the leader did something, one follower did, or nothing changed.
use Rattle.std.specs.Prelude.{slice_get, slice_set, max, not, IfSome, if◌then◌else◌}
use Rattle.std.specs.Option.{option_map, option_and_then}
use Rattle.std.specs.List.{AllByRecursion}
use Rattle.std.specs.Str.{bytes_eq}
use Rattle.std.proofs.Common.{◌≡◌, ℕ, ◌≤◌, ◌<◌, ◌&&◌, Bool, true, false, List, [], ◌++◌, map, Option, Some, None, refl, ap, sym, ◌∙◌, subst, arith}
use Rattle.std.proofs.lemmas.Slice.Eq.{bytes_eq-Decides}
use Rattle.ccr_op.specs.Operation.{Operation}
use Rattle.ccr_wire.specs.Message.{Frame}
use Rattle.ccr_wire.specs.declared.content.Content.{Content}
use Rattle.ccr_wire.specs.declared.content.Content.TheVariants as contents
use Rattle.ccr_journal.specs.declared.sides.Side.TheVariants as sides
use Rattle.ccr_journal.specs.declared.sides.Phase.{Phase}
use Rattle.ccr_journal.specs.declared.events.Event.{Event}
use Rattle.ccr_journal.specs.declared.events.Event.TheVariants as events
use Rattle.ccr_journal.specs.declared.replies.Reply.{Reply}
use Rattle.ccr_journal.specs.declared.replies.Reply.TheVariants as replies
use Rattle.ccr_journal.specs.declared.replies.Refusal.{Refusal}
use Rattle.ccr_journal.specs.declared.replies.Refusal.TheVariants.{NoFollower}
use Rattle.ccr_model.specs.Outcomes.{Outcome, refused}
use Rattle.ccr_model.specs.Copies.{Copies, all_copies}
use Rattle.ccr_model.specs.Leaders.{Leader, KeptRequest, Poll}
use Rattle.ccr_model.specs.Tasks.{Read, read_sent}
use Rattle.ccr_model.specs.Followers.{Follower, Work, restoring, replicating, uuid_of, phase_of_work}
use Rattle.ccr_model.specs.LeaseHistory.{LeaseNote, notes_of}
use Rattle.ccr_model.specs.World.{State, at_leader, at_follower, for_follower, follower_of}
use Rattle.ccr_model.specs.Past.{Line, Past, FollowerPast, line_of, given_after, line_after, cut_after, notes_kept, notes_left, past_with, places_left, delivered_to_leader, sending_place, is_leasing, answer_after, follower_past_of}
use Rattle.ccr_model.specs.FrameFacts.{IsTrueFrame, IsTruePoll, IsTrueContent, IsTrueWork, AsksAsRead, Reading, reading_in, reading_of, named_follower, next_request_of}
use Rattle.ccr_law_base.proofs.Lists.{All-weaker, All-every, All-both, All-at, set-same}
use Rattle.ccr_law_base.proofs.Stays.{begins_none}
use Rattle.ccr_law_retention.specs.Grounds.{AsksForOwn, IsMessageOf, HasMessages, Rises, HasGrounds}
use Rattle.ccr_law_retention.specs.Retaining.{bound_of, FollowerOk, FollowerOkOf, IsToldTruly, IsToldTrulyOf, IsRetaining}
use Rattle.ccr_law_retention.specs.Moving.{MovesTo}
use Rattle.ccr_law_retention.proofs.Lists.{set-other}
use Rattle.ccr_law_retention.proofs.Growing.{ReadsFrom, ReadsOwn, Setting, to_uuid}
use Rattle.ccr_law_retention.proofs.Own.{moved-ok, told-moved}
use Rattle.ccr_law_retention.proofs.LeaderNotes.{Says, KeptOwn, AsksTruly, Place}
use Rattle.ccr_law_retention.proofs.Worlds.{any_work, to_none, led, moved, carried, with-parts}
use Rattle.std.proofs.lemmas.List.{append-nil}

-- ---- what is known of the messages to one follower, or to none

pub record Knows (to : List ℕ → Type 0) (lease : List ℕ) (work : Work) (p : Past) : Type 0 where
  pub kept : KeptOwn to lease p.state.leader.kept
  pub flight : AllByRecursion (λ (m : Frame). to m.follower → AsksTruly p.state.leader.history lease work m.request m.content) p.state.flight
  pub polls : AllByRecursion (λ (x : Poll). to x.follower → x.history ≡ p.state.leader.history → ReadsFrom p.state.leader.history work x.request x.from) p.state.leader.polls

pub knows-none : (id : List ℕ) (p : Past) → Knows to_none id any_work p
knows-none id p = record {
  kept = All-every (λ (k : KeptRequest). to_none k.follower → k.id ≡ id) (λ k none. absurd none) p.state.leader.kept;
  flight = All-every (λ (m : Frame). to_none m.follower → AsksTruly p.state.leader.history id any_work m.request m.content) (λ m none. absurd none) p.state.flight;
  polls = All-every (λ (x : Poll). to_none x.follower → x.history ≡ p.state.leader.history → ReadsFrom p.state.leader.history any_work x.request x.from) (λ x none. absurd none) p.state.leader.polls;
}

pub reading-is : (s : State) (f : ℕ) (x : Follower) (uuid : List ℕ) (request : ℕ) → follower_of s.followers (uuid_of f) ≡ Some f → slice_get s.followers f ≡ Some x → bytes_eq uuid (uuid_of f) ≡ true
    → reading_of s uuid request ≡ reading_in x.work request
reading-is s f x uuid request named there is =
    let same : uuid ≡ uuid_of f = (bytes_eq-Decides uuid (uuid_of f)).0 is in
    let found : named_follower s.followers (uuid_of f) ≡ Some x = ap (λ (o : Option ℕ). option_and_then (slice_get s.followers) o) named ∙ there in
    ap (λ (u : List ℕ). reading_of s u request) same ∙ ap (λ (o : Option Follower). option_and_then (λ (y : Follower). reading_in y.work request) o) found

begins : (o : Option Reading) (current history : List ℕ) (from max_ops max_bytes : ℕ) → history ≡ current → IfSome o (AsksAsRead history from max_ops max_bytes)
    → IfSome o (λ r. (r.task.history ≡ current) × (from ≡ r.read.from))
begins None current history from max_ops max_bytes same it = tt
begins (Some r) current history from max_ops max_bytes same it = (sym it.same_history ∙ same, it.begins)

-- the read's task is of the follower's history
own-reading : (p : Past) (own : List ℕ) (work : Work) (request : ℕ) → IsTrueWork p own work → IfSome (reading_in work request) (λ o. o.task.history ≡ own)
own-reading p own (restoring r) request is = tt
own-reading p own (replicating t) request is =
    elim (read_sent t request) as (λ (found : Option Read). IfSome (option_map {T = Read} {U = Reading} (λ read. record { task = t; read = read }) found) (λ o. o.task.history ≡ own)) [
      | None ↦ tt
      | Some read ↦ is
    ]

pub reads-own : (p : Past) (f : ℕ) (x : Follower) → HasGrounds p → slice_get p.state.followers f ≡ Some x → ReadsOwn x.history x.work
reads-own p f x grounds there request =
    own-reading p x.history x.work request (All-at (λ (y : Follower). IsTrueWork p y.history y.work) p.state.followers f x grounds.frames.works there)

asks-truly : (p : Past) (f : ℕ) (x : Follower) (uuid : List ℕ) (request : ℕ) (content : Content) → follower_of p.state.followers (uuid_of f) ≡ Some f → slice_get p.state.followers f ≡ Some x
    → bytes_eq uuid (uuid_of f) ≡ true → IsTrueContent p uuid request content → AsksForOwn x.lease content → AsksTruly p.state.leader.history x.lease x.work request content
asks-truly p f x uuid request (contents.ReadRequest history from max_ops max_bytes timeout) named there is truth own = λ same.
    begins (reading_in x.work request) p.state.leader.history history from max_ops max_bytes same
    (subst (λ (o : Option Reading). IfSome o (AsksAsRead history from max_ops max_bytes)) (reading-is p.state f x uuid request named there is) truth)
asks-truly p f x uuid request (contents.LeaseAdd id) named there is truth own = own
asks-truly p f x uuid request _ named there is truth own = tt

pub knows-own : (p : Past) (f : ℕ) (x : Follower) → HasGrounds p → slice_get p.state.followers f ≡ Some x → Knows (to_uuid (uuid_of f)) x.lease x.work p
knows-own p f x grounds there =
    let mine : HasMessages p f x = grounds.messages.made f x there in
    record {
      kept = mine.kept;
      flight = All-weaker (λ (m : Frame). IsTrueFrame p m × (bytes_eq m.follower (uuid_of f) ≡ true → IsMessageOf x m)) (λ (m : Frame). to_uuid (uuid_of f) m.follower → AsksTruly p.state.leader.history x.lease x.work m.request m.content)
          (λ m both is. asks-truly p f x m.follower m.request m.content mine.named there is both.0.content (both.1 is).own) p.state.flight
          (All-both (IsTrueFrame p) (λ (m : Frame). bytes_eq m.follower (uuid_of f) ≡ true → IsMessageOf x m) p.state.flight grounds.frames.flight mine.flight);
      polls = All-weaker (IsTruePoll p) (λ (y : Poll). to_uuid (uuid_of f) y.follower → y.history ≡ p.state.leader.history → ReadsFrom p.state.leader.history x.work y.request y.from)
          (λ y truth is same. begins (reading_in x.work y.request) p.state.leader.history y.history y.from y.max_ops y.max_bytes same
          (subst (λ (o : Option Reading). IfSome o (AsksAsRead y.history y.from y.max_ops y.max_bytes)) (reading-is p.state f x y.follower y.request mine.named there is) truth.asks)) p.state.leader.polls grounds.frames.polls;
    }

pub setting-of : (p : Past) → HasGrounds p → Setting p.notes p.state.leader.copies p.line.cut
setting-of p grounds = record { order = grounds.order.losses; leases = grounds.leases; floors = grounds.floors }

pub place-known : (to : List ℕ → Type 0) (lease : List ℕ) (work : Work) (p : Past) → HasGrounds p → Knows to lease work p → Place to lease p.line.cut p.state.leader
place-known to lease work p grounds knows = record { kept = knows.kept; ready = grounds.ready }

-- ---- places and answers that stay

abbrev pub is_taking : Event → Bool
is_taking (events.Deliver at copy keep) = true
is_taking (events.Drop at) = true
is_taking _ = false

pub places-stay : (sent_at : List ℕ) (event : Event) (reply : Reply) → is_taking event ≡ false → places_left sent_at event reply ≡ sent_at
places-stay sent_at event (replies.Refused why) isnt = refl
places-stay sent_at (events.Deliver at copy keep) reply isnt = absurd cc
places-stay sent_at (events.Drop at) reply isnt = absurd cc
places-stay sent_at _ reply isnt = refl

pub notes-refused : (s : Leader) (next : Copies) (place : ℕ) (delivered : Option Frame) (event : Event) (why : Refusal) → notes_of s next place delivered event (replies.Refused why) ≡ []
notes-refused s next place delivered (events.Deliver at copy keep) why = refl
notes-refused s next place delivered (events.Sync sides.Leader copy) why = refl
notes-refused s next place delivered (events.FailCopy sides.Leader copy) why = refl
notes-refused s next place delivered events.Expire why = refl
notes-refused s next place delivered _ why = refl

answer-unmoved : (answer delivered : Option ℕ) (phase : Phase) → answer_after answer phase phase delivered ≡ answer
answer-unmoved answer delivered phase =
    elim (is_leasing phase) as (λ (b : Bool). (if b && not b then delivered else answer) ≡ answer) [ true ↦ refl | false ↦ refl ]

pub past-unmoved : (f : ℕ) (past : FollowerPast) (delivered : Option ℕ) (event : Event) (reply : Reply) (lines : List ℕ → Line) (found : Option Follower)
    → (follower_past_of f past delivered event reply lines found found).answer ≡ past.answer
past-unmoved f past delivered event reply lines None = refl
past-unmoved f past delivered event reply lines (Some x) = answer-unmoved past.answer delivered (phase_of_work x.work)

-- ---- the history goes on

-- the notes and the cut are those of the history before
pub record StaysInHistory (p : Past) (event : Event) (reply : Reply) : Type 0 where
  pub notes : notes_kept p.notes event reply ≡ p.notes
  pub earlier : notes_left p.notes p.earlier event reply ≡ p.earlier
  pub cut : (ops : List Operation) → cut_after p.line ops event reply ≡ p.line.cut

pub none-begins : (p : Past) (event : Event) (reply : Reply) → begins_none event ≡ true → StaysInHistory p event reply
none-begins p (events.ForcePromote copy) reply none = absurd cc
none-begins p _ reply none = record { notes = refl; earlier = refl; cut = λ ops. refl }

pub refused-stays : (p : Past) (event : Event) (why : Refusal) → StaysInHistory p event (replies.Refused why)
refused-stays p (events.ForcePromote copy) why = record { notes = refl; earlier = refl; cut = λ ops. refl }
refused-stays p _ why = record { notes = refl; earlier = refl; cut = λ ops. refl }

pub cut-up : (p : Past) (event : Event) (reply : Reply) (o : Outcome State) → StaysInHistory p event reply → p.line.cut ≤ (past_with p (record { event = event; reply = reply }) o).line.cut
cut-up p event reply o stays =
    let given : ℕ → ℕ → Option Operation = given_after p.state.leader p.given event reply in
    let ops : List Operation = line_after p.state.leader p.line given event reply in
    let same : cut_after p.line ops event reply ≡ p.line.cut = stays.cut ops in
    let above : cut_after p.line ops event reply ≤ max (cut_after p.line ops event reply) o.next.leader.copies.primary.global = omega arith in
    subst (λ (n : ℕ). n ≤ max (cut_after p.line ops event reply) o.next.leader.copies.primary.global) same above

-- with no new notes the notes are those of before
pub notes-none : (p : Past) (event : Event) (reply : Reply) (new : List LeaseNote) → StaysInHistory p event reply → new ≡ [] → new ++ notes_kept p.notes event reply ≡ p.notes
notes-none p event reply new stays none = ap (λ (ns : List LeaseNote). ns ++ notes_kept p.notes event reply) none ∙ stays.notes

-- ---- nothing changed

pub quiet-place : (p : Past) (event : Event) (reply : Reply) → StaysInHistory p event reply
    → notes_of p.state.leader p.state.leader.copies p.place (delivered_to_leader p.state event) event reply ≡ [] → places_left p.sent_at event reply ≡ p.sent_at
    → IsRetaining p → IsRetaining (past_with p (record { event = event; reply = reply }) (record { reply = reply; next = p.state; sent = [] }))
quiet-place p event reply stays notes places all =
    let after : Past = past_with p (record { event = event; reply = reply }) (record { reply = reply; next = p.state; sent = [] }) in
    let now : ℕ → Option ℕ = λ f. (after.followers f).answer in
    let same : (f : ℕ) → now f ≡ (p.followers f).answer = λ f. past-unmoved f (p.followers f) (sending_place p.sent_at event) event reply (line_of p) (slice_get p.state.followers f) in
    with-parts p.state.leader.history p.state.leader.history p.state.followers now p.notes after.notes p.earlier after.earlier p.state.flight p.sent_at after.sent_at after.line.cut
    refl (notes-none p event reply _ stays notes) stays.earlier (append-nil (places_left p.sent_at event reply) ∙ places)
    (carried p.state.leader.history p.state.followers (λ f. (p.followers f).answer) now p.notes p.earlier p.state.flight p.sent_at p.line.cut after.line.cut
    (cut-up p event reply (record { reply = reply; next = p.state; sent = [] }) stays) same all)

pub refused-place : (p : Past) (event : Event) (why : Refusal) → IsRetaining p → IsRetaining (past_with p (record { event = event; reply = replies.Refused why }) (refused p.state why))
refused-place p event why all =
    quiet-place p event (replies.Refused why) (refused-stays p event why) (notes-refused p.state.leader p.state.leader.copies p.place (delivered_to_leader p.state event) event why) refl all

-- ---- the leader did something

pub leader-place : (p : Past) (event : Event) (o : Outcome Leader) → is_taking event ≡ false → StaysInHistory p event o.reply → o.next.history ≡ p.state.leader.history → HasGrounds p
    → ((to : List ℕ → Type 0) (lease : List ℕ) (work : Work) → Knows to lease work p
    → Says to p.state.leader.history lease work p.place p.notes p.line.cut (all_copies p.state.leader.copies) p.state.flight
    (notes_of p.state.leader o.next.copies p.place (delivered_to_leader p.state event) event o.reply) o.sent)
    → IsRetaining p → IsRetaining (past_with p (record { event = event; reply = o.reply }) (at_leader p.state o))
leader-place p event o isnt stays same grounds says all =
    let new : List LeaseNote = notes_of p.state.leader o.next.copies p.place (delivered_to_leader p.state event) event o.reply in
    let after : Past = past_with p (record { event = event; reply = o.reply }) (at_leader p.state o) in
    let sent_places : List ℕ = map {A = Frame} {B = ℕ} (λ m. p.place) o.sent in
    with-parts p.state.leader.history o.next.history p.state.followers (λ f. (after.followers f).answer) (new ++ p.notes) after.notes p.earlier after.earlier (p.state.flight ++ o.sent)
    (p.sent_at ++ sent_places) after.sent_at after.line.cut
    same (ap (λ (ns : List LeaseNote). new ++ ns) stays.notes) stays.earlier (ap (λ (ps : List ℕ). ps ++ sent_places) (places-stay p.sent_at event o.reply isnt))
    (led p.state.leader.history p.state.followers (λ f. (p.followers f).answer) (λ f. (after.followers f).answer) p.notes new p.earlier p.state.flight o.sent p.sent_at p.line.cut after.line.cut p.place p.state.leader.copies
    (setting-of p grounds) (λ f x there. says (to_uuid (uuid_of f)) x.lease x.work (knows-own p f x grounds there)) (λ id. says to_none id any_work (knows-none id p)) (λ f x there. reads-own p f x grounds there)
    (cut-up p event o.reply (at_leader p.state o) stays)
    (λ f. past-unmoved f (p.followers f) (sending_place p.sent_at event) event o.reply (line_of p) (slice_get p.state.followers f)) all)

-- ---- one follower did something

abbrev pub NotesNothing : Past → Event → Type 0
NotesNothing p event = (reply : Reply) → notes_of p.state.leader p.state.leader.copies p.place (delivered_to_leader p.state event) event reply ≡ []

pub drawn-below : (p : Past) (f : ℕ) (x : Follower) → HasGrounds p → slice_get p.state.followers f ≡ Some x → AllByRecursion (λ (m : Frame). bytes_eq m.follower (uuid_of f) ≡ true → m.request < next_request_of x.work) p.state.flight
drawn-below p f x grounds there =
    All-weaker (λ (m : Frame). bytes_eq m.follower (uuid_of f) ≡ true → IsMessageOf x m) (λ (m : Frame). bytes_eq m.follower (uuid_of f) ≡ true → m.request < next_request_of x.work)
    (λ m it is. (it is).drawn) p.state.flight (grounds.messages.made f x there).flight

-- the answers of the bootstraps, where one follower is another
pub past-other : (followers : List Follower) (f : ℕ) (new : Follower) (g : ℕ) (past : FollowerPast) (delivered : Option ℕ) (event : Event) (reply : Reply) (lines : List ℕ → Line) → (g ≡ f → ⊥)
    → (follower_past_of g past delivered event reply lines (slice_get followers g) (slice_get (slice_set followers f new) g)).answer ≡ past.answer
past-other followers f new g past delivered event reply lines other =
    subst (λ (o : Option Follower). (follower_past_of g past delivered event reply lines (slice_get followers g) o).answer ≡ past.answer) (sym (set-other followers f g new (λ e. other (sym e))))
    (past-unmoved g past delivered event reply lines (slice_get followers g))

pub past-own : (followers : List Follower) (f : ℕ) (old new : Follower) (past : FollowerPast) (delivered : Option ℕ) (event : Event) (reply : Reply) (lines : List ℕ → Line) → slice_get followers f ≡ Some old
    → (follower_past_of f past delivered event reply lines (slice_get followers f) (slice_get (slice_set followers f new) f)).answer ≡ answer_after past.answer (phase_of_work old.work) (phase_of_work new.work) delivered
past-own followers f old new past delivered event reply lines there =
    ap (λ (o : Option Follower). (follower_past_of f past delivered event reply lines o (slice_get (slice_set followers f new) f)).answer) there
    ∙ ap (λ (o : Option Follower). (follower_past_of f past delivered event reply lines (Some old) o).answer) (set-same followers f old new there)

pub follower-place : (p : Past) (event : Event) (f : ℕ) (row : Follower → Outcome Follower) → is_taking event ≡ false → begins_none event ≡ true → NotesNothing p event → HasGrounds p
    → ((x : Follower) → slice_get p.state.followers f ≡ Some x → MovesTo x (row x))
    → Rises p.state (for_follower p.state f row (slice_get p.state.followers f)).next
    → IsRetaining p
    → IsRetaining (past_with p (record { event = event; reply = (for_follower p.state f row (slice_get p.state.followers f)).reply }) (for_follower p.state f row (slice_get p.state.followers f)))
follower-place p event f row isnt none nothing grounds moves rises all =
    (elim (slice_get p.state.followers f) as (λ (found : Option Follower). slice_get p.state.followers f ≡ found → Rises p.state (for_follower p.state f row found).next
    → IsRetaining (past_with p (record { event = event; reply = (for_follower p.state f row found).reply }) (for_follower p.state f row found))) [
      | None ↦ λ missing up. refused-place p event (NoFollower f) all
      | Some x ↦ λ there up.
          let o : Outcome Follower = row x in
          let after : Past = past_with p (record { event = event; reply = o.reply }) (at_follower p.state f o) in
          let now : ℕ → Option ℕ = λ g. (after.followers g).answer in
          let move : MovesTo x o = moves x there in
          let stays : StaysInHistory p event o.reply = none-begins p event o.reply none in
          let higher : x.copies.primary.global ≤ o.next.copies.primary.global = up f x o.next there (set-same p.state.followers f x o.next there) in
          let sent_places : List ℕ = map {A = Frame} {B = ℕ} (λ m. p.place) o.sent in
          let places : List ℕ = p.sent_at ++ sent_places in
          let answer : Option ℕ = answer_after (p.followers f).answer (phase_of_work x.work) (phase_of_work o.next.work) (sending_place p.sent_at event) in
          let taken : now f ≡ answer = past-own p.state.followers f x o.next (p.followers f) (sending_place p.sent_at event) event o.reply (line_of p) there in
          let own : o.next.history ≡ p.state.leader.history → FollowerOkOf now p.notes (p.state.flight ++ o.sent) places f o.next = λ current.
          subst (λ (a : Option ℕ). FollowerOk a p.notes (p.state.flight ++ o.sent) places (uuid_of f) o.next.lease o.next.work o.next.copies.primary.global) (sym taken)
          (subst (λ (lease : List ℕ). FollowerOk answer p.notes (p.state.flight ++ o.sent) places (uuid_of f) lease o.next.work o.next.copies.primary.global) (sym move.lease)
          (moved-ok (p.followers f).answer (sending_place p.sent_at event) p.notes p.state.flight o.sent p.sent_at (uuid_of f) x.lease x.work o.next.work x.copies.primary.global o.next.copies.primary.global p.place
          move.work (move.bound higher) (drawn-below p f x grounds there) move.sent (all.made f x there (sym move.history ∙ current)))) in
          let own_told : IsToldTrulyOf now (p.notes ++ p.earlier) (p.state.flight ++ o.sent) f o.next =
          subst (λ (a : Option ℕ). IsToldTruly a (p.notes ++ p.earlier) (p.state.flight ++ o.sent) (uuid_of f) o.next.lease o.next.work) (sym taken)
          (subst (λ (lease : List ℕ). IsToldTruly answer (p.notes ++ p.earlier) (p.state.flight ++ o.sent) (uuid_of f) lease o.next.work) (sym move.lease)
          (told-moved (p.followers f).answer (sending_place p.sent_at event) (p.notes ++ p.earlier) p.state.flight o.sent (uuid_of f) x.lease (bound_of o.next.copies.primary.global o.next.work) x.work o.next.work
          move.work (drawn-below p f x grounds there) move.sent (all.told f x there))) in
          with-parts p.state.leader.history p.state.leader.history (slice_set p.state.followers f o.next) now p.notes after.notes p.earlier after.earlier (p.state.flight ++ o.sent) places after.sent_at after.line.cut
          refl (notes-none p event o.reply _ stays (nothing o.reply)) stays.earlier (ap (λ (ps : List ℕ). ps ++ sent_places) (places-stay p.sent_at event o.reply isnt))
          (moved p.state.leader.history p.state.followers (λ g. (p.followers g).answer) now p.notes p.earlier p.state.flight o.sent p.sent_at p.line.cut after.line.cut p.place p.state.leader.copies f x o.next
          (setting-of p grounds) there move.lease move.history move.work.replicates move.sent move.renews (cut-up p event o.reply (at_follower p.state f o) stays)
          (λ g other. past-other p.state.followers f o.next g (p.followers g) (sending_place p.sent_at event) event o.reply (line_of p) other) own own_told all)
    ]) refl rises
