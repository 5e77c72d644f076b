-- Messages that are taken or lost.
use Rattle.std.specs.Prelude.{slice_get, slice_set, remove, not, nat_lt, ◌==◌, ◌&&◌, IfSome, if◌then◌else◌}
use Rattle.std.specs.Option.{option_and_then}
use Rattle.std.specs.List.{AllByRecursion, list_any}
use Rattle.std.specs.Str.{bytes_eq}
use Rattle.std.proofs.Common.{◌≡◌, inl, inr, ℕ, zero, suc, ◌+◌, ◌≤◌, Bool, true, false, List, [], ◌∷◌, ◌++◌, map, Option, Some, None, refl, ap, sym, ◌∙◌, subst, arith}
use Rattle.std.proofs.lemmas.Slice.Eq.{bytes_eq-Decides}
use Rattle.ccr_lease.specs.declared.retention.Lease.{Lease}
use Rattle.ccr_lease.specs.Leases.{lease_of}
use Rattle.ccr_wire.specs.Message.{Frame, kind_of_content}
use Rattle.ccr_wire.specs.declared.content.Content.{Content}
use Rattle.ccr_wire.specs.declared.content.Content.TheVariants as contents
use Rattle.ccr_journal.specs.declared.events.Event.{Event}
use Rattle.ccr_journal.specs.declared.events.Event.TheVariants as events
use Rattle.ccr_journal.specs.declared.replies.Reply.{Reply}
use Rattle.ccr_journal.specs.declared.replies.Reply.TheVariants as replies
use Rattle.ccr_journal.specs.declared.replies.Heard.TheVariants as heard
use Rattle.ccr_model.specs.Outcomes.{Outcome}
use Rattle.ccr_model.specs.Requests.{Sending}
use Rattle.ccr_model.specs.Copies.{Copy, copy_of, not_ready, has_lease, lacks_lease}
use Rattle.ccr_model.specs.Leaders.{Leader, Poll, Session, session_of}
use Rattle.ccr_model.specs.LeaderRows.{answering_kept, settling_requests}
use Rattle.ccr_model.specs.LeaderFrames.{has_to_wait, read_row, with_new_lease, answer_or_keep, lease_add_row, lease_renew_row, lease_remove_row, session_open_row, chunk_row, receive_row, leader_receive}
use Rattle.ccr_model.specs.Tasks.{Task, Read, read_sent}
use Rattle.ccr_model.specs.Restores.{Restore, Stage, Asked, leasing, opening, fetching, is_complete, answers, opens_other, ends_restore, restore_hears}
use Rattle.ccr_model.specs.Followers.{Follower, Work, restoring, replicating, uuid_of, phase_of_work, bootstrapped}
use Rattle.ccr_model.specs.FollowerRows.{does, restore_heard, restore_ended, task_heard, work_hears, follower_receive_row}
use Rattle.ccr_model.specs.LeaseHistory.{LeaseNote, notes_of, retained}
use Rattle.ccr_model.specs.World.{State, at_leader, at_follower, goes_to_leader, follower_from}
use Rattle.ccr_model.specs.Past.{Past, line_of, past_with, places_left, delivered_to_leader, sending_place, answer_after}
use Rattle.ccr_law_leases.proofs.Events.{unheard}
use Rattle.ccr_law_base.proofs.Cases.{on_if}
use Rattle.ccr_law_base.proofs.Lists.{All-at, some_equal, drop-zero}
use Rattle.ccr_model.specs.FrameFacts.{IsTrueWork}
use Rattle.ccr_law_base.proofs.Tests.{and_false}
use Rattle.ccr_law_retention.specs.Grounds.{HasGrounds}
use Rattle.ccr_law_retention.specs.Retaining.{Bound, asked, bound_of, RenewalLow, FollowerOk, FollowerOkOf, AreRetaining, IsRetaining, GrantOk, OpensAbove, history_opened, OpensIn, IsToldTruly, IsToldTrulyOf, Within}
use Rattle.ccr_law_retention.specs.Moving.{ends_work, HearsAs}
use Rattle.ccr_law_retention.proofs.Lists.{SentAt, sent-at}
use Rattle.ccr_law_retention.proofs.Growing.{to_uuid}
use Rattle.ccr_law_retention.proofs.Own.{Heard, moved-ok, answered-ok, told-moved}
use Rattle.ccr_law_retention.proofs.FollowerRows.{receive-moves}
use Rattle.ccr_law_retention.proofs.LeaderNotes.{AsksTruly, received-says}
use Rattle.ccr_law_retention.proofs.Worlds.{any_work, to_none, led, moved, left, early-asked, with-parts}
use Rattle.ccr_law_retention.proofs.Places.{reads-own, knows-own, knows-none, setting-of, place-known, past-unmoved, past-other, past-own, drawn-below}
use Rattle.std.proofs.lemmas.Bool.{and_from}

-- ---- replies to messages

abbrev pub IsHeardReply : Reply → Type 0
IsHeardReply (replies.Heard h) = Unit {0}
IsHeardReply _ = ⊥

answering-heard : (o : Outcome Leader) (reply : Reply) → IsHeardReply o.reply → IsHeardReply (answering_kept reply o).reply
answering-heard o (replies.Refused why) it = it
answering-heard o _ it = it

settling-heard : (o : Outcome Leader) → IsHeardReply o.reply → IsHeardReply (settling_requests o).reply
settling-heard o it = answering-heard o o.reply it

read-heard : (s : Leader) (p : Poll) (copy : ℕ) (c : Copy) → IsHeardReply (read_row s p copy (Some c)).reply
unfolding read_row
read-heard s p copy c =
    let P : Outcome Leader → Type 0 = λ (o : Outcome Leader). IsHeardReply o.reply in
    on_if P (has_to_wait s p c) _ _ (λ waits. tt)
    (λ answers. on_if P (not (bytes_eq p.history s.history)) _ _ (λ other. tt) (λ same. on_if P (nat_lt p.from c.floor) _ _ (λ low. tt) (λ high. tt)))

add-heard : (s : Leader) (follower : List ℕ) (request : ℕ) (id : List ℕ) (waits : Option ℕ) → IsHeardReply (lease_add_row s follower request id waits).reply
unfolding lease_add_row
add-heard s follower request id (Some copy) = tt
add-heard s follower request id None = by-lacking (lacks_lease id (with_new_lease s id).copies)
  where
    by-lacking : (lacking : Option ℕ) → IsHeardReply (answer_or_keep (with_new_lease s id) (record { follower = follower; request = request; id = id; existed = has_lease id s.copies.primary }) lacking).reply
    by-lacking None = tt
    by-lacking (Some copy) = tt

renew-heard : (s : Leader) (follower : List ℕ) (request : ℕ) (id : List ℕ) (number : ℕ) (found : Option Lease) → IsHeardReply (lease_renew_row s follower request id number found).reply
unfolding lease_renew_row
renew-heard s follower request id number None = tt
renew-heard s follower request id number (Some kept) = on_if (λ (o : Outcome Leader). IsHeardReply o.reply) (nat_lt number kept.number) _ _ (λ low. tt) (λ enough. tt)

remove-heard : (s : Leader) (follower : List ℕ) (request : ℕ) (id : List ℕ) (found : Option Lease) → IsHeardReply (lease_remove_row s follower request id found).reply
unfolding lease_remove_row
remove-heard s follower request id None = tt
remove-heard s follower request id (Some kept) = tt

open-heard : (s : Leader) (follower : List ℕ) (request : ℕ) (waits : Option ℕ) → IsHeardReply (session_open_row s follower request waits).reply
unfolding session_open_row
open-heard s follower request (Some copy) = tt
open-heard s follower request None = tt

chunk-heard : (s : Leader) (follower : List ℕ) (request session file offset size : ℕ) (found : Option Session) → IsHeardReply (chunk_row s follower request session file offset size found).reply
unfolding chunk_row
chunk-heard s follower request session file offset size None = tt
chunk-heard s follower request session file offset size (Some x) = tt

content-heard : (s : Leader) (copy : ℕ) (c : Copy) (follower : List ℕ) (request : ℕ) (content : Content) → copy_of s.copies copy ≡ Some c
    → IsHeardReply (receive_row s copy (record { follower = follower; request = request; content = content })).reply
content-heard s copy c follower request (contents.ReadRequest history from max_ops max_bytes timeout) there =
    let p : Poll = record { follower = follower; request = request; copy = copy; history = history; from = from; max_ops = max_ops; max_bytes = max_bytes; timeout = timeout; parked = s.now } in
    subst (λ (found : Option Copy). IsHeardReply (read_row s p copy found).reply) (sym there) (read-heard s p copy c)
content-heard s copy c follower request (contents.LeaseAdd id) there = add-heard s follower request id (not_ready s.copies)
content-heard s copy c follower request (contents.LeaseRenew id number) there = renew-heard s follower request id number (lease_of id s.copies.primary.leases.leases)
content-heard s copy c follower request (contents.LeaseRemove id) there = remove-heard s follower request id (lease_of id s.copies.primary.leases.leases)
content-heard s copy c follower request contents.SessionOpen there = open-heard s follower request (not_ready s.copies)
content-heard s copy c follower request (contents.ChunkRequest session file offset size) there = chunk-heard s follower request session file offset size (session_of s.sessions session)
content-heard s copy c follower request _ there = tt

leader-heard : (s : Leader) (copy : ℕ) (c : Copy) (m : Frame) → copy_of s.copies copy ≡ Some c → IsHeardReply (leader_receive s copy m).reply
leader-heard s copy c m there = settling-heard (receive_row s copy m) (content-heard s copy c m.follower m.request m.content there)

restored-heard : (s : Follower) (found : Option (Sending Restore)) → IsHeardReply (restore_heard s found).reply
restored-heard s None = tt
restored-heard s (Some done) =
    (elim done.next.stage as (λ (stage : Stage). IsHeardReply (elim stage as (λ _. Outcome Follower) [
      | leasing a ↦ does (replies.Heard heard.Done) (λ r. record s { work = restoring r }) done
      | opening a ↦ does (replies.Heard heard.Done) (λ r. record s { work = restoring r }) done
      | fetching f ↦
          if is_complete done.next.chunk_size f
          then does (replies.Heard heard.Done) (λ next. next) (bootstrapped s done.next f)
          else does (replies.Heard heard.Done) (λ r. record s { work = restoring r }) done
    ]).reply) [
      | leasing a ↦ tt
      | opening a ↦ tt
      | fetching f ↦ on_if (λ (o : Outcome Follower). IsHeardReply o.reply) (is_complete done.next.chunk_size f) _ _ (λ is. tt) (λ isnt. tt)
    ])

task-heard : (s : Follower) (t : Task) (content : Content) (found : Option Read) → IsHeardReply (task_heard s t content found).reply
task-heard s t content None = tt
task-heard s t (contents.ReadReply from global ops) (Some r) = tt
task-heard s t (contents.ReadMissing from floor) (Some r) = tt
task-heard s t (contents.ReadHistory history) (Some r) = tt
task-heard s t _ (Some r) = tt

follower-heard : (s : Follower) (m : Frame) → IsHeardReply (follower_receive_row s m).reply
unfolding follower_receive_row
follower-heard s m =
    on_if (λ (o : Outcome Follower). IsHeardReply o.reply) (list_any (λ n. n == m.request) s.lease_requests) _ (work_hears s m) (λ own. tt)
    (λ other. elim s.work as (λ (w : Work). IsHeardReply (elim w as (λ _. Outcome Follower) [
      | restoring r ↦ if ends_restore r m then restore_ended s r else restore_heard s (restore_hears r s.now m)
      | replicating t ↦ task_heard s t m.content (read_sent t m.request)
    ]).reply) [
      | restoring r ↦ on_if (λ (o : Outcome Follower). IsHeardReply o.reply) (ends_restore r m) (restore_ended s r) (restore_heard s (restore_hears r s.now m))
          (λ ends. tt) (λ goes. restored-heard s (restore_hears r s.now m))
      | replicating t ↦ task-heard s t m.content (read_sent t m.request)
    ])

-- ---- the message leaves those in flight

pub remove-append : {X : Type 0} (xs ys : List X) (n : ℕ) (x : X) → slice_get xs n ≡ Some x → remove (xs ++ ys) n ≡ remove xs n ++ ys
remove-append [] ys n x at = absurd cc
remove-append (z ∷ xs) ys zero x at = drop-zero (xs ++ ys) ∙ ap (λ (zs : List _). zs ++ ys) (sym (drop-zero xs))
remove-append (z ∷ xs) ys (suc n) x at = ap (λ (zs : List _). z ∷ zs) (remove-append xs ys n x at)

-- those in flight, where the message at a place stays or leaves
abbrev pub kept_or_left : {X : Type 0} → Bool → List X → ℕ → List X
kept_or_left keep xs at = if keep then xs else remove xs at

places-heard : (sent_at : List ℕ) (at copy : ℕ) (keep : Bool) (reply : Reply) → IsHeardReply reply → places_left sent_at (events.Deliver at copy keep) reply ≡ kept_or_left keep sent_at at
places-heard sent_at at copy keep (replies.Heard h) it = refl
places-heard sent_at at copy keep _ it = absurd it

-- the claims where it stayed give those where it may have left
left-or-kept : (keep : Bool) (history : List ℕ) (followers : List Follower) (answers : ℕ → Option ℕ) (notes earlier : List LeaseNote) (flight sent : List Frame) (sent_at places : List ℕ) (cut at place : ℕ) (m : Frame) → slice_get flight at ≡ Some m
    → slice_get sent_at at ≡ Some place
    → AreRetaining history followers answers notes earlier (flight ++ sent) (sent_at ++ places) cut
    → AreRetaining history followers answers notes earlier (kept_or_left keep flight at ++ sent) (kept_or_left keep sent_at at ++ places) cut
left-or-kept true history followers answers notes earlier flight sent sent_at places cut at place m is also all = all
left-or-kept false history followers answers notes earlier flight sent sent_at places cut at place m is also all =
    subst (λ (ms : List Frame). AreRetaining history followers answers notes earlier ms (remove sent_at at ++ places) cut) (remove-append flight sent at m is)
    (subst (λ (ps : List ℕ). AreRetaining history followers answers notes earlier (remove (flight ++ sent) at) ps cut) (remove-append sent_at places at place also)
    (left history followers answers notes earlier (flight ++ sent) (sent_at ++ places) cut at all))

-- the place where the message was sent
place-at : (p : Past) (at : ℕ) (m : Frame) → IsRetaining p → slice_get p.state.flight at ≡ Some m → SentAt (λ (m : Frame) (place : ℕ). Unit {0}) p.sent_at at m
place-at p at m all is = sent-at (λ (m : Frame) (place : ℕ). Unit {0}) p.state.flight p.sent_at at m all.paired is

abbrev pub AfterDelivery : Past → ℕ → ℕ → Bool → Outcome State → Type 0
AfterDelivery p at copy keep o = IsRetaining (past_with p (record { event = events.Deliver at copy keep; reply = o.reply }) o)

-- ---- to the leader

pub to-leader : (p : Past) (at copy : ℕ) (keep : Bool) (m : Frame) (c : Copy) → HasGrounds p → slice_get p.state.flight at ≡ Some m → copy_of p.state.leader.copies copy ≡ Some c
    → goes_to_leader (kind_of_content m.content) ≡ true → (leader_receive p.state.leader copy m).next.history ≡ p.state.leader.history → IsRetaining p
    → AfterDelivery p at copy keep (at_leader (record p.state { flight = kept_or_left keep p.state.flight at }) (leader_receive p.state.leader copy m))
to-leader p at copy keep m c grounds is there goes same all =
    let o : Outcome Leader = leader_receive p.state.leader copy m in
    let after : Past = past_with p (record { event = events.Deliver at copy keep; reply = o.reply }) (at_leader (record p.state { flight = kept_or_left keep p.state.flight at }) o) in
    let now : ℕ → Option ℕ = λ f. (after.followers f).answer in
    let new : List LeaseNote = notes_of p.state.leader o.next.copies p.place (Some m) (events.Deliver at copy keep) o.reply in
    let delivered : delivered_to_leader p.state (events.Deliver at copy keep) ≡ Some m =
    ap (λ (found : Option Frame). option_and_then (λ (m : Frame). if goes_to_leader (kind_of_content m.content) then Some m else None) found) is ∙ ap (λ (b : Bool). if b then Some m else None) goes in
    let sent_places : List ℕ = map {A = Frame} {B = ℕ} (λ m. p.place) o.sent in
    let place = place-at p at m all is in
    let renewal : (own : List ℕ) (b : ℕ) → AllByRecursion (RenewalLow own b) p.state.flight → RenewalLow own b m = λ own b renewals. All-at (RenewalLow own b) p.state.flight at m renewals is in
    with-parts p.state.leader.history o.next.history p.state.followers now (new ++ p.notes) after.notes p.earlier after.earlier (kept_or_left keep p.state.flight at ++ o.sent)
    (kept_or_left keep p.sent_at at ++ sent_places) after.sent_at after.line.cut same
    (ap (λ (d : Option Frame). notes_of p.state.leader o.next.copies p.place d (events.Deliver at copy keep) o.reply ++ p.notes) delivered) refl
    (ap (λ (ps : List ℕ). ps ++ sent_places) (places-heard p.sent_at at copy keep o.reply (leader-heard p.state.leader copy c m there)))
    (left-or-kept keep p.state.leader.history p.state.followers now (new ++ p.notes) p.earlier p.state.flight o.sent p.sent_at sent_places after.line.cut at place.place m is place.is
    (led p.state.leader.history p.state.followers (λ f. (p.followers f).answer) now p.notes new p.earlier p.state.flight o.sent p.sent_at p.line.cut after.line.cut p.place p.state.leader.copies (setting-of p grounds)
    (λ f x at_f. received-says (to_uuid (uuid_of f)) x.lease x.work p.place p.notes p.line.cut p.state.flight at copy keep p.state.leader m
    (place-known (to_uuid (uuid_of f)) x.lease x.work p grounds (knows-own p f x grounds at_f))
    (All-at (λ (m : Frame). to_uuid (uuid_of f) m.follower → AsksTruly p.state.leader.history x.lease x.work m.request m.content) p.state.flight at m (knows-own p f x grounds at_f).flight is) renewal)
    (λ id. received-says to_none id any_work p.place p.notes p.line.cut p.state.flight at copy keep p.state.leader m (place-known to_none id any_work p grounds (knows-none id p)) (λ none. absurd none) renewal)
    (λ f x at_f. reads-own p f x grounds at_f)
    (omega arith) (λ f. past-unmoved f (p.followers f) (sending_place p.sent_at (events.Deliver at copy keep)) (events.Deliver at copy keep) o.reply (line_of p) (slice_get p.state.followers f)) all))

-- ---- to a follower

-- the follower of a UUID is there
pub record IsThere (k : ℕ) (followers : List Follower) (uuid : List ℕ) (f : ℕ) : Type 0 where
  pub at : ℕ
  pub is : f ≡ k + at
  pub follower : Follower
  pub there : slice_get followers at ≡ Some follower
  pub named : bytes_eq (uuid_of f) uuid ≡ true

pub is-there : (k : ℕ) (followers : List Follower) (uuid : List ℕ) (f : ℕ) → follower_from k followers uuid ≡ Some f → IsThere k followers uuid f
is-there k [] uuid f found = absurd cc
is-there k (x ∷ followers) uuid f found =
    on_if (λ (o : Option ℕ). o ≡ Some f → IsThere k (x ∷ followers) uuid f) (bytes_eq (uuid_of k) uuid) (Some k) (follower_from (k + 1) followers uuid)
    (λ is at. let same : k ≡ f = some_equal k f at in
    record { at = 0; is = omega arith; follower = x; there = refl; named = subst (λ (n : ℕ). bytes_eq (uuid_of n) uuid ≡ true) same is })
    (λ isnt at. let rest = is-there (k + 1) followers uuid f at in
    record { at = suc rest.at; is = let e = rest.is in omega arith; follower = rest.follower; there = rest.there; named = rest.named }) found

pub flipped : (xs ys : List ℕ) → bytes_eq xs ys ≡ true → bytes_eq ys xs ≡ true
flipped xs ys is = (bytes_eq-Decides ys xs).1 (sym ((bytes_eq-Decides xs ys).0 is))

pub not-delivered : (p : Past) (at copy : ℕ) (keep : Bool) (m : Frame) → slice_get p.state.flight at ≡ Some m → goes_to_leader (kind_of_content m.content) ≡ false
    → delivered_to_leader p.state (events.Deliver at copy keep) ≡ None
not-delivered p at copy keep m is goes =
    ap (λ (found : Option Frame). option_and_then (λ (m : Frame). if goes_to_leader (kind_of_content m.content) then Some m else None) found) is ∙ ap (λ (b : Bool). if b then Some m else None) goes

-- ---- a bootstrap of the leader's history goes on

opens-same : (own : List ℕ) (content : Content) → IfSome (history_opened content) (λ history. history ≡ own) → opens_other own content ≡ false
opens-same own (contents.SessionOpened session history count sizes) same = ap not ((bytes_eq-Decides history own).1 same)
opens-same own _ same = refl

ends-none : (r : Restore) (m : Frame) → IfSome (history_opened m.content) (λ history. history ≡ r.history) → ends_restore r m ≡ false
ends-none r m same =
    elim r.stage as (λ (stage : Stage). (elim stage as (λ _. Bool) [
      | leasing a ↦ false
      | opening a ↦ answers m a && opens_other r.history m.content
      | fetching f ↦ false
    ]) ≡ false) [
      | leasing a ↦ refl
      | opening a ↦ ap (λ (b : Bool). answers m a && b) (opens-same r.history m.content same) ∙ and_false (answers m a)
      | fetching f ↦ refl
    ]

goes-on : (p : Past) (own current : List ℕ) (work : Work) (m : Frame) → IsTrueWork p own work → own ≡ current → IfSome (history_opened m.content) (λ history. history ≡ current) → ends_work work m ≡ false
goes-on p own current (restoring r) m truth same opens =
    ends-none r m (subst (λ (h : List ℕ). IfSome (history_opened m.content) (λ history. history ≡ h)) (sym (truth.0 ∙ same)) opens)
goes-on p own current (replicating t) m truth same opens = refl

pub to-follower : (p : Past) (at copy : ℕ) (keep : Bool) (m : Frame) (f : ℕ) (x : Follower) → HasGrounds p → slice_get p.state.flight at ≡ Some m → goes_to_leader (kind_of_content m.content) ≡ false
    → slice_get p.state.followers f ≡ Some x → bytes_eq m.follower (uuid_of f) ≡ true
    → x.copies.primary.global ≤ (follower_receive_row x m).next.copies.primary.global → IsRetaining p
    → AfterDelivery p at copy keep (at_follower (record p.state { flight = kept_or_left keep p.state.flight at }) f (follower_receive_row x m))
to-follower p at copy keep m f x grounds is goes there own higher all =
    let o : Outcome Follower = follower_receive_row x m in
    let event : Event = events.Deliver at copy keep in
    let after : Past = past_with p (record { event = event; reply = o.reply }) (at_follower (record p.state { flight = kept_or_left keep p.state.flight at }) f o) in
    let now : ℕ → Option ℕ = λ g. (after.followers g).answer in
    let hears : HearsAs x m o = receive-moves x m in
    let sent_places : List ℕ = map {A = Frame} {B = ℕ} (λ m. p.place) o.sent in
    let places : List ℕ = p.sent_at ++ sent_places in
    let below = drawn-below p f x grounds there in
    let place = place-at p at m all is in
    let own_past : now f ≡ answer_after (p.followers f).answer (phase_of_work x.work) (phase_of_work o.next.work) (sending_place p.sent_at event) =
    past-own p.state.followers f x o.next (p.followers f) (sending_place p.sent_at event) event o.reply (line_of p) there in
    let own_ok : o.next.history ≡ p.state.leader.history → FollowerOkOf now p.notes (p.state.flight ++ o.sent) places f o.next = λ next_current.
    let current : x.history ≡ p.state.leader.history = sym hears.history ∙ next_current in
    let old : FollowerOk (p.followers f).answer p.notes p.state.flight p.sent_at (uuid_of f) x.lease x.work x.copies.primary.global = all.made f x there current in
    let grant : SentAt (GrantOk (uuid_of f) x.lease p.notes) p.sent_at at m = sent-at (GrantOk (uuid_of f) x.lease p.notes) p.state.flight p.sent_at at m old.grants is in
    let heard_as : Heard (p.followers f).answer p.notes p.state.flight (uuid_of f) x.lease (bound_of x.copies.primary.global x.work) m grant.place = record {
      own = own;
      grant = λ granted. grant.holds (and_from (bytes_eq m.follower (uuid_of f)) _ own granted);
      opens = λ kept a same. opens-of (bound_of x.copies.primary.global x.work) a same (old.within kept);
      none = λ a same. (early-asked p.state.leader.history p.state.followers (λ g. (p.followers g).answer) p.notes p.earlier p.state.flight p.sent_at p.line.cut f x all there a same).none;
    } in
    let answer : Option ℕ = answer_after (p.followers f).answer (phase_of_work x.work) (phase_of_work o.next.work) (Some grant.place) in
    let taken : now f ≡ answer = own_past ∙ ap (λ (d : Option ℕ). answer_after (p.followers f).answer (phase_of_work x.work) (phase_of_work o.next.work) d) grant.is in
    let on : ends_work x.work m ≡ false =
    goes-on p x.history p.state.leader.history x.work m (All-at (λ (y : Follower). IsTrueWork p y.history y.work) p.state.followers f x grounds.frames.works there) current
    (All-at (OpensIn (uuid_of f) p.state.leader.history) p.state.flight at m (all.opens f x there current) is own) in
    let stays : FollowerOk answer p.notes (p.state.flight ++ o.sent) places (uuid_of f) x.lease o.next.work o.next.copies.primary.global
    = (elim (hears.bound on higher) as (λ _. FollowerOk answer p.notes (p.state.flight ++ o.sent) places (uuid_of f) x.lease o.next.work o.next.copies.primary.global) [
      | inl follows ↦ moved-ok (p.followers f).answer (Some grant.place) p.notes p.state.flight o.sent p.sent_at (uuid_of f) x.lease x.work o.next.work x.copies.primary.global o.next.copies.primary.global p.place
          hears.work follows below hears.sent old
      | inr answers ↦ answered-ok (p.followers f).answer p.notes p.state.flight o.sent p.sent_at (uuid_of f) x.lease x.work o.next.work x.copies.primary.global o.next.copies.primary.global p.place grant.place m
          hears.work answers heard_as below hears.sent old
    ]) in
    subst (λ (a : Option ℕ). FollowerOk a p.notes (p.state.flight ++ o.sent) places (uuid_of f) o.next.lease o.next.work o.next.copies.primary.global) (sym taken)
    (subst (λ (lease : List ℕ). FollowerOk answer p.notes (p.state.flight ++ o.sent) places (uuid_of f) lease o.next.work o.next.copies.primary.global) (sym hears.lease) stays) in
    let own_told : IsToldTrulyOf now (p.notes ++ p.earlier) (p.state.flight ++ o.sent) f o.next =
    subst (λ (a : Option ℕ). IsToldTruly a (p.notes ++ p.earlier) (p.state.flight ++ o.sent) (uuid_of f) o.next.lease o.next.work) (sym own_past)
    (subst (λ (lease : List ℕ). IsToldTruly (answer_after (p.followers f).answer (phase_of_work x.work) (phase_of_work o.next.work) (sending_place p.sent_at event)) (p.notes ++ p.earlier) (p.state.flight ++ o.sent) (uuid_of f) lease
    o.next.work) (sym hears.lease)
    (told-moved (p.followers f).answer (sending_place p.sent_at event) (p.notes ++ p.earlier) p.state.flight o.sent (uuid_of f) x.lease (bound_of o.next.copies.primary.global o.next.work) x.work o.next.work
    hears.work below hears.sent (all.told f x there))) in
    let nothing : notes_of p.state.leader p.state.leader.copies p.place (delivered_to_leader p.state event) event o.reply ≡ [] =
    ap (λ (d : Option Frame). notes_of p.state.leader p.state.leader.copies p.place d event o.reply) (not-delivered p at copy keep m is goes) ∙ unheard p.state.leader p.state.leader.copies p.place at copy keep o.reply in
    with-parts p.state.leader.history p.state.leader.history (slice_set p.state.followers f o.next) now p.notes after.notes p.earlier after.earlier (kept_or_left keep p.state.flight at ++ o.sent)
    (kept_or_left keep p.sent_at at ++ sent_places) after.sent_at after.line.cut refl
    (ap (λ (ns : List LeaseNote). ns ++ p.notes) nothing) refl
    (ap (λ (ps : List ℕ). ps ++ sent_places) (places-heard p.sent_at at copy keep o.reply (follower-heard x m)))
    (left-or-kept keep p.state.leader.history (slice_set p.state.followers f o.next) now p.notes p.earlier p.state.flight o.sent p.sent_at sent_places after.line.cut at place.place m is place.is
    (moved p.state.leader.history p.state.followers (λ g. (p.followers g).answer) now p.notes p.earlier p.state.flight o.sent p.sent_at p.line.cut after.line.cut p.place p.state.leader.copies f x o.next (setting-of p grounds) there
    hears.lease hears.history hears.work.replicates hears.sent hears.renews (omega arith)
    (λ g other. past-other p.state.followers f o.next g (p.followers g) (sending_place p.sent_at event) event o.reply (line_of p) other) own_ok own_told all))
  where
    opens-of : (bound : Bound) (a : Asked) → bound ≡ asked a → Within p.state.flight (uuid_of f) x.lease (retained x.lease p.notes) bound → OpensAbove (uuid_of f) a (retained x.lease p.notes) m
    opens-of bound a same within =
        let opens : AllByRecursion (OpensAbove (uuid_of f) a (retained x.lease p.notes)) p.state.flight =
        subst (λ (b : Bound). Within p.state.flight (uuid_of f) x.lease (retained x.lease p.notes) b) same within in
        All-at (OpensAbove (uuid_of f) a (retained x.lease p.notes)) p.state.flight at m opens is
