-- What the leader answers is true, and so are the polls and the requests that it keeps.
use Rattle.std.specs.Prelude.{filter, slice_get, not, nat_lt, ◌==◌, unwrap_or, IfSome}
use Rattle.std.specs.Str.{bytes_eq}
use Rattle.std.specs.List.{AllByRecursion}
use Rattle.std.proofs.Common.{◌≡◌, ℕ, zero, suc, ◌≤◌, true, false, if◌then◌else◌, Option, Some, None, List, [], ◌∷◌, ◌++◌, map, length, take, drop, refl, sym, ◌∙◌, ap, subst}
use Rattle.std.proofs.lemmas.Slice.Eq.{bytes_eq-Decides}
use Rattle.std.proofs.lemmas.Bool.{eqb-true, ltb-false, not-false}
use Rattle.ccr_wire.specs.Message.{Frame}
use Rattle.ccr_wire.specs.declared.content.Content.{Content}
use Rattle.ccr_wire.specs.declared.content.Content.TheVariants as contents
use Rattle.ccr_wire.specs.declared.kind.LeaseResult.TheVariants as results
use Rattle.ccr_lease.specs.declared.retention.Lease.{Lease}
use Rattle.ccr_journal.specs.declared.replies.Reply.{Reply}
use Rattle.ccr_journal.specs.declared.replies.Reply.TheVariants as replies
use Rattle.ccr_model.specs.Outcomes.{Outcome, within}
use Rattle.ccr_model.specs.Copies.{Copy, Replica, Copies, copy_of, greatest_floor, has_lease, lacks_lease}
use Rattle.ccr_model.specs.CopyRows.{fail_copy_row}
use Rattle.ccr_model.specs.Leaders.{Leader, Session, KeptRequest, Poll, polls_of, without_poll, session_of}
use Rattle.ccr_model.specs.LeaderRows.{with_copies, all_hold, lease_answer, answering_kept, leader_promote_row, force_promote_row, leader_fail_copy_row}
use Rattle.ccr_model.specs.LeaderFrames.{read_ops, answer_read, has_to_wait, read_row, wake_row, with_new_lease, answer_or_keep, lease_add_row, lease_renew_row, lease_remove_row, new_session, session_open_row, chunk_of, chunk_row, receive_row, polled_copy}
use Rattle.ccr_model.specs.Followers.{Follower, Work}
use Rattle.ccr_model.specs.Past.{Line}
use Rattle.ccr_law_messages.specs.Asking.{Ask, ask_in, Part, part_in}
use Rattle.ccr_law_messages.specs.Saying.{IsWhole, IsTruePart, Brings, IsTrueSaid, IsTrueMessage}
use Rattle.ccr_law_messages.specs.Serving.{ReadBrings}
use Rattle.ccr_model.specs.FrameFacts.{IsCommitted}
use Rattle.ccr_law_messages.specs.TrueFrames.{Scene, Own, own_of, setting, IsOfFollower, frame_of_poll, frame_of_kept, AreOfFollowers, ArePolls, AreKept, IsOpen}
use Rattle.ccr_law_messages.proofs.Finds.{if-weaker}
use Rattle.ccr_law_messages.proofs.Openings.{OpensOne}
use Rattle.ccr_law_messages.proofs.Quiet.{IsSilent, fail_copy-silent}
use Rattle.ccr_law_base.proofs.Lists.{All-weaker, All-append, All-push, All-filter, All-map, All-at, All-find, All-without_poll}
use Rattle.ccr_law_base.proofs.Cases.{on_if, on_guards}

-- what is told after the leader did something
pub record LeaderTells (scene : Scene) (followers : List Follower) (polls : List Poll) (kept : List KeptRequest) (sent : List Frame) : Type 0 where
  pub sent_ok : AreOfFollowers scene followers sent
  pub polls_ok : ArePolls scene followers polls
  pub kept_ok : AreKept scene followers kept

abbrev pub RowTells : Scene → List Follower → Outcome Leader → Type 0
RowTells scene followers o = LeaderTells scene followers o.next.polls o.next.kept o.sent

-- what is told by a leader that sends nothing
abbrev pub Told : Scene → List Follower → Leader → Type 0
Told scene followers l = LeaderTells scene followers l.polls l.kept []

-- the same with messages
sends : (scene : Scene) (followers : List Follower) (l : Leader) (sent : List Frame) → AreOfFollowers scene followers sent → Told scene followers l → LeaderTells scene followers l.polls l.kept sent
sends scene followers l sent true_ones told = record { sent_ok = true_ones; polls_ok = told.polls_ok; kept_ok = told.kept_ok }

-- an answer to a true message is true where what it says is
pub answer-of : (scene : Scene) (followers : List Follower) (m : Frame) (content : Content)
    → ((f : ℕ) (own : Own) (w : Work) → IsTrueMessage (setting scene f own) w m → IsTrueSaid (setting scene f own) w m.request content)
    → IsOfFollower scene followers m → IsOfFollower scene followers (record { follower = m.follower; request = m.request; content = content })
answer-of scene followers m content says of = record {
  number = of.number;
  follower = of.follower;
  there = of.there;
  truth = record { named = of.truth.named; drawn = of.truth.drawn; said = says of.number (own_of of.follower) of.follower.work of.truth };
}

-- only the copies change, and nothing is sent
pub copies-tell : (scene : Scene) (followers : List Follower) (l : Leader) (o : Outcome Copies) → IsSilent o → Told scene followers l → RowTells scene followers (within (with_copies l) o)
copies-tell scene followers l o silent told = subst (λ (sent : List Frame). LeaderTells scene followers l.polls l.kept sent) (sym silent) told

-- ---- reads

-- each read of the copy brings what it should
abbrev pub CopyBrings : Line → Copy → Type 0
CopyBrings line c = (from max_ops max_bytes : ℕ) → c.floor ≤ from → 1 ≤ max_ops → ReadBrings line from max_ops max_bytes (read_ops c from max_ops max_bytes)

read-answer : (scene : Scene) (followers : List Follower) (p : Poll) (c : Copy) (current : List ℕ) → p.history ≡ current → CopyBrings (scene.lines current) c → c.floor ≤ p.from → IsOfFollower scene followers (frame_of_poll p)
    → IsOfFollower scene followers (record { follower = p.follower; request = p.request; content = contents.ReadReply p.from c.global (read_ops c p.from p.max_ops p.max_bytes) })
read-answer scene followers p c current own brings high of =
    answer-of scene followers (frame_of_poll p) (contents.ReadReply p.from c.global (read_ops c p.from p.max_ops p.max_bytes))
    (λ f lease w truth.
    let told : ReadBrings (scene.lines current) p.from p.max_ops p.max_bytes (read_ops c p.from p.max_ops p.max_bytes) = brings p.from p.max_ops p.max_bytes high truth.said.some in
    record {
      committed = subst (λ (history : List ℕ). AllByRecursion (IsCommitted (scene.lines history)) (read_ops c p.from p.max_ops p.max_bytes)) (sym own ∙ truth.said.same_history) told.committed;
      run = told.run;
      brings = if-weaker (λ (a : Ask). a ≡ record { history = p.history; from = p.from; number = p.max_ops; size = p.max_bytes }) (Brings p.from (read_ops c p.from p.max_ops p.max_bytes))
          (λ a same. subst (Brings p.from (read_ops c p.from p.max_ops p.max_bytes)) (sym same) (record { begins = refl; number = told.number; size = told.size }))
          (ask_in w p.request) truth.said.asks;
    }) of

not_other : (a b : List ℕ) → not (bytes_eq a b) ≡ false → a ≡ b
not_other a b same = (bytes_eq-Decides a b).0 (not-false (bytes_eq a b) same)

answer_read-tells : (scene : Scene) (followers : List Follower) (l : Leader) (p : Poll) (c : Copy) (next : Leader) → CopyBrings (scene.lines l.history) c → IsOfFollower scene followers (frame_of_poll p)
    → Told scene followers next → RowTells scene followers (answer_read l p c next)
answer_read-tells scene followers l p c next brings of told =
    on_if (RowTells scene followers) (not (bytes_eq p.history l.history)) _ _
    (λ other. sends scene followers next _ (answer-of scene followers (frame_of_poll p) (contents.ReadHistory l.history) (λ f lease w truth. tt) of, tt) told)
    (λ same. on_if (RowTells scene followers) (nat_lt p.from c.floor) _ _
    (λ low. sends scene followers next _ (answer-of scene followers (frame_of_poll p) (contents.ReadMissing p.from c.floor) (λ f lease w truth. tt) of, tt) told)
    (λ high. sends scene followers next _ (read-answer scene followers p c l.history (not_other p.history l.history same) brings (ltb-false p.from c.floor high) of, tt) told))

pub read-tells : (scene : Scene) (followers : List Follower) (l : Leader) (p : Poll) (copy : ℕ) (found : Option Copy) → ((c : Copy) → found ≡ Some c → CopyBrings (scene.lines l.history) c)
    → IsOfFollower scene followers (frame_of_poll p) → Told scene followers l → RowTells scene followers (read_row l p copy found)
unfolding read_row
read-tells scene followers l p copy None brings of told = told
read-tells scene followers l p copy (Some c) brings of told =
    on_if (RowTells scene followers) (has_to_wait l p c) _ _
    (λ waits. record { sent_ok = tt; polls_ok = All-push (λ (x : Poll). IsOfFollower scene followers (frame_of_poll x)) l.polls p told.polls_ok of; kept_ok = told.kept_ok })
    (λ now. answer_read-tells scene followers l p c l (brings c refl) of told)

wake_found-tells : (scene : Scene) (followers : List Follower) (l : Leader) (follower : List ℕ) (at : ℕ) (p : Poll) (found : Option Copy) → ((c : Copy) → found ≡ Some c → CopyBrings (scene.lines l.history) c)
    → IsOfFollower scene followers (frame_of_poll p) → Told scene followers l → RowTells scene followers (wake_row l follower at (Some p) found)
unfolding wake_row
wake_found-tells scene followers l follower at p None brings of told = told
wake_found-tells scene followers l follower at p (Some c) brings of told =
    on_guards (RowTells scene followers) l _ _ (λ why. told)
    (λ tests. answer_read-tells scene followers l p c (record l { polls = without_poll follower at l.polls }) (brings c refl) of
    (record {
      sent_ok = tt;
      polls_ok = All-without_poll (λ (x : Poll). IsOfFollower scene followers (frame_of_poll x)) follower at l.polls told.polls_ok;
      kept_ok = told.kept_ok;
    }))

pub wake-tells : (scene : Scene) (followers : List Follower) (l : Leader) (follower : List ℕ) (at : ℕ) (found : Option Poll) → slice_get (polls_of l.polls follower) at ≡ found
    → ((copy : ℕ) (c : Copy) → copy_of l.copies copy ≡ Some c → CopyBrings (scene.lines l.history) c) → Told scene followers l → RowTells scene followers (wake_row l follower at found (polled_copy l.copies found))
unfolding wake_row
wake-tells scene followers l follower at None is brings told = told
wake-tells scene followers l follower at (Some p) is brings told =
    wake_found-tells scene followers l follower at p (copy_of l.copies p.copy) (brings p.copy)
    (All-at (λ (x : Poll). IsOfFollower scene followers (frame_of_poll x)) (polls_of l.polls follower) at p
    (All-filter (λ (x : Poll). IsOfFollower scene followers (frame_of_poll x)) (λ x. bytes_eq x.follower follower) l.polls told.polls_ok) is) told

-- ---- leases

new_lease-told : (scene : Scene) (followers : List Follower) (l : Leader) (id : List ℕ) → Told scene followers l → Told scene followers (with_new_lease l id)
new_lease-told scene followers l id told = on_if (λ (next : Leader). Told scene followers next) (has_lease id l.copies.primary) _ _ (λ there. told) (λ isnt. told)

or_keep-tells : (scene : Scene) (followers : List Follower) (l : Leader) (k : KeptRequest) (lacking : Option ℕ) → IsOfFollower scene followers (frame_of_kept k) → Told scene followers l
    → RowTells scene followers (answer_or_keep l k lacking)
or_keep-tells scene followers l k None of told =
    sends scene followers l _ (
      answer-of scene followers (frame_of_kept k) (if k.existed then contents.LeaseAnswer results.Exists (greatest_floor l.copies) else contents.LeaseAdded (greatest_floor l.copies))
          (λ f lease w truth. on_if (IsTrueSaid (setting scene f lease) w k.request) k.existed (contents.LeaseAnswer results.Exists (greatest_floor l.copies)) (contents.LeaseAdded (greatest_floor l.copies))
          (λ there. tt) (λ isnt. tt)) of,
      tt,
    ) told
or_keep-tells scene followers l k (Some copy) of told = record {
  sent_ok = tt;
  polls_ok = told.polls_ok;
  kept_ok = All-push (λ (x : KeptRequest). IsOfFollower scene followers (frame_of_kept x)) l.kept k told.kept_ok of;
}

lease_add-tells : (scene : Scene) (followers : List Follower) (l : Leader) (follower : List ℕ) (request : ℕ) (id : List ℕ) (waits : Option ℕ)
    → IsOfFollower scene followers (record { follower = follower; request = request; content = contents.LeaseAdd id }) → Told scene followers l → RowTells scene followers (lease_add_row l follower request id waits)
unfolding lease_add_row
lease_add-tells scene followers l follower request id (Some copy) of told =
    sends scene followers l _ (answer-of scene followers (record { follower = follower; request = request; content = contents.LeaseAdd id }) (contents.NotReady copy) (λ f lease w truth. tt) of, tt) told
lease_add-tells scene followers l follower request id None of told =
    or_keep-tells scene followers (with_new_lease l id) (record { follower = follower; request = request; id = id; existed = has_lease id l.copies.primary })
    (lacks_lease id (with_new_lease l id).copies) of (new_lease-told scene followers l id told)

lease_renew-tells : (scene : Scene) (followers : List Follower) (l : Leader) (follower : List ℕ) (request : ℕ) (id : List ℕ) (number : ℕ) (found : Option Lease)
    → IsOfFollower scene followers (record { follower = follower; request = request; content = contents.LeaseRenew id number }) → Told scene followers l
    → RowTells scene followers (lease_renew_row l follower request id number found)
unfolding lease_renew_row
lease_renew-tells scene followers l follower request id number None of told =
    sends scene followers l _ (answer-of scene followers (record { follower = follower; request = request; content = contents.LeaseRenew id number }) (contents.LeaseAnswer results.NotFound 0) (λ f lease w truth. tt) of, tt) told
lease_renew-tells scene followers l follower request id number (Some kept) of told =
    on_if (RowTells scene followers) (nat_lt number kept.number) _ _
    (λ low. sends scene followers l _ (answer-of scene followers (record { follower = follower; request = request; content = contents.LeaseRenew id number }) (contents.LeaseAnswer results.LowNumber kept.number) (λ f lease w truth. tt) of, tt) told)
    (λ high. sends scene followers l _ (answer-of scene followers (record { follower = follower; request = request; content = contents.LeaseRenew id number }) (contents.LeaseAnswer results.Ok number) (λ f lease w truth. tt) of, tt) told)

lease_remove-tells : (scene : Scene) (followers : List Follower) (l : Leader) (follower : List ℕ) (request : ℕ) (id : List ℕ) (found : Option Lease)
    → IsOfFollower scene followers (record { follower = follower; request = request; content = contents.LeaseRemove id }) → Told scene followers l
    → RowTells scene followers (lease_remove_row l follower request id found)
unfolding lease_remove_row
lease_remove-tells scene followers l follower request id None of told =
    sends scene followers l _ (answer-of scene followers (record { follower = follower; request = request; content = contents.LeaseRemove id }) (contents.LeaseAnswer results.NotFound 0) (λ f lease w truth. tt) of, tt) told
lease_remove-tells scene followers l follower request id (Some kept) of told =
    sends scene followers l _ (answer-of scene followers (record { follower = follower; request = request; content = contents.LeaseRemove id }) (contents.LeaseAnswer results.Ok kept.number) (λ f lease w truth. tt) of, tt) told

-- the kept requests that are due are answered
due-answers : (scene : Scene) (followers : List Follower) (copies : Copies) (kept : List KeptRequest) → AreKept scene followers kept
    → AreOfFollowers scene followers (map {A = KeptRequest} {B = Frame} (lease_answer copies) (filter (λ k. all_hold k.id copies) kept))
due-answers scene followers copies kept all =
    All-map (IsOfFollower scene followers) (lease_answer copies) (filter (λ k. all_hold k.id copies) kept)
    (All-weaker (λ (k : KeptRequest). IsOfFollower scene followers (frame_of_kept k)) (λ (k : KeptRequest). IsOfFollower scene followers (lease_answer copies k))
    (λ k of. answer-of scene followers (frame_of_kept k) (if k.existed then contents.LeaseAnswer results.Exists (greatest_floor copies) else contents.LeaseAdded (greatest_floor copies))
    (λ f lease w truth. on_if (IsTrueSaid (setting scene f lease) w k.request) k.existed (contents.LeaseAnswer results.Exists (greatest_floor copies)) (contents.LeaseAdded (greatest_floor copies))
    (λ there. tt) (λ isnt. tt)) of)
    (filter (λ k. all_hold k.id copies) kept)
    (All-filter (λ (k : KeptRequest). IsOfFollower scene followers (frame_of_kept k)) (λ k. all_hold k.id copies) kept all))

due-tells : (scene : Scene) (followers : List Follower) (o : Outcome Leader) → RowTells scene followers o
    → LeaderTells scene followers o.next.polls (filter (λ k. not (all_hold k.id o.next.copies)) o.next.kept)
    (o.sent ++ map {A = KeptRequest} {B = Frame} (lease_answer o.next.copies) (filter (λ k. all_hold k.id o.next.copies) o.next.kept))
due-tells scene followers o told = record {
  sent_ok = All-append (IsOfFollower scene followers) o.sent (map {A = KeptRequest} {B = Frame} (lease_answer o.next.copies) (filter (λ k. all_hold k.id o.next.copies) o.next.kept)) told.sent_ok
      (due-answers scene followers o.next.copies o.next.kept told.kept_ok);
  polls_ok = told.polls_ok;
  kept_ok = All-filter (λ (k : KeptRequest). IsOfFollower scene followers (frame_of_kept k)) (λ k. not (all_hold k.id o.next.copies)) o.next.kept told.kept_ok;
}

pub settled-tells : (scene : Scene) (followers : List Follower) (reply : Reply) (o : Outcome Leader) → RowTells scene followers o → RowTells scene followers (answering_kept reply o)
settled-tells scene followers (replies.Refused why) o told = told
settled-tells scene followers _ o told = due-tells scene followers o told

-- ---- sessions

session_open-tells : (scene : Scene) (followers : List Follower) (l : Leader) (follower : List ℕ) (request : ℕ) (waits : Option ℕ)
    → (OpensOne l (session_open_row l follower request waits).next.next_session (session_open_row l follower request waits).next.sessions → session_of scene.opened l.next_session ≡ Some (new_session l))
    → scene.opened_in l.next_session ≡ l.history → IsOfFollower scene followers (record { follower = follower; request = request; content = contents.SessionOpen }) → Told scene followers l
    → RowTells scene followers (session_open_row l follower request waits)
unfolding session_open_row
session_open-tells scene followers l follower request (Some copy) opens history of told =
    sends scene followers l _ (answer-of scene followers (record { follower = follower; request = request; content = contents.SessionOpen }) (contents.NotReady copy) (λ f lease w truth. tt) of, tt) told
session_open-tells scene followers l follower request None opens history of told =
    let found : session_of scene.opened l.next_session ≡ Some (new_session l) = opens (record { new_next = refl; new = refl }) in
    record {
      sent_ok = (
        answer-of scene followers (record { follower = follower; request = request; content = contents.SessionOpen }) _
            (λ f lease w truth. record { session = new_session l; opened = found; same_count = refl; same_history = sym history; same_sizes = refl }) of,
        tt,
      );
      polls_ok = told.polls_ok;
      kept_ok = told.kept_ok;
    }

take-again : (n : ℕ) (xs : List ℕ) → take (length (take n xs)) xs ≡ take n xs
take-again zero [] = refl
take-again zero (x ∷ xs) = refl
take-again (suc n) [] = refl
take-again (suc n) (x ∷ xs) = ap (λ (ys : List ℕ). x ∷ ys) (take-again n xs)

-- a session with the same files has the same parts
same-chunk : (a b : Session) → a.files ≡ b.files → (file offset size : ℕ) → chunk_of a file offset size ≡ chunk_of b file offset size
same-chunk a b same file offset size = ap (λ (files : List (List ℕ)). take size (drop offset (unwrap_or (slice_get files file) []))) same

part-true : (scene : Scene) (f : ℕ) (lease : Own) (w : Work) (request session file offset size : ℕ) (x first : Session) → session_of scene.opened session ≡ Some first → first.files ≡ x.files
    → IfSome (part_in w request) (λ a. a ≡ record { session = session; file = file; offset = offset; size = size })
    → IsTruePart (setting scene f lease) w request session file offset (chunk_of x file offset size)
part-true scene f lease w request session file offset size x first found same asks =
    let whole : chunk_of first file offset size ≡ chunk_of x file offset size = same-chunk first x same file offset size in
    record {
      session = first;
      opened = found;
      bytes = same-chunk first x same file offset (length (chunk_of x file offset size)) ∙ take-again size (drop offset (unwrap_or (slice_get x.files file) []));
      whole = if-weaker (λ (a : Part). a ≡ record { session = session; file = file; offset = offset; size = size }) (IsWhole first session file offset (chunk_of x file offset size))
          (λ a is. subst (IsWhole first session file offset (chunk_of x file offset size)) (sym is) (record { same_session = refl; same_file = refl; same_offset = refl; all = sym whole }))
          (part_in w request) asks;
    }

chunk-tells : (scene : Scene) (followers : List Follower) (l : Leader) (follower : List ℕ) (request session file offset size : ℕ) (found : Option Session) → session_of l.sessions session ≡ found
    → AllByRecursion (IsOpen scene.opened l.next_session) l.sessions
    → IsOfFollower scene followers (record { follower = follower; request = request; content = contents.ChunkRequest session file offset size }) → Told scene followers l
    → RowTells scene followers (chunk_row l follower request session file offset size found)
unfolding chunk_row
chunk-tells scene followers l follower request session file offset size None is still of told =
    sends scene followers l _ (answer-of scene followers (record { follower = follower; request = request; content = contents.ChunkRequest session file offset size }) (contents.SessionGone session) (λ f lease w truth. tt) of, tt) told
chunk-tells scene followers l follower request session file offset size (Some x) is still of told =
    let at : IsOpen scene.opened l.next_session x × ((x.number == session) ≡ true) = All-find (IsOpen scene.opened l.next_session) (λ s. s.number == session) l.sessions x still is in
    let number : x.number ≡ session = eqb-true x.number session at.1 in
    let there : session_of scene.opened session ≡ Some at.0.first = subst (λ (n : ℕ). session_of scene.opened n ≡ Some at.0.first) number at.0.found in
    record {
      sent_ok = (
        answer-of scene followers (record { follower = follower; request = request; content = contents.ChunkRequest session file offset size }) (contents.ChunkReply session file offset (chunk_of x file offset size))
            (λ f lease w truth. part-true scene f lease w request session file offset size x at.0.first there at.0.same_files truth.said.1) of,
        tt,
      );
      polls_ok = told.polls_ok;
      kept_ok = told.kept_ok;
    }

-- ---- messages

pub content-tells : (scene : Scene) (followers : List Follower) (l : Leader) (copy : ℕ) (follower : List ℕ) (request : ℕ) (content : Content)
    → ((copy : ℕ) (c : Copy) → copy_of l.copies copy ≡ Some c → CopyBrings (scene.lines l.history) c)
    → AllByRecursion (IsOpen scene.opened l.next_session) l.sessions
    → (OpensOne l (receive_row l copy (record { follower = follower; request = request; content = content })).next.next_session
    (receive_row l copy (record { follower = follower; request = request; content = content })).next.sessions → session_of scene.opened l.next_session ≡ Some (new_session l))
    → scene.opened_in l.next_session ≡ l.history → IsOfFollower scene followers (record { follower = follower; request = request; content = content }) → Told scene followers l
    → RowTells scene followers (receive_row l copy (record { follower = follower; request = request; content = content }))
content-tells scene followers l copy follower request (contents.ReadRequest history from max_ops max_bytes timeout) brings still opens same of told =
    read-tells scene followers l
    (record { follower = follower; request = request; copy = copy; history = history; from = from; max_ops = max_ops; max_bytes = max_bytes; timeout = timeout; parked = l.now })
    copy (copy_of l.copies copy) (λ c found. brings copy c found) of told
content-tells scene followers l copy follower request (contents.LeaseAdd id) brings still opens same of told = lease_add-tells scene followers l follower request id _ of told
content-tells scene followers l copy follower request (contents.LeaseRenew id number) brings still opens same of told = lease_renew-tells scene followers l follower request id number _ of told
content-tells scene followers l copy follower request (contents.LeaseRemove id) brings still opens same of told = lease_remove-tells scene followers l follower request id _ of told
content-tells scene followers l copy follower request contents.SessionOpen brings still opens same of told = session_open-tells scene followers l follower request _ opens same of told
content-tells scene followers l copy follower request (contents.ChunkRequest session file offset size) brings still opens same of told =
    chunk-tells scene followers l follower request session file offset size (session_of l.sessions session) refl still of told
content-tells scene followers l copy follower request (contents.ReadReply from global ops) brings still opens same of told = told
content-tells scene followers l copy follower request (contents.ReadMissing from floor) brings still opens same of told = told
content-tells scene followers l copy follower request (contents.ReadHistory history) brings still opens same of told = told
content-tells scene followers l copy follower request (contents.LeaseAdded number) brings still opens same of told = told
content-tells scene followers l copy follower request (contents.LeaseAnswer outcome number) brings still opens same of told = told
content-tells scene followers l copy follower request (contents.SessionOpened session history count sizes) brings still opens same of told = told
content-tells scene followers l copy follower request (contents.ChunkReply session file offset bytes) brings still opens same of told = told
content-tells scene followers l copy follower request (contents.SessionGone session) brings still opens same of told = told
content-tells scene followers l copy follower request (contents.NotReady waits) brings still opens same of told = told

-- ---- copies that leave

pub promote-tells : (scene : Scene) (followers : List Follower) (l : Leader) (copy : ℕ) (found : Option Replica) → Told scene followers l → RowTells scene followers (leader_promote_row l copy found)
unfolding leader_promote_row
promote-tells scene followers l copy None told = told
promote-tells scene followers l copy (Some r) told = record {
  sent_ok = tt;
  polls_ok = All-filter (λ (p : Poll). IsOfFollower scene followers (frame_of_poll p)) (λ p. not (p.copy == l.copies.primary.number)) l.polls told.polls_ok;
  kept_ok = tt;
}

pub force-tells : (scene : Scene) (followers : List Follower) (l : Leader) (copy : ℕ) (found : Option Copy) → Told scene followers l → RowTells scene followers (force_promote_row l copy found)
unfolding force_promote_row
force-tells scene followers l copy None told = told
force-tells scene followers l copy (Some c) told = record { sent_ok = tt; polls_ok = tt; kept_ok = tt }

pub fail_copy-tells : (scene : Scene) (followers : List Follower) (l : Leader) (copy : ℕ) (found : Option Replica) → Told scene followers l → RowTells scene followers (leader_fail_copy_row l copy found)
unfolding leader_fail_copy_row
fail_copy-tells scene followers l copy None told = copies-tell scene followers l (fail_copy_row l.copies copy None) (fail_copy-silent l.copies copy None) told
fail_copy-tells scene followers l copy (Some r) told =
    subst (λ (sent : List Frame). LeaderTells scene followers (filter (λ p. not (p.copy == copy)) l.polls) l.kept sent) (sym (fail_copy-silent l.copies copy (Some r))) (record {
      sent_ok = tt;
      polls_ok = All-filter (λ (p : Poll). IsOfFollower scene followers (frame_of_poll p)) (λ p. not (p.copy == copy)) l.polls told.polls_ok;
      kept_ok = told.kept_ok;
    })
