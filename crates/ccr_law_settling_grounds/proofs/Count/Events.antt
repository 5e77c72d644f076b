-- What is told and known of the leader's count: it holds at the start, and each event keeps it.
use Rattle.std.specs.Prelude.{◌==◌, slice_get, IfSome}
use Rattle.std.specs.List.{AllByRecursion}
use Rattle.std.specs.Str.{bytes_eq}
use Rattle.std.specs.Option.{option_map, option_and_then}
use Rattle.std.proofs.Common.{◌≡◌, ℕ, ◌≤◌, ◌<◌, zero, suc, true, false, List, length, Option, Some, None, is_some, refl, sym, ◌∙◌, ap, subst, arith}
use Rattle.std.proofs.lemmas.Bool.{eqb-true}
use Rattle.std.proofs.lemmas.Option.{slice_get_past}
use Rattle.std.proofs.lemmas.Slice.Eq.{bytes_eq-Decides}
use Rattle.ccr_op.specs.Operation.{Operation}
use Rattle.ccr_tracker.specs.Numbers.{has}
use Rattle.ccr_wire.specs.Message.{Frame}
use Rattle.ccr_wire.specs.declared.content.Content.{Content}
use Rattle.ccr_wire.specs.declared.content.Content.TheVariants as contents
use Rattle.ccr_journal.specs.declared.params.ParamValues.{ParamValues}
use Rattle.ccr_journal.specs.declared.events.Event.{Event}
use Rattle.ccr_journal.specs.declared.events.Event.TheVariants as events
use Rattle.ccr_model.specs.Outcomes.{Outcome}
use Rattle.ccr_model.specs.Copies.{Copy, Replica, replica_of}
use Rattle.ccr_model.specs.Leaders.{Start, Session, Poll}
use Rattle.ccr_model.specs.Followers.{Follower, uuid_of, new_follower}
use Rattle.ccr_model.specs.World.{State, follower_of, with_new_follower, follow_row, same_name}
use Rattle.ccr_model.specs.Step.{step}
use Rattle.ccr_model.specs.Past.{Line, Past, FollowerPast, WrittenBatch, start_past, line_of, follower_past_of, sending_place}
use Rattle.ccr_model.specs.FrameFacts.{AreTrueFrames, IsTrueFrame, IsTrueContent, IsCommitted, HoldsHistory, named_follower}
use Rattle.ccr_law_base.specs.Events.{past_by}
use Rattle.ccr_law_base.proofs.Cases.{on_if, on_guards}
use Rattle.ccr_law_base.proofs.Tests.{by_test}
use Rattle.ccr_law_base.proofs.Following.{may_make, histories_follow}
use Rattle.ccr_law_base.proofs.Lists.{All-weaker, All-at, All-append, All-from_both, All-find, some_equal}
use Rattle.ccr_law_copies.specs.Cores.{IsCore, IsReplica, HasOnward}
use Rattle.ccr_law_copies.proofs.Sets.{has-below}
use Rattle.ccr_law_messages.specs.TrueFrames.{IsOfFollower, frame_of_poll, scene_of, HasTrueFrames}
use Rattle.ccr_law_messages.specs.FrameLaws.{AreTheirs}
use Rattle.ccr_law_messages.proofs.Says.{named-number, same-follower, frames-say}
use Rattle.ccr_law_messages.proofs.Events.{own-line}
use Rattle.ccr_law_followers.specs.TrueCopies.{CopyOk, HasTrueCopies, Rises}
use Rattle.ccr_law_followers.specs.Fetches.{RestoreOk, StageOk, WorkOk, FetchOk, HasTrueFetches}
use Rattle.ccr_law_followers.specs.CopyLaws.{HasTrueFollowers, IsGround}
use Rattle.ccr_law_followers.proofs.Restoring.{restore-hears}
use Rattle.ccr_law_followers.proofs.FetchEvents.{says_truly, fetch-own}
use Rattle.ccr_law_followers.proofs.Group.{group-rises}
use Rattle.ccr_law_settling_grounds.specs.KnownCounts.{TellsSo, IsKnownTo, IsWorkWithin, HasKnownCounts, KnownKeep}
use Rattle.ccr_law_settling_grounds.proofs.Count.Within.{Tells, tells_more, tells_all, tells_both, work_later}
use Rattle.ccr_law_settling_grounds.proofs.Count.Answering.{KnowWithin, MayHear, AsksFairly}
use Rattle.ccr_law_settling_grounds.proofs.Count.Followers.{ContentWithin, EndsWithin, SaysWithin}
use Rattle.ccr_law_settling_grounds.proofs.Count.Rows.{IsWithin, IsSaidWithin, each_within}

-- ---- the copies

-- no copy of the leader knows of more than is committed
pub copies_know_committed : (p : Past) → IsCore p → KnowWithin p.line.cut p.state.leader.copies
copies_know_committed p core copy c at =
    on_if (λ (o : Option Copy). o ≡ Some c → c.global ≤ p.line.cut) (p.state.leader.copies.primary.number == copy) (Some p.state.leader.copies.primary)
    (option_map {T = Replica} {U = Copy} (λ r. r.copy) (replica_of p.state.leader.copies copy))
    (λ is own. subst (λ (x : Copy). x.global ≤ p.line.cut) (some_equal p.state.leader.copies.primary c own) core.rest.primary.known)
    (λ isnt found. of_replica (replica_of p.state.leader.copies copy) refl found)
    at
  where
    of_replica : (found : Option Replica) → replica_of p.state.leader.copies copy ≡ found → option_map {T = Replica} {U = Copy} (λ r. r.copy) found ≡ Some c → c.global ≤ p.line.cut
    of_replica None is own = cc
    of_replica (Some r) is own =
        let ok = All-find (λ (x : Replica). IsReplica p.line p.state.leader.copies.primary.number p.state.leader.copies.next (p.given x.copy.number) x) (λ x. x.copy.number == copy)
        p.state.leader.copies.replicas r core.rest.replicas_ok is in
        subst (λ (x : Copy). x.global ≤ p.line.cut) (some_equal r.copy c own) ok.0.low

-- a follower's copy knows of no more than is committed: it was given each operation below the count that it knows
pub copy_knows_committed : (line : Line) (ops : ℕ → Option Operation) (restored : ℕ) (written : List WrittenBatch) (next : ℕ) (c : Copy) → CopyOk line ops restored written next c
    → c.global ≤ line.cut
copy_knows_committed line ops restored written next c ok = by_count c.global refl
  where
    given_below : (n : ℕ) (o : Option Operation) → ops n ≡ o → is_some o ≡ true → n < line.cut
    given_below n None at some = cc
    given_below n (Some op) at some =
        let below : op.seq < line.cut = (ok.committed n op at).0.below in
        subst (λ (k : ℕ). k < line.cut) (ok.committed n op at).1 below

    by_count : (g : ℕ) → c.global ≡ g → g ≤ line.cut
    by_count zero is = omega arith
    by_count (suc g) is =
        let reached : c.global ≤ c.seen.count = ok.reached in
        let seen : has c.seen g ≡ true = has-below c.seen g (omega arith) in
        let below : g < line.cut = given_below g (ops g) refl (sym (ok.processed g) ∙ seen) in
        omega arith

-- ---- the messages

-- a reply in flight brings operations that are committed in the history of the follower that it is for
content_committed : (p : Past) (f : ℕ) (s : Follower) (uuid : List ℕ) (request : ℕ) (content : Content) → named_follower p.state.followers uuid ≡ Some s
    → IsTrueContent p uuid request content → TellsSo (λ global. global ≤ (line_of p s.history).cut) content → ContentWithin (line_of p s.history).cut content
content_committed p f s uuid request (contents.ReadReply from global ops) named says told =
    let committed : AllByRecursion (IsCommitted (line_of p s.history)) ops
    = subst (λ (o : Option Follower). IfSome o (λ x. AllByRecursion (IsCommitted (line_of p x.history)) ops)) named says.0 in
    record {
      known = told;
      below = All-weaker (IsCommitted (line_of p s.history)) (λ (op : Operation). op.seq < (line_of p s.history).cut) (λ op is. is.below) ops committed;
    }
content_committed p f s uuid request _ named says told = tt

-- a bootstrap ends with the count of a session, which is no more than is committed in the history in which it was opened
session_committed : (p : Past) (at f : ℕ) (m : Frame) (s : Follower) → AreTrueFrames p → HasTrueFetches p → slice_get p.state.flight at ≡ Some m
    → follower_of p.state.followers m.follower ≡ Some f → slice_get p.state.followers f ≡ Some s → EndsWithin (line_of p s.history).cut s m
session_committed p at f m s frames ok in_flight named there r done fetch work came stage other =
    let after : RestoreOk p.opened done.next
    = restore-hears p.opened r s.now m (subst (WorkOk p.opened) work (ok f s there)) (says_truly p at f m s r frames in_flight named there work) done came in
    let own : FetchOk p.opened done.next.chunk_size done.next.next_request fetch = subst (StageOk p.opened done.next.chunk_size done.next.next_request) stage after.stage in
    let found = All-find (λ (x : Session). HoldsHistory (line_of p (p.opened_in x.number)) x) (λ (x : Session). x.number == fetch.session) p.opened own.session frames.sessions own.is_opened in
    let opened_in : p.opened_in own.session.number ≡ s.history =
    ap p.opened_in (eqb-true own.session.number fetch.session found.1) ∙ fetch-own p frames at f m s in_flight there r done fetch work came stage other in
    subst (λ (n : ℕ). n ≤ (line_of p s.history).cut) (sym own.same_count) (subst (λ (history : List ℕ). own.session.count ≤ (line_of p history).cut) opened_in found.0.count)

-- a follower that asks in the leader's history follows it
asks_own : (p : Past) (m : Frame) (history : List ℕ) → IsCore p → HasTrueFrames p → (of : IsOfFollower (scene_of p) p.state.followers m) → history ≡ of.follower.history
    → MayHear (IsKnownTo p) p.state.leader m.follower history
asks_own p m history core frames of follows own copy c at f s there named =
    let same : of.follower ≡ s = same-follower p m f s frames.messages.few there of ((bytes_eq-Decides m.follower (uuid_of f)).1 named) in
    let is : history ≡ p.state.leader.history = (bytes_eq-Decides history p.state.leader.history).0 own in
    let line : line_of p s.history ≡ p.line = ap (λ (x : Follower). line_of p x.history) (sym same) ∙ (ap (line_of p) (sym follows ∙ is) ∙ own-line p) in
    subst (λ (x : Line). c.global ≤ x.cut) (sym line) (copies_know_committed p core copy c at)

request_fair : (p : Past) → IsCore p → HasTrueFrames p → (follower : List ℕ) (request : ℕ) (content : Content)
    → IsOfFollower (scene_of p) p.state.followers (record { follower = follower; request = request; content = content }) → AsksFairly (IsKnownTo p) p.state.leader follower content
request_fair p core frames follower request (contents.ReadRequest history from max_ops max_bytes timeout) of =
    asks_own p (record { follower = follower; request = request; content = contents.ReadRequest history from max_ops max_bytes timeout }) history core frames of of.truth.said.same_history
request_fair p core frames follower request _ of = tt

-- how much is committed in the history of a follower
abbrev committed_for : Past → Option Follower → ℕ
committed_for p None = 0
committed_for p (Some s) = (line_of p s.history).cut

abbrev cuts_of : Past → ℕ → ℕ
cuts_of p f = committed_for p (slice_get p.state.followers f)

-- in the words of its place
at_its_place : (p : Past) (f : ℕ) (s : Follower) (P : ℕ → Type 0) → slice_get p.state.followers f ≡ Some s → P (line_of p s.history).cut → P (cuts_of p f)
at_its_place p f s P there is = subst (λ (o : Option Follower). P (committed_for p o)) (sym there) is

said_within : (p : Past) → IsGround p → HasTrueFrames p → HasTrueFollowers p → HasKnownCounts p → IsSaidWithin (IsKnownTo p) (cuts_of p) p.state
said_within p ground frames ok known = record {
  requests = All-weaker (IsOfFollower (scene_of p) p.state.followers) (λ (m : Frame). AsksFairly (IsKnownTo p) p.state.leader m.follower m.content)
      (λ m of. request_fair p ground.core frames m.follower m.request m.content of) p.state.flight frames.messages.flight_ok;
  polls = All-weaker (λ (q : Poll). IsOfFollower (scene_of p) p.state.followers (frame_of_poll q)) (λ (q : Poll). MayHear (IsKnownTo p) p.state.leader q.follower q.history)
      (λ q of. asks_own p (frame_of_poll q) q.history ground.core frames of of.truth.said.same_history) p.state.leader.polls frames.messages.polls_ok;
  primaries = λ f x there.
      at_its_place p f x (λ n. x.copies.primary.global ≤ n) there
      (copy_knows_committed (line_of p x.history) ((p.followers f).given x.copies.primary.number) (p.followers f).restored (p.followers f).written x.copies.next x.copies.primary
      (ok.copies.made f x there).copies.own);
  messages = λ at f m x in_flight named there. at_its_place p f x (λ n. SaysWithin n x m) there record {
    content = content_committed p f x m.follower m.request m.content (ap (λ (o : Option ℕ). option_and_then (slice_get p.state.followers) o) named ∙ there)
        (All-at (IsTrueFrame p) p.state.flight at m ground.frames.flight in_flight).content
        (told_to f m x there (All-at (IsOfFollower (scene_of p) p.state.followers) p.state.flight at m frames.messages.flight_ok in_flight) named
        (All-at (Tells (IsKnownTo p)) p.state.flight at m known.replies in_flight));
    ends = session_committed p at f m x ground.frames ok.fetches in_flight named there;
  };
}
  where
    -- the follower that is named has the UUID
    told_to : (f : ℕ) (m : Frame) (x : Follower) → slice_get p.state.followers f ≡ Some x → IsOfFollower (scene_of p) p.state.followers m → follower_of p.state.followers m.follower ≡ Some f
        → Tells (IsKnownTo p) m → TellsSo (λ global. global ≤ (line_of p x.history).cut) m.content
    told_to f m x there of named tells =
        let own : of.number ≡ f = some_equal of.number f (sym (named-number p m frames.messages.few of) ∙ named) in
        tells_more (IsKnownTo p m.follower) (λ global. global ≤ (line_of p x.history).cut) m.content (λ global known. known f x there (of.truth.named ∙ ap uuid_of own)) tells

-- ---- where the epochs began

abbrev BeganBelow : FollowerPast → Follower → Type 0
BeganBelow past s = past.begun_at ≤ s.copies.primary.global

begun_keep : (p : Past) (event : Event) (picks : List ℕ) → HasTrueCopies p → Rises p.state (step p.state event picks).next
    → ((f : ℕ) (s : Follower) → slice_get p.state.followers f ≡ Some s → BeganBelow (p.followers f) s)
    → (f : ℕ) (new : Follower) → slice_get (step p.state event picks).next.followers f ≡ Some new → BeganBelow ((past_by p event picks).followers f) new
begun_keep p event picks ok rises begun f new now = by_old (slice_get p.state.followers f) refl
  where
    past_with_old : Option Follower → Option Follower → FollowerPast
    past_with_old old next = follower_past_of f (p.followers f) (sending_place p.sent_at event) event (step p.state event picks).reply (line_of p) old next

    by_old : (old : Option Follower) → slice_get p.state.followers f ≡ old → BeganBelow (past_with_old old (slice_get (step p.state event picks).next.followers f)) new
    by_old None none = subst (λ (past : FollowerPast). BeganBelow past new) (sym (ok.unmade f none)) (omega arith)
    by_old (Some s) there =
        subst (λ (o : Option Follower). BeganBelow (past_with_old (Some s) o) new) (sym now)
        (on_if (λ (n : ℕ). n ≤ new.copies.primary.global) (new.epoch == s.epoch) (p.followers f).begun_at new.copies.primary.global
        (λ same. kept (begun f s there) (rises f s new there now)) (λ other. omega arith))
      where
        kept : (p.followers f).begun_at ≤ s.copies.primary.global → s.copies.primary.global ≤ new.copies.primary.global → (p.followers f).begun_at ≤ new.copies.primary.global
        kept low rise = omega arith

-- ---- the start, and every event

pub known_start : (start : Start) → HasKnownCounts (start_past start)
known_start start = record { replies = tt; tasks = λ f s at. cc; begun = λ f s at. cc }

-- no reply is for a follower that isn't made yet
abbrev IsNotNew : State → List ℕ → ℕ → Type 0
IsNotNew s uuid global = uuid ≡ uuid_of (length s.followers) → ⊥

follow_old : (s : State) (params : ParamValues) (copies : ℕ) (name : List ℕ) (same : Option ℕ) → AllByRecursion (Tells (IsNotNew s)) s.flight
    → AllByRecursion (Tells (IsNotNew s)) (follow_row s params copies name same).next.flight
unfolding follow_row
follow_old s params copies name (Some f) all = all
follow_old s params copies name None all =
    on_guards (λ (o : Outcome State). AllByRecursion (Tells (IsNotNew s)) o.next.flight) s _ (with_new_follower s params copies name) (λ why. all)
    (λ tests. All-append (Tells (IsNotNew s)) s.flight (new_follower (length s.followers) params copies name s.leader.history s.leader.start.retention).sent all (tt, tt))

none_new : (s : State) (event : Event) (picks : List ℕ) → may_make event ≡ true → AllByRecursion (Tells (IsNotNew s)) s.flight
    → AllByRecursion (Tells (IsNotNew s)) (step s event picks).next.flight
none_new s (events.Follow params copies name) picks makes all = follow_old s params copies name (same_name s.followers name) all
none_new s _ picks makes all = absurd cc

old_alone : (p : Past) → AreTheirs p → AllByRecursion (Tells (IsNotNew p.state)) p.state.flight
old_alone p theirs =
    All-weaker (λ (m : Frame). bytes_eq m.follower (uuid_of (length p.state.followers)) ≡ false) (Tells (IsNotNew p.state))
    (λ m other. tells_all (IsNotNew p.state m.follower) m.content (λ global named. absurd (different m other named))) p.state.flight theirs.unmade
  where
    different : (m : Frame) → bytes_eq m.follower (uuid_of (length p.state.followers)) ≡ false → m.follower ≡ uuid_of (length p.state.followers) → ⊥
    different m other named = absurd (let is : true ≡ false = sym ((bytes_eq-Decides m.follower (uuid_of (length p.state.followers))).1 named) ∙ other in cc)

-- what replies tell after an event
replies_after : (p : Past) (event : Event) (picks : List ℕ) → HasOnward p (past_by p event picks) → AreTheirs p
    → AllByRecursion (Tells (IsKnownTo p)) (step p.state event picks).next.flight → AllByRecursion (Tells (IsKnownTo (past_by p event picks))) (step p.state event picks).next.flight
replies_after p event picks onward theirs all =
    by_test (AllByRecursion (Tells (IsKnownTo after)) flight) (may_make event)
    (λ makes. All-from_both (Tells (IsKnownTo p)) (Tells (IsNotNew p.state)) (Tells (IsKnownTo after)) (λ m known other. later m known (λ again. other)) flight all
    (none_new p.state event picks makes (old_alone p theirs)))
    (λ makes_none. All-weaker (Tells (IsKnownTo p)) (Tells (IsKnownTo after)) (λ m known. later m known (λ makes. absurd (let is : true ≡ false = sym makes ∙ makes_none in cc))) flight all)
  where
    after : Past
    after = past_by p event picks

    flight : List Frame
    flight = (step p.state event picks).next.flight

    later : (m : Frame) → Tells (IsKnownTo p) m → (may_make event ≡ true → Tells (IsNotNew p.state) m) → Tells (IsKnownTo after) m
    later m known other =
        tells_both (IsKnownTo p m.follower) (IsNotNew p.state m.follower) (IsKnownTo after m.follower) (may_make event ≡ true) m.content
        (λ global was isnt. histories_follow (λ k history. m.follower ≡ uuid_of k → global ≤ (line_of after history).cut) p.state event picks
        (λ makes named. absurd (isnt makes named))
        (λ k s there named. rising global (line_of p s.history).cut (line_of after s.history).cut (was k s there named) (onward s.history).cut))
        known other
      where
        rising : (a b c : ℕ) → a ≤ b → b ≤ c → a ≤ c
        rising a b c low high = omega arith

-- how much is committed for each follower doesn't fall
cuts_rise : (p : Past) (event : Event) (picks : List ℕ) → HasOnward p (past_by p event picks) → (f : ℕ) (s : Follower) → slice_get (step p.state event picks).next.followers f ≡ Some s
    → cuts_of p f ≤ (line_of (past_by p event picks) s.history).cut
cuts_rise p event picks onward =
    histories_follow (λ k history. cuts_of p k ≤ (line_of (past_by p event picks) history).cut) p.state event picks
    (λ makes. subst (λ (o : Option Follower). committed_for p o ≤ (line_of (past_by p event picks) p.state.leader.history).cut) (sym (slice_get_past p.state.followers (length p.state.followers) (omega arith))) (omega arith))
    (λ k s there. at_its_place p k s (λ n. n ≤ (line_of (past_by p event picks) s.history).cut) there (onward s.history).cut)

pub known_keep : KnownKeep
known_keep p event picks onward ground frames fit ok known =
    let after : IsWithin (IsKnownTo p) (cuts_of p) (step p.state event picks).next =
    each_within (IsKnownTo p) (cuts_of p) p.state event picks (said_within p ground frames ok known)
    (record { replies = known.replies; works = λ f x there. at_its_place p f x (λ n. IsWorkWithin n x.work) there (known.tasks f x there) }) in
    record {
      replies = replies_after p event picks onward (frames-say p ground.core frames).2 after.replies;
      tasks = λ f s at. work_later (cuts_of p f) (line_of (past_by p event picks) s.history).cut s.work (cuts_rise p event picks onward f s at) (after.works f s at);
      begun = begun_keep p event picks ok.copies (group-rises p event picks ground fit ok) known.begun;
    }
