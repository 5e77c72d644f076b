-- Every event keeps what holds of the followers' tasks.
use Rattle.std.specs.Prelude.{◌==◌, nat_le, not, slice_get, remove, IfSome}
use Rattle.std.specs.Option.{option_map, option_map_or, option_and_then}
use Rattle.std.specs.List.{AllByRecursion}
use Rattle.std.proofs.Common.{◌≡◌, ◌∙◌, ℕ, Bool, false, if◌then◌else◌, List, [], ◌∷◌, ◌++◌, length, Option, Some, None, refl, sym, ap, subst}
use Rattle.ccr_wire.specs.Message.{Frame, kind_of_content}
use Rattle.ccr_wire.specs.declared.content.Content.{Content}
use Rattle.ccr_wire.specs.declared.content.Content.TheVariants as contents
use Rattle.ccr_query.specs.Queries.{Tree}
use Rattle.ccr_query.specs.declared.sorting.SortKey.{SortKey}
use Rattle.ccr_journal.specs.Params.{AreInRange}
use Rattle.ccr_journal.specs.declared.params.ParamValues.{ParamValues}
use Rattle.ccr_journal.specs.declared.sides.Side.{Side}
use Rattle.ccr_journal.specs.declared.sides.Side.TheVariants as sides
use Rattle.ccr_journal.specs.declared.events.Event.{Event}
use Rattle.ccr_journal.specs.declared.events.Event.TheVariants as events
use Rattle.ccr_journal.specs.declared.replies.Reply.{Reply}
use Rattle.ccr_journal.specs.declared.replies.Reply.TheVariants as replies
use Rattle.ccr_journal.specs.declared.replies.Refusal.TheVariants.{NoFollower, NotSettled, NoFrame, NoCopy, SameName, TooMany}
use Rattle.ccr_model.specs.Outcomes.{Outcome, refused, answered, guarded, within}
use Rattle.ccr_model.specs.Copies.{Copies, Copy, copy_of, replica_of}
use Rattle.ccr_model.specs.CopyRows.{replicate_row, ack_row, sync_row, fail_copy_row, flush_row, merge_row, follower_promote_row}
use Rattle.ccr_model.specs.Leaders.{Leader}
use Rattle.ccr_model.specs.LeaderRows.{leader_write, leader_replicate, leader_ack, leader_sync, leader_promote, leader_force_promote, leader_resync, leader_fail_copy, leader_add_copy, leader_flush, leader_merge, leader_clock, leader_expire, leader_close_sessions, leader_status}
use Rattle.ccr_model.specs.LeaderFrames.{leader_wake, leader_receive}
use Rattle.ccr_model.specs.Searches.{search_of}
use Rattle.ccr_model.specs.Tasks.{Task, Read, read_sent}
use Rattle.ccr_model.specs.Followers.{Follower, Work, replicating, uuid_of, new_follower}
use Rattle.ccr_model.specs.FollowerRows.{Sent, lose_row, tick_row, follower_clock_row, sent_write, lose_write_row, take_row, apply_row, written_row, task_of, renew_row, pause_row, resume_row, restart_row, unfollow_row, follower_add_copy_row, follower_status_row, follower_receive_row}
use Rattle.ccr_model.specs.World.{State, at_leader, for_follower, follower_of, goes_to_leader, at_named_follower, taken_by_receiver, deliver_row, drop_row, with_new_follower, follow_row, same_name, most_followers, search_row}
use Rattle.ccr_model.specs.Settled.{is_settled}
use Rattle.ccr_model.specs.Step.{step, woken, searched_at}
use Rattle.ccr_model.specs.Past.{Line, Past, WrittenBatch, written_after, line_of}
use Rattle.ccr_model.specs.Fit.{IsFitEvent}
use Rattle.ccr_model.specs.FrameFacts.{IsCommitted, Reading, reading_in, reading_of, named_follower, BringsAsAsked, IsTrueContent, IsTrueFrame, AreTrueFrames}
use Rattle.ccr_law_base.proofs.Cases.{on_if, on_guards}
use Rattle.ccr_law_base.proofs.Lists.{All-weaker, All-at}
use Rattle.ccr_law_tasks.specs.GoodTask.{IsLater}
use Rattle.ccr_law_tasks.specs.GoodFollowers.{IsGoodFollower, AreGoodFollowers, IsRunOf, BringRuns}
use Rattle.ccr_law_tasks.proofs.Lines.{committed-later}
use Rattle.ccr_law_tasks.proofs.Rows.{begun_after, RowKeeps, EndKeeps, ended_with, IsTrueAnswer, copies-row, receive-row, lose-row, tick-row, clock-row, lose_write-row, take-row, apply-row, written-row, renew-row, pause-row, resume-row, restart-row, unfollow-row, add_copy-row, status-row}
use Rattle.ccr_law_tasks.proofs.FollowerLists.{GoodAfter, none-changed, one-changed, one-made}
use Rattle.ccr_law_base.proofs.Tests.{itself}

-- what holds of all followers after an outcome
abbrev pub GoodAt : Past → Event → (List ℕ → Line) → (List ℕ → Line) → Outcome State → Type 0
GoodAt p event ops next o = GoodAfter p event ops next o.reply o.next.followers

abbrev GoodNow : Past → (List ℕ → Line) → Type 0
GoodNow p next = AreGoodFollowers next p.state.followers p.followers

-- the event ends no write, whatever its reply is
abbrev EndsNone : Past → Event → Type 0
EndsNone p event = (f : ℕ) (old : Follower) (reply : Reply) → written_after f old (p.followers f).written event reply ≡ (p.followers f).written

-- the state with other messages in flight
abbrev flying : State → List Frame → State
flying s flight = record s { flight = flight }

by-leader : (p : Past) (event : Event) (ops : List ℕ → Line) (next : List ℕ → Line) (flight : List Frame) (o : Outcome Leader) → EndsNone p event → GoodNow p next
    → GoodAt p event ops next (at_leader (flying p.state flight) o)
by-leader p event ops next flight o none now = none-changed p event ops next o.reply (λ f old. none f old o.reply) now

by-follower : (p : Past) (event : Event) (ops : List ℕ → Line) (next : List ℕ → Line) (flight : List Frame) (f : ℕ) (row : Follower → Outcome Follower) → EndsNone p event
    → ((s : Follower) → slice_get p.state.followers f ≡ Some s → IsGoodFollower next (p.followers f).begun_at (p.followers f).written s
    → RowKeeps next (p.followers f).begun_at (p.followers f).written s (row s))
    → GoodNow p next → GoodAt p event ops next (for_follower (flying p.state flight) f row (slice_get p.state.followers f))
by-follower p event ops next flight f row none keeps now =
    (elim (slice_get p.state.followers f) as (λ (found : Option Follower). slice_get p.state.followers f ≡ found → GoodAt p event ops next (for_follower (flying p.state flight) f row found)) [
      | None ↦ λ is. none-changed p event ops next (replies.Refused (NoFollower f)) (λ k old. none k old (replies.Refused (NoFollower f))) now
      | Some s ↦ λ is.
          let row_keeps : RowKeeps next (p.followers f).begun_at (p.followers f).written s (row s) = keeps s is (now.made f s is) in
          one-changed p event ops next (row s).reply f s (row s).next is
          (subst (λ (w : List WrittenBatch). IsGoodFollower next (begun_after (p.followers f).begun_at s (row s).next) w (row s).next) (sym (none f s (row s).reply)) row_keeps)
          (λ k x other. none k x (row s).reply) now
    ]) refl

-- ---- messages

-- the read that a follower sent under a request number
reading-is : (s : State) (uuid : List ℕ) (request f : ℕ) (x : Follower) (t : Task) (r : Read) → follower_of s.followers uuid ≡ Some f → slice_get s.followers f ≡ Some x
    → x.work ≡ replicating t → read_sent t request ≡ Some r → reading_of s uuid request ≡ Some record { task = t; read = r }
reading-is s uuid request f x t r named at works sent =
    let a : named_follower s.followers uuid ≡ Some x = ap (λ (o : Option ℕ). option_and_then (slice_get s.followers) o) named ∙ at in
    let b : reading_of s uuid request ≡ reading_in x.work request = ap (λ (o : Option Follower). option_and_then (λ (f : Follower). reading_in f.work request) o) a in
    let c : reading_in x.work request ≡ reading_in (replicating t) request = ap (λ (w : Work). reading_in w request) works in
    let d : reading_in (replicating t) request ≡ Some record { task = t; read = r } = ap (λ (o : Option Read). option_map {T = Read} {U = Reading} (λ read. record { task = t; read = read }) o) sent in
    b ∙ (c ∙ d)

-- each history's line goes on
abbrev pub LaterOf : Past → (List ℕ → Line) → Type 0
LaterOf p next = (history : List ℕ) → IsLater (line_of p history) (next history)

pub answer-true : (p : Past) (next : List ℕ → Line) (uuid : List ℕ) (request f : ℕ) (x : Follower) (t : Task) (r : Read) (content : Content) → LaterOf p next
    → IsTrueContent p uuid request content → IsRunOf content → follower_of p.state.followers uuid ≡ Some f → slice_get p.state.followers f ≡ Some x
    → x.work ≡ replicating t → read_sent t request ≡ Some r
    → IsTrueAnswer (next x.history) t r request content
answer-true p next uuid request f x t r (contents.ReadReply from global ops) later truth run named at works sent = record {
  sent = sent;
  brings = subst (λ (o : Option Reading). IfSome o (BringsAsAsked from ops)) (reading-is p.state uuid request f x t r named at works sent) truth.1;
  run = run;
  committed = All-weaker (IsCommitted (line_of p x.history)) (IsCommitted (next x.history)) (committed-later (line_of p x.history) (next x.history) (later x.history)) ops
      (subst (λ (o : Option Follower). IfSome o (λ (y : Follower). AllByRecursion (IsCommitted (line_of p y.history)) ops))
      (ap (λ (o : Option ℕ). option_and_then (slice_get p.state.followers) o) named ∙ at) truth.0);
}
answer-true p next uuid request f x t r _ later truth run named at works sent = tt

by-receiver : (p : Past) (event : Event) (ops : List ℕ → Line) (next : List ℕ → Line) (flight : List Frame) (copy : ℕ) (m : Frame) → EndsNone p event → LaterOf p next
    → IsTrueFrame p m → IsRunOf m.content → GoodNow p next → GoodAt p event ops next (taken_by_receiver (flying p.state flight) copy m)
by-receiver p event ops next flight copy m none later truth run now =
    on_if (λ (o : Outcome State). GoodAt p event ops next o) (goes_to_leader (kind_of_content m.content))
    (at_leader (flying p.state flight) (leader_receive p.state.leader copy m)) (at_named_follower (flying p.state flight) m (follower_of p.state.followers m.follower))
    (λ is. by-leader p event ops next flight (leader_receive p.state.leader copy m) none now)
    (λ isnt.
    (elim (follower_of p.state.followers m.follower) as (λ (found : Option ℕ). follower_of p.state.followers m.follower ≡ found → GoodAt p event ops next (at_named_follower (flying p.state flight) m found)) [
      | None ↦ λ named. none-changed p event ops next replies.Done (λ k old. none k old replies.Done) now
      | Some f ↦ λ named. by-follower p event ops next flight f (λ follower. follower_receive_row follower m) none
          (λ s at good. receive-row next (p.followers f).begun_at (p.followers f).written s m
          (λ t r works sent. answer-true p next m.follower m.request f s t r m.content later truth.content run named at works sent) good)
          now
    ]) refl)

by-delivery : (p : Past) (event : Event) (ops : List ℕ → Line) (next : List ℕ → Line) (at copy : ℕ) (keep : Bool) (found : Option Frame) (c : Option Copy) → EndsNone p event
    → slice_get p.state.flight at ≡ found → LaterOf p next → AreTrueFrames p → BringRuns p → GoodNow p next
    → GoodAt p event ops next (deliver_row p.state at copy keep found c)
unfolding deliver_row
by-delivery p event ops next at copy keep None c none is later frames runs now = none-changed p event ops next (replies.Refused (NoFrame at)) (λ k old. none k old (replies.Refused (NoFrame at))) now
by-delivery p event ops next at copy keep (Some m) None none is later frames runs now = none-changed p event ops next (replies.Refused (NoCopy copy)) (λ k old. none k old (replies.Refused (NoCopy copy))) now
by-delivery p event ops next at copy keep (Some m) (Some c) none is later frames runs now =
    let truth : IsTrueFrame p m = All-at (IsTrueFrame p) p.state.flight at m frames.flight is in
    let run : IsRunOf m.content = All-at (λ (m : Frame). IsRunOf m.content) p.state.flight at m runs is in
    on_if (λ (s : State). GoodAt p event ops next (taken_by_receiver s copy m)) keep p.state (flying p.state (remove p.state.flight at))
    (λ kept. by-receiver p event ops next p.state.flight copy m none later truth run now)
    (λ left. by-receiver p event ops next (remove p.state.flight at) copy m none later truth run now)

by-drop : (p : Past) (event : Event) (ops : List ℕ → Line) (next : List ℕ → Line) (at : ℕ) (found : Option Frame) → EndsNone p event → GoodNow p next
    → GoodAt p event ops next (drop_row p.state at found)
unfolding drop_row
by-drop p event ops next at None none now = none-changed p event ops next (replies.Refused (NoFrame at)) (λ k old. none k old (replies.Refused (NoFrame at))) now
by-drop p event ops next at (Some m) none now = none-changed p event ops next replies.Done (λ k old. none k old replies.Done) now

by-wake : (p : Past) (event : Event) (ops : List ℕ → Line) (next : List ℕ → Line) (f at : ℕ) (found : Option Follower) → EndsNone p event → GoodNow p next
    → GoodAt p event ops next (woken p.state f at found)
by-wake p event ops next f at None none now = none-changed p event ops next (replies.Refused (NoFollower f)) (λ k old. none k old (replies.Refused (NoFollower f))) now
by-wake p event ops next f at (Some follower) none now = by-leader p event ops next p.state.flight (leader_wake p.state.leader (uuid_of f) at) none now

-- ---- the other events of the world

by-search : (p : Past) (event : Event) (ops : List ℕ → Line) (next : List ℕ → Line) (copy : ℕ) (query : Tree) (sort : List SortKey) (found : Option Copy) → EndsNone p event → GoodNow p next
    → GoodAt p event ops next (search_row p.state copy query sort found)
unfolding search_row
by-search p event ops next copy query sort None none now = none-changed p event ops next (replies.Refused (NoCopy copy)) (λ k old. none k old (replies.Refused (NoCopy copy))) now
by-search p event ops next copy query sort (Some c) none now = none-changed p event ops next (replies.Found (search_of c query sort)) (λ k old. none k old (replies.Found (search_of c query sort))) now

by-search-at : (p : Past) (event : Event) (ops : List ℕ → Line) (next : List ℕ → Line) (side : Side) (copy : ℕ) (query : Tree) (sort : List SortKey) → EndsNone p event → GoodNow p next
    → GoodAt p event ops next (searched_at p.state side copy (search_row p.state copy query sort))
by-search-at p event ops next sides.Leader copy query sort none now = by-search p event ops next copy query sort (copy_of p.state.leader.copies copy) none now
by-search-at p event ops next (sides.Follower f) copy query sort none now =
    elim (slice_get p.state.followers f) as (λ (found : Option Follower). GoodAt p event ops next (elim found as (λ _. Outcome State) [
      | None ↦ refused p.state (NoFollower f)
      | Some follower ↦ search_row p.state copy query sort (copy_of follower.copies copy)
    ])) [
      | None ↦ none-changed p event ops next (replies.Refused (NoFollower f)) (λ k old. none k old (replies.Refused (NoFollower f))) now
      | Some follower ↦ by-search p event ops next copy query sort (copy_of follower.copies copy) none now
    ]

by-settle : (p : Past) (event : Event) (ops : List ℕ → Line) (next : List ℕ → Line) → EndsNone p event → GoodNow p next
    → GoodAt p event ops next (guarded p.state ((not (is_settled p.state), NotSettled) ∷ []) (answered replies.Settled p.state))
by-settle p event ops next none now =
    on_guards (λ (o : Outcome State). GoodAt p event ops next o) p.state ((not (is_settled p.state), NotSettled) ∷ []) (answered replies.Settled p.state)
    (λ why. none-changed p event ops next (replies.Refused why) (λ k old. none k old (replies.Refused why)) now)
    (λ all. none-changed p event ops next replies.Settled (λ k old. none k old replies.Settled) now)

by-follow : (p : Past) (event : Event) (ops : List ℕ → Line) (next : List ℕ → Line) (params : ParamValues) (copies : ℕ) (name : List ℕ) (same : Option ℕ) → EndsNone p event → AreInRange params → GoodNow p next
    → GoodAt p event ops next (follow_row p.state params copies name same)
unfolding follow_row
by-follow p event ops next params copies name (Some f) none in_range now = none-changed p event ops next (replies.Refused (SameName f)) (λ k old. none k old (replies.Refused (SameName f))) now
by-follow p event ops next params copies name None none in_range now =
    on_guards (λ (o : Outcome State). GoodAt p event ops next o) p.state ((nat_le most_followers (length p.state.followers), TooMany) ∷ []) (with_new_follower p.state params copies name)
    (λ why. none-changed p event ops next (replies.Refused why) (λ k old. none k old (replies.Refused why)) now)
    (λ few. one-made p event ops next replies.Done (new_follower (length p.state.followers) params copies name p.state.leader.history p.state.leader.start.retention).next
    (record { params = in_range; ended = tt; work = (refl, refl) }) (λ k x. none k x replies.Done) now)

-- ---- ended writes

own-write : (f : ℕ) (s : Follower) (written : List WrittenBatch) (write : ℕ) (reply : Reply)
    → written_after f s written (events.Written f write) reply ≡ ended_with s written (sent_write s.work write) reply
own-write f s written write replies.Done =
    ap (λ (b : Bool). if b then option_map_or (λ (sent : Sent). written ++ record { epoch = s.epoch; batch = sent.write.batch } ∷ []) (sent_write s.work write) written else written) (itself f)
own-write f s written write _ = refl

other-write : (f k : ℕ) (x : Follower) (written : List WrittenBatch) (write : ℕ) (reply : Reply) → (f == k) ≡ false
    → written_after k x written (events.Written f write) reply ≡ written
other-write f k x written write replies.Done other =
    ap (λ (b : Bool). if b then option_map_or (λ (sent : Sent). written ++ record { epoch = x.epoch; batch = sent.write.batch } ∷ []) (sent_write x.work write) written else written) other
other-write f k x written write _ other = refl

by-written : (p : Past) (ops : List ℕ → Line) (next : List ℕ → Line) (f write : ℕ) → GoodNow p next
    → GoodAt p (events.Written f write) ops next (for_follower p.state f (λ x. written_row x write (sent_write x.work write)) (slice_get p.state.followers f))
by-written p ops next f write now =
    (elim (slice_get p.state.followers f) as (λ (found : Option Follower). slice_get p.state.followers f ≡ found
    → GoodAt p (events.Written f write) ops next (for_follower p.state f (λ x. written_row x write (sent_write x.work write)) found)) [
      | None ↦ λ is. none-changed p (events.Written f write) ops next (replies.Refused (NoFollower f)) (λ k old. refl) now
      | Some s ↦ λ is.
          let o : Outcome Follower = written_row s write (sent_write s.work write) in
          let keeps : EndKeeps next (p.followers f).begun_at (p.followers f).written s (sent_write s.work write) o =
          written-row next (p.followers f).begun_at (p.followers f).written s write (sent_write s.work write) refl (now.made f s is) in
          one-changed p (events.Written f write) ops next o.reply f s o.next is
          (subst (λ (w : List WrittenBatch). IsGoodFollower next (begun_after (p.followers f).begun_at s o.next) w o.next) (sym (own-write f s (p.followers f).written write o.reply)) keeps)
          (λ k x other. other-write f k x (p.followers k).written write o.reply other) now
    ]) refl

-- ---- all events

by-copies : (p : Past) (event : Event) (ops : List ℕ → Line) (next : List ℕ → Line) (f : ℕ) (row : Follower → Outcome Copies) → EndsNone p event → GoodNow p next
    → GoodAt p event ops next (for_follower p.state f (λ s. within (λ copies. record s { copies = copies }) (row s)) (slice_get p.state.followers f))
by-copies p event ops next f row none now =
    by-follower p event ops next p.state.flight f (λ s. within (λ copies. record s { copies = copies }) (row s)) none
    (λ s at good. copies-row next (p.followers f).begun_at (p.followers f).written s (row s) good) now

pub each-event : (p : Past) (event : Event) (picks : List ℕ) (ops : List ℕ → Line) (next : List ℕ → Line) → LaterOf p next → AreTrueFrames p → BringRuns p → IsFitEvent event
    → AreGoodFollowers next p.state.followers p.followers → GoodAt p event ops next (step p.state event picks)
each-event p (events.Write request) picks ops next later frames runs fit now =
    by-leader p (events.Write request) ops next p.state.flight (leader_write p.state.leader request) (λ f old reply. refl) now
each-event p (events.Replicate sides.Leader copy seq) picks ops next later frames runs fit now =
    by-leader p (events.Replicate sides.Leader copy seq) ops next p.state.flight (leader_replicate p.state.leader copy seq) (λ f old reply. refl) now
each-event p (events.Replicate (sides.Follower f) copy seq) picks ops next later frames runs fit now =
    by-copies p (events.Replicate (sides.Follower f) copy seq) ops next f (λ s. replicate_row s.copies copy seq (replica_of s.copies copy)) (λ f old reply. refl) now
each-event p (events.Ack sides.Leader copy) picks ops next later frames runs fit now =
    by-leader p (events.Ack sides.Leader copy) ops next p.state.flight (leader_ack p.state.leader copy) (λ f old reply. refl) now
each-event p (events.Ack (sides.Follower f) copy) picks ops next later frames runs fit now =
    by-copies p (events.Ack (sides.Follower f) copy) ops next f (λ s. ack_row s.copies copy (replica_of s.copies copy)) (λ f old reply. refl) now
each-event p (events.Sync sides.Leader copy) picks ops next later frames runs fit now =
    by-leader p (events.Sync sides.Leader copy) ops next p.state.flight (leader_sync p.state.leader copy) (λ f old reply. refl) now
each-event p (events.Sync (sides.Follower f) copy) picks ops next later frames runs fit now =
    by-copies p (events.Sync (sides.Follower f) copy) ops next f (λ s. sync_row s.copies copy (replica_of s.copies copy)) (λ f old reply. refl) now
each-event p (events.Promote sides.Leader copy) picks ops next later frames runs fit now =
    by-leader p (events.Promote sides.Leader copy) ops next p.state.flight (leader_promote p.state.leader copy) (λ f old reply. refl) now
each-event p (events.Promote (sides.Follower f) copy) picks ops next later frames runs fit now =
    by-copies p (events.Promote (sides.Follower f) copy) ops next f (λ s. follower_promote_row s.copies copy (replica_of s.copies copy)) (λ f old reply. refl) now
each-event p (events.ForcePromote copy) picks ops next later frames runs fit now =
    by-leader p (events.ForcePromote copy) ops next p.state.flight (leader_force_promote p.state.leader copy) (λ f old reply. refl) now
each-event p (events.Resync copy) picks ops next later frames runs fit now =
    by-leader p (events.Resync copy) ops next p.state.flight (leader_resync p.state.leader copy) (λ f old reply. refl) now
each-event p (events.FailCopy sides.Leader copy) picks ops next later frames runs fit now =
    by-leader p (events.FailCopy sides.Leader copy) ops next p.state.flight (leader_fail_copy p.state.leader copy) (λ f old reply. refl) now
each-event p (events.FailCopy (sides.Follower f) copy) picks ops next later frames runs fit now =
    by-copies p (events.FailCopy (sides.Follower f) copy) ops next f (λ s. fail_copy_row s.copies copy (replica_of s.copies copy)) (λ f old reply. refl) now
each-event p (events.AddCopy sides.Leader) picks ops next later frames runs fit now =
    by-leader p (events.AddCopy sides.Leader) ops next p.state.flight (leader_add_copy p.state.leader) (λ f old reply. refl) now
each-event p (events.AddCopy (sides.Follower f)) picks ops next later frames runs fit now =
    by-follower p (events.AddCopy (sides.Follower f)) ops next p.state.flight f follower_add_copy_row (λ f old reply. refl)
    (λ s at good. add_copy-row next (p.followers f).begun_at (p.followers f).written s good) now
each-event p (events.Flush sides.Leader copy) picks ops next later frames runs fit now =
    by-leader p (events.Flush sides.Leader copy) ops next p.state.flight (leader_flush p.state.leader copy) (λ f old reply. refl) now
each-event p (events.Flush (sides.Follower f) copy) picks ops next later frames runs fit now =
    by-copies p (events.Flush (sides.Follower f) copy) ops next f (λ s. flush_row s.copies copy (copy_of s.copies copy)) (λ f old reply. refl) now
each-event p (events.Merge sides.Leader copy) picks ops next later frames runs fit now =
    by-leader p (events.Merge sides.Leader copy) ops next p.state.flight (leader_merge p.state.leader copy picks) (λ f old reply. refl) now
each-event p (events.Merge (sides.Follower f) copy) picks ops next later frames runs fit now =
    by-copies p (events.Merge (sides.Follower f) copy) ops next f (λ s. merge_row s.copies s.retention copy picks (copy_of s.copies copy)) (λ f old reply. refl) now
each-event p (events.Clock sides.Leader time) picks ops next later frames runs fit now =
    by-leader p (events.Clock sides.Leader time) ops next p.state.flight (leader_clock p.state.leader time) (λ f old reply. refl) now
each-event p (events.Clock (sides.Follower f) time) picks ops next later frames runs fit now =
    by-follower p (events.Clock (sides.Follower f) time) ops next p.state.flight f (λ s. follower_clock_row s time) (λ f old reply. refl)
    (λ s at good. clock-row next (p.followers f).begun_at (p.followers f).written s time good) now
each-event p events.Expire picks ops next later frames runs fit now =
    by-leader p events.Expire ops next p.state.flight (leader_expire p.state.leader) (λ f old reply. refl) now
each-event p events.CloseSessions picks ops next later frames runs fit now =
    by-leader p events.CloseSessions ops next p.state.flight (leader_close_sessions p.state.leader) (λ f old reply. refl) now
each-event p (events.Tick f) picks ops next later frames runs fit now =
    by-follower p (events.Tick f) ops next p.state.flight f tick_row (λ f old reply. refl)
    (λ s at good. tick-row next (p.followers f).begun_at (p.followers f).written s good) now
each-event p (events.Deliver at copy keep) picks ops next later frames runs fit now =
    by-delivery p (events.Deliver at copy keep) ops next at copy keep (slice_get p.state.flight at) (copy_of p.state.leader.copies copy) (λ f old reply. refl) refl later frames runs now
each-event p (events.Drop at) picks ops next later frames runs fit now =
    by-drop p (events.Drop at) ops next at (slice_get p.state.flight at) (λ f old reply. refl) now
each-event p (events.Wake f at) picks ops next later frames runs fit now =
    by-wake p (events.Wake f at) ops next f at (slice_get p.state.followers f) (λ f old reply. refl) now
each-event p (events.Lose f at) picks ops next later frames runs fit now =
    by-follower p (events.Lose f at) ops next p.state.flight f (λ x. lose_row x at) (λ f old reply. refl)
    (λ s there good. lose-row next (p.followers f).begun_at (p.followers f).written s at good) now
each-event p (events.LoseWrite f write) picks ops next later frames runs fit now =
    by-follower p (events.LoseWrite f write) ops next p.state.flight f (λ x. lose_write_row x write (sent_write x.work write)) (λ f old reply. refl)
    (λ s there good. lose_write-row next (p.followers f).begun_at (p.followers f).written s write (sent_write s.work write) refl good) now
each-event p (events.Take f write) picks ops next later frames runs fit now =
    by-follower p (events.Take f write) ops next p.state.flight f (λ x. take_row x write (sent_write x.work write)) (λ f old reply. refl)
    (λ s there good. take-row next (p.followers f).begun_at (p.followers f).written s write (sent_write s.work write) good) now
each-event p (events.Apply f epoch write batch) picks ops next later frames runs fit now =
    by-follower p (events.Apply f epoch write batch) ops next p.state.flight f (λ x. apply_row x epoch write batch (sent_write x.work write)) (λ f old reply. refl)
    (λ s there good. apply-row next (p.followers f).begun_at (p.followers f).written s epoch write batch (sent_write s.work write) good) now
each-event p (events.Written f write) picks ops next later frames runs fit now = by-written p ops next f write now
each-event p (events.Renew f) picks ops next later frames runs fit now =
    by-follower p (events.Renew f) ops next p.state.flight f (λ x. renew_row x (task_of x.work)) (λ f old reply. refl)
    (λ s there good. renew-row next (p.followers f).begun_at (p.followers f).written s (task_of s.work) refl good) now
each-event p (events.Follow params copies name) picks ops next later frames runs fit now =
    by-follow p (events.Follow params copies name) ops next params copies name (same_name p.state.followers name) (λ f old reply. refl) fit.0 now
each-event p (events.Pause f) picks ops next later frames runs fit now =
    by-follower p (events.Pause f) ops next p.state.flight f (λ x. pause_row x (task_of x.work)) (λ f old reply. refl)
    (λ s there good. pause-row next (p.followers f).begun_at (p.followers f).written s (task_of s.work) refl good) now
each-event p (events.Resume f) picks ops next later frames runs fit now =
    by-follower p (events.Resume f) ops next p.state.flight f (λ x. resume_row x (task_of x.work)) (λ f old reply. refl)
    (λ s there good. resume-row next (p.followers f).begun_at (p.followers f).written s (task_of s.work) good) now
each-event p (events.Restart f) picks ops next later frames runs fit now =
    by-follower p (events.Restart f) ops next p.state.flight f (λ x. restart_row x (task_of x.work)) (λ f old reply. refl)
    (λ s there good. restart-row next (p.followers f).begun_at (p.followers f).written s (task_of s.work) good) now
each-event p (events.Unfollow f) picks ops next later frames runs fit now =
    by-follower p (events.Unfollow f) ops next p.state.flight f (λ x. unfollow_row x (task_of x.work)) (λ f old reply. refl)
    (λ s there good. unfollow-row next (p.followers f).begun_at (p.followers f).written s (task_of s.work) refl good) now
each-event p (events.Search side copy request) picks ops next later frames runs fit now =
    by-search-at p (events.Search side copy request) ops next side copy request.query request.sort (λ f old reply. refl) now
each-event p (events.Status sides.Leader) picks ops next later frames runs fit now =
    by-leader p (events.Status sides.Leader) ops next p.state.flight (leader_status p.state.leader) (λ f old reply. refl) now
each-event p (events.Status (sides.Follower f)) picks ops next later frames runs fit now =
    by-follower p (events.Status (sides.Follower f)) ops next p.state.flight f follower_status_row (λ f old reply. refl)
    (λ s there good. status-row next (p.followers f).begun_at (p.followers f).written s good) now
each-event p events.Settle picks ops next later frames runs fit now = by-settle p events.Settle ops next (λ f old reply. refl) now
