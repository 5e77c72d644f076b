-- Where nothing may be done and no clock may be set, and a follower's task is active and has nothing to write, it has the leader's history, and each of its
-- copies is whole.
use Rattle.std.specs.List.{AllByRecursion}
use Rattle.std.specs.Str.{bytes_eq}
use Rattle.std.specs.Prelude.{slice_get}
use Rattle.std.specs.Option.{option_map}
use Rattle.std.proofs.Common.{◌≡◌, ℕ, ◌≤◌, true, false, Option, Some, None, List, [], ◌∷◌, length, sym, ◌∙◌, ap, subst, arith}
use Rattle.std.proofs.lemmas.Slice.Eq.{bytes_eq-Decides}
use Rattle.ccr_journal.specs.declared.sides.Side.TheVariants as sides
use Rattle.ccr_journal.specs.declared.events.Event.TheVariants as events
use Rattle.ccr_model.specs.Copies.{Copies}
use Rattle.ccr_model.specs.Tasks.{Task, Read, is_active, may_read, read_sent}
use Rattle.ccr_model.specs.Leaders.{Poll, KeptRequest}
use Rattle.ccr_model.specs.Followers.{Follower, Work, replicating, uuid_of}
use Rattle.ccr_model.specs.FollowerRows.{is_bootstrapping}
use Rattle.ccr_model.specs.World.{State}
use Rattle.ccr_model.specs.Settling.{may_ack, may_sync, for_replica, may_be_answered, waits_until}
use Rattle.ccr_model.specs.Past.{Line, Past, line_of}
use Rattle.ccr_model.specs.FrameFacts.{IsTruePoll, AsksAsRead}
use Rattle.ccr_law_base.proofs.Lists.{All-weaker, All-both}
use Rattle.ccr_law_messages.specs.Saying.{IsGoodWork}
use Rattle.ccr_law_messages.specs.TrueFrames.{own_of, setting, scene_of}
use Rattle.ccr_law_messages.proofs.Events.{own-line}
use Rattle.ccr_law_messages.proofs.Says.{frames-say}
use Rattle.ccr_law_tasks.specs.GoodTask.{IsGoodTask, IsGoodRead}
use Rattle.ccr_law_tasks.specs.GoodFollowers.{IsGoodWork as IsGoodTaskWork}
use Rattle.ccr_law_settling_grounds.specs.Purposes.{for_lease, Agree, awaited}
use Rattle.ccr_law_settling_grounds.specs.KnownCounts.{IsWorkWithin}
use Rattle.ccr_law_settling.specs.Left.{IsLeaderSettled}
use Rattle.ccr_law_settling.proofs.Measure.LeftAtLeader.{leader_left}
use Rattle.ccr_law_settling.specs.FollowersLeft.{IsGroundOfSettling, IsStill, HasNothingToWrite, HasLeadersHistory, ActiveIsWhole}
use Rattle.ccr_law_settling.proofs.Left.ActiveReads.{AreSent, may_read_anew, all_sent, each_found, each_answerable, some_read}
use Rattle.ccr_law_settling.proofs.Left.ActivePolls.{polls_ask_late, asks_as_read, waits_as_poll}
use Rattle.ccr_law_settling.proofs.Left.ActiveCopies.{each_ended, copies_whole}

-- where a read asks from the count on, and no read asks beyond the count, all numbers up to the count were asked for
all_asked : (most begun_at next_request next cut count : ℕ) (reads : List Read) → 1 ≤ length reads → AllByRecursion (λ (r : Read). count ≤ r.from) reads
    → AllByRecursion (IsGoodRead most begun_at next_request next) reads → next ≤ cut → cut ≤ count → next ≡ count
all_asked most begun_at next_request next cut count [] some late good within full = absurd (omega arith)
all_asked most begun_at next_request next cut count (r ∷ reads) some late good within full =
    let from : count ≤ r.from = late.0 in
    let ordered : r.from ≤ r.to = good.0.ordered in
    let below : r.to ≤ next = good.0.below in
    omega arith

-- the read is of the leader's history, and asks from its count on
record IsLate (s : State) (t : Task) (r : Read) : Type 0 where
  from : s.leader.copies.primary.seen.count ≤ r.from
  history : t.history ≡ s.leader.history

-- what one read says of the task holds of it
by_first : (P : Type 0) (reads : List Read) → 1 ≤ length reads → AllByRecursion (λ (r : Read). P) reads → P
by_first P [] some all = absurd (omega arith)
by_first P (r ∷ reads) some all = all.0

-- each read of an active task is of the leader's history, and asks from its count on
all_late : (p : Past) → IsGroundOfSettling p → IsStill p → (f : ℕ) (own : Follower) (t : Task) → slice_get p.state.followers f ≡ Some own → own.work ≡ replicating t
    → AreSent t.reads → AllByRecursion (IsLate p.state t) t.reads
all_late p ground still f own t there is sent =
    All-weaker (λ (r : Read). (read_sent t r.request ≡ Some r) × (may_be_answered p.state (uuid_of f) r.request ≡ true)) (IsLate p.state t)
    (λ r both. waits_as_poll (IsLate p.state t) p.state t (uuid_of f) r leader.taken both.0 polls kept both.1) t.reads
    (All-both (λ (r : Read). read_sent t r.request ≡ Some r) (λ (r : Read). may_be_answered p.state (uuid_of f) r.request ≡ true) t.reads found answerable)
  where
    leader : IsLeaderSettled p.state
    leader = leader_left p ground.core still.done

    found : AllByRecursion (λ (r : Read). read_sent t r.request ≡ Some r) t.reads
    found = each_found t.reads (subst (IsGoodWork (setting (scene_of p) f (own_of own))) is (ground.frames.messages.works f own there).work).reads.apart sent

    answerable : AllByRecursion (λ (r : Read). may_be_answered p.state (uuid_of f) r.request ≡ true) t.reads
    answerable = each_answerable p.state f own t there is sent (λ at. still.done (events.Lose f at))

    -- a poll of the leader's history that asks as the read does
    as_poll : (poll : Poll) (r : Read) → AsksAsRead poll.history poll.from poll.max_ops poll.max_bytes (record { task = t; read = r }) → bytes_eq poll.history p.state.leader.history ≡ true
        → p.state.leader.copies.primary.seen.count ≤ poll.from → IsLate p.state t r
    as_poll poll r asks leaders late = record {
      from = subst (λ (n : ℕ). p.state.leader.copies.primary.seen.count ≤ n) asks.begins late;
      history = sym asks.same_history ∙ (bytes_eq-Decides poll.history p.state.leader.history).0 leaders;
    }

    polls : AllByRecursion (λ (poll : Poll). bytes_eq poll.follower (uuid_of f) ≡ true → (r : Read) → read_sent t poll.request ≡ Some r → IsLate p.state t r) p.state.leader.polls
    polls =
        let say = frames-say p ground.core ground.frames in
        All-weaker
        (λ (poll : Poll). (IsTruePoll p poll × (bytes_eq poll.history p.state.leader.history ≡ true)) × (bytes_eq poll.follower (uuid_of f) ≡ true → p.state.leader.copies.primary.seen.count ≤ poll.from))
        (λ (poll : Poll). bytes_eq poll.follower (uuid_of f) ≡ true → (r : Read) → read_sent t poll.request ≡ Some r → IsLate p.state t r)
        (λ poll both ours r at. as_poll poll r (asks_as_read p f own t (say.2.made f own there).named there is poll both.0.0 ours r at) both.0.1 (both.1 ours))
        p.state.leader.polls
        (All-both (λ (poll : Poll). IsTruePoll p poll × (bytes_eq poll.history p.state.leader.history ≡ true))
        (λ (poll : Poll). bytes_eq poll.follower (uuid_of f) ≡ true → p.state.leader.copies.primary.seen.count ≤ poll.from) p.state.leader.polls
        (All-both (IsTruePoll p) (λ (poll : Poll). bytes_eq poll.history p.state.leader.history ≡ true) p.state.leader.polls say.0.polls ground.parked.own)
        (polls_ask_late p.state f own p.state.leader.copies.primary.seen.count there leader.whole ground.parked.polls (λ at. still.done (events.Wake f at))))

    kept : AllByRecursion (λ (k : KeptRequest). bytes_eq k.follower (uuid_of f) ≡ true → Agree (awaited (replicating t) k.request) (Some for_lease)) p.state.leader.kept
    kept = subst (λ (w : Work). AllByRecursion (λ (k : KeptRequest). bytes_eq k.follower (uuid_of f) ≡ true → Agree (awaited w k.request) (Some for_lease)) p.state.leader.kept) is
        (ground.purposes f own there).kept

-- the follower has the leader's history and its copies are whole, where its task is a good one
task_whole : (p : Past) → IsGroundOfSettling p → IsStill p → (f : ℕ) (own : Follower) (t : Task) → slice_get p.state.followers f ≡ Some own → own.work ≡ replicating t
    → HasNothingToWrite t → is_active t.phase ≡ true → IsGoodTask (line_of p own.history) t (p.followers f).begun_at (p.followers f).written → HasLeadersHistory p.state own
task_whole p ground still f own t there is none active good = record {
  history = same;
  whole =
      copies_whole line (p.followers f).given (p.followers f).restored t.epoch (p.followers f).begun_at count (p.followers f).written (is_bootstrapping own.work) own.copies
      (ground.followers.copies.made f own there) full (ground.known.begun f own there)
      (each_ended t (p.followers f).begun_at count (p.followers f).written none from_count asked (good.sound.places active))
      (λ copy. subst (λ (o : Option Follower). for_replica may_ack copy (option_map {T = Follower} {U = Copies} (λ own. own.copies) o) ≡ false) there (still.done (events.Ack (sides.Follower f) copy)))
      (λ copy. subst (λ (o : Option Follower). for_replica may_sync copy (option_map {T = Follower} {U = Copies} (λ own. own.copies) o) ≡ false) there (still.done (events.Sync (sides.Follower f) copy)));
}
  where
    count : ℕ
    count = p.state.leader.copies.primary.seen.count

    line : Line
    line = line_of p own.history

    may : may_read t ≡ true
    may = may_read_anew t good.sound.params none.buffer

    late : AllByRecursion (IsLate p.state t) t.reads
    late = all_late p ground still f own t there is (all_sent t may (subst (λ (w : Work). waits_until w ≡ None) is (still.untimed f own there)) ((good.saturated active).held may))

    some : 1 ≤ length t.reads
    some = some_read t good.sound.params may (good.saturated active).one

    same : own.history ≡ p.state.leader.history
    same =
        sym (subst (IsGoodWork (setting (scene_of p) f (own_of own))) is (ground.frames.messages.works f own there).work).same_history
        ∙ by_first (t.history ≡ p.state.leader.history) t.reads some (All-weaker (IsLate p.state t) (λ (r : Read). t.history ≡ p.state.leader.history) (λ r is. is.history) t.reads late)

    from_count : AllByRecursion (λ (r : Read). count ≤ r.from) t.reads
    from_count = All-weaker (IsLate p.state t) (λ (r : Read). count ≤ r.from) (λ r is. is.from) t.reads late

    full : line.cut ≤ count
    full =
        let e : count ≡ length p.line.ops = ap (λ x. x.count) ground.core.rest.primary.gapless in
        let le : p.line.cut ≤ length p.line.ops = ground.core.rest.primary.full in
        subst (λ (x : Line). x.cut ≤ count) (sym (ap (line_of p) same ∙ own-line p)) (omega arith)

    asked : t.next ≡ count
    asked =
        all_asked t.params.max_read_request_operation_count (p.followers f).begun_at t.next_request t.next line.cut count t.reads some from_count good.sound.reads.all
        (subst (IsWorkWithin line.cut) is (ground.known.tasks f own there)).next full

pub active-whole : ActiveIsWhole
active-whole p ground still f own t there is none active =
    task_whole p ground still f own t there is none active
    (subst (IsGoodTaskWork (line_of p own.history) (p.followers f).begun_at (p.followers f).written own.epoch) is (ground.tasks.followers.made f own there).work).0
