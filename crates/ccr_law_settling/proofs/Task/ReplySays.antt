-- Each delivery of an answer to a read that waits for it lowers the measure, at each place where the messages in flight agree with what the
-- followers asked for, and no more is told or known than is committed.
use Rattle.std.specs.List.{AllByRecursion}
use Rattle.std.specs.Option.{option_map}
use Rattle.std.specs.Prelude.{slice_get, IfSome}
use Rattle.std.proofs.Common.{◌≡◌, ℕ, ◌≤◌, ◌<◌, ◌==◌, ◌&&◌, Option, Some, List, length, refl, sym, ◌∙◌, ap, subst, arith}
use Rattle.std.proofs.lemmas.Slice.Eq.{bytes_eq-Decides}
use Rattle.ccr_op.specs.Operation.{Operation}
use Rattle.ccr_wire.specs.Message.{Frame, IsRun}
use Rattle.ccr_wire.specs.declared.content.Content.{Content}
use Rattle.ccr_wire.specs.declared.content.Content.TheVariants as contents
use Rattle.ccr_journal.specs.declared.sides.Phase.TheVariants as phases
use Rattle.ccr_model.specs.Requests.{is_sent}
use Rattle.ccr_model.specs.Tasks.{Read}
use Rattle.ccr_model.specs.Followers.{Follower, Work, uuid_of}
use Rattle.ccr_model.specs.World.{follower_of}
use Rattle.ccr_model.specs.FrameFacts.{IsCommitted, Reading}
use Rattle.ccr_model.specs.Past.{Line, Past, line_of}
use Rattle.ccr_law_base.proofs.Lists.{All-weaker, All-at, All-find, some_equal}
use Rattle.ccr_law_copies.specs.Cores.{IsCore}
use Rattle.ccr_law_copies.proofs.LeaderEvents.{line-is}
use Rattle.ccr_law_messages.specs.Asking.{ask_of, ask_in}
use Rattle.ccr_law_messages.specs.Saying.{Brings, IsTrueAnswer}
use Rattle.ccr_law_messages.specs.TrueFrames.{IsOfFollower, own_of, setting, scene_of, HasTrueFrames}
use Rattle.ccr_law_tasks.specs.GoodTask.{IsGoodRead, IsGoodTask}
use Rattle.ccr_law_tasks.specs.GoodFollowers.{IsGoodWork, HasGoodTasks}
use Rattle.ccr_law_tasks.proofs.ReadLists.{placed}
use Rattle.ccr_law_settling_grounds.specs.KnownCounts.{TellsSo, IsKnownTo, IsTaskWithin, IsWorkWithin, HasKnownCounts}
use Rattle.ccr_law_settling.specs.Lowering.{counts_of}
use Rattle.ccr_law_settling.proofs.Measure.Framing.{theirs, own_name}
use Rattle.ccr_law_settling.proofs.Measure.Says.{delivered}
use Rattle.ccr_law_settling.specs.TaskLowering.{IsAnswerToRead, RepliesLower}
use Rattle.ccr_law_settling.proofs.Task.Replies.{IsGoodReply}
use Rattle.ccr_law_settling.proofs.Measure.Hearing.{hearing_delivered}
use Rattle.ccr_law_settling.proofs.Task.ReplyRows.{read_hears, reply_lower}
use Rattle.ccr_law_settling.proofs.Task.ReplyStops.{NamesAlone, stop_lower}

abbrev frame_of : List ℕ → ℕ → Content → Frame
frame_of uuid request content = record { follower = uuid; request = request; content = content }

-- the follower of a name is one
same_number : (p : Past) → IsCore p → HasTrueFrames p → (f g : ℕ) (own other : Follower) → slice_get p.state.followers f ≡ Some own → slice_get p.state.followers g ≡ Some other → uuid_of g ≡ uuid_of f → g ≡ f
same_number p core frames f g own other there at_g name =
    some_equal g f (sym ((theirs p core frames).made g other at_g).named ∙ (ap (follower_of p.state.followers) name ∙ ((theirs p core frames).made f own there).named))

names_alone : (p : Past) → IsCore p → HasTrueFrames p → (at : ℕ) (uuid : List ℕ) (request : ℕ) (content : Content) → (a : IsAnswerToRead p.state at uuid request content)
    → NamesAlone p.state (frame_of uuid request content) a.number
names_alone p core frames at uuid request content a g x at_g ours =
    same_number p core frames a.number g a.own x a.there at_g (sym ((bytes_eq-Decides uuid (uuid_of g)).0 ours) ∙ (bytes_eq-Decides uuid (uuid_of a.number)).0
    (own_name p core frames at (frame_of uuid request content) a.found a.number a.named))

-- a reply begins where the read that it answers does
begins_at : (p : Past) → IsCore p → HasTrueFrames p → (at : ℕ) (uuid : List ℕ) (request from global : ℕ) (ops : List Operation)
    → (a : IsAnswerToRead p.state at uuid request (contents.ReadReply from global ops)) → (from ≡ a.read.from) × IsRun from ops × AllByRecursion (IsCommitted (line_of p a.own.history)) ops
begins_at p core frames at uuid request from global ops a = (brings.begins, said.run, subst (λ (x : Follower). AllByRecursion (IsCommitted (line_of p x.history)) ops) follower said.committed)
  where
    m : Frame
    m = frame_of uuid request (contents.ReadReply from global ops)

    whose : IsOfFollower (scene_of p) p.state.followers m
    whose = All-at (IsOfFollower (scene_of p) p.state.followers) p.state.flight at m frames.messages.flight_ok a.found

    said : IsTrueAnswer (setting (scene_of p) whose.number (own_of whose.follower)) whose.follower.work request from ops
    said = whose.truth.said

    number : whose.number ≡ a.number
    number = names_alone p core frames at uuid request (contents.ReadReply from global ops) a whose.number whose.follower whose.there ((bytes_eq-Decides uuid (uuid_of whose.number)).1 whose.truth.named)

    follower : whose.follower ≡ a.own
    follower = some_equal whose.follower a.own (sym whose.there ∙ (ap (slice_get p.state.followers) number ∙ a.there))

    brings : Brings from ops (ask_of (record { task = a.task; read = a.read }))
    brings =
        subst (λ (o : Option Read). IfSome (option_map ask_of (option_map {T = Read} {U = Reading} (λ read. record { task = a.task; read = read }) o)) (Brings from ops)) a.waits
        (subst (λ (w : Work). IfSome (ask_in w request) (Brings from ops)) a.works
        (subst (λ (x : Follower). IfSome (ask_in x.work request) (Brings from ops)) follower said.brings))

good_reply : (p : Past) → IsCore p → HasTrueFrames p → HasGoodTasks p → HasKnownCounts p → (at : ℕ) (uuid : List ℕ) (request from global : ℕ) (ops : List Operation)
    → (a : IsAnswerToRead p.state at uuid request (contents.ReadReply from global ops)) → IsGoodReply (counts_of p a.own.history) a.task a.read global ops
good_reply p core frames tasks known at uuid request from global ops a =
    let full : line.cut ≤ length line.ops = (line-is p core a.own.history).full in
    let next : a.task.next ≤ line.cut = within.next in
    let knows : a.task.known ≤ line.cut = within.known in
    let most : global ≤ line.cut = told in
    let begins : (from ≡ a.read.from) × IsRun from ops × AllByRecursion (IsCommitted line) ops = begins_at p core frames at uuid request from global ops a in
    record {
      placed = placed request a.task.reads a.read task.sound.reads.apart a.waits;
      ordered = read.ordered;
      below = read.below;
      next = omega arith;
      known = omega arith;
      told = omega arith;
      run = subst (λ (n : ℕ). IsRun n ops) begins.0 begins.1;
      within = All-weaker (IsCommitted line) (λ (op : Operation). op.seq < length line.ops) (λ op is. (let below : op.seq < line.cut = is.below in omega arith)) ops begins.2;
    }
  where
    m : Frame
    m = frame_of uuid request (contents.ReadReply from global ops)

    line : Line
    line = line_of p a.own.history

    told : global ≤ line.cut
    told = All-at (λ (m : Frame). TellsSo (IsKnownTo p m.follower) m.content) p.state.flight at m known.replies a.found a.number a.own a.there
        ((bytes_eq-Decides uuid (uuid_of a.number)).0 (own_name p core frames at m a.found a.number a.named))

    within : IsTaskWithin line.cut a.task
    within = subst (IsWorkWithin line.cut) a.works (known.tasks a.number a.own a.there)

    task : IsGoodTask line a.task (p.followers a.number).begun_at (p.followers a.number).written
    task = (subst (IsGoodWork line (p.followers a.number).begun_at (p.followers a.number).written a.own.epoch) a.works (tasks.followers.made a.number a.own a.there).work).0

    read : IsGoodRead a.task.params.max_read_request_operation_count (p.followers a.number).begun_at a.task.next_request a.task.next a.read
    read = (All-find (IsGoodRead a.task.params.max_read_request_operation_count (p.followers a.number).begun_at a.task.next_request a.task.next)
        (λ (r : Read). (r.request == request) && is_sent r.progress) a.task.reads a.read task.sound.reads.all a.waits).0

pub replies_lower : (p : Past) → IsCore p → HasTrueFrames p → HasGoodTasks p → HasKnownCounts p → RepliesLower (counts_of p) p.state
replies_lower p core frames tasks known = record {
  reply = λ at copy keep uuid request from global ops a may picks.
      delivered (counts_of p) p.state at copy keep picks
      (hearing_delivered (counts_of p) p.state at copy picks (frame_of uuid request (contents.ReadReply from global ops)) a.number a.own a.found refl a.named a.there
      (read_hears (counts_of p) p.state at (frame_of uuid request (contents.ReadReply from global ops)) a.number a.own a.task a.read a.works a.waits
      (reply_lower (counts_of p) p.state at (frame_of uuid request (contents.ReadReply from global ops)) a.number a.own a.task a.read from global ops a.found refl a.there a.works
      (good_reply p core frames tasks known at uuid request from global ops a)))) may;
  missing = λ at copy keep uuid request from floor a may picks.
      delivered (counts_of p) p.state at copy keep picks
      (hearing_delivered (counts_of p) p.state at copy picks (frame_of uuid request (contents.ReadMissing from floor)) a.number a.own a.found refl a.named a.there
      (read_hears (counts_of p) p.state at (frame_of uuid request (contents.ReadMissing from floor)) a.number a.own a.task a.read a.works a.waits
      (stop_lower (counts_of p) p.state at (frame_of uuid request (contents.ReadMissing from floor)) a.number a.own a.task phases.Missing a.found refl a.there a.works
      (names_alone p core frames at uuid request (contents.ReadMissing from floor) a)))) may;
  history = λ at copy keep uuid request history a may picks.
      delivered (counts_of p) p.state at copy keep picks
      (hearing_delivered (counts_of p) p.state at copy picks (frame_of uuid request (contents.ReadHistory history)) a.number a.own a.found refl a.named a.there
      (read_hears (counts_of p) p.state at (frame_of uuid request (contents.ReadHistory history)) a.number a.own a.task a.read a.works a.waits
      (stop_lower (counts_of p) p.state at (frame_of uuid request (contents.ReadHistory history)) a.number a.own a.task phases.History a.found refl a.there a.works
      (names_alone p core frames at uuid request (contents.ReadHistory history) a)))) may;
}
