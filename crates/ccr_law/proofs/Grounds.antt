-- What the groups say of a place, in the words in which other groups rest on it.
use Rattle.std.specs.Str.{bytes_eq}
use Rattle.std.proofs.Common.{◌≡◌, ℕ, ◌≤◌, true, List, arith}
use Rattle.ccr_wire.specs.Message.{Frame}
use Rattle.ccr_wire.specs.declared.content.Content.{Content}
use Rattle.ccr_wire.specs.declared.content.Content.TheVariants as contents
use Rattle.ccr_journal.specs.declared.events.Event.{Event}
use Rattle.ccr_model.specs.Fit.{IsFitEvent}
use Rattle.ccr_model.specs.Tasks.{Read}
use Rattle.ccr_model.specs.Followers.{Follower, Work, restoring, replicating, uuid_of}
use Rattle.ccr_model.specs.Past.{Line, Past, WrittenBatch, line_of}
use Rattle.ccr_model.specs.FrameFacts.{AreTrueFrames}
use Rattle.ccr_model.specs.Invariants.{IsTrueLeader}
use Rattle.ccr_law_base.specs.Events.{past_by}
use Rattle.ccr_law_base.proofs.Lists.{All-weaker}
use Rattle.ccr_law_tasks.specs.GoodTask.{IsGoodRead}
use Rattle.ccr_law_tasks.proofs.Group.{tasks-say}
use Rattle.ccr_law_tasks.specs.GoodFollowers.{IsGoodWork}
use Rattle.ccr_law_messages.proofs.Says.{frames-say}
use Rattle.ccr_law_messages.specs.FrameLaws.{IsAboutLease, AreOwn, AreTheirs, SessionsServe, IsMessageOf as IsTheirMessage, HasOwnMessages as HasTheirMessages}
use Rattle.ccr_law_followers.specs.CopyLaws.{IsGround}
use Rattle.ccr_law_followers.proofs.Group.{group-rises}
use Rattle.ccr_law_retention.specs.Grounds.{AsksForOwn, IsMessageOf, HasMessages, HasOwnMessages, AsksBelowNext, Rises, HasGrounds}
use Rattle.ccr_law_retention.proofs.Floors.{floors-low}
use Rattle.ccr_law.specs.Parts.{IsWhole}
use Rattle.ccr_law.proofs.Leading.{true_leader}

-- ---- what the groups say to one another

-- what the group of the messages says
pub record Framing (p : Past) : Type 0 where
  pub truth : AreTrueFrames p
  pub own : AreOwn p
  pub theirs : AreTheirs p
  pub serve : SessionsServe p

pub framing : (p : Past) → IsWhole p → Framing p
framing p now =
    let all = frames-say p now.leading.core now.frames in
    record { truth = all.0; own = all.1; theirs = all.2; serve = all.3 }

pub ground_of : (p : Past) → IsWhole p → IsGround p
ground_of p now =
    let frames : Framing p = framing p now in
    record {
      core = now.leading.core;
      tasks = λ f s at. (tasks-say p now.tasks f s at).truth;
      frames = frames.truth;
      sessions = λ number session is. (frames.serve number session is).history;
    }

-- ---- messages

about-own : (lease : List ℕ) (content : Content) → IsAboutLease lease content → AsksForOwn lease content
about-own lease (contents.LeaseAdd id) is = is
about-own lease _ is = tt

messages-of : (p : Past) (f : ℕ) (s : Follower) → HasTheirMessages p f s → HasMessages p f s
messages-of p f s own = record {
  named = own.named;
  flight = All-weaker (λ (m : Frame). bytes_eq m.follower (uuid_of f) ≡ true → IsTheirMessage s m) (λ (m : Frame). bytes_eq m.follower (uuid_of f) ≡ true → IsMessageOf s m)
      (λ m told is. record { drawn = (told is).drawn; own = about-own s.lease m.content (told is).lease }) p.state.flight own.flight;
  kept = own.kept;
}

own-messages : (p : Past) → AreTheirs p → HasOwnMessages p
own-messages p theirs = record { made = λ f s at. messages-of p f s (theirs.made f s at); unmade = theirs.unmade }

-- ---- reads

reads-below : (line : Line) (begun_at : ℕ) (written : List WrittenBatch) (epoch : ℕ) (work : Work) → IsGoodWork line begun_at written epoch work → AsksBelowNext work
reads-below line begun_at written epoch (restoring r) good = tt
reads-below line begun_at written epoch (replicating t) good =
    All-weaker (IsGoodRead t.params.max_read_request_operation_count begun_at t.next_request t.next) (λ (r : Read). r.from ≤ t.next)
    (λ r is. let ordered : r.from ≤ r.to = is.ordered in let below : r.to ≤ t.next = is.below in omega arith) t.reads good.0.sound.reads.all

-- ---- all of it

pub grounds : (p : Past) → IsWhole p → HasGrounds p
grounds p now =
    let leader : IsTrueLeader p = true_leader p now.leading in
    let frames : Framing p = framing p now in
    record {
      floors = floors-low p leader;
      ready = leader.ready;
      leases = now.leading.leases;
      order = now.leading.order;
      frames = frames.truth;
      messages = own-messages p frames.theirs;
      reads = λ f s at. reads-below (line_of p s.history) (p.followers f).begun_at (p.followers f).written s.epoch s.work (now.tasks.followers.made f s at).work;
    }

-- no follower's primary knows a lesser global count after an event
pub counts-rise : (p : Past) (event : Event) (picks : List ℕ) → IsFitEvent event → IsWhole p → Rises p.state (past_by p event picks).state
counts-rise p event picks fit now = group-rises p event picks (ground_of p now) fit now.followers
