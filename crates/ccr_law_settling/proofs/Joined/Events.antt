-- What settling needs holds at the start, and each fit event keeps it; what it comes to at each place.
use Rattle.ccr_journal.specs.Params.{IsCopyCount}
use Rattle.ccr_model.specs.Leaders.{Start}
use Rattle.ccr_model.specs.Past.{Past, start_past}
use Rattle.ccr_model.specs.Invariants.{Invariant}
use Rattle.ccr_law_copies.specs.Cores.{IsCore}
use Rattle.ccr_law_messages.specs.TrueFrames.{HasTrueFrames}
use Rattle.ccr_law.proofs.Walks.{IsKept}
use Rattle.ccr_law.proofs.Leading.{leading-onward}
use Rattle.ccr_law.proofs.Grounds.{ground_of}
use Rattle.ccr_law.proofs.Whole.{whole-start, whole-keeps, whole-true}
use Rattle.ccr_law_settling.proofs.Measure.Says.{within_at, readable_at, copying_lowers, waiting_lowers, ending_lowers, delivery_lowers}
use Rattle.ccr_law_settling.proofs.Measure.Framing.{theirs, own_name, asking_lowers}
use Rattle.ccr_law_settling.specs.Lowering.{counts_of}
use Rattle.ccr_law_settling.proofs.Measure.Counts.{lowers_at}
use Rattle.ccr_law_settling.proofs.Measure.LeftAtLeader.{leader_left}
use Rattle.ccr_law_settling.proofs.Task.Ticks.{ticks_lower}
use Rattle.ccr_law_settling.proofs.Task.ReplySays.{replies_lower}
use Rattle.ccr_law_settling.proofs.Fetch.Coming.{fetches_lower}
use Rattle.ccr_law_settling.specs.FollowersLeft.{IsGroundOfSettling, IsStill}
use Rattle.ccr_law_settling.proofs.Left.Says.{followers-end}
use Rattle.ccr_law_settling_grounds.proofs.Count.Events.{known_start, known_keep}
use Rattle.ccr_law_settling_grounds.proofs.Wait.Events.{parked_start, parked_keep}
use Rattle.ccr_law_settling_grounds.proofs.Work.Events.{each_event}
use Rattle.ccr_law_settling.specs.Settles.{IsFull, EachLowers, NoneIsLeft}
use Rattle.ccr_law_settling.proofs.Joined.Lowers.{AllLower, event_lowers, known_within}
use Rattle.ccr_law_settling.proofs.Joined.Nothing.{none_acts, none_waits, settled_by}

-- ---- the start, and each event

pub full-start : (start : Start) → IsCopyCount start.copies → IsFull (start_past start)
full-start start count = record {
  whole = whole-start start count;
  known = known_start start;
  parked = parked_start start;
  pending = λ f own there. absurd cc;
}

pub full-keeps : IsKept IsFull
full-keeps p event picks fit short now = record {
  whole = whole-keeps p event picks fit short now.whole;
  known = known_keep p event picks (leading-onward p event picks short now.whole.leading) (ground_of p now.whole) now.whole.frames fit now.whole.followers now.known;
  parked = parked_keep p.state event picks now.parked;
  pending = each_event p.state event picks now.pending;
}

-- ---- at a place

all_lower : (p : Past) → IsFull p → Invariant p → AllLower (counts_of p) p.state
all_lower p now truth =
    let core : IsCore p = now.whole.leading.core in
    let frames : HasTrueFrames p = now.whole.frames in
    record {
      copying = copying_lowers (counts_of p) p.state (within_at p core truth.followers);
      waiting = waiting_lowers (counts_of p) p.state (readable_at p truth.leader);
      ending = ending_lowers (counts_of p) p.state;
      ticks = ticks_lower (counts_of p) p core frames now.whole.tasks;
      deliveries = record {
        deliveries = delivery_lowers (counts_of p) p.state (readable_at p truth.leader);
        asking = asking_lowers (counts_of p) p core frames;
        replies = replies_lower p core frames now.whole.tasks now.known;
        fetches = fetches_lower (counts_of p) p core frames;
      };
    }

pub each_lowers : (p : Past) → IsFull p → EachLowers p
each_lowers p now event =
    lowers_at p event
    (event_lowers (counts_of p) p.state (all_lower p now (whole-true p now.whole)) now.whole.purposes (λ f own there. ((theirs p now.whole.leading.core now.whole.frames).made f own there).named)
    (own_name p now.whole.leading.core now.whole.frames) (known_within p now.whole.leading.core now.known) event)

ground : (p : Past) → IsFull p → IsGroundOfSettling p
ground p now = record {
  leader = (whole-true p now.whole).leader;
  core = now.whole.leading.core;
  frames = now.whole.frames;
  tasks = now.whole.tasks;
  followers = now.whole.followers;
  purposes = now.whole.purposes;
  known = now.known;
  parked = now.parked;
  pending = now.pending;
}

pub none_is_left : (p : Past) → IsFull p → NoneIsLeft p
none_is_left p now none =
    let still : IsStill p = record { done = none_acts p.state none; untimed = none_waits p.state none } in
    settled_by p.state (leader_left p now.whole.leading.core still.done) (followers-end p (ground p now) still)
