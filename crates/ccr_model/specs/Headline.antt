-- The theorem on the journals of a shard world, in the words of its subject.
use Rattle.std.specs.Prelude.{◌≡◌, ◌⊎◌, ℕ, ◌≤◌, ◌<◌, Bool, true, false, not, ◌&&◌, ◌||◌, ◌==◌, nat_le, List, [], ◌∷◌, ◌++◌, take, slice_get, Option, Some, is_some, IfSome}
use Rattle.std.specs.Option.{option_map_or}
use Rattle.std.specs.List.{AllByRecursion, list_any}
use Rattle.std.specs.Str.{bytes_eq}
use Rattle.ccr_op.specs.Operation.{Operation}
use Rattle.ccr_lease.specs.declared.retention.Lease.{Lease}
use Rattle.ccr_wire.specs.Message.{Frame, kind_of_content}
use Rattle.ccr_wire.specs.declared.content.Content.{Content}
use Rattle.ccr_wire.specs.declared.content.Content.TheVariants as contents
use Rattle.ccr_query.specs.Answers.{HitsOfShard}
use Rattle.ccr_query.specs.Queries.{Tree}
use Rattle.ccr_query.specs.declared.sorting.SortKey.{SortKey}
use Rattle.ccr_journal.specs.Params.{IsCopyCount}
use Rattle.ccr_journal.specs.declared.sides.Side.TheVariants as sides
use Rattle.ccr_journal.specs.declared.events.Event.{Event}
use Rattle.ccr_journal.specs.declared.events.Event.TheVariants as events
use Rattle.ccr_journal.specs.declared.journals.Entry.{Entry}
use Rattle.ccr_journal.specs.declared.replies.Reply.{Reply}
use Rattle.ccr_journal.specs.declared.replies.Reply.TheVariants as replies
use Rattle.ccr_journal.specs.declared.replies.Refusal.TheVariants.{OldEpoch}
use Rattle.ccr_journal.specs.declared.replies.Heard.{Heard as Hearing}
use Rattle.ccr_journal.specs.declared.replies.Heard.TheVariants as heard
use Rattle.ccr_model.specs.Stores.{held, merge_drops}
use Rattle.ccr_model.specs.Copies.{Copy, Replica, Copies, all_copies, copy_of, replica_of}
use Rattle.ccr_model.specs.CopyRows.{merge_bound}
use Rattle.ccr_model.specs.Given.{IsAmong}
use Rattle.ccr_model.specs.LeaseHistory.{retained, is_unbroken}
use Rattle.ccr_model.specs.Answers.{IsIn, IsAnswer, HasExactlyBelow}
use Rattle.ccr_model.specs.Tasks.{Task, is_active, read_sent}
use Rattle.ccr_model.specs.Restores.{sent_requests}
use Rattle.ccr_model.specs.Leaders.{Start, polls_of}
use Rattle.ccr_model.specs.Followers.{Follower, Work, restoring, replicating, uuid_of}
use Rattle.ccr_model.specs.World.{State, start_state, follower_of, goes_to_leader}
use Rattle.ccr_model.specs.Step.{outcome_at, IsLegal}
use Rattle.ccr_model.specs.Past.{Line, Past, FollowerPast, WrittenBatch, start_past, past_after, past_of, committed, line_of}
use Rattle.ccr_model.specs.FrameFacts.{IsCommitted, named_follower, BringWithin, BringAsAsked}
use Rattle.ccr_model.specs.TaskFacts.{IsBounded, AsksOnce, is_repeated, AsksUnreceived}
use Rattle.ccr_model.specs.Fit.{AreFit}
use Rattle.ccr_model.specs.Invariants.{IsLost, HasProcessed}

-- ---- what a follower holds

-- each operation that a follower's copy holds is its history's committed operation of that number
abbrev pub HoldsCommitted : Past → Type 0
HoldsCommitted p =
    AllByRecursion (λ (f : Follower). AllByRecursion (λ (c : Copy). AllByRecursion (IsCommitted (line_of p f.history)) (held c.store)) (all_copies f.copies)) p.state.followers

-- ---- searches

-- a search answers by the greatest number per document over what the copy was given; where it counts and was given exactly the numbers
-- below a count, the answer is that of its history at that count
pub record AnswersBy (line : Line) (ops : ℕ → Option Operation) (counts : Type 0) (query : Tree) (keys : List SortKey) (answer : HitsOfShard) : Type 0 where
  pub by_given : IsAnswer (IsAmong ops) query keys answer
  pub as_history : counts → (c : ℕ) → HasExactlyBelow (IsAmong ops) c → IsAnswer (IsIn (take c line.ops)) query keys answer

-- a leader's copy is the primary, or a replica that was resynced
abbrev pub IsResynced : Copies → ℕ → Type 0
IsResynced s copy = (s.primary.number ≡ copy) ⊎ (option_map_or (λ (r : Replica). r.resynced) (replica_of s copy) false ≡ true)

abbrev pub AnswersTruly : Past → Event → Reply → Type 0
AnswersTruly p (events.Search sides.Leader copy request) (replies.Found answer) =
    AnswersBy p.line (p.given copy) (IsResynced p.state.leader.copies copy) request.query request.sort answer
AnswersTruly p (events.Search (sides.Follower f) copy request) (replies.Found answer) =
    IfSome (slice_get p.state.followers f) (λ s. AnswersBy (line_of p s.history) ((p.followers f).given copy) (Unit {0}) request.query request.sort answer)
AnswersTruly p _ _ = Unit {0}

-- ---- retention

-- no leader's copy discards what an unbroken lease retains: it holds each operation that it was given at or above that number, under its number
pub record KeepsRetained (p : Past) (c : Copy) : Type 0 where
  pub kept : (id : List ℕ) → is_unbroken id p.notes ≡ true
      → (n : ℕ) (op : Operation) → p.given c.number n ≡ Some op → retained id p.notes ≤ n → IsIn (held c.store) op × (op.seq ≡ n)

abbrev pub Retention : Past → Type 0
Retention p = AllByRecursion (KeepsRetained p) (all_copies p.state.leader.copies)

-- each number that a merge of this copy drops is below the numbers of the copy's own leases
abbrev pub DropsBelowLeases : ℕ → List ℕ → Copy → Type 0
DropsBelowLeases retention picks c =
    AllByRecursion (λ (n : ℕ). AllByRecursion (λ (lease : Lease). n < lease.number) c.leases.leases) (merge_drops picks (merge_bound retention c) c.global c.store)

abbrev pub MergesSafely : Past → Event → Reply → Type 0
MergesSafely p (events.Merge sides.Leader copy) (replies.Merged floor dropped picks) =
    IfSome (copy_of p.state.leader.copies copy) (DropsBelowLeases p.state.leader.start.retention picks)
MergesSafely p _ _ = Unit {0}

-- the operation is at or above the number of one of the copy's own leases
abbrev pub is_leased : Copy → Operation → Bool
is_leased c op = list_any (λ lease. nat_le lease.number op.seq) c.leases.leases

-- what the copy of a number holds, and nothing where there is none
abbrev pub held_at : Copies → ℕ → List Operation
held_at s copy = option_map_or (λ c. held c.store) (copy_of s copy) []

-- each operation that the copy of a number holds, and that its own leases retain, it goes on to hold
abbrev pub KeepsLeased : Copies → Copies → ℕ → Type 0
KeepsLeased s next copy =
    IfSome (copy_of s copy) (λ c. AllByRecursion (λ (op : Operation). is_leased c op ≡ true → IsIn (held_at next copy) op) (held c.store))

-- a merge drops nothing that a lease of the copy retains, on either side
abbrev pub MergeKeepsLeased : State → State → Event → Type 0
MergeKeepsLeased s next (events.Merge sides.Leader copy) = KeepsLeased s.leader.copies next.leader.copies copy
MergeKeepsLeased s next (events.Merge (sides.Follower f) copy) =
    IfSome (slice_get s.followers f) (λ own. IfSome (slice_get next.followers f) (λ new. KeepsLeased own.copies new.copies copy))
MergeKeepsLeased s next _ = Unit {0}

-- ---- stops

-- a task stops for missing operations only after its lease expired or was removed
abbrev pub StopsTruly : Past → Event → Reply → Type 0
StopsTruly p (events.Deliver at copy keep) (replies.Heard heard.StoppedMissing) =
    IfSome (slice_get p.state.flight at) (λ m.
    (f : ℕ) (s : Follower) → follower_of p.state.followers m.follower ≡ Some f → slice_get p.state.followers f ≡ Some s → IsLost p f s.lease)
StopsTruly p _ _ = Unit {0}

-- ---- epochs

-- a batch of an epoch before the one that is kept changes no copy
abbrev pub RefusesOldEpoch : State → State → Event → Reply → Type 0
RefusesOldEpoch s next (events.Apply f epoch write batch) reply =
    (own : Follower) → slice_get s.followers f ≡ Some own → epoch < own.epoch → (reply ≡ replies.Refused (OldEpoch own.epoch)) × (next ≡ s)
RefusesOldEpoch s next _ reply = Unit {0}

abbrev pub AsksOnceInEpoch : FollowerPast → Work → Type 0
AsksOnceInEpoch past (restoring r) = Unit {0}
AsksOnceInEpoch past (replicating t) = is_active t.phase ≡ true → AsksOnce t past.written

-- a request of a follower asks for no number that was received in the epoch, unless it repeats one that was lost. What it repeats is of the
-- task as it was before, where that is of the same epoch.
abbrev pub repeats : Work → Task → ℕ → ℕ → Bool
repeats (restoring r) t from max_ops = false
repeats (replicating before) t from max_ops = (before.epoch == t.epoch) && is_repeated before from max_ops

abbrev pub AsksNewNumbers : Work → Task → List WrittenBatch → Content → Type 0
AsksNewNumbers old t written (contents.ReadRequest history from max_ops max_bytes timeout) =
    repeats old t from max_ops ≡ false → AsksUnreceived t written from max_ops
AsksNewNumbers old t written _ = Unit {0}

abbrev pub AsksNewIn : Work → Work → List WrittenBatch → Content → Type 0
AsksNewIn old (restoring r) written content = Unit {0}
AsksNewIn old (replicating t) written content = AsksNewNumbers old t written content

abbrev pub AsksNew : Past → Past → List Frame → Type 0
AsksNew p after sent =
    (f : ℕ) (s now : Follower) → slice_get p.state.followers f ≡ Some s → slice_get after.state.followers f ≡ Some now
    → AllByRecursion (λ (m : Frame). bytes_eq m.follower (uuid_of f) ≡ true → AsksNewIn s.work now.work (after.followers f).written m.content) sent

-- ---- failover of a follower

-- what was answered as written is processed by each of its copies, also by one that was just promoted
abbrev pub KeepsWritten : FollowerPast → Copies → Type 0
KeepsWritten past s = AllByRecursion (λ (c : Copy). AllByRecursion (HasProcessed c) past.written) (all_copies s)

-- the count that a follower's primary knows as committed never falls, also over a promotion
abbrev pub Rises : State → State → Type 0
Rises s next =
    (f : ℕ) (own new : Follower) → slice_get s.followers f ≡ Some own → slice_get next.followers f ≡ Some new
    → own.copies.primary.global ≤ new.copies.primary.global

-- ---- bounds

-- what is sent brings no more operations and bytes than the request asks for that is answered: the message that is delivered, or the poll
-- that is woken
abbrev pub RepliesWithin : State → Event → List Frame → Type 0
RepliesWithin s (events.Deliver at copy keep) sent = IfSome (slice_get s.flight at) (λ m. BringAsAsked m.content sent)
RepliesWithin s (events.Wake f at) sent =
    IfSome (slice_get (polls_of s.leader.polls (uuid_of f)) at) (λ poll. BringWithin poll.max_ops poll.max_bytes sent)
RepliesWithin s _ sent = BringWithin 0 0 sent

abbrev pub HasBounds : Line → Work → Type 0
HasBounds line (restoring r) = Unit {0}
HasBounds line (replicating t) = IsBounded line t

-- ---- refusals

-- a refused event changes nothing but the journal
abbrev pub RefusesQuietly : State → State → Reply → Type 0
RefusesQuietly s next (replies.Refused why) = next ≡ s
RefusesQuietly s next _ = Unit {0}

-- ---- ignored messages

-- a request was sent under this number that is still outstanding, or a renewal or removal of the lease stands under it
abbrev pub awaits_in : ℕ → Work → Bool
awaits_in request (restoring r) = list_any (λ n. n == request) (sent_requests r.stage)
awaits_in request (replicating t) = is_some (read_sent t request)

abbrev pub awaits : ℕ → Follower → Bool
awaits request s = list_any (λ n. n == request) s.lease_requests || awaits_in request s.work

abbrev pub is_ignored : Hearing → Bool
is_ignored heard.Ignored = true
is_ignored _ = false

-- a message is ignored exactly where it goes to a follower and answers nothing that it waits for
abbrev pub IgnoresRightly : State → Event → Reply → Type 0
IgnoresRightly s (events.Deliver at copy keep) (replies.Heard what) =
    IfSome (slice_get s.flight at) (λ m. IfSome (named_follower s.followers m.follower) (λ f.
    is_ignored what ≡ (not (goes_to_leader (kind_of_content m.content)) && not (awaits m.request f))))
IgnoresRightly s _ _ = Unit {0}

-- ---- the headline

-- what holds of a follower at every place
pub record KeepsFollower (p : Past) (f : ℕ) (s : Follower) : Type 0 where
  pub epochs : AsksOnceInEpoch (p.followers f) s.work
  pub written : KeepsWritten (p.followers f) s.copies
  pub bounds : HasBounds (line_of p s.history) s.work

-- what holds at every place
pub record HoldsAt (p : Past) : Type 0 where
  pub committed : HoldsCommitted p
  pub retention : Retention p
  pub followers : (f : ℕ) (s : Follower) → slice_get p.state.followers f ≡ Some s → KeepsFollower p f s

-- what was committed of each history at a place is committed at a later one
abbrev pub StaysCommitted : Past → Past → Type 0
StaysCommitted p later = (history : List ℕ) → take (line_of p history).cut (committed (line_of later history)) ≡ committed (line_of p history)

-- what holds of each entry, after which stands the past `after`: what was committed of each history stays, and the reply is true
pub record HoldsOf (p after : Past) (entry : Entry) : Type 0 where
  pub prefix : StaysCommitted p after
  pub search : AnswersTruly p entry.event entry.reply
  pub merge : MergesSafely p entry.event entry.reply
  pub leased : MergeKeepsLeased p.state after.state entry.event
  pub stop : StopsTruly p entry.event entry.reply
  pub epoch : RefusesOldEpoch p.state after.state entry.event entry.reply
  pub asks : AsksNew p after (outcome_at p.state entry).sent
  pub rise : Rises p.state after.state
  pub replies : RepliesWithin p.state entry.event (outcome_at p.state entry).sent
  pub refused : RefusesQuietly p.state after.state entry.reply
  pub ignored : IgnoresRightly p.state entry.event entry.reply

-- it holds at every place of a journal and of each of its entries
abbrev pub Headline : Past → List Entry → Type 0
Headline p [] = HoldsAt p
Headline p (entry ∷ entries) = HoldsAt p × HoldsOf p (past_after p entry) entry × Headline (past_after p entry) entries

-- for every start, and every legal journal whose events are fit
abbrev pub HeadlineHolds : Type 0
HeadlineHolds =
    (start : Start) → IsCopyCount start.copies → (entries : List Entry) → AreFit entries → IsLegal (start_state start) entries
    → Headline (start_past start) entries

-- what was committed of each history at any place of such a journal is committed at any later one
abbrev pub CommittedPrefix : Type 0
CommittedPrefix =
    (start : Start) → IsCopyCount start.copies → (front entries : List Entry) → AreFit (front ++ entries) → IsLegal (start_state start) (front ++ entries)
    → StaysCommitted (past_of (start_past start) front) (past_of (start_past start) (front ++ entries))
