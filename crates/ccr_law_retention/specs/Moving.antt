-- How a follower's work passes from one place to the next.
use Rattle.std.specs.Prelude.{◌≡◌, ◌⊎◌, ℕ, ◌≤◌, ◌<◌, Bool, true, false, List, Some, None}
use Rattle.std.specs.List.{AllByRecursion}
use Rattle.ccr_wire.specs.Message.{Frame}
use Rattle.ccr_wire.specs.declared.content.Content.{Content}
use Rattle.ccr_wire.specs.declared.content.Content.TheVariants as contents
use Rattle.ccr_model.specs.Outcomes.{Outcome}
use Rattle.ccr_model.specs.Requests.{is_sent}
use Rattle.ccr_model.specs.Restores.{Asked, answers, ends_restore}
use Rattle.ccr_model.specs.Followers.{Follower, Work, restoring, replicating}
use Rattle.ccr_model.specs.FrameFacts.{reading_in, next_request_of}
use Rattle.ccr_model.specs.Invariants.{count_opened}
use Rattle.ccr_law_retention.specs.Retaining.{Bound, free, asked, at_most, bound_of, is_grant, is_replicating, IsNoTaskLeasing}

-- a request for a session was not sent under a number that was drawn before
abbrev pub IsFresh : ℕ → Asked → Type 0
IsFresh drawn a = is_sent a.progress ≡ true → drawn ≤ a.request

-- a bound after another, where numbers below `drawn` were drawn: no less, or of the same request, or of a new one
abbrev pub Follows : ℕ → Bound → Bound → Type 0
Follows drawn free free = Unit {0}
Follows drawn free (asked a) = ⊥
Follows drawn free (at_most b) = ⊥
Follows drawn (asked a) free = ⊥
Follows drawn (asked a) (asked now) = (now ≡ a) ⊎ IsFresh drawn now
Follows drawn (asked a) (at_most b) = ⊥
Follows drawn (at_most b) free = ⊥
Follows drawn (at_most b) (asked now) = IsFresh drawn now
Follows drawn (at_most b) (at_most now) = b ≤ now

-- what a message does to a bound: the lease is there, and a session is asked for; or the session that was asked for is opened
abbrev pub Answers : ℕ → Frame → Bound → Bound → Type 0
Answers drawn m free (asked now) = (is_grant m.content ≡ true) × IsFresh drawn now
Answers drawn m (asked a) (at_most now) = (count : ℕ) × (answers m a ≡ true) × (count_opened m.content ≡ Some count) × (count ≤ now)
Answers drawn m old now = ⊥

-- a request that says nothing of what a lease retains
abbrev pub is_plain : Content → Bool
is_plain (contents.ReadRequest history from max_ops max_bytes timeout) = true
is_plain (contents.LeaseAdd id) = true
is_plain (contents.LeaseRemove id) = true
is_plain contents.SessionOpen = true
is_plain (contents.ChunkRequest session file offset size) = true
is_plain _ = false

abbrev pub IsUpTo : ℕ → Bound → Type 0
IsUpTo n free = ⊥
IsUpTo n (asked a) = ⊥
IsUpTo n (at_most b) = n ≤ b

-- a renewal of the lease to a number within the bound
abbrev pub IsRenewal : List ℕ → Bound → Content → Type 0
IsRenewal lease bound (contents.LeaseRenew id number) = (id ≡ lease) × IsUpTo number bound
IsRenewal lease bound _ = ⊥

abbrev pub IsRequest : List ℕ → Bound → Frame → Type 0
IsRequest lease bound m = (is_plain m.content ≡ true) ⊎ IsRenewal lease bound m.content

-- what a work has sent and still waits for under a number that was drawn before, it had
pub record GoesOn (old new : Work) : Type 0 where
  pub drawn : next_request_of old ≤ next_request_of new
  pub replicates : is_replicating old ≡ true → is_replicating new ≡ true
  pub phase : IsNoTaskLeasing old → IsNoTaskLeasing new
  pub unsent : (k : ℕ) → k < next_request_of old → reading_in old k ≡ None → reading_in new k ≡ None

-- the message ends the bootstrap, since it opens a session of another history
abbrev pub ends_work : Work → Frame → Bool
ends_work (restoring r) m = ends_restore r m
ends_work (replicating t) m = false

-- a follower after another, which has sent these
pub record MovesTo (s : Follower) (o : Outcome Follower) : Type 0 where
  pub lease : o.next.lease ≡ s.lease
  pub history : o.next.history ≡ s.history
  pub work : GoesOn s.work o.next.work
  pub bound : s.copies.primary.global ≤ o.next.copies.primary.global
      → Follows (next_request_of s.work) (bound_of s.copies.primary.global s.work) (bound_of o.next.copies.primary.global o.next.work)
  pub sent : AllByRecursion (IsRequest s.lease (bound_of o.next.copies.primary.global o.next.work)) o.sent
  pub renews : AllByRecursion (λ (m : Frame). is_plain m.content ≡ true) o.sent ⊎ (is_replicating o.next.work ≡ true)

-- after a message; where that ends the bootstrap, nothing is said of a bound
pub record HearsAs (s : Follower) (m : Frame) (o : Outcome Follower) : Type 0 where
  pub lease : o.next.lease ≡ s.lease
  pub history : o.next.history ≡ s.history
  pub work : GoesOn s.work o.next.work
  pub bound : ends_work s.work m ≡ false → s.copies.primary.global ≤ o.next.copies.primary.global
      → Follows (next_request_of s.work) (bound_of s.copies.primary.global s.work) (bound_of o.next.copies.primary.global o.next.work)
      ⊎ Answers (next_request_of s.work) m (bound_of s.copies.primary.global s.work) (bound_of o.next.copies.primary.global o.next.work)
  pub sent : AllByRecursion (IsRequest s.lease (bound_of o.next.copies.primary.global o.next.work)) o.sent
  pub renews : AllByRecursion (λ (m : Frame). is_plain m.content ≡ true) o.sent ⊎ (is_replicating o.next.work ≡ true)
