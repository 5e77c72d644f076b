-- The leader's side of a shard world.
use Rattle.std.specs.Prelude.{ℕ, ◌+◌, ◌-◌, Bool, ◌==◌, nat_lt, if◌then◌else◌, List, [], ◌∷◌, length, drop, filter, find, Option}
use Rattle.std.specs.Int.{w128, from_be_bytes, to_be_bytes}
use Rattle.std.specs.Str.{bytes_eq}
use Rattle.ccr_model.specs.Copies.{Copy, Copies, new_copies}

-- what a leader shard is made with: its number of copies, the UUID of its first history, how many milliseconds a lease lasts, and how many
-- operations are kept beyond the global count
pub record Start : Type 0 where
  pub copies : ℕ
  pub history : List ℕ
  pub period : ℕ
  pub retention : ℕ

-- files that a follower fetches, as they were when the session opened: they hold the operations below the count
pub record Session : Type 0 where
  pub number : ℕ
  pub count : ℕ
  pub files : List (List ℕ)
  pub activity : ℕ

-- a request for a lease that waits until each in-sync copy has the lease; `existed` tells whether the lease was there when it came
pub record KeptRequest : Type 0 where
  pub follower : List ℕ
  pub request : ℕ
  pub id : List ℕ
  pub existed : Bool

-- a read that waits at a copy for an operation of its number
pub record Poll : Type 0 where
  pub follower : List ℕ
  pub request : ℕ
  pub copy : ℕ
  pub history : List ℕ
  pub from : ℕ
  pub max_ops : ℕ
  pub max_bytes : ℕ
  pub timeout : ℕ
  pub parked : ℕ

-- the UUID of the history; the copies; the copies that left and are kept as stale, in ascending number; the clock; the sessions; the kept
-- requests and the polls, both in the order in which they came
pub record Leader : Type 0 where
  pub start : Start
  pub history : List ℕ
  pub copies : Copies
  pub stale : List Copy
  pub now : ℕ
  pub next_session : ℕ
  pub sessions : List Session
  pub kept : List KeptRequest
  pub polls : List Poll

abbrev pub new_leader : Start → Leader
new_leader start = record {
  start = start;
  history = start.history;
  copies = new_copies start.copies;
  stale = [];
  now = 0;
  next_session = 0;
  sessions = [];
  kept = [];
  polls = [];
}

-- a follower's polls, the oldest first
abbrev pub polls_of : List Poll → List ℕ → List Poll
polls_of polls follower = filter (λ p. bytes_eq p.follower follower) polls

-- the polls without the one at this place among the follower's
abbrev pub without_poll : List ℕ → ℕ → List Poll → List Poll
without_poll follower at [] = []
without_poll follower at (p ∷ polls) =
    if bytes_eq p.follower follower
    then (if at == 0 then polls else p ∷ without_poll follower (at - 1) polls)
    else p ∷ without_poll follower at polls

abbrev pub session_of : List Session → ℕ → Option Session
session_of sessions number = find (λ s. s.number == number) sessions

-- the UUID of the history that begins with a term, the first of which begins with term 1: of its 128 bits each term's is one more, and after
-- the last comes 0
abbrev pub history_of_term : List ℕ → ℕ → List ℕ
history_of_term first term = to_be_bytes w128 (from_be_bytes w128 first + (term - 1))

-- ---- stale copies

-- the greatest number of stale copies that are kept
abbrev pub most_stale : ℕ
most_stale = 8

-- the copy stands before those of greater number
abbrev pub with_copy : Copy → List Copy → List Copy
with_copy c [] = c ∷ []
with_copy c (x ∷ xs) = if nat_lt c.number x.number then c ∷ x ∷ xs else x ∷ with_copy c xs

-- one more copy is kept as stale, as it was; where that is one too many, the one of least number is forgotten
abbrev pub with_stale : Copy → List Copy → List Copy
with_stale c stale =
    let all = with_copy c stale in
    drop (length all - most_stale) all

abbrev pub stale_of : List Copy → ℕ → Option Copy
stale_of stale copy = find (λ c. c.number == copy) stale
