-- What a follower has asked for and not yet got, and when it asks again.
use Rattle.std.specs.Prelude.{ℕ, ◌+◌, ◌-◌, ◌*◌, ◌^◌, Bool, true, false, nat_le, min, List, [], ◌++◌}
use Rattle.ccr_wire.specs.Message.{Frame}

-- how far a request or a write is: it was sent; it was lost and waits until a time; or, of a read alone, what is left of it is held back
pub data Progress : Type 0 where
  on_its_way : Progress
  waiting : ℕ → Progress
  held_back : Progress

abbrev pub is_sent : Progress → Bool
is_sent on_its_way = true
is_sent (waiting until) = false
is_sent held_back = false

-- it waited long enough
abbrev pub is_due : ℕ → Progress → Bool
is_due now on_its_way = false
is_due now (waiting until) = nat_le until now
is_due now held_back = false

-- a part of a follower after an event, and the messages that it sends
pub record Sending (S : Type 0) : Type 0 where
  pub next : S
  pub sent : List Frame

abbrev pub quiet : {S : Type 0} → S → Sending S
quiet s = record { next = s; sent = [] }

-- one thing after another
abbrev pub followed_by : {S : Type 0} → Sending S → (S → Sending S) → Sending S
followed_by first f =
    let second = f first.next in
    record { next = second.next; sent = first.sent ++ second.sent }

-- how many milliseconds a request waits after this many losses, of which there is one at least
abbrev pub delay : ℕ → ℕ → ℕ
delay max_retry_delay retry = min (50 * 2 ^ (min retry 24 - 1)) max_retry_delay

-- the time until which it waits: the last reading of a clock at most
abbrev pub retry_time : ℕ → ℕ → ℕ → ℕ
retry_time max_retry_delay now retry = min (now + delay max_retry_delay retry) (2 ^ 64 - 1)
