-- How a bootstrap asks, hears and ends.
use Rattle.std.specs.Prelude.{◌≡◌, ℕ, true, false, List, [], ◌∷◌, Some, None}
use Rattle.ccr_wire.specs.declared.content.Content.TheVariants as contents
use Rattle.ccr_wire.specs.declared.kind.LeaseResult.TheVariants as results
use Rattle.ccr_journal.specs.declared.sides.Phase.TheVariants as phases
use Rattle.ccr_model.specs.Requests.{Progress, Sending, on_its_way, waiting}
use Rattle.ccr_model.specs.Copies.{Copies}
use Rattle.ccr_model.specs.Restores.{Restore, Stage, Fetch, Chunk, ChunkAsked, leasing, opening, fetching, is_complete, asks_session, asks_more, sent_requests, chunk_again, changed_ask, ask_sent, hear_leasing, hear_opening, hear_fetching}
use Rattle.ccr_model.specs.Tasks.{Task}
use Rattle.ccr_model.specs.Followers.{Follower, restoring, replicating, restored_copy, restored, bootstrapped}
use Rattle.ccr_model_values.specs.Words.{op, read, params, below, copy, replica, shard, message, follower}

-- a bootstrap of the follower 9 that had two losses in a row, and whose next request has number 6; a part has two bytes
abbrev pub bootstrap : Stage → Restore
bootstrap stage = record { lease = 97 ∷ []; follower = 9 ∷ []; history = 8 ∷ []; chunk_size = 2; max_retry_delay = 500; next_request = 6; retry = 2; stage = stage }

abbrev pub asked : ℕ → ℕ → ℕ → Progress → ChunkAsked
asked request file offset progress = record { request = request; file = file; offset = offset; progress = progress }

-- of session 3: files of 3, 8 and no bytes, so of 2 and of 4 parts
abbrev pub fetch : ℕ → List ChunkAsked → List Chunk → Fetch
fetch so_far asks chunks = record { session = 3; history = 8 ∷ []; count = 7; sizes = 3 ∷ 8 ∷ 0 ∷ []; asked = so_far; asks = asks; chunks = chunks }

abbrev pub four_asks : List ChunkAsked
four_asks = asked 2 0 0 on_its_way ∷ asked 3 0 2 (waiting 900) ∷ asked 4 1 0 (waiting 1100) ∷ asked 5 1 2 on_its_way ∷ []

-- at most five parts are asked for at once, those that wait among them, in order of file and offset; one that is asked for again stands behind
-- the others, under a new number
pub record Ask : Type 0 where
  pub fifth : (asks_more (bootstrap (fetching (fetch 4 four_asks []))) (fetch 4 four_asks [])).sent ≡ message 6 (contents.ChunkRequest 3 1 4 2) ∷ []
  pub both : (asks_more (bootstrap (fetching (fetch 4 [] []))) (fetch 4 [] [])).next.stage ≡ fetching (fetch 6 (asked 6 1 4 on_its_way ∷ asked 7 1 6 on_its_way ∷ []) [])
  pub next_request : (asks_more (bootstrap (fetching (fetch 4 [] []))) (fetch 4 [] [])).next.next_request ≡ 8
  pub lost : sent_requests (fetching (fetch 4 four_asks [])) ≡ 2 ∷ 5 ∷ []
  pub again : (chunk_again (bootstrap (fetching (fetch 4 four_asks []))) (fetch 4 four_asks []) (asked 3 0 2 (waiting 900))).next.stage
      ≡ fetching (fetch 4 (asked 2 0 0 on_its_way ∷ asked 4 1 0 (waiting 1100) ∷ asked 5 1 2 on_its_way ∷ asked 6 0 2 on_its_way ∷ []) [])
  pub changed : changed_ask 2 (λ a. record a { progress = waiting 7 }) (asked 2 0 0 on_its_way ∷ asked 2 0 2 on_its_way ∷ [])
      ≡ asked 2 0 0 (waiting 7) ∷ asked 2 0 2 on_its_way ∷ []

-- the next request for a session goes by a new number; an answer to a part that waits is not taken
pub record AreNumbered : Type 0 where
  pub session : asks_session (bootstrap (leasing (record { request = 5; progress = on_its_way })))
      ≡ record { next = record (bootstrap (opening (record { request = 6; progress = on_its_way }))) { next_request = 7 }; sent = message 6 contents.SessionOpen ∷ [] }
  pub sent : ask_sent (fetch 4 four_asks []) 2 ≡ Some (asked 2 0 0 on_its_way)
  pub waits : ask_sent (fetch 4 four_asks []) 3 ≡ None

-- the session that a bootstrap asks for next, where its losses are counted from 0 on again
abbrev pub asks_anew : Sending Restore
asks_anew = record { next = record (bootstrap (opening (record { request = 6; progress = on_its_way }))) { next_request = 7; retry = 0 }; sent = message 6 contents.SessionOpen ∷ [] }

abbrev pub from_leasing : Restore
from_leasing = bootstrap (leasing (record { request = 5; progress = on_its_way }))

abbrev pub from_fetching : Restore
from_fetching = bootstrap (fetching (fetch 4 four_asks []))

-- each answer but NotReady sets the count of losses to 0; after NotReady the request waits
pub record Hear : Type 0 where
  pub added : hear_leasing from_leasing 1000 5 (contents.LeaseAdded 3) ≡ Some asks_anew
  pub exists : hear_leasing from_leasing 1000 5 (contents.LeaseAnswer results.Exists 3) ≡ Some asks_anew
  pub gone : hear_fetching from_fetching (fetch 4 four_asks []) (asked 2 0 0 on_its_way) (contents.SessionGone 3) ≡ Some asks_anew
  pub not_ready : hear_opening (bootstrap (opening (record { request = 5; progress = on_its_way }))) 1000 5 (contents.NotReady 4)
      ≡ Some record { next = record (bootstrap (opening (record { request = 5; progress = waiting 1200 }))) { retry = 3 }; sent = [] }

-- a bootstrap is over where each part was asked for and has come
pub record AreComplete : Type 0 where
  pub outstanding : is_complete 2 (fetch 6 four_asks []) ≡ false
  pub not_asked : is_complete 2 (fetch 5 [] []) ≡ false
  pub all : is_complete 2 (fetch 6 [] []) ≡ true

-- each copy has the files as closed parts, counts the numbers below the session's count and knows it; the primary knows it of each
abbrev pub empty_copies : Copies
empty_copies = shard (copy 6 (below 0) [] 0 0 0 []) (replica (copy 4 (below 0) [] 0 0 0 []) 0 true true ∷ [])

pub record AreRestored : Type 0 where
  pub parts : (restored_copy 7 ((op 1 ∷ []) ∷ (op 4 ∷ []) ∷ []) (copy 6 (below 0) [] 0 0 0 [])).store
      ≡ record { parts = (op 1 ∷ []) ∷ (op 4 ∷ []) ∷ []; open_part = [] }
  pub replicas : (restored 7 [] empty_copies).replicas ≡ replica (copy 4 (below 7) [] 7 0 0 []) 7 true true ∷ []

abbrev pub empty_fetch : Fetch
empty_fetch = record (fetch 0 [] []) { sizes = [] }

-- the task of epoch 1 begins at the session's count: it knows of as much, and peeks under the bootstrap's next request number
abbrev pub first_task : Task
first_task = record {
  params = params 100 10000;
  history = 8 ∷ [];
  follower = 9 ∷ [];
  phase = phases.Active;
  epoch = 1;
  next_request = 7;
  retry = 0;
  next = 7;
  known = 7;
  reads = read 6 7 7 5 on_its_way ∷ [];
  buffer = [];
  next_write = 0;
  writes = [];
}

abbrev pub ended : Sending Follower
ended = bootstrapped (follower (restoring from_fetching) empty_copies) from_fetching empty_fetch

pub record Ends : Type 0 where
  pub task : ended.next.work ≡ replicating first_task
  pub epoch : ended.next.epoch ≡ 1
  pub sent : ended.sent ≡ message 6 (contents.ReadRequest (8 ∷ []) 7 5 1000 60000) ∷ []
