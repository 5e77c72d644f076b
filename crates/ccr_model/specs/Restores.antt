-- The bootstrap of a follower shard: it asks for its lease, opens a session, and fetches the session's files.
use Rattle.std.specs.Prelude.{ℕ, ◌+◌, ◌-◌, ◌*◌, ◌/◌, Bool, false, not, ◌&&◌, ◌==◌, if◌then◌else◌, List, [], ◌∷◌, ◌++◌, length, take, drop, map, filter, find, flat_map, Option, Some, None}
use Rattle.std.specs.Option.{option_map_or}
use Rattle.std.specs.List.{range_with_len, enumerate_from}
use Rattle.std.specs.Str.{bytes_eq}
use Rattle.ccr_op.specs.Operation.{Operation}
use Rattle.ccr_segment.specs.Index.{ops_in}
use Rattle.ccr_wire.specs.Message.{Frame}
use Rattle.ccr_wire.specs.declared.content.Content.{Content}
use Rattle.ccr_wire.specs.declared.content.Content.TheVariants as contents
use Rattle.ccr_wire.specs.declared.kind.LeaseResult.TheVariants as results
use Rattle.ccr_journal.specs.declared.sides.Phase.{Phase}
use Rattle.ccr_journal.specs.declared.sides.Phase.TheVariants as phases
use Rattle.ccr_model.specs.Operations.{is_empty}
use Rattle.ccr_model.specs.Requests.{Progress, on_its_way, waiting, is_sent, is_due, Sending, quiet, followed_by, retry_time}

-- the request for the lease or for the session
pub record Asked : Type 0 where
  pub request : ℕ
  pub progress : Progress

-- the request for a part of a file
pub record ChunkAsked : Type 0 where
  pub request : ℕ
  pub file : ℕ
  pub offset : ℕ
  pub progress : Progress

-- a part of a file that has come
pub record Chunk : Type 0 where
  pub file : ℕ
  pub offset : ℕ
  pub bytes : List ℕ

-- the session as it was opened, the requests that are outstanding in ascending request number, and the parts that have come.
-- `asked` is how many of the session's parts were asked for so far, in their order.
pub record Fetch : Type 0 where
  pub session : ℕ
  pub history : List ℕ
  pub count : ℕ
  pub sizes : List ℕ
  pub asked : ℕ
  pub asks : List ChunkAsked
  pub chunks : List Chunk

pub data Stage : Type 0 where
  leasing : Asked → Stage
  opening : Asked → Stage
  fetching : Fetch → Stage

-- `history` is the leader's when the bootstrap began
pub record Restore : Type 0 where
  pub lease : List ℕ
  pub follower : List ℕ
  pub history : List ℕ
  pub chunk_size : ℕ
  pub max_retry_delay : ℕ
  pub next_request : ℕ
  pub retry : ℕ
  pub stage : Stage

abbrev pub phase_of : Stage → Phase
phase_of (leasing a) = phases.Leasing
phase_of (opening a) = phases.Opening
phase_of (fetching f) = phases.Fetching

-- ---- parts of files

-- where the parts of a file begin
abbrev pub offsets_of : ℕ → ℕ → List ℕ
offsets_of chunk_size size = map {A = ℕ} {B = ℕ} (λ n. n * chunk_size) (range_with_len 0 ((size + chunk_size - 1) / chunk_size))

-- the parts of all files, in order of file and offset
abbrev pub places_of : ℕ → List ℕ → List (ℕ × ℕ)
places_of chunk_size sizes =
    flat_map {X = ℕ × ℕ} {A = ℕ × ℕ} (λ at. map {A = ℕ} {B = ℕ × ℕ} (λ offset. (at.0, offset)) (offsets_of chunk_size at.1)) (enumerate_from 0 sizes)

-- the bytes of a part that has come, and none of one that hasn't
abbrev pub bytes_at : List Chunk → ℕ × ℕ → List ℕ
bytes_at chunks place = option_map_or (λ c. c.bytes) (find (λ c. (c.file == place.0) && (c.offset == place.1)) chunks) []

-- the bytes of a file
abbrev pub file_bytes : ℕ → Fetch → ℕ → List ℕ
file_bytes chunk_size f file = flat_map {X = ℕ × ℕ} {A = ℕ} (bytes_at f.chunks) (filter (λ place. place.0 == file) (places_of chunk_size f.sizes))

-- the operations of each file
abbrev pub files_of : ℕ → Fetch → List (List Operation)
files_of chunk_size f =
    map {A = ℕ} {B = List Operation} (λ file. ops_in (file_bytes chunk_size f file)) (range_with_len 0 (length f.sizes))

-- all parts are there
abbrev pub is_complete : ℕ → Fetch → Bool
is_complete chunk_size f = is_empty f.asks && (f.asked == length (places_of chunk_size f.sizes))

-- ---- what is sent

abbrev pub frame_of : Restore → Content → Frame
frame_of s content = record { follower = s.follower; request = s.next_request; content = content }

-- the request for the lease is sent under the next request number
abbrev pub asks_lease : Restore → Sending Restore
asks_lease s = record {
  next = record s { next_request = s.next_request + 1; stage = leasing (record { request = s.next_request; progress = on_its_way }) };
  sent = frame_of s (contents.LeaseAdd s.lease) ∷ [];
}

abbrev pub asks_session : Restore → Sending Restore
asks_session s = record {
  next = record s { next_request = s.next_request + 1; stage = opening (record { request = s.next_request; progress = on_its_way }) };
  sent = frame_of s contents.SessionOpen ∷ [];
}

abbrev pub chunk_request : Restore → Fetch → ℕ × ℕ → Frame
chunk_request s f place = frame_of s (contents.ChunkRequest f.session place.0 place.1 s.chunk_size)

-- a part is asked for
abbrev pub asks_chunk : Restore → Fetch → ℕ × ℕ → Sending Restore
asks_chunk s f place = record {
  next = record s {
    next_request = s.next_request + 1;
    stage = fetching (record f {
      asked = f.asked + 1;
      asks = f.asks ++ record { request = s.next_request; file = place.0; offset = place.1; progress = on_its_way } ∷ [];
    });
  };
  sent = chunk_request s f place ∷ [];
}

-- these parts are asked for, one after the other
abbrev pub asks_chunks : List (ℕ × ℕ) → Restore → Sending Restore
asks_chunks [] s = quiet s
asks_chunks (place ∷ places) s = elim s.stage as (λ _. Sending Restore) [
  | leasing a ↦ quiet s
  | opening a ↦ quiet s
  | fetching f ↦ followed_by (asks_chunk s f place) (asks_chunks places)
]

-- how many parts are asked for at once
abbrev pub most_asks : ℕ
most_asks = 5

-- the next parts are asked for, as many as may be outstanding
abbrev pub asks_more : Restore → Fetch → Sending Restore
asks_more s f =
    asks_chunks (take (most_asks - length f.asks) (drop f.asked (places_of s.chunk_size f.sizes))) (record s { stage = fetching f })

-- ---- start, losses, retries

abbrev pub restore_started : List ℕ → List ℕ → List ℕ → ℕ → ℕ → Sending Restore
restore_started lease follower history chunk_size max_retry_delay = asks_lease record {
  lease = lease;
  follower = follower;
  history = history;
  chunk_size = chunk_size;
  max_retry_delay = max_retry_delay;
  next_request = 0;
  retry = 0;
  stage = leasing (record { request = 0; progress = on_its_way });
}

-- one more loss: the time until which what was lost waits
abbrev pub restore_waits : Restore → ℕ → Progress
restore_waits s now = waiting (retry_time s.max_retry_delay now (s.retry + 1))

abbrev pub changed_ask : ℕ → (ChunkAsked → ChunkAsked) → List ChunkAsked → List ChunkAsked
changed_ask request change [] = []
changed_ask request change (a ∷ asks) = if a.request == request then change a ∷ asks else a ∷ changed_ask request change asks

abbrev pub without_ask : ℕ → List ChunkAsked → List ChunkAsked
without_ask request [] = []
without_ask request (a ∷ asks) = if a.request == request then asks else a ∷ without_ask request asks

-- the request of a number waits for a retry
abbrev pub lost_in : ℕ → Progress → Stage → Stage
lost_in request later (leasing a) = leasing (record a { progress = later })
lost_in request later (opening a) = opening (record a { progress = later })
lost_in request later (fetching f) = fetching (record f { asks = changed_ask request (λ a. record a { progress = later }) f.asks })

abbrev pub restore_lost : Restore → ℕ → ℕ → Restore
restore_lost s now request = record s { retry = s.retry + 1; stage = lost_in request (restore_waits s now) s.stage }

abbrev pub if_sent : Asked → List ℕ
if_sent a = if is_sent a.progress then a.request ∷ [] else []

-- the numbers of the requests that were sent, ascending
abbrev pub sent_requests : Stage → List ℕ
sent_requests (leasing a) = if_sent a
sent_requests (opening a) = if_sent a
sent_requests (fetching f) = map {A = ChunkAsked} {B = ℕ} (λ a. a.request) (filter (λ a. is_sent a.progress) f.asks)

-- a part is asked for again, under the next request number
abbrev pub chunk_again : Restore → Fetch → ChunkAsked → Sending Restore
chunk_again s f a = record {
  next = record s {
    next_request = s.next_request + 1;
    stage = fetching (record f { asks = without_ask a.request f.asks ++ record a { request = s.next_request; progress = on_its_way } ∷ [] });
  };
  sent = chunk_request s f (a.file, a.offset) ∷ [];
}

-- these parts are asked for again, one after the other; each new number is the greatest, so that the requests still ascend
abbrev pub chunks_again : List ChunkAsked → Restore → Sending Restore
chunks_again [] s = quiet s
chunks_again (a ∷ asks) s = elim s.stage as (λ _. Sending Restore) [
  | leasing own ↦ quiet s
  | opening own ↦ quiet s
  | fetching f ↦ followed_by (chunk_again s f a) (chunks_again asks)
]

-- what is due is asked for again, in ascending request number
abbrev pub restore_ticked : ℕ → Restore → Sending Restore
restore_ticked now s = elim s.stage as (λ _. Sending Restore) [
  | leasing a ↦ if is_due now a.progress then asks_lease s else quiet s
  | opening a ↦ if is_due now a.progress then asks_session s else quiet s
  | fetching f ↦ chunks_again (filter (λ a. is_due now a.progress) f.asks) s
]

-- ---- messages

-- the message answers this request, which was sent
abbrev pub answers : Frame → Asked → Bool
answers m a = (m.request == a.request) && is_sent a.progress

abbrev pub ask_sent : Fetch → ℕ → Option ChunkAsked
ask_sent f request = find (λ a. (a.request == request) && is_sent a.progress) f.asks

abbrev pub opened : Restore → ℕ → List ℕ → ℕ → List ℕ → Sending Restore
opened s session history count sizes =
    asks_more (record s { retry = 0 }) (record { session = session; history = history; count = count; sizes = sizes; asked = 0; asks = []; chunks = [] })

abbrev pub chunk_came : Restore → Fetch → ChunkAsked → List ℕ → Sending Restore
chunk_came s f a bytes = asks_more (record s { retry = 0 }) (record f {
  asks = without_ask a.request f.asks;
  chunks = f.chunks ++ record { file = a.file; offset = a.offset; bytes = bytes } ∷ [];
})

-- a session of another history is opened
abbrev pub opens_other : List ℕ → Content → Bool
opens_other own (contents.SessionOpened session history count sizes) = not (bytes_eq history own)
opens_other own _ = false

-- the message answers the request for a session with one of another history, by which the bootstrap ends
abbrev pub ends_restore : Restore → Frame → Bool
ends_restore s m = elim s.stage as (λ _. Bool) [
  | leasing a ↦ false
  | opening a ↦ answers m a && opens_other s.history m.content
  | fetching f ↦ false
]

-- an answer to the request for the lease: the session is asked for where the lease is there
abbrev pub hear_leasing : Restore → ℕ → ℕ → Content → Option (Sending Restore)
hear_leasing s now request (contents.LeaseAdded number) = Some (asks_session (record s { retry = 0 }))
hear_leasing s now request (contents.LeaseAnswer results.Exists number) = Some (asks_session (record s { retry = 0 }))
hear_leasing s now request (contents.NotReady copy) = Some (quiet (restore_lost s now request))
hear_leasing s now request _ = None

abbrev pub hear_opening : Restore → ℕ → ℕ → Content → Option (Sending Restore)
hear_opening s now request (contents.SessionOpened session history count sizes) = Some (opened s session history count sizes)
hear_opening s now request (contents.NotReady copy) = Some (quiet (restore_lost s now request))
hear_opening s now request _ = None

abbrev pub hear_fetching : Restore → Fetch → ChunkAsked → Content → Option (Sending Restore)
hear_fetching s f a (contents.ChunkReply session file offset bytes) = Some (chunk_came s f a bytes)
hear_fetching s f a (contents.SessionGone session) = Some (asks_session (record s { retry = 0 }))
hear_fetching s f a _ = None

abbrev pub hear_asked : Restore → Fetch → Content → Option ChunkAsked → Option (Sending Restore)
hear_asked s f content None = None
hear_asked s f content (Some a) = hear_fetching s f a content

-- what a message that doesn't end the bootstrap comes to in it, and None where it answers no request that was sent
abbrev pub restore_hears : Restore → ℕ → Frame → Option (Sending Restore)
restore_hears s now m = elim s.stage as (λ _. Option (Sending Restore)) [
  | leasing a ↦ if answers m a then hear_leasing s now m.request m.content else None
  | opening a ↦ if answers m a then hear_opening s now m.request m.content else None
  | fetching f ↦ hear_asked s f m.content (ask_sent f m.request)
]
