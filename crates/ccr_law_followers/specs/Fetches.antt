-- What holds of the followers' bootstraps, so that the files that they end with are those of the session.
use Rattle.std.specs.Prelude.{◌≡◌, ℕ, ◌≤◌, ◌<◌, ◌==◌, ◌&&◌, ◌||◌, Bool, true, false, List, [], ◌∷◌, take, slice_get, Some}
use Rattle.std.specs.List.{AllByRecursion, list_any}
use Rattle.ccr_model.specs.Restores.{Restore, Stage, leasing, opening, fetching, Fetch, ChunkAsked, Chunk, places_of, bytes_at}
use Rattle.ccr_model.specs.Leaders.{Session, session_of}
use Rattle.ccr_model.specs.LeaderFrames.{sizes_of, chunk_of}
use Rattle.ccr_model.specs.Followers.{Follower, Work, restoring, replicating}
use Rattle.ccr_model.specs.Past.{Past, line_of}
use Rattle.ccr_model.specs.FrameFacts.{ops_of_session}
use Rattle.ccr_journal.specs.Params.{AreInRange}
use Rattle.ccr_journal.specs.declared.events.Event.{Event}
use Rattle.ccr_journal.specs.declared.events.Event.TheVariants as events
use Rattle.ccr_law_stores.specs.TrueStores.{IsTrueHistory}

-- all parts of the session's files are there, as they stand in the files
pub record IsWholeFetch (session : Session) (chunk_size : ℕ) (f : Fetch) : Type 0 where
  pub some : 1 ≤ chunk_size
  pub same_sizes : f.sizes ≡ sizes_of session
  pub all : AllByRecursion (λ (place : ℕ × ℕ). bytes_at f.chunks place ≡ chunk_of session place.0 place.1 chunk_size) (places_of chunk_size f.sizes)

-- the request is for this part
abbrev pub asks_for : ℕ × ℕ → ChunkAsked → Bool
asks_for place a = (a.file == place.0) && (a.offset == place.1)

-- the part has come
abbrev pub is_part : ℕ × ℕ → Chunk → Bool
is_part place c = (c.file == place.0) && (c.offset == place.1)

-- the part is asked for, or has come
abbrev pub is_covered : List ChunkAsked → List Chunk → ℕ × ℕ → Bool
is_covered asks chunks place = list_any (asks_for place) asks || list_any (is_part place) chunks

-- no two requests have one number
abbrev pub AskedApart : List ChunkAsked → Type 0
AskedApart [] = Unit {0}
AskedApart (a ∷ asks) = AllByRecursion (λ (x : ChunkAsked). (x.request == a.request) ≡ false) asks × AskedApart asks

-- the fetch is of a session as it was opened. Each part that has come is whole, each that was asked for has come or is still asked for, and
-- the requests have numbers of their own, below the next.
pub record FetchOk (opened : List Session) (chunk_size next : ℕ) (f : Fetch) : Type 0 where
  pub session : Session
  pub is_opened : session_of opened f.session ≡ Some session
  pub same_count : f.count ≡ session.count
  pub same_sizes : f.sizes ≡ sizes_of session
  pub whole : AllByRecursion (λ (c : Chunk). c.bytes ≡ chunk_of session c.file c.offset chunk_size) f.chunks
  pub covered : AllByRecursion (λ (place : ℕ × ℕ). is_covered f.asks f.chunks place ≡ true) (take f.asked (places_of chunk_size f.sizes))
  pub apart : AskedApart f.asks
  pub drawn : AllByRecursion (λ (a : ChunkAsked). a.request < next) f.asks

abbrev pub StageOk : List Session → ℕ → ℕ → Stage → Type 0
StageOk opened chunk_size next (leasing a) = Unit {0}
StageOk opened chunk_size next (opening a) = Unit {0}
StageOk opened chunk_size next (fetching f) = FetchOk opened chunk_size next f

pub record RestoreOk (opened : List Session) (r : Restore) : Type 0 where
  pub some : 1 ≤ r.chunk_size
  pub stage : StageOk opened r.chunk_size r.next_request r.stage

abbrev pub WorkOk : List Session → Work → Type 0
WorkOk opened (restoring r) = RestoreOk opened r
WorkOk opened (replicating t) = Unit {0}

-- what holds of the followers' bootstraps at a place
abbrev pub HasTrueFetches : Past → Type 0
HasTrueFetches p = (f : ℕ) (s : Follower) → slice_get p.state.followers f ≡ Some s → WorkOk p.opened s.work

-- the files of each session serve for the operations of its history below its count
abbrev pub SessionsHold : Past → Type 0
SessionsHold p = (number : ℕ) (session : Session) → session_of p.opened number ≡ Some session → IsTrueHistory (line_of p (p.opened_in number)) session.count (ops_of_session session)

-- a new follower's parameters are in their ranges
abbrev pub HasGoodRanges : Event → Type 0
HasGoodRanges (events.Follow params copies name) = AreInRange params
HasGoodRanges _ = Unit {0}
