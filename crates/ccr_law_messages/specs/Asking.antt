-- What a follower has asked for under a request number and still waits for, and how that passes from one place to the next.
use Rattle.std.specs.Prelude.{◌≡◌, ◌⊎◌, ℕ, ◌≤◌, ◌<◌, ◌==◌, false, List, [], ◌∷◌, Option, None}
use Rattle.std.specs.Option.{option_map}
use Rattle.std.specs.List.{AllByRecursion}
use Rattle.ccr_model.specs.Tasks.{Read}
use Rattle.ccr_model.specs.Restores.{ChunkAsked}
use Rattle.ccr_model.specs.Followers.{Work}
use Rattle.ccr_model.specs.FrameFacts.{Reading, reading_in, Fetching, fetching_in, next_request_of}

-- what a read in the sent state asks for
pub record Ask : Type 0 where
  pub history : List ℕ
  pub from : ℕ
  pub number : ℕ
  pub size : ℕ

abbrev pub ask_of : Reading → Ask
ask_of o = record { history = o.task.history; from = o.read.from; number = o.read.asked; size = o.task.params.max_read_request_size }

abbrev pub ask_in : Work → ℕ → Option Ask
ask_in w request = option_map ask_of (reading_in w request)

-- the part of a file that a request in the sent state asks for
pub record Part : Type 0 where
  pub session : ℕ
  pub file : ℕ
  pub offset : ℕ
  pub size : ℕ

abbrev pub part_of : Fetching → Part
part_of o = record { session = o.fetch.session; file = o.ask.file; offset = o.ask.offset; size = o.restore.chunk_size }

abbrev pub part_in : Work → ℕ → Option Part
part_in w request = option_map part_of (fetching_in w request)

-- what was there is there as it was, or is no more
abbrev pub IsNoMore : {X : Type 0} → Option X → Option X → Type 0
IsNoMore old new = (new ≡ old) ⊎ (new ≡ None)

-- a work after another: under a number that was drawn before, it asks for what was asked for, or for nothing any more
pub record Follows (old new : Work) : Type 0 where
  pub next : next_request_of old ≤ next_request_of new
  pub asks : (n : ℕ) → n < next_request_of old → IsNoMore (ask_in old n) (ask_in new n)
  pub parts : (n : ℕ) → n < next_request_of old → IsNoMore (part_in old n) (part_in new n)

-- no two reads have one request number
abbrev pub ReadsApart : List Read → Type 0
ReadsApart [] = Unit {0}
ReadsApart (r ∷ reads) = AllByRecursion (λ (x : Read). (x.request == r.request) ≡ false) reads × ReadsApart reads

-- no two requests for parts have one number
abbrev pub AsksApart : List ChunkAsked → Type 0
AsksApart [] = Unit {0}
AsksApart (a ∷ asks) = AllByRecursion (λ (x : ChunkAsked). (x.request == a.request) ≡ false) asks × AsksApart asks
