-- A bootstrap sends no reply to a read.
use Rattle.std.specs.List.{filter}
use Rattle.std.proofs.Common.{ℕ, ◌-◌, if◌then◌else◌, List, [], ◌∷◌, ◌++◌, length, take, drop, Option, Some, None}
use Rattle.ccr_wire.specs.Message.{Frame}
use Rattle.ccr_wire.specs.declared.kind.LeaseResult.TheVariants as results
use Rattle.ccr_wire.specs.declared.content.Content.{Content}
use Rattle.ccr_wire.specs.declared.content.Content.TheVariants as contents
use Rattle.ccr_model.specs.Requests.{Sending, quiet, followed_by, is_due}
use Rattle.ccr_model.specs.Restores.{Restore, Stage, Fetch, ChunkAsked, leasing, opening, fetching, places_of, most_asks, asks_lease, asks_session, asks_chunk, asks_chunks, asks_more, chunk_again, chunks_again, restore_ticked, answers, ask_sent, without_ask, hear_leasing, hear_opening, hear_fetching, hear_asked, restore_hears}
use Rattle.ccr_law_base.proofs.Cases.{on_if}
use Rattle.ccr_law_settling_grounds.proofs.Count.Within.{AreSilent}

-- what a bootstrap sends
abbrev pub AsksSilently : Sending Restore → Type 0
AsksSilently done = AreSilent done.sent

chunks_silent : (places : List (ℕ × ℕ)) (s : Restore) → AsksSilently (asks_chunks places s)
chunks_silent [] s = tt
chunks_silent (place ∷ places) s =
    elim s.stage as (λ (stage : Stage). AsksSilently (elim stage as (λ _. Sending Restore) [
      | leasing a ↦ quiet s
      | opening a ↦ quiet s
      | fetching f ↦ followed_by (asks_chunk s f place) (asks_chunks places)
    ])) [
      | leasing a ↦ tt
      | opening a ↦ tt
      | fetching f ↦ (tt, chunks_silent places (asks_chunk s f place).next)
    ]

more_silent : (s : Restore) (f : Fetch) → AsksSilently (asks_more s f)
more_silent s f = chunks_silent (take (most_asks - length f.asks) (drop f.asked (places_of s.chunk_size f.sizes))) (record s { stage = fetching f })

chunks_again_silent : (asks : List ChunkAsked) (s : Restore) → AsksSilently (chunks_again asks s)
chunks_again_silent [] s = tt
chunks_again_silent (a ∷ asks) s =
    elim s.stage as (λ (stage : Stage). AsksSilently (elim stage as (λ _. Sending Restore) [
      | leasing own ↦ quiet s
      | opening own ↦ quiet s
      | fetching f ↦ followed_by (chunk_again s f a) (chunks_again asks)
    ])) [
      | leasing own ↦ tt
      | opening own ↦ tt
      | fetching f ↦ (tt, chunks_again_silent asks (chunk_again s f a).next)
    ]

pub restore_ticked_silent : (now : ℕ) (s : Restore) → AsksSilently (restore_ticked now s)
restore_ticked_silent now s =
    elim s.stage as (λ (stage : Stage). AsksSilently (elim stage as (λ _. Sending Restore) [
      | leasing a ↦ if is_due now a.progress then asks_lease s else quiet s
      | opening a ↦ if is_due now a.progress then asks_session s else quiet s
      | fetching f ↦ chunks_again (filter (λ a. is_due now a.progress) f.asks) s
    ])) [
      | leasing a ↦ on_if (AsksSilently) (is_due now a.progress) (asks_lease s) (quiet s) (λ is. (tt, tt)) (λ isnt. tt)
      | opening a ↦ on_if (AsksSilently) (is_due now a.progress) (asks_session s) (quiet s) (λ is. (tt, tt)) (λ isnt. tt)
      | fetching f ↦ chunks_again_silent (filter (λ a. is_due now a.progress) f.asks) s
    ]

-- ---- messages

-- what the bootstrap sends, where it takes the message
abbrev pub HearsSilently : Option (Sending Restore) → Type 0
HearsSilently None = Unit {0}
HearsSilently (Some done) = AsksSilently done

leasing_silent : (s : Restore) (now request : ℕ) (content : Content) → HearsSilently (hear_leasing s now request content)
leasing_silent s now request (contents.LeaseAdded number) = (tt, tt)
leasing_silent s now request (contents.LeaseAnswer results.Exists number) = (tt, tt)
leasing_silent s now request (contents.NotReady copy) = tt
leasing_silent s now request _ = tt

opening_silent : (s : Restore) (now request : ℕ) (content : Content) → HearsSilently (hear_opening s now request content)
opening_silent s now request (contents.SessionOpened session history count sizes) =
    more_silent (record s { retry = 0 }) (record { session = session; history = history; count = count; sizes = sizes; asked = 0; asks = []; chunks = [] })
opening_silent s now request (contents.NotReady copy) = tt
opening_silent s now request _ = tt

fetching_silent : (s : Restore) (f : Fetch) (a : ChunkAsked) (content : Content) → HearsSilently (hear_fetching s f a content)
fetching_silent s f a (contents.ChunkReply session file offset bytes) = more_silent (record s { retry = 0 }) (record f {
  asks = without_ask a.request f.asks;
  chunks = f.chunks ++ record { file = a.file; offset = a.offset; bytes = bytes } ∷ [];
})
fetching_silent s f a (contents.SessionGone session) = (tt, tt)
fetching_silent s f a _ = tt

asked_silent : (s : Restore) (f : Fetch) (content : Content) (found : Option ChunkAsked) → HearsSilently (hear_asked s f content found)
asked_silent s f content None = tt
asked_silent s f content (Some a) = fetching_silent s f a content

pub restore_hears_silent : (s : Restore) (now : ℕ) (m : Frame) → HearsSilently (restore_hears s now m)
restore_hears_silent s now m =
    elim s.stage as (λ (stage : Stage). HearsSilently (elim stage as (λ _. Option (Sending Restore)) [
      | leasing a ↦ if answers m a then hear_leasing s now m.request m.content else None
      | opening a ↦ if answers m a then hear_opening s now m.request m.content else None
      | fetching f ↦ hear_asked s f m.content (ask_sent f m.request)
    ])) [
      | leasing a ↦ on_if (HearsSilently) (answers m a) (hear_leasing s now m.request m.content) None (λ is. leasing_silent s now m.request m.content) (λ isnt. tt)
      | opening a ↦ on_if (HearsSilently) (answers m a) (hear_opening s now m.request m.content) None (λ is. opening_silent s now m.request m.content) (λ isnt. tt)
      | fetching f ↦ asked_silent s f m.content (ask_sent f m.request)
    ]
