-- What a bootstrap sends is about what it then waits for; and a number that was drawn stands for nothing that it didn't stand for.
use Rattle.std.specs.Prelude.{filter, is_some, ◌==◌, ◌&&◌}
use Rattle.std.specs.List.{AllByRecursion}
use Rattle.std.proofs.Common.{◌≡◌, ℕ, ◌+◌, ◌-◌, ◌<◌, Bool, true, false, if◌then◌else◌, Option, Some, None, List, [], ◌∷◌, ◌++◌, length, take, drop, refl, ap, arith, inr}
use Rattle.std.proofs.lemmas.Bool.Decides.{nat_tests}
use Rattle.ccr_wire.specs.Message.{Frame}
use Rattle.ccr_wire.specs.declared.kind.LeaseResult.TheVariants as results
use Rattle.ccr_wire.specs.declared.content.Content.{Content}
use Rattle.ccr_wire.specs.declared.content.Content.TheVariants as contents
use Rattle.ccr_model.specs.Requests.{Progress, on_its_way, is_sent, is_due, Sending, quiet}
use Rattle.ccr_model.specs.Restores.{Restore, Stage, leasing, opening, fetching, Fetch, ChunkAsked, places_of, asks_lease, asks_session, asks_chunk, asks_chunks, most_asks, asks_more, restore_waits, changed_ask, without_ask, restore_lost, chunk_again, chunks_again, restore_ticked, answers, ask_sent, opened, chunk_came, hear_leasing, hear_opening, hear_fetching, hear_asked, restore_hears}
use Rattle.ccr_model.specs.Followers.{restoring}
use Rattle.ccr_law_messages.specs.Asking.{IsNoMore}
use Rattle.ccr_law_messages.proofs.Finds.{find-none}
use Rattle.ccr_law_messages.proofs.AskLists.{asks_under, put_off}
use Rattle.ccr_law_settling_grounds.specs.Purposes.{Purpose, for_lease, for_session, for_part, awaited_in, IsSaidFor, Agree}
use Rattle.ccr_law_settling_grounds.proofs.Purpose.Fitting.{Moves, none_stays_none, moves_then, moves_not}
use Rattle.ccr_law_base.proofs.Lists.{All-push, find_none, All-without_ask}
use Rattle.ccr_law_base.proofs.Cases.{on_if}
use Rattle.ccr_law_base.proofs.Tests.{and_false}

-- no part was asked for under this number
abbrev Unasked : ℕ → List ChunkAsked → Type 0
Unasked n asks = AllByRecursion (λ (a : ChunkAsked). asks_under n a ≡ false) asks

asks_wait : (f next : Fetch) (n : ℕ) → (Unasked n f.asks → Unasked n next.asks) → IsNoMore (awaited_in (fetching f) n) (awaited_in (fetching next) n)
asks_wait f next n stays =
    none_stays_none for_part (ask_sent f n) (ask_sent next n)
    (λ none. find-none (asks_under n) next.asks (stays (find_none (asks_under n) f.asks none)))

-- a bootstrap that fetches waits for parts alone
parts_agree : (f : Fetch) (n : ℕ) → Agree (awaited_in (fetching f) n) (Some for_part)
parts_agree f n = on_if (λ (o : Option Purpose). Agree o (Some for_part)) (is_some (ask_sent f n)) (Some for_part) None (λ is. refl) (λ isnt. tt)

-- what waits for a purpose alone agrees with it
alone_agrees : (purpose : Purpose) (b : Bool) → IsSaidFor purpose purpose → Agree (if b then Some purpose else None) (Some purpose)
alone_agrees purpose b same = on_if (λ (o : Option Purpose). Agree o (Some purpose)) b (Some purpose) None (λ is. same) (λ isnt. tt)

-- under an earlier number than the one that was asked nothing is awaited
earlier_none : (purpose : Purpose) (n request : ℕ) → n < request → (if (n == request) && true then Some purpose else None) ≡ None
earlier_none purpose n request low =
    let other : (n == request) ≡ false = grind (arith, nat_tests) in
    ap (λ (b : Bool). if b && true then Some purpose else None) other

-- what waits for a retry isn't awaited
waiting_none : (purpose : Purpose) (b : Bool) → (if b && false then Some purpose else None) ≡ None
waiting_none purpose b = ap (λ (c : Bool). if c then Some purpose else None) (and_false b)

abbrev RestoreMoves : List ℕ → Restore → Sending Restore → Type 0
RestoreMoves uuid r done = Moves uuid (restoring r) (restoring done.next) done.sent

abbrev at_fetch : Restore → Fetch → Restore
at_fetch r f = record r { stage = fetching f }

-- ---- one request

pub lease_moves : (uuid : List ℕ) (r : Restore) (retry : ℕ) → r.follower ≡ uuid → RestoreMoves uuid r (asks_lease (record r { retry = retry }))
lease_moves uuid r retry named = record {
  next = omega arith;
  waits = λ n low. inr (earlier_none for_lease n r.next_request low);
  named = named;
  messages = (record { named = named; fits = record { drawn = omega arith; agrees = alone_agrees for_lease _ refl } }, tt);
}

session_moves : (uuid : List ℕ) (r : Restore) (retry : ℕ) → r.follower ≡ uuid → RestoreMoves uuid r (asks_session (record r { retry = retry }))
session_moves uuid r retry named = record {
  next = omega arith;
  waits = λ n low. inr (earlier_none for_session n r.next_request low);
  named = named;
  messages = (record { named = named; fits = record { drawn = omega arith; agrees = alone_agrees for_session _ refl } }, tt);
}

-- a part that is asked for last, under the next number
last_none : (asks : List ChunkAsked) (a : ChunkAsked) (n next : ℕ) → a.request ≡ next → n < next → Unasked n asks → Unasked n (asks ++ a ∷ [])
last_none asks a n next new low none =
    let other : (a.request == n) ≡ false = grind (arith, nat_tests) in
    All-push (λ (x : ChunkAsked). asks_under n x ≡ false) asks a none (ap (λ (b : Bool). b && is_sent a.progress) other)

chunk_moves : (uuid : List ℕ) (r : Restore) (f : Fetch) (place : ℕ × ℕ) → r.follower ≡ uuid → RestoreMoves uuid (at_fetch r f) (asks_chunk (at_fetch r f) f place)
chunk_moves uuid r f place named =
    let a : ChunkAsked = record { request = r.next_request; file = place.0; offset = place.1; progress = on_its_way } in
    let next : Fetch = record f { asked = f.asked + 1; asks = f.asks ++ a ∷ [] } in
    record {
      next = omega arith;
      waits = λ n low. asks_wait f next n (λ none. last_none f.asks a n r.next_request refl low none);
      named = named;
      messages = (record { named = named; fits = record { drawn = omega arith; agrees = parts_agree next r.next_request } }, tt);
    }

chunks_move : (uuid : List ℕ) (places : List (ℕ × ℕ)) (r : Restore) (f : Fetch) → r.follower ≡ uuid → RestoreMoves uuid (at_fetch r f) (asks_chunks places (at_fetch r f))
chunks_move uuid [] r f named = moves_not uuid (restoring (at_fetch r f)) named
chunks_move uuid (place ∷ places) r f named =
    let a : ChunkAsked = record { request = r.next_request; file = place.0; offset = place.1; progress = on_its_way } in
    let next : Fetch = record f { asked = f.asked + 1; asks = f.asks ++ a ∷ [] } in
    let later : Restore = record r { next_request = r.next_request + 1 } in
    moves_then uuid (restoring (at_fetch r f)) (restoring (at_fetch later next)) (restoring (asks_chunks places (at_fetch later next)).next) (asks_chunk (at_fetch r f) f place).sent (asks_chunks places (at_fetch later next)).sent
    (chunk_moves uuid r f place named) (chunks_move uuid places later next named)

-- the parts that come next
more_move : (uuid : List ℕ) (r : Restore) (f : Fetch) → r.follower ≡ uuid → RestoreMoves uuid (at_fetch r f) (asks_more r f)
more_move uuid r f named = chunks_move uuid (take (most_asks - length f.asks) (drop f.asked (places_of r.chunk_size f.sizes))) r f named

-- ---- losses and retries

later_none : (later : Progress) (q : ℕ) → ((n : ℕ) (a : ChunkAsked) → asks_under n (put_off later a) ≡ false) → (asks : List ChunkAsked) (n : ℕ) → Unasked n asks → Unasked n (changed_ask q (put_off later) asks)
later_none later q off [] n none = tt
later_none later q off (a ∷ asks) n none =
    on_if (Unasked n) (a.request == q) (put_off later a ∷ asks) (a ∷ changed_ask q (put_off later) asks)
    (λ is. (off n a, none.1)) (λ isnt. (none.0, later_none later q off asks n none.1))

-- a bootstrap by its stage
lost_at : (uuid : List ℕ) (r : Restore) (now request : ℕ) (stage : Stage) → r.follower ≡ uuid
    → Moves uuid (restoring (record r { stage = stage })) (restoring (restore_lost (record r { stage = stage }) now request)) []
lost_at uuid r now request (leasing a) named = record { next = omega arith; waits = λ n low. inr (waiting_none for_lease (n == a.request)); named = named; messages = tt }
lost_at uuid r now request (opening a) named = record { next = omega arith; waits = λ n low. inr (waiting_none for_session (n == a.request)); named = named; messages = tt }
lost_at uuid r now request (fetching f) named =
    let later : Progress = restore_waits r now in
    let next : Fetch = record f { asks = changed_ask request (put_off later) f.asks } in
    record {
      next = omega arith;
      waits = λ n low. asks_wait f next n (λ none. later_none later request (λ k a. and_false (a.request == k)) f.asks n none);
      named = named;
      messages = tt;
    }

pub restore_lost_moves : (uuid : List ℕ) (r : Restore) (now request : ℕ) → r.follower ≡ uuid → Moves uuid (restoring r) (restoring (restore_lost r now request)) []
restore_lost_moves uuid r now request named = lost_at uuid r now request r.stage named

-- a part is asked for again
again_moves : (uuid : List ℕ) (r : Restore) (f : Fetch) (a : ChunkAsked) → r.follower ≡ uuid → RestoreMoves uuid (at_fetch r f) (chunk_again (at_fetch r f) f a)
again_moves uuid r f a named =
    let new : ChunkAsked = record a { request = r.next_request; progress = on_its_way } in
    let next : Fetch = record f { asks = without_ask a.request f.asks ++ new ∷ [] } in
    record {
      next = omega arith;
      waits = λ n low. asks_wait f next n
          (λ none. last_none (without_ask a.request f.asks) new n r.next_request refl low (All-without_ask (λ (x : ChunkAsked). asks_under n x ≡ false) a.request f.asks none));
      named = named;
      messages = (record { named = named; fits = record { drawn = omega arith; agrees = parts_agree next r.next_request } }, tt);
    }

all_again_move : (uuid : List ℕ) (asks : List ChunkAsked) (r : Restore) (f : Fetch) → r.follower ≡ uuid → RestoreMoves uuid (at_fetch r f) (chunks_again asks (at_fetch r f))
all_again_move uuid [] r f named = moves_not uuid (restoring (at_fetch r f)) named
all_again_move uuid (a ∷ asks) r f named =
    let new : ChunkAsked = record a { request = r.next_request; progress = on_its_way } in
    let next : Fetch = record f { asks = without_ask a.request f.asks ++ new ∷ [] } in
    let later : Restore = record r { next_request = r.next_request + 1 } in
    moves_then uuid (restoring (at_fetch r f)) (restoring (at_fetch later next)) (restoring (chunks_again asks (at_fetch later next)).next) (chunk_again (at_fetch r f) f a).sent (chunks_again asks (at_fetch later next)).sent
    (again_moves uuid r f a named) (all_again_move uuid asks later next named)

ticked_at : (uuid : List ℕ) (r : Restore) (now : ℕ) (stage : Stage) → r.follower ≡ uuid → RestoreMoves uuid (record r { stage = stage }) (restore_ticked now (record r { stage = stage }))
ticked_at uuid r now (leasing a) named =
    on_if (RestoreMoves uuid (record r { stage = leasing a })) (is_due now a.progress) (asks_lease (record r { stage = leasing a })) (quiet (record r { stage = leasing a }))
    (λ due. lease_moves uuid (record r { stage = leasing a }) r.retry named) (λ not_yet. moves_not uuid (restoring (record r { stage = leasing a })) named)
ticked_at uuid r now (opening a) named =
    on_if (RestoreMoves uuid (record r { stage = opening a })) (is_due now a.progress) (asks_session (record r { stage = opening a })) (quiet (record r { stage = opening a }))
    (λ due. session_moves uuid (record r { stage = opening a }) r.retry named) (λ not_yet. moves_not uuid (restoring (record r { stage = opening a })) named)
ticked_at uuid r now (fetching f) named = all_again_move uuid (filter (λ a. is_due now a.progress) f.asks) r f named

pub restore_ticked_moves : (uuid : List ℕ) (r : Restore) (now : ℕ) → r.follower ≡ uuid → RestoreMoves uuid r (restore_ticked now r)
restore_ticked_moves uuid r now named = ticked_at uuid r now r.stage named

-- ---- messages

-- what the bootstrap does, where it takes the message
abbrev pub MovesHeard : List ℕ → Restore → Option (Sending Restore) → Type 0
MovesHeard uuid r None = Unit {0}
MovesHeard uuid r (Some done) = RestoreMoves uuid r done

leasing_hears : (uuid : List ℕ) (r : Restore) (now request : ℕ) (content : Content) → r.follower ≡ uuid → MovesHeard uuid r (hear_leasing r now request content)
leasing_hears uuid r now request (contents.LeaseAdded number) named = session_moves uuid r 0 named
leasing_hears uuid r now request (contents.LeaseAnswer results.Exists number) named = session_moves uuid r 0 named
leasing_hears uuid r now request (contents.NotReady copy) named = restore_lost_moves uuid r now request named
leasing_hears uuid r now request _ named = tt

opened_moves : (uuid : List ℕ) (r : Restore) (session : ℕ) (history : List ℕ) (count : ℕ) (sizes : List ℕ) → r.follower ≡ uuid → RestoreMoves uuid r (opened r session history count sizes)
opened_moves uuid r session history count sizes named =
    let f : Fetch = record { session = session; history = history; count = count; sizes = sizes; asked = 0; asks = []; chunks = [] } in
    let begun : Restore = record r { retry = 0 } in
    moves_then uuid (restoring r) (restoring (at_fetch begun f)) (restoring (asks_more begun f).next) [] (asks_more begun f).sent
    (record { next = omega arith; waits = λ n low. inr refl; named = named; messages = tt }) (more_move uuid begun f named)

opening_hears : (uuid : List ℕ) (r : Restore) (now request : ℕ) (content : Content) → r.follower ≡ uuid → MovesHeard uuid r (hear_opening r now request content)
opening_hears uuid r now request (contents.SessionOpened session history count sizes) named = opened_moves uuid r session history count sizes named
opening_hears uuid r now request (contents.NotReady copy) named = restore_lost_moves uuid r now request named
opening_hears uuid r now request _ named = tt

came_moves : (uuid : List ℕ) (r : Restore) (f : Fetch) (a : ChunkAsked) (bytes : List ℕ) → r.follower ≡ uuid → RestoreMoves uuid (at_fetch r f) (chunk_came (at_fetch r f) f a bytes)
came_moves uuid r f a bytes named =
    let next : Fetch = record f { asks = without_ask a.request f.asks; chunks = f.chunks ++ record { file = a.file; offset = a.offset; bytes = bytes } ∷ [] } in
    let begun : Restore = record r { retry = 0 } in
    moves_then uuid (restoring (at_fetch r f)) (restoring (at_fetch begun next)) (restoring (asks_more begun next).next) [] (asks_more begun next).sent
    (record {
      next = omega arith;
      waits = λ n low. asks_wait f next n (λ none. All-without_ask (λ (x : ChunkAsked). asks_under n x ≡ false) a.request f.asks none);
      named = named;
      messages = tt;
    }) (more_move uuid begun next named)

fetching_hears : (uuid : List ℕ) (r : Restore) (f : Fetch) (a : ChunkAsked) (content : Content) → r.follower ≡ uuid → MovesHeard uuid (at_fetch r f) (hear_fetching (at_fetch r f) f a content)
fetching_hears uuid r f a (contents.ChunkReply session file offset bytes) named = came_moves uuid r f a bytes named
fetching_hears uuid r f a (contents.SessionGone session) named = session_moves uuid (at_fetch r f) 0 named
fetching_hears uuid r f a _ named = tt

asked_hears : (uuid : List ℕ) (r : Restore) (f : Fetch) (content : Content) (found : Option ChunkAsked) → r.follower ≡ uuid → MovesHeard uuid (at_fetch r f) (hear_asked (at_fetch r f) f content found)
asked_hears uuid r f content None named = tt
asked_hears uuid r f content (Some a) named = fetching_hears uuid r f a content named

heard_at : (uuid : List ℕ) (r : Restore) (now : ℕ) (m : Frame) (stage : Stage) → r.follower ≡ uuid → MovesHeard uuid (record r { stage = stage }) (restore_hears (record r { stage = stage }) now m)
heard_at uuid r now m (leasing a) named =
    on_if (MovesHeard uuid (record r { stage = leasing a })) (answers m a) (hear_leasing (record r { stage = leasing a }) now m.request m.content) None
    (λ is. leasing_hears uuid (record r { stage = leasing a }) now m.request m.content named) (λ isnt. tt)
heard_at uuid r now m (opening a) named =
    on_if (MovesHeard uuid (record r { stage = opening a })) (answers m a) (hear_opening (record r { stage = opening a }) now m.request m.content) None
    (λ is. opening_hears uuid (record r { stage = opening a }) now m.request m.content named) (λ isnt. tt)
heard_at uuid r now m (fetching f) named = asked_hears uuid r f m.content (ask_sent f m.request) named

pub restore_hears_moves : (uuid : List ℕ) (r : Restore) (now : ℕ) (m : Frame) → r.follower ≡ uuid → MovesHeard uuid r (restore_hears r now m)
restore_hears_moves uuid r now m named = heard_at uuid r now m r.stage named
