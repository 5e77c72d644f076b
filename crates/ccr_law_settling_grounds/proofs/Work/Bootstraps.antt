-- A bootstrap that waits for something still does after a loss and after a retry; after a message it does, or its fetch is complete.
use Rattle.std.specs.List.{AllByRecursion}
use Rattle.std.specs.Prelude.{filter, IfSome}
use Rattle.std.proofs.Common.{◌≡◌, ℕ, ◌+◌, ◌-◌, ◌≤◌, min, ◌==◌, ◌&&◌, false, Option, Some, None, List, [], ◌∷◌, ◌++◌, length, take, drop, refl, ap, length-append, length-drop, arith}
use Rattle.std.proofs.lemmas.List.{length-take}
use Rattle.std.proofs.lemmas.Bool.Decides.{nat_tests}
use Rattle.ccr_wire.specs.Message.{Frame}
use Rattle.ccr_wire.specs.declared.content.Content.{Content}
use Rattle.ccr_wire.specs.declared.content.Content.TheVariants as contents
use Rattle.ccr_wire.specs.declared.kind.LeaseResult.TheVariants as results
use Rattle.ccr_model.specs.Operations.{is_empty}
use Rattle.ccr_model.specs.Requests.{Progress, on_its_way, is_due, Sending, quiet}
use Rattle.ccr_model.specs.Restores.{Restore, Stage, leasing, opening, fetching, Fetch, Asked, ChunkAsked, Chunk, places_of, is_complete, most_asks, asks_chunks, asks_more, asks_lease, asks_session, restore_lost, restore_waits, changed_ask, without_ask, chunks_again, restore_ticked, ask_sent, answers, hear_leasing, hear_opening, hear_fetching, hear_asked, restore_hears}
use Rattle.ccr_law_base.proofs.Cases.{on_if}
use Rattle.ccr_law_base.proofs.Lists.{All-push}
use Rattle.ccr_law_settling_grounds.specs.Pending.{is_held_back, IsFetchPending, IsStagePending}

abbrev pub IsRestorePending : Restore → Type 0
IsRestorePending r = IsStagePending r.chunk_size r.stage

-- no request for a part is held back
abbrev pub NoneHeldBack : List ChunkAsked → Type 0
NoneHeldBack asks = AllByRecursion (λ (a : ChunkAsked). is_held_back a.progress ≡ false) asks

-- ---- a fetch after a message

-- a fetch that waits for no part has asked for all
pub record IsFetchOpen (chunk_size : ℕ) (f : Fetch) : Type 0 where
  pub parts : f.asked ≤ length (places_of chunk_size f.sizes)
  pub asks : NoneHeldBack f.asks
  pub all : f.asks ≡ [] → length (places_of chunk_size f.sizes) ≤ f.asked

abbrev pub IsStageOpen : ℕ → Stage → Type 0
IsStageOpen chunk_size (leasing a) = is_held_back a.progress ≡ false
IsStageOpen chunk_size (opening a) = is_held_back a.progress ≡ false
IsStageOpen chunk_size (fetching f) = IsFetchOpen chunk_size f

abbrev pub IsRestoreOpen : Restore → Type 0
IsRestoreOpen r = IsStageOpen r.chunk_size r.stage

some_left : (asks : List ChunkAsked) (asked most : ℕ) → asked ≤ most → (asks ≡ [] → most ≤ asked) → (is_empty asks && (asked == most)) ≡ false → 1 ≤ length asks
some_left [] asked most low all isnt = let up : most ≤ asked = all refl in absurd (grind (arith, nat_tests))
some_left (a ∷ asks) asked most low all isnt = omega arith

-- it waits for a part, where it isn't complete
pub incomplete_pending : (chunk_size : ℕ) (f : Fetch) → IsFetchOpen chunk_size f → is_complete chunk_size f ≡ false → IsFetchPending chunk_size f
incomplete_pending chunk_size f holds isnt = record {
  some = some_left f.asks f.asked (length (places_of chunk_size f.sizes)) holds.parts holds.all isnt;
  parts = holds.parts;
  asks = holds.asks;
}

pushed_some : (asks : List ChunkAsked) (a : ChunkAsked) → 1 ≤ length (asks ++ a ∷ [])
pushed_some asks a = let more : length (asks ++ a ∷ []) ≡ length asks + length (a ∷ []) = length-append asks (a ∷ []) in omega arith

pushed_not_empty : (asks : List ChunkAsked) (a : ChunkAsked) (P : Type 0) → asks ++ a ∷ [] ≡ [] → P
pushed_not_empty [] a P none = cc
pushed_not_empty (x ∷ asks) a P none = cc

-- these parts are asked for, of which there are so many still
chunks_open : (places : List (ℕ × ℕ)) (r : Restore) (f : Fetch) → f.asked + length places ≤ length (places_of r.chunk_size f.sizes) → NoneHeldBack f.asks
    → (f.asks ≡ [] → places ≡ [] → length (places_of r.chunk_size f.sizes) ≤ f.asked)
    → IsRestoreOpen (asks_chunks places (record r { stage = fetching f })).next
chunks_open [] r f low sent all = record { parts = omega arith; asks = sent; all = λ none. all none refl }
chunks_open (place ∷ places) r f low sent all =
    let new : ChunkAsked = record { request = r.next_request; file = place.0; offset = place.1; progress = on_its_way } in
    chunks_open places (record r { next_request = r.next_request + 1 }) (record f { asked = f.asked + 1; asks = f.asks ++ new ∷ [] })
    (omega arith) (All-push (λ (a : ChunkAsked). is_held_back a.progress ≡ false) f.asks new sent refl)
    (λ none. pushed_not_empty f.asks new _ none)

length_taken : (most asked : ℕ) (places : List (ℕ × ℕ)) → length (take most (drop asked places)) ≡ min most (length places - asked)
length_taken most asked places =
    let front : length (take most (drop asked places)) ≡ min most (length (drop asked places)) = length-take most (drop asked places) in
    let back : length (drop asked places) ≡ length places - asked = length-drop asked places in
    omega arith

pub more_open : (r : Restore) (f : Fetch) → f.asked ≤ length (places_of r.chunk_size f.sizes) → NoneHeldBack f.asks → IsRestoreOpen (asks_more r f).next
more_open r f low sent =
    let places : List (ℕ × ℕ) = places_of r.chunk_size f.sizes in
    let more : List (ℕ × ℕ) = take (most_asks - length f.asks) (drop f.asked places) in
    let long : length more ≡ min (most_asks - length f.asks) (length places - f.asked) = length_taken (most_asks - length f.asks) f.asked places in
    chunks_open more r f (omega arith) sent
    (λ none none_more.
    let no_asks : length f.asks ≡ 0 = ap length none in
    let no_more : length more ≡ 0 = ap length none_more in
    omega arith)

-- ---- losses and retries

all_changed : (request : ℕ) (later : Progress) → is_held_back later ≡ false → (asks : List ChunkAsked) → NoneHeldBack asks
    → NoneHeldBack (changed_ask request (λ a. record a { progress = later }) asks)
all_changed request later isnt [] sent = tt
all_changed request later isnt (a ∷ asks) sent =
    on_if NoneHeldBack (a.request == request) (record a { progress = later } ∷ asks) (a ∷ changed_ask request (λ a. record a { progress = later }) asks)
    (λ is. (isnt, sent.1)) (λ other. (sent.0, all_changed request later isnt asks sent.1))

changed_some : (request : ℕ) (change : ChunkAsked → ChunkAsked) (asks : List ChunkAsked) → 1 ≤ length asks → 1 ≤ length (changed_ask request change asks)
changed_some request change [] some = absurd (omega arith)
changed_some request change (a ∷ asks) some =
    on_if (λ (xs : List ChunkAsked). 1 ≤ length xs) (a.request == request) (change a ∷ asks) (a ∷ changed_ask request change asks) (λ is. omega arith) (λ isnt. omega arith)

pub lost_pending : (r : Restore) (now request : ℕ) (stage : Stage) → IsStagePending r.chunk_size stage → IsRestorePending (restore_lost (record r { stage = stage }) now request)
lost_pending r now request (leasing a) holds = refl
lost_pending r now request (opening a) holds = refl
lost_pending r now request (fetching f) holds = record {
  some = changed_some request (λ a. record a { progress = restore_waits r now }) f.asks holds.some;
  parts = holds.parts;
  asks = all_changed request (restore_waits r now) refl f.asks holds.asks;
}

all_without : (request : ℕ) (asks : List ChunkAsked) → NoneHeldBack asks → NoneHeldBack (without_ask request asks)
all_without request [] sent = tt
all_without request (a ∷ asks) sent =
    on_if NoneHeldBack (a.request == request) asks (a ∷ without_ask request asks) (λ is. sent.1) (λ other. (sent.0, all_without request asks sent.1))

-- these requests are sent again
again_pending : (asks : List ChunkAsked) (r : Restore) (f : Fetch) → IsFetchPending r.chunk_size f → IsRestorePending (chunks_again asks (record r { stage = fetching f })).next
again_pending [] r f holds = holds
again_pending (a ∷ asks) r f holds =
    let new : ChunkAsked = record a { request = r.next_request; progress = on_its_way } in
    again_pending asks (record r { next_request = r.next_request + 1 }) (record f { asks = without_ask a.request f.asks ++ new ∷ [] })
    (record {
      some = pushed_some (without_ask a.request f.asks) new;
      parts = holds.parts;
      asks = All-push (λ (a : ChunkAsked). is_held_back a.progress ≡ false) (without_ask a.request f.asks) new (all_without a.request f.asks holds.asks) refl;
    })

pub ticked_pending : (now : ℕ) (r : Restore) (stage : Stage) → IsStagePending r.chunk_size stage → IsRestorePending (restore_ticked now (record r { stage = stage })).next
ticked_pending now r (leasing a) holds =
    on_if (λ (done : Sending Restore). IsRestorePending done.next) (is_due now a.progress) (asks_lease (record r { stage = leasing a })) (quiet (record r { stage = leasing a })) (λ is. refl) (λ isnt. holds)
ticked_pending now r (opening a) holds =
    on_if (λ (done : Sending Restore). IsRestorePending done.next) (is_due now a.progress) (asks_session (record r { stage = opening a })) (quiet (record r { stage = opening a })) (λ is. refl) (λ isnt. holds)
ticked_pending now r (fetching f) holds = again_pending (filter (λ a. is_due now a.progress) f.asks) r f holds

-- ---- messages

abbrev pub AreHeardOpen : Option (Sending Restore) → Type 0
AreHeardOpen heard = IfSome heard (λ (done : Sending Restore). IsRestoreOpen done.next)

leasing_open : (r : Restore) (now request : ℕ) (a : Asked) (content : Content) → AreHeardOpen (hear_leasing (record r { stage = leasing a }) now request content)
leasing_open r now request a (contents.LeaseAdded number) = refl
leasing_open r now request a (contents.LeaseAnswer results.Exists number) = refl
leasing_open r now request a (contents.NotReady copy) = refl
leasing_open r now request a _ = tt

opening_open : (r : Restore) (now request : ℕ) (a : Asked) (content : Content) → AreHeardOpen (hear_opening (record r { stage = opening a }) now request content)
opening_open r now request a (contents.SessionOpened session history count sizes) =
    more_open (record r { retry = 0 }) (record { session = session; history = history; count = count; sizes = sizes; asked = 0; asks = []; chunks = [] }) (omega arith) tt
opening_open r now request a (contents.NotReady copy) = refl
opening_open r now request a _ = tt

fetching_open : (r : Restore) (f : Fetch) (a : ChunkAsked) (content : Content) → IsFetchPending r.chunk_size f → AreHeardOpen (hear_fetching r f a content)
fetching_open r f a (contents.ChunkReply session file offset bytes) holds =
    let come : Chunk = record { file = a.file; offset = a.offset; bytes = bytes } in
    more_open (record r { retry = 0 }) (record f { asks = without_ask a.request f.asks; chunks = f.chunks ++ come ∷ [] }) holds.parts (all_without a.request f.asks holds.asks)
fetching_open r f a (contents.SessionGone session) holds = refl
fetching_open r f a _ holds = tt

asked_open : (r : Restore) (f : Fetch) (content : Content) (found : Option ChunkAsked) → IsFetchPending r.chunk_size f → AreHeardOpen (hear_asked r f content found)
asked_open r f content None holds = tt
asked_open r f content (Some a) holds = fetching_open r f a content holds

pub heard_open : (r : Restore) (now : ℕ) (m : Frame) (stage : Stage) → IsStagePending r.chunk_size stage → AreHeardOpen (restore_hears (record r { stage = stage }) now m)
heard_open r now m (leasing a) holds =
    on_if AreHeardOpen (answers m a) (hear_leasing (record r { stage = leasing a }) now m.request m.content) None (λ is. leasing_open r now m.request a m.content) (λ isnt. tt)
heard_open r now m (opening a) holds =
    on_if AreHeardOpen (answers m a) (hear_opening (record r { stage = opening a }) now m.request m.content) None (λ is. opening_open r now m.request a m.content) (λ isnt. tt)
heard_open r now m (fetching f) holds = asked_open (record r { stage = fetching f }) f m.content (ask_sent f m.request) holds
