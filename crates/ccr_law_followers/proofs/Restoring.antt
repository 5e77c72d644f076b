-- What each step of a bootstrap makes of the claims on it.
use Rattle.std.specs.List.{AllByRecursion}
use Rattle.std.specs.Prelude.{filter, slice_get}
use Rattle.std.proofs.Common.{◌≡◌, ℕ, zero, suc, ◌+◌, ◌-◌, ◌≤◌, ◌==◌, true, false, if◌then◌else◌, Option, Some, None, List, [], ◌∷◌, ◌++◌, length, take, drop, refl, sym, ◌∙◌, ap, subst, arith}
use Rattle.ccr_wire.specs.Message.{Frame}
use Rattle.ccr_wire.specs.declared.content.Content.{Content}
use Rattle.ccr_wire.specs.declared.content.Content.TheVariants as contents
use Rattle.ccr_wire.specs.declared.kind.LeaseResult.TheVariants as results
use Rattle.ccr_model.specs.Answers.{IsIn}
use Rattle.ccr_model.specs.Requests.{Progress, on_its_way, is_due, Sending, quiet}
use Rattle.ccr_model.specs.Restores.{Restore, Stage, leasing, opening, fetching, Fetch, ChunkAsked, places_of, most_asks, asks_chunks, asks_more, asks_lease, asks_session, restore_lost, restore_waits, lost_in, chunks_again, restore_ticked, without_ask, ask_sent, opened, answers, hear_leasing, hear_opening, hear_fetching, hear_asked, restore_hears}
use Rattle.ccr_model.specs.Leaders.{Session, session_of}
use Rattle.ccr_model.specs.LeaderFrames.{sizes_of, chunk_of}
use Rattle.ccr_law_base.proofs.Cases.{on_if}
use Rattle.ccr_law_base.proofs.Lists.{All-weaker, All-both, All-filter, some_equal}
use Rattle.ccr_law_stores.proofs.Counting.{in-append_front}
use Rattle.ccr_law_followers.specs.Fetches.{is_covered, AskedApart, FetchOk, StageOk, RestoreOk}
use Rattle.ccr_law_followers.proofs.Asks.{All-ins, apart-filter, found_in, in-without, in_front, fetch-lost, fetch-asks, fetch-again, fetch-came}

-- these parts are asked for, which follow those that were
pub chunks_asked : (sessions : List Session) (places : List (ℕ × ℕ)) (r : Restore) (f : Fetch) → 1 ≤ r.chunk_size → FetchOk sessions r.chunk_size r.next_request f
    → ((j : ℕ) (place : ℕ × ℕ) → slice_get places j ≡ Some place → slice_get (places_of r.chunk_size f.sizes) (f.asked + j) ≡ Some place)
    → RestoreOk sessions (asks_chunks places (record r { stage = fetching f })).next
chunks_asked sessions [] r f some ok next = record { some = some; stage = ok }
chunks_asked sessions (place ∷ places) r f some ok next =
    chunks_asked sessions places (record r { next_request = r.next_request + 1 })
    (record f { asked = f.asked + 1; asks = f.asks ++ record { request = r.next_request; file = place.0; offset = place.1; progress = on_its_way } ∷ [] })
    some (fetch-asks sessions r.chunk_size r.next_request f place (ap (slice_get (places_of r.chunk_size f.sizes)) (here f.asked) ∙ next 0 place refl) ok)
    (λ j q at. ap (slice_get (places_of r.chunk_size f.sizes)) (further f.asked j) ∙ next (suc j) q at)
  where
    here : (n : ℕ) → n ≡ n + 0
    here n = omega arith

    further : (n j : ℕ) → n + 1 + j ≡ n + suc j
    further n j = omega arith

pub more_asked : (sessions : List Session) (r : Restore) (f : Fetch) → 1 ≤ r.chunk_size → FetchOk sessions r.chunk_size r.next_request f → RestoreOk sessions (asks_more r f).next
more_asked sessions r f some ok =
    chunks_asked sessions (take (most_asks - length f.asks) (drop f.asked (places_of r.chunk_size f.sizes))) r f some ok
    (λ j place at. in_front f.asked (most_asks - length f.asks) (places_of r.chunk_size f.sizes) j place at)

-- these requests are sent again
pub again : (sessions : List Session) (asks : List ChunkAsked) (r : Restore) (f : Fetch) → 1 ≤ r.chunk_size → FetchOk sessions r.chunk_size r.next_request f
    → AllByRecursion (λ (a : ChunkAsked). IsIn f.asks a) asks → AskedApart asks → RestoreOk sessions (chunks_again asks (record r { stage = fetching f })).next
again sessions [] r f some ok there apart = record { some = some; stage = ok }
again sessions (a ∷ asks) r f some ok there apart =
    let new : ChunkAsked = record a { request = r.next_request; progress = on_its_way } in
    again sessions asks (record r { next_request = r.next_request + 1 }) (record f { asks = without_ask a.request f.asks ++ record a { request = r.next_request; progress = on_its_way } ∷ [] })
    some (fetch-again sessions r.chunk_size r.next_request f a there.0 ok)
    (All-weaker (λ (b : ChunkAsked). IsIn f.asks b × ((b.request == a.request) ≡ false)) (λ (b : ChunkAsked). IsIn (without_ask a.request f.asks ++ new ∷ []) b)
    (λ b both. in-append_front (without_ask a.request f.asks) (new ∷ []) b (in-without a.request f.asks b both.1 both.0)) asks
    (All-both (λ (b : ChunkAsked). IsIn f.asks b) (λ (b : ChunkAsked). (b.request == a.request) ≡ false) asks there.1 apart.0))
    apart.1

-- ---- losses and retries

pub stage_lost : (sessions : List Session) (size next request : ℕ) (later : Progress) (stage : Stage) → StageOk sessions size next stage → StageOk sessions size next (lost_in request later stage)
stage_lost sessions size next request later (leasing a) ok = tt
stage_lost sessions size next request later (opening a) ok = tt
stage_lost sessions size next request later (fetching f) ok = fetch-lost sessions size next f request later ok

pub restore-lost : (sessions : List Session) (r : Restore) (now request : ℕ) → RestoreOk sessions r → RestoreOk sessions (restore_lost r now request)
restore-lost sessions r now request ok =
    record { some = ok.some; stage = stage_lost sessions r.chunk_size r.next_request request (restore_waits r now) r.stage ok.stage }

pub restore-ticked : (sessions : List Session) (r : Restore) (now : ℕ) → RestoreOk sessions r → RestoreOk sessions (restore_ticked now r).next
restore-ticked sessions r now ok = by_stage r.stage refl ok.stage
  where
    by_stage : (stage : Stage) → r.stage ≡ stage → StageOk sessions r.chunk_size r.next_request stage → RestoreOk sessions (elim stage as (λ _. Sending Restore) [
      | leasing a ↦ if is_due now a.progress then asks_lease r else quiet r
      | opening a ↦ if is_due now a.progress then asks_session r else quiet r
      | fetching f ↦ chunks_again (filter (λ a. is_due now a.progress) f.asks) r
    ]).next
    by_stage (leasing a) is stage =
        on_if (λ (done : Sending Restore). RestoreOk sessions done.next) (is_due now a.progress) (asks_lease r) (quiet r) (λ due. record { some = ok.some; stage = tt }) (λ isnt. ok)
    by_stage (opening a) is stage =
        on_if (λ (done : Sending Restore). RestoreOk sessions done.next) (is_due now a.progress) (asks_session r) (quiet r) (λ due. record { some = ok.some; stage = tt }) (λ isnt. ok)
    by_stage (fetching f) is stage =
        subst (λ (x : Restore). RestoreOk sessions (chunks_again (filter (λ a. is_due now a.progress) f.asks) x).next) (ap (λ (st : Stage). record r { stage = st }) (sym is))
        (again sessions (filter (λ a. is_due now a.progress) f.asks) r f ok.some stage
        (All-filter (λ (a : ChunkAsked). IsIn f.asks a) (λ a. is_due now a.progress) f.asks (All-ins f.asks)) (apart-filter (λ a. is_due now a.progress) f.asks stage.apart))

-- ---- messages

-- what a message says of a session is what that was opened with
pub record WasOpened (sessions : List Session) (number count : ℕ) (sizes : List ℕ) : Type 0 where
  pub session : Session
  pub is_opened : session_of sessions number ≡ Some session
  pub same_count : count ≡ session.count
  pub same_sizes : sizes ≡ sizes_of session

-- what a message says to a bootstrap: a session as it was opened, and the whole part that was asked for
pub record SaysTruly (sessions : List Session) (r : Restore) (m : Frame) : Type 0 where
  pub opens : (number : ℕ) (history : List ℕ) (count : ℕ) (sizes : List ℕ) → m.content ≡ contents.SessionOpened number history count sizes → WasOpened sessions number count sizes
  pub brings : (f : Fetch) (a : ChunkAsked) (number file offset : ℕ) (bytes : List ℕ) → r.stage ≡ fetching f → ask_sent f m.request ≡ Some a
      → m.content ≡ contents.ChunkReply number file offset bytes
      → (session : Session) → session_of sessions f.session ≡ Some session → bytes ≡ chunk_of session a.file a.offset r.chunk_size

pub take_nothing : (xs : List (ℕ × ℕ)) → take zero xs ≡ []
take_nothing [] = refl
take_nothing (x ∷ xs) = refl

pub session-opened : (sessions : List Session) (r : Restore) (number : ℕ) (history : List ℕ) (count : ℕ) (sizes : List ℕ) → 1 ≤ r.chunk_size → WasOpened sessions number count sizes
    → RestoreOk sessions (opened r number history count sizes).next
session-opened sessions r number history count sizes some was =
    more_asked sessions (record r { retry = 0 }) (record { session = number; history = history; count = count; sizes = sizes; asked = 0; asks = []; chunks = [] }) some (record {
      session = was.session;
      is_opened = was.is_opened;
      same_count = was.same_count;
      same_sizes = was.same_sizes;
      whole = tt;
      covered = subst (AllByRecursion (λ (q : ℕ × ℕ). is_covered [] [] q ≡ true)) (sym (take_nothing (places_of r.chunk_size sizes))) tt;
      apart = tt;
      drawn = tt;
    })

-- the bootstrap that comes of an answer
abbrev pub IsOkIf : List Session → Option (Sending Restore) → Type 0
IsOkIf sessions o = (done : Sending Restore) → o ≡ Some done → RestoreOk sessions done.next

pub ok_if_some : (sessions : List Session) (next : Sending Restore) → RestoreOk sessions next.next → IsOkIf sessions (Some next)
ok_if_some sessions next ok done is = subst (λ (x : Sending Restore). RestoreOk sessions x.next) (some_equal next done is) ok

pub leasing-hears : (sessions : List Session) (r : Restore) (now request : ℕ) (content : Content) → RestoreOk sessions r → IsOkIf sessions (hear_leasing r now request content)
leasing-hears sessions r now request (contents.LeaseAdded number) ok = ok_if_some sessions _ (record { some = ok.some; stage = tt })
leasing-hears sessions r now request (contents.LeaseAnswer results.Exists number) ok = ok_if_some sessions _ (record { some = ok.some; stage = tt })
leasing-hears sessions r now request (contents.NotReady copy) ok = ok_if_some sessions _ (restore-lost sessions r now request ok)
leasing-hears sessions r now request _ ok = λ done is. cc

pub opening-hears : (sessions : List Session) (r : Restore) (now request : ℕ) (content : Content) → RestoreOk sessions r
    → ((number : ℕ) (history : List ℕ) (count : ℕ) (sizes : List ℕ) → content ≡ contents.SessionOpened number history count sizes → WasOpened sessions number count sizes)
    → IsOkIf sessions (hear_opening r now request content)
opening-hears sessions r now request (contents.SessionOpened number history count sizes) ok opens =
    ok_if_some sessions _ (session-opened sessions r number history count sizes ok.some (opens number history count sizes refl))
opening-hears sessions r now request (contents.NotReady copy) ok opens = ok_if_some sessions _ (restore-lost sessions r now request ok)
opening-hears sessions r now request _ ok opens = λ done is. cc

pub fetching-hears : (sessions : List Session) (r : Restore) (f : Fetch) (a : ChunkAsked) (content : Content) → 1 ≤ r.chunk_size → FetchOk sessions r.chunk_size r.next_request f → IsIn f.asks a
    → ((number file offset : ℕ) (bytes : List ℕ) → content ≡ contents.ChunkReply number file offset bytes
    → (session : Session) → session_of sessions f.session ≡ Some session → bytes ≡ chunk_of session a.file a.offset r.chunk_size)
    → IsOkIf sessions (hear_fetching r f a content)
fetching-hears sessions r f a (contents.ChunkReply number file offset bytes) some ok there brings =
    ok_if_some sessions _
    (more_asked sessions (record r { retry = 0 }) _ some
    (fetch-came sessions r.chunk_size r.next_request f a bytes there ok (brings number file offset bytes refl ok.session ok.is_opened)))
fetching-hears sessions r f a (contents.SessionGone number) some ok there brings = ok_if_some sessions _ (record { some = some; stage = tt })
fetching-hears sessions r f a _ some ok there brings = λ done is. cc

pub asked-hears : (sessions : List Session) (r : Restore) (f : Fetch) (m : Frame) (found : Option ChunkAsked) → r.stage ≡ fetching f → ask_sent f m.request ≡ found → 1 ≤ r.chunk_size
    → FetchOk sessions r.chunk_size r.next_request f → SaysTruly sessions r m → IsOkIf sessions (hear_asked r f m.content found)
asked-hears sessions r f m None stage is some ok says = λ done at. cc
asked-hears sessions r f m (Some a) stage is some ok says =
    fetching-hears sessions r f a m.content some ok (found_in f m.request a is) (λ number file offset bytes content. says.brings f a number file offset bytes stage is content)

pub restore-hears : (sessions : List Session) (r : Restore) (now : ℕ) (m : Frame) → RestoreOk sessions r → SaysTruly sessions r m → IsOkIf sessions (restore_hears r now m)
restore-hears sessions r now m ok says = by_stage r.stage refl ok.stage
  where
    by_stage : (stage : Stage) → r.stage ≡ stage → StageOk sessions r.chunk_size r.next_request stage → IsOkIf sessions (elim stage as (λ _. Option (Sending Restore)) [
      | leasing a ↦ if answers m a then hear_leasing r now m.request m.content else None
      | opening a ↦ if answers m a then hear_opening r now m.request m.content else None
      | fetching f ↦ hear_asked r f m.content (ask_sent f m.request)
    ])
    by_stage (leasing a) is stage =
        on_if (IsOkIf sessions) (answers m a) (hear_leasing r now m.request m.content) None (λ yes. leasing-hears sessions r now m.request m.content ok) (λ other done at. cc)
    by_stage (opening a) is stage =
        on_if (IsOkIf sessions) (answers m a) (hear_opening r now m.request m.content) None (λ yes. opening-hears sessions r now m.request m.content ok says.opens) (λ other done at. cc)
    by_stage (fetching f) is stage = asked-hears sessions r f m (ask_sent f m.request) is refl ok.some stage says
