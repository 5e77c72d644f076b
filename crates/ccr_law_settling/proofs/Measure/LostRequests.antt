-- A request that is lost weighs less.
use Rattle.std.specs.List.{AllByRecursion, fold, list_any}
use Rattle.std.specs.Prelude.{slice_get, filter}
use Rattle.std.proofs.Common.{◌≡◌, ℕ, zero, suc, ◌+◌, ◌<◌, ◌≤◌, ◌==◌, ◌&&◌, ◌||◌, Bool, true, false, nat_le, Some, List, [], ◌∷◌, map, length, refl, subst, arith}
use Rattle.ccr_model.specs.Requests.{Progress, on_its_way, waiting, held_back, is_sent}
use Rattle.ccr_model.specs.Tasks.{Task, Read, changed_read, by_request, sent_reads}
use Rattle.ccr_model.specs.Restores.{ChunkAsked, changed_ask}
use Rattle.ccr_law_base.proofs.Cases.{on_if}
use Rattle.ccr_law_base.proofs.Lists.{All-weaker, All-both, All-filter, All-filter_test, All-at, All-by_request}
use Rattle.ccr_law_base.proofs.Tests.{itself, other_turned, or-more}
use Rattle.ccr_law_settling.specs.Measure.{total, weight_of_progress}
use Rattle.ccr_law_settling.specs.Within.{AreReadsApart, AreAsksApart}

pub waiting_light : (may : Bool) (now until : ℕ) → weight_of_progress may now (waiting until) ≤ 5
waiting_light may now until = on_if (λ (w : ℕ). w ≤ 5) (nat_le until now) 4 5 (λ is. omega arith) (λ isnt. omega arith)

-- what was sent and may be lost weighs more than what waits
pub lost_lighter : (may : Bool) (now until : ℕ) (p : Progress) → is_sent p ≡ true → may ≡ false → weight_of_progress may now (waiting until) < weight_of_progress may now p
lost_lighter may now until on_its_way is nothing =
    let le : weight_of_progress may now (waiting until) ≤ 5 = waiting_light may now until in
    let six : weight_of_progress may now on_its_way ≡ 6 = rw nothing refl in
    omega arith
lost_lighter may now until (waiting other) is nothing = cc
lost_lighter may now until held_back is nothing = cc

-- ---- reads

abbrev pub read_weight : (ℕ → Bool) → ℕ → Read → ℕ
read_weight may now r = weight_of_progress (may r.request) now r.progress

abbrev pub with_progress : Progress → Read → Read
with_progress later own = record own { progress = later }

abbrev pub LosesRead : (ℕ → Bool) → ℕ → ℕ → List Read → Read → Type 0
LosesRead may now until reads r = is_sent r.progress ≡ true → may r.request ≡ false
    → total (read_weight may now) (changed_read r.request (with_progress (waiting until)) reads) < total (read_weight may now) reads

each_loses : (may : ℕ → Bool) (now until : ℕ) (reads : List Read) → AreReadsApart reads → AllByRecursion (LosesRead may now until reads) reads
each_loses may now until [] apart = tt
each_loses may now until (x ∷ reads) apart = (
  (λ is nothing.
      let lighter : weight_of_progress (may x.request) now (waiting until) < weight_of_progress (may x.request) now x.progress = lost_lighter (may x.request) now until x.progress is nothing in
      rw (itself x.request) (omega arith)),
  All-weaker (λ (y : Read). ((y.request == x.request) ≡ false) × LosesRead may now until reads y) (LosesRead may now until (x ∷ reads))
      (λ y both is nothing.
      let other : (x.request == y.request) ≡ false = other_turned y.request x.request both.0 in
      let rest : total (read_weight may now) (changed_read y.request (with_progress (waiting until)) reads) < total (read_weight may now) reads = both.1 is nothing in
      rw other (omega arith))
      reads
      (All-both (λ (y : Read). (y.request == x.request) ≡ false) (LosesRead may now until reads) reads apart.0 (each_loses may now until reads apart.1)),
)

pub All-in_order : (P : Read → Type 0) (reads acc : List Read) → AllByRecursion P acc → AllByRecursion P reads
    → AllByRecursion P (fold {A = Read} {B = List Read} (λ rest r. by_request r rest) acc reads)
All-in_order P [] acc sorted all = sorted
All-in_order P (r ∷ reads) acc sorted all = All-in_order P reads (by_request r acc) (All-by_request P r acc all.0 sorted) all.1

pub sent_read_loses : (may : ℕ → Bool) (now until : ℕ) (t : Task) (at : ℕ) (r : Read) → AreReadsApart t.reads → slice_get (sent_reads t) at ≡ Some r → may r.request ≡ false
    → total (read_weight may now) (changed_read r.request (with_progress (waiting until)) t.reads) < total (read_weight may now) t.reads
sent_read_loses may now until t at r apart found nothing =
    let both : (is_sent r.progress ≡ true) × LosesRead may now until t.reads r
    = All-at (λ (y : Read). (is_sent y.progress ≡ true) × LosesRead may now until t.reads y) (sent_reads t) at r
    (All-in_order (λ (y : Read). (is_sent y.progress ≡ true) × LosesRead may now until t.reads y) (filter (λ (y : Read). is_sent y.progress) t.reads) [] tt
    (All-both (λ (y : Read). is_sent y.progress ≡ true) (LosesRead may now until t.reads) (filter (λ (y : Read). is_sent y.progress) t.reads)
    (All-filter_test (λ (y : Read). is_sent y.progress) t.reads)
    (All-filter (LosesRead may now until t.reads) (λ (y : Read). is_sent y.progress) t.reads (each_loses may now until t.reads apart))))
    found in
    both.1 both.0 nothing

-- what a change leaves as it is at each read, it leaves in the sum
pub total_changed_read : (amount : Read → ℕ) (request : ℕ) (change : Read → Read) → ((r : Read) → amount (change r) ≡ amount r) → (reads : List Read)
    → total amount (changed_read request change reads) ≡ total amount reads
total_changed_read amount request change same [] = refl
total_changed_read amount request change same (x ∷ reads) =
    on_if (λ (xs : List Read). total amount xs ≡ amount x + total amount reads) (x.request == request) (change x ∷ reads) (x ∷ changed_read request change reads)
    (λ is. (let e : amount (change x) ≡ amount x = same x in omega arith))
    (λ isnt. (let e : total amount (changed_read request change reads) ≡ total amount reads = total_changed_read amount request change same reads in omega arith))

-- ---- requests for parts of files

abbrev pub ask_weight : (ℕ → Bool) → ℕ → ChunkAsked → ℕ
ask_weight may now a = weight_of_progress (may a.request) now a.progress

abbrev pub with_later : Progress → ChunkAsked → ChunkAsked
with_later later own = record own { progress = later }

abbrev pub LosesAsk : (ℕ → Bool) → ℕ → ℕ → List ChunkAsked → ChunkAsked → Type 0
LosesAsk may now until asks a = is_sent a.progress ≡ true → may a.request ≡ false
    → total (ask_weight may now) (changed_ask a.request (with_later (waiting until)) asks) < total (ask_weight may now) asks

each_ask_loses : (may : ℕ → Bool) (now until : ℕ) (asks : List ChunkAsked) → AreAsksApart asks → AllByRecursion (LosesAsk may now until asks) asks
each_ask_loses may now until [] apart = tt
each_ask_loses may now until (x ∷ asks) apart = (
  (λ is nothing.
      let lighter : weight_of_progress (may x.request) now (waiting until) < weight_of_progress (may x.request) now x.progress = lost_lighter (may x.request) now until x.progress is nothing in
      rw (itself x.request) (omega arith)),
  All-weaker (λ (y : ChunkAsked). ((y.request == x.request) ≡ false) × LosesAsk may now until asks y) (LosesAsk may now until (x ∷ asks))
      (λ y both is nothing.
      let other : (x.request == y.request) ≡ false = other_turned y.request x.request both.0 in
      let rest : total (ask_weight may now) (changed_ask y.request (with_later (waiting until)) asks) < total (ask_weight may now) asks = both.1 is nothing in
      rw other (omega arith))
      asks
      (All-both (λ (y : ChunkAsked). (y.request == x.request) ≡ false) (LosesAsk may now until asks) asks apart.0 (each_ask_loses may now until asks apart.1)),
)

map_at : (P : ℕ → Type 0) (asks : List ChunkAsked) (at request : ℕ) → AllByRecursion (λ (a : ChunkAsked). P a.request) asks
    → slice_get (map {A = ChunkAsked} {B = ℕ} (λ a. a.request) asks) at ≡ Some request → P request
map_at P [] at request all found = cc
map_at P (x ∷ asks) zero request all found = subst P (number x.request request found) all.0
  where
    number : (a b : ℕ) → Some a ≡ Some b → a ≡ b
    number a b e = cc
map_at P (x ∷ asks) (suc at) request all found = map_at P asks at request all.1 found

pub sent_ask_loses : (may : ℕ → Bool) (now until : ℕ) (asks : List ChunkAsked) (at request : ℕ) → AreAsksApart asks
    → slice_get (map {A = ChunkAsked} {B = ℕ} (λ a. a.request) (filter (λ (a : ChunkAsked). is_sent a.progress) asks)) at ≡ Some request → may request ≡ false
    → total (ask_weight may now) (changed_ask request (with_later (waiting until)) asks) < total (ask_weight may now) asks
sent_ask_loses may now until asks at request apart found =
    map_at (λ n. may n ≡ false → total (ask_weight may now) (changed_ask n (with_later (waiting until)) asks) < total (ask_weight may now) asks)
    (filter (λ (a : ChunkAsked). is_sent a.progress) asks) at request
    (All-weaker (λ (a : ChunkAsked). (is_sent a.progress ≡ true) × LosesAsk may now until asks a)
    (λ (a : ChunkAsked). may a.request ≡ false → total (ask_weight may now) (changed_ask a.request (with_later (waiting until)) asks) < total (ask_weight may now) asks)
    (λ a both. both.1 both.0)
    (filter (λ (a : ChunkAsked). is_sent a.progress) asks)
    (All-both (λ (a : ChunkAsked). is_sent a.progress ≡ true) (LosesAsk may now until asks) (filter (λ (a : ChunkAsked). is_sent a.progress) asks)
    (All-filter_test (λ (a : ChunkAsked). is_sent a.progress) asks)
    (All-filter (LosesAsk may now until asks) (λ (a : ChunkAsked). is_sent a.progress) asks (each_ask_loses may now until asks apart))))
    found

pub length_changed_ask : (request : ℕ) (change : ChunkAsked → ChunkAsked) (asks : List ChunkAsked) → length (changed_ask request change asks) ≡ length asks
length_changed_ask request change [] = refl
length_changed_ask request change (x ∷ asks) =
    on_if (λ (xs : List ChunkAsked). length xs ≡ length (x ∷ asks)) (x.request == request) (change x ∷ asks) (x ∷ changed_ask request change asks)
    (λ is. refl) (λ isnt. (let e : length (changed_ask request change asks) ≡ length asks = length_changed_ask request change asks in omega arith))

-- where one is lost, no more of them are in the sent state
pub lost_fewer_sent : (number request until : ℕ) (asks : List ChunkAsked)
    → list_any (λ (a : ChunkAsked). (number == a.request) && is_sent a.progress) (changed_ask request (with_later (waiting until)) asks) ≡ true
    → list_any (λ (a : ChunkAsked). (number == a.request) && is_sent a.progress) asks ≡ true
lost_fewer_sent number request until [] is = cc
lost_fewer_sent number request until (x ∷ asks) is =
    on_if (λ (xs : List ChunkAsked). list_any (λ (a : ChunkAsked). (number == a.request) && is_sent a.progress) xs ≡ true
    → (((number == x.request) && is_sent x.progress) || list_any (λ (a : ChunkAsked). (number == a.request) && is_sent a.progress) asks) ≡ true)
    (x.request == request) (with_later (waiting until) x ∷ asks) (x ∷ changed_ask request (with_later (waiting until)) asks)
    (λ here later. head ((number == x.request) && is_sent x.progress) (number == x.request) (list_any (λ (a : ChunkAsked). (number == a.request) && is_sent a.progress) asks) later)
    (λ past later. or-more ((number == x.request) && is_sent x.progress) _ (list_any (λ (a : ChunkAsked). (number == a.request) && is_sent a.progress) asks) (lost_fewer_sent number request until asks) later)
    is
  where
    head : (now same rest : Bool) → ((same && false) || rest) ≡ true → (now || rest) ≡ true
    head true same rest any = refl
    head false true rest any = any
    head false false rest any = any
