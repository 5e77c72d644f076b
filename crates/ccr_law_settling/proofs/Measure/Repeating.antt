-- Requests for parts of files that are due, when they are sent again.
use Rattle.std.specs.List.{AllByRecursion, list_any}
use Rattle.std.specs.Str.{bytes_eq}
use Rattle.std.specs.Prelude.{find}
use Rattle.std.proofs.Common.{◌≡◌, ℕ, ◌+◌, ◌<◌, ◌≤◌, ◌==◌, ◌&&◌, ◌||◌, Bool, true, false, if◌then◌else◌, Some, List, [], ◌∷◌, ◌++◌, length, refl, sym, ap, ◌∙◌, arith}
use Rattle.std.proofs.lemmas.Bool.Decides.{nat_tests}
use Rattle.std.proofs.lemmas.List.Folds.{list_any-append}
use Rattle.ccr_wire.specs.Message.{Frame}
use Rattle.ccr_model.specs.Requests.{on_its_way, is_due, Sending}
use Rattle.ccr_model.specs.Restores.{Restore, ChunkAsked, fetching, Fetch, without_ask, chunks_again}
use Rattle.ccr_model.specs.Leaders.{Session}
use Rattle.ccr_model.specs.Followers.{uuid_of}
use Rattle.ccr_law_base.proofs.Cases.{on_if}
use Rattle.ccr_law_base.proofs.Lists.{All-weaker, All-both, some_equal}
use Rattle.ccr_law_base.proofs.Tests.{itself, other_turned, or-more}
use Rattle.ccr_law_settling.specs.Measure.{total, is_gone, is_told_gone, is_idle_content, weight_of_frame}
use Rattle.ccr_law_settling.specs.Within.{AreAsksApart, has_number_of}
use Rattle.ccr_law_settling.proofs.Measure.Totals.{total_append}
use Rattle.ccr_law_settling.proofs.Measure.Flights.{IsPlain}
use Rattle.ccr_law_settling.proofs.Measure.Syncing.{carries}
use Rattle.ccr_law_settling.proofs.Measure.LostRequests.{ask_weight}
use Rattle.ccr_law_settling.proofs.Measure.Due.{due_weighs}
use Rattle.std.proofs.lemmas.Bool.{or_right}

-- the first request of its number
abbrev pub IsFirst : List ChunkAsked → ChunkAsked → Type 0
IsFirst asks a = find (λ (x : ChunkAsked). x.request == a.request) asks ≡ Some a

-- each is the first of its number, where no two have one
pub each_first : (asks : List ChunkAsked) → AreAsksApart asks → AllByRecursion (IsFirst asks) asks
each_first [] apart = tt
each_first (x ∷ asks) apart = (
  rw (itself x.request) refl,
  All-weaker (λ (y : ChunkAsked). ((y.request == x.request) ≡ false) × IsFirst asks y) (IsFirst (x ∷ asks))
      (λ y both. rw (other_turned y.request x.request both.0) both.1) asks
      (All-both (λ (y : ChunkAsked). (y.request == x.request) ≡ false) (IsFirst asks) asks apart.0 (each_first asks apart.1)),
)

-- what is left without it weighs less by what it weighs
total_without : (amount : ChunkAsked → ℕ) (a : ChunkAsked) (asks : List ChunkAsked) → IsFirst asks a → total amount (without_ask a.request asks) + amount a ≡ total amount asks
total_without amount a [] first = cc
total_without amount a (x ∷ asks) first =
    (elim (x.request == a.request) as (λ b. (if b then Some x else find (λ (x : ChunkAsked). x.request == a.request) asks) ≡ Some a
    → total amount (if b then asks else x ∷ without_ask a.request asks) + amount a ≡ amount x + total amount asks) [
      | true ↦ λ same. (let e : amount x ≡ amount a = ap amount (some_equal x a same) in omega arith)
      | false ↦ λ later. (let rest : total amount (without_ask a.request asks) + amount a ≡ total amount asks = total_without amount a asks later in omega arith)
    ]) first

pub length_without : (a : ChunkAsked) (asks : List ChunkAsked) → IsFirst asks a → length (without_ask a.request asks) + 1 ≡ length asks
length_without a [] first = cc
length_without a (x ∷ asks) first =
    (elim (x.request == a.request) as (λ b. (if b then Some x else find (λ (x : ChunkAsked). x.request == a.request) asks) ≡ Some a
    → length (if b then asks else x ∷ without_ask a.request asks) + 1 ≡ length (x ∷ asks)) [
      | true ↦ λ same. omega arith
      | false ↦ λ later. (let rest : length (without_ask a.request asks) + 1 ≡ length asks = length_without a asks later in omega arith)
    ]) first

pub pushed_length : (asks : List ChunkAsked) (a : ChunkAsked) → length (asks ++ a ∷ []) ≡ length asks + 1
pushed_length [] a = omega arith
pushed_length (x ∷ asks) a = let rest : length (asks ++ a ∷ []) ≡ length asks + 1 = pushed_length asks a in omega arith

-- another stays the first of its number
found_front : (test : ChunkAsked → Bool) (asks more : List ChunkAsked) (a : ChunkAsked) → find test asks ≡ Some a → find test (asks ++ more) ≡ Some a
found_front test [] more a found = cc
found_front test (x ∷ asks) more a found =
    (elim (test x) as (λ b. (if b then Some x else find test asks) ≡ Some a → (if b then Some x else find test (asks ++ more)) ≡ Some a) [
      | true ↦ λ same. same
      | false ↦ λ later. found_front test asks more a later
    ]) found

other_first : (number : ℕ) (b : ChunkAsked) (asks more : List ChunkAsked) → (b.request == number) ≡ false → IsFirst asks b → IsFirst (without_ask number asks ++ more) b
other_first number b [] more other first = cc
other_first number b (x ∷ asks) more other first =
    (elim (x.request == number) as (λ c. (x.request == number) ≡ c → find (λ (x : ChunkAsked). x.request == b.request) ((if c then asks else x ∷ without_ask number asks) ++ more) ≡ Some b) [
      | true ↦ λ is.
          (let past : (x.request == b.request) ≡ false = grind (arith, nat_tests) in
          found_front (λ (x : ChunkAsked). x.request == b.request) asks more b (sym (ap (λ c. if c then Some x else find (λ (x : ChunkAsked). x.request == b.request) asks) past) ∙ first))
      | false ↦ λ isnt. by (x.request == b.request) (other_first number b asks more other) first
    ]) refl
  where
    by : (c : Bool) → (find (λ (x : ChunkAsked). x.request == b.request) asks ≡ Some b → find (λ (x : ChunkAsked). x.request == b.request) (without_ask number asks ++ more) ≡ Some b)
        → (if c then Some x else find (λ (x : ChunkAsked). x.request == b.request) asks) ≡ Some b
        → (if c then Some x else find (λ (x : ChunkAsked). x.request == b.request) (without_ask number asks ++ more)) ≡ Some b
    by true step same = same
    by false step later = step later

-- ---- who is told that a session is gone

pub any_without : (number request : ℕ) (asks : List ChunkAsked) → list_any (has_number_of request) (without_ask number asks) ≡ true → list_any (has_number_of request) asks ≡ true
any_without number request [] any = cc
any_without number request (x ∷ asks) any =
    on_if (λ (xs : List ChunkAsked). list_any (has_number_of request) xs ≡ true → (has_number_of request x || list_any (has_number_of request) asks) ≡ true)
    (x.request == number) asks (x ∷ without_ask number asks)
    (λ here some. or_right (has_number_of request x) (list_any (has_number_of request) asks) some)
    (λ past some. or-more (has_number_of request x) (list_any (has_number_of request) (without_ask number asks)) (list_any (has_number_of request) asks) (any_without number request asks) some)
    any

-- no message with the follower's name has this number
abbrev pub AreBelow : List Frame → ℕ → ℕ → Type 0
AreBelow flight f next = AllByRecursion (λ (m : Frame). bytes_eq m.follower (uuid_of f) ≡ true → m.request < next) flight

-- what has a number that was drawn before answers none but a request that was there before
pub answered_before : (n next : ℕ) (a : ChunkAsked) (asks : List ChunkAsked) → n < next
    → list_any (has_number_of n) (asks ++ record a { request = next; progress = on_its_way } ∷ []) ≡ true → list_any (has_number_of n) asks ≡ true
answered_before n next a asks lt any =
    front (list_any (has_number_of n) asks) (n == next) (grind (arith, nat_tests))
    (sym (list_any-append (has_number_of n) asks (record a { request = next; progress = on_its_way } ∷ [])) ∙ any)
  where
    front : (a b : Bool) → b ≡ false → (a || ((b && true) || false)) ≡ true → a ≡ true
    front true b none any = refl
    front false false none any = cc
    front false true none any = cc

pub told_less : (flight : List Frame) (f next : ℕ) (new old : Fetch) → AreBelow flight f next
    → ((n : ℕ) → n < next → list_any (has_number_of n) new.asks ≡ true → list_any (has_number_of n) old.asks ≡ true) → is_told_gone flight f new ≡ true → is_told_gone flight f old ≡ true
told_less [] f next new old below before told = cc
told_less (m ∷ flight) f next new old below before told =
    by (bytes_eq m.follower (uuid_of f)) (is_gone m.content) (list_any (has_number_of m.request) new.asks) (list_any (has_number_of m.request) old.asks) (is_told_gone flight f new) (is_told_gone flight f old)
    (λ ours. before m.request (below.0 ours)) (told_less flight f next new old below.1 before) told
  where
    by : (ours gone now was rest left : Bool) → (ours ≡ true → now ≡ true → was ≡ true) → (rest ≡ true → left ≡ true)
        → (((ours && gone) && now) || rest) ≡ true → (((ours && gone) && was) || left) ≡ true
    by false gone now was rest left step more any = more any
    by true false now was rest left step more any = more any
    by true true true was rest left step more any = let e : was ≡ true = step refl refl in rw e refl
    by true true false true rest left step more any = refl
    by true true false false rest left step more any = more any

told_before : (flight : List Frame) (f next : ℕ) (a : ChunkAsked) (number : ℕ) (fetch : Fetch) → AreBelow flight f next
    → is_told_gone flight f (record fetch { asks = without_ask number fetch.asks ++ record a { request = next; progress = on_its_way } ∷ [] }) ≡ true → is_told_gone flight f fetch ≡ true
told_before flight f next a number fetch below =
    told_less flight f next (record fetch { asks = without_ask number fetch.asks ++ record a { request = next; progress = on_its_way } ∷ [] }) fetch below
    (λ n lt any. any_without number n fetch.asks (answered_before n next a (without_ask number fetch.asks) lt any))

-- ---- all of them

-- the parts are asked for again: only the requests changed, and they weigh less by more than the messages do
pub record Repeats (sessions : List Session) (flight : List Frame) (f : ℕ) (may : ℕ → Bool) (now : ℕ) (r : Restore) (fetch : Fetch) (due : List ChunkAsked) (done : Sending Restore) : Type 0 where
  pub asks : List ChunkAsked
  pub next_request : ℕ
  pub is : done.next ≡ record r { next_request = next_request; stage = fetching (record fetch { asks = asks }) }
  pub plain : AllByRecursion (IsPlain sessions) done.sent
  pub busy : AllByRecursion (λ (m : Frame). is_idle_content m.content ≡ false) done.sent
  pub many : length asks ≡ length fetch.asks
  pub told : is_told_gone flight f (record fetch { asks = asks }) ≡ true → is_told_gone flight f fetch ≡ true
  pub weight : total weight_of_frame done.sent + total (ask_weight may now) asks + length due ≤ total (ask_weight may now) fetch.asks

below_more : (flight : List Frame) (f next : ℕ) → AreBelow flight f next → AreBelow flight f (next + 1)
below_more flight f next below =
    All-weaker (λ (m : Frame). bytes_eq m.follower (uuid_of f) ≡ true → m.request < next) (λ (m : Frame). bytes_eq m.follower (uuid_of f) ≡ true → m.request < next + 1)
    (λ m lower ours. (let lt : m.request < next = lower ours in omega arith)) flight below

step_weight : (x : ChunkAsked) (due : List ChunkAsked) (sent asks pushed before one new old : ℕ) → sent + asks + length due ≤ pushed → pushed ≡ before + (new + 0) → before + one ≡ old → new ≡ 0 → one ≡ 4
    → 3 + sent + asks + length (x ∷ due) ≤ old
step_weight x due sent asks pushed before one new old a b c d e = omega arith

step_length : (asks pushed before old : ℕ) → asks ≡ pushed → pushed ≡ before + 1 → before + 1 ≡ old → asks ≡ old
step_length asks pushed before old a b c = omega arith

-- the request under its new number, and the fetch with it
abbrev anew : Restore → ChunkAsked → ChunkAsked
anew r a = record a { request = r.next_request; progress = on_its_way }

abbrev fetch_then : Restore → Fetch → ChunkAsked → Fetch
fetch_then r fetch a = record fetch { asks = without_ask a.request fetch.asks ++ anew r a ∷ [] }

abbrev drawn_one : Restore → Restore
drawn_one r = record r { next_request = r.next_request + 1 }

repeats_then : (sessions : List Session) (flight : List Frame) (f : ℕ) (may : ℕ → Bool) (now : ℕ) (a : ChunkAsked) (due : List ChunkAsked) (r : Restore) (fetch : Fetch)
    → IsFirst fetch.asks a → is_due now a.progress ≡ true → AreBelow flight f r.next_request → may r.next_request ≡ true
    → Repeats sessions flight f may now (drawn_one r) (fetch_then r fetch a) due (chunks_again due (record (drawn_one r) { stage = fetching (fetch_then r fetch a) }))
    → Repeats sessions flight f may now r fetch (a ∷ due) (chunks_again (a ∷ due) (record r { stage = fetching fetch }))
repeats_then sessions flight f may now a due r fetch first is_due_now below comes rest = record {
  asks = rest.asks;
  next_request = rest.next_request;
  is = rest.is;
  plain = (record { opens = refl; gone = refl }, rest.plain);
  busy = (refl, rest.busy);
  many = step_length _ _ _ _ rest.many (pushed_length (without_ask a.request fetch.asks) (anew r a)) (length_without a fetch.asks first);
  told = λ told. told_before flight f r.next_request a a.request fetch below (rest.told told);
  weight = step_weight a due _ _ _ _ _ _ _ rest.weight (total_append (ask_weight may now) (without_ask a.request fetch.asks) (anew r a ∷ [])) (total_without (ask_weight may now) a fetch.asks first)
      (rw comes refl) (due_weighs (may a.request) now a.progress is_due_now);
}

pub again_repeats : (sessions : List Session) (flight : List Frame) (f : ℕ) (may : ℕ → Bool) (now : ℕ) (due : List ChunkAsked) (r : Restore) (fetch : Fetch)
    → AllByRecursion (IsFirst fetch.asks) due → AreAsksApart due → AllByRecursion (λ (a : ChunkAsked). is_due now a.progress ≡ true) due → AreBelow flight f r.next_request
    → AllByRecursion (λ (m : Frame). may m.request ≡ true) (chunks_again due (record r { stage = fetching fetch })).sent
    → Repeats sessions flight f may now r fetch due (chunks_again due (record r { stage = fetching fetch }))
again_repeats sessions flight f may now [] r fetch firsts apart dues below come = record {
  asks = fetch.asks;
  next_request = r.next_request;
  is = refl;
  plain = tt;
  busy = tt;
  many = refl;
  told = λ told. told;
  weight = omega arith;
}
again_repeats sessions flight f may now (a ∷ due) r fetch firsts apart dues below come =
    repeats_then sessions flight f may now a due r fetch firsts.0 dues.0 below come.0
    (again_repeats sessions flight f may now due (drawn_one r) (fetch_then r fetch a)
    (All-weaker (λ (b : ChunkAsked). ((b.request == a.request) ≡ false) × IsFirst fetch.asks b) (IsFirst (fetch_then r fetch a).asks)
    (λ b both. other_first a.request b fetch.asks (anew r a ∷ []) both.0 both.1) due
    (All-both (λ (b : ChunkAsked). (b.request == a.request) ≡ false) (IsFirst fetch.asks) due apart.0 firsts.1))
    apart.1 dues.1 (below_more flight f r.next_request below) come.1)

-- ---- they carry the follower's name

pub again_named : (uuid : List ℕ) (due : List ChunkAsked) (r : Restore) (fetch : Fetch) → bytes_eq r.follower uuid ≡ true
    → AllByRecursion (λ (m : Frame). bytes_eq m.follower uuid ≡ true) (chunks_again due (record r { stage = fetching fetch })).sent
again_named uuid [] r fetch named = tt
again_named uuid (a ∷ due) r fetch named = (
  named,
  again_named uuid due (record r { next_request = r.next_request + 1 })
      (record fetch { asks = without_ask a.request fetch.asks ++ record a { request = r.next_request; progress = on_its_way } ∷ [] }) named,
)

-- each of these messages is one of them
pub each_carried : (uuid : List ℕ) (sent : List Frame) → AllByRecursion (λ (m : Frame). bytes_eq m.follower uuid ≡ true) sent
    → AllByRecursion (λ (m : Frame). list_any (carries uuid m.request) sent ≡ true) sent
each_carried uuid [] named = tt
each_carried uuid (m ∷ sent) named = (
  rw named.0 (rw (itself m.request) refl),
  All-weaker (λ (x : Frame). list_any (carries uuid x.request) sent ≡ true) (λ (x : Frame). list_any (carries uuid x.request) (m ∷ sent) ≡ true)
      (λ x is. or_right (carries uuid x.request m) (list_any (carries uuid x.request) sent) is) sent (each_carried uuid sent named.1),
)
