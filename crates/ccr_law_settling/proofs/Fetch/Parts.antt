-- A bootstrap that asks for the next parts of its files: of the files it lacks as much as before, and it waits for no old number that it didn't wait for.
use Rattle.std.specs.List.{AllByRecursion, list_any}
use Rattle.std.specs.Str.{bytes_eq}
use Rattle.std.proofs.Common.{◌≡◌, ℕ, suc, ◌+◌, ◌-◌, ◌<◌, ◌≤◌, ◌&&◌, min, true, false, List, [], ◌∷◌, ◌++◌, length, take, drop, refl, arith, length-take, length-drop}
use Rattle.ccr_wire.specs.Message.{Frame}
use Rattle.ccr_model.specs.Requests.{on_its_way, Sending}
use Rattle.ccr_model.specs.Restores.{Restore, ChunkAsked, fetching, Fetch, places_of, asks_chunks, most_asks, asks_more}
use Rattle.ccr_model.specs.Leaders.{Session}
use Rattle.ccr_model.specs.Followers.{uuid_of}
use Rattle.ccr_law_settling.specs.Measure.{is_gone, is_told_gone}
use Rattle.ccr_law_settling.proofs.Measure.Flights.{IsPlain}
use Rattle.ccr_law_settling.specs.Within.{has_number_of}
use Rattle.ccr_law_settling.proofs.Measure.Repeating.{pushed_length, answered_before}
use Rattle.ccr_law_base.proofs.Tests.{and_false}

-- ---- the parts are asked for

-- so many parts more are asked for, by plain messages; a number that was drawn before is waited for only where it was before
pub record AsksFor (sessions : List Session) (r : Restore) (fetch : Fetch) (parts : ℕ) (done : Sending Restore) : Type 0 where
  pub asked : ℕ
  pub asks : List ChunkAsked
  pub next_request : ℕ
  pub is : done.next ≡ record r { next_request = next_request; stage = fetching (record fetch { asked = asked; asks = asks }) }
  pub further : asked ≡ fetch.asked + parts
  pub many : length asks ≡ length fetch.asks + parts
  pub before : (n : ℕ) → n < r.next_request → list_any (has_number_of n) asks ≡ true → list_any (has_number_of n) fetch.asks ≡ true
  pub plain : AllByRecursion (IsPlain sessions) done.sent

further_then : (asked one parts old : ℕ) → asked ≡ one + parts → one ≡ old + 1 → asked ≡ old + suc parts
further_then asked one parts old a b = omega arith

-- the request for the place, and the fetch with it
abbrev asking : Restore → ℕ × ℕ → ChunkAsked
asking r place = record { request = r.next_request; file = place.0; offset = place.1; progress = on_its_way }

abbrev fetch_then : Restore → Fetch → ℕ × ℕ → Fetch
fetch_then r fetch place = record fetch { asked = fetch.asked + 1; asks = fetch.asks ++ asking r place ∷ [] }

abbrev drawn_one : Restore → Restore
drawn_one r = record r { next_request = r.next_request + 1 }

asked_then : (sessions : List Session) (place : ℕ × ℕ) (places : List (ℕ × ℕ)) (r : Restore) (fetch : Fetch)
    → AsksFor sessions (drawn_one r) (fetch_then r fetch place) (length places) (asks_chunks places (record (drawn_one r) { stage = fetching (fetch_then r fetch place) }))
    → AsksFor sessions r fetch (length (place ∷ places)) (asks_chunks (place ∷ places) (record r { stage = fetching fetch }))
asked_then sessions place places r fetch rest = record {
  asked = rest.asked;
  asks = rest.asks;
  next_request = rest.next_request;
  is = rest.is;
  further = further_then _ _ _ _ rest.further refl;
  many = further_then _ _ _ _ rest.many (pushed_length fetch.asks (asking r place));
  before = λ n lt any. answered_before n r.next_request (asking r place) fetch.asks lt (rest.before n (omega arith) any);
  plain = (record { opens = refl; gone = refl }, rest.plain);
}

pub parts_asked : (sessions : List Session) (places : List (ℕ × ℕ)) (r : Restore) (fetch : Fetch)
    → AsksFor sessions r fetch (length places) (asks_chunks places (record r { stage = fetching fetch }))
parts_asked sessions [] r fetch = record {
  asked = fetch.asked;
  asks = fetch.asks;
  next_request = r.next_request;
  is = refl;
  further = omega arith;
  many = omega arith;
  before = λ n lt any. any;
  plain = tt;
}
parts_asked sessions (place ∷ places) r fetch = asked_then sessions place places r fetch (parts_asked sessions places (drawn_one r) (fetch_then r fetch place))

-- the parts that are asked for next
abbrev pub next_parts : Restore → Fetch → List (ℕ × ℕ)
next_parts r fetch = take (most_asks - length fetch.asks) (drop fetch.asked (places_of r.chunk_size fetch.sizes))

pub more_asked : (sessions : List Session) (r : Restore) (fetch : Fetch) → AsksFor sessions r fetch (length (next_parts r fetch)) (asks_more r fetch)
more_asked sessions r fetch = parts_asked sessions (next_parts r fetch) r fetch

-- no more of them than were not asked for yet
pub some_of_rest : {X : Type 0} (n asked : ℕ) (places : List X) → length (take n (drop asked places)) ≤ length places - asked
some_of_rest n asked places =
    let front : length (take n (drop asked places)) ≡ min n (length (drop asked places)) = length-take n (drop asked places) in
    let rest : length (drop asked places) ≡ length places - asked = length-drop asked places in
    omega arith

-- one request ended, and of the parts that are left so many are asked for: one part less is lacking
pub one_less_lacking : (all asked further parts without many old : ℕ) → parts ≤ all - asked → further ≡ asked + parts → many ≡ without + parts → without + 1 ≡ old
    → all - further + many < all - asked + old
one_less_lacking all asked further parts without many old few a b c = omega arith

-- ---- who is told that a session is gone

-- no message tells anything of a fetch that waits for nothing
pub none_told : (flight : List Frame) (f : ℕ) (fetch : Fetch) → is_told_gone flight f (record fetch { asks = [] }) ≡ false
none_told [] f fetch = refl
none_told (m ∷ flight) f fetch = rw (and_false (bytes_eq m.follower (uuid_of f) && is_gone m.content)) (none_told flight f fetch)
