-- Lemmas on lists: of the least number that reads ask for, of messages with the places where they were sent, and of requests.
use Rattle.std.specs.List.{AllByRecursion, list_any}
use Rattle.std.specs.Prelude.{slice_get, slice_set, remove, not}
use Rattle.std.specs.Str.{bytes_eq}
use Rattle.std.proofs.Common.{◌≡◌, ℕ, zero, suc, ◌≤◌, Bool, true, false, Some, List, [], ◌∷◌, ◌++◌, map, take, drop, refl, ap, subst, arith}
use Rattle.ccr_wire.specs.Message.{Frame}
use Rattle.ccr_model.specs.Tasks.{Read}
use Rattle.ccr_law_retention.specs.Retaining.{AllSent, low_of}
use Rattle.std.proofs.lemmas.Slice.Eq.{bytes_eq-Decides}
use Rattle.std.proofs.lemmas.Bool.{or_right, not-false}
use Rattle.ccr_law_base.proofs.Tests.{or_second, or-more}

-- ---- the least number that is asked for

pub low-next : (next : ℕ) (reads : List Read) → low_of next reads ≤ next
low-next next [] = omega arith
low-next next (r ∷ reads) = let rest : low_of next reads ≤ next = low-next next reads in omega arith

pub low-reads : (n next : ℕ) (reads : List Read) → n ≤ low_of next reads → AllByRecursion (λ (r : Read). n ≤ r.from) reads
low-reads n next [] low = tt
low-reads n next (r ∷ reads) low = (omega arith, low-reads n next reads (omega arith))

pub low-least : (n next : ℕ) (reads : List Read) → n ≤ next → AllByRecursion (λ (r : Read). n ≤ r.from) reads → n ≤ low_of next reads
low-least n next [] low all = low
low-least n next (r ∷ reads) low all =
    let first : n ≤ r.from = all.0 in
    let rest : n ≤ low_of next reads = low-least n next reads low all.1 in
    omega arith

-- ---- messages with places

pub sent-weaker : (P Q : Frame → ℕ → Type 0) → ((m : Frame) (place : ℕ) → P m place → Q m place) → (flight : List Frame) (places : List ℕ) → AllSent P flight places → AllSent Q flight places
sent-weaker P Q step [] [] all = tt
sent-weaker P Q step [] (place ∷ places) all = all
sent-weaker P Q step (m ∷ flight) [] all = all
sent-weaker P Q step (m ∷ flight) (place ∷ places) all = (step m place all.0, sent-weaker P Q step flight places all.1)

pub sent-append : (P : Frame → ℕ → Type 0) (flight more : List Frame) (places others : List ℕ) → AllSent P flight places → AllSent P more others → AllSent P (flight ++ more) (places ++ others)
sent-append P [] more [] others all also = also
sent-append P [] more (place ∷ places) others all also = absurd all
sent-append P (m ∷ flight) more [] others all also = absurd all
sent-append P (m ∷ flight) more (place ∷ places) others all also = (all.0, sent-append P flight more places others all.1 also)

pub sent-map : (P : Frame → ℕ → Type 0) (place : ℕ) (sent : List Frame) → AllByRecursion (λ (m : Frame). P m place) sent → AllSent P sent (map {A = Frame} {B = ℕ} (λ m. place) sent)
sent-map P place [] all = tt
sent-map P place (m ∷ sent) all = (all.0, sent-map P place sent all.1)

-- where each message has its place, what holds of each message at any place
pub sent-each : (P : Frame → ℕ → Type 0) (flight : List Frame) (places : List ℕ) → AllSent (λ (m : Frame) (place : ℕ). Unit {0}) flight places
    → AllByRecursion (λ (m : Frame). (place : ℕ) → P m place) flight → AllSent P flight places
sent-each P [] [] paired all = tt
sent-each P [] (place ∷ places) paired all = paired
sent-each P (m ∷ flight) [] paired all = paired
sent-each P (m ∷ flight) (place ∷ places) paired all = (all.0 place, sent-each P flight places paired.1 all.1)

sent-take : (P : Frame → ℕ → Type 0) (n : ℕ) (flight : List Frame) (places : List ℕ) → AllSent P flight places → AllSent P (take n flight) (take n places)
sent-take P zero [] [] all = tt
sent-take P (suc n) [] [] all = tt
sent-take P zero [] (place ∷ places) all = tt
sent-take P (suc n) [] (place ∷ places) all = absurd all
sent-take P zero (m ∷ flight) [] all = tt
sent-take P (suc n) (m ∷ flight) [] all = absurd all
sent-take P zero (m ∷ flight) (place ∷ places) all = tt
sent-take P (suc n) (m ∷ flight) (place ∷ places) all = (all.0, sent-take P n flight places all.1)

sent-drop : (P : Frame → ℕ → Type 0) (n : ℕ) (flight : List Frame) (places : List ℕ) → AllSent P flight places → AllSent P (drop n flight) (drop n places)
sent-drop P zero [] [] all = tt
sent-drop P (suc n) [] [] all = tt
sent-drop P zero [] (place ∷ places) all = absurd all
sent-drop P (suc n) [] (place ∷ places) all = absurd all
sent-drop P zero (m ∷ flight) [] all = absurd all
sent-drop P (suc n) (m ∷ flight) [] all = absurd all
sent-drop P zero (m ∷ flight) (place ∷ places) all = all
sent-drop P (suc n) (m ∷ flight) (place ∷ places) all = sent-drop P n flight places all.1

pub sent-remove : (P : Frame → ℕ → Type 0) (at : ℕ) (flight : List Frame) (places : List ℕ) → AllSent P flight places → AllSent P (remove flight at) (remove places at)
sent-remove P at flight places all =
    sent-append P (take at flight) (drop (suc at) flight) (take at places) (drop (suc at) places) (sent-take P at flight places all) (sent-drop P (suc at) flight places all)

-- what holds of the message at a place of the list
pub record SentAt (P : Frame → ℕ → Type 0) (places : List ℕ) (at : ℕ) (m : Frame) : Type 0 where
  pub place : ℕ
  pub is : slice_get places at ≡ Some place
  pub holds : P m place

pub sent-at : (P : Frame → ℕ → Type 0) (flight : List Frame) (places : List ℕ) (at : ℕ) (m : Frame) → AllSent P flight places → slice_get flight at ≡ Some m → SentAt P places at m
sent-at P [] places at m all is = absurd cc
sent-at P (x ∷ flight) [] at m all is = absurd all
sent-at P (x ∷ flight) (place ∷ places) zero m all is =
    let same : x ≡ m = cc in record { place = place; is = refl; holds = subst (λ (y : Frame). P y place) same all.0 }
sent-at P (x ∷ flight) (place ∷ places) (suc at) m all is =
    let rest = sent-at P flight places at m all.1 is in record { place = rest.place; is = rest.is; holds = rest.holds }

-- ---- tests on lists

pub any-more : {X : Type 0} (test : X → Bool) (new xs : List X) → list_any test xs ≡ true → list_any test (new ++ xs) ≡ true
any-more test [] xs some = some
any-more test (x ∷ new) xs some = or_right (test x) (list_any test (new ++ xs)) (any-more test new xs some)

pub none-before : {X : Type 0} (test : X → Bool) (new xs : List X) → list_any test (new ++ xs) ≡ false → list_any test xs ≡ false
none-before test [] xs none = none
none-before test (x ∷ new) xs none = none-before test new xs (or_second (test x) (list_any test (new ++ xs)) none)

pub any-front : {X : Type 0} (test : X → Bool) (new xs : List X) → list_any test new ≡ true → list_any test (new ++ xs) ≡ true
any-front test [] xs some = absurd cc
any-front test (x ∷ new) xs some = or-more (test x) (list_any test new) (list_any test (new ++ xs)) (λ rest. any-front test new xs rest) some

pub none-front : {X : Type 0} (test : X → Bool) (new xs : List X) → list_any test (new ++ xs) ≡ false → list_any test new ≡ false
none-front test new xs none =
    (elim (list_any test new) as (λ (b : Bool). list_any test new ≡ b → b ≡ false) [
      | true ↦ λ is. absurd (let some = any-front test new xs is in cc)
      | false ↦ λ isnt. refl
    ]) refl

pub not_other : (a b : List ℕ) → not (bytes_eq a b) ≡ false → a ≡ b
not_other a b same = (bytes_eq-Decides a b).0 (not-false (bytes_eq a b) same)

-- ---- places of a list

pub set-other : {X : Type 0} (xs : List X) (i j : ℕ) (y : X) → (i ≡ j → ⊥) → slice_get (slice_set xs i y) j ≡ slice_get xs j
set-other [] zero j y other = refl
set-other [] (suc i) j y other = refl
set-other (z ∷ xs) zero zero y other = absurd (other refl)
set-other (z ∷ xs) zero (suc j) y other = refl
set-other (z ∷ xs) (suc i) zero y other = refl
set-other (z ∷ xs) (suc i) (suc j) y other = set-other xs i j y (λ e. other (ap suc e))
