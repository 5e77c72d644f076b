-- The requests of a bootstrap for parts of files by their numbers: one is sent, waits, is sent again or ends.
use Rattle.std.specs.Prelude.{find, ◌==◌, ◌&&◌}
use Rattle.std.specs.List.{AllByRecursion}
use Rattle.std.proofs.Common.{◌≡◌, ℕ, ◌+◌, ◌<◌, Bool, true, false, Some, None, List, [], ◌∷◌, ◌++◌, refl, ◌∙◌, ap, arith, inl}
use Rattle.std.proofs.lemmas.Bool.Decides.{nat_tests}
use Rattle.ccr_model.specs.Requests.{Progress, is_sent}
use Rattle.ccr_model.specs.Restores.{ChunkAsked, changed_ask, without_ask}
use Rattle.ccr_law_messages.specs.Asking.{IsNoMore, AsksApart}
use Rattle.ccr_law_messages.specs.Saying.{Setting, IsPlaceOf, AreGoodAsks}
use Rattle.ccr_law_messages.proofs.Finds.{find-takes, find-none, find-back, find-push-other, no_more-cons, no_more-leaves, no_more-changes}
use Rattle.ccr_law_base.proofs.Lists.{All-weaker, All-push, All-without_ask}
use Rattle.ccr_law_base.proofs.Cases.{on_if}
use Rattle.ccr_law_base.proofs.Tests.{and_first}

abbrev pub asks_under : ℕ → ChunkAsked → Bool
asks_under n a = (a.request == n) && is_sent a.progress

none-under : (n : ℕ) (a : ChunkAsked) → (a.request == n) ≡ false → asks_under n a ≡ false
none-under n a other = ap (λ (b : Bool). b && is_sent a.progress) other

alone : (n : ℕ) (a : ChunkAsked) (asks : List ChunkAsked) → AllByRecursion (λ (x : ChunkAsked). (x.request == a.request) ≡ false) asks → asks_under n a ≡ true
    → find (asks_under n) asks ≡ None
alone n a asks apart is =
    let same : (a.request == n) ≡ true = and_first (a.request == n) (is_sent a.progress) is in
    find-none (asks_under n) asks (All-weaker (λ (x : ChunkAsked). (x.request == a.request) ≡ false) (λ (x : ChunkAsked). asks_under n x ≡ false)
    (λ x other. none-under n x (grind (arith, nat_tests))) asks apart)

pub later-less : (n q : ℕ) (f : ChunkAsked → ChunkAsked) → ((x : ChunkAsked) → (x.request == q) ≡ true → asks_under n (f x) ≡ false) → (asks : List ChunkAsked) → AsksApart asks
    → IsNoMore (find (asks_under n) asks) (find (asks_under n) (changed_ask q f asks))
later-less n q f none [] apart = inl refl
later-less n q f none (a ∷ asks) apart =
    on_if (λ (ys : List ChunkAsked). IsNoMore (find (asks_under n) (a ∷ asks)) (find (asks_under n) ys)) (a.request == q) (f a ∷ asks) (a ∷ changed_ask q f asks)
    (λ is. no_more-changes (asks_under n) a (f a) asks (none a is) (alone n a asks apart.0))
    (λ isnt. no_more-cons (asks_under n) a asks (changed_ask q f asks) (later-less n q f none asks apart.1))

pub without-less : (n q : ℕ) (asks : List ChunkAsked) → AsksApart asks → IsNoMore (find (asks_under n) asks) (find (asks_under n) (without_ask q asks))
without-less n q [] apart = inl refl
without-less n q (a ∷ asks) apart =
    on_if (λ (ys : List ChunkAsked). IsNoMore (find (asks_under n) (a ∷ asks)) (find (asks_under n) ys)) (a.request == q) asks (a ∷ without_ask q asks)
    (λ is. no_more-leaves (asks_under n) a asks (alone n a asks apart.0))
    (λ isnt. no_more-cons (asks_under n) a asks (without_ask q asks) (without-less n q asks apart.1))

pub push-less : (n next : ℕ) (a : ChunkAsked) (asks : List ChunkAsked) → n < next → a.request ≡ next → IsNoMore (find (asks_under n) asks) (find (asks_under n) (asks ++ a ∷ []))
push-less n next a asks low new = inl (find-push-other (asks_under n) asks a (none-under n a (grind (arith, nat_tests))))

-- the one that is sent under the next number is found
pub push-found : (next : ℕ) (a : ChunkAsked) (asks : List ChunkAsked) → AllByRecursion (λ (x : ChunkAsked). x.request < next) asks → asks_under next a ≡ true
    → find (asks_under next) (asks ++ a ∷ []) ≡ Some a
push-found next a asks low is =
    find-back (asks_under next) asks (a ∷ []) (All-weaker (λ (x : ChunkAsked). x.request < next) (λ (x : ChunkAsked). asks_under next x ≡ false) (λ x less. none-under next x (grind (arith, nat_tests))) asks low)
    ∙ find-takes (asks_under next) a [] is

-- ---- good requests

All-changed : (P : ChunkAsked → Type 0) (q : ℕ) (f : ChunkAsked → ChunkAsked) → ((a : ChunkAsked) → P a → P (f a)) → (asks : List ChunkAsked) → AllByRecursion P asks → AllByRecursion P (changed_ask q f asks)
All-changed P q f keeps [] all = tt
All-changed P q f keeps (a ∷ asks) all =
    on_if (AllByRecursion P) (a.request == q) (f a ∷ asks) (a ∷ changed_ask q f asks) (λ is. (keeps a all.0, all.1)) (λ isnt. (all.0, All-changed P q f keeps asks all.1))

abbrev pub put_off : Progress → ChunkAsked → ChunkAsked
put_off later a = record a { progress = later }

later-apart : (later : Progress) (q : ℕ) (asks : List ChunkAsked) → AsksApart asks → AsksApart (changed_ask q (put_off later) asks)
later-apart later q [] apart = tt
later-apart later q (a ∷ asks) apart =
    on_if AsksApart (a.request == q) (put_off later a ∷ asks) (a ∷ changed_ask q (put_off later) asks) (λ is. apart)
    (λ isnt. (All-changed (λ (x : ChunkAsked). (x.request == a.request) ≡ false) q (put_off later) (λ x other. other) asks apart.0, later-apart later q asks apart.1))

without-apart : (q : ℕ) (asks : List ChunkAsked) → AsksApart asks → AsksApart (without_ask q asks)
without-apart q [] apart = tt
without-apart q (a ∷ asks) apart =
    on_if AsksApart (a.request == q) asks (a ∷ without_ask q asks) (λ is. apart.1)
    (λ isnt. (All-without_ask (λ (x : ChunkAsked). (x.request == a.request) ≡ false) q asks apart.0, without-apart q asks apart.1))

push-apart : (a : ChunkAsked) (asks : List ChunkAsked) → AllByRecursion (λ (x : ChunkAsked). (a.request == x.request) ≡ false) asks → AsksApart asks → AsksApart (asks ++ a ∷ [])
push-apart a [] other apart = (tt, tt)
push-apart a (x ∷ asks) other apart = (All-push (λ (y : ChunkAsked). (y.request == x.request) ≡ false) asks a apart.0 other.0, push-apart a asks other.1 apart.1)

pub good-later : (e : Setting) (session next q : ℕ) (later : Progress) (asks : List ChunkAsked) → AreGoodAsks e session next asks → AreGoodAsks e session next (changed_ask q (put_off later) asks)
good-later e session next q later asks good = record {
  drawn = All-changed (λ (a : ChunkAsked). a.request < next) q (put_off later) (λ a less. less) asks good.drawn;
  places = All-changed (λ (a : ChunkAsked). IsPlaceOf e session a.file a.offset) q (put_off later) (λ a place. place) asks good.places;
  apart = later-apart later q asks good.apart;
}

pub good-without : (e : Setting) (session next q : ℕ) (asks : List ChunkAsked) → AreGoodAsks e session next asks → AreGoodAsks e session next (without_ask q asks)
good-without e session next q asks good = record {
  drawn = All-without_ask (λ (a : ChunkAsked). a.request < next) q asks good.drawn;
  places = All-without_ask (λ (a : ChunkAsked). IsPlaceOf e session a.file a.offset) q asks good.places;
  apart = without-apart q asks good.apart;
}

pub good-push : (e : Setting) (session next : ℕ) (a : ChunkAsked) (asks : List ChunkAsked) → a.request ≡ next → IsPlaceOf e session a.file a.offset
    → AreGoodAsks e session next asks → AreGoodAsks e session (next + 1) (asks ++ a ∷ [])
good-push e session next a asks new place good = record {
  drawn = All-push (λ (x : ChunkAsked). x.request < next + 1) asks a
      (All-weaker (λ (x : ChunkAsked). x.request < next) (λ (x : ChunkAsked). x.request < next + 1) (λ x less. omega arith) asks good.drawn) (omega arith);
  places = All-push (λ (x : ChunkAsked). IsPlaceOf e session x.file x.offset) asks a good.places place;
  apart = push-apart a asks (All-weaker (λ (x : ChunkAsked). x.request < next) (λ (x : ChunkAsked). (a.request == x.request) ≡ false) (λ x less. grind (arith, nat_tests)) asks good.drawn) good.apart;
}
