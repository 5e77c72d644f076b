-- What each change of a fetch makes of the claims on it.
use Rattle.std.specs.List.{AllByRecursion, list_any}
use Rattle.std.specs.Prelude.{find, filter, slice_get}
use Rattle.std.proofs.Common.{◌≡◌, ℕ, zero, suc, ◌+◌, ◌<◌, ◌≤◌, ◌==◌, ◌&&◌, ◌||◌, ◌⊎◌, inl, inr, Bool, true, false, Option, Some, List, [], ◌∷◌, ◌++◌, take, drop, refl, sym, ◌∙◌, ap, subst, arith}
use Rattle.std.proofs.lemmas.Bool.Decides.{nat_tests}
use Rattle.ccr_model.specs.Answers.{IsIn}
use Rattle.ccr_model.specs.Requests.{Progress, on_its_way, is_sent}
use Rattle.ccr_model.specs.Restores.{Fetch, ChunkAsked, Chunk, places_of, changed_ask, without_ask, ask_sent}
use Rattle.ccr_model.specs.Leaders.{Session}
use Rattle.ccr_model.specs.LeaderFrames.{chunk_of}
use Rattle.ccr_law_base.proofs.Cases.{on_if}
use Rattle.ccr_law_base.proofs.Lists.{All-weaker, All-push, All-filter, some_equal, All-without_ask}
use Rattle.ccr_law_followers.specs.Fetches.{asks_for, is_part, is_covered, AskedApart, FetchOk}
use Rattle.ccr_law_base.proofs.Tests.{or_true, or_none}

-- ---- lists of requests

abbrev pub is_asked : ℕ × ℕ → List ChunkAsked → Bool
is_asked place asks = list_any (asks_for place) asks

pub or_end : (a b c : Bool) → (a || (b || c)) ≡ ((a || b) || c)
or_end true b c = refl
or_end false b c = refl

pub any-push : {X : Type 0} (test : X → Bool) (xs : List X) (x : X) → list_any test (xs ++ x ∷ []) ≡ (list_any test xs || test x)
any-push test [] x = or_none (test x)
any-push test (y ∷ xs) x = ap (λ (b : Bool). test y || b) (any-push test xs x) ∙ or_end (test y) (list_any test xs) (test x)

pub All-changed_ask : (P : ChunkAsked → Type 0) (request : ℕ) (later : Progress) → ((a : ChunkAsked) → P a → P (record a { progress = later })) → (asks : List ChunkAsked)
    → AllByRecursion P asks → AllByRecursion P (changed_ask request (λ a. record a { progress = later }) asks)
All-changed_ask P request later keeps [] all = tt
All-changed_ask P request later keeps (a ∷ asks) all =
    on_if (AllByRecursion P) (a.request == request) (record a { progress = later } ∷ asks) (a ∷ changed_ask request (λ x. record x { progress = later }) asks)
    (λ is. (keeps a all.0, all.1)) (λ isnt. (all.0, All-changed_ask P request later keeps asks all.1))

pub asked-changed : (place : ℕ × ℕ) (request : ℕ) (later : Progress) (asks : List ChunkAsked)
    → is_asked place (changed_ask request (λ a. record a { progress = later }) asks) ≡ is_asked place asks
asked-changed place request later [] = refl
asked-changed place request later (a ∷ asks) =
    on_if (λ (xs : List ChunkAsked). is_asked place xs ≡ is_asked place (a ∷ asks)) (a.request == request)
    (record a { progress = later } ∷ asks) (a ∷ changed_ask request (λ x. record x { progress = later }) asks)
    (λ is. refl) (λ isnt. ap (λ (b : Bool). asks_for place a || b) (asked-changed place request later asks))

pub apart-changed : (request : ℕ) (later : Progress) (asks : List ChunkAsked) → AskedApart asks → AskedApart (changed_ask request (λ a. record a { progress = later }) asks)
apart-changed request later [] apart = tt
apart-changed request later (a ∷ asks) apart =
    on_if AskedApart (a.request == request) (record a { progress = later } ∷ asks) (a ∷ changed_ask request (λ x. record x { progress = later }) asks)
    (λ is. apart)
    (λ isnt. (
      All-changed_ask (λ (x : ChunkAsked). (x.request == a.request) ≡ false) request later (λ x h. h) asks apart.0,
      apart-changed request later asks apart.1,
    ))

pub apart-without : (request : ℕ) (asks : List ChunkAsked) → AskedApart asks → AskedApart (without_ask request asks)
apart-without request [] apart = tt
apart-without request (a ∷ asks) apart =
    on_if AskedApart (a.request == request) asks (a ∷ without_ask request asks) (λ is. apart.1)
    (λ isnt. (All-without_ask (λ (x : ChunkAsked). (x.request == a.request) ≡ false) request asks apart.0, apart-without request asks apart.1))

pub apart-push : (asks : List ChunkAsked) (new : ChunkAsked) → AllByRecursion (λ (a : ChunkAsked). (new.request == a.request) ≡ false) asks → AskedApart asks → AskedApart (asks ++ new ∷ [])
apart-push [] new others apart = (tt, tt)
apart-push (a ∷ asks) new others apart =
    (All-push (λ (x : ChunkAsked). (x.request == a.request) ≡ false) asks new apart.0 others.0, apart-push asks new others.1 apart.1)

pub apart-filter : (test : ChunkAsked → Bool) (asks : List ChunkAsked) → AskedApart asks → AskedApart (filter test asks)
apart-filter test [] apart = tt
apart-filter test (a ∷ asks) apart =
    on_if AskedApart (test a) (a ∷ filter test asks) (filter test asks)
    (λ is. (All-filter (λ (x : ChunkAsked). (x.request == a.request) ≡ false) test asks apart.0, apart-filter test asks apart.1))
    (λ isnt. apart-filter test asks apart.1)

pub All-ins : (asks : List ChunkAsked) → AllByRecursion (λ (a : ChunkAsked). IsIn asks a) asks
All-ins [] = tt
All-ins (a ∷ asks) = (inl refl, All-weaker (λ (x : ChunkAsked). IsIn asks x) (λ (x : ChunkAsked). IsIn (a ∷ asks) x) (λ x there. inr there) asks (All-ins asks))

pub of_in : (P : ChunkAsked → Type 0) (asks : List ChunkAsked) (a : ChunkAsked) → AllByRecursion P asks → IsIn asks a → P a
of_in P [] a all there = absurd there
of_in P (b ∷ asks) a all (inl e) = subst P e all.0
of_in P (b ∷ asks) a all (inr there) = of_in P asks a all.1 there

pub found_in : (f : Fetch) (request : ℕ) (a : ChunkAsked) → ask_sent f request ≡ Some a → IsIn f.asks a
found_in f request a found = by_find f.asks found
  where
    by_find : (asks : List ChunkAsked) → find (λ x. (x.request == request) && is_sent x.progress) asks ≡ Some a → IsIn asks a
    by_find [] at = cc
    by_find (x ∷ asks) at =
        on_if (λ (o : Option ChunkAsked). o ≡ Some a → IsIn (x ∷ asks) a) ((x.request == request) && is_sent x.progress) (Some x)
        (find (λ y. (y.request == request) && is_sent y.progress) asks)
        (λ is e. inl (some_equal x a e)) (λ isnt e. inr (by_find asks e)) at

-- another request stays
pub in-without : (request : ℕ) (asks : List ChunkAsked) (b : ChunkAsked) → (b.request == request) ≡ false → IsIn asks b → IsIn (without_ask request asks) b
in-without request [] b isnt there = absurd there
in-without request (a ∷ asks) b isnt there =
    on_if (λ (xs : List ChunkAsked). IsIn xs b) (a.request == request) asks (a ∷ without_ask request asks)
    (λ is. gone is there) (λ other. kept (λ rest. in-without request asks b isnt rest) there)
  where
    gone : (a.request == request) ≡ true → (a ≡ b) ⊎ IsIn asks b → IsIn asks b
    gone is (inl e) = let same : (a.request == request) ≡ (b.request == request) = ap (λ (x : ChunkAsked). x.request == request) e in absurd (cc)
    gone is (inr rest) = rest

    kept : (IsIn asks b → IsIn (without_ask request asks) b) → (a ≡ b) ⊎ IsIn asks b → (a ≡ b) ⊎ IsIn (without_ask request asks) b
    kept further (inl e) = inl e
    kept further (inr rest) = inr (further rest)

-- what is asked for is asked for by another request, or by the one that goes
pub kept_asked : (place : ℕ × ℕ) (asks : List ChunkAsked) (a : ChunkAsked) → AskedApart asks → IsIn asks a → is_asked place asks ≡ true
    → (is_asked place (without_ask a.request asks) || asks_for place a) ≡ true
kept_asked place [] a apart there asked = absurd there
kept_asked place (b ∷ asks) a apart there asked =
    on_if (λ (xs : List ChunkAsked). (is_asked place xs || asks_for place a) ≡ true) (b.request == a.request) asks (b ∷ without_ask a.request asks)
    (λ is. goes is there) (λ isnt. stays (λ rest is. kept_asked place asks a apart.1 rest is) isnt there)
  where
    swapped : (x y : Bool) → (x || y) ≡ true → (y || x) ≡ true
    swapped true y is = or_true y
    swapped false true is = refl
    swapped false false is = cc

    goes : (b.request == a.request) ≡ true → (b ≡ a) ⊎ IsIn asks a → (is_asked place asks || asks_for place a) ≡ true
    goes is (inl e) = swapped (asks_for place a) (is_asked place asks) (subst (λ (x : ChunkAsked). (asks_for place x || is_asked place asks) ≡ true) e asked)
    goes is (inr rest) =
        let other : (a.request == b.request) ≡ false = of_in (λ (x : ChunkAsked). (x.request == b.request) ≡ false) asks a apart.0 rest in
        let same : (a.request == b.request) ≡ true = grind (arith, nat_tests) in
        absurd (cc)

    on_either : (x y z : Bool) → (x || y) ≡ true → (y ≡ true → z ≡ true) → (x || z) ≡ true
    on_either true y z is more = refl
    on_either false y z is more = more is

    stays : (IsIn asks a → is_asked place asks ≡ true → (is_asked place (without_ask a.request asks) || asks_for place a) ≡ true) → (b.request == a.request) ≡ false → (b ≡ a) ⊎ IsIn asks a → ((asks_for place b || is_asked place (without_ask a.request asks)) || asks_for place a) ≡ true
    stays further isnt (inl e) = let same : (b.request == a.request) ≡ true = (let own : b.request ≡ a.request = ap (λ (x : ChunkAsked). x.request) e in grind (arith, nat_tests)) in absurd (cc)
    stays further isnt (inr rest) =
        sym (or_end (asks_for place b) (is_asked place (without_ask a.request asks)) (asks_for place a))
        ∙ on_either (asks_for place b) (is_asked place asks) (is_asked place (without_ask a.request asks) || asks_for place a) asked (λ is. further rest is)

-- ---- places

pub take_next : (xs : List (ℕ × ℕ)) (n : ℕ) (x : ℕ × ℕ) → slice_get xs n ≡ Some x → take (n + 1) xs ≡ take n xs ++ x ∷ []
take_next xs n x at = ap (λ (k : ℕ). take k xs) next ∙ by_place xs n x at
  where
    next : n + 1 ≡ suc n
    next = omega arith

    by_place : (xs : List (ℕ × ℕ)) (n : ℕ) (x : ℕ × ℕ) → slice_get xs n ≡ Some x → take (suc n) xs ≡ take n xs ++ x ∷ []
    by_place [] n x at = cc
    by_place (y ∷ xs) zero x at = ap (λ (z : ℕ × ℕ). z ∷ take zero xs) (some_equal y x at) ∙ ap (λ (zs : List (ℕ × ℕ)). x ∷ zs) (nothing xs)
      where
        nothing : (ys : List (ℕ × ℕ)) → take zero ys ≡ []
        nothing [] = refl
        nothing (z ∷ ys) = refl
    by_place (y ∷ xs) (suc n) x at = ap (λ (zs : List (ℕ × ℕ)). y ∷ zs) (by_place xs n x at)

pub in_front : (n m : ℕ) (xs : List (ℕ × ℕ)) (j : ℕ) (x : ℕ × ℕ) → slice_get (take m (drop n xs)) j ≡ Some x → slice_get xs (n + j) ≡ Some x
in_front n m xs j x at = by_drop n xs (by_take m (drop n xs) j at)
  where
    by_take : (m : ℕ) (ys : List (ℕ × ℕ)) (j : ℕ) → slice_get (take m ys) j ≡ Some x → slice_get ys j ≡ Some x
    by_take zero [] j is = cc
    by_take zero (y ∷ ys) j is = cc
    by_take (suc m) [] j is = cc
    by_take (suc m) (y ∷ ys) zero is = is
    by_take (suc m) (y ∷ ys) (suc j) is = by_take m ys j is

    by_drop : (n : ℕ) (ys : List (ℕ × ℕ)) → slice_get (drop n ys) j ≡ Some x → slice_get ys (n + j) ≡ Some x
    by_drop zero [] is = cc
    by_drop (suc n) [] is = cc
    by_drop zero (y ∷ ys) is = let e : zero + j ≡ j = omega arith in ap (slice_get (y ∷ ys)) e ∙ is
    by_drop (suc n) (y ∷ ys) is = let e : suc n + j ≡ suc (n + j) = omega arith in ap (slice_get (y ∷ ys)) e ∙ by_drop n ys is

-- ---- the claims on a fetch

pub fetch-lost : (opened : List Session) (size next : ℕ) (f : Fetch) (request : ℕ) (later : Progress) → FetchOk opened size next f
    → FetchOk opened size next (record f { asks = changed_ask request (λ a. record a { progress = later }) f.asks })
fetch-lost opened size next f request later ok = record {
  session = ok.session;
  is_opened = ok.is_opened;
  same_count = ok.same_count;
  same_sizes = ok.same_sizes;
  whole = ok.whole;
  covered = All-weaker (λ (place : ℕ × ℕ). is_covered f.asks f.chunks place ≡ true)
      (λ (place : ℕ × ℕ). is_covered (changed_ask request (λ a. record a { progress = later }) f.asks) f.chunks place ≡ true)
      (λ place is. ap (λ (b : Bool). b || list_any (is_part place) f.chunks) (asked-changed place request later f.asks) ∙ is) (take f.asked (places_of size f.sizes)) ok.covered;
  apart = apart-changed request later f.asks ok.apart;
  drawn = All-changed_ask (λ (a : ChunkAsked). a.request < next) request later (λ a h. h) f.asks ok.drawn;
}

pub fresh_number : (next : ℕ) (new : ChunkAsked) (asks : List ChunkAsked) → new.request ≡ next → AllByRecursion (λ (a : ChunkAsked). a.request < next) asks
    → AllByRecursion (λ (a : ChunkAsked). (new.request == a.request) ≡ false) asks
fresh_number next new asks is drawn =
    All-weaker (λ (a : ChunkAsked). a.request < next) (λ (a : ChunkAsked). (new.request == a.request) ≡ false) (λ a less. grind (arith, nat_tests)) asks drawn

pub drawn-push : (next : ℕ) (new : ChunkAsked) (asks : List ChunkAsked) → new.request ≡ next → AllByRecursion (λ (a : ChunkAsked). a.request < next) asks
    → AllByRecursion (λ (a : ChunkAsked). a.request < next + 1) (asks ++ new ∷ [])
drawn-push next new asks is drawn =
    All-push (λ (a : ChunkAsked). a.request < next + 1) asks new
    (All-weaker (λ (a : ChunkAsked). a.request < next) (λ (a : ChunkAsked). a.request < next + 1) (λ a less. omega arith) asks drawn) (omega arith)

pub covered-more : (a b c : Bool) → (a || c) ≡ true → ((a || b) || c) ≡ true
covered-more true b c is = refl
covered-more false true c is = refl
covered-more false false c is = is

-- a part is asked for
pub fetch-asks : (opened : List Session) (size next : ℕ) (f : Fetch) (place : ℕ × ℕ) → slice_get (places_of size f.sizes) f.asked ≡ Some place → FetchOk opened size next f
    → FetchOk opened size (next + 1) (record f {
      asked = f.asked + 1;
      asks = f.asks ++ record { request = next; file = place.0; offset = place.1; progress = on_its_way } ∷ [];
    })
fetch-asks opened size next f place at ok =
    let new : ChunkAsked = record { request = next; file = place.0; offset = place.1; progress = on_its_way } in
    record {
      session = ok.session;
      is_opened = ok.is_opened;
      same_count = ok.same_count;
      same_sizes = ok.same_sizes;
      whole = ok.whole;
      covered = subst (AllByRecursion (λ (q : ℕ × ℕ). is_covered (f.asks ++ new ∷ []) f.chunks q ≡ true)) (sym (take_next (places_of size f.sizes) f.asked place at))
          (All-push (λ (q : ℕ × ℕ). is_covered (f.asks ++ new ∷ []) f.chunks q ≡ true) (take f.asked (places_of size f.sizes)) place
          (All-weaker (λ (q : ℕ × ℕ). is_covered f.asks f.chunks q ≡ true) (λ (q : ℕ × ℕ). is_covered (f.asks ++ new ∷ []) f.chunks q ≡ true)
          (λ q is. ap (λ (b : Bool). b || list_any (is_part q) f.chunks) (any-push (asks_for q) f.asks new)
          ∙ covered-more (is_asked q f.asks) (asks_for q new) (list_any (is_part q) f.chunks) is) (take f.asked (places_of size f.sizes)) ok.covered)
          (ap (λ (b : Bool). b || list_any (is_part place) f.chunks) (any-push (asks_for place) f.asks new ∙ (ap (λ (b : Bool). is_asked place f.asks || b) (own place.0 place.1) ∙ or_true (is_asked place f.asks)))));
      apart = apart-push f.asks new (fresh_number next new f.asks refl ok.drawn) ok.apart;
      drawn = drawn-push next new f.asks refl ok.drawn;
    }
  where
    own : (a b : ℕ) → ((a == a) && (b == b)) ≡ true
    own a b = grind (arith, nat_tests)

-- a request is sent again under the next number
pub fetch-again : (opened : List Session) (size next : ℕ) (f : Fetch) (a : ChunkAsked) → IsIn f.asks a → FetchOk opened size next f
    → FetchOk opened size (next + 1) (record f { asks = without_ask a.request f.asks ++ record a { request = next; progress = on_its_way } ∷ [] })
fetch-again opened size next f a there ok =
    let new : ChunkAsked = record a { request = next; progress = on_its_way } in
    let rest : AllByRecursion (λ (x : ChunkAsked). x.request < next) (without_ask a.request f.asks) = All-without_ask (λ (x : ChunkAsked). x.request < next) a.request f.asks ok.drawn in
    record {
      session = ok.session;
      is_opened = ok.is_opened;
      same_count = ok.same_count;
      same_sizes = ok.same_sizes;
      whole = ok.whole;
      covered = All-weaker (λ (q : ℕ × ℕ). is_covered f.asks f.chunks q ≡ true) (λ (q : ℕ × ℕ). is_covered (without_ask a.request f.asks ++ new ∷ []) f.chunks q ≡ true)
          (λ q is. ap (λ (b : Bool). b || list_any (is_part q) f.chunks) (any-push (asks_for q) (without_ask a.request f.asks) new)
          ∙ either (is_asked q f.asks) (is_asked q (without_ask a.request f.asks) || asks_for q a) (list_any (is_part q) f.chunks) is
          (λ asked. kept_asked q f.asks a ok.apart there asked)) (take f.asked (places_of size f.sizes)) ok.covered;
      apart = apart-push (without_ask a.request f.asks) new (fresh_number next new (without_ask a.request f.asks) refl rest) (apart-without a.request f.asks ok.apart);
      drawn = drawn-push next new (without_ask a.request f.asks) refl rest;
    }
  where
    either : (x y z : Bool) → (x || z) ≡ true → (x ≡ true → y ≡ true) → (y || z) ≡ true
    either true y z is more = ap (λ (b : Bool). b || z) (more refl)
    either false true z is more = refl
    either false false z is more = is

-- a part has come
pub fetch-came : (opened : List Session) (size next : ℕ) (f : Fetch) (a : ChunkAsked) (bytes : List ℕ) → IsIn f.asks a → (ok : FetchOk opened size next f)
    → bytes ≡ chunk_of ok.session a.file a.offset size
    → FetchOk opened size next (record f { asks = without_ask a.request f.asks; chunks = f.chunks ++ record { file = a.file; offset = a.offset; bytes = bytes } ∷ [] })
fetch-came opened size next f a bytes there ok is_whole =
    let new : Chunk = record { file = a.file; offset = a.offset; bytes = bytes } in
    record {
      session = ok.session;
      is_opened = ok.is_opened;
      same_count = ok.same_count;
      same_sizes = ok.same_sizes;
      whole = All-push (λ (c : Chunk). c.bytes ≡ chunk_of ok.session c.file c.offset size) f.chunks new ok.whole is_whole;
      covered = All-weaker (λ (q : ℕ × ℕ). is_covered f.asks f.chunks q ≡ true) (λ (q : ℕ × ℕ). is_covered (without_ask a.request f.asks) (f.chunks ++ new ∷ []) q ≡ true)
          (λ q is. ap (λ (b : Bool). is_asked q (without_ask a.request f.asks) || b) (any-push (is_part q) f.chunks new)
          ∙ either (is_asked q f.asks) (is_asked q (without_ask a.request f.asks)) (asks_for q a) (list_any (is_part q) f.chunks) is
          (λ asked. kept_asked q f.asks a ok.apart there asked)) (take f.asked (places_of size f.sizes)) ok.covered;
      apart = apart-without a.request f.asks ok.apart;
      drawn = All-without_ask (λ (x : ChunkAsked). x.request < next) a.request f.asks ok.drawn;
    }
  where
    either : (x y w z : Bool) → (x || z) ≡ true → (x ≡ true → (y || w) ≡ true) → (y || (z || w)) ≡ true
    either x true w z is more = refl
    either x false w true is more = refl
    either true false w false is more = more refl
    either false false w false is more = cc

-- fewer numbers were drawn before
pub fetch-next : (opened : List Session) (size next later : ℕ) (f : Fetch) → next ≤ later → FetchOk opened size next f → FetchOk opened size later f
fetch-next opened size next later f le ok = record {
  session = ok.session;
  is_opened = ok.is_opened;
  same_count = ok.same_count;
  same_sizes = ok.same_sizes;
  whole = ok.whole;
  covered = ok.covered;
  apart = ok.apart;
  drawn = All-weaker (λ (a : ChunkAsked). a.request < next) (λ (a : ChunkAsked). a.request < later) (λ a less. omega arith) f.asks ok.drawn;
}
