-- What a bootstrap sends is true of what it then asks for, and what it asked for it still asks for, or no more.
use Rattle.std.specs.Prelude.{find, filter, not, ◌==◌, ◌&&◌, IfSome}
use Rattle.std.specs.Str.{bytes_eq}
use Rattle.std.proofs.lemmas.Slice.Eq.{bytes_eq-Decides}
use Rattle.std.proofs.lemmas.Bool.{not-false}
use Rattle.std.specs.Option.{option_map}
use Rattle.std.specs.List.{AllByRecursion}
use Rattle.std.proofs.Common.{◌≡◌, ℕ, ◌+◌, ◌-◌, ◌<◌, ◌≤◌, Bool, true, false, Option, Some, None, List, [], ◌∷◌, ◌++◌, length, take, drop, refl, sym, ◌∙◌, ap, subst, arith, inl, inr}
use Rattle.ccr_wire.specs.Message.{Frame}
use Rattle.ccr_wire.specs.declared.kind.LeaseResult.TheVariants as results
use Rattle.ccr_wire.specs.declared.content.Content.{Content}
use Rattle.ccr_wire.specs.declared.content.Content.TheVariants as contents
use Rattle.ccr_model.specs.Requests.{Progress, on_its_way, is_due, Sending, quiet}
use Rattle.ccr_model.specs.Restores.{Restore, Stage, leasing, opening, fetching, Fetch, ChunkAsked, Chunk, places_of, asks_lease, asks_session, asks_chunk, asks_chunks, most_asks, asks_more, restore_waits, changed_ask, without_ask, restore_lost, chunk_again, chunks_again, restore_ticked, answers, ask_sent, opened, chunk_came, hear_leasing, hear_opening, hear_fetching, hear_asked, opens_other, ends_restore, restore_hears}
use Rattle.ccr_model.specs.Followers.{restoring}
use Rattle.ccr_law_messages.specs.Asking.{Part, part_of, part_in, IsNoMore, Follows}
use Rattle.ccr_law_messages.specs.Saying.{Setting, IsAsItOpened, IsPlaceOf, HasBytes, IsWhole, IsTruePart, IsTrueSaid, IsTrueMessage, AreGoodAsks, IsGoodStage, IsGoodRestore}
use Rattle.ccr_law_messages.proofs.Finds.{no_more-trans}
use Rattle.ccr_law_messages.proofs.AskLists.{asks_under, later-less, without-less, push-less, push-found, put_off, good-later, good-without, good-push}
use Rattle.ccr_law_messages.proofs.Places.{all-places}
use Rattle.ccr_law_messages.proofs.Moving.{Goes, goes-then, goes-still}
use Rattle.ccr_law_base.proofs.Lists.{All-filter, All-take, All-drop, All-push}
use Rattle.ccr_law_base.proofs.Cases.{on_if}
use Rattle.ccr_law_base.proofs.Tests.{and_false, itself}

-- the part that is asked for by the request that is found
abbrev part_asked : ℕ → ℕ → Option ChunkAsked → Option Part
part_asked session size found = option_map (λ (a : ChunkAsked). record { session = session; file = a.file; offset = a.offset; size = size }) found

-- it is what the bootstrap asks for
part-asked : (r : Restore) (f : Fetch) (n : ℕ) → part_in (restoring (record r { stage = fetching f })) n ≡ part_asked f.session r.chunk_size (ask_sent f n)
part-asked r f n = known (ask_sent f n)
  where
    known : (o : Option ChunkAsked) → option_map part_of (option_map (λ a. record { restore = record r { stage = fetching f }; fetch = f; ask = a }) o) ≡ part_asked f.session r.chunk_size o
    known None = refl
    known (Some a) = refl

pub if-part : (P : Part → Type 0) (r : Restore) (f : Fetch) (n : ℕ) (a : ChunkAsked) → ask_sent f n ≡ Some a
    → P (record { session = f.session; file = a.file; offset = a.offset; size = r.chunk_size }) → IfSome (part_in (restoring (record r { stage = fetching f })) n) P
if-part P r f n a found holds =
    subst (λ (o : Option Part). IfSome o P) (sym (part-asked r f n ∙ ap (part_asked f.session r.chunk_size) found)) holds

pub part-if : (P : Part → Type 0) (r : Restore) (f : Fetch) (n : ℕ) (a : ChunkAsked) → ask_sent f n ≡ Some a → IfSome (part_in (restoring (record r { stage = fetching f })) n) P
    → P (record { session = f.session; file = a.file; offset = a.offset; size = r.chunk_size })
part-if P r f n a found holds =
    subst (λ (o : Option Part). IfSome o P) (part-asked r f n ∙ ap (part_asked f.session r.chunk_size) found) holds

-- the requests of the same session go on
fetch-follows : (r : Restore) (f next : Fetch) (request retry : ℕ) → next.session ≡ f.session → r.next_request ≤ request
    → ((n : ℕ) → n < r.next_request → IsNoMore (find (asks_under n) f.asks) (find (asks_under n) next.asks))
    → Follows (restoring (record r { stage = fetching f })) (restoring (record r { stage = fetching next; next_request = request; retry = retry }))
fetch-follows r f next request retry session later less = record {
  next = later;
  asks = λ n low. inl refl;
  parts = λ n low. parts-less n (find (asks_under n) f.asks) (find (asks_under n) next.asks) refl refl (less n low);
}
  where
    parts-less : (n : ℕ) (a b : Option ChunkAsked) → ask_sent f n ≡ a → ask_sent next n ≡ b → IsNoMore a b
        → IsNoMore (part_in (restoring (record r { stage = fetching f })) n) (part_in (restoring (record r { stage = fetching next; next_request = request; retry = retry })) n)
    parts-less n a b was is (inl e) =
        inl (part-asked (record r { next_request = request; retry = retry }) next n ∙ (ap (part_asked next.session r.chunk_size) (is ∙ (e ∙ sym was))
        ∙ (ap (λ (s : ℕ). part_asked s r.chunk_size (ask_sent f n)) session ∙ sym (part-asked r f n))))
    parts-less n a b was is (inr e) = inr (part-asked (record r { next_request = request; retry = retry }) next n ∙ ap (part_asked next.session r.chunk_size) (is ∙ e))

abbrev GoesRestore : Setting → Restore → Sending Restore → Type 0
GoesRestore e r done = Goes e (restoring r) (restoring done.next) done.sent

-- ---- one request

-- a stage in which no part is asked for
plain-goes : (e : Setting) (r next : Restore) (sent : List Frame) → r.next_request ≤ next.next_request → ((n : ℕ) → part_in (restoring next) n ≡ None) → IsGoodRestore e next
    → AllByRecursion (IsTrueMessage e (restoring next)) sent → Goes e (restoring r) (restoring next) sent
plain-goes e r next sent later none good messages = record {
  follows = record { next = later; asks = λ n low. inl refl; parts = λ n low. inr (none n) };
  good = good;
  messages = messages;
}

pub lease-goes : (e : Setting) (r : Restore) (retry : ℕ) → IsGoodRestore e r → GoesRestore e r (asks_lease (record r { retry = retry }))
lease-goes e r retry good =
    plain-goes e r (asks_lease (record r { retry = retry })).next (asks_lease (record r { retry = retry })).sent (omega arith) (λ n. refl)
    (record { named = good.named; same_lease = good.same_lease; same_history = good.same_history; stage = tt })
    (record { named = good.named; drawn = omega arith; said = good.same_lease }, tt)

pub session-goes : (e : Setting) (r : Restore) (retry : ℕ) → IsGoodRestore e r → GoesRestore e r (asks_session (record r { retry = retry }))
session-goes e r retry good =
    plain-goes e r (asks_session (record r { retry = retry })).next (asks_session (record r { retry = retry })).sent (omega arith) (λ n. refl)
    (record { named = good.named; same_lease = good.same_lease; same_history = good.same_history; stage = tt })
    (record { named = good.named; drawn = omega arith; said = tt }, tt)

abbrev at_fetch : Restore → Fetch → Restore
at_fetch r f = record r { stage = fetching f }

chunk-goes : (e : Setting) (r : Restore) (f : Fetch) (place : ℕ × ℕ) → IsPlaceOf e f.session place.0 place.1 → IsGoodRestore e (at_fetch r f) → GoesRestore e (at_fetch r f) (asks_chunk (at_fetch r f) f place)
chunk-goes e r f place within good =
    let a : ChunkAsked = record { request = r.next_request; file = place.0; offset = place.1; progress = on_its_way } in
    let next : Fetch = record f { asked = f.asked + 1; asks = f.asks ++ a ∷ [] } in
    record {
      follows = fetch-follows r f next (r.next_request + 1) r.retry refl (omega arith) (λ n low. push-less n r.next_request a f.asks low refl);
      good = record {
        named = good.named;
        same_lease = good.same_lease;
        same_history = good.same_history;
        stage = record { own = good.stage.own; session = good.stage.session; chunks = good.stage.chunks; asks = good-push e f.session r.next_request a f.asks refl within good.stage.asks };
      };
      messages = (
        record {
          named = good.named;
          drawn = omega arith;
          said = (
            within,
            if-part (λ (p : Part). p ≡ record { session = f.session; file = place.0; offset = place.1; size = r.chunk_size }) (record r { next_request = r.next_request + 1 }) next r.next_request a
                (push-found r.next_request a f.asks good.stage.asks.drawn (ap (λ (b : Bool). b && true) (itself r.next_request))) refl,
          );
        },
        tt,
      );
    }

pub chunks-go : (e : Setting) (places : List (ℕ × ℕ)) (r : Restore) (f : Fetch) → AllByRecursion (λ (place : ℕ × ℕ). IsPlaceOf e f.session place.0 place.1) places → IsGoodRestore e (at_fetch r f)
    → GoesRestore e (at_fetch r f) (asks_chunks places (at_fetch r f))
chunks-go e [] r f within good = goes-still e (restoring (at_fetch r f)) good
chunks-go e (place ∷ places) r f within good =
    let a : ChunkAsked = record { request = r.next_request; file = place.0; offset = place.1; progress = on_its_way } in
    let next : Fetch = record f { asked = f.asked + 1; asks = f.asks ++ a ∷ [] } in
    let later : Restore = record r { next_request = r.next_request + 1 } in
    let one : GoesRestore e (at_fetch r f) (asks_chunk (at_fetch r f) f place) = chunk-goes e r f place within.0 good in
    goes-then e (restoring (at_fetch r f)) (restoring (at_fetch later next)) (restoring (asks_chunks places (at_fetch later next)).next) (asks_chunk (at_fetch r f) f place).sent (asks_chunks places (at_fetch later next)).sent
    one (chunks-go e places later next within.1 one.good)

-- the parts that come next
pub more-go : (e : Setting) (r : Restore) (f : Fetch) → IsGoodRestore e (at_fetch r f) → GoesRestore e (at_fetch r f) (asks_more r f)
more-go e r f good =
    chunks-go e (take (most_asks - length f.asks) (drop f.asked (places_of r.chunk_size f.sizes))) r f
    (All-take (λ (place : ℕ × ℕ). IsPlaceOf e f.session place.0 place.1) (most_asks - length f.asks) (drop f.asked (places_of r.chunk_size f.sizes))
    (All-drop (λ (place : ℕ × ℕ). IsPlaceOf e f.session place.0 place.1) f.asked (places_of r.chunk_size f.sizes)
    (all-places e f.session f.history f.count f.sizes r.chunk_size good.stage.session))) good

-- ---- losses and retries

-- a bootstrap by its stage
lost-at : (e : Setting) (r : Restore) (now request : ℕ) (stage : Stage) → r.follower ≡ e.uuid → r.lease ≡ e.lease → r.history ≡ e.history → IsGoodStage e r.next_request stage
    → Goes e (restoring (record r { stage = stage })) (restoring (restore_lost (record r { stage = stage }) now request)) []
lost-at e r now request (leasing a) named lease history staged =
    plain-goes e (record r { stage = leasing a }) (restore_lost (record r { stage = leasing a }) now request) [] (omega arith) (λ n. refl) (record { named = named; same_lease = lease; same_history = history; stage = tt }) tt
lost-at e r now request (opening a) named lease history staged =
    plain-goes e (record r { stage = opening a }) (restore_lost (record r { stage = opening a }) now request) [] (omega arith) (λ n. refl) (record { named = named; same_lease = lease; same_history = history; stage = tt }) tt
lost-at e r now request (fetching f) named lease history staged =
    let later : Progress = restore_waits r now in
    let next : Fetch = record f { asks = changed_ask request (put_off later) f.asks } in
    record {
      follows = fetch-follows r f next r.next_request (r.retry + 1) refl (omega arith)
          (λ n low. later-less n request (put_off later) (λ x is. and_false (x.request == n)) f.asks staged.asks.apart);
      good = record {
        named = named;
        same_lease = lease;
        same_history = history;
        stage = record { own = staged.own; session = staged.session; chunks = staged.chunks; asks = good-later e f.session r.next_request request later f.asks staged.asks };
      };
      messages = tt;
    }

pub restore_lost-goes : (e : Setting) (r : Restore) (now request : ℕ) → IsGoodRestore e r → Goes e (restoring r) (restoring (restore_lost r now request)) []
restore_lost-goes e r now request good = lost-at e r now request r.stage good.named good.same_lease good.same_history good.stage

-- a part is asked for again
again-goes : (e : Setting) (r : Restore) (f : Fetch) (a : ChunkAsked) → IsPlaceOf e f.session a.file a.offset → IsGoodRestore e (at_fetch r f) → GoesRestore e (at_fetch r f) (chunk_again (at_fetch r f) f a)
again-goes e r f a within good =
    let new : ChunkAsked = record a { request = r.next_request; progress = on_its_way } in
    let rest : List ChunkAsked = without_ask a.request f.asks in
    let next : Fetch = record f { asks = rest ++ new ∷ [] } in
    let less : AreGoodAsks e f.session r.next_request rest = good-without e f.session r.next_request a.request f.asks good.stage.asks in
    record {
      follows = fetch-follows r f next (r.next_request + 1) r.retry refl (omega arith)
          (λ n low. no_more-trans (find (asks_under n) f.asks) (find (asks_under n) rest) (find (asks_under n) (rest ++ new ∷ []))
          (without-less n a.request f.asks good.stage.asks.apart) (push-less n r.next_request new rest low refl));
      good = record {
        named = good.named;
        same_lease = good.same_lease;
        same_history = good.same_history;
        stage = record { own = good.stage.own; session = good.stage.session; chunks = good.stage.chunks; asks = good-push e f.session r.next_request new rest refl within less };
      };
      messages = (
        record {
          named = good.named;
          drawn = omega arith;
          said = (
            within,
            if-part (λ (p : Part). p ≡ record { session = f.session; file = a.file; offset = a.offset; size = r.chunk_size }) (record r { next_request = r.next_request + 1 }) next r.next_request new
                (push-found r.next_request new rest less.drawn (ap (λ (b : Bool). b && true) (itself r.next_request))) refl,
          );
        },
        tt,
      );
    }

all-again-go : (e : Setting) (asks : List ChunkAsked) (r : Restore) (f : Fetch) → AllByRecursion (λ (a : ChunkAsked). IsPlaceOf e f.session a.file a.offset) asks → IsGoodRestore e (at_fetch r f)
    → GoesRestore e (at_fetch r f) (chunks_again asks (at_fetch r f))
all-again-go e [] r f within good = goes-still e (restoring (at_fetch r f)) good
all-again-go e (a ∷ asks) r f within good =
    let new : ChunkAsked = record a { request = r.next_request; progress = on_its_way } in
    let next : Fetch = record f { asks = without_ask a.request f.asks ++ new ∷ [] } in
    let later : Restore = record r { next_request = r.next_request + 1 } in
    let one : GoesRestore e (at_fetch r f) (chunk_again (at_fetch r f) f a) = again-goes e r f a within.0 good in
    goes-then e (restoring (at_fetch r f)) (restoring (at_fetch later next)) (restoring (chunks_again asks (at_fetch later next)).next) (chunk_again (at_fetch r f) f a).sent (chunks_again asks (at_fetch later next)).sent
    one (all-again-go e asks later next within.1 one.good)

ticked-at : (e : Setting) (r : Restore) (now : ℕ) (stage : Stage) → IsGoodRestore e (record r { stage = stage }) → GoesRestore e (record r { stage = stage }) (restore_ticked now (record r { stage = stage }))
ticked-at e r now (leasing a) good =
    on_if (GoesRestore e (record r { stage = leasing a })) (is_due now a.progress) (asks_lease (record r { stage = leasing a })) (quiet (record r { stage = leasing a }))
    (λ due. lease-goes e (record r { stage = leasing a }) r.retry good) (λ not_yet. goes-still e (restoring (record r { stage = leasing a })) good)
ticked-at e r now (opening a) good =
    on_if (GoesRestore e (record r { stage = opening a })) (is_due now a.progress) (asks_session (record r { stage = opening a })) (quiet (record r { stage = opening a }))
    (λ due. session-goes e (record r { stage = opening a }) r.retry good) (λ not_yet. goes-still e (restoring (record r { stage = opening a })) good)
ticked-at e r now (fetching f) good =
    all-again-go e (filter (λ a. is_due now a.progress) f.asks) r f
    (All-filter (λ (a : ChunkAsked). IsPlaceOf e f.session a.file a.offset) (λ a. is_due now a.progress) f.asks good.stage.asks.places) good

pub restore_ticked-goes : (e : Setting) (r : Restore) (now : ℕ) → IsGoodRestore e r → GoesRestore e r (restore_ticked now r)
restore_ticked-goes e r now good = ticked-at e r now r.stage good

-- ---- messages

-- what the bootstrap does, where it takes the message
abbrev pub GoesHeard : Setting → Restore → Option (Sending Restore) → Type 0
GoesHeard e r None = Unit {0}
GoesHeard e r (Some done) = GoesRestore e r done

leasing-hears : (e : Setting) (r : Restore) (now request : ℕ) (content : Content) → IsGoodRestore e r → GoesHeard e r (hear_leasing r now request content)
leasing-hears e r now request (contents.LeaseAdded number) good = session-goes e r 0 good
leasing-hears e r now request (contents.LeaseAnswer results.Exists number) good = session-goes e r 0 good
leasing-hears e r now request (contents.NotReady copy) good = restore_lost-goes e r now request good
leasing-hears e r now request _ good = tt

opened-goes : (e : Setting) (r : Restore) (session : ℕ) (history : List ℕ) (count : ℕ) (sizes : List ℕ) → history ≡ e.history → IsAsItOpened e session history count sizes → IsGoodRestore e r
    → GoesRestore e r (opened r session history count sizes)
opened-goes e r session history count sizes own truth good =
    let f : Fetch = record { session = session; history = history; count = count; sizes = sizes; asked = 0; asks = []; chunks = [] } in
    let begun : Restore = record r { retry = 0 } in
    let one : Goes e (restoring r) (restoring (at_fetch begun f)) [] =
    plain-goes e r (at_fetch begun f) [] (omega arith) (λ n. refl)
    (record { named = good.named; same_lease = good.same_lease; same_history = good.same_history; stage = record { own = own; session = truth; chunks = tt; asks = record { drawn = tt; places = tt; apart = tt } } }) tt in
    goes-then e (restoring r) (restoring (at_fetch begun f)) (restoring (asks_more begun f).next) [] (asks_more begun f).sent one (more-go e begun f one.good)

not_other : (a b : List ℕ) → not (bytes_eq a b) ≡ false → a ≡ b
not_other a b same = (bytes_eq-Decides a b).0 (not-false (bytes_eq a b) same)

opening-hears : (e : Setting) (r : Restore) (now request : ℕ) (content : Content) → opens_other r.history content ≡ false → IsTrueSaid e (restoring r) request content → IsGoodRestore e r → GoesHeard e r (hear_opening r now request content)
opening-hears e r now request (contents.SessionOpened session history count sizes) same said good =
    opened-goes e r session history count sizes (not_other history r.history same ∙ good.same_history) said good
opening-hears e r now request (contents.NotReady copy) same said good = restore_lost-goes e r now request good
opening-hears e r now request _ same said good = tt

-- the bytes stand where they were asked for
came-true : (e : Setting) (r : Restore) (f : Fetch) (a : ChunkAsked) (request session file offset : ℕ) (bytes : List ℕ) → ask_sent f request ≡ Some a
    → IsTruePart e (restoring (at_fetch r f)) request session file offset bytes → HasBytes e f.session a.file a.offset bytes
came-true e r f a request session file offset bytes found said =
    let whole : IsWhole said.session session file offset bytes (record { session = f.session; file = a.file; offset = a.offset; size = r.chunk_size }) =
    part-if (IsWhole said.session session file offset bytes) r f request a found said.whole in
    let by_session : HasBytes e f.session file offset bytes =
    subst (λ (s : ℕ). HasBytes e s file offset bytes) whole.same_session (record { session = said.session; opened = said.opened; bytes = said.bytes }) in
    subst (λ (o : ℕ). HasBytes e f.session a.file o bytes) whole.same_offset (subst (λ (n : ℕ). HasBytes e f.session n offset bytes) whole.same_file by_session)

came-goes : (e : Setting) (r : Restore) (f : Fetch) (a : ChunkAsked) (bytes : List ℕ) → HasBytes e f.session a.file a.offset bytes → IsGoodRestore e (at_fetch r f)
    → GoesRestore e (at_fetch r f) (chunk_came (at_fetch r f) f a bytes)
came-goes e r f a bytes has good =
    let next : Fetch = record f { asks = without_ask a.request f.asks; chunks = f.chunks ++ record { file = a.file; offset = a.offset; bytes = bytes } ∷ [] } in
    let begun : Restore = record r { retry = 0 } in
    let one : Goes e (restoring (at_fetch r f)) (restoring (at_fetch begun next)) [] = record {
      follows = fetch-follows r f next r.next_request 0 refl (omega arith) (λ n low. without-less n a.request f.asks good.stage.asks.apart);
      good = record {
        named = good.named;
        same_lease = good.same_lease;
        same_history = good.same_history;
        stage = record {
          own = good.stage.own;
          session = good.stage.session;
          chunks = All-push (λ (c : Chunk). HasBytes e f.session c.file c.offset c.bytes) f.chunks (record { file = a.file; offset = a.offset; bytes = bytes }) good.stage.chunks has;
          asks = good-without e f.session r.next_request a.request f.asks good.stage.asks;
        };
      };
      messages = tt;
    } in
    goes-then e (restoring (at_fetch r f)) (restoring (at_fetch begun next)) (restoring (asks_more begun next).next) [] (asks_more begun next).sent one (more-go e begun next one.good)

fetching-hears : (e : Setting) (r : Restore) (f : Fetch) (a : ChunkAsked) (request : ℕ) (content : Content) → ask_sent f request ≡ Some a → IsTrueSaid e (restoring (at_fetch r f)) request content
    → IsGoodRestore e (at_fetch r f) → GoesHeard e (at_fetch r f) (hear_fetching (at_fetch r f) f a content)
fetching-hears e r f a request (contents.ChunkReply session file offset bytes) found said good =
    came-goes e r f a bytes (came-true e r f a request session file offset bytes found said) good
fetching-hears e r f a request (contents.SessionGone session) found said good = session-goes e (at_fetch r f) 0 good
fetching-hears e r f a request _ found said good = tt

asked-hears : (e : Setting) (r : Restore) (f : Fetch) (request : ℕ) (content : Content) (found : Option ChunkAsked) → ask_sent f request ≡ found → IsTrueSaid e (restoring (at_fetch r f)) request content
    → IsGoodRestore e (at_fetch r f) → GoesHeard e (at_fetch r f) (hear_asked (at_fetch r f) f content found)
asked-hears e r f request content None is said good = tt
asked-hears e r f request content (Some a) is said good = fetching-hears e r f a request content is said good

both_false : (a b : Bool) → a ≡ true → (a && b) ≡ false → b ≡ false
both_false true b is none = none
both_false false b is none = cc

heard-at : (e : Setting) (r : Restore) (now : ℕ) (m : Frame) (stage : Stage) → ends_restore (record r { stage = stage }) m ≡ false → IsTrueMessage e (restoring (record r { stage = stage })) m → IsGoodRestore e (record r { stage = stage })
    → GoesHeard e (record r { stage = stage }) (restore_hears (record r { stage = stage }) now m)
heard-at e r now m (leasing a) goes_on truth good =
    on_if (GoesHeard e (record r { stage = leasing a })) (answers m a) (hear_leasing (record r { stage = leasing a }) now m.request m.content) None
    (λ is. leasing-hears e (record r { stage = leasing a }) now m.request m.content good) (λ isnt. tt)
heard-at e r now m (opening a) goes_on truth good =
    on_if (GoesHeard e (record r { stage = opening a })) (answers m a) (hear_opening (record r { stage = opening a }) now m.request m.content) None
    (λ is. opening-hears e (record r { stage = opening a }) now m.request m.content (both_false (answers m a) (opens_other r.history m.content) is goes_on) truth.said good) (λ isnt. tt)
heard-at e r now m (fetching f) goes_on truth good = asked-hears e r f m.request m.content (ask_sent f m.request) refl truth.said good

pub hears-goes : (e : Setting) (r : Restore) (now : ℕ) (m : Frame) → ends_restore r m ≡ false → IsTrueMessage e (restoring r) m → IsGoodRestore e r → GoesHeard e r (restore_hears r now m)
hears-goes e r now m goes_on truth good = heard-at e r now m r.stage goes_on truth good
