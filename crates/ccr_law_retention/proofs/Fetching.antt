-- What becomes of a bootstrap: it asks under new numbers, and what it fetches stays the session that was opened.
use Rattle.std.specs.Prelude.{filter, if◌then◌else◌, drop, take}
use Rattle.std.proofs.Common.{◌≡◌, ◌⊎◌, inl, inr, ℕ, ◌-◌, ◌≤◌, true, List, [], ◌∷◌, ◌++◌, length, Option, Some, None, refl, sym, subst, arith}
use Rattle.ccr_wire.specs.Message.{Frame}
use Rattle.ccr_wire.specs.declared.kind.LeaseResult.TheVariants as results
use Rattle.ccr_wire.specs.declared.content.Content.{Content}
use Rattle.ccr_wire.specs.declared.content.Content.TheVariants as contents
use Rattle.ccr_model.specs.Requests.{Sending, quiet, followed_by, is_due}
use Rattle.ccr_model.specs.Restores.{Restore, Stage, leasing, opening, fetching, Fetch, Asked, ChunkAsked, asks_lease, asks_session, asks_chunk, asks_chunks, asks_more, chunk_again, chunks_again, restore_ticked, restore_lost, restore_hears, hear_leasing, hear_opening, hear_fetching, hear_asked, opened, chunk_came, answers, ask_sent, most_asks, places_of, without_ask, lost_in, restore_waits}
use Rattle.ccr_law_base.proofs.Cases.{on_if}
use Rattle.ccr_law_base.proofs.Lists.{All-append}
use Rattle.ccr_law_retention.specs.Retaining.{free, asked, at_most, bound_of_stage}
use Rattle.ccr_law_retention.specs.Moving.{Follows, Answers, is_plain}
use Rattle.ccr_law_retention.proofs.Reading.{ArePlain}

abbrev pub IsFetching : ℕ → Stage → Type 0
IsFetching count (leasing a) = ⊥
IsFetching count (opening a) = ⊥
IsFetching count (fetching f) = f.count ≡ count

record Fetches (least count : ℕ) (done : Sending Restore) : Type 0 where
  number : least ≤ done.next.next_request
  stage : IsFetching count done.next.stage
  plain : ArePlain done.sent

more-fetches : (least count : ℕ) (first : Sending Restore) (f : Restore → Sending Restore) → ArePlain first.sent → Fetches least count (f first.next) → Fetches least count (followed_by first f)
more-fetches least count first f plain rest =
    record { number = rest.number; stage = rest.stage; plain = All-append (λ (m : Frame). is_plain m.content ≡ true) first.sent (f first.next).sent plain rest.plain }

chunks-asked : (places : List (ℕ × ℕ)) (least count : ℕ) (s : Restore) → least ≤ s.next_request → IsFetching count s.stage → Fetches least count (asks_chunks places s)
chunks-asked [] least count s up is = record { number = up; stage = is; plain = tt }
chunks-asked (place ∷ places) least count s up is =
    (elim s.stage as (λ (stage : Stage). IsFetching count stage → Fetches least count (elim stage as (λ _. Sending Restore) [
      | leasing a ↦ quiet s
      | opening a ↦ quiet s
      | fetching f ↦ followed_by (asks_chunk s f place) (asks_chunks places)
    ])) [
      | leasing a ↦ λ none. absurd none
      | opening a ↦ λ none. absurd none
      | fetching f ↦ λ own. more-fetches least count (asks_chunk s f place) (asks_chunks places) (refl, tt) (chunks-asked places least count (asks_chunk s f place).next (omega arith) own)
    ]) is

more-asked : (s : Restore) (f : Fetch) → Fetches s.next_request f.count (asks_more s f)
more-asked s f =
    chunks-asked (take (most_asks - length f.asks) (drop f.asked (places_of s.chunk_size f.sizes))) s.next_request f.count (record s { stage = fetching f }) (omega arith) refl

again-asked : (asks : List ChunkAsked) (least count : ℕ) (s : Restore) → least ≤ s.next_request → IsFetching count s.stage → Fetches least count (chunks_again asks s)
again-asked [] least count s up is = record { number = up; stage = is; plain = tt }
again-asked (a ∷ asks) least count s up is =
    (elim s.stage as (λ (stage : Stage). IsFetching count stage → Fetches least count (elim stage as (λ _. Sending Restore) [
      | leasing own ↦ quiet s
      | opening own ↦ quiet s
      | fetching f ↦ followed_by (chunk_again s f a) (chunks_again asks)
    ])) [
      | leasing own ↦ λ none. absurd none
      | opening own ↦ λ none. absurd none
      | fetching f ↦ λ own. more-fetches least count (chunk_again s f a) (chunks_again asks) (refl, tt) (again-asked asks least count (chunk_again s f a).next (omega arith) own)
    ]) is

-- ---- the bootstrap

-- it has become this, from where it was at this stage with these numbers drawn
pub record RestoreGoes (drawn : ℕ) (old : Stage) (done : Sending Restore) : Type 0 where
  pub number : drawn ≤ done.next.next_request
  pub bound : Follows drawn (bound_of_stage old) (bound_of_stage done.next.stage)
  pub plain : ArePlain done.sent

fetching-follows : (drawn count : ℕ) (stage : Stage) → IsFetching count stage → Follows drawn (at_most count) (bound_of_stage stage)
fetching-follows drawn count (leasing a) is = absurd is
fetching-follows drawn count (opening a) is = absurd is
fetching-follows drawn count (fetching f) is = omega arith

pub ticked-goes : (now : ℕ) (s : Restore) → RestoreGoes s.next_request s.stage (restore_ticked now s)
ticked-goes now s =
    (elim s.stage as (λ (stage : Stage). s.stage ≡ stage → RestoreGoes s.next_request stage (elim stage as (λ _. Sending Restore) [
      | leasing a ↦ if is_due now a.progress then asks_lease s else quiet s
      | opening a ↦ if is_due now a.progress then asks_session s else quiet s
      | fetching f ↦ chunks_again (filter (λ a. is_due now a.progress) f.asks) s
    ])) [
      | leasing a ↦ λ is. on_if (λ (done : Sending Restore). RestoreGoes s.next_request (leasing a) done) (is_due now a.progress) (asks_lease s) (quiet s)
          (λ due. record { number = omega arith; bound = tt; plain = (refl, tt) })
          (λ isnt. record { number = omega arith; bound = subst (λ (x : Stage). Follows s.next_request free (bound_of_stage x)) (sym is) tt; plain = tt })
      | opening a ↦ λ is. on_if (λ (done : Sending Restore). RestoreGoes s.next_request (opening a) done) (is_due now a.progress) (asks_session s) (quiet s)
          (λ due. record { number = omega arith; bound = inr (λ sent. omega arith); plain = (refl, tt) })
          (λ isnt. record { number = omega arith; bound = subst (λ (x : Stage). Follows s.next_request (asked a) (bound_of_stage x)) (sym is) (inl refl); plain = tt })
      | fetching f ↦ λ is.
          let does = again-asked (filter (λ a. is_due now a.progress) f.asks) s.next_request f.count s (omega arith) (subst (λ (x : Stage). IsFetching f.count x) (sym is) refl) in
          record { number = does.number; bound = fetching-follows s.next_request f.count (chunks_again (filter (λ a. is_due now a.progress) f.asks) s).next.stage does.stage; plain = does.plain }
    ]) refl

pub lost-goes : (now request : ℕ) (s : Restore) → RestoreGoes s.next_request s.stage (quiet (restore_lost s now request))
lost-goes now request s = record {
  number = omega arith;
  bound = lost-follows s.stage;
  plain = tt;
}
  where
    lost-follows : (stage : Stage) → Follows s.next_request (bound_of_stage stage) (bound_of_stage (lost_in request (restore_waits s now) stage))
    lost-follows (leasing a) = tt
    lost-follows (opening a) = inr (λ sent. absurd cc)
    lost-follows (fetching f) = omega arith

-- ---- messages

pub record RestoreHears (drawn : ℕ) (m : Frame) (old : Stage) (done : Sending Restore) : Type 0 where
  pub number : drawn ≤ done.next.next_request
  pub bound : Follows drawn (bound_of_stage old) (bound_of_stage done.next.stage) ⊎ Answers drawn m (bound_of_stage old) (bound_of_stage done.next.stage)
  pub plain : ArePlain done.sent

abbrev pub IfHears : ℕ → Frame → Stage → Option (Sending Restore) → Type 0
IfHears drawn m old None = Unit {0}
IfHears drawn m old (Some done) = RestoreHears drawn m old done

goes-hears : (drawn : ℕ) (m : Frame) (old : Stage) (done : Sending Restore) → RestoreGoes drawn old done → RestoreHears drawn m old done
goes-hears drawn m old done goes = record { number = goes.number; bound = inl goes.bound; plain = goes.plain }

leasing-hears : (s : Restore) (now : ℕ) (a : Asked) (uuid : List ℕ) (request : ℕ) (content : Content) → s.stage ≡ leasing a
    → IfHears s.next_request (record { follower = uuid; request = request; content = content }) (leasing a) (hear_leasing s now request content)
leasing-hears s now a uuid request (contents.LeaseAdded number) is = record { number = omega arith; bound = inr (refl, λ sent. omega arith); plain = (refl, tt) }
leasing-hears s now a uuid request (contents.LeaseAnswer results.Exists number) is = record { number = omega arith; bound = inr (refl, λ sent. omega arith); plain = (refl, tt) }
leasing-hears s now a uuid request (contents.NotReady copy) is =
    goes-hears s.next_request _ (leasing a) (quiet (restore_lost s now request))
    (subst (λ (stage : Stage). RestoreGoes s.next_request stage (quiet (restore_lost s now request))) is (lost-goes now request s))
leasing-hears s now a uuid request _ is = tt

opening-hears : (s : Restore) (now : ℕ) (a : Asked) (uuid : List ℕ) (request : ℕ) (content : Content) → s.stage ≡ opening a
    → answers (record { follower = uuid; request = request; content = content }) a ≡ true
    → IfHears s.next_request (record { follower = uuid; request = request; content = content }) (opening a) (hear_opening s now request content)
opening-hears s now a uuid request (contents.SessionOpened session history count sizes) is own =
    let f : Fetch = record { session = session; history = history; count = count; sizes = sizes; asked = 0; asks = []; chunks = [] } in
    let does = more-asked (record s { retry = 0 }) f in
    record {
      number = does.number;
      bound = inr (opened-answers (opened s session history count sizes).next.stage does.stage);
      plain = does.plain;
    }
  where
    opened-answers : (stage : Stage) → IsFetching count stage
        → Answers s.next_request (record { follower = uuid; request = request; content = contents.SessionOpened session history count sizes }) (asked a) (bound_of_stage stage)
    opened-answers (leasing x) none = absurd none
    opened-answers (opening x) none = absurd none
    opened-answers (fetching x) same = (count, own, refl, omega arith)
opening-hears s now a uuid request (contents.NotReady copy) is own =
    goes-hears s.next_request _ (opening a) (quiet (restore_lost s now request))
    (subst (λ (stage : Stage). RestoreGoes s.next_request stage (quiet (restore_lost s now request))) is (lost-goes now request s))
opening-hears s now a uuid request _ is own = tt

fetching-hears : (s : Restore) (f : Fetch) (m : Frame) (a : ChunkAsked) (content : Content) → IfHears s.next_request m (fetching f) (hear_fetching s f a content)
fetching-hears s f m a (contents.ChunkReply session file offset bytes) =
    let own : Fetch = record f { asks = without_ask a.request f.asks; chunks = f.chunks ++ record { file = a.file; offset = a.offset; bytes = bytes } ∷ [] } in
    let does = more-asked (record s { retry = 0 }) own in
    record { number = does.number; bound = inl (fetching-follows s.next_request f.count (chunk_came s f a bytes).next.stage does.stage); plain = does.plain }
fetching-hears s f m a (contents.SessionGone session) = record { number = omega arith; bound = inl (λ sent. omega arith); plain = (refl, tt) }
fetching-hears s f m a _ = tt

asked-hears : (s : Restore) (f : Fetch) (m : Frame) (found : Option ChunkAsked) → IfHears s.next_request m (fetching f) (hear_asked s f m.content found)
asked-hears s f m None = tt
asked-hears s f m (Some a) = fetching-hears s f m a m.content

pub restore-hears : (s : Restore) (now : ℕ) (m : Frame) → IfHears s.next_request m s.stage (restore_hears s now m)
restore-hears s now m =
    (elim s.stage as (λ (stage : Stage). s.stage ≡ stage → IfHears s.next_request m stage (elim stage as (λ _. Option (Sending Restore)) [
      | leasing a ↦ if answers m a then hear_leasing s now m.request m.content else None
      | opening a ↦ if answers m a then hear_opening s now m.request m.content else None
      | fetching f ↦ hear_asked s f m.content (ask_sent f m.request)
    ])) [
      | leasing a ↦ λ is. on_if (λ (o : Option (Sending Restore)). IfHears s.next_request m (leasing a) o) (answers m a) (hear_leasing s now m.request m.content) None
          (λ own. leasing-hears s now a m.follower m.request m.content is) (λ other. tt)
      | opening a ↦ λ is. on_if (λ (o : Option (Sending Restore)). IfHears s.next_request m (opening a) o) (answers m a) (hear_opening s now m.request m.content) None
          (λ own. opening-hears s now a m.follower m.request m.content is own) (λ other. tt)
      | fetching f ↦ λ is. asked-hears s f m (ask_sent f m.request)
    ]) refl
