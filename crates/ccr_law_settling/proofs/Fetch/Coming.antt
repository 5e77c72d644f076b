-- Settling by the delivery of the word that a session is open, and of a part of a file, to a bootstrap that waits for it lowers the measure.
use Rattle.std.specs.Str.{bytes_eq}
use Rattle.std.specs.Prelude.{slice_get}
use Rattle.std.proofs.Common.{◌≡◌, ℕ, ◌+◌, ◌<◌, ◌==◌, ◌&&◌, ◌||◌, not, Bool, true, false, if◌then◌else◌, Option, Some, List, [], ◌∷◌, ◌++◌, length, is_none, refl, sym, subst, arith}
use Rattle.ccr_wire.specs.Message.{Frame}
use Rattle.ccr_wire.specs.declared.content.Content.TheVariants as contents
use Rattle.ccr_journal.specs.declared.events.Event.TheVariants as events
use Rattle.ccr_model.specs.Outcomes.{Outcome}
use Rattle.ccr_model.specs.Requests.{is_sent}
use Rattle.ccr_model.specs.Restores.{Restore, Asked, ChunkAsked, Stage, opening, fetching, Fetch, places_of, without_ask, answers, ask_sent, opened, chunk_came, hear_asked}
use Rattle.ccr_model.specs.Leaders.{session_of}
use Rattle.ccr_model.specs.Followers.{Follower, Work, restoring, uuid_of}
use Rattle.ccr_model.specs.FollowerRows.{restore_ended, restore_heard, work_hears}
use Rattle.ccr_model.specs.World.{State, at_follower}
use Rattle.ccr_model.specs.FrameFacts.{next_request_of}
use Rattle.ccr_model.specs.Past.{Past}
use Rattle.ccr_law_base.proofs.Cases.{on_if}
use Rattle.ccr_law_base.proofs.Lists.{All-find}
use Rattle.ccr_law_base.proofs.Tests.{or-more}
use Rattle.ccr_law_copies.specs.Cores.{IsCore}
use Rattle.ccr_law_messages.specs.TrueFrames.{own_of, HasTrueFrames}
use Rattle.ccr_law_settling.specs.Measure.{opens_closed, is_opened_in_vain, is_told_gone, is_in_vain, copies_lack, IsLower}
use Rattle.ccr_law_settling.specs.Within.{AreAsksApart, AreStageApart, AreRequestsApart}
use Rattle.ccr_law_settling.specs.Lowering.{Lowers}
use Rattle.ccr_law_settling.proofs.Measure.Taken.{choice_lower}
use Rattle.ccr_law_settling.proofs.Measure.Says.{delivered}
use Rattle.ccr_law_settling.proofs.Measure.Repeating.{IsFirst, each_first, length_without, any_without, AreBelow, told_less}
use Rattle.ccr_law_settling.proofs.Measure.StaleMessages.{left}
use Rattle.ccr_law_settling.proofs.Measure.Framing.{requests_apart, fresh_at, own_name}
use Rattle.ccr_law_settling.specs.FetchLowering.{IsForRestore, IsAnswerToOpening, IsAnswerToPart, FetchesLower}
use Rattle.ccr_law_settling.proofs.Fetch.Parts.{AsksFor, next_parts, more_asked, some_of_rest, one_less_lacking, none_told}
use Rattle.ccr_law_settling.proofs.Measure.Steps.{any_at}
use Rattle.ccr_law_settling.proofs.Measure.Hearing.{hearing_delivered, lacking_lower, rank_lower}
use Rattle.ccr_law_settling.proofs.Fetch.Hearing.{done_lower}

-- ---- the session is open

-- the fetch of a session that was just opened
abbrev new_fetch : ℕ → List ℕ → ℕ → List ℕ → Fetch
new_fetch session history count sizes = record { session = session; history = history; count = count; sizes = sizes; asked = 0; asks = []; chunks = [] }

-- a session that isn't there was opened in vain
opened_in_vain : (s : State) (at f : ℕ) (a : Asked) (uuid : List ℕ) (request session : ℕ) (history : List ℕ) (count : ℕ) (sizes : List ℕ)
    → slice_get s.flight at ≡ Some (record { follower = uuid; request = request; content = contents.SessionOpened session history count sizes }) → bytes_eq uuid (uuid_of f) ≡ true
    → ((request == a.request) && is_sent a.progress) ≡ true → is_none (session_of s.leader.sessions session) ≡ true → is_opened_in_vain s.flight s.leader.sessions f a ≡ true
opened_in_vain s at f a uuid request session history count sizes found ours waits closed =
    any_at (λ (x : Frame). bytes_eq x.follower (uuid_of f) && answers x a && opens_closed s.leader.sessions x.content) s.flight at
    (record { follower = uuid; request = request; content = contents.SessionOpened session history count sizes }) found (rw ours (rw waits closed))

some_rank : (vain : Bool) → 0 < (if vain then 4 else 2)
some_rank true = omega arith
some_rank false = omega arith

still_untold : (new old : Bool) → (new ≡ true → old ≡ true) → old ≡ false → new ≡ false
still_untold false old step untold = refl
still_untold true false step untold = let e : false ≡ true = step refl in cc
still_untold true true step untold = cc

rank_falls : (closed told vain : Bool) → told ≡ false → (closed ≡ true → vain ≡ true) → (if closed || told then 3 else 1) < (if vain then 4 else 2)
rank_falls closed true vain untold step = cc
rank_falls true false true untold step = omega arith
rank_falls true false false untold step = let e : false ≡ true = step refl in cc
rank_falls false false true untold step = omega arith
rank_falls false false false untold step = omega arith

opened_lower : (count_of : List ℕ → ℕ) (s : State) (at f : ℕ) (base : Follower) (r : Restore) (a : Asked) (uuid : List ℕ) (request session : ℕ) (history : List ℕ) (count : ℕ) (sizes : List ℕ)
    → slice_get s.flight at ≡ Some (record { follower = uuid; request = request; content = contents.SessionOpened session history count sizes }) → bytes_eq uuid (uuid_of f) ≡ true
    → ((request == a.request) && is_sent a.progress) ≡ true → AreBelow s.flight f r.next_request
    → slice_get s.followers f ≡ Some (record base { work = restoring (record r { stage = opening a }) })
    → IsLower count_of (at_follower (left s at) f (work_hears (record base { work = restoring (record r { stage = opening a }) })
    (record { follower = uuid; request = request; content = contents.SessionOpened session history count sizes }))).next s
opened_lower count_of s at f base r a uuid request session history count sizes found ours waits below there = rw waits (
    on_if (λ (o : Outcome Follower). IsLower count_of (at_follower (left s at) f o).next s) (not (bytes_eq history r.history)) _ _
    (λ other. rank_lower count_of s at f own (restore_ended own asking).next [] there tt (some_rank (is_opened_in_vain s.flight s.leader.sessions f a)))
    (λ same. done_lower count_of s at f own (opened asking session history count sizes) (record r { retry = 0; next_request = more.next_request }) fetch there more.is (some_rank (is_opened_in_vain s.flight s.leader.sessions f a))
    (rank_lower count_of s at f own _ (opened asking session history count sizes).sent there more.plain
    (rank_falls (is_none (session_of s.leader.sessions session)) (is_told_gone s.flight f fetch) (is_opened_in_vain s.flight s.leader.sessions f a)
    (still_untold (is_told_gone s.flight f fetch) (is_told_gone s.flight f first) (told_less s.flight f r.next_request fetch first below more.before) (none_told s.flight f first))
    (opened_in_vain s at f a uuid request session history count sizes found ours waits)))))
  where
    asking : Restore
    asking = record r { stage = opening a }

    own : Follower
    own = record base { work = restoring asking }

    first : Fetch
    first = new_fetch session history count sizes

    more : AsksFor s.leader.sessions (record asking { retry = 0 }) first (length (next_parts (record asking { retry = 0 }) first)) (opened asking session history count sizes)
    more = more_asked s.leader.sessions (record asking { retry = 0 }) first

    fetch : Fetch
    fetch = record first { asked = more.asked; asks = more.asks }

-- ---- a part of a file comes

-- the fetch without the request, and with its part
abbrev fetch_with : Fetch → ChunkAsked → List ℕ → Fetch
fetch_with fetch a bytes = record fetch {
  asks = without_ask a.request fetch.asks;
  chunks = fetch.chunks ++ record { file = a.file; offset = a.offset; bytes = bytes } ∷ [];
}

some_fetching : (vain : Bool) → 0 < (if vain then 3 else 1)
some_fetching true = omega arith
some_fetching false = omega arith

plus_less : (copies new old : ℕ) → new < old → copies + new < copies + old
plus_less copies new old less = omega arith

came_lower : (count_of : List ℕ → ℕ) (s : State) (at f : ℕ) (base : Follower) (r : Restore) (old : Fetch) (a : ChunkAsked) (bytes : List ℕ) → AreBelow s.flight f r.next_request → IsFirst old.asks a
    → slice_get s.followers f ≡ Some (record base { work = restoring (record r { stage = fetching old }) })
    → IsLower count_of (at_follower (left s at) f (restore_heard (record base { work = restoring (record r { stage = fetching old }) }) (Some (chunk_came (record r { stage = fetching old }) old a bytes)))).next s
came_lower count_of s at f base r old a bytes below first there =
    done_lower count_of s at f own (chunk_came asking old a bytes) (record r { retry = 0; next_request = more.next_request }) fetch there more.is (some_fetching (is_in_vain s.flight s.leader.sessions f old))
    (lacking_lower count_of s at f own _ (chunk_came asking old a bytes).sent there more.plain
    (choice_lower (is_in_vain s.flight s.leader.sessions f fetch) (is_in_vain s.flight s.leader.sessions f old) 1 3 (omega arith)
    (or-more (is_none (session_of s.leader.sessions old.session)) (is_told_gone s.flight f fetch) (is_told_gone s.flight f old)
    (told_less s.flight f r.next_request fetch old below (λ n lt any. any_without a.request n old.asks (more.before n lt any)))))
    (plus_less (copies_lack (count_of base.history) base.copies) _ _
    (one_less_lacking (length (places_of r.chunk_size old.sizes)) old.asked more.asked _ (length (without_ask a.request old.asks)) (length more.asks) (length old.asks)
    (some_of_rest _ old.asked (places_of r.chunk_size old.sizes)) more.further more.many (length_without a old.asks first))))
  where
    asking : Restore
    asking = record r { stage = fetching old }

    own : Follower
    own = record base { work = restoring asking }

    left_over : Fetch
    left_over = fetch_with old a bytes

    more : AsksFor s.leader.sessions (record asking { retry = 0 }) left_over (length (next_parts (record asking { retry = 0 }) left_over)) (chunk_came asking old a bytes)
    more = more_asked s.leader.sessions (record asking { retry = 0 }) left_over

    fetch : Fetch
    fetch = record left_over { asked = more.asked; asks = more.asks }

part_lower : (count_of : List ℕ → ℕ) (s : State) (at f : ℕ) (base : Follower) (r : Restore) (old : Fetch) (a : ChunkAsked) (uuid : List ℕ) (request session file offset : ℕ) (bytes : List ℕ)
    → AreBelow s.flight f r.next_request → AreAsksApart old.asks → ask_sent old request ≡ Some a
    → slice_get s.followers f ≡ Some (record base { work = restoring (record r { stage = fetching old }) })
    → IsLower count_of (at_follower (left s at) f (work_hears (record base { work = restoring (record r { stage = fetching old }) })
    (record { follower = uuid; request = request; content = contents.ChunkReply session file offset bytes }))).next s
part_lower count_of s at f base r old a uuid request session file offset bytes below apart waits there =
    subst (λ (o : Option ChunkAsked). IsLower count_of (at_follower (left s at) f (restore_heard own (hear_asked asking old (contents.ChunkReply session file offset bytes) o))).next s) (sym waits)
    (came_lower count_of s at f base r old a bytes below
    (All-find (IsFirst old.asks) (λ (a : ChunkAsked). (a.request == request) && is_sent a.progress) old.asks a (each_first old.asks apart) waits).0 there)
  where
    asking : Restore
    asking = record r { stage = fetching old }

    own : Follower
    own = record base { work = restoring asking }

-- ---- what that lowers

-- what holds of a bootstrap in a stage holds of the follower that is in it
in_stage : (P : Follower → Type 0) (own : Follower) (r : Restore) (stage : Stage) → own.work ≡ restoring r → r.stage ≡ stage → P (record own { work = restoring (record r { stage = stage }) }) → P own
in_stage P own r stage works is holds =
    subst (λ (w : Work). P (record own { work = w })) (sym works) (subst (λ (stage : Stage). P (record own { work = restoring (record r { stage = stage }) })) (sym is) holds)

below_at : (p : Past) → IsCore p → HasTrueFrames p → (f : ℕ) (own : Follower) (r : Restore) → slice_get p.state.followers f ≡ Some own → own.work ≡ restoring r → AreBelow p.state.flight f r.next_request
below_at p core frames f own r there works = subst (λ (w : Work). AreBelow p.state.flight f (next_request_of w)) works (fresh_at p core frames f own there).drawn

apart_at : (p : Past) → HasTrueFrames p → (f : ℕ) (own : Follower) (r : Restore) (fetch : Fetch) → slice_get p.state.followers f ≡ Some own → own.work ≡ restoring r → r.stage ≡ fetching fetch
    → AreAsksApart fetch.asks
apart_at p frames f own r fetch there works is =
    subst AreStageApart is (subst AreRequestsApart works (requests_apart p f (own_of own) own.work (frames.messages.works f own there).work))

opened_at : (count_of : List ℕ → ℕ) (p : Past) → IsCore p → HasTrueFrames p → (at copy : ℕ) (keep : Bool) (uuid : List ℕ) (request session : ℕ) (history : List ℕ) (count : ℕ) (sizes : List ℕ)
    → IsAnswerToOpening p.state at uuid request (contents.SessionOpened session history count sizes) → Lowers count_of p.state (events.Deliver at copy keep)
opened_at count_of p core frames at copy keep uuid request session history count sizes answer may picks =
    delivered count_of p.state at copy keep picks
    (hearing_delivered count_of p.state at copy picks m goes.number goes.own goes.found refl goes.named goes.there
    (in_stage (λ (own : Follower). slice_get p.state.followers goes.number ≡ Some own → IsLower count_of (at_follower (left p.state at) goes.number (work_hears own m)).next p.state)
    goes.own goes.restore (opening answer.asked) goes.works answer.opens
    (opened_lower count_of p.state at goes.number goes.own goes.restore answer.asked uuid request session history count sizes goes.found (own_name p core frames at m goes.found goes.number goes.named) answer.waits
    (below_at p core frames goes.number goes.own goes.restore goes.there goes.works))
    goes.there)) may
  where
    m : Frame
    m = record { follower = uuid; request = request; content = contents.SessionOpened session history count sizes }

    goes : IsForRestore p.state at uuid request (contents.SessionOpened session history count sizes)
    goes = answer.goes

part_at : (count_of : List ℕ → ℕ) (p : Past) → IsCore p → HasTrueFrames p → (at copy : ℕ) (keep : Bool) (uuid : List ℕ) (request session file offset : ℕ) (bytes : List ℕ)
    → IsAnswerToPart p.state at uuid request (contents.ChunkReply session file offset bytes) → Lowers count_of p.state (events.Deliver at copy keep)
part_at count_of p core frames at copy keep uuid request session file offset bytes answer may picks =
    delivered count_of p.state at copy keep picks
    (hearing_delivered count_of p.state at copy picks m goes.number goes.own goes.found refl goes.named goes.there
    (in_stage (λ (own : Follower). slice_get p.state.followers goes.number ≡ Some own → IsLower count_of (at_follower (left p.state at) goes.number (work_hears own m)).next p.state)
    goes.own goes.restore (fetching answer.fetch) goes.works answer.fetches
    (part_lower count_of p.state at goes.number goes.own goes.restore answer.fetch answer.ask uuid request session file offset bytes
    (below_at p core frames goes.number goes.own goes.restore goes.there goes.works)
    (apart_at p frames goes.number goes.own goes.restore answer.fetch goes.there goes.works answer.fetches) answer.waits)
    goes.there)) may
  where
    m : Frame
    m = record { follower = uuid; request = request; content = contents.ChunkReply session file offset bytes }

    goes : IsForRestore p.state at uuid request (contents.ChunkReply session file offset bytes)
    goes = answer.goes

pub fetches_lower : (count_of : List ℕ → ℕ) (p : Past) → IsCore p → HasTrueFrames p → FetchesLower count_of p.state
fetches_lower count_of p core frames = record { opened = opened_at count_of p core frames; part = part_at count_of p core frames }
