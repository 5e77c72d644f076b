-- What holds in each state that a possible journal leads to.
use Rattle.std.specs.Prelude.{count_by, slice_get, ◌==◌, ◌||◌}
use Rattle.std.specs.List.{AllByRecursion, range_with_len}
use Rattle.std.specs.Option.{option_map}
use Rattle.std.proofs.Common.{◌≡◌, ℕ, suc, ◌+◌, ◌≤◌, ◌<◌, Bool, true, false, if◌then◌else◌, Option, Some, None, List, [], ◌∷◌, length, refl, sym, ◌∙◌, ap, subst, append-nil, arith}
use Rattle.std.proofs.Math.Path.{fun_ext}
use Rattle.std.proofs.lemmas.Bool.{eqb-true}
use Rattle.ccr_op.specs.Operation.{Operation}
use Rattle.ccr_tracker.specs.Numbers.{Numbers}
use Rattle.ccr_wire.specs.declared.content.Content.{Content}
use Rattle.ccr_wire.specs.declared.content.Content.TheVariants as contents
use Rattle.ccr_journal.specs.declared.events.Event.{Event}
use Rattle.ccr_journal.specs.declared.journals.Entry.{Entry}
use Rattle.ccr_model.specs.Operations.{has_number}
use Rattle.ccr_model.specs.Stores.{held}
use Rattle.ccr_model.specs.Restores.{Fetch, file_bytes, files_of}
use Rattle.ccr_model.specs.Copies.{Copy, Replica, Copies, all_copies, copy_of, replica_of}
use Rattle.ccr_model.specs.Leaders.{Start, Session, Poll, session_of}
use Rattle.ccr_model.specs.World.{State}
use Rattle.ccr_model.specs.Step.{step}
use Rattle.ccr_model.specs.Past.{Line, Past, line_of}
use Rattle.ccr_model.specs.FrameFacts.{IsCommitted, HoldsHistory, IsOpenAsOpened, IsTrueContent, IsTrueFrame, AreTrueFrames, ops_of_session}
use Rattle.ccr_law_base.proofs.Lists.{All-weaker, All-at, All-find, All-map_back, some_equal, get_within}
use Rattle.ccr_law_leases.proofs.Says.{leases-says}
use Rattle.ccr_law_stores.specs.SearchPlaces.{HoldsForLeader, HoldsForFollower, AreSearchable}
use Rattle.ccr_law_messages.specs.TrueFrames.{IsOfFollower, frame_of_poll, scene_of, HasTrueFrames}
use Rattle.ccr_law_followers.specs.TrueCopies.{all_in}
use Rattle.ccr_law_followers.specs.Fetches.{FetchOk, StageOk, RestoreOk, WorkOk, IsWholeFetch}
use Rattle.ccr_law_followers.proofs.Files.{fetched_file, sizes-length, fetched}
use Rattle.ccr_law_followers.proofs.Restoring.{restore-hears}
use Rattle.ccr_law_followers.proofs.FetchEvents.{says_truly, whole_fetch}
use Rattle.ccr_law.specs.Parts.{IsWhole}
use Rattle.ccr_law.proofs.Grounds.{framing}
use Rattle.ccr_law.proofs.Whole.{whole-searchable}
use Rattle.ccr_law_settling.specs.Settles.{EachLowers}
use Rattle.ccr_law_settling.specs.Lowering.{counts_of, Lowers}
use Rattle.ccr_law_settling.specs.Measure.{measure, IsBelow}
use Rattle.ccr_law_settling.proofs.Joined.Says.{always}
use Rattle.ccr_law_settling.proofs.Joined.Events.{each_lowers, none_is_left}
use Rattle.ccr_law_settling.proofs.Measure.Counts.{counts_stay}
use Rattle.ccr_law_reached.specs.Reached.{IsPossible, IsReached, told_by, EndsSettled, SettlingLowers, LowersAfter, HasNoGap, AsksForPart, PartsAreThere, IsOneOf, ArePollsOfFollowers, KeptRequestsWait, HoldsNumbersOnce, IsSegment, fetched_store, HasRightFiles, FetchedFilesAreRight}
use Rattle.ccr_law_reached.proofs.Places.{Reached, possible_at, state_is, reached_at}
use Rattle.ccr_law_reached.proofs.SpelledFiles.{HasSegments, IsFullSpelled, always_spelled}

spelled_at : (s : State) → IsReached s → Reached IsFullSpelled s
spelled_at s reached = reached_at IsFullSpelled always_spelled s reached

-- ---- settling

pub ends_at : (s : State) → IsReached s → EndsSettled s
ends_at s reached =
    let place : Reached IsFullSpelled s = spelled_at s reached in
    subst EndsSettled place.is (none_is_left place.past place.holds.full)

pub lowers_after : (start : Start) (entries : List Entry) → IsPossible start entries → LowersAfter start entries
lowers_after start entries possible = possible_at EachLowers (always EachLowers each_lowers) start entries possible

-- an event of settling leaves as many operations as there were
lowers_by_counts : (p : Past) → EachLowers p → (event : Event) → Lowers (counts_of p) p.state event
lowers_by_counts p lowers event may picks =
    subst (λ (count_of : List ℕ → ℕ). IsBelow (measure count_of (step p.state event picks).next) (measure (counts_of p) p.state))
    (fun_ext (counts_stay p event picks may)) (lowers event may picks)

pub lowers_at : (s : State) (reached : IsReached s) → SettlingLowers s reached
lowers_at s reached =
    let p : Past = told_by reached.start reached.entries in
    subst (λ (now : State). (event : Event) → Lowers (counts_of p) now event) (state_is s reached)
    (lowers_by_counts p (lowers_after reached.start reached.entries reached.possible))

-- ---- the leader

pub no_gap_at : (s : State) → IsReached s → HasNoGap s
no_gap_at s reached =
    let place : Reached IsFullSpelled s = spelled_at s reached in
    subst HasNoGap place.is (ap (λ (seen : Numbers). seen.above) place.holds.full.whole.leading.core.rest.primary.gapless)

asks_for_part : (p : Past) → AreTrueFrames p → (uuid : List ℕ) (request : ℕ) (content : Content) → IsTrueContent p uuid request content → AsksForPart p.state.leader.sessions content
asks_for_part p frames uuid request (contents.ChunkRequest session file offset size) is = λ own open_now.
    let still : IsOpenAsOpened p.opened own × ((own.number == session) ≡ true)
    = All-find (IsOpenAsOpened p.opened) (λ (s : Session). s.number == session) p.state.leader.sessions own frames.still open_now in
    let same : still.0.first ≡ is.0.session
    = some_equal still.0.first is.0.session (sym still.0.found ∙ (ap (session_of p.opened) (eqb-true own.number session still.1) ∙ is.0.opened)) in
    (is.0.bytes, (ap (λ (files : List (List ℕ)). slice_get files file) (sym still.0.same_files ∙ ap (λ (s : Session). s.files) same) ∙ is.0.is_file, is.0.within))
asks_for_part p frames uuid request _ is = tt

parts_there : (p : Past) → AreTrueFrames p → PartsAreThere p.state
parts_there p frames at m in_flight = asks_for_part p frames m.follower m.request m.content (All-at (IsTrueFrame p) p.state.flight at m frames.flight in_flight).content

pub parts_at : (s : State) → IsReached s → PartsAreThere s
parts_at s reached =
    let place : Reached IsFullSpelled s = spelled_at s reached in
    subst PartsAreThere place.is (parts_there place.past (framing place.past place.holds.full.whole).truth)

-- ---- what waits at the leader

pub polls_at : (s : State) → IsReached s → ArePollsOfFollowers s
polls_at s reached =
    let place : Reached IsFullSpelled s = spelled_at s reached in
    subst ArePollsOfFollowers place.is (polls_of_followers place.past place.holds.full.whole.frames)
  where
    polls_of_followers : (p : Past) → HasTrueFrames p → ArePollsOfFollowers p.state
    polls_of_followers p frames =
        All-weaker (λ (poll : Poll). IsOfFollower (scene_of p) p.state.followers (frame_of_poll poll)) (λ (poll : Poll). IsOneOf (length p.state.followers) poll.follower)
        (λ poll of. record { number = of.number; low = get_within p.state.followers of.number of.follower of.there; is = of.truth.named }) p.state.leader.polls frames.messages.polls_ok

pub kept_at : (s : State) → IsReached s → KeptRequestsWait s
kept_at s reached =
    let place : Reached IsFullSpelled s = spelled_at s reached in
    subst KeptRequestsWait place.is (record { kept = place.holds.full.parked.kept; behind = (leases-says place.past place.holds.full.whole.leading.leases).behind })

-- ---- what is held

-- what holds of all copies holds of the copy of a number
All-copy_of : (P : Copy → Type 0) (s : Copies) (copy : ℕ) (c : Copy) → AllByRecursion P (all_copies s) → copy_of s copy ≡ Some c → P c
All-copy_of P s copy c all is = by_test (s.primary.number == copy) is
  where
    by_found : (o : Option Replica) → replica_of s copy ≡ o → option_map {T = Replica} {U = Copy} (λ r. r.copy) o ≡ Some c → P c
    by_found None found at = absurd cc
    by_found (Some r) found at =
        subst P (some_equal r.copy c at)
        (All-find (λ (x : Replica). P x.copy) (λ (x : Replica). x.copy.number == copy) s.replicas r (All-map_back P (λ (x : Replica). x.copy) s.replicas all.1) found).0

    by_test : (b : Bool) → (if b then Some s.primary else option_map {T = Replica} {U = Copy} (λ r. r.copy) (replica_of s copy)) ≡ Some c → P c
    by_test true at = subst P (some_equal s.primary c at) all.0
    by_test false at = by_found (replica_of s copy) refl at

held_once : (p : Past) → IsWhole p → HoldsNumbersOnce p.state
held_once p now =
    let all : AreSearchable p = whole-searchable p now in
    record {
      leader = λ copy c is. (All-copy_of (HoldsForLeader p.given) p.state.leader.copies copy c all.leader is).1;
      followers = λ f copy own c there is.
          (All-copy_of (HoldsForFollower (line_of p own.history) (p.followers f).given (p.followers f).restored) own.copies copy c (all.followers f own there) is).2;
    }

pub held_once_at : (s : State) → IsReached s → HoldsNumbersOnce s
held_once_at s reached =
    let place : Reached IsFullSpelled s = spelled_at s reached in
    subst HoldsNumbersOnce place.is (held_once place.past place.holds.full.whole)

-- ---- bootstraps

-- what holds of the files holds of what is found by their places
All-files : (P : List ℕ → Type 0) (found : ℕ → List ℕ) (files : List (List ℕ)) (from : ℕ)
    → ((k : ℕ) (bytes : List ℕ) → slice_get files k ≡ Some bytes → found (from + k) ≡ bytes) → AllByRecursion P files
    → AllByRecursion (λ (k : ℕ). P (found k)) (range_with_len from (length files))
All-files P found [] from same all = tt
All-files P found (x ∷ files) from same all = (
  subst P (sym (ap found first_place ∙ same 0 x refl)) all.0,
  All-files P found files (from + 1) (λ k bytes at. ap found (next_place k) ∙ same (suc k) bytes at) all.1,
)
  where
    first_place : from ≡ from + 0
    first_place = omega arith

    next_place : (k : ℕ) → from + 1 + k ≡ from + suc k
    next_place k = omega arith

number_below : (count : ℕ) (xs : List Operation) (n : ℕ) → AllByRecursion (λ (op : Operation). op.seq < count) xs → has_number xs n ≡ true → n < count
number_below count [] n all there = absurd cc
number_below count (x ∷ xs) n all there =
    (elim (x.seq == n) as (λ b. (x.seq == n) ≡ b → (b || has_number xs n) ≡ true → n < count) [
      | true ↦ λ is some. subst (λ (k : ℕ). k < count) (eqb-true x.seq n is) all.0
      | false ↦ λ isnt rest. number_below count xs n all.1 rest
    ]) refl there

right_files : (line : Line) (session : Session) (size : ℕ) (fetch : Fetch) → IsWholeFetch session size fetch → fetch.count ≡ session.count → HasSegments session → HoldsHistory line session
    → HasRightFiles size fetch
right_files line session size fetch whole count segments holds = record {
  segments = subst (λ (n : ℕ). AllByRecursion (λ (file : ℕ). IsSegment (file_bytes size fetch file)) (range_with_len 0 n)) (sym sizes)
      (All-files IsSegment (file_bytes size fetch) session.files 0 (λ k bytes at. ap (file_bytes size fetch) (from_zero k) ∙ fetched_file session size fetch k bytes whole at) segments);
  once = λ n. subst (λ (ops : List Operation). count_by (λ op. op.seq == n) ops ≤ 1) (sym ops_are) (holds.once n);
  below = λ n there. subst (λ (k : ℕ). n < k) (sym count) (number_below session.count (ops_of_session session) n
      (All-weaker (λ (op : Operation). IsCommitted line op × (op.seq < session.count)) (λ (op : Operation). op.seq < session.count) (λ op both. both.1) (ops_of_session session) holds.ours)
      (subst (λ (ops : List Operation). has_number ops n ≡ true) ops_are there));
}
  where
    from_zero : (k : ℕ) → 0 + k ≡ k
    from_zero k = omega arith

    sizes : length fetch.sizes ≡ length session.files
    sizes = ap (λ (xs : List ℕ). length xs) whole.same_sizes ∙ sizes-length session.files

    ops_are : held (fetched_store size fetch) ≡ ops_of_session session
    ops_are = append-nil (all_in (files_of size fetch)) ∙ fetched session size fetch whole

files_right : (p : Past) → IsFullSpelled p → FetchedFilesAreRight p.state
files_right p now at f m own in_flight named there r done fetch work came stage complete =
    let frames : AreTrueFrames p = (framing p now.full.whole).truth in
    let after : RestoreOk p.opened done.next
    = restore-hears p.opened r own.now m (subst (WorkOk p.opened) work (now.full.whole.followers.fetches f own there)) (says_truly p at f m own r frames in_flight named there work) done came in
    let ok : FetchOk p.opened done.next.chunk_size done.next.next_request fetch = subst (StageOk p.opened done.next.chunk_size done.next.next_request) stage after.stage in
    right_files (line_of p (p.opened_in ok.session.number)) ok.session done.next.chunk_size fetch
    (whole_fetch p.opened done.next.chunk_size done.next.next_request fetch after.some ok complete) ok.same_count
    (All-find HasSegments (λ (s : Session). s.number == fetch.session) p.opened ok.session now.files ok.is_opened).0
    (All-find (λ (s : Session). HoldsHistory (line_of p (p.opened_in s.number)) s) (λ (s : Session). s.number == fetch.session) p.opened ok.session frames.sessions ok.is_opened).0

pub files_at : (s : State) → IsReached s → FetchedFilesAreRight s
files_at s reached =
    let place : Reached IsFullSpelled s = spelled_at s reached in
    subst FetchedFilesAreRight place.is (files_right place.past place.holds)
