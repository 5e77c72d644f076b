-- What the messages in flight say of the followers' requests, and what that lowers.
use Rattle.std.specs.List.{list_any}
use Rattle.std.specs.Str.{bytes_eq}
use Rattle.std.specs.Prelude.{slice_get, IfSome}
use Rattle.std.specs.Option.{option_map}
use Rattle.std.proofs.Common.{◌≡◌, ℕ, ◌<◌, ◌==◌, ◌&&◌, Bool, true, false, Option, Some, None, List, [], ◌∷◌, is_some, refl, sym, ◌∙◌, ap, subst}
use Rattle.std.proofs.lemmas.Slice.Eq.{bytes_eq-Decides}
use Rattle.ccr_wire.specs.Message.{Frame}
use Rattle.ccr_wire.specs.declared.content.Content.TheVariants as contents
use Rattle.ccr_model.specs.Requests.{is_sent}
use Rattle.ccr_model.specs.Tasks.{Read}
use Rattle.ccr_model.specs.Restores.{Restore, Stage, leasing, opening, fetching, Fetch, ChunkAsked, ask_sent}
use Rattle.ccr_model.specs.Followers.{Follower, Work, restoring, replicating, uuid_of}
use Rattle.ccr_model.specs.World.{follower_of}
use Rattle.ccr_model.specs.FrameFacts.{Fetching, fetching_at, next_request_of}
use Rattle.ccr_model.specs.Past.{Past}
use Rattle.ccr_law_base.proofs.Lists.{All-weaker, All-at, some_equal, found-any}
use Rattle.ccr_law_base.proofs.Tests.{same_turned}
use Rattle.ccr_law_copies.specs.Cores.{IsCore}
use Rattle.ccr_law_messages.specs.Asking.{Part, part_of, part_in, ReadsApart, AsksApart}
use Rattle.ccr_law_messages.specs.Saying.{IsGoodStage, IsGoodWork}
use Rattle.ccr_law_messages.specs.TrueFrames.{IsOfFollower, Own, own_of, setting, scene_of, HasTrueFrames}
use Rattle.ccr_law_messages.specs.FrameLaws.{IsOwn, IsMessageOf, AreTheirs}
use Rattle.ccr_law_messages.proofs.Says.{frames-say}
use Rattle.ccr_law_settling.specs.Within.{AreReadsApart, AreAsksApart, AreStageApart, AreRequestsApart, Asks, IsFresh, has_number_of, AsksOfSession}
use Rattle.ccr_law_settling.specs.Lowering.{IsInFlight, AskingLowers}
use Rattle.ccr_law_settling.proofs.Measure.Losing.{lose_at}
use Rattle.ccr_law_settling.proofs.Measure.Ticking.{tick_at}
use Rattle.ccr_law_settling.proofs.Measure.Answering.{any_step}
use Rattle.ccr_law_settling.proofs.Measure.Gone.{part_delivered}
use Rattle.ccr_law_settling.proofs.Measure.StaleMessages.{stale_delivered}
use Rattle.ccr_law_settling.proofs.Measure.Steps.{opening_delivered}
use Rattle.ccr_law_settling.proofs.Measure.Says.{delivered}

-- ---- numbers apart

reads_apart : (reads : List Read) → ReadsApart reads → AreReadsApart reads
reads_apart [] apart = tt
reads_apart (r ∷ reads) apart = (apart.0, reads_apart reads apart.1)

asks_apart : (asks : List ChunkAsked) → AsksApart asks → AreAsksApart asks
asks_apart [] apart = tt
asks_apart (a ∷ asks) apart = (apart.0, asks_apart asks apart.1)

pub requests_apart : (p : Past) (f : ℕ) (own : Own) (work : Work) → IsGoodWork (setting (scene_of p) f own) work → AreRequestsApart work
requests_apart p f own (replicating t) good = reads_apart t.reads good.reads.apart
requests_apart p f own (restoring r) good = by r.stage good.stage
  where
    by : (stage : Stage) → IsGoodStage (setting (scene_of p) f own) r.next_request stage → AreStageApart stage
    by (leasing a) good = tt
    by (opening a) good = tt
    by (fetching fetch) good = asks_apart fetch.asks good.asks.apart

-- ---- names

pub same_name : (a b : List ℕ) → a ≡ b → bytes_eq a b ≡ true
same_name a b e = (bytes_eq-Decides a b).1 e

named_at : (p : Past) (f : ℕ) (own : Own) (work : Work) → IsGoodWork (setting (scene_of p) f own) work → Asks (uuid_of f) work
named_at p f own (replicating t) good = same_name t.follower (uuid_of f) good.named
named_at p f own (restoring r) good = same_name r.follower (uuid_of f) good.named

pub theirs : (p : Past) → IsCore p → HasTrueFrames p → AreTheirs p
theirs p core frames = (frames-say p core frames).2

pub fresh_at : (p : Past) → IsCore p → HasTrueFrames p → (f : ℕ) (own : Follower) → slice_get p.state.followers f ≡ Some own → IsFresh p.state f own
fresh_at p core frames f own there = record {
  named = named_at p f (own_of own) own.work (frames.messages.works f own there).work;
  drawn = All-weaker (λ (m : Frame). bytes_eq m.follower (uuid_of f) ≡ true → IsMessageOf own m) (λ (m : Frame). bytes_eq m.follower (uuid_of f) ≡ true → m.request < next_request_of own.work)
      (λ m is ours. (is ours).drawn) p.state.flight ((theirs p core frames).made f own there).flight;
}

-- ---- requests for parts

sent_found : (request : ℕ) (fetch : Fetch) → list_any (has_number_of request) fetch.asks ≡ true → is_some (ask_sent fetch request) ≡ true
sent_found request fetch any =
    found-any (λ (a : ChunkAsked). (a.request == request) && is_sent a.progress) fetch.asks
    ∙ any_step (has_number_of request) (λ (a : ChunkAsked). (a.request == request) && is_sent a.progress) fetch.asks
    (λ a. first (request == a.request) (a.request == request) (is_sent a.progress) (same_turned request a.request)) any
  where
    first : (a b c : Bool) → (a ≡ true → b ≡ true) → (a && c) ≡ true → (b && c) ≡ true
    first true b c step is = let e : b ≡ true = step refl in rw e is
    first false b c step is = cc

-- what was asked for is of the session that is fetched
said_of : (r : Restore) (fetch : Fetch) (part : Part) (o : Option ChunkAsked) → is_some o ≡ true
    → IfSome (option_map part_of (option_map {T = ChunkAsked} {U = Fetching} (λ a. record { restore = r; fetch = fetch; ask = a }) o)) (λ a. a ≡ part) → fetch.session ≡ part.session
said_of r fetch part None there said = cc
said_of r fetch part (Some a) there said = ap (λ (x : Part). x.session) said

asks_of : (p : Past) → IsCore p → HasTrueFrames p → (at : ℕ) (follower : List ℕ) (request session file offset size : ℕ)
    → IsInFlight p.state at follower request (contents.ChunkRequest session file offset size) → AsksOfSession p.state follower request session
asks_of p core frames at follower request session file offset size found f own r fetch there is at_stage ours sent =
    said_of r fetch part (ask_sent fetch request) (sent_found request fetch sent)
    (subst (λ (stage : Stage). IfSome (option_map part_of (fetching_at r stage request)) (λ a. a ≡ part)) at_stage
    (subst (λ (w : Work). IfSome (part_in w request) (λ a. a ≡ part)) is
    (subst (λ (x : Follower). IfSome (part_in x.work request) (λ a. a ≡ part)) same_follower said)))
  where
    m : Frame
    m = record { follower = follower; request = request; content = contents.ChunkRequest session file offset size }

    part : Part
    part = record { session = session; file = file; offset = offset; size = size }

    whose : IsOfFollower (scene_of p) p.state.followers m
    whose = All-at (IsOfFollower (scene_of p) p.state.followers) p.state.flight at m frames.messages.flight_ok found

    said : IfSome (part_in whose.follower.work request) (λ a. a ≡ part)
    said = whose.truth.said.1

    name : uuid_of whose.number ≡ uuid_of f
    name = sym whose.truth.named ∙ (bytes_eq-Decides follower (uuid_of f)).0 ours

    same_number : whose.number ≡ f
    same_number =
        some_equal whose.number f
        (sym ((theirs p core frames).made whose.number whose.follower whose.there).named ∙ (ap (follower_of p.state.followers) name ∙ ((theirs p core frames).made f own there).named))

    same_follower : whose.follower ≡ own
    same_follower = some_equal whose.follower own (sym whose.there ∙ (ap (slice_get p.state.followers) same_number ∙ there))

-- ---- names of messages

pub own_name : (p : Past) → IsCore p → HasTrueFrames p → (at : ℕ) (m : Frame) → slice_get p.state.flight at ≡ Some m → (f : ℕ) → follower_of p.state.followers m.follower ≡ Some f
    → bytes_eq m.follower (uuid_of f) ≡ true
own_name p core frames at m found f is =
    let own : IsOwn p m = All-at (IsOwn p) p.state.flight at m (frames-say p core frames).1.flight found in
    let same : own.names.number ≡ f = some_equal own.names.number f (sym own.names.found ∙ is) in
    same_name m.follower (uuid_of f) (own.names.named ∙ ap uuid_of same)

-- ---- what that lowers

pub asking_lowers : (count_of : List ℕ → ℕ) (p : Past) → IsCore p → HasTrueFrames p → AskingLowers count_of p.state
asking_lowers count_of p core frames = record {
  lose = λ f at may picks. lose_at count_of p.state f at picks (λ own there. requests_apart p f (own_of own) own.work (frames.messages.works f own there).work) may;
  tick = λ f boots may picks.
      tick_at count_of p.state f picks (λ own there. (fresh_at p core frames f own there, requests_apart p f (own_of own) own.work (frames.messages.works f own there).work, boots own there)) may;
  part = λ at copy keep follower request session file offset size found may picks.
      delivered count_of p.state at copy keep picks
      (part_delivered count_of p.state at copy picks follower request session file offset size found (asks_of p core frames at follower request session file offset size found)) may;
  stale = λ at copy keep m found goes none may picks.
      delivered count_of p.state at copy keep picks (stale_delivered count_of p.state at copy picks m found goes none (own_name p core frames at m found)) may;
  opening = λ at copy keep m f own found goes named there opens may picks.
      delivered count_of p.state at copy keep picks
      (opening_delivered count_of p.state at copy picks m f own found goes named there (fresh_at p core frames f own there) (own_name p core frames at m found f named) opens) may;
}
