-- What holds of the messages and the sessions, in the words of the model.
use Rattle.std.specs.Prelude.{slice_get, IfSome, ◌==◌}
use Rattle.std.specs.Str.{bytes_eq}
use Rattle.std.proofs.lemmas.Slice.Eq.{bytes_eq-Decides}
use Rattle.std.specs.List.{AllByRecursion}
use Rattle.std.specs.Option.{option_map, option_and_then}
use Rattle.std.proofs.lemmas.Bool.{eqb-true}
use Rattle.std.proofs.Common.{◌≡◌, ℕ, ◌<◌, ◌≤◌, true, false, Option, Some, None, is_some, List, length, refl, sym, ◌∙◌, ap, subst, arith}
use Rattle.ccr_op.specs.Operation.{Operation}
use Rattle.ccr_wire.specs.Message.{Frame}
use Rattle.ccr_wire.specs.declared.content.Content.{Content}
use Rattle.ccr_wire.specs.declared.content.Content.TheVariants as contents
use Rattle.ccr_model.specs.Restores.{Stage, leasing, opening, fetching, Chunk}
use Rattle.ccr_model.specs.Leaders.{Session, KeptRequest, Poll, session_of}
use Rattle.ccr_model.specs.LeaderFrames.{chunk_of}
use Rattle.ccr_model.specs.Followers.{Follower, Work, restoring, replicating, uuid_of}
use Rattle.ccr_model.specs.World.{follower_of, most_followers}
use Rattle.ccr_model.specs.Past.{Past, line_of}
use Rattle.ccr_model.specs.FrameFacts.{IsCommitted, named_follower, IsNamed, uuid_of_work, AsksForSome, IsOpenAsOpened, next_request_of, IsDrawn, Reading, reading_in, reading_of, AsksAsRead, BringsAsAsked, Fetching, fetching_in, fetching_of, IsAskedPlace, IsWholePart, IsPlaceIn, IsPartOf, IsAsOpened, IsTrueStage, IsTrueWork, IsTrueContent, IsTrueFrame, IsTruePoll, AreTrueFrames, HoldsHistory}
use Rattle.ccr_law_copies.specs.Cores.{IsCore}
use Rattle.ccr_law_copies.proofs.LeaderEvents.{line-is}
use Rattle.ccr_law_stores.specs.TrueStores.{IsTrueSession}
use Rattle.ccr_law_stores.proofs.Sessions.{session-holds}
use Rattle.ccr_law_messages.specs.Asking.{Ask, ask_of, ask_in, Part, part_of, part_in}
use Rattle.ccr_law_messages.specs.Saying.{Setting, IsAsItOpened, IsPlaceOf, HasBytes, IsWhole, Brings, IsTrueSaid, IsGoodStage, IsGoodWork}
use Rattle.ccr_law_messages.specs.TrueFrames.{Own, own_of, setting, IsOpen, Serves, IsOfFollower, frame_of_poll, frame_of_kept, scene_of, HasTrueFrames}
use Rattle.ccr_law_messages.specs.FrameLaws.{NamesFollower, IsAboutLease, IsOwn, IsOwnKept, IsRunOf, AreOwn, IsMessageOf, AreTheirs, FramesSay}
use Rattle.ccr_law_messages.proofs.Finds.{if-weaker}
use Rattle.ccr_law_messages.proofs.Naming.{differs, named-at}
use Rattle.ccr_law_base.proofs.Lists.{All-weaker, All-find, some_equal, All-places, get_within}

-- ---- whose a message is

pub named-number : (p : Past) (m : Frame) → length p.state.followers ≤ most_followers → (of : IsOfFollower (scene_of p) p.state.followers m) → follower_of p.state.followers m.follower ≡ Some of.number
named-number p m few of = ap (λ (uuid : List ℕ). follower_of p.state.followers uuid) of.truth.named ∙ named-at p.state.followers of.number of.follower few of.there

named-follower : (p : Past) (m : Frame) → length p.state.followers ≤ most_followers → (of : IsOfFollower (scene_of p) p.state.followers m) → named_follower p.state.followers m.follower ≡ Some of.follower
named-follower p m few of = ap (λ (found : Option ℕ). option_and_then (slice_get p.state.followers) found) (named-number p m few of) ∙ of.there

-- what holds of the work of the follower that is named
by-work : {X : Type 0} (p : Past) (m : Frame) (find_in : Work → Option X) (P : X → Type 0) → length p.state.followers ≤ most_followers → (of : IsOfFollower (scene_of p) p.state.followers m)
    → IfSome (find_in of.follower.work) P → IfSome (option_and_then (λ f. find_in f.work) (named_follower p.state.followers m.follower)) P
by-work p m find_in P few of holds =
    subst (λ (o : Option Follower). IfSome (option_and_then (λ f. find_in f.work) o) P) (sym (named-follower p m few of)) holds

if-mapped : {X Y : Type 0} (f : X → Y) (P : Y → Type 0) (o : Option X) → IfSome (option_map f o) P → IfSome o (λ x. P (f x))
if-mapped f P None holds = tt
if-mapped f P (Some x) holds = holds

asks-as : (history : List ℕ) (from max_ops max_bytes : ℕ) (o : Reading) → ask_of o ≡ record { history = history; from = from; number = max_ops; size = max_bytes } → AsksAsRead history from max_ops max_bytes o
asks-as history from max_ops max_bytes o same = record {
  same_history = sym (ap (λ (a : Ask). a.history) same);
  begins = sym (ap (λ (a : Ask). a.from) same);
  number = sym (ap (λ (a : Ask). a.number) same);
  size = sym (ap (λ (a : Ask). a.size) same);
}

reading-asks : (p : Past) (m : Frame) (history : List ℕ) (from max_ops max_bytes : ℕ) → length p.state.followers ≤ most_followers → (of : IsOfFollower (scene_of p) p.state.followers m)
    → IfSome (ask_in of.follower.work m.request) (λ a. a ≡ record { history = history; from = from; number = max_ops; size = max_bytes })
    → IfSome (reading_of p.state m.follower m.request) (AsksAsRead history from max_ops max_bytes)
reading-asks p m history from max_ops max_bytes few of asks =
    by-work p m (λ w. reading_in w m.request) (AsksAsRead history from max_ops max_bytes) few of
    (if-weaker (λ (o : Reading). ask_of o ≡ record { history = history; from = from; number = max_ops; size = max_bytes }) (AsksAsRead history from max_ops max_bytes)
    (λ o same. asks-as history from max_ops max_bytes o same) (reading_in of.follower.work m.request)
    (if-mapped ask_of (λ (a : Ask). a ≡ record { history = history; from = from; number = max_ops; size = max_bytes }) (reading_in of.follower.work m.request) asks))

reading-brings : (p : Past) (m : Frame) (from : ℕ) (ops : List Operation) → length p.state.followers ≤ most_followers → (of : IsOfFollower (scene_of p) p.state.followers m)
    → IfSome (ask_in of.follower.work m.request) (Brings from ops) → IfSome (reading_of p.state m.follower m.request) (BringsAsAsked from ops)
reading-brings p m from ops few of brings =
    by-work p m (λ w. reading_in w m.request) (BringsAsAsked from ops) few of
    (if-weaker (λ (o : Reading). Brings from ops (ask_of o)) (BringsAsAsked from ops) (λ o told. record { begins = told.begins; number = told.number; size = told.size })
    (reading_in of.follower.work m.request) (if-mapped ask_of (Brings from ops) (reading_in of.follower.work m.request) brings))

fetching-asks : (p : Past) (m : Frame) (session file offset size : ℕ) → length p.state.followers ≤ most_followers → (of : IsOfFollower (scene_of p) p.state.followers m)
    → IfSome (part_in of.follower.work m.request) (λ a. a ≡ record { session = session; file = file; offset = offset; size = size })
    → IfSome (fetching_of p.state m.follower m.request) (λ o. IsAskedPlace session file offset o × (size ≡ o.restore.chunk_size))
fetching-asks p m session file offset size few of asks =
    by-work p m (λ w. fetching_in w m.request) (λ o. IsAskedPlace session file offset o × (size ≡ o.restore.chunk_size)) few of
    (if-weaker (λ (o : Fetching). part_of o ≡ record { session = session; file = file; offset = offset; size = size }) (λ o. IsAskedPlace session file offset o × (size ≡ o.restore.chunk_size))
    (λ o same. (
      record { same_session = sym (ap (λ (a : Part). a.session) same); same_file = sym (ap (λ (a : Part). a.file) same); same_offset = sym (ap (λ (a : Part). a.offset) same) },
      sym (ap (λ (a : Part). a.size) same),
    )) (fetching_in of.follower.work m.request)
    (if-mapped part_of (λ (a : Part). a ≡ record { session = session; file = file; offset = offset; size = size }) (fetching_in of.follower.work m.request) asks))

fetching-whole : (p : Past) (m : Frame) (source : Session) (session file offset : ℕ) (part : List ℕ) → length p.state.followers ≤ most_followers → (of : IsOfFollower (scene_of p) p.state.followers m)
    → session_of p.opened session ≡ Some source → IfSome (part_in of.follower.work m.request) (IsWhole source session file offset part)
    → IfSome (fetching_of p.state m.follower m.request) (IsWholePart p session file offset part)
fetching-whole p m source session file offset part few of found whole =
    by-work p m (λ w. fetching_in w m.request) (IsWholePart p session file offset part) few of
    (if-weaker (λ (o : Fetching). IsWhole source session file offset part (part_of o)) (IsWholePart p session file offset part)
    (λ o is. (
      record { same_session = is.same_session; same_file = is.same_file; same_offset = is.same_offset },
      subst (λ (s : Option Session). IfSome s (λ opened. part ≡ chunk_of opened file offset o.restore.chunk_size)) (sym found) is.all,
    )) (fetching_in of.follower.work m.request)
    (if-mapped part_of (IsWhole source session file offset part) (fetching_in of.follower.work m.request) whole))

-- ---- messages

opened-as : (p : Past) (e : Setting) (number : ℕ) (history : List ℕ) (count : ℕ) (sizes : List ℕ) → e.opened ≡ p.opened → e.opened_in number ≡ p.opened_in number
    → IsAsItOpened e number history count sizes → IsAsOpened p number history count sizes
opened-as p e number history count sizes opened same is = record {
  session = is.session;
  opened = ap (λ (all : List Session). session_of all number) (sym opened) ∙ is.opened;
  same_count = is.same_count;
  same_history = is.same_history ∙ same;
  same_sizes = is.same_sizes;
}

place-in : (p : Past) (f : ℕ) (lease : Own) (number file offset : ℕ) → IsPlaceOf (setting (scene_of p) f lease) number file offset → IsPlaceIn p number file offset
place-in p f lease number file offset is = record { session = is.session; opened = is.opened; bytes = is.bytes; is_file = is.is_file; within = is.within }

said-content : (p : Past) (m : Frame) (content : Content) → length p.state.followers ≤ most_followers → (of : IsOfFollower (scene_of p) p.state.followers m)
    → IsTrueSaid (setting (scene_of p) of.number (own_of of.follower)) of.follower.work m.request content → IsTrueContent p m.follower m.request content
said-content p m (contents.ReadRequest history from max_ops max_bytes timeout) few of said = reading-asks p m history from max_ops max_bytes few of said.asks
said-content p m (contents.ReadReply from global ops) few of said = (
  subst (λ (o : Option Follower). IfSome o (λ f. AllByRecursion (IsCommitted (line_of p f.history)) ops)) (sym (named-follower p m few of)) said.committed,
  reading-brings p m from ops few of said.brings,
)
said-content p m (contents.SessionOpened session history count sizes) few of said = opened-as p (setting (scene_of p) of.number (own_of of.follower)) session history count sizes refl refl said
said-content p m (contents.ChunkRequest session file offset size) few of said =
    (place-in p of.number (own_of of.follower) session file offset said.0, fetching-asks p m session file offset size few of said.1)
said-content p m (contents.ChunkReply session file offset part) few of said = (
  record { session = said.session; opened = said.opened; bytes = said.bytes },
  fetching-whole p m said.session session file offset part few of said.opened said.whole,
)
said-content p m (contents.LeaseAdd id) few of said = tt
said-content p m (contents.LeaseRenew id number) few of said = tt
said-content p m (contents.LeaseRemove id) few of said = tt
said-content p m (contents.ReadMissing from floor) few of said = tt
said-content p m (contents.ReadHistory history) few of said = tt
said-content p m (contents.LeaseAdded number) few of said = tt
said-content p m (contents.LeaseAnswer outcome number) few of said = tt
said-content p m contents.SessionOpen few of said = tt
said-content p m (contents.SessionGone session) few of said = tt
said-content p m (contents.NotReady copy) few of said = tt

is-named : (p : Past) (m : Frame) → length p.state.followers ≤ most_followers → IsOfFollower (scene_of p) p.state.followers m → IsNamed p.state m.follower
is-named p m few of = ap (λ (o : Option Follower). is_some o) (named-follower p m few of)

said-some : (e : Setting) (w : Work) (n : ℕ) (content : Content) → IsTrueSaid e w n content → AsksForSome content
said-some e w n (contents.ReadRequest history from max_ops max_bytes timeout) said = said.some
said-some e w n _ said = tt

is-drawn : (p : Past) (m : Frame) → length p.state.followers ≤ most_followers → (of : IsOfFollower (scene_of p) p.state.followers m) → IsDrawn p.state m.follower m.request
is-drawn p m few of = subst (λ (o : Option Follower). IfSome o (λ f. m.request < next_request_of f.work)) (sym (named-follower p m few of)) of.truth.drawn

-- ---- works

true-stage : (p : Past) (f : ℕ) (lease : Own) (next : ℕ) (stage : Stage) → IsGoodStage (setting (scene_of p) f lease) next stage → IsTrueStage p lease.history stage
true-stage p f lease next (leasing a) good = tt
true-stage p f lease next (opening a) good = tt
true-stage p f lease next (fetching fetch) good = record {
  same_history = good.own;
  session = opened-as p (setting (scene_of p) f lease) fetch.session fetch.history fetch.count fetch.sizes refl refl good.session;
  chunks = All-weaker (λ (c : Chunk). HasBytes (setting (scene_of p) f lease) fetch.session c.file c.offset c.bytes) (λ (c : Chunk). IsPartOf p fetch.session c.file c.offset c.bytes)
      (λ c has. record { session = has.session; opened = has.opened; bytes = has.bytes }) fetch.chunks good.chunks;
}

true-work : (p : Past) (f : ℕ) (lease : Own) (work : Work) → IsGoodWork (setting (scene_of p) f lease) work → IsTrueWork p lease.history work
true-work p f lease (restoring r) good = (good.same_history, true-stage p f lease r.next_request r.stage good.stage)
true-work p f lease (replicating t) good = good.same_history

work-named : (e : Setting) (w : Work) → IsGoodWork e w → uuid_of_work w ≡ e.uuid
work-named e (restoring r) good = good.named
work-named e (replicating t) good = good.named

-- ---- what is stated

frames-true : (p : Past) → IsCore p → HasTrueFrames p → AreTrueFrames p
frames-true p core now = record {
  flight = All-weaker (IsOfFollower (scene_of p) p.state.followers) (IsTrueFrame p)
      (λ m of. record {
        named = is-named p m now.messages.few of;
        some = said-some (setting (scene_of p) of.number (own_of of.follower)) of.follower.work m.request m.content of.truth.said;
        drawn = is-drawn p m now.messages.few of;
        content = said-content p m m.content now.messages.few of of.truth.said;
      }) p.state.flight now.messages.flight_ok;
  polls = All-weaker (λ (poll : Poll). IsOfFollower (scene_of p) p.state.followers (frame_of_poll poll)) (IsTruePoll p)
      (λ poll of. record {
        named = is-named p (frame_of_poll poll) now.messages.few of;
        some = of.truth.said.some;
        drawn = is-drawn p (frame_of_poll poll) now.messages.few of;
        asks = reading-asks p (frame_of_poll poll) poll.history poll.from poll.max_ops poll.max_bytes now.messages.few of of.truth.said.asks;
      }) p.state.leader.polls now.messages.polls_ok;
  kept = All-weaker (λ (k : KeptRequest). IsOfFollower (scene_of p) p.state.followers (frame_of_kept k)) (λ (k : KeptRequest). IsDrawn p.state k.follower k.request)
      (λ k of. is-drawn p (frame_of_kept k) now.messages.few of) p.state.leader.kept now.messages.kept_ok;
  kept_named = All-weaker (λ (k : KeptRequest). IsOfFollower (scene_of p) p.state.followers (frame_of_kept k)) (λ (k : KeptRequest). IsNamed p.state k.follower)
      (λ k of. is-named p (frame_of_kept k) now.messages.few of) p.state.leader.kept now.messages.kept_ok;
  sessions = All-weaker (Serves (line_of p) p.opened_in) (λ (session : Session). HoldsHistory (line_of p (p.opened_in session.number)) session)
      (λ session serves. session-holds (line_of p (p.opened_in session.number)) session (line-is p core (p.opened_in session.number)).numbered serves) p.opened now.sessions.hold;
  still = All-weaker (IsOpen p.opened p.state.leader.next_session) (IsOpenAsOpened p.opened)
      (λ session is. record { first = is.first; found = is.found; same_count = is.same_count; same_files = is.same_files }) p.state.leader.sessions now.sessions.still;
  names = λ f own at. record {
    alone = named-at p.state.followers f own now.messages.few at;
    work = work-named (setting (scene_of p) f (own_of own)) own.work (now.messages.works f own at).work;
  };
  works = All-places (λ (f : Follower). IsTrueWork p f.history f.work) p.state.followers (λ f s at. true-work p f (own_of s) s.work (now.messages.works f s at).work);
}

names : (p : Past) (m : Frame) → length p.state.followers ≤ most_followers → (of : IsOfFollower (scene_of p) p.state.followers m) → NamesFollower p m.follower
names p m few of = record { number = of.number; follower = of.follower; there = of.there; named = of.truth.named; found = named-number p m few of }

about-lease : (e : Setting) (w : Work) (n : ℕ) (content : Content) → IsTrueSaid e w n content → IsAboutLease e.lease content
about-lease e w n (contents.LeaseAdd id) said = said
about-lease e w n (contents.LeaseRenew id number) said = said
about-lease e w n (contents.LeaseRemove id) said = said
about-lease e w n _ said = tt

run-of : (e : Setting) (w : Work) (n : ℕ) (content : Content) → IsTrueSaid e w n content → IsRunOf content
run-of e w n (contents.ReadReply from global ops) said = said.run
run-of e w n _ said = tt

frames-own : (p : Past) → HasTrueFrames p → AreOwn p
unfolding names
frames-own p now = record {
  flight = All-weaker (IsOfFollower (scene_of p) p.state.followers) (IsOwn p)
      (λ m of. record {
        names = names p m now.messages.few of;
        lease = about-lease (setting (scene_of p) of.number (own_of of.follower)) of.follower.work m.request m.content of.truth.said;
      }) p.state.flight now.messages.flight_ok;
  kept = All-weaker (λ (k : KeptRequest). IsOfFollower (scene_of p) p.state.followers (frame_of_kept k)) (IsOwnKept p)
      (λ k of. record { names = names p (frame_of_kept k) now.messages.few of; lease = of.truth.said }) p.state.leader.kept now.messages.kept_ok;
  runs = All-weaker (IsOfFollower (scene_of p) p.state.followers) (λ (m : Frame). IsRunOf m.content)
      (λ m of. run-of (setting (scene_of p) of.number (own_of of.follower)) of.follower.work m.request m.content of.truth.said) p.state.flight now.messages.flight_ok;
}

-- the same by followers
same-number : (p : Past) (m : Frame) (f : ℕ) (s : Follower) → length p.state.followers ≤ most_followers → slice_get p.state.followers f ≡ Some s
    → (of : IsOfFollower (scene_of p) p.state.followers m) → bytes_eq m.follower (uuid_of f) ≡ true → of.number ≡ f
same-number p m f s few there of own =
    let same : m.follower ≡ uuid_of f = (bytes_eq-Decides m.follower (uuid_of f)).0 own in
    some_equal of.number f (sym (named-number p m few of) ∙ (ap (λ (uuid : List ℕ). follower_of p.state.followers uuid) same ∙ named-at p.state.followers f s few there))

pub same-follower : (p : Past) (m : Frame) (f : ℕ) (s : Follower) → length p.state.followers ≤ most_followers → slice_get p.state.followers f ≡ Some s
    → (of : IsOfFollower (scene_of p) p.state.followers m) → bytes_eq m.follower (uuid_of f) ≡ true → of.follower ≡ s
same-follower p m f s few there of own =
    some_equal of.follower s (sym of.there ∙ (ap (λ (n : ℕ). slice_get p.state.followers n) (same-number p m f s few there of own) ∙ there))

message-of : (p : Past) (m : Frame) (f : ℕ) (s : Follower) → length p.state.followers ≤ most_followers → slice_get p.state.followers f ≡ Some s
    → IsOfFollower (scene_of p) p.state.followers m → bytes_eq m.follower (uuid_of f) ≡ true → IsMessageOf s m
message-of p m f s few there of own =
    subst (λ (x : Follower). IsMessageOf x m) (same-follower p m f s few there of own)
    (record { drawn = of.truth.drawn; lease = about-lease (setting (scene_of p) of.number (own_of of.follower)) of.follower.work m.request m.content of.truth.said })

-- a message of a follower that was made is of none that comes later
unmade-yet : (p : Past) (m : Frame) → length p.state.followers ≤ most_followers → IsOfFollower (scene_of p) p.state.followers m → bytes_eq m.follower (uuid_of (length p.state.followers)) ≡ false
unmade-yet p m few of =
    let below : of.number < length p.state.followers = get_within p.state.followers of.number of.follower of.there in
    subst (λ (uuid : List ℕ). bytes_eq uuid (uuid_of (length p.state.followers)) ≡ false) (sym of.truth.named) (differs of.number (length p.state.followers) below (omega arith))

frames-theirs : (p : Past) → HasTrueFrames p → AreTheirs p
frames-theirs p now = record {
  made = λ f s there. record {
    named = named-at p.state.followers f s now.messages.few there;
    flight = All-weaker (IsOfFollower (scene_of p) p.state.followers) (λ (m : Frame). bytes_eq m.follower (uuid_of f) ≡ true → IsMessageOf s m)
        (λ m of own. message-of p m f s now.messages.few there of own) p.state.flight now.messages.flight_ok;
    kept = All-weaker (λ (k : KeptRequest). IsOfFollower (scene_of p) p.state.followers (frame_of_kept k)) (λ (k : KeptRequest). bytes_eq k.follower (uuid_of f) ≡ true → k.id ≡ s.lease)
        (λ k of own. (message-of p (frame_of_kept k) f s now.messages.few there of own).lease) p.state.leader.kept now.messages.kept_ok;
  };
  unmade = All-weaker (IsOfFollower (scene_of p) p.state.followers) (λ (m : Frame). bytes_eq m.follower (uuid_of (length p.state.followers)) ≡ false)
      (λ m of. unmade-yet p m now.messages.few of) p.state.flight now.messages.flight_ok;
}

pub frames-say : FramesSay
frames-say p core now = (
  frames-true p core now,
  frames-own p now,
  frames-theirs p now,
  λ number session found.
      let both : Serves (line_of p) p.opened_in session × ((session.number == number) ≡ true)
      = All-find (Serves (line_of p) p.opened_in) (λ s. s.number == number) p.opened session now.sessions.hold found in
      subst (λ (n : ℕ). IsTrueSession (line_of p (p.opened_in n)) session) (eqb-true session.number number both.1) both.0,
)
