-- What is true of a message stays true where the follower's work goes on, the line grows and sessions are opened.
use Rattle.std.specs.List.{AllByRecursion}
use Rattle.std.proofs.Common.{◌≡◌, ℕ, ◌<◌, ◌≤◌, Some, List, [], ◌++◌, arith, ◌∙◌, sym}
use Rattle.ccr_op.specs.Operation.{Operation}
use Rattle.ccr_wire.specs.Message.{Frame}
use Rattle.ccr_wire.specs.declared.content.Content.{Content}
use Rattle.ccr_wire.specs.declared.content.Content.TheVariants as contents
use Rattle.ccr_model.specs.Leaders.{Session, session_of}
use Rattle.ccr_model.specs.Restores.{Chunk, ChunkAsked, Stage, leasing, opening, fetching}
use Rattle.ccr_model.specs.Followers.{Work, restoring, replicating}
use Rattle.ccr_model.specs.Past.{Line}
use Rattle.ccr_model.specs.FrameFacts.{IsCommitted, next_request_of}
use Rattle.ccr_law_messages.specs.Asking.{ask_in, part_in, Follows}
use Rattle.ccr_law_messages.specs.Saying.{Setting, IsAsItOpened, IsPlaceOf, HasBytes, IsWhole, Brings, IsTrueSaid, IsTrueMessage, IsGoodStage, IsGoodWork}
use Rattle.ccr_law_messages.proofs.Finds.{no_more-trans, no_more-same, no_more-if}
use Rattle.ccr_law_base.proofs.Lists.{All-weaker, All-append}

-- ---- a work after another

pub follows-same : (w : Work) → Follows w w
follows-same w = record { next = omega arith; asks = λ n low. no_more-same (ask_in w n); parts = λ n low. no_more-same (part_in w n) }

pub follows-trans : (a b c : Work) → Follows a b → Follows b c → Follows a c
follows-trans a b c first second = record {
  next = let x : next_request_of a ≤ next_request_of b = first.next in let y : next_request_of b ≤ next_request_of c = second.next in omega arith;
  asks = λ n low. let x : next_request_of a ≤ next_request_of b = first.next in
      no_more-trans (ask_in a n) (ask_in b n) (ask_in c n) (first.asks n low) (second.asks n (omega arith));
  parts = λ n low. let x : next_request_of a ≤ next_request_of b = first.next in
      no_more-trans (part_in a n) (part_in b n) (part_in c n) (first.parts n low) (second.parts n (omega arith));
}

followed-said : (e : Setting) (old new : Work) (n : ℕ) (content : Content) → Follows old new → n < next_request_of old → IsTrueSaid e old n content → IsTrueSaid e new n content
followed-said e old new n (contents.ReadRequest history from max_ops max_bytes timeout) f low said =
    record { same_history = said.same_history; some = said.some; asks = no_more-if _ (ask_in old n) (ask_in new n) (f.asks n low) said.asks }
followed-said e old new n (contents.ReadReply from global ops) f low said =
    record { committed = said.committed; run = said.run; brings = no_more-if (Brings from ops) (ask_in old n) (ask_in new n) (f.asks n low) said.brings }
followed-said e old new n (contents.SessionOpened session history count sizes) f low said = said
followed-said e old new n (contents.ChunkRequest session file offset size) f low said = (said.0, no_more-if _ (part_in old n) (part_in new n) (f.parts n low) said.1)
followed-said e old new n (contents.ChunkReply session file offset part) f low said =
    record { session = said.session; opened = said.opened; bytes = said.bytes; whole = no_more-if (IsWhole said.session session file offset part) (part_in old n) (part_in new n) (f.parts n low) said.whole }
followed-said e old new n (contents.LeaseAdd id) f low said = said
followed-said e old new n (contents.LeaseRenew id number) f low said = said
followed-said e old new n (contents.LeaseRemove id) f low said = said
followed-said e old new n (contents.ReadMissing from floor) f low said = tt
followed-said e old new n (contents.ReadHistory history) f low said = tt
followed-said e old new n (contents.LeaseAdded number) f low said = tt
followed-said e old new n (contents.LeaseAnswer outcome number) f low said = tt
followed-said e old new n contents.SessionOpen f low said = tt
followed-said e old new n (contents.SessionGone session) f low said = tt
followed-said e old new n (contents.NotReady copy) f low said = tt

pub followed-message : (e : Setting) (old new : Work) (m : Frame) → Follows old new → IsTrueMessage e old m → IsTrueMessage e new m
followed-message e old new m f truth = record {
  named = truth.named;
  drawn = let x : next_request_of old ≤ next_request_of new = f.next in let y : m.request < next_request_of old = truth.drawn in omega arith;
  said = followed-said e old new m.request m.content f truth.drawn truth.said;
}

-- ---- a work goes on, and sends messages

pub record Goes (e : Setting) (old new : Work) (sent : List Frame) : Type 0 where
  pub follows : Follows old new
  pub good : IsGoodWork e new
  pub messages : AllByRecursion (IsTrueMessage e new) sent

pub goes-then : (e : Setting) (a b c : Work) (first second : List Frame) → Goes e a b first → Goes e b c second → Goes e a c (first ++ second)
goes-then e a b c first second one two = record {
  follows = follows-trans a b c one.follows two.follows;
  good = two.good;
  messages = All-append (IsTrueMessage e c) first second
      (All-weaker (IsTrueMessage e b) (IsTrueMessage e c) (λ m truth. followed-message e b c m two.follows truth) first one.messages) two.messages;
}

pub goes-still : (e : Setting) (w : Work) → IsGoodWork e w → Goes e w w []
goes-still e w good = record { follows = follows-same w; good = good; messages = tt }

-- ---- the line grows, and sessions are opened

pub record GrowsTo (old_line line : Line) (old_opened opened : List Session) (old_in opened_in : ℕ → List ℕ) : Type 0 where
  pub committed : (op : Operation) → IsCommitted old_line op → IsCommitted line op
  pub known : (n : ℕ) (s : Session) → session_of old_opened n ≡ Some s → session_of opened n ≡ Some s
  pub within : (n : ℕ) (s : Session) → session_of old_opened n ≡ Some s → opened_in n ≡ old_in n

abbrev pub grown : Setting → Line → List Session → (ℕ → List ℕ) → Setting
grown e line opened opened_in = record e { line = line; opened = opened; opened_in = opened_in }

grown-place : (e : Setting) (line : Line) (opened : List Session) (opened_in : ℕ → List ℕ) (number file offset : ℕ) → GrowsTo e.line line e.opened opened e.opened_in opened_in → IsPlaceOf e number file offset → IsPlaceOf (grown e line opened opened_in) number file offset
grown-place e line opened opened_in number file offset g place =
    record { session = place.session; opened = g.known number place.session place.opened; bytes = place.bytes; is_file = place.is_file; within = place.within }

grown-opened : (e : Setting) (line : Line) (opened : List Session) (opened_in : ℕ → List ℕ) (number : ℕ) (history : List ℕ) (count : ℕ) (sizes : List ℕ) → GrowsTo e.line line e.opened opened e.opened_in opened_in
    → IsAsItOpened e number history count sizes → IsAsItOpened (grown e line opened opened_in) number history count sizes
grown-opened e line opened opened_in number history count sizes g o =
    record { session = o.session; opened = g.known number o.session o.opened; same_count = o.same_count; same_history = o.same_history ∙ sym (g.within number o.session o.opened); same_sizes = o.same_sizes }

grown-said : (e : Setting) (line : Line) (opened : List Session) (opened_in : ℕ → List ℕ) (w : Work) (n : ℕ) (content : Content) → GrowsTo e.line line e.opened opened e.opened_in opened_in → IsTrueSaid e w n content → IsTrueSaid (grown e line opened opened_in) w n content
grown-said e line opened opened_in w n (contents.ReadRequest history from max_ops max_bytes timeout) g said = record { same_history = said.same_history; some = said.some; asks = said.asks }
grown-said e line opened opened_in w n (contents.ReadReply from global ops) g said =
    record { committed = All-weaker (IsCommitted e.line) (IsCommitted line) g.committed ops said.committed; run = said.run; brings = said.brings }
grown-said e line opened opened_in w n (contents.SessionOpened session history count sizes) g said = grown-opened e line opened opened_in session history count sizes g said
grown-said e line opened opened_in w n (contents.ChunkRequest session file offset size) g said = (grown-place e line opened opened_in session file offset g said.0, said.1)
grown-said e line opened opened_in w n (contents.ChunkReply session file offset part) g said =
    record { session = said.session; opened = g.known session said.session said.opened; bytes = said.bytes; whole = said.whole }
grown-said e line opened opened_in w n (contents.LeaseAdd id) g said = said
grown-said e line opened opened_in w n (contents.LeaseRenew id number) g said = said
grown-said e line opened opened_in w n (contents.LeaseRemove id) g said = said
grown-said e line opened opened_in w n (contents.ReadMissing from floor) g said = tt
grown-said e line opened opened_in w n (contents.ReadHistory history) g said = tt
grown-said e line opened opened_in w n (contents.LeaseAdded number) g said = tt
grown-said e line opened opened_in w n (contents.LeaseAnswer outcome number) g said = tt
grown-said e line opened opened_in w n contents.SessionOpen g said = tt
grown-said e line opened opened_in w n (contents.SessionGone session) g said = tt
grown-said e line opened opened_in w n (contents.NotReady copy) g said = tt

pub grown-message : (e : Setting) (line : Line) (opened : List Session) (opened_in : ℕ → List ℕ) (w : Work) (m : Frame) → GrowsTo e.line line e.opened opened e.opened_in opened_in → IsTrueMessage e w m → IsTrueMessage (grown e line opened opened_in) w m
grown-message e line opened opened_in w m g truth = record { named = truth.named; drawn = truth.drawn; said = grown-said e line opened opened_in w m.request m.content g truth.said }

grown-stage : (e : Setting) (line : Line) (opened : List Session) (opened_in : ℕ → List ℕ) (next : ℕ) (stage : Stage) → GrowsTo e.line line e.opened opened e.opened_in opened_in → IsGoodStage e next stage → IsGoodStage (grown e line opened opened_in) next stage
grown-stage e line opened opened_in next (leasing a) g good = tt
grown-stage e line opened opened_in next (opening a) g good = tt
grown-stage e line opened opened_in next (fetching f) g good = record {
  own = good.own;
  session = grown-opened e line opened opened_in f.session f.history f.count f.sizes g good.session;
  chunks = All-weaker (λ (c : Chunk). HasBytes e f.session c.file c.offset c.bytes) (λ (c : Chunk). HasBytes (grown e line opened opened_in) f.session c.file c.offset c.bytes)
      (λ c has. record { session = has.session; opened = g.known f.session has.session has.opened; bytes = has.bytes }) f.chunks good.chunks;
  asks = record {
    drawn = good.asks.drawn;
    places = All-weaker (λ (a : ChunkAsked). IsPlaceOf e f.session a.file a.offset) (λ (a : ChunkAsked). IsPlaceOf (grown e line opened opened_in) f.session a.file a.offset)
        (λ a place. grown-place e line opened opened_in f.session a.file a.offset g place) f.asks good.asks.places;
    apart = good.asks.apart;
  };
}

pub grown-work : (e : Setting) (line : Line) (opened : List Session) (opened_in : ℕ → List ℕ) (w : Work) → GrowsTo e.line line e.opened opened e.opened_in opened_in → IsGoodWork e w → IsGoodWork (grown e line opened opened_in) w
grown-work e line opened opened_in (restoring r) g good = record { named = good.named; same_lease = good.same_lease; same_history = good.same_history; stage = grown-stage e line opened opened_in r.next_request r.stage g good.stage }
grown-work e line opened opened_in (replicating t) g good = record { named = good.named; same_history = good.same_history; some = good.some; reads = good.reads }
