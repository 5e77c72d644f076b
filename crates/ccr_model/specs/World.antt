-- A shard world: one leader shard, its followers in the order in which they were made, and the messages in flight, oldest first.
use Rattle.std.specs.Prelude.{ℕ, ◌+◌, Bool, true, false, nat_le, if◌then◌else◌, List, [], ◌∷◌, ◌++◌, length, position, remove, slice_get, slice_set, Option, Some, None}
use Rattle.std.specs.Option.{option_map}
use Rattle.std.specs.Str.{bytes_eq}
use Rattle.ccr_wire.specs.Message.{Frame, kind_of_content}
use Rattle.ccr_wire.specs.Spelling.{spelling}
use Rattle.ccr_wire.specs.declared.kind.FrameKind.{FrameKind}
use Rattle.ccr_wire.specs.declared.kind.FrameKind.TheVariants as kinds
use Rattle.ccr_query.specs.Queries.{Tree}
use Rattle.ccr_query.specs.declared.sorting.SortKey.{SortKey}
use Rattle.ccr_journal.specs.declared.params.ParamValues.{ParamValues}
use Rattle.ccr_journal.specs.declared.replies.Reply.TheVariants as replies
use Rattle.ccr_journal.specs.declared.replies.Refusal.TheVariants.{NoCopy, NoFrame, NoFollower, SameName, TooMany}
use Rattle.ccr_model.specs.Outcomes.{Outcome, refused, answered, guarded}
use Rattle.ccr_model.specs.Copies.{Copy}
use Rattle.ccr_model.specs.Searches.{search_of}
use Rattle.ccr_model.specs.Leaders.{Start, Leader, new_leader}
use Rattle.ccr_model.specs.LeaderFrames.{leader_receive}
use Rattle.ccr_model.specs.Followers.{Follower, uuid_of, new_follower}
use Rattle.ccr_model.specs.FollowerRows.{follower_receive_row}

pub record State : Type 0 where
  pub leader : Leader
  pub followers : List Follower
  pub flight : List Frame

abbrev pub start_state : Start → State
start_state start = record { leader = new_leader start; followers = []; flight = [] }

-- the leader's side did this; what it sends goes to the end of those in flight
abbrev pub at_leader : State → Outcome Leader → Outcome State
at_leader s o = record { reply = o.reply; next = record s { leader = o.next; flight = s.flight ++ o.sent }; sent = o.sent }

-- the follower of a number did this
abbrev pub at_follower : State → ℕ → Outcome Follower → Outcome State
at_follower s f o = record { reply = o.reply; next = record s { followers = slice_set s.followers f o.next; flight = s.flight ++ o.sent }; sent = o.sent }

-- an event of a follower is refused where that was never made
abbrev pub for_follower : State → ℕ → (Follower → Outcome Follower) → Option Follower → Outcome State
for_follower s f row None = refused s (NoFollower f)
for_follower s f row (Some follower) = at_follower s f (row follower)

-- ---- messages

-- the message goes to the leader
abbrev pub goes_to_leader : FrameKind → Bool
goes_to_leader kinds.ReadRequest = true
goes_to_leader kinds.LeaseAdd = true
goes_to_leader kinds.LeaseRenew = true
goes_to_leader kinds.LeaseRemove = true
goes_to_leader kinds.SessionOpen = true
goes_to_leader kinds.ChunkRequest = true
goes_to_leader _ = false

-- the bytes of the message at this place of those in flight
abbrev pub frame_at : State → ℕ → Option (List ℕ)
frame_at s at = option_map {T = Frame} {U = List ℕ} spelling (slice_get s.flight at)

-- the place of the follower whose UUID this is, counted from a number on
abbrev pub follower_from : ℕ → List Follower → List ℕ → Option ℕ
follower_from f [] uuid = None
follower_from f (x ∷ followers) uuid = if bytes_eq (uuid_of f) uuid then Some f else follower_from (f + 1) followers uuid

-- the number of the follower whose UUID this is
abbrev pub follower_of : List Follower → List ℕ → Option ℕ
follower_of followers uuid = follower_from 0 followers uuid

-- the message is taken by the follower that it names
abbrev pub at_named_follower : State → Frame → Option ℕ → Outcome State
at_named_follower s m None = answered replies.Done s
at_named_follower s m (Some f) = for_follower s f (λ follower. follower_receive_row follower m) (slice_get s.followers f)

abbrev pub taken_by_receiver : State → ℕ → Frame → Outcome State
taken_by_receiver s copy m =
    if goes_to_leader (kind_of_content m.content) then at_leader s (leader_receive s.leader copy m)
    else at_named_follower s m (follower_of s.followers m.follower)

-- without `keep` the message leaves those in flight before it is taken
unfoldable pub deliver_row : State → ℕ → ℕ → Bool → Option Frame → Option Copy → Outcome State
deliver_row s at copy keep None c = refused s (NoFrame at)
deliver_row s at copy keep (Some m) None = refused s (NoCopy copy)
deliver_row s at copy keep (Some m) (Some c) =
    taken_by_receiver (if keep then s else record s { flight = remove s.flight at }) copy m

unfoldable pub drop_row : State → ℕ → Option Frame → Outcome State
drop_row s at None = refused s (NoFrame at)
drop_row s at (Some m) = answered replies.Done (record s { flight = remove s.flight at })

-- ---- new followers

-- the greatest number of followers in a world
abbrev pub most_followers : ℕ
most_followers = 8

abbrev pub with_new_follower : State → ParamValues → ℕ → List ℕ → Outcome State
with_new_follower s params copies name =
    let made = new_follower (length s.followers) params copies name s.leader.history s.leader.start.retention in
    record {
      reply = replies.Done;
      next = record s { followers = s.followers ++ made.next ∷ []; flight = s.flight ++ made.sent };
      sent = made.sent;
    }

-- `same` is the number of the follower that has the name
unfoldable pub follow_row : State → ParamValues → ℕ → List ℕ → Option ℕ → Outcome State
follow_row s params copies name (Some f) = refused s (SameName f)
follow_row s params copies name None =
    guarded s ((nat_le most_followers (length s.followers), TooMany) ∷ []) (with_new_follower s params copies name)

abbrev pub same_name : List Follower → List ℕ → Option ℕ
same_name followers name = position (λ f. bytes_eq f.lease name) followers

-- ---- searches

unfoldable pub search_row : State → ℕ → Tree → List SortKey → Option Copy → Outcome State
search_row s copy query sort None = refused s (NoCopy copy)
search_row s copy query sort (Some c) = answered (replies.Found (search_of c query sort)) s
