-- What a message that comes to the leader comes to, by what it says.
use Rattle.std.proofs.Common.{◌≡◌, ℕ, true, false, Option, Some, None, List, [], ◌∷◌, refl, sym, ◌∙◌, ap, subst}
use Rattle.ccr_wire.specs.Message.{Frame}
use Rattle.ccr_wire.specs.declared.content.Content.{Content}
use Rattle.ccr_wire.specs.declared.content.Content.TheVariants as contents
use Rattle.ccr_journal.specs.declared.replies.Heard.{Heard as Hearing}
use Rattle.ccr_journal.specs.declared.replies.Heard.TheVariants as heard
use Rattle.ccr_journal.specs.declared.replies.Refusal.{Refusal}
use Rattle.ccr_model.specs.Outcomes.{Outcome, refused}
use Rattle.ccr_model.specs.Copies.{Copy, copy_of}
use Rattle.ccr_model.specs.Leaders.{Leader, Poll}
use Rattle.ccr_model.specs.LeaderRows.{settling_requests}
use Rattle.ccr_model.specs.LeaderFrames.{hears, read_row, receive_row, leader_receive}
use Rattle.ccr_law_settling_grounds.specs.Parked.{AreKeptRightly}
use Rattle.ccr_leader.proofs.Settled.{settled-row}

-- a message by its parts
abbrev pub frame_of : List ℕ → ℕ → Content → Frame
frame_of follower request content = record { follower = follower; request = request; content = content }

frame-is : (m : Frame) (follower : List ℕ) (request : ℕ) (content : Content) → follower ≡ m.follower → request ≡ m.request → m.content ≡ content → m ≡ frame_of follower request content
frame-is m follower request content a b is =
    ap (λ (f : List ℕ). frame_of f m.request m.content) (sym a) ∙ (ap (λ (n : ℕ). frame_of follower n m.content) (sym b) ∙ ap (λ (x : Content). frame_of follower request x) is)

pub received : (s : Leader) (copy : ℕ) (m : Frame) (follower : List ℕ) (request : ℕ) (content : Content) (o : Outcome Leader) → follower ≡ m.follower → request ≡ m.request → m.content ≡ content
    → settling_requests (receive_row s copy (frame_of follower request content)) ≡ o → leader_receive s copy m ≡ o
received s copy m follower request content o a b is row = ap (leader_receive s copy) (frame-is m follower request content a b is) ∙ row

pub received-heard : (s : Leader) (copy : ℕ) (m : Frame) (follower : List ℕ) (request : ℕ) (content : Content) (what : Hearing) (next : Leader) (sent : List Frame) → follower ≡ m.follower
    → request ≡ m.request → m.content ≡ content → receive_row s copy (frame_of follower request content) ≡ hears what next sent → AreKeptRightly next.copies next.kept
    → leader_receive s copy m ≡ hears what next sent
received-heard s copy m follower request content what next sent a b is row are =
    received s copy m follower request content (hears what next sent) a b is (settled-row (receive_row s copy (frame_of follower request content)) what next sent row are)

pub received-refused : (s : Leader) (copy : ℕ) (m : Frame) (follower : List ℕ) (request : ℕ) (content : Content) (next : Leader) (why : Refusal) → follower ≡ m.follower → request ≡ m.request
    → m.content ≡ content → receive_row s copy (frame_of follower request content) ≡ refused next why → leader_receive s copy m ≡ refused next why
received-refused s copy m follower request content next why a b is row = received s copy m follower request content (refused next why) a b is (ap settling_requests row)

-- a read names the copy that it comes to, and when it came
pub read-as : (s : Leader) (p : Poll) (copy number now : ℕ) (found : Option Copy) (o : Outcome Leader) → number ≡ copy → now ≡ s.now
    → read_row s (record p { copy = number; parked = now }) copy found ≡ o → read_row s (record p { copy = copy; parked = s.now }) copy found ≡ o
read-as s p copy number now found o same at row =
    subst (λ (t : ℕ). read_row s (record p { copy = copy; parked = t }) copy found ≡ o) at
    (subst (λ (n : ℕ). read_row s (record p { copy = n; parked = now }) copy found ≡ o) same row)

-- a message that goes to no leader is ignored
pub ignored-row : (s : Leader) (copy : ℕ) (follower : List ℕ) (request : ℕ) (content : Content)
    → ((history : List ℕ) (from max_ops max_bytes timeout : ℕ) → content ≡ contents.ReadRequest history from max_ops max_bytes timeout → ⊥) → ((id : List ℕ) → content ≡ contents.LeaseAdd id → ⊥)
    → ((id : List ℕ) (number : ℕ) → content ≡ contents.LeaseRenew id number → ⊥) → ((id : List ℕ) → content ≡ contents.LeaseRemove id → ⊥) → (content ≡ contents.SessionOpen → ⊥)
    → ((session file offset size : ℕ) → content ≡ contents.ChunkRequest session file offset size → ⊥) → receive_row s copy (frame_of follower request content) ≡ hears heard.Ignored s []
ignored-row s copy follower request (contents.ReadRequest history from max_ops max_bytes timeout) a b d e f g = absurd (a history from max_ops max_bytes timeout refl)
ignored-row s copy follower request (contents.LeaseAdd id) a b d e f g = absurd (b id refl)
ignored-row s copy follower request (contents.LeaseRenew id number) a b d e f g = absurd (d id number refl)
ignored-row s copy follower request (contents.LeaseRemove id) a b d e f g = absurd (e id refl)
ignored-row s copy follower request contents.SessionOpen a b d e f g = absurd (f refl)
ignored-row s copy follower request (contents.ChunkRequest session file offset size) a b d e f g = absurd (g session file offset size refl)
ignored-row s copy follower request (contents.ReadReply from global ops) a b d e f g = refl
ignored-row s copy follower request (contents.ReadMissing from floor) a b d e f g = refl
ignored-row s copy follower request (contents.ReadHistory history) a b d e f g = refl
ignored-row s copy follower request (contents.LeaseAdded number) a b d e f g = refl
ignored-row s copy follower request (contents.LeaseAnswer outcome number) a b d e f g = refl
ignored-row s copy follower request (contents.SessionOpened session history count sizes) a b d e f g = refl
ignored-row s copy follower request (contents.ChunkReply session file offset bytes) a b d e f g = refl
ignored-row s copy follower request (contents.SessionGone session) a b d e f g = refl
ignored-row s copy follower request (contents.NotReady other) a b d e f g = refl

pub ignored : (s : Leader) (copy : ℕ) (m : Frame) (content : Content) (sent : List Frame) → m.content ≡ content → receive_row s copy (frame_of m.follower m.request content) ≡ hears heard.Ignored s []
    → sent ≡ [] → AreKeptRightly s.copies s.kept → leader_receive s copy m ≡ hears heard.Ignored s sent
ignored s copy m content sent is row none are =
    received-heard s copy m m.follower m.request content heard.Ignored s [] refl refl is row are ∙ ap (λ (ms : List Frame). hears heard.Ignored s ms) (sym none)
