-- What a follower's lease retains, and what it is told to be missing, in a form that passes from each place to the next.
use Rattle.std.specs.Prelude.{◌≡◌, ◌⊎◌, ℕ, ◌≤◌, Bool, true, false, ◌&&◌, min, List, [], ◌∷◌, ◌++◌, slice_get, Option, Some, None, IfSome}
use Rattle.std.specs.List.{AllByRecursion}
use Rattle.std.specs.Str.{bytes_eq}
use Rattle.ccr_wire.specs.Message.{Frame}
use Rattle.ccr_wire.specs.declared.kind.LeaseResult.TheVariants as results
use Rattle.ccr_wire.specs.declared.content.Content.{Content}
use Rattle.ccr_wire.specs.declared.content.Content.TheVariants as contents
use Rattle.ccr_model.specs.Tasks.{Read}
use Rattle.ccr_model.specs.Restores.{Asked, Stage, leasing, opening, fetching, answers}
use Rattle.ccr_model.specs.Followers.{Follower, Work, restoring, replicating, uuid_of}
use Rattle.ccr_model.specs.LeaseHistory.{LeaseNote, retained, is_lost_after}
use Rattle.ccr_model.specs.Past.{Past, is_leasing}
use Rattle.ccr_model.specs.FrameFacts.{reading_in}
use Rattle.ccr_model.specs.Invariants.{renewal_of, count_opened, is_missing}
use Rattle.ccr_law_leases.specs.NoteOrder.{IsAnsweredAt}

-- ---- what a follower's work allows its lease to retain

-- anything, as long as it has no lease; no more than the session has that it asks for; or no more than this
pub data Bound : Type 0 where
  free : Bound
  asked : Asked → Bound
  at_most : ℕ → Bound

-- the least number that is asked for, or that was never asked for
abbrev pub low_of : ℕ → List Read → ℕ
low_of next [] = next
low_of next (r ∷ reads) = min r.from (low_of next reads)

abbrev pub bound_of_stage : Stage → Bound
bound_of_stage (leasing a) = free
bound_of_stage (opening a) = asked a
bound_of_stage (fetching f) = at_most f.count

-- where this is the global count that the follower's primary knows
abbrev pub bound_of : ℕ → Work → Bound
bound_of global (restoring r) = bound_of_stage r.stage
bound_of global (replicating t) = at_most (min global (low_of t.next t.reads))

-- a renewal of the lease that a message brings is to no more than this
abbrev pub RenewalLow : List ℕ → ℕ → Frame → Type 0
RenewalLow lease b m = IfSome (renewal_of lease m.content) (λ n. n ≤ b)

-- a session that a message opens, where it answers the request of this follower, has no less
abbrev pub OpensAbove : List ℕ → Asked → ℕ → Frame → Type 0
OpensAbove uuid a number m = (bytes_eq m.follower uuid && answers m a) ≡ true → IfSome (count_opened m.content) (λ count. number ≤ count)

-- what the lease retains, now and after the renewals in flight, is within the bound
abbrev pub Within : List Frame → List ℕ → List ℕ → ℕ → Bound → Type 0
Within flight uuid lease number free = Unit {0}
Within flight uuid lease number (asked a) = AllByRecursion (OpensAbove uuid a number) flight
Within flight uuid lease number (at_most b) = (number ≤ b) × AllByRecursion (RenewalLow lease b) flight

-- ---- the answer that the bootstrap took

-- it was sent at this place, where it was noted
pub record HasAnswer (answer : Option ℕ) (lease : List ℕ) (notes : List LeaseNote) : Type 0 where
  pub place : ℕ
  pub is : answer ≡ Some place
  pub noted : IsAnsweredAt lease place notes

-- none was taken yet where the lease is still asked for
abbrev pub AnswerOk : Option ℕ → List ℕ → List LeaseNote → Bound → Type 0
AnswerOk answer lease notes free = answer ≡ None
AnswerOk answer lease notes (asked a) = HasAnswer answer lease notes
AnswerOk answer lease notes (at_most b) = HasAnswer answer lease notes

-- since then nothing dropped or removed the lease
pub record KeptSince (answer : Option ℕ) (lease : List ℕ) (notes : List LeaseNote) : Type 0 where
  pub place : ℕ
  pub is : answer ≡ Some place
  pub kept : is_lost_after lease place notes ≡ false

-- or something did
pub record LostSince (answer : Option ℕ) (lease : List ℕ) (notes : List LeaseNote) : Type 0 where
  pub place : ℕ
  pub is : answer ≡ Some place
  pub lost : is_lost_after lease place notes ≡ true

-- a message that tells that the lease is there
abbrev pub is_grant : Content → Bool
is_grant (contents.LeaseAdded number) = true
is_grant (contents.LeaseAnswer results.Exists number) = true
is_grant _ = false

-- where it was sent, the answer was noted
abbrev pub GrantOk : List ℕ → List ℕ → List LeaseNote → Frame → ℕ → Type 0
GrantOk uuid lease notes m place = (bytes_eq m.follower uuid && is_grant m.content) ≡ true → IsAnsweredAt lease place notes

-- what holds of each message with the place where it was sent
abbrev pub AllSent : (Frame → ℕ → Type 0) → List Frame → List ℕ → Type 0
AllSent P [] [] = Unit {0}
AllSent P [] (place ∷ places) = ⊥
AllSent P (m ∷ flight) [] = ⊥
AllSent P (m ∷ flight) (place ∷ places) = P m place × AllSent P flight places

-- ---- what is missing

-- a message that tells this follower that operations are missing answers no read of it, or its lease was lost
abbrev pub MissingOk : Option ℕ → List ℕ → List ℕ → List LeaseNote → Work → Frame → Type 0
MissingOk answer uuid lease notes work m =
    (bytes_eq m.follower uuid && is_missing m.content) ≡ true → (reading_in work m.request ≡ None) ⊎ LostSince answer lease notes

-- ---- whose sessions are opened

-- the history of a session whose opening a message tells
abbrev pub history_opened : Content → Option (List ℕ)
history_opened (contents.SessionOpened session history count sizes) = Some history
history_opened _ = None

-- a session that a message to this follower opens is of this history
abbrev pub OpensIn : List ℕ → List ℕ → Frame → Type 0
OpensIn uuid history m = bytes_eq m.follower uuid ≡ true → IfSome (history_opened m.content) (λ own. own ≡ history)

-- ---- one follower

-- a task is in no phase of a bootstrap that has no lease
abbrev pub IsNoTaskLeasing : Work → Type 0
IsNoTaskLeasing (restoring r) = Unit {0}
IsNoTaskLeasing (replicating t) = is_leasing t.phase ≡ false

-- of a follower that has the leader's history, by the notes since that began
pub record FollowerOk (answer : Option ℕ) (notes : List LeaseNote) (flight : List Frame) (sent_at uuid lease : List ℕ) (work : Work) (global : ℕ) : Type 0 where
  pub phase : IsNoTaskLeasing work
  pub answered : AnswerOk answer lease notes (bound_of global work)
  pub grants : AllSent (GrantOk uuid lease notes) flight sent_at
  pub within : KeptSince answer lease notes → Within flight uuid lease (retained lease notes) (bound_of global work)
  pub missing : AllByRecursion (MissingOk answer uuid lease notes work) flight

-- of a follower of any history, by all notes
pub record IsToldTruly (answer : Option ℕ) (notes : List LeaseNote) (flight : List Frame) (uuid lease : List ℕ) (work : Work) : Type 0 where
  pub phase : IsNoTaskLeasing work
  pub missing : AllByRecursion (MissingOk answer uuid lease notes work) flight

-- ---- a lease before its follower replicates

abbrev pub is_replicating : Work → Bool
is_replicating (restoring r) = false
is_replicating (replicating t) = true

-- no follower that replicates has the lease
abbrev pub NoneReplicates : List ℕ → List Follower → Type 0
NoneReplicates id followers = AllByRecursion (λ (s : Follower). (bytes_eq s.lease id && is_replicating s.work) ≡ false) followers

-- it retains no more than is committed, and no renewal of it is in flight
pub record IsEarly (id : List ℕ) (cut : ℕ) (notes : List LeaseNote) (flight : List Frame) : Type 0 where
  pub low : retained id notes ≤ cut
  pub none : AllByRecursion (λ (m : Frame). renewal_of id m.content ≡ None) flight

-- ---- at a place

abbrev pub FollowerOkOf : (ℕ → Option ℕ) → List LeaseNote → List Frame → List ℕ → ℕ → Follower → Type 0
FollowerOkOf answers notes flight sent_at f s = FollowerOk (answers f) notes flight sent_at (uuid_of f) s.lease s.work s.copies.primary.global

abbrev pub IsToldTrulyOf : (ℕ → Option ℕ) → List LeaseNote → List Frame → ℕ → Follower → Type 0
IsToldTrulyOf answers notes flight f s = IsToldTruly (answers f) notes flight (uuid_of f) s.lease s.work

-- no two followers have one lease
abbrev pub LeasesApart : List Follower → Type 0
LeasesApart followers =
    (f g : ℕ) (s t : Follower) → slice_get followers f ≡ Some s → slice_get followers g ≡ Some t → bytes_eq s.lease t.lease ≡ true → f ≡ g

-- where `answers` are the places of the answers that the bootstraps took, this is the leader's history, and `earlier` are the notes from before
-- it began
pub record AreRetaining (history : List ℕ) (followers : List Follower) (answers : ℕ → Option ℕ) (notes earlier : List LeaseNote) (flight : List Frame) (sent_at : List ℕ) (cut : ℕ) : Type 0 where
  pub made : (f : ℕ) (s : Follower) → slice_get followers f ≡ Some s → s.history ≡ history → FollowerOkOf answers notes flight sent_at f s
  pub opens : (f : ℕ) (s : Follower) → slice_get followers f ≡ Some s → s.history ≡ history → AllByRecursion (OpensIn (uuid_of f) history) flight
  pub told : (f : ℕ) (s : Follower) → slice_get followers f ≡ Some s → IsToldTrulyOf answers (notes ++ earlier) flight f s
  pub unmade : (f : ℕ) → slice_get followers f ≡ None → answers f ≡ None
  pub paired : AllSent (λ (m : Frame) (place : ℕ). Unit {0}) flight sent_at
  pub early : (id : List ℕ) → NoneReplicates id followers → IsEarly id cut notes flight
  pub apart : LeasesApart followers

abbrev pub IsRetaining : Past → Type 0
IsRetaining p = AreRetaining p.state.leader.history p.state.followers (λ f. (p.followers f).answer) p.notes p.earlier p.state.flight p.sent_at p.line.cut
