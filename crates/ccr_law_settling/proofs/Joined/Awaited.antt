-- A message that a follower waits for is of the kind that it waits for, and its delivery makes the measure smaller.
use Rattle.std.specs.Prelude.{slice_get}
use Rattle.std.proofs.Common.{◌≡◌, ℕ, ◌==◌, ◌&&◌, Bool, true, false, if◌then◌else◌, Option, Some, None, List, is_some, refl, sym, ◌∙◌, subst}
use Rattle.ccr_wire.specs.Message.{Frame, kind_of_content}
use Rattle.ccr_wire.specs.declared.kind.LeaseResult.TheVariants as results
use Rattle.ccr_wire.specs.declared.content.Content.{Content}
use Rattle.ccr_wire.specs.declared.content.Content.TheVariants as contents
use Rattle.ccr_journal.specs.declared.events.Event.TheVariants as events
use Rattle.ccr_model.specs.Requests.{is_sent}
use Rattle.ccr_model.specs.Tasks.{Read, read_sent}
use Rattle.ccr_model.specs.Restores.{Restore, Stage, leasing, opening, fetching, Asked, Fetch, ChunkAsked, answers, ask_sent}
use Rattle.ccr_model.specs.Followers.{Follower, Work, restoring, replicating}
use Rattle.ccr_model.specs.World.{State, goes_to_leader, follower_of}
use Rattle.ccr_law_base.proofs.Lists.{found-any}
use Rattle.ccr_law_settling_grounds.specs.Purposes.{for_lease, for_session, for_part, for_read, about, awaited_in, awaited, Agree}
use Rattle.ccr_law_settling.specs.Lowering.{Lowers, IsInFlight, DeliveryLowers, AskingLowers}
use Rattle.ccr_law_settling.specs.Measure.{is_gone}
use Rattle.ccr_law_settling.specs.Within.{stage_waits_for, waits_for, is_added, opens_next}
use Rattle.ccr_law_settling.specs.TaskLowering.{IsAnswerToRead, RepliesLower}
use Rattle.ccr_law_settling.specs.FetchLowering.{IsForRestore, IsAnswerToOpening, IsAnswerToPart, FetchesLower}

-- what deliveries lower
pub record DeliveriesLower (count_of : List ℕ → ℕ) (s : State) : Type 0 where
  pub deliveries : DeliveryLowers count_of s
  pub asking : AskingLowers count_of s
  pub replies : RepliesLower count_of s
  pub fetches : FetchesLower count_of s

abbrev GoesToFollower : Content → Type 0
GoesToFollower content = goes_to_leader (kind_of_content content) ≡ false

-- ---- a read

read_answered : (count_of : List ℕ → ℕ) (s : State) (at copy : ℕ) (keep : Bool) (uuid : List ℕ) (request : ℕ) (content : Content) → DeliveriesLower count_of s → GoesToFollower content → Agree (Some for_read) (about content)
    → IsAnswerToRead s at uuid request content → Lowers count_of s (events.Deliver at copy keep)
read_answered count_of s at copy keep uuid request (contents.ReadReply from global ops) lower goes agree is = lower.replies.reply at copy keep uuid request from global ops is
read_answered count_of s at copy keep uuid request (contents.ReadMissing from floor) lower goes agree is = lower.replies.missing at copy keep uuid request from floor is
read_answered count_of s at copy keep uuid request (contents.ReadHistory history) lower goes agree is = lower.replies.history at copy keep uuid request history is
read_answered count_of s at copy keep uuid request (contents.NotReady unready) lower goes agree is = lower.deliveries.refusal at copy keep uuid request unready is.found
read_answered count_of s at copy keep uuid request (contents.LeaseAnswer results.Exists number) lower goes agree is = cc
read_answered count_of s at copy keep uuid request (contents.LeaseAnswer outcome number) lower goes agree is = cc
read_answered count_of s at copy keep uuid request _ lower goes agree is = cc

-- ---- a bootstrap

abbrev message : List ℕ → ℕ → Content → Frame
message uuid request content = record { follower = uuid; request = request; content = content }

opens_leasing : (m : Frame) (own : Follower) (r : Restore) (a : Asked) → own.work ≡ restoring r → r.stage ≡ leasing a → answers m a ≡ true → is_added m.content ≡ true → opens_next m own.work ≡ true
opens_leasing m own r a works at waits added =
    subst (λ (w : Work). opens_next m w ≡ true) (sym works)
    (subst (λ (stage : Stage). opens_next m (restoring (record r { stage = stage })) ≡ true) (sym at) (rw waits added))

opens_fetching : (m : Frame) (own : Follower) (r : Restore) (f : Fetch) (a : ChunkAsked) → own.work ≡ restoring r → r.stage ≡ fetching f → ask_sent f m.request ≡ Some a → is_gone m.content ≡ true
    → opens_next m own.work ≡ true
opens_fetching m own r f a works at waits gone =
    subst (λ (w : Work). opens_next m w ≡ true) (sym works)
    (subst (λ (stage : Stage). opens_next m (restoring (record r { stage = stage })) ≡ true) (sym at) (rw waits gone))

lease_answered : (count_of : List ℕ → ℕ) (s : State) (at copy : ℕ) (keep : Bool) (uuid : List ℕ) (request : ℕ) (content : Content) → DeliveriesLower count_of s → GoesToFollower content → Agree (Some for_lease) (about content)
    → (is : IsForRestore s at uuid request content) (asked : Asked) → is.restore.stage ≡ leasing asked → answers (message uuid request content) asked ≡ true → Lowers count_of s (events.Deliver at copy keep)
lease_answered count_of s at copy keep uuid request (contents.LeaseAdded number) lower goes agree is asked stage waits =
    lower.asking.opening at copy keep (message uuid request (contents.LeaseAdded number)) is.number is.own is.found refl is.named is.there
    (opens_leasing (message uuid request (contents.LeaseAdded number)) is.own is.restore asked is.works stage waits refl)
lease_answered count_of s at copy keep uuid request (contents.LeaseAnswer results.Exists number) lower goes agree is asked stage waits =
    lower.asking.opening at copy keep (message uuid request (contents.LeaseAnswer results.Exists number)) is.number is.own is.found refl is.named is.there
    (opens_leasing (message uuid request (contents.LeaseAnswer results.Exists number)) is.own is.restore asked is.works stage waits refl)
lease_answered count_of s at copy keep uuid request (contents.NotReady unready) lower goes agree is asked stage waits = lower.deliveries.refusal at copy keep uuid request unready is.found
lease_answered count_of s at copy keep uuid request (contents.LeaseAnswer outcome number) lower goes agree is asked stage waits = cc
lease_answered count_of s at copy keep uuid request _ lower goes agree is asked stage waits = cc

session_answered : (count_of : List ℕ → ℕ) (s : State) (at copy : ℕ) (keep : Bool) (uuid : List ℕ) (request : ℕ) (content : Content) → DeliveriesLower count_of s → GoesToFollower content → Agree (Some for_session) (about content)
    → IsAnswerToOpening s at uuid request content → Lowers count_of s (events.Deliver at copy keep)
session_answered count_of s at copy keep uuid request (contents.SessionOpened session history count sizes) lower goes agree is = lower.fetches.opened at copy keep uuid request session history count sizes is
session_answered count_of s at copy keep uuid request (contents.NotReady unready) lower goes agree is = lower.deliveries.refusal at copy keep uuid request unready is.goes.found
session_answered count_of s at copy keep uuid request (contents.LeaseAnswer results.Exists number) lower goes agree is = cc
session_answered count_of s at copy keep uuid request (contents.LeaseAnswer outcome number) lower goes agree is = cc
session_answered count_of s at copy keep uuid request _ lower goes agree is = cc

part_answered : (count_of : List ℕ → ℕ) (s : State) (at copy : ℕ) (keep : Bool) (uuid : List ℕ) (request : ℕ) (content : Content) → DeliveriesLower count_of s → GoesToFollower content → Agree (Some for_part) (about content)
    → IsAnswerToPart s at uuid request content → Lowers count_of s (events.Deliver at copy keep)
part_answered count_of s at copy keep uuid request (contents.ChunkReply session file offset bytes) lower goes agree is = lower.fetches.part at copy keep uuid request session file offset bytes is
part_answered count_of s at copy keep uuid request (contents.SessionGone session) lower goes agree is =
    lower.asking.opening at copy keep (message uuid request (contents.SessionGone session)) is.goes.number is.goes.own is.goes.found refl is.goes.named is.goes.there
    (opens_fetching (message uuid request (contents.SessionGone session)) is.goes.own is.goes.restore is.fetch is.ask is.goes.works is.fetches is.waits refl)
part_answered count_of s at copy keep uuid request (contents.NotReady unready) lower goes agree is = lower.deliveries.refusal at copy keep uuid request unready is.goes.found
part_answered count_of s at copy keep uuid request (contents.LeaseAnswer results.Exists number) lower goes agree is = cc
part_answered count_of s at copy keep uuid request (contents.LeaseAnswer outcome number) lower goes agree is = cc
part_answered count_of s at copy keep uuid request _ lower goes agree is = cc

-- ---- whatever is waited for

stage_answered : (count_of : List ℕ → ℕ) (s : State) (at copy : ℕ) (keep : Bool) (uuid : List ℕ) (request : ℕ) (content : Content) → DeliveriesLower count_of s → GoesToFollower content
    → (is : IsForRestore s at uuid request content) (stage : Stage) → is.restore.stage ≡ stage → Agree (awaited_in stage request) (about content) → stage_waits_for request stage ≡ true
    → Lowers count_of s (events.Deliver at copy keep)
stage_answered count_of s at copy keep uuid request content lower goes is (leasing a) at_stage agree waits =
    lease_answered count_of s at copy keep uuid request content lower goes
    (subst (λ (b : Bool). Agree (if b then Some for_lease else None) (about content)) waits agree) is a at_stage waits
stage_answered count_of s at copy keep uuid request content lower goes is (opening a) at_stage agree waits =
    session_answered count_of s at copy keep uuid request content lower goes
    (subst (λ (b : Bool). Agree (if b then Some for_session else None) (about content)) waits agree) (record { goes = is; asked = a; opens = at_stage; waits = waits })
stage_answered count_of s at copy keep uuid request content lower goes is (fetching f) at_stage agree waits =
    by (ask_sent f request) refl (found-any (λ (a : ChunkAsked). (a.request == request) && is_sent a.progress) f.asks ∙ waits) agree
  where
    by : (o : Option ChunkAsked) → ask_sent f request ≡ o → is_some o ≡ true → Agree (if is_some o then Some for_part else None) (about content) → Lowers count_of s (events.Deliver at copy keep)
    by None found there agree = cc
    by (Some a) found there agree = part_answered count_of s at copy keep uuid request content lower goes agree (record { goes = is; fetch = f; fetches = at_stage; ask = a; waits = found })

pub work_answered : (count_of : List ℕ → ℕ) (s : State) (at copy : ℕ) (keep : Bool) (uuid : List ℕ) (request : ℕ) (content : Content) → DeliveriesLower count_of s → GoesToFollower content → IsInFlight s at uuid request content
    → (f : ℕ) (own : Follower) (work : Work) → follower_of s.followers uuid ≡ Some f → slice_get s.followers f ≡ Some own → own.work ≡ work
    → Agree (awaited work request) (about content) → waits_for request work ≡ true → Lowers count_of s (events.Deliver at copy keep)
work_answered count_of s at copy keep uuid request content lower goes found f own (restoring r) named there works agree waits =
    stage_answered count_of s at copy keep uuid request content lower goes (record { found = found; number = f; own = own; named = named; there = there; restore = r; works = works }) r.stage refl agree waits
work_answered count_of s at copy keep uuid request content lower goes found f own (replicating t) named there works agree waits =
    by (read_sent t request) refl (found-any (λ (r : Read). (r.request == request) && is_sent r.progress) t.reads ∙ waits) agree
  where
    by : (o : Option Read) → read_sent t request ≡ o → is_some o ≡ true → Agree (if is_some o then Some for_read else None) (about content) → Lowers count_of s (events.Deliver at copy keep)
    by None at_read sent agree = cc
    by (Some r) at_read sent agree =
        read_answered count_of s at copy keep uuid request content lower goes agree
        (record { found = found; number = f; own = own; named = named; there = there; task = t; works = works; read = r; waits = at_read })
