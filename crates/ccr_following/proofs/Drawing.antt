-- The requests that stand stay below the next request number.
use Rattle.std.specs.List.{AllByRecursion}
use Rattle.std.specs.Prelude.{filter, slice_get}
use Rattle.std.proofs.Common.{◌≡◌, ℕ, ◌+◌, ◌<◌, ◌≤◌, min, Bool, true, false, if◌then◌else◌, Option, Some, None, List, [], ◌∷◌, ◌++◌, refl, sym, ap, subst, arith}
use Rattle.ccr_op.specs.Operation.{Operation}
use Rattle.ccr_wire.specs.Message.{Frame}
use Rattle.ccr_wire.specs.declared.content.Content.{Content}
use Rattle.ccr_wire.specs.declared.content.Content.TheVariants as contents
use Rattle.ccr_journal.specs.declared.params.ParamValues.{ParamValues}
use Rattle.ccr_journal.specs.declared.sides.Phase.TheVariants as phases
use Rattle.ccr_model.specs.Requests.{Sending}
use Rattle.ccr_model.specs.Tasks.{Task, Read, Write, is_active, least_from, read_sent, sent_reads, started, stopped, ticked, write_ended, write_sent, after_reply, filled_if_active}
use Rattle.ccr_model.specs.Restores.{Restore, sent_requests, ends_restore, restore_hears}
use Rattle.ccr_model.specs.Followers.{Work, restoring, replicating}
use Rattle.ccr_following.specs.Works.{Stepped, AreDrawn, request_lost, read_lost_if, lost_at, work_ticked, write_lost_if, lost_write, write_ended_if, ended_write, asks, asks_nothing, renews, unfollows, pauses, begins, ended}
use Rattle.ccr_following.specs.Hearings.{ignores, restore_goes, restore_heard_by, read_goes, work_heard_by}
use Rattle.ccr_following.specs.declared.hearing.Hearing.{Hearing}
use Rattle.ccr_following.specs.declared.hearing.Hearing.TheVariants.{GoesOn, Ended, Fetched}
use Rattle.ccr_following.proofs.Numbering.{on_if, Rises, reply-rises, started-rises, ticked-rises, ended-rises}

-- ---- numbers below a bound

below-higher : (m n : ℕ) (ns : List ℕ) → m ≤ n → AllByRecursion (λ (x : ℕ). x < m) ns → AllByRecursion (λ (x : ℕ). x < n) ns
below-higher m n [] le all = tt
below-higher m n (x ∷ ns) le all = let low : x < m = all.0 in (omega arith, below-higher m n ns le all.1)

below-one_more : (n : ℕ) (ns : List ℕ) → AllByRecursion (λ (x : ℕ). x < n) ns → AllByRecursion (λ (x : ℕ). x < n + 1) (ns ++ n ∷ [])
below-one_more n [] all = (omega arith, tt)
below-one_more n (x ∷ ns) all = let low : x < n = all.0 in (omega arith, below-one_more n ns all.1)

below-fewer : (n : ℕ) (test : ℕ → Bool) (ns : List ℕ) → AllByRecursion (λ (x : ℕ). x < n) ns → AllByRecursion (λ (x : ℕ). x < n) (filter test ns)
below-fewer n test [] all = tt
below-fewer n test (x ∷ ns) all =
    on_if (AllByRecursion (λ (x : ℕ). x < n)) (test x) (x ∷ filter test ns) (filter test ns) (λ stays. (all.0, below-fewer n test ns all.1)) (λ goes. below-fewer n test ns all.1)

-- ---- works

drawn-later : (t next : Task) (ns : List ℕ) → t.next_request ≤ next.next_request → AreDrawn (replicating t) ns → AreDrawn (replicating next) ns
drawn-later t next ns le drawn = below-higher t.next_request next.next_request ns le drawn

-- an answered request leaves the others
pub drawn-fewer : (w : Work) (test : ℕ → Bool) (ns : List ℕ) → AreDrawn w ns → AreDrawn w (filter test ns)
drawn-fewer (restoring r) test ns drawn = subst (λ (xs : List ℕ). filter test xs ≡ []) (sym drawn) refl
drawn-fewer (replicating t) test ns drawn = below-fewer t.next_request test ns drawn

-- what a step comes to keeps the requests that stand
keeps : {X : Type 0} (o : Stepped X) (next : Work) (told : X) (ns : List ℕ) → o ≡ record { next = next; told = told } → AreDrawn o.next ns → AreDrawn next ns
keeps {X} o next told ns is drawn = subst (λ (x : Stepped X). AreDrawn x.next ns) is drawn

lost_at-drawn : (now at : ℕ) (w : Work) (ns : List ℕ) → AreDrawn w ns → AreDrawn (lost_at now at w).next ns
lost_at-drawn now at (restoring r) ns drawn = found (slice_get (sent_requests r.stage) at)
  where
    found : (o : Option ℕ) → AreDrawn (request_lost r now o).next ns
    found None = drawn
    found (Some request) = drawn
lost_at-drawn now at (replicating t) ns drawn = found (slice_get (sent_reads t) at)
  where
    found : (o : Option Read) → AreDrawn (read_lost_if t now o).next ns
    found None = drawn
    found (Some r) = drawn

pub lost-keeps : (now at : ℕ) (w next : Work) (told : Bool) (ns : List ℕ) → lost_at now at w ≡ record { next = next; told = told } → AreDrawn w ns → AreDrawn next ns
lost-keeps now at w next told ns is drawn = keeps (lost_at now at w) next told ns is (lost_at-drawn now at w ns drawn)

ticked-drawn : (now : ℕ) (w : Work) (ns : List ℕ) → AreDrawn w ns → AreDrawn (work_ticked now w).next ns
ticked-drawn now (restoring r) ns drawn = drawn
ticked-drawn now (replicating t) ns drawn = drawn-later t (ticked now t).next ns (ticked-rises now t) drawn

pub ticked-keeps : (now : ℕ) (w next : Work) (sent : List Frame) (ns : List ℕ) → work_ticked now w ≡ record { next = next; told = sent } → AreDrawn w ns → AreDrawn next ns
ticked-keeps now w next sent ns is drawn = keeps (work_ticked now w) next sent ns is (ticked-drawn now w ns drawn)

lost_write-drawn : (now number : ℕ) (w : Work) (ns : List ℕ) → AreDrawn w ns → AreDrawn (lost_write now number w).next ns
lost_write-drawn now number (restoring r) ns drawn = drawn
lost_write-drawn now number (replicating t) ns drawn = found (write_sent t number)
  where
    found : (o : Option Write) → AreDrawn (write_lost_if t now o).next ns
    found None = drawn
    found (Some w) = drawn

pub lost_write-keeps : (now number : ℕ) (w next : Work) (told : Bool) (ns : List ℕ) → lost_write now number w ≡ record { next = next; told = told } → AreDrawn w ns → AreDrawn next ns
lost_write-keeps now number w next told ns is drawn = keeps (lost_write now number w) next told ns is (lost_write-drawn now number w ns drawn)

ended_write-drawn : (number : ℕ) (w : Work) (ns : List ℕ) → AreDrawn w ns → AreDrawn (ended_write number w).next ns
ended_write-drawn number (restoring r) ns drawn = drawn
ended_write-drawn number (replicating t) ns drawn = found (write_sent t number)
  where
    found : (o : Option Write) → AreDrawn (write_ended_if t o).next ns
    found None = drawn
    found (Some w) = drawn-later t (write_ended t w).next ns (ended-rises t w) drawn

pub ended_write-keeps : (number : ℕ) (w next : Work) (told : Option (List Frame)) (ns : List ℕ) → ended_write number w ≡ record { next = next; told = told } → AreDrawn w ns → AreDrawn next ns
ended_write-keeps number w next told ns is drawn = keeps (ended_write number w) next told ns is (ended_write-drawn number w ns drawn)

pauses-drawn : (w : Work) (ns : List ℕ) → AreDrawn w ns → AreDrawn (pauses w).next ns
pauses-drawn (restoring r) ns drawn = drawn
pauses-drawn (replicating t) ns drawn =
    on_if (λ (u : Task). AreDrawn (replicating u) ns) (is_active t.phase) (stopped phases.Paused t) t (λ active. drawn) (λ other. drawn)

pub pauses-keeps : (w next : Work) (told : Bool) (ns : List ℕ) → pauses w ≡ record { next = next; told = told } → AreDrawn w ns → AreDrawn next ns
pauses-keeps w next told ns is drawn = keeps (pauses w) next told ns is (pauses-drawn w ns drawn)

none-drawn : (t : Task) (ns : List ℕ) → ns ≡ [] → AreDrawn (replicating t) ns
none-drawn t ns none = subst (λ (xs : List ℕ). AreDrawn (replicating t) xs) (sym none) tt

begins-drawn : (params : ParamValues) (count epoch : ℕ) (history : List ℕ) (w : Work) (ns : List ℕ) → AreDrawn w ns → AreDrawn (begins params count epoch history w).next ns
begins-drawn params count epoch history (restoring r) ns drawn = none-drawn (started params count epoch history r.follower r.next_request).next ns drawn
begins-drawn params count epoch history (replicating t) ns drawn =
    drawn-later t (started params count epoch history t.follower t.next_request).next ns (started-rises params count epoch history t.follower t.next_request) drawn

pub begins-keeps : (params : ParamValues) (count epoch : ℕ) (history : List ℕ) (w next : Work) (sent : List Frame) (ns : List ℕ)
    → begins params count epoch history w ≡ record { next = next; told = sent } → AreDrawn w ns → AreDrawn next ns
begins-keeps params count epoch history w next sent ns is drawn =
    keeps (begins params count epoch history w) next sent ns is (begins-drawn params count epoch history w ns drawn)

ended-drawn : (params : ParamValues) (w : Work) (ns : List ℕ) → AreDrawn w ns → AreDrawn (ended params w) ns
ended-drawn params (restoring r) ns drawn = subst (λ (xs : List ℕ). AreDrawn (ended params (restoring r)) xs) (sym drawn) tt
ended-drawn params (replicating t) ns drawn = drawn

pub ended-keeps : (params : ParamValues) (w next : Work) (ns : List ℕ) → next ≡ ended params w → AreDrawn w ns → AreDrawn next ns
ended-keeps params w next ns is drawn = subst (λ (x : Work). AreDrawn x ns) (sym is) (ended-drawn params w ns drawn)

-- ---- requests about the lease

-- a message's number is above all that stand, and they stand with it
abbrev pub StandsBy : List ℕ → Work → Option Frame → Type 0
StandsBy ns next None = AreDrawn next ns
StandsBy ns next (Some m) = AllByRecursion (λ (x : ℕ). x < m.request) ns × AreDrawn next (ns ++ m.request ∷ [])

abbrev pub Stands : List ℕ → Stepped (Option Frame) → Type 0
Stands ns o = StandsBy ns o.next o.told

asks-stands : (t : Task) (content : Content) (ns : List ℕ) → AreDrawn (replicating t) ns → Stands ns (asks t content)
asks-stands t content ns drawn = (drawn, below-one_more t.next_request ns drawn)

renews-all : (lease : List ℕ) (global : ℕ) (w : Work) (ns : List ℕ) → AreDrawn w ns → Stands ns (renews lease global w)
renews-all lease global (restoring r) ns drawn = drawn
renews-all lease global (replicating t) ns drawn =
    on_if (Stands ns) (is_active t.phase) (asks t (contents.LeaseRenew lease (min global (least_from t.next t.reads)))) (asks_nothing (replicating t))
    (λ active. asks-stands t (contents.LeaseRenew lease (min global (least_from t.next t.reads))) ns drawn) (λ other. drawn)

pub renews-stands : (lease : List ℕ) (global : ℕ) (w next : Work) (told : Option Frame) (ns : List ℕ)
    → renews lease global w ≡ record { next = next; told = told } → AreDrawn w ns → StandsBy ns next told
renews-stands lease global w next told ns is drawn = subst (Stands ns) is (renews-all lease global w ns drawn)

unfollows-all : (lease : List ℕ) (w : Work) (ns : List ℕ) → AreDrawn w ns → Stands ns (unfollows lease w)
unfollows-all lease (restoring r) ns drawn = drawn
unfollows-all lease (replicating t) ns drawn =
    on_if (Stands ns) (is_active t.phase) (asks_nothing (replicating t)) (asks (record t { phase = phases.Unfollowed }) (contents.LeaseRemove lease))
    (λ active. drawn) (λ other. asks-stands (record t { phase = phases.Unfollowed }) (contents.LeaseRemove lease) ns drawn)

pub unfollows-stands : (lease : List ℕ) (w next : Work) (told : Option Frame) (ns : List ℕ)
    → unfollows lease w ≡ record { next = next; told = told } → AreDrawn w ns → StandsBy ns next told
unfollows-stands lease w next told ns is drawn = subst (Stands ns) is (unfollows-all lease w ns drawn)

-- ---- messages

restore_goes-drawn : (r : Restore) (found : Option (Sending Restore)) (ns : List ℕ) → ns ≡ [] → AreDrawn (restore_goes r found).next ns
restore_goes-drawn r None ns drawn = drawn
restore_goes-drawn r (Some done) ns drawn = drawn

read_goes-drawn : (t : Task) (content : Content) (found : Option Read) (ns : List ℕ) → AreDrawn (replicating t) ns → AreDrawn (read_goes t content found).next ns
read_goes-drawn t content None ns drawn = drawn
read_goes-drawn t (contents.ReadReply from global ops) (Some r) ns drawn =
    drawn-later t (filled_if_active (after_reply t r global ops)).next ns (reply-rises t r global ops) drawn
read_goes-drawn t (contents.ReadMissing from floor) (Some r) ns drawn = drawn
read_goes-drawn t (contents.ReadHistory history) (Some r) ns drawn = drawn
read_goes-drawn t (contents.ReadRequest history from max_ops max_bytes timeout) (Some r) ns drawn = drawn
read_goes-drawn t (contents.LeaseAdd id) (Some r) ns drawn = drawn
read_goes-drawn t (contents.LeaseAdded number) (Some r) ns drawn = drawn
read_goes-drawn t (contents.LeaseRenew id number) (Some r) ns drawn = drawn
read_goes-drawn t (contents.LeaseRemove id) (Some r) ns drawn = drawn
read_goes-drawn t (contents.LeaseAnswer outcome number) (Some r) ns drawn = drawn
read_goes-drawn t contents.SessionOpen (Some r) ns drawn = drawn
read_goes-drawn t (contents.SessionOpened session history count sizes) (Some r) ns drawn = drawn
read_goes-drawn t (contents.ChunkRequest session file offset size) (Some r) ns drawn = drawn
read_goes-drawn t (contents.ChunkReply session file offset bytes) (Some r) ns drawn = drawn
read_goes-drawn t (contents.SessionGone session) (Some r) ns drawn = drawn
read_goes-drawn t (contents.NotReady copy) (Some r) ns drawn = drawn

heard-drawn : (now : ℕ) (m : Frame) (w : Work) (ns : List ℕ) → AreDrawn w ns → AreDrawn (work_heard_by now m w).next ns
heard-drawn now m (restoring r) ns drawn =
    on_if (λ (o : Stepped Hearing). AreDrawn o.next ns) (ends_restore r m) (record { next = restoring r; told = Ended }) (restore_goes r (restore_hears r now m))
    (λ ends. drawn) (λ goes_on. restore_goes-drawn r (restore_hears r now m) ns drawn)
heard-drawn now m (replicating t) ns drawn = read_goes-drawn t m.content (read_sent t m.request) ns drawn

pub heard-keeps : (now : ℕ) (m : Frame) (w next : Work) (told : Hearing) (ns : List ℕ) → work_heard_by now m w ≡ record { next = next; told = told } → AreDrawn w ns → AreDrawn next ns
heard-keeps now m w next told ns is drawn = keeps (work_heard_by now m w) next told ns is (heard-drawn now m w ns drawn)
