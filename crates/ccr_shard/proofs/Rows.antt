-- what a delivery, a loss and a search come to, over plain variables
use Rattle.std.proofs.Common.{◌≡◌, ℕ, suc, zero, ◌<◌, ◌≤◌, Bool, true, false, List, [], ◌∷◌, ◌++◌, length, Option, Some, None, refl, sym, ◌∙◌, ap, subst, arith, if◌then◌else◌}
use Rattle.std.specs.Prelude.{slice_get, remove, is_some, MatchBool, IfOk, filter, not}
use Rattle.std.proofs.Common.{Result}
use Rattle.std.proofs.lemmas.Option.{slice_get_past}
use Rattle.ccr_wire.specs.Message.{Frame}
use Rattle.ccr_query.specs.Answers.{HitsOfShard}
use Rattle.ccr_query.specs.Queries.{Tree, holds}
use Rattle.ccr_query.specs.declared.sorting.SortKey.{SortKey}
use Rattle.ccr_journal.specs.declared.sides.Side.{Side}
use Rattle.ccr_journal.specs.declared.sides.Side.TheVariants as sides
use Rattle.ccr_model.specs.Operations.{is_empty}
use Rattle.ccr_model.specs.Stores.{Store, held}
use Rattle.ccr_model.specs.Searches.{search_of, sorted_hits, fields_of_hit, live_hits}
use Rattle.ccr_law_stores.specs.Searchable.{HoldsOnce}
use Rattle.ccr_law_reached.specs.Reached.{HoldsNumbersOnce}
use Rattle.ccr_search.specs.Finds.{AreOnce}
use Rattle.ccr_journal.specs.declared.replies.Reply.{Reply}
use Rattle.ccr_journal.specs.declared.replies.Reply.TheVariants as replies
use Rattle.ccr_journal.specs.declared.replies.Refusal.TheVariants as refusals
use Rattle.ccr_model.specs.Outcomes.{Outcome, refused, answered}
use Rattle.ccr_model.specs.Copies.{Copy, copy_of}
use Rattle.ccr_model.specs.Leaders.{Leader}
use Rattle.ccr_model.specs.LeaderFrames.{leader_wake}
use Rattle.ccr_model.specs.Followers.{Follower, uuid_of}
use Rattle.ccr_model.specs.World.{State, at_leader, deliver_row, drop_row, search_row, taken_by_receiver}
use Rattle.ccr_model.specs.Step.{searched_at, woken}
use Rattle.ccr_following.specs.After.{after}
use Rattle.ccr_following.specs.declared.told.Told.{Told}

some_dropped : (s : State) (at : ℕ) (o : Option Frame) → is_some o ≡ true → drop_row s at o ≡ answered replies.Done (record s { flight = remove s.flight at })
unfolding drop_row
some_dropped s at None is = absurd (cc)
some_dropped s at (Some m) is = refl

none_dropped : (s : State) (at : ℕ) (o : Option Frame) → is_some o ≡ false → drop_row s at o ≡ refused s (refusals.NoFrame at)
unfolding drop_row
none_dropped s at None is = refl
none_dropped s at (Some m) is = absurd (cc)

-- the message at a place is lost, where there is one
pub lost_row : (s : State) (at : ℕ) (b : Bool) → b ≡ is_some (slice_get s.flight at) → b ≡ true → drop_row s at (slice_get s.flight at) ≡ answered replies.Done (record s { flight = remove s.flight at })
lost_row s at b is there = some_dropped s at (slice_get s.flight at) (sym is ∙ there)

pub unlost_row : (s : State) (at : ℕ) (b : Bool) → b ≡ is_some (slice_get s.flight at) → b ≡ false → drop_row s at (slice_get s.flight at) ≡ refused s (refusals.NoFrame at)
unlost_row s at b is gone = none_dropped s at (slice_get s.flight at) (sym is ∙ gone)

no_frame : (s : State) (at copy : ℕ) (keep : Bool) (o : Option Frame) (c : Option Copy) → o ≡ None → deliver_row s at copy keep o c ≡ refused s (refusals.NoFrame at)
unfolding deliver_row
no_frame s at copy keep None c is = refl
no_frame s at copy keep (Some m) c is = absurd (cc)

-- past the last message there is none to deliver
pub past_row : (s : State) (at copy : ℕ) (keep : Bool) (c : Option Copy) → length s.flight ≤ at → deliver_row s at copy keep (slice_get s.flight at) c ≡ refused s (refusals.NoFrame at)
past_row s at copy keep c past = no_frame s at copy keep (slice_get s.flight at) c (slice_get_past s.flight at past)

no_copy : (s : State) (at copy : ℕ) (keep : Bool) (o : Option Frame) (c : Option Copy) → is_some o ≡ true → c ≡ None → deliver_row s at copy keep o c ≡ refused s (refusals.NoCopy copy)
unfolding deliver_row
no_copy s at copy keep None c there is = absurd (cc)
no_copy s at copy keep (Some m) None there is = refl
no_copy s at copy keep (Some m) (Some c) there is = absurd (cc)

within-some : (xs : List Frame) (at : ℕ) → at < length xs → is_some (slice_get xs at) ≡ true
within-some [] at low = absurd (omega arith)
within-some (x ∷ xs) zero low = refl
within-some (x ∷ xs) (suc at) low = within-some xs at (omega arith)

-- no copy of the number is there to take the message
pub nowhere_row : (s : State) (at copy : ℕ) (keep : Bool) (c : Option Copy) → at < length s.flight → c ≡ None → deliver_row s at copy keep (slice_get s.flight at) c ≡ refused s (refusals.NoCopy copy)
nowhere_row s at copy keep c low is = no_copy s at copy keep (slice_get s.flight at) c (within-some s.flight at low) is

taken : (s : State) (at copy : ℕ) (keep : Bool) (o : Option Frame) (c : Option Copy) (m : Frame) (x : Copy) → o ≡ Some m → c ≡ Some x
    → deliver_row s at copy keep o c ≡ taken_by_receiver (if keep then s else record s { flight = remove s.flight at }) copy m
unfolding deliver_row
taken s at copy keep None c m x is there = absurd (cc)
taken s at copy keep (Some n) None m x is there = absurd (cc)
taken s at copy keep (Some n) (Some y) m x is there =
    let same : n ≡ m = cc in
    ap (λ (k : Frame). taken_by_receiver (if keep then s else record s { flight = remove s.flight at }) copy k) same

left : (s : State) (at : ℕ) (keep : Bool) → record s { flight = (if keep then s.flight else remove s.flight at) } ≡ (if keep then s else record s { flight = remove s.flight at })
left s at true = refl
left s at false = refl

-- the message leaves those in flight, unless it is kept, and its receiver takes it
pub delivered_row : (s : State) (at copy : ℕ) (keep : Bool) (c : Option Copy) (m : Frame) (x : Copy) (flight : List Frame) → slice_get s.flight at ≡ Some m → c ≡ Some x
    → flight ≡ (if keep then s.flight else remove s.flight at) → deliver_row s at copy keep (slice_get s.flight at) c ≡ taken_by_receiver (record s { flight = flight }) copy m
delivered_row s at copy keep c m x flight is there after =
    taken s at copy keep (slice_get s.flight at) c m x is there
    ∙ ap (λ (t : State). taken_by_receiver t copy m) (sym (left s at keep) ∙ ap (λ (ms : List Frame). record s { flight = ms }) (sym after))

-- ---- the same at a state that a view shows

pub lost_reply : (old s : State) (at : ℕ) (b : Bool) → s ≡ old → b ≡ is_some (slice_get s.flight at) → b ≡ true → replies.Done ≡ (drop_row old at (slice_get old.flight at)).reply
lost_reply old s at b view is there =
    subst (λ (t : State). replies.Done ≡ (drop_row t at (slice_get t.flight at)).reply) view (sym (ap (λ (o : Outcome State). o.reply) (lost_row s at b is there)))

pub lost_after : (old s : State) (at : ℕ) (b : Bool) (flight : List Frame) → s ≡ old → b ≡ is_some (slice_get s.flight at) → b ≡ true
    → MatchBool b (flight ≡ remove s.flight at) (flight ≡ s.flight) → record s { flight = flight } ≡ (drop_row old at (slice_get old.flight at)).next
lost_after old s at b flight view is there after =
    let gone : flight ≡ remove s.flight at = subst (λ (x : Bool). MatchBool x (flight ≡ remove s.flight at) (flight ≡ s.flight)) there after in
    subst (λ (t : State). record s { flight = flight } ≡ (drop_row t at (slice_get t.flight at)).next) view
    (ap (λ (ms : List Frame). record s { flight = ms }) gone ∙ sym (ap (λ (o : Outcome State). o.next) (lost_row s at b is there)))

pub unlost_reply : (old s : State) (at : ℕ) (b : Bool) (reply : Reply) → s ≡ old → b ≡ is_some (slice_get s.flight at) → b ≡ false → reply ≡ replies.Refused (refusals.NoFrame at)
    → reply ≡ (drop_row old at (slice_get old.flight at)).reply
unlost_reply old s at b reply view is there told =
    subst (λ (t : State). reply ≡ (drop_row t at (slice_get t.flight at)).reply) view (told ∙ sym (ap (λ (o : Outcome State). o.reply) (unlost_row s at b is there)))

pub unlost_after : (old s : State) (at : ℕ) (b : Bool) (flight : List Frame) → s ≡ old → b ≡ is_some (slice_get s.flight at) → b ≡ false
    → MatchBool b (flight ≡ remove s.flight at) (flight ≡ s.flight) → record s { flight = flight } ≡ (drop_row old at (slice_get old.flight at)).next
unlost_after old s at b flight view is there after =
    let stays : flight ≡ s.flight = subst (λ (x : Bool). MatchBool x (flight ≡ remove s.flight at) (flight ≡ s.flight)) there after in
    subst (λ (t : State). record s { flight = flight } ≡ (drop_row t at (slice_get t.flight at)).next) view
    (ap (λ (ms : List Frame). record s { flight = ms }) stays ∙ sym (ap (λ (o : Outcome State). o.next) (unlost_row s at b is there)))

-- what a delivery at a place comes to
abbrev pub delivery : State → ℕ → ℕ → Bool → Outcome State
delivery s at copy keep = deliver_row s at copy keep (slice_get s.flight at) (copy_of s.leader.copies copy)

pub past_delivery : (old s : State) (at copy : ℕ) (keep : Bool) → s ≡ old → length s.flight ≤ at → delivery old at copy keep ≡ refused old (refusals.NoFrame at)
past_delivery old s at copy keep view past =
    subst (λ (t : State). delivery t at copy keep ≡ refused t (refusals.NoFrame at)) view (past_row s at copy keep (copy_of s.leader.copies copy) past)

pub nowhere_delivery : (old s : State) (at copy : ℕ) (keep : Bool) → s ≡ old → at < length s.flight → None ≡ copy_of s.leader.copies copy → delivery old at copy keep ≡ refused old (refusals.NoCopy copy)
nowhere_delivery old s at copy keep view low is =
    subst (λ (t : State). delivery t at copy keep ≡ refused t (refusals.NoCopy copy)) view (nowhere_row s at copy keep (copy_of s.leader.copies copy) low (sym is))

pub delivered : (old s : State) (at copy : ℕ) (keep : Bool) (m : Frame) (x : Copy) (flight : List Frame) → s ≡ old → slice_get s.flight at ≡ Some m → Some x ≡ copy_of s.leader.copies copy
    → flight ≡ (if keep then s.flight else remove s.flight at) → taken_by_receiver (record s { flight = flight }) copy m ≡ delivery old at copy keep
delivered old s at copy keep m x flight view is there after =
    subst (λ (t : State). taken_by_receiver (record s { flight = flight }) copy m ≡ delivery t at copy keep) view
    (sym (delivered_row s at copy keep (copy_of s.leader.copies copy) m x flight is (sym there) after))

-- the message at a place, at the state that the view shows
pub found_at : (old s : State) (at : ℕ) (m : Frame) → s ≡ old → slice_get s.flight at ≡ Some m → slice_get old.flight at ≡ Some m
found_at old s at m view is = subst (λ (t : State). slice_get t.flight at ≡ Some m) view is

-- ---- a read of a follower that waits is answered

woken_row : (s : State) (f at : ℕ) (own : Follower) (o : Option Follower) → Some own ≡ o → at_leader s (leader_wake s.leader (uuid_of f) at) ≡ woken s f at o
woken_row s f at own None is = absurd (cc)
woken_row s f at own (Some x) is = refl

woken_at : (old s : State) (f at : ℕ) (own : Follower) (uuid : List ℕ) → s ≡ old → Some own ≡ slice_get old.followers f → uuid ≡ uuid_of f
    → at_leader s (leader_wake s.leader uuid at) ≡ woken old f at (slice_get old.followers f)
woken_at old s f at own uuid view is named =
    ap (λ (t : State). at_leader t (leader_wake t.leader uuid at)) view
    ∙ (ap (λ (u : List ℕ). at_leader old (leader_wake old.leader u at)) named ∙ woken_row old f at own (slice_get old.followers f) is)

pub woken_reply : (old s : State) (f at : ℕ) (own : Follower) (uuid : List ℕ) (told : Told) (next : Leader) (reply : Reply) → s ≡ old → Some own ≡ slice_get old.followers f → uuid ≡ uuid_of f
    → leader_wake s.leader uuid at ≡ after told next → reply ≡ told.reply → reply ≡ (woken old f at (slice_get old.followers f)).reply
woken_reply old s f at own uuid told next reply view is named row same =
    same ∙ (sym (ap (λ (o : Outcome Leader). o.reply) row) ∙ ap (λ (o : Outcome State). o.reply) (woken_at old s f at own uuid view is named))

pub woken_after : (old s : State) (f at : ℕ) (own : Follower) (uuid : List ℕ) (told : Told) (next : Leader) (flight : List Frame) → s ≡ old → Some own ≡ slice_get old.followers f → uuid ≡ uuid_of f
    → leader_wake s.leader uuid at ≡ after told next → flight ≡ s.flight ++ told.sent → record s { leader = next; flight = flight } ≡ (woken old f at (slice_get old.followers f)).next
woken_after old s f at own uuid told next flight view is named row same =
    ap (λ (ms : List Frame). record s { leader = next; flight = ms }) same
    ∙ (sym (ap (λ (o : Outcome Leader). (at_leader s o).next) row) ∙ ap (λ (o : Outcome State). o.next) (woken_at old s f at own uuid view is named))

-- ---- searches

no_copy_found : (s : State) (copy : ℕ) (query : Tree) (keys : List SortKey) (c : Option Copy) → None ≡ c → search_row s copy query keys c ≡ refused s (refusals.NoCopy copy)
unfolding search_row
no_copy_found s copy query keys None is = refl
no_copy_found s copy query keys (Some c) is = absurd (cc)

copy_found : (s : State) (copy : ℕ) (query : Tree) (keys : List SortKey) (c : Option Copy) (x : Copy) → Some x ≡ c → search_row s copy query keys c ≡ answered (replies.Found (search_of x query keys)) s
unfolding search_row
copy_found s copy query keys None x is = absurd (cc)
copy_found s copy query keys (Some c) x is =
    let same : c ≡ x = cc in
    ap (λ (y : Copy). answered (replies.Found (search_of y query keys)) s) same

-- the search of a copy of the follower of a number
abbrev pub search_at : State → ℕ → ℕ → Tree → List SortKey → Outcome State
search_at s f copy query keys = searched_at s (sides.Follower f) copy (search_row s copy query keys)

search-none : (s : State) (f copy : ℕ) (query : Tree) (keys : List SortKey) (o : Option Follower) → None ≡ o
    → (elim o as (λ _. Outcome State) [ None ↦ refused s (refusals.NoFollower f) | Some own ↦ search_row s copy query keys (copy_of own.copies copy) ]) ≡ refused s (refusals.NoFollower f)
search-none s f copy query keys None is = refl
search-none s f copy query keys (Some own) is = absurd (cc)

search-some : (s : State) (f copy : ℕ) (query : Tree) (keys : List SortKey) (o : Option Follower) (x : Follower) → Some x ≡ o
    → (elim o as (λ _. Outcome State) [ None ↦ refused s (refusals.NoFollower f) | Some own ↦ search_row s copy query keys (copy_of own.copies copy) ]) ≡ search_row s copy query keys (copy_of x.copies copy)
search-some s f copy query keys None x is = absurd (cc)
search-some s f copy query keys (Some own) x is =
    let same : own ≡ x = cc in
    ap (λ (y : Follower). search_row s copy query keys (copy_of y.copies copy)) same

of_side : (s : State) (side : Side) (f copy : ℕ) (query : Tree) (keys : List SortKey) (o : Outcome State) → side ≡ sides.Follower f → search_at s f copy query keys ≡ o
    → searched_at s side copy (search_row s copy query keys) ≡ o
of_side s side f copy query keys o is row = subst (λ (x : Side). searched_at s x copy (search_row s copy query keys) ≡ o) (sym is) row

pub search_nowhere : (s : State) (side : Side) (f copy : ℕ) (query : Tree) (keys : List SortKey) (reply : Reply) → side ≡ sides.Follower f → None ≡ slice_get s.followers f
    → reply ≡ replies.Refused (refusals.NoFollower f) → searched_at s side copy (search_row s copy query keys) ≡ answered reply s
search_nowhere s side f copy query keys reply is none told =
    of_side s side f copy query keys (answered reply s) is (search-none s f copy query keys (slice_get s.followers f) none ∙ ap (λ (r : Reply). answered r s) (sym told))

pub search_no_copy : (s : State) (side : Side) (f copy : ℕ) (query : Tree) (keys : List SortKey) (own : Follower) (reply : Reply) → side ≡ sides.Follower f → Some own ≡ slice_get s.followers f
    → None ≡ copy_of own.copies copy → reply ≡ replies.Refused (refusals.NoCopy copy) → searched_at s side copy (search_row s copy query keys) ≡ answered reply s
search_no_copy s side f copy query keys own reply is there none told =
    of_side s side f copy query keys (answered reply s) is
    (search-some s f copy query keys (slice_get s.followers f) own there ∙ (no_copy_found s copy query keys (copy_of own.copies copy) none ∙ ap (λ (r : Reply). answered r s) (sym told)))

pub search_there : (s : State) (side : Side) (f copy : ℕ) (query : Tree) (keys : List SortKey) (own : Follower) (x : Copy) (reply : Reply) → side ≡ sides.Follower f → Some own ≡ slice_get s.followers f
    → Some x ≡ copy_of own.copies copy → reply ≡ replies.Found (search_of x query keys) → searched_at s side copy (search_row s copy query keys) ≡ answered reply s
search_there s side f copy query keys own x reply is there found told =
    of_side s side f copy query keys (answered reply s) is
    (search-some s f copy query keys (slice_get s.followers f) own there ∙ (copy_found s copy query keys (copy_of own.copies copy) x found ∙ ap (λ (r : Reply). answered r s) (sym told)))

-- a copy that is searched holds no number twice
pub held_once : (old s : State) (copy : ℕ) (c : Copy) → HoldsNumbersOnce old → s ≡ old → Some c ≡ copy_of s.leader.copies copy → HoldsOnce c
held_once old s copy c once view is = once.leader copy c (ap (λ (t : State). copy_of t.leader.copies copy) (sym view) ∙ sym is)

pub held_once_there : (s : State) (f copy : ℕ) (own : Follower) (c : Copy) → HoldsNumbersOnce s → Some own ≡ slice_get s.followers f → Some c ≡ copy_of own.copies copy → HoldsOnce c
held_once_there s f copy own c once there is = once.followers f copy own c (sym there) (sym is)

-- what is found by a copy's parts is what the model finds
pub found_is : {E : Type 0} (r : Result HitsOfShard E) (c : Copy) (query : Tree) (keys sort : List SortKey) (count : ℕ) (gap : Bool) (store : Store) → count ≡ c.seen.count → gap ≡ not (is_empty c.seen.above)
    → store ≡ c.store → keys ≡ sort → HoldsOnce c
    → (AreOnce (held store) → IfOk r (λ answer. answer ≡ record { count = count; gap = gap; hits = sorted_hits keys (filter (λ hit. holds query (fields_of_hit hit)) (live_hits (held store))) }))
    → IfOk r (λ answer. answer ≡ search_of c query sort)
found_is r c query keys sort count gap store a b d e once answer =
    let told : IfOk r (λ answer. answer ≡ record { count = count; gap = gap; hits = sorted_hits keys (filter (λ hit. holds query (fields_of_hit hit)) (live_hits (held store))) }) =
    answer (subst (λ (x : Store). AreOnce (held x)) (sym d) once) in
    subst (λ (x : List SortKey). IfOk r (λ answer. answer ≡ search_of c query x)) e
    (subst (λ (n : ℕ). IfOk r (λ answer. answer ≡ record { count = n; gap = not (is_empty c.seen.above); hits = sorted_hits keys (filter (λ hit. holds query (fields_of_hit hit)) (live_hits (held c.store))) })) a
    (subst (λ (g : Bool). IfOk r (λ answer. answer ≡ record { count = count; gap = g; hits = sorted_hits keys (filter (λ hit. holds query (fields_of_hit hit)) (live_hits (held c.store))) })) b
    (subst (λ (x : Store). IfOk r (λ answer. answer ≡ record { count = count; gap = gap; hits = sorted_hits keys (filter (λ hit. holds query (fields_of_hit hit)) (live_hits (held x))) })) d told)))
