-- Each delivery that settling may use makes the measure smaller.
use Rattle.std.specs.Prelude.{slice_get}
use Rattle.std.specs.Str.{bytes_eq}
use Rattle.std.proofs.Common.{◌≡◌, ℕ, ◌==◌, ◌&&◌, not, Bool, true, false, Option, Some, None, List, is_some, is_none, refl, sym, ◌∙◌, ap, subst}
use Rattle.std.proofs.lemmas.Slice.Eq.{bytes_eq-Decides}
use Rattle.ccr_wire.specs.Message.{Frame, kind_of_content}
use Rattle.ccr_wire.specs.declared.content.Content.{Content}
use Rattle.ccr_wire.specs.declared.content.Content.TheVariants as contents
use Rattle.ccr_journal.specs.declared.events.Event.TheVariants as events
use Rattle.ccr_model.specs.Copies.{not_ready}
use Rattle.ccr_model.specs.Followers.{Follower, uuid_of}
use Rattle.ccr_model.specs.World.{State, goes_to_leader, follower_of}
use Rattle.ccr_law_base.proofs.Lists.{All-at, some_equal}
use Rattle.ccr_law_base.proofs.Tests.{by_test, and_second}
use Rattle.ccr_law_settling_grounds.specs.Purposes.{about, awaited, Agree, HasPurposes}
use Rattle.ccr_model.specs.Step.{step}
use Rattle.ccr_law_settling.specs.Measure.{IsLower}
use Rattle.ccr_law_settling.specs.Lowering.{Lowers, IsInFlight}
use Rattle.ccr_law_settling.specs.Within.{waits_for, IsAwaitedByNone}
use Rattle.ccr_law_settling.proofs.Joined.Awaited.{DeliveriesLower, work_answered}

-- ---- to the leader

is_ready : (s : State) (a b c : Bool) → (((a && b) && c) && is_none (not_ready s.leader.copies)) ≡ true → not_ready s.leader.copies ≡ None
is_ready s a b c may = none (not_ready s.leader.copies) (and_second ((a && b) && c) (is_none (not_ready s.leader.copies)) may)
  where
    none : (o : Option ℕ) → is_none o ≡ true → o ≡ None
    none None is = refl
    none (Some n) is = cc

to_leader : (count_of : List ℕ → ℕ) (s : State) (at copy : ℕ) (keep : Bool) (uuid : List ℕ) (request : ℕ) (content : Content) → DeliveriesLower count_of s → not_ready s.leader.copies ≡ None → goes_to_leader (kind_of_content content) ≡ true
    → IsInFlight s at uuid request content → Lowers count_of s (events.Deliver at copy keep)
to_leader count_of s at copy keep uuid request (contents.ReadRequest history from max_ops max_bytes timeout) lower ready goes found =
    lower.deliveries.read at copy keep uuid request history from max_ops max_bytes timeout found
to_leader count_of s at copy keep uuid request (contents.LeaseAdd id) lower ready goes found = lower.deliveries.addition at copy keep uuid request id ready found
to_leader count_of s at copy keep uuid request (contents.LeaseRenew id number) lower ready goes found = lower.deliveries.renewal at copy keep uuid request id number found
to_leader count_of s at copy keep uuid request (contents.LeaseRemove id) lower ready goes found = lower.deliveries.removal at copy keep uuid request id found
to_leader count_of s at copy keep uuid request contents.SessionOpen lower ready goes found = lower.deliveries.session at copy keep uuid request ready found
to_leader count_of s at copy keep uuid request (contents.ChunkRequest session file offset size) lower ready goes found = lower.asking.part at copy keep uuid request session file offset size found
to_leader count_of s at copy keep uuid request _ lower ready goes found = cc

-- ---- to a follower

-- where the follower of that name doesn't wait for the message, nobody does
awaited_by_none : (s : State) (m : Frame) → ((f : ℕ) (own : Follower) → slice_get s.followers f ≡ Some own → follower_of s.followers (uuid_of f) ≡ Some f)
    → ((f : ℕ) (own : Follower) → follower_of s.followers m.follower ≡ Some f → slice_get s.followers f ≡ Some own → waits_for m.request own.work ≡ false) → IsAwaitedByNone s m.follower m.request
awaited_by_none s m named none f own there ours =
    none f own (ap (follower_of s.followers) ((bytes_eq-Decides m.follower (uuid_of f)).0 ours) ∙ named f own there) there

to_follower : (count_of : List ℕ → ℕ) (s : State) (at copy : ℕ) (keep : Bool) (m : Frame) → DeliveriesLower count_of s → HasPurposes s
    → ((f : ℕ) (own : Follower) → slice_get s.followers f ≡ Some own → follower_of s.followers (uuid_of f) ≡ Some f)
    → ((f : ℕ) → follower_of s.followers m.follower ≡ Some f → bytes_eq m.follower (uuid_of f) ≡ true)
    → goes_to_leader (kind_of_content m.content) ≡ false → slice_get s.flight at ≡ Some m → Lowers count_of s (events.Deliver at copy keep)
to_follower count_of s at copy keep m lower purposes named ours goes found = whose (follower_of s.followers m.follower) refl
  where
    stale : ((f : ℕ) (own : Follower) → follower_of s.followers m.follower ≡ Some f → slice_get s.followers f ≡ Some own → waits_for m.request own.work ≡ false) → Lowers count_of s (events.Deliver at copy keep)
    stale none = lower.asking.stale at copy keep m found goes (awaited_by_none s m named none)

    agrees : (f : ℕ) (own : Follower) → follower_of s.followers m.follower ≡ Some f → slice_get s.followers f ≡ Some own → Agree (awaited own.work m.request) (about m.content)
    agrees f own is there =
        All-at (λ (x : Frame). bytes_eq x.follower (uuid_of f) ≡ true → Agree (awaited own.work x.request) (about x.content)) s.flight at m (purposes f own there).flight found (ours f is)

    taken : (f : ℕ) → follower_of s.followers m.follower ≡ Some f → (o : Option Follower) → slice_get s.followers f ≡ o → Lowers count_of s (events.Deliver at copy keep)
    taken f is None there = stale (λ g own named_g there_g. absurd (nobody g own named_g there_g))
      where
        nobody : (g : ℕ) (own : Follower) → follower_of s.followers m.follower ≡ Some g → slice_get s.followers g ≡ Some own → ⊥
        nobody g own named_g there_g =
            let same : f ≡ g = some_equal f g (sym is ∙ named_g) in
            let e : None ≡ Some own = sym there ∙ (ap (slice_get s.followers) same ∙ there_g) in
            cc
    taken f is (Some own) there =
        by_test (Lowers count_of s (events.Deliver at copy keep)) (waits_for m.request own.work)
        (λ waits. work_answered count_of s at copy keep m.follower m.request m.content lower goes found f own own.work is there refl (agrees f own is there) waits)
        (λ idle. stale (λ g other named_g there_g.
        let same : f ≡ g = some_equal f g (sym is ∙ named_g) in
        let one : own ≡ other = some_equal own other (sym there ∙ (ap (slice_get s.followers) same ∙ there_g)) in
        subst (λ (x : Follower). waits_for m.request x.work ≡ false) one idle))

    whose : (o : Option ℕ) → follower_of s.followers m.follower ≡ o → Lowers count_of s (events.Deliver at copy keep)
    whose None is = stale (λ g own named_g there_g. absurd (let e : None ≡ Some g = sym is ∙ named_g in cc))
    whose (Some f) is = taken f is (slice_get s.followers f) refl

-- ---- either

pub delivery_lowers : (count_of : List ℕ → ℕ) (s : State) (at copy : ℕ) (keep : Bool) → DeliveriesLower count_of s → HasPurposes s
    → ((f : ℕ) (own : Follower) → slice_get s.followers f ≡ Some own → follower_of s.followers (uuid_of f) ≡ Some f)
    → ((at : ℕ) (m : Frame) → slice_get s.flight at ≡ Some m → (f : ℕ) → follower_of s.followers m.follower ≡ Some f → bytes_eq m.follower (uuid_of f) ≡ true)
    → Lowers count_of s (events.Deliver at copy keep)
delivery_lowers count_of s at copy keep lower purposes named ours may picks = by (slice_get s.flight at) refl may
  where
    by : (o : Option Frame) → slice_get s.flight at ≡ o → (((is_some o && (copy == s.leader.copies.primary.number)) && not keep) && is_none (not_ready s.leader.copies)) ≡ true
        → IsLower count_of (step s (events.Deliver at copy keep) picks).next s
    by None found is = cc
    by (Some m) found is =
        by_test (IsLower count_of (step s (events.Deliver at copy keep) picks).next s) (goes_to_leader (kind_of_content m.content))
        (λ goes. to_leader count_of s at copy keep m.follower m.request m.content lower (is_ready s (is_some (Some m)) (copy == s.leader.copies.primary.number) (not keep) is) goes found may picks)
        (λ goes. to_follower count_of s at copy keep m lower purposes named (ours at m found) goes found may picks)
