-- Each delivery and each loss of a message.
use Rattle.std.specs.Prelude.{slice_get, remove, if◌then◌else◌}
use Rattle.std.proofs.Common.{◌≡◌, ℕ, Bool, true, false, [], Option, Some, None, refl, ap, sym, ◌∙◌, subst, arith}
use Rattle.ccr_wire.specs.Message.{Frame, kind_of_content}
use Rattle.ccr_journal.specs.declared.events.Event.{Event}
use Rattle.ccr_journal.specs.declared.events.Event.TheVariants as events
use Rattle.ccr_journal.specs.declared.replies.Reply.{Reply}
use Rattle.ccr_journal.specs.declared.replies.Reply.TheVariants as replies
use Rattle.ccr_journal.specs.declared.replies.Refusal.TheVariants.{NoFrame, NoCopy}
use Rattle.ccr_model.specs.Outcomes.{Outcome}
use Rattle.ccr_model.specs.Copies.{Copy, copy_of}
use Rattle.ccr_model.specs.LeaderFrames.{leader_receive}
use Rattle.ccr_model.specs.Followers.{Follower, uuid_of}
use Rattle.ccr_model.specs.FollowerRows.{follower_receive_row}
use Rattle.ccr_model.specs.LeaseHistory.{notes_of}
use Rattle.ccr_model.specs.World.{State, at_leader, at_follower, for_follower, goes_to_leader, follower_of, at_named_follower, taken_by_receiver, deliver_row, drop_row}
use Rattle.ccr_model.specs.Past.{Past, line_of, past_with, places_left, delivered_to_leader, sending_place}
use Rattle.ccr_law_base.proofs.Lists.{set-same}
use Rattle.ccr_law_retention.specs.Grounds.{Rises, HasGrounds}
use Rattle.ccr_law_retention.specs.Retaining.{AreRetaining, IsRetaining}
use Rattle.ccr_law_retention.proofs.Worlds.{left, carried, with-parts}
use Rattle.ccr_law_retention.proofs.Places.{past-unmoved, StaysInHistory, none-begins, cut-up, notes-none, refused-place}
use Rattle.ccr_law_retention.proofs.Deliveries.{kept_or_left, AfterDelivery, to-leader, to-follower, is-there, IsThere, flipped, not-delivered}
use Rattle.std.proofs.lemmas.List.{append-nil}

-- a message leaves, and nothing else
pub quiet-left : (p : Past) (event : Event) (reply : Reply) (keep : Bool) (at : ℕ) → StaysInHistory p event reply → notes_of p.state.leader p.state.leader.copies p.place (delivered_to_leader p.state event) event reply ≡ []
    → places_left p.sent_at event reply ≡ kept_or_left keep p.sent_at at → IsRetaining p
    → IsRetaining (past_with p (record { event = event; reply = reply }) (record { reply = reply; next = record p.state { flight = kept_or_left keep p.state.flight at }; sent = [] }))
quiet-left p event reply keep at stays notes places all =
    let after : Past = past_with p (record { event = event; reply = reply }) (record { reply = reply; next = record p.state { flight = kept_or_left keep p.state.flight at }; sent = [] }) in
    let now : ℕ → Option ℕ = λ f. (after.followers f).answer in
    with-parts p.state.leader.history p.state.leader.history p.state.followers now p.notes after.notes p.earlier after.earlier (kept_or_left keep p.state.flight at) (kept_or_left keep p.sent_at at) after.sent_at after.line.cut
    refl (notes-none p event reply _ stays notes) stays.earlier (append-nil (places_left p.sent_at event reply) ∙ places)
    (carried p.state.leader.history p.state.followers (λ f. (p.followers f).answer) now p.notes p.earlier (kept_or_left keep p.state.flight at) (kept_or_left keep p.sent_at at) p.line.cut after.line.cut
    (cut-up p event reply (record { reply = reply; next = record p.state { flight = kept_or_left keep p.state.flight at }; sent = [] }) stays)
    (λ f. past-unmoved f (p.followers f) (sending_place p.sent_at event) event reply (line_of p) (slice_get p.state.followers f)) (less keep))
  where
    less : (keep : Bool) → AreRetaining p.state.leader.history p.state.followers (λ f. (p.followers f).answer) p.notes p.earlier (kept_or_left keep p.state.flight at) (kept_or_left keep p.sent_at at) p.line.cut
    less true = all
    less false = left p.state.leader.history p.state.followers (λ f. (p.followers f).answer) p.notes p.earlier p.state.flight p.sent_at p.line.cut at all

to-named : (p : Past) (at copy : ℕ) (keep : Bool) (m : Frame) (named : Option ℕ) → HasGrounds p → slice_get p.state.flight at ≡ Some m → goes_to_leader (kind_of_content m.content) ≡ false
    → follower_of p.state.followers m.follower ≡ named → Rises p.state (at_named_follower (record p.state { flight = kept_or_left keep p.state.flight at }) m named).next → IsRetaining p
    → AfterDelivery p at copy keep (at_named_follower (record p.state { flight = kept_or_left keep p.state.flight at }) m named)
to-named p at copy keep m None grounds is goes found up all =
    quiet-left p (events.Deliver at copy keep) replies.Done keep at (none-begins p (events.Deliver at copy keep) replies.Done refl)
    (ap (λ (d : Option Frame). notes_of p.state.leader p.state.leader.copies p.place d (events.Deliver at copy keep) replies.Done) (not-delivered p at copy keep m is goes)) refl all
to-named p at copy keep m (Some f) grounds is goes found up all =
    let it : IsThere 0 p.state.followers m.follower f = is-there 0 p.state.followers m.follower f found in
    let there : slice_get p.state.followers f ≡ Some it.follower = subst (λ (n : ℕ). slice_get p.state.followers n ≡ Some it.follower) (let e = it.is in omega arith) it.there in
    let s : State = record p.state { flight = kept_or_left keep p.state.flight at } in
    let o : Outcome Follower = follower_receive_row it.follower m in
    let rises : Rises p.state (at_follower s f o).next = subst (λ (x : Option Follower). Rises p.state (for_follower s f (λ follower. follower_receive_row follower m) x).next) there up in
    subst (λ (x : Option Follower). AfterDelivery p at copy keep (for_follower s f (λ follower. follower_receive_row follower m) x)) (sym there)
    (to-follower p at copy keep m f it.follower grounds is goes there (flipped (uuid_of f) m.follower it.named) (rises f it.follower o.next there (set-same p.state.followers f it.follower o.next there)) all)

taken : (p : Past) (at copy : ℕ) (keep : Bool) (m : Frame) (c : Copy) → HasGrounds p → slice_get p.state.flight at ≡ Some m → copy_of p.state.leader.copies copy ≡ Some c
    → Rises p.state (taken_by_receiver (record p.state { flight = kept_or_left keep p.state.flight at }) copy m).next
    → (taken_by_receiver (record p.state { flight = kept_or_left keep p.state.flight at }) copy m).next.leader.history ≡ p.state.leader.history → IsRetaining p
    → AfterDelivery p at copy keep (taken_by_receiver (record p.state { flight = kept_or_left keep p.state.flight at }) copy m)
taken p at copy keep m c grounds is there up same all =
    let s : State = record p.state { flight = kept_or_left keep p.state.flight at } in
    (elim (goes_to_leader (kind_of_content m.content)) as (λ (b : Bool). goes_to_leader (kind_of_content m.content) ≡ b
    → Rises p.state (if b then at_leader s (leader_receive p.state.leader copy m) else at_named_follower s m (follower_of p.state.followers m.follower)).next
    → (if b then at_leader s (leader_receive p.state.leader copy m) else at_named_follower s m (follower_of p.state.followers m.follower)).next.leader.history ≡ p.state.leader.history
    → AfterDelivery p at copy keep (if b then at_leader s (leader_receive p.state.leader copy m) else at_named_follower s m (follower_of p.state.followers m.follower))) [
      | true ↦ λ goes rises stays. to-leader p at copy keep m c grounds is there goes stays all
      | false ↦ λ goes rises stays. to-named p at copy keep m (follower_of p.state.followers m.follower) grounds is goes refl rises all
    ]) refl up same

pub deliver-place : (p : Past) (at copy : ℕ) (keep : Bool) (found : Option Frame) (c : Option Copy) → HasGrounds p → slice_get p.state.flight at ≡ found → copy_of p.state.leader.copies copy ≡ c
    → Rises p.state (deliver_row p.state at copy keep found c).next → (deliver_row p.state at copy keep found c).next.leader.history ≡ p.state.leader.history → IsRetaining p → AfterDelivery p at copy keep (deliver_row p.state at copy keep found c)
unfolding deliver_row
deliver-place p at copy keep None c grounds is there up same all = refused-place p (events.Deliver at copy keep) (NoFrame at) all
deliver-place p at copy keep (Some m) None grounds is there up same all = refused-place p (events.Deliver at copy keep) (NoCopy copy) all
deliver-place p at copy keep (Some m) (Some c) grounds is there up same all =
    (elim keep as (λ (k : Bool). Rises p.state (taken_by_receiver (if k then p.state else record p.state { flight = remove p.state.flight at }) copy m).next
    → (taken_by_receiver (if k then p.state else record p.state { flight = remove p.state.flight at }) copy m).next.leader.history ≡ p.state.leader.history
    → AfterDelivery p at copy k (taken_by_receiver (if k then p.state else record p.state { flight = remove p.state.flight at }) copy m)) [
      | true ↦ λ rises stays. taken p at copy true m c grounds is there rises stays all
      | false ↦ λ rises stays. taken p at copy false m c grounds is there rises stays all
    ]) up same

pub drop-place : (p : Past) (at : ℕ) (found : Option Frame) → IsRetaining p → IsRetaining (past_with p (record { event = events.Drop at; reply = (drop_row p.state at found).reply }) (drop_row p.state at found))
unfolding drop_row
drop-place p at None all = refused-place p (events.Drop at) (NoFrame at) all
drop-place p at (Some m) all = quiet-left p (events.Drop at) replies.Done false at (none-begins p (events.Drop at) replies.Done refl) refl refl all
