-- what a new follower comes to, over plain variables
use Rattle.std.proofs.Common.{◌≡◌, ℕ, ◌<◌, Bool, false, List, [], ◌∷◌, ◌++◌, length, Option, Some, None, sym, ◌∙◌, ap, subst, arith, if◌then◌else◌}
use Rattle.std.specs.Prelude.{nat_le}
use Rattle.std.proofs.lemmas.Bool.Decides.{nat_tests}
use Rattle.ccr_wire.specs.Message.{Frame}
use Rattle.ccr_journal.specs.declared.params.ParamValues.{ParamValues}
use Rattle.ccr_journal.specs.declared.replies.Refusal.TheVariants.{TooMany}
use Rattle.ccr_model.specs.Requests.{Sending}
use Rattle.ccr_model.specs.Outcomes.{Outcome, refused, guarded}
use Rattle.ccr_model.specs.Followers.{Follower, new_follower}
use Rattle.ccr_model.specs.World.{State, follow_row, same_name, with_new_follower, most_followers}

followed_row : (s : State) (params : ParamValues) (copies : ℕ) (name : List ℕ) (o : Option ℕ) → None ≡ o → nat_le most_followers (length s.followers) ≡ false
    → follow_row s params copies name o ≡ with_new_follower s params copies name
unfolding follow_row guarded
followed_row s params copies name None is few = ap (λ (b : Bool). if b then refused s TooMany else with_new_follower s params copies name) few
followed_row s params copies name (Some f) is few = absurd (cc)

room : (n : ℕ) → n < 8 → nat_le 8 n ≡ false
room n low = grind (arith, nat_tests)

-- the follower stands behind the others, and what it sends behind what is in flight
pub followed_after : (old s : State) (params p : ParamValues) (copies k : ℕ) (name lease history : List ℕ) (f retention : ℕ) (own : Follower) (sent : List Frame) (followers : List Follower) (flight : List Frame)
    → s ≡ old → None ≡ same_name s.followers name → length s.followers < 8 → f ≡ length s.followers → p ≡ params → k ≡ copies → lease ≡ name → history ≡ s.leader.history → retention ≡ s.leader.start.retention
    → new_follower f p k lease history retention ≡ record { next = own; sent = sent } → followers ≡ s.followers ++ own ∷ [] → flight ≡ s.flight ++ sent
    → record s { followers = followers; flight = flight } ≡ (follow_row old params copies name (same_name old.followers name)).next
followed_after old s params p copies k name lease history f retention own sent followers flight view none low a b d e g h made put more =
    let m : Sending Follower = new_follower (length s.followers) params copies name s.leader.history s.leader.start.retention in
    let is : m ≡ record { next = own; sent = sent } =
    subst (λ (x : ℕ). new_follower x params copies name s.leader.history s.leader.start.retention ≡ record { next = own; sent = sent }) a
    (subst (λ (x : ParamValues). new_follower f x copies name s.leader.history s.leader.start.retention ≡ record { next = own; sent = sent }) b
    (subst (λ (x : ℕ). new_follower f p x name s.leader.history s.leader.start.retention ≡ record { next = own; sent = sent }) d
    (subst (λ (x : List ℕ). new_follower f p k x s.leader.history s.leader.start.retention ≡ record { next = own; sent = sent }) e
    (subst (λ (x : List ℕ). new_follower f p k lease x s.leader.start.retention ≡ record { next = own; sent = sent }) g
    (subst (λ (x : ℕ). new_follower f p k lease history x ≡ record { next = own; sent = sent }) h made))))) in
    let row : (follow_row s params copies name (same_name s.followers name)).next ≡ record s { followers = s.followers ++ m.next ∷ []; flight = s.flight ++ m.sent } =
    ap (λ (o : Outcome State). o.next) (followed_row s params copies name (same_name s.followers name) none (room (length s.followers) low)) in
    subst (λ (t : State). record s { followers = followers; flight = flight } ≡ (follow_row t params copies name (same_name t.followers name)).next) view
    (ap (λ (xs : List Follower). record s { followers = xs; flight = flight }) put
    ∙ (ap (λ (ms : List Frame). record s { followers = s.followers ++ own ∷ []; flight = ms }) more
    ∙ (ap (λ (x : Sending Follower). record s { followers = s.followers ++ x.next ∷ []; flight = s.flight ++ x.sent }) (sym is) ∙ sym row)))
