-- All messages of all followers fit after the leader did something, after one follower moved on, and after one was made.
use Rattle.std.specs.Prelude.{slice_get, slice_set, remove, ◌==◌}
use Rattle.std.specs.Str.{bytes_eq}
use Rattle.std.specs.List.{AllByRecursion}
use Rattle.std.proofs.Common.{◌≡◌, ℕ, ◌<◌, ◌≤◌, Bool, true, false, nat_lt, Option, Some, None, List, ◌++◌, length, refl, sym, ◌∙◌, subst, arith, inl, inr}
use Rattle.std.proofs.lemmas.Bool.Decides.{nat_tests}
use Rattle.std.proofs.lemmas.Bool.{eqb-true}
use Rattle.std.proofs.lemmas.Slice.Eq.{bytes_eq-Decides}
use Rattle.ccr_wire.specs.Message.{Frame}
use Rattle.ccr_journal.specs.declared.params.ParamValues.{ParamValues}
use Rattle.ccr_model.specs.Outcomes.{Outcome}
use Rattle.ccr_model.specs.Requests.{on_its_way}
use Rattle.ccr_model.specs.Restores.{Restore, leasing}
use Rattle.ccr_model.specs.Leaders.{Leader, KeptRequest, Poll}
use Rattle.ccr_model.specs.Followers.{Follower, Work, uuid_of, new_follower}
use Rattle.ccr_model.specs.World.{State, at_leader, for_follower, most_followers, with_new_follower}
use Rattle.ccr_law_messages.specs.TrueFrames.{frame_of_poll, frame_of_kept}
use Rattle.ccr_law_messages.proofs.Finds.{push-at}
use Rattle.ccr_law_messages.proofs.Naming.{differs}
use Rattle.ccr_law_settling_grounds.specs.Purposes.{for_lease, for_read, about}
use Rattle.ccr_law_settling_grounds.proofs.Purpose.Fitting.{FitsOwn, IsOwn, Moves, name_in, fits_on}
use Rattle.ccr_law_settling_grounds.proofs.Purpose.Restores.{lease_moves}
use Rattle.ccr_law_settling_grounds.proofs.Purpose.Followers.{RowMoves, AreReadsDrawn}
use Rattle.ccr_law_settling_grounds.proofs.Purpose.Answering.{AllFit, RowFits}
use Rattle.ccr_law_base.proofs.Lists.{All-weaker, All-append, All-remove, some_equal, set-other, set-same, get_within}

-- the messages in flight, the polls and the kept requests under a name fit the work
abbrev pub FitsIn : State → List ℕ → Work → Type 0
FitsIn s uuid w = AllFit uuid w s.flight s.leader.polls s.leader.kept

-- so it is for each follower
abbrev pub WorldFits : State → Type 0
WorldFits s = (f : ℕ) (own : Follower) → slice_get s.followers f ≡ Some own → FitsIn s (uuid_of f) own.work

abbrev pub FitsAfter : Outcome State → Type 0
FitsAfter o = WorldFits o.next

-- each follower sends under its own name, and the numbers of its reads were drawn
pub record AreOrderly (followers : List Follower) : Type 0 where
  pub few : length followers ≤ most_followers
  pub named : (f : ℕ) (own : Follower) → slice_get followers f ≡ Some own → name_in own.work ≡ uuid_of f
  pub drawn : (f : ℕ) (own : Follower) → slice_get followers f ≡ Some own → AreReadsDrawn own.work

-- ---- names

names_back : (a b : List ℕ) → bytes_eq b a ≡ false → bytes_eq a b ≡ false
names_back a b other = (elim (bytes_eq a b) as (λ (e : Bool). bytes_eq a b ≡ e → e ≡ false) [
  | true ↦ λ is. let back : bytes_eq b a ≡ true = (bytes_eq-Decides b a).1 (sym ((bytes_eq-Decides a b).0 is)) in absurd cc
  | false ↦ λ isnt. refl
]) refl

pub names_differ : (f g : ℕ) → f < 9 → g < 9 → (f == g) ≡ false → bytes_eq (uuid_of f) (uuid_of g) ≡ false
names_differ f g low high other = (elim (nat_lt f g) as (λ (e : Bool). nat_lt f g ≡ e → bytes_eq (uuid_of f) (uuid_of g) ≡ false) [
  | true ↦ λ is. let less : f < g = grind (arith, nat_tests) in differs f g less high
  | false ↦ λ isnt. let less : g < f = grind (arith, nat_tests) in names_back (uuid_of f) (uuid_of g) (differs g f less low)
]) refl

-- what is under one name is not under another
under_other_name : (uuid other : List ℕ) (old new : Work) (sent : List Frame) → bytes_eq uuid other ≡ false → AllByRecursion (IsOwn uuid new) sent → AllByRecursion (FitsOwn other old) sent
under_other_name uuid other old new sent differ all =
    All-weaker (IsOwn uuid new) (FitsOwn other old)
    (λ m is own. let same : bytes_eq uuid other ≡ true = subst (λ (name : List ℕ). bytes_eq name other ≡ true) is.named own in absurd cc) sent all

-- ---- the leader

pub by_leader : (s : State) (o : Outcome Leader) → WorldFits s
    → ((f : ℕ) (own : Follower) → slice_get s.followers f ≡ Some own → FitsIn s (uuid_of f) own.work → RowFits (uuid_of f) own.work o) → FitsAfter (at_leader s o)
by_leader s o now row = λ f own there.
    let before : FitsIn s (uuid_of f) own.work = now f own there in
    let after : RowFits (uuid_of f) own.work o = row f own there before in
    record { sent_fit = All-append (FitsOwn (uuid_of f) own.work) s.flight o.sent before.sent_fit after.sent_fit; polls_fit = after.polls_fit; kept_fit = after.kept_fit }

pub one_less : (s : State) (at : ℕ) → WorldFits s → WorldFits (record s { flight = remove s.flight at })
one_less s at now = λ f own there.
    let before : FitsIn s (uuid_of f) own.work = now f own there in
    record { sent_fit = All-remove (FitsOwn (uuid_of f) own.work) s.flight at before.sent_fit; polls_fit = before.polls_fit; kept_fit = before.kept_fit }

-- ---- one follower moves on

moved_on : (uuid : List ℕ) (old new : Work) (sent flight : List Frame) (polls : List Poll) (kept : List KeptRequest) → Moves uuid old new sent
    → AllFit uuid old flight polls kept → AllFit uuid new (flight ++ sent) polls kept
moved_on uuid old new sent flight polls kept moves fit = record {
  sent_fit = All-append (FitsOwn uuid new) flight sent
      (All-weaker (FitsOwn uuid old) (FitsOwn uuid new) (λ m fits own. fits_on uuid old new sent m.request (about m.content) moves (fits own)) flight fit.sent_fit)
      (All-weaker (IsOwn uuid new) (FitsOwn uuid new) (λ m is own. is.fits) sent moves.messages);
  polls_fit = All-weaker (λ (p : Poll). FitsOwn uuid old (frame_of_poll p)) (λ (p : Poll). FitsOwn uuid new (frame_of_poll p))
      (λ p fits own. fits_on uuid old new sent p.request (Some for_read) moves (fits own)) polls fit.polls_fit;
  kept_fit = All-weaker (λ (k : KeptRequest). FitsOwn uuid old (frame_of_kept k)) (λ (k : KeptRequest). FitsOwn uuid new (frame_of_kept k))
      (λ k fits own. fits_on uuid old new sent k.request (Some for_lease) moves (fits own)) kept fit.kept_fit;
}

-- what another follower sends leaves it as it is
left_alone : (uuid other : List ℕ) (w new : Work) (sent flight : List Frame) (polls : List Poll) (kept : List KeptRequest) → bytes_eq uuid other ≡ false → AllByRecursion (IsOwn uuid new) sent
    → AllFit other w flight polls kept → AllFit other w (flight ++ sent) polls kept
left_alone uuid other w new sent flight polls kept differ all fit = record {
  sent_fit = All-append (FitsOwn other w) flight sent fit.sent_fit (under_other_name uuid other w new sent differ all);
  polls_fit = fit.polls_fit;
  kept_fit = fit.kept_fit;
}

pub by_follower : (s : State) (f : ℕ) (row : Follower → Outcome Follower) (found : Option Follower) → slice_get s.followers f ≡ found → AreOrderly s.followers → WorldFits s
    → ((x : Follower) → slice_get s.followers f ≡ Some x → RowMoves (uuid_of f) x (row x)) → FitsAfter (for_follower s f row found)
by_follower s f row None at orderly now moves = now
by_follower s f row (Some x) at orderly now moves = λ g own there.
    let next : Follower = (row x).next in
    let sent : List Frame = (row x).sent in
    let one : RowMoves (uuid_of f) x (row x) = moves x at in
    (elim (f == g) as (λ (e : Bool). (f == g) ≡ e → AllFit (uuid_of g) own.work (s.flight ++ sent) s.leader.polls s.leader.kept) [
      | true ↦ λ here.
          let same : f ≡ g = eqb-true f g here in
          let new : next ≡ own = some_equal next own (sym (set-same s.followers f x next at) ∙ subst (λ (k : ℕ). slice_get (slice_set s.followers f next) k ≡ Some own) (sym same) there) in
          let moved : AllFit (uuid_of f) next.work (s.flight ++ sent) s.leader.polls s.leader.kept =
          moved_on (uuid_of f) x.work next.work sent s.flight s.leader.polls s.leader.kept one (now f x at) in
          subst (λ (y : Follower). AllFit (uuid_of g) y.work (s.flight ++ sent) s.leader.polls s.leader.kept) new
          (subst (λ (k : ℕ). AllFit (uuid_of k) next.work (s.flight ++ sent) s.leader.polls s.leader.kept) same moved)
      | false ↦ λ other.
          let was : slice_get s.followers g ≡ Some own = sym (set-other s.followers f g next other) ∙ there in
          let low : f < length s.followers = get_within s.followers f x at in
          let high : g < length s.followers = get_within s.followers g own was in
          let few : length s.followers ≤ most_followers = orderly.few in
          left_alone (uuid_of f) (uuid_of g) own.work next.work sent s.flight s.leader.polls s.leader.kept (names_differ f g (omega arith) (omega arith) other) one.messages (now g own was)
    ]) refl

-- ---- one follower is made

-- what a new follower sends is its own
new_own : (f : ℕ) (params : ParamValues) (copies : ℕ) (lease history : List ℕ) (retention : ℕ)
    → AllByRecursion (IsOwn (uuid_of f) (new_follower f params copies lease history retention).next.work) (new_follower f params copies lease history retention).sent
new_own f params copies lease history retention =
    let fresh : Restore = record {
      lease = lease;
      follower = uuid_of f;
      history = history;
      chunk_size = params.chunk_size;
      max_retry_delay = params.max_retry_delay;
      next_request = 0;
      retry = 0;
      stage = leasing (record { request = 0; progress = on_its_way });
    } in
    (lease_moves (uuid_of f) fresh 0 refl).messages

-- nothing is under the name of the follower that comes next
abbrev pub NextIsUnheard : State → Type 0
NextIsUnheard s = (w : Work) → FitsIn s (uuid_of (length s.followers)) w

pub by_new_follower : (s : State) (params : ParamValues) (copies : ℕ) (name : List ℕ) → length s.followers < most_followers → NextIsUnheard s → WorldFits s
    → FitsAfter (with_new_follower s params copies name)
by_new_follower s params copies name few unheard now = λ g own there.
    let last : ℕ = length s.followers in
    let new : Follower = (new_follower last params copies name s.leader.history s.leader.start.retention).next in
    let sent : List Frame = (new_follower last params copies name s.leader.history s.leader.start.retention).sent in
    let all : AllByRecursion (IsOwn (uuid_of last) new.work) sent = new_own last params copies name s.leader.history s.leader.start.retention in
    (elim (push-at s.followers g own new there) as (λ _. AllFit (uuid_of g) own.work (s.flight ++ sent) s.leader.polls s.leader.kept) [
      | inl old ↦
          let low : g < length s.followers = get_within s.followers g own old in
          left_alone (uuid_of last) (uuid_of g) own.work new.work sent s.flight s.leader.polls s.leader.kept (names_differ last g (omega arith) (omega arith) (grind (arith, nat_tests))) all (now g own old)
      | inr made ↦
          let begun : AllFit (uuid_of last) new.work (s.flight ++ sent) s.leader.polls s.leader.kept = record {
            sent_fit = All-append (FitsOwn (uuid_of last) new.work) s.flight sent (unheard new.work).sent_fit
                (All-weaker (IsOwn (uuid_of last) new.work) (FitsOwn (uuid_of last) new.work) (λ m is under. is.fits) sent all);
            polls_fit = (unheard new.work).polls_fit;
            kept_fit = (unheard new.work).kept_fit;
          } in
          subst (λ (y : Follower). AllFit (uuid_of g) y.work (s.flight ++ sent) s.leader.polls s.leader.kept) made.0
          (subst (λ (k : ℕ). AllFit (uuid_of k) new.work (s.flight ++ sent) s.leader.polls s.leader.kept) (sym made.1) begun)
    ])
