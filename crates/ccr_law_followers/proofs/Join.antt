-- How claims on single followers after an event become the claims on all of them.
use Rattle.std.specs.Prelude.{slice_get, slice_set}
use Rattle.std.proofs.Common.{◌≡◌, ℕ, zero, suc, ◌==◌, ◌⊎◌, inl, inr, Bool, true, false, Option, Some, None, List, [], ◌∷◌, refl, sym, ◌∙◌, ap, subst, arith}
use Rattle.std.proofs.lemmas.Bool.Decides.{nat_tests}
use Rattle.ccr_op.specs.Operation.{Operation}
use Rattle.ccr_journal.specs.declared.events.Event.{Event}
use Rattle.ccr_journal.specs.declared.replies.Reply.{Reply}
use Rattle.ccr_model.specs.Outcomes.{Outcome}
use Rattle.ccr_model.specs.Given.{none_given}
use Rattle.ccr_model.specs.Followers.{Follower}
use Rattle.ccr_model.specs.FollowerRows.{is_bootstrapping}
use Rattle.ccr_model.specs.World.{State, for_follower}
use Rattle.ccr_model.specs.Past.{Line, Past, FollowerPast, WrittenBatch, no_past, past_with, follower_past_of, follower_given_after, written_after, sending_place, line_of}
use Rattle.ccr_law_copies.specs.Cores.{HasOnward}
use Rattle.ccr_law_base.proofs.Lists.{some_equal}
use Rattle.ccr_law_followers.specs.TrueCopies.{FollowerOk, FollowersOk, HasTrueCopies, Rises}
use Rattle.ccr_law_followers.proofs.After.{OkOf, OkAfter, RowOk, kept, ok-later}
use Rattle.std.proofs.lemmas.Bool.{eqb-true}

-- ---- places of a list

pub set_at : (xs : List Follower) (f : ℕ) (x : Follower) (k : ℕ) (new : Follower) → slice_get (slice_set xs f x) k ≡ Some new
    → (((f == k) ≡ true) × (x ≡ new)) ⊎ (((f == k) ≡ false) × (slice_get xs k ≡ Some new))
set_at [] f x k new at = cc
set_at (y ∷ xs) zero x zero new at = inl (refl, some_equal x new at)
set_at (y ∷ xs) zero x (suc k) new at = inr (grind (arith, nat_tests), at)
set_at (y ∷ xs) (suc f) x zero new at = inr (grind (arith, nat_tests), at)
set_at (y ∷ xs) (suc f) x (suc k) new at = step (set_at xs f x k new at)
  where
    step : (((f == k) ≡ true) × (x ≡ new)) ⊎ (((f == k) ≡ false) × (slice_get xs k ≡ Some new))
        → (((suc f == suc k) ≡ true) × (x ≡ new)) ⊎ (((suc f == suc k) ≡ false) × (slice_get xs k ≡ Some new))
    step (inl is) = let test : (f == k) ≡ true = is.0 in inl (grind (arith, nat_tests), is.1)
    step (inr is) = let test : (f == k) ≡ false = is.0 in inr (grind (arith, nat_tests), is.1)

pub set_none : (xs : List Follower) (f : ℕ) (x : Follower) (k : ℕ) → slice_get (slice_set xs f x) k ≡ None → slice_get xs k ≡ None
set_none [] f x k none = none
set_none (y ∷ xs) zero x zero none = cc
set_none (y ∷ xs) zero x (suc k) none = none
set_none (y ∷ xs) (suc f) x zero none = cc
set_none (y ∷ xs) (suc f) x (suc k) none = set_none xs f x k none

pub none_set : (xs : List Follower) (f : ℕ) (x : Follower) (k : ℕ) → slice_get xs k ≡ None → slice_get (slice_set xs f x) k ≡ None
none_set [] f x k none = none
none_set (y ∷ xs) zero x zero none = cc
none_set (y ∷ xs) zero x (suc k) none = none
none_set (y ∷ xs) (suc f) x zero none = cc
none_set (y ∷ xs) (suc f) x (suc k) none = none_set xs f x k none

-- ---- all followers

abbrev pub past_by_reply : Past → Event → Outcome State → Past
past_by_reply p event o = past_with p (record { event = event; reply = o.reply }) o

-- what holds after an event, where this is what it comes to: still by the lines before it
pub record After (p : Past) (event : Event) (o : Outcome State) : Type 0 where
  pub ok : FollowersOk (line_of p) (past_by_reply p event o).followers o.next.followers
  pub rises : Rises p.state o.next

-- the same followers are there, and each that was there is as it has to be
pub record Each (p : Past) (event : Event) (o : Outcome State) : Type 0 where
  pub each : (f : ℕ) (s new : Follower) → slice_get p.state.followers f ≡ Some s → slice_get o.next.followers f ≡ Some new → OkOf (line_of p s.history) (p.followers f) s
      → OkAfter (line_of p s.history) f (p.followers f) event o.reply s new
  pub new : (f : ℕ) (new : Follower) → slice_get p.state.followers f ≡ None → slice_get o.next.followers f ≡ Some new
      → FollowerOk (line_of p new.history) none_given 0 [] (is_bootstrapping new.work) new.copies
  pub gone : (f : ℕ) → slice_get o.next.followers f ≡ None → slice_get p.state.followers f ≡ None

-- the past of a follower
abbrev pub past_at : Past → Event → Outcome State → ℕ → Option Follower → Option Follower → FollowerPast
past_at p event o f old new = follower_past_of f (p.followers f) (sending_place p.sent_at event) event o.reply (line_of p) old new

abbrev pub OkIn : Line → FollowerPast → Follower → Type 0
OkIn line past s = FollowerOk line past.given past.restored past.written (is_bootstrapping s.work) s.copies

pub join : (p : Past) (event : Event) (o : Outcome State) → HasTrueCopies p → Each p event o → After p event o
join p event o ok each = record {
  ok = record {
    made = λ f new at. by_old f new at (slice_get p.state.followers f) refl;
    unmade = λ f none.
        subst (λ (old : Option Follower). past_at p event o f old (slice_get o.next.followers f) ≡ no_past) (sym (each.gone f none)) (ok.unmade f (each.gone f none));
  };
  rises = λ f s now at there. (each.each f s now at there (ok.made f s at)).rises;
}
  where
    by_old : (f : ℕ) (new : Follower) → slice_get o.next.followers f ≡ Some new → (old : Option Follower) → slice_get p.state.followers f ≡ old
        → OkIn (line_of p new.history) (past_at p event o f (slice_get p.state.followers f) (slice_get o.next.followers f)) new
    by_old f new at None is =
        subst (λ (old : Option Follower). OkIn (line_of p new.history) (past_at p event o f old (slice_get o.next.followers f)) new) (sym is)
        (subst (λ (past : FollowerPast). OkIn (line_of p new.history) past new) (sym (ok.unmade f is)) (each.new f new is at))
    by_old f new at (Some s) is =
        let made : OkAfter (line_of p s.history) f (p.followers f) event o.reply s new = each.each f s new is at (ok.made f s is) in
        subst (λ (old : Option Follower). OkIn (line_of p new.history) (past_at p event o f old (slice_get o.next.followers f)) new) (sym is)
        (subst (λ (now : Option Follower). OkIn (line_of p new.history) (past_at p event o f (Some s) now) new) (sym at)
        (subst (λ (history : List ℕ). OkIn (line_of p history) (past_at p event o f (Some s) (Some new)) new) (sym made.stays) made.ok))

-- the lines go on
pub goes_on : (p : Past) (next : Past) → HasOnward p next → FollowersOk (line_of p) next.followers next.state.followers → HasTrueCopies next
goes_on p next onward ok = record {
  made = λ f s at. ok-later (line_of p s.history) (line_of next s.history) (next.followers f).given (next.followers f).restored (next.followers f).written (is_bootstrapping s.work) s.copies
      (record { cut = (onward s.history).cut; front = (onward s.history).same }) (ok.made f s at);
  unmade = ok.unmade;
}

-- ---- one follower, or none

-- the event tells nothing of a follower that stays as it is
pub record IsAside (k : ℕ) (event : Event) (reply : Reply) : Type 0 where
  pub given : (s : Follower) (line : List Operation) (given : ℕ → ℕ → Option Operation) → follower_given_after k s s line given event reply ≡ given
  pub written : (s : Follower) (written : List WrittenBatch) → written_after k s written event reply ≡ written

pub aside_ok : (line : Line) (k : ℕ) (past : FollowerPast) (event : Event) (reply : Reply) (s : Follower) → IsAside k event reply → OkOf line past s → OkAfter line k past event reply s s
aside_ok line k past event reply s aside ok =
    kept line k past event reply s s (aside.given s line.ops past.given) (aside.written s past.written) (record { copies = refl; work = refl; history = refl }) ok

-- no follower changes
pub unmoved : (p : Past) (event : Event) (o : Outcome State) → o.next.followers ≡ p.state.followers
    → ((k : ℕ) (s : Follower) → slice_get p.state.followers k ≡ Some s → IsAside k event o.reply)
    → HasTrueCopies p → After p event o
unmoved p event o same aside ok = join p event o ok record {
  each = λ f s new at there before.
      let is : s ≡ new = some_equal s new (sym at ∙ (ap (λ (xs : List Follower). slice_get xs f) (sym same) ∙ there)) in
      subst (λ (x : Follower). OkAfter (line_of p s.history) f (p.followers f) event o.reply s x) is
      (aside_ok (line_of p s.history) f (p.followers f) event o.reply s (aside f s at) before);
  new = λ f new none there. absurd (contrary (slice_get p.state.followers f) new none (ap (λ (xs : List Follower). slice_get xs f) (sym same) ∙ there));
  gone = λ f none. ap (λ (xs : List Follower). slice_get xs f) (sym same) ∙ none;
}
  where
    contrary : (o : Option Follower) (new : Follower) → o ≡ None → o ≡ Some new → ⊥
    contrary o new none some = cc

-- one follower changes
pub one_moved : (p : Past) (event : Event) (f : ℕ) (row : Follower → Outcome Follower) (found : Option Follower) → slice_get p.state.followers f ≡ found
    → ((k : ℕ) (reply : Reply) → (f == k) ≡ false → IsAside k event reply)
    → ((line : Line) (s : Follower) → slice_get p.state.followers f ≡ Some s → line ≡ line_of p s.history → OkOf line (p.followers f) s → RowOk line f (p.followers f) event s (row s))
    → HasTrueCopies p → After p event (for_follower p.state f row found)
one_moved p event f row None is aside rows ok =
    unmoved p event (for_follower p.state f row None) refl
    (λ k s at. aside k _ (other k s at (f == k) refl)) ok
  where
    other : (k : ℕ) (s : Follower) → slice_get p.state.followers k ≡ Some s → (b : Bool) → (f == k) ≡ b → b ≡ false
    other k s at false test = refl
    other k s at true test =
        let e : slice_get p.state.followers f ≡ slice_get p.state.followers k = ap (slice_get p.state.followers) (eqb-true f k test) in cc
one_moved p event f row (Some x) is aside rows ok = join p event (for_follower p.state f row (Some x)) ok record {
  each = λ k s new at there before. by_place k s new at before (set_at p.state.followers f (row x).next k new there);
  new = λ k new none there. absurd (contrary (slice_get (slice_set p.state.followers f (row x).next) k) new (none_set p.state.followers f (row x).next k none) there);
  gone = λ k none. set_none p.state.followers f (row x).next k none;
}
  where
    contrary : (o : Option Follower) (new : Follower) → o ≡ None → o ≡ Some new → ⊥
    contrary o new none some = cc

    by_place : (k : ℕ) (s new : Follower) → slice_get p.state.followers k ≡ Some s → OkOf (line_of p s.history) (p.followers k) s
        → (((f == k) ≡ true) × ((row x).next ≡ new)) ⊎ (((f == k) ≡ false) × (slice_get p.state.followers k ≡ Some new))
        → OkAfter (line_of p s.history) k (p.followers k) event (row x).reply s new
    by_place k s new at before (inl own) =
        let e : f ≡ k = eqb-true f k own.0 in
        let old : x ≡ s = some_equal x s (sym is ∙ (ap (slice_get p.state.followers) e ∙ at)) in
        subst (λ (y : Follower). OkAfter (line_of p s.history) k (p.followers k) event (row x).reply s y) own.1
        (subst (λ (y : Follower). OkAfter (line_of p s.history) k (p.followers k) event (row x).reply y (row x).next) old
        (subst (λ (n : ℕ). OkAfter (line_of p s.history) n (p.followers n) event (row x).reply x (row x).next) e
        (rows (line_of p s.history) x is (ap (λ (y : Follower). line_of p y.history) (sym old))
        (subst (λ (n : ℕ). OkOf (line_of p s.history) (p.followers n) x) (sym e)
        (subst (λ (y : Follower). OkOf (line_of p s.history) (p.followers k) y) (sym old) before)))))
    by_place k s new at before (inr other) =
        let same : s ≡ new = some_equal s new (sym at ∙ other.1) in
        subst (λ (y : Follower). OkAfter (line_of p s.history) k (p.followers k) event (row x).reply s y) same
        (aside_ok (line_of p s.history) k (p.followers k) event (row x).reply s (aside k (row x).reply other.0) before)
