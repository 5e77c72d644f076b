-- A claim on all followers after an event: one of them changed, or one was made, or none.
use Rattle.std.specs.Prelude.{◌==◌, slice_get, slice_set}
use Rattle.std.proofs.Common.{◌≡◌, ℕ, zero, suc, Bool, true, false, List, [], ◌∷◌, ◌++◌, Option, Some, None, refl, sym, subst}
use Rattle.std.proofs.lemmas.Bool.{eqb-true}
use Rattle.ccr_journal.specs.declared.events.Event.{Event}
use Rattle.ccr_journal.specs.declared.replies.Reply.{Reply}
use Rattle.ccr_model.specs.Followers.{Follower}
use Rattle.ccr_model.specs.Past.{Line, Past, WrittenBatch, written_after, follower_past_of, sending_place}
use Rattle.ccr_law_base.proofs.Lists.{push-old, set-other, set-same}
use Rattle.ccr_law_tasks.specs.GoodFollowers.{IsUnmade, IsGoodFollower, AreGoodFollowers}
use Rattle.ccr_law_tasks.proofs.Rows.{begun_after, still}

-- ---- lists

set-none : {X : Type 0} (xs : List X) (i j : ℕ) (y : X) → slice_get (slice_set xs i y) j ≡ None → slice_get xs j ≡ None
set-none [] zero j y none = none
set-none [] (suc i) j y none = none
set-none (z ∷ xs) zero zero y none = absurd (cc)
set-none (z ∷ xs) zero (suc j) y none = none
set-none (z ∷ xs) (suc i) zero y none = absurd (cc)
set-none (z ∷ xs) (suc i) (suc j) y none = set-none xs i j y none

push-new : {X : Type 0} (xs : List X) (i : ℕ) (x y : X) → slice_get xs i ≡ None → slice_get (xs ++ y ∷ []) i ≡ Some x → x ≡ y
push-new [] zero x y none at = cc
push-new [] (suc i) x y none at = absurd (cc)
push-new (z ∷ xs) zero x y none at = absurd (cc)
push-new (z ∷ xs) (suc i) x y none at = push-new xs i x y none at

push-none : {X : Type 0} (xs : List X) (i : ℕ) (y : X) → slice_get (xs ++ y ∷ []) i ≡ None → slice_get xs i ≡ None
push-none [] i y none = refl
push-none (z ∷ xs) zero y none = absurd (cc)
push-none (z ∷ xs) (suc i) y none = push-none xs i y none

-- ---- followers

-- what holds of all followers after an event with this reply, where these are then the followers
abbrev pub GoodAfter : Past → Event → (List ℕ → Line) → (List ℕ → Line) → Reply → List Follower → Type 0
GoodAfter p event ops next reply followers =
    AreGoodFollowers next followers (λ f. follower_past_of f (p.followers f) (sending_place p.sent_at event) event reply ops (slice_get p.state.followers f) (slice_get followers f))

-- what holds of each follower that was there before
abbrev pub EachKeeps : Past → Event → (List ℕ → Line) → Reply → List Follower → Type 0
EachKeeps p event next reply followers = (f : ℕ) (old new : Follower) → slice_get p.state.followers f ≡ Some old → slice_get followers f ≡ Some new
    → IsGoodFollower next (begun_after (p.followers f).begun_at old new) (written_after f old (p.followers f).written event reply) new

by-each : (p : Past) (event : Event) (ops : List ℕ → Line) (next : List ℕ → Line) (reply : Reply) (followers : List Follower)
    → AreGoodFollowers next p.state.followers p.followers
    → EachKeeps p event next reply followers
    → ((f : ℕ) (new : Follower) → slice_get p.state.followers f ≡ None → slice_get followers f ≡ Some new → IsGoodFollower next (p.followers f).begun_at (p.followers f).written new)
    → ((f : ℕ) → slice_get followers f ≡ None → slice_get p.state.followers f ≡ None)
    → GoodAfter p event ops next reply followers
by-each p event ops next reply followers now each fresh gone = record {
  made = λ f s at.
      let goal : Option Follower → Option Follower → Type 0 = λ (old new : Option Follower).
      IsGoodFollower next (follower_past_of f (p.followers f) (sending_place p.sent_at event) event reply ops old new).begun_at (follower_past_of f (p.followers f) (sending_place p.sent_at event) event reply ops old new).written s in
      let known : (old : Option Follower) → slice_get p.state.followers f ≡ old → goal old (Some s) = λ old is.
      (elim old as (λ (o : Option Follower). slice_get p.state.followers f ≡ o → goal o (Some s)) [
        | None ↦ λ none. fresh f s none at
        | Some x ↦ λ there. each f x s there at
      ]) is in
      subst (λ (new : Option Follower). goal (slice_get p.state.followers f) new) (sym at) (known (slice_get p.state.followers f) refl);
  unmade = λ f none.
      let was : slice_get p.state.followers f ≡ None = gone f none in
      subst (λ (o : Option Follower). IsUnmade (follower_past_of f (p.followers f) (sending_place p.sent_at event) event reply ops o (slice_get followers f))) (sym was) (now.unmade f was);
}

-- a follower that stays as it is
unchanged : (p : Past) (event : Event) (next : List ℕ → Line) (reply : Reply) (f : ℕ) (old new : Follower) → old ≡ new
    → written_after f old (p.followers f).written event reply ≡ (p.followers f).written
    → IsGoodFollower next (p.followers f).begun_at (p.followers f).written old
    → IsGoodFollower next (begun_after (p.followers f).begun_at old new) (written_after f old (p.followers f).written event reply) new
unchanged p event next reply f old new same none good =
    let as_was : IsGoodFollower next (begun_after (p.followers f).begun_at old old) (written_after f old (p.followers f).written event reply) old =
    subst (λ (w : List WrittenBatch). IsGoodFollower next (begun_after (p.followers f).begun_at old old) w old) (sym none)
    (still next (p.followers f).begun_at (p.followers f).written old good) in
    subst (λ (x : Follower). IsGoodFollower next (begun_after (p.followers f).begun_at old x) (written_after f old (p.followers f).written event reply) x) same as_was

pub none-changed : (p : Past) (event : Event) (ops : List ℕ → Line) (next : List ℕ → Line) (reply : Reply)
    → ((f : ℕ) (old : Follower) → written_after f old (p.followers f).written event reply ≡ (p.followers f).written)
    → AreGoodFollowers next p.state.followers p.followers → GoodAfter p event ops next reply p.state.followers
none-changed p event ops next reply none now =
    by-each p event ops next reply p.state.followers now
    (λ f old new was is. let same : old ≡ new = cc in unchanged p event next reply f old new same (none f old) (now.made f old was))
    (λ f new was is. absurd (cc))
    (λ f gone. gone)

pub one-changed : (p : Past) (event : Event) (ops : List ℕ → Line) (next : List ℕ → Line) (reply : Reply) (f : ℕ) (old new : Follower) → slice_get p.state.followers f ≡ Some old
    → IsGoodFollower next (begun_after (p.followers f).begun_at old new) (written_after f old (p.followers f).written event reply) new
    → ((k : ℕ) (x : Follower) → (f == k) ≡ false → written_after k x (p.followers k).written event reply ≡ (p.followers k).written)
    → AreGoodFollowers next p.state.followers p.followers → GoodAfter p event ops next reply (slice_set p.state.followers f new)
one-changed p event ops next reply f old new there good none now =
    by-each p event ops next reply (slice_set p.state.followers f new) now
    (λ k x y was is.
    let goal : Type 0 = IsGoodFollower next (begun_after (p.followers k).begun_at x y) (written_after k x (p.followers k).written event reply) y in
    (elim (f == k) as (λ (b : Bool). (f == k) ≡ b → goal) [
      | true ↦ λ here.
          let at : f ≡ k = eqb-true f k here in
          let set : slice_get (slice_set p.state.followers f new) f ≡ Some new = set-same p.state.followers f old new there in
          let is_new : slice_get (slice_set p.state.followers f new) f ≡ Some y = subst (λ (m : ℕ). slice_get (slice_set p.state.followers f new) m ≡ Some y) (sym at) is in
          let was_old : slice_get p.state.followers f ≡ Some x = subst (λ (m : ℕ). slice_get p.state.followers m ≡ Some x) (sym at) was in
          let same_new : new ≡ y = cc in
          let same_old : old ≡ x = cc in
          let a : IsGoodFollower next (begun_after (p.followers f).begun_at x new) (written_after f x (p.followers f).written event reply) new =
          subst (λ (z : Follower). IsGoodFollower next (begun_after (p.followers f).begun_at z new) (written_after f z (p.followers f).written event reply) new) same_old good in
          let b : IsGoodFollower next (begun_after (p.followers f).begun_at x y) (written_after f x (p.followers f).written event reply) y =
          subst (λ (z : Follower). IsGoodFollower next (begun_after (p.followers f).begun_at x z) (written_after f x (p.followers f).written event reply) z) same_new a in
          subst (λ (m : ℕ). IsGoodFollower next (begun_after (p.followers m).begun_at x y) (written_after m x (p.followers m).written event reply) y) at b
      | false ↦ λ other.
          let aside : slice_get (slice_set p.state.followers f new) k ≡ slice_get p.state.followers k = set-other p.state.followers f k new other in
          let same : x ≡ y = cc in
          unchanged p event next reply k x y same (none k x other) (now.made k x was)
    ]) refl)
    (λ k y was is.
    let goal : Type 0 = IsGoodFollower next (p.followers k).begun_at (p.followers k).written y in
    (elim (f == k) as (λ (b : Bool). (f == k) ≡ b → goal) [
      | true ↦ λ here.
          let at : f ≡ k = eqb-true f k here in
          let was_none : slice_get p.state.followers f ≡ None = subst (λ (m : ℕ). slice_get p.state.followers m ≡ None) (sym at) was in
          absurd (cc)
      | false ↦ λ other.
          let aside : slice_get (slice_set p.state.followers f new) k ≡ slice_get p.state.followers k = set-other p.state.followers f k new other in
          absurd (cc)
    ]) refl)
    (λ k gone. set-none p.state.followers f k new gone)

pub one-made : (p : Past) (event : Event) (ops : List ℕ → Line) (next : List ℕ → Line) (reply : Reply) (new : Follower)
    → IsGoodFollower next 0 [] new
    → ((k : ℕ) (x : Follower) → written_after k x (p.followers k).written event reply ≡ (p.followers k).written)
    → AreGoodFollowers next p.state.followers p.followers → GoodAfter p event ops next reply (p.state.followers ++ new ∷ [])
one-made p event ops next reply new good none now =
    by-each p event ops next reply (p.state.followers ++ new ∷ []) now
    (λ k x y was is.
    let there : slice_get (p.state.followers ++ new ∷ []) k ≡ Some x = push-old p.state.followers k x new was in
    let same : x ≡ y = cc in
    unchanged p event next reply k x y same (none k x) (now.made k x was))
    (λ k y was is.
    let same : y ≡ new = push-new p.state.followers k y new was is in
    let unmade : IsUnmade (p.followers k) = now.unmade k was in
    let a : IsGoodFollower next (p.followers k).begun_at (p.followers k).written new =
    subst (λ (w : List WrittenBatch). IsGoodFollower next (p.followers k).begun_at w new) (sym unmade.0) (subst (λ (n : ℕ). IsGoodFollower next n [] new) (sym unmade.1) good) in
    subst (λ (z : Follower). IsGoodFollower next (p.followers k).begun_at (p.followers k).written z) (sym same) a)
    (λ k gone. push-none p.state.followers k new gone)
