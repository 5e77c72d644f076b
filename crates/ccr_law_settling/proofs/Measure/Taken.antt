-- What the measure makes of a message that leaves those in flight.
use Rattle.std.specs.List.{list_any}
use Rattle.std.specs.Str.{bytes_eq}
use Rattle.std.specs.Prelude.{slice_get, remove}
use Rattle.std.proofs.Common.{◌≡◌, ℕ, zero, suc, ◌+◌, ◌≤◌, ◌==◌, ◌&&◌, ◌||◌, Bool, true, false, if◌then◌else◌, Some, List, [], ◌∷◌, is_none, refl, sym, ap, subst, arith}
use Rattle.ccr_wire.specs.Message.{Frame}
use Rattle.ccr_model.specs.Requests.{is_sent}
use Rattle.ccr_model.specs.Restores.{ChunkAsked, Stage, leasing, opening, fetching, answers}
use Rattle.ccr_model.specs.Leaders.{Session, session_of}
use Rattle.ccr_model.specs.Followers.{Follower, Work, restoring, replicating, uuid_of}
use Rattle.ccr_law_base.proofs.Lists.{some_equal, drop-zero}
use Rattle.ccr_law_base.proofs.Tests.{or-more}
use Rattle.ccr_law_settling.specs.Measure.{total, over_followers, opens_closed, is_gone, is_opened_in_vain, is_told_gone, is_in_vain, rank_of_stage, rank_of}
use Rattle.ccr_law_settling.proofs.Measure.Totals.{over_fewer}
use Rattle.std.proofs.lemmas.Bool.{or_right}

pub total_remove : {X : Type 0} (amount : X → ℕ) (xs : List X) (n : ℕ) (x : X) → slice_get xs n ≡ Some x → total amount (remove xs n) + amount x ≡ total amount xs
total_remove amount [] n x at = cc
total_remove amount (y ∷ xs) zero x at =
    let same : amount y ≡ amount x = ap amount (some_equal y x at) in
    let e : total amount (remove (y ∷ xs) zero) ≡ total amount xs = ap (total amount) (drop-zero xs) in
    omega arith
total_remove amount (y ∷ xs) (suc n) x at =
    let rest : total amount (remove xs n) + amount x ≡ total amount xs = total_remove amount xs n x at in omega arith

-- what passes is the one that leaves, or is left
pub any_remove : {X : Type 0} (test : X → Bool) (xs : List X) (n : ℕ) (x : X) → slice_get xs n ≡ Some x → list_any test xs ≡ true → (test x || list_any test (remove xs n)) ≡ true
any_remove test [] n x at any = cc
any_remove test (y ∷ xs) zero x at any =
    subst (λ (z : _). (test z || list_any test (remove (y ∷ xs) zero)) ≡ true) (some_equal y x at)
    (subst (λ (zs : List _). (test y || list_any test zs) ≡ true) (sym (drop-zero xs)) any)
any_remove test (y ∷ xs) (suc n) x at any = past (test y) (list_any test xs) (test x) (list_any test (remove xs n)) any (any_remove test xs n x at)
  where
    past : (y rest x left : Bool) → (y || rest) ≡ true → (rest ≡ true → (x || left) ≡ true) → (x || (y || left)) ≡ true
    past y rest true left is step = refl
    past true rest false left is step = refl
    past false true false left is step = step refl
    past false false false left is step = cc

pub any_left : {X : Type 0} (test : X → Bool) (xs : List X) (n : ℕ) → list_any test (remove xs n) ≡ true → list_any test xs ≡ true
any_left test [] zero any = cc
any_left test [] (suc n) any = cc
any_left test (y ∷ xs) zero any = or_right (test y) (list_any test xs) (subst (λ (zs : List _). list_any test zs ≡ true) (drop-zero xs) any)
any_left test (y ∷ xs) (suc n) any = or-more (test y) (list_any test (remove xs n)) (list_any test xs) (any_left test xs n) any

-- ---- ranks

pub choice_lower : (a b : Bool) (low high : ℕ) → low ≤ high → (a ≡ true → b ≡ true) → (if a then high else low) ≤ (if b then high else low)
choice_lower true true low high le step = omega arith
choice_lower false true low high le step = le
choice_lower false false low high le step = omega arith
choice_lower true false low high le step = let e : false ≡ true = step refl in cc

rank_left : (flight : List Frame) (n : ℕ) (sessions : List Session) (f : ℕ) (w : Work) → rank_of (remove flight n) sessions f w ≤ rank_of flight sessions f w
rank_left flight n sessions f (replicating t) = omega arith
rank_left flight n sessions f (restoring r) = by r.stage
  where
    by : (stage : Stage) → rank_of_stage (remove flight n) sessions f stage ≤ rank_of_stage flight sessions f stage
    by (leasing a) = omega arith
    by (opening a) = choice_lower (is_opened_in_vain (remove flight n) sessions f a) (is_opened_in_vain flight sessions f a) 2 4 (omega arith)
        (any_left (λ (m : Frame). bytes_eq m.follower (uuid_of f) && answers m a && opens_closed sessions m.content) flight n)
    by (fetching fetch) = choice_lower (is_in_vain (remove flight n) sessions f fetch) (is_in_vain flight sessions f fetch) 1 3 (omega arith)
        (or-more (is_none (session_of sessions fetch.session)) (is_told_gone (remove flight n) f fetch) (is_told_gone flight f fetch)
        (any_left (λ (m : Frame). bytes_eq m.follower (uuid_of f) && is_gone m.content && list_any (λ (a : ChunkAsked). (m.request == a.request) && is_sent a.progress) fetch.asks) flight n))

pub ranks_left : (flight : List Frame) (n : ℕ) (sessions : List Session) (followers : List Follower)
    → over_followers (λ f own. rank_of (remove flight n) sessions f own.work) 0 followers ≤ over_followers (λ f own. rank_of flight sessions f own.work) 0 followers
ranks_left flight n sessions followers =
    over_fewer (λ f own. rank_of (remove flight n) sessions f own.work) (λ f own. rank_of flight sessions f own.work) 0 followers (λ f own. rank_left flight n sessions f own.work)
