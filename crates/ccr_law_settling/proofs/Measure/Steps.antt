-- Settling by the delivery of an answer that makes a bootstrap ask for a session lowers the measure.
use Rattle.std.specs.List.{list_any}
use Rattle.std.specs.Str.{bytes_eq}
use Rattle.std.specs.Prelude.{slice_get}
use Rattle.std.proofs.Common.{◌≡◌, ℕ, zero, suc, ◌<◌, ◌==◌, ◌&&◌, ◌||◌, Bool, true, false, if◌then◌else◌, Option, Some, None, List, [], ◌∷◌, is_some, is_none, refl, sym, ◌∙◌, subst, arith}
use Rattle.ccr_wire.specs.Message.{Frame, kind_of_content}
use Rattle.ccr_wire.specs.declared.kind.LeaseResult.TheVariants as results
use Rattle.ccr_wire.specs.declared.content.Content.{Content}
use Rattle.ccr_wire.specs.declared.content.Content.TheVariants as contents
use Rattle.ccr_journal.specs.declared.events.Event.TheVariants as events
use Rattle.ccr_model.specs.Requests.{is_sent, Sending}
use Rattle.ccr_model.specs.Restores.{Restore, Stage, leasing, opening, fetching, Fetch, ChunkAsked, answers, ask_sent, asks_session, hear_leasing, hear_fetching, hear_asked}
use Rattle.ccr_model.specs.Leaders.{session_of}
use Rattle.ccr_model.specs.Followers.{Follower, Work, restoring, replicating, uuid_of}
use Rattle.ccr_model.specs.FollowerRows.{restore_heard, work_hears}
use Rattle.ccr_model.specs.World.{State, goes_to_leader, at_follower, follower_of}
use Rattle.ccr_model.specs.Step.{step}
use Rattle.ccr_model.specs.FrameFacts.{next_request_of}
use Rattle.ccr_law_base.proofs.Cases.{on_if}
use Rattle.ccr_law_base.proofs.Lists.{some_equal, found-any}
use Rattle.ccr_law_base.proofs.Tests.{same_turned}
use Rattle.ccr_law_settling.specs.Measure.{is_gone, is_told_gone, rank_of, IsLower}
use Rattle.ccr_law_settling.specs.Within.{IsFresh, is_added, opens_next}
use Rattle.ccr_law_settling.proofs.Measure.Repeating.{AreBelow}
use Rattle.ccr_law_settling.proofs.Measure.Ticking.{none_ahead}
use Rattle.ccr_law_settling.proofs.Measure.StaleMessages.{left}
use Rattle.ccr_law_settling.proofs.Measure.Hearing.{rank_lower, hearing_delivered}
use Rattle.ccr_law_settling.proofs.Measure.Answering.{any_step}
use Rattle.std.proofs.lemmas.Bool.{and_parts, or_right}

-- ---- the bootstrap asks for a session

session_asked : (count_of : List ℕ → ℕ) (s : State) (at f : ℕ) (base : Follower) (r : Restore) (work : Work) → slice_get s.followers f ≡ Some (record base { work = work }) → AreBelow s.flight f r.next_request
    → 2 < rank_of s.flight s.leader.sessions f work → (o : Option (Sending Restore)) → o ≡ Some (asks_session (record r { retry = 0 }))
    → IsLower count_of (at_follower (left s at) f (restore_heard (record base { work = work }) o)).next s
session_asked count_of s at f base r work there below rank o is =
    subst (λ (o : Option (Sending Restore)). IsLower count_of (at_follower (left s at) f (restore_heard (record base { work = work }) o)).next s) (sym is)
    (rank_lower count_of s at f (record base { work = work }) (record base { work = restoring (asks_session (record r { retry = 0 })).next }) (asks_session (record r { retry = 0 })).sent there
    (record { opens = refl; gone = refl }, tt) (rw (none_ahead s.flight s.leader.sessions f r.next_request below) rank))

heard_leasing : (r : Restore) (now request : ℕ) (content : Content) → is_added content ≡ true → hear_leasing r now request content ≡ Some (asks_session (record r { retry = 0 }))
heard_leasing r now request (contents.LeaseAdded number) is = refl
heard_leasing r now request (contents.LeaseAnswer results.Exists number) is = refl
heard_leasing r now request _ is = cc

heard_fetching : (r : Restore) (f : Fetch) (a : ChunkAsked) (content : Content) → is_gone content ≡ true → hear_fetching r f a content ≡ Some (asks_session (record r { retry = 0 }))
heard_fetching r f a (contents.SessionGone session) is = refl
heard_fetching r f a _ is = cc

pub any_at : {X : Type 0} (test : X → Bool) (xs : List X) (n : ℕ) (x : X) → slice_get xs n ≡ Some x → test x ≡ true → list_any test xs ≡ true
any_at test [] n x at is = cc
any_at test (y ∷ xs) zero x at is = let e : test y ≡ true = subst (λ z. test z ≡ true) (sym (some_equal y x at)) is in rw e refl
any_at test (y ∷ xs) (suc n) x at is = or_right (test y) (list_any test xs) (any_at test xs n x at is)

-- the follower is about to learn that its session is gone
told_gone : (s : State) (at : ℕ) (m : Frame) (f : ℕ) (fetch : Fetch) → slice_get s.flight at ≡ Some m → bytes_eq m.follower (uuid_of f) ≡ true → is_gone m.content ≡ true
    → is_some (ask_sent fetch m.request) ≡ true → is_told_gone s.flight f fetch ≡ true
told_gone s at m f fetch found ours gone waits =
    any_at (λ (x : Frame). bytes_eq x.follower (uuid_of f) && is_gone x.content && list_any (λ (a : ChunkAsked). (x.request == a.request) && is_sent a.progress) fetch.asks) s.flight at m found
    (rw ours (rw gone sent))
  where
    first : (a b c : Bool) → (a ≡ true → b ≡ true) → (a && c) ≡ true → (b && c) ≡ true
    first true b c step is = let e : b ≡ true = step refl in rw e is
    first false b c step is = cc

    sent : list_any (λ (a : ChunkAsked). (m.request == a.request) && is_sent a.progress) fetch.asks ≡ true
    sent =
        any_step (λ (a : ChunkAsked). (a.request == m.request) && is_sent a.progress) (λ (a : ChunkAsked). (m.request == a.request) && is_sent a.progress) fetch.asks
        (λ a. first (a.request == m.request) (m.request == a.request) (is_sent a.progress) (same_turned a.request m.request))
        (sym (found-any (λ (a : ChunkAsked). (a.request == m.request) && is_sent a.progress) fetch.asks) ∙ waits)

in_vain : (a b : Bool) → b ≡ true → 2 < (if a || b then 3 else 1)
in_vain true b is = omega arith
in_vain false true is = omega arith
in_vain false false is = cc

no_answer : (a : Bool) → a ≡ true → a ≡ false → ⊥
no_answer true is isnt = cc
no_answer false is isnt = cc

stage_opens : (count_of : List ℕ → ℕ) (s : State) (at : ℕ) (m : Frame) (f : ℕ) (base : Follower) (r : Restore) (stage : Stage) → slice_get s.flight at ≡ Some m
    → slice_get s.followers f ≡ Some (record base { work = restoring (record r { stage = stage }) }) → AreBelow s.flight f r.next_request → bytes_eq m.follower (uuid_of f) ≡ true
    → opens_next m (restoring (record r { stage = stage })) ≡ true
    → IsLower count_of (at_follower (left s at) f (work_hears (record base { work = restoring (record r { stage = stage }) }) m)).next s
stage_opens count_of s at m f base r (leasing a) found there below ours opens =
    on_if (λ (o : Option (Sending Restore)). IsLower count_of (at_follower (left s at) f (restore_heard (record base { work = restoring (record r { stage = leasing a }) }) o)).next s) (answers m a) _ _
    (λ is. session_asked count_of s at f base (record r { stage = leasing a }) (restoring (record r { stage = leasing a })) there below (omega arith) _
    (heard_leasing (record r { stage = leasing a }) base.now m.request m.content (and_parts (answers m a) (is_added m.content) opens).1))
    (λ isnt. absurd (no_answer (answers m a) (and_parts (answers m a) (is_added m.content) opens).0 isnt))
stage_opens count_of s at m f base r (opening a) found there below ours opens = cc
stage_opens count_of s at m f base r (fetching fetch) found there below ours opens = by (ask_sent fetch m.request) refl opens
  where
    own : Restore
    own = record r { stage = fetching fetch }

    by : (o : Option ChunkAsked) → ask_sent fetch m.request ≡ o → (is_some o && is_gone m.content) ≡ true
        → IsLower count_of (at_follower (left s at) f (restore_heard (record base { work = restoring own }) (hear_asked own fetch m.content o))).next s
    by None at_request opens = cc
    by (Some a) at_request opens =
        session_asked count_of s at f base own (restoring own) there below
        (in_vain (is_none (session_of s.leader.sessions fetch.session)) (is_told_gone s.flight f fetch) (told_gone s at m f fetch found ours opens (rw at_request refl))) _
        (heard_fetching own fetch a m.content opens)

work_opens : (count_of : List ℕ → ℕ) (s : State) (at : ℕ) (m : Frame) (f : ℕ) (base : Follower) (work : Work) → slice_get s.flight at ≡ Some m → slice_get s.followers f ≡ Some (record base { work = work })
    → AreBelow s.flight f (next_request_of work) → bytes_eq m.follower (uuid_of f) ≡ true → opens_next m work ≡ true
    → IsLower count_of (at_follower (left s at) f (work_hears (record base { work = work }) m)).next s
work_opens count_of s at m f base (replicating t) found there below ours opens = cc
work_opens count_of s at m f base (restoring r) found there below ours opens = stage_opens count_of s at m f base r r.stage found there below ours opens

pub opening_delivered : (count_of : List ℕ → ℕ) (s : State) (at copy : ℕ) (picks : List ℕ) (m : Frame) (f : ℕ) (own : Follower) → slice_get s.flight at ≡ Some m → goes_to_leader (kind_of_content m.content) ≡ false
    → follower_of s.followers m.follower ≡ Some f → slice_get s.followers f ≡ Some own → IsFresh s f own → bytes_eq m.follower (uuid_of f) ≡ true → opens_next m own.work ≡ true
    → (copy == s.leader.copies.primary.number) ≡ true → IsLower count_of (step s (events.Deliver at copy false) picks).next s
opening_delivered count_of s at copy picks m f own found goes named there fresh ours opens primary =
    hearing_delivered count_of s at copy picks m f own found goes named there (work_opens count_of s at m f own own.work found there fresh.drawn ours opens) primary
