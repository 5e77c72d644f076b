-- Settling by the delivery of a request for a part of a file lowers the measure, also where its session isn't open.
use Rattle.std.specs.List.{list_any}
use Rattle.std.specs.Str.{bytes_eq}
use Rattle.std.specs.Prelude.{slice_get, remove}
use Rattle.std.proofs.Common.{◌≡◌, ℕ, zero, suc, ◌+◌, ◌≤◌, ◌==◌, ◌&&◌, ◌||◌, Bool, true, false, Option, Some, None, List, [], ◌∷◌, ◌++◌, is_none, refl, sym, ◌∙◌, ap, subst, arith}
use Rattle.std.proofs.lemmas.List.Folds.{list_any-append}
use Rattle.ccr_wire.specs.Message.{Frame}
use Rattle.ccr_wire.specs.declared.content.Content.TheVariants as contents
use Rattle.ccr_journal.specs.declared.replies.Heard.TheVariants as heard
use Rattle.ccr_journal.specs.declared.events.Event.TheVariants as events
use Rattle.ccr_model.specs.Restores.{Stage, leasing, opening, fetching, Fetch, answers}
use Rattle.ccr_model.specs.Leaders.{Session, session_of}
use Rattle.ccr_model.specs.LeaderFrames.{answer_to, chunk_row}
use Rattle.ccr_model.specs.Followers.{Follower, Work, restoring, replicating, uuid_of}
use Rattle.ccr_model.specs.World.{State}
use Rattle.ccr_model.specs.Step.{step}
use Rattle.ccr_law_settling.specs.Measure.{over_followers, opens_closed, is_gone, is_opened_in_vain, is_told_gone, is_in_vain, rank_of_stage, rank_of, IsLower}
use Rattle.ccr_law_settling.specs.Within.{has_number_of, AsksOfSession}
use Rattle.ccr_law_settling.proofs.Measure.Flights.{none_opens, none_gone}
use Rattle.ccr_law_settling.proofs.Measure.Syncing.{answers_of, plain_answers}
use Rattle.ccr_law_settling.proofs.Measure.Taken.{any_left, choice_lower}
use Rattle.ccr_law_settling.proofs.Measure.Delivering.{taken}
use Rattle.ccr_law_settling.proofs.Measure.Answering.{told_lower, delivered_by, same_leases, chunk_delivered}

-- a sum over the followers that are there
pub over_each : (a b : ℕ → Follower → ℕ) (f : ℕ) (xs : List Follower) → ((k : ℕ) (x : Follower) → slice_get xs k ≡ Some x → a (f + k) x ≤ b (f + k) x) → over_followers a f xs ≤ over_followers b f xs
over_each a b f [] less = omega arith
over_each a b f (x ∷ xs) less =
    let e : f + 0 ≡ f = omega arith in
    let here : a f x ≤ b f x = subst (λ n. a n x ≤ b n x) e (less zero x refl) in
    let rest : over_followers a (f + 1) xs ≤ over_followers b (f + 1) xs
    = over_each a b (f + 1) xs (λ k y at. (let same : f + suc k ≡ f + 1 + k = omega arith in subst (λ n. a n y ≤ b n y) same (less (suc k) y at))) in
    omega arith

-- a follower that is told so fetched a session that isn't open
rank_gone : (s : State) (at : ℕ) (uuid : List ℕ) (request session f : ℕ) (own : Follower) (more : List Frame) → slice_get s.followers f ≡ Some own → AsksOfSession s uuid request session
    → is_none (session_of s.leader.sessions session) ≡ true
    → ((a : _) → is_opened_in_vain more s.leader.sessions f a ≡ false) → ((fetch : Fetch) → is_told_gone more f fetch ≡ false)
    → (w : Work) → own.work ≡ w
    → rank_of (remove s.flight at ++ (record { follower = uuid; request = request; content = contents.SessionGone session } ∷ more)) s.leader.sessions f w ≤ rank_of s.flight s.leader.sessions f w
rank_gone s at uuid request session f own more there asks closed opens gone (replicating t) is = omega arith
rank_gone s at uuid request session f own more there asks closed opens gone (restoring r) is = by r.stage refl
  where
    m : Frame
    m = record { follower = uuid; request = request; content = contents.SessionGone session }

    front : (a x b : Bool) → b ≡ false → (a || ((x && false) || b)) ≡ true → a ≡ true
    front true x b none any = refl
    front false true b none any = let e : false ≡ true = sym none ∙ any in cc
    front false false b none any = let e : false ≡ true = sym none ∙ any in cc

    vain : (closed before ours any more now : Bool) → more ≡ false → (before ≡ true → now ≡ true) → (ours ≡ true → any ≡ true → closed ≡ true)
        → (closed || (before || (((ours && true) && any) || more))) ≡ true → (closed || now) ≡ true
    vain true before ours any more now none step same is = refl
    vain false true ours any more now none step same is = step refl
    vain false false true true more now none step same is = let e : false ≡ true = same refl refl in cc
    vain false false true false more now none step same is = let e : false ≡ true = sym none ∙ is in cc
    vain false false false any more now none step same is = let e : false ≡ true = sym none ∙ is in cc

    by : (stage : Stage) → r.stage ≡ stage → rank_of_stage (remove s.flight at ++ (m ∷ more)) s.leader.sessions f stage ≤ rank_of_stage s.flight s.leader.sessions f stage
    by (leasing a) at_stage = omega arith
    by (opening a) at_stage = choice_lower (is_opened_in_vain (remove s.flight at ++ (m ∷ more)) s.leader.sessions f a) (is_opened_in_vain s.flight s.leader.sessions f a) 2 4 (omega arith)
        (λ any. any_left (λ (x : Frame). bytes_eq x.follower (uuid_of f) && answers x a && opens_closed s.leader.sessions x.content) s.flight at
        (front (is_opened_in_vain (remove s.flight at) s.leader.sessions f a) (bytes_eq uuid (uuid_of f) && answers m a) (is_opened_in_vain more s.leader.sessions f a) (opens a)
        (sym (list_any-append (λ (x : Frame). bytes_eq x.follower (uuid_of f) && answers x a && opens_closed s.leader.sessions x.content) (remove s.flight at) (m ∷ more)) ∙ any)))
    by (fetching fetch) at_stage = choice_lower (is_in_vain (remove s.flight at ++ (m ∷ more)) s.leader.sessions f fetch) (is_in_vain s.flight s.leader.sessions f fetch) 1 3 (omega arith)
        (λ any. vain (is_none (session_of s.leader.sessions fetch.session)) (is_told_gone (remove s.flight at) f fetch) (bytes_eq uuid (uuid_of f)) (list_any (has_number_of request) fetch.asks)
        (is_told_gone more f fetch) (is_told_gone s.flight f fetch) (gone fetch)
        (any_left (λ (x : Frame). bytes_eq x.follower (uuid_of f) && is_gone x.content && list_any (has_number_of x.request) fetch.asks) s.flight at)
        (λ ours sent. (let e : fetch.session ≡ session = asks f own r fetch there is at_stage ours sent in subst (λ n. is_none (session_of s.leader.sessions n) ≡ true) (sym e) closed))
        (sym (ap (λ b. is_none (session_of s.leader.sessions fetch.session) || b)
        (list_any-append (λ (x : Frame). bytes_eq x.follower (uuid_of f) && is_gone x.content && list_any (has_number_of x.request) fetch.asks) (remove s.flight at) (m ∷ more))) ∙ any))

gone_lower : (count_of : List ℕ → ℕ) (s : State) (at : ℕ) (follower : List ℕ) (request session file offset size : ℕ)
    → slice_get s.flight at ≡ Some (record { follower = follower; request = request; content = contents.ChunkRequest session file offset size })
    → AsksOfSession s follower request session → (o : Option Session) → session_of s.leader.sessions session ≡ o → is_none o ≡ true
    → IsLower count_of (taken s at (chunk_row s.leader follower request session file offset size o)).next s
unfolding chunk_row
gone_lower count_of s at follower request session file offset size found asks (Some own) there closed = cc
gone_lower count_of s at follower request session file offset size found asks None there closed =
    told_lower count_of s at (record { follower = follower; request = request; content = contents.ChunkRequest session file offset size }) s.leader.copies.primary.leases s.leader.next_session s.leader.sessions heard.Gone
    (contents.SessionGone session) found
    (record {
      ranks = over_each (λ f own. rank_of (remove s.flight at ++ (answer_to follower request (contents.SessionGone session) ++ told)) s.leader.sessions f own.work) (λ f own. rank_of s.flight s.leader.sessions f own.work) 0 s.followers
          (λ f own is. (let e : f ≡ 0 + f = omega arith in
          subst (λ n. rank_of (remove s.flight at ++ (answer_to follower request (contents.SessionGone session) ++ told)) s.leader.sessions n own.work ≤ rank_of s.flight s.leader.sessions n own.work) e
          (rank_gone s at follower request session f own told is asks (rw there refl)
          (λ a. none_opens s.leader.sessions f a told (plain_answers s.leader.sessions s.leader.copies s.leader.kept))
          (λ fetch. none_gone s.leader.sessions f fetch told (plain_answers s.leader.sessions s.leader.copies s.leader.kept)) own.work refl)));
      held_still = same_leases s;
      busy = refl;
      light = refl;
      heavy = refl;
    })
  where
    told : List Frame
    told = answers_of s.leader.copies s.leader.kept

pub part_delivered : (count_of : List ℕ → ℕ) (s : State) (at copy : ℕ) (picks : List ℕ) (follower : List ℕ) (request session file offset size : ℕ)
    → slice_get s.flight at ≡ Some (record { follower = follower; request = request; content = contents.ChunkRequest session file offset size })
    → AsksOfSession s follower request session
    → (copy == s.leader.copies.primary.number) ≡ true → IsLower count_of (step s (events.Deliver at copy false) picks).next s
part_delivered count_of s at copy picks follower request session file offset size found asks own = by (session_of s.leader.sessions session) refl
  where
    m : Frame
    m = record { follower = follower; request = request; content = contents.ChunkRequest session file offset size }

    by : (o : Option Session) → session_of s.leader.sessions session ≡ o → IsLower count_of (step s (events.Deliver at copy false) picks).next s
    by (Some x) there = chunk_delivered count_of s at copy picks follower request session file offset size found (rw there refl) own
    by None there = delivered_by count_of s at copy picks m found own refl (gone_lower count_of s at follower request session file offset size found asks (session_of s.leader.sessions session) refl (rw there refl))
