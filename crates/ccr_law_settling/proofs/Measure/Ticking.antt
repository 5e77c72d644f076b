-- Settling by the tick of a follower that asks for its lease or for a session lowers the measure.
use Rattle.std.specs.List.{AllByRecursion, list_any}
use Rattle.std.specs.Str.{bytes_eq}
use Rattle.std.specs.Prelude.{slice_get, slice_set, filter}
use Rattle.std.specs.Option.{option_map_or}
use Rattle.std.proofs.Common.{◌≡◌, ℕ, ◌+◌, ◌<◌, ◌≤◌, ◌==◌, ◌&&◌, ◌||◌, Bool, true, false, if◌then◌else◌, inl, inr, Option, Some, None, List, [], ◌∷◌, ◌++◌, length, map, is_none, refl, sym, ◌∙◌, subst, arith}
use Rattle.std.proofs.lemmas.Bool.Decides.{nat_tests}
use Rattle.std.proofs.lemmas.List.Folds.{list_any-append}
use Rattle.ccr_wire.specs.Message.{Frame}
use Rattle.ccr_wire.specs.declared.content.Content.{Content}
use Rattle.ccr_wire.specs.declared.content.Content.TheVariants as contents
use Rattle.ccr_journal.specs.declared.replies.Reply.TheVariants as replies
use Rattle.ccr_journal.specs.declared.events.Event.TheVariants as events
use Rattle.ccr_model.specs.Requests.{Progress, on_its_way, is_due, Sending}
use Rattle.ccr_model.specs.Restores.{Restore, Asked, Stage, leasing, opening, fetching, Fetch, ChunkAsked, asks_lease, asks_session, chunks_again, restore_ticked}
use Rattle.ccr_model.specs.Leaders.{Session, session_of}
use Rattle.ccr_model.specs.Followers.{Follower, Work, restoring, replicating, uuid_of}
use Rattle.ccr_model.specs.FollowerRows.{does, is_bootstrapping, tick_row}
use Rattle.ccr_model.specs.World.{State, for_follower, at_follower}
use Rattle.ccr_model.specs.Step.{step}
use Rattle.ccr_model.specs.Settling.{may_be_answered, waits_in, waits_in_stage, may_tick, may_act}
use Rattle.ccr_law_base.proofs.Cases.{on_if}
use Rattle.ccr_law_base.proofs.Lists.{All-weaker, All-filter, All-filter_test}
use Rattle.ccr_law_base.proofs.Tests.{itself, or-more}
use Rattle.ccr_law_settling.specs.Measure.{total, passing, over_followers, opens_closed, is_opened_in_vain, is_told_gone, is_in_vain, is_idle_content, weight_of_frame, weight_of_work, rank_of, work_lacks, follower_lacks, old_peeks, underway_of, IsLower}
use Rattle.ccr_law_settling.specs.Within.{IsFresh, AreAsksApart, AreStageApart, AreRequestsApart}
use Rattle.ccr_law_settling.proofs.Measure.Totals.{total_append, over_set, over_set_same}
use Rattle.ccr_law_settling.proofs.Measure.Flights.{IsPlain, ranks_more, idle_more, works_fewer}
use Rattle.ccr_law_settling.proofs.Measure.Syncing.{carries}
use Rattle.ccr_law_settling.proofs.Measure.Losing.{two_at_most}
use Rattle.ccr_law_settling.proofs.Measure.Taken.{choice_lower}
use Rattle.ccr_law_settling.proofs.Measure.Due.{due_weighs}
use Rattle.ccr_law_settling.proofs.Measure.Repeating.{IsFirst, each_first, AreBelow, Repeats, again_repeats, again_named, each_carried}

-- ---- what was due is sent again

-- the world, where these messages are in flight too
abbrev pub sending : State → List Frame → State
sending s sent = record s { flight = s.flight ++ sent }

-- a work sends messages, and weighs less by more than they do
pub record Resends (count_of : List ℕ → ℕ) (s : State) (f : ℕ) (own : Follower) (after : Work) (sent : List Frame) : Type 0 where
  pub plain : AllByRecursion (IsPlain s.leader.sessions) sent
  pub busy : AllByRecursion (λ (m : Frame). is_idle_content m.content ≡ false) sent
  pub rank : rank_of s.flight s.leader.sessions f after ≤ rank_of s.flight s.leader.sessions f own.work
  pub lacks : work_lacks (count_of own.history) after ≤ work_lacks (count_of own.history) own.work
  pub peeks : old_peeks after ≤ old_peeks own.work
  pub weight : total weight_of_frame sent + weight_of_work (may_be_answered (sending s sent) (uuid_of f)) own.now after
      < weight_of_work (may_be_answered (sending s sent) (uuid_of f)) own.now own.work

pub resends_lower : (count_of : List ℕ → ℕ) (s : State) (f : ℕ) (own : Follower) (after : Work) (sent : List Frame) → slice_get s.followers f ≡ Some own → Resends count_of s f own after sent
    → IsLower count_of (record s { followers = slice_set s.followers f (record own { work = after }); flight = s.flight ++ sent }) s
resends_lower count_of s f own after sent there resends =
    inr (
      (let more : over_followers (λ f own. rank_of (s.flight ++ sent) s.leader.sessions f own.work) 0 (slice_set s.followers f new)
          ≤ over_followers (λ f own. rank_of s.flight s.leader.sessions f own.work) 0 (slice_set s.followers f new)
          = ranks_more s.flight sent s.leader.sessions (slice_set s.followers f new) resends.plain in
          let set : over_followers (λ f own. rank_of s.flight s.leader.sessions f own.work) 0 (slice_set s.followers f new)
          ≤ over_followers (λ f own. rank_of s.flight s.leader.sessions f own.work) 0 s.followers
          = over_set_same (λ f own. rank_of s.flight s.leader.sessions f own.work) f own new s.followers there resends.rank in
          omega arith),
      inr (
        (let le : over_followers (follower_lacks count_of) 0 (slice_set s.followers f new) ≤ over_followers (follower_lacks count_of) 0 s.followers
            = over_set_same (follower_lacks count_of) f own new s.followers there
            (let work : work_lacks (count_of own.history) after ≤ work_lacks (count_of own.history) own.work = resends.lacks in omega arith) in
            omega arith),
        inr (
          (let same : passing (λ (m : Frame). is_idle_content m.content) (s.flight ++ sent) ≡ passing (λ (m : Frame). is_idle_content m.content) s.flight = idle_more s.flight sent resends.busy in
              let le : over_followers (λ f own. old_peeks own.work + length own.lease_requests) 0 (slice_set s.followers f new) ≤ over_followers (λ f own. old_peeks own.work + length own.lease_requests) 0 s.followers
              = over_set_same (λ f own. old_peeks own.work + length own.lease_requests) f own new s.followers there (let peeks : old_peeks after ≤ old_peeks own.work = resends.peeks in omega arith) in
              omega arith),
          inl less,
        ),
      ),
    )
  where
    new : Follower
    new = record own { work = after }

    next : State
    next = record s { followers = slice_set s.followers f new; flight = s.flight ++ sent }

    wider : (a b c d : Bool) → ((a || c) || d) ≡ true → (((a || b) || c) || d) ≡ true
    wider true b c d is = refl
    wider false true c d is = refl
    wider false false c d is = is

    still : (uuid : List ℕ) (request : ℕ) → may_be_answered s uuid request ≡ true → may_be_answered (sending s sent) uuid request ≡ true
    still uuid request is =
        rw (list_any-append (carries uuid request) s.flight sent) (wider (list_any (carries uuid request) s.flight) (list_any (carries uuid request) sent) _ _ is)

    amount : ℕ → Follower → ℕ
    amount f own = weight_of_work (may_be_answered (sending s sent) (uuid_of f)) own.now own.work

    less : underway_of next < underway_of s
    less =
        let frames : total weight_of_frame (s.flight ++ sent) ≡ total weight_of_frame s.flight + total weight_of_frame sent = total_append weight_of_frame s.flight sent in
        let e : 0 + f ≡ f = omega arith in
        let sums : over_followers amount 0 (slice_set s.followers f new) + amount f own ≡ over_followers amount 0 s.followers + amount f new
        = subst (λ n. over_followers amount 0 (slice_set s.followers f new) + amount n own ≡ over_followers amount 0 s.followers + amount n new) e (over_set amount 0 f own new s.followers there) in
        let works : over_followers amount 0 s.followers ≤ over_followers (λ f own. weight_of_work (may_be_answered s (uuid_of f)) own.now own.work) 0 s.followers
        = works_fewer (may_be_answered (sending s sent)) (may_be_answered s) s.followers still in
        let lighter : total weight_of_frame sent + amount f new < amount f own = resends.weight in
        omega arith

-- ---- a request for the lease or for a session

-- what was sent may be answered
pub sent_may_come : (s : State) (uuid : List ℕ) (request : ℕ) (sent : List Frame) → list_any (carries uuid request) sent ≡ true → may_be_answered (sending s sent) uuid request ≡ true
sent_may_come s uuid request sent is =
    rw (list_any-append (carries uuid request) s.flight sent) (wide (list_any (carries uuid request) s.flight) (list_any (carries uuid request) sent) _ _ is)
  where
    wide : (a b c d : Bool) → b ≡ true → (((a || b) || c) || d) ≡ true
    wide true b c d is = refl
    wide false true c d is = refl
    wide false false c d is = cc

-- no message answers a request of a number that is yet to be drawn
pub none_ahead : (flight : List Frame) (sessions : List Session) (f next : ℕ) → AllByRecursion (λ (m : Frame). bytes_eq m.follower (uuid_of f) ≡ true → m.request < next) flight
    → is_opened_in_vain flight sessions f (record { request = next; progress = on_its_way }) ≡ false
none_ahead [] sessions f next drawn = refl
none_ahead (m ∷ flight) sessions f next drawn =
    rw (this (bytes_eq m.follower (uuid_of f)) (opens_closed sessions m.content) drawn.0) (none_ahead flight sessions f next drawn.1)
  where
    this : (ours opens : Bool) → (ours ≡ true → m.request < next) → ((ours && ((m.request == next) && true)) && opens) ≡ false
    this false opens below = refl
    this true opens below =
        let lt : m.request < next = below refl in
        let other : (m.request == next) ≡ false = grind (arith, nat_tests) in
        rw other refl

alone : (a : Bool) → (a || false) ≡ true → a ≡ true
alone true is = refl
alone false is = cc

-- the request of this number is in flight
abbrev request_of : Restore → Content → List Frame
request_of r content = record { follower = r.follower; request = r.next_request; content = content } ∷ []

carried : (r : Restore) (f : ℕ) (content : Content) → bytes_eq r.follower (uuid_of f) ≡ true → list_any (carries (uuid_of f) r.next_request) (request_of r content) ≡ true
carried r f content named = rw named (rw (itself r.next_request) refl)

-- one request of weight 3 for one that was due
lighter : (new old three : ℕ) → new ≡ 0 → old ≡ 4 → three ≡ 3 → three + new < old
lighter new old three a b c = omega arith

leasing_resends : (count_of : List ℕ → ℕ) (s : State) (f : ℕ) (own : Follower) (r : Restore) (a : Asked) → own.work ≡ restoring r → r.stage ≡ leasing a → bytes_eq r.follower (uuid_of f) ≡ true → is_due own.now a.progress ≡ true
    → Resends count_of s f own (restoring (asks_lease r).next) (asks_lease r).sent
leasing_resends count_of s f own r a is at named due =
    subst (λ (w : Work). Resends count_of s f (record own { work = w }) (restoring (asks_lease r).next) (asks_lease r).sent) (sym is)
    (subst (λ (stage : Stage). Resends count_of s f (record own { work = restoring (record r { stage = stage }) }) (restoring (asks_lease r).next) (asks_lease r).sent) (sym at)
    (record {
      plain = (record { opens = refl; gone = refl }, tt);
      busy = (refl, tt);
      rank = omega arith;
      lacks = omega arith;
      peeks = omega arith;
      weight = lighter _ _ _
          (rw (sent_may_come s (uuid_of f) r.next_request (request_of r (contents.LeaseAdd r.lease)) (carried r f (contents.LeaseAdd r.lease) named)) refl)
          (due_weighs _ own.now a.progress due) refl;
    }))

opening_resends : (count_of : List ℕ → ℕ) (s : State) (f : ℕ) (own : Follower) (r : Restore) (a : Asked) → own.work ≡ restoring r → r.stage ≡ opening a → bytes_eq r.follower (uuid_of f) ≡ true
    → AllByRecursion (λ (m : Frame). bytes_eq m.follower (uuid_of f) ≡ true → m.request < r.next_request) s.flight → is_due own.now a.progress ≡ true
    → Resends count_of s f own (restoring (asks_session r).next) (asks_session r).sent
opening_resends count_of s f own r a is at named drawn due =
    subst (λ (w : Work). Resends count_of s f (record own { work = w }) (restoring (asks_session r).next) (asks_session r).sent) (sym is)
    (subst (λ (stage : Stage). Resends count_of s f (record own { work = restoring (record r { stage = stage }) }) (restoring (asks_session r).next) (asks_session r).sent) (sym at)
    (record {
      plain = (record { opens = refl; gone = refl }, tt);
      busy = (refl, tt);
      rank = rw (none_ahead s.flight s.leader.sessions f r.next_request drawn) (two_at_most (is_opened_in_vain s.flight s.leader.sessions f a));
      lacks = omega arith;
      peeks = omega arith;
      weight = lighter _ _ _
          (rw (sent_may_come s (uuid_of f) r.next_request (request_of r contents.SessionOpen) (carried r f contents.SessionOpen named)) refl)
          (due_weighs _ own.now a.progress due) refl;
    }))

-- ---- requests for parts of files

apart_left : (test : ChunkAsked → Bool) (asks : List ChunkAsked) → AreAsksApart asks → AreAsksApart (filter test asks)
apart_left test [] apart = tt
apart_left test (x ∷ asks) apart =
    on_if AreAsksApart (test x) (x ∷ filter test asks) (filter test asks)
    (λ is. (All-filter (λ (y : ChunkAsked). (y.request == x.request) ≡ false) test asks apart.0, apart_left test asks apart.1))
    (λ isnt. apart_left test asks apart.1)

-- something is due, and so are some of the requests
some_left : (now : ℕ) (asks : List ChunkAsked) → list_any (is_due now) (map {A = ChunkAsked} {B = Progress} (λ a. a.progress) asks) ≡ true
    → 1 ≤ length (filter (λ (a : ChunkAsked). is_due now a.progress) asks)
some_left now [] any = cc
some_left now (x ∷ asks) any =
    (elim (is_due now x.progress) as (λ b. (b || list_any (is_due now) (map {A = ChunkAsked} {B = Progress} (λ a. a.progress) asks)) ≡ true
    → 1 ≤ length (if b then x ∷ filter (λ (a : ChunkAsked). is_due now a.progress) asks else filter (λ (a : ChunkAsked). is_due now a.progress) asks)) [
      | true ↦ λ is. omega arith
      | false ↦ λ later. some_left now asks later
    ]) any

fewer_then : (sent new due old : ℕ) → sent + new + due ≤ old → 1 ≤ due → sent + new < old
fewer_then sent new due old a b = omega arith

fetching_resends : (count_of : List ℕ → ℕ) (s : State) (f : ℕ) (base : Follower) (r : Restore) (fetch : Fetch) → bytes_eq r.follower (uuid_of f) ≡ true → AreBelow s.flight f r.next_request → AreAsksApart fetch.asks
    → list_any (is_due base.now) (map {A = ChunkAsked} {B = Progress} (λ a. a.progress) fetch.asks) ≡ true
    → Resends count_of s f (record base { work = restoring (record r { stage = fetching fetch }) })
    (restoring (restore_ticked base.now (record r { stage = fetching fetch })).next) (restore_ticked base.now (record r { stage = fetching fetch })).sent
fetching_resends count_of s f base r fetch named below apart due =
    subst (λ (next : Restore). Resends count_of s f (record base { work = restoring (record r { stage = fetching fetch }) }) (restoring next) sent) (sym repeats.is)
    (record {
      plain = repeats.plain;
      busy = repeats.busy;
      rank = choice_lower (is_in_vain s.flight s.leader.sessions f (record fetch { asks = repeats.asks })) (is_in_vain s.flight s.leader.sessions f fetch) 1 3 (omega arith)
          (or-more (is_none (session_of s.leader.sessions fetch.session)) (is_told_gone s.flight f (record fetch { asks = repeats.asks })) (is_told_gone s.flight f fetch) repeats.told);
      lacks = (let e : length repeats.asks ≡ length fetch.asks = repeats.many in omega arith);
      peeks = omega arith;
      weight = fewer_then _ _ _ _ repeats.weight (some_left base.now fetch.asks due);
    })
  where
    dues : List ChunkAsked
    dues = filter (λ (a : ChunkAsked). is_due base.now a.progress) fetch.asks

    sent : List Frame
    sent = (chunks_again dues (record r { stage = fetching fetch })).sent

    may : ℕ → Bool
    may = may_be_answered (sending s sent) (uuid_of f)

    come : AllByRecursion (λ (m : Frame). may m.request ≡ true) sent
    come = All-weaker (λ (m : Frame). list_any (carries (uuid_of f) m.request) sent ≡ true) (λ (m : Frame). may m.request ≡ true)
        (λ m is. sent_may_come s (uuid_of f) m.request sent is) sent (each_carried (uuid_of f) sent (again_named (uuid_of f) dues r fetch named))

    repeats : Repeats s.leader.sessions s.flight f may base.now r fetch dues (chunks_again dues (record r { stage = fetching fetch }))
    repeats = again_repeats s.leader.sessions s.flight f may base.now dues r fetch
        (All-filter (IsFirst fetch.asks) (λ (a : ChunkAsked). is_due base.now a.progress) fetch.asks (each_first fetch.asks apart))
        (apart_left (λ (a : ChunkAsked). is_due base.now a.progress) fetch.asks apart)
        (All-filter_test (λ (a : ChunkAsked). is_due base.now a.progress) fetch.asks) below come

-- ---- the event

stage_lower : (count_of : List ℕ → ℕ) (s : State) (f : ℕ) (base : Follower) (r : Restore) (stage : Stage) → slice_get s.followers f ≡ Some (record base { work = restoring (record r { stage = stage }) })
    → bytes_eq r.follower (uuid_of f) ≡ true → AreBelow s.flight f r.next_request → AreStageApart stage → list_any (is_due base.now) (waits_in_stage stage) ≡ true
    → IsLower count_of (at_follower s f (tick_row (record base { work = restoring (record r { stage = stage }) }))).next s
unfolding tick_row
stage_lower count_of s f base r (leasing a) there named below apart due =
    on_if (λ (done : Sending Restore). IsLower count_of (at_follower s f (does replies.Done (λ next. record own { work = restoring next }) done)).next s) (is_due base.now a.progress) _ _
    (λ is. resends_lower count_of s f own (restoring (asks_lease asking).next) (asks_lease asking).sent there (leasing_resends count_of s f own asking a refl refl named is))
    (λ isnt. (let e : false ≡ true = sym isnt ∙ alone (is_due base.now a.progress) due in cc))
  where
    asking : Restore
    asking = record r { stage = leasing a }

    own : Follower
    own = record base { work = restoring asking }
stage_lower count_of s f base r (opening a) there named below apart due =
    on_if (λ (done : Sending Restore). IsLower count_of (at_follower s f (does replies.Done (λ next. record own { work = restoring next }) done)).next s) (is_due base.now a.progress) _ _
    (λ is. resends_lower count_of s f own (restoring (asks_session asking).next) (asks_session asking).sent there (opening_resends count_of s f own asking a refl refl named below is))
    (λ isnt. (let e : false ≡ true = sym isnt ∙ alone (is_due base.now a.progress) due in cc))
  where
    asking : Restore
    asking = record r { stage = opening a }

    own : Follower
    own = record base { work = restoring asking }
stage_lower count_of s f base r (fetching fetch) there named below apart due =
    resends_lower count_of s f (record base { work = restoring (record r { stage = fetching fetch }) }) _ _ there (fetching_resends count_of s f base r fetch named below apart due)

work_lower : (count_of : List ℕ → ℕ) (s : State) (f : ℕ) (base : Follower) (work : Work) → slice_get s.followers f ≡ Some (record base { work = work }) → IsFresh s f (record base { work = work })
    → AreRequestsApart work → is_bootstrapping work ≡ true → list_any (is_due base.now) (waits_in work) ≡ true
    → IsLower count_of (at_follower s f (tick_row (record base { work = work }))).next s
work_lower count_of s f base (replicating t) there fresh apart is due = cc
work_lower count_of s f base (restoring r) there fresh apart is due = stage_lower count_of s f base r r.stage there fresh.named fresh.drawn apart due

pub tick_at : (count_of : List ℕ → ℕ) (s : State) (f : ℕ) (picks : List ℕ)
    → ((own : Follower) → slice_get s.followers f ≡ Some own → IsFresh s f own × AreRequestsApart own.work × (is_bootstrapping own.work ≡ true))
    → may_act s (events.Tick f) ≡ true → IsLower count_of (step s (events.Tick f) picks).next s
tick_at count_of s f picks known may = by (slice_get s.followers f) refl may
  where
    by : (o : Option Follower) → slice_get s.followers f ≡ o → option_map_or may_tick o false ≡ true → IsLower count_of (for_follower s f tick_row o).next s
    by None there is = cc
    by (Some own) there is = work_lower count_of s f own own.work there (known own there).0 (known own there).1 (known own there).2 is
