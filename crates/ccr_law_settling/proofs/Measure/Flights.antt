-- What more messages in flight make of the measure.
use Rattle.std.specs.List.{AllByRecursion, list_any}
use Rattle.std.specs.Str.{bytes_eq}
use Rattle.std.proofs.Common.{◌≡◌, ℕ, ◌+◌, ◌≤◌, ◌==◌, ◌&&◌, Bool, true, false, if◌then◌else◌, List, [], ◌∷◌, ◌++◌, refl, ◌∙◌, arith}
use Rattle.std.proofs.lemmas.List.Folds.{list_any-append}
use Rattle.ccr_wire.specs.Message.{Frame}
use Rattle.ccr_model.specs.Requests.{Progress, on_its_way, waiting, held_back, is_sent}
use Rattle.ccr_model.specs.Tasks.{Read}
use Rattle.ccr_model.specs.Restores.{Asked, ChunkAsked, Stage, leasing, opening, fetching, Fetch, answers}
use Rattle.ccr_model.specs.Leaders.{Session}
use Rattle.ccr_model.specs.Followers.{Follower, Work, restoring, replicating, uuid_of}
use Rattle.ccr_law_settling.specs.Measure.{total, passing, over_followers, opens_closed, is_gone, is_opened_in_vain, is_told_gone, is_in_vain, rank_of_stage, rank_of, is_idle_content, weight_of_progress, weight_of_stage, weight_of_work}
use Rattle.ccr_law_settling.proofs.Measure.Totals.{le_itself, over_fewer, total_append}
use Rattle.ccr_law_base.proofs.Tests.{and_false, or_none}

-- ---- ranks

-- a message that opens no session in vain and tells of none that is gone
pub record IsPlain (sessions : List Session) (m : Frame) : Type 0 where
  pub opens : opens_closed sessions m.content ≡ false
  pub gone : is_gone m.content ≡ false

pub none_opens : (sessions : List Session) (f : ℕ) (a : Asked) (more : List Frame) → AllByRecursion (IsPlain sessions) more → is_opened_in_vain more sessions f a ≡ false
none_opens sessions f a [] plain = refl
none_opens sessions f a (m ∷ more) plain = rw plain.0.opens (rw (and_false (bytes_eq m.follower (uuid_of f) && answers m a)) (none_opens sessions f a more plain.1))

pub none_gone : (sessions : List Session) (f : ℕ) (fetch : Fetch) (more : List Frame) → AllByRecursion (IsPlain sessions) more → is_told_gone more f fetch ≡ false
none_gone sessions f fetch [] plain = refl
none_gone sessions f fetch (m ∷ more) plain = rw plain.0.gone (rw (and_false (bytes_eq m.follower (uuid_of f))) (none_gone sessions f fetch more plain.1))

opened_more : (flight more : List Frame) (sessions : List Session) (f : ℕ) (a : Asked) → AllByRecursion (IsPlain sessions) more
    → is_opened_in_vain (flight ++ more) sessions f a ≡ is_opened_in_vain flight sessions f a
opened_more flight more sessions f a plain =
    list_any-append (λ (m : Frame). bytes_eq m.follower (uuid_of f) && answers m a && opens_closed sessions m.content) flight more
    ∙ (rw (none_opens sessions f a more plain) (or_none (is_opened_in_vain flight sessions f a)))

gone_more : (flight more : List Frame) (sessions : List Session) (f : ℕ) (fetch : Fetch) → AllByRecursion (IsPlain sessions) more
    → is_told_gone (flight ++ more) f fetch ≡ is_told_gone flight f fetch
gone_more flight more sessions f fetch plain =
    list_any-append (λ (m : Frame). bytes_eq m.follower (uuid_of f) && is_gone m.content && list_any (λ (a : ChunkAsked). (m.request == a.request) && is_sent a.progress) fetch.asks) flight more
    ∙ (rw (none_gone sessions f fetch more plain) (or_none (is_told_gone flight f fetch)))

rank_more : (flight more : List Frame) (sessions : List Session) (f : ℕ) (w : Work) → AllByRecursion (IsPlain sessions) more
    → rank_of (flight ++ more) sessions f w ≤ rank_of flight sessions f w
rank_more flight more sessions f (replicating t) plain = omega arith
rank_more flight more sessions f (restoring r) plain = by r.stage
  where
    by : (stage : Stage) → rank_of_stage (flight ++ more) sessions f stage ≤ rank_of_stage flight sessions f stage
    by (leasing a) = omega arith
    by (opening a) = rw (opened_more flight more sessions f a plain) (le_itself (if is_opened_in_vain flight sessions f a then 4 else 2))
    by (fetching fetch) = rw (gone_more flight more sessions f fetch plain) (le_itself (if is_in_vain flight sessions f fetch then 3 else 1))

pub ranks_more : (flight more : List Frame) (sessions : List Session) (followers : List Follower) → AllByRecursion (IsPlain sessions) more
    → over_followers (λ f own. rank_of (flight ++ more) sessions f own.work) 0 followers ≤ over_followers (λ f own. rank_of flight sessions f own.work) 0 followers
ranks_more flight more sessions followers plain =
    over_fewer (λ f own. rank_of (flight ++ more) sessions f own.work) (λ f own. rank_of flight sessions f own.work) 0 followers
    (λ f own. rank_more flight more sessions f own.work plain)

-- ---- what brings nothing

pub idle_more : (flight more : List Frame) → AllByRecursion (λ (m : Frame). is_idle_content m.content ≡ false) more
    → passing (λ (m : Frame). is_idle_content m.content) (flight ++ more) ≡ passing (λ (m : Frame). is_idle_content m.content) flight
idle_more flight more busy =
    let none : passing (λ (m : Frame). is_idle_content m.content) more ≡ 0 = none_idle more busy in
    let sums : passing (λ (m : Frame). is_idle_content m.content) (flight ++ more) ≡ passing (λ (m : Frame). is_idle_content m.content) flight + passing (λ (m : Frame). is_idle_content m.content) more
    = total_append (λ (m : Frame). if is_idle_content m.content then 1 else 0) flight more in
    omega arith
  where
    none_idle : (more : List Frame) → AllByRecursion (λ (m : Frame). is_idle_content m.content ≡ false) more → passing (λ (m : Frame). is_idle_content m.content) more ≡ 0
    none_idle [] busy = refl
    none_idle (m ∷ more) busy =
        let rest : passing (λ (m : Frame). is_idle_content m.content) more ≡ 0 = none_idle more busy.1 in
        rw busy.0 (omega arith)

-- ---- what is under way

-- where more requests may still be answered, less is under way
pub weight_fewer : (a b : Bool) (now : ℕ) (p : Progress) → (b ≡ true → a ≡ true) → weight_of_progress a now p ≤ weight_of_progress b now p
weight_fewer true b now on_its_way step = omega arith
weight_fewer false true now on_its_way step = let e : false ≡ true = step refl in cc
weight_fewer false false now on_its_way step = omega arith
weight_fewer a b now (waiting until) step = omega arith
weight_fewer a b now held_back step = omega arith

total_fewer : {X : Type 0} (a b : X → ℕ) (xs : List X) → ((x : X) → a x ≤ b x) → total a xs ≤ total b xs
total_fewer a b [] less = omega arith
total_fewer a b (x ∷ xs) less = let here : a x ≤ b x = less x in let rest : total a xs ≤ total b xs = total_fewer a b xs less in omega arith

pub work_fewer : (new old : ℕ → Bool) (now : ℕ) (w : Work) → ((request : ℕ) → old request ≡ true → new request ≡ true) → weight_of_work new now w ≤ weight_of_work old now w
work_fewer new old now (replicating t) step =
    let reads : total (λ (r : Read). weight_of_progress (new r.request) now r.progress) t.reads ≤ total (λ (r : Read). weight_of_progress (old r.request) now r.progress) t.reads
    = total_fewer (λ (r : Read). weight_of_progress (new r.request) now r.progress) (λ (r : Read). weight_of_progress (old r.request) now r.progress) t.reads
    (λ r. weight_fewer (new r.request) (old r.request) now r.progress (step r.request)) in
    omega arith
work_fewer new old now (restoring r) step = by r.stage
  where
    by : (stage : Stage) → weight_of_stage new now stage ≤ weight_of_stage old now stage
    by (leasing a) = weight_fewer (new a.request) (old a.request) now a.progress (step a.request)
    by (opening a) = weight_fewer (new a.request) (old a.request) now a.progress (step a.request)
    by (fetching f) = total_fewer (λ (a : ChunkAsked). weight_of_progress (new a.request) now a.progress) (λ (a : ChunkAsked). weight_of_progress (old a.request) now a.progress) f.asks
        (λ a. weight_fewer (new a.request) (old a.request) now a.progress (step a.request))

pub works_fewer : (new old : List ℕ → ℕ → Bool) (followers : List Follower) → ((uuid : List ℕ) (request : ℕ) → old uuid request ≡ true → new uuid request ≡ true)
    → over_followers (λ f own. weight_of_work (new (uuid_of f)) own.now own.work) 0 followers ≤ over_followers (λ f own. weight_of_work (old (uuid_of f)) own.now own.work) 0 followers
works_fewer new old followers step =
    over_fewer (λ f own. weight_of_work (new (uuid_of f)) own.now own.work) (λ f own. weight_of_work (old (uuid_of f)) own.now own.work) 0 followers
    (λ f own. work_fewer (new (uuid_of f)) (old (uuid_of f)) own.now own.work (step (uuid_of f)))
