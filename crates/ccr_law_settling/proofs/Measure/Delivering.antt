-- Settling by the delivery of a read to the leader lowers the measure.
use Rattle.std.specs.List.{AllByRecursion, list_any}
use Rattle.std.specs.Str.{bytes_eq}
use Rattle.std.specs.Prelude.{slice_get, remove}
use Rattle.std.proofs.Common.{◌≡◌, ℕ, ◌+◌, ◌*◌, ◌≤◌, ◌<◌, ◌==◌, ◌&&◌, ◌||◌, Bool, true, false, not, nat_lt, if◌then◌else◌, inl, inr, Option, Some, List, [], ◌∷◌, ◌++◌, length, refl, sym, subst, arith}
use Rattle.std.proofs.lemmas.Bool.Decides.{nat_tests}
use Rattle.std.proofs.lemmas.List.Folds.{list_any-append}
use Rattle.ccr_wire.specs.Message.{Frame}
use Rattle.ccr_wire.specs.declared.content.Content.{Content}
use Rattle.ccr_wire.specs.declared.content.Content.TheVariants as contents
use Rattle.ccr_journal.specs.declared.replies.Heard.{Heard as Hearing}
use Rattle.ccr_journal.specs.declared.replies.Heard.TheVariants as heard
use Rattle.ccr_journal.specs.declared.events.Event.TheVariants as events
use Rattle.ccr_model.specs.Stores.{held}
use Rattle.ccr_model.specs.Outcomes.{Outcome}
use Rattle.ccr_model.specs.Copies.{Copy, Copies, copy_of}
use Rattle.ccr_model.specs.Leaders.{Leader, Poll}
use Rattle.ccr_model.specs.LeaderRows.{settling_requests}
use Rattle.ccr_model.specs.LeaderFrames.{hears, answer_to, has_to_wait, read_ops, read_row}
use Rattle.ccr_model.specs.Followers.{uuid_of}
use Rattle.ccr_model.specs.World.{State, at_leader, deliver_row}
use Rattle.ccr_model.specs.Step.{step}
use Rattle.ccr_model.specs.Settling.{may_be_answered}
use Rattle.ccr_law_base.proofs.Cases.{on_if}
use Rattle.ccr_law_base.proofs.Lists.{All-append}
use Rattle.ccr_law_settling.specs.Measure.{total, passing, over_followers, is_idle_content, weight_of_frame, weight_of_work, rank_of, underway_of, lacking_of, IsLower}
use Rattle.ccr_law_settling.specs.Within.{HoldsReads, IsReadable}
use Rattle.ccr_law_settling.proofs.Measure.Totals.{le_itself, total_append}
use Rattle.ccr_law_settling.proofs.Measure.Flights.{IsPlain, ranks_more, idle_more, works_fewer}
use Rattle.ccr_law_settling.proofs.Measure.Syncing.{left_of, answers_of, plain_answers, busy_answers, answers_weigh, carries, keeps, still_kept}
use Rattle.ccr_law_settling.proofs.Measure.Reading.{read_some}
use Rattle.ccr_law_settling.proofs.Measure.Waking.{waits, Tells, found_number}
use Rattle.ccr_law_settling.proofs.Measure.Taken.{total_remove, any_remove, ranks_left}
use Rattle.std.proofs.lemmas.Bool.{or_left}

-- ---- a message to the leader becomes a poll or an answer

-- `polls` are the polls then, and `sent` the answer
pub record Becomes (s : State) (m : Frame) (polls : List Poll) (sent : List Frame) : Type 0 where
  pub plain : AllByRecursion (IsPlain s.leader.sessions) sent
  pub busy : AllByRecursion (λ (x : Frame). is_idle_content x.content ≡ false) sent
  pub light : total weight_of_frame sent + 2 * length polls < weight_of_frame m + 2 * length s.leader.polls
  pub there : (uuid : List ℕ) (request : ℕ) → carries uuid request m ≡ true → (list_any (carries uuid request) sent || list_any (waits uuid request) polls) ≡ true
  pub still : (uuid : List ℕ) (request : ℕ) → list_any (waits uuid request) s.leader.polls ≡ true → list_any (waits uuid request) polls ≡ true

becomes_lower : (count_of : List ℕ → ℕ) (s : State) (at : ℕ) (m : Frame) (polls : List Poll) (sent : List Frame) → slice_get s.flight at ≡ Some m → Becomes s m polls sent
    → IsLower count_of (record s { leader = record s.leader { polls = polls; kept = left_of s.leader.copies s.leader.kept }; flight = remove s.flight at ++ (sent ++ answers_of s.leader.copies s.leader.kept) }) s
becomes_lower count_of s at m polls sent found becomes =
    inr (
      (let more : over_followers (λ f own. rank_of (rest ++ all) s.leader.sessions f own.work) 0 s.followers ≤ over_followers (λ f own. rank_of rest s.leader.sessions f own.work) 0 s.followers
          = ranks_more rest all s.leader.sessions s.followers (All-append (IsPlain s.leader.sessions) sent answers becomes.plain (plain_answers s.leader.sessions s.leader.copies s.leader.kept)) in
          let left : over_followers (λ f own. rank_of rest s.leader.sessions f own.work) 0 s.followers ≤ over_followers (λ f own. rank_of s.flight s.leader.sessions f own.work) 0 s.followers
          = ranks_left s.flight at s.leader.sessions s.followers in
          omega arith),
      inr (
        le_itself (lacking_of count_of s),
        inr (
          (let same : passing (λ (x : Frame). is_idle_content x.content) (rest ++ all) ≡ passing (λ (x : Frame). is_idle_content x.content) rest
              = idle_more rest all (All-append (λ (x : Frame). is_idle_content x.content ≡ false) sent answers becomes.busy (busy_answers s.leader.copies s.leader.kept)) in
              let one : passing (λ (x : Frame). is_idle_content x.content) rest + (if is_idle_content m.content then 1 else 0) ≡ passing (λ (x : Frame). is_idle_content x.content) s.flight
              = total_remove (λ (x : Frame). if is_idle_content x.content then 1 else 0) s.flight at m found in
              omega arith),
          inl less,
        ),
      ),
    )
  where
    answers : List Frame
    answers = answers_of s.leader.copies s.leader.kept

    all : List Frame
    all = sent ++ answers

    rest : List Frame
    rest = remove s.flight at

    after : State
    after = record s { leader = record s.leader { polls = polls; kept = left_of s.leader.copies s.leader.kept }; flight = rest ++ all }

    joined : (m flight polls kept rest sent answers new left : Bool) → (flight ≡ true → (m || rest) ≡ true) → (m ≡ true → (sent || new) ≡ true) → (polls ≡ true → new ≡ true)
        → (kept ≡ true → (answers || left) ≡ true) → ((flight || polls) || kept) ≡ true → (((rest || (sent || answers)) || new) || left) ≡ true
    joined m flight polls kept true sent answers new left a b c d is = refl
    joined m flight polls kept false true answers new left a b c d is = refl
    joined m flight polls kept false false true new left a b c d is = refl
    joined m flight polls kept false false false true left a b c d is = refl
    joined m flight polls kept false false false false true a b c d is = refl
    joined true flight polls kept false false false false false a b c d is = b refl
    joined false true polls kept false false false false false a b c d is = a refl
    joined false false true kept false false false false false a b c d is = c refl
    joined false false false true false false false false false a b c d is = d refl
    joined false false false false false false false false false a b c d is = is

    still : (uuid : List ℕ) (request : ℕ) → may_be_answered s uuid request ≡ true → may_be_answered after uuid request ≡ true
    still uuid request is =
        rw (list_any-append (carries uuid request) rest all) (rw (list_any-append (carries uuid request) sent answers)
        (joined (carries uuid request m) (list_any (carries uuid request) s.flight) (list_any (waits uuid request) s.leader.polls) (list_any (keeps s.leader.copies.primary uuid request) s.leader.kept)
        (list_any (carries uuid request) rest) (list_any (carries uuid request) sent) (list_any (carries uuid request) answers) (list_any (waits uuid request) polls)
        (list_any (keeps s.leader.copies.primary uuid request) (left_of s.leader.copies s.leader.kept))
        (any_remove (carries uuid request) s.flight at m found) (becomes.there uuid request) (becomes.still uuid request)
        (still_kept s.leader.copies s.leader.copies.primary uuid request s.leader.kept) is))

    less : underway_of after < underway_of s
    less =
        let frames : total weight_of_frame (rest ++ all) ≡ total weight_of_frame rest + total weight_of_frame all = total_append weight_of_frame rest all in
        let both : total weight_of_frame all ≡ total weight_of_frame sent + total weight_of_frame answers = total_append weight_of_frame sent answers in
        let gone : total weight_of_frame rest + weight_of_frame m ≡ total weight_of_frame s.flight = total_remove weight_of_frame s.flight at m found in
        let kept : total weight_of_frame answers + 2 * length (left_of s.leader.copies s.leader.kept) ≤ 2 * length s.leader.kept = answers_weigh s.leader.copies s.leader.kept in
        let light : total weight_of_frame sent + 2 * length polls < weight_of_frame m + 2 * length s.leader.polls = becomes.light in
        let works : over_followers (λ f own. weight_of_work (may_be_answered after (uuid_of f)) own.now own.work) 0 s.followers
        ≤ over_followers (λ f own. weight_of_work (may_be_answered s (uuid_of f)) own.now own.work) 0 s.followers
        = works_fewer (may_be_answered after) (may_be_answered s) s.followers still in
        omega arith

-- ---- a read

pushed_length : (polls : List Poll) (p : Poll) → length (polls ++ p ∷ []) ≡ length polls + 1
pushed_length [] p = omega arith
pushed_length (x ∷ polls) p = let rest : length (polls ++ p ∷ []) ≡ length polls + 1 = pushed_length polls p in omega arith

last_one : (a b : Bool) → b ≡ true → (a || (b || false)) ≡ true
last_one true b is = refl
last_one false true is = refl
last_one false false is = cc

alone_first : (a b : Bool) → a ≡ true → ((a || false) || b) ≡ true
alone_first true b is = refl
alone_first false b is = cc

-- the outcome of a message's taking, where it left those in flight
abbrev pub taken : State → ℕ → Outcome Leader → Outcome State
taken s at o = at_leader (record s { flight = remove s.flight at }) (settling_requests o)

parked_lower : (count_of : List ℕ → ℕ) (s : State) (at : ℕ) (m : Frame) (p : Poll) → slice_get s.flight at ≡ Some m → weight_of_frame m ≡ 3 → p.follower ≡ m.follower → p.request ≡ m.request
    → IsLower count_of (taken s at (hears heard.Parked (record s.leader { polls = s.leader.polls ++ p ∷ [] }) [])).next s
parked_lower count_of s at m p found heavy follower number = becomes_lower count_of s at m (s.leader.polls ++ p ∷ []) [] found (record {
  plain = tt;
  busy = tt;
  light = (let more : length (s.leader.polls ++ p ∷ []) ≡ length s.leader.polls + 1 = pushed_length s.leader.polls p in omega arith);
  there = λ uuid request is. rw (list_any-append (waits uuid request) s.leader.polls (p ∷ []))
      (last_one (list_any (waits uuid request) s.leader.polls) (waits uuid request p) (same uuid request is));
  still = λ uuid request is. rw (list_any-append (waits uuid request) s.leader.polls (p ∷ []))
      (or_left (list_any (waits uuid request) s.leader.polls) (list_any (waits uuid request) (p ∷ [])) is);
})
  where
    same : (uuid : List ℕ) (request : ℕ) → carries uuid request m ≡ true → waits uuid request p ≡ true
    same uuid request is =
        subst (λ (own : List ℕ). (bytes_eq own uuid && (p.request == request)) ≡ true) (sym follower)
        (subst (λ (n : ℕ). (bytes_eq m.follower uuid && (n == request)) ≡ true) (sym number) is)

told_lower : (count_of : List ℕ → ℕ) (s : State) (at : ℕ) (m : Frame) (p : Poll) (what : Hearing) (content : Content) → slice_get s.flight at ≡ Some m → weight_of_frame m ≡ 3 → p.follower ≡ m.follower → p.request ≡ m.request
    → Tells s.leader.sessions content → IsLower count_of (taken s at (hears what s.leader (answer_to p.follower p.request content))).next s
told_lower count_of s at m p what content found heavy follower number tells = becomes_lower count_of s at m s.leader.polls (answer_to p.follower p.request content) found (record {
  plain = (record { opens = tells.opens; gone = tells.gone }, tt);
  busy = (tells.busy, tt);
  light = (let one : total weight_of_frame (answer_to p.follower p.request content) ≡ 1 = rw tells.light refl in omega arith);
  there = λ uuid request is. alone_first (carries uuid request (record { follower = p.follower; request = p.request; content = content })) (list_any (waits uuid request) s.leader.polls) (same uuid request is);
  still = λ uuid request is. is;
})
  where
    same : (uuid : List ℕ) (request : ℕ) → carries uuid request m ≡ true → (bytes_eq p.follower uuid && (p.request == request)) ≡ true
    same uuid request is =
        subst (λ (own : List ℕ). (bytes_eq own uuid && (p.request == request)) ≡ true) (sym follower)
        (subst (λ (n : ℕ). (bytes_eq m.follower uuid && (n == request)) ≡ true) (sym number) is)

read_lower : (count_of : List ℕ → ℕ) (s : State) (at copy : ℕ) (m : Frame) (p : Poll) (c : Copy) → slice_get s.flight at ≡ Some m → weight_of_frame m ≡ 3 → p.follower ≡ m.follower → p.request ≡ m.request → HoldsReads c
    → IsLower count_of (taken s at (read_row s.leader p copy (Some c))).next s
unfolding read_row
read_lower count_of s at copy m p c found heavy follower number holds =
    on_if (λ (o : Outcome Leader). IsLower count_of (taken s at o).next s) (has_to_wait s.leader p c) _ _
    (λ parks. parked_lower count_of s at m p found heavy follower number)
    (λ answers. on_if (λ (o : Outcome Leader). IsLower count_of (taken s at o).next s) (not (bytes_eq p.history s.leader.history)) _ _
    (λ other. told_lower count_of s at m p heard.History (contents.ReadHistory s.leader.history) found heavy follower number (record { opens = refl; gone = refl; busy = refl; light = refl }))
    (λ same. on_if (λ (o : Outcome Leader). IsLower count_of (taken s at o).next s) (nat_lt p.from c.floor) _ _
    (λ low. told_lower count_of s at m p (heard.Missing p.from c.floor) (contents.ReadMissing p.from c.floor) found heavy follower number (record { opens = refl; gone = refl; busy = refl; light = refl }))
    (λ high.
    let brings : nat_lt p.from c.global ≡ true = some_brought (bytes_eq p.history s.leader.history) (nat_lt p.from c.floor) (nat_lt p.from c.global) answers same high in
    told_lower count_of s at m p (if nat_lt p.from c.global then heard.Done else heard.Empty) (contents.ReadReply p.from c.global (read_ops c p.from p.max_ops p.max_bytes)) found heavy follower number (record {
      opens = refl;
      gone = refl;
      busy = read_some c p.from p.max_ops p.max_bytes (found_number (held c.store) p.from (holds p.from (grind (arith, nat_tests)) (grind (arith, nat_tests)))) (grind (arith, nat_tests));
      light = refl;
    }))))
  where
    some_brought : (same low brings : Bool) → ((same && not low) && not brings) ≡ false → not same ≡ false → low ≡ false → brings ≡ true
    some_brought same low true answers is high = refl
    some_brought true false false answers is high = cc
    some_brought true true false answers is high = cc
    some_brought false low false answers is high = cc

-- the primary is the copy of its number
pub primary_found : (s : Copies) (copy : ℕ) → (copy == s.primary.number) ≡ true → copy_of s copy ≡ Some s.primary
primary_found s copy is = let same : (s.primary.number == copy) ≡ true = grind (arith, nat_tests) in rw same refl

-- a read is delivered to the primary
pub read_delivered : (count_of : List ℕ → ℕ) (s : State) (at copy : ℕ) (picks : List ℕ) (follower : List ℕ) (request : ℕ) (history : List ℕ) (from max_ops max_bytes timeout : ℕ) → IsReadable s
    → slice_get s.flight at ≡ Some (record { follower = follower; request = request; content = contents.ReadRequest history from max_ops max_bytes timeout })
    → (copy == s.leader.copies.primary.number) ≡ true → IsLower count_of (step s (events.Deliver at copy false) picks).next s
unfolding deliver_row
read_delivered count_of s at copy picks follower request history from max_ops max_bytes timeout readable found own =
    subst (λ (o : Option Frame). IsLower count_of (deliver_row s at copy false o (copy_of s.leader.copies copy)).next s) (sym found)
    (subst (λ (o : Option Copy). IsLower count_of (deliver_row s at copy false (Some m) o).next s) (sym primary)
    (subst (λ (o : Option Copy). IsLower count_of (taken s at (read_row s.leader p copy o)).next s) (sym primary)
    (read_lower count_of s at copy m p s.leader.copies.primary found refl refl refl (readable copy s.leader.copies.primary primary))))
  where
    m : Frame
    m = record { follower = follower; request = request; content = contents.ReadRequest history from max_ops max_bytes timeout }

    p : Poll
    p = record { follower = follower; request = request; copy = copy; history = history; from = from; max_ops = max_ops; max_bytes = max_bytes; timeout = timeout; parked = s.leader.now }

    primary : copy_of s.leader.copies copy ≡ Some s.leader.copies.primary
    primary = primary_found s.leader.copies copy own
