-- A follower that moves on or hears a message.
use Rattle.std.specs.Prelude.{◌==◌, if◌then◌else◌, not, IfSome}
use Rattle.std.specs.List.{AllByRecursion}
use Rattle.std.specs.Str.{bytes_eq}
use Rattle.std.proofs.Common.{◌≡◌, ◌⊎◌, inl, inr, ℕ, ◌≤◌, ◌<◌, ◌&&◌, Bool, true, false, List, ◌++◌, map, Option, Some, None, refl, ap, sym, ◌∙◌, subst, arith}
use Rattle.std.proofs.lemmas.Bool.{eqb-true, and_parts, and_from}
use Rattle.ccr_wire.specs.Message.{Frame}
use Rattle.ccr_wire.specs.declared.content.Content.{Content}
use Rattle.ccr_wire.specs.declared.content.Content.TheVariants as contents
use Rattle.ccr_journal.specs.declared.sides.Phase.{Phase}
use Rattle.ccr_model.specs.Requests.{is_sent}
use Rattle.ccr_model.specs.Restores.{Stage, leasing, opening, fetching, Asked, answers, phase_of}
use Rattle.ccr_model.specs.Followers.{Work, restoring, replicating, phase_of_work}
use Rattle.ccr_model.specs.LeaseHistory.{LeaseNote, retained}
use Rattle.ccr_model.specs.Past.{is_leasing, answer_after}
use Rattle.ccr_model.specs.FrameFacts.{reading_in, next_request_of}
use Rattle.ccr_model.specs.Invariants.{renewal_of, count_opened, is_missing}
use Rattle.ccr_law_base.proofs.Lists.{All-weaker, All-append, All-both}
use Rattle.ccr_law_leases.specs.NoteOrder.{IsAnsweredAt}
use Rattle.ccr_law_retention.specs.Retaining.{Bound, free, asked, at_most, bound_of, bound_of_stage, RenewalLow, OpensAbove, Within, AnswerOk, KeptSince, LostSince, is_grant, GrantOk, MissingOk, history_opened, OpensIn, FollowerOk, IsToldTruly, IsNoTaskLeasing}
use Rattle.ccr_law_retention.specs.Moving.{IsFresh, Follows, Answers, is_plain, IsRenewal, IsRequest, GoesOn}
use Rattle.ccr_law_retention.proofs.Lists.{sent-append, sent-map}

-- ---- what is sent is no answer

pub request-facts : (lease : List ℕ) (bound : Bound) (content : Content) → (is_plain content ≡ true) ⊎ IsRenewal lease bound content
    → (is_grant content ≡ false) × (count_opened content ≡ None) × (is_missing content ≡ false)
request-facts lease bound (contents.ReadRequest history from max_ops max_bytes timeout) is = (refl, refl, refl)
request-facts lease bound (contents.LeaseAdd id) is = (refl, refl, refl)
request-facts lease bound (contents.LeaseRenew id number) is = (refl, refl, refl)
request-facts lease bound (contents.LeaseRemove id) is = (refl, refl, refl)
request-facts lease bound contents.SessionOpen is = (refl, refl, refl)
request-facts lease bound (contents.ChunkRequest session file offset size) is = (refl, refl, refl)
request-facts lease bound _ (inl plain) = absurd cc
request-facts lease bound _ (inr renewal) = absurd renewal

request-opens : (lease : List ℕ) (bound : Bound) (content : Content) → (is_plain content ≡ true) ⊎ IsRenewal lease bound content → history_opened content ≡ None
request-opens lease bound (contents.SessionOpened session history count sizes) (inl plain) = absurd cc
request-opens lease bound (contents.SessionOpened session history count sizes) (inr renewal) = absurd renewal
request-opens lease bound _ is = refl

pub request-renewal : (id lease : List ℕ) (b : ℕ) (content : Content) → (is_plain content ≡ true) ⊎ IsRenewal lease (at_most b) content → IfSome (renewal_of id content) (λ n. n ≤ b)
request-renewal id lease b (contents.LeaseRenew own number) (inl plain) = absurd cc
request-renewal id lease b (contents.LeaseRenew own number) (inr renewal) =
    (elim (bytes_eq own id) as (λ (same : Bool). IfSome (if same then Some number else None) (λ n. n ≤ b)) [ true ↦ renewal.1 | false ↦ tt ])
request-renewal id lease b _ is = tt

-- ---- phases and answers

abbrev pub is_free : Bound → Bool
is_free free = true
is_free (asked a) = false
is_free (at_most b) = false

leasing-free : (g : ℕ) (w : Work) → IsNoTaskLeasing w → is_leasing (phase_of_work w) ≡ is_free (bound_of g w)
leasing-free g (restoring r) none =
    elim r.stage as (λ (stage : Stage). is_leasing (phase_of stage) ≡ is_free (bound_of_stage stage)) [ leasing a ↦ refl | opening a ↦ refl | fetching f ↦ refl ]
leasing-free g (replicating t) none = none

answer-stays : (answer delivered : Option ℕ) (old new : Phase) → is_leasing old ≡ false → answer_after answer old new delivered ≡ answer
answer-stays answer delivered old new isnt = ap (λ (b : Bool). if b && not (is_leasing new) then delivered else answer) isnt

answer-still : (answer delivered : Option ℕ) (old new : Phase) → is_leasing old ≡ true → is_leasing new ≡ true → answer_after answer old new delivered ≡ answer
answer-still answer delivered old new is also =
    ap (λ (b : Bool). if b && not (is_leasing new) then delivered else answer) is ∙ ap (λ (b : Bool). if not b then delivered else answer) also

answer-taken : (answer delivered : Option ℕ) (old new : Phase) → is_leasing old ≡ true → is_leasing new ≡ false → answer_after answer old new delivered ≡ delivered
answer-taken answer delivered old new is isnt =
    ap (λ (b : Bool). if b && not (is_leasing new) then delivered else answer) is ∙ ap (λ (b : Bool). if not b then delivered else answer) isnt

-- ---- what stays within

fresh-opens : (uuid : List ℕ) (drawn number : ℕ) (now : Asked) (flight : List Frame) → IsFresh drawn now → AllByRecursion (λ (m : Frame). bytes_eq m.follower uuid ≡ true → m.request < drawn) flight
    → AllByRecursion (OpensAbove uuid now number) flight
fresh-opens uuid drawn number now flight fresh below =
    All-weaker (λ (m : Frame). bytes_eq m.follower uuid ≡ true → m.request < drawn) (OpensAbove uuid now number)
    (λ m less is.
    let both = and_parts (bytes_eq m.follower uuid) (answers m now) is in
    let own = and_parts (m.request == now.request) (is_sent now.progress) both.1 in
    let same : m.request ≡ now.request = eqb-true m.request now.request own.0 in
    let up : drawn ≤ now.request = fresh own.1 in
    let low : m.request < drawn = less both.0 in
    absurd (omega arith)) flight below

sent-opens : (uuid lease : List ℕ) (number : ℕ) (now : Asked) (bound : Bound) (sent : List Frame) → AllByRecursion (IsRequest lease bound) sent → AllByRecursion (OpensAbove uuid now number) sent
sent-opens uuid lease number now bound sent all =
    All-weaker (IsRequest lease bound) (OpensAbove uuid now number)
    (λ m it is. let none = (request-facts lease bound m.content it).1 in subst (λ (o : Option ℕ). IfSome o (λ count. number ≤ count)) (sym none) tt) sent all

sent-low : (lease : List ℕ) (b : ℕ) (sent : List Frame) → AllByRecursion (IsRequest lease (at_most b)) sent → AllByRecursion (RenewalLow lease b) sent
sent-low lease b sent all = All-weaker (IsRequest lease (at_most b)) (RenewalLow lease b) (λ m it. request-renewal lease lease b m.content it) sent all

follows-within : (drawn number : ℕ) (uuid lease : List ℕ) (flight sent : List Frame) (old new : Bound) → Follows drawn old new
    → AllByRecursion (λ (m : Frame). bytes_eq m.follower uuid ≡ true → m.request < drawn) flight → AllByRecursion (IsRequest lease new) sent
    → Within flight uuid lease number old → Within (flight ++ sent) uuid lease number new
follows-within drawn number uuid lease flight sent free free follows below all within = tt
follows-within drawn number uuid lease flight sent free (asked now) follows below all within = absurd follows
follows-within drawn number uuid lease flight sent free (at_most now) follows below all within = absurd follows
follows-within drawn number uuid lease flight sent (asked a) free follows below all within = absurd follows
follows-within drawn number uuid lease flight sent (asked a) (asked now) (inl same) below all within =
    All-append (OpensAbove uuid now number) flight sent (subst (λ (x : Asked). AllByRecursion (OpensAbove uuid x number) flight) (sym same) within) (sent-opens uuid lease number now (asked now) sent all)
follows-within drawn number uuid lease flight sent (asked a) (asked now) (inr fresh) below all within =
    All-append (OpensAbove uuid now number) flight sent (fresh-opens uuid drawn number now flight fresh below) (sent-opens uuid lease number now (asked now) sent all)
follows-within drawn number uuid lease flight sent (asked a) (at_most now) follows below all within = absurd follows
follows-within drawn number uuid lease flight sent (at_most b) free follows below all within = absurd follows
follows-within drawn number uuid lease flight sent (at_most b) (asked now) fresh below all within =
    All-append (OpensAbove uuid now number) flight sent (fresh-opens uuid drawn number now flight fresh below) (sent-opens uuid lease number now (asked now) sent all)
follows-within drawn number uuid lease flight sent (at_most b) (at_most now) up below all within = (
  let low = within.0 in omega arith,
  All-append (RenewalLow lease now) flight sent (All-weaker (RenewalLow lease b) (RenewalLow lease now) (λ m low. if-higher (renewal_of lease m.content) low) flight within.1) (sent-low lease now sent all),
)
  where
    if-higher : (o : Option ℕ) → IfSome o (λ n. n ≤ b) → IfSome o (λ n. n ≤ now)
    if-higher None low = tt
    if-higher (Some n) low = omega arith

answers-within : (drawn number : ℕ) (uuid lease : List ℕ) (flight sent : List Frame) (m : Frame) (old new : Bound) → Answers drawn m old new → bytes_eq m.follower uuid ≡ true
    → AllByRecursion (λ (m : Frame). bytes_eq m.follower uuid ≡ true → m.request < drawn) flight → AllByRecursion (IsRequest lease new) sent
    → ((a : Asked) → old ≡ asked a → OpensAbove uuid a number m × AllByRecursion (λ (m : Frame). renewal_of lease m.content ≡ None) flight)
    → Within (flight ++ sent) uuid lease number new
answers-within drawn number uuid lease flight sent m free free it own below all opens = absurd it
answers-within drawn number uuid lease flight sent m free (asked now) it own below all opens =
    All-append (OpensAbove uuid now number) flight sent (fresh-opens uuid drawn number now flight it.1 below) (sent-opens uuid lease number now (asked now) sent all)
answers-within drawn number uuid lease flight sent m free (at_most now) it own below all opens = absurd it
answers-within drawn number uuid lease flight sent m (asked a) free it own below all opens = absurd it
answers-within drawn number uuid lease flight sent m (asked a) (asked now) it own below all opens = absurd it
answers-within drawn number uuid lease flight sent m (asked a) (at_most now) it own below all opens =
    let both = opens a refl in
    let least : IfSome (Some it.0) (λ count. number ≤ count) = subst (λ (o : Option ℕ). IfSome o (λ count. number ≤ count)) it.2 (both.0 (and_from (bytes_eq m.follower uuid) (answers m a) own it.1)) in
    let up = it.3 in (
      omega arith,
      All-append (RenewalLow lease now) flight sent
          (All-weaker (λ (m : Frame). renewal_of lease m.content ≡ None) (RenewalLow lease now) (λ m none. subst (λ (o : Option ℕ). IfSome o (λ n. n ≤ now)) (sym none) tt) flight both.1) (sent-low lease now sent all),
    )
answers-within drawn number uuid lease flight sent m (at_most b) new it own below all opens = absurd it

-- ---- the follower

-- the old work's messages under the new work
missing-goes-on : (answer now : Option ℕ) (uuid lease : List ℕ) (notes : List LeaseNote) (old new : Work) (flight : List Frame) → GoesOn old new
    → (LostSince answer lease notes → LostSince now lease notes)
    → AllByRecursion (λ (m : Frame). bytes_eq m.follower uuid ≡ true → m.request < next_request_of old) flight
    → AllByRecursion (MissingOk answer uuid lease notes old) flight → AllByRecursion (MissingOk now uuid lease notes new) flight
missing-goes-on answer now uuid lease notes old new flight goes lost below all =
    All-weaker (λ (m : Frame). (bytes_eq m.follower uuid ≡ true → m.request < next_request_of old) × MissingOk answer uuid lease notes old m) (MissingOk now uuid lease notes new)
    (λ m both is. by-either m (both.0 (and_parts (bytes_eq m.follower uuid) (is_missing m.content) is).0) (both.1 is)) flight
    (All-both (λ (m : Frame). bytes_eq m.follower uuid ≡ true → m.request < next_request_of old) (MissingOk answer uuid lease notes old) flight below all)
  where
    by-either : (m : Frame) → m.request < next_request_of old → (reading_in old m.request ≡ None) ⊎ LostSince answer lease notes → (reading_in new m.request ≡ None) ⊎ LostSince now lease notes
    by-either m less (inl none) = inl (goes.unsent m.request less none)
    by-either m less (inr was) = inr (lost was)

pub sent-not-missing : (answer : Option ℕ) (uuid lease own : List ℕ) (notes : List LeaseNote) (work : Work) (bound : Bound) (sent : List Frame) → AllByRecursion (IsRequest own bound) sent
    → AllByRecursion (MissingOk answer uuid lease notes work) sent
sent-not-missing answer uuid lease own notes work bound sent all =
    All-weaker (IsRequest own bound) (MissingOk answer uuid lease notes work)
    (λ m it is. absurd (let none = (request-facts own bound m.content it).2 in let some = (and_parts (bytes_eq m.follower uuid) (is_missing m.content) is).1 in cc)) sent all

sent-no-grant : (place : ℕ) (uuid lease : List ℕ) (notes : List LeaseNote) (bound : Bound) (sent : List Frame) → AllByRecursion (IsRequest lease bound) sent
    → AllByRecursion (λ (m : Frame). GrantOk uuid lease notes m place) sent
sent-no-grant place uuid lease notes bound sent all =
    All-weaker (IsRequest lease bound) (λ (m : Frame). GrantOk uuid lease notes m place)
    (λ m it is. absurd (let none = (request-facts lease bound m.content it).0 in let some = (and_parts (bytes_eq m.follower uuid) (is_grant m.content) is).1 in cc)) sent all

-- what a delivered message tells, with the place where it was sent
pub record Heard (answer : Option ℕ) (notes : List LeaseNote) (flight : List Frame) (uuid lease : List ℕ) (bound : Bound) (m : Frame) (place : ℕ) : Type 0 where
  pub own : bytes_eq m.follower uuid ≡ true
  pub grant : is_grant m.content ≡ true → IsAnsweredAt lease place notes
  pub opens : KeptSince answer lease notes → (a : Asked) → bound ≡ asked a → OpensAbove uuid a (retained lease notes) m
  pub none : (a : Asked) → bound ≡ asked a → AllByRecursion (λ (m : Frame). renewal_of lease m.content ≡ None) flight

answer-after-ok : (answer now : Option ℕ) (lease : List ℕ) (notes : List LeaseNote) (drawn : ℕ) (old new : Bound) → Follows drawn old new → now ≡ answer → AnswerOk answer lease notes old → AnswerOk now lease notes new
answer-after-ok answer now lease notes drawn free free follows same ok = same ∙ ok
answer-after-ok answer now lease notes drawn free (asked a) follows same ok = absurd follows
answer-after-ok answer now lease notes drawn free (at_most b) follows same ok = absurd follows
answer-after-ok answer now lease notes drawn (asked a) free follows same ok = absurd follows
answer-after-ok answer now lease notes drawn (asked a) (asked x) follows same ok = record { place = ok.place; is = same ∙ ok.is; noted = ok.noted }
answer-after-ok answer now lease notes drawn (asked a) (at_most b) follows same ok = absurd follows
answer-after-ok answer now lease notes drawn (at_most b) free follows same ok = absurd follows
answer-after-ok answer now lease notes drawn (at_most b) (asked a) follows same ok = record { place = ok.place; is = same ∙ ok.is; noted = ok.noted }
answer-after-ok answer now lease notes drawn (at_most b) (at_most x) follows same ok = record { place = ok.place; is = same ∙ ok.is; noted = ok.noted }

follows-free : (drawn : ℕ) (old new : Bound) → Follows drawn old new → is_free new ≡ is_free old
follows-free drawn free free follows = refl
follows-free drawn free (asked a) follows = absurd follows
follows-free drawn free (at_most b) follows = absurd follows
follows-free drawn (asked a) free follows = absurd follows
follows-free drawn (asked a) (asked x) follows = refl
follows-free drawn (asked a) (at_most b) follows = absurd follows
follows-free drawn (at_most b) free follows = absurd follows
follows-free drawn (at_most b) (asked a) follows = refl
follows-free drawn (at_most b) (at_most x) follows = refl

same-answer : (answer delivered : Option ℕ) (g now drawn : ℕ) (old new : Work) → IsNoTaskLeasing old → IsNoTaskLeasing new → Follows drawn (bound_of g old) (bound_of now new)
    → answer_after answer (phase_of_work old) (phase_of_work new) delivered ≡ answer
same-answer answer delivered g now drawn old new one two follows =
    let first : is_leasing (phase_of_work old) ≡ is_free (bound_of g old) = leasing-free g old one in
    let other : is_leasing (phase_of_work new) ≡ is_leasing (phase_of_work old) = leasing-free now new two ∙ (follows-free drawn (bound_of g old) (bound_of now new) follows ∙ sym first) in
    (elim (is_leasing (phase_of_work old)) as (λ (b : Bool). is_leasing (phase_of_work old) ≡ b → answer_after answer (phase_of_work old) (phase_of_work new) delivered ≡ answer) [
      | true ↦ λ is. answer-still answer delivered (phase_of_work old) (phase_of_work new) is (other ∙ is)
      | false ↦ λ isnt. answer-stays answer delivered (phase_of_work old) (phase_of_work new) isnt
    ]) refl

-- over a move
pub moved-ok : (answer delivered : Option ℕ) (notes : List LeaseNote) (flight sent : List Frame) (sent_at uuid lease : List ℕ) (old new : Work) (g now place : ℕ)
    → GoesOn old new → Follows (next_request_of old) (bound_of g old) (bound_of now new)
    → AllByRecursion (λ (m : Frame). bytes_eq m.follower uuid ≡ true → m.request < next_request_of old) flight → AllByRecursion (IsRequest lease (bound_of now new)) sent
    → FollowerOk answer notes flight sent_at uuid lease old g
    → FollowerOk (answer_after answer (phase_of_work old) (phase_of_work new) delivered) notes (flight ++ sent) (sent_at ++ map {A = Frame} {B = ℕ} (λ m. place) sent) uuid lease new now
moved-ok answer delivered notes flight sent sent_at uuid lease old new g now place goes follows below all ok =
    let same : answer_after answer (phase_of_work old) (phase_of_work new) delivered ≡ answer =
    same-answer answer delivered g now (next_request_of old) old new ok.phase (goes.phase ok.phase) follows in
    subst (λ (a : Option ℕ). FollowerOk a notes (flight ++ sent) (sent_at ++ map {A = Frame} {B = ℕ} (λ m. place) sent) uuid lease new now) (sym same) (record {
      phase = goes.phase ok.phase;
      answered = answer-after-ok answer answer lease notes (next_request_of old) (bound_of g old) (bound_of now new) follows refl ok.answered;
      grants = sent-append (GrantOk uuid lease notes) flight sent sent_at _ ok.grants (sent-map (GrantOk uuid lease notes) place sent (sent-no-grant place uuid lease notes (bound_of now new) sent all));
      within = λ kept. follows-within (next_request_of old) (retained lease notes) uuid lease flight sent (bound_of g old) (bound_of now new) follows below all (ok.within kept);
      missing = All-append (MissingOk answer uuid lease notes new) flight sent (missing-goes-on answer answer uuid lease notes old new flight goes (λ lost. lost) below ok.missing)
          (sent-not-missing answer uuid lease lease notes new (bound_of now new) sent all);
    })

-- the answer that the bootstrap took stays where a read may still be told to miss something
missing-kept : (answer delivered : Option ℕ) (uuid lease : List ℕ) (notes : List LeaseNote) (old : Work) (new : Phase) (flight : List Frame) → IsNoTaskLeasing old
    → AllByRecursion (MissingOk answer uuid lease notes old) flight → AllByRecursion (MissingOk (answer_after answer (phase_of_work old) new delivered) uuid lease notes old) flight
missing-kept answer delivered uuid lease notes (restoring r) new flight none all =
    All-weaker (MissingOk answer uuid lease notes (restoring r)) (MissingOk (answer_after answer (phase_of_work (restoring r)) new delivered) uuid lease notes (restoring r)) (λ m it is. inl refl) flight all
missing-kept answer delivered uuid lease notes (replicating t) new flight none all =
    subst (λ (a : Option ℕ). AllByRecursion (MissingOk a uuid lease notes (replicating t)) flight) (sym (answer-stays answer delivered t.phase new none)) all

pub told-moved : (answer delivered : Option ℕ) (notes : List LeaseNote) (flight sent : List Frame) (uuid lease : List ℕ) (bound : Bound) (old new : Work)
    → GoesOn old new → AllByRecursion (λ (m : Frame). bytes_eq m.follower uuid ≡ true → m.request < next_request_of old) flight → AllByRecursion (IsRequest lease bound) sent
    → IsToldTruly answer notes flight uuid lease old → IsToldTruly (answer_after answer (phase_of_work old) (phase_of_work new) delivered) notes (flight ++ sent) uuid lease new
told-moved answer delivered notes flight sent uuid lease bound old new goes below all told =
    let next : Option ℕ = answer_after answer (phase_of_work old) (phase_of_work new) delivered in
    record {
      phase = goes.phase told.phase;
      missing = All-append (MissingOk next uuid lease notes new) flight sent
          (missing-goes-on next next uuid lease notes old new flight goes (λ lost. lost) below (missing-kept answer delivered uuid lease notes old (phase_of_work new) flight told.phase told.missing))
          (sent-not-missing next uuid lease lease notes new bound sent all);
    }

-- requests open no session
pub sent-opens-none : (uuid history lease : List ℕ) (bound : Bound) (sent : List Frame) → AllByRecursion (IsRequest lease bound) sent → AllByRecursion (OpensIn uuid history) sent
sent-opens-none uuid history lease bound sent all =
    All-weaker (IsRequest lease bound) (OpensIn uuid history)
    (λ m it is. subst (λ (o : Option (List ℕ)). IfSome o (λ own. own ≡ history)) (sym (request-opens lease bound m.content it)) tt) sent all

-- over a message that answers what was asked for
answers-free : (drawn : ℕ) (m : Frame) (old new : Bound) → Answers drawn m old new → is_free new ≡ false
answers-free drawn m free free it = absurd it
answers-free drawn m free (asked a) it = refl
answers-free drawn m free (at_most b) it = absurd it
answers-free drawn m (asked a) free it = absurd it
answers-free drawn m (asked a) (asked x) it = absurd it
answers-free drawn m (asked a) (at_most b) it = refl
answers-free drawn m (at_most b) new it = absurd it

answers-answer : (answer now : Option ℕ) (lease : List ℕ) (notes : List LeaseNote) (drawn place : ℕ) (m : Frame) (old new : Bound) → Answers drawn m old new
    → (is_free old ≡ true → now ≡ Some place) → (is_free old ≡ false → now ≡ answer) → (is_grant m.content ≡ true → IsAnsweredAt lease place notes)
    → AnswerOk answer lease notes old → AnswerOk now lease notes new
answers-answer answer now lease notes drawn place m free free it taken same grant ok = absurd it
answers-answer answer now lease notes drawn place m free (asked a) it taken same grant ok = record { place = place; is = taken refl; noted = grant it.0 }
answers-answer answer now lease notes drawn place m free (at_most b) it taken same grant ok = absurd it
answers-answer answer now lease notes drawn place m (asked a) free it taken same grant ok = absurd it
answers-answer answer now lease notes drawn place m (asked a) (asked x) it taken same grant ok = absurd it
answers-answer answer now lease notes drawn place m (asked a) (at_most b) it taken same grant ok = record { place = ok.place; is = same refl ∙ ok.is; noted = ok.noted }
answers-answer answer now lease notes drawn place m (at_most b) new it taken same grant ok = absurd it

lost-on : (answer now : Option ℕ) (lease : List ℕ) (notes : List LeaseNote) (bound : Bound) → AnswerOk answer lease notes bound → (is_free bound ≡ false → now ≡ answer)
    → LostSince answer lease notes → LostSince now lease notes
lost-on answer now lease notes free none same lost = absurd (let some = lost.is in cc)
lost-on answer now lease notes (asked a) has same lost = record { place = lost.place; is = same refl ∙ lost.is; lost = lost.lost }
lost-on answer now lease notes (at_most b) has same lost = record { place = lost.place; is = same refl ∙ lost.is; lost = lost.lost }

pub answered-ok : (answer : Option ℕ) (notes : List LeaseNote) (flight sent : List Frame) (sent_at uuid lease : List ℕ) (old new : Work) (g now place sent_place : ℕ) (m : Frame)
    → GoesOn old new → Answers (next_request_of old) m (bound_of g old) (bound_of now new) → Heard answer notes flight uuid lease (bound_of g old) m sent_place
    → AllByRecursion (λ (m : Frame). bytes_eq m.follower uuid ≡ true → m.request < next_request_of old) flight → AllByRecursion (IsRequest lease (bound_of now new)) sent
    → FollowerOk answer notes flight sent_at uuid lease old g
    → FollowerOk (answer_after answer (phase_of_work old) (phase_of_work new) (Some sent_place)) notes (flight ++ sent) (sent_at ++ map {A = Frame} {B = ℕ} (λ m. place) sent) uuid lease new now
answered-ok answer notes flight sent sent_at uuid lease old new g now place sent_place m goes it heard below all ok =
    let next : Option ℕ = answer_after answer (phase_of_work old) (phase_of_work new) (Some sent_place) in
    let first : is_leasing (phase_of_work old) ≡ is_free (bound_of g old) = leasing-free g old ok.phase in
    let second : is_leasing (phase_of_work new) ≡ false = leasing-free now new (goes.phase ok.phase) ∙ answers-free (next_request_of old) m (bound_of g old) (bound_of now new) it in
    let taken : is_free (bound_of g old) ≡ true → next ≡ Some sent_place = λ is. answer-taken answer (Some sent_place) (phase_of_work old) (phase_of_work new) (first ∙ is) second in
    let same : is_free (bound_of g old) ≡ false → next ≡ answer = λ isnt. answer-stays answer (Some sent_place) (phase_of_work old) (phase_of_work new) (first ∙ isnt) in
    record {
      phase = goes.phase ok.phase;
      answered = answers-answer answer next lease notes (next_request_of old) sent_place m (bound_of g old) (bound_of now new) it taken same heard.grant ok.answered;
      grants = sent-append (GrantOk uuid lease notes) flight sent sent_at _ ok.grants (sent-map (GrantOk uuid lease notes) place sent (sent-no-grant place uuid lease notes (bound_of now new) sent all));
      within = λ kept. answers-within (next_request_of old) (retained lease notes) uuid lease flight sent m (bound_of g old) (bound_of now new) it heard.own below all
          (λ a is. (heard.opens (record { place = kept.place; is = sym (same (ap is_free is)) ∙ kept.is; kept = kept.kept }) a is, heard.none a is));
      missing = All-append (MissingOk next uuid lease notes new) flight sent
          (missing-goes-on answer next uuid lease notes old new flight goes (lost-on answer next lease notes (bound_of g old) ok.answered same) below ok.missing)
          (sent-not-missing next uuid lease lease notes new (bound_of now new) sent all);
    }
