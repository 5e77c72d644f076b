-- What the rows of the leader come to, where the calls on its copies are known.
use Rattle.std.specs.Option.{option_map}
use Rattle.std.proofs.Common.{◌≡◌, ℕ, ◌+◌, ◌==◌, Bool, not, true, false, Option, Some, None, List, [], length, map, filter, count_by, refl, sym, ◌∙◌, ap, subst}
use Rattle.std.proofs.lemmas.Bool.{eqb-true}
use Rattle.ccr_wire.specs.Message.{Frame}
use Rattle.ccr_lease.specs.declared.retention.Expired.{Expired}
use Rattle.ccr_lease.specs.Leases.{expired, after_expiry}
use Rattle.ccr_journal.specs.declared.replies.Reply.{Reply}
use Rattle.ccr_journal.specs.declared.replies.Reply.TheVariants as replies
use Rattle.ccr_journal.specs.declared.replies.Refusal.{Refusal}
use Rattle.ccr_journal.specs.declared.replies.Refusal.TheVariants.{NoStale}
use Rattle.ccr_model.specs.Outcomes.{Outcome, refused, answered, within}
use Rattle.ccr_model.specs.Copies.{Copy, Replica, Copies, replica_of}
use Rattle.ccr_model.specs.CopyRows.{fail_copy_row, sync_row}
use Rattle.ccr_model.specs.Leaders.{Leader, Session, KeptRequest, Poll, history_of_term, with_stale, stale_of}
use Rattle.ccr_model.specs.LeaderRows.{with_copies, all_hold, lease_answer, settling_requests, missing_numbers, leader_promote_row, force_promote_row, leader_fail_copy_row, leader_clock_row, expire_row, close_sessions_row, is_idle}
use Rattle.ccr_session.specs.Sessions.{Sessions}
use Rattle.ccr_law_base.proofs.Cases.{on_guards}
use Rattle.ccr_law_base.proofs.Lists.{some_equal, All-find, All-every}
use Rattle.ccr_copies.specs.declared.copy_fault.CopyFault.{CopyFault}
use Rattle.ccr_copies.specs.declared.copy_fault.CopyFault.TheVariants as copies
use Rattle.ccr_copies.specs.Faults.{IsRefusal as IsCopyRefusal, refusal_of as copy_refusal}
use Rattle.ccr_copies.specs.Changes.{forced, leader_copies_promote_row, with_leases}
use Rattle.ccr_leader.specs.declared.leader_fault.LeaderFault.{LeaderFault}
use Rattle.ccr_leader.specs.Faults.{IsRefusal, refusal_of, of_copies}

-- ---- events on the copies alone

pub carried : (s : Leader) (o : Outcome Copies) (reply : Reply) (next : Copies) → o ≡ answered reply next → within (with_copies s) o ≡ answered reply (with_copies s next)
carried s o reply next is = ap (λ (x : Outcome Copies). within (with_copies s) x) is

-- what the copies refuse, the leader refuses
as-refusal : (fault : CopyFault) → IsRefusal (of_copies fault) → IsCopyRefusal fault
as-refusal (copies.NoCopy copy) is = tt
as-refusal (copies.IsPrimary copy) is = tt
as-refusal (copies.LastCopy copy) is = tt
as-refusal (copies.NotReady copy) is = tt
as-refusal (copies.NoOperation seq) is = tt
as-refusal copies.TooMany is = tt
as-refusal copies.Memory is = absurd is

same-refusal : (fault : CopyFault) → copy_refusal fault ≡ refusal_of (of_copies fault)
same-refusal (copies.NoCopy copy) = refl
same-refusal (copies.IsPrimary copy) = refl
same-refusal (copies.LastCopy copy) = refl
same-refusal (copies.NotReady copy) = refl
same-refusal (copies.NoOperation seq) = refl
same-refusal copies.TooMany = refl
same-refusal copies.Memory = refl

pub told-down : (o : Outcome Copies) (next : Copies) (fault : CopyFault) (told : LeaderFault) → told ≡ of_copies fault
    → (IsCopyRefusal fault → o ≡ refused next (copy_refusal fault)) → IsRefusal told → o ≡ refused next (refusal_of told)
told-down o next fault told same row is =
    let own : copy_refusal fault ≡ refusal_of told = same-refusal fault ∙ ap (λ (t : LeaderFault). refusal_of t) (sym same) in
    row (as-refusal fault (subst (λ (t : LeaderFault). IsRefusal t) same is)) ∙ ap (λ (why : Refusal). refused next why) own

pub turned-down : (s : Leader) (o : Outcome Copies) (next : Copies) (fault : CopyFault) (told : LeaderFault) → told ≡ of_copies fault
    → (IsCopyRefusal fault → o ≡ refused next (copy_refusal fault)) → IsRefusal told → within (with_copies s) o ≡ refused (with_copies s next) (refusal_of told)
turned-down s o next fault told same row is = ap (λ (x : Outcome Copies). within (with_copies s) x) (told-down o next fault told same row is)

-- ---- events after which kept requests are answered

-- what the kept requests come to over these copies
pub record AreSettled (s : Copies) (before : List KeptRequest) (kept : List KeptRequest) (sent : List Frame) : Type 0 where
  pub left : kept ≡ filter (λ k. not (all_hold k.id s)) before
  pub told : sent ≡ map {A = KeptRequest} {B = Frame} (lease_answer s) (filter (λ k. all_hold k.id s) before)

-- the outcome of an event that is done, where the kept requests come to these
abbrev done_with : Leader → List KeptRequest → List Frame → Outcome Leader
done_with s kept sent = record { reply = replies.Done; next = record s { kept = kept }; sent = sent }

settled : (s : Leader) (kept : List KeptRequest) (sent : List Frame) → AreSettled s.copies s.kept kept sent
    → settling_requests (answered replies.Done s) ≡ done_with s kept sent
settled s kept sent are =
    let due : List Frame = map {A = KeptRequest} {B = Frame} (lease_answer s.copies) (filter (λ k. all_hold k.id s.copies) s.kept) in
    ap (λ (ks : List KeptRequest). done_with s ks due) (sym are.left) ∙ ap (λ (ms : List Frame). done_with s kept ms) (sym are.told)

pub settled-done : (s : Leader) (o : Outcome Copies) (next : Copies) (kept : List KeptRequest) (sent : List Frame) → o ≡ answered replies.Done next → AreSettled next s.kept kept sent
    → settling_requests (within (with_copies s) o) ≡ record { reply = replies.Done; next = record s { copies = next; kept = kept }; sent = sent }
settled-done s o next kept sent is are =
    ap (λ (x : Outcome Copies). settling_requests (within (with_copies s) x)) is ∙ settled (with_copies s next) kept sent are

pub settled-down : (s : Leader) (o : Outcome Copies) (next : Copies) (fault : CopyFault) (told : LeaderFault) → told ≡ of_copies fault
    → (IsCopyRefusal fault → o ≡ refused next (copy_refusal fault)) → IsRefusal told → settling_requests (within (with_copies s) o) ≡ refused (with_copies s next) (refusal_of told)
settled-down s o next fault told same row is = ap settling_requests (turned-down s o next fault told same row is)

-- ---- promotions

-- what is answered is not refused
promoted-apart : (term filled : ℕ) (why : Refusal) → replies.Promoted term filled ≡ replies.Refused why → ⊥
promoted-apart term filled why is = absurd (cc)

done-apart : (why : Refusal) → replies.Done ≡ replies.Refused why → ⊥
done-apart why is = absurd (cc)

-- the leader, where these are its copies after a promotion
abbrev promoted : Leader → Copies → Leader
promoted s next = record s { copies = next; sessions = []; kept = []; polls = filter (λ p. not (p.copy == s.copies.primary.number)) s.polls }

promoted-done : (s : Leader) (copy term filled : ℕ) (found : Option Replica) (next : Copies) → leader_copies_promote_row s.copies copy found ≡ answered (replies.Promoted term filled) next
    → leader_promote_row s copy found ≡ answered (replies.Promoted term filled) (promoted s next)
unfolding leader_promote_row leader_copies_promote_row
promoted-done s copy term filled None next is = absurd (promoted-apart term filled _ (sym (ap (λ (o : Outcome Copies). o.reply) is)))
promoted-done s copy term filled (Some r) next is = ap (λ (x : Outcome Copies). within (promoted s) x) is

pub promoted-all : (s : Leader) (copy term filled lost : ℕ) (found : Option Replica) (next : Copies) (ended : Sessions) (kept : List KeptRequest) (polls : List Poll)
    → leader_copies_promote_row s.copies copy found ≡ answered (replies.Promoted term filled) next
    → ended ≡ record { next = s.next_session; sessions = [] } → kept ≡ [] → lost ≡ s.copies.primary.number → polls ≡ filter (λ p. not (p.copy == lost)) s.polls
    → leader_promote_row s copy found
    ≡ answered (replies.Promoted term filled) (record s { copies = next; next_session = ended.next; sessions = ended.sessions; kept = kept; polls = polls })
promoted-all s copy term filled lost found next ended kept polls is over gone old away =
    let to : Sessions → List KeptRequest → List Poll → Outcome Leader = λ e ks ps.
    answered (replies.Promoted term filled) (record s { copies = next; next_session = e.next; sessions = e.sessions; kept = ks; polls = ps }) in
    let left : List Poll = filter (λ p. not (p.copy == s.copies.primary.number)) s.polls in
    let same : polls ≡ left = away ∙ ap (λ (n : ℕ). filter (λ p. not (p.copy == n)) s.polls) old in
    promoted-done s copy term filled found next is
    ∙ (ap (λ (e : Sessions). to e [] left) (sym over) ∙ (ap (λ (ks : List KeptRequest). to ended ks left) (sym gone) ∙ ap (λ (ps : List Poll). to ended kept ps) (sym same)))

pub promotion-down : (s : Leader) (copy : ℕ) (found : Option Replica) (next : Copies) (why : Refusal) → leader_copies_promote_row s.copies copy found ≡ refused next why
    → leader_promote_row s copy found ≡ refused (with_copies s next) why
unfolding leader_promote_row leader_copies_promote_row
promotion-down s copy None next why is = ap (λ (x : Outcome Copies). within (with_copies s) x) is
promotion-down s copy (Some r) next why is = absurd (promoted-apart _ _ why (ap (λ (o : Outcome Copies). o.reply) is))

forced-done : (s : Leader) (copy term filled : ℕ) (found : Option Copy) (stale : Copy) (next : Copies) (history : List ℕ) → found ≡ Some stale → next ≡ forced s.copies stale
    → term ≡ s.copies.term + 1 → filled ≡ length (missing_numbers stale.seen) → history ≡ history_of_term s.start.history (s.copies.term + 1)
    → force_promote_row s copy found ≡ answered (replies.Forced term filled) (record s { history = history; copies = next; stale = []; sessions = []; kept = []; polls = [] })
unfolding force_promote_row
forced-done s copy term filled found stale next history is new began noops own =
    let to : ℕ → ℕ → Copies → List ℕ → Outcome Leader = λ t n cs h.
    answered (replies.Forced t n) (record s { history = h; copies = cs; stale = []; sessions = []; kept = []; polls = [] }) in
    ap (λ (o : Option Copy). force_promote_row s copy o) is
    ∙ (ap (λ (t : ℕ). to t (length (missing_numbers stale.seen)) (forced s.copies stale) (history_of_term s.start.history (s.copies.term + 1))) (sym began)
    ∙ (ap (λ (n : ℕ). to term n (forced s.copies stale) (history_of_term s.start.history (s.copies.term + 1))) (sym noops)
    ∙ (ap (λ (cs : Copies). to term filled cs (history_of_term s.start.history (s.copies.term + 1))) (sym new) ∙ ap (λ (h : List ℕ). to term filled next h) (sym own))))

-- a row that is refused leaves the copies
pub promotion-same : (s next : Copies) (copy : ℕ) (found : Option Replica) (why : Refusal) → leader_copies_promote_row s copy found ≡ refused next why → s ≡ next
unfolding leader_copies_promote_row
promotion-same s next copy None why is = ap (λ (o : Outcome Copies). o.next) is
promotion-same s next copy (Some r) why is = absurd (promoted-apart _ _ why (ap (λ (o : Outcome Copies). o.reply) is))

pub sync-same : (s next : Copies) (copy : ℕ) (found : Option Replica) (why : Refusal) → sync_row s copy found ≡ refused next why → s ≡ next
unfolding sync_row
sync-same s next copy None why is = ap (λ (o : Outcome Copies). o.next) is
sync-same s next copy (Some r) why is =
    on_guards (λ (o : Outcome Copies). o ≡ refused next why → s ≡ next) s _ _
    (λ own same. ap (λ (o : Outcome Copies). o.next) same) (λ tests same. absurd (done-apart why (ap (λ (o : Outcome Copies). o.reply) same))) is

pub left-same : (s next : Copies) (copy : ℕ) (found : Option Replica) (why : Refusal) → fail_copy_row s copy found ≡ refused next why → s ≡ next
unfolding fail_copy_row
left-same s next copy None why is = ap (λ (o : Outcome Copies). o.next) is
left-same s next copy (Some r) why is = absurd (done-apart why (ap (λ (o : Outcome Copies). o.reply) is))

pub forced-down : (s : Leader) (copy : ℕ) (found : Option Copy) → found ≡ None → force_promote_row s copy found ≡ refused s (NoStale copy)
unfolding force_promote_row
forced-down s copy found none = ap (λ (o : Option Copy). force_promote_row s copy o) none

-- and all that goes with the old copies
pub forced-all : (s : Leader) (copy term filled : ℕ) (found : Option Copy) (c : Copy) (next : Copies) (history : List ℕ) (stale : List Copy) (ended : Sessions) (kept : List KeptRequest) (polls : List Poll)
    → found ≡ Some c → next ≡ forced s.copies c → term ≡ s.copies.term + 1 → filled ≡ length (missing_numbers c.seen) → history ≡ history_of_term s.start.history (s.copies.term + 1)
    → stale ≡ [] → ended ≡ record { next = s.next_session; sessions = [] } → kept ≡ [] → polls ≡ []
    → force_promote_row s copy found
    ≡ answered (replies.Forced term filled) (record s { history = history; copies = next; stale = stale; next_session = ended.next; sessions = ended.sessions; kept = kept; polls = polls })
forced-all s copy term filled found c next history stale ended kept polls is new began noops own none over gone away =
    let to : List Copy → Sessions → List KeptRequest → List Poll → Outcome Leader = λ cs e ks ps.
    answered (replies.Forced term filled) (record s { history = history; copies = next; stale = cs; next_session = e.next; sessions = e.sessions; kept = ks; polls = ps }) in
    let begun : Sessions = record { next = s.next_session; sessions = [] } in
    forced-done s copy term filled found c next history is new began noops own
    ∙ (ap (λ (cs : List Copy). to cs begun [] []) (sym none)
    ∙ (ap (λ (e : Sessions). to stale e [] []) (sym over)
    ∙ (ap (λ (ks : List KeptRequest). to stale ended ks []) (sym gone) ∙ ap (λ (ps : List Poll). to stale ended kept ps) (sym away))))

-- ---- copies that leave

found-number : (s : Copies) (copy : ℕ) (r : Replica) → replica_of s copy ≡ Some r → r.copy.number ≡ copy
found-number s copy r found =
    eqb-true r.copy.number copy (All-find (λ (x : Replica). Unit {0}) (λ (x : Replica). x.copy.number == copy) s.replicas r (All-every (λ (x : Replica). Unit {0}) (λ x. tt) s.replicas) found).1

abbrev without_copy : Leader → ℕ → Copy → Copies → Leader
without_copy s copy left next = record s { copies = next; stale = with_stale left s.stale; polls = filter (λ p. not (p.copy == copy)) s.polls }

left-row : (s : Leader) (copy : ℕ) (found : Option Replica) (left : Copy) (next : Copies) → ◌≡◌ {A = Option Copy} (option_map {T = Replica} {U = Copy} (λ r. r.copy) found) (Some left)
    → fail_copy_row s.copies copy found ≡ answered replies.Done next → leader_fail_copy_row s copy found ≡ answered replies.Done (without_copy s copy left next)
unfolding leader_fail_copy_row fail_copy_row
left-row s copy None left next own is = absurd (cc)
left-row s copy (Some r) left next own is =
    let same : r.copy ≡ left = some_equal r.copy left own in
    ap (λ (o : Outcome Copies). within (λ copies. record s { copies = copies; stale = with_stale r.copy s.stale; polls = filter (λ p. not (p.copy == copy)) s.polls }) o) is
    ∙ ap (λ (c : Copy). answered replies.Done (without_copy s copy c next)) same

left-number : (s : Copies) (copy : ℕ) (found : Option Replica) (left : Copy) → replica_of s copy ≡ found
    → ◌≡◌ {A = Option Copy} (option_map {T = Replica} {U = Copy} (λ r. r.copy) found) (Some left) → copy ≡ left.number
left-number s copy None left is own = absurd (cc)
left-number s copy (Some r) left is own = sym (found-number s copy r is) ∙ ap (λ (c : Copy). c.number) (some_equal r.copy left own)

pub left-done : (s : Leader) (copy : ℕ) (left : Copy) (next : Copies) (stale : List Copy) (polls : List Poll) (kept : List KeptRequest) (sent : List Frame)
    → ◌≡◌ {A = Option Copy} (option_map {T = Replica} {U = Copy} (λ r. r.copy) (replica_of s.copies copy)) (Some left)
    → fail_copy_row s.copies copy (replica_of s.copies copy) ≡ answered replies.Done next → stale ≡ with_stale left s.stale → polls ≡ filter (λ p. not (p.copy == left.number)) s.polls
    → AreSettled next s.kept kept sent
    → settling_requests (leader_fail_copy_row s copy (replica_of s.copies copy))
    ≡ record { reply = replies.Done; next = record s { copies = next; stale = stale; kept = kept; polls = polls }; sent = sent }
left-done s copy left next stale polls kept sent own is old gone are =
    let number : copy ≡ left.number = left-number s.copies copy (replica_of s.copies copy) left refl own in
    let to : List Copy → List Poll → Outcome Leader = λ cs ps.
    record { reply = replies.Done; next = record s { copies = next; stale = cs; kept = kept; polls = ps }; sent = sent } in
    ap settling_requests (left-row s copy (replica_of s.copies copy) left next own is)
    ∙ (settled (without_copy s copy left next) kept sent are
    ∙ (ap (λ (n : ℕ). to (with_stale left s.stale) (filter (λ p. not (p.copy == n)) s.polls)) number
    ∙ (ap (λ (ps : List Poll). to (with_stale left s.stale) ps) (sym gone) ∙ ap (λ (cs : List Copy). to cs polls) (sym old))))

staying-row : (s : Leader) (copy : ℕ) (found : Option Replica) (next : Copies) (why : Refusal) → fail_copy_row s.copies copy found ≡ refused next why
    → leader_fail_copy_row s copy found ≡ refused (with_copies s next) why
unfolding leader_fail_copy_row fail_copy_row
staying-row s copy None next why is = ap (λ (o : Outcome Copies). within (with_copies s) o) is
staying-row s copy (Some r) next why is = absurd (done-apart why (ap (λ (o : Outcome Copies). o.reply) is))

pub left-down : (s : Leader) (copy : ℕ) (found : Option Replica) (next : Copies) (why : Refusal) → fail_copy_row s.copies copy found ≡ refused next why
    → settling_requests (leader_fail_copy_row s copy found) ≡ refused (with_copies s next) why
left-down s copy found next why is = ap settling_requests (staying-row s copy found next why is)

-- ---- the clock, leases and sessions

pub clock-done : (s : Leader) (now : ℕ) → leader_clock_row s now ≡ answered replies.Done (record s { now = now })
unfolding leader_clock_row
clock-done s now = refl

pub expired-done : (s : Leader) (next : Copies) (list : List Expired) → list ≡ expired s.now s.start.period s.copies.primary.leases.leases
    → next ≡ with_leases s.copies (after_expiry s.now s.start.period s.copies.primary.leases) → expire_row s ≡ answered (replies.Expired list) (with_copies s next)
unfolding expire_row
expired-done s next list told is =
    ap (λ (xs : List Expired). answered (replies.Expired xs) (with_copies s (with_leases s.copies (after_expiry s.now s.start.period s.copies.primary.leases)))) (sym told)
    ∙ ap (λ (c : Copies). answered (replies.Expired list) (with_copies s c)) (sym is)

pub closed-done : (s : Leader) (closed : ℕ) (after : Sessions) → closed ≡ count_by (is_idle s.now) s.sessions
    → after ≡ record { next = s.next_session; sessions = filter (λ session. not (is_idle s.now session)) s.sessions }
    → close_sessions_row s ≡ answered (replies.Closed closed) (record s { next_session = after.next; sessions = after.sessions })
unfolding close_sessions_row
closed-done s closed after told is =
    let open_ones : Sessions = record { next = s.next_session; sessions = filter (λ session. not (is_idle s.now session)) s.sessions } in
    ap (λ (n : ℕ). answered (replies.Closed n) (record s { sessions = open_ones.sessions })) (sym told)
    ∙ ap (λ (e : Sessions). answered (replies.Closed closed) (record s { next_session = e.next; sessions = e.sessions })) (sym is)
