-- What a read of a copy's history comes to.
use Rattle.std.specs.Prelude.{find, slice_get}
use Rattle.std.specs.Option.{option_map}
use Rattle.std.specs.List.{AllByRecursion, range_with_len}
use Rattle.std.specs.Str.{bytes_eq}
use Rattle.std.proofs.Common.{◌≡◌, ℕ, zero, suc, ◌+◌, ◌-◌, ◌≤◌, ◌<◌, ◌==◌, ◌&&◌, Bool, true, false, not, nat_lt, if◌then◌else◌, Option, Some, None, List, [], ◌∷◌, ◌++◌, map, length, refl, sym, ◌∙◌, ap, subst, arith}
use Rattle.std.proofs.lemmas.Bool.Decides.{nat_tests}
use Rattle.std.proofs.lemmas.Bool.{eqb-true}
use Rattle.ccr_op.specs.Operation.{Operation}
use Rattle.ccr_wire.specs.Message.{Frame, IsRun}
use Rattle.ccr_wire.specs.declared.content.Content.TheVariants as contents
use Rattle.ccr_journal.specs.declared.replies.Heard.{Heard as Hearing}
use Rattle.ccr_journal.specs.declared.replies.Heard.TheVariants as heard
use Rattle.ccr_journal.specs.declared.replies.Refusal.TheVariants.{NoPoll, NoCopy, Wait as Waits}
use Rattle.ccr_law_base.proofs.Lists.{All-every, All-find}
use Rattle.ccr_law_stores.proofs.Runs.{run_of, cut-ok}
use Rattle.ccr_model.specs.Operations.{op_at, before_none, run_from, cut_of}
use Rattle.ccr_model.specs.Stores.{held}
use Rattle.ccr_model.specs.Outcomes.{Outcome, refused, guarded}
use Rattle.ccr_model.specs.Copies.{Copy, Copies, Replica, copy_of, replica_of}
use Rattle.ccr_model.specs.Leaders.{Leader, Poll, polls_of, without_poll}
use Rattle.ccr_model.specs.LeaderFrames.{hears, answer_to, read_ops, answer_read, has_to_wait, read_row, wake_row, polled_copy, leader_wake}
use Rattle.ccr_changes.specs.declared.answer.Cut.{Cut}
use Rattle.ccr_changes.specs.declared.answer.Cut.TheVariants.{Ops, Wait, Missing}
use Rattle.ccr_changes.specs.Cuts.{cut_from}
use Rattle.ccr_leader.specs.Requests.{has_to_stay}

-- ---- what is cut has its numbers one after the other

found-number : (xs : List Operation) (n : ℕ) (op : Operation) → op_at n xs ≡ Some op → op.seq ≡ n
found-number xs n op is = eqb-true op.seq n (All-find (λ (o : Operation). Unit {0}) (λ (o : Operation). o.seq == n) xs op (All-every (λ (o : Operation). Unit {0}) (λ o. tt) xs) is).1

run-first : (xs : List Operation) (from : ℕ) (found : Option Operation) (rest : List (Option Operation)) → op_at from xs ≡ found → IsRun (from + 1) (before_none rest)
    → IsRun from (before_none (found ∷ rest))
run-first xs from None rest is begins = tt
run-first xs from (Some op) rest is begins = (found-number xs from op is, begins)

run-begins : (xs : List Operation) (from size : ℕ) → IsRun from (run_of xs from size)
run-begins xs from zero = tt
run-begins xs from (suc size) =
    run-first xs from (op_at from xs) (map {A = ℕ} {B = Option Operation} (λ n. op_at n xs) (range_with_len (from + 1) size)) refl (run-begins xs (from + 1) size)

pub cut-begins : (xs : List Operation) (from global max_ops max_bytes : ℕ) → IsRun from (cut_of max_ops max_bytes (run_from xs from global))
cut-begins xs from global max_ops max_bytes =
    (cut-ok (λ (o : Operation). Unit {0}) from max_ops max_bytes (run_from xs from global) (run-begins xs from (global - from))
    (All-every (λ (o : Operation). Unit {0}) (λ o. tt) (run_from xs from global))).begins

run-over : (xs : List Operation) (from global : ℕ) → global ≤ from → run_from xs from global ≡ []
run-over xs from global le =
    let none : global - from ≡ 0 = omega arith in
    ap (λ (k : ℕ). before_none (map {A = ℕ} {B = Option Operation} (λ n. op_at n xs) (range_with_len from k))) none

cut-over : (xs : List Operation) (from global max_ops max_bytes : ℕ) → nat_lt from global ≡ false → cut_of max_ops max_bytes (run_from xs from global) ≡ []
cut-over xs from global max_ops max_bytes over =
    let le : global ≤ from = grind (arith, nat_tests) in
    ap (cut_of max_ops max_bytes) (run-over xs from global le)

-- ---- the answers

-- what a copy's history answers to a read
abbrev pub cut_at : Poll → Copy → Cut
cut_at p c = cut_from (held c.store) c.floor c.global p.from p.max_ops p.max_bytes

pub other-read : (s : Leader) (p : Poll) (c : Copy) (next : Leader) (sent : List Frame) → bytes_eq p.history s.history ≡ false
    → sent ≡ answer_to p.follower p.request (contents.ReadHistory s.history) → answer_read s p c next ≡ hears heard.History next sent
other-read s p c next sent other is =
    ap (λ (b : Bool). if not b then hears heard.History next (answer_to p.follower p.request (contents.ReadHistory s.history))
    else (if nat_lt p.from c.floor then hears (heard.Missing p.from c.floor) next (answer_to p.follower p.request (contents.ReadMissing p.from c.floor))
    else hears (if nat_lt p.from c.global then heard.Done else heard.Empty) next
    (answer_to p.follower p.request (contents.ReadReply p.from c.global (read_ops c p.from p.max_ops p.max_bytes))))) other
    ∙ ap (λ (told : List Frame). hears heard.History next told) (sym is)

own-read : (s : Leader) (p : Poll) (c : Copy) (next : Leader) → bytes_eq p.history s.history ≡ true
    → answer_read s p c next
    ≡ (if nat_lt p.from c.floor then hears (heard.Missing p.from c.floor) next (answer_to p.follower p.request (contents.ReadMissing p.from c.floor))
    else hears (if nat_lt p.from c.global then heard.Done else heard.Empty) next
    (answer_to p.follower p.request (contents.ReadReply p.from c.global (read_ops c p.from p.max_ops p.max_bytes))))
own-read s p c next own =
    ap (λ (b : Bool). if not b then hears heard.History next (answer_to p.follower p.request (contents.ReadHistory s.history))
    else (if nat_lt p.from c.floor then hears (heard.Missing p.from c.floor) next (answer_to p.follower p.request (contents.ReadMissing p.from c.floor))
    else hears (if nat_lt p.from c.global then heard.Done else heard.Empty) next
    (answer_to p.follower p.request (contents.ReadReply p.from c.global (read_ops c p.from p.max_ops p.max_bytes))))) own

-- what a cut is tells how it came to it
missing-by : (below more : Bool) (from floor own_from own_floor global : ℕ) (ops : List Operation) (told : ℕ → ℕ → Outcome Leader) (other : Outcome Leader) (found : Cut)
    → found ≡ (if below then Missing own_from own_floor else if more then Ops ops global else Wait global) → found ≡ Missing from floor
    → (if below then told own_from own_floor else other) ≡ told from floor
missing-by true more from floor own_from own_floor global ops told other found is missing =
    let a : own_from ≡ from = cc in
    let b : own_floor ≡ floor = cc in
    ap (λ (n : ℕ). told n own_floor) a ∙ ap (told from) b
missing-by false true from floor own_from own_floor global ops told other found is missing = absurd cc
missing-by false false from floor own_from own_floor global ops told other found is missing = absurd cc

ops-by : (below more : Bool) (own_from own_floor own_global global : ℕ) (ops list : List Operation) (missing : Outcome Leader) (told : Hearing → ℕ → List Operation → Outcome Leader) (found : Cut)
    → found ≡ (if below then Missing own_from own_floor else if more then Ops ops own_global else Wait own_global) → found ≡ Ops list global
    → (if below then missing else told (if more then heard.Done else heard.Empty) own_global ops) ≡ told heard.Done global list
ops-by true more own_from own_floor own_global global ops list missing told found is brings = absurd cc
ops-by false true own_from own_floor own_global global ops list missing told found is brings =
    let a : own_global ≡ global = cc in
    let b : ops ≡ list = cc in
    ap (λ (n : ℕ). told heard.Done n ops) a ∙ ap (told heard.Done global) b
ops-by false false own_from own_floor own_global global ops list missing told found is brings = absurd cc

wait-by : (below more : Bool) (own_from own_floor own_global global : ℕ) (ops : List Operation) (missing : Outcome Leader) (told : Hearing → ℕ → List Operation → Outcome Leader) (found : Cut)
    → (more ≡ false → ops ≡ []) → found ≡ (if below then Missing own_from own_floor else if more then Ops ops own_global else Wait own_global) → found ≡ Wait global
    → (if below then missing else told (if more then heard.Done else heard.Empty) own_global ops) ≡ told heard.Empty global []
wait-by true more own_from own_floor own_global global ops missing told found none is waits = absurd cc
wait-by false true own_from own_floor own_global global ops missing told found none is waits = absurd cc
wait-by false false own_from own_floor own_global global ops missing told found none is waits =
    let a : own_global ≡ global = cc in
    ap (λ (n : ℕ). told heard.Empty n ops) a ∙ ap (told heard.Empty global) (none refl)

pub missing-read : (s : Leader) (p : Poll) (c : Copy) (next : Leader) (found : Cut) (from floor : ℕ) (sent : List Frame) → bytes_eq p.history s.history ≡ true → found ≡ cut_at p c
    → found ≡ Missing from floor → sent ≡ answer_to p.follower p.request (contents.ReadMissing from floor) → answer_read s p c next ≡ hears (heard.Missing from floor) next sent
missing-read s p c next found from floor sent own is missing told =
    own-read s p c next own
    ∙ missing-by (nat_lt p.from c.floor) (nat_lt p.from c.global) from floor p.from c.floor c.global (read_ops c p.from p.max_ops p.max_bytes)
    (λ (a b : ℕ). hears (heard.Missing a b) next (answer_to p.follower p.request (contents.ReadMissing a b)))
    (hears (if nat_lt p.from c.global then heard.Done else heard.Empty) next
    (answer_to p.follower p.request (contents.ReadReply p.from c.global (read_ops c p.from p.max_ops p.max_bytes))))
    found is missing
    ∙ ap (λ (ms : List Frame). hears (heard.Missing from floor) next ms) (sym told)

pub ops-read : (s : Leader) (p : Poll) (c : Copy) (next : Leader) (found : Cut) (list : List Operation) (global : ℕ) (sent : List Frame) → bytes_eq p.history s.history ≡ true → found ≡ cut_at p c
    → found ≡ Ops list global → sent ≡ answer_to p.follower p.request (contents.ReadReply p.from global list) → answer_read s p c next ≡ hears heard.Done next sent
ops-read s p c next found list global sent own is brings told =
    own-read s p c next own
    ∙ ops-by (nat_lt p.from c.floor) (nat_lt p.from c.global) p.from c.floor c.global global (read_ops c p.from p.max_ops p.max_bytes) list
    (hears (heard.Missing p.from c.floor) next (answer_to p.follower p.request (contents.ReadMissing p.from c.floor)))
    (λ (what : Hearing) (n : ℕ) (ops : List Operation). hears what next (answer_to p.follower p.request (contents.ReadReply p.from n ops)))
    found is brings
    ∙ ap (λ (ms : List Frame). hears heard.Done next ms) (sym told)

pub wait-read : (s : Leader) (p : Poll) (c : Copy) (next : Leader) (found : Cut) (global : ℕ) (sent : List Frame) → bytes_eq p.history s.history ≡ true → found ≡ cut_at p c
    → found ≡ Wait global → sent ≡ answer_to p.follower p.request (contents.ReadReply p.from global []) → answer_read s p c next ≡ hears heard.Empty next sent
wait-read s p c next found global sent own is waits told =
    own-read s p c next own
    ∙ wait-by (nat_lt p.from c.floor) (nat_lt p.from c.global) p.from c.floor c.global global (read_ops c p.from p.max_ops p.max_bytes)
    (hears (heard.Missing p.from c.floor) next (answer_to p.follower p.request (contents.ReadMissing p.from c.floor)))
    (λ (what : Hearing) (n : ℕ) (ops : List Operation). hears what next (answer_to p.follower p.request (contents.ReadReply p.from n ops)))
    found (cut-over (held c.store) p.from c.global p.max_ops p.max_bytes) is waits
    ∙ ap (λ (ms : List Frame). hears heard.Empty next ms) (sym told)

-- the operations of a reply have their numbers one after the other
begins-by : (below more : Bool) (from own_from own_floor own_global global : ℕ) (ops list : List Operation) (found : Cut) → IsRun from ops
    → found ≡ (if below then Missing own_from own_floor else if more then Ops ops own_global else Wait own_global) → found ≡ Ops list global → IsRun from list
begins-by true more from own_from own_floor own_global global ops list found begins is brings = absurd cc
begins-by false true from own_from own_floor own_global global ops list found begins is brings = let same : ops ≡ list = cc in subst (λ (xs : List Operation). IsRun from xs) same begins
begins-by false false from own_from own_floor own_global global ops list found begins is brings = absurd cc

pub ops-begin : (p : Poll) (c : Copy) (found : Cut) (list : List Operation) (global : ℕ) → found ≡ cut_at p c → found ≡ Ops list global → IsRun p.from list
ops-begin p c found list global is brings =
    begins-by (nat_lt p.from c.floor) (nat_lt p.from c.global) p.from p.from c.floor c.global global (read_ops c p.from p.max_ops p.max_bytes) list found
    (cut-begins (held c.store) p.from c.global p.max_ops p.max_bytes) is brings

-- ---- a read that comes

pub nowhere-row : (s : Leader) (p : Poll) (copy : ℕ) (found : Option Copy) → found ≡ None → read_row s p copy found ≡ refused s (NoCopy copy)
unfolding read_row
nowhere-row s p copy None none = refl
nowhere-row s p copy (Some c) none = absurd cc

pub parked-row : (s : Leader) (p : Poll) (copy : ℕ) (found : Option Copy) (c : Copy) (polls : List Poll) (sent : List Frame) → found ≡ Some c → has_to_wait s p c ≡ true
    → polls ≡ s.polls ++ p ∷ [] → sent ≡ [] → read_row s p copy found ≡ hears heard.Parked (record s { polls = polls }) sent
unfolding read_row
parked-row s p copy None c polls sent there waits is none = absurd cc
parked-row s p copy (Some own) c polls sent there waits is none =
    let same : c ≡ own = cc in
    let wait : has_to_wait s p own ≡ true = subst (λ (x : Copy). has_to_wait s p x ≡ true) same waits in
    ap (λ (b : Bool). if b then hears heard.Parked (record s { polls = s.polls ++ p ∷ [] }) [] else answer_read s p own s) wait
    ∙ ap (λ (ps : List Poll). hears heard.Parked (record s { polls = ps }) []) (sym is)
    ∙ ap (λ (ms : List Frame). hears heard.Parked (record s { polls = polls }) ms) (sym none)

pub answered-row : (s : Leader) (p : Poll) (copy : ℕ) (found : Option Copy) (c : Copy) (what : Hearing) (sent : List Frame) → found ≡ Some c → has_to_wait s p c ≡ false
    → answer_read s p c s ≡ hears what s sent → read_row s p copy found ≡ hears what s sent
unfolding read_row
answered-row s p copy None c what sent there goes told = absurd cc
answered-row s p copy (Some own) c what sent there goes told =
    let same : c ≡ own = cc in
    let now : has_to_wait s p own ≡ false = subst (λ (x : Copy). has_to_wait s p x ≡ false) same goes in
    ap (λ (b : Bool). if b then hears heard.Parked (record s { polls = s.polls ++ p ∷ [] }) [] else answer_read s p own s) now
    ∙ (ap (λ (x : Copy). answer_read s p x s) (sym same) ∙ told)

-- the copy of a number has it
pub number-of : (s : Copies) (copy : ℕ) (c : Copy) → copy_of s copy ≡ Some c → c.number ≡ copy
number-of s copy c is = by_primary (s.primary.number == copy) refl is
  where
    by_found : (found : Option Replica) → replica_of s copy ≡ found → option_map {T = Replica} {U = Copy} (λ r. r.copy) found ≡ Some c → c.number ≡ copy
    by_found None at some = absurd cc
    by_found (Some r) at some =
        let own : r.copy ≡ c = cc in
        ap (λ (x : Copy). x.number) (sym own)
        ∙ eqb-true r.copy.number copy (All-find (λ (x : Replica). Unit {0}) (λ (x : Replica). x.copy.number == copy) s.replicas r (All-every (λ (x : Replica). Unit {0}) (λ x. tt) s.replicas) at).1

    by_primary : (b : Bool) → (s.primary.number == copy) ≡ b → (if b then Some s.primary else option_map {T = Replica} {U = Copy} (λ r. r.copy) (replica_of s copy)) ≡ Some c → c.number ≡ copy
    by_primary true at some = let own : s.primary ≡ c = cc in ap (λ (x : Copy). x.number) (sym own) ∙ eqb-true s.primary.number copy at
    by_primary false at some = by_found (replica_of s copy) refl some

-- ---- a read that waits

pub pollless-row : (s : Leader) (follower : List ℕ) (at : ℕ) → slice_get (polls_of s.polls follower) at ≡ None → leader_wake s follower at ≡ refused s (NoPoll at)
unfolding wake_row
pollless-row s follower at none = ap (λ (found : Option Poll). wake_row s follower at found (polled_copy s.copies found)) none

pub copyless-row : (s : Leader) (follower : List ℕ) (at : ℕ) (p : Poll) → slice_get (polls_of s.polls follower) at ≡ Some p → copy_of s.copies p.copy ≡ None
    → leader_wake s follower at ≡ refused s (NoPoll at)
unfolding wake_row
copyless-row s follower at p some none =
    ap (λ (found : Option Poll). wake_row s follower at found (polled_copy s.copies found)) some
    ∙ ap (λ (c : Option Copy). wake_row s follower at (Some p) c) none

staying-row : (s : Leader) (follower : List ℕ) (at : ℕ) (p : Poll) (c : Copy) → has_to_stay s p c ≡ true → wake_row s follower at (Some p) (Some c) ≡ refused s (Waits c.global)
unfolding wake_row guarded
staying-row s follower at p c stays =
    ap (λ (b : Bool). if b then refused s (Waits c.global) else answer_read s p c (record s { polls = without_poll follower at s.polls })) stays

waking-row : (s : Leader) (follower : List ℕ) (at : ℕ) (p : Poll) (c : Copy) → has_to_stay s p c ≡ false
    → wake_row s follower at (Some p) (Some c) ≡ answer_read s p c (record s { polls = without_poll follower at s.polls })
unfolding wake_row guarded
waking-row s follower at p c goes =
    ap (λ (b : Bool). if b then refused s (Waits c.global) else answer_read s p c (record s { polls = without_poll follower at s.polls })) goes

polled-row : (s : Leader) (follower : List ℕ) (at : ℕ) (p : Poll) (c : Copy) → slice_get (polls_of s.polls follower) at ≡ Some p → copy_of s.copies p.copy ≡ Some c
    → leader_wake s follower at ≡ wake_row s follower at (Some p) (Some c)
polled-row s follower at p c some there =
    ap (λ (found : Option Poll). wake_row s follower at found (polled_copy s.copies found)) some
    ∙ ap (λ (own : Option Copy). wake_row s follower at (Some p) own) there

pub waiting-row : (s : Leader) (follower : List ℕ) (at : ℕ) (p : Poll) (c : Copy) → slice_get (polls_of s.polls follower) at ≡ Some p → copy_of s.copies p.copy ≡ Some c
    → has_to_stay s p c ≡ true → leader_wake s follower at ≡ refused s (Waits c.global)
waiting-row s follower at p c some there stays = polled-row s follower at p c some there ∙ staying-row s follower at p c stays

pub woken-row : (s : Leader) (follower : List ℕ) (at : ℕ) (p : Poll) (c : Copy) (polls : List Poll) (what : Hearing) (sent : List Frame) → slice_get (polls_of s.polls follower) at ≡ Some p
    → copy_of s.copies p.copy ≡ Some c → has_to_stay s p c ≡ false → polls ≡ without_poll follower at s.polls
    → ((next : Leader) → answer_read s p c next ≡ hears what next sent) → leader_wake s follower at ≡ hears what (record s { polls = polls }) sent
woken-row s follower at p c polls what sent some there goes is told =
    polled-row s follower at p c some there
    ∙ waking-row s follower at p c goes
    ∙ told (record s { polls = without_poll follower at s.polls })
    ∙ ap (λ (ps : List Poll). hears what (record s { polls = ps }) sent) (sym is)
