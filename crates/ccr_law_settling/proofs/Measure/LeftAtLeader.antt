-- Where nothing may be done, the leader is ready, its copies are whole, and nothing is in flight.
use Rattle.std.specs.List.{AllByRecursion, list_all}
use Rattle.std.specs.Prelude.{slice_get, find}
use Rattle.std.specs.Option.{option_map, option_map_or}
use Rattle.std.proofs.Common.{is_none, ◌≡◌, ℕ, ◌≤◌, ◌==◌, ◌&&◌, ◌||◌, not, nat_lt, nat_le, Bool, true, false, Option, Some, None, List, [], ◌∷◌, map, length, is_some, refl, sym, ◌∙◌, ap, subst, arith}
use Rattle.std.proofs.lemmas.Bool.Decides.{nat_tests}
use Rattle.ccr_tracker.specs.Numbers.{Numbers, has, IsCanonical}
use Rattle.ccr_lease.specs.Leases.{supersedes}
use Rattle.ccr_wire.specs.Message.{Frame}
use Rattle.ccr_journal.specs.declared.sides.Side.TheVariants as sides
use Rattle.ccr_journal.specs.declared.events.Event.TheVariants as events
use Rattle.ccr_model.specs.Copies.{Copy, Replica, Copies, least_known, not_ready}
use Rattle.ccr_model.specs.Settled.{is_whole}
use Rattle.ccr_model.specs.Settling.{may_replicate, may_ack, may_sync, may_resync}
use Rattle.ccr_model.specs.Past.{Past}
use Rattle.ccr_law_copies.specs.Cores.{Apart, IsReplica, IsCore}
use Rattle.ccr_law_base.proofs.Lists.{All-weaker, All-both}
use Rattle.ccr_law_base.proofs.Tests.{itself, other_turned, or_first, or_second}
use Rattle.ccr_law_copies.proofs.Sets.{count_absent, or_false}
use Rattle.ccr_law_settling.specs.Left.{NothingMayBeDone, IsLeaderSettled}
use Rattle.std.proofs.lemmas.Bool.{not-false, ltb-false}

-- each replica is found by its number
pub found_itself : (rs : List Replica) → Apart rs → AllByRecursion (λ (r : Replica). find (λ (x : Replica). x.copy.number == r.copy.number) rs ≡ Some r) rs
found_itself [] apart = tt
found_itself (r ∷ rs) apart = (
  rw (itself r.copy.number) refl,
  All-weaker (λ (x : Replica). ((x.copy.number == r.copy.number) ≡ false) × (find (λ (y : Replica). y.copy.number == x.copy.number) rs ≡ Some x))
      (λ (x : Replica). find (λ (y : Replica). y.copy.number == x.copy.number) (r ∷ rs) ≡ Some x)
      (λ x both. rw (other_turned x.copy.number r.copy.number both.0) both.1)
      rs (All-both (λ (x : Replica). (x.copy.number == r.copy.number) ≡ false) (λ (x : Replica). find (λ (y : Replica). y.copy.number == x.copy.number) rs ≡ Some x) rs apart.0 (found_itself rs apart.1)),
)

-- what is true of a replica with which nothing may be done
record IsDone (count global : ℕ) (r : Replica) : Type 0 where
  resynced : r.resynced ≡ true
  acked : r.acked ≡ true
  counted : count ≤ r.copy.seen.count
  known : count ≤ r.known
  taught : global ≤ r.copy.global

done : (count : ℕ) (s : Copies) (r : Replica) → s.primary.seen ≡ record { count = count; above = [] } → IsCanonical r.copy.seen
    → may_resync s r ≡ false → may_ack s r ≡ false → may_sync s r ≡ false → ((seq : ℕ) → may_replicate seq s r ≡ false) → IsDone count s.primary.global r
done count s r gapless canonical resync ack sync replicate =
    let resynced : r.resynced ≡ true = not-false r.resynced resync in
    let acks : (nat_lt r.known r.copy.seen.count || not r.acked) ≡ false = under r.resynced _ resynced ack in
    let syncs : (nat_lt r.copy.global s.primary.global || supersedes s.primary.leases r.copy.leases) ≡ false = under r.resynced _ resynced sync in
    let known : r.copy.seen.count ≤ r.known = ltb-false r.known r.copy.seen.count (or_first _ _ acks) in
    let counted : count ≤ r.copy.seen.count = ltb-false r.copy.seen.count count (primary_lacks (replicate r.copy.seen.count) resynced) in
    record {
      resynced = resynced;
      acked = not-false r.acked (or_second _ _ acks);
      counted = counted;
      known = omega arith;
      taught = ltb-false r.copy.global s.primary.global (or_first _ _ syncs);
    }
  where
    under : (a b : Bool) → a ≡ true → (a && b) ≡ false → b ≡ false
    under true b is both = both
    under false b is both = cc

    three : (a b c : Bool) → a ≡ true → c ≡ false → ((a && b) && not c) ≡ false → b ≡ false
    three true true false first last is = cc
    three true true true first last is = cc
    three true false c first last is = refl
    three false b c first last is = cc

    primary_lacks : may_replicate r.copy.seen.count s r ≡ false → r.resynced ≡ true → nat_lt r.copy.seen.count count ≡ false
    primary_lacks none resynced =
        let out : has s.primary.seen r.copy.seen.count ≡ false = three r.resynced (has s.primary.seen r.copy.seen.count) (has r.copy.seen r.copy.seen.count) resynced (count_absent r.copy.seen canonical) none in
        let at : has (record { count = count; above = [] }) r.copy.seen.count ≡ false = subst (λ (seen : Numbers). has seen r.copy.seen.count ≡ false) gapless out in
        or_false (nat_lt r.copy.seen.count count) ∙ at

all_ready : (count global : ℕ) (rs : List Replica) → AllByRecursion (IsDone count global) rs → find (λ (r : Replica). not (r.resynced && r.acked)) rs ≡ None
all_ready count global [] all = refl
all_ready count global (r ∷ rs) all = rw all.0.resynced (rw all.0.acked (all_ready count global rs all.1))

all_known : (count global own : ℕ) (rs : List Replica) → count ≤ own → AllByRecursion (IsDone count global) rs → count ≤ least_known own rs
all_known count global own [] le all = le
all_known count global own (r ∷ rs) le all =
    let here : count ≤ r.known = all.0.known in
    let rest : count ≤ least_known own rs = all_known count global own rs le all.1 in
    omega arith

all_whole : (count global : ℕ) (rs : List Replica) → count ≤ global → AllByRecursion (λ (r : Replica). IsDone count global r × (r.copy.global ≤ count)) rs
    → list_all (is_whole count) (map {A = Replica} {B = Copy} (λ r. r.copy) rs) ≡ true
all_whole count global [] le all = refl
all_whole count global (r ∷ rs) le all =
    let counted : count ≤ r.copy.seen.count = all.0.0.counted in
    let taught : global ≤ r.copy.global = all.0.0.taught in
    let low : r.copy.global ≤ count = all.0.1 in
    let first : nat_le count r.copy.seen.count ≡ true = grind (arith, nat_tests) in
    let second : (r.copy.global == count) ≡ true = grind (arith, nat_tests) in
    rw first (rw second (all_whole count global rs le all.1))

pub leader_left : (p : Past) → IsCore p → NothingMayBeDone p.state → IsLeaderSettled p.state
leader_left p core alone = record {
  ready = is_ready;
  whole = rw (nat_le_itself count) (rw whole_global (all_whole count s.primary.global s.replicas high
      (All-both (IsDone count s.primary.global) (λ (r : Replica). r.copy.global ≤ count) s.replicas all_done
      (All-weaker (λ (r : Replica). IsReplica p.line s.primary.number s.next (p.given r.copy.number) r) (λ (r : Replica). r.copy.global ≤ count)
      (λ r ok. (let low : r.copy.global ≤ p.line.cut = ok.low in let full : p.line.cut ≤ length p.line.ops = core.rest.primary.full in let e : count ≡ length p.line.ops = counts in omega arith))
      s.replicas core.rest.replicas_ok))));
  taken = none p.state.flight (is_none (not_ready p.state.leader.copies)) (ap (λ (o : Option ℕ). is_none o) is_ready) (alone (events.Deliver 0 s.primary.number false));
}
  where
    s : Copies
    s = p.state.leader.copies

    count : ℕ
    count = p.state.leader.copies.primary.seen.count

    counts : p.state.leader.copies.primary.seen.count ≡ length p.line.ops
    counts = ap (λ (x : Numbers). x.count) core.rest.primary.gapless

    nat_le_itself : (n : ℕ) → nat_le n n ≡ true
    nat_le_itself n = grind (arith, nat_tests)

    gapless : p.state.leader.copies.primary.seen ≡ record { count = p.state.leader.copies.primary.seen.count; above = [] }
    gapless = subst (λ n. p.state.leader.copies.primary.seen ≡ record { count = n; above = [] }) (sym counts) core.rest.primary.gapless

    all_done : AllByRecursion (IsDone p.state.leader.copies.primary.seen.count p.state.leader.copies.primary.global) p.state.leader.copies.replicas
    all_done = All-weaker
        (λ (r : Replica). (find (λ (x : Replica). x.copy.number == r.copy.number) p.state.leader.copies.replicas ≡ Some r)
        × IsReplica p.line p.state.leader.copies.primary.number p.state.leader.copies.next (p.given r.copy.number) r)
        (IsDone p.state.leader.copies.primary.seen.count p.state.leader.copies.primary.global)
        (λ r both. done p.state.leader.copies.primary.seen.count p.state.leader.copies r gapless both.1.ordered
        (subst (λ (o : Option Replica). option_map_or (may_resync p.state.leader.copies) o false ≡ false) both.0 (alone (events.Resync r.copy.number)))
        (subst (λ (o : Option Replica). option_map_or (may_ack p.state.leader.copies) o false ≡ false) both.0 (alone (events.Ack sides.Leader r.copy.number)))
        (subst (λ (o : Option Replica). option_map_or (may_sync p.state.leader.copies) o false ≡ false) both.0 (alone (events.Sync sides.Leader r.copy.number)))
        (λ seq. subst (λ (o : Option Replica). option_map_or (may_replicate seq p.state.leader.copies) o false ≡ false) both.0 (alone (events.Replicate sides.Leader r.copy.number seq))))
        p.state.leader.copies.replicas
        (All-both (λ (r : Replica). find (λ (x : Replica). x.copy.number == r.copy.number) p.state.leader.copies.replicas ≡ Some r)
        (λ (r : Replica). IsReplica p.line p.state.leader.copies.primary.number p.state.leader.copies.next (p.given r.copy.number) r)
        p.state.leader.copies.replicas (found_itself p.state.leader.copies.replicas core.rest.apart) core.rest.replicas_ok)

    is_ready : not_ready p.state.leader.copies ≡ None
    is_ready = ap (λ (o : Option Replica). option_map {T = Replica} {U = ℕ} (λ r. r.copy.number) o)
        (all_ready p.state.leader.copies.primary.seen.count p.state.leader.copies.primary.global p.state.leader.copies.replicas all_done)

    none : (flight : List Frame) (ready : Bool) → ready ≡ true
        → (((is_some (slice_get flight 0) && (p.state.leader.copies.primary.number == p.state.leader.copies.primary.number)) && true) && ready) ≡ false → flight ≡ []
    none [] ready yet is = refl
    none (m ∷ flight) ready yet is =
        let same : (p.state.leader.copies.primary.number == p.state.leader.copies.primary.number) ≡ true = itself p.state.leader.copies.primary.number in
        absurd (contrary (p.state.leader.copies.primary.number == p.state.leader.copies.primary.number) ready same yet is)
      where
        contrary : (b c : Bool) → b ≡ true → c ≡ true → (((true && b) && true) && c) ≡ false → ⊥
        contrary true true e g is = cc
        contrary true false e g is = cc
        contrary false c e g is = cc

    high : p.state.leader.copies.primary.seen.count ≤ p.state.leader.copies.primary.global
    high =
        let known : p.state.leader.copies.primary.seen.count ≤ least_known p.state.leader.copies.primary.seen.count p.state.leader.copies.replicas
        = all_known p.state.leader.copies.primary.seen.count p.state.leader.copies.primary.global p.state.leader.copies.primary.seen.count p.state.leader.copies.replicas (omega arith) all_done in
        let counted : least_known p.state.leader.copies.primary.seen.count p.state.leader.copies.replicas ≤ p.state.leader.copies.primary.global = core.counted in
        omega arith

    whole_global : (p.state.leader.copies.primary.global == p.state.leader.copies.primary.seen.count) ≡ true
    whole_global =
        let low : p.state.leader.copies.primary.global ≤ p.line.cut = core.rest.primary.known in
        let full : p.line.cut ≤ length p.line.ops = core.rest.primary.full in
        let e : p.state.leader.copies.primary.seen.count ≡ length p.line.ops = counts in
        let up : p.state.leader.copies.primary.seen.count ≤ p.state.leader.copies.primary.global = high in
        equal p.state.leader.copies.primary.global p.state.leader.copies.primary.seen.count (omega arith) up
      where
        equal : (a b : ℕ) → a ≤ b → b ≤ a → (a == b) ≡ true
        equal a b le ge = grind (arith, nat_tests)
