-- What each event keeps of the leader's stale copies.
use Rattle.std.specs.List.{AllByRecursion}
use Rattle.std.proofs.Common.{◌≡◌, ℕ, ◌+◌, ◌-◌, ◌<◌, ◌≤◌, ◌==◌, true, false, nat_lt, if◌then◌else◌, Option, Some, is_some, List, [], ◌∷◌, ◌++◌, map, length, sym, ◌∙◌, ap, subst, arith}
use Rattle.std.proofs.lemmas.Bool.Decides.{nat_tests}
use Rattle.std.proofs.lemmas.Bool.{eqb-true}
use Rattle.ccr_op.specs.Operation.{Operation}
use Rattle.ccr_tracker.specs.Numbers.{has}
use Rattle.ccr_model.specs.Copies.{Copy, Replica, Copies, replica_of, replaced, without, changed_replica, changed_at}
use Rattle.ccr_model.specs.CopyRows.{unknown}
use Rattle.ccr_model.specs.Leaders.{most_stale, with_copy, with_stale}
use Rattle.ccr_model.specs.Given.{gave}
use Rattle.ccr_model.specs.Past.{Line}
use Rattle.ccr_law_copies.specs.Cores.{CoreOf, StaleOk, AreStale}
use Rattle.ccr_law_base.proofs.Lists.{All-weaker, All-push, All-map, All-replaced, All-without, All-changed, All-find, All-drop}
use Rattle.ccr_law_copies.proofs.Replicas.{gave-other, others-without}
use Rattle.ccr_law_copies.proofs.CopyChanges.{some-within}
use Rattle.ccr_law_copies.proofs.LeaderRows.{Found, found_in}

-- one list of claims on stale copies of another
weaker : (given more : ℕ → ℕ → Option Operation) (primary next new_primary new_next : ℕ) (replicas new : List Replica) (stale : List Copy)
    → ((c : Copy) → StaleOk (given c.number) primary next replicas c.number c.seen c.global → StaleOk (more c.number) new_primary new_next new c.number c.seen c.global)
    → AreStale given primary next replicas stale → AreStale more new_primary new_next new stale
weaker given more primary next new_primary new_next replicas new stale each all =
    All-weaker (λ (c : Copy). StaleOk (given c.number) primary next replicas c.number c.seen c.global) (λ (c : Copy). StaleOk (more c.number) new_primary new_next new c.number c.seen c.global)
    each stale all

-- a copy that isn't this stale one was given something
aside : (given : ℕ → ℕ → Option Operation) (copy : ℕ) (ops : ℕ → Option Operation) (primary next : ℕ) (replicas : List Replica) (c : Copy)
    → (c.number == copy) ≡ false → StaleOk (given c.number) primary next replicas c.number c.seen c.global
    → StaleOk (gave given copy ops c.number) primary next replicas c.number c.seen c.global
aside given copy ops primary next replicas c other ok =
    subst (λ (o : ℕ → Option Operation). StaleOk o primary next replicas c.number c.seen c.global) (sym (gave-other given copy ops c.number other)) ok

-- with other replicas, none of which has the number
beside : (ops : ℕ → Option Operation) (primary next new_primary new_next : ℕ) (replicas new : List Replica) (c : Copy)
    → (c.number == new_primary) ≡ false → next ≤ new_next → AllByRecursion (λ (r : Replica). (r.copy.number == c.number) ≡ false) new
    → StaleOk ops primary next replicas c.number c.seen c.global → StaleOk ops new_primary new_next new c.number c.seen c.global
beside ops primary next new_primary new_next replicas new c other le none ok = record {
  other = other;
  aside = none;
  old = let lt : c.number < next = ok.old in omega arith;
  ordered = ok.ordered;
  processed = ok.processed;
  numbered = ok.numbered;
  whole = ok.whole;
}

-- the number of a replica that was found is that of no stale copy
pub found_aside : (line : Line) (given : ℕ → ℕ → Option Operation) (s : Copies) (copy : ℕ) (r : Replica) (c : Copy) → CoreOf line given s → replica_of s copy ≡ Some r
    → StaleOk (given c.number) s.primary.number s.next s.replicas c.number c.seen c.global → (c.number == copy) ≡ false
found_aside line given s copy r c core found ok =
    let both : ((r.copy.number == c.number) ≡ false) × ((r.copy.number == copy) ≡ true)
    = All-find (λ (x : Replica). (x.copy.number == c.number) ≡ false) (λ x. x.copy.number == copy) s.replicas r ok.aside found in
    let same : r.copy.number ≡ copy = eqb-true r.copy.number copy both.1 in
    grind (arith, nat_tests, both, same)

-- ---- what the events change

-- the primary was given something
pub stale-primary : (given : ℕ → ℕ → Option Operation) (s : Copies) (ops : ℕ → Option Operation) (stale : List Copy)
    → AreStale given s.primary.number s.next s.replicas stale → AreStale (gave given s.primary.number ops) s.primary.number s.next s.replicas stale
stale-primary given s ops stale all =
    weaker given (gave given s.primary.number ops) s.primary.number s.next s.primary.number s.next s.replicas s.replicas stale
    (λ c ok. aside given s.primary.number ops s.primary.number s.next s.replicas c ok.other ok) all

-- a replica changed, which keeps its number
pub stale-replaced : (given : ℕ → ℕ → Option Operation) (s : Copies) (copy : ℕ) (new : Replica) (stale : List Copy) → (r : Replica) → replica_of s copy ≡ Some r
    → new.copy.number ≡ r.copy.number
    → AreStale given s.primary.number s.next s.replicas stale → AreStale given s.primary.number s.next (replaced copy new s.replicas) stale
stale-replaced given s copy new stale r found same all =
    weaker given given s.primary.number s.next s.primary.number s.next s.replicas (replaced copy new s.replicas) stale
    (λ c ok.
    let both : ((r.copy.number == c.number) ≡ false) × ((r.copy.number == copy) ≡ true)
    = All-find (λ (x : Replica). (x.copy.number == c.number) ≡ false) (λ x. x.copy.number == copy) s.replicas r ok.aside found in
    beside (given c.number) s.primary.number s.next s.primary.number s.next s.replicas (replaced copy new s.replicas) c ok.other (omega arith)
    (All-replaced (λ (x : Replica). (x.copy.number == c.number) ≡ false) copy new s.replicas (subst (λ (k : ℕ). (k == c.number) ≡ false) (sym same) both.0) ok.aside) ok) all

-- besides, it was given something
pub stale-given : (line : Line) (given : ℕ → ℕ → Option Operation) (s : Copies) (copy : ℕ) (r new : Replica) (ops : ℕ → Option Operation) (stale : List Copy)
    → CoreOf line given s → replica_of s copy ≡ Some r → new.copy.number ≡ r.copy.number
    → AreStale given s.primary.number s.next s.replicas stale → AreStale (gave given copy ops) s.primary.number s.next (replaced copy new s.replicas) stale
stale-given line given s copy r new ops stale core found same all =
    stale-replaced (gave given copy ops) s copy new stale r found same
    (weaker given (gave given copy ops) s.primary.number s.next s.primary.number s.next s.replicas s.replicas stale
    (λ c ok. aside given copy ops s.primary.number s.next s.replicas c (found_aside line given s copy r c core found ok) ok) all)

-- a replica became the primary
pub stale-promoted : (line : Line) (given : ℕ → ℕ → Option Operation) (s : Copies) (copy : ℕ) (r : Replica) (ops : ℕ → Option Operation) (stale : List Copy)
    → CoreOf line given s → replica_of s copy ≡ Some r
    → AreStale given s.primary.number s.next s.replicas stale
    → AreStale (gave given copy ops) r.copy.number s.next (map {A = Replica} {B = Replica} unknown (without copy s.replicas)) stale
stale-promoted line given s copy r ops stale core found all =
    let f : Found line given s.primary.number s.next copy r = found_in line given s copy r core found in
    weaker given (gave given copy ops) s.primary.number s.next r.copy.number s.next s.replicas (map {A = Replica} {B = Replica} unknown (without copy s.replicas)) stale
    (λ c ok.
    let other : (c.number == copy) ≡ false = found_aside line given s copy r c core found ok in
    aside given copy ops r.copy.number s.next (map {A = Replica} {B = Replica} unknown (without copy s.replicas)) c other
    (beside (given c.number) s.primary.number s.next r.copy.number s.next s.replicas (map {A = Replica} {B = Replica} unknown (without copy s.replicas)) c
    (subst (λ (k : ℕ). (c.number == k) ≡ false) (sym f.number) other) (omega arith)
    (All-map (λ (x : Replica). (x.copy.number == c.number) ≡ false) unknown (without copy s.replicas)
    (All-without (λ (x : Replica). (x.copy.number == c.number) ≡ false) copy s.replicas ok.aside)) ok)) all

-- a new copy came
pub stale-added : (given : ℕ → ℕ → Option Operation) (s : Copies) (ops : ℕ → Option Operation) (new : Replica) (stale : List Copy) → new.copy.number ≡ s.next
    → AreStale given s.primary.number s.next s.replicas stale → AreStale (gave given s.next ops) s.primary.number (s.next + 1) (s.replicas ++ new ∷ []) stale
stale-added given s ops new stale same all =
    weaker given (gave given s.next ops) s.primary.number s.next s.primary.number (s.next + 1) s.replicas (s.replicas ++ new ∷ []) stale
    (λ c ok.
    let lt : c.number < s.next = ok.old in
    aside given s.next ops s.primary.number (s.next + 1) (s.replicas ++ new ∷ []) c (grind (arith, nat_tests))
    (beside (given c.number) s.primary.number s.next s.primary.number (s.next + 1) s.replicas (s.replicas ++ new ∷ []) c ok.other (omega arith)
    (All-push (λ (x : Replica). (x.copy.number == c.number) ≡ false) s.replicas new ok.aside (grind (arith, nat_tests, same))) ok)) all

-- a change inside a copy
pub stale-inside : (given : ℕ → ℕ → Option Operation) (s : Copies) (copy : ℕ) (change : Copy → Copy) (stale : List Copy) → ((c : Copy) → (change c).number ≡ c.number)
    → AreStale given s.primary.number s.next s.replicas stale
    → AreStale given (changed_at copy change s).primary.number (changed_at copy change s).next (changed_at copy change s).replicas stale
stale-inside given s copy change stale same all =
    (elim (s.primary.number == copy) as (λ b. AreStale given (if b then record s { primary = change s.primary } else record s { replicas = changed_replica copy change s.replicas }).primary.number
    (if b then record s { primary = change s.primary } else record s { replicas = changed_replica copy change s.replicas }).next
    (if b then record s { primary = change s.primary } else record s { replicas = changed_replica copy change s.replicas }).replicas stale) [
      | true ↦ subst (λ (k : ℕ). AreStale given k s.next s.replicas stale) (sym (same s.primary)) all
      | false ↦ weaker given given s.primary.number s.next s.primary.number s.next s.replicas (changed_replica copy change s.replicas) stale
          (λ c ok. beside (given c.number) s.primary.number s.next s.primary.number s.next s.replicas (changed_replica copy change s.replicas) c ok.other (omega arith)
          (All-changed (λ (x : Replica). (x.copy.number == c.number) ≡ false) (λ (x : Replica). (x.copy.number == c.number) ≡ false) copy change (λ x h. h)
          (λ x at h. subst (λ (k : ℕ). (k == c.number) ≡ false) (sym (same x.copy)) h) s.replicas ok.aside) ok) all
    ])

-- ---- a copy that leaves

pub All-with_copy : (P : Copy → Type 0) (c : Copy) (xs : List Copy) → P c → AllByRecursion P xs → AllByRecursion P (with_copy c xs)
All-with_copy P c [] own all = (own, tt)
All-with_copy P c (x ∷ xs) own all =
    (elim (nat_lt c.number x.number) as (λ b. AllByRecursion P (if b then c ∷ x ∷ xs else x ∷ with_copy c xs)) [
      | true ↦ (own, all)
      | false ↦ (all.0, All-with_copy P c xs own all.1)
    ])

pub All-with_stale : (P : Copy → Type 0) (c : Copy) (xs : List Copy) → P c → AllByRecursion P xs → AllByRecursion P (with_stale c xs)
All-with_stale P c xs own all = All-drop P (length (with_copy c xs) - most_stale) (with_copy c xs) (All-with_copy P c xs own all)

pub stale-left : (line : Line) (given : ℕ → ℕ → Option Operation) (s : Copies) (copy : ℕ) (r : Replica) (stale : List Copy) → CoreOf line given s → replica_of s copy ≡ Some r
    → AreStale given s.primary.number s.next s.replicas stale → AreStale given s.primary.number s.next (without copy s.replicas) (with_stale r.copy stale)
stale-left line given s copy r stale core found all =
    let f : Found line given s.primary.number s.next copy r = found_in line given s copy r core found in
    All-with_stale (λ (c : Copy). StaleOk (given c.number) s.primary.number s.next (without copy s.replicas) c.number c.seen c.global) r.copy stale
    record {
      other = subst (λ (k : ℕ). (k == s.primary.number) ≡ false) (sym f.number) f.other;
      aside = subst (λ (k : ℕ). AllByRecursion (λ (x : Replica). (x.copy.number == k) ≡ false) (without copy s.replicas)) (sym f.number)
          (others-without copy s.replicas core.rest.apart);
      old = f.replica.old;
      ordered = f.replica.ordered;
      processed = subst (λ (k : ℕ). (n : ℕ) → has r.copy.seen n ≡ is_some (given k n)) (sym f.number) f.replica.processed;
      numbered = subst (λ (k : ℕ). (n : ℕ) (op : Operation) → given k n ≡ Some op → op.seq ≡ n) (sym f.number) f.replica.numbered;
      whole = subst (λ (k : ℕ). (n : ℕ) → n < r.copy.global → is_some (given k n) ≡ true) (sym f.number)
          (λ n lt.
          let low : r.copy.global ≤ line.cut = f.replica.low in
          let full : line.cut ≤ length line.ops = core.rest.primary.full in
          let inside : nat_lt n (length line.ops) ≡ true = (let less : n < length line.ops = omega arith in grind (arith, nat_tests)) in
          ap (λ (o : Option Operation). is_some o) (f.replica.committed n (omega arith)) ∙ (some-within line.ops n ∙ inside));
    }
    (weaker given given s.primary.number s.next s.primary.number s.next s.replicas (without copy s.replicas) stale
    (λ c ok. beside (given c.number) s.primary.number s.next s.primary.number s.next s.replicas (without copy s.replicas) c ok.other (omega arith)
    (All-without (λ (x : Replica). (x.copy.number == c.number) ≡ false) copy s.replicas ok.aside) ok) all)
