-- Where no kept request is due an answer, an event answers none beside its own.
use Rattle.std.specs.Prelude.{filter, find, is_some}
use Rattle.std.specs.Option.{option_map}
use Rattle.std.specs.List.{AllByRecursion, list_all}
use Rattle.std.specs.Str.{bytes_eq}
use Rattle.std.proofs.Common.{◌≡◌, ℕ, Bool, true, false, not, ◌&&◌, cond, if◌then◌else◌, Option, Some, None, List, [], ◌∷◌, ◌++◌, map, refl, sym, ◌∙◌, ap, subst}
use Rattle.std.proofs.lemmas.List.{append-nil}
use Rattle.ccr_lease.specs.declared.retention.Lease.{Lease}
use Rattle.ccr_lease.specs.Leases.{Collection, lease_of, renewed, without}
use Rattle.ccr_wire.specs.Message.{Frame}
use Rattle.ccr_journal.specs.declared.replies.Heard.{Heard as Hearing}
use Rattle.ccr_law_base.proofs.Cases.{on_if}
use Rattle.ccr_law_base.proofs.Lists.{All-weaker, All-push}
use Rattle.ccr_model.specs.Outcomes.{Outcome}
use Rattle.ccr_model.specs.Copies.{Copy, Copies, all_copies, has_lease, lacks_lease}
use Rattle.ccr_model.specs.Leaders.{Leader, KeptRequest}
use Rattle.ccr_model.specs.LeaderRows.{all_hold, lease_answer, settling_requests}
use Rattle.ccr_model.specs.LeaderFrames.{hears}
use Rattle.ccr_law_settling_grounds.specs.Parked.{AreKeptRightly}
use Rattle.ccr_copies.specs.Leased.{re_leased, released}
use Rattle.ccr_copies.specs.Changes.{with_leases}

-- ---- nothing is due

filter-none : {X : Type 0} (test : X → Bool) (xs : List X) → AllByRecursion (λ x. test x ≡ false) xs → filter test xs ≡ []
filter-none test [] all = refl
filter-none test (x ∷ xs) all = rw all.0 (filter-none test xs all.1)

filter-all : {X : Type 0} (test : X → Bool) (xs : List X) → AllByRecursion (λ x. test x ≡ false) xs → filter (λ x. not (test x)) xs ≡ xs
filter-all test [] all = refl
filter-all test (x ∷ xs) all = rw all.0 (ap (λ (ys : List _). x ∷ ys) (filter-all test xs all.1))

pub none-due : (s : Copies) (kept : List KeptRequest) → AreKeptRightly s kept → filter (λ k. all_hold k.id s) kept ≡ []
none-due s kept are = filter-none (λ (k : KeptRequest). all_hold k.id s) kept are

pub all-left : (s : Copies) (kept : List KeptRequest) → AreKeptRightly s kept → filter (λ k. not (all_hold k.id s)) kept ≡ kept
all-left s kept are = filter-all (λ (k : KeptRequest). all_hold k.id s) kept are

-- so no answer is added
pub none-added : (s : Copies) (kept : List KeptRequest) (sent : List Frame) → AreKeptRightly s kept
    → sent ++ map {A = KeptRequest} {B = Frame} (lease_answer s) (filter (λ k. all_hold k.id s) kept) ≡ sent
none-added s kept sent are =
    ap (λ (due : List KeptRequest). sent ++ map {A = KeptRequest} {B = Frame} (lease_answer s) due) (none-due s kept are) ∙ append-nil sent

pub settled : (what : Hearing) (next : Leader) (sent : List Frame) → AreKeptRightly next.copies next.kept → settling_requests (hears what next sent) ≡ hears what next sent
settled what next sent are =
    ap (λ (ks : List KeptRequest). hears what (record next { kept = ks }) (sent ++ map {A = KeptRequest} {B = Frame} (lease_answer next.copies) (filter (λ k. all_hold k.id next.copies) next.kept)))
    (all-left next.copies next.kept are)
    ∙ ap (λ (told : List Frame). hears what next told) (none-added next.copies next.kept sent are)

pub settled-row : (o : Outcome Leader) (what : Hearing) (next : Leader) (sent : List Frame) → o ≡ hears what next sent → AreKeptRightly next.copies next.kept
    → settling_requests o ≡ hears what next sent
settled-row o what next sent is are = ap settling_requests is ∙ settled what next sent are

-- ---- a lease that some copy lacks

lacked : {X Y : Type 0} (test : X → Bool) (f : X → Y) (xs : List X) (y : Y) → option_map f (find (λ x. not (test x)) xs) ≡ Some y → list_all test xs ≡ false
lacked test f [] y is = absurd cc
lacked test f (x ∷ xs) y is =
    (elim (test x) as (λ b. option_map f (cond (not b) (Some x) (find (λ x. not (test x)) xs)) ≡ Some y → (b && list_all test xs) ≡ false) [
      | true ↦ λ more. lacked test f xs y more
      | false ↦ λ here. refl
    ]) is

pub lacking-fails : (id : List ℕ) (s : Copies) (copy : ℕ) → lacks_lease id s ≡ Some copy → all_hold id s ≡ false
lacking-fails id s copy is = lacked (has_lease id) (λ (c : Copy). c.number) (all_copies s) copy is

-- the request for it is kept rightly
pub kept-more : (s : Copies) (kept : List KeptRequest) (k : KeptRequest) (copy : ℕ) → lacks_lease k.id s ≡ Some copy → AreKeptRightly s kept → AreKeptRightly s (kept ++ k ∷ [])
kept-more s kept k copy is are = All-push (λ (own : KeptRequest). all_hold own.id s ≡ false) kept k are (lacking-fails k.id s copy is)

pub kept-more_at : (s : Copies) (kept next : List KeptRequest) (k : KeptRequest) (id : List ℕ) (copy : ℕ) → next ≡ kept ++ k ∷ [] → k.id ≡ id → Some copy ≡ lacks_lease id s → AreKeptRightly s kept
    → AreKeptRightly s next
kept-more_at s kept next k id copy is own lacks are =
    subst (λ (ks : List KeptRequest). AreKeptRightly s ks) (sym is) (kept-more s kept k copy (ap (λ (i : List ℕ). lacks_lease i s) own ∙ sym lacks) are)

-- ---- the primary's leases, renewed or less

first-less : (a b c : Bool) → (a ≡ false → b ≡ false) → (a && c) ≡ false → (b && c) ≡ false
first-less true true c first fails = fails
first-less true false c first fails = refl
first-less false b c first fails = rw (first refl) refl

pub lacks-on : (s : Copies) (leases : Collection) (kept : List KeptRequest)
    → ((id : List ℕ) → is_some (lease_of id s.primary.leases.leases) ≡ false → is_some (lease_of id leases.leases) ≡ false)
    → AreKeptRightly s kept → AreKeptRightly (with_leases s leases) kept
lacks-on s leases kept less are =
    All-weaker (λ (k : KeptRequest). all_hold k.id s ≡ false) (λ (k : KeptRequest). all_hold k.id (with_leases s leases) ≡ false)
    (λ k fails. first-less (has_lease k.id s.primary) (is_some (lease_of k.id leases.leases)) (list_all (has_lease k.id) (map {A = _} {B = Copy} (λ r. r.copy) s.replicas)) (less k.id) fails)
    kept are

found-renewed : (id own : List ℕ) (number now : ℕ) (leases : List Lease) → is_some (lease_of id (renewed own number now leases)) ≡ is_some (lease_of id leases)
found-renewed id own number now [] = refl
found-renewed id own number now (lease ∷ leases) =
    let rest : is_some (lease_of id (renewed own number now leases)) ≡ is_some (lease_of id leases) = found-renewed id own number now leases in
    let new : Lease = if bytes_eq lease.id own then record lease { number = number; stamp = now } else lease in
    let same : bytes_eq new.id id ≡ bytes_eq lease.id id =
    on_if (λ (x : Lease). bytes_eq x.id id ≡ bytes_eq lease.id id) (bytes_eq lease.id own) (record lease { number = number; stamp = now }) lease (λ is. refl) (λ isnt. refl) in
    ap (λ (b : Bool). is_some (cond b (Some new) (lease_of id (renewed own number now leases)))) same
    ∙ (elim (bytes_eq lease.id id) as (λ b. is_some (cond b (Some new) (lease_of id (renewed own number now leases))) ≡ is_some (cond b (Some lease) (lease_of id leases))) [
      | true ↦ refl
      | false ↦ rest
    ])

pub kept-renewed : (s : Copies) (id : List ℕ) (number now : ℕ) (kept : List KeptRequest) → AreKeptRightly s kept → AreKeptRightly (with_leases s (re_leased id number now s.primary.leases)) kept
kept-renewed s id number now kept are =
    lacks-on s (re_leased id number now s.primary.leases) kept (λ other fails. found-renewed other id number now s.primary.leases.leases ∙ fails) are

none-filtered : {X : Type 0} (test keep : X → Bool) (xs : List X) → is_some (find test xs) ≡ false → is_some (find test (filter keep xs)) ≡ false
none-filtered test keep [] none = refl
none-filtered test keep (x ∷ xs) none =
    (elim (test x) as (λ b. test x ≡ b → is_some (cond b (Some x) (find test xs)) ≡ false → is_some (find test (filter keep (x ∷ xs))) ≡ false) [
      | true ↦ λ is some. absurd cc
      | false ↦ λ isnt some. on_if (λ (ys : List _). is_some (find test ys) ≡ false) (keep x) (x ∷ filter keep xs) (filter keep xs)
          (λ kept. rw isnt (none-filtered test keep xs some)) (λ gone. none-filtered test keep xs some)
    ]) refl none

pub kept-released : (s : Copies) (id : List ℕ) (kept : List KeptRequest) → AreKeptRightly s kept → AreKeptRightly (with_leases s (released id s.primary.leases)) kept
kept-released s id kept are =
    lacks-on s (released id s.primary.leases) kept
    (λ other fails. none-filtered (λ (lease : Lease). bytes_eq lease.id other) (λ (lease : Lease). not (bytes_eq lease.id id)) s.primary.leases.leases fails) are
