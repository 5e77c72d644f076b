-- What a settle makes of the outline, and that the steps before it make no difference.
use Rattle.std.specs.List.{AllByRecursion}
use Rattle.std.specs.Prelude.{slice_get}
use Rattle.std.proofs.Common.{◌≡◌, ℕ, ◌<◌, ◌≤◌, ◌==◌, ◌&&◌, nat_lt, Bool, true, Option, Some, None, is_some, List, [], ◌∷◌, map, length, refl, sym, ◌∙◌, ap, arith}
use Rattle.std.proofs.Math.Path.{fun_ext}
use Rattle.std.proofs.lemmas.Bool.{and_parts, eqb-true}
use Rattle.ccr_op.specs.Operation.{Operation}
use Rattle.ccr_tracker.specs.Numbers.{Numbers}
use Rattle.ccr_model.specs.Copies.{Replica, Copies, all_copies}
use Rattle.ccr_model.specs.Settled.{is_whole}
use Rattle.ccr_model.specs.Past.{Line, Past}
use Rattle.ccr_law_base.proofs.Cases.{on_if}
use Rattle.ccr_law_base.proofs.Lists.{All-both, All-every, All-find, get_within}
use Rattle.ccr_law_copies.specs.Cores.{IsReplica, IsLiving}
use Rattle.ccr_law_copies.proofs.Sets.{all_below}
use Rattle.ccr_law_copies.proofs.CopyChanges.{some-within}
use Rattle.ccr_law_leases.proofs.Finding.{All-pass}
use Rattle.ccr_law_settled.specs.Outlines.{ReplicaOutline, Outline, replica_at, in_place, whole_replica, copying, acking, resyncing, settling}
use Rattle.ccr_law_settled.proofs.AfterSettle.{IsSettledState, all_ready, whole_global}
use Rattle.ccr_law_settled.proofs.Outlined.{replica_outline, replica_outlines, outline_of}
use Rattle.ccr_law_settled.proofs.OutlineRows.{line_count}

-- ---- a settled state

-- a replica that knows of all, was resynced and acked
whole_is : (line : Line) (given : ℕ → ℕ → Option Operation) (primary next : ℕ) (r : Replica) → IsReplica line primary next (given r.copy.number) r → line.cut ≡ length line.ops
    → r.resynced ≡ true → r.acked ≡ true → replica_outline given r ≡ whole_replica line.ops r.copy.number
whole_is line given primary next r ok full resynced acked =
    ap (λ (own : ℕ → Option Operation). record { copy = record { number = r.copy.number; seen = r.copy.seen; ops = own }; known = r.known; resynced = r.resynced }) (fun_ext same)
    ∙ (ap (λ (seen : Numbers). record { copy = record { number = r.copy.number; seen = seen; ops = λ (n : ℕ). slice_get line.ops n }; known = r.known; resynced = r.resynced }) seen
    ∙ (ap (λ (k : ℕ). record { copy = record { number = r.copy.number; seen = record { count = length line.ops; above = [] }; ops = λ (n : ℕ). slice_get line.ops n }; known = k; resynced = r.resynced }) known
    ∙ ap (λ (b : Bool). record { copy = record { number = r.copy.number; seen = record { count = length line.ops; above = [] }; ops = λ (n : ℕ). slice_get line.ops n }; known = length line.ops; resynced = b }) resynced))
  where
    by_given : (n : ℕ) (o : Option Operation) → given r.copy.number n ≡ o → (n < line.cut → o ≡ slice_get line.ops n) → ((op : Operation) → o ≡ Some op → slice_get line.ops n ≡ Some op)
        → o ≡ slice_get line.ops n
    by_given n (Some op) is committed ours = sym (ours op refl)
    by_given n None is committed ours = by_line (slice_get line.ops n) refl
      where
        by_line : (l : Option Operation) → slice_get line.ops n ≡ l → None ≡ l
        by_line None at = refl
        by_line (Some op) at = let lt : n < length line.ops = get_within line.ops n op at in committed (omega (arith, full)) ∙ at

    same : (n : ℕ) → given r.copy.number n ≡ slice_get line.ops n
    same n = by_given n (given r.copy.number n) refl (ok.committed n) (ok.ours resynced n)

    seen : r.copy.seen ≡ record { count = length line.ops; above = [] }
    seen = all_below r.copy.seen (length line.ops) ok.ordered (λ n. ok.processed n ∙ (ap (λ (o : Option Operation). is_some o) (same n) ∙ some-within line.ops n))

    known : r.known ≡ length line.ops
    known =
        let most : r.known ≤ r.copy.seen.count = ok.truly in
        let least : line.cut ≤ r.known = ok.late acked in
        let count : r.copy.seen.count ≡ length line.ops = ap (λ (s : Numbers). s.count) seen in
        omega (arith, full)

whole_all : (line : Line) (given : ℕ → ℕ → Option Operation) (primary next : ℕ) (rs : List Replica)
    → AllByRecursion (λ (r : Replica). IsReplica line primary next (given r.copy.number) r × ((r.resynced && r.acked) ≡ true)) rs → line.cut ≡ length line.ops
    → replica_outlines given rs ≡ map {A = ReplicaOutline} {B = ReplicaOutline} (λ r. whole_replica line.ops r.copy.number) (replica_outlines given rs)
whole_all line given primary next [] all full = refl
whole_all line given primary next (r ∷ rs) all full =
    let both = and_parts r.resynced r.acked all.0.1 in
    ap (λ (x : ReplicaOutline). x ∷ replica_outlines given rs) (whole_is line given primary next r all.0.0 full both.0 both.1)
    ∙ ap (λ (xs : List ReplicaOutline). whole_replica line.ops r.copy.number ∷ xs) (whole_all line given primary next rs all.1 full)

-- where the world is settled, a settle makes nothing of the outline
pub settled_outline : (p : Past) → IsLiving p → IsSettledState p.state → outline_of p ≡ settling (outline_of p)
settled_outline p core is =
    ap (λ (n : ℕ). record (outline_of p) { line = record p.line { cut = n } }) full
    ∙ ap (λ (rs : List ReplicaOutline). record (outline_of p) { line = record p.line { cut = length p.line.ops }; replicas = rs })
    (whole_all p.line p.given s.primary.number s.next s.replicas
    (All-both (λ (r : Replica). IsReplica p.line s.primary.number s.next (p.given r.copy.number) r) (λ (r : Replica). (r.resynced && r.acked) ≡ true) s.replicas
    core.rest.replicas_ok (all_ready s is.ready)) full)
  where
    s : Copies
    s = p.state.leader.copies

    full : p.line.cut ≡ length p.line.ops
    full =
        let global : s.primary.global ≡ s.primary.seen.count = whole_global s.primary.seen.count s.primary (All-pass (is_whole s.primary.seen.count) (all_copies s) is.whole).0 in
        let count : s.primary.seen.count ≡ length p.line.ops = line_count p.line p.given s core in
        let low : s.primary.global ≤ p.line.cut = core.rest.primary.known in
        let most : p.line.cut ≤ length p.line.ops = core.rest.primary.full in
        omega arith

-- ---- the steps before a settle

found_number : (copy : ℕ) (r : ReplicaOutline) (rs : List ReplicaOutline) → replica_at copy rs ≡ Some r → r.copy.number ≡ copy
found_number copy r rs found =
    eqb-true r.copy.number copy
    (All-find (λ (x : ReplicaOutline). Unit {0}) (λ (x : ReplicaOutline). x.copy.number == copy) rs r (All-every (λ (x : ReplicaOutline). Unit {0}) (λ x. tt) rs) found).1

in_place-settles : (ops : List Operation) (copy : ℕ) (new : ReplicaOutline) (rs : List ReplicaOutline) → new.copy.number ≡ copy
    → map {A = ReplicaOutline} {B = ReplicaOutline} (λ r. whole_replica ops r.copy.number) (in_place copy new rs)
    ≡ map {A = ReplicaOutline} {B = ReplicaOutline} (λ r. whole_replica ops r.copy.number) rs
in_place-settles ops copy new [] number = refl
in_place-settles ops copy new (r ∷ rs) number =
    on_if (λ (xs : List ReplicaOutline). map {A = ReplicaOutline} {B = ReplicaOutline} (λ x. whole_replica ops x.copy.number) xs
    ≡ map {A = ReplicaOutline} {B = ReplicaOutline} (λ x. whole_replica ops x.copy.number) (r ∷ rs)) (r.copy.number == copy) (new ∷ rs) (r ∷ in_place copy new rs)
    (λ is. ap (λ (k : ℕ). whole_replica ops k ∷ map {A = ReplicaOutline} {B = ReplicaOutline} (λ x. whole_replica ops x.copy.number) rs) (number ∙ sym (eqb-true r.copy.number copy is)))
    (λ isnt. ap (λ (xs : List ReplicaOutline). whole_replica ops r.copy.number ∷ xs) (in_place-settles ops copy new rs number))

-- the outline after a settle, with these replicas
abbrev pub settled_with : Outline → List ReplicaOutline → Outline
settled_with t rs = record t { line = record t.line { cut = length t.line.ops }; replicas = rs }

pub copying-settles : (t : Outline) (copy n : ℕ) (found : Option ReplicaOutline) → replica_at copy t.replicas ≡ found → settling (copying t copy n found) ≡ settling t
copying-settles t copy n None is = refl
copying-settles t copy n (Some r) is =
    on_if (λ (x : Outline). settling x ≡ settling t) (r.resynced && nat_lt n (length t.line.ops)) _ t
    (λ takes. ap (λ (rs : List ReplicaOutline). settled_with t rs) (in_place-settles t.line.ops copy _ t.replicas (found_number copy r t.replicas is))) (λ refuses. refl)

pub acking-settles : (t : Outline) (copy : ℕ) (found : Option ReplicaOutline) → replica_at copy t.replicas ≡ found → settling (acking t copy found) ≡ settling t
acking-settles t copy None is = refl
acking-settles t copy (Some r) is =
    on_if (λ (x : Outline). settling x ≡ settling t) r.resynced _ t
    (λ takes. ap (λ (rs : List ReplicaOutline). settled_with t rs) (in_place-settles t.line.ops copy _ t.replicas (found_number copy r t.replicas is))) (λ refuses. refl)

pub resyncing-settles : (t : Outline) (copy : ℕ) (found : Option ReplicaOutline) → replica_at copy t.replicas ≡ found → settling (resyncing t copy found) ≡ settling t
resyncing-settles t copy None is = refl
resyncing-settles t copy (Some r) is =
    on_if (λ (x : Outline). settling x ≡ settling t) r.resynced t _ (λ was. refl)
    (λ takes. ap (λ (rs : List ReplicaOutline). settled_with t rs) (in_place-settles t.line.ops copy _ t.replicas (found_number copy r t.replicas is)))
