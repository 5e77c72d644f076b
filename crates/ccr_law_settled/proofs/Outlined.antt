-- The outline of a leader shard, and what changes of its copies come to in it.
use Rattle.std.specs.List.{AllByRecursion}
use Rattle.std.specs.Option.{option_map}
use Rattle.std.specs.Prelude.{find, drop}
use Rattle.std.proofs.Common.{◌≡◌, ℕ, zero, suc, ◌-◌, ◌≤◌, ◌==◌, nat_lt, min, max, Bool, true, false, if◌then◌else◌, Option, Some, List, [], ◌∷◌, ◌++◌, map, length, refl, sym, ◌∙◌, ap, subst, arith}
use Rattle.std.proofs.lemmas.Bool.{eqb-true}
use Rattle.ccr_op.specs.Operation.{Operation}
use Rattle.ccr_model.specs.Copies.{Copy, Replica, Copies, replaced, without, changed_replica, least_known, counted}
use Rattle.ccr_model.specs.CopyRows.{unknown}
use Rattle.ccr_model.specs.Given.{gave}
use Rattle.ccr_model.specs.Leaders.{most_stale, with_copy, with_stale}
use Rattle.ccr_model.specs.Past.{Line, Past}
use Rattle.ccr_law_base.proofs.Cases.{on_if}
use Rattle.ccr_law_base.proofs.Lists.{All-weaker}
use Rattle.ccr_law_copies.specs.Cores.{Apart}
use Rattle.ccr_law_copies.proofs.Replicas.{gave-same, gave-other}
use Rattle.ccr_law_settled.specs.Outlines.{CopyOutline, ReplicaOutline, Outline, in_place, leaving, among_stale, more_stale, not_resynced, least_count, committing}

-- ---- the outline

abbrev pub copy_outline : (ℕ → ℕ → Option Operation) → Copy → CopyOutline
copy_outline given c = record { number = c.number; seen = c.seen; ops = given c.number }

abbrev pub replica_outline : (ℕ → ℕ → Option Operation) → Replica → ReplicaOutline
replica_outline given r = record { copy = copy_outline given r.copy; known = r.known; resynced = r.resynced }

abbrev pub replica_outlines : (ℕ → ℕ → Option Operation) → List Replica → List ReplicaOutline
replica_outlines given rs = map {A = Replica} {B = ReplicaOutline} (replica_outline given) rs

abbrev pub copy_outlines : (ℕ → ℕ → Option Operation) → List Copy → List CopyOutline
copy_outlines given cs = map {A = Copy} {B = CopyOutline} (copy_outline given) cs

abbrev pub outline_with : Line → (ℕ → ℕ → Option Operation) → Copies → List Copy → Outline
outline_with line given s stale = record {
  term = s.term;
  line = line;
  primary = s.primary.number;
  replicas = replica_outlines given s.replicas;
  stale = copy_outlines given stale;
  next = s.next;
}

abbrev pub outline_of : Past → Outline
outline_of p = outline_with p.line p.given p.state.leader.copies p.state.leader.stale

-- the outline, with other copies
abbrev pub with_lists : Outline → List ReplicaOutline → List CopyOutline → Outline
with_lists t rs cs = record t { replicas = rs; stale = cs }

pub same_lists : (t : Outline) (rs rs' : List ReplicaOutline) (cs cs' : List CopyOutline) → rs ≡ rs' → cs ≡ cs' → with_lists t rs cs ≡ with_lists t rs' cs'
same_lists t rs rs' cs cs' replicas stale = ap (λ x. with_lists t x cs) replicas ∙ ap (λ x. with_lists t rs' x) stale

-- ---- lists

pub find-map : {X Y : Type 0} (f : X → Y) (test : Y → Bool) (xs : List X) → find test (map f xs) ≡ option_map {T = X} {U = Y} f (find (λ x. test (f x)) xs)
find-map f test [] = refl
find-map {X = X} {Y = Y} f test (x ∷ xs) =
    (elim (test (f x)) as (λ b. (if b then Some (f x) else find test (map f xs)) ≡ option_map {T = X} {U = Y} f (if b then Some x else find (λ y. test (f y)) xs)) [
      | true ↦ refl
      | false ↦ find-map f test xs
    ])

pub map-drop : {X Y : Type 0} (f : X → Y) (n : ℕ) (xs : List X) → map f (drop n xs) ≡ drop n (map f xs)
map-drop f zero [] = refl
map-drop f zero (x ∷ xs) = refl
map-drop f (suc n) [] = refl
map-drop f (suc n) (x ∷ xs) = map-drop f n xs

pub map-length : {X Y : Type 0} (f : X → Y) (xs : List X) → length (map f xs) ≡ length xs
map-length f [] = refl
map-length f (x ∷ xs) = ap (λ (n : ℕ). suc n) (map-length f xs)

pub map-push : {X Y : Type 0} (f : X → Y) (xs : List X) (x : X) → map f (xs ++ x ∷ []) ≡ map f xs ++ f x ∷ []
map-push f [] x = refl
map-push f (y ∷ xs) x = ap (λ ys. f y ∷ ys) (map-push f xs x)

-- ---- another copy was given something

pub replicas-aside : (given : ℕ → ℕ → Option Operation) (copy : ℕ) (ops : ℕ → Option Operation) (rs : List Replica)
    → AllByRecursion (λ (r : Replica). (r.copy.number == copy) ≡ false) rs → replica_outlines (gave given copy ops) rs ≡ replica_outlines given rs
replicas-aside given copy ops [] others = refl
replicas-aside given copy ops (r ∷ rs) others =
    ap (λ (own : ℕ → Option Operation). record { copy = record { number = r.copy.number; seen = r.copy.seen; ops = own }; known = r.known; resynced = r.resynced } ∷ replica_outlines (gave given copy ops) rs)
    (gave-other given copy ops r.copy.number others.0)
    ∙ ap (λ ys. replica_outline given r ∷ ys) (replicas-aside given copy ops rs others.1)

pub stale-aside : (given : ℕ → ℕ → Option Operation) (copy : ℕ) (ops : ℕ → Option Operation) (cs : List Copy)
    → AllByRecursion (λ (c : Copy). (c.number == copy) ≡ false) cs → copy_outlines (gave given copy ops) cs ≡ copy_outlines given cs
stale-aside given copy ops [] others = refl
stale-aside given copy ops (c ∷ cs) others =
    ap (λ (own : ℕ → Option Operation). record { number = c.number; seen = c.seen; ops = own } ∷ copy_outlines (gave given copy ops) cs) (gave-other given copy ops c.number others.0)
    ∙ ap (λ ys. copy_outline given c ∷ ys) (stale-aside given copy ops cs others.1)

-- ---- a replica changed

-- where it alone was given something
pub replaced-given : (given : ℕ → ℕ → Option Operation) (copy : ℕ) (ops : ℕ → Option Operation) (new : Replica) (rs : List Replica) → new.copy.number ≡ copy → Apart rs
    → replica_outlines (gave given copy ops) (replaced copy new rs)
    ≡ in_place copy (record { copy = record { number = new.copy.number; seen = new.copy.seen; ops = ops }; known = new.known; resynced = new.resynced }) (replica_outlines given rs)
replaced-given given copy ops new [] number apart = refl
replaced-given given copy ops new (r ∷ rs) number apart =
    let made : ReplicaOutline = record { copy = record { number = new.copy.number; seen = new.copy.seen; ops = ops }; known = new.known; resynced = new.resynced } in
    (elim (r.copy.number == copy) as (λ b. (r.copy.number == copy) ≡ b
    → replica_outlines (gave given copy ops) (if b then new ∷ rs else r ∷ replaced copy new rs)
    ≡ (if b then made ∷ replica_outlines given rs else replica_outline given r ∷ in_place copy made (replica_outlines given rs))) [
      | true ↦ λ is.
          ap (λ (own : ℕ → Option Operation). record { copy = record { number = new.copy.number; seen = new.copy.seen; ops = own }; known = new.known; resynced = new.resynced } ∷ replica_outlines (gave given copy ops) rs)
          (gave-same given copy ops new.copy.number (subst (λ (k : ℕ). (k == copy) ≡ true) (eqb-true r.copy.number copy is ∙ sym number) is))
          ∙ ap (λ ys. made ∷ ys) (replicas-aside given copy ops rs
          (All-weaker (λ (x : Replica). (x.copy.number == r.copy.number) ≡ false) (λ (x : Replica). (x.copy.number == copy) ≡ false)
          (λ x isnt. subst (λ (k : ℕ). (x.copy.number == k) ≡ false) (eqb-true r.copy.number copy is) isnt) rs apart.0))
      | false ↦ λ isnt.
          ap (λ (own : ℕ → Option Operation). record { copy = record { number = r.copy.number; seen = r.copy.seen; ops = own }; known = r.known; resynced = r.resynced } ∷ replica_outlines (gave given copy ops) (replaced copy new rs))
          (gave-other given copy ops r.copy.number isnt)
          ∙ ap (λ ys. replica_outline given r ∷ ys) (replaced-given given copy ops new rs number apart.1)
    ]) refl

-- where nothing was given
pub replaced-quiet : (given : ℕ → ℕ → Option Operation) (copy : ℕ) (new : Replica) (rs : List Replica)
    → replica_outlines given (replaced copy new rs) ≡ in_place copy (replica_outline given new) (replica_outlines given rs)
replaced-quiet given copy new [] = refl
replaced-quiet given copy new (r ∷ rs) =
    (elim (r.copy.number == copy) as (λ b. replica_outlines given (if b then new ∷ rs else r ∷ replaced copy new rs)
    ≡ (if b then replica_outline given new ∷ replica_outlines given rs else replica_outline given r ∷ in_place copy (replica_outline given new) (replica_outlines given rs))) [
      | true ↦ refl
      | false ↦ ap (λ ys. replica_outline given r ∷ ys) (replaced-quiet given copy new rs)
    ])

-- a replica that was found, in place of itself
pub in_place-itself : (copy : ℕ) (r : ReplicaOutline) (rs : List ReplicaOutline) → find (λ x. x.copy.number == copy) rs ≡ Some r → in_place copy r rs ≡ rs
in_place-itself copy r [] found = refl
in_place-itself copy r (x ∷ rs) found =
    (elim (x.copy.number == copy) as (λ b. (if b then Some x else find (λ y. y.copy.number == copy) rs) ≡ Some r → (if b then r ∷ rs else x ∷ in_place copy r rs) ≡ x ∷ rs) [
      | true ↦ λ at. let same : x ≡ r = cc in ap (λ y. y ∷ rs) (sym same)
      | false ↦ λ at. ap (λ ys. x ∷ ys) (in_place-itself copy r rs at)
    ]) found

-- a change inside a copy that its outline doesn't tell
pub changed-quiet : (given : ℕ → ℕ → Option Operation) (copy : ℕ) (change : Copy → Copy) → ((c : Copy) → copy_outline given (change c) ≡ copy_outline given c) → (rs : List Replica)
    → replica_outlines given (changed_replica copy change rs) ≡ replica_outlines given rs
changed-quiet given copy change same [] = refl
changed-quiet given copy change same (r ∷ rs) =
    on_if (λ ys. replica_outlines given ys ≡ replica_outlines given (r ∷ rs)) (r.copy.number == copy) (record r { copy = change r.copy } ∷ rs) (r ∷ changed_replica copy change rs)
    (λ is. ap (λ (c : CopyOutline). record { copy = c; known = r.known; resynced = r.resynced } ∷ replica_outlines given rs) (same r.copy))
    (λ isnt. ap (λ ys. replica_outline given r ∷ ys) (changed-quiet given copy change same rs))

-- ---- a replica left

pub without-outline : (given : ℕ → ℕ → Option Operation) (copy : ℕ) (rs : List Replica) → replica_outlines given (without copy rs) ≡ leaving copy (replica_outlines given rs)
without-outline given copy [] = refl
without-outline given copy (r ∷ rs) =
    (elim (r.copy.number == copy) as (λ b. replica_outlines given (if b then rs else r ∷ without copy rs)
    ≡ (if b then replica_outlines given rs else replica_outline given r ∷ leaving copy (replica_outlines given rs))) [
      | true ↦ refl
      | false ↦ ap (λ ys. replica_outline given r ∷ ys) (without-outline given copy rs)
    ])

pub unknown-outline : (given : ℕ → ℕ → Option Operation) (rs : List Replica)
    → replica_outlines given (map {A = Replica} {B = Replica} unknown rs) ≡ map {A = ReplicaOutline} {B = ReplicaOutline} not_resynced (replica_outlines given rs)
unknown-outline given [] = refl
unknown-outline given (r ∷ rs) = ap (λ ys. not_resynced (replica_outline given r) ∷ ys) (unknown-outline given rs)

among-outline : (given : ℕ → ℕ → Option Operation) (c : Copy) (cs : List Copy) → copy_outlines given (with_copy c cs) ≡ among_stale (copy_outline given c) (copy_outlines given cs)
among-outline given c [] = refl
among-outline given c (x ∷ cs) =
    (elim (nat_lt c.number x.number) as (λ b. copy_outlines given (if b then c ∷ x ∷ cs else x ∷ with_copy c cs)
    ≡ (if b then copy_outline given c ∷ copy_outline given x ∷ copy_outlines given cs else copy_outline given x ∷ among_stale (copy_outline given c) (copy_outlines given cs))) [
      | true ↦ refl
      | false ↦ ap (λ ys. copy_outline given x ∷ ys) (among-outline given c cs)
    ])

pub stale-outline : (given : ℕ → ℕ → Option Operation) (c : Copy) (cs : List Copy) → copy_outlines given (with_stale c cs) ≡ more_stale (copy_outline given c) (copy_outlines given cs)
stale-outline given c cs =
    map-drop (copy_outline given) (length (with_copy c cs) - most_stale) (with_copy c cs)
    ∙ (ap (λ (n : ℕ). drop (n - most_stale) (copy_outlines given (with_copy c cs))) (sym (map-length (copy_outline given) (with_copy c cs)))
    ∙ ap (λ (ys : List CopyOutline). drop (length ys - most_stale) ys) (among-outline given c cs))

-- ---- what is committed

pub least-outline : (given : ℕ → ℕ → Option Operation) (count : ℕ) (rs : List Replica) → least_count count (replica_outlines given rs) ≡ least_known count rs
least-outline given count [] = refl
least-outline given count (r ∷ rs) = ap (λ (n : ℕ). min r.known n) (least-outline given count rs)

-- where the primary's count is the line's length, and it knows no more than is committed
pub counted-outline : (line : Line) (given : ℕ → ℕ → Option Operation) (s : Copies) (stale : List Copy) → s.primary.global ≤ line.cut → s.primary.seen.count ≡ length line.ops
    → outline_with (record line { cut = max line.cut (counted s).primary.global }) given (counted s) stale ≡ committing (outline_with line given s stale)
counted-outline line given s stale low count =
    let least : least_count (length line.ops) (replica_outlines given s.replicas) ≡ least_known s.primary.seen.count s.replicas
    = ap (λ (n : ℕ). least_count n (replica_outlines given s.replicas)) (sym count) ∙ least-outline given s.primary.seen.count s.replicas in
    let cut : max line.cut (max s.primary.global (least_known s.primary.seen.count s.replicas)) ≡ max line.cut (least_known s.primary.seen.count s.replicas) = omega arith in
    ap (λ (n : ℕ). outline_with (record line { cut = n }) given s stale) (cut ∙ ap (λ (n : ℕ). max line.cut n) (sym least))

-- where the primary knows no more than is committed, nothing more is
pub quiet-outline : (line : Line) (given : ℕ → ℕ → Option Operation) (s : Copies) (stale : List Copy) (global : ℕ) → global ≤ line.cut
    → outline_with (record { ops = line.ops; cut = max line.cut global }) given s stale ≡ outline_with line given s stale
quiet-outline line given s stale global low =
    let cut : max line.cut global ≡ line.cut = omega arith in
    ap (λ (n : ℕ). outline_with (record { ops = line.ops; cut = n }) given s stale) cut
