-- The limits are kept.
use Rattle.std.proofs.Common.{◌≡◌, ℕ, ◌+◌, ◌<◌, ◌≤◌, Bool, true, false, not, List, [], ◌∷◌, length, Option, Some, None, refl, sym, ◌∙◌, ap, subst, arith, cond}
use Rattle.std.specs.Prelude.{All, count_by, is_some, nat_le, nat_lt, IfSome, unwrap_or, ◌&&◌}
use Rattle.std.specs.List.{AllByRecursion}
use Rattle.std.specs.Option.{option_map_or}
use Rattle.std.specs.declared.cmp.Ordering.{Ordering}
use Rattle.std.specs.declared.cmp.Ordering.TheVariants.{Less, Equal, Greater}
use Rattle.std.specs.Ordering.{nat_cmp, match_ordering}
use Rattle.std.specs.Cmp.Lexicographic.{slice_cmp}
use Rattle.std.specs.Map.{keys_of, lookup, values_of}
use Rattle.std.specs.BTreeMap.{is_at, insert_entry}
use Rattle.std.proofs.lemmas.Bool.{not-false, and_parts, or_parts, leb-true, leb-false}
use Rattle.std.specs.Str.{bytes_eq}
use Rattle.std.proofs.lemmas.Slice.Eq.{bytes_eq-Decides}
use Rattle.std.proofs.lemmas.List.Elements.{All-contains, All-weaker}
use Rattle.std.proofs.lemmas.List.Sums.{sum_by-cons}
use Rattle.std.proofs.lemmas.Map.Lookups.{CmpEqualImpliesEq, exact_bytes, exact_pairs}
use Rattle.std.proofs.lemmas.Map.Views.{All-keys-insert_entry, All-values-insert_entry, Contains-keys_from_lookup, IfSome-lookup_from_All, tells_apart}
use Rattle.ccr_op.specs.declared.index_name.IndexName.{IndexName}
use Rattle.ccr_meta.specs.declared.faults.MetaFault.{MetaFault}
use Rattle.ccr_meta.specs.declared.index_meta.IndexMeta.{IndexMeta}
use Rattle.ccr_meta.specs.declared.settings.Settings.{Settings}
use Rattle.ccr_meta.specs.Names.{Names, AreIn, IsIn, IsFollowerOf, fits, follows, followers_of, has_cluster, has_index, index_at, index_cmp, is_index_name, is_name, is_same_index, new_follower, new_leader, shards_in, with_cluster, with_follower, with_index}
use Rattle.ccr_meta.specs.Guards.{first_refusal}
use Rattle.ccr_meta.specs.NameGuards.{create_guards, follow_guards, is_fit_to_create, is_fit_to_follow}

-- an entry more is at most one more
length-insert_entry : {K X : Type 0} (cmp : K → K → Ordering) (k : K) (v : X) (es : List (K × X)) → length (insert_entry cmp es k v) ≤ length es + 1
length-insert_entry cmp k v [] = omega arith
length-insert_entry cmp k v (e ∷ es) =
    let rest = length-insert_entry cmp k v es in
    (elim (cmp k e.0) as (λ o. length (match_ordering o ((k, v) ∷ e ∷ es) ((e.0, v) ∷ es) (e ∷ insert_entry cmp es k v)) ≤ length (e ∷ es) + 1) [
      | Less ↦ omega arith
      | Equal ↦ omega arith
      | Greater ↦ omega arith
    ])

-- an entry more raises a count by at most one, and by none where it doesn't pass
count_by-insert_entry : {K X : Type 0} (p : X → Bool) (cmp : K → K → Ordering) (k : K) (v : X) (es : List (K × X))
    → count_by p (values_of (insert_entry cmp es k v)) ≤ count_by p (values_of es) + cond (p v) 1 0
count_by-insert_entry {K} {X} p cmp k v [] =
    let f : X → ℕ = λ x. cond (p x) 1 0 in
    omega (arith, sum_by-cons f v [])
count_by-insert_entry {K} {X} p cmp k v (e ∷ es) =
    let f : X → ℕ = λ x. cond (p x) 1 0 in
    let rest = count_by-insert_entry p cmp k v es in
    (elim (cmp k e.0) as (λ o. count_by p (values_of (match_ordering o ((k, v) ∷ e ∷ es) ((e.0, v) ∷ es) (e ∷ insert_entry cmp es k v))) ≤ count_by p (values_of (e ∷ es)) + cond (p v) 1 0) [
      | Less ↦ omega (arith, sum_by-cons f v (values_of (e ∷ es)))
      | Equal ↦ omega (arith, sum_by-cons f v (values_of es), sum_by-cons f e.1 (values_of es))
      | Greater ↦ omega (arith, sum_by-cons f e.1 (values_of (insert_entry cmp es k v)), sum_by-cons f e.1 (values_of es))
    ])

-- one more, where there is room for it
room_for : (b : Bool) (n m : ℕ) → m ≤ n + cond b 1 0 → n ≤ 8 → (b ≡ true → n < 8) → m ≤ 8
room_for true n m le few room = let low : n < 8 = room refl in omega arith
room_for false n m le few room = omega arith

-- names that the test takes for the same are the same
same_index : (a b : IndexName) → is_same_index a b ≡ true → a ≡ b
same_index a b h =
    let parts = and_parts (bytes_eq a.cluster b.cluster) (bytes_eq a.index b.index) h in
    let cluster : a.cluster ≡ b.cluster = (bytes_eq-Decides a.cluster b.cluster).0 parts.0 in
    let index : a.index ≡ b.index = (bytes_eq-Decides a.index b.index).0 parts.1 in
    let at : List ℕ → List ℕ → IndexName = λ (c : List ℕ) (i : List ℕ). record { cluster = c; index = i } in
    ap (λ (c : List ℕ). at c a.index) cluster ∙ ap (at b.cluster) index

-- an index stays in its bounds where there are more worlds
IsIn-more : (worlds more : ℕ) → worlds ≤ more → (x : IndexMeta) → IsIn worlds x → IsIn more x
IsIn-more worlds more le x h = record {
  some = h.some;
  few = h.few;
  there = let there = h.there in omega arith;
  replicas = h.replicas;
  retention = h.retention;
  period = h.period;
  period_fits = h.period_fits;
  number = h.number;
  leader = h.leader;
}

-- ---- names obey the rule

both_true : (a b : Bool) → a ≡ true → b ≡ true → (a && b) ≡ true
both_true true b ha hb = hb
both_true false b ha hb = ha

-- what holds of each key holds of one that is found
holds_of_found : {K X : Type 0} (R : K → K → Ordering) → CmpEqualImpliesEq R → (P : K → Type 0) (k : K) (es : List (K × X)) → All P (keys_of es)
    → is_some (lookup (is_at (R k)) es) ≡ true → P k
holds_of_found R exact P k es all found =
    All-contains P (keys_of es) k all (Contains-keys_from_lookup (tells_apart exact) k es found)

pub cluster-named : (names : Names) (cluster : List ℕ) → AreIn names → has_cluster names cluster ≡ true → is_name cluster ≡ true
cluster-named names cluster are found = holds_of_found (slice_cmp nat_cmp) exact_bytes (λ c. is_name c ≡ true) cluster names.clusters are.cluster_names found

exact_index : CmpEqualImpliesEq index_cmp
exact_index a b h =
    let e : (a.cluster, a.index) ≡ (b.cluster, b.index) = exact_pairs (slice_cmp nat_cmp) (slice_cmp nat_cmp) exact_bytes exact_bytes (a.cluster, a.index) (b.cluster, b.index) h in
    let at : List ℕ × List ℕ → IndexName = λ (p : List ℕ × List ℕ). record { cluster = p.0; index = p.1 } in
    ap at e

pub index-named : (names : Names) (index : IndexName) → AreIn names → has_index names index ≡ true → is_index_name index ≡ true
index-named names index are found = holds_of_found index_cmp exact_index (λ i. is_index_name i ≡ true) index names.indices are.index_names found

-- a cluster more keeps the limits
pub AreIn-with_cluster : (names : Names) (cluster : List ℕ) → AreIn names → length names.clusters < 8 → is_name cluster ≡ true → AreIn (with_cluster names cluster)
AreIn-with_cluster names cluster are few named = record {
  clusters = let longer = length-insert_entry (slice_cmp nat_cmp) cluster [] names.clusters in omega arith;
  indices = are.indices;
  worlds = are.worlds;
  all = are.all;
  followers = are.followers;
  cluster_names = All-keys-insert_entry (slice_cmp nat_cmp) cluster [] (λ c. is_name c ≡ true) names.clusters are.cluster_names named;
  index_names = are.index_names;
}

-- an index more keeps the limits
pub AreIn-with_index : (names : Names) (index : IndexName) (x : IndexMeta) (worlds : ℕ) → AreIn names → length names.indices < 64 → names.worlds ≤ worlds → worlds ≤ 64 → IsIn worlds x
    → ((leader : IndexName) → follows leader x ≡ true → followers_of names leader < 8) → is_index_name index ≡ true
    → AreIn (record (with_index names index x) { worlds = worlds })
AreIn-with_index names index x worlds are few rising bound within room named = record {
  clusters = are.clusters;
  indices = let longer = length-insert_entry index_cmp index x names.indices in omega arith;
  worlds = bound;
  all = All-values-insert_entry index_cmp index x (IsIn worlds) names.indices (All-weaker (IsIn names.worlds) (IsIn worlds) (IsIn-more names.worlds worlds rising) _ are.all) within;
  followers = λ leader. room_for (follows leader x) (followers_of names leader) _ (count_by-insert_entry (follows leader) index_cmp index x names.indices) (are.followers leader) (room leader);
  cluster_names = are.cluster_names;
  index_names = All-keys-insert_entry index_cmp index x (λ i. is_index_name i ≡ true) names.indices are.index_names named;
}

-- an index that is there is in its bounds
pub IsIn-at : (names : Names) (index : IndexName) (x : IndexMeta) → AreIn names → index_at names index ≡ Some x → IsIn names.worlds x
IsIn-at names index x are at =
    let found : IfSome (index_at names index) (IsIn names.worlds) = IfSome-lookup_from_All (IsIn names.worlds) (is_at (index_cmp index)) names.indices are.all in
    rw at at found

-- where nothing is refused no guard holds
first_refusal-None : (b : Bool) (fault : MetaFault) (guards : List (Bool × MetaFault)) → first_refusal ((b, fault) ∷ guards) ≡ None → (b ≡ false) × (first_refusal guards ≡ None)
first_refusal-None true fault guards h = absurd (let e : Some fault ≡ None = h in cc)
first_refusal-None false fault guards h = (refl, h)

pub no_guard_holds : (guards : List (Bool × MetaFault)) → first_refusal guards ≡ None → AllByRecursion (λ guard. guard.0 ≡ false) guards
no_guard_holds [] h = tt
no_guard_holds (guard ∷ guards) h = let parts = first_refusal-None guard.0 guard.1 guards h in (parts.0, no_guard_holds guards parts.1)

-- a value that fits, or a default that does
fits-unwrap_or : (least most d : ℕ) (value : Option ℕ) → fits least most value ≡ true → least ≤ d → d ≤ most → (least ≤ unwrap_or value d) × (unwrap_or value d ≤ most)
fits-unwrap_or least most d None h low high = (low, high)
fits-unwrap_or least most d (Some n) h low high =
    let parts = and_parts (nat_le least n) (nat_le n most) h in
    (leb-true least n parts.0, leb-true n most parts.1)

-- an index that can be created keeps the limits
pub record CanBeCreated (names : Names) (index : IndexName) (s : Settings) : Type 0 where
  pub few : length names.indices < 64
  pub worlds : names.worlds + shards_in s ≤ 64
  pub some : 1 ≤ shards_in s
  pub within : IsIn (names.worlds + shards_in s) (new_leader names.worlds index s)
  pub named : is_index_name index ≡ true

pub can_be_created : (names : Names) (index : IndexName) (s : Settings) → AreIn names → first_refusal (create_guards names index s) ≡ None → CanBeCreated names index s
can_be_created names index s are h =
    let none = no_guard_holds (create_guards names index s) h in
    let fit = and_parts (is_name index.index) _ (not-false (is_fit_to_create index s) none.1.1.0) in
    let good = and_parts (not s.bad) _ fit.1 in
    let shards = and_parts (fits 1 16 s.shards) _ good.1 in
    let replicas = and_parts (fits 0 7 s.replicas) _ shards.1 in
    let kept = and_parts (fits 0 9007199254740991 s.retention) (fits 1 9007199254740991 s.period) replicas.1 in
    let full = or_parts (nat_le 64 (length names.indices)) (nat_lt 64 (names.worlds + shards_in s)) none.1.1.1.0 in
    let a = fits-unwrap_or 1 16 1 s.shards shards.0 (omega arith) (omega arith) in
    let b = fits-unwrap_or 0 7 1 s.replicas replicas.0 (omega arith) (omega arith) in
    let c = fits-unwrap_or 0 9007199254740991 0 s.retention kept.0 (omega arith) (omega arith) in
    let d = fits-unwrap_or 1 9007199254740991 43200000 s.period kept.1 (omega arith) (omega arith) in
    let room : names.worlds + shards_in s ≤ 64 = grind (arith, full.1) in
    record {
      few = leb-false 64 (length names.indices) full.0;
      worlds = room;
      some = a.0;
      within = record {
        some = a.0;
        few = a.1;
        there = omega arith;
        replicas = b.1;
        retention = let low = c.1 in omega arith;
        period = d.0;
        period_fits = let low = d.1 in omega arith;
        number = refl;
        leader = refl;
      };
      named = both_true (is_name index.cluster) (is_name index.index) (cluster-named names index.cluster are (not-false (has_cluster names index.cluster) none.0)) fit.0;
    }

-- a follower that can be made keeps the limits
pub record CanBeFollowed (names : Names) (index : IndexName) (x : IndexMeta) : Type 0 where
  pub few : length names.indices < 64
  pub within : IsIn names.worlds x
  pub room : (other : IndexName) → follows other x ≡ true → followers_of names other < 8
  pub named : is_index_name index ≡ true

pub can_be_followed : (names : Names) (index leader : IndexName) (s : Settings) (x : IndexMeta) → AreIn names → first_refusal (follow_guards names index leader s) ≡ None → IsFollowerOf names index leader s x → CanBeFollowed names index x
can_be_followed names index leader s x are h of =
    let none = no_guard_holds (follow_guards names index leader s) h in
    let fit = and_parts (is_name index.index) _ (not-false (is_fit_to_follow index leader s) none.1.1.1.1.1.0) in
    let good = and_parts (not s.bad) _ fit.1 in
    let replicas = and_parts (fits 0 7 s.replicas) _ good.1 in
    let full = or_parts (nat_le 64 (length names.indices)) (nat_le 8 (followers_of names leader)) none.1.1.1.1.1.1.0 in
    let found : IndexMeta = of.0 in
    let there : IsIn names.worlds found = IsIn-at names leader found are of.1 in
    let b = fits-unwrap_or 0 7 found.replicas s.replicas replicas.0 (omega arith) there.replicas in
    let number : followers_of names leader < 8 = leb-false 8 (followers_of names leader) full.1 in
    let within : IsIn names.worlds (new_follower (followers_of names leader) index leader found s) = record {
      some = there.some;
      few = there.few;
      there = there.there;
      replicas = b.1;
      retention = there.retention;
      period = there.period;
      period_fits = there.period_fits;
      number = grind (arith, number);
      leader = index-named names leader are (ap is_some of.1);
    } in
    let room : (other : IndexName) → follows other x ≡ true → followers_of names other < 8 = λ other h.
    let same : is_same_index leader other ≡ true = sym (ap (follows other) of.2) ∙ h in
    subst (λ (l : IndexName). followers_of names l < 8) (same_index leader other same) number in
    let clusters = or_parts (not (has_cluster names index.cluster)) (not (has_cluster names leader.cluster)) none.0 in
    record {
      few = leb-false 64 (length names.indices) full.0;
      within = subst (IsIn names.worlds) (sym of.2) within;
      room = room;
      named = both_true (is_name index.cluster) (is_name index.index) (cluster-named names index.cluster are (not-false (has_cluster names index.cluster) clusters.0)) fit.0;
    }

pub with_index_of_follower : (names : Names) (index leader : IndexName) (s : Settings) (x : IndexMeta) → IsFollowerOf names index leader s x → with_index names index x ≡ with_follower names index leader s
with_index_of_follower names index leader s x of =
    ap (with_index names index) of.2
    ∙ sym (ap (λ (o : Option IndexMeta). option_map_or (λ found. with_index names index (new_follower (followers_of names leader) index leader found s)) o names) of.1)
