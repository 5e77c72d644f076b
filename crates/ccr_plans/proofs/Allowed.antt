-- What a new index and a new follower keep to, where nothing refuses them.
use Rattle.std.proofs.Common.{◌≡◌, ℕ, ◌+◌, ◌≤◌, Bool, true, false, not, List, [], ◌∷◌, Option, Some, None, refl, sym, ap, subst, ◌∙◌, arith}
use Rattle.std.specs.Prelude.{IfSome, nat_le, unwrap_or, ◌&&◌, ◌||◌, option_and_then}
use Rattle.std.specs.List.{AllByRecursion}
use Rattle.std.specs.Option.{option_map_or}
use Rattle.std.proofs.lemmas.Bool.{and_from, and_parts, leb-true, not-false, or_parts}
use Rattle.ccr_op.specs.declared.index_name.IndexName.{IndexName}
use Rattle.ccr_meta.specs.declared.creating.Decided.{Decided}
use Rattle.ccr_meta.specs.declared.faults.MetaFault.{MetaFault}
use Rattle.ccr_meta.specs.declared.index_meta.IndexMeta.{IndexMeta}
use Rattle.ccr_meta.specs.declared.settings.Settings.{Settings}
use Rattle.ccr_meta.specs.Names.{AreIn, IsIn, Names, fits, has_cluster, index_at, is_index_name, is_name, new_follower, new_leader, followers_of, with_follower, with_index as with_index_made, with_leader}
use Rattle.ccr_meta.specs.Guards.{first_refusal}
use Rattle.ccr_meta.specs.NameGuards.{create_guards, follow_guards, is_fit_to_follow}
use Rattle.ccr_meta.specs.Created.{after, created_reports, decided, follower_in, follower_of, judged, no_settings, refusal_of, reports}
use Rattle.ccr_meta.proofs.Limits.{can_be_created, cluster-named, no_guard_holds}
use Rattle.ccr_plans.specs.Made.{IsAllowed, IsNamedIfFollowed, followed, made_index}

-- ---- a new index

pub index-allowed : (names : Names) (index : IndexName) (s : Settings) → AreIn names → first_refusal (create_guards names index s) ≡ None → IsAllowed index (made_index names index s)
index-allowed names index s are h =
    let can = can_be_created names index s are h in
    let within = can.within in
    let there = within.there in
    let room = can.worlds in
    record { few = within.few; replicas = within.replicas; there = omega arith; named = can.named }

-- ---- a new follower

follow_fits : (names : Names) (index leader : IndexName) (s : Settings) → first_refusal (follow_guards names index leader s) ≡ None → is_fit_to_follow index leader s ≡ true
follow_fits names index leader s h =
    not-false (is_fit_to_follow index leader s) ((no_guard_holds (follow_guards names index leader s) h).1.1.1.1.1.0)

-- names that have the same clusters as those of which all is known
pub follower-named : (known names : Names) (index leader : IndexName) (s : Settings) → AreIn known → names.clusters ≡ known.clusters → first_refusal (follow_guards names index leader s) ≡ None
    → is_index_name index ≡ true
follower-named known names index leader s are same h =
    let guards = no_guard_holds (follow_guards names index leader s) h in
    let there = or_parts (not (has_cluster names index.cluster)) (not (has_cluster names leader.cluster)) guards.0 in
    let here : has_cluster names index.cluster ≡ true = not-false (has_cluster names index.cluster) there.0 in
    let cluster : is_name index.cluster ≡ true = cluster-named known index.cluster are (sym (ap (λ cs. has_cluster (record known { clusters = cs }) index.cluster) same) ∙ here) in
    let fit = and_parts (is_name index.index) _ (follow_fits names index leader s h) in
    and_from (is_name index.cluster) (is_name index.index) cluster fit.0

few_replicas : (value : Option ℕ) (other : ℕ) → fits 0 7 value ≡ true → other ≤ 7 → unwrap_or value other ≤ 7
few_replicas None other h le = le
few_replicas (Some n) other h le = leb-true n 7 (and_parts (nat_le 0 n) (nat_le n 7) h).1

pub replicas-few : (names : Names) (index leader : IndexName) (s : Settings) (x : IndexMeta) → first_refusal (follow_guards names index leader s) ≡ None → x.replicas ≤ 7
    → unwrap_or s.replicas x.replicas ≤ 7
replicas-few names index leader s x h le =
    let fit = and_parts (is_name index.index) _ (follow_fits names index leader s h) in
    let good = and_parts (not s.bad) _ fit.1 in
    few_replicas s.replicas x.replicas (and_parts (fits 0 7 s.replicas) _ good.1).0 le

-- ---- the followers that auto-follow makes

maybe_clusters : {X : Type 0} (next : X → Names) (names : Names) (o : Option X) → ((x : X) → (next x).clusters ≡ names.clusters) → (option_map_or next o names).clusters ≡ names.clusters
maybe_clusters next names None each = refl
maybe_clusters next names (Some x) each = each x

after_clusters : (leader : IndexName) (names : Names) (d : Decided) → (after leader names d).clusters ≡ names.clusters
after_clusters leader names d =
    maybe_clusters (λ (index : IndexName). with_follower names index leader no_settings) names (follower_of leader names d) (λ index.
    maybe_clusters (λ (found : IndexMeta). with_index_made names index (new_follower (followers_of names leader) index leader found no_settings)) names (index_at names leader) (λ x. refl))

named_unless : (index : IndexName) (o : Option MetaFault) → (o ≡ None → is_index_name index ≡ true)
    → IfSome (option_map_or {T = MetaFault} {U = Option IndexName} (λ fault. None) o (Some index)) (λ i. is_index_name i ≡ true)
named_unless index None named = named refl
named_unless index (Some fault) named = tt

named_by : (known names : Names) (leader : IndexName) → AreIn known → names.clusters ≡ known.clusters → (o : Option IndexName)
    → IfSome (option_map_or {T = MetaFault} {U = Option IndexName} (λ fault. None) (option_and_then (λ index. first_refusal (follow_guards names index leader no_settings)) o) o) (λ i. is_index_name i ≡ true)
named_by known names leader are same None = tt
named_by known names leader are same (Some index) =
    named_unless index (first_refusal (follow_guards names index leader no_settings)) (follower-named known names index leader no_settings are same)

reports_named : (known names : Names) (leader : IndexName) (ds : List Decided) → AreIn known → names.clusters ≡ known.clusters → AllByRecursion IsNamedIfFollowed (reports leader names ds)
reports_named known names leader [] are same = tt
reports_named known names leader (d ∷ ds) are same =
    (named_by known names leader are same (follower_in d.cluster d.decision), reports_named known (after leader names d) leader ds are (after_clusters leader names d ∙ same))

pub created-named : (names : Names) (index : IndexName) (s : Settings) → AreIn names → AllByRecursion IsNamedIfFollowed (created_reports names index s)
created-named names index s are = reports_named names (with_leader names index s) index (decided index names.clusters) are refl

pub ruleset allowed = (index-allowed, created-named)
