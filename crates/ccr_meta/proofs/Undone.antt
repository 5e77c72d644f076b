-- What was made is taken away again; what was read is written back.
use Rattle.std.proofs.Common.{◌≡◌, ℕ, ◌+◌, Bool, true, false, cond, List, [], ◌∷◌, Option, Some, None, Result, Ok, Err, refl, ap, subst}
use Rattle.std.specs.Prelude.{OnErr, is_some, is_err, if◌then◌else◌}
use Rattle.std.specs.Option.{option_map_or, option_and_then, is_none}
use Rattle.std.specs.declared.cmp.Ordering.{Ordering}
use Rattle.std.specs.declared.cmp.Ordering.TheVariants.{Less, Equal, Greater}
use Rattle.std.specs.Ordering.{nat_cmp, is_eq, match_ordering}
use Rattle.std.specs.Cmp.Lexicographic.{slice_cmp}
use Rattle.std.specs.Map.{lookup, remove_entry, set_value}
use Rattle.std.specs.BTreeMap.{is_at, insert_entry}
use Rattle.std.proofs.lemmas.Bool.{not-false}
use Rattle.std.proofs.lemmas.Cmp.{nat_list_cmp_total, tied_itself}
use Rattle.ccr_op.specs.declared.index_name.IndexName.{IndexName}
use Rattle.ccr_meta.specs.declared.faults.MetaFault.{MetaFault}
use Rattle.ccr_meta.specs.declared.creating.Decided.{Decided}
use Rattle.ccr_meta.specs.declared.index_meta.IndexMeta.{IndexMeta}
use Rattle.ccr_meta.specs.declared.settings.Settings.{Settings}
use Rattle.ccr_meta.specs.Names.{Names, followers_of, has_index, index_at, index_cmp, new_follower, new_leader, shards_in, with_follower, with_index, with_leader, without_index}
use Rattle.ccr_meta.specs.Guards.{first_refusal}
use Rattle.ccr_meta.specs.NameGuards.{create_guards, follow_guards}
use Rattle.ccr_meta.specs.Created.{follower_in, follower_of, no_settings}
use Rattle.ccr_meta.proofs.Limits.{no_guard_holds}

-- a claim on an error, by whether there is one
pub OnErr-of : {T E : Type 0} (r : Result T E) (P : Type 0) → P → OnErr r P
OnErr-of (Ok x) P p = tt
OnErr-of (Err e) P p = p

pub OnErr-none : {T E : Type 0} (r : Result T E) (P : Type 0) → is_err r ≡ false → OnErr r P
OnErr-none (Ok x) P h = tt
OnErr-none (Err e) P h = absurd (let e : true ≡ false = h in cc)

pub OnErr-some : {T E : Type 0} (r : Result T E) (P : Type 0) → is_err r ≡ true → OnErr r P → P
OnErr-some (Ok x) P h p = absurd (let e : false ≡ true = h in cc)
OnErr-some (Err e) P h p = p

-- a value that is there already is written
pub set_value-same : {K X : Type 0} (test : K → Bool) (es : List (K × X)) (w : X) → lookup test es ≡ Some w → set_value test es w ≡ es
set_value-same test [] w h = refl
set_value-same {K} {X} test (e ∷ es) w h =
    let rest : lookup test es ≡ Some w → set_value test es w ≡ es = set_value-same test es w in
    (elim (test e.0) as (λ b. cond b (Some e.1) (lookup test es) ≡ Some w → cond b ((e.0, w) ∷ es) (e ∷ set_value test es w) ≡ e ∷ es) [
      | true ↦ λ h. let same : w ≡ e.1 = cc in ap (λ (v : X). (e.0, v) ∷ es) same
      | false ↦ λ h. ap (λ t. e ∷ t) (rest h)
    ]) h

-- an entry that is put in and taken out again
remove_entry-insert_entry : {K X : Type 0} (cmp : K → K → Ordering) (k : K) (v : X) → cmp k k ≡ Equal → (es : List (K × X)) → lookup (is_at (cmp k)) es ≡ None
    → remove_entry (is_at (cmp k)) (insert_entry cmp es k v) ≡ es
remove_entry-insert_entry cmp k v same [] h = let e : is_eq (cmp k k) ≡ true = ap is_eq same in rw e refl
remove_entry-insert_entry {K} {X} cmp k v same (e ∷ es) h =
    let here : is_eq (cmp k k) ≡ true = ap is_eq same in
    let rest : lookup (is_at (cmp k)) es ≡ None → remove_entry (is_at (cmp k)) (insert_entry cmp es k v) ≡ es = remove_entry-insert_entry cmp k v same es in
    (elim (cmp k e.0) as (λ o. cmp k e.0 ≡ o → cond (is_eq o) (Some e.1) (lookup (is_at (cmp k)) es) ≡ None
    → remove_entry (is_at (cmp k)) (match_ordering o ((k, v) ∷ e ∷ es) ((e.0, v) ∷ es) (e ∷ insert_entry cmp es k v)) ≡ e ∷ es) [
      | Less ↦ λ at none. rw here refl
      | Equal ↦ λ at none. absurd (let found : Some e.1 ≡ None = none in cc)
      | Greater ↦ λ at none. let off : is_eq (cmp k e.0) ≡ false = ap is_eq at in rw off (ap (λ t. e ∷ t) (rest none))
    ]) refl h

index_cmp-same : (index : IndexName) → index_cmp index index ≡ Equal
index_cmp-same index =
    let a : slice_cmp nat_cmp index.cluster index.cluster ≡ Equal = tied_itself nat_list_cmp_total index.cluster in
    let b : slice_cmp nat_cmp index.index index.index ≡ Equal = tied_itself nat_list_cmp_total index.index in
    rw a b

absent : {X : Type 0} (o : Option X) → is_some o ≡ false → o ≡ None
absent None h = refl
absent (Some x) h = absurd (let e : true ≡ false = h in cc)

-- an index that wasn't there is taken away again
without_index-with_index : (names : Names) (index : IndexName) (x : IndexMeta) (worlds : ℕ) → has_index names index ≡ false
    → record (without_index (record (with_index names index x) { worlds = worlds }) index) { worlds = names.worlds } ≡ names
without_index-with_index names index x worlds free =
    ap (λ (es : List (IndexName × IndexMeta)). record names { indices = es })
    (remove_entry-insert_entry index_cmp index x (index_cmp-same index) names.indices (absent (index_at names index) free))

-- a leader that was made is taken away again
pub leader_undone : (names late : Names) (index name : IndexName) (s : Settings) (worlds : ℕ) → first_refusal (create_guards names index s) ≡ None → late ≡ with_leader names index s
    → name ≡ index → worlds ≡ names.worlds → record (without_index late name) { worlds = worlds } ≡ names
leader_undone names late index name s worlds h is same count =
    let none = no_guard_holds (create_guards names index s) h in
    rw is (rw same (rw count (without_index-with_index names index (new_leader names.worlds index s) (names.worlds + shards_in s) none.1.0)))

-- a follower that was made is taken away again
pub follower_undone : (names late : Names) (index name leader : IndexName) (s : Settings) (worlds : ℕ) → first_refusal (follow_guards names index leader s) ≡ None → late ≡ with_follower names index leader s
    → name ≡ index → worlds ≡ names.worlds → record (without_index late name) { worlds = worlds } ≡ names
follower_undone names late index name leader s worlds h is same count =
    let none = no_guard_holds (follow_guards names index leader s) h in
    let there : is_some (index_at names leader) ≡ true = not-false (has_index names leader) none.1.0 in
    let free : has_index names index ≡ false = none.1.1.0 in
    rw is (rw same (rw count (
    (elim (index_at names leader) as (λ (o : Option IndexMeta). is_some o ≡ true
    → record (without_index (option_map_or (λ found. with_index names index (new_follower (followers_of names leader) index leader found s)) o names) index) { worlds = names.worlds } ≡ names) [
      | None ↦ λ t. absurd (let e : false ≡ true = t in cc)
      | Some found ↦ λ t. without_index-with_index names index (new_follower (followers_of names leader) index leader found s) names.worlds free
    ]) there)))

-- a follower that is to be made isn't refused
not_refused : (f : Option IndexName) (g : IndexName → Option MetaFault) (index : IndexName) → (if is_none (option_and_then g f) then f else None) ≡ Some index → g index ≡ None
not_refused None g index h = absurd (let e : None ≡ Some index = h in cc)
not_refused (Some i) g index h =
    (elim (g i) as (λ (o : Option MetaFault). g i ≡ o → (if is_none o then Some i else None) ≡ Some index → g index ≡ None) [
      | None ↦ λ e h. let same : i ≡ index = cc in subst (λ (k : IndexName). g k ≡ None) same e
      | Some fault ↦ λ e h. absurd (let e : None ≡ Some index = h in cc)
    ]) refl h

pub follower_of-fit : (leader : IndexName) (names : Names) (d : Decided) (index : IndexName) → follower_of leader names d ≡ Some index → first_refusal (follow_guards names index leader no_settings) ≡ None
follower_of-fit leader names d index h = not_refused (follower_in d.cluster d.decision) (λ k. first_refusal (follow_guards names k leader no_settings)) index h
