-- Changes of a cluster's auto-follow patterns, by how they are answered.
use Rattle.std.proofs.Common.{◌≡◌, ◌≢◌, ℕ, Bool, true, false, not, List, [], ◌∷◌, Option, Some, None, Result, Ok, Err, refl, sym, ap, subst, ◌∙◌}
use Rattle.std.specs.Prelude.{MatchBool, MatchOption, ◌||◌, ◌&&◌, ◌==◌, is_some, if◌then◌else◌}
use Rattle.std.specs.List.{list_all}
use Rattle.std.specs.Option.{option_map_or}
use Rattle.std.proofs.lemmas.Bool.{and_from, and_parts, eq-eqb, eqb-true, false_from_ne_true}
use Rattle.ccr_auto.specs.declared.follow.AutoFault.{AutoFault}
use Rattle.ccr_auto.specs.declared.follow.AutoFault.TheVariants.{NameTaken, BadPattern, NoPattern, Memory}
use Rattle.ccr_auto.specs.Follow.{FollowPattern, IsWellFormed, is_pattern_text, marker, pattern_of}
use Rattle.ccr_meta.specs.declared.faults.AutoRefused.{AutoRefused}
use Rattle.ccr_meta.specs.declared.faults.AutoRefused.TheVariants.{Meta, Auto}
use Rattle.ccr_meta.specs.declared.faults.MetaFault.TheVariants.{NoCluster}
use Rattle.ccr_meta.specs.Guards.{first_refusal}
use Rattle.ccr_meta.specs.Names.{Names, has_cluster, patterns_at}
use Rattle.ccr_meta.specs.Patterns.{IsDeleted, IsJudgedPut, IsPut, with_pattern_deleted, with_pattern_put}
use Rattle.ccr_answers.specs.declared.forms.Answer.TheVariants as answer
use Rattle.ccr_plans.specs.Planned.{Planned}
use Rattle.ccr_plans.specs.Forms.{does, first_refused, refused}
use Rattle.ccr_plans.specs.Patterns.{cluster_guard, delete_faults, first_fault, is_empty, is_well_formed, occurrences, pattern_refused, put_faults, put_guards, unless_faulty}
use Rattle.ccr_plans.specs.NamesAfter.{unless_fault, unless_refused, with_deleted, with_put}
use Rattle.ccr_plans.specs.Refused.{IsRefusedSo}
use Rattle.ccr_plans.proofs.Marked.{counted_once, marked_once}

-- ---- the form of a pattern

some_texts : (texts : List (List ℕ)) → texts ≢ [] → not (is_empty texts) ≡ true
some_texts [] some = absurd (some refl)
some_texts (text ∷ texts) some = refl

no_texts : (texts : List (List ℕ)) → not (is_empty texts) ≡ true → texts ≢ []
no_texts [] h = absurd (let e : false ≡ true = h in cc)
no_texts (text ∷ texts) h = λ e. cc

formed : (patterns exclude : List (List ℕ)) (follow : List ℕ) → IsWellFormed patterns exclude follow → is_well_formed patterns exclude follow ≡ true
formed patterns exclude follow h =
    let once : Bool = occurrences marker follow == 1 in
    let excluded : Bool = list_all is_pattern_text exclude && once in
    let texts : Bool = list_all is_pattern_text patterns && excluded in
    and_from (not (is_empty patterns)) texts (some_texts patterns h.some)
    (and_from (list_all is_pattern_text patterns) excluded h.texts
    (and_from (list_all is_pattern_text exclude) once h.excluded (eq-eqb (occurrences marker follow) 1 (counted_once follow h.marked))))

is_formed : (patterns exclude : List (List ℕ)) (follow : List ℕ) → is_well_formed patterns exclude follow ≡ true → IsWellFormed patterns exclude follow
is_formed patterns exclude follow h =
    let once : Bool = occurrences marker follow == 1 in
    let excluded : Bool = list_all is_pattern_text exclude && once in
    let some = and_parts (not (is_empty patterns)) (list_all is_pattern_text patterns && excluded) h in
    let texts = and_parts (list_all is_pattern_text patterns) excluded some.1 in
    let rest = and_parts (list_all is_pattern_text exclude) once texts.1 in
    record {
      some = no_texts patterns some.0;
      texts = texts.0;
      excluded = rest.0;
      marked = marked_once follow (eqb-true (occurrences marker follow) 1 rest.1);
    }

not_formed : (patterns exclude : List (List ℕ)) (follow : List ℕ) → (IsWellFormed patterns exclude follow → ⊥) → is_well_formed patterns exclude follow ≡ false
not_formed patterns exclude follow h = false_from_ne_true (is_well_formed patterns exclude follow) (λ e. h (is_formed patterns exclude follow e))

-- ---- a put, by its tests: the remote cluster is there, the cluster is, the name is taken, and the pattern is well formed

abbrev put_plan : Bool → Bool → Bool → Bool → Planned
put_plan remote there taken well = first_refused ((not remote || not there, NoCluster) ∷ []) (unless_faulty ((taken, NameTaken) ∷ (not well, BadPattern) ∷ []))

abbrev put_names : Names → Names → Bool → Bool → Bool → Bool → Names
put_names names next remote there taken well =
    unless_refused ((not remote || not there, NoCluster) ∷ []) names (unless_fault ((taken, NameTaken) ∷ (not well, BadPattern) ∷ []) names next)

abbrev IsPutBy : Bool → Option (List FollowPattern) → List ℕ → List (List ℕ) → List (List ℕ) → List ℕ → Result (Unit {0}) AutoRefused → Type 0
IsPutBy remote list name patterns exclude follow result =
    MatchBool remote
    (MatchOption list (result ≡ Err (Meta NoCluster)) (λ list.
    MatchOption (pattern_of name list) (IsJudgedPut patterns exclude follow result) (λ taken. result ≡ Err (Auto NameTaken))))
    (result ≡ Err (Meta NoCluster))

abbrev has_name : List ℕ → Option (List FollowPattern) → Bool
has_name name list = is_some (pattern_of name (option_map_or (λ patterns. patterns) list []))

-- ---- done

done_by : (remote there taken well : Bool) → remote ≡ true → there ≡ true → taken ≡ false → well ≡ true → does [] answer.Done ≡ put_plan remote there taken well
done_by remote there taken well a b c d =
    sym (ap (λ x. put_plan x there taken well) a ∙ (ap (λ x. put_plan true x taken well) b ∙ (ap (λ x. put_plan true true x well) c ∙ ap (λ x. put_plan true true false x) d)))

next_by : (names next : Names) (remote there taken well : Bool) → remote ≡ true → there ≡ true → taken ≡ false → well ≡ true → next ≡ put_names names next remote there taken well
next_by names next remote there taken well a b c d =
    sym (ap (λ x. put_names names next x there taken well) a
    ∙ (ap (λ x. put_names names next true x taken well) b ∙ (ap (λ x. put_names names next true true x well) c ∙ ap (λ x. put_names names next true true false x) d)))

-- what is done isn't refused
clash : (x : Unit {0}) (why : AutoRefused) → ◌≡◌ {A = Result (Unit {0}) AutoRefused} (Ok x) (Err why) → ⊥
clash x why e = cc

-- the tests of a put that is done
abbrev Passes : Bool → Bool → Bool → List (List ℕ) → List (List ℕ) → List ℕ → Type 0
Passes remote there taken patterns exclude follow = (remote ≡ true) × (there ≡ true) × (taken ≡ false) × IsWellFormed patterns exclude follow

free : (patterns exclude : List (List ℕ)) (follow : List ℕ) (found : Option FollowPattern) (x : Unit {0})
    → MatchOption found (IsJudgedPut patterns exclude follow (Ok x)) (λ taken. ◌≡◌ {A = Result (Unit {0}) AutoRefused} (Ok x) (Err (Auto NameTaken))) → (is_some found ≡ false) × IsWellFormed patterns exclude follow
free patterns exclude follow None x h = (refl, h)
free patterns exclude follow (Some taken) x h = absurd (clash x (Auto NameTaken) h)

passes : (remote : Bool) (list : Option (List FollowPattern)) (name : List ℕ) (patterns exclude : List (List ℕ)) (follow : List ℕ) (x : Unit {0})
    → IsPutBy remote list name patterns exclude follow (Ok x) → Passes remote (is_some list) (has_name name list) patterns exclude follow
passes false list name patterns exclude follow x h = absurd (clash x (Meta NoCluster) h)
passes true None name patterns exclude follow x h = absurd (clash x (Meta NoCluster) h)
passes true (Some list) name patterns exclude follow x h =
    let rest = free patterns exclude follow (pattern_of name list) x h in
    (refl, refl, rest.0, rest.1)

-- ---- refused

-- the plan of a refusal for this cause
refused_so : (why cause : AutoRefused) (plan : Planned) → ◌≡◌ {A = Result (Unit {0}) AutoRefused} (Err why) (Err cause) → IsRefusedSo why plan → IsRefusedSo cause plan
refused_so why cause plan e h = let same : why ≡ cause = cc in subst (λ (w : AutoRefused). IsRefusedSo w plan) same h

abbrev Refuses : Names → Names → Bool → Bool → Bool → Bool → Planned → Type 0
Refuses names next remote there taken well plan = (plan ≡ put_plan remote there taken well) × (names ≡ put_names names next remote there taken well)

badly : (names next : Names) (well : Bool) (plan : Planned) → well ≡ false → plan ≡ pattern_refused BadPattern → Refuses names next true true false well plan
badly names next true plan w h = absurd (cc)
badly names next false plan w h = (h, refl)

judged : (names next : Names) (patterns exclude : List (List ℕ)) (follow : List ℕ) (why : AutoRefused) (plan : Planned) → IsJudgedPut patterns exclude follow (Err why) → IsRefusedSo why plan
    → Refuses names next true true false (is_well_formed patterns exclude follow) plan
judged names next patterns exclude follow (Meta fault) plan h so = absurd h
judged names next patterns exclude follow (Auto BadPattern) plan h so =
    badly names next (is_well_formed patterns exclude follow) plan (not_formed patterns exclude follow h) so.1
judged names next patterns exclude follow (Auto Memory) plan h so = absurd (so.0 refl)
judged names next patterns exclude follow (Auto NameTaken) plan h so = absurd h
judged names next patterns exclude follow (Auto NoPattern) plan h so = absurd h

taken_or_not : (names next : Names) (patterns exclude : List (List ℕ)) (follow : List ℕ) (found : Option FollowPattern) (why : AutoRefused) (plan : Planned)
    → MatchOption found (IsJudgedPut patterns exclude follow (Err why)) (λ taken. ◌≡◌ {A = Result (Unit {0}) AutoRefused} (Err why) (Err (Auto NameTaken))) → IsRefusedSo why plan
    → Refuses names next true true (is_some found) (is_well_formed patterns exclude follow) plan
taken_or_not names next patterns exclude follow None why plan h so = judged names next patterns exclude follow why plan h so
taken_or_not names next patterns exclude follow (Some taken) why plan h so = ((refused_so why (Auto NameTaken) plan h so).1, refl)

refuses : (names next : Names) (remote : Bool) (list : Option (List FollowPattern)) (name : List ℕ) (patterns exclude : List (List ℕ)) (follow : List ℕ) (why : AutoRefused) (plan : Planned)
    → IsPutBy remote list name patterns exclude follow (Err why) → IsRefusedSo why plan
    → Refuses names next remote (is_some list) (has_name name list) (is_well_formed patterns exclude follow) plan
refuses names next false list name patterns exclude follow why plan h so = ((refused_so why (Meta NoCluster) plan h so).1, refl)
refuses names next true None name patterns exclude follow why plan h so = ((refused_so why (Meta NoCluster) plan h so).1, refl)
refuses names next true (Some list) name patterns exclude follow why plan h so = taken_or_not names next patterns exclude follow (pattern_of name list) why plan h so

-- ---- a put, as the names say it

pub put-done : (names : Names) (cluster : List ℕ) (p : FollowPattern) (x : Unit {0}) → IsPut names cluster p.name p.remote p.patterns p.exclude p.follow (Ok x)
    → (does [] answer.Done ≡ first_refused (put_guards names cluster p.remote) (unless_faulty (put_faults names cluster p)))
    × (with_pattern_put names cluster p ≡ with_put names cluster p)
put-done names cluster p x h =
    let remote : Bool = has_cluster names p.remote in
    let list : Option (List FollowPattern) = patterns_at names cluster in
    let well : Bool = is_well_formed p.patterns p.exclude p.follow in
    let all = passes remote list p.name p.patterns p.exclude p.follow x h in
    let good = formed p.patterns p.exclude p.follow all.3 in (
      done_by remote (is_some list) (has_name p.name list) well all.0 all.1 all.2 good,
      next_by names (with_pattern_put names cluster p) remote (is_some list) (has_name p.name list) well all.0 all.1 all.2 good,
    )

pub put-refused : (names : Names) (cluster : List ℕ) (p : FollowPattern) (why : AutoRefused) (plan : Planned) → IsPut names cluster p.name p.remote p.patterns p.exclude p.follow (Err why)
    → IsRefusedSo why plan
    → (plan ≡ first_refused (put_guards names cluster p.remote) (unless_faulty (put_faults names cluster p))) × (names ≡ with_put names cluster p)
put-refused names cluster p why plan h so =
    refuses names (with_pattern_put names cluster p) (has_cluster names p.remote) (patterns_at names cluster) p.name p.patterns p.exclude p.follow why plan h so

-- ---- a deletion, by its tests: the cluster is there, and has a pattern of the name

abbrev delete_plan : Bool → Bool → Planned
delete_plan there found = first_refused ((not there, NoCluster) ∷ []) (unless_faulty ((not found, NoPattern) ∷ []))

abbrev delete_names : Names → Names → Bool → Bool → Names
delete_names names next there found = unless_refused ((not there, NoCluster) ∷ []) names (unless_fault ((not found, NoPattern) ∷ []) names next)

abbrev IsDeletedBy : Option (List FollowPattern) → List ℕ → Result (Unit {0}) AutoRefused → Type 0
IsDeletedBy list name result =
    MatchOption list (result ≡ Err (Meta NoCluster)) (λ list. MatchOption (pattern_of name list) (result ≡ Err (Auto NoPattern)) (λ kept. result ≡ Ok tt))

abbrev DeletesSo : Names → Names → Bool → Bool → Names → Planned → Type 0
DeletesSo names next there found after plan = (plan ≡ delete_plan there found) × (after ≡ delete_names names next there found)

kept_done : (names next : Names) (found : Option FollowPattern) (x : Unit {0})
    → MatchOption found (◌≡◌ {A = Result (Unit {0}) AutoRefused} (Ok x) (Err (Auto NoPattern))) (λ kept. ◌≡◌ {A = Result (Unit {0}) AutoRefused} (Ok x) (Ok tt))
    → DeletesSo names next true (is_some found) next (does [] answer.Done)
kept_done names next None x h = absurd (clash x (Auto NoPattern) h)
kept_done names next (Some kept) x h = (refl, refl)

deleted_done : (names next : Names) (list : Option (List FollowPattern)) (name : List ℕ) (x : Unit {0}) → IsDeletedBy list name (Ok x)
    → DeletesSo names next (is_some list) (has_name name list) next (does [] answer.Done)
deleted_done names next None name x h = absurd (clash x (Meta NoCluster) h)
deleted_done names next (Some list) name x h = kept_done names next (pattern_of name list) x h

kept_refused : (names next : Names) (found : Option FollowPattern) (why : AutoRefused) (plan : Planned)
    → MatchOption found (◌≡◌ {A = Result (Unit {0}) AutoRefused} (Err why) (Err (Auto NoPattern))) (λ kept. ◌≡◌ {A = Result (Unit {0}) AutoRefused} (Err why) (Ok tt)) → IsRefusedSo why plan
    → DeletesSo names next true (is_some found) names plan
kept_refused names next None why plan h so = ((refused_so why (Auto NoPattern) plan h so).1, refl)
kept_refused names next (Some kept) why plan h so = absurd (clash tt why (sym h))

deleted_refused : (names next : Names) (list : Option (List FollowPattern)) (name : List ℕ) (why : AutoRefused) (plan : Planned) → IsDeletedBy list name (Err why) → IsRefusedSo why plan
    → DeletesSo names next (is_some list) (has_name name list) names plan
deleted_refused names next None name why plan h so = ((refused_so why (Meta NoCluster) plan h so).1, refl)
deleted_refused names next (Some list) name why plan h so = kept_refused names next (pattern_of name list) why plan h so

pub delete-done : (names : Names) (cluster name : List ℕ) (x : Unit {0}) → IsDeleted names cluster name (Ok x)
    → (does [] answer.Done ≡ first_refused (cluster_guard names cluster) (unless_faulty (delete_faults names cluster name)))
    × (with_pattern_deleted names cluster name ≡ with_deleted names cluster name)
delete-done names cluster name x h = deleted_done names (with_pattern_deleted names cluster name) (patterns_at names cluster) name x h

pub delete-refused : (names : Names) (cluster name : List ℕ) (why : AutoRefused) (plan : Planned) → IsDeleted names cluster name (Err why) → IsRefusedSo why plan
    → (plan ≡ first_refused (cluster_guard names cluster) (unless_faulty (delete_faults names cluster name))) × (names ≡ with_deleted names cluster name)
delete-refused names cluster name why plan h so = deleted_refused names (with_pattern_deleted names cluster name) (patterns_at names cluster) name why plan h so
