-- Changes of a cluster's auto-follow patterns: why they are refused.
use Rattle.std.specs.Prelude.{ℕ, ◌+◌, ◌==◌, Bool, true, false, not, ◌&&◌, ◌||◌, if◌then◌else◌, List, [], ◌∷◌, Option, None, Some, is_some, is_none}
use Rattle.std.specs.List.{list_all}
use Rattle.std.specs.Option.{option_map_or}
use Rattle.ccr_auto.specs.declared.follow.AutoFault.{AutoFault}
use Rattle.ccr_auto.specs.declared.follow.AutoFault.TheVariants.{NameTaken, BadPattern, NoPattern}
use Rattle.ccr_auto.specs.Patterns.{has_front}
use Rattle.ccr_auto.specs.Follow.{FollowPattern, is_pattern_text, marker, pattern_of}
use Rattle.ccr_meta.specs.declared.faults.MetaFault.{MetaFault}
use Rattle.ccr_meta.specs.declared.faults.MetaFault.TheVariants.{NoCluster}
use Rattle.ccr_meta.specs.Names.{Names, has_cluster, patterns_at}
use Rattle.ccr_answers.specs.declared.forms.Answer.TheVariants as answer
use Rattle.ccr_plans.specs.Planned.{Planned}
use Rattle.ccr_plans.specs.Forms.{does}

-- how often a piece stands in a text
abbrev pub occurrences : List ℕ → List ℕ → ℕ
occurrences piece [] = 0
occurrences piece (c ∷ text) = (if has_front piece (c ∷ text) then 1 else 0) + occurrences piece text

abbrev pub is_empty : List (List ℕ) → Bool
is_empty [] = true
is_empty (text ∷ texts) = false

-- there are texts, these and the exclusions are patterns, and the follow name has the marker exactly once
abbrev pub is_well_formed : List (List ℕ) → List (List ℕ) → List ℕ → Bool
is_well_formed patterns exclude follow =
    not (is_empty patterns) && (list_all is_pattern_text patterns && (list_all is_pattern_text exclude && (occurrences marker follow == 1)))

-- ---- the refusals, of which the first that holds is told

abbrev pub cluster_guard : Names → List ℕ → List (Bool × MetaFault)
cluster_guard names cluster = (not (has_cluster names cluster), NoCluster) ∷ []

abbrev pub put_guards : Names → List ℕ → List ℕ → List (Bool × MetaFault)
put_guards names cluster remote = (not (has_cluster names remote) || not (has_cluster names cluster), NoCluster) ∷ []

-- the patterns of a cluster
abbrev pub patterns_of : Names → List ℕ → List FollowPattern
patterns_of names cluster = option_map_or (λ patterns. patterns) (patterns_at names cluster) []

abbrev pub has_pattern : Names → List ℕ → List ℕ → Bool
has_pattern names cluster name = is_some (pattern_of name (patterns_of names cluster))

abbrev pub first_fault : List (Bool × AutoFault) → Option AutoFault
first_fault [] = None
first_fault (guard ∷ guards) = if guard.0 then Some guard.1 else first_fault guards

abbrev pub put_faults : Names → List ℕ → FollowPattern → List (Bool × AutoFault)
put_faults names cluster p =
    (has_pattern names cluster p.name, NameTaken) ∷ (not (is_well_formed p.patterns p.exclude p.follow), BadPattern) ∷ []

abbrev pub delete_faults : Names → List ℕ → List ℕ → List (Bool × AutoFault)
delete_faults names cluster name = (not (has_pattern names cluster name), NoPattern) ∷ []

abbrev pub pattern_refused : AutoFault → Planned
pattern_refused fault = does [] (answer.PatternRefused fault)

-- the patterns of a cluster are changed, where nothing speaks against it
abbrev pub unless_faulty : List (Bool × AutoFault) → Planned
unless_faulty faults = option_map_or pattern_refused (first_fault faults) (does [] answer.Done)
