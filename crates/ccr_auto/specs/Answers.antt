use Rattle.std.specs.Prelude.{ℕ, List, [], ◌∷◌, filter, Result, Ok, Err}
use Rattle.ccr_auto.specs.declared.follow.AutoFault.{AutoFault}
use Rattle.ccr_auto.specs.declared.follow.AutoFault.TheVariants.{BadPattern, Memory}
use Rattle.ccr_auto.specs.declared.follow.Decision.{Decision}
use Rattle.ccr_auto.specs.declared.follow.Decision.TheVariants.{None as NoFollow, Follow, Conflict}
use Rattle.ccr_auto.specs.Follow.{FollowPattern, IsWellFormed, applies, name_for}

-- the answer to a put under a name that is free
abbrev pub IsJudged : List (List ℕ) → List (List ℕ) → List ℕ → Result (Unit {0}) AutoFault → Type 0
IsJudged patterns exclude follow (Ok done) = IsWellFormed patterns exclude follow
IsJudged patterns exclude follow (Err BadPattern) = IsWellFormed patterns exclude follow → ⊥
IsJudged patterns exclude follow (Err Memory) = IsWellFormed patterns exclude follow
IsJudged patterns exclude follow (Err other) = ⊥

-- what is decided, by the patterns that apply in order of their names
abbrev pub decision_by : List ℕ → List FollowPattern → Decision
decision_by index [] = NoFollow
decision_by index (one ∷ []) = Follow (name_for index one.follow)
decision_by index (one ∷ two ∷ more) = Conflict one.name two.name

-- what the patterns decide of an index of a remote cluster
abbrev pub decision_of : List ℕ → List ℕ → List FollowPattern → Decision
decision_of remote index patterns = decision_by index (filter (applies remote index) patterns)
