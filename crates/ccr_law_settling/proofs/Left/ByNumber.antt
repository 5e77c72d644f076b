-- Each replica is found by its number, so what may not be done with any number may not be done with it.
use Rattle.std.specs.List.{AllByRecursion}
use Rattle.std.specs.Prelude.{find}
use Rattle.std.proofs.Common.{◌≡◌, ◌==◌, Some, List}
use Rattle.ccr_model.specs.Copies.{Replica}
use Rattle.ccr_law_base.proofs.Lists.{All-weaker, All-both}
use Rattle.ccr_law_copies.specs.Cores.{Apart}
use Rattle.ccr_law_settling.proofs.Measure.LeftAtLeader.{found_itself}

abbrev pub IsFound : List Replica → Replica → Type 0
IsFound rs r = find (λ (x : Replica). x.copy.number == r.copy.number) rs ≡ Some r

-- what follows for a replica that is found by its number, follows for each
pub each_found : (P Q : Replica → Type 0) (rs : List Replica) → Apart rs → ((r : Replica) → IsFound rs r → P r → Q r) → AllByRecursion P rs → AllByRecursion Q rs
each_found P Q rs apart step all =
    All-weaker (λ (r : Replica). IsFound rs r × P r) Q (λ r both. step r both.0 both.1) rs (All-both (IsFound rs) P rs (found_itself rs apart) all)
