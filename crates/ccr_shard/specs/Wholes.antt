-- Copies that have all.
use Rattle.std.specs.Prelude.{ℕ, Bool, List, drop, map}
use Rattle.std.specs.List.{list_all}
use Rattle.ccr_model.specs.Copies.{Copy, Replica}
use Rattle.ccr_model.specs.Settled.{is_whole}

-- the replicas from a place on have processed all numbers below the count and know it
abbrev pub are_whole_from : ℕ → ℕ → List Replica → Bool
are_whole_from place count replicas = list_all (is_whole count) (map {A = Replica} {B = Copy} (λ r. r.copy) (drop place replicas))
