use Rattle.std.proofs.Common.{◌≡◌}
use Rattle.std.specs.Map.{keys_of}
use Rattle.ccr_model.specs.Stores.{held}
use Rattle.ccr_store.specs.Kept.{first_live}
use Rattle.ccr_store.proofs.store.Store.first_live.Given as goal

abbrev pub invariant-loop-id : goal.invariant-loop-id
invariant-loop-id l = first_live (held l.self) (keys_of l.id-iterator) ≡ first_live (held l.self) (keys_of l.fn.ids)
