use Rattle.std.proofs.Common.{◌≡◌, Vec, Global, map, ◌∙◌, ap}
use Rattle.ccr_policy.specs.declared.PartSize.{PartSize}
use Rattle.ccr_model.specs.Policies.{sizes_in}
use Rattle.ccr_store.specs.Kept.{part_size}
use Rattle.ccr_store.proofs.Lengths.{ok_by}
use Rattle.ccr_store.proofs.Views.{sizes-are}
use Rattle.ccr_store.proofs.store.Store.sizes.Goals as goal

pub returns : goal.returns
returns c =
    ok_by c.sizes_of.result (λ (sizes : Vec PartSize Global). sizes.items ≡ map part_size c.as_slice.result.now) (λ (sizes : Vec PartSize Global). sizes.items ≡ sizes_in c.args.self.now)
    (λ sizes is. is ∙ (ap (map part_size) c.as_slice.ensures.value ∙ (sizes-are c.self.inside.ops.entries c.self.inside.parts.items c.self.inside.fresh.keys c.self.invariant.filed c.self.invariant.closed ∙ ap sizes_in c.self.view_is))) c.sizes_of.ensures
