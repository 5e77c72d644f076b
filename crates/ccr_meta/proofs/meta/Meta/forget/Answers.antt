use Rattle.std.proofs.Common.{◌≡◌, sym, subst}
use Rattle.std.specs.Map.{remove_entry}
use Rattle.std.specs.BTreeMap.{is_at}
use Rattle.ccr_meta.specs.Names.{AreIn, Names, index_cmp, without_index}
use Rattle.ccr_meta.proofs.meta.Meta.forget.Goals as goal

pub invariant_of-self : goal.invariant_of-self
invariant_of-self c =
    let e : c.remove.new.self.entries ≡ remove_entry (is_at (index_cmp c.args.index.now)) c.self.inside.indices.entries = c.remove.ensures.entries in
    let names : Names = record { clusters = c.self.inside.clusters.entries; indices = c.self.inside.indices.entries; worlds = c.self.inside.worlds } in
    let are : AreIn (record (without_index names c.args.index.now) { worlds = c.args.worlds }) =
    subst (λ (n : Names). AreIn (record (without_index n c.args.index.now) { worlds = c.args.worlds })) (sym c.self.view_is) c.requires in
    rw e are
