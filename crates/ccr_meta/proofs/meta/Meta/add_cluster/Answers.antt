use Rattle.std.proofs.Common.{◌≡◌, [], None, length, rules, subst, sym}
use Rattle.std.specs.Ordering.{nat_cmp}
use Rattle.std.specs.Cmp.Lexicographic.{slice_cmp}
use Rattle.std.specs.BTreeMap.{insert_entry}
use Rattle.std.proofs.lemmas.Bool.{leb-false, not-false}
use Rattle.ccr_meta.specs.Guards.{first_refusal}
use Rattle.ccr_meta.specs.NameGuards.{cluster_guards}
use Rattle.ccr_meta.specs.Names.{Names, is_name}
use Rattle.ccr_meta.proofs.Limits.{AreIn-with_cluster, no_guard_holds}
use Rattle.ccr_meta.proofs.meta.Meta.add_cluster.Goals as goal

pub invariant_of-self-2 : goal.invariant_of-self-2
invariant_of-self-2 c =
    let names : Names = record { clusters = c.self.inside.clusters.entries; indices = c.self.inside.indices.entries; worlds = c.self.inside.worlds } in
    let entries : c.insert.new.self.entries ≡ insert_entry (slice_cmp nat_cmp) c.self.inside.clusters.entries c.args.name [] = search rules in
    let allowed : first_refusal (cluster_guards c.args.self.now c.args.name) ≡ None = search rules in
    let here : first_refusal (cluster_guards names c.args.name) ≡ None = subst (λ (n : Names). first_refusal (cluster_guards n c.args.name) ≡ None) (sym c.self.view_is) allowed in
    let none = no_guard_holds (cluster_guards names c.args.name) here in
    rw entries (AreIn-with_cluster names c.args.name c.self.invariant (leb-false 8 (length names.clusters) none.1.1.0) (not-false (is_name c.args.name) none.0))
