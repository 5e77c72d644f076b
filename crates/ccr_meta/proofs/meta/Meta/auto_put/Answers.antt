use Rattle.std.proofs.Common.{rules, ◌≡◌, List, ℕ, Some, sym, ◌∙◌, ap}
use Rattle.std.specs.Ordering.{nat_cmp}
use Rattle.std.specs.Cmp.Lexicographic.{slice_cmp}
use Rattle.std.specs.Map.{lookup, set_value}
use Rattle.std.specs.BTreeMap.{is_at}
use Rattle.ccr_auto.specs.Follow.{FollowPattern}
use Rattle.ccr_meta.specs.Names.{Names}
use Rattle.ccr_meta.proofs.Undone.{set_value-same}
use Rattle.ccr_meta.proofs.meta.Meta.auto_put.Goals.{in-Ok, in-Err}
use Rattle.ccr_meta.proofs.meta.Meta.auto_put.Goals as goal

pub returns-clause-err : goal.returns-clause-err
returns-clause-err c =
    elim c.match-put.branch [
      | in-Ok w ↦ rw w.result-is tt
      | in-Err w ↦
          let same : c.put.new.self ≡ c.in-Some.list.now = w.in-Err.ensures.err in
          let found : lookup (is_at (slice_cmp nat_cmp c.args.cluster.now)) c.self.inside.clusters.entries ≡ Some c.in-Some.list.now = search rules in
          let there : lookup (is_at (slice_cmp nat_cmp c.args.cluster.now)) c.self.inside.clusters.entries ≡ Some c.put.new.self = found ∙ ap (λ (v : List FollowPattern). Some v) (sym same) in
          let written : (c.get_mut.follows.lender c.put.new.self).entries ≡ set_value (is_at (slice_cmp nat_cmp c.args.cluster.now)) c.self.inside.clusters.entries c.put.new.self = search rules in
          let kept : (c.get_mut.follows.lender c.put.new.self).entries ≡ c.self.inside.clusters.entries =
          written ∙ set_value-same (is_at (slice_cmp nat_cmp c.args.cluster.now)) c.self.inside.clusters.entries c.put.new.self there in
          let names : List (List ℕ × List FollowPattern) → Names = λ clusters. record { clusters = clusters; indices = c.self.inside.indices.entries; worlds = c.self.inside.worlds } in
          rw w.result-is (ap names kept ∙ c.self.view_is)
    ]
