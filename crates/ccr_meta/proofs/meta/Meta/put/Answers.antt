use Rattle.std.proofs.Common.{◌≡◌, ◌∙◌, true, ◌<◌, ◌≤◌, List, ap, length, sym, subst}
use Rattle.std.specs.BTreeMap.{insert_entry}
use Rattle.ccr_op.specs.declared.index_name.IndexName.{IndexName}
use Rattle.ccr_meta.specs.Names.{Names, follows, followers_of, index_cmp, with_index}
use Rattle.ccr_meta.specs.declared.index_meta.IndexMeta.{IndexMeta}
use Rattle.ccr_meta.proofs.Limits.{AreIn-with_index}
use Rattle.ccr_meta.proofs.meta.Meta.put.Goals as goal

pub invariant_of-self-2 : goal.invariant_of-self-2
invariant_of-self-2 c =
    let e : c.insert.new.self.entries ≡ insert_entry index_cmp c.self.inside.indices.entries c.args.index c.args.x = c.in_ok-insert.ensures.entries in
    let names : Names = record { clusters = c.self.inside.clusters.entries; indices = c.self.inside.indices.entries; worlds = c.self.inside.worlds } in
    let few : length names.indices < 64 = subst (λ (n : Names). length n.indices < 64) (sym c.self.view_is) c.requires.few in
    let rising : names.worlds ≤ c.args.worlds = subst (λ (n : Names). n.worlds ≤ c.args.worlds) (sym c.self.view_is) c.requires.rising in
    let room : (leader : IndexName) → follows leader c.args.x ≡ true → followers_of names leader < 8 =
    subst (λ (n : Names). (leader : IndexName) → follows leader c.args.x ≡ true → followers_of n leader < 8) (sym c.self.view_is) c.requires.room in
    rw e (AreIn-with_index names c.args.index c.args.x c.args.worlds c.self.invariant few rising c.requires.bound c.requires.within room c.requires.named)

pub returns-clause-ok : goal.returns-clause-ok
returns-clause-ok c =
    let e : c.insert.new.self.entries ≡ insert_entry index_cmp c.self.inside.indices.entries c.args.index c.args.x = c.in_ok-insert.ensures.entries in
    let at : List (IndexName × IndexMeta) → Names = λ (es : List (IndexName × IndexMeta)). record { clusters = c.self.inside.clusters.entries; indices = es; worlds = c.args.worlds } in
    ap at e ∙ ap (λ (n : Names). record (with_index n c.args.index c.args.x) { worlds = c.args.worlds }) c.self.view_is
