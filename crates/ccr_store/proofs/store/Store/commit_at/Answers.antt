use Rattle.std.proofs.Common.{◌≡◌, ℕ, ◌++◌, nat_lt, Vec, Global, map, ◌∙◌, ap}
use Rattle.std.specs.Prelude.{filter}
use Rattle.ccr_segment.specs.Segment.{spelling as segment_of_ops}
use Rattle.ccr_model.specs.Stores.{files_below, one_part}
use Rattle.ccr_store.specs.Kept.{kept_at, lists_of, ops_of, contents_of, files_of}
use Rattle.ccr_store.proofs.Lengths.{ok_by}
use Rattle.ccr_store.proofs.Views.{files-are}
use Rattle.ccr_store.proofs.store.Store.commit_at.Goals as goal

pub returns : goal.returns
returns c =
    ok_by c.files_below.result
    (λ (files : Vec (Vec ℕ Global) Global). contents_of files.items ≡ map segment_of_ops (files_of (kept_at c.self.inside.ops.entries) c.args.count (lists_of c.as_slice.result.now) ++ one_part (filter (λ op. nat_lt op.seq c.args.count) (ops_of (kept_at c.self.inside.ops.entries) c.as_slice-2.result.now))))
    (λ (files : Vec (Vec ℕ Global) Global). contents_of files.items ≡ map segment_of_ops (files_below c.args.count c.args.self.now))
    (λ files is. is ∙ ap (map segment_of_ops)
    (files-are (kept_at c.self.inside.ops.entries) c.args.count c.as_slice.result.now c.self.inside.parts.items c.as_slice-2.result.now c.self.inside.fresh.keys c.as_slice.ensures.value (c.as_slice-2.ensures.value ∙ c.in_ok-fresh.ensures.keys)
    ∙ ap (files_below c.args.count) c.self.view_is)) c.files_below.ensures
