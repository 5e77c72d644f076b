use Rattle.std.proofs.Common.{sym, ◌∙◌}
use Rattle.ccr_task.proofs.Indexing.{place-only}
use Rattle.ccr_task.proofs.lists.place_of_read.Goals as goal

pub returns-then-request-clause-place : goal.returns-then-request-clause-place
returns-then-request-clause-place c =
    place-only c.args.request c.place_of_end-place.result c.index-reads-place.result c.args.reads.now c.if-place-reads.true c.index-reads-place.is (sym c.request.ensures ∙ c.if-request.true) c.requires
