use Rattle.ccr_store.proofs.Filled.{holding-none, kept-filled, once-held, store-filled}
use Rattle.ccr_store.proofs.store.Store.from_files.Goals as goal

pub take_files-requires-clause-none : goal.take_files-requires-clause-none
take_files-requires-clause-none c = holding-none c.new-ops.result.entries c.new-ids.result.entries c.new-ops.ensures.empty c.new-ids.ensures.empty

pub take_files-requires-clause-once : goal.take_files-requires-clause-once
take_files-requires-clause-once c = once-held c.args.files.items c.requires

pub invariant_of-result : goal.invariant_of-result
invariant_of-result c =
    kept-filled c.args.files.items c.in_ok-parts.parts.items c.new-fresh.result.keys c.take_files.new.ops.entries c.take_files.new.ids.entries (once-held c.args.files.items c.requires)
    c.in_ok-parts.ensures.parts c.in_ok-parts.ensures.order c.in_ok-parts.ensures.held c.new-fresh.ensures.empty

pub returns : goal.returns
returns c =
    store-filled c.args.files.items c.in_ok-parts.parts.items c.new-fresh.result.keys c.take_files.new.ops.entries c.take_files.new.ids.entries (once-held c.args.files.items c.requires)
    c.in_ok-parts.ensures.parts c.in_ok-parts.ensures.held c.new-fresh.ensures.empty
