use Rattle.std.proofs.Common.{◌<◌, length, sym, subst}
use Rattle.ccr_task.specs.Reading.{Reading}
use Rattle.ccr_task.proofs.Indexing.{held-some, cut-indexed}
use Rattle.ccr_task.proofs.Keeping.{shorter-ascending, shorter-timed}
use Rattle.ccr_task.proofs.reading.Reading.cut.Goals as goal

pub without-self-inside-requires : goal.without-self-inside-requires
without-self-inside-requires c =
    held-some c.self.inside.next_request c.self.inside.reads.items c.self.inside.sent.items c.self.inside.held c.args.place c.remove-own.result c.is_held.result
    (subst (λ (s : Reading). c.args.place < length s.reads) (sym c.self.view_is) c.requires) c.remove-own.ensures.value c.is_held.ensures c.self.invariant.indexed

pub invariant_of-self : goal.invariant_of-self
invariant_of-self c = record {
  indexed =
      cut-indexed c.self.inside.next_request c.self.inside.reads.items c.remove-own.new.self.items c.self.inside.sent.items c.unlist.new.sent.items c.self.inside.held c.without-self-inside.result c.args.place c.request.result
      c.remove-own.result c.is_held.result c.remove-own.ensures.items (subst (λ (s : Reading). c.args.place < length s.reads) (sym c.self.view_is) c.requires) c.remove-own.ensures.value c.request.ensures c.unlist.ensures c.is_held.ensures
      c.without-self-inside.ensures c.self.invariant.indexed;
  ascending = shorter-ascending c.self.inside.reads.items c.remove-own.new.self.items c.args.place c.self.inside.ascends c.remove-own.ensures.items c.self.invariant.ascending;
  earliest =
      shorter-timed c.self.inside.reads.items c.remove-own.new.self.items c.args.place c.remove-own.result c.self.inside.timed c.still-self-inside.result c.self.inside.soonest c.waits_until.result c.remove-own.ensures.items
      (subst (λ (s : Reading). c.args.place < length s.reads) (sym c.self.view_is) c.requires) c.remove-own.ensures.value c.waits_until.ensures c.still-self-inside.ensures c.self.invariant.earliest;
}
