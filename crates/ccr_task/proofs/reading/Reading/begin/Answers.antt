use Rattle.std.proofs.Common.{ap, sym, arith}
use Rattle.std.proofs.lemmas.Grind.{common_steps}
use Rattle.ccr_model.specs.Tasks.{Read}
use Rattle.ccr_task.proofs.Indexing.{begun}
use Rattle.ccr_task.proofs.Keeping.{goes-on-ascending, goes-on-timed}
use Rattle.ccr_task.proofs.reading.Reading.begin.Goals as goal

pub invariant_of-self-2 : goal.invariant_of-self-2
invariant_of-self-2 c = record {
  indexed =
      begun c.self.inside.next_request c.in-Some.next_request c.self.inside.reads.items c.push_sent.new.reads.items c.self.inside.sent.items c.push_sent.new.sent.items c.self.inside.held c.new-read.result
      (grind (arith, common_steps)) c.in_ok-push_sent.ensures.ok_reads c.in_ok-push_sent.ensures.ok_sent (ap (λ (r : Read). r.request) c.new-read.ensures) (ap (λ (r : Read). r.progress) c.new-read.ensures) c.self.invariant.indexed;
  ascending =
      goes-on-ascending c.self.inside.reads.items c.as_slice.result.now c.push_sent.new.reads.items c.args.from c.new-read.result c.self.inside.ascends c.follows-ascends.result c.as_slice.ensures.value c.in_ok-push_sent.ensures.ok_reads
      (sym (ap (λ (r : Read). r.from) c.new-read.ensures)) c.follows-ascends.ensures c.self.invariant.ascending;
  earliest = goes-on-timed c.self.inside.reads.items c.push_sent.new.reads.items c.new-read.result c.self.inside.timed c.self.inside.soonest c.in_ok-push_sent.ensures.ok_reads (ap (λ (r : Read). r.progress) c.new-read.ensures) c.self.invariant.earliest;
}
