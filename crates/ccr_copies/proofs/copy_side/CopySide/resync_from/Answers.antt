use Rattle.ccr_copies.specs.Processed.{HoldsProcessed}
use Rattle.ccr_copies.proofs.Holding.{holds-more, holds-rolled, holds-run, sifted-below}
use Rattle.ccr_copies.proofs.copy_side.CopySide.resync_from.Goals as goal

pub invariant_of-self-in_err-mark_run : goal.invariant_of-self-in_err-mark_run
invariant_of-self-in_err-mark_run c =
    let rolled : HoldsProcessed c.reset_from.new.self c.roll_back.new.self =
    holds-rolled c.self.inside.seen c.reset_from.new.self c.self.inside.store c.roll_back.new.self c.args.mark c.self.invariant c.in_ok-dropped.ensures.ok c.reset_from.ensures.members in
    holds-more c.reset_from.new.self c.mark_run.new.seen c.roll_back.new.self rolled c.in_err-mark_run.ensures.kept

pub take_run-requires : goal.take_run-requires
take_run-requires c = sifted-below c.args.mark c.self.inside.store c.roll_back.new.self c.in_ok-dropped.ensures.ok

pub invariant_of-self-in_err-take_run : goal.invariant_of-self-in_err-take_run
invariant_of-self-in_err-take_run c =
    let rolled : HoldsProcessed c.reset_from.new.self c.roll_back.new.self =
    holds-rolled c.self.inside.seen c.reset_from.new.self c.self.inside.store c.roll_back.new.self c.args.mark c.self.invariant c.in_ok-dropped.ensures.ok c.reset_from.ensures.members in
    holds-run c.mark_run.new.seen c.roll_back.new.self c.take_run.new.store c.args.mark c.count-count.result
    (holds-more c.reset_from.new.self c.mark_run.new.seen c.roll_back.new.self rolled c.in_ok-mark_run.ensures.kept) c.in_ok-mark_run.ensures.run c.in_err-take_run.ensures.within

pub invariant_of-self-2 : goal.invariant_of-self-2
invariant_of-self-2 c =
    let rolled : HoldsProcessed c.reset_from.new.self c.roll_back.new.self =
    holds-rolled c.self.inside.seen c.reset_from.new.self c.self.inside.store c.roll_back.new.self c.args.mark c.self.invariant c.in_ok-dropped.ensures.ok c.reset_from.ensures.members in
    holds-run c.mark_run.new.seen c.roll_back.new.self c.take_run.new.store c.args.mark c.count-count.result
    (holds-more c.reset_from.new.self c.mark_run.new.seen c.roll_back.new.self rolled c.in_ok-mark_run.ensures.kept) c.in_ok-mark_run.ensures.run c.in_ok-take_run.ensures.within
