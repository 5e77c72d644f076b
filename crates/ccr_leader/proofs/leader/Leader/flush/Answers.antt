use Rattle.std.proofs.Common.{sym, subst}
use Rattle.ccr_journal.specs.declared.replies.Reply.TheVariants as replies
use Rattle.ccr_model.specs.Copies.{copy_of}
use Rattle.ccr_model.specs.CopyRows.{flush_row}
use Rattle.ccr_model.specs.Leaders.{Leader}
use Rattle.ccr_law_settling_grounds.specs.Parked.{AreKeptRightly}
use Rattle.ccr_law_settling_grounds.proofs.Wait.Rows.{flush_stays}
use Rattle.ccr_leader.proofs.Due.{kept-along, kept-refused}
use Rattle.ccr_leader.proofs.leader.Leader.flush.Goals as goal

pub invariant_of-self : goal.invariant_of-self
invariant_of-self c = λ whole.
    kept-along c.self.inside.copies c.flush.new.self (flush_row c.self.inside.copies c.args.copy (copy_of c.self.inside.copies c.args.copy)) (replies.Flushed c.in-Ok.told) c.self.inside.kept c.in-Ok.ensures.ok
    (flush_stays c.self.inside.copies c.args.copy (copy_of c.self.inside.copies c.args.copy)) (c.self.invariant whole)

pub invariant_of-self-in-Err : goal.invariant_of-self-in-Err
invariant_of-self-in-Err c =
    let kept : AreKeptRightly c.self.inside.copies c.self.inside.kept = subst (λ (l : Leader). AreKeptRightly l.copies l.kept) (sym c.self.view_is) c.in_ok-is_whole.ensures.ok in
    kept-refused c.self.inside.copies c.flush.new.self (flush_row c.self.inside.copies c.args.copy (copy_of c.self.inside.copies c.args.copy)) c.in-Err.fault c.noted.new.broken c.self.inside.kept c.in-Err.ensures.err
    (flush_stays c.self.inside.copies c.args.copy (copy_of c.self.inside.copies c.args.copy)) kept c.noted.ensures.broken
