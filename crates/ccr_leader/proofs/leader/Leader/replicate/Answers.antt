use Rattle.std.proofs.Common.{refl, sym, subst}
use Rattle.ccr_journal.specs.declared.replies.Reply.TheVariants as replies
use Rattle.ccr_model.specs.Copies.{replica_of}
use Rattle.ccr_model.specs.CopyRows.{replicate_row}
use Rattle.ccr_model.specs.Leaders.{Leader}
use Rattle.ccr_law_settling_grounds.specs.Parked.{AreKeptRightly}
use Rattle.ccr_law_settling_grounds.proofs.Wait.Rows.{replicate_stays}
use Rattle.ccr_leader.proofs.Due.{kept-along, kept-refused}
use Rattle.ccr_leader.proofs.leader.Leader.replicate.Goals as goal

pub invariant_of-self : goal.invariant_of-self
invariant_of-self c = λ whole.
    kept-along c.self.inside.copies c.replicate.new.self (replicate_row c.self.inside.copies c.args.copy c.args.seq (replica_of c.self.inside.copies c.args.copy)) replies.Done c.self.inside.kept c.in-Ok.ensures.ok
    (replicate_stays c.self.inside.copies c.args.copy c.args.seq (replica_of c.self.inside.copies c.args.copy) refl) (c.self.invariant whole)

pub invariant_of-self-in-Err : goal.invariant_of-self-in-Err
invariant_of-self-in-Err c =
    let kept : AreKeptRightly c.self.inside.copies c.self.inside.kept = subst (λ (l : Leader). AreKeptRightly l.copies l.kept) (sym c.self.view_is) c.in_ok-is_whole.ensures.ok in
    kept-refused c.self.inside.copies c.replicate.new.self (replicate_row c.self.inside.copies c.args.copy c.args.seq (replica_of c.self.inside.copies c.args.copy)) c.in-Err.fault c.noted.new.broken c.self.inside.kept c.in-Err.ensures.err
    (replicate_stays c.self.inside.copies c.args.copy c.args.seq (replica_of c.self.inside.copies c.args.copy) refl) kept c.noted.ensures.broken
