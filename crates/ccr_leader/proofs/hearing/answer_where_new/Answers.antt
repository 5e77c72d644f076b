use Rattle.std.proofs.Common.{sym}
use Rattle.ccr_leader.proofs.Settled.{none-added, all-left}
use Rattle.ccr_leader.proofs.hearing.answer_where_new.Goals as goal

pub returns-then-existed-clause-sent : goal.returns-then-existed-clause-sent
returns-then-existed-clause-sent c = sym (none-added c.args.copies.now c.args.kept.now c.args.sent.now (c.requires c.if-existed.true))

pub returns-then-existed-clause-kept : goal.returns-then-existed-clause-kept
returns-then-existed-clause-kept c = sym (all-left c.args.copies.now c.args.kept.now (c.requires c.if-existed.true))
