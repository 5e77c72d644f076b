use Rattle.ccr_model.specs.Past.{start_past, past_of}
use Rattle.ccr_law_leases.proofs.Ordering.{order-holds, order-says}
use Rattle.ccr_law_leases.proofs.law.lease_history.Goals as goal

pub returns-clause-order : goal.returns-clause-order
returns-clause-order c = order-holds

pub returns-clause-unbroken : goal.returns-clause-unbroken
returns-clause-unbroken c start counts entries legal = order-says (past_of (start_past start) entries) (order-holds start counts entries legal)
