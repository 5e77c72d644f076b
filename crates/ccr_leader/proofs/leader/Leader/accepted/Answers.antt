use Rattle.std.proofs.Common.{refl}
use Rattle.std.proofs.lemmas.Result.{err_from_is_err_and}
use Rattle.ccr_model.specs.LeaderRows.{primary_takes, source_fault}
use Rattle.ccr_leader.specs.Faults.{refusal_of}
use Rattle.ccr_leader.proofs.Written.{write-accepted, write-refused, write-unreadable_as}
use Rattle.ccr_leader.proofs.leader.Leader.accepted.Goals as goal

pub returns-in_err-source-clause-err : goal.returns-in_err-source-clause-err
returns-in_err-source-clause-err c =
    let p = err_from_is_err_and c.from_residual.result c.from_residual.ensures.1 in
    rw (p.1, p.2) (λ is. write-unreadable_as c.args.self.now c.args.request.now c.in_err-source.field-0.0 (source_fault c.args.request.now.body) refl (c.in_err-source.ensures.err is))

pub returns-in_err-wrote-clause-err : goal.returns-in_err-wrote-clause-err
returns-in_err-wrote-clause-err c =
    let p = err_from_is_err_and c.from_residual-in_err-wrote.result c.from_residual-in_err-wrote.ensures.1 in
    rw (p.1, p.2) (λ is. write-refused c.args.self.now c.args.request.now c.in_ok-source.source (refusal_of c.in_err-wrote.field-0.0) c.in_ok-source.ensures.ok (c.in_err-wrote.ensures.err is))

pub returns-clause-ok : goal.returns-clause-ok
returns-clause-ok c =
    write-accepted c.args.self.now c.args.request.now c.in_ok-source.source c.in_ok-wrote.wrote c.in_ok-op.op (primary_takes c.args.self.now.copies c.in_ok-op.op)
    c.in_ok-source.ensures.ok c.in_ok-wrote.ensures.meets c.in_ok-wrote.ensures.ok c.in_ok-op.ensures refl
