use Rattle.std.proofs.Common.{◌≡◌, Some, sym, ◌∙◌, ap}
use Rattle.std.proofs.lemmas.Result.{err_from_is_err_and}
use Rattle.ccr_journal.specs.declared.replies.Refusal.TheVariants.{NoCopy}
use Rattle.ccr_model.specs.Copies.{copy_of}
use Rattle.ccr_model.specs.Leaders.{Leader, Poll}
use Rattle.ccr_model.specs.LeaderFrames.{hears}
use Rattle.ccr_model.specs.Outcomes.{refused}
use Rattle.ccr_leader.specs.Faults.{refusal_of}
use Rattle.ccr_leader.proofs.Fetched.{nowhere-row, number-of}
use Rattle.ccr_leader.proofs.Received.{received, received-heard, received-refused, read-as, ignored, ignored-row}
use Rattle.ccr_leader.proofs.leader.Leader.receive.Goals as goal

pub returns-in_ok-told-in-LeaseRenew-clause-ok : goal.returns-in_ok-told-in-LeaseRenew-clause-ok
returns-in_ok-told-in-LeaseRenew-clause-ok c =
    received-heard c.args.self.now c.args.copy c.args.message.now c.follower-follower.result c.request-request.result _ c.in_ok-told-in-LeaseRenew.told.0 c.hear_renewal.new.self c.in_ok-told-in-LeaseRenew.told.1 c.follower-follower.ensures c.request-request.ensures
    (sym c.content.ensures.value ∙ c.in-LeaseRenew.is) c.in_ok-told-in-LeaseRenew.ensures.ok c.in_ok-told-in-LeaseRenew.ensures.kept

pub returns-in_ok-told-in-LeaseRemove-clause-ok : goal.returns-in_ok-told-in-LeaseRemove-clause-ok
returns-in_ok-told-in-LeaseRemove-clause-ok c =
    received-heard c.args.self.now c.args.copy c.args.message.now c.follower-follower.result c.request-request.result _ c.in_ok-told-in-LeaseRemove.told.0 c.hear_removal.new.self c.in_ok-told-in-LeaseRemove.told.1 c.follower-follower.ensures c.request-request.ensures
    (sym c.content.ensures.value ∙ c.in-LeaseRemove.is) c.in_ok-told-in-LeaseRemove.ensures.ok c.in_ok-told-in-LeaseRemove.ensures.kept

pub returns-in_ok-told-in-SessionOpen-clause-ok : goal.returns-in_ok-told-in-SessionOpen-clause-ok
returns-in_ok-told-in-SessionOpen-clause-ok c =
    received-heard c.args.self.now c.args.copy c.args.message.now c.follower-follower.result c.request-request.result _ c.in_ok-told-in-SessionOpen.told.0 c.hear_opening.new.self c.in_ok-told-in-SessionOpen.told.1 c.follower-follower.ensures c.request-request.ensures
    (sym c.content.ensures.value ∙ c.in-SessionOpen.is) c.in_ok-told-in-SessionOpen.ensures.ok c.in_ok-told-in-SessionOpen.ensures.kept

pub returns-in_ok-told-in-ChunkRequest-clause-ok : goal.returns-in_ok-told-in-ChunkRequest-clause-ok
returns-in_ok-told-in-ChunkRequest-clause-ok c =
    received-heard c.args.self.now c.args.copy c.args.message.now c.follower-follower.result c.request-request.result _ c.in_ok-told-in-ChunkRequest.told.0 c.hear_chunk.new.self c.in_ok-told-in-ChunkRequest.told.1 c.follower-follower.ensures c.request-request.ensures
    (sym c.content.ensures.value ∙ c.in-ChunkRequest.is) c.in_ok-told-in-ChunkRequest.ensures.ok c.in_ok-told-in-ChunkRequest.ensures.kept

pub returns-in_ok-told-in-LeaseAdd-clause-ok : goal.returns-in_ok-told-in-LeaseAdd-clause-ok
returns-in_ok-told-in-LeaseAdd-clause-ok c =
    received c.args.self.now c.args.copy c.args.message.now c.follower-follower.result c.request-request.result _ _ c.follower-follower.ensures c.request-request.ensures (sym c.content.ensures.value ∙ c.in-LeaseAdd.is) c.in_ok-told-in-LeaseAdd.ensures.ok

pub returns-in_default-copy_of-clause-err : goal.returns-in_default-copy_of-clause-err
returns-in_default-copy_of-clause-err c = λ is.
    received-refused c.args.self.now c.args.copy c.args.message.now c.follower-follower.result c.request-request.result _ c.args.self.now (NoCopy c.args.copy) c.follower-follower.ensures c.request-request.ensures
    (sym c.content.ensures.value ∙ c.in-ReadRequest.is)
    (nowhere-row c.args.self.now _ c.args.copy (copy_of c.args.self.now.copies c.args.copy)
    (ap (λ (l : Leader). copy_of l.copies c.args.copy) (sym c.self.view_is) ∙ sym c.in_default-copy_of.ensures))

pub returns-in_ok-told-in-ReadRequest-clause-ok : goal.returns-in_ok-told-in-ReadRequest-clause-ok
returns-in_ok-told-in-ReadRequest-clause-ok c =
    let p : Poll = record {
      follower = c.follower-follower.result;
      request = c.request-request.result;
      copy = c.number.result;
      history = c.in-ReadRequest.history;
      from = c.in-ReadRequest.from;
      max_ops = c.in-ReadRequest.max_ops;
      max_bytes = c.in-ReadRequest.max_bytes;
      timeout = c.in-ReadRequest.timeout;
      parked = c.self.inside.now;
    } in
    let there : copy_of c.args.self.now.copies c.args.copy ≡ Some c.in-Some.side.now = ap (λ (l : Leader). copy_of l.copies c.args.copy) (sym c.self.view_is) ∙ sym c.in-Some.ensures in
    let same : c.number.result ≡ c.args.copy = c.number.ensures ∙ number-of c.args.self.now.copies c.args.copy c.in-Some.side.now there in
    let at : c.self.inside.now ≡ c.args.self.now.now = ap (λ (l : Leader). l.now) c.self.view_is in
    received-heard c.args.self.now c.args.copy c.args.message.now c.follower-follower.result c.request-request.result _ c.in_ok-told-in-ReadRequest.told.0 c.hear_read.new.self c.in_ok-told-in-ReadRequest.told.1
    c.follower-follower.ensures c.request-request.ensures (sym c.content.ensures.value ∙ c.in-ReadRequest.is)
    (read-as c.args.self.now p c.args.copy c.number.result c.self.inside.now (copy_of c.args.self.now.copies c.args.copy)
    (hears c.in_ok-told-in-ReadRequest.told.0 c.hear_read.new.self c.in_ok-told-in-ReadRequest.told.1) same at c.in_ok-told-in-ReadRequest.ensures.ok)
    (c.in_ok-told-in-ReadRequest.ensures.kept c.in_ok-is_whole.ensures.ok)

pub returns-in_err-told-in-ReadRequest-clause-err : goal.returns-in_err-told-in-ReadRequest-clause-err
returns-in_err-told-in-ReadRequest-clause-err c =
    let p : Poll = record {
      follower = c.follower-follower.result;
      request = c.request-request.result;
      copy = c.number.result;
      history = c.in-ReadRequest.history;
      from = c.in-ReadRequest.from;
      max_ops = c.in-ReadRequest.max_ops;
      max_bytes = c.in-ReadRequest.max_bytes;
      timeout = c.in-ReadRequest.timeout;
      parked = c.self.inside.now;
    } in
    let there : copy_of c.args.self.now.copies c.args.copy ≡ Some c.in-Some.side.now = ap (λ (l : Leader). copy_of l.copies c.args.copy) (sym c.self.view_is) ∙ sym c.in-Some.ensures in
    let same : c.number.result ≡ c.args.copy = c.number.ensures ∙ number-of c.args.self.now.copies c.args.copy c.in-Some.side.now there in
    let at : c.self.inside.now ≡ c.args.self.now.now = ap (λ (l : Leader). l.now) c.self.view_is in
    let e = err_from_is_err_and c.from_residual-in_err-told-in-ReadRequest.result c.from_residual-in_err-told-in-ReadRequest.ensures.1 in
    rw (e.1, e.2) (λ is. received-refused c.args.self.now c.args.copy c.args.message.now c.follower-follower.result c.request-request.result _ c.hear_read.new.self
    (refusal_of c.in_err-told-in-ReadRequest.field-0.0) c.follower-follower.ensures c.request-request.ensures (sym c.content.ensures.value ∙ c.in-ReadRequest.is)
    (read-as c.args.self.now p c.args.copy c.number.result c.self.inside.now (copy_of c.args.self.now.copies c.args.copy)
    (refused c.hear_read.new.self (refusal_of c.in_err-told-in-ReadRequest.field-0.0)) same at (c.in_err-told-in-ReadRequest.ensures.err is)))

pub returns-in_default : goal.returns-in_default
returns-in_default c = record {
  ok = ignored c.args.self.now c.args.copy c.args.message.now c.content.result.now c.none.result (sym c.content.ensures.value)
      (ignored-row c.args.self.now c.args.copy c.args.message.now.follower c.args.message.now.request c.content.result.now
      c.in_default.not-ReadRequest c.in_default.not-LeaseAdd c.in_default.not-LeaseRenew c.in_default.not-LeaseRemove c.in_default.not-SessionOpen c.in_default.not-ChunkRequest)
      c.none.ensures c.in_ok-is_whole.ensures.ok;
  err = tt;
}
