use Rattle.std.proofs.Common.{◌≡◌, ◌<◌, List, length, sym, ◌∙◌, ap, subst, arith, rules}
use Rattle.ccr_op.specs.Operation.{Operation}
use Rattle.ccr_wire.specs.Message.{IsRun}
use Rattle.ccr_model.specs.Leaders.{Poll}
use Rattle.ccr_leader.proofs.Fetched.{ops-begin}
use Rattle.ccr_leader.proofs.leader.Leader.read_answer.Goals as goal

pub one-requires-in-Ops : goal.one-requires-in-Ops
one-requires-in-Ops c =
    let p : Poll = record {
      follower = c.poll.inside.follower;
      request = c.poll.inside.request;
      copy = c.poll.inside.copy;
      history = c.poll.inside.history;
      from = c.poll.inside.from;
      max_ops = c.poll.inside.max_ops;
      max_bytes = c.poll.inside.max_bytes;
      timeout = c.poll.inside.timeout;
      parked = c.poll.inside.parked;
    } in
    let same : c.new-in-Ops.result ≡ c.in-Ops.list = c.new-in-Ops.ensures ∙ c.into_vec-ops.ensures in
    let few : length c.into_vec-ops.result.items < 4294967296 = search rules in
    let short : length c.new-in-Ops.result < 4294967296 = subst (λ (xs : List Operation). length xs < 4294967296) (sym c.new-in-Ops.ensures) few in
    (short, subst (λ (xs : List Operation). IsRun c.poll.inside.from xs) (sym same) (ops-begin p c.args.side.now c.in_ok-found.found c.in-Ops.list c.in-Ops.global c.in_ok-found.ensures c.in-Ops.is))
