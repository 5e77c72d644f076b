use Rattle.std.proofs.Common.{sym, ap, ◌∙◌, arith}
use Rattle.ccr_model.specs.Outcomes.{Outcome}
use Rattle.ccr_model.specs.World.{State}
use Rattle.ccr_shard.proofs.Receiving.{placed_at, ends_at}
use Rattle.ccr_shard.proofs.Rows.{delivered, found_at, nowhere_delivery, past_delivery}
use Rattle.ccr_shard.proofs.shard.Shard.deliver.Goals as goal

pub hear-requires-clause-placed : goal.hear-requires-clause-placed
hear-requires-clause-placed c =
    placed_at c.args.self.now c.self.inside.leader c.args.at c.in_ok-message.message (c.parts_are_there.ensures c.args.self.now c.requires.reached)
    (ap (λ (s : State). s.leader) (sym c.self.view_is)) (found_at c.args.self.now _ c.args.at c.in_ok-message.message c.self.view_is c.in_ok-message.ensures.message)

pub hear-requires-clause-ends : goal.hear-requires-clause-ends
hear-requires-clause-ends c =
    ends_at c.args.self.now c.self.inside.followers.items c.args.at c.in_ok-message.message (c.fetched_files_are_right.ensures c.args.self.now c.requires.reached)
    (ap (λ (s : State). s.followers) (sym c.self.view_is)) (found_at c.args.self.now _ c.args.at c.in_ok-message.message c.self.view_is c.in_ok-message.ensures.message)

pub returns-clause-reply : goal.returns-clause-reply
returns-clause-reply c =
    c.in_ok-reply-3.ensures.reply
    ∙ ap (λ (o : Outcome State). o.reply)
    (delivered c.args.self.now _ c.args.at c.args.copy c.args.keep c.in_ok-message.message c.in-Some._receiver.now c.deliver.new.self c.self.view_is c.in_ok-message.ensures.message c.in-Some.ensures c.in_ok-message.ensures.after)

pub returns-clause-after : goal.returns-clause-after
returns-clause-after c =
    c.in_ok-reply-3.ensures.after
    ∙ ap (λ (o : Outcome State). o.next)
    (delivered c.args.self.now _ c.args.at c.args.copy c.args.keep c.in_ok-message.message c.in-Some._receiver.now c.deliver.new.self c.self.view_is c.in_ok-message.ensures.message c.in-Some.ensures c.in_ok-message.ensures.after)

pub returns-in_default-clause-reply : goal.returns-in_default-clause-reply
returns-in_default-clause-reply c =
    c.in_ok-reply-2.ensures
    ∙ sym (ap (λ (o : Outcome State). o.reply) (nowhere_delivery c.args.self.now _ c.args.at c.args.copy c.args.keep c.self.view_is (omega arith) c.in_default.ensures))

pub returns-in_default-clause-after : goal.returns-in_default-clause-after
returns-in_default-clause-after c =
    sym (ap (λ (o : Outcome State). o.next) (nowhere_delivery c.args.self.now _ c.args.at c.args.copy c.args.keep c.self.view_is (omega arith) c.in_default.ensures))

pub returns-then-at-len-clause-reply : goal.returns-then-at-len-clause-reply
returns-then-at-len-clause-reply c =
    c.in_ok-reply.ensures
    ∙ sym (ap (λ (o : Outcome State). o.reply) (past_delivery c.args.self.now _ c.args.at c.args.copy c.args.keep c.self.view_is (omega arith)))

pub returns-then-at-len-clause-after : goal.returns-then-at-len-clause-after
returns-then-at-len-clause-after c =
    sym (ap (λ (o : Outcome State). o.next) (past_delivery c.args.self.now _ c.args.at c.args.copy c.args.keep c.self.view_is (omega arith)))
