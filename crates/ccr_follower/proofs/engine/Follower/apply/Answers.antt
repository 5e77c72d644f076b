use Rattle.std.proofs.Common.{◌≡◌, nat_lt, true, false, subst, arith}
use Rattle.std.proofs.lemmas.Bool.Decides.{nat_tests}
use Rattle.ccr_journal.specs.declared.replies.Reply.TheVariants as replies
use Rattle.ccr_journal.specs.declared.replies.Refusal.TheVariants.{OldEpoch}
use Rattle.ccr_model.specs.Outcomes.{answered, refused}
use Rattle.ccr_follower.specs.Engine.{Engine, engine_apply_row, with_copies}
use Rattle.ccr_follower.proofs.Applying.{apply-over, apply-taken}
use Rattle.ccr_follower.proofs.engine.Follower.apply.Goals as goal

pub returns-then-epoch-self-clause-err : goal.returns-then-epoch-self-clause-err
returns-then-epoch-self-clause-err c = λ told.
    let own : Engine = record { retention = c.self.inside.retention; epoch = c.self.inside.epoch; copies = c.self.inside.copies } in
    let over : nat_lt c.args.epoch c.self.inside.epoch ≡ true = grind (arith, nat_tests) in
    let P : Engine → Type 0 = λ e. engine_apply_row e c.args.epoch c.args.batch.now ≡ refused e (OldEpoch c.self.inside.epoch) in
    subst P c.self.view_is (apply-over own c.args.epoch c.args.batch.now over)

pub returns-in-Ok-clause-ok : goal.returns-in-Ok-clause-ok
returns-in-Ok-clause-ok c =
    let own : Engine = record { retention = c.self.inside.retention; epoch = c.self.inside.epoch; copies = c.self.inside.copies } in
    let kept : nat_lt c.args.epoch c.self.inside.epoch ≡ false = grind (arith, nat_tests) in
    let P : Engine → Type 0 = λ e. engine_apply_row e c.args.epoch c.args.batch.now ≡ answered (replies.Applied c.in-Ok.new) (with_copies own c.take_batch.new.self) in
    subst P c.self.view_is (apply-taken own c.args.epoch c.in-Ok.new c.args.batch.now c.as_slice.result.now c.take_batch.new.self kept c.as_slice.ensures c.in-Ok.ensures.told c.in-Ok.ensures.ok)
