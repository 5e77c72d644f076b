use Rattle.std.specs.Prelude.{slice_get}
use Rattle.std.proofs.Common.{◌≡◌, true, false, sym, subst}
use Rattle.ccr_journal.specs.declared.events.Event.{Event}
use Rattle.ccr_model.specs.FollowerRows.{has_all}
use Rattle.ccr_settling.specs.Still.{Acts}
use Rattle.ccr_settling.proofs.Following.{applied-at, applies, had-applies, has-all-at}
use Rattle.ccr_settling.proofs.writes.apply_at.Goals as goal

pub returns-then-has_all : goal.returns-then-has_all
returns-then-has_all c =
    let had : has_all c.in-Some-sent_batch.batch.now c.args.own.now.copies.primary ≡ true
    = has-all-at c.args.own.now c.as_slice.result.now c.in-Some-sent_batch.batch.now c.primary.result.now c.copies.result.now c.has_all.result true c.as_slice.ensures c.primary.ensures c.copies.ensures
    c.has_all.ensures c.if-has_all.true in
    applied-at c.args.own.now (slice_get c.args.task.now.writes c.args.at) c.in-Some.write (sym c.in-Some.ensures)
    (had-applies c.args.own.now c.args.task.now c.in-Some.write c.in-Some-sent_batch.batch.now c.requires (sym c.in-Some-sent_batch.ensures) had)

pub returns : goal.returns
returns c =
    let lacking : has_all c.in-Some-sent_batch.batch.now c.args.own.now.copies.primary ≡ false
    = has-all-at c.args.own.now c.as_slice.result.now c.in-Some-sent_batch.batch.now c.primary.result.now c.copies.result.now c.has_all.result false c.as_slice.ensures c.primary.ensures c.copies.ensures
    c.has_all.ensures c.if-has_all.false in
    λ polls. subst (λ (e : Event). Acts c.args.f polls c.args.own.now e) (sym c.in_ok-event.ensures)
    (applies c.args.own.now c.args.task.now c.args.f c.epoch.result c.in-Some.write c.in-Some-sent_batch.batch.now c.requires (sym c.in-Some-sent_batch.ensures) lacking c.epoch.ensures polls)
