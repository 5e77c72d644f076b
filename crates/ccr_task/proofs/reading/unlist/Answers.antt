use Rattle.ccr_task.proofs.Rising.{unlisted-in-place, unlisted-in-none}
use Rattle.ccr_task.proofs.reading.unlist.Goals as goal

pub returns-then-at-len : goal.returns-then-at-len
returns-then-at-len c = λ high up. unlisted-in-place c.args.request c.args.sent.now.items c.as_slice.result.now c.remove.new.self.items c.in-Some.at high c.as_slice.ensures.value c.remove.ensures.items (c.in-Some.ensures.value) up

pub returns-else-at-len : goal.returns-else-at-len
returns-else-at-len c = λ high up. unlisted-in-place c.args.request c.args.sent.now.items c.as_slice.result.now c.remove.new.self.items c.in-Some.at high c.as_slice.ensures.value c.remove.ensures.items (c.in-Some.ensures.value) up

pub returns-in_default : goal.returns-in_default
returns-in_default c = λ high up. unlisted-in-none c.args.request c.args.sent.now.items c.as_slice.result.now high c.as_slice.ensures.value (c.in_default.ensures.value) up
