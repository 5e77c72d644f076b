use Rattle.std.proofs.Common.{sym, ◌∙◌}
use Rattle.std.proofs.lemmas.Bool.{both_ways}
use Rattle.ccr_task.proofs.Saturation.{writes_all, sends_all, saturated-by, saturated-writes, saturated-sends, saturated-reads}
use Rattle.ccr_task.proofs.task.Task.saturated.Goals as goal

pub returns-then-not-writes_all : goal.returns-then-not-writes_all
returns-then-not-writes_all c =
    (λ no. absurd (cc), λ s. absurd (both_ways (writes_all c.args.self.now) (sym c.writes_all.ensures ∙ c.if-not-writes_all.true) (saturated-writes c.args.self.now s)))

pub returns-then-not-sends_all : goal.returns-then-not-sends_all
returns-then-not-sends_all c =
    (λ no. absurd (cc), λ s. absurd (both_ways (sends_all c.args.self.now) (sym c.sends_all.ensures ∙ c.if-not-sends_all.true) (saturated-sends c.args.self.now s)))

pub returns : goal.returns
returns c = (
  λ is. saturated-by c.args.self.now (sym c.writes_all.ensures ∙ c.if-not-writes_all.false) (sym c.sends_all.ensures ∙ c.if-not-sends_all.false) (sym c.reads_all.ensures ∙ is),
  λ s. c.reads_all.ensures ∙ saturated-reads c.args.self.now s,
)
