use Rattle.std.proofs.Common.{◌∙◌, refl}
use Rattle.ccr_playing.proofs.Goes.{out-of-memory, told_at-from}
use Rattle.ccr_playing.proofs.playing.play_on.Goals as goal

pub lines-init : goal.lines-init
lines-init g c = record { source = refl; sink = refl; may_be_read = c.requires.lines; goes_on = λ start p. p }

pub lines-preserved : goal.lines-preserved
lines-preserved g c =
    let quiet = c.in_default.ensures.quiet in
    record {
      source = quiet.0 ∙ c.lines.invariant.source;
      sink = quiet.1 ∙ c.lines.invariant.sink;
      may_be_read = c.in_default.ensures.goes_on;
      goes_on = λ start p. c.in_default.ensures.comes start (c.lines.invariant.goes_on start p);
    }

pub returns-in-Some-clause-halts : goal.returns-in-Some-clause-halts
returns-in-Some-clause-halts g c start p = c.in-Some.ensures.comes start (c.lines.invariant.goes_on start p)

pub returns-in-Some-clause-faults : goal.returns-in-Some-clause-faults
returns-in-Some-clause-faults g c = told_at-from c.in-Some.halt _ _ _ _ _ _ c.lines.invariant.source c.lines.invariant.sink c.in-Some.ensures.faults

pub returns-clause-halts : goal.returns-clause-halts
returns-clause-halts g c start p =
    out-of-memory g.P.Player.asks g.P.Player.fault g.P.Player.does g.P.Player.begins start _ (c.lines.invariant.goes_on start p)
