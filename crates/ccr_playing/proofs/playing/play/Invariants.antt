use Rattle.std.proofs.Common.{◌≡◌}
use Rattle.ccr_playing.specs.Runs.{Playing}
use Rattle.ccr_playing.specs.Steps.{MayBeRead}
use Rattle.ccr_playing.proofs.playing.play.Given as goal

abbrev pub invariant-halts : goal.invariant-halts
invariant-halts g l =
    let left = g.S.Source.left in
    let taken = g.K.Sink.taken in
    let journal = g.P.Player.journal in
    record {
      source : g.S.Source.faults l.script ≡ g.S.Source.faults l.initial.script;
      sink : g.K.Sink.faults l.out ≡ g.K.Sink.faults l.initial.out;
      may_be_read : MayBeRead l.lines (left l.script);
      playing : Playing g.P.Player.asks g.P.Player.fault g.P.Player.does (record { script = left l.initial.script; journal = journal l.initial.player; taken = taken l.initial.out })
          (record { lines = l.lines; left = left l.script; journal = journal l.player; taken = taken l.out });
    }
