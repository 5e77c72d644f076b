use Rattle.std.proofs.Common.{◌≡◌}
use Rattle.ccr_playing.specs.Runs.{Playing, Start}
use Rattle.ccr_playing.specs.Steps.{MayBeRead}
use Rattle.ccr_playing.proofs.playing.play_on.Given as goal

abbrev pub invariant-lines : goal.invariant-lines
invariant-lines g l =
    let left = g.S.Source.left in
    let taken = g.K.Sink.taken in
    let journal = g.P.Player.journal in
    let playing = Playing g.P.Player.asks g.P.Player.fault g.P.Player.does in
    record {
      source : g.S.Source.faults l.script ≡ g.S.Source.faults l.initial.script;
      sink : g.K.Sink.faults l.out ≡ g.K.Sink.faults l.initial.out;
      may_be_read : MayBeRead l.lines (left l.script);
      goes_on : (start : Start g.row.P-Journal.Denot)
          → playing start (record { lines = l.initial.lines; left = left l.initial.script; journal = journal l.initial.player; taken = taken l.initial.out })
          → playing start (record { lines = l.lines; left = left l.script; journal = journal l.player; taken = taken l.out });
    }
