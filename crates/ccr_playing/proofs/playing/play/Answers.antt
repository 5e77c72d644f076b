use Rattle.std.proofs.Common.{◌∙◌, refl, Some, None}
use Rattle.ccr_playing.proofs.Goes.{may-start, performed, playing-starts}
use Rattle.ccr_playing.proofs.playing.play.Goals as goal

pub halts-init : goal.halts-init
halts-init g c = record {
  source = refl;
  sink = refl;
  may_be_read = may-start c.new-lines.result (g.S.Source.left c.args.script.now) c.new-lines.ensures;
  playing = playing-starts g.P.Player.asks g.P.Player.fault g.P.Player.does g.P.Player.begins (g.S.Source.left c.args.script.now) (g.P.Player.journal c.args.player.now)
      (g.K.Sink.taken c.args.out.now) c.new-lines.result c.new-lines.ensures;
}

pub returns-in-Ended-clause-told : goal.returns-in-Ended-clause-told
returns-in-Ended-clause-told g c = c.in-Ended.ensures.halts _ c.halts.invariant.playing

pub returns-in-Some-clause-told : goal.returns-in-Some-clause-told
returns-in-Some-clause-told g c =
    let halted = c.in-Left.ensures.halts _ c.halts.invariant.playing in
    performed g.P.Player.asks g.P.Player.fault g.P.Player.does g.P.Player.begins _ _ (Some c.in-Some.status) c.in-Left.number c.in-Left.command
    (g.P.Player.journal c.perform_left.new.player) (g.K.Sink.taken c.perform_left.new.out) (g.K.Sink.faults c.play_on.new.out) (g.K.Sink.faults c.perform_left.new.out)
    halted.0 halted.1 c.in-Some.ensures

pub halts-preserved : goal.halts-preserved
halts-preserved g c =
    let quiet = c.in-Left.ensures.faults in
    let next = c.in-Left.ensures.left in
    let halted = c.in-Left.ensures.halts _ c.halts.invariant.playing in
    let did = c.in_default.ensures in
    record {
      source = quiet.0 ∙ c.halts.invariant.source;
      sink = did.2.1 ∙ (quiet.1 ∙ c.halts.invariant.sink);
      may_be_read = next.1;
      playing = performed g.P.Player.asks g.P.Player.fault g.P.Player.does g.P.Player.begins _ _ None c.in-Left.number c.in-Left.command
          (g.P.Player.journal c.perform_left.new.player) (g.K.Sink.taken c.perform_left.new.out) (g.K.Sink.faults c.play_on.new.out) (g.K.Sink.faults c.perform_left.new.out)
          halted.0 halted.1 did;
    }
