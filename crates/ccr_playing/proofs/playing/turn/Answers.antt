use Rattle.std.proofs.Common.{◌≡◌, subst, sym, Some, None}
use Rattle.ccr_playing.specs.declared.playing.Step.TheVariants.{Line}
use Rattle.ccr_playing.specs.Steps.{IsStep}
use Rattle.ccr_playing.proofs.Goes.{awaits-none, came, ends-bad, performed, read-fault}
use Rattle.ccr_playing.proofs.playing.turn.Goals as goal

pub returns-in-Line-default-None-clause-comes : goal.returns-in-Line-default-None-clause-comes
returns-in-Line-default-None-clause-comes g c start p =
    let asks = g.P.Player.asks in
    let fault = g.P.Player.fault in
    let does = g.P.Player.does in
    let begins = g.P.Player.begins in
    let left = g.S.Source.left in
    let is : c.next_step.result ≡ Line c.in-Line-default-None.number None = cc in
    let next = subst (λ s. IsStep asks fault s c.args.lines.now (left c.args.script.now) c.next_step.new.lines (left c.next_step.new.script)) is c.next_step.ensures.step in
    awaits-none asks fault does begins start _ (came asks fault does begins start _ c.in-Line-default-None.number None _ _ p next)

pub returns-in-Bad-clause-comes : goal.returns-in-Bad-clause-comes
returns-in-Bad-clause-comes g c start p =
    let step = c.in-Bad.ensures.step in
    ends-bad g.P.Player.asks g.P.Player.fault g.P.Player.does g.P.Player.begins start _ c.end_at.result c.in-Bad.number c.in-Bad.why
    (g.S.Source.left c.next_step.new.script) (g.K.Sink.taken c.end_at.new.out) (g.K.Sink.faults c.args.out.now) (g.K.Sink.faults c.end_at.new.out) p step.0 step.1 step.2 c.end_at.ensures

pub returns-in-ReadFault-clause-comes : goal.returns-in-ReadFault-clause-comes
returns-in-ReadFault-clause-comes g c start p =
    let step = c.in-ReadFault.ensures.step in
    read-fault g.P.Player.asks g.P.Player.fault g.P.Player.does g.P.Player.begins start _ _ p step.0 step.1

pub returns-then-is_left-clause-comes : goal.returns-then-is_left-clause-comes
returns-then-is_left-clause-comes g c start p =
    let asks = g.P.Player.asks in
    let fault = g.P.Player.fault in
    let left = g.S.Source.left in
    let is : c.next_step.result ≡ Line c.in-Line-default-Some.number (Some c.in-Line-default-Some.command) = cc in
    let next = subst (λ s. IsStep asks fault s c.args.lines.now (left c.args.script.now) c.next_step.new.lines (left c.next_step.new.script)) is c.next_step.ensures.step in
    (sym next.counted, came asks fault g.P.Player.does g.P.Player.begins start _ c.in-Line-default-Some.number (Some c.in-Line-default-Some.command) _ _ p next)

pub returns-in-None-clause-comes : goal.returns-in-None-clause-comes
returns-in-None-clause-comes g c start p =
    let asks = g.P.Player.asks in
    let fault = g.P.Player.fault in
    let does = g.P.Player.does in
    let begins = g.P.Player.begins in
    let left = g.S.Source.left in
    let is : c.next_step.result ≡ Line c.in-Line-default-Some.number (Some c.in-Line-default-Some.command) = cc in
    let next = subst (λ s. IsStep asks fault s c.args.lines.now (left c.args.script.now) c.next_step.new.lines (left c.next_step.new.script)) is c.next_step.ensures.step in
    performed asks fault does begins start _ None c.in-Line-default-Some.number c.in-Line-default-Some.command
    (g.P.Player.journal c.perform.new.player) (g.K.Sink.taken c.perform.new.out) (g.K.Sink.faults c.args.out.now) (g.K.Sink.faults c.perform.new.out) (sym next.counted)
    (came asks fault does begins start _ c.in-Line-default-Some.number (Some c.in-Line-default-Some.command) _ _ p next) c.in-None.ensures

pub returns-in-Some-clause-comes : goal.returns-in-Some-clause-comes
returns-in-Some-clause-comes g c start p =
    let asks = g.P.Player.asks in
    let fault = g.P.Player.fault in
    let does = g.P.Player.does in
    let begins = g.P.Player.begins in
    let left = g.S.Source.left in
    let is : c.next_step.result ≡ Line c.in-Line-default-Some.number (Some c.in-Line-default-Some.command) = cc in
    let next = subst (λ s. IsStep asks fault s c.args.lines.now (left c.args.script.now) c.next_step.new.lines (left c.next_step.new.script)) is c.next_step.ensures.step in
    performed asks fault does begins start _ (Some c.in-Some.status) c.in-Line-default-Some.number c.in-Line-default-Some.command
    (g.P.Player.journal c.perform.new.player) (g.K.Sink.taken c.perform.new.out) (g.K.Sink.faults c.args.out.now) (g.K.Sink.faults c.perform.new.out) (sym next.counted)
    (came asks fault does begins start _ c.in-Line-default-Some.number (Some c.in-Line-default-Some.command) _ _ p next) c.in-Some.ensures
