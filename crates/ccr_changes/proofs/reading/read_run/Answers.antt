use Rattle.std.proofs.Common.{◌≡◌, ℕ, ◌-◌, ◌==◌, ◌||◌, ◌++◌, ◌∷◌, [], true, false, nat_lt, List, Some, None, sym, ap, ◌∙◌, arith}
use Rattle.std.specs.Prelude.{option_copied}
use Rattle.std.proofs.lemmas.Bool.Decides.{nat_tests}
use Rattle.ccr_op.specs.Operation.{Operation}
use Rattle.ccr_model.specs.Operations.{size_of, op_at}
use Rattle.ccr_changes.proofs.Runs.{read-first, read-next, read-stop, read-gap, read-end}
use Rattle.ccr_changes.proofs.reading.read_run.Goals as goal
use Rattle.ccr_changes.proofs.reading.read_run.Goals.{else-loop-n-test, then-loop-n-test+in_default-get, then-loop-n-test+in-Some-get+then-left-eq0, then-left-eq0-via-then-left-eq0, then-left-eq0-via-else-left-eq0+then-size-room}

pub loop-n-init : goal.loop-n-init
loop-n-init g c =
    let held = g.H.History.held c.args.history.now in
    let op = c.in-Some.first.now in
    let there : op_at c.args.from held ≡ Some op = sym c.get.ensures ∙ ap option_copied c.in-Some.is in
    let one : c.push.new.self.items ≡ op ∷ [] =
    c.in_ok-push.ensures.items ∙ ap (λ (ops : List Operation). ops ++ c.in_ok-copy.copy ∷ []) c.new-ops.ensures.items ∙ ap (λ (o : Operation). o ∷ []) c.in_ok-copy.ensures in
    let room : c.saturating_sub-room.result ≡ c.args.max_bytes - size_of op = c.saturating_sub-room.ensures ∙ ap (λ (n : ℕ). c.args.max_bytes - n) c.size.ensures in
    read-first held c.args.global c.args.from c.args.max_ops c.args.max_bytes c.saturating_sub-left.result c.saturating_sub-room.result c.push.new.self.items op c.requires there one
    c.saturating_sub-left.ensures room

pub loop-n-preserved : goal.loop-n-preserved
loop-n-preserved g c =
    let held = g.H.History.held c.args.history.now in
    let op = c.in-Some-get.op.now in
    let there : op_at c.loop-n.n held ≡ Some op = sym c.get-in-loop-n.ensures ∙ ap option_copied c.in-Some-get.is in
    let size : c.size-size.result ≡ size_of op = c.size-size.ensures in
    let more = c.if-left-eq0.false in
    let small = c.if-size-room.false in
    let goes : ((c.loop-n.left == 0) || nat_lt c.loop-n.room c.size-size.result) ≡ false = grind (arith, nat_tests) in
    let grown : c.push-in-loop-n.new.self.items ≡ c.loop-n.ops.items ++ op ∷ [] =
    c.in_ok-push-2.ensures.items ∙ ap (λ (o : Operation). c.loop-n.ops.items ++ o ∷ []) c.in_ok-copy-2.ensures in
    read-next held c.args.global _ c.loop-n.ops.items c.push-in-loop-n.new.self.items c.loop-n.left c.loop-n.room c.size-size.result c.loop-n.n op c.loop-n-test.true there size goes grown c.loop-n.invariant

pub returns : goal.returns
returns g c =
    let held = g.H.History.held c.args.history.now in
    elim c.loop-n-test.branch [
      | else-loop-n-test w ↦ read-end held c.args.global _ c.loop-n.ops.items c.loop-n.left c.loop-n.room c.loop-n.n (omega (arith, w.loop-n-test.false)) c.loop-n.invariant
      | then-loop-n-test+in_default-get w ↦
          let none : op_at c.loop-n.n held ≡ None = sym w.get-in-loop-n.ensures ∙ ap option_copied w.in_default-get.is in
          read-gap held c.args.global _ c.loop-n.ops.items c.loop-n.left c.loop-n.room c.loop-n.n w.loop-n-test.true none c.loop-n.invariant
      | then-loop-n-test+in-Some-get+then-left-eq0 w ↦
          let op = w.in-Some-get.op.now in
          let there : op_at c.loop-n.n held ≡ Some op = sym w.get-in-loop-n.ensures ∙ ap option_copied w.in-Some-get.is in
          let size : w.size-size.result ≡ size_of op = w.size-size.ensures in
          let stops : ((c.loop-n.left == 0) || nat_lt c.loop-n.room w.size-size.result) ≡ true =
          elim w.then-left-eq0.branch [
            | then-left-eq0-via-then-left-eq0 w' ↦ let none = w'.if-left-eq0.true in grind (arith, nat_tests)
            | then-left-eq0-via-else-left-eq0+then-size-room w' ↦ let none = w'.if-size-room.true in grind (arith, nat_tests)
          ] in
          read-stop held c.args.global _ c.loop-n.ops.items c.loop-n.left c.loop-n.room w.size-size.result c.loop-n.n op w.loop-n-test.true there size stops c.loop-n.invariant
    ]
