use Rattle.std.specs.List.{list_any}
use Rattle.std.proofs.Common.{◌≡◌, ℕ, ◌==◌, Bool, true, false, not, List, refl, sym, subst, ◌∙◌}
use Rattle.ccr_model.specs.Followers.{Follower}
use Rattle.ccr_model.specs.FollowerRows.{follower_receive_row}
use Rattle.ccr_following.specs.Ending.{EndsRightly}
use Rattle.ccr_following.specs.Works.{AreDrawn, work_of}
use Rattle.ccr_following.specs.declared.hearing.Hearing.TheVariants.{GoesOn, Ended, Fetched}
use Rattle.ccr_following.proofs.Answering.{ended-comes, on-false, receive-left, receive-stood}
use Rattle.ccr_following.proofs.Drawing.{drawn-fewer, heard-keeps}
use Rattle.ccr_following.proofs.Fetching.{fetched-rightly}
use Rattle.ccr_following.proofs.Stepping.{drawn-seen, seen, turned}
use Rattle.ccr_following.proofs.side.FollowerSide.receive.Goals as goal

pub invariant_of-self : goal.invariant_of-self
invariant_of-self c = λ whole.
    let drawn : AreDrawn (work_of c.self.inside.work) c.answer.new.self
    = subst (λ (ns : List ℕ). AreDrawn (work_of c.self.inside.work) ns) (sym c.answer.ensures.left)
    (drawn-fewer (work_of c.self.inside.work) (λ n. not (n == c.request.result)) c.self.inside.lease_requests (drawn-seen _ _ c.self.view_is c.in_ok-is_whole.ensures)) in
    drawn

pub returns-then-answer : goal.returns-then-answer
returns-then-answer c =
    let view : Follower = record {
      lease = c.self.inside.lease;
      history = c.self.inside.history;
      params = c.self.inside.params;
      retention = c.self.inside.engine.retention;
      now = c.self.inside.now;
      work = work_of c.self.inside.work;
      lease_requests = c.self.inside.lease_requests;
      epoch = c.self.inside.engine.epoch;
      copies = c.self.inside.engine.copies;
    } in
    seen (λ (s : Follower). follower_receive_row s c.args.message) view _ _ c.self.view_is
    (receive-stood view c.args.message c.request.result c.answer.new.self c.none.result c.request.ensures (sym c.if-answer.true ∙ c.answer.ensures.stood) c.answer.ensures.left c.none.ensures)

pub invariant_of-self-in-GoesOn : goal.invariant_of-self-in-GoesOn
invariant_of-self-in-GoesOn c = λ whole.
    let drawn : AreDrawn (work_of c.self.inside.work) c.answer.new.self
    = subst (λ (ns : List ℕ). AreDrawn (work_of c.self.inside.work) ns) (sym c.answer.ensures.left)
    (drawn-fewer (work_of c.self.inside.work) (λ n. not (n == c.request.result)) c.self.inside.lease_requests (drawn-seen _ _ c.self.view_is c.in_ok-is_whole.ensures)) in
    heard-keeps c.self.inside.now c.args.message (work_of c.self.inside.work) (work_of c.hear.new.self) c.in_ok-heard.field-0 c.answer.new.self c.in_ok-heard.ensures drawn

pub start_following-requires-clause-right : goal.start_following-requires-clause-right
start_following-requires-clause-right c =
    let view : Follower = record {
      lease = c.self.inside.lease;
      history = c.self.inside.history;
      params = c.self.inside.params;
      retention = c.self.inside.engine.retention;
      now = c.self.inside.now;
      work = work_of c.self.inside.work;
      lease_requests = c.self.inside.lease_requests;
      epoch = c.self.inside.engine.epoch;
      copies = c.self.inside.engine.copies;
    } in
    fetched-rightly view c.args.message (work_of c.hear.new.self) (subst (λ (s : Follower). EndsRightly s c.args.message) (sym c.self.view_is) c.requires)
    (turned _ _ _ _ c.in_ok-heard.ensures c.in-Fetched.is)

pub returns-in-GoesOn : goal.returns-in-GoesOn
returns-in-GoesOn c =
    let view : Follower = record {
      lease = c.self.inside.lease;
      history = c.self.inside.history;
      params = c.self.inside.params;
      retention = c.self.inside.engine.retention;
      now = c.self.inside.now;
      work = work_of c.self.inside.work;
      lease_requests = c.self.inside.lease_requests;
      epoch = c.self.inside.engine.epoch;
      copies = c.self.inside.engine.copies;
    } in
    let other : false ≡ list_any (λ n. n == c.request.result) c.self.inside.lease_requests = sym c.if-answer.false ∙ c.answer.ensures.stood in
    let same : c.answer.new.self ≡ c.self.inside.lease_requests = on-false c.answer.result _ c.answer.ensures.kept c.if-answer.false in
    seen (λ (s : Follower). follower_receive_row s c.args.message) view _ _ c.self.view_is
    (receive-left view c.args.message c.request.result c.answer.new.self (work_of c.hear.new.self) (GoesOn c.in-GoesOn.heard c.in-GoesOn.sent) _ c.request.ensures other same
    (turned _ _ _ _ c.in_ok-heard.ensures c.in-GoesOn.is) refl)

pub returns-in-Ended : goal.returns-in-Ended
returns-in-Ended c =
    let view : Follower = record {
      lease = c.self.inside.lease;
      history = c.self.inside.history;
      params = c.self.inside.params;
      retention = c.self.inside.engine.retention;
      now = c.self.inside.now;
      work = work_of c.self.inside.work;
      lease_requests = c.self.inside.lease_requests;
      epoch = c.self.inside.engine.epoch;
      copies = c.self.inside.engine.copies;
    } in
    let other : false ≡ list_any (λ n. n == c.request.result) c.self.inside.lease_requests = sym c.if-answer.false ∙ c.answer.ensures.stood in
    let same : c.answer.new.self ≡ c.self.inside.lease_requests = on-false c.answer.result _ c.answer.ensures.kept c.if-answer.false in
    seen (λ (s : Follower). follower_receive_row s c.args.message) view _ _ c.self.view_is
    (receive-left view c.args.message c.request.result c.answer.new.self (work_of c.hear.new.self) Ended _ c.request.ensures other same
    (turned _ _ _ _ c.in_ok-heard.ensures c.in-Ended.is)
    (ended-comes (record view { lease_requests = c.answer.new.self }) (work_of c.hear.new.self) (work_of c.end.new.self) c.none-in-Ended.result c.end.ensures c.none-in-Ended.ensures))

pub returns-in_ok-told-in-Fetched : goal.returns-in_ok-told-in-Fetched
returns-in_ok-told-in-Fetched c =
    let view : Follower = record {
      lease = c.self.inside.lease;
      history = c.self.inside.history;
      params = c.self.inside.params;
      retention = c.self.inside.engine.retention;
      now = c.self.inside.now;
      work = work_of c.self.inside.work;
      lease_requests = c.self.inside.lease_requests;
      epoch = c.self.inside.engine.epoch;
      copies = c.self.inside.engine.copies;
    } in
    let other : false ≡ list_any (λ n. n == c.request.result) c.self.inside.lease_requests = sym c.if-answer.false ∙ c.answer.ensures.stood in
    let same : c.answer.new.self ≡ c.self.inside.lease_requests = on-false c.answer.result _ c.answer.ensures.kept c.if-answer.false in
    seen (λ (s : Follower). follower_receive_row s c.args.message) view _ _ c.self.view_is
    (receive-left view c.args.message c.request.result c.answer.new.self (work_of c.hear.new.self) Fetched _ c.request.ensures other same
    (turned _ _ _ _ c.in_ok-heard.ensures c.in-Fetched.is) c.in_ok-told-in-Fetched.ensures)
