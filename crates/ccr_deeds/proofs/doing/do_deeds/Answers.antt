use Rattle.std.proofs.Common.{◌≡◌, ◌+◌, ◌++◌, ◌∷◌, [], ◌∙◌, sym, subst, ap, take}
use Rattle.ccr_deeds.specs.Deeds.{AreDeeds, AreOrderedDeeds, BeginsDeed}
use Rattle.ccr_deeds.proofs.Deeding.{on_err, stops_in, all_begun, AreDeeds-push, AreDeeds-told, AreOrderedDeeds-push, take_snoc, DoesDeed-length}
use Rattle.ccr_deeds.proofs.doing.do_deeds.Goals as goal

pub returns-in_err-reply-clause-begun : goal.returns-in_err-reply-clause-begun
returns-in_err-reply-clause-begun g c =
    on_err _ _ (stops_in (g.W.Worlds.logs c.args.worlds.now) c.args.deeds.now c.deeds.deed-index c.deed-item.result (g.W.Worlds.logs c.deeds.worlds) c.deeds.told.items
    (g.W.Worlds.logs c.do_deed.new.worlds) c.deeds-test.true c.deeds.invariant.done
    (subst (λ d. BeginsDeed (g.W.Worlds.logs c.deeds.worlds) d (g.W.Worlds.logs c.do_deed.new.worlds)) c.deed-item.is c.in_err-reply.ensures.begun))

pub returns-in_err-push-clause-begun : goal.returns-in_err-push-clause-begun
returns-in_err-push-clause-begun g c =
    on_err _ _ (stops_in (g.W.Worlds.logs c.args.worlds.now) c.args.deeds.now c.deeds.deed-index c.deed-item.result (g.W.Worlds.logs c.deeds.worlds) c.deeds.told.items
    (g.W.Worlds.logs c.do_deed.new.worlds) c.deeds-test.true c.deeds.invariant.done
    (subst (λ d. BeginsDeed (g.W.Worlds.logs c.deeds.worlds) d (g.W.Worlds.logs c.do_deed.new.worlds)) c.deed-item.is
    (all_begun (g.W.Worlds.logs c.deeds.worlds) c.deed-item.result (g.W.Worlds.logs c.do_deed.new.worlds) c.in_ok-reply.reply c.in_ok-reply.ensures.done)))

pub deeds-preserved : goal.deeds-preserved
deeds-preserved g c =
    let first = take c.deeds.deed-index c.args.deeds.now in
    let done = AreDeeds-push (g.W.Worlds.logs c.args.worlds.now) first (g.W.Worlds.logs c.deeds.worlds) c.deeds.told.items c.deed-item.result
    (g.W.Worlds.logs c.do_deed.new.worlds) c.in_ok-reply.reply c.deeds.invariant.done c.in_ok-reply.ensures.done in
    let ordered = AreOrderedDeeds-push first c.deeds.told.items c.deed-item.result c.in_ok-reply.reply
    (AreDeeds-told (g.W.Worlds.logs c.args.worlds.now) first (g.W.Worlds.logs c.deeds.worlds) c.deeds.told.items c.deeds.invariant.done)
    c.deeds.invariant.ordered c.in_ok-reply.ensures.ordered in
    let longer : take (c.deeds.deed-index + 1) c.args.deeds.now ≡ first ++ c.deed-item.result ∷ [] =
    take_snoc c.args.deeds.now c.deeds.deed-index c.deed-item.result c.deeds-test.true ∙ ap (λ d. first ++ d ∷ []) (sym c.deed-item.is) in
    record {
      done = subst (λ ds. AreDeeds (g.W.Worlds.logs c.args.worlds.now) ds (g.W.Worlds.logs c.do_deed.new.worlds) c.push.new.self.items) (sym longer)
          (subst (λ rs. AreDeeds (g.W.Worlds.logs c.args.worlds.now) (first ++ c.deed-item.result ∷ []) (g.W.Worlds.logs c.do_deed.new.worlds) rs)
          (sym c.in_ok-push.ensures.items) done);
      ordered = subst (λ ds. AreOrderedDeeds ds c.push.new.self.items) (sym longer)
          (subst (λ rs. AreOrderedDeeds (first ++ c.deed-item.result ∷ []) rs) (sym c.in_ok-push.ensures.items) ordered);
      count = DoesDeed-length (g.W.Worlds.logs c.deeds.worlds) c.deed-item.result (g.W.Worlds.logs c.do_deed.new.worlds) c.in_ok-reply.reply c.in_ok-reply.ensures.done ∙ c.deeds.invariant.count;
    }
