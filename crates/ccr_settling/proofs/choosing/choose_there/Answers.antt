use Rattle.std.specs.Prelude.{MatchOption}
use Rattle.std.proofs.Common.{◌≡◌, ◌<◌, false, [], Option, length, sym, ap, subst, ◌∙◌, arith}
use Rattle.ccr_journal.specs.declared.events.Event.{Event}
use Rattle.ccr_journal.specs.declared.events.Event.TheVariants as events
use Rattle.ccr_model.specs.Leaders.{Leader}
use Rattle.ccr_model.specs.Settled.{is_settled}
use Rattle.ccr_settling.specs.Next.{IsNext}
use Rattle.ccr_settling.specs.Served.{AreServedAtLeader}
use Rattle.ccr_settling.specs.Still.{ActsThere, AreStillBetween}
use Rattle.ccr_settling.proofs.Grounding.{none-is-kept}
use Rattle.ccr_settling.proofs.Idleness.{acts-may, acts-next, clock-next, delivers, none-flies, one-is-left}
use Rattle.ccr_settling.proofs.choosing.choose_there.Goals as goal

pub returns-then-in_flight-gt0 : goal.returns-then-in_flight-gt0
returns-then-in_flight-gt0 c =
    let left : is_settled c.args.shard.now ≡ false = sym c.is_settled.ensures ∙ c.if-is_settled.false in
    let served : AreServedAtLeader c.args.shard.now.leader.copies = subst AreServedAtLeader (c.copies.ensures ∙ ap (λ (l : Leader). l.copies) c.leader.ensures) c.in_default.ensures in
    let some : 0 < length c.args.shard.now.flight = omega arith in
    subst (λ (e : Event). IsNext c.args.shard.now e) (sym c.deliver_oldest.ensures)
    (acts-next c.args.shard.now (events.Deliver 0 c.args.shard.now.leader.copies.primary.number false) left (delivers c.args.shard.now served some))

pub returns-in-Some-2 : goal.returns-in-Some-2
returns-in-Some-2 c =
    let left : is_settled c.args.shard.now ≡ false = sym c.is_settled.ensures ∙ c.if-is_settled.false in
    let served : AreServedAtLeader c.args.shard.now.leader.copies = subst AreServedAtLeader (c.copies.ensures ∙ ap (λ (l : Leader). l.copies) c.leader.ensures) c.in_default.ensures in
    let taken : c.args.shard.now.flight ≡ [] = none-flies c.args.shard.now.flight c.in_flight.result c.in_flight.ensures (omega arith) in
    let acts : ActsThere c.args.shard.now c.in-Some-2.event
    = subst (λ (o : Option Event). MatchOption o (AreStillBetween c.args.shard.now 0 (length c.args.shard.now.followers)) (λ event. ActsThere c.args.shard.now event)) c.in-Some-2.is c.in_ok-event.ensures in
    acts-next c.args.shard.now c.in-Some-2.event left (acts-may c.args.shard.now taken (none-is-kept c.args.shard.now c.requires.kept served) c.in-Some-2.event acts)

pub unreachable-requires : goal.unreachable-requires
unreachable-requires c =
    let left : is_settled c.args.shard.now ≡ false = sym c.is_settled.ensures ∙ c.if-is_settled.false in
    let served : AreServedAtLeader c.args.shard.now.leader.copies = subst AreServedAtLeader (c.copies.ensures ∙ ap (λ (l : Leader). l.copies) c.leader.ensures) c.in_default.ensures in
    let taken : c.args.shard.now.flight ≡ [] = none-flies c.args.shard.now.flight c.in_flight.result c.in_flight.ensures (omega arith) in
    let still : AreStillBetween c.args.shard.now 0 (length c.args.shard.now.followers)
    = subst (λ (o : Option Event). MatchOption o (AreStillBetween c.args.shard.now 0 (length c.args.shard.now.followers)) (λ event. ActsThere c.args.shard.now event)) c.in_default-2.is c.in_ok-event.ensures in
    one-is-left c.args.shard.now c.requires.ends left served taken c.in_default-next_to_wake.ensures still c.in-None.ensures

pub returns : goal.returns
returns c =
    let left : is_settled c.args.shard.now ≡ false = sym c.is_settled.ensures ∙ c.if-is_settled.false in
    let served : AreServedAtLeader c.args.shard.now.leader.copies = subst AreServedAtLeader (c.copies.ensures ∙ ap (λ (l : Leader). l.copies) c.leader.ensures) c.in_default.ensures in
    let taken : c.args.shard.now.flight ≡ [] = none-flies c.args.shard.now.flight c.in_flight.result c.in_flight.ensures (omega arith) in
    let still : AreStillBetween c.args.shard.now 0 (length c.args.shard.now.followers)
    = subst (λ (o : Option Event). MatchOption o (AreStillBetween c.args.shard.now 0 (length c.args.shard.now.followers)) (λ event. ActsThere c.args.shard.now event)) c.in_default-2.is c.in_ok-event.ensures in
    clock-next c.args.shard.now c.in-Some-first_to_wait.f c.in-Some-first_to_wait.now left served taken c.in_default-next_to_wake.ensures still c.in-Some-first_to_wait.ensures
