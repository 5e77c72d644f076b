use Rattle.std.proofs.Common.{◌≡◌, ℕ, List, ◌-◌, ◌+◌, ◌∷◌, [], suc, sym, ◌∙◌, ap, arith}
use Rattle.ccr_wire.specs.Message.{Frame}
use Rattle.ccr_model.specs.Restores.{asks_chunk}
use Rattle.ccr_restore.specs.Places.{Walk, places_left}
use Rattle.ccr_restore.specs.Stages.{fetch_at, fetch_of}
use Rattle.ccr_restore.proofs.Fetching.{chunks-turn_next, chunks-turn_sent, asked-next}
use Rattle.ccr_restore.proofs.fetch.ask_places.Goals as goal

pub loop-turn-preserved : goal.loop-turn-preserved
loop-turn-preserved c =
    let f = c.loop-turn.fetch in
    let room = c.args.room in
    let turn = c.loop-turn.turn in
    let s = fetch_at c.args.plan.now c.loop-turn.counters f in
    let place = c.in_ok-place.place in
    let one_more : room - turn ≡ suc (room - (turn + 1)) = omega arith in
    let left : places_left f.places ≡ place ∷ places_left c.next.new.self =
    c.in_ok-place.ensures.place ∙ ap (λ (xs : List (ℕ × ℕ)). place ∷ xs) (sym (ap places_left c.in_ok-place.ensures.ok)) in
    let goes = asked-next c.args.plan.now c.loop-turn.counters c.ask_part.new.counters f.session f.history f.count f.places c.next.new.self f.asks.items c.ask_part.new.asks.items f.parts.items place
    c.in_ok-message.ensures.counted c.in_ok-place.ensures.ok c.in_ok-message.ensures.asked in
    let says : c.in_ok-message.message ∷ [] ≡ (asks_chunk s (fetch_of f) place).sent = ap (λ (m : Frame). m ∷ []) c.in_ok-message.ensures.message in
    record {
      same = ap (λ (w : Walk). w.chunk_size) c.in_ok-place.ensures.ok ∙ c.loop-turn.invariant.same;
      next = chunks-turn_next (room - (turn + 1)) (room - turn) (places_left f.places) (places_left c.next.new.self) place s _ _ (fetch_of f) one_more left goes c.loop-turn.invariant.next;
      sent = chunks-turn_sent (room - (turn + 1)) (room - turn) (places_left f.places) (places_left c.next.new.self) place s _ (fetch_of f) c.loop-turn.sent.items c.push.new.self.items _ c.in_ok-message.message one_more left goes says
          c.in_ok-push.ensures.items c.loop-turn.invariant.sent;
    }
