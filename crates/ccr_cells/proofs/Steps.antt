-- A step of a shard world, as its machine tells it.
use Rattle.std.specs.Prelude.{Result, Ok, Err, IfOk, OnErr}
use Rattle.std.specs.declared.alloc.AllocError.{AllocError}
use Rattle.std.proofs.Common.{◌≡◌, true, [], ◌∷◌, ◌++◌, ap}
use Rattle.ccr_journal.specs.declared.events.Event.{Event}
use Rattle.ccr_journal.specs.declared.replies.Reply.{Reply}
use Rattle.ccr_law_reached.specs.Reached.{IsPossible}
use Rattle.ccr_shard_world.specs.Recorded.{Recorded, state_of, IsReplyTo}
use Rattle.ccr_deeds.specs.Deeds.{IsOrderedFor}
use Rattle.ccr_worlds.proofs.Searched.{found_ordered}

module _ (old new : Recorded) (event : Event) where
  pub stepped_start : (r : Result Reply AllocError) → IfOk r (λ reply. new ≡ record old { journal = old.journal ++ record { event = event; reply = reply } ∷ [] })
      → OnErr r (new ≡ record old { broken = true }) → new.start ≡ old.start
  stepped_start (Ok reply) grew broke = ap (λ (x : Recorded). x.start) grew
  stepped_start (Err why) grew broke = ap (λ (x : Recorded). x.start) broke

  pub stepped_journal : (r : Result Reply AllocError) → IfOk r (λ reply. new ≡ record old { journal = old.journal ++ record { event = event; reply = reply } ∷ [] })
      → IfOk r (λ reply. new.journal ≡ old.journal ++ record { event = event; reply = reply } ∷ [])
  stepped_journal (Ok reply) grew = ap (λ (x : Recorded). x.journal) grew
  stepped_journal (Err why) grew = tt

  pub stepped_err : (r : Result Reply AllocError) → OnErr r (new ≡ record old { broken = true }) → OnErr r (new.journal ≡ old.journal)
  stepped_err (Ok reply) broke = tt
  stepped_err (Err why) broke = ap (λ (x : Recorded). x.journal) broke

  both_said : (r : Result Reply AllocError) → IfOk r (λ reply. IsReplyTo (state_of old) event reply) → IfOk r (λ reply. IsOrderedFor event reply)
      → IfOk r (λ reply. IsReplyTo (state_of old) event reply × IsOrderedFor event reply)
  both_said (Ok reply) one two = (one, two)
  both_said (Err why) one two = tt

  pub stepped_reply : (r : Result Reply AllocError) → IsPossible new.start new.journal
      → IfOk r (λ reply. new ≡ record old { journal = old.journal ++ record { event = event; reply = reply } ∷ [] })
      → IfOk r (λ reply. IsReplyTo (state_of old) event reply) → IfOk r (λ reply. IsReplyTo (state_of old) event reply × IsOrderedFor event reply)
  stepped_reply r possible grew is = both_said r is (found_ordered old new event r possible grew is)
