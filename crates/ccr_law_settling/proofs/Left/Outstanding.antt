-- Where nothing waits for a time and nothing is held back, what is outstanding was sent.
use Rattle.std.specs.List.{AllByRecursion}
use Rattle.std.specs.Prelude.{filter_map}
use Rattle.std.proofs.Common.{◌≡◌, true, false, None, List, [], ◌∷◌, refl}
use Rattle.ccr_model.specs.Requests.{Progress, on_its_way, waiting, held_back, is_sent}
use Rattle.ccr_model.specs.Settling.{time_of, least_of}
use Rattle.ccr_law_settling_grounds.specs.Pending.{is_held_back}

-- it was sent, unless it is held back
abbrev pub IsSentOrHeld : Progress → Type 0
IsSentOrHeld p = is_held_back p ≡ false → is_sent p ≡ true

pub sent_or_held : (ps : List Progress) → least_of (filter_map time_of ps) ≡ None → AllByRecursion IsSentOrHeld ps
sent_or_held [] none = tt
sent_or_held (on_its_way ∷ ps) none = (λ held. refl, sent_or_held ps none)
sent_or_held (held_back ∷ ps) none = (λ held. cc, sent_or_held ps none)
sent_or_held (waiting until ∷ ps) none = cc
