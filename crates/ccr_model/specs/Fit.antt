-- What the types of events keep of their values, and how long a journal may be.
use Rattle.std.specs.Prelude.{◌<◌, ◌^◌, List, length, IfSome}
use Rattle.std.specs.List.{AllByRecursion}
use Rattle.ccr_op.specs.Ids.{IsIdText}
use Rattle.ccr_journal.specs.Params.{AreInRange, IsCopyCount}
use Rattle.ccr_journal.specs.declared.events.Event.{Event}
use Rattle.ccr_journal.specs.declared.events.Event.TheVariants as events
use Rattle.ccr_journal.specs.declared.journals.Entry.{Entry}
use Rattle.ccr_journal.specs.declared.requests.WriteRequest.{WriteRequest}

-- an id, and a routing, is a text of 1 to 512 bytes
abbrev pub IsFitRequest : WriteRequest → Type 0
IsFitRequest request = IsIdText request.id × IfSome request.routing IsIdText

-- so are those of writes, parameters lie in their ranges, and a shard has 1 to 8 copies
abbrev pub IsFitEvent : Event → Type 0
IsFitEvent (events.Write request) = IsFitRequest request
IsFitEvent (events.Follow params copies name) = AreInRange params × IsCopyCount copies × IsIdText name
IsFitEvent _ = Unit {0}

-- numbers, terms and versions are of 64 bits, and the operations of a part are counted in 32. A journal of fewer than 2^32 entries stays
-- below all of these.
pub record AreFit (entries : List Entry) : Type 0 where
  pub events : AllByRecursion (λ (entry : Entry). IsFitEvent entry.event) entries
  pub few : length entries < 2 ^ 32
