-- What deeds do in the shard worlds, told by their journals.
use Rattle.std.specs.Prelude.{◌≡◌, ◌⊎◌, ℕ, ◌<◌, List, [], ◌∷◌, ◌++◌}
use Rattle.ccr_op.specs.Operation.{Operation}
use Rattle.ccr_journal.specs.declared.events.Event.{Event}
use Rattle.ccr_journal.specs.declared.events.Event.TheVariants as event
use Rattle.ccr_journal.specs.declared.journals.Entry.{Entry}
use Rattle.ccr_journal.specs.declared.replies.Reply.{Reply}
use Rattle.ccr_journal.specs.declared.replies.Reply.TheVariants as reply
use Rattle.ccr_model.specs.Answers.{AreInOrder}
use Rattle.ccr_deeds.specs.declared.deeds.Deed.{Deed}
use Rattle.ccr_deeds.specs.declared.deeds.Deed.TheVariants.{Happens, TakeAndApply, Settle}
use Rattle.ccr_deeds.specs.Logs.{Log, entered}
use Rattle.ccr_deeds.specs.Settles.{EachWorld, IsSettled, MayBeSettled}

-- the operations that a reply brought
abbrev pub batch_in : Reply → List Operation
batch_in (reply.Took batch) = batch
batch_in _ = []

abbrev pub took : ℕ → ℕ → Reply → Entry
took f write told = record { event = event.Take f write; reply = told }

-- what was taken is applied
abbrev pub applied : ℕ → ℕ → ℕ → Reply → Reply → Entry
applied f epoch write taken told = record { event = event.Apply f epoch write (batch_in taken); reply = told }

-- a batch was taken in a world: what the reply brought
pub record Takes (before : List Log) (w f write : ℕ) (batch : List Operation) (after : List Log) : Type 0 where
  pub taken : Reply
  pub is : batch ≡ batch_in taken
  pub grown : after ≡ entered before w (took f write taken ∷ [])

-- a deed was done, and its last event was answered so
abbrev pub DoesDeed : List Log → Deed → List Log → Reply → Type 0
DoesDeed before (Happens w e) after told = after ≡ entered before w (record { event = e; reply = told } ∷ [])
DoesDeed before (TakeAndApply w f epoch write) after told =
    (taken : Reply) × (after ≡ entered before w (took f write taken ∷ applied f epoch write taken told ∷ []))
DoesDeed before Settle after told = EachWorld IsSettled before after × (told ≡ reply.Settled)

-- of a deed none, a part or all was done
abbrev pub BeginsDeed : List Log → Deed → List Log → Type 0
BeginsDeed before (Happens w e) after = (after ≡ before) ⊎ ((told : Reply) × DoesDeed before (Happens w e) after told)
BeginsDeed before (TakeAndApply w f epoch write) after =
    (after ≡ before) ⊎ ((taken : Reply) × (after ≡ entered before w (took f write taken ∷ [])))
    ⊎ ((told : Reply) × DoesDeed before (TakeAndApply w f epoch write) after told)
BeginsDeed before Settle after = EachWorld MayBeSettled before after

-- deeds were done one after another, and their last events were answered so
abbrev pub AreDeeds : List Log → List Deed → List Log → List Reply → Type 0
AreDeeds before [] after told = (after ≡ before) × (told ≡ [])
AreDeeds before (deed ∷ deeds) after told =
    (mid : List Log) × (first : Reply) × (others : List Reply) × DoesDeed before deed mid first × AreDeeds mid deeds after others × (told ≡ first ∷ others)

-- of deeds the first were done, and of the next one none, a part or all
abbrev pub HasBegunDeed : List Log → List Deed → List Log → Type 0
HasBegunDeed before [] after = after ≡ before
HasBegunDeed before (deed ∷ deeds) after = BeginsDeed before deed after

pub record BeginDeeds (before : List Log) (deeds : List Deed) (after : List Log) : Type 0 where
  pub first : List Deed
  pub others : List Deed
  pub between : List Log
  pub told : List Reply
  pub split : first ++ others ≡ deeds
  pub done : AreDeeds before first between told
  pub begun : HasBegunDeed between others after

-- the deed is in a world that is there; a settle is no deed of one world
abbrev pub IsWithin : ℕ → Deed → Type 0
IsWithin worlds (Happens w e) = w < worlds
IsWithin worlds (TakeAndApply w f epoch write) = w < worlds
IsWithin worlds Settle = ⊥

-- ---- the order of what a search finds

-- what a search finds stands in the order of its keys
abbrev pub IsOrderedFor : Event → Reply → Type 0
IsOrderedFor (event.Search side copy request) (reply.Found answer) = AreInOrder request.sort answer.hits
IsOrderedFor e told = Unit {0}

abbrev pub IsOrderedDeed : Deed → Reply → Type 0
IsOrderedDeed (Happens w e) told = IsOrderedFor e told
IsOrderedDeed (TakeAndApply w f epoch write) told = Unit {0}
IsOrderedDeed Settle told = Unit {0}

-- so each deed was answered, as far as there are replies
abbrev pub AreOrderedDeeds : List Deed → List Reply → Type 0
AreOrderedDeeds [] told = Unit {0}
AreOrderedDeeds (deed ∷ deeds) [] = Unit {0}
AreOrderedDeeds (deed ∷ deeds) (reply ∷ told) = IsOrderedDeed deed reply × AreOrderedDeeds deeds told
