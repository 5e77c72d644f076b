-- The line of a leader shard's history, computed from the commands of a script on that shard and from its settles alone.
use Rattle.std.specs.Prelude.{Bool, true, false, not, if◌then◌else◌, List, [], ◌∷◌}
use Rattle.std.specs.List.{fold}
use Rattle.ccr_op.specs.Operation.{Operation}
use Rattle.ccr_journal.specs.declared.sides.Side.TheVariants as sides
use Rattle.ccr_journal.specs.declared.events.Event.{Event}
use Rattle.ccr_journal.specs.declared.events.Event.TheVariants as events
use Rattle.ccr_journal.specs.declared.journals.Entry.{Entry}
use Rattle.ccr_journal.specs.declared.replies.Reply.{Reply}
use Rattle.ccr_journal.specs.declared.replies.Reply.TheVariants as replies
use Rattle.ccr_model.specs.Operations.{live}
use Rattle.ccr_model.specs.Leaders.{Start}
use Rattle.ccr_model.specs.LeaderRows.{source_fault}
use Rattle.ccr_law_settled.specs.Outlines.{Outline, new_outline, replica_at, stale_at, writing, copying, acking, resyncing, promoting, forcing, failing, adding, settling}

-- what a command on a shard makes of its outline; all other events leave it as it is, also a sync, which only tells what is committed
abbrev pub commanded : Outline → Event → Outline
commanded t (events.Write request) = writing t request (source_fault request.body) (live t.line.ops request.id)
commanded t (events.Replicate sides.Leader copy seq) = copying t copy seq (replica_at copy t.replicas)
commanded t (events.Ack sides.Leader copy) = acking t copy (replica_at copy t.replicas)
commanded t (events.Resync copy) = resyncing t copy (replica_at copy t.replicas)
commanded t (events.Promote sides.Leader copy) = promoting t copy (replica_at copy t.replicas)
commanded t (events.ForcePromote copy) = forcing t copy (stale_at copy t.stale)
commanded t (events.FailCopy sides.Leader copy) = failing t copy (replica_at copy t.replicas)
commanded t (events.AddCopy sides.Leader) = adding t
commanded t events.Settle = settling t
commanded t _ = t

-- the line after these commands
abbrev pub line_of_script : Start → List Event → List Operation
line_of_script start script = (fold {A = Event} {B = Outline} commanded (new_outline start) script).line.ops

-- ---- the script of a journal

-- what an entry is to the line: a change of it or of which copies there are, a step by which a replica catches up, a settle that was answered
-- so, or none of these
pub data Role : Type 0 where
  changing : Role
  catching_up : Role
  settled : Role
  aside : Role

abbrev pub role_of : Event → Reply → Role
role_of (events.Write request) reply = changing
role_of (events.Promote sides.Leader copy) reply = changing
role_of (events.ForcePromote copy) reply = changing
role_of (events.FailCopy sides.Leader copy) reply = changing
role_of (events.AddCopy sides.Leader) reply = changing
role_of (events.Replicate sides.Leader copy seq) reply = catching_up
role_of (events.Ack sides.Leader copy) reply = catching_up
role_of (events.Resync copy) reply = catching_up
role_of events.Settle replies.Settled = settled
role_of _ _ = aside

-- a settle comes before the next change
abbrev pub settles_with : Role → Bool → Bool
settles_with changing later = false
settles_with catching_up later = later
settles_with settled later = true
settles_with aside later = later

abbrev pub settles_next : List Entry → Bool
settles_next [] = false
settles_next (entry ∷ entries) = settles_with (role_of entry.event entry.reply) (settles_next entries)

-- Changes and settles are of the script. Where a settle comes before the next change, no step to it matters, whether a command or the
-- settle took it.
abbrev pub is_of_script : Role → Bool → Bool
is_of_script changing later = true
is_of_script catching_up later = not later
is_of_script settled later = true
is_of_script aside later = false

-- the commands on the shard that its line depends on, without what was done to settle it
abbrev pub script_of : List Entry → List Event
script_of [] = []
script_of (entry ∷ entries) =
    if is_of_script (role_of entry.event entry.reply) (settles_next entries) then entry.event ∷ script_of entries else script_of entries

-- the line that the commands of a journal's script make
abbrev pub script_line : Start → List Entry → List Operation
script_line start entries = line_of_script start (script_of entries)
