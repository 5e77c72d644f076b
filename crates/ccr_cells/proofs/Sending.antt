-- A shard world of a run may go to another thread, where its policy may.
use denote.Hole.{as_row}
use denote.RattleType.{RattleType}
use denote.Struct.Field.{u64-field, bool-field}
use denote.Param.Send.{IsSend, view_send, sendable}
use denote.Param.SendFields.{as_row_send, declared_send}
use Rattle.std.proofs.Crossing.{send as heap_send}
use Rattle.std.specs.contracts.option.Option as Maybe
use Rattle.ccr_leader.specs.contracts.start.Start as Start
use Rattle.ccr_leader.proofs.start.Start.TheSendSync as start_sent
use Rattle.ccr_shard.specs.contracts.shard.Shard as Shard
use Rattle.ccr_shard.proofs.shard.Shard.TheSendSync as shard_sent
use Rattle.ccr_journal.specs.contracts.journals.Journal as Journal
use Rattle.ccr_journal.proofs.Sending.{journal_send}
use Rattle.ccr_shard_world.specs.contracts.recorded.Recorded as Recorded
use Rattle.ccr_shard_world.specs.contracts.recorded.Recorded.TheInside as recorded_inside
use Rattle.ccr_shard_world.specs.contracts.world.World as World
use Rattle.ccr_shard_world.specs.declared.policy.Chooser as Chooser
use Rattle.ccr_worlds.specs.declared.handed.Handed as Handed
use Rattle.ccr_cells.specs.contracts.numbered.Numbered as Numbered
use Rattle.ccr_cells.specs.contracts.numbered.Numbered.TheInside as numbered_inside

truth : IsSend (as_row bool-field)
truth = search sendable

number : IsSend (as_row u64-field)
number = search sendable

recorded_send : IsSend Recorded.the_row
recorded_send = view_send _ _ _ _ _
    (declared_send recorded_inside.the_type (
      heap_send,
      (
        as_row_send Start.the_field start_sent.the_send,
        (as_row_send Shard.the_field shard_sent.the_send, (as_row_send Journal.the_field journal_send, (truth, tt))),
      ),
    ))

world_send : (P : RattleType) → IsSend P → IsSend (World.the_row P)
world_send P s =
    declared_send (World.the_type P) (heap_send, (as_row_send Recorded.the_field recorded_send, (as_row_send (Maybe.the_field P) (search sendable), tt)))

pub numbered_send : (P K : RattleType) (g : Chooser.Ghosts P.Denot) (h : Handed.Ghosts K.Denot) → IsSend P → IsSend K → IsSend (Numbered.the_row P K g h)
numbered_send P K g h s k = view_send _ _ _ _ _
    (declared_send (numbered_inside.the_type P K g h) (number, (world_send P s, (search sendable, tt))))
