-- Events, entries and journals may go to another thread, since each of their fields may.
use denote.Hole.{as_row}
use denote.RattleType.{RattleType}
use denote.Struct.Field.{u64-field, u32-field, bool-field}
use denote.Param.Send.{IsSend, recorded_send, view_send, sendable}
use denote.Param.SendFields.{as_row_send, declared_send, variants_send}
use Rattle.std.proofs.Crossing.{Vec-send}
use Rattle.std.specs.contracts.alloc.Global as Heap
use Rattle.std.specs.contracts.impls.GlobalAllocator.TheImpl.{ghosts}
use Rattle.std.specs.contracts.vec.Vec as Vec
use Rattle.ccr_op.specs.contracts.batches.Batch as Batch
use Rattle.ccr_op.specs.contracts.ids.LeaseId as LeaseId
use Rattle.ccr_op.proofs.batches.Batch.TheSendSync as batch_sent
use Rattle.ccr_op.proofs.ids.LeaseId.TheSendSync as lease_sent
use Rattle.ccr_query.specs.contracts.conditions.Condition as Condition
use Rattle.ccr_query.specs.contracts.queries.Query as Query
use Rattle.ccr_query.proofs.conditions.Condition.TheSendSync as condition_sent
use Rattle.ccr_query.proofs.queries.Query.TheLaws.TheKnot as knot
use Rattle.ccr_journal.specs.contracts.boxed.Boxed as Boxed
use Rattle.ccr_journal.specs.contracts.events.Event as Event
use Rattle.ccr_journal.specs.contracts.journals.Entry as Entry
use Rattle.ccr_journal.specs.contracts.journals.Journal as Journal
use Rattle.ccr_journal.specs.contracts.journals.Journal.TheInside as journal_inside
use Rattle.ccr_journal.specs.contracts.params.Params as Params
use Rattle.ccr_journal.specs.contracts.requests.SearchRequest as SearchRequest
use Rattle.ccr_journal.specs.contracts.requests.SortKeys as SortKeys
use Rattle.ccr_journal.specs.contracts.requests.WriteRequest as WriteRequest
use Rattle.ccr_journal.specs.contracts.sides.CopyCount as CopyCount
use Rattle.ccr_journal.specs.contracts.sides.Side as Side
use Rattle.ccr_journal.proofs.boxed.Boxed.TheSendSync as boxed_sent
use Rattle.ccr_journal.proofs.params.Params.TheSendSync as params_sent
use Rattle.ccr_journal.proofs.replies.Reply.TheSendSync as reply_sent
use Rattle.ccr_journal.proofs.requests.SortKeys.TheSendSync as keys_sent
use Rattle.ccr_journal.proofs.requests.WriteRequest.TheSendSync as write_sent
use Rattle.ccr_journal.proofs.sides.CopyCount.TheSendSync as count_sent
use Rattle.ccr_journal.proofs.sides.Side.TheSendSync as side_sent

-- ---- the fields of events

number : IsSend (as_row u64-field)
number = search sendable

short : IsSend (as_row u32-field)
short = search sendable

truth : IsSend (as_row bool-field)
truth = search sendable

side : IsSend (as_row Side.the_field)
side = as_row_send Side.the_field side_sent.the_field_send

count : IsSend (as_row CopyCount.the_field)
count = as_row_send CopyCount.the_field count_sent.the_send

lease : IsSend (as_row LeaseId.the_field)
lease = as_row_send LeaseId.the_field lease_sent.the_send

boxed : (R : RattleType) → IsSend R → IsSend (as_row (Boxed.the_field R))
boxed R s = as_row_send (Boxed.the_field R) (boxed_sent.the_send R s)

batch : IsSend (as_row (Boxed.the_field Batch.the_row))
batch = boxed Batch.the_row batch_sent.the_send

params : IsSend (as_row (Boxed.the_field Params.the_row))
params = boxed Params.the_row params_sent.the_send

write : IsSend (as_row (Boxed.the_field WriteRequest.the_row))
write = boxed WriteRequest.the_row write_sent.the_send

condition : IsSend (as_row Condition.the_field)
condition = as_row_send Condition.the_field condition_sent.the_field_send

-- a query has queries inside
query : IsSend Query.the_row
query = recorded_send _ _ _ (λ x y is. is) (knot.send-Query condition Vec-send)

keys : IsSend (as_row SortKeys.the_field)
keys = as_row_send SortKeys.the_field keys_sent.the_send

search_request : IsSend (as_row (Boxed.the_field SearchRequest.the_row))
search_request = boxed SearchRequest.the_row (declared_send SearchRequest.the_type (as_row_send Query.the_field query, (keys, tt)))

-- ---- events, entries and journals

-- variant by variant, in the order in which they are declared
pub event_send : IsSend Event.the_row
event_send = variants_send Event.enum ((
  (write, tt),
  (
    (side, (number, (number, tt))),
    (
      (side, (number, tt)),
      (
        (side, (number, tt)),
        (
          (side, (number, tt)),
          (
            (number, tt),
            (
              (number, tt),
              (
                (side, (number, tt)),
                (
                  (side, tt),
                  (
                    (side, (number, tt)),
                    (
                      (side, (number, tt)),
                      (
                        (side, (number, tt)),
                        (
                          tt,
                          (
                            tt,
                            (
                              (short, tt),
                              (
                                (number, (number, (truth, tt))),
                                (
                                  (number, tt),
                                  (
                                    (short, (number, tt)),
                                    (
                                      (short, (number, tt)),
                                      (
                                        (short, (number, tt)),
                                        (
                                          (short, (number, tt)),
                                          (
                                            (short, (number, (number, (batch, tt)))),
                                            (
                                              (short, (number, tt)),
                                              (
                                                (short, tt),
                                                (
                                                  (params, (count, (lease, tt))),
                                                  (
                                                    (short, tt),
                                                    (
                                                      (short, tt),
                                                      (
                                                        (short, tt),
                                                        (
                                                          (short, tt),
                                                          (
                                                            (side, (number, (search_request, tt))),
                                                            (
                                                              (side, tt),
                                                              (
                                                                tt,
                                                                tt,
                                                              ),
                                                            ),
                                                          ),
                                                        ),
                                                      ),
                                                    ),
                                                  ),
                                                ),
                                              ),
                                            ),
                                          ),
                                        ),
                                      ),
                                    ),
                                  ),
                                ),
                              ),
                            ),
                          ),
                        ),
                      ),
                    ),
                  ),
                ),
              ),
            ),
          ),
        ),
      ),
    ),
  ),
))

pub entry_send : IsSend Entry.the_row
entry_send = declared_send Entry.the_type (event_send, (reply_sent.the_send, tt))

pub journal_send : IsSend Journal.the_row
journal_send = view_send _ _ _ _ _
    (declared_send journal_inside.the_type (as_row_send (Vec.the_field Entry.the_row Heap.the_row ghosts) (Vec-send Entry.the_row entry_send), tt))
