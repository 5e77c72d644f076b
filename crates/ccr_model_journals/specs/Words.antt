-- Short words for the parts of journals.
use Rattle.std.specs.Prelude.{ℕ, Bool, List, Option}
use Rattle.std.specs.Int.{w128, to_be_bytes}
use Rattle.ccr_op.specs.Operation.{Operation}
use Rattle.ccr_op.specs.declared.operation.Kind.TheVariants.{Index, Delete, NoOp}
use Rattle.ccr_lease.specs.declared.retention.Lease.{Lease}
use Rattle.ccr_lease.specs.declared.retention.Expired.{Expired}
use Rattle.ccr_query.specs.Answers.{HitsOfShard}
use Rattle.ccr_query.specs.Queries.{Tree}
use Rattle.ccr_query.specs.declared.answers.Hit.{Hit}
use Rattle.ccr_query.specs.declared.sorting.SortKey.{SortKey}
use Rattle.ccr_query.specs.declared.sorting.SortOrder.{SortOrder}
use Rattle.ccr_journal.specs.declared.events.Event.{Event}
use Rattle.ccr_journal.specs.declared.journals.Entry.{Entry}
use Rattle.ccr_journal.specs.declared.params.ParamValues.{ParamValues}
use Rattle.ccr_journal.specs.declared.replies.Reply.{Reply}
use Rattle.ccr_journal.specs.declared.replies.WriteResult.{WriteResult}
use Rattle.ccr_journal.specs.declared.replies.Wrote.{Wrote}
use Rattle.ccr_journal.specs.declared.requests.SearchRequest.{SearchRequest}
use Rattle.ccr_journal.specs.declared.requests.WriteRequest.{WriteRequest}
use Rattle.ccr_journal.specs.declared.sides.Phase.{Phase}
use Rattle.ccr_journal.specs.declared.statuses.CopyStatus.{CopyStatus}
use Rattle.ccr_journal.specs.declared.statuses.FollowerStatus.{FollowerStatus}
use Rattle.ccr_model.specs.Leaders.{Start}

-- a leader shard of so many copies, whose history has this number as its UUID
abbrev pub begun : ℕ → ℕ → ℕ → ℕ → Start
begun copies history period retention = record { copies = copies; history = to_be_bytes w128 history; period = period; retention = retention }

abbrev pub entry : Event → Reply → Entry
entry event reply = record { event = event; reply = reply }

abbrev pub request : List ℕ → Option (List ℕ) → Option (List ℕ) → Bool → Option (ℕ × ℕ) → WriteRequest
request id routing body create expect = record { id = id; routing = routing; body = body; create = create; expect = expect }

abbrev pub index : ℕ → ℕ → ℕ → List ℕ → Option (List ℕ) → List ℕ → Operation
index seq term version id routing body = record { seq = seq; term = term; version = version; kind = Index id routing body }

abbrev pub delete : ℕ → ℕ → ℕ → List ℕ → Option (List ℕ) → Operation
delete seq term version id routing = record { seq = seq; term = term; version = version; kind = Delete id routing }

abbrev pub no_op : ℕ → ℕ → Operation
no_op seq term = record { seq = seq; term = term; version = 0; kind = NoOp }

abbrev pub wrote : ℕ → ℕ → ℕ → WriteResult → Wrote
wrote seq term version result = record { seq = seq; term = term; version = version; result = result }

-- the parameters in the order in which they are declared
abbrev pub params : ℕ → ℕ → ℕ → ℕ → ℕ → ℕ → ℕ → ℕ → ℕ → ℕ → ℕ → ParamValues
params read_operations read_bytes reads write_operations write_bytes writes buffer_operations buffer_bytes retry_delay poll_timeout chunk = record {
  max_read_request_operation_count = read_operations;
  max_read_request_size = read_bytes;
  max_outstanding_read_requests = reads;
  max_write_request_operation_count = write_operations;
  max_write_request_size = write_bytes;
  max_outstanding_write_requests = writes;
  max_write_buffer_count = buffer_operations;
  max_write_buffer_size = buffer_bytes;
  max_retry_delay = retry_delay;
  read_poll_timeout = poll_timeout;
  chunk_size = chunk;
}

abbrev pub default_params : ParamValues
default_params = params 5120 33554432 12 5120 9223372036854775807 9 2147483647 536870912 500 60000 1048576

abbrev pub status : ℕ → ℕ → ℕ → ℕ → ℕ → CopyStatus
status copy count global floor held = record { copy = copy; count = count; global = global; floor = floor; held = held }

abbrev pub follower_status : Phase → ℕ → ℕ → List CopyStatus → ℕ → ℕ → ℕ → FollowerStatus
follower_status phase epoch term copies reads buffer writes =
    record { phase = phase; epoch = epoch; term = term; copies = copies; reads = reads; buffer = buffer; writes = writes }

abbrev pub lease : List ℕ → ℕ → ℕ → Lease
lease id number stamp = record { id = id; number = number; stamp = stamp }

abbrev pub gone : List ℕ → ℕ → ℕ → Expired
gone id stamp now = record { id = id; stamp = stamp; now = now }

abbrev pub key : List ℕ → SortOrder → SortKey
key field order = record { field = field; order = order }

abbrev pub search_for : Tree → List SortKey → SearchRequest
search_for query sort = record { query = query; sort = sort }

abbrev pub hit : List ℕ → Option (List ℕ) → List ℕ → Hit
hit id routing body = record { id = id; routing = routing; body = body }

abbrev pub found : ℕ → Bool → List Hit → HitsOfShard
found count gap hits = record { count = count; gap = gap; hits = hits }
