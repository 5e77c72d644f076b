-- The kinds of frames, each with its byte, and the results of a lease request, each with its byte.
use Rattle.std.specs.Prelude.{ℕ, List, [], ◌∷◌, Option, find, ◌==◌}
use Rattle.ccr_wire.specs.declared.kind.FrameKind.{FrameKind}
use Rattle.ccr_wire.specs.declared.kind.FrameKind.TheVariants.{ReadRequest, ReadReply, ReadMissing, ReadHistory, LeaseAdd, LeaseAdded, LeaseRenew, LeaseRemove, LeaseAnswer, SessionOpen, SessionOpened, ChunkRequest, ChunkReply, SessionGone, NotReady}
use Rattle.ccr_wire.specs.declared.kind.LeaseResult.{LeaseResult}
use Rattle.ccr_wire.specs.declared.kind.LeaseResult.TheVariants as results

abbrev pub byte_of : FrameKind → ℕ
byte_of ReadRequest = 1
byte_of ReadReply = 2
byte_of ReadMissing = 3
byte_of ReadHistory = 4
byte_of LeaseAdd = 5
byte_of LeaseAdded = 6
byte_of LeaseRenew = 7
byte_of LeaseRemove = 8
byte_of LeaseAnswer = 9
byte_of SessionOpen = 10
byte_of SessionOpened = 11
byte_of ChunkRequest = 12
byte_of ChunkReply = 13
byte_of SessionGone = 14
byte_of NotReady = 15

abbrev pub all_kinds : List FrameKind
all_kinds =
    ReadRequest ∷ ReadReply ∷ ReadMissing ∷ ReadHistory ∷ LeaseAdd ∷ LeaseAdded ∷ LeaseRenew ∷ LeaseRemove ∷ LeaseAnswer
    ∷ SessionOpen ∷ SessionOpened ∷ ChunkRequest ∷ ChunkReply ∷ SessionGone ∷ NotReady ∷ []

-- the kind that has this byte
unfoldable pub kind_of : ℕ → Option FrameKind
kind_of byte = find (λ kind. byte_of kind == byte) all_kinds

abbrev pub result_byte : LeaseResult → ℕ
result_byte results.Ok = 0
result_byte results.Exists = 1
result_byte results.NotFound = 2
result_byte results.LowNumber = 3

abbrev pub all_results : List LeaseResult
all_results = results.Ok ∷ results.Exists ∷ results.NotFound ∷ results.LowNumber ∷ []

-- the result that has this byte
unfoldable pub result_of : ℕ → Option LeaseResult
result_of byte = find (λ outcome. result_byte outcome == byte) all_results
