-- What a task sends, in which order, and what it keeps of a reply.
use Rattle.std.specs.Prelude.{◌≡◌, ℕ, true, false, List, [], ◌∷◌, map}
use Rattle.ccr_op.specs.Operation.{Operation}
use Rattle.ccr_wire.specs.Message.{Frame}
use Rattle.ccr_journal.specs.declared.params.ParamValues.{ParamValues}
use Rattle.ccr_model.specs.Requests.{on_its_way, waiting, held_back, Sending}
use Rattle.ccr_model.specs.Tasks.{Task, Read, has_budget, with_read, sent_again, fill, fill_peek, rest_from, after_reply, changed_write, due_reads_sent, ticked, least_from}
use Rattle.ccr_model_values.specs.Words.{op, numbers, read, write, params, task}

abbrev pub requests : Sending Task → List ℕ
requests s = map {A = Frame} {B = ℕ} (λ m. m.request) s.sent

abbrev pub reads_of : Sending Task → List Read
reads_of s = s.next.reads

abbrev pub wide : ParamValues
wide = params 100 10000

-- two reads may be outstanding: one more may be begun at one, and none at two
pub record HaveBudget : Type 0 where
  pub one : has_budget (task wide 0 8 (read 3 5 8 3 on_its_way ∷ []) [] []) ≡ true
  pub two : has_budget (task wide 0 8 (read 3 5 8 3 on_its_way ∷ read 4 8 9 1 held_back ∷ []) [] []) ≡ false

-- a read that is begun stands behind the others under the next request number, and `next` moves on to where it ends; one that is sent again has
-- the next request number as well, and stays in its place
pub record AreSent : Type 0 where
  pub begun : (with_read (task wide 0 8 (read 3 5 8 3 on_its_way ∷ []) [] []) 8 12 4).next
      ≡ record (task wide 0 12 (read 3 5 8 3 on_its_way ∷ read 9 8 12 4 on_its_way ∷ []) [] []) { next_request = 10 }
  pub again : (sent_again (task wide 0 8 (read 3 5 8 3 held_back ∷ read 4 8 9 1 on_its_way ∷ []) [] []) (read 3 5 8 3 held_back)).next
      ≡ record (task wide 0 8 (read 9 5 8 3 on_its_way ∷ read 4 8 9 1 on_its_way ∷ []) [] []) { next_request = 10 }

-- the buffer takes no more than two operations; one write may be outstanding
abbrev pub narrow : ParamValues
narrow = params 2 10000

abbrev pub full : Task
full = task narrow 0 20 (read 3 7 8 1 held_back ∷ []) (op 5 ∷ op 6 ∷ []) []

-- batches are taken first, which frees the buffer, then held reads are sent, then new ones: of the held one and a new one the held has the lesser
-- number
pub record IsFilled : Type 0 where
  pub batch : (fill full).next.writes ≡ write 4 (op 5 ∷ op 6 ∷ []) on_its_way ∷ []
  pub held : reads_of (fill full) ≡ read 9 7 8 1 on_its_way ∷ []
  pub then_new : reads_of (fill (record full { next = 18 })) ≡ read 9 7 8 1 on_its_way ∷ read 10 18 20 2 on_its_way ∷ []
  pub peek : requests (fill_peek (task wide 0 20 [] [] [])) ≡ 9 ∷ []
  pub no_peek : requests (fill_peek (task narrow 0 20 [] (op 5 ∷ op 6 ∷ []) [])) ≡ []

-- what is left of a read goes by what was brought of it alone; operations that come stand among those of the buffer, and `next` stays where
-- something else was asked for
pub record AreKept : Type 0 where
  pub rest : rest_from (read 3 5 8 3 on_its_way) (op 5 ∷ op 8 ∷ op 9 ∷ []) ≡ 6
  pub among : numbers (after_reply (task wide 0 12 (read 3 5 8 3 on_its_way ∷ []) (op 4 ∷ op 9 ∷ []) []) (read 3 5 8 3 on_its_way) 20 (op 5 ∷ op 6 ∷ [])).buffer
      ≡ 4 ∷ 5 ∷ 6 ∷ 9 ∷ []
  pub next : (after_reply (task wide 0 12 (read 3 5 8 3 on_its_way ∷ []) [] []) (read 3 5 8 3 on_its_way) 20 (op 5 ∷ op 13 ∷ [])).next ≡ 12

-- the read 4 was lost after the read 6, which asks for smaller numbers; both are due, as is the write 2
abbrev pub lost : ParamValues → List Operation → Task
lost bounds buffer = task bounds 2 20 (read 6 5 8 3 (waiting 900) ∷ read 4 8 9 1 (waiting 1000) ∷ []) buffer (write 2 (op 4 ∷ []) (waiting 990) ∷ write 3 (op 5 ∷ []) on_its_way ∷ [])

-- due reads are sent in the order of their request numbers, unless the buffer is full; a lost write stays in its place, and a tick fills
pub record AreRetried : Type 0 where
  pub order : reads_of (due_reads_sent 1000 (lost wide [])) ≡ read 10 5 8 3 on_its_way ∷ read 9 8 9 1 on_its_way ∷ []
  pub buffer : requests (due_reads_sent 1000 (lost narrow (op 6 ∷ op 7 ∷ []))) ≡ []
  pub lost_write : changed_write 2 (λ w. record w { progress = waiting 7 }) (write 2 (op 4 ∷ []) on_its_way ∷ write 3 (op 5 ∷ []) on_its_way ∷ [])
      ≡ write 2 (op 4 ∷ []) (waiting 7) ∷ write 3 (op 5 ∷ []) on_its_way ∷ []
  pub writes : (ticked 1000 (lost wide [])).next.writes ≡ write 2 (op 4 ∷ []) on_its_way ∷ write 3 (op 5 ∷ []) on_its_way ∷ []
  pub filled : reads_of (ticked 1000 (task wide 0 18 [] [] [])) ≡ read 9 18 20 5 on_its_way ∷ []
  pub least : least_from 20 (read 4 8 9 1 on_its_way ∷ read 6 5 8 3 held_back ∷ read 7 9 12 3 on_its_way ∷ []) ≡ 5
  pub none : least_from 20 [] ≡ 20
