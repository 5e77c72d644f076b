-- What a task does with a reply, and when it may read.
use Rattle.std.specs.Prelude.{◌≡◌, ℕ, true, false, [], ◌∷◌}
use Rattle.ccr_model.specs.Requests.{on_its_way, held_back}
use Rattle.ccr_model.specs.Tasks.{Task, Read, may_read, after_reply}
use Rattle.ccr_model_values.specs.Words.{op, numbers, read, params, task}

-- a read may be sent where the buffer is below both bounds: two no-ops are 2 operations of 34 bytes
pub record MayRead : Type 0 where
  pub below : may_read (task (params 3 35) 0 8 [] (op 5 ∷ op 6 ∷ []) []) ≡ true
  pub at_count : may_read (task (params 2 35) 0 8 [] (op 5 ∷ op 6 ∷ []) []) ≡ false
  pub at_size : may_read (task (params 3 34) 0 8 [] (op 5 ∷ op 6 ∷ []) []) ≡ false

-- the read of the numbers from 5 to below 8, under request 3
abbrev pub asked : Read
asked = read 3 5 8 3 on_its_way

-- another, of the numbers from 8 to below 12
abbrev pub behind : Read
behind = read 4 8 12 4 on_its_way

abbrev pub last : Task
last = task (params 100 10000) 2 8 (asked ∷ []) (op 4 ∷ []) []

abbrev pub first : Task
first = task (params 100 10000) 2 12 (asked ∷ behind ∷ []) (op 4 ∷ []) []

-- a reply that brings less than was asked for: the rest is held, and asks for as much as is left
pub record BringsLess (t : Task) : Type 0 where
  pub reads : t.reads ≡ read 3 7 8 1 held_back ∷ []
  pub buffer : numbers t.buffer ≡ 4 ∷ 5 ∷ 6 ∷ []
  pub next : t.next ≡ 8

-- one that brings more, where nothing behind it was asked for: all is kept, and what is asked for next lies behind it
pub record BringsMore (t : Task) : Type 0 where
  pub reads : t.reads ≡ []
  pub buffer : numbers t.buffer ≡ 4 ∷ 5 ∷ 6 ∷ 7 ∷ 8 ∷ 9 ∷ []
  pub next : t.next ≡ 10

-- one that brings more, where that was asked for: it isn't kept
pub record BringsAskedFor (t : Task) : Type 0 where
  pub reads : t.reads ≡ behind ∷ []
  pub buffer : numbers t.buffer ≡ 4 ∷ 5 ∷ 6 ∷ 7 ∷ []
  pub next : t.next ≡ 12

-- one that brings nothing: the read is held as it was
pub record BringsNothing (t : Task) : Type 0 where
  pub reads : t.reads ≡ read 3 5 8 3 held_back ∷ []
  pub buffer : numbers t.buffer ≡ 4 ∷ []
  pub next : t.next ≡ 8

-- the greater count of the leader is known, and the count of retries is 0 again
pub record IsLearnt (count : ℕ) (t : Task) : Type 0 where
  pub known : t.known ≡ count
  pub retry : t.retry ≡ 0

pub record TakesReplies : Type 0 where
  pub less : BringsLess (after_reply last asked 21 (op 5 ∷ op 6 ∷ []))
  pub more : BringsMore (after_reply last asked 21 (op 5 ∷ op 6 ∷ op 7 ∷ op 8 ∷ op 9 ∷ []))
  pub asked_for : BringsAskedFor (after_reply first asked 21 (op 5 ∷ op 6 ∷ op 7 ∷ op 8 ∷ op 9 ∷ []))
  pub nothing : BringsNothing (after_reply last asked 21 [])
  pub greater : IsLearnt 21 (after_reply last asked 21 (op 5 ∷ []))
  pub smaller : IsLearnt 20 (after_reply last asked 19 (op 5 ∷ []))
