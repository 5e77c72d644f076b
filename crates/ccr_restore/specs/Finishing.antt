-- When a bootstrap is complete, and what it has restored.
use Rattle.std.specs.Prelude.{◌≡◌, ℕ, Bool, true, false, List, length}
use Rattle.std.specs.List.{AllByRecursion, range_with_len}
use Rattle.ccr_op.specs.Operation.{Operation}
use Rattle.ccr_segment.specs.Segment.{HasSpelling, spelling}
use Rattle.ccr_model.specs.Restores.{Restore, Stage, leasing, opening, fetching, Fetch, is_complete, file_bytes, files_of}
use Rattle.ccr_segment.specs.declared.restored.Restored.{Restored}

-- all parts of the files are there
abbrev pub has_all : Restore → Bool
has_all s = elim s.stage as (λ _. Bool) [
  | leasing a ↦ false
  | opening a ↦ false
  | fetching f ↦ is_complete s.chunk_size f
]

-- the bytes spell a segment
pub record IsSpelled (bytes : List ℕ) : Type 0 where
  pub ops : List Operation
  pub fits : HasSpelling ops
  pub is : bytes ≡ spelling ops

-- the bytes of each file spell a segment
abbrev pub AreSpelled : ℕ → Fetch → Type 0
AreSpelled chunk_size f = AllByRecursion (λ (file : ℕ). IsSpelled (file_bytes chunk_size f file)) (range_with_len 0 (length f.sizes))

-- the bootstrap is complete, and its files are segments
abbrev pub IsFinished : ℕ → Stage → Type 0
IsFinished chunk_size (leasing a) = ⊥
IsFinished chunk_size (opening a) = ⊥
IsFinished chunk_size (fetching f) = (is_complete chunk_size f ≡ true) × AreSpelled chunk_size f

-- the session's count, its history, and the operations of its files
abbrev pub IsRestored : ℕ → Stage → Restored → Type 0
IsRestored chunk_size (leasing a) r = ⊥
IsRestored chunk_size (opening a) r = ⊥
IsRestored chunk_size (fetching f) r = r ≡ record { count = f.count; history = f.history; files = files_of chunk_size f }
