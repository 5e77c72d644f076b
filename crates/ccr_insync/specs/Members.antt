-- The copies of an in-sync set, a list that ascends by their numbers.
use Rattle.std.specs.Prelude.{ℕ, ◌+◌, ◌≤◌, ◌==◌, true, false, not, min, List, [], ◌∷◌, map, find, filter, Option, unwrap_or, if◌then◌else◌}
use Rattle.std.specs.List.{reduce}
use Rattle.ccr_insync.specs.declared.Member.{Member}

-- the copy of that number
abbrev pub member_of : List Member → ℕ → Option Member
member_of members copy = find (λ m. m.copy == copy) members

-- the least known count of the copies
abbrev pub least_known : List Member → ℕ
least_known members = unwrap_or (reduce min (map (λ m. m.known) members)) 0

-- a copy that waits for nothing
abbrev pub in_step : ℕ → ℕ → Member
in_step copy count = record { copy = copy; known = count; is_resynced = true; is_acked = true }

-- each copy, where the one of that number has this known count and has acked in this term
abbrev pub as_acked : ℕ → ℕ → Member → Member
as_acked copy count m = if m.copy == copy then record m { known = count; is_acked = true } else m

-- each copy, where the one of that number is resynced
abbrev pub as_resynced : ℕ → Member → Member
as_resynced copy m = if m.copy == copy then record m { is_resynced = true } else m

-- each copy as a term begins: of all but the new primary nothing is known
abbrev pub as_term_begins : ℕ → ℕ → Member → Member
as_term_begins primary count m =
    if m.copy == primary then in_step m.copy count
    else record { copy = m.copy; known = 0; is_resynced = false; is_acked = false }

-- the copies but the one of that number
abbrev pub without : ℕ → List Member → List Member
without copy members = filter (λ m. not (m.copy == copy)) members

-- the copies' numbers ascend from `low` on, all below `next`
abbrev pub AscendWithin : ℕ → ℕ → List Member → Type 0
AscendWithin low next [] = low ≤ next
AscendWithin low next (m ∷ ms) = (low ≤ m.copy) × AscendWithin (m.copy + 1) next ms
