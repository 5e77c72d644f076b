-- Places among reads in the order of their request numbers, and the earlier of two times.
use Rattle.std.specs.Prelude.{ℕ, suc, ◌&&◌, ◌==◌, nat_lt, min, if◌then◌else◌, List, [], ◌∷◌, length, filter, Option, Some, None}
use Rattle.ccr_model.specs.Requests.{is_sent}
use Rattle.ccr_model.specs.Tasks.{Read}

-- the place of the first read of a greater request number, or the end
abbrev pub place_after : ℕ → List Read → ℕ
place_after request [] = 0
place_after request (r ∷ reads) = if nat_lt request r.request then 0 else suc (place_after request reads)

-- so many sent reads have this request number
abbrev pub sent_under : ℕ → List Read → ℕ
sent_under request reads = length (filter (λ (r : Read). is_sent r.progress && (r.request == request)) reads)

-- the earlier of two times, of which any may be missing
abbrev pub earlier : Option ℕ → Option ℕ → Option ℕ
earlier None b = b
earlier (Some a) None = Some a
earlier (Some a) (Some b) = Some (min a b)
